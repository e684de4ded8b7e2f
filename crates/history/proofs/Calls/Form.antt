-- Form: refused, cut before word 3, cut after it, or done. Once word 3 is stored recovery gives the formed record, so the session counts as formed.
use mathlib.Core.Bool.{Bool, true, false, not, cond}
use mathlib.Core.Logic.{◌⊎◌, inl, inr, ⊎_elim}
use mathlib.Core.Path.{◌≡◌, refl, sym, ap, subst, ◌∙◌}
use mathlib.Core.List.Memᴰ
use mathlib.Core.List.{List, [], ◌∷◌, ◌++◌, append-nil}
use Prim.Native.Nat.{ℕ, zero, suc, ◌<◌, ◌-◌}
use native.Mathlib.Omega.{arith}
use lib.Dec.{eqb, leb}
use lib.ListN.{length}
use borrow.Author.Tests.{eqb-true, eqb-false, eq-eqb, ne_eqb, le-leb}
use Rattle.loops.proofs.Laws.Truth.{and_both, not-both, passes-or-fails}
use Rattle.loops.proofs.Laws.Order.{lt-or-ge}
use Rattle.group.specs.Answers.{formed, cut}
use Rattle.group.specs.Heads.{has}
use Rattle.group.specs.Words.{heads, num, rank}
use Rattle.group.proofs.Laws.Words.{heads-session, rank-some, has-heads}
use Rattle.store.specs.Desk.{Store, desk, budget, apply}
use Rattle.store.specs.Program.{exec, after}
use Rattle.store.specs.Changes.{begun}
use Rattle.store.proofs.Laws.Program.{exec-take, after_one}
use Rattle.record.specs.Layout.{settings, own, entered, number, formed_for, place_at, primary}
use Rattle.record.specs.Whole.{whole}
use Rattle.record.proofs.Laws.Whole.{whole_length, whole_parts, place-number}
use Rattle.recovery.specs.Recover.{mended}
use Rattle.recovery.specs.Changes.{past}
use Rattle.recovery.proofs.Laws.Mended.{mended-reads}
use Rattle.recovery.proofs.Laws.Still.{mended-whole}
use Rattle.plan.specs.Form.{view_session, form_step, form_changes}
use Rattle.plan.specs.Statements.{Forming}
use Rattle.plan.proofs.Laws.Adoption.{has-zero}
use Rattle.plan.proofs.Laws.Form.{view-number, forming-used, formed-reads, form-cut, form-whole}
use Rattle.head.specs.declared.session.Session.{Session}
use Rattle.head.specs.Session.{no_session, at_stage}
use Rattle.head.specs.Refusals.{form_refusal}
use Rattle.head.specs.Calls.{Ended, refuses, form_spec}
use Rattle.head.proofs.Laws.Refusals.{MayForm, may-form}
use Rattle.calls.proofs.Laws.Kept.{form-given, form-fits, at-stage-sized}
use Rattle.chain.specs.Model.{Group}
use Rattle.chain.specs.Words.{guard, sess, Member, Here, Forms}
use Rattle.chain.specs.World.{Phase.trying as trying, Phase.primary as prime, Session as Heard, gone, live, Goes, loses, rests, then, Reached, does}
use Rattle.chain.proofs.Laws.Words.{guard-in, guard_out}
use Rattle.chain.proofs.Laws.Calls.{forms-to}
use Rattle.history.specs.Setting.{Setting}
use Rattle.history.specs.Statement.{Head, running, World, form, newly, forms}
use Rattle.history.proofs.Abstraction.{rec_of, heard_of, vol_by, vol_of, head_rec, head_vol, world_of}
use Rattle.history.proofs.Invariant.{Reading, Live, Runs, none-gone, moved, put-here, moved-frame, moved-quiet, Many, many-reached}
use Rattle.history.proofs.Calls.Begun.{none-begun}
use Rattle.history.proofs.Calls.Ends.{refusal-elim, stores-elim, exec-long, Kept, stays, lost-ok, cut_ok}
use Rattle.history.proofs.Calls.Going.{goes_on, members-here, member-has, has-member}

-- ---- the record formed

module _ (S : Setting) (p : ℕ) (r : List ℕ) (s : Session) (i : Runs S p r s) (a : MayForm s r) where
  pub form-live : Live S r s
  form-live = goes_on S p r s i (λ z. let q : ◌≡◌ {A = ℕ} 3 0 = sym a.attempted ∙ z in omega arith)

  pub is-forming : Forming s.members r
  is-forming = form-given s r form-live.good form-live.fitting form-live.sized a.attempted

  abbrev w : ℕ
  w = view_session s.members r

  abbrev y : List ℕ
  y = after (form_step s.members ∷ []) r

  formed-whole : whole y ≡ true
  formed-whole = form-whole s.members r is-forming

  formed-settings : settings y ≡ settings r
  formed-settings = (formed-reads s.members r is-forming).settings-is

  -- recovered after one store or more
  form-mends : (k : ℕ) → mended (exec (form_step s.members ∷ []) (desk r (budget (suc k)))).rec ≡ y
  unfolding form_changes begun
  form-mends k =
      form-cut s.members r (suc k) is-forming
      ∙ ap (λ (c : List Store). apply c r) (ap (λ (c : List Store). form_step s.members r ++ c) (none-begun (suc k - length (form_step s.members r))) ∙ append-nil (form_step s.members r))
      ∙ sym (after_one (form_step s.members) r)

  form-none : (exec (form_step s.members ∷ []) (desk r (budget 0))).rec ≡ r
  unfolding apply
  form-none = exec-take (form_step s.members ∷ []) 0 r

  w-heads : heads w ≡ s.members
  unfolding view_session
  w-heads = heads-session (number r) s.members form-live.sized.members

  w-number : num w ≡ number r
  w-number = view-number s.members r form-live.sized.members

  w-some : w ≡ 0 → ⊥
  w-some = has-zero w (own r) (forming-used s.members r is-forming).mine

  place-cleared : (j : ℕ) → j < 16 → place_at y j ≡ 0
  unfolding past
  place-cleared j l =
      (formed-reads s.members r is-forming).place_is j l
      ∙ ⊎_elim (λ e. rw (eqb-true (place_at r j) 0 e))
      (λ e.
      let n = eqb-false (place_at r j) 0 e in
      ap (λ (b : Bool). cond b 0 (place_at r j))
      (and_both (not (eqb (place_at r j) 0)) (leb (rank (place_at r j)) (rank w)) (ap not e)
      (le-leb (rank (place_at r j)) (rank w) (omega (arith, rank-some (place_at r j) n, rank-some w w-some, w-number, place-number r (whole_parts r form-live.good) j l)))))
      (passes-or-fails (eqb (place_at r j) 0))

  live-formed : Live S y (at_stage s 4)
  unfolding at_stage
  live-formed = record {
    good = formed-whole;
    fitting = form-fits s r form-live.good form-live.fitting form-live.sized a.attempted a.all-heard;
    same = form-live.same;
    sized = at-stage-sized s 4 form-live.sized;
  }

  module _ (G : Group) (R : Reading S G) where
    sess-is : sess w ≡ Here G (rec_of r) (number r)
    sess-is =
        let h : heads w ≡ G.members (entered r) = w-heads ∙ sym (members-here S r s form-live G R) in
        rw (h, w-number)

    has-w : (x : ℕ) → x < 16 → has w x ≡ has s.members x
    has-w x h = sym (has-heads w x h) ∙ ap (λ (t : ℕ). has t x) w-heads

    abbrev Last : ℕ → Type 0
    Last x = ((guard (formed_for y) x ≡ w) × Member G (rec_of r) x) ⊎ ((guard (formed_for y) x ≡ guard (formed_for r) x) × ¬ (Member G (rec_of r) x))

    last-in : (x : ℕ) → x < 16 → (b : Bool) → has w x ≡ b → Last x
    last-in x h b e = go b e (guard-in (formed_for y) x h ∙ (formed-reads s.members r is-forming).formed-is x h ∙ ap (λ (c : Bool). cond c w (formed_for r x)) e)
      where
        go : (b : Bool) → has w x ≡ b → guard (formed_for y) x ≡ cond b w (formed_for r x) → Last x
        go true e t = inl (t, has-member S r s form-live G R x (sym (has-w x h) ∙ e))
        go false e t = inr (t ∙ sym (guard-in (formed_for r) x h), λ j. not-both (has w x) (has-w x h ∙ (member-has S r s form-live G R x j).1) e)

    last : (x : ℕ) → Last x
    last x =
        ⊎_elim (λ h. last-in x h (has w x) refl)
        (λ g. inr (guard_out (formed_for y) x g ∙ sym (guard_out (formed_for r) x g), λ j. let l = (member-has S r s form-live G R x j).0 in omega arith))
        (lt-or-ge x 16)

    -- FORM BY WORDS
    forms-are : Forms G (rec_of r) (rec_of y)
    forms-are = record {
      word = w;
      is = record { some = w-some; set = w-heads ∙ sym (members-here S r s form-live G R); number = w-number };
      view = (formed-reads s.members r is-forming).entered-is;
      num = (formed-reads s.members r is-forming).number_is;
      prim = (formed-reads s.members r is-forming).primary-is;
      formed = last;
      place = place-cleared;
    }

-- ---- the call

-- what the call shows of the world: head p has the words x and the session s', and L are the formed sessions
pub record Ends (S : Setting) (G : Group) (p : ℕ) (W : World) (o : Ended) (L : List ℕ) : Type 1 where
  pub reached : Reached G (world_of S (moved p (running o.words o.session) W.sent L W))
  pub ok : Runs S p o.words o.session

module _ (S : Setting) (G : Group) (R : Reading S G) (p : ℕ) (W : World) (r : List ℕ) (s : Session) (at : W.head p ≡ running r s) (i : Runs S p r s) (k : Reached G (world_of S W)) where
  kept-ends : (o : Ended) → Kept S G p W.sent (running r s) (running o.words o.session) → Ends S G p W o W.formed
  kept-ends o t = record {
    reached = many-reached S G p W (running o.words o.session) (subst (λ (h : Head). Many S G p W.sent h (running o.words o.session)) (sym at) t.moves) k;
    ok = t.ok;
  }

  module _ (a : MayForm s r) where
    abbrev w' : ℕ
    w' = view_session s.members r

    abbrev y' : List ℕ
    y' = after (form_step s.members ∷ []) r

    goes-formed : Goes (heard_of p trying s) (heard_of p prime (at_stage s 4))
    unfolding at_stage
    goes-formed = record { said = λ x. refl; states = λ x t. t; attempts = λ x t. t }

    -- word 3 is stored: x recovers as the formed record
    formed-reached : (x : List ℕ) (s' : Session) → mended x ≡ y' → (vol_of p s' ≡ gone) ⊎ ((σ' : Heard) × (vol_of p s' ≡ live σ') × (σ'.phase ≡ prime) × Goes (heard_of p trying s) σ')
        → Reached G (world_of S (moved p (running x s') W.sent (w' ∷ W.formed) W))
    unfolding world_of
    formed-reached x s' e o =
        let v = form-live S p r s i a in
        let h : Head = running x s' in
        let here = put-here p h W.head in
        does p k (forms-to G (rec_of r) (rec_of y') (heard_of p trying s)
        (ap (λ (z : Head). head_rec S p z) at ∙ ap rec_of (mended-whole r v.good))
        (ap (λ (z : Head). head_rec S p z) here ∙ ap rec_of e)
        (moved-frame S G p h W.sent (w' ∷ W.formed) W) (moved-quiet S G p h (w' ∷ W.formed) W)
        (ap (λ (z : Head). head_vol p z) at ∙ ap (λ (n : ℕ). vol_by n p s) a.attempted) refl
        (λ q j n. (n, (member-has S r s v G R q j).0, ap (λ (t : ℕ). has t q) a.all-heard ∙ (member-has S r s v G R q j).1))
        (forms-are S p r s i a G R)
        (λ F (u, d, t). ⊎_elim (λ z. inl (t ∙ ap sess z ∙ sess-is S p r s i a G R)) (λ z. inr (u, z, t)) (Memᴰ.cases_cons d))
        (λ F (u, d, t). (u, Memᴰ.tail d, t))
        (w', Memᴰ.head refl, sym (sess-is S p r s i a G R))
        (⊎_elim (λ g. inl (ap (λ (z : Head). head_vol p z) here ∙ g)) (λ (σ', g, f, t). inr (σ', ap (λ (z : Head). head_vol p z) here ∙ g, f, t)) o))

    formed-vol : vol_of p (at_stage s 4) ≡ live (heard_of p prime (at_stage s 4))
    unfolding at_stage
    formed-vol = refl

    -- no store: nothing is formed
    none-stored : Kept S G p W.sent (running r s) (running r no_session)
    none-stored = record { moves = then rests (loses refl (none-gone p)); ok = lost-ok S p r s i }

    -- a store or more: word 3 is stored, and the call is cut after it or done
    cut-after : (n : ℕ) → Ends S G p W (record { answer = cut; words = (exec (form_step s.members ∷ []) (desk r (budget (suc n)))).rec; session = no_session }) (w' ∷ W.formed)
    cut-after n = record {
      reached = formed-reached _ no_session (form-mends S p r s i a n) (inl (none-gone p));
      ok = cut_ok S p r _ y' s i (exec-long (form_step s.members ∷ []) r (suc n) ∙ i.long) (form-mends S p r s i a n) (formed-whole S p r s i a) (formed-settings S p r s i a);
    }

    done : Ends S G p W (record { answer = formed; words = y'; session = at_stage s 4 }) (w' ∷ W.formed)
    done =
        let e = mended-whole y' (formed-whole S p r s i a) in
        record {
          reached = formed-reached y' (at_stage s 4) e (inr (heard_of p prime (at_stage s 4), formed-vol, refl, goes-formed));
          ok = record {
            seat = i.seat;
            long = whole_length y' (formed-whole S p r s i a);
            group = formed-settings S p r s i a ∙ i.group;
            sound = ap whole e ∙ formed-whole S p r s i a;
            session = inr (live-formed S p r s i a);
          };
        }

    -- word 3 of a record that recovers as the formed one
    third : (x : List ℕ) → length x ≡ 52 → mended x ≡ y' → primary x ≡ w'
    third x l e = sym (mended-reads x l).primary-is ∙ ap primary e ∙ (formed-reads s.members r (is-forming S p r s i a)).primary-is

    changed-third : w' ≡ primary r → ⊥
    changed-third z = let l = (forming-used s.members r (is-forming S p r s i a)).above in omega (arith, ap rank z)

  -- the formed sessions by word 3 of what the call left
  abbrev By : Ended → Type 1
  By o = Ends S G p W o (newly (primary r) (primary o.words) ++ W.formed)

  by-same : (o : Ended) → primary o.words ≡ primary r → Ends S G p W o W.formed → By o
  by-same o e t = subst (λ (b : Bool). Ends S G p W o (cond b [] (primary o.words ∷ []) ++ W.formed)) (sym (eq-eqb (primary o.words) (primary r) e)) t

  by-new : (o : Ended) (w : ℕ) → primary o.words ≡ w → (w ≡ primary r → ⊥) → Ends S G p W o (w ∷ W.formed) → By o
  by-new o w e n t =
      subst (λ (b : Bool). Ends S G p W o (cond b [] (primary o.words ∷ []) ++ W.formed)) (sym (ne_eqb (primary o.words) (primary r) (λ z. n (sym e ∙ z))))
      (subst (λ (v : ℕ). Ends S G p W o (v ∷ W.formed)) (sym e) t)

  cut_by : MayForm s r → (n : ℕ) → By (record { answer = cut; words = (exec (form_step s.members ∷ []) (desk r (budget n))).rec; session = no_session })
  cut_by a zero =
      subst (λ (x : List ℕ). By (record { answer = cut; words = x; session = no_session })) (sym (form-none S p r s i a))
      (by-same (record { answer = cut; words = r; session = no_session }) refl (kept-ends _ (none-stored a)))
  cut_by a (suc n) =
      by-new _ (view_session s.members r) (third a _ (exec-long (form_step s.members ∷ []) r (suc n) ∙ i.long) (form-mends S p r s i a n)) (changed-third a) (cut-after a n)

  done-by : MayForm s r → By (record { answer = formed; words = after (form_step s.members ∷ []) r; session = at_stage s 4 })
  done-by a =
      let g = formed-whole S p r s i a in
      let y = after (form_step s.members ∷ []) r in
      by-new (record { answer = formed; words = y; session = at_stage s 4 }) (view_session s.members r) (third a y (whole_length y g) (mended-whole y g)) (changed-third a) (done a)

  -- FORM
  pub form-ends : (n : ℕ) → Ends S G p W (form_spec s r n) (forms form n r s ++ W.formed)
  unfolding form_spec
  form-ends n =
      refusal-elim By (form_refusal s r) _ _
      (λ z. stores-elim By (form_step s.members ∷ []) r n formed (at_stage s 4) (λ h. cut_by (may-form s r z) n) (λ h. done-by (may-form s r z)))
      (by-same (refuses (form_refusal s r) r s) refl (kept-ends _ (stays S G p W.sent r s i)))
