-- Decide, with any budget: wherever it is cut, what was stored is marks, perhaps an adoption, clearings and perhaps the attempt, in that order.
use mathlib.Core.Bool.{Bool, true, false, cond}
use mathlib.Core.Logic.{◌⊎◌, inl, inr, ⊎_elim}
use mathlib.Core.Path.{◌≡◌, refl, sym, ap, subst, ◌∙◌}
use mathlib.Core.List.{List, [], ◌∷◌}
use Prim.Native.Nat.{ℕ}
use native.Mathlib.Omega.{arith}
use lib.ListN.{length}
use Rattle.loops.proofs.Laws.Truth.{passes-or-fails}
use Rattle.group.specs.Heads.{has}
use Rattle.store.specs.Desk.{desk, budget, apply}
use Rattle.store.specs.Program.{Step, exec, after, up_to}
use Rattle.store.proofs.Laws.Script.{apply-length}
use Rattle.store.proofs.Laws.Program.{after-append, after_one}
use Rattle.record.specs.Layout.{settings}
use Rattle.record.specs.Whole.{whole}
use Rattle.recovery.specs.Recover.{mended}
use Rattle.recovery.specs.Changes.{adopt_change, attempt_change}
use Rattle.recovery.proofs.Laws.Still.{mended-whole}
use Rattle.recovery.proofs.Laws.Sounds.{sounds-begun}
use Rattle.state.specs.declared.Held.{Held}
use Rattle.plan.specs.Marks.{mark_step}
use Rattle.plan.specs.Adoption.{best_offer, adopts, adopt_step}
use Rattle.plan.specs.Clearing.{clear_step}
use Rattle.plan.specs.Attempt.{lowest_free, attempts, attempt_session, attempt_step}
use Rattle.plan.specs.Decide.{learning, after_c, decide_program, decide_answer, decide_changes}
use Rattle.plan.specs.Statements.{Given}
use Rattle.plan.proofs.Laws.Decide.{learned, decide-sounds, decide-cut, decide-whole}
use Rattle.head.specs.declared.session.Session.{Session}
use Rattle.head.specs.Session.{no_session, at_stage}
use Rattle.head.specs.Refusals.{decide_refusal}
use Rattle.head.specs.Calls.{Ended, decided_stage, decide_spec}
use Rattle.head.proofs.Laws.Refusals.{MayDecide, may-decide}
use Rattle.calls.proofs.Laws.Kept.{decide-given, decide-fits, at-stage-sized}
use Rattle.chain.specs.Model.{Group}
use Rattle.chain.specs.Words.{Rec}
use Rattle.chain.specs.World.{Phase.undecided as undecided, Phase.closed as closed, Phase.trying as trying, Vol, gone, live, Decides, Turns}
use Rattle.chain.proofs.Laws.Calls.{phased, Part, Part.adopting as adopting, Part.staying as staying, decide-closes, decide-attempts, decide-cut as turns-cut, decide-cut-late}
use Rattle.history.specs.Setting.{Setting}
use Rattle.history.specs.Statement.{Sent, running}
use Rattle.history.proofs.Abstraction.{rec_of, heard_of, vol_by, vol_of, Wrote, Tried}
use Rattle.history.proofs.Invariant.{Reading, Live, Runs, group-core, group-least, none-gone}
use Rattle.history.proofs.Calls.Ends.{refusal-elim, stores-elim, exec-long, Kept, stays, cut_ok}
use Rattle.history.proofs.Calls.Going.{goes_on, own_is, members-here, member-has}
use Rattle.history.proofs.Calls.Begun.{cut_at, after_first, cut-changes, cut-append, cut-first, cut-none, AllKeep, keep-up_to, cut_keeps, after-keeps}
use Rattle.history.proofs.Calls.Learn.{said_in, Within, Alike, still-within, Marking, marking-start, marking_step, Clearing, clearing-start, clearing-step, marks-are, adopted-alike, adopts-are, clears-are}
use Rattle.history.proofs.Calls.Attempt.{weighs, weighs-other, weighs-self, attempt-reads, attempts-are}

alike-after : (a b c : List ℕ) → Alike a b → Alike b c → Alike a c
alike-after a b c s t = record { long = t.long; settings-is = t.settings-is ∙ s.settings-is; entered-is = t.entered-is ∙ s.entered-is }

-- ---- a to c, as far as they came

module _ (S : Setting) (G : Group) (R : Reading S G) (p m : ℕ) (held : Held) (r : List ℕ) (w : Within S G p m r) where
  -- x is the record after some of a to c
  pub record Learned (x : List ℕ) : Type 0 where
    pub one : List ℕ
    pub two : List ℕ
    pub part : Part G p (said_in held) (rec_of r) (rec_of one) (rec_of two) (rec_of x)
    pub alike : Alike r x

  marked : (x : List ℕ) → Marking m held r x → Learned x
  marked x k =
      let wx = still-within S G p m r x w k.alike in
      record {
        one = x;
        two = x;
        part = staying (marks-are S G R p m held r w x k) refl (clears-are S G R p m held x wx x (clearing-start m held x k.alike.long));
        alike = k.alike;
      }

  -- after all marks, with the adoption or without
  adopted-step : (a : List ℕ) → adopts m held a ≡ true → apply (adopt_step m held a) a ≡ apply (adopt_change a (best_offer m held a)) a
  unfolding adopt_step
  adopted-step a e = rw e

  unadopted-step : (a : List ℕ) → adopts m held a ≡ false → apply (adopt_step m held a) a ≡ a
  unfolding adopt_step apply
  unadopted-step a e = rw e

  cleared : (a x : List ℕ) → Marking m held r a → Clearing m held (apply (adopt_step m held a) a) x → Learned x
  cleared a x k c =
      let wa = still-within S G p m r a w k.alike in
      ⊎_elim
      (λ e.
      let b = apply (adopt_change a (best_offer m held a)) a in
      let al = adopted-alike S G R p m held a wa e in
      let wb = still-within S G p m a b wa al in
      let c' = subst (λ (z : List ℕ). Clearing m held z x) (adopted-step a e) c in
      record {
        one = a;
        two = b;
        part = adopting (marks-are S G R p m held r w a k) (adopts-are S G R p m held a wa e) (clears-are S G R p m held b wb x c');
        alike = alike-after r b x (alike-after r a b k.alike al) c'.alike;
      })
      (λ e.
      let c' = subst (λ (z : List ℕ). Clearing m held z x) (unadopted-step a e) c in
      record {
        one = a;
        two = a;
        part = staying (marks-are S G R p m held r w a k) refl (clears-are S G R p m held a wa x c');
        alike = alike-after r a x k.alike c'.alike;
      })
      (passes-or-fails (adopts m held a))

  abbrev marking : List Step
  marking = up_to 16 (mark_step m held)

  abbrev clearing : List Step
  clearing = up_to 16 (clear_step m held)

  abbrev one : List ℕ
  one = after marking r

  abbrev two : List ℕ
  two = apply (adopt_step m held one) one

  all-marked : Marking m held r one
  all-marked = after-keeps marking r (keep-up_to (mark_step m held) 16 (marking_step m held r)) (marking-start m held r w.long)

  two-long : length two ≡ 52
  two-long = apply-length (adopt_step m held one) one ∙ all-marked.alike.long

  keeps-clearing : AllKeep (Clearing m held two) clearing
  keeps-clearing = keep-up_to (clear_step m held) 16 (clearing-step m held two)

  -- A TO C, CUT ANYWHERE
  learning-cut : (k : ℕ) → Learned (cut_at k (learning m held) r)
  unfolding learning
  learning-cut k =
      ⊎_elim
      (λ e. subst Learned (sym e) (marked _ (cut_keeps marking r k (keep-up_to (mark_step m held) 16 (marking_step m held r)) (marking-start m held r w.long))))
      (λ (j, e).
      ⊎_elim (λ f. subst Learned (sym (e ∙ f)) (marked one all-marked))
      (λ (n, f). subst Learned (sym (e ∙ f)) (cleared one _ all-marked (cut_keeps clearing two n keeps-clearing (clearing-start m held two two-long))))
      (cut-first (adopt_step m held) clearing one j))
      (cut-append marking (adopt_step m held ∷ clearing) r k)

  -- ALL OF A TO C
  pub all-learned : Learned (after_c m held r)
  unfolding after_c learning
  all-learned =
      subst Learned (sym (after-append marking (adopt_step m held ∷ clearing) r ∙ after_first (adopt_step m held) clearing one))
      (cleared one _ all-marked (after-keeps clearing two keeps-clearing (clearing-start m held two two-long)))

  -- ---- the attempt

  abbrev three : List ℕ
  three = after_c m held r

  abbrev attempted : List ℕ
  attempted = apply (attempt_change (lowest_free three) (attempt_session m held three)) three

  attempt-step : attempts m held three ≡ true → apply (attempt_step m held three) three ≡ attempted
  unfolding attempt_step
  attempt-step e = rw e

  no-attempt-step : attempts m held three ≡ false → apply (attempt_step m held three) three ≡ three
  unfolding attempt_step apply
  no-attempt-step e = rw e

  -- DECIDE, CUT ANYWHERE: some of a to c, or all of them and the attempt
  pub decide-parts : (k : ℕ) → (Learned (cut_at k (decide_program m held) r)) ⊎ ((attempts m held three ≡ true) × (cut_at k (decide_program m held) r ≡ attempted))
  unfolding decide_program after_c
  decide-parts k =
      ⊎_elim (λ e. inl (subst Learned (sym e) (learning-cut k)))
      (λ (j, e).
      ⊎_elim (λ f. inl (subst Learned (sym (e ∙ f)) all-learned))
      (λ (n, f).
      let g = e ∙ f ∙ cut-none (apply (attempt_step m held three) three) n in
      ⊎_elim (λ t. inr (t, g ∙ attempt-step t)) (λ t. inl (subst Learned (sym (g ∙ no-attempt-step t)) all-learned)) (passes-or-fails (attempts m held three)))
      (cut-first (attempt_step m held) [] three j))
      (cut-append (learning m held) (attempt_step m held ∷ []) r k)

  -- DECIDE, NOT CUT
  pub decide-ends : after (decide_program m held) r ≡ apply (attempt_step m held three) three
  unfolding decide_program after_c
  decide-ends = after-append (learning m held) (attempt_step m held ∷ []) r ∙ after_one (attempt_step m held) three

-- ---- the call

module _ (S : Setting) (G : Group) (R : Reading S G) (p : ℕ) (L : List Sent) (r : List ℕ) (s : Session) (i : Runs S p r s) (a : MayDecide s r) where
  deciding : Live S r s
  deciding = goes_on S p r s i (λ z. let q : ◌≡◌ {A = ℕ} 1 0 = sym a.undecided ∙ z in omega arith)

  within : Within S G p s.members r
  within = record {
    seat = i.seat;
    small = deciding.sized.members;
    mine = own_is S p r s i;
    here = members-here S r s deciding G R;
    long = i.long;
    core_is = group-core S p r i.seat i.group;
    least-is = group-least S p r i.seat i.group;
  }

  heard : (q : ℕ) → has s.members q ≡ true → has s.states q ≡ true
  heard q h = ap (λ (t : ℕ). has t q) a.all-heard ∙ h

  pub given_to : Given s.members s.held r
  given_to = decide-given s r deciding.good deciding.fitting deciding.sized a.all-heard

  decides : Decides G p (rec_of r) (vol_of p s) (heard_of p undecided s)
  decides = record {
    session = ap (λ (n : ℕ). vol_by n p s) a.undecided;
    phase = inl refl;
    all = λ x j n. let (l, h) = member-has S r s deciding G R x j in (n, l, heard x h);
  }

  abbrev Goes : Rec → Vol → Type 1
  Goes z v = Turns G p (Wrote L) (Tried L) (rec_of r) (vol_of p s) z v

  -- the call's steps lead to the record that x recovers to
  leads : (x z : List ℕ) (s' : Session) (v : Vol) → mended x ≡ z → vol_of p s' ≡ v → Goes (rec_of z) v
      → Turns G p (Wrote L) (Tried L) (rec_of (mended r)) (vol_of p s) (rec_of (mended x)) (vol_of p s')
  leads x z s' v e f t =
      subst (λ (b : Rec). Turns G p (Wrote L) (Tried L) b (vol_of p s) (rec_of (mended x)) (vol_of p s')) (sym (ap rec_of (mended-whole r deciding.good)))
      (subst (λ (b : Rec). Goes b (vol_of p s')) (sym (ap rec_of e)) (subst (λ (b : Vol). Goes (rec_of z) b) (sym f) t))

  abbrev last : List ℕ
  last = after_c s.members s.held r

  abbrev done : List ℕ
  done = apply (attempt_change (lowest_free last) (attempt_session s.members s.held last)) last

  learned-all : Learned S G R p s.members s.held r within last
  learned-all = all-learned S G R p s.members s.held r within

  within-last : Within S G p s.members last
  within-last = still-within S G p s.members r last within learned-all.alike

  given-last : Given s.members s.held last
  given-last = (learned s.members s.held r given_to).given

  module _ (t : attempts s.members s.held last ≡ true) where
    tried-alike : Alike r done
    tried-alike =
        let u = attempt-reads S G R p s.members s.held last within-last given-last t in
        record {
          long = apply-length (attempt_change (lowest_free last) (attempt_session s.members s.held last)) last ∙ learned-all.alike.long;
          settings-is = u.settings-is ∙ learned-all.alike.settings-is;
          entered-is = u.entered-is ∙ learned-all.alike.entered-is;
        }

    tries : Goes (rec_of done) (live (phased trying (heard_of p undecided s)))
    tries =
        decide-attempts G decides learned-all.part (weighs p s.held last) (weighs-other p s.held last) (weighs-self p s.held last)
        (attempts-are S G R p s.members s.held last within-last given-last t)

    tries-cut : Goes (rec_of done) gone
    tries-cut =
        decide-cut-late G decides learned-all.part (weighs p s.held last) (weighs-other p s.held last) (weighs-self p s.held last)
        (attempts-are S G R p s.members s.held last within-last given-last t)

  abbrev program : List Step
  program = decide_program s.members s.held

  -- ---- cut

  cut-mends : (k : ℕ) → mended (exec program (desk r (budget k))).rec ≡ cut_at k program r
  unfolding decide_changes
  cut-mends k = decide-cut s.members s.held r k given_to ∙ cut-changes k program r

  cut-whole : (k : ℕ) → whole (cut_at k program r) ≡ true
  unfolding decide_changes
  cut-whole k = ap whole (sym (cut-changes k program r)) ∙ sounds-begun (decide_changes s.members s.held r) r k (decide-sounds s.members s.held r given_to)

  cut-kept : (k : ℕ) → Kept S G p L (running r s) (running (exec program (desk r (budget k))).rec no_session)
  cut-kept k =
      let x = (exec program (desk r (budget k))).rec in
      let z = cut_at k program r in
      let long : length x ≡ 52 = exec-long program r k ∙ i.long in
      ⊎_elim
      (λ k'. record {
        moves = leads x z no_session gone (cut-mends k) (none-gone p) (turns-cut G decides k'.part);
        ok = cut_ok S p r x z s i long (cut-mends k) (cut-whole k) k'.alike.settings-is;
      })
      (λ (t, e). record {
        moves = leads x done no_session gone (cut-mends k ∙ e) (none-gone p) (tries-cut t);
        ok = cut_ok S p r x z s i long (cut-mends k) (cut-whole k) (ap settings e ∙ (tried-alike t).settings-is);
      })
      (decide-parts S G R p s.members s.held r within k)

  -- ---- not cut

  abbrev end : List ℕ
  end = after program r

  end_whole : whole end ≡ true
  end_whole = decide-whole s.members s.held r given_to

  vol-closed : vol_of p (at_stage s 2) ≡ live (phased closed (heard_of p undecided s))
  unfolding at_stage
  vol-closed = refl

  vol-trying : vol_of p (at_stage s 3) ≡ live (phased trying (heard_of p undecided s))
  unfolding at_stage
  vol-trying = refl

  live_end : Live S end (at_stage s (decided_stage s r))
  unfolding at_stage
  live_end = record {
    good = end_whole;
    fitting = decide-fits s r deciding.good deciding.fitting deciding.sized a.all-heard;
    same = deciding.same;
    sized = at-stage-sized s (decided_stage s r) deciding.sized;
  }

  ended : (n : ℕ) (v : Vol) → decided_stage s r ≡ n → Alike r end → vol_of p (at_stage s n) ≡ v → Goes (rec_of end) v → Kept S G p L (running r s) (running end (at_stage s (decided_stage s r)))
  ended n v d al f t =
      let e = mended-whole end end_whole in
      record {
        moves = leads end end (at_stage s (decided_stage s r)) v e (ap (λ (j : ℕ). vol_of p (at_stage s j)) d ∙ f) t;
        ok = record { seat = i.seat; long = al.long; group = al.settings-is ∙ i.group; sound = ap whole e ∙ end_whole; session = inr live_end };
      }

  end-attempted : attempts s.members s.held last ≡ true → Kept S G p L (running r s) (running end (at_stage s (decided_stage s r)))
  unfolding decided_stage
  end-attempted t =
      let e : end ≡ done = decide-ends S G R p s.members s.held r within ∙ attempt-step S G R p s.members s.held r within t in
      ended 3 (live (phased trying (heard_of p undecided s))) (ap (λ (b : Bool). cond b 3 2) t) (subst (Alike r) (sym e) (tried-alike t)) vol-trying
      (subst (λ (y : List ℕ). Goes (rec_of y) (live (phased trying (heard_of p undecided s)))) (sym e) (tries t))

  end-closed : attempts s.members s.held last ≡ false → Kept S G p L (running r s) (running end (at_stage s (decided_stage s r)))
  unfolding decided_stage
  end-closed t =
      let e : end ≡ last = decide-ends S G R p s.members s.held r within ∙ no-attempt-step S G R p s.members s.held r within t in
      ended 2 (live (phased closed (heard_of p undecided s))) (ap (λ (b : Bool). cond b 3 2) t) (subst (Alike r) (sym e) learned-all.alike) vol-closed
      (subst (λ (y : List ℕ). Goes (rec_of y) (live (phased closed (heard_of p undecided s)))) (sym e) (decide-closes G decides learned-all.part))

  end_kept : Kept S G p L (running r s) (running end (at_stage s (decided_stage s r)))
  end_kept = ⊎_elim end-attempted end-closed (passes-or-fails (attempts s.members s.held last))

-- DECIDE
pub decide-kept : (S : Setting) (G : Group) (R : Reading S G) (p : ℕ) (L : List Sent) (r : List ℕ) (s : Session) → Runs S p r s → (k : ℕ)
    → Kept S G p L (running r s) (running (decide_spec s r k).words (decide_spec s r k).session)
unfolding decide_spec
decide-kept S G R p L r s i k =
    refusal-elim (λ (o : Ended). Kept S G p L (running r s) (running o.words o.session)) (decide_refusal s r) _ _
    (λ z.
    stores-elim (λ (o : Ended). Kept S G p L (running r s) (running o.words o.session)) (decide_program s.members s.held) r k (decide_answer s.members s.held r) (at_stage s (decided_stage s r))
    (λ h. cut-kept S G R p L r s i (may-decide s r z) k) (λ h. end_kept S G R p L r s i (may-decide s r z)))
    (stays S G p L r s i)
