-- Form is one change that recovery completes, where (M, word 2) is a used place; the attempt makes it one, and form makes it last primary.
use mathlib.Core.Path.{◌≡◌, sym, ap, subst, ◌∙◌}
use mathlib.Core.Bool.{true, cond}
use mathlib.Core.Logic.{⊎_elim}
use mathlib.Core.List.{List, [], ◌∷◌}
use Prim.Native.Nat.{ℕ, ◌+◌, ◌<◌}
use native.Mathlib.Omega.{arith}
use lib.ListN.{take}
use Rattle.group.specs.Heads.{has}
use Rattle.group.specs.Words.{num, session}
use Rattle.group.proofs.Laws.Words.{num-session}
use Rattle.store.specs.Desk.{Store, apply}
use Rattle.store.specs.Program.{after}
use Rattle.store.specs.Changes.{Change, step_stores}
use Rattle.store.proofs.Laws.Program.{exec-take, after_one, after-append}
use Rattle.store.proofs.Laws.Changes.{steps-script}
use Rattle.record.specs.Layout.{settings, entered, core, least, own, number, primary, formed_for, place_at, marks_at}
use Rattle.record.specs.Whole.{whole}
use Rattle.record.proofs.Laws.Layout.{Reads, changed, changed-here}
use Rattle.record.proofs.Laws.Whole.{Used, whole_parts, place-cases}
use Rattle.recovery.specs.Recover.{mended}
use Rattle.recovery.specs.Changes.{past, adopt_change, attempt_change}
use Rattle.recovery.specs.Statements.{Sound, Sounds}
use Rattle.recovery.proofs.Laws.Adopt.{adopted, form-adopts, form-sound}
use Rattle.recovery.proofs.Laws.Cut.{recovers-done}
use Rattle.recovery.proofs.Laws.Sounds.{sounds-one}
use Rattle.state.specs.declared.Held.{Held}
use Rattle.plan.specs.Attempt.{highest_number, lowest_free, attempts, attempt_session, attempt_step}
use Rattle.plan.specs.Decide.{learning, after_c, decide_program}
use Rattle.plan.specs.Form.{view_session, form_step, form_changes}
use Rattle.plan.specs.Statements.{Given, Forming, FormCut, FormWhole, AttemptPlaces, FormsPrimary}
use Rattle.plan.proofs.Laws.Adoption.{has-zero}
use Rattle.plan.proofs.Laws.Attempt.{attempts-place}
use Rattle.plan.proofs.Laws.After.{attempted-reads}
use Rattle.plan.proofs.Laws.Decide.{learned, decided, attempt-number}

-- ---- form

pub view-number : (m : ℕ) (r : List ℕ) → m < 65536 → num (view_session m r) ≡ number r
unfolding view_session
view-number m r h = num-session (number r) m h

module _ (m : ℕ) (r : List ℕ) (g : Forming m r) where
  -- the session formed is the used place's
  pub forming-used : Used (own r) (core r) (least r) (primary r) (number r) (view_session m r)
  unfolding view_session
  forming-used =
      ⊎_elim (λ z. absurd (has-zero m (own r) g.among (omega (arith, sym g.placed ∙ z))))
      (λ u. subst (Used (own r) (core r) (least r) (primary r) (number r)) g.placed u)
      (place-cases r g.place ((whole_parts r g.sound).places g.place g.below))

  pub form-step-sound : Sound r (form_step m r)
  unfolding form_step
  form-step-sound =
      let u = forming-used in form-sound r (view_session m r) g.sound u.form u.mine u.above (view-number m r g.members)

  -- THE CHANGE OF FORM
  pub form-sounds : Sounds (form_changes m r) r
  unfolding form_changes
  form-sounds = sounds-one (form_step m r) r form-step-sound

  -- the record after it, field by field
  pub formed-reads
      : Reads (after (form_step m ∷ []) r) (settings r) (entered r) (number r) (view_session m r) (λ q. cond (has (view_session m r) q) (view_session m r) (formed_for r q))
      (λ i. cond (past r (view_session m r) i) 0 (place_at r i)) (λ i. cond (past r (view_session m r) i) 0 (marks_at r i))
  unfolding form_step
  formed-reads =
      let w = view_session m r in
      let good = whole_parts r g.sound in
      let n = view-number m r g.members in
      let e : after (form_step m ∷ []) r ≡ apply (adopt_change r w) r = after_one (form_step m) r ∙ ap (λ (c : List Store). apply c r) (form-adopts r w good forming-used.above n) in
      let a = adopted r w good.long in
      rw e record {
        settings-is = a.settings-is;
        entered-is = a.entered-is;
        number_is = a.number_is ∙ omega arith;
        primary-is = a.primary-is;
        formed-is = a.formed-is;
        place_is = a.place_is;
        marks-is = a.marks-is;
      }

-- after form (M, word 2) is last primary
pub forms-primary : FormsPrimary
unfolding view_session
forms-primary m r g = let s = formed-reads m r g in s.primary-is ∙ ap (λ (n : ℕ). session n m) (sym s.number_is)

-- FORM CUT ANYWHERE: recovery gives the record after the change, if it has begun
pub form-cut : FormCut
unfolding form_changes step_stores
form-cut m r k g =
    ap mended (exec-take (form_step m ∷ []) k r ∙ ap (λ (a : List Store). apply (take k a) r) (sym (steps-script (form_step m ∷ []) r)))
    ∙ recovers-done (form_changes m r) r (form-sounds m r g) k

pub form-whole : FormWhole
form-whole m r g = ap whole (after_one (form_step m) r) ∙ (form-step-sound m r g).after

-- ---- after the attempt (M, word 2) is a used place

attempt-view : (m : ℕ) (held : Held) (x y : List ℕ) → number y ≡ highest_number m held x + 1 → attempt_session m held x ≡ view_session m y
unfolding attempt_session view_session
attempt-view m held x y e = ap (λ (n : ℕ). session n m) (sym e)

attempt-made : (m : ℕ) (held : Held) (x : List ℕ) → attempts m held x ≡ true → attempt_step m held x ≡ attempt_change (lowest_free x) (attempt_session m held x)
unfolding attempt_step
attempt-made m held x e = rw e

module _ (m : ℕ) (held : Held) (r : List ℕ) (g : Given m held r) (e : attempts m held (after_c m held r) ≡ true) where
  decide-after : after (decide_program m held) r ≡ apply (attempt_change (lowest_free (after_c m held r)) (attempt_session m held (after_c m held r))) (after_c m held r)
  unfolding decide_program after_c
  decide-after =
      let x = after (learning m held) r in
      after-append (learning m held) (attempt_step m held ∷ []) r ∙ after_one (attempt_step m held) x ∙ ap (λ (c : Change). apply c x) (attempt-made m held x e)

  placed : Forming m (after (decide_program m held) r)
  placed =
      let x = after_c m held r in
      let i = lowest_free x in
      let w = attempt_session m held x in
      let gx = (learned m held r g).given in
      let h = attempts-place m held x e in
      let y = after (decide_program m held) r in
      let gy = (decided m held r g).given in
      let reads = subst (λ (a : List ℕ). Reads a (settings x) (entered x) (num w) (primary x) (formed_for x) (changed i w (place_at x)) (marks_at x)) (sym decide-after) (attempted-reads x (whole_parts x gx.sound).long i h w) in
      record {
        sound = gy.sound;
        members = g.members;
        among = gy.among;
        place = i;
        below = h;
        placed = reads.place_is i h ∙ changed-here i w (place_at x) ∙ attempt-view m held x y (reads.number_is ∙ attempt-number m held x g.members);
      }

pub attempt-places : AttemptPlaces
attempt-places = placed
