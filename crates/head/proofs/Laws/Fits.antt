-- A session that fits a record, part by part and both ways: each test as the fact that it says.
use mathlib.Core.Bool.{true, not, ◌&&◌, ◌||◌}
use mathlib.Core.Logic.{⊎_elim}
use mathlib.Core.Path.{◌≡◌, sym, ap, ◌∙◌}
use mathlib.Core.List.{List}
use Prim.Native.Nat.{ℕ, ◌≤◌, ◌<◌}
use native.Mathlib.Omega.{arith}
use lib.Dec.{eqb, leb}
use lib.ListN.{length}
use borrow.Author.Tests.{eq-eqb, ne_eqb, eqb-true, eqb-false, leb-true, leb-false, le-leb, lt-leb}
use Rattle.loops.specs.Below.{all_below}
use Rattle.loops.proofs.Laws.Truth.{unless, or-unless, or-none, and_left, and_right, and_both, or_left, or_right, passes-or-fails, not-true, not-false}
use Rattle.loops.proofs.Laws.Tests.{all-at, all_of}
use Rattle.group.specs.Heads.{has, within, less, only}
use Rattle.group.proofs.Laws.Heads.{has-none, has-only, has-less, only-lt}
use Rattle.record.specs.Layout.{own, entered, primary}
use Rattle.record.specs.Whole.{whole}
use Rattle.record.proofs.Laws.Whole.{whole_length}
use Rattle.state.specs.Rules.{keeps_rules}
use Rattle.state.specs.declared.State.{State}
use Rattle.state.specs.declared.Held.{Held}
use Rattle.plan.specs.Members.{held_of}
use Rattle.plan.specs.Form.{view_session}
use Rattle.head.specs.declared.session.Session.{Session}
use Rattle.fitting.specs.Fits.{view_fits, heard_fits, state_fits, placed, stage_fits}
use Rattle.head.specs.Fits.{held_fits, fits, usable}

-- where nobody but own head was heard, no state is held
pub own-alone-fits : (states me : ℕ) (held : Held) → me < 16 → less states (only me) ≡ 0 → all_below 16 (λ q. state_fits states me q (held_of held q)) ≡ true
unfolding state_fits
own-alone-fits states me held l e =
    all_of 16 _
    (λ q h.
    or_left _ _
    (or-unless (not (has states q)) (eqb q me)
    (λ f.
    let others = sym (has-less states (only me) q (only-lt me l) h) ∙ ap (λ (s : ℕ). has s q) e ∙ has-none q in
    eq-eqb q me (sym (eqb-true me q (sym (has-only me q) ∙ not-false _ (rw (not-false (has states q) f) at others)))))))

pub usable-whole : (s : Session) (r : List ℕ) → usable s r ≡ true → whole r ≡ true
unfolding usable
usable-whole s r e = and_left (whole r) (fits s r) e

pub usable-fits : (s : Session) (r : List ℕ) → usable s r ≡ true → fits s r ≡ true
unfolding usable
usable-fits s r e = and_right (whole r) (fits s r) e

pub make-usable : (s : Session) (r : List ℕ) → whole r ≡ true → fits s r ≡ true → usable s r ≡ true
unfolding usable
make-usable s r e f = and_both (whole r) (fits s r) e f

pub usable_length : (s : Session) (r : List ℕ) → usable s r ≡ true → length r ≡ 52
usable_length s r e = whole_length r (usable-whole s r e)

-- ---- a session that is not none

pub record Fitting (s : Session) (r : List ℕ) : Type 0 where
  pub view : s.view ≡ entered r
  pub viewed : s.view ≡ 0 → ⊥
  pub mine : has s.members (own r) ≡ true
  pub states-within : within s.states s.members ≡ true
  pub attempts-within : within s.attempts s.members ≡ true
  pub own-state : has s.states (own r) ≡ true
  pub own-attempt : has s.attempts (own r) ≡ true
  pub kept : (q : ℕ) → q < 16 → has s.states q ≡ true → (q ≡ own r → ⊥) → keeps_rules (held_of s.held q) q ≡ true
  pub staged : s.stage ≤ 4
  pub decided : 1 < s.stage → s.states ≡ s.members
  pub attempted : s.stage ≡ 3 → placed s.members r ≡ true
  pub formed : s.stage ≡ 4 → primary r ≡ view_session s.members r
  pub heard_all : s.stage ≡ 4 → s.attempts ≡ s.members

state-kept : (states me q : ℕ) (st : State) → state_fits states me q st ≡ true → has states q ≡ true → (q ≡ me → ⊥) → keeps_rules st q ≡ true
unfolding state_fits
state-kept states me q st e h o =
    unless (not (has states q) || eqb q me) (keeps_rules st q) e (rw (h, ne_eqb q me o))

state-fits : (states me q : ℕ) (st : State) → (has states q ≡ true → (q ≡ me → ⊥) → keeps_rules st q ≡ true) → state_fits states me q st ≡ true
unfolding state_fits
state-fits states me q st f =
    or-unless (not (has states q) || eqb q me) (keeps_rules st q)
    (λ t.
    f (not-false _ (or-none (not (has states q)) (eqb q me) t).0) (eqb-false q me (or-none (not (has states q)) (eqb q me) t).1))

module _ (s : Session) (r : List ℕ) where
  pub none-fits : s.stage ≡ 0 → fits s r ≡ true
  unfolding fits
  none-fits z = or_left (eqb s.stage 0) _ (eq-eqb s.stage 0 z)

  pub fits-parts : fits s r ≡ true → (s.stage ≡ 0 → ⊥) → Fitting s r
  unfolding fits view_fits heard_fits held_fits stage_fits
  fits-parts e some =
      let v = view_fits s.view s.members r in
      let h = heard_fits s.members s.states s.attempts r in
      let k = all_below 16 (held_fits s r) in
      let g = stage_fits s.stage s.members s.states s.attempts r in
      let t = unless (eqb s.stage 0) (v && h && k && g) e (ne_eqb s.stage 0 some) in
      let vhk = and_left (v && h && k) g t in
      let vh = and_left (v && h) k vhk in
      let tv = and_left v h vh in
      let th = and_right v h vh in
      let tg = and_right (v && h && k) g t in
      let v₁ = eqb s.view (entered r) in
      let v₂ = not (eqb s.view 0) in
      let v₃ = has s.members (own r) in
      let tv₂ = and_left (v₁ && v₂) v₃ tv in
      let h₁ = within s.states s.members in
      let h₂ = within s.attempts s.members in
      let h₃ = has s.states (own r) in
      let h₄ = has s.attempts (own r) in
      let th₃ = and_left (h₁ && h₂ && h₃) h₄ th in
      let th₂ = and_left (h₁ && h₂) h₃ th₃ in
      let g₁ = leb s.stage 4 in
      let g₂ = leb s.stage 1 || eqb s.states s.members in
      let g₃ = not (eqb s.stage 3) || placed s.members r in
      let p = eqb (primary r) (view_session s.members r) in
      let a = eqb s.attempts s.members in
      let g₄ = not (eqb s.stage 4) || (p && a) in
      let tg₃ = and_left (g₁ && g₂ && g₃) g₄ tg in
      let tg₂ = and_left (g₁ && g₂) g₃ tg₃ in
      let final : s.stage ≡ 4 → (p && a) ≡ true = λ z. unless (not (eqb s.stage 4)) (p && a) (and_right (g₁ && g₂ && g₃) g₄ tg) (ap not (eq-eqb s.stage 4 z)) in
      record {
        view = eqb-true _ _ (and_left v₁ v₂ tv₂);
        viewed = eqb-false _ _ (not-true (eqb s.view 0) (and_right v₁ v₂ tv₂));
        mine = and_right (v₁ && v₂) v₃ tv;
        states-within = and_left h₁ h₂ th₂;
        attempts-within = and_right h₁ h₂ th₂;
        own-state = and_right (h₁ && h₂) h₃ th₃;
        own-attempt = and_right (h₁ && h₂ && h₃) h₄ th;
        kept = λ q l. state-kept s.states (own r) q (held_of s.held q) (all-at 16 _ (and_right (v && h) k vhk) q l);
        staged = leb-true _ _ (and_left g₁ g₂ tg₂);
        decided = λ l. eqb-true _ _ (unless (leb s.stage 1) _ (and_right g₁ g₂ tg₂) (lt-leb s.stage 1 l));
        attempted = λ z. unless (not (eqb s.stage 3)) (placed s.members r) (and_right (g₁ && g₂) g₃ tg₃) (ap not (eq-eqb s.stage 3 z));
        formed = λ z. eqb-true _ _ (and_left p a (final z));
        heard_all = λ z. eqb-true _ _ (and_right p a (final z));
      }

  pub make-fits : Fitting s r → fits s r ≡ true
  unfolding fits view_fits heard_fits held_fits stage_fits
  make-fits f =
      let when_formed : (s.stage ≡ 4) → (eqb (primary r) (view_session s.members r) && eqb s.attempts s.members) ≡ true =
      λ z. and_both _ _ (eq-eqb _ _ (f.formed z)) (eq-eqb _ _ (f.heard_all z)) in
      or_right (eqb s.stage 0) _
      (and_both _ _ (and_both _ _ (and_both _ _
      (and_both _ _ (and_both _ _ (eq-eqb _ _ f.view) (ap not (ne_eqb _ _ f.viewed))) f.mine)
      (and_both _ _ (and_both _ _ (and_both _ _ f.states-within f.attempts-within) f.own-state) f.own-attempt))
      (all_of 16 (λ q. state_fits s.states (own r) q (held_of s.held q)) (λ q l. state-fits s.states (own r) q (held_of s.held q) (f.kept q l))))
      (and_both _ _ (and_both _ _ (and_both _ _
      (le-leb s.stage 4 f.staged)
      (or-unless (leb s.stage 1) _ (λ t. eq-eqb _ _ (f.decided (leb-false s.stage 1 t)))))
      (or-unless (not (eqb s.stage 3)) _ (λ t. f.attempted (eqb-true _ _ (not-false _ t)))))
      (or-unless (not (eqb s.stage 4)) _ (λ t. when_formed (eqb-true _ _ (not-false _ t))))))

pub usable-stage : (s : Session) (r : List ℕ) → usable s r ≡ true → s.stage ≤ 4
usable-stage s r e =
    ⊎_elim
    (λ z. omega (arith, eqb-true s.stage 0 z))
    (λ z. (fits-parts s r (usable-fits s r e) (eqb-false s.stage 0 z)).staged)
    (passes-or-fails (eqb s.stage 0))
