-- How a call ends: refused, cut, or as usual; and what each call has to show of the head that makes it.
use mathlib.Core.Bool.{Bool, true, false, cond}
use mathlib.Core.Logic.{inl}
use mathlib.Core.Path.{◌≡◌, refl, sym, ap, subst, ◌∙◌}
use mathlib.Core.List.{List}
use Prim.Native.Nat.{ℕ, ◌≤◌, ◌<◌}
use lib.Dec.{eqb}
use lib.ListN.{length, take}
use borrow.Author.Tests.{eqb-true, ltb-true, ltb-false}
use Rattle.loops.proofs.Laws.Truth.{cond-elim}
use Rattle.group.specs.Answers.{Said, cut}
use Rattle.store.specs.Desk.{Desk, desk, budget, is_cut}
use Rattle.store.specs.Program.{Step, exec, script, after}
use Rattle.store.proofs.Laws.Script.{run-uncut, apply-length}
use Rattle.store.proofs.Laws.Program.{exec-run, exec-take, exec-cuts}
use Rattle.record.specs.Layout.{settings}
use Rattle.record.specs.Whole.{whole}
use Rattle.recovery.specs.Recover.{mended}
use Rattle.recovery.proofs.Laws.Mended.{mended-reads}
use Rattle.head.specs.declared.session.Session.{Session}
use Rattle.head.specs.Session.{no_session}
use Rattle.head.specs.Calls.{Ended, under, stores}
use Rattle.chain.specs.Model.{Group}
use Rattle.chain.specs.World.{rests}
use Rattle.history.specs.Setting.{Setting}
use Rattle.history.specs.Statement.{Sent, Head, running}
use Rattle.history.proofs.Invariant.{Runs, HeadOk, none-stage, Many}

-- ---- refusals: a test that did not refuse, and what is tested after it

pub unrefused : (b : Bool) (n x : ℕ) → (n ≡ 0 → ⊥) → cond b n x ≡ 0 → (b ≡ false) × (x ≡ 0)
unrefused true n x h z = absurd (h z)
unrefused false n x h z = (refl, z)

pub refusal-elim {κ} : (P : Ended → Type κ) (n : ℕ) (x y : Ended) → (n ≡ 0 → P x) → P y → P (cond (eqb n 0) x y)
refusal-elim P n x y f g = cond-elim P (eqb n 0) x y (λ e. f (eqb-true n 0 e)) (λ e. g)

-- ---- a call that stores is cut, or leaves the record after its program

pub stores-elim {κ} : (P : Ended → Type κ) (fs : List Step) (r : List ℕ) (k : ℕ) (a : Said) (s : Session)
    → (k < length (script fs r) → P (record { answer = cut; words = (exec fs (desk r (budget k))).rec; session = no_session }))
    → (length (script fs r) ≤ k → P (record { answer = a; words = after fs r; session = s })) → P (stores fs r k a s)
unfolding stores under after
stores-elim P fs r k a s f g =
    let d = desk r (budget k) in
    cond-elim P (is_cut (exec fs d).pen) _ _ (λ e. f (ltb-true k (length (script fs r)) (sym (exec-cuts fs k r) ∙ e)))
    (λ e.
    subst (λ (x : List ℕ). P (record { answer = a; words = x; session = s }))
    (sym (ap (λ (y : Desk). y.rec) (exec-run fs d) ∙ run-uncut (script fs r) d (ap (λ (y : Desk). is_cut y.pen) (sym (exec-run fs d)) ∙ e)))
    (g (ltb-false k (length (script fs r)) (sym (exec-cuts fs k r) ∙ e))))

pub exec-long : (fs : List Step) (r : List ℕ) (k : ℕ) → length (exec fs (desk r (budget k))).rec ≡ length r
exec-long fs r k = ap length (exec-take fs k r) ∙ apply-length (take k (script fs r)) r

-- ---- what a call shows of its head: the steps that it makes, and the invariant after them

pub record Kept (S : Setting) (G : Group) (p : ℕ) (L : List Sent) (h h' : Head) : Type 1 where
  pub moves : Many S G p L h h'
  pub ok : HeadOk S p h'

pub stays : (S : Setting) (G : Group) (p : ℕ) (L : List Sent) (r : List ℕ) (s : Session) → Runs S p r s → Kept S G p L (running r s) (running r s)
stays S G p L r s i = record { moves = rests; ok = i }

pub lost-ok : (S : Setting) (p : ℕ) (r : List ℕ) (s : Session) → Runs S p r s → Runs S p r no_session
lost-ok S p r s i = record { seat = i.seat; long = i.long; group = i.group; sound = i.sound; session = inl none-stage }

-- a record that recovers as z does
pub cut_ok : (S : Setting) (p : ℕ) (r x z : List ℕ) (s : Session) → Runs S p r s → length x ≡ 52 → mended x ≡ z → whole z ≡ true → settings z ≡ settings r → Runs S p x no_session
cut_ok S p r x z s i long e g same = record {
  seat = i.seat;
  long = long;
  group = sym (mended-reads x long).settings-is ∙ ap settings e ∙ same ∙ i.group;
  sound = ap whole e ∙ g;
  session = inl none-stage;
}
