-- Recover with any budget, and the loss of a session: steps that change no recovered record.
use mathlib.Core.Logic.{inl}
use mathlib.Core.Path.{◌≡◌, refl, sym, ap, ◌∙◌}
use mathlib.Core.List.{List}
use Prim.Native.Nat.{ℕ}
use lib.ListN.{length, take}
use Rattle.loops.proofs.Laws.Truth.{cond-elim}
use Rattle.store.specs.Program.{script}
use Rattle.store.proofs.Laws.Script.{apply-length}
use Rattle.record.specs.Layout.{settings}
use Rattle.record.specs.Whole.{whole}
use Rattle.record.specs.Outcome.{Outcome}
use Rattle.recovery.specs.Recover.{mend_program, mended, mendable, recover_spec}
use Rattle.recovery.proofs.Laws.Mended.{mended-reads}
use Rattle.recovery.proofs.Laws.Cut.{again}
use Rattle.head.specs.declared.session.Session.{Session}
use Rattle.head.specs.Session.{no_session}
use Rattle.chain.specs.Model.{Group}
use Rattle.chain.specs.World.{loses, rests, then}
use Rattle.history.specs.Setting.{Setting}
use Rattle.history.specs.Statement.{Sent, running}
use Rattle.history.proofs.Abstraction.{rec_of}
use Rattle.history.proofs.Invariant.{Runs, none-gone, none-stage}
use Rattle.history.proofs.Calls.Ends.{Kept, lost-ok}

-- two records of 52 words that recover alike have the same word 0
pub same-settings : (a b : List ℕ) → length a ≡ 52 → length b ≡ 52 → mended a ≡ mended b → settings a ≡ settings b
same-settings a b la lb e = sym (mended-reads a la).settings-is ∙ ap settings e ∙ (mended-reads b lb).settings-is

pub recover-length : (r : List ℕ) (k : ℕ) → length (recover_spec r k).rec ≡ length r
unfolding recover_spec
recover-length r k = cond-elim (λ (o : Outcome). length o.rec ≡ length r) (mendable r) _ _ (λ e. apply-length (take k (script mend_program r)) r) (λ e. refl)

module _ (S : Setting) (G : Group) (p : ℕ) (L : List Sent) (r : List ℕ) (s : Session) (i : Runs S p r s) where
  -- RECOVER
  pub recover-kept : (k : ℕ) → Kept S G p L (running r s) (running (recover_spec r k).rec no_session)
  recover-kept k =
      let long : length (recover_spec r k).rec ≡ 52 = recover-length r k ∙ i.long in
      record {
        moves = then rests (loses (ap rec_of (again r k)) (none-gone p));
        ok = record {
          seat = i.seat;
          long = long;
          group = same-settings (recover_spec r k).rec r long i.long (again r k) ∙ i.group;
          sound = ap whole (again r k) ∙ i.sound;
          session = inl none-stage;
        };
      }

  -- THE SESSION IS LOST
  pub lose-kept : Kept S G p L (running r s) (running r no_session)
  lose-kept = record { moves = then rests (loses refl (none-gone p)); ok = lost-ok S p r s i }
