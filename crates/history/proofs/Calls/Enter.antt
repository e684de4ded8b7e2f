-- Enter, with any budget, refused or not: it keeps all as it stood, loses the session, or enters as the chain's heads do.
use mathlib.Core.Bool.{true}
use mathlib.Core.Logic.{inr}
use mathlib.Core.Path.{◌≡◌, refl, sym, ap, subst, ◌∙◌}
use mathlib.Core.List.{List, [], ◌∷◌}
use Prim.Native.Nat.{ℕ, ◌<◌}
use native.Mathlib.Omega.{arith}
use lib.ListN.{length, take}
use borrow.Author.Tests.{eqb-true}
use Rattle.group.specs.Answers.{entered as entered_answer}
use Rattle.group.specs.Heads.{has, only}
use Rattle.group.proofs.Laws.Heads.{has-only}
use Rattle.store.specs.Desk.{Store, stored, desk, budget, apply}
use Rattle.store.specs.Program.{exec, script, after}
use Rattle.store.proofs.Laws.Put.{stored-length, apply-one}
use Rattle.store.proofs.Laws.Program.{exec-take, script-one, after_one}
use Rattle.record.specs.Layout.{settings, own, number, primary, formed_for, place_at, marks_at, store_entered}
use Rattle.record.specs.Whole.{whole}
use Rattle.record.proofs.Laws.Layout.{Reads, entered-stored}
use Rattle.recovery.specs.Changes.{entry_change}
use Rattle.recovery.proofs.Laws.Still.{mended-whole}
use Rattle.recovery.proofs.Laws.Small.{entry-sound}
use Rattle.head.specs.declared.session.Session.{Session}
use Rattle.head.specs.Session.{no_session, opened}
use Rattle.head.specs.Refusals.{enter_refusal}
use Rattle.head.specs.Calls.{Ended, entry_step, enter_spec}
use Rattle.head.proofs.Laws.Refusals.{MayEnter, may-enter}
use Rattle.calls.proofs.Laws.Kept.{opened-fits, opened-sized}
use Rattle.head.proofs.Laws.Fits.{usable-whole}
use Rattle.chain.specs.Model.{Group}
use Rattle.chain.specs.Words.{Enters}
use Rattle.chain.specs.World.{Phase.undecided as undecided, Turn, enters, loses, rests, then}
use Rattle.chain.proofs.Laws.Words.{guard-same}
use Rattle.chain.proofs.Laws.Calls.{turn-to}
use Rattle.history.specs.Setting.{Setting}
use Rattle.history.specs.Statement.{Sent, running}
use Rattle.history.proofs.Abstraction.{rec_of, heard_of, vol_of, Wrote, Tried}
use Rattle.history.proofs.Invariant.{Reading, Live, Runs, group-own, none-gone}
use Rattle.history.proofs.Calls.Ends.{refusal-elim, stores-elim, Kept, stays, lost-ok}

pub entered-whole : (r : List ℕ) (v : ℕ) → whole r ≡ true → v < 4294967296 → whole (stored (store_entered v) r) ≡ true
unfolding entry_change apply
entered-whole r v e h = (entry-sound r v e (omega arith)).after

pub after-entry : (r : List ℕ) (v : ℕ) → after (entry_step v ∷ []) r ≡ stored (store_entered v) r
unfolding entry_step entry_change
after-entry r v = after_one (entry_step v) r ∙ apply-one (store_entered v) r

one_store : (r : List ℕ) (v : ℕ) → length (script (entry_step v ∷ []) r) ≡ 1
unfolding entry_step entry_change
one_store r v = ap (λ (a : List Store). length a) (script-one (entry_step v) r)

pub entry-none : (r : List ℕ) (v k : ℕ) → k < length (script (entry_step v ∷ []) r) → (exec (entry_step v ∷ []) (desk r (budget k))).rec ≡ r
unfolding apply
entry-none r v k h =
    let z : k ≡ 0 = omega (arith, one_store r v) in
    exec-take (entry_step v ∷ []) k r ∙ ap (λ (n : ℕ). apply (take n (script (entry_step v ∷ []) r)) r) z

-- ---- the call

module _ (S : Setting) (G : Group) (R : Reading S G) (p : ℕ) (L : List Sent) (r : List ℕ) (s : Session) (i : Runs S p r s) (v : ℕ) (view : v < 4294967296) where
  abbrev m : ℕ
  m = S.members v

  abbrev y : List ℕ
  y = stored (store_entered v) r

  reads : Reads y (settings r) v (number r) (primary r) (formed_for r) (place_at r) (marks_at r)
  reads = entered-stored r i.long v

  module _ (a : MayEnter s r v m) where
    o : own r ≡ p
    o = group-own S p r i.seat i.group

    good : whole r ≡ true
    good = usable-whole s r a.fit

    enters-are : Enters G p v (rec_of r) (rec_of y)
    enters-are = record {
      above = a.later;
      mine = rw (R.members v) (R.into p m i.seat (sym (ap (has m) o) ∙ a.mine));
      view = reads.entered-is;
      stay = record { num = reads.number_is; prim = reads.primary-is; formed = guard-same (formed_for y) (formed_for r) reads.formed-is };
      keeps = λ j h. (reads.place_is j h, reads.marks-is j h);
    }

    only-own : (x : ℕ) → has (only (own r)) x ≡ true → x ≡ p
    only-own x t = sym (eqb-true (own r) x (sym (has-only (own r) x) ∙ t)) ∙ o

    turn-entered : Turn G p (Wrote L) (Tried L) (rec_of r) (vol_of p s) (rec_of y) (vol_of p (opened (own r) v m))
    unfolding opened
    turn-entered =
        enters v (heard_of p undecided (opened (own r) v m)) enters-are refl refl (λ x (n, l, t). n (only-own x t)) (λ x (n, l, t). n (only-own x t))

    live-opened : whole y ≡ true → Live S y (opened (own r) v m)
    unfolding opened
    live-opened e = record {
      good = e;
      fitting = opened-fits r v m good a.mine a.later;
      same = refl;
      sized = opened-sized r v m good a.mine a.later (S.members-set v);
    }

    done : Kept S G p L (running r s) (running y (opened (own r) v m))
    done =
        let e : whole y ≡ true = entered-whole r v good view in
        record {
          moves = then rests (turn-to G (ap rec_of (mended-whole r good)) refl (ap rec_of (mended-whole y e)) refl turn-entered);
          ok = record {
            seat = i.seat;
            long = stored-length (store_entered v) r ∙ i.long;
            group = reads.settings-is ∙ i.group;
            sound = ap whole (mended-whole y e) ∙ e;
            session = inr (live-opened e);
          };
        }

  -- ENTER
  pub enter-kept : (k : ℕ) → Kept S G p L (running r s) (running (enter_spec s r v m k).words (enter_spec s r v m k).session)
  unfolding enter_spec
  enter-kept k =
      refusal-elim (λ (o : Ended). Kept S G p L (running r s) (running o.words o.session)) (enter_refusal s r v m) _ _
      (λ z.
      stores-elim (λ (o : Ended). Kept S G p L (running r s) (running o.words o.session)) (entry_step v ∷ []) r k entered_answer (opened (own r) v m)
      (λ h. subst (λ (x : List ℕ). Kept S G p L (running r s) (running x no_session)) (sym (entry-none r v k h)) (record {
        moves = then rests (loses refl (none-gone p));
        ok = lost-ok S p r s i;
      }))
      (λ h. subst (λ (x : List ℕ). Kept S G p L (running r s) (running x (opened (own r) v m))) (sym (after-entry r v)) (done (may-enter s r v m z))))
      (stays S G p L r s i)
