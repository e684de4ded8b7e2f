-- What never falls in a run: a head's view, session number, view of the last attempt, last primary's and last formed sessions' ranks. And what stays
-- below what. Each change keeps it, by the equations and bounds that allow the change.
use mathlib.Core.Path.{◌≡◌, ap, subst}
use mathlib.Core.Logic.{⊎_elim}
use Prim.Native.Nat.{ℕ, zero, suc, ◌≤◌}
use native.Mathlib.Omega.{arith}
use Rattle.chain.specs.Model.{Group, rank_of, Event, tidy, enter, adopt, attempt, form, Ok}
use Rattle.chain.proofs.Laws.Numbers.{mono}
use Rattle.chain.proofs.Laws.Runs.{Run}

module _ {G : Group} (R : Run G) where
  open R use {st, ev}

  -- what allows change e of head q at time t
  abbrev pub OkAt : ℕ → ℕ → Event → Type 1
  OkAt t q e = Ok G (R.Snap t) (R.Att t) q (st t q) (st (suc t) q) e

  pub ok_of : {t q : ℕ} {e : Event} → ev t q ≡ e → OkAt t q e
  ok_of {t} {q} p = subst (λ e. OkAt t q e) p (R.ok t q)

  view-step : (t q : ℕ) (e : Event) → OkAt t q e → (st t q).view ≤ (st (suc t) q).view
  view-step t q tidy k = omega (arith, k.view)
  view-step t q (enter v) k = omega (arith, k.view, k.up)
  view-step t q (adopt F) k = omega (arith, k.view)
  view-step t q (attempt S) k = omega (arith, k.view)
  view-step t q (form S) k = omega (arith, k.view)

  pub view-up : (q a b : ℕ) → a ≤ b → (st a q).view ≤ (st b q).view
  view-up q = mono (λ t. (st t q).view) (λ t. view-step t q (ev t q) (R.ok t q))

  num-step : (t q : ℕ) (e : Event) → OkAt t q e → (st t q).num ≤ (st (suc t) q).num
  num-step t q tidy k = omega (arith, k.still.num)
  num-step t q (enter v) k = omega (arith, k.still.num)
  num-step t q (adopt F) k = k.num-up
  num-step t q (attempt S) k = omega (arith, k.num, k.own)
  num-step t q (form S) k = omega (arith, k.num)

  pub num-up : (q a b : ℕ) → a ≤ b → (st a q).num ≤ (st b q).num
  num-up q = mono (λ t. (st t q).num) (λ t. num-step t q (ev t q) (R.ok t q))

  tried-step : (t q : ℕ) (e : Event) → OkAt t q e → (st t q).tried ≤ (st (suc t) q).tried
  tried-step t q tidy k = omega (arith, k.still.tried)
  tried-step t q (enter v) k = omega (arith, k.still.tried)
  tried-step t q (adopt F) k = omega (arith, k.tried)
  tried-step t q (attempt S) k = omega (arith, k.tried, k.early)
  tried-step t q (form S) k = omega (arith, k.tried)

  pub tried-up : (q a b : ℕ) → a ≤ b → (st a q).tried ≤ (st b q).tried
  tried-up q = mono (λ t. (st t q).tried) (λ t. tried-step t q (ev t q) (R.ok t q))

  tried-view-step : (t q : ℕ) (e : Event) → OkAt t q e → (st t q).tried ≤ (st t q).view → (st (suc t) q).tried ≤ (st (suc t) q).view
  tried-view-step t q tidy k ih = omega (arith, k.still.tried, k.view)
  tried-view-step t q (enter v) k ih = omega (arith, k.still.tried, k.view, k.up)
  tried-view-step t q (adopt F) k ih = omega (arith, k.tried, k.view)
  tried-view-step t q (attempt S) k ih = omega (arith, k.tried, k.view)
  tried-view-step t q (form S) k ih = omega (arith, k.tried, k.view)

  -- the last attempt was in a view entered
  pub tried-view : (t q : ℕ) → (st t q).tried ≤ (st t q).view
  tried-view zero q = omega (arith, (R.init q).tried)
  tried-view (suc t) q = tried-view-step t q (ev t q) (R.ok t q) (tried-view t q)

  prim-num-step : (t q : ℕ) (e : Event) → OkAt t q e → rank_of (st t q).prim ≤ suc (st t q).num → rank_of (st (suc t) q).prim ≤ suc (st (suc t) q).num
  prim-num-step t q tidy k ih = omega (arith, ap rank_of k.still.prim, k.still.num)
  prim-num-step t q (enter v) k ih = omega (arith, ap rank_of k.still.prim, k.still.num)
  prim-num-step t q (adopt F) k ih = omega (arith, ap rank_of k.prim, k.num-low)
  prim-num-step t q (attempt S) k ih = omega (arith, ap rank_of k.prim, k.num, k.own)
  prim-num-step t q (form S) k ih = omega (arith, ap rank_of k.prim, k.num, k.number)

  -- the last primary's number is at most the session number
  pub prim-num : (t q : ℕ) → rank_of (st t q).prim ≤ suc (st t q).num
  prim-num zero q = ⊎_elim (λ e. omega (arith, ap rank_of e)) (λ (e, i). omega (arith, ap rank_of e)) (R.init q).prim
  prim-num (suc t) q = prim-num-step t q (ev t q) (R.ok t q) (prim-num t q)

  prim-step : (t q : ℕ) (e : Event) → OkAt t q e → rank_of (st t q).prim ≤ rank_of (st (suc t) q).prim
  prim-step t q tidy k = omega (arith, ap rank_of k.still.prim)
  prim-step t q (enter v) k = omega (arith, ap rank_of k.still.prim)
  prim-step t q (adopt F) k = omega (arith, ap rank_of k.prim, k.above)
  prim-step t q (attempt S) k = omega (arith, ap rank_of k.prim)
  prim-step t q (form S) k = omega (arith, ap rank_of k.prim, prim-num t q, k.number)

  pub prim-up : (q a b : ℕ) → a ≤ b → rank_of (st a q).prim ≤ rank_of (st b q).prim
  prim-up q = mono (λ t. rank_of (st t q).prim) (λ t. prim-step t q (ev t q) (R.ok t q))

  formed-prim-step : (t q x : ℕ) (e : Event) → OkAt t q e → rank_of ((st t q).formed x) ≤ rank_of (st t q).prim → rank_of ((st (suc t) q).formed x) ≤ rank_of (st (suc t) q).prim
  formed-prim-step t q x tidy k ih = omega (arith, ap rank_of k.still.prim, ap rank_of (k.still.formed x))
  formed-prim-step t q x (enter v) k ih = omega (arith, ap rank_of k.still.prim, ap rank_of (k.still.formed x))
  formed-prim-step t q x (adopt F) k ih =
      ⊎_elim (λ (e, i). omega (arith, ap rank_of k.prim, ap rank_of e)) (λ e. omega (arith, ap rank_of k.prim, ap rank_of e, k.above)) (k.formed x)
  formed-prim-step t q x (attempt S) k ih = omega (arith, ap rank_of k.prim, ap rank_of (k.formed x))
  formed-prim-step t q x (form S) k ih =
      ⊎_elim (λ (e, i). omega (arith, ap rank_of k.prim, ap rank_of e)) (λ (e, n). omega (arith, ap rank_of k.prim, ap rank_of e, prim-num t q, k.number)) (k.formed x)

  -- a last formed session's number is at most the last primary's
  pub formed-prim : (t q x : ℕ) → rank_of ((st t q).formed x) ≤ rank_of (st t q).prim
  formed-prim zero q x = ⊎_elim (λ e. omega (arith, ap rank_of e)) (λ (e, p, i). omega (arith, ap rank_of e, ap rank_of p)) ((R.init q).formed x)
  formed-prim (suc t) q x = formed-prim-step t q x (ev t q) (R.ok t q) (formed-prim t q x)

  formed-step : (x t q : ℕ) (e : Event) → OkAt t q e → rank_of ((st t q).formed x) ≤ rank_of ((st (suc t) q).formed x)
  formed-step x t q tidy k = omega (arith, ap rank_of (k.still.formed x))
  formed-step x t q (enter v) k = omega (arith, ap rank_of (k.still.formed x))
  formed-step x t q (adopt F) k = ⊎_elim (λ (e, i). omega (arith, ap rank_of e, formed-prim t q x, k.above)) (λ e. omega (arith, ap rank_of e)) (k.formed x)
  formed-step x t q (attempt S) k = omega (arith, ap rank_of (k.formed x))
  formed-step x t q (form S) k = ⊎_elim (λ (e, i). omega (arith, ap rank_of e, formed-prim t q x, prim-num t q, k.number)) (λ (e, n). omega (arith, ap rank_of e)) (k.formed x)

  pub formed-up : (x q a b : ℕ) → a ≤ b → rank_of ((st a q).formed x) ≤ rank_of ((st b q).formed x)
  formed-up x q = mono (λ t. rank_of ((st t q).formed x)) (λ t. formed-step x t q (ev t q) (R.ok t q))
