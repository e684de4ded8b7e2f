-- The fresh record as the code makes it: word 0, and for a core head word 3 and a store for each head of W0.
use mathlib.Core.Path.{◌≡◌, refl, sym, ap, ◌∙◌}
use mathlib.Core.Bool.{true, false, cond}
use mathlib.Core.Logic.{inl, inr, ⊎_elim}
use mathlib.Core.List.{List, ◌∷◌}
use Prim.Native.Nat.{ℕ, zero, suc, ◌+◌, ◌-◌, ◌≤◌, ◌<◌}
use native.Mathlib.Nat.{lt_irrefl}
use native.Mathlib.Omega.{arith}
use lib.Dec.{eqb-suc-zero, lit≤}
use lib.ListN.{get_or, replicate}
use borrow.Author.Tests.{le-leb, lt-ltb, le-ltb, ne_eqb}
use Rattle.loops.specs.Below.{fold_below, store_when}
use Rattle.group.specs.Heads.{has}
use Rattle.group.specs.Fresh.{group_word, fresh_word, fresh_record}
use Rattle.loops.proofs.Laws.Order.{lt-or-ge}
use Rattle.loops.proofs.Laws.Lists.{table_is}
use Rattle.loops.proofs.Laws.Stores.{stores-length, stores-in, stores-out}

-- the record before the loop: word 0 and word 3
abbrev pub begun : ℕ → ℕ → List ℕ
begun w p = w ∷ 0 ∷ 0 ∷ p ∷ replicate 48 0

zeros : (n k : ℕ) → ◌≡◌ {A = ℕ} (get_or (replicate n 0) k 0) 0
zeros zero k = refl
zeros (suc n) zero = refl
zeros (suc n) (suc k) = zeros n k

begun-high : (w p k : ℕ) → 4 ≤ k → get_or (begun w p) k 0 ≡ 0
begun-high w p k l = ap (λ (m : ℕ). get_or (begun w p) m 0) e ∙ zeros 48 (k - 4)
  where
    e : k ≡ suc (suc (suc (suc (k - 4))))
    e = omega arith

-- a head outside the core
outside-at : (core least own : ℕ) → has core own ≡ false → (k : ℕ) → k < 52 → get_or (begun (group_word core least own) 0) k 0 ≡ fresh_word core least own k
unfolding fresh_word
outside-at core least own e zero h = refl
outside-at core least own e (suc k) h = zeros 51 k ∙ simp (eqb-suc-zero k, e)

pub fresh-outside : (core least own : ℕ) → has core own ≡ false → begun (group_word core least own) 0 ≡ fresh_record core least own
unfolding fresh_record
fresh-outside core least own e = table_is 52 (fresh_word core least own) 0 (begun (group_word core least own) 0) refl (outside-at core least own e)

-- a core head
module _ (core least own : ℕ) (e : has core own ≡ true) where
  abbrev stored : List ℕ
  stored = fold_below 16 (store_when 4 (has core) (λ q. core)) (begun (group_word core least own) core)

  low : (k : ℕ) → k < 4 → get_or (begun (group_word core least own) core) k 0 ≡ fresh_word core least own k
  unfolding fresh_word
  low zero h = refl
  low (suc zero) h = simp e
  low (suc (suc zero)) h = simp e
  low (suc (suc (suc zero))) h = simp e
  low (suc (suc (suc (suc k)))) h = absurd (lt_irrefl 0 (omega arith))

  formed : (k : ℕ) → 4 ≤ k → k < 20 → get_or stored k 0 ≡ fresh_word core least own k
  unfolding fresh_word
  formed k l h =
      let i : 4 + (k - 4) ≡ k = omega arith in
      ap (λ (m : ℕ). get_or stored m 0) (sym i)
      ∙ stores-in 4 (has core) (λ q. core) 16 (begun (group_word core least own) core) (k - 4) 0 (omega arith) (lit≤ tt)
      ∙ ap (λ (m : ℕ). cond (has core (k - 4)) core (get_or (begun (group_word core least own) core) m 0)) i
      ∙ simp (begun-high (group_word core least own) core k l, e, ne_eqb k 0 (omega arith), ne_eqb k 3 (omega arith), le-leb 4 k l, lt-ltb k 20 h)

  past : (k : ℕ) → 20 ≤ k → get_or (begun (group_word core least own) core) k 0 ≡ fresh_word core least own k
  unfolding fresh_word
  past k l =
      begun-high (group_word core least own) core k (omega arith)
      ∙ simp (e, ne_eqb k 0 (omega arith), ne_eqb k 3 (omega arith), le-leb 4 k (omega arith), le-ltb k 20 l)

  inside-at : (k : ℕ) → k < 52 → get_or stored k 0 ≡ fresh_word core least own k
  inside-at k h =
      ⊎_elim
      (λ a. stores-out 4 (has core) (λ q. core) 16 (begun (group_word core least own) core) k 0 (inl a) ∙ low k a)
      (λ b. ⊎_elim (formed k b) (λ d. stores-out 4 (has core) (λ q. core) 16 (begun (group_word core least own) core) k 0 (inr d) ∙ past k d) (lt-or-ge k 20))
      (lt-or-ge k 4)

  pub fresh-inside : stored ≡ fresh_record core least own
  unfolding fresh_record
  fresh-inside = table_is 52 (fresh_word core least own) 0 stored (stores-length 4 (has core) (λ q. core) 16 (begun (group_word core least own) core)) inside-at
