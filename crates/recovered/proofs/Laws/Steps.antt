-- Steps taken in a copy, with no pen: one where asked, and a loop of them.
use mathlib.Core.Bool.{true}
use mathlib.Core.Path.{◌≡◌, sym, ap, ◌∙◌}
use mathlib.Core.List.{List}
use Prim.Native.Nat.{ℕ, ◌+◌, ◌≤◌, max}
use Rattle.group.specs.Words.{num}
use Rattle.record.specs.Layout.{number, primary, places, store_number}
use Rattle.std.specs.List.{fold}
use Rattle.loops.proofs.Laws.Chains.{fold-chain}
use Rattle.record.proofs.Laws.Words.{length-places, place-in}
use Rattle.recovery.specs.Recover.{higher, greatest, raise_step, formed_step, clear_step, wipe_step, mend_program, mended}
use Rattle.recovery.proofs.Laws.Mended.{formed-made, clear-made, wipe-made, after-parts}
use native.Mathlib.Numerals.{add-one}
use native.Mathlib.Omega.{arith}
use Rattle.store.specs.Desk.{stored, apply}
use Rattle.store.specs.Program.{Step, after, up_to}
use Rattle.store.proofs.Laws.Put.{apply-diff_if}
use Rattle.store.proofs.Laws.Program.{after_none, after_next, up_to-none}

-- ---- the greatest number

-- a chain over the places takes it as the definition does over their indexes
pub greatest-places : (r : List ℕ) → greatest r ≡ fold (λ top w. max top (num w)) (max (number r) (num (primary r))) (places r)
unfolding greatest
greatest-places r =
    sym (fold-chain (λ top w. max top (num w)) (higher r) (max (number r) (num (primary r))) (places r) 0 16 (length-places r)
    (λ i s h. ap (λ (w : ℕ). max s (num w)) (place-in r i h)))

-- what the greatest number is, and what a step makes by its test
pub ruleset steps = (greatest-places, formed-made, clear-made, wipe-made)

-- ---- all of a kind, as a loop takes the steps f 0, f 1, ..

pub taken_none : (f : ℕ → Step) (r : List ℕ) → r ≡ after (up_to 0 f) r
taken_none f r = sym (ap (λ (p : List Step). after p r) (up_to-none f) ∙ after_none r)

pub taken-again : (f : ℕ → Step) (r : List ℕ) {x y : List ℕ} (i : ℕ) → x ≡ after (up_to i f) r → y ≡ apply (f i x) x → y ≡ after (up_to (i + 1) f) r
taken-again f r i e q = q ∙ ap (λ (z : List ℕ). apply (f i z) z) e ∙ sym (rw add-one (after_next i f r))

pub taken-all : (f : ℕ → Step) (r : List ℕ) {x : List ℕ} (i n : ℕ) → i ≤ n → n ≤ i → x ≡ after (up_to i f) r → x ≡ after (up_to n f) r
taken-all f r i n h k e = e ∙ ap (λ (m : ℕ). after (up_to m f) r) (omega arith)

-- ---- the four steps

pub steps-mend : (r : List ℕ) {top : ℕ} {t₁ t₂ t₃ t₄ : List ℕ} → top ≡ greatest r → t₁ ≡ stored (store_number top) r → t₂ ≡ after (up_to 16 formed_step) t₁
    → t₃ ≡ after (up_to 16 clear_step) t₂ → t₄ ≡ after (up_to 16 wipe_step) t₃ → t₄ ≡ mended r
unfolding mended mend_program raise_step
steps-mend r a p f c w =
    rw (w, c, f, p, a)
    (ap (λ (z : List ℕ). after (up_to 16 wipe_step) (after (up_to 16 clear_step) (after (up_to 16 formed_step) z))) (sym (apply-diff_if true (store_number (greatest r)) r))
    ∙ sym (after-parts raise_step (up_to 16 formed_step) (up_to 16 clear_step) (up_to 16 wipe_step) r))
