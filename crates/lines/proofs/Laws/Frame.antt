-- Numbers and sessions at a place of a frame, and sixteen words, each by its place. By the laws of `drop`, and by induction on the number of words.
use mathlib.Core.Path.{◌≡◌, refl, sym, ap, ◌∙◌}
use mathlib.Core.List.{List}
use mathlib.Core.Bool.{cond}
use mathlib.Core.Logic.{⊎_elim}
use Prim.Native.Nat.{ℕ, zero, suc, ◌+◌, ◌-◌, ◌*◌, ◌≤◌, ◌<◌}
use native.Mathlib.Nat.{add-zero, not-suc-le-zero}
use native.Mathlib.Omega.{arith}
use borrow.Author.Tests.{lt-ltb, le-ltb}
use lib.ListN.{length, get_or, drop, length-append, replicate, length-replicate, get_or-append, get_or-replicate}
use lib.Seq.{get_or-drop, drop-drop, get_or-append_right}
use lib.Dec.{ltb}
use Rattle.loops.specs.Below.{table}
use Rattle.loops.proofs.Laws.Order.{lt-or-ge}
use Rattle.loops.proofs.Laws.Lists.{table_is}
use Rattle.state.specs.Values.{padded}
use Rattle.lines.specs.Frame.{two, four, six, words}

pub two-drop : (f : List ℕ) (at : ℕ) → two (drop at f) ≡ get_or f at 0 * 256 + get_or f (at + 1) 0
unfolding two
two-drop f at = simp (get_or-drop, add-zero)

pub four-drop : (f : List ℕ) (at : ℕ) → four (drop at f) ≡ two (drop at f) * 65536 + two (drop (at + 2) f)
unfolding four
four-drop f at = simp (drop-drop)

pub four_bytes : (f : List ℕ) (at : ℕ)
    → four (drop at f) ≡ get_or f at 0 * 16777216 + get_or f (at + 1) 0 * 65536 + get_or f (at + 2) 0 * 256 + get_or f (at + 3) 0
four_bytes f at =
    let e : at + 2 + 1 ≡ at + 3 = omega arith in
    omega (arith, four-drop f at, two-drop f at, rw e at (two-drop f (at + 2)))

pub six-drop : (f : List ℕ) (at : ℕ) → six (drop at f) ≡ four (drop at f) * 65536 + two (drop (at + 4) f)
unfolding six
six-drop f at = simp (drop-drop)

pub six_bytes : (f : List ℕ) (at : ℕ)
    → six (drop at f)
    ≡ get_or f at 0 * 1099511627776 + get_or f (at + 1) 0 * 4294967296 + get_or f (at + 2) 0 * 16777216 + get_or f (at + 3) 0 * 65536 + get_or f (at + 4) 0 * 256 + get_or f (at + 5) 0
six_bytes f at =
    let e : at + 4 + 1 ≡ at + 5 = omega arith in
    omega (arith, six-drop f at, four_bytes f at, rw e at (two-drop f (at + 4)))

pub words-length : (n : ℕ) (f : List ℕ) → length (words n f) ≡ n
unfolding words
words-length zero f = refl
words-length (suc n) f = ap suc (words-length n (drop 6 f))

words-at : (n : ℕ) (f : List ℕ) (i : ℕ) → i < n → get_or (words n f) i 0 ≡ six (drop (i * 6) f)
unfolding words
words-at zero f i h = absurd (not-suc-le-zero h)
words-at (suc n) f zero h = refl
words-at (suc n) f (suc i) h =
    let e : 6 + i * 6 ≡ suc i * 6 = omega arith in
    words-at n (drop 6 f) i (omega arith) ∙ rw (drop-drop (i * 6) 6 f, e)

-- sixteen words, each by its place
pub table-padded : (n : ℕ) (f : List ℕ) → n ≤ 16 → table 16 (λ i. cond (ltb i n) (six (drop (i * 6) f)) 0) ≡ padded (words n f)
unfolding padded
table-padded n f h =
    let l = words-length n f in
    let zeros : List ℕ = replicate (16 - length (words n f)) 0 in
    sym (table_is 16 (λ i. cond (ltb i n) (six (drop (i * 6) f)) 0) 0 (padded (words n f)) (omega (arith, length-append (words n f) zeros, length-replicate {A = ℕ} (16 - length (words n f)) 0))
    (λ i k.
    ⊎_elim
    (λ b. get_or-append (words n f) zeros 0 i (omega arith) ∙ words-at n f i b ∙ rw (lt-ltb i n b))
    (λ g. get_or-append_right (words n f) zeros i 0 (omega arith) ∙ get_or-replicate (16 - length (words n f)) (i - length (words n f)) 0 0 (omega arith) ∙ rw (le-ltb i n g))
    (lt-or-ge i n)))
