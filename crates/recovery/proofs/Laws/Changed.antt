-- A field of sixteen words with one of them changed: by cases on the index.
use mathlib.Core.Path.{◌≡◌, refl, sym, ap, ◌∙◌}
use Prim.Native.Nat.{ℕ}
use mathlib.Core.Bool.{cond}
use lib.Dec.{eqb}
use borrow.Author.Tests.{eqb-true}
use Rattle.loops.proofs.Laws.Truth.{cond-elim}
use Rattle.record.proofs.Laws.Layout.{changed}

-- what does not tell the new word from the old one
pub changed-by : {X : Type 0} (F : ℕ → ℕ → X) (i w : ℕ) (f : ℕ → ℕ) → F i w ≡ F i (f i) → (j : ℕ) → F j (changed i w f j) ≡ F j (f j)
unfolding changed
changed-by F i w f e j =
    cond-elim (λ (v : ℕ). F j v ≡ F j (f j)) (eqb j i) w (f j) (λ t. ap (λ (k : ℕ). F k w) (eqb-true j i t) ∙ e ∙ ap (λ (k : ℕ). F k (f k)) (sym (eqb-true j i t))) (λ t. refl)

-- what holds of the new word and of the old ones
pub changed-all : (P : ℕ → ℕ → Type 0) (i w : ℕ) (f : ℕ → ℕ) → P i w → ((k : ℕ) → P k (f k)) → (j : ℕ) → P j (changed i w f j)
unfolding changed
changed-all P i w f a g j = cond-elim (P j) (eqb j i) w (f j) (λ t. rw (eqb-true j i t) a) (λ t. g j)

pub changed-ext : (i w : ℕ) (f g : ℕ → ℕ) (j : ℕ) → f j ≡ g j → changed i w f j ≡ changed i w g j
unfolding changed
changed-ext i w f g j e = ap (cond (eqb j i) w) e
