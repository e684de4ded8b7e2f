-- Tests as facts: `b ≡ true` is the fact that a test passes. Each law is by cases on its Bools.
use mathlib.Core.Path.{◌≡◌, refl, sym, ◌∙◌}
use mathlib.Core.Bool.{Bool, true, false, not, cond, ◌&&◌, ◌||◌}
use mathlib.Core.Logic.{◌⊎◌, inl, inr}
use Prim.Native.Nat.{ℕ}
use native.Mathlib.Omega.{arith}

pub clash : true ≡ false → ⊥
clash e = let z : ◌≡◌ {A = ℕ} 0 1 = cc in omega arith

pub and_left : (a b : Bool) → (a && b) ≡ true → a ≡ true
and_left true b e = refl
and_left false b e = e

pub and_right : (a b : Bool) → (a && b) ≡ true → b ≡ true
and_right true b e = e
and_right false b e = cc

pub and_both : (a b : Bool) → a ≡ true → b ≡ true → (a && b) ≡ true
and_both true b e f = f
and_both false b e f = e

pub or_cases : (a b : Bool) → (a || b) ≡ true → (a ≡ true) ⊎ (b ≡ true)
or_cases true b e = inl refl
or_cases false b e = inr e

pub or_left : (a b : Bool) → a ≡ true → (a || b) ≡ true
or_left true b e = refl
or_left false b e = absurd (clash (sym e))

pub or_right : (a b : Bool) → b ≡ true → (a || b) ≡ true
or_right true b e = refl
or_right false b e = e

-- of two tests one holds unless the other does, and where neither holds each fails
pub unless : (a b : Bool) → (a || b) ≡ true → a ≡ false → b ≡ true
unless true b e f = absurd (clash f)
unless false b e f = e

pub or-unless : (a b : Bool) → (a ≡ false → b ≡ true) → (a || b) ≡ true
or-unless true b f = refl
or-unless false b f = f refl

pub or-none : (a b : Bool) → (a || b) ≡ false → (a ≡ false) × (b ≡ false)
or-none true b e = absurd (clash e)
or-none false b e = (refl, e)

-- a test passes or it does not
pub passes-or-fails : (b : Bool) → (b ≡ true) ⊎ (b ≡ false)
passes-or-fails true = inl refl
passes-or-fails false = inr refl

pub not-both : (b : Bool) → b ≡ true → b ≡ false → ⊥
not-both b e f = clash (sym e ∙ f)

pub fails-if : (b : Bool) → (b ≡ true → ⊥) → b ≡ false
fails-if true f = absurd (f refl)
fails-if false f = refl

pub not-true : (b : Bool) → not b ≡ true → b ≡ false
not-true true e = sym e
not-true false e = refl

pub not-false : (b : Bool) → not b ≡ false → b ≡ true
not-false true e = refl
not-false false e = sym e

-- two tests that imply each other are one
pub test-ext : (a b : Bool) → (a ≡ true → b ≡ true) → (b ≡ true → a ≡ true) → a ≡ b
test-ext true b f g = sym (f refl)
test-ext false b f g = sym (fails-if b (λ e. clash (sym (g e))))

-- `if !f(x)`: what is known of f's definition behind and before it
pub failed : (r b : Bool) → r ≡ b → not r ≡ true → b ≡ false
failed r b e f = sym e ∙ not-true r f

pub passed : (r b : Bool) → r ≡ b → not r ≡ false → b ≡ true
passed r b e f = sym e ∙ not-false r f

pub or-false : (a : Bool) → a ≡ (a || false)
or-false true = refl
or-false false = refl

-- a choice is what both sides are
pub cond-elim {ℓ κ} : {A : Type ℓ} (P : A → Type κ) (b : Bool) (x y : A) → (b ≡ true → P x) → (b ≡ false → P y) → P (cond b x y)
cond-elim P true x y f g = f refl
cond-elim P false x y f g = g refl

pub cond_same {ℓ} : {A : Type ℓ} (b : Bool) (x : A) → cond b x x ≡ x
cond_same true x = refl
cond_same false x = refl
