-- Runs, the form in which the proofs see a history: by time, each head making one change (perhaps none) at each time. "Before" and "never" are
-- then comparisons of times.
use mathlib.Core.Path.{◌≡◌}
use Prim.Native.Nat.{ℕ, suc, ◌<◌}
use Rattle.chain.specs.Model.{Sess, Group, Local, Event, enter, attempt, form, Init, Ok}

-- one of the first t changes of head x is as Q says, by the change and the states before and after it
abbrev pub By {ℓ} : (Event → Local → Local → Type ℓ) → (ℕ → ℕ → Local) → (ℕ → ℕ → Event) → ℕ → ℕ → Type ℓ
By Q st ev t x = (c : ℕ) × (c < t) × Q (ev c x) (st c x) (st (suc c) x)

-- an entry of view v, after which the state is m
abbrev pub Entry : ℕ → Local → Event → Local → Local → Type 1
Entry v m e a b = (e ≡ enter v) × (b ≡ m)

-- an attempt in view v
abbrev pub Attempt : ℕ → Event → Local → Local → Type 0
Attempt v e a b = (S : Sess) × (e ≡ attempt S) × (a.view ≡ v)

-- a form of F
abbrev pub Form : Sess → Event → Local → Local → Type 0
Form F e a b = e ≡ form F

-- `st t h`: head h's state after t changes; `ev t h`: the change that it makes next; `Snap t`, `Att t`: what was sent and attempted till then
pub record Run (G : Group) : Type 2 where
  pub st : ℕ → ℕ → Local
  pub ev : ℕ → ℕ → Event
  pub Snap : ℕ → ℕ → ℕ → Local → Type 1
  pub Att : ℕ → ℕ → ℕ → Type 1
  pub init : (h : ℕ) → Init G h (st 0 h)
  pub ok : (t h : ℕ) → Ok G (Snap t) (Att t) h (st t h) (st (suc t) h) (ev t h)
  pub snap-by : {t x v : ℕ} {m : Local} → Snap t x v m → By (Entry v m) st ev t x
  pub att-by : {t x v : ℕ} → Att t x v → By (Attempt v) st ev t x
