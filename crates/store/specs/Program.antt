-- A call's stores as a program: steps one after the other, each of which reads its stores off the record as it then is.
use Rattle.std.specs.Prelude.{List, [], ◌∷◌, ◌++◌, ℕ}
use Rattle.loops.specs.Below.{collect}
use Rattle.store.specs.Desk.{Store, Desk, run, apply}

abbrev pub Step : Type 0
Step = List ℕ → List Store

-- one step under a pen
unfoldable pub step_by : Step → Desk → Desk
step_by f d = run (f d.rec) d

-- a program under a pen
unfoldable pub exec : List Step → Desk → Desk
exec [] d = d
exec (f ∷ fs) d = exec fs (step_by f d)

-- all its stores, as they are made where nothing cuts it
unfoldable pub script : List Step → List ℕ → List Store
script [] r = []
script (f ∷ fs) r = f r ++ script fs (apply (f r) r)

-- the record it then leaves
unfoldable pub after : List Step → List ℕ → List ℕ
after fs r = apply (script fs r) r

-- the steps f 0, f 1, .., f (n - 1)
unfoldable pub up_to : ℕ → (ℕ → Step) → List Step
up_to n f = collect n (λ i. f i ∷ [])
