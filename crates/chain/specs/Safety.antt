-- THE STATEMENT, of any sessions P: they are one count. It is proved of the formed sessions of every history of the model (`Valid`) and of
-- every world (`Reached`).
use Rattle.std.specs.Prelude.{◌≡◌, cond, List, [], ◌∷◌, ℕ, suc, ◌≤◌, ◌<◌, eqb, ltb}
use Rattle.chain.specs.Model.{Sess, Group, Meet, core_sess}

-- ---- lists of sessions in order of number

pub data Has (S : Sess) : List Sess → Type 0 where
  here : {T : Sess} {L : List Sess} → S ≡ T → Has S (T ∷ L)
  there : {T : Sess} {L : List Sess} → Has S L → Has S (T ∷ L)

-- the list has the sessions P, all of them and no others
pub record Lists {ℓ} (P : Sess → Type ℓ) (L : List Sess) : Type ℓ where
  pub sound : (F : Sess) → Has F L → P F
  pub complete : (F : Sess) → P F → Has F L

-- the numbers rise, the first being at least n
pub data Rise : ℕ → List Sess → Type 0 where
  stop : {n : ℕ} → Rise n []
  rise : {n : ℕ} {S : Sess} {L : List Sess} → n ≤ S.number → Rise (suc S.number) L → Rise n (S ∷ L)

-- from S on, through L, the numbers rise and each shares a head with the one before
pub data Linked (G : Group) : Sess → List Sess → Type 0 where
  last : {S : Sess} → Linked G S []
  link : {S T : Sess} {L : List Sess} → S.number < T.number → Meet G S.heads T.heads → Linked G T L → Linked G S (T ∷ L)

-- S put in its place by number; nothing where its number is there already
unfoldable pub insert : Sess → List Sess → List Sess
insert S [] = S ∷ []
insert S (T ∷ L) = cond (ltb S.number T.number) (S ∷ T ∷ L) (cond (eqb S.number T.number) (T ∷ L) (T ∷ insert S L))

-- a list put in order of number
unfoldable pub in_order : List Sess → List Sess
in_order [] = []
in_order (S ∷ L) = insert S (in_order L)

-- ---- the statement

-- The sessions P have different numbers, the core group's is one of them, and in order of number each shares a head with the one before.
pub record Safe {ℓ} (G : Group) (P : Sess → Type ℓ) : Type ℓ where
  pub unique : (F E : Sess) → P F → P E → F.number ≡ E.number → F ≡ E
  pub first : P (core_sess G)
  pub chain : (F E : Sess) → P F → P E → F.number < E.number → ((D : Sess) → P D → F.number < D.number → D.number < E.number → ⊥) → Meet G F.heads E.heads
  -- the same of a list of them in rising number: it begins with the core group's and is linked
  pub list : (L : List Sess) → Rise 0 L → Lists P L → (rest : List Sess) × (L ≡ core_sess G ∷ rest) × Linked G (core_sess G) rest
  -- such a list is any list of them, put in order
  pub order : (L : List Sess) → Lists P L → Rise 0 (in_order L) × Lists P (in_order L)
