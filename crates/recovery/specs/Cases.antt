-- Case 12 of document 01, "Examples of both sides", on records: "Had head 2 formed in view 1: its words 3, 4, 5, 6 become 10007 hex, words 20 and 36 are
-- stored as 0. Cut after the first of the six stores, recovery gives the same record." W0 is 001f and Q is 1.
use Rattle.std.specs.Prelude.{true, ◌≡◌, List, [], ◌∷◌, ◌++◌, ℕ, take, replicate}
use Rattle.store.specs.Desk.{Store, store, apply}
use Rattle.record.specs.Whole.{whole}
use Rattle.recovery.specs.Recover.{mended}
use Rattle.recovery.specs.Changes.{form_change}

-- head 2 has entered view 1 and attempted (0007, 1)
unfoldable pub attempted : List ℕ
attempted = (0x0201001f ∷ 1 ∷ 1 ∷ 0x1f ∷ []) ++ replicate 5 0x1f ++ replicate 11 0 ++ (0x10007 ∷ []) ++ replicate 31 0

unfoldable pub six_stores : List Store
six_stores = store 3 0x10007 ∷ store 4 0x10007 ∷ store 5 0x10007 ∷ store 6 0x10007 ∷ store 20 0 ∷ store 36 0 ∷ []

unfoldable pub formed : List ℕ
formed = (0x0201001f ∷ 1 ∷ 1 ∷ []) ++ replicate 4 0x10007 ++ replicate 2 0x1f ++ replicate 43 0

pub record CaseTwelve : Type 0 where
  pub before : whole attempted ≡ true
  pub stores : form_change attempted 0x10007 ≡ six_stores
  pub after : apply six_stores attempted ≡ formed
  pub cut : mended (apply (take 1 six_stores) attempted) ≡ formed
