-- A record made to be t, field by field in the order of its words (document 01, "Stores and cuts"): "It stores only words that change."
use Rattle.std.specs.Prelude.{List, ◌∷◌, ◌++◌, ℕ}
use Rattle.store.specs.Desk.{where_changed}
use Rattle.store.specs.Program.{Step, up_to}
use Rattle.record.specs.Layout.{settings, entered, number, primary, formed_for, place_at, marks_at, store_settings, store_entered, store_number, store_primary, store_formed, store_place, store_marks}

unfoldable pub store_record : List ℕ → List Step
store_record t =
    where_changed (store_settings (settings t))
    ∷ (where_changed (store_entered (entered t))
    ∷ (where_changed (store_number (number t))
    ∷ (where_changed (store_primary (primary t))
    ∷ (up_to 16 (λ q. where_changed (store_formed q (formed_for t q)))
    ++ (up_to 16 (λ i. where_changed (store_place i (place_at t i)))
    ++ up_to 16 (λ i. where_changed (store_marks i (marks_at t i))))))))
