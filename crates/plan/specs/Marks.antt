-- a. "mark q in place S if q is in S and M and q's last formed for p has a number below S's"
use Rattle.std.specs.Prelude.{Bool, cond, ◌&&◌, List, ℕ, ltb}
use Rattle.loops.specs.Below.{fold_below}
use Rattle.group.specs.Heads.{has, either, only}
use Rattle.group.specs.Words.{rank}
use Rattle.store.specs.Desk.{where_changed}
use Rattle.store.specs.Program.{Step}
use Rattle.record.specs.Layout.{place_at, marks_at, store_marks}
use Rattle.state.specs.declared.Held.{Held}
use Rattle.plan.specs.Members.{other, formed_with}

unfoldable pub to_mark : ℕ → Held → List ℕ → ℕ → ℕ → Bool
to_mark m held r i q = has (place_at r i) q && other m r q && ltb (rank (formed_with held r q)) (rank (place_at r i))

-- the set with each head added that passes the test
unfoldable pub adding : (ℕ → Bool) → ℕ → ℕ
adding test s = fold_below 16 (λ q all. cond (test q) (either all (only q)) all) s

-- the marks of place i after a
unfoldable pub marked : ℕ → Held → List ℕ → ℕ → ℕ
marked m held r i = adding (to_mark m held r i) (marks_at r i)

-- "Decide: mark words that change, by place"
unfoldable pub mark_step : ℕ → Held → ℕ → Step
mark_step m held i r = where_changed (store_marks i (marked m held r i)) r
