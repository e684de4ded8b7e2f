-- The fresh record (document 01, "The record"): "core heads have last primary (W0, 0), and last formed the same for heads of W0; all else is 0.
-- Heads outside W0 have none." `core` is W0, `least` is Q, `own` the head's number.
use Rattle.std.specs.Prelude.{◌&&◌, cond, List, ℕ, ◌+◌, ◌-◌, ◌*◌, leb, ltb, eqb}
use Rattle.loops.specs.Below.{table}
use Rattle.group.specs.Heads.{has}

-- word 0: "W0 in bits 0-15, Q in 16-23, own head in 24-31, zeros above"
unfoldable pub group_word : ℕ → ℕ → ℕ → ℕ
group_word core least own = core + least * 65536 + own * 16777216

-- word k: word 3 is last primary, words 4-19 last formed for heads 0-15; the word of (W0, 0) is W0
unfoldable pub fresh_word : ℕ → ℕ → ℕ → ℕ → ℕ
fresh_word core least own k =
    cond (eqb k 0) (group_word core least own)
    (cond (has core own && eqb k 3) core
    (cond (has core own && leb 4 k && ltb k 20 && has core (k - 4)) core 0))

unfoldable pub fresh_record : ℕ → ℕ → ℕ → List ℕ
fresh_record core least own = table 52 (fresh_word core least own)
