-- Start (document 01, "The calls" and "Numbers a refused call returns").
use Rattle.std.specs.Prelude.{Bool, cond, ◌&&◌, List, ℕ, eqb, leb, length}
use Rattle.group.specs.Answers.{started, refused}
use Rattle.group.specs.Quorum.{is_group}
use Rattle.group.specs.Fresh.{fresh_record}
use Rattle.record.specs.Outcome.{Outcome}

-- "A start given Q as 0 takes the default 1; no other zero means a default."
unfoldable pub taken_least : ℕ → ℕ
taken_least q = cond (eqb q 0) 1 q

-- not refusal 1: "start: head over 15; start and quorum test: W0 empty, Q over its size"
unfoldable pub can_start : ℕ → ℕ → ℕ → Bool
can_start head core least = leb head 15 && is_group core least

-- refusal 1, then 2: "record not 52 words (start too) .. (.. start: contents don't matter)"; a refused call keeps the record
unfoldable pub start_spec : List ℕ → ℕ → ℕ → ℕ → Outcome
start_spec r head core least =
    cond (can_start head core (taken_least least))
    (cond (eqb (length r) 52)
    (record { answer = started; rec = fresh_record core (taken_least least) head })
    (record { answer = refused 2; rec = r }))
    (record { answer = refused 1; rec = r })
