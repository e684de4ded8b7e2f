-- The first refusal of each call in document 01's order (the table's; 13 is tested last), 0 for none, over the numbers that it depends on. `fit` says that the
-- record is whole and the session fits it, which refusal 2 denies. A stage is 0 none, 1 undecided, 2 closed, 3 attempted, 4 formed.
use Rattle.std.specs.Prelude.{Bool, not, cond, ◌||◌, ℕ, eqb, leb, ltb, Result, Ok, Err, ⊤}
use Rattle.group.specs.declared.answers.Refusal.{Refusal}
use Rattle.group.specs.Answers.{refusal_number}
use Rattle.group.specs.Heads.{has}

-- the number that a call's check gives, 0 where it passes: "a definition gives this paper's number .. for each enum case"
abbrev pub check_number : Result Unit Refusal → ℕ
check_number (Ok passed) = 0
check_number (Err why) = refusal_number why

-- enter view with heads m, for own head and the highest view entered: 2, 4 "own head .. not in M", 5 "view at or below word 1"
abbrev pub enter_refused : Bool → ℕ → ℕ → ℕ → ℕ → ℕ
enter_refused fit own last view m =
    cond (not fit) 2
    (cond (not (has m own)) 4
    (cond (leb view last) 5 0))

-- hear a state of view and sender x, its line read, in the session of view `opened`: 6 none, 7 "line of another view", 4 "sender not in M", 8 "this sender was
-- heard, or is own head"
abbrev pub state_refused : ℕ → ℕ → ℕ → ℕ → ℕ → ℕ → ℕ → ℕ
state_refused stage opened m states own view x =
    cond (eqb stage 0) 6
    (cond (not (eqb view opened)) 7
    (cond (not (has m x)) 4
    (cond (has states x || eqb x own) 8 0)))

-- hear an attempt, its line read: 6, 7, 4, 12 "session closed by decide", 8
abbrev pub attempt_refused : ℕ → ℕ → ℕ → ℕ → ℕ → ℕ → ℕ → ℕ
attempt_refused stage opened m attempts own view x =
    cond (eqb stage 0) 6
    (cond (not (eqb view opened)) 7
    (cond (not (has m x)) 4
    (cond (eqb stage 2) 12
    (cond (has attempts x || eqb x own) 8 0))))

-- decide: 2, 6, 10 "after deciding", 9 "with a member not yet heard"
abbrev pub decide_refused : Bool → ℕ → ℕ → ℕ → ℕ
decide_refused fit stage m states =
    cond (not fit) 2
    (cond (eqb stage 0) 6
    (cond (not (eqb stage 1)) 10
    (cond (not (eqb states m)) 9 0)))

-- form: 2, 6, 12, 10 "after forming", 11 "before deciding", 9
abbrev pub form_refused : Bool → ℕ → ℕ → ℕ → ℕ
form_refused fit stage m attempts =
    cond (not fit) 2
    (cond (eqb stage 0) 6
    (cond (eqb stage 2) 12
    (cond (eqb stage 4) 10
    (cond (eqb stage 1) 11
    (cond (not (eqb attempts m)) 9 0)))))

-- write state into an output of so many characters: 2, 6, 10 "after deciding", 13 "output under 419 characters for a state"
abbrev pub write_state_refused : Bool → ℕ → ℕ → ℕ
write_state_refused fit stage room =
    cond (not fit) 2
    (cond (eqb stage 0) 6
    (cond (not (eqb stage 1)) 10
    (cond (ltb room 419) 13 0)))

-- write attempt: 2, 6, 12, 11 "before deciding", 13 "13 for an attempt"
abbrev pub write_attempt_refused : Bool → ℕ → ℕ → ℕ
write_attempt_refused fit stage room =
    cond (not fit) 2
    (cond (eqb stage 0) 6
    (cond (eqb stage 2) 12
    (cond (eqb stage 1) 11
    (cond (ltb room 13) 13 0))))
