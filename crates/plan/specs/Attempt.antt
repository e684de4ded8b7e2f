-- d. "highest number, highest primary (lowest head on a tie): over M, own values as after c. Weigh that primary, and every listed session numbered above it,
-- own as after c and others as received. If M passes the quorum test for all, attempt: (M, highest + 1) goes in the lowest free place with no marks and
-- word 2 takes its number." Here r is the record as after c.
use Rattle.std.specs.Prelude.{Bool, not, cond, ◌&&◌, ◌||◌, List, [], ℕ, ◌+◌, max, eqb, leb, ltb, get_or}
use Rattle.loops.specs.Below.{fold_below, all_below, first_below}
use Rattle.group.specs.Answers.{Said, attempted, no-quorum, numbers-run-out, no_place}
use Rattle.group.specs.Heads.{has, highest}
use Rattle.group.specs.Words.{heads, session, rank, highest_of}
use Rattle.group.specs.Quorum.{passes}
use Rattle.store.specs.Program.{Step}
use Rattle.record.specs.Layout.{core, least, own, number, primary, place_at}
use Rattle.recovery.specs.Changes.{attempt_change}
use Rattle.state.specs.declared.State.{State}
use Rattle.state.specs.declared.Held.{Held}
use Rattle.plan.specs.Members.{held_of}

-- a member's session number and last primary: own as in the record, others as received; none for who is no member
unfoldable pub number_of : ℕ → Held → List ℕ → ℕ → ℕ
number_of m held r q = cond (has m q) (cond (eqb q (own r)) (number r) (held_of held q).number) 0

unfoldable pub primary_of : ℕ → Held → List ℕ → ℕ → ℕ
primary_of m held r q = cond (has m q) (cond (eqb q (own r)) (primary r) (held_of held q).primary) 0

unfoldable pub highest_number : ℕ → Held → List ℕ → ℕ
highest_number m held r = fold_below 16 (λ q n. max n (number_of m held r q)) 0

unfoldable pub highest_primary : ℕ → Held → List ℕ → ℕ
highest_primary m held r = highest_of 16 (primary_of m held r)

-- M passes the quorum test for session w
unfoldable pub passes_for : ℕ → List ℕ → ℕ → Bool
passes_for m r w = passes highest (core r) (least r) (heads w) m

-- session w is not numbered above top, or M passes for it
unfoldable pub weighed : ℕ → List ℕ → ℕ → ℕ → Bool
weighed m r top w = leb (rank w) (rank top) || passes_for m r w

unfoldable pub own_weighed : ℕ → List ℕ → ℕ → Bool
own_weighed m r top = all_below 16 (λ i. weighed m r top (place_at r i))

unfoldable pub state_weighed : ℕ → List ℕ → ℕ → State → Bool
state_weighed m r top st = all_below 16 (λ j. leb st.count j || weighed m r top (get_or st.places j 0))

unfoldable pub listed_weighed : ℕ → Held → List ℕ → ℕ → ℕ → Bool
listed_weighed m held r top q = not (has m q) || cond (eqb q (own r)) (own_weighed m r top) (state_weighed m r top (held_of held q))

unfoldable pub quorate : ℕ → Held → List ℕ → Bool
quorate m held r = passes_for m r (highest_primary m held r) && all_below 16 (listed_weighed m held r (highest_primary m held r))

-- "the lowest free place", 16 where there is none
unfoldable pub lowest_free : List ℕ → ℕ
lowest_free r = first_below 16 (λ i. eqb (place_at r i) 0)

-- "Answers: attempted; no quorum; numbers run out; no place. The last three are tested in that order"
unfoldable pub decision : ℕ → Held → List ℕ → Said
decision m held r =
    cond (not (quorate m held r)) no-quorum
    (cond (leb 4294967295 (highest_number m held r)) numbers-run-out
    (cond (leb 16 (lowest_free r)) no_place attempted))

unfoldable pub attempts : ℕ → Held → List ℕ → Bool
attempts m held r = quorate m held r && ltb (highest_number m held r) 4294967295 && ltb (lowest_free r) 16

-- (M, highest + 1)
unfoldable pub attempt_session : ℕ → Held → List ℕ → ℕ
attempt_session m held r = session (highest_number m held r + 1) m

unfoldable pub attempt_step : ℕ → Held → Step
attempt_step m held r = cond (attempts m held r) (attempt_change (lowest_free r) (attempt_session m held r)) []
