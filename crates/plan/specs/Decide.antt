-- Decide as a program of changes in document 01's order: "Decide: mark words that change, by place. Then adoption .. Then the clearings of c, likewise. Then the attempt".
use Rattle.std.specs.Prelude.{List, [], ◌∷◌, ◌++◌, ℕ}
use Rattle.group.specs.Answers.{Said}
use Rattle.store.specs.Program.{Step, after, up_to}
use Rattle.store.specs.Changes.{Change, changes_of}
use Rattle.state.specs.declared.Held.{Held}
use Rattle.plan.specs.Marks.{mark_step}
use Rattle.plan.specs.Adoption.{adopt_step}
use Rattle.plan.specs.Clearing.{clear_step}
use Rattle.plan.specs.Attempt.{decision, attempt_step}

-- a to c
unfoldable pub learning : ℕ → Held → List Step
learning m held = up_to 16 (mark_step m held) ++ (adopt_step m held ∷ up_to 16 (clear_step m held))

-- the record as after c
unfoldable pub after_c : ℕ → Held → List ℕ → List ℕ
after_c m held r = after (learning m held) r

unfoldable pub decide_program : ℕ → Held → List Step
decide_program m held = learning m held ++ (attempt_step m held ∷ [])

-- the answer of a decide that is not cut
unfoldable pub decide_answer : ℕ → Held → List ℕ → Said
decide_answer m held r = decision m held (after_c m held r)

unfoldable pub decide_changes : ℕ → Held → List ℕ → List Change
decide_changes m held r = changes_of (decide_program m held) r
