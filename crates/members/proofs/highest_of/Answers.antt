-- The fold over the sessions is the recursion over their indexes.
use mathlib.Core.Path.{◌≡◌, refl, ◌∙◌}
use mathlib.Core.Bool.{cond}
use mathlib.Core.List.{List}
use lib.Dec.{ltb}
use lib.ListN.{length, get_or}
use Rattle.std.proofs.Common.{ℕ, rules}
use Rattle.std.specs.List.{fold}
use Rattle.loops.proofs.Laws.Chains.{fold-chain}
use Rattle.group.specs.Words.{rank, highest_of}
use Rattle.members.proofs.highest_of.Goals as goal

highest-chain : {w : ℕ} (words : List ℕ) → length words ≡ 16 → w ≡ fold (λ w v. cond (ltb (rank w) (rank v)) v w) 0 words → w ≡ highest_of 16 (λ i. get_or words i 0)
unfolding highest_of
highest-chain words h e = e ∙ fold-chain _ _ 0 words 0 16 h (λ i s k. refl)

pub returns : goal.returns
returns c = highest-chain c.args.words.now c.told-words (search rules)
