-- THE THEOREM. The formed sessions of every history of the model (`safe-history`, in Reach) and of every reached world are safe; and so with
-- document 01's quorum test, for every W0 and Q that start takes and every assignment of memberships to view numbers.
use mathlib.Core.Path.{◌≡◌}
use mathlib.Core.Bool.{true}
use Prim.Native.Nat.{ℕ}
use Rattle.group.specs.Heads.{highest}
use Rattle.group.specs.Quorum.{is_group}
use Rattle.chain.specs.Model.{Group, Lawful, core_sess}
use Rattle.chain.specs.Reach.{formed-core}
use Rattle.chain.specs.World.{World, Reached}
use Rattle.chain.specs.Quorum.{group_of}
use Rattle.chain.specs.Safety.{Safe}
use Rattle.chain.proofs.Laws.Reach.{safe-history}
use Rattle.chain.proofs.Laws.Listed.{safe-by}
use Rattle.chain.proofs.Laws.World.{behind}
use Rattle.chain.proofs.Laws.Quorum.{highest-lawful}

pub safe : {G : Group} {W : World} → Lawful G → Reached G W → Safe G W.formed
safe {G} {W} K r =
    let (H, k) = behind G r in
    let s = safe-history K k.valid in
    safe-by G W.formed
    (λ F E a b l n. s.chain F E (k.formed F a) (k.formed E b) l (λ D d. n D (k.back D d)))
    (k.back (core_sess G) formed-core)
    (λ F E a b e. s.unique F E (k.formed F a) (k.formed E b) e)

pub safe-highest : {W : World} (core least : ℕ) (members : ℕ → ℕ) → is_group core least ≡ true
    → Reached (group_of highest core least members) W → Safe (group_of highest core least members) W.formed
safe-highest core least members k r = safe (highest-lawful core least members k) r
