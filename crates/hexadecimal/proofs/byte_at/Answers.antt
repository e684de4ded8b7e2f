-- A byte is spelled by its two characters.
use Rattle.lines.proofs.Laws.Hex.{unhex-at}
use Rattle.hexadecimal.proofs.byte_at.Goals as goal

pub returns : goal.returns
returns c =
    cc (c.nibble.ensures.value, c.nibble-2.ensures.value, unhex-at c.args.s.now c.args.at c.requires)
