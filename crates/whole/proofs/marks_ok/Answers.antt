-- Of a used place the definition asks this.
use mathlib.Core.Path.{◌≡◌, sym, ◌∙◌}
use Rattle.std.proofs.Common.{rules}
use Rattle.group.specs.Heads.{less, only, within}
use Rattle.group.specs.Words.{heads}
use Rattle.record.proofs.Laws.Whole.{marks-used}
use Rattle.whole.proofs.marks_ok.Goals as goal

pub returns : goal.returns
returns c =
    let e : c.lies_in.result ≡ within c.args.m (less (heads c.args.w) (only c.args.own)) = search rules in
    e ∙ sym (marks-used _ _ _ c.requires.1)
