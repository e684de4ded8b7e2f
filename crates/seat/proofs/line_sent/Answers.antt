-- The writing call's own contract, on an output of zeros.
use Rattle.std.proofs.Common.{ap, ℕ, ◌∙◌}
use Rattle.keeping.specs.Keeping.{blank}
use Rattle.seat.specs.Seat.{sent_line}
use Rattle.seat.proofs.line_sent.Goals as goal

pub returns : goal.returns
unfolding blank
returns c = ap (λ (n : ℕ). record { len = n; bytes = c.wrote-next.new.out }) c.chars_of.ensures ∙ ap sent_line c.wrote-next.ensures
