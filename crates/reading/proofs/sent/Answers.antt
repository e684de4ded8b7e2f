-- The world is the one of the write's answer.
use Rattle.reading.proofs.sent.Goals as goal

pub returns : goal.returns
returns g c = record { answer = c.is_ok-all.result; is = c.after_write.ensures }
