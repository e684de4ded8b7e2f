-- What is left to fill grows less with each call.
use Rattle.std.proofs.Common.{length}
use Rattle.text.proofs.+put_digits.Given as goal

abbrev pub decreases-put_digits : goal.decreases-put_digits
decreases-put_digits l = length l.digits.now
