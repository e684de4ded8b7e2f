-- The output has room for the line, so it was written.
use mathlib.Core.Path.{◌≡◌, sym}
use native.Mathlib.Omega.{arith}
use lib.ListN.{length}
use Rattle.std.specs.Prelude.{unwrap_or}
use Rattle.lines.specs.Writing.{wrote, write_attempt}
use Rattle.record.specs.Layout.{own}
use Rattle.head.specs.Refusals.{write_attempt_refusal}
use Rattle.head.proofs.Laws.Writing.{write-attempt-done}
use Rattle.head.proofs.session.Session.attempt_written.Goals.{After-write_attempt}
use Rattle.head.proofs.session.Session.attempt_written.Goals as goal

allowed : (c : After-write_attempt) → write_attempt_refusal c.args.self.now c.args.rec.now (length c.args.out.now) ≡ 0
unfolding write_attempt_refusal
allowed c = grind arith

line : (c : After-write_attempt) → wrote (unwrap_or c.write_attempt.result 0) c.write_attempt.new.out ≡ write_attempt c.args.self.now.view (own c.args.rec.now) c.args.out.now
line c = grind arith

pub returns : goal.returns
returns c =
    let p = (goal.at.returns c).After-write_attempt in
    let l = line p in
    let e : unwrap_or c.write_attempt.result 0 ≡ c.in_ok-length.length = grind arith in
    sym (write-attempt-done _ _ _ _ _ (allowed p) (rw e at l))
