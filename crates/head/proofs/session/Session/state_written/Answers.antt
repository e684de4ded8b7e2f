-- The record is whole, and the output has room for the line, so it was written.
use mathlib.Core.Path.{◌≡◌, sym}
use native.Mathlib.Nat.{lt_irrefl}
use native.Mathlib.Omega.{arith}
use lib.ListN.{length}
use Rattle.std.specs.Prelude.{unwrap_or}
use Rattle.lines.specs.Writing.{wrote, write_state}
use Rattle.record.specs.Layout.{own}
use Rattle.telling.specs.Telling.{tells}
use Rattle.head.specs.Refusals.{write_state_refusal}
use Rattle.head.proofs.Laws.Fits.{usable-whole}
use Rattle.head.proofs.Laws.Writing.{state-length, write-state-done}
use Rattle.head.proofs.session.Session.state_written.Goals.{After-write_state}
use Rattle.head.proofs.session.Session.state_written.Goals as goal

allowed : (c : After-write_state) → write_state_refusal c.args.self.now c.args.rec.now (length c.args.out.now) ≡ 0
unfolding write_state_refusal
allowed c = grind arith

line : (c : After-write_state) → wrote (unwrap_or c.write_state.result 0) c.write_state.new.out ≡ write_state c.args.self.now.view (own c.args.rec.now) (tells c.args.rec.now) c.args.out.now
line c = grind arith

pub tell-requires : goal.tell-requires
tell-requires c = grind (arith, usable-whole)

pub returns-in_err-length : goal.returns-in_err-length
returns-in_err-length c =
    let p = (goal.at.returns-in_err-length c).After-write_state in
    let e : unwrap_or c.write_state.result 0 ≡ 0 = grind arith in
    let some = state-length _ _ _ _ _ (allowed p) (line p) in
    absurd (lt_irrefl 0 (rw e at some))

pub returns : goal.returns
returns c =
    let p = (goal.at.returns c).After-write_state in
    let l = line p in
    let e : unwrap_or c.write_state.result 0 ≡ c.in_ok-length.length = grind arith in
    sym (write-state-done _ _ _ _ _ (allowed p) (rw e at l))
