-- What is held is moved to the start before the read, which only writes behind it; the world is the one of its answer.
use Rattle.std.proofs.Common.{◌≡◌, ℕ, ◌≤◌, ◌-◌, List, length, take, arith}
use Rattle.std.specs.Prelude.{Option, Result, Ok, Err, IfOk, IfSome}
use Rattle.std.specs.Result.{result_ok}
use Rattle.std.proofs.Math.Seq.{take_at, length-take-le}
use Rattle.reading.specs.Reading.{held_count}
use Rattle.reading.proofs.Laws.{held_stays, room-behind}
use Rattle.reading.proofs.filled.Goals as goal

-- a read answers at most the room that it was lent
can-answer : {E : Type 0} (r : Result ℕ E) (answer : Option ℕ) (bs : List ℕ) (room : ℕ) → answer ≡ result_ok r → IfOk r (λ n. (n ≤ length bs) × (n ≡ length (take n bs))) → length bs ≡ room → IfSome answer (λ n. n ≤ room)
can-answer (Ok n) answer bs room e h l = rw e (omega arith)
can-answer (Err x) answer bs room e h l = rw e tt

pub returns : goal.returns
returns g c =
    let h = c.held_of-held in
    let mid = c.keep.new.buf in
    let fits : h.result ≤ length mid = omega (arith, h.ensures.2, c.requires.0.long) in
    record {
      kept = held_stays c.args.buf.now mid _ c.args.w h.result h.ensures.0 c.keep.ensures (take_at (take h.result mid) _ h.result (length-take-le h.result mid fits));
      answer = c.ok-got.result;
      can = can-answer c.read.result c.ok-got.result c.read.new.buf (8192 - held_count c.args.w) c.ok-got.ensures.value c.read.ensures.bound (omega (arith, h.ensures.0, c.requires.0.long, room-behind mid h.result, c.read.auto.buf));
      is = c.after_read.ensures;
    }
