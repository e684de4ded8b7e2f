-- A read leaves the bench ready for its lines; what those lines come to, and the write of what they print, leave the world calm again.
use Rattle.std.proofs.Common.{◌≡◌, length, rules}
use Rattle.bench.proofs.Laws.{holds-now, calm-after}
use Rattle.bench.proofs.run.Goals as goal

pub steps-requires : goal.steps-requires
steps-requires g c =
    let l = c.loop-desk in
    let long : length c.filled-desk.new.buf ≡ 8192 = search rules in
    let room : length l.out ≡ 196608 = search rules in
    holds-now l.buf c.filled-desk.new.buf l.out l.desk.world _ l.invariant long room c.filled-desk.ensures

pub loop-desk-preserved : goal.loop-desk-preserved
loop-desk-preserved g c =
    let l = c.loop-desk in
    let buf = c.filled-desk.new.buf in
    calm-after buf l.buf buf c.steps.new.out l.desk.world c.filled-desk.result c.steps.new.self c.sent-desk.result c.filled-desk.ensures c.steps.ensures.1.part c.steps.ensures.0 c.sent-desk.ensures
