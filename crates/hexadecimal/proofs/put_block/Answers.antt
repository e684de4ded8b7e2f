-- Before turn k the first at + k bytes of the frame are there: a byte is made of the values of its two digits.
use mathlib.Core.Path.{◌≡◌, sym, ap, ◌∙◌}
use Prim.Native.Nat.{ℕ, ◌+◌, ◌*◌, ◌<◌}
use native.Mathlib.Nat.{add-zero}
use lib.ListN.{get_or, take}
use native.Mathlib.Omega.{arith}
use Rattle.lines.specs.Hex.{unhex}
use Rattle.lines.proofs.Laws.Hex.{nib-lt, decoded-pair}
use Rattle.hexadecimal.proofs.put_block.Goals as goal

pub loop-k-init : goal.loop-k-init
loop-k-init c =
    let z = add-zero c.args.at in
    ap (λ (m : ℕ). take m c.args.a.now) z ∙ c.requires.2 ∙ sym (ap (λ (m : ℕ). take m (unhex c.args.s.now)) z)

pub overflow_mul-a-in-loop-k : goal.overflow_mul-a-in-loop-k
overflow_mul-a-in-loop-k c =
    let v = c.values_at-n in
    let k = c.loop-k.k in
    let h : get_or v.result (k * 2) 0 < 16 = rw (v.ensures (k * 2) (omega arith)) (nib-lt _) in
    omega arith

pub overflow_add-a-in-loop-k : goal.overflow_add-a-in-loop-k
overflow_add-a-in-loop-k c =
    let v = c.values_at-n in
    let k = c.loop-k.k in
    let h : get_or v.result (k * 2) 0 < 16 = rw (v.ensures (k * 2) (omega arith)) (nib-lt _) in
    let l : get_or v.result (k * 2 + 1) 0 < 16 = rw (v.ensures (k * 2 + 1) (omega arith)) (nib-lt _) in
    omega arith

pub loop-k-preserved : goal.loop-k-preserved
loop-k-preserved c =
    let v = c.values_at-n in
    decoded-pair c.args.s.now c.loop-k.a v.result c.args.at c.loop-k.k (omega arith) (omega arith) (omega arith) v.ensures c.loop-k.invariant

pub returns : goal.returns
returns c =
    let a = c.args in
    let e : c.loop-k.k ≡ 16 = omega arith in
    sym (ap (λ (m : ℕ). take (a.at + m) c.loop-k.a) e) ∙ c.loop-k.invariant ∙ ap (λ (m : ℕ). take (a.at + m) (unhex a.s.now)) e
