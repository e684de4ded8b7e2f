-- Before each turn the sessions before it are spelled: those of whole blocks, and then the others.
use Rattle.std.proofs.Common.{arith, ◌<◌, ◌≡◌, ◌∙◌, ap, ◌+◌, ◌*◌, ◌/◌, ◌++◌, length, get_or, take, drop, List, ℕ, []}
use lib.ListN.{length-drop}
use lib.Seq.{get_or-drop, length-take-le}
use Rattle.std.specs.List.{flat_map}
use Rattle.loops.specs.Below.{table}
use Rattle.lines.specs.Writing.{flat, spell, bytes6}
use Rattle.lines.proofs.Laws.Writing.{spell-then, spell-none, flat-take, flat_block, length-flat-take}
use Rattle.writer.proofs.Laws.{eight-at, flat-table}
use Rattle.writer.proofs.put_words.Goals as goal

pub loop-i-init : goal.loop-i-init
unfolding flat
loop-i-init c = spell-none _ _

pub loop-i-preserved : goal.loop-i-preserved
loop-i-preserved c =
    let ws = c.args.words.now in
    let i = c.loop-i.i in
    let whole : get_or c.as_chunks.result.0.now i [] ≡ take 8 (drop (i * 8) ws) =
    ap (λ (bs : List (List ℕ)). get_or bs i []) c.as_chunks.ensures.front ∙ eight-at (length ws / 8) i ws (omega (arith, c.as_chunks.ensures.front_len)) in
    let next : i * 8 + 8 ≡ (i + 1) * 8 = omega arith in
    let block = take 8 (drop (i * 8) ws) in
    let size : length block ≡ 8 = length-take-le 8 (drop (i * 8) ws) (omega (arith, length-drop (i * 8) ws, c.as_chunks.ensures.front_len)) in
    let bytes : c.as_flattened.result.now ≡ flat block =
    c.as_flattened.ensures.value
    ∙ ap (flat_map (λ (x : List ℕ). x)) (c.block_bytes.ensures ∙ ap (λ (l : List ℕ). table 8 (λ k. bytes6 (get_or l k 0))) whole)
    ∙ flat-table 8 block size in
    let more : flat (take (i * 8) ws) ++ c.as_flattened.result.now ≡ flat (take ((i + 1) * 8) ws) =
    ap (λ (x : List ℕ). flat (take (i * 8) ws) ++ x) bytes ∙ flat_block ws (i * 8) 8 ∙ ap (λ (n : ℕ). flat (take n ws)) next in
    spell-then _ _ _ _ _ _ _ c.loop-i.invariant (omega (arith, length-flat-take ws (i * 8) (omega (arith, c.as_chunks.ensures.front_len)))) c.put_bytes.ensures ∙ ap (spell _ _) more

pub loop-i-2-preserved : goal.loop-i-2-preserved
loop-i-2-preserved c =
    let ws = c.args.words.now in
    let n = length c.as_chunks.result.0.now * 8 + c.loop-i-2.i in
    let at : n < length ws = omega (arith, c.as_chunks.ensures.front_len, c.as_chunks.ensures.back_len) in
    let from : length ws / 8 * 8 + c.loop-i-2.i ≡ n = omega (arith, c.as_chunks.ensures.front_len) in
    let word : get_or c.as_chunks.result.1.now c.loop-i-2.i 0 ≡ get_or ws n 0 =
    ap (λ (l : List ℕ). get_or l c.loop-i-2.i 0) c.as_chunks.ensures.back ∙ get_or-drop (length ws / 8 * 8) ws c.loop-i-2.i 0 ∙ ap (λ (m : ℕ). get_or ws m 0) from in
    let next : n + 1 ≡ length c.as_chunks.result.0.now * 8 + (c.loop-i-2.i + 1) = omega arith in
    let more : flat (take n ws) ++ c.session_bytes.result ≡ flat (take (length c.as_chunks.result.0.now * 8 + (c.loop-i-2.i + 1)) ws) =
    ap (λ (x : List ℕ). flat (take n ws) ++ x) (c.session_bytes.ensures ∙ ap bytes6 word) ∙ flat-take ws n at ∙ ap (λ (m : ℕ). flat (take m ws)) next in
    spell-then _ _ _ _ _ _ _ c.loop-i-2.invariant (omega (arith, length-flat-take ws n (omega arith))) c.put_bytes-in-loop-i-2.ensures ∙ ap (spell _ _) more
