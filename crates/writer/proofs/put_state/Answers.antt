-- The parts are the frame, spelled from the start, and the newline makes it a line.
use mathlib.Core.List.{◌++◌, ◌∷◌, [], append_assoc}
use mathlib.Core.Path.{◌≡◌, ◌∙◌, ap}
use native.Mathlib.Omega.{arith}
use lib.ListN.{length-append, length, take}
use Rattle.lines.specs.Writing.{bytes4, bytes6, flat, field_bytes, place_bytes, head_bytes, spell}
use Rattle.lines.proofs.Laws.Writing.{length-head, length-six, length-start, length_fields, start-fields, state-line, spell-then}
use Rattle.writer.proofs.Laws.{four-bytes}
use Rattle.writer.proofs.put_state.Goals as goal

pub returns : goal.returns
unfolding place_bytes
returns c =
    let st = c.args.st.now in
    let head = head_bytes 1 c.args.view c.args.sender in
    let formed : length st.formed ≡ 16 = omega arith in
    let places : length st.places ≡ 16 = omega arith in
    let six = length-head 1 c.args.view c.args.sender in
    let start = length-start 1 c.args.view c.args.sender st.number st.primary in
    let number : c.to_be_bytes.result ≡ bytes4 st.number = c.to_be_bytes.ensures ∙ four-bytes st.number in
    let u = c.put_bytes.ensures ∙ ap (spell _ 0) c.head_bytes.ensures in
    let v = spell-then _ _ _ _ _ _ _ u (omega (arith, six)) (c.put_bytes-2.ensures ∙ ap (spell _ 6) number) in
    let w = spell-then _ _ _ _ _ _ _ v (omega (arith, start, length-append (head ++ bytes4 st.number) (bytes6 st.primary), length-six st.primary)) (c.put_bytes-3.ensures ∙ ap (spell _ 10) c.session_bytes.ensures) in
    let x = spell-then _ _ _ _ _ _ _ w (omega (arith, start)) c.put_words.ensures ∙ ap (spell _ 0) (start-fields head st) in
    let y = spell-then _ _ _ _ _ _ _ x (omega (arith, six, length-append head (field_bytes st), length_fields st formed)) c.put_bytes-4.ensures in
    let z = spell-then _ _ _ _ _ _ _ y (omega (arith, six, length-append (head ++ field_bytes st) (st.count ∷ []), length-append head (field_bytes st), length_fields st formed)) c.put_words-2.ensures ∙ ap (spell _ 0) (append_assoc (head ++ field_bytes st) (st.count ∷ []) (flat (take st.count st.places))) in
    state-line _ _ _ _ st formed (omega arith) (omega arith) z
