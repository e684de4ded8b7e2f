-- The characters that a writer stores: pieces spelled one after the other are spelled together, and a frame from the start with its newline is the line.
-- By induction on the list, and the laws of `sets`.
use mathlib.Core.Path.{◌≡◌, refl, sym, ap, ◌∙◌}
use mathlib.Core.List.{List, [], ◌∷◌, ◌++◌, append_assoc, append-nil}
use Prim.Native.Nat.{ℕ, suc, ◌+◌, ◌*◌, ◌/◌, ◌%◌, ◌≤◌, ◌<◌}
use native.Mathlib.Nat.{add-zero, add-suc, suc-add}
use native.Mathlib.Numerals.{add-one}
use native.Mathlib.Omega.{arith}
use borrow.Author.Tests.{le-leb, lt-leb}
use lib.ListN.{length, get_or, take, drop, set, length-append}
use lib.Seq.{sets, sets-eq, take-suc, take-add, length-take-le}
use Rattle.state.specs.declared.State.{State}
use Rattle.lines.specs.Hex.{digit, hex_of}
use Rattle.lines.specs.Writing.{bytes2, bytes4, bytes6, flat, head_bytes, field_bytes, place_bytes, attempt_frame, state_frame, line_for, attempt_line, state_line, spell, wrote, write_attempt, write_state}

-- ---- characters of bytes

pub hex-append : (f g : List ℕ) → hex_of (f ++ g) ≡ hex_of f ++ hex_of g
unfolding hex_of
hex-append [] g = refl
hex-append (b ∷ f) g = ap (λ (r : List ℕ). digit (b / 16) ∷ (digit (b % 16) ∷ r)) (hex-append f g)

pub length-hex : (f : List ℕ) → length (hex_of f) ≡ length f * 2
unfolding hex_of
length-hex [] = refl
length-hex (b ∷ f) = omega (arith, length-hex f)

pub length-flat : (ws : List ℕ) → length (flat ws) ≡ length ws * 6
unfolding flat bytes6 bytes4 bytes2
length-flat [] = refl
length-flat (w ∷ ws) = omega (arith, length-flat ws)

flat_append : (ws vs : List ℕ) → flat (ws ++ vs) ≡ flat ws ++ flat vs
unfolding flat
flat_append [] vs = refl
flat_append (w ∷ ws) vs = ap (λ (r : List ℕ). bytes6 w ++ r) (flat_append ws vs) ∙ sym (append_assoc (bytes6 w) (flat ws) (flat vs))

-- as a loop takes it
pub flat-take : (ws : List ℕ) (i : ℕ) → i < length ws → flat (take i ws) ++ bytes6 (get_or ws i 0) ≡ flat (take (i + 1) ws)
unfolding flat
flat-take ws i h =
    ap (λ (r : List ℕ). flat (take i ws) ++ r) (sym (append-nil (bytes6 (get_or ws i 0))))
    ∙ (sym (flat_append (take i ws) (get_or ws i 0 ∷ [])) ∙ ap flat (sym (take-suc ws i 0 h) ∙ ap (λ (k : ℕ). take k ws) (sym (add-one i))))

-- as a loop over blocks takes it
pub flat_block : (ws : List ℕ) (i n : ℕ) → flat (take i ws) ++ flat (take n (drop i ws)) ≡ flat (take (i + n) ws)
flat_block ws i n = sym (flat_append (take i ws) (take n (drop i ws))) ∙ ap flat (sym (take-add i n ws))

pub length-flat-take : (ws : List ℕ) (i : ℕ) → i ≤ length ws → length (flat (take i ws)) ≡ i * 6
length-flat-take ws i h = length-flat (take i ws) ∙ ap (λ (k : ℕ). k * 6) (length-take-le i ws h)

-- ---- spelling

sets-append : (l : List ℕ) (i : ℕ) (vs ws : List ℕ) → sets (sets l i vs) (i + length vs) ws ≡ sets l i (vs ++ ws)
sets-append l i [] ws = ap (λ (k : ℕ). sets l k ws) (add-zero i)
sets-append l i (a ∷ vs) ws =
    ap (λ (k : ℕ). sets (sets (set l i a) (suc i) vs) k ws) (add-suc i (length vs) ∙ sym (suc-add i (length vs)))
    ∙ sets-append (set l i a) (suc i) vs ws

pub length-six : (v : ℕ) → length (bytes6 v) ≡ 6
unfolding bytes6 bytes4 bytes2
length-six v = refl

-- the start of a state's frame
pub length-start : (k v s n p : ℕ) → length (head_bytes k v s ++ bytes4 n ++ bytes6 p) ≡ 16
unfolding head_bytes bytes6 bytes4 bytes2
length-start k v s n p = refl

-- one piece after another is both together
spell-spell : (d : List ℕ) (at k : ℕ) (f g : List ℕ) → k ≡ at + length f → spell (spell d at f) k g ≡ spell d at (f ++ g)
unfolding spell
spell-spell d at k f g e =
    let h : k * 2 ≡ at * 2 + length (hex_of f) = omega (arith, length-hex f) in
    rw (h, hex-append f g) (sets-append d (at * 2) (hex_of f) (hex_of g))

pub spell-then : (d e g : List ℕ) (at k : ℕ) (f h : List ℕ) → e ≡ spell d at f → k ≡ at + length f → g ≡ spell e k h → g ≡ spell d at (f ++ h)
spell-then d e g at k f h p q r = r ∙ (ap (λ (x : List ℕ). spell x k h) p ∙ spell-spell d at k f h q)

pub spell-none : (d : List ℕ) (at : ℕ) → d ≡ spell d at []
unfolding spell hex_of
spell-none d at = refl

-- as a loop over bytes takes it
pub spell-more : (d e g : List ℕ) (at i : ℕ) (s : List ℕ) → i < length s → e ≡ spell d at (take i s) → g ≡ spell e (at + i) (get_or s i 0 ∷ [])
    → g ≡ spell d at (take (i + 1) s)
spell-more d e g at i s h p q =
    let l : at + i ≡ at + length (take i s) = omega (arith, length-take-le i s (omega arith)) in
    spell-then d e g at (at + i) (take i s) (get_or s i 0 ∷ []) p l q ∙ ap (spell d at) (sym (take-suc s i 0 h) ∙ ap (λ (k : ℕ). take k s) (sym (add-one i)))

pub spell-byte : (d : List ℕ) (at b : ℕ) → set (set d (at * 2) (digit (b / 16))) (at * 2 + 1) (digit (b % 16)) ≡ spell d at (b ∷ [])
unfolding spell hex_of
spell-byte d at b = rw (add-one (at * 2))

-- the newline after a frame that was spelled from the start
spell-line : (d f : List ℕ) (k : ℕ) → k ≡ length f * 2 → length f * 2 + 1 ≤ length d → set (spell d 0 f) k 10 ≡ line_for f ++ drop (length f * 2 + 1) d
unfolding spell line_for
spell-line d f k e h =
    let m : length (hex_of f ++ (10 ∷ [])) ≡ length f * 2 + 1 = length-append (hex_of f) (10 ∷ []) ∙ ap (λ (x : ℕ). x + 1) (length-hex f) in
    let j : k ≡ 0 + length (hex_of f) = omega (arith, length-hex f) in
    let z : 0 + length (hex_of f ++ (10 ∷ [])) ≡ length f * 2 + 1 = omega (arith, m) in
    ap (λ (x : ℕ). set (sets d 0 (hex_of f)) x 10) j
    ∙ sets-append d 0 (hex_of f) (10 ∷ [])
    ∙ sets-eq (hex_of f ++ (10 ∷ [])) d 0 (omega (arith, m))
    ∙ ap (λ (x : ℕ). (hex_of f ++ (10 ∷ [])) ++ drop x d) z

-- ---- the parts of a frame

pub length-head : (k v s : ℕ) → length (head_bytes k v s) ≡ 6
unfolding head_bytes bytes4 bytes2
length-head k v s = refl

pub length_fields : (st : State) → length st.formed ≡ 16 → length (field_bytes st) ≡ 106
unfolding field_bytes bytes6 bytes4 bytes2
length_fields st h = omega (arith, length-flat st.formed)

-- the start and the last formed are the head and the fields
pub start-fields : (head : List ℕ) (st : State) → head ++ bytes4 st.number ++ bytes6 st.primary ++ flat st.formed ≡ head ++ field_bytes st
unfolding field_bytes
start-fields head st =
    append_assoc (head ++ bytes4 st.number) (bytes6 st.primary) (flat st.formed) ∙ append_assoc head (bytes4 st.number) (bytes6 st.primary ++ flat st.formed)

length-places : (st : State) → st.count ≤ length st.places → length (place_bytes st) ≡ 1 + 6 * st.count
unfolding place_bytes
length-places st h = omega (arith, length-flat-take st.places st.count h)

pub length-state : (v s : ℕ) (st : State) → length st.formed ≡ 16 → st.count ≤ length st.places → length (state_frame v s st) ≡ 113 + 6 * st.count
unfolding state_frame
length-state v s st h k =
    omega (
      arith,
      length-append (head_bytes 1 v s) (field_bytes st ++ place_bytes st),
      length-append (field_bytes st) (place_bytes st),
      length-head 1 v s,
      length_fields st h,
      length-places st k,
    )

pub state-line : (d x : List ℕ) (v s : ℕ) (st : State) → length st.formed ≡ 16 → st.count ≤ length st.places → 227 + 12 * st.count ≤ length d
    → x ≡ spell d 0 (head_bytes 1 v s ++ field_bytes st ++ place_bytes st) → set x (226 + 12 * st.count) 10 ≡ state_line v s st ++ drop (227 + 12 * st.count) d
unfolding state_line state_frame
state-line d x v s st h k m e =
    let n = length-state v s st h k in
    let q : length (state_frame v s st) * 2 + 1 ≡ 227 + 12 * st.count = omega arith in
    ap (λ (y : List ℕ). set y (226 + 12 * st.count) 10) (e ∙ ap (spell d 0) (append_assoc (head_bytes 1 v s) (field_bytes st) (place_bytes st)))
    ∙ spell-line d (state_frame v s st) (226 + 12 * st.count) (omega arith) (omega arith)
    ∙ ap (λ (y : ℕ). state_line v s st ++ drop y d) q

pub attempt-line : (d x : List ℕ) (v s : ℕ) → 13 ≤ length d → x ≡ spell d 0 (head_bytes 2 v s) → set x 12 10 ≡ attempt_line v s ++ drop 13 d
unfolding attempt_line attempt_frame head_bytes bytes4 bytes2
attempt-line d x v s h e = ap (λ (y : List ℕ). set y 12 10) e ∙ spell-line d (head_bytes 2 v s) 12 refl h

length-line : (f : List ℕ) → length (line_for f) ≡ length f * 2 + 1
unfolding line_for
length-line f = omega (arith, length-append (hex_of f) (10 ∷ []), length-hex f)

pub length-attempt-line : (v s : ℕ) → length (attempt_line v s) ≡ 13
unfolding attempt_line attempt_frame
length-attempt-line v s = omega (arith, length-line (head_bytes 2 v s), length-head 2 v s)

pub length-state-line : (v s : ℕ) (st : State) → length st.formed ≡ 16 → st.count ≤ length st.places → length (state_line v s st) ≡ 227 + 12 * st.count
unfolding state_line
length-state-line v s st h k = omega (arith, length-line (state_frame v s st), length-state v s st h k)

-- ---- the calls, by what they test

module _ (v s : ℕ) (out : List ℕ) where
  pub attempt-written : (x : List ℕ) → 13 ≤ length out → x ≡ attempt_line v s ++ drop 13 out → wrote 13 x ≡ write_attempt v s out
  unfolding write_attempt
  attempt-written x h e = rw (le-leb _ _ h, e)

  pub attempt-kept-out : length out < 13 → wrote 0 out ≡ write_attempt v s out
  unfolding write_attempt
  attempt-kept-out h = rw (lt-leb _ _ h)

  module _ (st : State) where
    pub state-written : (x : List ℕ) → st.count ≤ 16 → 419 ≤ length out → x ≡ state_line v s st ++ drop (227 + 12 * st.count) out
        → wrote (227 + 12 * st.count) x ≡ write_state v s st out
    unfolding write_state
    state-written x c h e = rw (le-leb _ _ c, le-leb _ _ h, e)

    pub state-many : 16 < st.count → wrote 0 out ≡ write_state v s st out
    unfolding write_state
    state-many c = rw (lt-leb _ _ c)

    pub state-kept-out : st.count ≤ 16 → length out < 419 → wrote 0 out ≡ write_state v s st out
    unfolding write_state
    state-kept-out c h = rw (le-leb _ _ c, lt-leb _ _ h)
