-- A frame is made of its fields, so a line that reads is the line written from what it reads as; and each field of a written frame reads back, so what is
-- written reads back.
use mathlib.Core.Path.{◌≡◌, refl, sym, ap, ap₂, ◌∙◌, subst}
use mathlib.Core.Bool.{true}
use mathlib.Core.List.{List, [], ◌∷◌, ◌++◌, append_assoc, append-nil}
use mathlib.Core.Logic.{⊎_elim}
use Prim.Native.Nat.{ℕ, suc, ◌+◌, ◌*◌, ◌≤◌, ◌<◌}
use native.Mathlib.Omega.{arith}
use native.Mathlib.Decide.{dec_lt}
use borrow.Author.Tests.{eqb-true, le-leb, eq-eqb}
use lib.ListN.{length, get_or, take, drop, length-append, length-drop, drop_of_length-le, get_or-eq_default}
use lib.Seq.{get_or-drop, get_or-take, drop-drop, take_at, drop_at, drop-cons, length-take-le}
use lib.Dec.{leb, eqb}
use Rattle.loops.proofs.Laws.Truth.{and_right}
use Rattle.group.specs.Words.{num}
use Rattle.state.specs.declared.State.{State}
use Rattle.state.specs.Values.{no_state, padded, Tidy}
use Rattle.state.specs.Rules.{broken, keeps_rules}
use Rattle.state.proofs.Laws.Kept.{Kept, kept}
use Rattle.lines.specs.Read.{Read, StateLine, AttemptLine}
use Rattle.lines.specs.Hex.{hex_of, unhex, line_end, line_of, rest_of}
use Rattle.lines.specs.Frame.{four, six, words}
use Rattle.lines.specs.Reading.{kind_of, view_of, sender_of, count_of, state_of, rule1, rule3, state_fits, later_broken, judged, read_line}
use Rattle.lines.specs.Writing.{bytes2, bytes4, bytes6, flat, head_bytes, field_bytes, place_bytes, attempt_frame, state_frame, line_for, attempt_line, state_line}
use Rattle.lines.specs.Theorems.{HeadKept, StateKept, Keeps, written, WasRead}
use Rattle.lines.proofs.Laws.Hex.{length-unhex, byte-lt}
use Rattle.lines.proofs.Laws.Frame.{words-length}
use Rattle.lines.proofs.Laws.Reading.{head-true, head_ok, fits-true, fits-ok, attempt-kept, state-kept, passed, kinds, first-line}
use Rattle.lines.proofs.Laws.Writing.{length-hex, length-flat, length-head, length-state}
use Rattle.lines.proofs.Laws.HexBack.{Below, Bytes, hex-unhex, unhex-hex, digits-hex, line-end-digits}
use Rattle.lines.proofs.Laws.FrameBack.{four_bytes, six-bytes, words-flat, bytes_drop, cut4, cut6, cut-words, padded-full, take-padded, length-padded, four-lt, below-append, below_one, bytes-bytes4, bytes-bytes6, bytes-flat}

-- ---- a frame is made of its fields

frame-head : (f : List ℕ) → Bytes f → 6 ≤ length f → f ≡ head_bytes (kind_of f) (view_of f) (sender_of f) ++ drop 6 f
unfolding head_bytes kind_of view_of sender_of bytes4 bytes2
frame-head f h n =
    drop-cons f 0 0 (omega arith)
    ∙ ap (λ (r : List ℕ). get_or f 0 0 ∷ r)
    (cut4 (drop 1 f) (bytes_drop f 1 h) (omega (arith, length-drop 1 f))
    ∙ ap (λ (r : List ℕ). bytes4 (four (drop 1 f)) ++ r) (drop-drop 4 1 f ∙ drop-cons f 5 0 (omega arith)))

frame-fields : (f : List ℕ) → Bytes f → 112 ≤ length f → drop 6 f ≡ field_bytes (state_of f) ++ drop 112 f
unfolding field_bytes state_of
frame-fields f h n =
    let w = words 16 (drop 16 f) in
    let e = padded-full w (words-length 16 (drop 16 f)) in
    cut4 (drop 6 f) (bytes_drop f 6 h) (omega (arith, length-drop 6 f))
    ∙ (ap (λ (r : List ℕ). bytes4 (four (drop 6 f)) ++ r)
    (drop-drop 4 6 f ∙ (cut6 (drop 10 f) (bytes_drop f 10 h) (omega (arith, length-drop 10 f))
    ∙ ap (λ (r : List ℕ). bytes6 (six (drop 10 f)) ++ r)
    (drop-drop 6 10 f ∙ (cut-words 16 (drop 16 f) (bytes_drop f 16 h) (omega (arith, length-drop 16 f))
    ∙ ap₂ (λ (x y : List ℕ). flat x ++ y) (sym e) (drop-drop 96 16 f)))))
    ∙ (ap (λ (r : List ℕ). bytes4 (four (drop 6 f)) ++ r) (sym (append_assoc (bytes6 (six (drop 10 f))) (flat (padded w)) (drop 112 f)))
    ∙ sym (append_assoc (bytes4 (four (drop 6 f))) (bytes6 (six (drop 10 f)) ++ flat (padded w)) (drop 112 f))))

frame-places : (f : List ℕ) → Bytes f → length f ≡ 113 + 6 * count_of f → drop 112 f ≡ place_bytes (state_of f)
unfolding place_bytes state_of count_of
frame-places f h n =
    let c = get_or f 112 0 in
    let w = words c (drop 113 f) in
    let k : c * 6 ≤ length (drop 113 f) = omega (arith, length-drop 113 f) in
    let z : drop (c * 6) (drop 113 f) ≡ [] = drop_of_length-le (drop 113 f) {i = c * 6} (omega (arith, length-drop 113 f)) in
    drop-cons f 112 0 (omega arith)
    ∙ ap (λ (r : List ℕ). c ∷ r)
    (cut-words c (drop 113 f) (bytes_drop f 113 h) k
    ∙ (ap (λ (r : List ℕ). flat w ++ r) z ∙ (append-nil (flat w) ∙ ap flat (sym (take-padded w c (words-length c (drop 113 f)))))))

frame-state : (f : List ℕ) → Bytes f → kind_of f ≡ 1 → length f ≡ 113 + 6 * count_of f → f ≡ state_frame (view_of f) (sender_of f) (state_of f)
unfolding state_frame
frame-state f h k n =
    frame-head f h (omega arith)
    ∙ (ap (λ (x : ℕ). head_bytes x (view_of f) (sender_of f) ++ drop 6 f) k
    ∙ ap (λ (r : List ℕ). head_bytes 1 (view_of f) (sender_of f) ++ r)
    (frame-fields f h (omega arith) ∙ ap (λ (r : List ℕ). field_bytes (state_of f) ++ r) (frame-places f h n)))

frame-attempt : (f : List ℕ) → Bytes f → kind_of f ≡ 2 → length f ≡ 6 → f ≡ attempt_frame (view_of f) (sender_of f)
unfolding attempt_frame
frame-attempt f h k n =
    frame-head f h (omega arith)
    ∙ (ap₂ (λ (x : ℕ) (r : List ℕ). head_bytes x (view_of f) (sender_of f) ++ r) k (drop_of_length-le f {i = 6} (omega arith))
    ∙ append-nil (head_bytes 2 (view_of f) (sender_of f)))

-- ---- what reads keeps the rules, and is written as it stands

tidy-state : (f : List ℕ) → Bytes f → count_of f ≤ 16 → Tidy (state_of f)
unfolding state_of
tidy-state f h n =
    let a = words 16 (drop 16 f) in
    let c = words (count_of f) (drop 113 f) in
    let m = words-length (count_of f) (drop 113 f) in
    record {
      number = four-lt (drop 6 f) (bytes_drop f 6 h);
      formed = length-padded a (omega (arith, words-length 16 (drop 16 f)));
      places = length-padded c (omega arith);
      count = n;
      free = ap padded (sym (take-padded c (count_of f) m));
    }

head-kept : (f : List ℕ) → Bytes f → rule3 f ≡ true → HeadKept (view_of f) (sender_of f)
unfolding view_of
head-kept f h e =
    let k = head-true f e in
    let l = four-lt (drop 1 f) (bytes_drop f 1 h) in
    record { some = omega (arith, k.0); view = l; sender = omega (arith, k.1) }

rules-kept : (f : List ℕ) (p : ℕ) → count_of f ≤ 16 → broken (state_of f) p ≡ 0 → keeps_rules (state_of f) p ≡ true
unfolding keeps_rules state_of
rules-kept f p n e = simp (le-leb _ _ n, eq-eqb _ _ e)

-- the line of a frame
abbrev FromLine : List ℕ → Read → Type 0
FromLine l r = Keeps r × (l ++ (10 ∷ []) ≡ written r)

module _ (l : List ℕ) (d : rule1 l ≡ true) (t : rule3 (unhex l) ≡ true) where
  from-state : kind_of (unhex l) ≡ 1 → state_fits (length l) (unhex l) ≡ true → later_broken (unhex l) ≡ 0 → FromLine l (judged l)
  unfolding rule1 later_broken state_line line_for
  from-state k a e =
      let f = unhex l in
      let n = fits-true (length l) f a in
      let m : length f ≡ 113 + 6 * count_of f = omega (arith, length-unhex l) in
      let b : broken (state_of f) (sender_of f) ≡ 0 = rw k at e in
      subst (FromLine l) (sym (state-kept l d k a t b)) (
        record { head = head-kept f (byte-lt l) t; tidy = tidy-state f (byte-lt l) n.0; rules = rules-kept f (sender_of f) n.0 b },
        ap (λ (x : List ℕ). x ++ (10 ∷ [])) (sym (hex-unhex l d (omega (arith, length-unhex l))) ∙ ap hex_of (frame-state f (byte-lt l) k m)),
      )

  from-attempt : kind_of (unhex l) ≡ 2 → length l ≡ 12 → FromLine l (judged l)
  unfolding rule1 attempt_line line_for
  from-attempt k a =
      let f = unhex l in
      let m : length f ≡ 6 = omega (arith, length-unhex l) in
      subst (FromLine l) (sym (attempt-kept l d k a t)) (
        (head-kept f (byte-lt l) t, refl),
        ap (λ (x : List ℕ). x ++ (10 ∷ [])) (sym (hex-unhex l d (omega (arith, length-unhex l))) ∙ ap hex_of (frame-attempt f (byte-lt l) k m)),
      )

pub from-line : (l : List ℕ) → WasRead (judged l) → FromLine l (judged l)
from-line l w =
    let p = passed l w in
    ⊎_elim
    (λ k. from-state l p.one p.three k.0 k.1 p.later)
    (λ k. from-attempt l p.one p.three k.0 k.1)
    (kinds (length l) (unhex l) p.two)

-- ---- a text that begins with a written line

line-split : (f r : List ℕ) → line_for f ++ r ≡ hex_of f ++ (10 ∷ r)
unfolding line_for
line-split f r = append_assoc (hex_of f) (10 ∷ []) r

pub line-end-back : (f r : List ℕ) → Bytes f → line_end (line_for f ++ r) ≡ length (hex_of f)
line-end-back f r h = ap line_end (line-split f r) ∙ line-end-digits (hex_of f) r (digits-hex f h)

line-back : (f r : List ℕ) → Bytes f → read_line (line_for f ++ r) ≡ judged (hex_of f)
unfolding line_of
line-back f r h =
    let e = line-end-back f r h in
    let n = ap length (line-split f r) ∙ length-append (hex_of f) (10 ∷ r) in
    first-line (line_for f ++ r) (omega arith)
    ∙ ap judged (ap₂ (λ (k : ℕ) (x : List ℕ). take k x) e (line-split f r) ∙ take_at (hex_of f) (10 ∷ r) (length (hex_of f)) refl)

pub rest_back : (f r : List ℕ) → Bytes f → rest_of (line_for f ++ r) ≡ r
unfolding rest_of
rest_back f r h =
    let e = line-end-back f r h in
    let n : length (hex_of f ++ (10 ∷ [])) ≡ suc (length (hex_of f)) = omega (arith, length-append (hex_of f) (10 ∷ [])) in
    ap₂ (λ (k : ℕ) (x : List ℕ). drop (suc k) x) e (line-split f r ∙ sym (append_assoc (hex_of f) (10 ∷ []) r))
    ∙ drop_at (hex_of f ++ (10 ∷ [])) r (suc (length (hex_of f))) n

-- ---- the head of a written frame

head-view : (k v p : ℕ) (r : List ℕ) → v < 4294967296 → view_of (head_bytes k v p ++ r) ≡ v
unfolding view_of head_bytes bytes4 bytes2
head-view k v p r h = four_bytes v (p ∷ r) h

head-sender : (k v p : ℕ) (r : List ℕ) → sender_of (head_bytes k v p ++ r) ≡ p
unfolding sender_of head_bytes bytes4 bytes2
head-sender k v p r = refl

head-kind : (k v p : ℕ) (r : List ℕ) → kind_of (head_bytes k v p ++ r) ≡ k
unfolding kind_of head_bytes bytes4 bytes2
head-kind k v p r = refl

bytes-head : (k v p : ℕ) → k < 256 → p < 256 → Bytes (head_bytes k v p)
unfolding head_bytes
bytes-head k v p hk hp = below-append (k ∷ []) (bytes4 v ++ (p ∷ [])) (below_one k hk) (below-append (bytes4 v) (p ∷ []) (bytes-bytes4 v) (below_one p hp))

-- ---- an attempt line reads back

module _ (v p : ℕ) (g : HeadKept v p) where
  pub bytes-attempt : Bytes (attempt_frame v p)
  unfolding attempt_frame
  bytes-attempt = bytes-head 2 v p (omega arith) (omega (arith, g.sender))

  pub attempt-back : (r : List ℕ) → read_line (attempt_line v p ++ r) ≡ record { line = AttemptLine v p; state = no_state }
  unfolding attempt_line attempt_frame rule1
  attempt-back r =
      let f = head_bytes 2 v p in
      let u = unhex-hex f bytes-attempt in
      let a = append-nil f in
      let ek = ap kind_of u ∙ sym (ap kind_of a) ∙ head-kind 2 v p [] in
      let ev = ap view_of u ∙ sym (ap view_of a) ∙ head-view 2 v p [] g.view in
      let es = ap sender_of u ∙ sym (ap sender_of a) ∙ head-sender 2 v p [] in
      line-back f r bytes-attempt
      ∙ (attempt-kept (hex_of f) (digits-hex f bytes-attempt) ek (omega (arith, length-hex f, length-head 2 v p)) (head_ok _ (λ z. omega (arith, g.some)) (omega (arith, g.sender)))
      ∙ (λ i. record { line = AttemptLine (ev i) (es i); state = no_state }))

-- ---- a state line reads back

-- a session whose number is within 32 bits is a word of 48
word_lt : (w n : ℕ) → num w ≤ n → n < 4294967296 → w < 281474976710656
word_lt w n h k = omega arith

module _ (v p : ℕ) (st : State) (g : StateKept v p st) where
  rules : Kept st p
  rules = kept st p g.rules

  formed-lt : Below 281474976710656 st.formed
  formed-lt k = go (dec_lt k 16)
    where
      go : Dec (k < 16) → get_or st.formed k 0 < 281474976710656
      go (yes l) = word_lt _ _ (rules.formed-number k l) g.tidy.number
      go (no l) = rw (get_or-eq_default st.formed 0 {n = k} (omega (arith, g.tidy.formed))) (omega arith)

  used : List ℕ
  used = take st.count st.places

  length-used : length used ≡ st.count
  unfolding used
  length-used = length-take-le st.count st.places (omega (arith, g.tidy.places, g.tidy.count))

  used-lt : Below 281474976710656 used
  unfolding used
  used-lt k = go (dec_lt k st.count)
    where
      go : Dec (k < st.count) → get_or used k 0 < 281474976710656
      go (yes l) = rw (get_or-take st.count st.places k 0 l) (word_lt _ _ (rules.place-number k l) g.tidy.number)
      go (no l) = rw (get_or-eq_default used 0 {n = k} (omega (arith, length-used))) (omega arith)

  body : List ℕ
  body = field_bytes st ++ place_bytes st

  frame-split : state_frame v p st ≡ head_bytes 1 v p ++ body
  unfolding state_frame body
  frame-split = refl

  from16 : drop 16 (state_frame v p st) ≡ flat st.formed ++ place_bytes st
  unfolding state_frame head_bytes field_bytes bytes6 bytes4 bytes2
  from16 = refl

  from112 : drop 112 (state_frame v p st) ≡ place_bytes st
  from112 =
      sym (drop-drop 96 16 (state_frame v p st))
      ∙ (ap (drop 96) from16 ∙ drop_at (flat st.formed) (place_bytes st) 96 (omega (arith, length-flat st.formed, g.tidy.formed)))

  from113 : drop 113 (state_frame v p st) ≡ flat used
  unfolding place_bytes used
  from113 = sym (drop-drop 1 112 (state_frame v p st)) ∙ ap (drop 1) from112

  count-back : count_of (state_frame v p st) ≡ st.count
  unfolding count_of place_bytes
  count-back = sym (get_or-drop 112 (state_frame v p st) 0 0) ∙ ap (λ (x : List ℕ). get_or x 0 0) from112

  number-back : four (drop 6 (state_frame v p st)) ≡ st.number
  unfolding state_frame head_bytes field_bytes bytes6 bytes4 bytes2
  number-back = four_bytes st.number (bytes6 st.primary ++ flat st.formed ++ place_bytes st) g.tidy.number

  primary-back : six (drop 10 (state_frame v p st)) ≡ st.primary
  unfolding state_frame head_bytes field_bytes bytes6 bytes4 bytes2
  primary-back = six-bytes st.primary (flat st.formed ++ place_bytes st) (word_lt st.primary st.number rules.primary-number g.tidy.number)

  formed-back : padded (words 16 (drop 16 (state_frame v p st))) ≡ st.formed
  formed-back =
      ap padded (ap₂ (λ (k : ℕ) (x : List ℕ). words k x) (sym g.tidy.formed) from16 ∙ words-flat st.formed (place_bytes st) formed-lt)
      ∙ padded-full st.formed g.tidy.formed

  places-back : padded (words (count_of (state_frame v p st)) (drop 113 (state_frame v p st))) ≡ st.places
  unfolding used
  places-back =
      ap padded
      (ap₂ (λ (k : ℕ) (x : List ℕ). words k x) (count-back ∙ sym length-used) (from113 ∙ sym (append-nil (flat used)))
      ∙ words-flat used [] used-lt)
      ∙ sym g.tidy.free

  values-back : state_of (state_frame v p st) ≡ st
  unfolding state_of
  values-back = λ i. record { number = number-back i; primary = primary-back i; formed = formed-back i; count = count-back i; places = places-back i }

  pub bytes-state : Bytes (state_frame v p st)
  unfolding state_frame field_bytes place_bytes
  bytes-state =
      below-append (head_bytes 1 v p) (field_bytes st ++ place_bytes st) (bytes-head 1 v p (omega arith) (omega (arith, g.head.sender)))
      (below-append (field_bytes st) (place_bytes st)
      (below-append (bytes4 st.number) (bytes6 st.primary ++ flat st.formed) (bytes-bytes4 _)
      (below-append (bytes6 st.primary) (flat st.formed) (bytes-bytes6 _) (bytes-flat st.formed)))
      (below-append (st.count ∷ []) (flat (take st.count st.places)) (below_one _ (omega (arith, g.tidy.count))) (bytes-flat (take st.count st.places))))

  unbroken : broken st p ≡ 0
  unfolding keeps_rules
  unbroken = eqb-true _ _ (and_right (leb st.count 16) (eqb (broken st p) 0) g.rules)

  pub state-back : (r : List ℕ) → read_line (state_line v p st ++ r) ≡ record { line = StateLine v p; state = st }
  unfolding state_line rule1
  state-back r =
      let f = state_frame v p st in
      let u = unhex-hex f bytes-state in
      let ek = ap kind_of u ∙ ap kind_of frame-split ∙ head-kind 1 v p body in
      let ev = ap view_of u ∙ ap view_of frame-split ∙ head-view 1 v p body g.head.view in
      let es = ap sender_of u ∙ ap sender_of frame-split ∙ head-sender 1 v p body in
      let ec = ap count_of u ∙ count-back in
      let et = ap state_of u ∙ values-back in
      let n = length-state v p st g.tidy.formed (omega (arith, g.tidy.places, g.tidy.count)) in
      line-back f r bytes-state
      ∙ (state-kept (hex_of f) (digits-hex f bytes-state) ek
      (fits-ok _ _ (omega (arith, ec, g.tidy.count)) (omega (arith, length-hex f, n, ec)))
      (head_ok _ (λ z. omega (arith, g.head.some)) (omega (arith, g.head.sender)))
      (ap₂ broken et es ∙ unbroken)
      ∙ (λ i. record { line = StateLine (ev i) (es i); state = et i }))
