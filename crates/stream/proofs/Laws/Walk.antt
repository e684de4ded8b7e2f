-- One turn of the walk over the lines of a slice, over its values alone: what was printed and what is left to print are together what the slice prints.
use mathlib.Core.Path.{◌≡◌, refl, sym, ap, ◌∙◌}
use mathlib.Core.List.{List, [], ◌∷◌, ◌++◌, append_assoc, append-nil}
use Prim.Native.Nat.{ℕ, suc, ◌+◌, ◌-◌, ◌*◌, ◌≤◌, ◌<◌, min}
use native.Mathlib.Omega.{arith}
use lib.ListN.{length, take, drop, length-drop}
use lib.Seq.{take_all, drop-drop, length-take-le}
use mathlib.Core.Logic.{⊎_elim}
use Rattle.loops.proofs.Laws.Order.{lt-or-ge}
use Rattle.lines.specs.Hex.{line_end, line_of, rest_of}
use Rattle.lines.specs.Reading.{judged, read_line}
use Rattle.lines.specs.Walk.{whole_lines, begun, last_line}
use Rattle.lines.proofs.Laws.Reading.{first-line, no_line-breaks}
use Rattle.lines.proofs.Laws.Walk.{first-whole, none-whole}
use Rattle.shown.specs.Shown.{shown, refused_text, printed, room}
use Rattle.stream.proofs.Laws.Shown.{room-le, broken-shown, printed-first}

pub record Walked (s out rest : List ℕ) (put : ℕ) : Type 0 where
  pub fits : put + 4 * length rest ≤ 4 * length s
  pub within : length rest ≤ length s
  pub same : drop (length s - length rest) s ≡ rest
  pub prints : printed (whole_lines [] s) ≡ take put out ++ printed (whole_lines [] rest)
  pub begins : begun [] s ≡ begun [] rest

-- the rest's rest is a rest of the whole
same-again : (s rest : List ℕ) (a : ℕ) → length rest ≤ length s → a ≤ length rest → drop (length s - length rest) s ≡ rest
    → drop (length s - (length rest - a)) s ≡ drop a rest
same-again s rest a w h d =
    let z : length s - (length rest - a) ≡ (length s - length rest) + a = omega arith in
    rw (z, ← drop-drop a (length s - length rest) s) (ap (drop a) d)

-- the first line of what is left, and what comes after it
pub record Split (rest line after : List ℕ) : Type 0 where
  pub ends : line_end rest < length rest
  pub first : line ≡ line_of rest
  pub others : after ≡ rest_of rest

pub split : {rest line after : List ℕ} → (line_end rest < length rest) × (line ≡ line_of rest) × (after ≡ rest_of rest) → Split rest line after
split e = record { ends = e.0; first = e.1; others = e.2 }

pub split-length : {rest line after : List ℕ} → Split rest line after → (length line ≡ line_end rest) × (length after ≡ length rest - suc (line_end rest))
unfolding line_of rest_of
split-length {rest} p =
    (ap length p.first ∙ length-take-le (line_end rest) rest (omega (arith, p.ends)), ap length p.others ∙ length-drop (suc (line_end rest)) rest)

-- what the turn asks: room for its line
pub turn-room : {s out rest line after : List ℕ} {put : ℕ} → Walked s out rest put → Split rest line after
    → put + room (judged line).line + 4 * length after ≤ 4 * length s
turn-room {line = line} w p = let n = split-length p in omega (arith, w.fits, p.ends, n.0, n.1, room-le line)

pub walked-again : {s out rest line after out' : List ℕ} {put put' : ℕ} → Walked s out rest put → Split rest line after
    → put' ≤ put + room (judged line).line → take put' out' ≡ take put out ++ shown (judged line) → Walked s out' after put'
unfolding rest_of
walked-again {s} {out} {rest} {line} {after} {out'} {put} {put'} w p next text =
    let n = split-length p in
    record {
      fits = omega (arith, turn-room w p);
      within = omega (arith, w.within, n.1);
      same =
          ap (λ (m : ℕ). drop (length s - m) s) n.1
          ∙ same-again s rest (suc (line_end rest)) w.within (omega (arith, p.ends)) w.same
          ∙ sym p.others;
      prints =
          w.prints
          ∙ ap (λ (x : List ℕ). take put out ++ x) (printed-first rest p.ends)
          ∙ rw (← p.first, ← p.others) (sym (append_assoc (take put out) (shown (judged line)) (printed (whole_lines [] after))))
          ∙ ap (λ (x : List ℕ). x ++ printed (whole_lines [] after)) (sym text);
      begins = w.begins ∙ (first-whole [] rest p.ends).others ∙ ap (begun []) (sym p.others);
    }

no_lines : printed [] ≡ []
unfolding printed
no_lines = refl

pub walked_all : {s out rest : List ℕ} {put : ℕ} → Walked s out rest put → length rest ≤ line_end rest
    → (take put out ≡ printed (whole_lines [] s)) × (drop (length s - length rest) s ≡ begun [] s)
walked_all {s} {out} {rest} {put} w none =
    let n = none-whole [] rest none in (
      sym (w.prints ∙ ap (λ (x : List (List ℕ)). take put out ++ printed x) n.none ∙ ap (λ (x : List ℕ). take put out ++ x) no_lines ∙ append-nil (take put out)),
      w.same ∙ sym (w.begins ∙ n.all),
    )

-- ---- what is held of a slice's last line, as it stands in the buffer

pub held-front : (s : List ℕ) (left : ℕ) → left ≤ length s → drop (length s - left) s ≡ begun [] s
    → take (min left 420) (drop (length s - left) s) ≡ take 420 (begun [] s)
held-front s left k e =
    let l : length (drop (length s - left) s) ≡ left = omega (arith, length-drop (length s - left) s) in
    rw (← e)
    (⊎_elim
    (λ few. let z : min left 420 ≡ left = omega arith in rw z (take_all left (drop (length s - left) s) (omega arith) ∙ sym (take_all 420 (drop (length s - left) s) (omega arith))))
    (λ many. let z : min left 420 ≡ 420 = omega arith in rw z)
    (lt-or-ge left 420))

-- ---- the last line

pub last_none : (s : List ℕ) → length s ≡ 0 → [] ≡ printed (last_line s)
unfolding printed last_line
last_none [] e = refl
last_none (b ∷ s) e = absurd (omega arith)

last_some : (s : List ℕ) → (length s ≡ 0 → ⊥) → shown (read_line s) ≡ printed (last_line s)
unfolding printed last_line
last_some [] z = absurd (z refl)
last_some (b ∷ s) z = sym (append-nil (shown (read_line (b ∷ s))))

pub last-first : (s line : List ℕ) → (length s ≡ 0 → ⊥) → line_end s < length s → line ≡ line_of s → shown (judged line) ≡ printed (last_line s)
last-first s line z h e = ap (λ (l : List ℕ). shown (judged l)) e ∙ ap shown (sym (first-line s h)) ∙ last_some s z

pub last-refused : (s : List ℕ) → (length s ≡ 0 → ⊥) → length s ≤ line_end s → refused_text ≡ printed (last_line s)
last-refused s z h = sym (broken-shown 1) ∙ ap shown (sym (no_line-breaks s h)) ∙ last_some s z
