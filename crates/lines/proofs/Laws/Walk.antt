-- The lines of a text, cut anywhere and line by line. By induction on the text, with the bytes of the first line that stood before it carried along.
use mathlib.Core.Path.{◌≡◌, refl, sym, ap, ap₂, ◌∙◌}
use mathlib.Core.Bool.{Bool, true, false, cond}
use mathlib.Core.List.{List, [], ◌∷◌, ◌++◌, append_assoc, append-nil}
use mathlib.Core.Logic.{⊎_elim}
use Prim.Native.Nat.{ℕ, zero, suc, ◌≤◌, ◌<◌}
use native.Mathlib.Nat.{not-suc-le-zero}
use native.Mathlib.Omega.{arith}
use lib.ListN.{length, take, drop_of_length-le}
use lib.Seq.{take_all, take-take, length-take-le}
use lib.Dec.{eqb}
use Rattle.loops.proofs.Laws.Order.{lt-or-ge}
use Rattle.lines.specs.Hex.{line_end, line_of, rest_of}
use Rattle.lines.specs.Reading.{judged, read_line}
use Rattle.lines.specs.Walk.{whole_lines, begun, last_line, lines_of, join, first_of, rest_after}
use Rattle.lines.specs.Theorems.{Walked}
use Rattle.lines.proofs.Laws.Hex.{rest-shorter}
use Rattle.lines.proofs.Laws.Reading.{first-line}

-- ---- a text after a text

pub whole_append : (p s t : List ℕ) → whole_lines p (s ++ t) ≡ whole_lines p s ++ whole_lines (begun p s) t
unfolding whole_lines begun
whole_append p [] t = refl
whole_append p (b ∷ s) t = go (eqb b 10) (whole_append [] s t) (whole_append (p ++ (b ∷ [])) s t)
  where
    q : List ℕ
    q = p ++ (b ∷ [])

    go : (c : Bool) → whole_lines [] (s ++ t) ≡ whole_lines [] s ++ whole_lines (begun [] s) t → whole_lines q (s ++ t) ≡ whole_lines q s ++ whole_lines (begun q s) t
        → cond c (q ∷ whole_lines [] (s ++ t)) (whole_lines q (s ++ t)) ≡ cond c (q ∷ whole_lines [] s) (whole_lines q s) ++ whole_lines (cond c (begun [] s) (begun q s)) t
    go true e f = ap (λ (ls : List (List ℕ)). q ∷ ls) e
    go false e f = f

pub begun-append : (p s t : List ℕ) → begun p (s ++ t) ≡ begun (begun p s) t
unfolding begun
begun-append p [] t = refl
begun-append p (b ∷ s) t = go (eqb b 10) (begun-append [] s t) (begun-append (p ++ (b ∷ [])) s t)
  where
    go : (c : Bool) → begun [] (s ++ t) ≡ begun (begun [] s) t → begun (p ++ (b ∷ [])) (s ++ t) ≡ begun (begun (p ++ (b ∷ [])) s) t
        → cond c (begun [] (s ++ t)) (begun (p ++ (b ∷ [])) (s ++ t)) ≡ begun (cond c (begun [] s) (begun (p ++ (b ∷ [])) s)) t
    go true e f = e
    go false e f = f

-- ---- the first line

-- with a newline: the first line is whole, and the others are the rest's
pub record First (p s : List ℕ) : Type 0 where
  pub whole : whole_lines p s ≡ (p ++ first_of s) ∷ whole_lines [] (rest_of s)
  pub others : begun p s ≡ begun [] (rest_of s)

pub first-whole : (p s : List ℕ) → line_end s < length s → First p s
unfolding line_end first_of rest_of whole_lines begun
first-whole p [] h = absurd (not-suc-le-zero h)
first-whole p (b ∷ s) h = go (eqb b 10) refl h (first-whole (p ++ (b ∷ [])) s)
  where
    q : List ℕ
    q = p ++ (b ∷ [])

    go : (c : Bool) → eqb b 10 ≡ c → cond c 0 (suc (line_end s)) < suc (length s) → (line_end s < length s → First q s) → First p (b ∷ s)
    go true e k ih = record { whole = rw e; others = rw e }
    go false e k ih =
        let f = ih (omega arith) in
        record {
          whole = rw e (f.whole ∙ ap (λ (l : List ℕ). l ∷ whole_lines [] (rest_of s)) (append_assoc p (b ∷ []) (first_of s)));
          others = rw e f.others;
        }

-- without one nothing is whole, and all of it is begun
pub record NoLine (p s : List ℕ) : Type 0 where
  pub none : whole_lines p s ≡ []
  pub all : begun p s ≡ p ++ s

pub none-whole : (p s : List ℕ) → length s ≤ line_end s → NoLine p s
unfolding line_end whole_lines begun
none-whole p [] h = record { none = refl; all = sym (append-nil p) }
none-whole p (b ∷ s) h = go (eqb b 10) refl h (none-whole (p ++ (b ∷ [])) s)
  where
    q : List ℕ
    q = p ++ (b ∷ [])

    go : (c : Bool) → eqb b 10 ≡ c → suc (length s) ≤ cond c 0 (suc (line_end s)) → (length s ≤ line_end s → NoLine q s) → NoLine p (b ∷ s)
    go true e k ih = absurd (not-suc-le-zero k)
    go false e k ih =
        let f = ih (omega arith) in
        record { none = rw e f.none; all = rw e (f.all ∙ append_assoc p (b ∷ []) s) }

pub line-end-le : (s : List ℕ) → line_end s ≤ length s
unfolding line_end
line-end-le [] = omega arith
line-end-le (b ∷ s) = go (eqb b 10) (line-end-le s)
  where
    go : (c : Bool) → line_end s ≤ length s → cond c 0 (suc (line_end s)) ≤ suc (length s)
    go true h = omega arith
    go false h = omega arith

-- the first line ends where it ended, and has the same characters
pub line-end-first : (s : List ℕ) → line_end (first_of s) ≡ line_end s
unfolding line_end first_of
line-end-first [] = refl
line-end-first (b ∷ s) = go (eqb b 10) refl (line-end-first s)
  where
    go : (c : Bool) → eqb b 10 ≡ c → line_end (first_of s) ≡ line_end s → line_end (take (suc (cond c 0 (suc (line_end s)))) (b ∷ s)) ≡ cond c 0 (suc (line_end s))
    go true e ih = rw e
    go false e ih = rw e (ap suc ih)

pub line-of-first : (s : List ℕ) → line_of (first_of s) ≡ line_of s
unfolding line_of first_of
line-of-first s = ap (λ (k : ℕ). take k (take (suc (line_end s)) s)) (line-end-first s) ∙ take-take (line_end s) (suc (line_end s)) s (omega arith)

-- ---- the walk

-- a line is judged alone
alone : (s : List ℕ) → read_line s ≡ read_line (first_of s)
unfolding first_of
alone s = ⊎_elim whole none (lt-or-ge (line_end s) (length s))
  where
    whole : line_end s < length s → read_line s ≡ read_line (first_of s)
    whole h =
        let n : length (first_of s) ≡ suc (line_end s) = length-take-le (suc (line_end s)) s h in
        first-line s h ∙ sym (first-line (first_of s) (omega (arith, line-end-first s)) ∙ ap judged (line-of-first s))

    none : length s ≤ line_end s → read_line s ≡ read_line (first_of s)
    none h = ap read_line (sym (take_all (suc (line_end s)) s (omega arith)))

last_some : (p : List ℕ) → 0 < length p → last_line p ≡ p ∷ []
unfolding last_line
last_some [] h = absurd (not-suc-le-zero h)
last_some (b ∷ p) h = refl

nothing : (s : List ℕ) → length s ≤ 0 → s ≡ []
nothing [] h = refl
nothing (b ∷ s) h = absurd (not-suc-le-zero h)

no_lines : lines_of [] ≡ []
unfolding lines_of whole_lines begun last_line
no_lines = refl

pub line_step : (s : List ℕ) → 0 < length s → lines_of s ≡ first_of s ∷ lines_of (rest_of s)
unfolding lines_of first_of rest_of
line_step s some = ⊎_elim whole none (lt-or-ge (line_end s) (length s))
  where
    whole : line_end s < length s → lines_of s ≡ first_of s ∷ lines_of (rest_of s)
    whole h =
        let f = first-whole [] s h in
        ap₂ (λ (a : List (List ℕ)) (b : List ℕ). a ++ last_line b) f.whole f.others

    none : length s ≤ line_end s → lines_of s ≡ first_of s ∷ lines_of (rest_of s)
    none h =
        let f = none-whole [] s h in
        let e : first_of s ≡ s = take_all (suc (line_end s)) s (omega arith) in
        let r : rest_of s ≡ [] = drop_of_length-le s {i = suc (line_end s)} (omega arith) in
        ap₂ (λ (a : List (List ℕ)) (b : List ℕ). a ++ last_line b) f.none f.all
        ∙ last_some s some
        ∙ ap₂ (λ (a : List ℕ) (b : List (List ℕ)). a ∷ b) (sym e) (sym (ap lines_of r ∙ no_lines))

join-append : (a b : List (List ℕ)) → join (a ++ b) ≡ join a ++ join b
unfolding join
join-append [] b = refl
join-append (l ∷ a) b = ap (λ (x : List ℕ). l ++ x) (join-append a b) ∙ sym (append_assoc l (join a) (join b))

join_last : (p : List ℕ) → join (last_line p) ≡ p
unfolding join last_line
join_last [] = refl
join_last (b ∷ p) = append-nil (b ∷ p)

join-whole : (p s : List ℕ) → join (whole_lines p s) ++ begun p s ≡ p ++ s
unfolding join whole_lines begun
join-whole p [] = sym (append-nil p)
join-whole p (b ∷ s) = go (eqb b 10) (join-whole [] s) (join-whole (p ++ (b ∷ [])) s)
  where
    q : List ℕ
    q = p ++ (b ∷ [])

    go : (c : Bool) → join (whole_lines [] s) ++ begun [] s ≡ s → join (whole_lines q s) ++ begun q s ≡ q ++ s
        → join (cond c (q ∷ whole_lines [] s) (whole_lines q s)) ++ cond c (begun [] s) (begun q s) ≡ p ++ (b ∷ s)
    go true e f = append_assoc q (join (whole_lines [] s)) (begun [] s) ∙ ap (λ (x : List ℕ). q ++ x) e ∙ append_assoc p (b ∷ []) s
    go false e f = f ∙ append_assoc p (b ∷ []) s

joined : (s : List ℕ) → join (lines_of s) ≡ s
unfolding lines_of
joined s =
    join-append (whole_lines [] s) (last_line (begun [] s))
    ∙ ap (λ (x : List ℕ). join (whole_lines [] s) ++ x) (join_last (begun [] s))
    ∙ join-whole [] s

none-ended : (s : List ℕ) → length s ≤ 0 → rest_after (length (lines_of s)) s ≡ []
unfolding rest_after
none-ended s k = ap (λ (x : List ℕ). rest_after (length (lines_of x)) x) (nothing s k) ∙ ap (λ (ls : List (List ℕ)). rest_after (length ls) []) no_lines

-- n bounds the length, since the rest is not a part that the recursion sees
ended : (n : ℕ) (s : List ℕ) → length s ≤ n → rest_after (length (lines_of s)) s ≡ []
unfolding rest_after
ended zero s h = none-ended s h
ended (suc n) s h =
    ⊎_elim
    (λ some. ap (λ (ls : List (List ℕ)). rest_after (length ls) s) (line_step s some) ∙ ended n (rest_of s) (omega (arith, rest-shorter s some)))
    (none-ended s)
    (lt-or-ge 0 (length s))

pub walks : (s : List ℕ) → Walked s
walks s = record { step = line_step s; alone = alone s; joined = joined s; ended = ended (length s) s (omega arith) }
