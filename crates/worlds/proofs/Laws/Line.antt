-- What is left after the next line.
use mathlib.Core.List.{List, [], ◌∷◌}
use mathlib.Core.Logic.{⊎_elim}
use mathlib.Core.Path.{◌≡◌, sym, ap, ◌∙◌, ap₂}
use Prim.Native.Nat.{ℕ, ◌+◌, ◌≤◌, ◌<◌, zero, suc, ◌-◌}
use native.Mathlib.Omega.{arith}
use lib.ListN.{length, take, drop}
use lib.Seq.{drop-drop, take-nil}
use Rattle.loops.proofs.Laws.Order.{lt-or-ge}
use Rattle.lines.specs.Hex.{line_end, rest_of}
use Rattle.lines.specs.Walk.{first_of, whole_lines, begun}
use Rattle.lines.proofs.Laws.Walk.{first-whole, none-whole}
use Rattle.asking.specs.declared.World.{World}
use Rattle.asking.specs.Asking.{left, line_now, next_now}
use Rattle.asking.proofs.Laws.{length-left}
use Rattle.worlds.specs.Bench.{Bench, taken, played}

pub has-line : (s : List ℕ) (w : World) → w.stop ≤ length s → w.at < w.stop → begun [] (left s w) ≡ [] → line_end (left s w) < length (left s w)
has-line s w h more ends =
    ⊎_elim (λ l. l)
    (λ over. absurd (let e : length (left s w) ≡ 0 = ap length (sym (none-whole [] (left s w) over).all ∙ ends) in omega (arith, length-left s w h)))
    (lt-or-ge (line_end (left s w)) (length (left s w)))

drop_of_take : (n m : ℕ) (l : List ℕ) → drop n (take m l) ≡ take (m - n) (drop n l)
drop_of_take zero m l = let e : m - 0 ≡ m = omega arith in rw e
drop_of_take (suc n) zero l = let e : 0 - suc n ≡ 0 = omega arith in rw e
drop_of_take (suc n) (suc m) [] = sym (take-nil (suc m - suc n))
drop_of_take (suc n) (suc m) (x ∷ l) = let e : suc m - suc n ≡ m - n = omega arith in rw e (drop_of_take n m l)

-- from the place after the next line the rest of what is left stands
pub left-next : (s : List ℕ) (w r : World) → r.stop ≡ w.stop → r.at ≡ next_now s w → left s r ≡ rest_of (left s w)
unfolding rest_of
left-next s w r e f =
    let n = line_end (take (w.stop - w.at) (drop w.at s)) in
    let k : w.stop - (w.at + n + 1) ≡ w.stop - w.at - suc n = omega arith in
    let j : w.at + n + 1 ≡ w.at + suc n = omega arith in
    rw (e, f) (ap₂ (λ (a b : ℕ). take a (drop b s)) k j ∙ sym (drop_of_take (suc n) (w.stop - w.at) (drop w.at s) ∙ ap (take (w.stop - w.at - suc n)) (drop-drop (suc n) w.at s)))

-- the next line is taken, and the others are those of the rest
pub played-first : (s : List ℕ) (w r : World) (b : Bench) → line_end (left s w) < length (left s w) → r.stop ≡ w.stop → r.at ≡ next_now s w
    → played (whole_lines [] (left s r)) (taken (line_now s w) b) ≡ played (whole_lines [] (left s w)) b
unfolding played
played-first s w r b h e f =
    ap (λ (x : List ℕ). played (whole_lines [] x) (taken (first_of (left s w)) b)) (left-next s w r e f)
    ∙ sym (ap (λ (ls : List (List ℕ)). played ls b) (first-whole [] (left s w) h).whole)

pub ends_next : (s : List ℕ) (w r : World) → line_end (left s w) < length (left s w) → r.stop ≡ w.stop → r.at ≡ next_now s w → begun [] (left s w) ≡ [] → begun [] (left s r) ≡ []
ends_next s w r h e f g = ap (λ (x : List ℕ). begun [] x) (left-next s w r e f) ∙ sym (first-whole [] (left s w) h).others ∙ g
