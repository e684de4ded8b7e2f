-- Where the last whole line of a read ends, what is held of the line after it, and what a read and a write leave.
use mathlib.Core.Bool.{Bool, true, false, cond}
use mathlib.Core.List.{List, [], ◌∷◌, ◌++◌, append-nil, append_assoc}
use mathlib.Core.Logic.{⊎_elim}
use mathlib.Core.Path.{◌≡◌, refl, sym, ap, subst, ◌∙◌}
use Prim.Native.Nat.{ℕ, zero, suc, ◌+◌, ◌-◌, ◌≤◌, ◌<◌}
use native.Mathlib.Omega.{arith}
use borrow.Author.Tests.{ne_eqb}
use lib.ListN.{length, get_or, take, drop, take-append-drop, length-append, length-drop}
use lib.Seq.{get_or-drop, take-suc, take_all, take-take, take_at, length-take-le}
use lib.Dec.{eqb}
use Rattle.std.specs.Prelude.{Option, Some, None, min}
use Rattle.std.proofs.Math.Nat.{min-le_right}
use Rattle.loops.proofs.Laws.Order.{lt-or-ge}
use Rattle.lines.specs.Hex.{line_end}
use Rattle.lines.specs.Walk.{begun}
use Rattle.lines.proofs.Laws.Walk.{begun-append, none-whole}
use Rattle.lines.proofs.Laws.Alike.{NoEnd, none-nil}
use Rattle.asking.specs.declared.World.{World}
use Rattle.reading.specs.Reading.{at_read, held_count, held_in, brought, lines_end, after_bytes, Filled, after_write, Later}

-- ---- the end of the last whole line

ends-there : (l : List ℕ) (i : ℕ) → i < length l → get_or l i 0 ≡ 10 → begun [] (take (suc i) l) ≡ []
unfolding begun
ends-there l i fits e =
    ap (begun []) (take-suc l i 0 fits ∙ ap (λ (c : ℕ). take i l ++ (c ∷ [])) e)
    ∙ begun-append [] (take i l) (10 ∷ [])

ends-none : (l : List ℕ) → begun [] (take 0 l) ≡ []
unfolding begun
ends-none l = refl

none-cons : (b : ℕ) (p : List ℕ) → (b ≡ 10 → ⊥) → NoEnd p → NoEnd (b ∷ p)
unfolding line_end
none-cons b p d h = rw (ne_eqb b 10 d) (omega (arith, h))

none-all : (l : List ℕ) → ((k : ℕ) → k < length l → get_or l k 0 ≡ 10 → ⊥) → NoEnd l
none-all [] f = none-nil
none-all (b ∷ l) f = none-cons b l (f 0 (omega arith)) (none-all l (λ k h. f (suc k) (omega arith)))

-- the last newline ends the last whole line
pub last-ends : (l : List ℕ) (i : ℕ) → i < length l → get_or l i 0 ≡ 10 → ((k : ℕ) → i < k → k < length l → get_or l k 0 ≡ 10 → ⊥) → i + 1 ≡ lines_end l
unfolding lines_end
last-ends l i fits e none =
    let rest : NoEnd (drop (suc i) l) = none-all (drop (suc i) l) (λ k h f. none (suc i + k) (omega arith) (omega (arith, h, length-drop (suc i) l)) (sym (get_or-drop (suc i) l k 0) ∙ f)) in
    let b : begun [] l ≡ drop (suc i) l =
    ap (begun []) (sym (take-append-drop (suc i) l))
    ∙ begun-append [] (take (suc i) l) (drop (suc i) l)
    ∙ ap (λ (p : List ℕ). begun p (drop (suc i) l)) (ends-there l i fits e)
    ∙ (none-whole [] (drop (suc i) l) rest).all in
    omega (arith, ap length b, length-drop (suc i) l)

-- where there is none, no line ends
pub none-ends : (l : List ℕ) → ((k : ℕ) → k < length l → get_or l k 0 ≡ 10 → ⊥) → 0 ≡ lines_end l
unfolding lines_end
none-ends l none = omega (arith, ap length (none-whole [] l (none-all l none)).all)

length-take-most : (n : ℕ) (l : List ℕ) → length (take n l) ≤ n
length-take-most zero l = omega arith
length-take-most (suc n) [] = omega arith
length-take-most (suc n) (x ∷ l) = omega (arith, length-take-most n l)

-- a text is its whole lines and then the line that is begun; p are bytes of the first line that stood before it
record Split (p s : List ℕ) : Type 0 where
  lines : List ℕ
  parts : p ++ s ≡ lines ++ begun p s
  end : begun [] lines ≡ []

split : (p s : List ℕ) → Split p s
unfolding begun
split p [] = record { lines = []; parts = append-nil p; end = refl }
split p (b ∷ s) = go (eqb b 10) refl (split [] s) (split (p ++ (b ∷ [])) s)
  where
    go : (c : Bool) → eqb b 10 ≡ c → Split [] s → Split (p ++ (b ∷ [])) s → Split p (b ∷ s)
    go true e x y = record {
      lines = p ++ (b ∷ x.lines);
      parts = ap (λ (t : List ℕ). p ++ (b ∷ t)) x.parts ∙ sym (append_assoc p (b ∷ x.lines) (begun [] s)) ∙ ap (λ (c : Bool). (p ++ (b ∷ x.lines)) ++ cond c (begun [] s) (begun (p ++ (b ∷ [])) s)) (sym e);
      end = begun-append [] p (b ∷ x.lines) ∙ ap (λ (c : Bool). cond c (begun [] x.lines) (begun (begun [] p ++ (b ∷ [])) x.lines)) e ∙ x.end;
    }
    go false e x y = record {
      lines = y.lines;
      parts = sym (append_assoc p (b ∷ []) s) ∙ y.parts ∙ ap (λ (c : Bool). y.lines ++ cond c (begun [] s) (begun (p ++ (b ∷ [])) s)) (sym e);
      end = y.end;
    }

lines-end-of : (s : List ℕ) (x : Split [] s) → lines_end s ≡ length x.lines
unfolding lines_end
lines-end-of s x = omega (arith, ap length x.parts, length-append x.lines (begun [] s))

lines-end-most : (s : List ℕ) → lines_end s ≤ length s
unfolding lines_end
lines-end-most s = omega arith

-- the lines up to there all end
lines-end-ends : (l : List ℕ) (n : ℕ) → begun [] (take (lines_end (take n l)) l) ≡ []
lines-end-ends l n =
    let s = take n l in
    let x = split [] s in
    let e : lines_end s ≡ length x.lines = lines-end-of s x in
    let m : lines_end s ≤ n = omega (arith, lines-end-most s, length-take-most n l) in
    ap (begun []) (sym (take-take (lines_end s) n l m) ∙ ap (take (lines_end s)) x.parts ∙ take_at x.lines (begun [] s) (lines_end s) (sym e)) ∙ x.end

-- ---- what is held

take-least : (l : List ℕ) (n : ℕ) → take (min n 15) l ≡ take 15 (take n l)
take-least l n = ⊎_elim
    (λ less. let e : min n 15 ≡ n = omega arith in rw e (sym (take_all 15 (take n l) (omega (arith, length-take-most n l)))))
    (λ more. let e : min n 15 ≡ 15 = omega arith in rw e (sym (take-take 15 n l more))) (lt-or-ge n 15)

-- the bytes moved to the start are those held, and a read after them leaves them there
pub held_stays : (old mid bs : List ℕ) (w : World) (h : ℕ) → h ≡ held_count w → take h mid ≡ take h (drop w.stop old) → take h bs ≡ take h mid → take (held_count w) bs ≡ held_in old w
unfolding held_in
held_stays old mid bs w h e f g =
    ap (λ (n : ℕ). take n bs) (sym e) ∙ g ∙ f ∙ ap (λ (n : ℕ). take n (drop w.stop old)) e ∙ take-least (drop w.stop old) (w.end - w.stop)

-- ---- a read, and a write

-- the room behind the bytes held
pub room-behind : (l : List ℕ) (h : ℕ) → length (take (length l - h) (drop h l)) ≡ length l - h
room-behind l h = length-take-le (length l - h) (drop h l) (omega (arith, length-drop h l))

-- what a read leaves of the heads, the views and the sessions, and the lines that it hands on
pub record Lines (buf : List ℕ) (w r : World) : Type 0 where
  pub views : r.views ≡ w.views
  pub formed : r.formed ≡ w.formed
  pub starting : r.starting ≡ w.starting
  pub at : r.at ≡ 0
  pub put : r.put ≡ 0
  pub stop : r.stop ≤ r.end
  pub end : r.end ≤ 8192
  pub ends : begun [] (take r.stop buf) ≡ []

held-most : (w : World) → held_count w ≤ 15
held-most w = omega arith

brought-most : (w : World) (got : Option ℕ) → held_count w + brought w got ≤ 8192
brought-most w (Some k) = omega (arith, held-most w, min-le_right k (8192 - held_count w))
brought-most w None = omega (arith, held-most w)

after-lines : (buf : List ℕ) (w : World) (n : ℕ) → held_count w + n ≤ 8192 → Lines buf w (after_bytes buf w n)
after-lines buf w n fits = go (eqb n 0)
  where
    end : ℕ
    end = held_count w + n

    go : (c : Bool) → Lines buf w (cond c (at_read w 0 (held_count w) 0) (at_read w (lines_end (take end buf)) end (w.turns - 1)))
    go true = record { views = refl; formed = refl; starting = refl; at = refl; put = refl; stop = omega arith; end = omega (arith, held-most w); ends = ends-none buf }
    go false = record { views = refl; formed = refl; starting = refl; at = refl; put = refl; stop = omega (arith, lines-end-most (take end buf), length-take-most end buf); end = fits; ends = lines-end-ends buf end }

pub filled-lines : (old buf : List ℕ) (w r : World) → Filled old buf w r → Lines buf w r
filled-lines old buf w r f = subst (λ (x : World). Lines buf w x) (sym f.is) (after-lines buf w (brought w f.answer) (brought-most w f.answer))

-- what a write leaves, whatever it answered
pub record Kept (w r : World) : Type 0 where
  pub views : r.views ≡ w.views
  pub formed : r.formed ≡ w.formed
  pub starting : r.starting ≡ w.starting
  pub stop : r.stop ≡ w.stop
  pub end : r.end ≡ w.end
  pub fewer : r.turns ≤ w.turns

after_kept : (w : World) (all : Bool) → Kept w (after_write w all)
after_kept w true = record { views = refl; formed = refl; starting = refl; stop = refl; end = refl; fewer = omega arith }
after_kept w false = record { views = refl; formed = refl; starting = refl; stop = refl; end = refl; fewer = omega arith }

pub later-kept : (w r : World) → Later w r → Kept w r
later-kept w r l = subst (λ (x : World). Kept w x) (sym l.is) (after_kept w l.answer)
