-- Last formed as it stands beside a last primary: the three cases of `formed_ok`, both ways, that it is sound, and that its number is at most the last primary's.
use mathlib.Core.Path.{◌≡◌, refl, sym, ap, ◌∙◌}
use mathlib.Core.Bool.{true, false, not, cond, ◌&&◌}
use mathlib.Core.Logic.{⊎_elim}
use Prim.Native.Nat.{ℕ, ◌<◌, ◌≤◌}
use native.Mathlib.Omega.{arith}
use lib.Dec.{eqb, ltb}
use borrow.Author.Tests.{eq-eqb, ne_eqb, eqb-true, ltb-true, lt-ltb, le-ltb}
use Rattle.loops.proofs.Laws.Truth.{and_left, and_right, and_both, or_cases, or_left, or_right, not-true, not-both, test-ext, passes-or-fails}
use Rattle.group.specs.Heads.{has}
use Rattle.group.specs.Words.{heads, num, rank, sound, primary_ok, formed_ok}
use Rattle.group.proofs.Laws.Heads.{has-none}
use Rattle.group.proofs.Laws.Words.{rank-none, rank-some, none_or_some, rank-le-num, has-heads}

-- last primary; or none; or a session with own head, q and a lower number
pub data Formed (own p q w : ℕ) : Type 0 where
  member : has p q ≡ true → w ≡ p → Formed own p q w
  none : has p q ≡ false → w ≡ 0 → Formed own p q w
  lower : has p q ≡ false → has w own ≡ true → has w q ≡ true → rank w < rank p → Formed own p q w

pub formed-cases : (own p q w : ℕ) → formed_ok own p q w ≡ true → Formed own p q w
unfolding formed_ok
formed-cases own p q w e =
    ⊎_elim
    (λ a. member (and_left (has p q) (eqb w p) a) (eqb-true w p (and_right (has p q) (eqb w p) a)))
    (λ b.
    let out : has p q ≡ false = not-true (has p q) (and_left (not (has p q)) _ b) in
    ⊎_elim
    (λ z. none out (eqb-true w 0 z))
    (λ l.
    let both = and_left (has w own && has w q) (ltb (rank w) (rank p)) l in
    lower out (and_left (has w own) (has w q) both) (and_right (has w own) (has w q) both)
    (ltb-true (rank w) (rank p) (and_right (has w own && has w q) (ltb (rank w) (rank p)) l)))
    (or_cases (eqb w 0) _ (and_right (not (has p q)) _ b)))
    (or_cases (has p q && eqb w p) _ e)

pub formed-of : (own p q w : ℕ) → Formed own p q w → formed_ok own p q w ≡ true
unfolding formed_ok
formed-of own p q w (member i e) = or_left (has p q && eqb w p) _ (and_both _ _ i (eq-eqb w p e))
formed-of own p q w (none o e) = or_right (has p q && eqb w p) _ (and_both _ _ (ap not o) (or_left (eqb w 0) _ (eq-eqb w 0 e)))
formed-of own p q w (lower o a b l) =
    or_right (has p q && eqb w p) _
    (and_both _ _ (ap not o) (or_right (eqb w 0) _ (and_both _ _ (and_both _ _ a b) (lt-ltb (rank w) (rank p) l))))

-- last primary for its heads and none for the others is in order
pub formed-usual : (own p q w : ℕ) → w ≡ cond (has p q) p 0 → formed_ok own p q w ≡ true
formed-usual own p q w e =
    ⊎_elim
    (λ t. formed-of own p q w (member t (rw t at e)))
    (λ f. formed-of own p q w (none f (rw f at e)))
    (passes-or-fails (has p q))

-- of a session with a head, a lower number is a lower rank
rank-order : (w p : ℕ) → (w ≡ 0 → ⊥) → ltb (num w) (num p) ≡ ltb (rank w) (rank p)
rank-order w p h =
    ⊎_elim
    (λ z. le-ltb (num w) (num p) (omega arith) ∙ sym (le-ltb (rank w) (rank p) (omega (arith, ap rank z ∙ rank-none))))
    (λ s.
    let r = rank-some w h in
    test-ext _ _ (λ t. lt-ltb (rank w) (rank p) (omega (arith, ltb-true (num w) (num p) t))) (λ t. lt-ltb (num w) (num p) (omega (arith, ltb-true (rank w) (rank p) t))))
    (none_or_some p)

pub lower-test : (own p q w : ℕ) → (has w own && has w q && ltb (num w) (num p)) ≡ (has w own && has w q && ltb (rank w) (rank p))
lower-test own p q w =
    ⊎_elim
    (λ t. rw (rank-order w p (λ z. not-both (has w own) t (ap (λ (v : ℕ). has v own) z ∙ has-none own))))
    (λ f. rw f)
    (passes-or-fails (has w own))

-- a lower rank has a number that is no higher
pub lower-number : (w p : ℕ) → rank w < rank p → num w ≤ num p
lower-number w p l = rank-le-num w p (omega arith)

-- ---- a session with a head is sound, and so is a last formed that is in order

none-sound : sound 0 ≡ true
unfolding sound
none-sound = refl

pub has-sound : (w h : ℕ) → h < 16 → has w h ≡ true → sound w ≡ true
unfolding sound
has-sound w h l e =
    or_right (eqb w 0) _
    (ap not (ne_eqb (heads w) 0 (λ z. not-both (has w h) e (sym (has-heads w h l) ∙ ap (λ (s : ℕ). has s h) z ∙ has-none h))))

pub primary-sound : (own p : ℕ) → own < 16 → primary_ok own p ≡ true → sound p ≡ true
unfolding primary_ok
primary-sound own p h e = ⊎_elim (λ z. rw (eqb-true p 0 z) none-sound) (has-sound p own h) (or_cases (eqb p 0) (has p own) e)

pub formed-sound : (own p q w : ℕ) → own < 16 → sound p ≡ true → Formed own p q w → sound w ≡ true
formed-sound own p q w h s (member i e) = rw e s
formed-sound own p q w h s (none o e) = rw e none-sound
formed-sound own p q w h s (lower o a b l) = has-sound w own h a

pub formed-number : (own p q w top : ℕ) → num p ≤ top → Formed own p q w → num w ≤ top
formed-number own p q w top h (member i e) = rw e h
formed-number own p q w top h (none o e) = omega arith
formed-number own p q w top h (lower o a b l) = omega (arith, lower-number w p l)
