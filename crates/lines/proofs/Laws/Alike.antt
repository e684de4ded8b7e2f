-- Beginnings of a line, with no newline in them. Two are alike where they are the same or both of n bytes or more; whatever follows, they stay alike. So a
-- reader to whom all lines of n bytes or more are one may hold the first n bytes of a line for all of it. By induction on the text.
use mathlib.Core.Path.{◌≡◌, refl, sym, ap}
use mathlib.Core.Bool.{Bool, true, false, cond}
use mathlib.Core.List.{List, [], ◌∷◌, ◌++◌}
use mathlib.Core.Logic.{◌⊎◌, inl, inr, ⊎_elim}
use Prim.Native.Nat.{ℕ, zero, suc, ◌≤◌, ◌<◌}
use native.Mathlib.Nat.{not-suc-le-zero}
use native.Mathlib.Omega.{arith}
use lib.ListN.{length, take, length-append}
use lib.Seq.{take_all, length-take-le}
use lib.Dec.{eqb}
use Rattle.loops.proofs.Laws.Order.{lt-or-ge}
use Rattle.lines.specs.Hex.{line_end}
use Rattle.lines.specs.Walk.{begun}

-- ---- no newline

abbrev pub NoEnd : List ℕ → Type 0
NoEnd p = length p ≤ line_end p

pub none-nil : NoEnd []
unfolding line_end
none-nil = omega arith

pub none-snoc : (p : List ℕ) (b : ℕ) → NoEnd p → eqb b 10 ≡ false → NoEnd (p ++ (b ∷ []))
unfolding line_end
none-snoc [] b h e = rw e (omega arith)
none-snoc (a ∷ p) b h e = go (eqb a 10) h (none-snoc p b)
  where
    go : (c : Bool) → suc (length p) ≤ cond c 0 (suc (line_end p)) → (NoEnd p → eqb b 10 ≡ false → NoEnd (p ++ (b ∷ [])))
        → suc (length (p ++ (b ∷ []))) ≤ cond c 0 (suc (line_end (p ++ (b ∷ []))))
    go true k ih = absurd (not-suc-le-zero k)
    go false k ih = omega (arith, ih (omega arith) e)

pub none-take : (n : ℕ) (s : List ℕ) → NoEnd s → NoEnd (take n s)
unfolding line_end
none-take zero s h = omega arith
none-take (suc n) [] h = omega arith
none-take (suc n) (b ∷ s) h = go (eqb b 10) h (none-take n s)
  where
    go : (c : Bool) → suc (length s) ≤ cond c 0 (suc (line_end s)) → (NoEnd s → NoEnd (take n s)) → suc (length (take n s)) ≤ cond c 0 (suc (line_end (take n s)))
    go true k ih = absurd (not-suc-le-zero k)
    go false k ih = omega (arith, ih (omega arith))

pub none-begun : (p s : List ℕ) → NoEnd p → NoEnd (begun p s)
unfolding begun
none-begun p [] h = h
none-begun p (b ∷ s) h = go (eqb b 10) refl (none-begun [] s none-nil) (none-begun (p ++ (b ∷ [])) s)
  where
    go : (c : Bool) → eqb b 10 ≡ c → NoEnd (begun [] s) → (NoEnd (p ++ (b ∷ [])) → NoEnd (begun (p ++ (b ∷ [])) s)) → NoEnd (cond c (begun [] s) (begun (p ++ (b ∷ [])) s))
    go true e i j = i
    go false e i j = j (none-snoc p b h e)

-- a newline after it ends its line
pub end_after : (p : List ℕ) → NoEnd p → line_end (p ++ (10 ∷ [])) ≡ length p
unfolding line_end
end_after [] h = refl
end_after (a ∷ p) h = go (eqb a 10) h (end_after p)
  where
    go : (c : Bool) → suc (length p) ≤ cond c 0 (suc (line_end p)) → (NoEnd p → line_end (p ++ (10 ∷ [])) ≡ length p) → cond c 0 (suc (line_end (p ++ (10 ∷ [])))) ≡ suc (length p)
    go true k ih = absurd (not-suc-le-zero k)
    go false k ih = ap suc (ih (omega arith))

-- ---- alike

module _ (n : ℕ) where
  abbrev pub Long : List ℕ → Type 0
  Long p = (n ≤ length p) × NoEnd p

  abbrev pub Alike : List ℕ → List ℕ → Type 0
  Alike p q = (p ≡ q) ⊎ (Long p × Long q)

  pub alike-snoc : (p q : List ℕ) (b : ℕ) → eqb b 10 ≡ false → Alike p q → Alike (p ++ (b ∷ [])) (q ++ (b ∷ []))
  alike-snoc p q b e (inl f) = inl (ap (λ (l : List ℕ). l ++ (b ∷ [])) f)
  alike-snoc p q b e (inr h) = inr (longer p h.0, longer q h.1)
    where
      longer : (l : List ℕ) → Long l → Long (l ++ (b ∷ []))
      longer l k = (omega (arith, length-append l (b ∷ []), k.0), none-snoc l b k.1 e)

  alike-begun : (p q s : List ℕ) → Alike p q → Alike (begun p s) (begun q s)
  unfolding begun
  alike-begun p q [] a = a
  alike-begun p q (b ∷ s) a = go (eqb b 10) refl (λ e. alike-begun (p ++ (b ∷ [])) (q ++ (b ∷ [])) s (alike-snoc p q b e a))
    where
      go : (c : Bool) → eqb b 10 ≡ c → (eqb b 10 ≡ false → Alike (begun (p ++ (b ∷ [])) s) (begun (q ++ (b ∷ [])) s))
          → Alike (cond c (begun [] s) (begun (p ++ (b ∷ [])) s)) (cond c (begun [] s) (begun (q ++ (b ∷ [])) s))
      go true e ih = inl refl
      go false e ih = ih e

  alike-trans : (p q r : List ℕ) → Alike p q → Alike q r → Alike p r
  alike-trans p q r (inl e) a = rw e a
  alike-trans p q r (inr h) (inl f) = inr (h.0, rw (sym f) h.1)
  alike-trans p q r (inr h) (inr k) = inr (h.0, k.1)

  -- the first n bytes of a line's beginning serve for all of it
  alike-take : (p : List ℕ) → NoEnd p → Alike (take n p) p
  alike-take p e = ⊎_elim long short (lt-or-ge n (length p))
    where
      long : n < length p → Alike (take n p) p
      long h =
          let l = length-take-le n p (omega arith) in
          inr ((omega arith, none-take n p e), (omega arith, e))

      short : length p ≤ n → Alike (take n p) p
      short h = inl (take_all n p h)

  -- what is held after the part s, and all of the line begun
  pub alike-held : (p q s : List ℕ) → NoEnd p → Alike p q → Alike (take n (begun p s)) (begun q s)
  alike-held p q s e a = alike-trans (take n (begun p s)) (begun p s) (begun q s) (alike-take (begun p s) (none-begun p s e)) (alike-begun p q s a)
