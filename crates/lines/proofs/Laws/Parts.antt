-- A text that comes in parts, where of the line that a part begins the first n bytes are held for the next part. If all lines of n bytes or more come to the same,
-- the parts come to what the whole text comes to: what is held and the whole of the line begun are alike. By induction on the text, and then on the parts.
use mathlib.Core.Path.{◌≡◌, refl, sym, ap, ◌∙◌}
use mathlib.Core.Bool.{Bool, true, false, cond}
use mathlib.Core.List.{List, [], ◌∷◌, ◌++◌, append_assoc}
use mathlib.Core.Logic.{inl, inr}
use Prim.Native.Nat.{ℕ}
use borrow.Author.Tests.{eqb-true}
use lib.ListN.{take}
use lib.Dec.{eqb}
use Rattle.lines.specs.Walk.{whole_lines, begun, last_line, lines_of, join}
use Rattle.lines.proofs.Laws.Walk.{whole_append, begun-append, none-whole}
use Rattle.lines.proofs.Laws.Alike.{NoEnd, none-nil, none-take, none-begun, Long, Alike, alike-snoc, alike-held}

-- Lines come to what `all` gives, `next` puts what later lines come to after what earlier ones did, and parts come to what `run` gives, with h held of the line
-- begun before them.
pub record InParts (n : ℕ) {A : Type 0} (all : List (List ℕ) → A) (next : A → A → A) (run : List ℕ → List (List ℕ) → A) : Type 0 where
  pub append : (a b : List (List ℕ)) → all (a ++ b) ≡ next (all a) (all b)
  pub long : A
  pub long-line : (p : List ℕ) → Long n p → all ((p ++ (10 ∷ [])) ∷ []) ≡ long
  pub long-last : (p : List ℕ) → Long n p → all (last_line p) ≡ long
  pub ends : (h : List ℕ) → run h [] ≡ all (last_line h)
  pub goes : (h c : List ℕ) (cs : List (List ℕ)) → run h (c ∷ cs) ≡ next (all (whole_lines [] (h ++ c))) (run (take n (begun [] (h ++ c))) cs)

module _ {n : ℕ} {A : Type 0} {all : List (List ℕ) → A} {next : A → A → A} {run : List ℕ → List (List ℕ) → A} (r : InParts n all next run) where
  alike-line : (p q : List ℕ) → Alike n p q → all ((p ++ (10 ∷ [])) ∷ []) ≡ all ((q ++ (10 ∷ [])) ∷ [])
  alike-line p q (inl e) = ap (λ (l : List ℕ). all ((l ++ (10 ∷ [])) ∷ [])) e
  alike-line p q (inr h) = r.long-line p h.0 ∙ sym (r.long-line q h.1)

  alike-last : (p q : List ℕ) → Alike n p q → all (last_line p) ≡ all (last_line q)
  alike-last p q (inl e) = ap (λ (l : List ℕ). all (last_line l)) e
  alike-last p q (inr h) = r.long-last p h.0 ∙ sym (r.long-last q h.1)

  alike-whole : (p q s : List ℕ) → Alike n p q → all (whole_lines p s) ≡ all (whole_lines q s)
  unfolding whole_lines
  alike-whole p q [] a = refl
  alike-whole p q (b ∷ s) a = go (eqb b 10) refl (λ e. alike-whole (p ++ (b ∷ [])) (q ++ (b ∷ [])) s (alike-snoc n p q b e a))
    where
      go : (c : Bool) → eqb b 10 ≡ c → (eqb b 10 ≡ false → all (whole_lines (p ++ (b ∷ [])) s) ≡ all (whole_lines (q ++ (b ∷ [])) s))
          → all (cond c ((p ++ (b ∷ [])) ∷ whole_lines [] s) (whole_lines (p ++ (b ∷ [])) s)) ≡ all (cond c ((q ++ (b ∷ [])) ∷ whole_lines [] s) (whole_lines (q ++ (b ∷ [])) s))
      go true e ih =
          rw (eqb-true b 10 e)
          (r.append _ (whole_lines [] s) ∙ ap (λ (x : A). next x (all (whole_lines [] s))) (alike-line p q a) ∙ sym (r.append _ (whole_lines [] s)))
      go false e ih = ih e

  run-from : (h p : List ℕ) (cs : List (List ℕ)) → NoEnd h → Alike n h p → run h cs ≡ all (whole_lines p (join cs) ++ last_line (begun p (join cs)))
  unfolding join whole_lines begun
  run-from h p [] f a = r.ends h ∙ alike-last h p a
  run-from h p (c ∷ cs) f a =
      let z = none-whole [] h f in
      let o : all (whole_lines [] (h ++ c)) ≡ all (whole_lines p c) = ap all (whole_append [] h c) ∙ rw (z.none, z.all) (alike-whole h p c a) in
      let k : begun [] (h ++ c) ≡ begun h c = begun-append [] h c ∙ rw z.all in
      let t = run-from (take n (begun h c)) (begun p c) cs (none-take n (begun h c) (none-begun h c f)) (alike-held n h p c f a) in
      r.goes h c cs ∙ rw (o, k, t, whole_append p c (join cs), begun-append p c (join cs), append_assoc) (sym (r.append (whole_lines p c) _))

  pub any-parts : (cs : List (List ℕ)) → run [] cs ≡ all (lines_of (join cs))
  unfolding lines_of
  any-parts cs = run-from [] [] cs none-nil (inl refl)
