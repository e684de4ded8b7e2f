-- Sixteen steps that each store one word of a kind, or a place's two words: what every field reads afterwards.
use mathlib.Core.Bool.{Bool, cond}
use mathlib.Core.Path.{◌≡◌, ◌∙◌}
use mathlib.Core.List.{List}
use Prim.Native.Nat.{ℕ, ◌<◌}
use lib.Dec.{eqb, leb}
use lib.ListN.{length}
use Rattle.group.specs.Heads.{has}
use Rattle.group.specs.Words.{rank}
use Rattle.store.specs.Desk.{stored, apply}
use Rattle.store.specs.Program.{Step}
use Rattle.store.proofs.Laws.Put.{stored-length}
use Rattle.record.specs.Layout.{settings, entered, number, primary, formed_for, place_at, marks_at, store_formed, store_place, store_marks}
use Rattle.record.proofs.Laws.Layout.{Reads, formed-stored, place-stored, marks-stored, changed-here, changed-there}
use Rattle.recovery.proofs.Laws.Phases.{phase, phase-keeps, phase-sets, made-keeps, made-sets}

-- ---- one store beside the others

pub formed-there : (y : List ℕ) → length y ≡ 52 → (i w : ℕ) → i < 16 → (q : ℕ) → q < 16 → (q ≡ i → ⊥) → formed_for (stored (store_formed i w) y) q ≡ formed_for y q
formed-there y l i w b q h n = (formed-stored y l i w b).formed-is q h ∙ changed-there i w (formed_for y) q n

pub place-there : (y : List ℕ) → length y ≡ 52 → (i w : ℕ) → i < 16 → (j : ℕ) → j < 16 → (j ≡ i → ⊥) → place_at (stored (store_place i w) y) j ≡ place_at y j
place-there y l i w b j h n = (place-stored y l i w b).place_is j h ∙ changed-there i w (place_at y) j n

pub marks-there : (y : List ℕ) → length y ≡ 52 → (i m : ℕ) → i < 16 → (j : ℕ) → j < 16 → (j ≡ i → ⊥) → marks_at (stored (store_marks i m) y) j ≡ marks_at y j
marks-there y l i m b j h n = (marks-stored y l i m b).marks-is j h ∙ changed-there i m (marks_at y) j n

-- ---- last formed: v x for its heads, v being a session that these stores do not change

module _ (f : ℕ → Step) (v : List ℕ → ℕ) (made : (q : ℕ) (y : List ℕ) → apply (f q y) y ≡ cond (has (v y) q) (stored (store_formed q (v y)) y) y)
    (stays : (y : List ℕ) → length y ≡ 52 → (q w : ℕ) → q < 16 → v (stored (store_formed q w) y) ≡ v y) (x : List ℕ) (long : length x ≡ 52) where
  pub keeps-formed : {X : Type 0} (n : ℕ) (g : List ℕ → X) → ((y : List ℕ) → length y ≡ 52 → (q w : ℕ) → q < n → g (stored (store_formed q w) y) ≡ g y) → g (phase n f x) ≡ g x
  keeps-formed n g k = phase-keeps f x g n (λ q y h l. made-keeps g (has (v y) q) (stored (store_formed q (v y)) y) y (made q y) (k y (l ∙ long) q (v y) h))

  pub formed-reads : Reads (phase 16 f x) (settings x) (entered x) (number x) (primary x) (λ q. cond (has (v x) q) (v x) (formed_for x q)) (place_at x) (marks_at x)
  formed-reads = record {
    settings-is = keeps-formed 16 settings (λ y l q w h. (formed-stored y l q w h).settings-is);
    entered-is = keeps-formed 16 entered (λ y l q w h. (formed-stored y l q w h).entered-is);
    number_is = keeps-formed 16 number (λ y l q w h. (formed-stored y l q w h).number_is);
    primary-is = keeps-formed 16 primary (λ y l q w h. (formed-stored y l q w h).primary-is);
    formed-is = λ q h. phase-sets f x (λ y. formed_for y q) (λ y. cond (has (v y) q) (v y) (formed_for y q)) 16 q h
        (λ i y b n l. made-keeps (λ z. formed_for z q) (has (v y) i) (stored (store_formed i (v y)) y) y (made i y) (formed-there y (l ∙ long) i (v y) b q h n))
        (λ i y b n l. made-keeps (λ z. cond (has (v z) q) (v z) (formed_for z q)) (has (v y) i) (stored (store_formed i (v y)) y) y (made i y)
        (rw (stays y (l ∙ long) i (v y) b, formed-there y (l ∙ long) i (v y) b q h n)))
        (λ y l. made-sets (λ z. formed_for z q) (has (v y) q) (stored (store_formed q (v y)) y) y (made q y)
        ((formed-stored y (l ∙ long) q (v y) h).formed-is q h ∙ changed-here q (v y) (formed_for y)));
    place_is = λ i h. keeps-formed 16 (λ y. place_at y i) (λ y l q w b. (formed-stored y l q w b).place_is i h);
    marks-is = λ i h. keeps-formed 16 (λ y. marks_at y i) (λ y l q w b. (formed-stored y l q w b).marks-is i h);
  }

-- ---- places at or below last primary zeroed

module _ (f : ℕ → Step) (made : (i : ℕ) (y : List ℕ) → apply (f i y) y ≡ cond (leb (rank (place_at y i)) (rank (primary y))) (stored (store_place i 0) y) y)
    (x : List ℕ) (long : length x ≡ 52) where
  pub keeps-places : {X : Type 0} (n : ℕ) (g : List ℕ → X) → ((y : List ℕ) → length y ≡ 52 → (i w : ℕ) → i < n → g (stored (store_place i w) y) ≡ g y) → g (phase n f x) ≡ g x
  keeps-places n g k =
      phase-keeps f x g n (λ i y h l. made-keeps g (leb (rank (place_at y i)) (rank (primary y))) (stored (store_place i 0) y) y (made i y) (k y (l ∙ long) i 0 h))

  pub places-reads : Reads (phase 16 f x) (settings x) (entered x) (number x) (primary x) (formed_for x) (λ i. cond (leb (rank (place_at x i)) (rank (primary x))) 0 (place_at x i)) (marks_at x)
  places-reads = record {
    settings-is = keeps-places 16 settings (λ y l i w h. (place-stored y l i w h).settings-is);
    entered-is = keeps-places 16 entered (λ y l i w h. (place-stored y l i w h).entered-is);
    number_is = keeps-places 16 number (λ y l i w h. (place-stored y l i w h).number_is);
    primary-is = keeps-places 16 primary (λ y l i w h. (place-stored y l i w h).primary-is);
    formed-is = λ q h. keeps-places 16 (λ y. formed_for y q) (λ y l i w b. (place-stored y l i w b).formed-is q h);
    place_is = λ j h. phase-sets f x (λ y. place_at y j) (λ y. cond (leb (rank (place_at y j)) (rank (primary y))) 0 (place_at y j)) 16 j h
        (λ i y b n l. made-keeps (λ z. place_at z j) (leb (rank (place_at y i)) (rank (primary y))) (stored (store_place i 0) y) y (made i y) (place-there y (l ∙ long) i 0 b j h n))
        (λ i y b n l. made-keeps (λ z. cond (leb (rank (place_at z j)) (rank (primary z))) 0 (place_at z j)) (leb (rank (place_at y i)) (rank (primary y))) (stored (store_place i 0) y) y (made i y)
        (rw ((place-stored y (l ∙ long) i 0 b).primary-is, place-there y (l ∙ long) i 0 b j h n)))
        (λ y l. made-sets (λ z. place_at z j) (leb (rank (place_at y j)) (rank (primary y))) (stored (store_place j 0) y) y (made j y)
        ((place-stored y (l ∙ long) j 0 h).place_is j h ∙ changed-here j 0 (place_at y)));
    marks-is = λ j h. keeps-places 16 (λ y. marks_at y j) (λ y l i w b. (place-stored y l i w b).marks-is j h);
  }

-- ---- marks of free places zeroed

module _ (f : ℕ → Step) (made : (i : ℕ) (y : List ℕ) → apply (f i y) y ≡ cond (eqb (place_at y i) 0) (stored (store_marks i 0) y) y) (x : List ℕ) (long : length x ≡ 52) where
  pub keeps-marks : {X : Type 0} (n : ℕ) (g : List ℕ → X) → ((y : List ℕ) → length y ≡ 52 → (i m : ℕ) → i < n → g (stored (store_marks i m) y) ≡ g y) → g (phase n f x) ≡ g x
  keeps-marks n g k = phase-keeps f x g n (λ i y h l. made-keeps g (eqb (place_at y i) 0) (stored (store_marks i 0) y) y (made i y) (k y (l ∙ long) i 0 h))

  pub marks-reads : Reads (phase 16 f x) (settings x) (entered x) (number x) (primary x) (formed_for x) (place_at x) (λ i. cond (eqb (place_at x i) 0) 0 (marks_at x i))
  marks-reads = record {
    settings-is = keeps-marks 16 settings (λ y l i m h. (marks-stored y l i m h).settings-is);
    entered-is = keeps-marks 16 entered (λ y l i m h. (marks-stored y l i m h).entered-is);
    number_is = keeps-marks 16 number (λ y l i m h. (marks-stored y l i m h).number_is);
    primary-is = keeps-marks 16 primary (λ y l i m h. (marks-stored y l i m h).primary-is);
    formed-is = λ q h. keeps-marks 16 (λ y. formed_for y q) (λ y l i m b. (marks-stored y l i m b).formed-is q h);
    place_is = λ j h. keeps-marks 16 (λ y. place_at y j) (λ y l i m b. (marks-stored y l i m b).place_is j h);
    marks-is = λ j h. phase-sets f x (λ y. marks_at y j) (λ y. cond (eqb (place_at y j) 0) 0 (marks_at y j)) 16 j h
        (λ i y b n l. made-keeps (λ z. marks_at z j) (eqb (place_at y i) 0) (stored (store_marks i 0) y) y (made i y) (marks-there y (l ∙ long) i 0 b j h n))
        (λ i y b n l. made-keeps (λ z. cond (eqb (place_at z j) 0) 0 (marks_at z j)) (eqb (place_at y i) 0) (stored (store_marks i 0) y) y (made i y)
        (rw ((marks-stored y (l ∙ long) i 0 b).place_is j h, marks-there y (l ∙ long) i 0 b j h n)))
        (λ y l. made-sets (λ z. marks_at z j) (eqb (place_at y j) 0) (stored (store_marks j 0) y) y (made j y)
        ((marks-stored y (l ∙ long) j 0 h).marks-is j h ∙ changed-here j 0 (marks_at y)));
  }

-- ---- the places of a test cleared, each its session word and then its marks word

module _ (f : ℕ → Step) (t : ℕ → Bool) (made : (i : ℕ) (y : List ℕ) → apply (f i y) y ≡ cond (t i) (stored (store_marks i 0) (stored (store_place i 0) y)) y)
    (x : List ℕ) (long : length x ≡ 52) where
  keeps-both : {X : Type 0} (g : List ℕ → X) (i : ℕ) (y : List ℕ) → length y ≡ length x → g (stored (store_place i 0) y) ≡ g y
      → ((z : List ℕ) → length z ≡ 52 → g (stored (store_marks i 0) z) ≡ g z) → g (apply (f i y) y) ≡ g y
  keeps-both g i y l p m =
      made-keeps g (t i) (stored (store_marks i 0) (stored (store_place i 0) y)) y (made i y) (m (stored (store_place i 0) y) (stored-length (store_place i 0) y ∙ l ∙ long) ∙ p)

  keeps-cleared : {X : Type 0} (g : List ℕ → X) → ((y : List ℕ) → length y ≡ 52 → (i w : ℕ) → i < 16 → g (stored (store_place i w) y) ≡ g y)
      → ((y : List ℕ) → length y ≡ 52 → (i m : ℕ) → i < 16 → g (stored (store_marks i m) y) ≡ g y) → g (phase 16 f x) ≡ g x
  keeps-cleared g p m = phase-keeps f x g 16 (λ i y h l. keeps-both g i y l (p y (l ∙ long) i 0 h) (λ z k. m z k i 0 h))

  pub cleared-reads : Reads (phase 16 f x) (settings x) (entered x) (number x) (primary x) (formed_for x) (λ i. cond (t i) 0 (place_at x i)) (λ i. cond (t i) 0 (marks_at x i))
  cleared-reads = record {
    settings-is = keeps-cleared settings (λ y l i w h. (place-stored y l i w h).settings-is) (λ y l i m h. (marks-stored y l i m h).settings-is);
    entered-is = keeps-cleared entered (λ y l i w h. (place-stored y l i w h).entered-is) (λ y l i m h. (marks-stored y l i m h).entered-is);
    number_is = keeps-cleared number (λ y l i w h. (place-stored y l i w h).number_is) (λ y l i m h. (marks-stored y l i m h).number_is);
    primary-is = keeps-cleared primary (λ y l i w h. (place-stored y l i w h).primary-is) (λ y l i m h. (marks-stored y l i m h).primary-is);
    formed-is = λ q h. keeps-cleared (λ y. formed_for y q) (λ y l i w b. (place-stored y l i w b).formed-is q h) (λ y l i m b. (marks-stored y l i m b).formed-is q h);
    place_is = λ j h. phase-sets f x (λ y. place_at y j) (λ y. cond (t j) 0 (place_at y j)) 16 j h (place_kept j h)
        (λ i y b n l. rw (place_kept j h i y b n l))
        (λ y l. made-sets (λ z. place_at z j) (t j) (stored (store_marks j 0) (stored (store_place j 0) y)) y (made j y)
        ((marks-stored (stored (store_place j 0) y) (stored-length (store_place j 0) y ∙ l ∙ long) j 0 h).place_is j h ∙ (place-stored y (l ∙ long) j 0 h).place_is j h ∙ changed-here j 0 (place_at y)));
    marks-is = λ j h. phase-sets f x (λ y. marks_at y j) (λ y. cond (t j) 0 (marks_at y j)) 16 j h (marks-kept j h)
        (λ i y b n l. rw (marks-kept j h i y b n l))
        (λ y l. made-sets (λ z. marks_at z j) (t j) (stored (store_marks j 0) (stored (store_place j 0) y)) y (made j y)
        ((marks-stored (stored (store_place j 0) y) (stored-length (store_place j 0) y ∙ l ∙ long) j 0 h).marks-is j h ∙ changed-here j 0 (marks_at (stored (store_place j 0) y))));
  }
    where
      place_kept : (j : ℕ) → j < 16 → (i : ℕ) (y : List ℕ) → i < 16 → (j ≡ i → ⊥) → length y ≡ length x → place_at (apply (f i y) y) j ≡ place_at y j
      place_kept j h i y b n l = keeps-both (λ z. place_at z j) i y l (place-there y (l ∙ long) i 0 b j h n) (λ z k. (marks-stored z k i 0 b).place_is j h)

      marks-kept : (j : ℕ) → j < 16 → (i : ℕ) (y : List ℕ) → i < 16 → (j ≡ i → ⊥) → length y ≡ length x → marks_at (apply (f i y) y) j ≡ marks_at y j
      marks-kept j h i y b n l = keeps-both (λ z. marks_at z j) i y l ((place-stored y (l ∙ long) i 0 b).marks-is j h) (λ z k. marks-there z k i 0 b j h n)
