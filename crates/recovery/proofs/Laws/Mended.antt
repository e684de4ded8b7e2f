-- The recovered record, field by field. Each of the four steps stores one kind of field, and reads only fields that it leaves, or its own before it stores it.
use mathlib.Core.Bool.{cond}
use mathlib.Core.Path.{◌≡◌, refl, ap, ◌∙◌}
use mathlib.Core.List.{List, [], ◌∷◌, ◌++◌}
use Prim.Native.Nat.{ℕ}
use lib.Dec.{eqb, leb}
use lib.ListN.{length}
use Rattle.group.specs.Heads.{has}
use Rattle.group.specs.Words.{rank}
use Rattle.store.specs.Desk.{stored, apply}
use Rattle.store.specs.Program.{Step, after, up_to}
use Rattle.store.proofs.Laws.Put.{apply-diff_if}
use Rattle.store.proofs.Laws.Script.{apply-length}
use Rattle.store.proofs.Laws.Program.{after-append, after_one, after-length}
use Rattle.record.specs.Layout.{settings, entered, primary, formed_for, place_at, marks_at, store_number, store_formed, store_place, store_marks}
use Rattle.record.proofs.Laws.Layout.{Reads, number-stored, formed-stored}
use Rattle.recovery.specs.Recover.{greatest, raise_step, formed_step, clear_step, wipe_step, mend_program, mended}
use Rattle.recovery.proofs.Laws.Phases.{phase, after-phase, phase-length}
use Rattle.recovery.proofs.Laws.Fields.{formed-reads, places-reads, marks-reads}

-- what recovery makes of last formed for q, of place i and of its marks
abbrev pub mended_formed : List ℕ → ℕ → ℕ
mended_formed r q = cond (has (primary r) q) (primary r) (formed_for r q)

abbrev pub mended_place : List ℕ → ℕ → ℕ
mended_place r i = cond (leb (rank (place_at r i)) (rank (primary r))) 0 (place_at r i)

abbrev pub mended_marks : List ℕ → ℕ → ℕ
mended_marks r i = cond (eqb (mended_place r i) 0) 0 (marks_at r i)

-- ---- what each step makes

pub formed-made : (q : ℕ) (y : List ℕ) → apply (formed_step q y) y ≡ cond (has (primary y) q) (stored (store_formed q (primary y)) y) y
unfolding formed_step
formed-made q y = apply-diff_if (has (primary y) q) (store_formed q (primary y)) y

pub clear-made : (i : ℕ) (y : List ℕ) → apply (clear_step i y) y ≡ cond (leb (rank (place_at y i)) (rank (primary y))) (stored (store_place i 0) y) y
unfolding clear_step
clear-made i y = apply-diff_if (leb (rank (place_at y i)) (rank (primary y))) (store_place i 0) y

pub wipe-made : (i : ℕ) (y : List ℕ) → apply (wipe_step i y) y ≡ cond (eqb (place_at y i) 0) (stored (store_marks i 0) y) y
unfolding wipe_step
wipe-made i y = apply-diff_if (eqb (place_at y i) 0) (store_marks i 0) y

-- ---- all four, and the record between them

-- what a step and three parts leave, one after the other
pub after-parts : (f : Step) (a b c : List Step) (r : List ℕ) → after (f ∷ (a ++ (b ++ c))) r ≡ after c (after b (after a (apply (f r) r)))
after-parts f a b c r =
    after-append (f ∷ []) (a ++ (b ++ c)) r ∙ ap (after (a ++ (b ++ c))) (after_one f r) ∙ after-append a (b ++ c) (apply (f r) r)
    ∙ after-append b c (after a (apply (f r) r))

pub mended-length : (r : List ℕ) → length (mended r) ≡ length r
unfolding mended
mended-length r = after-length mend_program r

module _ (r : List ℕ) (long : length r ≡ 52) where
  unfoldable pub raised : List ℕ
  raised = apply (raise_step r) r

  unfoldable pub formed_set : List ℕ
  formed_set = phase 16 formed_step raised

  unfoldable pub places_cleared : List ℕ
  places_cleared = phase 16 clear_step formed_set

  mended-is : mended r ≡ phase 16 wipe_step places_cleared
  unfolding mended mend_program raised formed_set places_cleared
  mended-is =
      after-parts raise_step (up_to 16 formed_step) (up_to 16 clear_step) (up_to 16 wipe_step) r
      ∙ rw (after-phase 16 formed_step raised, after-phase 16 clear_step formed_set, after-phase 16 wipe_step places_cleared) refl

  pub raised-length : length raised ≡ 52
  unfolding raised
  raised-length = apply-length (raise_step r) r ∙ long

  pub formed-set-length : length formed_set ≡ 52
  unfolding formed_set
  formed-set-length = phase-length formed_step raised 16 ∙ raised-length

  pub places-cleared-length : length places_cleared ≡ 52
  unfolding places_cleared
  places-cleared-length = phase-length clear_step formed_set 16 ∙ formed-set-length

  pub raised-reads : Reads raised (settings r) (entered r) (greatest r) (primary r) (formed_for r) (place_at r) (marks_at r)
  unfolding raised raise_step
  raised-reads = rw (apply-diff_if _ (store_number (greatest r)) r) (number-stored r long (greatest r))

  pub formed-set-reads : Reads formed_set (settings r) (entered r) (greatest r) (primary r) (mended_formed r) (place_at r) (marks_at r)
  unfolding formed_set
  formed-set-reads = let f = formed-reads formed_step primary formed-made (λ y l q w h. (formed-stored y l q w h).primary-is) raised raised-length in record {
    settings-is = f.settings-is ∙ raised-reads.settings-is;
    entered-is = f.entered-is ∙ raised-reads.entered-is;
    number_is = f.number_is ∙ raised-reads.number_is;
    primary-is = f.primary-is ∙ raised-reads.primary-is;
    formed-is = λ q h. f.formed-is q h ∙ rw (raised-reads.primary-is, raised-reads.formed-is q h);
    place_is = λ i h. f.place_is i h ∙ raised-reads.place_is i h;
    marks-is = λ i h. f.marks-is i h ∙ raised-reads.marks-is i h;
  }

  pub places-cleared-reads : Reads places_cleared (settings r) (entered r) (greatest r) (primary r) (mended_formed r) (mended_place r) (marks_at r)
  unfolding places_cleared
  places-cleared-reads = let c = places-reads clear_step clear-made formed_set formed-set-length in record {
    settings-is = c.settings-is ∙ formed-set-reads.settings-is;
    entered-is = c.entered-is ∙ formed-set-reads.entered-is;
    number_is = c.number_is ∙ formed-set-reads.number_is;
    primary-is = c.primary-is ∙ formed-set-reads.primary-is;
    formed-is = λ q h. c.formed-is q h ∙ formed-set-reads.formed-is q h;
    place_is = λ i h. c.place_is i h ∙ rw (formed-set-reads.primary-is, formed-set-reads.place_is i h);
    marks-is = λ i h. c.marks-is i h ∙ formed-set-reads.marks-is i h;
  }

  -- THE RECOVERED RECORD
  pub mended-reads : Reads (mended r) (settings r) (entered r) (greatest r) (primary r) (mended_formed r) (mended_place r) (mended_marks r)
  mended-reads = let w = marks-reads wipe_step wipe-made places_cleared places-cleared-length in rw mended-is record {
    settings-is = w.settings-is ∙ places-cleared-reads.settings-is;
    entered-is = w.entered-is ∙ places-cleared-reads.entered-is;
    number_is = w.number_is ∙ places-cleared-reads.number_is;
    primary-is = w.primary-is ∙ places-cleared-reads.primary-is;
    formed-is = λ q h. w.formed-is q h ∙ places-cleared-reads.formed-is q h;
    place_is = λ i h. w.place_is i h ∙ places-cleared-reads.place_is i h;
    marks-is = λ i h. w.marks-is i h ∙ rw (places-cleared-reads.place_is i h, places-cleared-reads.marks-is i h);
  }
