-- The record after each kind of step, field by field.
use mathlib.Core.Path.{◌≡◌, ◌∙◌}
use mathlib.Core.List.{List}
use Prim.Native.Nat.{ℕ, ◌<◌}
use lib.ListN.{length}
use Rattle.group.specs.Words.{num}
use Rattle.store.specs.Desk.{stored, apply}
use Rattle.store.proofs.Laws.Put.{stored-length, apply-diff}
use Rattle.record.specs.Layout.{settings, entered, number, primary, formed_for, place_at, marks_at, store_place, store_marks}
use Rattle.record.proofs.Laws.Layout.{Reads, changed, number-stored, place-stored, marks-stored}
use Rattle.recovery.specs.Changes.{clear_change, attempt_change}
use Rattle.recovery.proofs.Laws.Changed.{changed-ext}
use Rattle.state.specs.declared.Held.{Held}
use Rattle.plan.specs.Marks.{marked, mark_step}

module _ (r : List ℕ) (long : length r ≡ 52) (i : ℕ) (h : i < 16) where
  pub marked-reads : (m : ℕ) (held : Held)
      → Reads (apply (mark_step m held i r) r) (settings r) (entered r) (number r) (primary r) (formed_for r) (place_at r) (changed i (marked m held r i) (marks_at r))
  unfolding mark_step
  marked-reads m held = rw (apply-diff (store_marks i (marked m held r i)) r) (marks-stored r long i (marked m held r i) h)

  pub cleared-reads
      : Reads (apply (clear_change i) r) (settings r) (entered r) (number r) (primary r) (formed_for r) (changed i 0 (place_at r)) (changed i 0 (marks_at r))
  unfolding clear_change apply
  cleared-reads =
      let x : List ℕ = stored (store_place i 0) r in
      let a = place-stored r long i 0 h in
      let b = marks-stored x (stored-length (store_place i 0) r ∙ long) i 0 h in
      record {
        settings-is = b.settings-is ∙ a.settings-is;
        entered-is = b.entered-is ∙ a.entered-is;
        number_is = b.number_is ∙ a.number_is;
        primary-is = b.primary-is ∙ a.primary-is;
        formed-is = λ q l. b.formed-is q l ∙ a.formed-is q l;
        place_is = λ j l. b.place_is j l ∙ a.place_is j l;
        marks-is = λ j l. b.marks-is j l ∙ changed-ext i 0 (marks_at x) (marks_at r) j (a.marks-is j l);
      }

  pub attempted-reads : (w : ℕ)
      → Reads (apply (attempt_change i w) r) (settings r) (entered r) (num w) (primary r) (formed_for r) (changed i w (place_at r)) (marks_at r)
  unfolding attempt_change apply
  attempted-reads w =
      let x : List ℕ = stored (store_place i w) r in
      let a = place-stored r long i w h in
      let b = number-stored x (stored-length (store_place i w) r ∙ long) (num w) in
      record {
        settings-is = b.settings-is ∙ a.settings-is;
        entered-is = b.entered-is ∙ a.entered-is;
        number_is = b.number_is;
        primary-is = b.primary-is ∙ a.primary-is;
        formed-is = λ q l. b.formed-is q l ∙ a.formed-is q l;
        place_is = λ j l. b.place_is j l ∙ a.place_is j l;
        marks-is = λ j l. b.marks-is j l ∙ a.marks-is j l;
      }
