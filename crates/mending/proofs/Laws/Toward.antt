-- To store the recovered record where it differs, field by field, makes recovery's own stores: each of its steps stores one field at most, a field that no
-- other step stores, and the steps come in the order of these fields.
use mathlib.Core.Bool.{Bool, true, false, cond}
use mathlib.Core.Path.{◌≡◌, refl, sym, ap, ◌∙◌}
use mathlib.Core.List.{List, [], ◌∷◌, ◌++◌}
use Prim.Native.Nat.{ℕ, zero, suc, ◌<◌}
use native.Mathlib.Nat.{lt_irrefl}
use native.Mathlib.Omega.{arith}
use lib.Dec.{eqb, leb}
use lib.ListN.{length}
use Rattle.group.specs.Heads.{has}
use Rattle.group.specs.Words.{rank}
use Rattle.store.specs.Desk.{Store, Desk, desk, apply, where_changed, diff_if, run}
use Rattle.store.specs.declared.Pen.{Pen}
use Rattle.store.specs.Program.{Step, exec, script, after, up_to}
use Rattle.store.proofs.Laws.Program.{exec-run, script-append, script-one, up_to-none, up_to-next, after_one}
use Rattle.record.specs.Layout.{settings, entered, number, primary, formed_for, place_at, marks_at, store_settings, store_entered, store_number, store_primary, store_formed, store_place, store_marks}
use Rattle.record.specs.Replacing.{store_record}
use Rattle.record.proofs.Laws.Layout.{Puts, settings-puts, entered-puts, primary-puts, formed-puts, place-puts, marks-puts, not-stored, formed-stored, place-stored, marks-stored}
use Rattle.recovery.specs.Recover.{raise_step, formed_step, clear_step, wipe_step, mend_program, mended}
use Rattle.recovery.proofs.Laws.Phases.{phase, after-phase}
use Rattle.recovery.proofs.Laws.Fields.{formed-there, place-there, marks-there, keeps-formed, keeps-places, keeps-marks}
use Rattle.recovery.proofs.Laws.Mended.{formed-made, clear-made, wipe-made, raised, formed_set, places_cleared, raised-length, formed-set-length, places-cleared-length, raised-reads, formed-set-reads, places-cleared-reads, mended-reads}

-- a store of v where asked is the store of what the field then is
same-diff : (put : ℕ → Store) (field : List ℕ → ℕ) → ((w : ℕ) → Puts (put w) field w) → (c : Bool) (v w : ℕ) (r : List ℕ)
    → w ≡ cond c v (field r) → diff_if c (put v) r ≡ where_changed (put w) r
unfolding diff_if
same-diff put field p true v w r e = ap (λ (u : ℕ). where_changed (put u) r) (sym e)
same-diff put field p false v w r e = sym (not-stored (p w) true r (λ t. sym e))

-- ---- programs that store the same

-- one after the other
same_then : (a b c d : List Step) (r : List ℕ) → script a r ≡ script c r → script b (after a r) ≡ script d (after a r) → script (a ++ b) r ≡ script (c ++ d) r
unfolding after
same_then a b c d r e q =
    script-append a b r ∙ ap (λ (l : List Store). script a r ++ l) q ∙ ap (λ (l : List Store). l ++ script d (apply l r)) e ∙ sym (script-append c d r)

-- step by step, each of the record it meets
same-steps : (f g : ℕ → Step) (r : List ℕ) (n : ℕ) → ((i : ℕ) → i < n → f i (phase i f r) ≡ g i (phase i f r)) → script (up_to n f) r ≡ script (up_to n g) r
same-steps f g r zero e = rw (up_to-none f, up_to-none g) refl
same-steps f g r (suc n) e =
    rw (up_to-next n f, up_to-next n g)
    (same_then (up_to n f) (f n ∷ []) (up_to n g) (g n ∷ []) r (same-steps f g r n (λ i h. e i (omega arith)))
    (script-one (f n) (after (up_to n f) r) ∙ rw (after-phase n f r) (e n (omega arith)) ∙ sym (script-one (g n) (after (up_to n f) r))))

-- ---- the fields of a kind made to be those of t

abbrev formed_to : List ℕ → ℕ → Step
formed_to t q = where_changed (store_formed q (formed_for t q))

abbrev place_to : List ℕ → ℕ → Step
place_to t i = where_changed (store_place i (place_at t i))

abbrev marks_to : List ℕ → ℕ → Step
marks_to t i = where_changed (store_marks i (marks_at t i))

-- each step finds what it reads as it was before the first of its kind

module _ (t x : List ℕ) (long : length x ≡ 52) where
  same-formed : ((q : ℕ) → q < 16 → formed_for t q ≡ cond (has (primary x) q) (primary x) (formed_for x q)) → script (up_to 16 formed_step) x ≡ script (up_to 16 (formed_to t)) x
  unfolding formed_step
  same-formed is = same-steps formed_step (formed_to t) x 16 (λ q h. let y = phase q formed_step x in
      same-diff (store_formed q) (λ r. formed_for r q) (formed-puts q) (has (primary y) q) (primary y) (formed_for t q) y (is q h ∙ rw (primary-before q h, formed-before q h) refl))
    where
      primary-before : (q : ℕ) → q < 16 → primary (phase q formed_step x) ≡ primary x
      primary-before q h = keeps-formed formed_step primary formed-made (λ y l q w h. (formed-stored y l q w h).primary-is) x long q primary (λ y l j w b. (formed-stored y l j w (omega arith)).primary-is)

      formed-before : (q : ℕ) → q < 16 → formed_for (phase q formed_step x) q ≡ formed_for x q
      formed-before q h = keeps-formed formed_step primary formed-made (λ y l q w h. (formed-stored y l q w h).primary-is) x long q (λ y. formed_for y q) (λ y l j w b. formed-there y l j w (omega arith) q h (λ e. lt_irrefl j (omega arith)))

  same-places : ((i : ℕ) → i < 16 → place_at t i ≡ cond (leb (rank (place_at x i)) (rank (primary x))) 0 (place_at x i)) → script (up_to 16 clear_step) x ≡ script (up_to 16 (place_to t)) x
  unfolding clear_step
  same-places is = same-steps clear_step (place_to t) x 16 (λ i h. let y = phase i clear_step x in
      same-diff (store_place i) (λ r. place_at r i) (place-puts i) (leb (rank (place_at y i)) (rank (primary y))) 0 (place_at t i) y (is i h ∙ rw (primary-before i h, place-before i h) refl))
    where
      primary-before : (i : ℕ) → i < 16 → primary (phase i clear_step x) ≡ primary x
      primary-before i h = keeps-places clear_step clear-made x long i primary (λ y l j w b. (place-stored y l j w (omega arith)).primary-is)

      place-before : (i : ℕ) → i < 16 → place_at (phase i clear_step x) i ≡ place_at x i
      place-before i h = keeps-places clear_step clear-made x long i (λ y. place_at y i) (λ y l j w b. place-there y l j w (omega arith) i h (λ e. lt_irrefl j (omega arith)))

  same-marks : ((i : ℕ) → i < 16 → marks_at t i ≡ cond (eqb (place_at x i) 0) 0 (marks_at x i)) → script (up_to 16 wipe_step) x ≡ script (up_to 16 (marks_to t)) x
  unfolding wipe_step
  same-marks is = same-steps wipe_step (marks_to t) x 16 (λ i h. let y = phase i wipe_step x in
      same-diff (store_marks i) (λ r. marks_at r i) (marks-puts i) (eqb (place_at y i) 0) 0 (marks_at t i) y (is i h ∙ rw (place-before i h, marks-before i h) refl))
    where
      place-before : (i : ℕ) → i < 16 → place_at (phase i wipe_step x) i ≡ place_at x i
      place-before i h = keeps-marks wipe_step wipe-made x long i (λ y. place_at y i) (λ y l j m b. (marks-stored y l j m (omega arith)).place_is i h)

      marks-before : (i : ℕ) → i < 16 → marks_at (phase i wipe_step x) i ≡ marks_at x i
      marks-before i h = keeps-marks wipe_step wipe-made x long i (λ y. marks_at y i) (λ y l j m b. marks-there y l j m (omega arith) i h (λ e. lt_irrefl j (omega arith)))

-- ---- all of them

-- a step that stores nothing
skip : (f : Step) (fs : List Step) (r : List ℕ) → f r ≡ [] → script (f ∷ fs) r ≡ script fs r
unfolding script apply
skip f fs r e = rw e refl

-- a field that is as it was
stays : (s : Store) (r : List ℕ) {field : List ℕ → ℕ} {w : ℕ} → Puts s field w → field r ≡ w → where_changed s r ≡ []
unfolding diff_if
stays s r p e = not-stored p true r (λ t. e)

module _ (r : List ℕ) (long : length r ≡ 52) where
  t : List ℕ
  t = mended r

  same-last : script (up_to 16 formed_step ++ (up_to 16 clear_step ++ up_to 16 wipe_step)) (raised r long) ≡ script (up_to 16 (formed_to t) ++ (up_to 16 (place_to t) ++ up_to 16 (marks_to t))) (raised r long)
  unfolding formed_set places_cleared t
  same-last =
      let m = mended-reads r long in
      let a = raised-reads r long in
      let b = formed-set-reads r long in
      let c = places-cleared-reads r long in
      same_then (up_to 16 formed_step) (up_to 16 clear_step ++ up_to 16 wipe_step) (up_to 16 (formed_to t)) (up_to 16 (place_to t) ++ up_to 16 (marks_to t)) (raised r long)
      (same-formed t (raised r long) (raised-length r long) (λ q h. m.formed-is q h ∙ rw (a.primary-is, a.formed-is q h) refl))
      (rw (after-phase 16 formed_step (raised r long))
      (same_then (up_to 16 clear_step) (up_to 16 wipe_step) (up_to 16 (place_to t)) (up_to 16 (marks_to t)) (formed_set r long)
      (same-places t (formed_set r long) (formed-set-length r long) (λ i h. m.place_is i h ∙ rw (b.primary-is, b.place_is i h) refl))
      (rw (after-phase 16 clear_step (formed_set r long))
      (same-marks t (places_cleared r long) (places-cleared-length r long) (λ i h. m.marks-is i h ∙ rw (c.place_is i h, c.marks-is i h) refl)))))

  same-stores : script (store_record t) r ≡ script mend_program r
  unfolding mend_program store_record raise_step diff_if raised t
  same-stores =
      let m = mended-reads r long in
      let raise : Step = where_changed (store_number (number t)) in
      let rest : List Step = up_to 16 (formed_to t) ++ (up_to 16 (place_to t) ++ up_to 16 (marks_to t)) in
      skip (where_changed (store_settings (settings t))) _ r (stays (store_settings (settings t)) r (settings-puts (settings t)) (sym m.settings-is))
      ∙ skip (where_changed (store_entered (entered t))) _ r (stays (store_entered (entered t)) r (entered-puts (entered t)) (sym m.entered-is))
      ∙ same_then (raise ∷ []) (where_changed (store_primary (primary t)) ∷ rest) (raise_step ∷ []) (up_to 16 formed_step ++ (up_to 16 clear_step ++ up_to 16 wipe_step)) r
      (script-one raise r ∙ ap (λ (n : ℕ). where_changed (store_number n) r) m.number_is ∙ sym (script-one raise_step r))
      (rw (after_one raise r ∙ ap (λ (n : ℕ). apply (where_changed (store_number n) r) r) m.number_is)
      (skip (where_changed (store_primary (primary t))) rest (raised r long)
      (stays (store_primary (primary t)) (raised r long) (primary-puts (primary t)) ((raised-reads r long).primary-is ∙ sym m.primary-is))
      ∙ sym same-last))

  -- TO STORE THE RECOVERED RECORD IS TO RECOVER
  pub stored-mends : {x : List ℕ} (p : Pen) {d : Desk} → x ≡ mended r → d ≡ exec (store_record x) (desk r p) → d ≡ exec mend_program (desk r p)
  unfolding t
  stored-mends p e q =
      q ∙ ap (λ (l : List ℕ). exec (store_record l) (desk r p)) e ∙ exec-run (store_record t) (desk r p) ∙ ap (λ (s : List Store). run s (desk r p)) same-stores
      ∙ sym (exec-run mend_program (desk r p))
