-- The changes of one or two stores: the entry, a mark word, a clearing, the attempt. Each leaves a record that follows the whole one it began on,
-- and its second store, if it has one, puts what recovery would.
use mathlib.Core.Bool.{Bool, true, false, cond}
use mathlib.Core.Logic.{⊎_elim}
use mathlib.Core.Path.{◌≡◌, refl, sym, ap, ◌∙◌}
use mathlib.Core.List.{List, [], ◌∷◌}
use Prim.Native.Nat.{ℕ, ◌+◌, ◌≤◌, ◌<◌}
use native.Mathlib.Nat.{le_antisymm}
use native.Mathlib.Omega.{arith}
use lib.Dec.{eqb, leb}
use lib.ListN.{length}
use borrow.Author.Tests.{eqb-true, eqb-false}
use Rattle.loops.proofs.Laws.Truth.{cond_same, passes-or-fails}
use Rattle.group.specs.Heads.{has}
use Rattle.group.specs.Words.{heads, num, rank, session_word}
use Rattle.group.specs.Quorum.{enough}
use Rattle.group.proofs.Laws.Words.{rank-none, rank-some, none_or_some, word_number}
use Rattle.store.specs.Desk.{stored, apply}
use Rattle.store.proofs.Laws.Put.{stored-length}
use Rattle.record.specs.Layout.{settings, core, least, own, entered, number, primary, formed_for, place_at, marks_at, store_entered, store_number, store_place, store_marks}
use Rattle.record.specs.Whole.{marks_ok, marks_whole, whole}
use Rattle.record.proofs.Laws.Layout.{Reads, changed, changed-here, changed-there, entered-stored, number-stored, place-stored, marks-stored}
use Rattle.record.proofs.Laws.Whole.{Whole, Used, whole_parts, place-cases, place-number}
use Rattle.recovery.specs.Recover.{greatest}
use Rattle.recovery.specs.Changes.{entry_change, mark_change, clear_change, attempt_change}
use Rattle.recovery.specs.Statements.{EntrySound, MarkSound, ClearSound, AttemptSound}
use Rattle.recovery.proofs.Laws.Changed.{changed-all, changed-ext}
use Rattle.recovery.proofs.Laws.Greatest.{greatest-le, place-le}
use Rattle.recovery.proofs.Laws.Mended.{mended_place, mended-reads}
use Rattle.recovery.proofs.Laws.Again.{agrees_number, agrees-marks}
use Rattle.recovery.proofs.Laws.Still.{whole-formed, whole-marks}
use Rattle.recovery.proofs.Laws.Cut.{AllAgree.none as none, AllAgree.more as more, change-sound}
use Rattle.recovery.proofs.Laws.Follows.{Last.stays as stays, Placed, Placed.free as free, Placed.kept as kept, Placed.new as new, follows-whole}

-- ---- what stays

module _ (r : List ℕ) (w : Whole r) where
  -- last formed is as recovery would set it
  pub formed-stays : (q : ℕ) → q < 16 → formed_for r q ≡ cond (has (primary r) q) (primary r) (formed_for r q)
  formed-stays q h = go (has (primary r) q) refl
    where
      go : (b : Bool) → has (primary r) q ≡ b → formed_for r q ≡ cond b (primary r) (formed_for r q)
      go true t = whole-formed r w q h t
      go false t = refl

  -- a place in y as in r, under the same last primary and the same marks
  pub place-above : (i : ℕ) → i < 16 → (place_at r i ≡ 0 → ⊥) → rank (primary r) < rank (place_at r i)
  place-above i h n = ⊎_elim (λ z. absurd (n z)) (λ u. u.above) (place-cases r i (w.places i h))

  pub marks_stay : (i : ℕ) → i < 16 → marks_ok (own r) (place_at r i) (marks_at r i) ≡ true
  unfolding marks_whole
  marks_stay i h = w.marks i h

  pub place-stays : (y : List ℕ) (i : ℕ) → i < 16 → primary y ≡ primary r → place_at y i ≡ place_at r i → marks_at y i ≡ marks_at r i → Placed r y i
  place-stays y i h p e m = kept e (λ n. rw p (place-above i h n)) (rw m (marks_stay i h))

  -- no place is numbered above word 2
  pub none-new : (y : List ℕ) → ((i : ℕ) → i < 16 → num (place_at y i) ≤ number r) → (i j : ℕ) → i < 16 → j < 16 → number r < num (place_at y i) → number r < num (place_at y j) → i ≡ j
  none-new y low i j h k a b = absurd (omega (arith, low i h))

  -- a record in which last primary and last formed stay
  steady : {v n : ℕ} {place marks : ℕ → ℕ} {y : List ℕ} → Reads y (settings r) v n (primary r) (formed_for r) place marks → length y ≡ 52
      → v ≤ 4294967295 → number r ≤ n → n ≤ 4294967295 → ((i : ℕ) → i < 16 → Placed r y i)
      → ((i j : ℕ) → i < 16 → j < 16 → number r < num (place_at y i) → number r < num (place_at y j) → i ≡ j) → whole y ≡ true
  steady {y = y} s l v u t p o = follows-whole r y w (record {
    long = l;
    group = s.settings-is;
    view = rw s.entered-is v;
    up = rw s.number_is u;
    top = rw s.number_is t;
    last = stays s.primary-is;
    formed = λ q h. rw s.primary-is (s.formed-is q h ∙ formed-stays q h);
    places = p;
    one-new = o;
  })

-- ---- the entry

entry_whole : (r : List ℕ) (view : ℕ) → Whole r → view ≤ 4294967295 → whole (stored (store_entered view) r) ≡ true
entry_whole r view w lim =
    let y : List ℕ = stored (store_entered view) r in
    let s = entered-stored r w.long view in
    steady r w s (stored-length (store_entered view) r ∙ w.long) lim (omega arith) w.top
    (λ i h. place-stays r w y i h s.primary-is (s.place_is i h) (s.marks-is i h))
    (none-new r w y (λ i h. rw (s.place_is i h) (place-number r w i h)))

pub entry-sound : EntrySound
unfolding entry_change apply
entry-sound r view e lim = change-sound r (store_entered view) [] e none (entry_whole r view (whole_parts r e) lim)

-- ---- a mark word

mark-whole : (r : List ℕ) (i m : ℕ) → Whole r → i < 16 → marks_ok (own r) (place_at r i) m ≡ true → whole (stored (store_marks i m) r) ≡ true
mark-whole r i m w l ok =
    let y : List ℕ = stored (store_marks i m) r in
    let s = marks-stored r w.long i m l in
    steady r w s (stored-length (store_marks i m) r ∙ w.long) w.view (omega arith) w.top
    (λ j h. kept (s.place_is j h) (λ n. rw s.primary-is (place-above r w j h n))
    (rw (s.marks-is j h) (changed-all (λ (k v : ℕ). k < 16 → marks_ok (own r) (place_at r k) v ≡ true) i m (marks_at r) (λ b. ok) (marks_stay r w) j h)))
    (none-new r w y (λ j h. rw (s.place_is j h) (place-number r w j h)))

pub mark-sound : MarkSound
unfolding mark_change apply
mark-sound r i m e l ok = change-sound r (store_marks i m) [] e none (mark-whole r i m (whole_parts r e) l ok)

-- ---- a clearing

-- all places but place i stay
place_other : (r y : List ℕ) (w : Whole r) (i : ℕ) → primary y ≡ primary r → ((j : ℕ) → j < 16 → (j ≡ i → ⊥) → place_at y j ≡ place_at r j)
    → ((j : ℕ) → j < 16 → (j ≡ i → ⊥) → marks_at y j ≡ marks_at r j) → Placed r y i → (j : ℕ) → j < 16 → Placed r y j
place_other r y w i p a b here j h =
    ⊎_elim (λ t. rw (eqb-true j i t) here) (λ t. let n = eqb-false j i t in place-stays r w y j h p (a j h n) (b j h n)) (passes-or-fails (eqb j i))

clear_whole : (r : List ℕ) (i : ℕ) → Whole r → i < 16 → whole (stored (store_marks i 0) (stored (store_place i 0) r)) ≡ true
clear_whole r i w l =
    let x : List ℕ = stored (store_place i 0) r in
    let y : List ℕ = stored (store_marks i 0) x in
    let long : length x ≡ 52 = stored-length (store_place i 0) r ∙ w.long in
    let a = place-stored r w.long i 0 l in
    let b = marks-stored x long i 0 l in
    let places : (j : ℕ) → j < 16 → place_at y j ≡ changed i 0 (place_at r) j = λ j h. b.place_is j h ∙ a.place_is j h in
    let marks : (j : ℕ) → j < 16 → marks_at y j ≡ changed i 0 (marks_at r) j = λ j h. b.marks-is j h ∙ changed-ext i 0 (marks_at x) (marks_at r) j (a.marks-is j h) in
    let s : Reads y (settings r) (entered r) (number r) (primary r) (formed_for r) (changed i 0 (place_at r)) (changed i 0 (marks_at r)) = record {
      settings-is = b.settings-is ∙ a.settings-is;
      entered-is = b.entered-is ∙ a.entered-is;
      number_is = b.number_is ∙ a.number_is;
      primary-is = b.primary-is ∙ a.primary-is;
      formed-is = λ q h. b.formed-is q h ∙ a.formed-is q h;
      place_is = places;
      marks-is = marks;
    } in
    steady r w s (stored-length (store_marks i 0) x ∙ long) w.view (omega arith) w.top
    (place_other r y w i s.primary-is (λ j h n. places j h ∙ changed-there i 0 (place_at r) j n) (λ j h n. marks j h ∙ changed-there i 0 (marks_at r) j n)
    (free (places i l ∙ changed-here i 0 (place_at r)) (marks i l ∙ changed-here i 0 (marks_at r))))
    (none-new r w y (λ j h. rw (places j h) (changed-all (λ (k v : ℕ). k < 16 → num v ≤ number r) i 0 (place_at r) (λ k. omega arith) (place-number r w) j h)))

pub clear-sound : ClearSound
unfolding clear_change apply
clear-sound r i e l =
    let w = whole_parts r e in
    let x : List ℕ = stored (store_place i 0) r in
    let long : length x ≡ 52 = stored-length (store_place i 0) r ∙ w.long in
    let gone : mended_place x i ≡ 0 = rw ((place-stored r w.long i 0 l).place_is i l ∙ changed-here i 0 (place_at r)) (cond_same (leb (rank 0) (rank (primary x))) 0) in
    change-sound r (store_place i 0) (store_marks i 0 ∷ []) e (more (agrees-marks l (sym ((mended-reads x long).marks-is i l ∙ rw gone))) none) (clear_whole r i w l)

-- ---- the attempt

module _ (r : List ℕ) (w : Whole r) (i v : ℕ) (l : i < 16) (up : number r < num v) where
  -- the place word is stored
  x : List ℕ
  x = stored (store_place i v) r

  long : length x ≡ 52
  unfolding x
  long = stored-length (store_place i v) r ∙ w.long

  a : Reads x (settings r) (entered r) (number r) (primary r) (formed_for r) (changed i v (place_at r)) (marks_at r)
  unfolding x
  a = place-stored r w.long i v l

  place_here : place_at x i ≡ v
  place_here = a.place_is i l ∙ changed-here i v (place_at r)

  raised-to : greatest x ≡ num v
  raised-to =
      le_antisymm
      (greatest-le x (num v) (omega (arith, a.number_is)) (omega (arith, ap num a.primary-is, w.highest))
      (λ j h. rw (a.place_is j h) (changed-all (λ (k u : ℕ). k < 16 → num u ≤ num v) i v (place_at r) (λ b. omega arith) (λ k b. omega (arith, place-number r w k b)) j h)))
      (omega (arith, place-le x i l, ap num place_here))

  -- and word 2
  y : List ℕ
  y = stored (store_number (num v)) x

  s : Reads y (settings r) (entered r) (num v) (primary r) (formed_for r) (changed i v (place_at r)) (marks_at r)
  unfolding y
  s = let b = number-stored x long (num v) in record {
    settings-is = b.settings-is ∙ a.settings-is;
    entered-is = b.entered-is ∙ a.entered-is;
    number_is = b.number_is;
    primary-is = b.primary-is ∙ a.primary-is;
    formed-is = λ q h. b.formed-is q h ∙ a.formed-is q h;
    place_is = λ j h. b.place_is j h ∙ a.place_is j h;
    marks-is = λ j h. b.marks-is j h ∙ a.marks-is j h;
  }

  here : place_at y i ≡ v
  here = s.place_is i l ∙ changed-here i v (place_at r)

  there : (j : ℕ) → j < 16 → (j ≡ i → ⊥) → place_at y j ≡ place_at r j
  there j h n = s.place_is j h ∙ changed-there i v (place_at r) j n

  only_here : (j : ℕ) → j < 16 → number r < num (place_at y j) → j ≡ i
  only_here j h b = ⊎_elim (λ t. eqb-true j i t) (λ t. absurd (omega (arith, place-number r w j h, ap num (there j h (eqb-false j i t))))) (passes-or-fails (eqb j i))

  above-primary : rank (primary r) < rank v
  above-primary =
      let n : rank v ≡ num v + 1 = rank-some v (λ z. absurd (omega (arith, ap num z))) in
      ⊎_elim (λ z. omega (arith, ap rank z, rank-none)) (λ e. omega (arith, w.highest)) (none_or_some (primary r))

  attempt-whole : place_at r i ≡ 0 → session_word v ≡ true → has v (own r) ≡ true → enough (core r) (least r) (heads v) ≡ true → whole y ≡ true
  unfolding y
  attempt-whole z f m b =
      steady r w s (stored-length (store_number (num v)) x ∙ long) w.view (omega arith) (word_number v f)
      (place_other r y w i s.primary-is there (λ j h n. s.marks-is j h)
      (new used (s.marks-is i l ∙ whole-marks r w i l z) (rw here up)))
      (λ j k h h' c d. only_here j h c ∙ sym (only_here k h' d))
    where
      used : Used (own r) (core r) (least r) (primary y) (number y) (place_at y i)
      used = rw (s.primary-is, s.number_is, here) record {
        form = f;
        mine = m;
        backed = b;
        numbered = omega arith;
        above = above-primary;
        below = omega arith;
      }

pub attempt-sound : AttemptSound
unfolding attempt_change apply x y
attempt-sound r i v e l z f m b up =
    let w = whole_parts r e in
    change-sound r (store_place i v) (store_number (num v) ∷ []) e
    (more (agrees_number (sym ((mended-reads (x r w i v l up) (long r w i v l up)).number_is ∙ raised-to r w i v l up))) none)
    (attempt-whole r w i v l up z f m b)
