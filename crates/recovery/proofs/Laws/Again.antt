-- A store that puts what recovery would leaves recovery's end the same: so recovery ends the same from anywhere on its way, whatever came first.
use mathlib.Core.Bool.{Bool, true, false, cond}
use mathlib.Core.Logic.{⊎_elim}
use mathlib.Core.Path.{◌≡◌, refl, sym, ap, ◌∙◌}
use mathlib.Core.List.{List}
use Prim.Native.Nat.{ℕ, ◌≤◌, ◌<◌}
use native.Mathlib.Omega.{arith}
use lib.Dec.{eqb, leb}
use lib.ListN.{length}
use borrow.Author.Tests.{leb-true}
use Rattle.loops.proofs.Laws.Truth.{cond_same, passes-or-fails}
use Rattle.group.specs.Heads.{has}
use Rattle.group.specs.Words.{num, rank}
use Rattle.group.proofs.Laws.Words.{rank-le-num}
use Rattle.store.specs.Desk.{Store, stored}
use Rattle.store.proofs.Laws.Put.{stored-length}
use Rattle.record.specs.Layout.{settings, entered, number, primary, formed_for, place_at, marks_at, store_number, store_formed, store_place, store_marks}
use Rattle.record.proofs.Laws.Layout.{Reads, fields-ext, number-stored, formed-stored, place-stored, marks-stored}
use Rattle.recovery.specs.Recover.{greatest, mended}
use Rattle.recovery.proofs.Laws.Changed.{changed-by, changed-all}
use Rattle.recovery.proofs.Laws.Greatest.{number-le, primary-le, place-le, same-greatest}
use Rattle.recovery.proofs.Laws.Mended.{mended_formed, mended_place, mended_marks, mended-length, mended-reads}

-- two records of which recovery makes the same fields
mends-ext : (x y : List ℕ) → length x ≡ 52 → length y ≡ 52 → settings y ≡ settings x → entered y ≡ entered x → greatest y ≡ greatest x → primary y ≡ primary x
    → ((q : ℕ) → q < 16 → mended_formed y q ≡ mended_formed x q) → ((i : ℕ) → i < 16 → mended_place y i ≡ mended_place x i)
    → ((i : ℕ) → i < 16 → mended_marks y i ≡ mended_marks x i) → mended y ≡ mended x
mends-ext x y lx ly s e g p f pl m =
    let n = mended-reads y ly in
    let same : Reads (mended y) (settings x) (entered x) (greatest x) (primary x) (mended_formed x) (mended_place x) (mended_marks x) = record {
      settings-is = n.settings-is ∙ s;
      entered-is = n.entered-is ∙ e;
      number_is = n.number_is ∙ g;
      primary-is = n.primary-is ∙ p;
      formed-is = λ q h. n.formed-is q h ∙ f q h;
      place_is = λ i h. n.place_is i h ∙ pl i h;
      marks-is = λ i h. n.marks-is i h ∙ m i h;
    } in
    fields-ext same (mended-reads x lx) (mended-length y ∙ ly) (mended-length x ∙ lx)

-- the greatest number is the same where number, primary and places are
greatest-ext : (x y : List ℕ) → number y ≡ number x → primary y ≡ primary x → ((i : ℕ) → i < 16 → place_at y i ≡ place_at x i) → greatest y ≡ greatest x
greatest-ext x y n p f =
    same-greatest y x (rw n (number-le x)) (rw p (primary-le x)) (λ i h. rw (f i h) (place-le x i h))
    (rw (sym n) (number-le y)) (rw (sym p) (primary-le y)) (λ i h. rw (sym (f i h)) (place-le y i h))

cleared-le : (b : Bool) (v : ℕ) → num (cond b 0 v) ≤ num v
cleared-le true v = omega arith
cleared-le false v = omega arith

cond-again : (b : Bool) (w v : ℕ) → cond b w (cond b w v) ≡ cond b w v
cond-again true w v = refl
cond-again false w v = refl

-- a place that is cleared is cleared again, and one that is left is left
cleared-again : (p v : ℕ) (b : Bool) → leb (rank v) p ≡ b → cond (leb (rank (cond b 0 v)) p) 0 (cond b 0 v) ≡ cond b 0 v
cleared-again p v true e = cond_same (leb (rank 0) p) 0
cleared-again p v false e = rw e

-- the store puts what n has
pub data Agrees (n : List ℕ) : Store → Type 0 where
  agrees_number : {v : ℕ} → v ≡ number n → Agrees n (store_number v)
  agrees-formed : {q w : ℕ} → q < 16 → w ≡ formed_for n q → Agrees n (store_formed q w)
  agrees-place : {i w : ℕ} → i < 16 → w ≡ place_at n i → Agrees n (store_place i w)
  agrees-marks : {i m : ℕ} → i < 16 → m ≡ marks_at n i → Agrees n (store_marks i m)

module _ (x : List ℕ) (long : length x ≡ 52) where
  number-mends : (v : ℕ) → v ≡ greatest x → mended (stored (store_number v) x) ≡ mended x
  number-mends v e =
      let y : List ℕ = stored (store_number v) x in
      let s = number-stored x long v in
      mends-ext x y long (stored-length (store_number v) x ∙ long) s.settings-is s.entered-is
      (same-greatest y x (omega (arith, s.number_is)) (rw s.primary-is (primary-le x)) (λ i h. rw (s.place_is i h) (place-le x i h))
      (omega (arith, s.number_is, number-le x, number-le y)) (rw (sym s.primary-is) (primary-le y)) (λ i h. rw (sym (s.place_is i h)) (place-le y i h)))
      s.primary-is (λ q h. rw (s.primary-is, s.formed-is q h)) (λ i h. rw (s.primary-is, s.place_is i h)) (λ i h. rw (s.primary-is, s.place_is i h, s.marks-is i h))

  formed-mends : (q w : ℕ) → q < 16 → w ≡ mended_formed x q → mended (stored (store_formed q w) x) ≡ mended x
  formed-mends q w l e =
      let s = formed-stored x long q w l in
      mends-ext x (stored (store_formed q w) x) long (stored-length (store_formed q w) x ∙ long) s.settings-is s.entered-is
      (greatest-ext x (stored (store_formed q w) x) s.number_is s.primary-is s.place_is)
      s.primary-is
      (λ j h. rw (s.primary-is, s.formed-is j h) (changed-by (λ k v. cond (has (primary x) k) (primary x) v) q w (formed_for x) (rw e (cond-again (has (primary x) q) (primary x) (formed_for x q))) j))
      (λ i h. rw (s.primary-is, s.place_is i h)) (λ i h. rw (s.primary-is, s.place_is i h, s.marks-is i h))

  marks-mends : (i m : ℕ) → i < 16 → m ≡ mended_marks x i → mended (stored (store_marks i m) x) ≡ mended x
  marks-mends i m l e =
      let s = marks-stored x long i m l in
      mends-ext x (stored (store_marks i m) x) long (stored-length (store_marks i m) x ∙ long) s.settings-is s.entered-is
      (greatest-ext x (stored (store_marks i m) x) s.number_is s.primary-is s.place_is)
      s.primary-is (λ q h. rw (s.primary-is, s.formed-is q h)) (λ j h. rw (s.primary-is, s.place_is j h))
      (λ j h. rw (s.primary-is, s.place_is j h, s.marks-is j h)
      (changed-by (λ k v. cond (eqb (mended_place x k) 0) 0 v) i m (marks_at x) (rw e (cond-again (eqb (mended_place x i) 0) 0 (marks_at x i))) j))

  place-mends : (i w : ℕ) → i < 16 → w ≡ mended_place x i → mended (stored (store_place i w) x) ≡ mended x
  place-mends i w l e =
      let y : List ℕ = stored (store_place i w) x in
      let s = place-stored x long i w l in
      let p : ℕ = rank (primary x) in
      let same_place : (j : ℕ) → j < 16 → mended_place y j ≡ mended_place x j = λ j h.
      rw (s.primary-is, s.place_is j h) (changed-by (λ k v. cond (leb (rank v) p) 0 v) i w (place_at x) (rw e (cleared-again p (place_at x i) (leb (rank (place_at x i)) p) refl)) j) in
      let left : (j : ℕ) → j < 16 → leb (rank (place_at x j)) p ≡ false → num (place_at x j) ≤ greatest y = λ j h t.
      (let z : mended_place y j ≡ place_at x j = same_place j h ∙ rw t in omega (arith, ap num z, cleared-le (leb (rank (place_at y j)) (rank (primary y))) (place_at y j), place-le y j h)) in
      let past : (j : ℕ) → leb (rank (place_at x j)) p ≡ true → num (place_at x j) ≤ greatest y = λ j t.
      omega (arith, rank-le-num (place_at x j) (primary x) (leb-true (rank (place_at x j)) p t), ap num s.primary-is, primary-le y) in
      mends-ext x y long (stored-length (store_place i w) x ∙ long) s.settings-is s.entered-is
      (same-greatest y x (rw s.number_is (number-le x)) (rw s.primary-is (primary-le x))
      (λ j h. rw (s.place_is j h) (changed-all (λ (k v : ℕ). k < 16 → num v ≤ greatest x) i w (place_at x) (λ b. rw e (omega (arith, cleared-le (leb (rank (place_at x i)) p) (place_at x i), place-le x i b))) (λ k b. place-le x k b) j h))
      (rw (sym s.number_is) (number-le y)) (rw (sym s.primary-is) (primary-le y))
      (λ j h. ⊎_elim (past j) (left j h) (passes-or-fails (leb (rank (place_at x j)) p))))
      s.primary-is (λ q h. rw (s.primary-is, s.formed-is q h)) same_place (λ j h. rw (same_place j h, s.marks-is j h))

  -- a store that puts what recovery would
  pub agreeing : (s : Store) → Agrees (mended x) s → mended (stored s x) ≡ mended x
  agreeing s (agrees_number e) = number-mends _ (e ∙ (mended-reads x long).number_is)
  agreeing s (agrees-formed h e) = formed-mends _ _ h (e ∙ (mended-reads x long).formed-is _ h)
  agreeing s (agrees-place h e) = place-mends _ _ h (e ∙ (mended-reads x long).place_is _ h)
  agreeing s (agrees-marks h e) = marks-mends _ _ h (e ∙ (mended-reads x long).marks-is _ h)
