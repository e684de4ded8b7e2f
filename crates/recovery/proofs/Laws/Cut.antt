-- What a cut leaves. Every store of recovery puts what recovery would, and so does every store of a change after its first:
-- so recovery ends the same after any number of them.
use mathlib.Core.Bool.{Bool, true, false}
use mathlib.Core.Logic.{⊎_elim}
use mathlib.Core.Path.{◌≡◌, refl, sym, ap, subst, ◌∙◌}
use mathlib.Core.List.{List, [], ◌∷◌, ◌++◌}
use Prim.Native.Nat.{ℕ, zero, suc, ◌+◌, ◌-◌, ◌<◌}
use native.Mathlib.Omega.{arith}
use lib.Dec.{eqb, leb}
use lib.ListN.{get_or, length, take}
use lib.Seq.{take_all, take-append-le, take-append-add}
use borrow.Author.Tests.{eqb-true}
use Rattle.loops.specs.Below.{fold_below, collect}
use Rattle.loops.proofs.Laws.Truth.{and_left, cond-elim, cond_same}
use Rattle.loops.proofs.Laws.Order.{lt-or-ge}
use Rattle.group.specs.Heads.{has}
use Rattle.group.specs.Words.{rank}
use Rattle.store.specs.Desk.{Store, stored, apply, store_if, differs, where_changed, diff_if}
use Rattle.store.specs.Program.{Step, script, up_to}
use Rattle.store.specs.Changes.{non_empty, all_stores, begun}
use Rattle.store.proofs.Laws.Put.{stored-length}
use Rattle.store.proofs.Laws.Script.{apply-append, apply-length}
use Rattle.store.proofs.Laws.Program.{script-append, script-one, up_to-none, up_to-next}
use Rattle.store.proofs.Laws.Changes.{begun-none}
use Rattle.record.specs.Layout.{primary, place_at, store_number, store_formed, store_place, store_marks}
use Rattle.record.specs.Whole.{whole}
use Rattle.record.specs.Outcome.{Outcome}
use Rattle.record.proofs.Laws.Whole.{whole_length}
use Rattle.recovery.specs.Recover.{greatest, raise_step, formed_step, clear_step, wipe_step, mend_program, mended, mendable, recover_spec}
use Rattle.recovery.specs.Statements.{Sound, Sounds.last as last, Sounds.next as next, EndsTheSame, NotBegun, RecoversDone, CutAndWhole}
use Rattle.recovery.proofs.Laws.Mended.{mended_place, mended-reads}
use Rattle.recovery.proofs.Laws.Again.{Agrees, agrees_number, agrees-formed, agrees-place, agrees-marks, agreeing}
use Rattle.recovery.proofs.Laws.Still.{mended-whole}

-- ---- stores that all put what n has

pub data AllAgree (n : List ℕ) : List Store → Type 0 where
  none : AllAgree n []
  more : {s : Store} {ss : List Store} → Agrees n s → AllAgree n ss → AllAgree n (s ∷ ss)

pub all_append : {n : List ℕ} (a b : List Store) → AllAgree n a → AllAgree n b → AllAgree n (a ++ b)
all_append [] b none q = q
all_append (s ∷ a) b (more p ps) q = more p (all_append a b ps q)

pub all-collect : (n : List ℕ) (part : ℕ → List Store) (m : ℕ) → ((i : ℕ) → i < m → AllAgree n (part i)) → AllAgree n (collect m part)
unfolding collect fold_below
all-collect n part zero h = none
all-collect n part (suc m) h = all_append (collect m part) (part m) (all-collect n part m (λ i l. h i (omega arith))) (h m (omega arith))

pub if-agrees : (n : List ℕ) (c : Bool) (s : Store) → (c ≡ true → Agrees n s) → AllAgree n (store_if c s)
unfolding store_if
if-agrees n true s h = more (h refl) none
if-agrees n false s h = none

all_take : {n : List ℕ} (k : ℕ) (a : List Store) → AllAgree n a → AllAgree n (take k a)
all_take zero a q = none
all_take (suc k) [] none = none
all_take (suc k) (s ∷ a) (more p ps) = more p (all_take k a ps)

-- recovery ends the same after all of them
pub all-mends : (x : List ℕ) → length x ≡ 52 → (a : List Store) → AllAgree (mended x) a → mended (apply a x) ≡ mended x
unfolding apply
all-mends x l [] none = refl
all-mends x l (s ∷ a) (more p ps) =
    let e : mended (stored s x) ≡ mended x = agreeing x l s p in
    all-mends (stored s x) (stored-length s x ∙ l) a (subst (λ (n : List ℕ). AllAgree n a) (sym e) ps) ∙ e

-- and after any number of them
pub cut-mends : (x : List ℕ) → length x ≡ 52 → (a : List Store) → AllAgree (mended x) a → (k : ℕ) → mended (apply (take k a) x) ≡ mended x
cut-mends x l a p k = all-mends x l (take k a) (all_take k a p)

-- ---- recovery itself

diff-agrees : (n : List ℕ) (c : Bool) (s : Store) (x : List ℕ) → (c ≡ true → Agrees n s) → AllAgree n (diff_if c s x)
unfolding diff_if where_changed
diff-agrees n true s x h = go (eqb (get_or x s.at 0) s.word)
  where
    go : (b : Bool) → AllAgree n (differs b s)
    go true = none
    go false = more (h refl) none
diff-agrees n false s x h = none

module _ (x : List ℕ) (long : length x ≡ 52) where
  raise-agrees : AllAgree (mended x) (raise_step x)
  unfolding raise_step
  raise-agrees = diff-agrees (mended x) true (store_number (greatest x)) x (λ t. agrees_number (sym (mended-reads x long).number_is))

  formed-agrees : (q : ℕ) → q < 16 → AllAgree (mended x) (formed_step q x)
  unfolding formed_step
  formed-agrees q h = diff-agrees (mended x) (has (primary x) q) (store_formed q (primary x)) x (λ t. agrees-formed h (sym ((mended-reads x long).formed-is q h ∙ rw t)))

  clear-agrees : (i : ℕ) → i < 16 → AllAgree (mended x) (clear_step i x)
  unfolding clear_step
  clear-agrees i h = diff-agrees (mended x) (leb (rank (place_at x i)) (rank (primary x))) (store_place i 0) x (λ t. agrees-place h (sym ((mended-reads x long).place_is i h ∙ rw t)))

  free_stays : (i : ℕ) → place_at x i ≡ 0 → mended_place x i ≡ 0
  free_stays i z = rw z (cond_same (leb (rank 0) (rank (primary x))) 0)

  wipe-agrees : (i : ℕ) → i < 16 → AllAgree (mended x) (wipe_step i x)
  unfolding wipe_step
  wipe-agrees i h =
      diff-agrees (mended x) (eqb (place_at x i) 0) (store_marks i 0) x (λ t. agrees-marks h (sym ((mended-reads x long).marks-is i h ∙ rw (free_stays i (eqb-true (place_at x i) 0 t)))))

-- a program that, cut anywhere, leaves recovery's end the same
pub record Leads (fs : List Step) : Type 0 where
  pub ends : (x : List ℕ) → length x ≡ 52 → (k : ℕ) → mended (apply (take k (script fs x)) x) ≡ mended x

leads_one : (f : Step) → ((x : List ℕ) → length x ≡ 52 → AllAgree (mended x) (f x)) → Leads (f ∷ [])
leads_one f h = record { ends = λ x l k. ap (λ (a : List Store). mended (apply (take k a) x)) (script-one f x) ∙ cut-mends x l (f x) (h x l) k }

leads-append : (a b : List Step) → Leads a → Leads b → Leads (a ++ b)
leads-append a b p q = record {
  ends = λ x l k.
      let s : List Store = script a x in
      let y : List ℕ = apply s x in
      let all : mended y ≡ mended x = ap (λ (c : List Store). mended (apply c x)) (sym (take_all (length s) s (omega arith))) ∙ p.ends x l (length s) in
      ap (λ (c : List Store). mended (apply (take k c) x)) (script-append a b x)
      ∙ ⊎_elim
      (λ h. ap (λ (c : List Store). mended (apply c x)) (take-append-le k s (script b y) (omega arith)) ∙ p.ends x l k)
      (λ h.
      let sum : k ≡ length s + (k - length s) = omega arith in
      ap (λ (j : ℕ). mended (apply (take j (s ++ script b y)) x)) sum
      ∙ ap (λ (c : List Store). mended (apply c x)) (take-append-add s (script b y) (k - length s))
      ∙ ap mended (apply-append s (take (k - length s) (script b y)) x)
      ∙ q.ends y (apply-length s x ∙ l) (k - length s) ∙ all)
      (lt-or-ge k (length s));
}

leads-none : Leads []
unfolding script apply
leads-none = record { ends = λ x l k. ap (λ (c : List Store). mended (apply c x)) (take_all k [] (omega arith)) }

leads-up_to : (f : ℕ → Step) (n : ℕ) → ((i : ℕ) → i < n → (x : List ℕ) → length x ≡ 52 → AllAgree (mended x) (f i x)) → Leads (up_to n f)
leads-up_to f zero h = rw (up_to-none f) leads-none
leads-up_to f (suc n) h = rw (up_to-next n f) (leads-append (up_to n f) (f n ∷ []) (leads-up_to f n (λ i l. h i (omega arith))) (leads_one (f n) (h n (omega arith))))

mend-leads : Leads mend_program
unfolding mend_program
mend-leads =
    leads-append (raise_step ∷ []) (up_to 16 formed_step ++ (up_to 16 clear_step ++ up_to 16 wipe_step)) (leads_one raise_step raise-agrees)
    (leads-append (up_to 16 formed_step) (up_to 16 clear_step ++ up_to 16 wipe_step) (leads-up_to formed_step 16 (λ q h x l. formed-agrees x l q h))
    (leads-append (up_to 16 clear_step) (up_to 16 wipe_step) (leads-up_to clear_step 16 (λ i h x l. clear-agrees x l i h))
    (leads-up_to wipe_step 16 (λ i h x l. wipe-agrees x l i h))))

-- RECOVERY CUT AND RUN AGAIN ENDS THE SAME
pub again : EndsTheSame
unfolding recover_spec mendable
again r k =
    cond-elim (λ (o : Outcome). mended o.rec ≡ mended r) (mendable r) _ _
    (λ e. mend-leads.ends r (eqb-true (length r) 52 (and_left (eqb (length r) 52) (whole (mended r)) e)) k)
    (λ e. refl)

-- ---- a change

-- A CHANGE IS ITS FIRST STORE AND WHAT RECOVERY THEN DOES: its further stores put what recovery would, and it leaves a whole record
pub change-sound : (r : List ℕ) (s : Store) (rest : List Store) → whole r ≡ true → AllAgree (mended (stored s r)) rest → whole (apply rest (stored s r)) ≡ true → Sound r (s ∷ rest)
unfolding apply non_empty
change-sound r s rest e a w =
    let l : length (stored s r) ≡ 52 = stored-length s r ∙ whole_length r e in
    record {
      before = e;
      stores = refl;
      cut = λ k. cut-mends (stored s r) l rest a k ∙ sym (all-mends (stored s r) l rest a) ∙ mended-whole (apply rest (stored s r)) w;
      after = w;
    }

pub not-begun : NotBegun
unfolding apply
not-begun r c s = mended-whole r s.before

-- ---- a call's changes

-- THE RECOVERED RECORD IS THE ONE AFTER THE DONE CHANGES
pub recovers-done : RecoversDone
unfolding all_stores begun apply
recovers-done [] r (last e) zero = mended-whole r e
recovers-done [] r (last e) (suc k) = mended-whole r e
recovers-done (c ∷ cs) r (next s ss) zero = mended-whole r s.before
recovers-done (c ∷ cs) r (next s ss) (suc k) =
    let later : (j : ℕ) → mended (apply (take j (all_stores cs)) (apply c r)) ≡ apply (begun j cs) (apply c r) = recovers-done cs (apply c r) ss in
    let left : List Store = begun (suc k - length c) cs in
    ⊎_elim
    (λ l.
    let nothing : suc k - length c ≡ 0 = omega arith in
    ap (λ (b : List Store). mended (apply b r)) (take-append-le (suc k) c (all_stores cs) (omega arith)) ∙ s.cut k
    ∙ sym (apply-append c left r ∙ ap (λ (b : List Store). apply b (apply c r)) (ap (λ (j : ℕ). begun j cs) nothing ∙ begun-none cs)))
    (λ g.
    let sum : suc k ≡ length c + (suc k - length c) = omega arith in
    ap (λ (j : ℕ). mended (apply (take j (c ++ all_stores cs)) r)) sum
    ∙ ap (λ (b : List Store). mended (apply b r)) (take-append-add c (all_stores cs) (suc k - length c))
    ∙ ap mended (apply-append c (take (suc k - length c) (all_stores cs)) r)
    ∙ later (suc k - length c)
    ∙ sym (apply-append c left r))
    (lt-or-ge k (length c))

pub cut-and-whole : CutAndWhole
cut-and-whole cs r s k w = sym (mended-whole (apply (take k (all_stores cs)) r) w) ∙ recovers-done cs r s k
