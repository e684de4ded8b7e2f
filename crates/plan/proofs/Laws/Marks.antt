-- Laws of the marks (a). The heads that `adding` adds are those that pass its test; no mark step touches word 0, so that what the others offer stays as it is
-- while the marks are stored.
use mathlib.Core.Path.{◌≡◌, refl, sym, ap, ◌∙◌}
use mathlib.Core.Bool.{Bool, true, false, not, cond, ◌&&◌}
use mathlib.Core.List.{List, [], ◌∷◌}
use Prim.Native.Nat.{ℕ, zero, suc, ◌+◌, ◌*◌, ◌%◌, ◌^◌, ◌<◌}
use native.Mathlib.Nat.{one-mul, mod-eq_of_lt}
use native.Mathlib.Omega.{arith}
use lib.Dec.{eqb, ltb}
use lib.Pow.{pow-lt}
use lib.ListN.{get_or}
use Rattle.loops.specs.Below.{table}
use Rattle.loops.proofs.Laws.Fold.{fold-cong, fold-keeps}
use Rattle.loops.proofs.Laws.Lists.{get_d-table}
use Rattle.group.specs.Heads.{has, either, only}
use Rattle.group.specs.Words.{rank}
use Rattle.group.proofs.Laws.Heads.{has-none}
use Rattle.store.specs.declared.Pen.{Pen}
use Rattle.store.specs.declared.Pen.TheVariants.{Left, Cut}
use Rattle.store.specs.Desk.{Store, Desk, desk, put_at, put_to, run, stored, differs, where_changed, diff_if}
use Rattle.store.specs.Program.{Step, step_by, exec, up_to}
use Rattle.store.proofs.Laws.Program.{exec-append, exec-one, up_to-next, steps-start, steps-again}
use Rattle.record.specs.Layout.{settings, own, place_at, marks_at, store_marks}
use Rattle.record.proofs.Laws.Layout.{same-own, not-stored, marks-puts, settings-marked}
use Rattle.state.specs.declared.Held.{Held}
use Rattle.plan.specs.Members.{held_of, other, formed_with}
use Rattle.plan.specs.Marks.{to_mark, adding, marked, mark_step}
use Rattle.plan.specs.Adoption.{offered}

-- ---- adding heads to a set

pub adding-cong : (p q : ℕ → Bool) (s : ℕ) → ((i : ℕ) → i < 16 → p i ≡ q i) → adding p s ≡ adding q s
unfolding adding
adding-cong p q s e = fold-cong 16 _ _ s (λ i a h. ap (λ (b : Bool). cond b (either a (only i)) a) (e i h))

pub adding-none : (p : ℕ → Bool) (s : ℕ) → ((i : ℕ) → i < 16 → p i ≡ false) → adding p s ≡ s
unfolding adding
adding-none p s e =
    fold-keeps (λ (i : ℕ) (a : ℕ). a ≡ s) 16 _ s refl (λ i a h k. ap (λ (b : Bool). cond b (either a (only i)) a) (e i h) ∙ k)

-- ---- a free place has nothing to mark

pub mark-none : (m : ℕ) (held : Held) (r : List ℕ) (i : ℕ) → place_at r i ≡ 0 → marked m held r i ≡ marks_at r i
unfolding marked to_mark
mark-none m held r i z =
    adding-none (to_mark m held r i) (marks_at r i) (λ q h. rw z (ap (λ (b : Bool). b && other m r q && ltb (rank (formed_with held r q)) (rank 0)) (has-none q)))

pub mark-free : (m : ℕ) (held : Held) (r : List ℕ) (i : ℕ) → place_at r i ≡ 0 → mark_step m held i r ≡ []
unfolding mark_step diff_if
mark-free m held r i z = not-stored (marks-puts i (marked m held r i)) true r (λ _. sym (mark-none m held r i z))

pub mark-skip : (m : ℕ) (held : Held) (r : List ℕ) (i : ℕ) (pen : Pen) {w : ℕ} → w ≡ place_at r i → w ≡ 0 → desk r pen ≡ step_by (mark_step m held i) (desk r pen)
unfolding step_by run
mark-skip m held r i pen e z = rw (mark-free m held r i (sym e ∙ z))

-- the machine's way to say a set of one head
pub one_bit : (q : ℕ) → q < 16 → 1 * 2 ^ q % 2 ^ 64 ≡ only q
unfolding only
one_bit q h = simp one-mul (mod-eq_of_lt (pow-lt {i = q} {j = 64} (omega arith)))

-- ---- no mark step touches word 0

put_keeps : (p : Pen) (s : Store) (r : List ℕ) → settings (stored s r) ≡ settings r → settings (put_at p s r).rec ≡ settings r
put_keeps Cut s r e = refl
put_keeps (Left zero) s r e = refl
put_keeps (Left (suc n)) s r e = e

differs-keeps : (b : Bool) (s : Store) (d : Desk) → settings (stored s d.rec) ≡ settings d.rec → settings (run (differs b s) d).rec ≡ settings d.rec
unfolding run put_to
differs-keeps true s d e = refl
differs-keeps false s d e = put_keeps d.pen s d.rec e

module _ (m : ℕ) (held : Held) where
  mark-keeps : (i : ℕ) (d : Desk) → settings (step_by (mark_step m held i) d).rec ≡ settings d.rec
  unfolding step_by mark_step where_changed
  mark-keeps i d =
      let s = store_marks i (marked m held d.rec i) in
      differs-keeps (eqb (get_or d.rec s.at 0) s.word) (store_marks i (marked m held d.rec i)) d (settings-marked d.rec i (marked m held d.rec i))

  pub marks-keep : (n : ℕ) (d : Desk) → settings (exec (up_to n (mark_step m held)) d).rec ≡ settings d.rec
  marks-keep zero d = ap (λ (a : Desk). settings a.rec) (sym (steps-start (mark_step m held) d))
  marks-keep (suc n) d =
      let e = exec (up_to n (mark_step m held)) d in
      ap (λ (a : Desk). settings a.rec) (ap (λ (fs : List Step). exec fs d) (up_to-next n (mark_step m held)) ∙ exec-append (up_to n (mark_step m held)) (mark_step m held n ∷ []) d ∙ exec-one (mark_step m held n) e)
      ∙ mark-keeps n e ∙ marks-keep n d

-- ---- marking by what the others offer

same_test : (a o : Bool) (f : ℕ) (t : ℕ → Bool) → (a && o && t (cond o f 0)) ≡ (a && o && t f)
same_test true true f t = refl
same_test true false f t = refl
same_test false o f t = refl

pub offered-same : (m : ℕ) (held : Held) (a b : List ℕ) → settings a ≡ settings b → table 16 (offered m held a) ≡ table 16 (offered m held b)
unfolding offered other formed_with
offered-same m held a b e =
    ap (λ (p : ℕ). table 16 (λ q. cond (has m q && not (eqb q p)) (get_or (held_of held q).formed p 0) 0)) (same-own a b e)

module _ (m : ℕ) (held : Held) (offers : List ℕ) where
  pub offer-told : (r : List ℕ) → offers ≡ table 16 (offered m held r) → (q : ℕ) → q < 16 → get_or offers q 0 ≡ offered m held r q
  offer-told r told q h = ap (λ (l : List ℕ). get_or l q 0) told ∙ get_d-table 16 (offered m held r) q 0 h

  -- p is own head, w the session in place i, k its marks
  pub mark-told : (r : List ℕ) → offers ≡ table 16 (offered m held r) → (i p w k x : ℕ) (pen : Pen) → p ≡ own r → w ≡ place_at r i → k ≡ marks_at r i
      → x ≡ adding (λ q. has w q && (has m q && not (eqb q p)) && ltb (rank (get_or offers q 0)) (rank w)) k
      → run (where_changed (store_marks i x) r) (desk r pen) ≡ step_by (mark_step m held i) (desk r pen)
  unfolding step_by mark_step marked to_mark other offered
  mark-told r told i p w k x pen ep ew ek ex =
      ap (λ (v : ℕ). run (where_changed (store_marks i v) r) (desk r pen))
      (ex ∙ rw (ep, ew, ek)
      (adding-cong _ _ (marks_at r i)
      (λ q h. rw (offer-told r told q h) (same_test (has (place_at r i) q) (has m q && not (eqb q (own r))) (formed_with held r q) (λ v. ltb (rank v) (rank (place_at r i)))))))

  -- the turn of the loop that marks: what others offered before it, they offer still
  pub marks-again : (r₀ : List ℕ) (p₀ : Pen) (r : List ℕ) (p : Pen) (r' : List ℕ) (p' : Pen) (i : ℕ)
      → offers ≡ table 16 (offered m held r₀)
      → desk r p ≡ exec (up_to i (mark_step m held)) (desk r₀ p₀)
      → (offers ≡ table 16 (offered m held r) → desk r' p' ≡ step_by (mark_step m held i) (desk r p))
      → desk r' p' ≡ exec (up_to (i + 1) (mark_step m held)) (desk r₀ p₀)
  marks-again r₀ p₀ r p r' p' i told e f =
      let same : settings r ≡ settings r₀ = ap (λ (d : Desk). settings d.rec) e ∙ marks-keep m held i (desk r₀ p₀) in
      steps-again (mark_step m held) (desk r₀ p₀) i e (f (told ∙ offered-same m held r₀ r (sym same)))
