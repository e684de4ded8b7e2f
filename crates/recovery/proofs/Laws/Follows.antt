-- When a record that follows a whole one is whole: the one argument behind every kind of change.
use mathlib.Core.Bool.{Bool, true, false, cond}
use mathlib.Core.Logic.{◌⊎◌, inl, inr, ⊎_elim}
use mathlib.Core.Path.{◌≡◌, refl, sym, ap, ◌∙◌}
use mathlib.Core.List.{List}
use Prim.Native.Nat.{ℕ, ◌≤◌, ◌<◌}
use native.Mathlib.Omega.{arith}
use lib.Dec.{eqb}
use lib.ListN.{length}
use borrow.Author.Tests.{eqb-true}
use Rattle.loops.proofs.Laws.Truth.{and_left, and_right, and_both, or_cases, or_right, passes-or-fails, not-both}
use Rattle.group.specs.Heads.{has, less, only, within}
use Rattle.group.specs.Words.{heads, num, rank, session_word, primary_ok}
use Rattle.group.proofs.Laws.Heads.{has-none, within_of}
use Rattle.group.proofs.Laws.Formed.{Formed, Formed.member as member, Formed.none as none, Formed.lower as lower, formed-cases, formed-of}
use Rattle.record.specs.Layout.{settings, core, least, own, entered, number, primary, formed_for, place_at, marks_at}
use Rattle.record.specs.Whole.{group_whole, primary_whole, formed_whole, place_whole, apart, marks_ok, marks_whole, whole}
use Rattle.record.proofs.Laws.Layout.{same-core, same-least, same-own}
use Rattle.record.proofs.Laws.Whole.{Whole, Used, make-whole, place-cases, place-number, free-whole, used-whole, apart-at, apart_of, marks-free, marks-used}
use Rattle.recovery.proofs.Laws.Still.{whole-formed}

-- last primary stays, or is a session with own head above it
pub data Last (r y : List ℕ) : Type 0 where
  stays : primary y ≡ primary r → Last r y
  rises : session_word (primary y) ≡ true → has (primary y) (own r) ≡ true → rank (primary r) < rank (primary y) → num (primary y) ≤ number y → Last r y

-- a place is free, or stays under marks that it may have, or has a session numbered above the old word 2
pub data Placed (r y : List ℕ) (i : ℕ) : Type 0 where
  free : place_at y i ≡ 0 → marks_at y i ≡ 0 → Placed r y i
  kept : place_at y i ≡ place_at r i → ((place_at r i ≡ 0 → ⊥) → rank (primary y) < rank (place_at r i)) → marks_ok (own r) (place_at r i) (marks_at y i) ≡ true → Placed r y i
  new : Used (own r) (core r) (least r) (primary y) (number y) (place_at y i) → marks_at y i ≡ 0 → number r < num (place_at y i) → Placed r y i

pub record Follows (r y : List ℕ) : Type 0 where
  pub long : length y ≡ 52
  pub group : settings y ≡ settings r
  pub view : entered y ≤ 4294967295
  pub up : number r ≤ number y
  pub top : number y ≤ 4294967295
  pub last : Last r y
  pub formed : (q : ℕ) → q < 16 → formed_for y q ≡ cond (has (primary y) q) (primary y) (formed_for r q)
  pub places : (i : ℕ) → i < 16 → Placed r y i
  -- at most one place is new
  pub one-new : (i j : ℕ) → i < 16 → j < 16 → number r < num (place_at y i) → number r < num (place_at y j) → i ≡ j

-- ---- last formed

-- last formed beside last primary p, and so beside a higher p' that q is not in
formed-rises : (own p p' q f : ℕ) → primary_ok own p ≡ true → has p' q ≡ false → rank p < rank p' → Formed own p q f → Formed own p' q f
unfolding primary_ok
formed-rises own p p' q f ok o l (member i e) =
    ⊎_elim (λ z. none o (e ∙ eqb-true p 0 z)) (λ m. lower o (rw e m) (rw e i) (rw e l)) (or_cases (eqb p 0) (has p own) ok)
formed-rises own p p' q f ok o l (none i z) = none o z
formed-rises own p p' q f ok o l (lower i a b c) = lower o a b (omega arith)

none_within : (t : ℕ) → within 0 t ≡ true
none_within t = within_of 0 t (omega arith) (λ h l m. absurd (not-both (has 0 h) m (has-none h)))

module _ (r y : List ℕ) (w : Whole r) (f : Follows r y) where
  own_is : own y ≡ own r
  own_is = same-own y r f.group

  core_is : core y ≡ core r
  core_is = same-core y r f.group

  least-is : least y ≡ least r
  least-is = same-least y r f.group

  group-whole : group_whole y ≡ true
  unfolding group_whole
  group-whole = rw (core_is, least-is, f.group) w.group

  primary-whole : Last r y → primary_whole y ≡ true
  unfolding primary_whole primary_ok
  primary-whole (stays e) = rw (own_is, e) w.last
  primary-whole (rises s m l n) = and_both (session_word (primary y)) _ s (or_right (eqb (primary y) 0) _ (rw own_is m))

  highest : Last r y → num (primary y) ≤ number y
  highest (stays e) = omega (arith, ap num e, w.highest, f.up)
  highest (rises s m l n) = n

  formed-same : (q : ℕ) → q < 16 → primary y ≡ primary r → formed_for y q ≡ formed_for r q
  formed-same q h e = f.formed q h ∙ rw e (go (has (primary r) q) refl)
    where
      go : (b : Bool) → has (primary r) q ≡ b → cond b (primary r) (formed_for r q) ≡ formed_for r q
      go true t = sym (whole-formed r w q h t)
      go false t = refl

  formed-whole : (q : ℕ) → q < 16 → Last r y → formed_whole y q ≡ true
  unfolding formed_whole primary_whole
  formed-whole q h (stays e) = rw (own_is, formed-same q h e, e) (w.formed q h)
  formed-whole q h (rises s m l n) = ⊎_elim among other (passes-or-fails (has (primary y) q))
    where
      among : has (primary y) q ≡ true → formed_whole y q ≡ true
      among t =
          let e : formed_for y q ≡ primary y = f.formed q h ∙ rw t in
          and_both (session_word (formed_for y q)) _ (rw e s) (formed-of (own y) (primary y) q (formed_for y q) (member t e))

      other : has (primary y) q ≡ false → formed_whole y q ≡ true
      other t =
          let e : formed_for y q ≡ formed_for r q = f.formed q h ∙ rw t in
          let old = w.formed q h in
          rw (e, own_is)
          (and_both (session_word (formed_for r q)) _ (and_left (session_word (formed_for r q)) _ old)
          (formed-of (own r) (primary y) q (formed_for r q)
          (formed-rises (own r) (primary r) (primary y) q (formed_for r q) (and_right (session_word (primary r)) _ w.last) t l
          (formed-cases (own r) (primary r) q (formed_for r q) (and_right (session_word (formed_for r q)) _ old)))))

  -- ---- places

  place-whole : (i : ℕ) → i < 16 → Placed r y i → place_whole y i ≡ true
  place-whole i h (free z m) = free-whole y i z
  place-whole i h (kept e a m) = ⊎_elim (λ z. free-whole y i (e ∙ z)) (λ u. used-whole y i (still u)) (place-cases r i (w.places i h))
    where
      some : Used (own r) (core r) (least r) (primary r) (number r) (place_at r i) → place_at r i ≡ 0 → ⊥
      some u z = absurd (omega (arith, u.numbered, ap num z))

      still : Used (own r) (core r) (least r) (primary r) (number r) (place_at r i) → Used (own y) (core y) (least y) (primary y) (number y) (place_at y i)
      still u = rw (own_is, core_is, least-is, e) record {
        form = u.form;
        mine = u.mine;
        backed = u.backed;
        numbered = u.numbered;
        above = a (some u);
        below = omega (arith, u.below, f.up);
      }
  place-whole i h (new u m l) = used-whole y i (rw (own_is, core_is, least-is) u)

  -- a used place is an old one or numbered above the old word 2
  old-or-new : (i : ℕ) → i < 16 → (place_at y i ≡ 0 → ⊥) → Placed r y i → (place_at y i ≡ place_at r i) ⊎ (number r < num (place_at y i))
  old-or-new i h n (free z m) = absurd (n z)
  old-or-new i h n (kept e a m) = inl e
  old-or-new i h n (new u m l) = inr l

  apart-whole : (i : ℕ) → i < 16 → (j : ℕ) → j < i → apart y i j ≡ true
  apart-whole i h j l =
      apart_of y i j (λ u v n. pair u v n (old-or-new i h u (f.places i h)) (old-or-new j (omega arith) v (f.places j (omega arith))))
    where
      pair : (place_at y i ≡ 0 → ⊥) → (place_at y j ≡ 0 → ⊥) → num (place_at y i) ≡ num (place_at y j)
          → (place_at y i ≡ place_at r i) ⊎ (number r < num (place_at y i)) → (place_at y j ≡ place_at r j) ⊎ (number r < num (place_at y j)) → ⊥
      pair u v n (inl a) (inl b) = apart-at r i j (w.apart-places i h j l) (λ z. u (a ∙ z)) (λ z. v (b ∙ z)) (sym (ap num a) ∙ n ∙ ap num b)
      pair u v n (inl a) (inr b) = absurd (omega (arith, place-number r w i h, ap num a))
      pair u v n (inr a) (inl b) = absurd (omega (arith, place-number r w j (omega arith), ap num b))
      pair u v n (inr a) (inr b) = absurd (omega (arith, f.one-new i j h (omega arith) a b))

  marks-whole : (i : ℕ) → i < 16 → Placed r y i → marks_whole y i ≡ true
  unfolding marks_whole
  marks-whole i h (free z m) = rw m (marks-free (own y) (place_at y i) 0 z)
  marks-whole i h (kept e a m) = rw (own_is, e) m
  marks-whole i h (new u m l) = rw m (marks-used (own y) (place_at y i) 0 (λ z. absurd (omega (arith, u.numbered, ap num z))) ∙ none_within (less (heads (place_at y i)) (only (own y))))

  -- A RECORD THAT FOLLOWS A WHOLE ONE IS WHOLE
  pub follows-whole : whole y ≡ true
  follows-whole = make-whole y (record {
    long = f.long;
    group = group-whole;
    view = f.view;
    top = f.top;
    last = primary-whole f.last;
    formed = λ q h. formed-whole q h f.last;
    places = λ i h. place-whole i h (f.places i h);
    apart-places = apart-whole;
    highest = highest f.last;
    marks = λ i h. marks-whole i h (f.places i h);
  })
