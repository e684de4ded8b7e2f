-- Sessions in order of number: a list put in order has the same sessions, and where sessions that follow one another share a head, a rising
-- list of them all is linked.
use mathlib.Core.Path.{◌≡◌, refl, sym, ap, subst}
use mathlib.Core.Logic.{◌⊎◌, inl, inr, ⊎_elim}
use mathlib.Core.List.{List, [], ◌∷◌}
use Prim.Native.Nat.{ℕ, suc, ◌≤◌, ◌<◌}
use native.Mathlib.Omega.{arith}
use lib.Dec.{ltb, eqb}
use borrow.Author.Tests.{ltb-true, ltb-false, eqb-true, eqb-false}
use Rattle.loops.proofs.Laws.Truth.{cond-elim}
use Rattle.chain.specs.Model.{Sess, Group, Meet, core_sess}
use Rattle.chain.specs.Safety.{Has, here, there, Lists, Rise, stop, rise, Linked, last, link, insert, in_order, Safe}
use Rattle.chain.proofs.Laws.Attempts.{number_of}

has-nil : {F : Sess} → Has F [] → ⊥
has-nil = elim [ ]

has-cons : {F T : Sess} {L : List Sess} → Has F (T ∷ L) → (F ≡ T) ⊎ Has F L
has-cons (here e) = inl e
has-cons (there w) = inr w

-- ---- putting in

-- what holds in the three cases of an insertion before T: S comes first, S's number is T's, S goes further
insert-cases {ℓ} : (P : List Sess → Type ℓ) (S T : Sess) (L : List Sess)
    → (S.number < T.number → P (S ∷ T ∷ L)) → (S.number ≡ T.number → P (T ∷ L)) → (T.number < S.number → P (T ∷ insert S L)) → P (insert S (T ∷ L))
unfolding insert
insert-cases P S T L f g h =
    cond-elim P (ltb S.number T.number) _ _
    (λ a. f (ltb-true S.number T.number a))
    (λ a. cond-elim P (eqb S.number T.number) _ _
    (λ b. g (eqb-true S.number T.number b))
    (λ b. h (above (ltb-false S.number T.number a) (eqb-false S.number T.number b))))
  where
    above : T.number ≤ S.number → (S.number ≡ T.number → ⊥) → T.number < S.number
    above l n = omega arith

insert-rise : (n : ℕ) (S : Sess) (L : List Sess) → n ≤ S.number → Rise n L → Rise n (insert S L)
unfolding insert
insert-rise n S [] h r = rise h stop
insert-rise n S (T ∷ L) h (rise l r) = insert-cases (Rise n) S T L (λ d. rise h (rise d r)) (λ d. rise l r) (λ d. rise l (insert-rise (suc T.number) S L d r))

insert-old : (F S : Sess) (L : List Sess) → Has F L → Has F (insert S L)
insert-old F S [] x' = elim x' [ ]
insert-old F S (T ∷ L) (here e) = insert-cases (Has F) S T L (λ d. there (here e)) (λ d. here e) (λ d. here e)
insert-old F S (T ∷ L) (there w) = insert-cases (Has F) S T L (λ d. there (there w)) (λ d. there w) (λ d. there (insert-old F S L w))

insert-new : (S : Sess) (L : List Sess) → ((T : Sess) → Has T L → S.number ≡ T.number → S ≡ T) → Has S (insert S L)
unfolding insert
insert-new S [] u = here refl
insert-new S (T ∷ L) u = insert-cases (Has S) S T L (λ d. here refl) (λ d. here (u T (here refl) d)) (λ d. there (insert-new S L (λ E w. u E (there w))))

insert-has : (F S : Sess) (L : List Sess) → Has F (insert S L) → (F ≡ S) ⊎ Has F L
unfolding insert
insert-has F S [] w = has-cons w
insert-has F S (T ∷ L) w =
    insert-cases (λ M. Has F M → (F ≡ S) ⊎ Has F (T ∷ L)) S T L
    (λ d z. has-cons z)
    (λ d z. inr z)
    (λ d z. ⊎_elim (λ e. inr (here e)) (λ y. ⊎_elim inl (λ x. inr (there x)) (insert-has F S L y)) (has-cons z))
    w

-- ---- in order

order-rise : (L : List Sess) → Rise 0 (in_order L)
unfolding in_order
order-rise [] = stop
order-rise (S ∷ L) = insert-rise 0 S (in_order L) (omega arith) (order-rise L)

order-has : (F : Sess) (L : List Sess) → Has F (in_order L) → Has F L
unfolding in_order
order-has F [] w = w
order-has F (S ∷ L) w = ⊎_elim here (λ z. there (order-has F L z)) (insert-has F S (in_order L) w)

-- where the list's sessions have different numbers, none is lost
has-order : (F : Sess) (L : List Sess) → ((S T : Sess) → Has S L → Has T L → S.number ≡ T.number → S ≡ T) → Has F L → Has F (in_order L)
unfolding in_order
has-order F [] u x'' = elim x'' [ ]
has-order F (S ∷ L) u (here e) = subst (λ Z. Has Z (insert S (in_order L))) (sym e) (insert-new S (in_order L) (λ T w. u S T (here refl) (there (order-has T L w))))
has-order F (S ∷ L) u (there w) = insert-old F S (in_order L) (has-order F L (λ A B a b. u A B (there a) (there b)) w)

-- ---- linked

rise-has : {n : ℕ} {L : List Sess} (F : Sess) → Rise n L → Has F L → n ≤ F.number
rise-has F stop w = absurd (has-nil w)
rise-has F (rise l r) (here e) = omega (arith, number_of e)
rise-has F (rise l r) (there w) = omega (arith, rise-has F r w)

-- what has a higher number than the first of a list stands after it
after_first : {F T : Sess} {L : List Sess} → T.number < F.number → Has F (T ∷ L) → Has F L
after_first l w = ⊎_elim (λ e. absurd (omega (arith, number_of e))) (λ z. z) (has-cons w)

module _ {ℓ} (G : Group) (P : Sess → Type ℓ)
    (v : (F E : Sess) → P F → P E → F.number < E.number → ((D : Sess) → P D → F.number < D.number → D.number < E.number → ⊥) → Meet G F.heads E.heads) where
  linked : (S : Sess) (L : List Sess) → Rise (suc S.number) L → P S → ((F : Sess) → Has F L → P F) → ((F : Sess) → P F → S.number < F.number → Has F L) → Linked G S L
  linked S [] r s a c = last
  linked S (T ∷ L) (rise m r) s a c =
      link m (v S T s (a T (here refl)) m (λ D d p q. between D q (c D d p)))
      (linked T L r (a T (here refl)) (λ F w. a F (there w)) (λ F f o. after_first o (c F f (omega arith))))
    where
      between : (D : Sess) → D.number < T.number → Has D (T ∷ L) → ⊥
      between D q w = ⊎_elim (λ e. omega (arith, number_of e)) (λ z. omega (arith, rise-has D r z)) (has-cons w)

  -- a rising list of them all begins with the core group's
  listing : P (core_sess G) → (L : List Sess) → Rise 0 L → Lists P L → (rest : List Sess) × (L ≡ core_sess G ∷ rest) × Linked G (core_sess G) rest
  listing p [] r k = absurd (has-nil (k.complete (core_sess G) p))
  listing p (S ∷ L) (rise l r) k = (
    L,
    ap (λ (z : Sess). z ∷ L) e,
    subst (λ z. Linked G z L) e (linked S L r (k.sound S (here refl)) (λ F w. k.sound F (there w)) (λ F f o. after_first o (k.complete F f))),
  )
    where
      e : S ≡ core_sess G
      e = ⊎_elim (λ d. sym d) (λ w. absurd (omega (arith, rise-has (core_sess G) r w))) (has-cons (k.complete (core_sess G) p))

  -- the statement from its first three parts
  pub safe-by : P (core_sess G) → ((F E : Sess) → P F → P E → F.number ≡ E.number → F ≡ E) → Safe G P
  safe-by p u = record {
    unique = u;
    first = p;
    chain = v;
    list = listing p;
    order = λ L k. (
      order-rise L,
      record {
        sound = λ F w. k.sound F (order-has F L w);
        complete = λ F f. has-order F L (λ S T a b. u S T (k.sound S a) (k.sound T b)) (k.complete F f);
      },
    );
  }
