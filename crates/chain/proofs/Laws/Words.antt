-- From words to the model: what a record stands for, and each change by words is a change of the model. A word stands for the session of its
-- heads and number, and two words that stand for one session are equal.
use mathlib.Core.Path.{◌≡◌, refl, sym, ap, subst, ◌∙◌}
use mathlib.Core.Logic.{◌⊎◌, inl, inr, ◌≢◌, ⊎_elim}
use mathlib.Core.Bool.{Bool, cond}
use Prim.Native.Nat.{ℕ, zero, suc, ◌≤◌, ◌<◌}
use native.Mathlib.Decide.{ℕ_discrete}
use native.Mathlib.Omega.{arith}
use borrow.Author.Tests.{lt-ltb, le-ltb}
use Rattle.loops.proofs.Laws.Order.{lt-or-ge}
use Rattle.group.specs.Words.{heads, num, session, rank}
use Rattle.group.proofs.Laws.Words.{session-parts, rank-none, rank-some}
use Rattle.chain.specs.Model.{Sess, Maybe, none, real, rank_of, Group, Local, Event, tidy, enter, adopt, attempt, form, Init, Still, MarkOk, ClearOk, Ok}
use Rattle.chain.specs.Reach.{Hist, more, now, Sent, sent, Attempted, attempted, Valid, step}
use Rattle.chain.specs.Words.{Rec, Said, sess, Is, guard, Self, Stay, Keeps, Member, Here, Fresh, Enters, Marks, Adopts, Cleared, Clears, Attempts, Forms}
use Rattle.chain.proofs.Laws.Numbers.{same-sess}
use Rattle.chain.proofs.Laws.Formed.{none-real}
use Rattle.chain.proofs.Laws.Reach.{now-same, tried-in-view}

-- ---- session words

-- the session of a word, or none
abbrev pub maybe : ℕ → Maybe
maybe zero = none
maybe (suc n) = real (sess (suc n))

maybe-some : (w : ℕ) → w ≢ 0 → maybe w ≡ real (sess w)
maybe-some zero n = absurd (n refl)
maybe-some (suc w) n = refl

some_of : {w : ℕ} {S : Sess} → maybe w ≡ real S → w ≢ 0
some_of e z = none-real (sym (ap maybe z) ∙ e)

sess-of : (w : ℕ) {S : Sess} → maybe w ≡ real S → sess w ≡ S
sess-of w e = let f = sym (maybe-some w (some_of e)) ∙ e in cc

heads-of : (w : ℕ) {S : Sess} → maybe w ≡ real S → heads w ≡ S.heads
heads-of w e = ap (λ (z : Sess). z.heads) (sess-of w e)

-- a free place holds no session
free : {A : Type 0} {w : ℕ} {S : Sess} → w ≡ 0 → maybe w ≡ real S → A
free e p = absurd (some_of p e)

is_real : {w s n : ℕ} → Is w s n → maybe w ≡ real (record { heads = s; number = n })
is_real {w} {s} {n} k = maybe-some w k.some ∙ ap real (same-sess (sess w) (record { heads = s; number = n }) k.set k.number)

-- words of one session are equal
word-one : {v w : ℕ} {S : Sess} → maybe v ≡ real S → maybe w ≡ real S → v ≡ w
word-one {v} {w} a b =
    let e : sess v ≡ sess w = sess-of v a ∙ sym (sess-of w b) in
    sym (session-parts v) ∙ ap (λ (z : Sess). session z.number z.heads) e ∙ session-parts w

rank-maybe : (w : ℕ) → rank_of (maybe w) ≡ rank w
rank-maybe zero = sym rank-none
rank-maybe (suc w) = omega (arith, rank-some (suc w) (omega arith))

rank-real : (w : ℕ) {S : Sess} → maybe w ≡ real S → rank w ≡ suc S.number
rank-real w e = sym (rank-maybe w) ∙ ap rank_of e

-- ---- functions of the sixteen heads

pub guard-in : (f : ℕ → ℕ) (x : ℕ) → x < 16 → guard f x ≡ f x
unfolding guard
guard-in f x h = ap (λ (b : Bool). cond b (f x) 0) (lt-ltb x 16 h)

pub guard_out : (f : ℕ → ℕ) (x : ℕ) → 16 ≤ x → guard f x ≡ 0
unfolding guard
guard_out f x h = ap (λ (b : Bool). cond b (f x) 0) (le-ltb x 16 h)

pub guard-same : (f g : ℕ → ℕ) → ((x : ℕ) → x < 16 → f x ≡ g x) → (x : ℕ) → guard f x ≡ guard g x
guard-same f g e x = ⊎_elim (λ h. guard-in f x h ∙ e x h ∙ sym (guard-in g x h)) (λ h. guard_out f x h ∙ sym (guard_out g x h)) (lt-or-ge x 16)

-- ---- what a record and a line stand for

abbrev Places : (ℕ → ℕ) → Sess → Type 0
Places f S = (i : ℕ) × (i < 16) × (maybe (f i) ≡ real S)

-- a line says what a head's state is
pub record Says (s : Said) (m : Local) : Type 0 where
  pub num : m.num ≡ s.num
  pub prim : m.prim ≡ maybe s.prim
  pub formed : (x : ℕ) → m.formed x ≡ maybe (s.formed x)
  pub told : (S : Sess) → m.places S → Places s.place S

module _ (G : Group) where
  -- `t` is the view of the head's last attempt, which the record doesn't hold
  abbrev pub abs : Rec → ℕ → Local
  abs r t = record {
    view = r.view;
    num = r.num;
    tried = t;
    prim = maybe r.prim;
    formed = λ x. maybe (r.formed x);
    places = Places r.place;
    marks = λ S q. (i : ℕ) × (i < 16) × (maybe (r.place i) ≡ real S) × G.In q (r.mark i);
  }

  pub says-self : {r : Rec} {s : Said} (t : ℕ) → Self r s → Says s (abs r t)
  says-self {r} {s} t k = record {
    num = sym k.num;
    prim = ap maybe (sym k.prim);
    formed = λ x. ap maybe (sym (k.formed x));
    told = λ S (i, h, w). let (j, l, e) = k.lists (r.place i) (some_of w) (i, h, refl) in (j, l, ap maybe e ∙ w);
  }

  pub fresh-init : {p : ℕ} {r : Rec} → Fresh G p r → Init G p (abs r 0)
  fresh-init k = record {
    view = k.view;
    num = k.num;
    tried = refl;
    prim = ⊎_elim (λ e. inl (ap maybe e)) (λ (e, i). inr (is_real e, i)) k.prim;
    formed = λ x. ⊎_elim (λ e. inl (ap maybe e)) (λ (e, p, i). inr (is_real e, is_real p, i)) (k.formed x);
    places = λ S (i, h, w). free (k.place i h) w;
    marks = λ S x (i, h, w, z). free (k.place i h) w;
  }

  -- Head p has record r, after a valid history.
  pub record Holds (H : Hist) (p : ℕ) (r : Rec) (t : ℕ) : Type 1 where
    pub valid : Valid G H
    pub at : now H p ≡ abs r t

  move : {H : Hist} {p : ℕ} {r : Rec} {t : ℕ} (e : Event) (r' : Rec) (t' : ℕ) → Holds H p r t → Ok G (Sent H) (Attempted H) p (abs r t) (abs r' t') e → Holds (more H p e (abs r' t')) p r' t'
  move {H} {p} {r} {t} e r' t' k w = record {
    valid = step k.valid (subst (λ z. Ok G (Sent H) (Attempted H) p z (abs r' t') e) (sym k.at) w);
    at = now-same H p e (abs r' t');
  }

  still : {r r' : Rec} (t : ℕ) → Stay r r' → Still (abs r t) (abs r' t)
  still t k = record { num = k.num; tried = refl; prim = ap maybe k.prim; formed = λ x. ap maybe (k.formed x) }

  -- ---- places that are kept with their marks, or freed

  abbrev KeptOrFreed : Rec → Rec → Type 0
  KeptOrFreed r r' = (i : ℕ) → i < 16 → Keeps r r' i ⊎ (r'.place i ≡ 0)

  places-back : (r r' : Rec) (S : Sess) → KeptOrFreed r r' → Places r'.place S → Places r.place S
  places-back r r' S k (i, h, w) = ⊎_elim (λ (u, v). (i, h, ap maybe (sym u) ∙ w)) (λ u. free u w) (k i h)

  marks-back : (r r' : Rec) (t t' : ℕ) (S : Sess) (x : ℕ) → KeptOrFreed r r' → (abs r' t').marks S x → (abs r t).marks S x
  marks-back r r' t t' S x k (i, h, w, z) = ⊎_elim (λ (u, v). (i, h, ap maybe (sym u) ∙ w, subst (λ s. G.In x s) v z)) (λ u. free u w) (k i h)

  -- ---- enter

  pub enter-change : {H : Hist} {p v t : ℕ} {r r' : Rec} → Holds H p r t → Enters G p v r r'
      → Holds (more H p (enter v) (abs r' t)) p r' t × Sent (more H p (enter v) (abs r' t)) p v (abs r' t) × (t < v)
  enter-change {H} {p} {v} {t} {r} {r'} k c = (
    move (enter v) r' t k record {
      up = c.above;
      mine = c.mine;
      view = c.view;
      still = still t c.stay;
      shrink = λ S w. places-back r r' S kept w;
      keep = λ S (i, h, w). (i, h, ap maybe (c.keeps i h).0 ∙ w);
      marks = λ S x w. marks-back r r' t t S x kept w;
    },
    sent,
    omega (arith, tried-in-view k.valid p, ap (λ (l : Local). l.tried) k.at, ap (λ (l : Local). l.view) k.at, c.above),
  )
    where
      kept : KeptOrFreed r r'
      kept i h = inl (c.keeps i h)

  -- ---- decide

  -- p is in view r .view, has not attempted in it, and has heard the others' states: `said x` from x
  pub record Ready (H : Hist) (p : ℕ) (r : Rec) (t : ℕ) (said : ℕ → Said) : Type 1 where
    pub holds : Holds H p r t
    pub early : t < r.view
    pub heard : (x : ℕ) → Member G r x → x ≢ p → (m : Local) × Says (said x) m × Sent H x r.view m

  pub mark-change : {H : Hist} {p t : ℕ} {said : ℕ → Said} {r r' : Rec} → Ready H p r t said → Marks G p said r r' → Holds (more H p tidy (abs r' t)) p r' t
  mark-change {H} {p} {t} {said} {r} {r'} k c =
      move tidy r' t k.holds record {
        view = c.view;
        still = still t c.stay;
        shrink = λ S (i, h, w). (i, h, ap maybe (sym (c.place i h)) ∙ w);
        keep = λ S (i, h, w). inl (i, h, ap maybe (c.place i h) ∙ w);
        marks = λ S q (i, h, w, z). marked S q i h (ap maybe (sym (c.place i h)) ∙ w) (c.mark i q h z);
      }
    where
      marked : (S : Sess) (q i : ℕ) → i < 16 → maybe (r.place i) ≡ real S
          → (G.In q (r.mark i)) ⊎ ((q ≢ p) × Member G r q × (rank ((said q).formed p) < rank (r.place i)))
          → ((abs r t).marks S q) ⊎ MarkOk G (Sent H) (Attempted H) p (abs r t) (abs r' t) S q
      marked S q i h w (inl z) = inl (i, h, w, z)
      marked S q i h w (inr (n, j, l)) =
          let (m, s, u) = k.heard q j n in
          inr record { listed = (i, h, w); early = k.early; sent = m; snap = u; low = omega (arith, rank-real (r.place i) w, ap rank_of (s.formed p), rank-maybe ((said q).formed p)) }

  pub adopt-change : {H : Hist} {p t : ℕ} {said : ℕ → Said} {r r' : Rec} → Ready H p r t said → (c : Adopts G p said r r') → Holds (more H p (adopt (sess c.word)) (abs r' t)) p r' t
  adopt-change {H} {p} {t} {said} {r} {r'} k c =
      let (m, s, z) = k.heard c.from c.member c.other in
      move (adopt F) r' t k.holds record {
        early = k.early;
        who = c.from;
        member = c.member;
        sent = m;
        snap = z;
        told = s.formed p ∙ ap maybe c.told ∙ is;
        above = omega (arith, rank-real c.word is, rank-maybe r.prim, c.above);
        view = c.view;
        tried = refl;
        prim = ap maybe c.prim ∙ is;
        formed = λ x. ⊎_elim (λ (u, i). inl (ap maybe u ∙ is, i)) (λ u. inr (ap maybe u)) (c.formed x);
        num-up = omega (arith, c.number);
        num-low = omega (arith, c.number);
        num-top = ⊎_elim (λ l. inr (omega (arith, c.number))) (λ g. inl (omega (arith, c.number))) (lt-or-ge r.num F.number);
        shrink = λ S (i, h, w). ⊎_elim (λ (u, l). shrunk S i h w u.0 l) (λ (u, l). free u w) (c.place i h);
        keep = λ S (i, h, w). ⊎_elim (λ (u, l). inl (i, h, ap maybe u.0 ∙ w)) (λ (u, l). inr (omega (arith, rank-real c.word is, rank-real (r.place i) w))) (c.place i h);
        marks = λ S x w. marks-back r r' t t S x (λ i h. ⊎_elim (λ (u, l). inl u) (λ (u, l). inr u) (c.place i h)) w;
      }
    where
      F : Sess
      F = sess c.word

      is : maybe c.word ≡ real F
      is = maybe-some c.word (λ e. omega (arith, c.above, ap rank e, rank-none))

      shrunk : (S : Sess) (i : ℕ) → i < 16 → maybe (r'.place i) ≡ real S → r'.place i ≡ r.place i → rank c.word < rank (r.place i) → Places r.place S × (F.number < S.number)
      shrunk S i h w u l = let w' : maybe (r.place i) ≡ real S = ap maybe (sym u) ∙ w in ((i, h, w'), omega (arith, rank-real c.word is, rank-real (r.place i) w'))

  pub clear-change : {H : Hist} {p t : ℕ} {said : ℕ → Said} {r r' : Rec} → Ready H p r t said → Clears G p said r r' → Holds (more H p tidy (abs r' t)) p r' t
  clear-change {H} {p} {t} {said} {r} {r'} k c =
      move tidy r' t k.holds record {
        view = c.view;
        still = still t c.stay;
        shrink = λ S w. places-back r r' S kept w;
        keep = λ S (i, h, w). ⊎_elim (λ (u, v). inl (i, h, ap maybe u ∙ w)) (λ (u, f). inr (why S i h w (f (some_of w)))) (c.place i h);
        marks = λ S x w. inl (marks-back r r' t t S x kept w);
      }
    where
      kept : KeptOrFreed r r'
      kept i h = ⊎_elim inl (λ (u, f). inr u) (c.place i h)

      why : (S : Sess) (i : ℕ) → i < 16 → maybe (r.place i) ≡ real S → Cleared G p said r i → ClearOk G (Sent H) (Attempted H) p (abs r t) (abs r' t) S
      why S i h w (inl f) = record { early = k.early; why = inl (λ x j n. (i, h, w, f x (subst (λ s. G.In x s) (sym (heads-of (r.place i) w)) j) n)) }
      why S i h w (inr (q, j, y, n, u, l, v)) =
          let (m, s, z) = k.heard q y n in
          record {
            early = k.early;
            why = inr record {
              who = q;
              member = subst (λ z. G.In q z) (heads-of (r.place i) w) j;
              sent = m;
              snap = z;
              unlisted = λ g. let (a, b, e) = s.told S g in u (a, b, word-one e w);
              low = omega (arith, ap rank_of s.prim, rank-maybe (said q).prim, rank-real (r.place i) w);
              other = λ g. v (word-one (sym s.prim ∙ g) w);
            };
          }

  pub attempt-change : {H : Hist} {p t : ℕ} {said : ℕ → Said} {r r' : Rec} → Ready H p r t said → Member G r p → Self r (said p) → (c : Attempts G p said r r')
      → Holds (more H p (attempt (Here G r c.number)) (abs r' r.view)) p r' r.view
      × Attempted (more H p (attempt (Here G r c.number)) (abs r' r.view)) p r.view
  attempt-change {H} {p} {t} {said} {r} {r'} k mine self c = (
    move (attempt S) r' r.view k.holds record {
      early = k.early;
      heads = refl;
      mine = mine;
      hear = λ x j. record { state = (heard x j).0; why = (heard x j).2 };
      own = omega (arith, c.high p mine, self.num);
      high = λ x j. omega (arith, c.high x j, (heard x j).1.num);
      tight = let (x, j, e) = c.tight in (x, j, omega (arith, (heard x j).1.num));
      best = sess c.best;
      best-from = let (x, j, e) = c.best-from in (x, j, (heard x j).1.prim ∙ ap maybe e ∙ maybe-some c.best c.best-some);
      best-top = λ x j. omega (arith, c.best-top x j, ap rank_of (heard x j).1.prim, rank-maybe (said x).prim, best-rank);
      pass = c.pass;
      weigh = λ x j F z l. weighed x j F l ((heard x j).1.told F z);
      view = c.view;
      num = c.num;
      tried = refl;
      prim = ap maybe c.prim;
      formed = λ x. ap maybe (c.formed x);
      grow = λ F (j, g, u). grown F j g u (ℕ_discrete j c.at);
      keep = λ F (j, g, u). (j, g, ap maybe (c.rest j g (other j u)).0 ∙ u);
      placed = (c.at, c.at_place, is_real c.put);
      marks = λ F x (j, g, u, z). marked F x j g u z (ℕ_discrete j c.at);
    },
    attempted (ap (λ (l : Local). l.view) k.holds.at),
  )
    where
      S : Sess
      S = Here G r c.number

      best-rank : rank c.best ≡ suc (num c.best)
      best-rank = rank-real c.best (maybe-some c.best c.best-some)

      heard-if : (x : ℕ) → Member G r x → Dec (x ≡ p) → (m : Local) × Says (said x) m × (((x ≡ p) × (m ≡ abs r t)) ⊎ Sent H x r.view m)
      heard-if x j (yes e) = (abs r t, subst (λ z. Says (said z) (abs r t)) (sym e) (says-self t self), inl (e, refl))
      heard-if x j (no n) = let (m, s, u) = k.heard x j n in (m, s, inr u)

      heard : (x : ℕ) → Member G r x → (m : Local) × Says (said x) m × (((x ≡ p) × (m ≡ abs r t)) ⊎ Sent H x r.view m)
      heard x j = heard-if x j (ℕ_discrete x p)

      weighed : (x : ℕ) → Member G r x → (F : Sess) → num c.best < F.number → Places (said x).place F → G.passes F.heads (G.members r.view)
      weighed x j F l (i, h, u) = subst (λ z. G.passes z (G.members r.view)) (heads-of ((said x).place i) u) (c.weigh x i j h (omega (arith, rank-real ((said x).place i) u, best-rank)))

      other : (j : ℕ) {F : Sess} → maybe (r.place j) ≡ real F → j ≢ c.at
      other j u e = free (ap r.place e ∙ c.was) u

      grown : (F : Sess) (j : ℕ) → j < 16 → maybe (r'.place j) ≡ real F → Dec (j ≡ c.at) → (Places r.place F) ⊎ (F ≡ S)
      grown F j g u (yes e) = inr (let q : real S ≡ real F = sym (is_real c.put) ∙ ap (λ z. maybe (r'.place z)) (sym e) ∙ u in cc)
      grown F j g u (no n) = inl (j, g, ap maybe (sym (c.rest j g n).0) ∙ u)

      marked : (F : Sess) (x j : ℕ) → j < 16 → maybe (r'.place j) ≡ real F → G.In x (r'.mark j) → Dec (j ≡ c.at) → (abs r t).marks F x
      marked F x j g u z (yes e) = absurd (c.bare x (subst (λ y. G.In x (r'.mark y)) e z))
      marked F x j g u z (no n) = (j, g, ap maybe (sym (c.rest j g n).0) ∙ u, subst (λ s. G.In x s) (c.rest j g n).1 z)

  -- ---- form

  pub form-change : {H : Hist} {p t : ℕ} {r r' : Rec} → Holds H p r t → Member G r p → ((x : ℕ) → Member G r x → Attempted H x r.view) → Forms G r r'
      → Holds (more H p (form (Here G r r.num)) (abs r' t)) p r' t
  form-change {t = t} {r = r} {r' = r'} k mine att c =
      move (form (Here G r r.num)) r' t k record {
        heads = refl;
        number = refl;
        mine = mine;
        all = att;
        view = c.view;
        num = c.num;
        tried = refl;
        prim = ap maybe c.prim ∙ is_real c.is;
        formed = λ x. ⊎_elim (λ (u, i). inl (ap maybe u ∙ is_real c.is, i)) (λ (u, n). inr (ap maybe u, n)) (c.formed x);
        shrink = λ F (i, h, u). free (c.place i h) u;
        marks = λ F x (i, h, u, z). free (c.place i h) u;
      }
