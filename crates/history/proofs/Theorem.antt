-- Every world of a history keeps the invariant and is reached in the chain's sense; so its formed sessions are one count, also as a list in order.
use mathlib.Core.Bool.{Bool, true, false, cond}
use mathlib.Core.Path.{◌≡◌, refl, sym, ap, subst, ◌∙◌}
use mathlib.Core.List.Memᴰ
use mathlib.Core.List.{List, [], ◌∷◌, ◌++◌, Memᴰ}
use Prim.Native.Nat.{ℕ, ◌/◌, ◌%◌, ◌<◌}
use native.Mathlib.Omega.{arith}
use lib.Dec.{eqb, ltb}
use Rattle.group.specs.Heads.{Share}
use Rattle.group.specs.Words.{heads, num}
use Rattle.group.specs.Fresh.{fresh_record}
use Rattle.group.proofs.Laws.Words.{has-heads}
use Rattle.head.specs.declared.session.Session.{Session}
use Rattle.head.specs.Session.{no_session}
use Rattle.head.specs.Calls.{form_spec, write_state_spec, write_attempt_spec}
use Rattle.chain.specs.Model.{Sess, Group, Meet, core_sess}
use Rattle.chain.specs.Words.{sess}
use Rattle.chain.specs.World.{Reached, begins}
use Rattle.chain.specs.Safety.{Has, Has.here as here, Has.there as there, Lists, Linked as LinkedSess, Linked.link as link_sess, insert as insert_sess, in_order as in_order_sess, Safe}
use Rattle.chain.proofs.Laws.Safety.{safe-highest}
use Rattle.history.specs.Setting.{Setting}
use Rattle.history.specs.Statement.{Head, unstarted, running, World, Call, enter, hear-state, hear-attempt, decide, form, recover, write-state, write-attempt, Event, start, call, leaves, back, writes, forms, signed, seated, given, empty, call_on, called, step, Given, May, History, begin, more, insert, in_order, Linked, last, link, AlwaysOneCount, AlwaysOrdered}
use Rattle.history.proofs.Abstraction.{group_in, FormedIn, world_of}
use Rattle.history.proofs.Invariant.{Reading, reading, Runs, HeadOk, Inv, put-here, moved, Many, many-reached, moved_ok, same-reached}
use Rattle.history.proofs.Calls.Ends.{Kept}
use Rattle.history.proofs.Calls.Start.{core-sess, start-begins, start_is, start-kept}
use Rattle.history.proofs.Calls.Enter.{enter-kept}
use Rattle.history.proofs.Calls.Recover.{recover-kept, lose-kept}
use Rattle.history.proofs.Calls.Form.{form-ends}
use Rattle.history.proofs.Calls.Hear.{hear-state-kept, hear-attempt-kept}
use Rattle.history.proofs.Calls.Write.{write-state-reached, write-attempt-reached}
use Rattle.history.proofs.Calls.Decide.{decide-kept}

-- what holds of every world of a history
pub record Fine (S : Setting) (G : Group) (W : World) : Type 1 where
  pub inv : Inv S W
  pub reached : Reached G (world_of S W)

module _ (S : Setting) (G : Group) (R : Reading S G) where
  pub runs-at : (p : ℕ) (W : World) (r : List ℕ) (s : Session) → W.head p ≡ running r s → Fine S G W → Runs S p r s
  runs-at p W r s at f = subst (λ (x : Head). HeadOk S p x) at (f.inv.heads p)

  fine-kept : (p : ℕ) (W : World) (h h' : Head) → W.head p ≡ h → Fine S G W → Kept S G p W.sent h h' → Fine S G (moved p h' W.sent W.formed W)
  fine-kept p W h h' at f t = record {
    inv = moved_ok S G p W h' W.sent W.formed f.inv t.ok;
    reached = many-reached S G p W h' (subst (λ (x : Head). Many S G p W.sent x h') (sym at) t.moves) f.reached;
  }

  -- a call on head p, given session s
  call-fine : (p k : ℕ) (c : Call) (W : World) (r : List ℕ) (s : Session) → Given W c → W.head p ≡ running r s → Fine S G W → Fine S G (call_on S p k c r s W)
  call-fine p k (enter v) W r s g at f = fine-kept p W (running r s) _ at f (enter-kept S G R p W.sent r s (runs-at p W r s at f) v g k)
  call-fine p k (hear-state b) W r s g at f = fine-kept p W (running r s) _ at f (hear-state-kept S G p W.sent r s (runs-at p W r s at f) b g)
  call-fine p k (hear-attempt b) W r s g at f = fine-kept p W (running r s) _ at f (hear-attempt-kept S G p W.sent r s (runs-at p W r s at f) b g)
  call-fine p k decide W r s g at f = fine-kept p W (running r s) _ at f (decide-kept S G R p W.sent r s (runs-at p W r s at f) k)
  call-fine p k form W r s g at f =
      let t = form-ends S G R p W r s at (runs-at p W r s at f) f.reached k in
      record { inv = moved_ok S G p W (running (form_spec s r k).words (form_spec s r k).session) W.sent (forms form k r s ++ W.formed) f.inv t.ok; reached = t.reached }
  call-fine p k recover W r s g at f = fine-kept p W (running r s) _ at f (recover-kept S G p W.sent r s (runs-at p W r s at f) k)
  call-fine p k (write-state out) W r s g at f =
      let t = write-state-reached S G p W r s at (runs-at p W r s at f) f.reached out in
      record { inv = moved_ok S G p W (running r (write_state_spec s r out).session) (signed p (writes (write-state out) r s) ++ W.sent) W.formed f.inv t.ok; reached = t.reached }
  call-fine p k (write-attempt out) W r s g at f =
      let t = write-attempt-reached S G p W r s at (runs-at p W r s at f) f.reached out in
      record { inv = moved_ok S G p W (running r (write_attempt_spec s r out).session) (signed p (writes (write-attempt out) r s) ++ W.sent) W.formed f.inv t.ok; reached = t.reached }

  -- a call from the world where the session is lost first: the two worlds are alike
  twice : (p : ℕ) (h h' : Head) (f : ℕ → Head) (q : ℕ) → seated p h f q ≡ seated p h (seated p h' f) q
  twice p h h' f q = go (eqb q p)
    where
      go : (b : Bool) → cond b h (f q) ≡ cond b h (cond b h' (f q))
      go true = refl
      go false = refl

  alike : (W W' : World) → ((q : ℕ) → W'.head q ≡ W.head q) → W'.sent ≡ W.sent → W'.formed ≡ W.formed → Fine S G W → Fine S G W'
  alike W W' h l g f = record {
    inv = record { heads = λ q. subst (λ (x : Head). HeadOk S q x) (sym (h q)) (f.inv.heads q) };
    reached = same-reached S G W W' h l g f.reached;
  }

  given-moved : (p : ℕ) (h : Head) (W : World) (c : Call) → Given W c → Given (moved p h W.sent W.formed W) c
  given-moved p h W (enter v) g = g
  given-moved p h W (hear-state l) g = g
  given-moved p h W (hear-attempt l) g = g
  given-moved p h W decide g = g
  given-moved p h W form g = g
  given-moved p h W recover g = g
  given-moved p h W (write-state out) g = g
  given-moved p h W (write-attempt out) g = g

  called-fine : (p : ℕ) (lost : Bool) (k : ℕ) (c : Call) (W : World) (h : Head) → Given W c → W.head p ≡ h → Fine S G W → Fine S G (called S p lost k c h W)
  called-fine p lost k c W unstarted g at f = f
  called-fine p false k c W (running r s) g at f = call-fine p k c W r s g at f
  called-fine p true k c W (running r s) g at f =
      let W₁ : World = moved p (running r no_session) W.sent W.formed W in
      let f₁ : Fine S G W₁ = fine-kept p W (running r s) (running r no_session) at f (lose-kept S G p W.sent r s (runs-at p W r s at f)) in
      alike (call_on S p k c r no_session W₁) (call_on S p k c r no_session W)
      (λ q. twice p (running (leaves S c k r no_session) (back S c k r no_session)) (running r no_session) W.head q) refl refl
      (call-fine p k c W₁ r no_session (given-moved p (running r no_session) W c g) (put-here p (running r no_session) W.head) f₁)

  step-fine : (W : World) (e : Event) → May S W e → Fine S G W → Fine S G (step S e W)
  unfolding step
  step-fine W (start p words q) m f =
      subst (λ (x : List ℕ). Fine S G (moved p (running x no_session) W.sent W.formed W)) (sym (start_is S G R W p words q m))
      (fine-kept p W unstarted (running (fresh_record S.core S.least p) no_session) m.once f (start-kept S G R p W.sent m.seat))
  step-fine W (call p lost k c) g f = called-fine p lost k c W (W.head p) g refl f

  history-fine : {W : World} → History S W → Fine S G W
  unfolding empty
  history-fine begin = record { inv = record { heads = λ p. tt }; reached = begins (start-begins S G R) }
  history-fine (more {W = W} e m h) = step-fine W e m (history-fine h)

pub fine : (S : Setting) {W : World} → History S W → Fine S (group_in S) W
fine S h = history-fine S (group_in S) (reading S) h

-- ---- one count

word_of : (a b : ℕ) → sess a ≡ sess b → a ≡ b
word_of a b e =
    let x : a % 65536 ≡ b % 65536 = ap (λ (F : Sess). F.heads) e in
    let y : a / 65536 ≡ b / 65536 = ap (λ (F : Sess). F.number) e in
    omega arith

module _ (S : Setting) where
  safe-formed : (W : World) → History S W → Safe (group_in S) (FormedIn W.formed)
  unfolding world_of
  safe-formed W h = safe-highest S.core S.least S.members S.grouped (fine S h).reached

  share : (a b : ℕ) → Meet (group_in S) (heads a) (heads b) → Share a b
  share a b (x, i, j) =
      let (l, u) = (reading S).out x (heads a) i in
      let (l', v) = (reading S).out x (heads b) j in
      (x, l, sym (has-heads a x l) ∙ u, sym (has-heads b x l) ∙ v)

  core-called : (p : ℕ) (lost : Bool) (k : ℕ) (c : Call) (h : Head) (W : World) → Memᴰ S.core W.formed → Memᴰ S.core (called S p lost k c h W).formed
  core-called p lost k c unstarted W d = d
  core-called p lost k c (running r s) W d = Memᴰ.append_right (forms c k r (given lost s)) d

  core-step : (e : Event) (W : World) → Memᴰ S.core W.formed → Memᴰ S.core (step S e W).formed
  unfolding step
  core-step (start p words q) W d = d
  core-step (call p lost k c) W d = core-called p lost k c (W.head p) W d

  core-formed : {W : World} → History S W → Memᴰ S.core W.formed
  unfolding empty
  core-formed begin = Memᴰ.head refl
  core-formed (more {W = W} e m h) = core-step e W (core-formed h)

  -- DEMAND 3
  pub one-count-proved : AlwaysOneCount S
  one-count-proved W h =
      let k = safe-formed W h in
      record {
        unique = λ a b d e n. word_of a b (k.unique (sess a) (sess b) (a, d, refl) (b, e, refl) n);
        first = core-formed h;
        chain = λ a b d e l n.
            share a b (k.chain (sess a) (sess b) (a, d, refl) (b, e, refl) l
            (λ D (w, m, q) g h. n w m (subst (λ (F : Sess). num a < F.number) q g) (subst (λ (F : Sess). F.number < num b) q h)));
      }

-- ---- the list in order

abbrev sessions : List ℕ → List Sess
sessions [] = []
sessions (w ∷ L) = sess w ∷ sessions L

insert-same : (w : ℕ) (L : List ℕ) → insert_sess (sess w) (sessions L) ≡ sessions (insert w L)
unfolding insert insert_sess
insert-same w [] = refl
insert-same w (v ∷ L) = go (insert-same w L) (ltb (num w) (num v)) (eqb (num w) (num v))
  where
    go : insert_sess (sess w) (sessions L) ≡ sessions (insert w L) → (b c : Bool) → cond b (sess w ∷ sess v ∷ sessions L) (cond c (sess v ∷ sessions L) (sess v ∷ insert_sess (sess w) (sessions L)))
        ≡ sessions (cond b (w ∷ v ∷ L) (cond c (v ∷ L) (v ∷ insert w L)))
    go e true c = refl
    go e false true = refl
    go e false false = ap (λ (M : List Sess). sess v ∷ M) e

order_same : (L : List ℕ) → in_order_sess (sessions L) ≡ sessions (in_order L)
unfolding in_order in_order_sess
order_same [] = refl
order_same (w ∷ L) = ap (insert_sess (sess w)) (order_same L) ∙ insert-same w (in_order L)

has-formed : (L : List ℕ) (F : Sess) → Has F (sessions L) → FormedIn L F
has-formed [] F x' = elim x' [ ]
has-formed (w ∷ L) F (here e) = (w, Memᴰ.head refl, e)
has-formed (w ∷ L) F (there h) = let (v, d, e) = has-formed L F h in (v, Memᴰ.tail d, e)

formed-has : (L : List ℕ) (F : Sess) (w : ℕ) → Memᴰ w L → F ≡ sess w → Has F (sessions L)
formed-has [] F w x'' e = elim x'' [ ]
formed-has (v ∷ L) F w (Memᴰ.head z) e = here (e ∙ ap sess z)
formed-has (v ∷ L) F w (Memᴰ.tail d) e = there (formed-has L F w d e)

lists-formed : (L : List ℕ) → Lists (FormedIn L) (sessions L)
lists-formed L = record { sound = has-formed L; complete = λ F (w, d, e). formed-has L F w d e }

module _ (S : Setting) where
  linked-words : (w : ℕ) (L : List ℕ) → LinkedSess (group_in S) (sess w) (sessions L) → Linked w L
  linked-words w [] k = last
  linked-words w (v ∷ L) (link_sess l m k) = link l (share S w v m) (linked-words v L k)

  -- a list of words that spells (W0, 0) and then linked sessions
  pub record Starts (M : List ℕ) : Type 0 where
    pub rest : List ℕ
    pub is : M ≡ S.core ∷ rest
    pub linked : Linked S.core rest

  starts : (M : List ℕ) (rest : List Sess) → sessions M ≡ core_sess (group_in S) ∷ rest → LinkedSess (group_in S) (core_sess (group_in S)) rest → Starts M
  starts [] rest e k = absurd (let z : ◌≡◌ {A = ℕ} 0 1 = cc in omega arith)
  starts (w ∷ M) rest e k =
      let a : sess w ≡ core_sess (group_in S) = ap (first_or (sess w)) e in
      let b : sessions M ≡ rest = ap others e in
      let c : w ≡ S.core = word_of w S.core (a ∙ sym (core-sess S (group_in S) (reading S))) in
      record {
        rest = M;
        is = ap (λ (v : ℕ). v ∷ M) c;
        linked = linked-words S.core M (subst (λ (F : Sess). LinkedSess (group_in S) F (sessions M)) (sym (core-sess S (group_in S) (reading S))) (subst (λ (N : List Sess). LinkedSess (group_in S) (core_sess (group_in S)) N) (sym b) k));
      }
    where
      first_or : Sess → List Sess → Sess
      first_or d [] = d
      first_or d (F ∷ N) = F

      others : List Sess → List Sess
      others [] = []
      others (F ∷ N) = N

  -- DEMAND 3, AS A LIST
  pub one-count-listed-proved : AlwaysOrdered S
  one-count-listed-proved W h =
      let L = W.formed in
      let k = safe-formed S W h in
      let (up, lists) = k.order (sessions L) (lists-formed L) in
      let (rest, e, m) = k.list (in_order_sess (sessions L)) up lists in
      let t = starts (in_order L) rest (sym (order_same L) ∙ e) m in
      record {
        rest = t.rest;
        starts = t.is;
        linked = t.linked;
        sound = λ w d.
            let (v, c, q) = lists.sound (sess w) (subst (Has (sess w)) (sym (order_same L)) (formed-has (in_order L) (sess w) w d refl)) in
            subst (λ (x : ℕ). Memᴰ x L) (sym (word_of w v q)) c;
        complete = λ w d.
            let (v, c, q) = has-formed (in_order L) (sess w) (subst (Has (sess w)) (order_same L) (lists.complete (sess w) (w, d, refl))) in
            subst (λ (x : ℕ). Memᴰ x (in_order L)) (sym (word_of w v q)) c;
      }
