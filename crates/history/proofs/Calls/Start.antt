-- Where a history begins, and start: an unstarted head stands for its fresh record, so its start is no step at all.
use mathlib.Core.Bool.{Bool, true, false, not, cond, ◌&&◌}
use mathlib.Core.Logic.{◌⊎◌, inl, inr, ⊎_elim}
use mathlib.Core.Path.{◌≡◌, refl, sym, ap, ◌∙◌}
use mathlib.Core.List.Memᴰ
use mathlib.Core.List.{List}
use Prim.Native.Nat.{ℕ, ◌<◌}
use native.Mathlib.Omega.{arith}
use lib.Dec.{eqb, leb}
use lib.ListN.{length}
use borrow.Author.Tests.{le-leb, eq-eqb}
use Rattle.loops.proofs.Laws.Truth.{and_left, passes-or-fails}
use Rattle.loops.proofs.Laws.Order.{lt-or-ge}
use Rattle.group.specs.Heads.{has, size, empty}
use Rattle.group.specs.Words.{heads, num}
use Rattle.group.specs.Quorum.{is_group}
use Rattle.group.specs.Fresh.{fresh_record}
use Rattle.group.proofs.Laws.Heads.{has-below, size_none}
use Rattle.group.proofs.Laws.Quorum.{not-empty}
use Rattle.record.specs.Layout.{primary, formed_for}
use Rattle.record.specs.Whole.{whole}
use Rattle.record.specs.Start.{can_start, start_spec}
use Rattle.record.proofs.Laws.Fresh.{fresh-length, fresh-reads, fresh-whole}
use Rattle.recovery.proofs.Laws.Still.{mended-whole}
use Rattle.head.specs.Session.{no_session}
use Rattle.chain.specs.Model.{Group, core_sess}
use Rattle.chain.specs.Words.{Is, guard, sess, Fresh}
use Rattle.chain.specs.World.{Begins, idles, rests, then}
use Rattle.chain.proofs.Laws.Words.{guard-in, guard_out}
use Rattle.history.specs.Setting.{Setting}
use Rattle.history.specs.Statement.{Sent, unstarted, running, World, empty as empty_world, MayStart}
use Rattle.history.proofs.Abstraction.{rec_of, world_of}
use Rattle.history.proofs.Invariant.{Reading, none-gone, none-stage}
use Rattle.history.proofs.Calls.Ends.{Kept}

module _ (S : Setting) (G : Group) (R : Reading S G) where
  pub core-some : S.core ≡ 0 → ⊥
  unfolding is_group
  core-some z =
      let l : 0 < size S.core = not-empty S.core (and_left (not (empty S.core)) (not (eqb S.least 0)) (and_left (not (empty S.core) && not (eqb S.least 0)) (leb S.least (size S.core)) S.grouped)) in
      omega (arith, ap size z ∙ size_none)

  -- W0 as a session word is (W0, 0)
  core-heads : heads S.core ≡ G.core
  core-heads = omega (arith, S.core-set, R.core)

  core-number : num S.core ≡ 0
  core-number = omega (arith, S.core-set)

  pub core-sess : sess S.core ≡ core_sess G
  core-sess = rw (core-heads, core-number)

  core_is : (w : ℕ) → w ≡ S.core → Is w G.core 0
  core_is w e = record { some = λ z. core-some (sym e ∙ z); set = ap heads e ∙ core-heads; number = ap num e ∙ core-number }

  in-core : (x : ℕ) → has S.core x ≡ true → G.In x G.core
  in-core x e = rw R.core (R.into x S.core (has-below S.core x S.core-set e) e)

  module _ (h : ℕ) where
    abbrev fresh : List ℕ
    fresh = fresh_record S.core S.least h

    primary-in : has S.core h ≡ true → primary fresh ≡ S.core
    primary-in e = (fresh-reads S.core S.least h).primary-is ∙ ap (λ (b : Bool). cond b S.core 0) e

    primary-out : has S.core h ≡ false → primary fresh ≡ 0
    primary-out e = (fresh-reads S.core S.least h).primary-is ∙ ap (λ (b : Bool). cond b S.core 0) e

    formed-by : (x : ℕ) → x < 16 → (a b : Bool) → has S.core h ≡ a → has S.core x ≡ b
        → (guard (formed_for fresh) x ≡ 0) ⊎ (Is (guard (formed_for fresh) x) G.core 0 × Is (primary fresh) G.core 0 × G.In x G.core)
    formed-by x l a b e f = go a b e f (guard-in (formed_for fresh) x l ∙ (fresh-reads S.core S.least h).formed-is x l ∙ rw (e, f))
      where
        go : (a b : Bool) → has S.core h ≡ a → has S.core x ≡ b → guard (formed_for fresh) x ≡ cond (a && b) S.core 0
            → (guard (formed_for fresh) x ≡ 0) ⊎ (Is (guard (formed_for fresh) x) G.core 0 × Is (primary fresh) G.core 0 × G.In x G.core)
        go true true e f t = inr (core_is _ t, core_is _ (primary-in e), in-core x f)
        go true false e f t = inl t
        go false b e f t = inl t

    fresh-record : Fresh G h (rec_of fresh)
    fresh-record = record {
      view = (fresh-reads S.core S.least h).entered-is;
      num = (fresh-reads S.core S.least h).number_is;
      prim = ⊎_elim (λ e. inr (core_is _ (primary-in e), in-core h e)) (λ e. inl (primary-out e)) (passes-or-fails (has S.core h));
      formed = λ x.
          ⊎_elim (λ l. formed-by x l (has S.core h) (has S.core x) refl refl) (λ g. inl (guard_out (formed_for fresh) x g)) (lt-or-ge x 16);
      place = (fresh-reads S.core S.least h).place_is;
    }

  -- WHERE A HISTORY BEGINS
  pub start-begins : Begins G (world_of S (empty_world S))
  unfolding world_of empty_world
  start-begins = record {
    fresh = fresh-record;
    vol = λ x. refl;
    state = λ v x m w. Memᴰ.not-nil w.at;
    attempt = λ v x w. Memᴰ.not-nil w.at;
    formed = λ F (w, d, e). e ∙ ap sess (Memᴰ.eq_of_singleton d) ∙ core-sess;
    core = (S.core, Memᴰ.head refl, sym core-sess);
  }

  -- START
  pub start_is : (W : World) (p : ℕ) (words : List ℕ) (q : ℕ) → MayStart S W p words q → (start_spec words p S.core q).rec ≡ fresh_record S.core S.least p
  unfolding start_spec can_start
  start_is W p words q m = rw (m.takes, le-leb p 15 (omega (arith, m.seat)), S.grouped, eq-eqb (length words) 52 m.long)

  pub start-kept : (p : ℕ) (L : List Sent) → p < 16 → Kept S G p L unstarted (running (fresh_record S.core S.least p) no_session)
  start-kept p L l =
      let e : whole (fresh_record S.core S.least p) ≡ true = fresh-whole S.core S.least p S.core-set l S.grouped in
      let same = mended-whole (fresh_record S.core S.least p) e in
      record {
        moves = then rests (idles (ap rec_of same) (none-gone p));
        ok = record {
          seat = l;
          long = fresh-length S.core S.least p;
          group = (fresh-reads S.core S.least p).settings-is;
          sound = ap whole same ∙ e;
          session = inl none-stage;
        };
      }
