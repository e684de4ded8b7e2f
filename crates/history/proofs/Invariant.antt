-- The invariant of a world, and how a step of one of its heads becomes a step of the chain's world.
use mathlib.Core.Bool.{Bool, true, false, cond}
use mathlib.Core.Logic.{◌⊎◌}
use mathlib.Core.Path.{◌≡◌, refl, sym, ap, subst, ◌∙◌}
use mathlib.Core.List.{List}
use Prim.Native.Nat.{ℕ, ◌<◌}
use lib.Dec.{eqb}
use lib.ListN.{length}
use borrow.Author.Tests.{eqb-true, eq-eqb, ne_eqb}
use Rattle.group.specs.Heads.{has, highest}
use Rattle.group.specs.Quorum.{passes}
use Rattle.group.specs.Fresh.{group_word}
use Rattle.record.specs.Layout.{settings, core, least, own}
use Rattle.record.specs.Whole.{whole}
use Rattle.record.proofs.Laws.Layout.{same-own, same-core, same-least}
use Rattle.record.proofs.Laws.Fresh.{fresh-reads, fresh-own, fresh-core, fresh-least}
use Rattle.recovery.specs.Recover.{mended}
use Rattle.head.specs.declared.session.Session.{Session}
use Rattle.head.specs.Session.{no_session}
use Rattle.calls.specs.Statements.{Sized}
use Rattle.head.proofs.Laws.Fits.{Fitting}
use Rattle.chain.specs.Model.{Group}
use Rattle.chain.specs.Quorum.{group_of}
use Rattle.chain.specs.World.{gone, Frame, Quiet, idles, Turns, turn, Reached, does}
use Rattle.chain.proofs.Laws.Calls.{calls}
use Rattle.history.specs.Setting.{Setting}
use Rattle.history.specs.Statement.{Sent, Head, unstarted, running, World, seated}
use Rattle.history.proofs.Abstraction.{group_in, vol_of, head_rec, head_vol, Wrote, Tried, FormedIn, world_of}

-- the chain's group reads sets as the records do, and has the setting's quorum test and memberships
pub record Reading (S : Setting) (G : Group) : Type 0 where
  pub into : (x s : ℕ) → x < 16 → has s x ≡ true → G.In x s
  pub out : (x s : ℕ) → G.In x s → (x < 16) × (has s x ≡ true)
  pub members : (v : ℕ) → G.members v ≡ S.members v
  pub core : G.core ≡ S.core
  pub pass : (s t : ℕ) → passes highest S.core S.least s t ≡ true → G.passes s t

pub reading : (S : Setting) → Reading S (group_in S)
unfolding group_of
reading S = record { into = λ x s l e. (l, e); out = λ x s i. i; members = λ v. refl; core = refl; pass = λ s t e. e }

-- A session that goes on: its record is whole and it fits it, M is what its view stands for, and its numbers have their widths.
pub record Live (S : Setting) (r : List ℕ) (s : Session) : Type 0 where
  pub good : whole r ≡ true
  pub fitting : Fitting s r
  pub same : s.members ≡ S.members s.view
  pub sized : Sized s

-- A started head: word 0 is as start made it, recovery gives a whole record, the session is none or goes on.
pub record Runs (S : Setting) (p : ℕ) (r : List ℕ) (s : Session) : Type 0 where
  pub seat : p < 16
  pub long : length r ≡ 52
  pub group : settings r ≡ group_word S.core S.least p
  pub sound : whole (mended r) ≡ true
  pub session : (s.stage ≡ 0) ⊎ Live S r s

abbrev pub HeadOk : Setting → ℕ → Head → Type 0
HeadOk S p unstarted = Unit {0}
HeadOk S p (running r s) = Runs S p r s

pub record Inv (S : Setting) (W : World) : Type 0 where
  pub heads : (p : ℕ) → HeadOk S p (W.head p)

-- ---- word 0

module _ (S : Setting) (p : ℕ) (r : List ℕ) (seat : p < 16) (e : settings r ≡ group_word S.core S.least p) where
  pub group-own : own r ≡ p
  group-own = same-own r _ (e ∙ sym (fresh-reads S.core S.least p).settings-is) ∙ fresh-own S.core S.least p S.core-set seat S.grouped

  pub group-core : core r ≡ S.core
  group-core = same-core r _ (e ∙ sym (fresh-reads S.core S.least p).settings-is) ∙ fresh-core S.core S.least p S.core-set seat S.grouped

  pub group-least : least r ≡ S.least
  group-least = same-least r _ (e ∙ sym (fresh-reads S.core S.least p).settings-is) ∙ fresh-least S.core S.least p S.core-set seat S.grouped

-- ---- no session

pub none-gone : (p : ℕ) → vol_of p no_session ≡ gone
unfolding no_session
none-gone p = refl

pub none-stage : no_session.stage ≡ 0
unfolding no_session
none-stage = refl

-- ---- a head that moves

pub put-here : (p : ℕ) (h : Head) (f : ℕ → Head) → seated p h f p ≡ h
put-here p h f = ap (λ (b : Bool). cond b h (f p)) (eq-eqb p p refl)

pub put-there : (p : ℕ) (h : Head) (f : ℕ → Head) (q : ℕ) → (q ≡ p → ⊥) → seated p h f q ≡ f q
put-there p h f q n = ap (λ (b : Bool). cond b h (f q)) (ne_eqb q p n)

-- the world W with head p as h, the lines M and the formed sessions L
abbrev pub moved : ℕ → Head → List Sent → List ℕ → World → World
moved p h M L W = record { head = seated p h W.head; sent = M; formed = L }

module _ (S : Setting) (G : Group) (p : ℕ) where
  -- head p goes from h to h' in steps of the chain's that write and form nothing, given the lines L
  abbrev pub Many : List Sent → Head → Head → Type 1
  Many L h h' = Turns G p (Wrote L) (Tried L) (head_rec S p h) (head_vol p h) (head_rec S p h') (head_vol p h')

  pub moved-frame : (h : Head) (M : List Sent) (L : List ℕ) (W : World) → Frame p (world_of S W) (world_of S (moved p h M L W))
  unfolding world_of
  moved-frame h M L W = record {
    rec = λ q n. ap (λ (x : Head). head_rec S q x) (put-there p h W.head q n);
    vol = λ q n. ap (λ (x : Head). head_vol q x) (put-there p h W.head q n);
  }

  pub moved-quiet : (h : Head) (L : List ℕ) (W : World) → Quiet (world_of S W) (world_of S (moved p h W.sent L W))
  unfolding world_of
  moved-quiet h L W = record { state = λ v x m w. w; attempt = λ v x w. w }

  pub many-reached : (W : World) (h : Head) → Many W.sent (W.head p) h → Reached G (world_of S W) → Reached G (world_of S (moved p h W.sent W.formed W))
  unfolding world_of
  many-reached W h t k =
      calls G k (moved-frame h W.sent W.formed W) (moved-quiet h W.formed W) (record { formed = λ F w. w; kept = λ F w. w })
      (subst (λ (x : Head). Turns G p (Wrote W.sent) (Tried W.sent) (head_rec S p (W.head p)) (head_vol p (W.head p)) (head_rec S p x) (head_vol p x)) (sym (put-here p h W.head)) t)

  pub moved_ok : (W : World) (h : Head) (M : List Sent) (L : List ℕ) → Inv S W → HeadOk S p h → Inv S (moved p h M L W)
  moved_ok W h M L k o = record { heads = λ q. go q (eqb q p) refl }
    where
      go : (q : ℕ) (b : Bool) → eqb q p ≡ b → HeadOk S q (seated p h W.head q)
      go q true e = let z : q ≡ p = eqb-true q p e in subst (λ (x : ℕ). HeadOk S x (seated p h W.head x)) (sym z) (subst (λ (x : Head). HeadOk S p x) (sym (put-here p h W.head)) o)
      go q false e = subst (λ (x : Head). HeadOk S q x) (sym (ap (λ (b : Bool). cond b h (W.head q)) e)) (k.heads q)

-- worlds that are alike head by head
pub same-reached : (S : Setting) (G : Group) (W W' : World) → ((q : ℕ) → W'.head q ≡ W.head q) → W'.sent ≡ W.sent → W'.formed ≡ W.formed
    → Reached G (world_of S W) → Reached G (world_of S W')
unfolding world_of
same-reached S G W W' h l f k =
    does 0 k (turn
    (record { rec = λ q n. ap (λ (x : Head). head_rec S q x) (h q); vol = λ q n. ap (λ (x : Head). head_vol q x) (h q) })
    (record { state = λ v x m w. subst (λ (L : List Sent). Wrote L v x m) l w; attempt = λ v x w. subst (λ (L : List Sent). Tried L v x) l w })
    (record { formed = λ F w. subst (λ (L : List ℕ). FormedIn L F) f w; kept = λ F w. subst (λ (L : List ℕ). FormedIn L F) (sym f) w })
    (idles (ap (λ (x : Head). head_rec S 0 x) (h 0)) (ap (λ (x : Head). head_vol 0 x) (h 0))))
