-- What a world stands for in the chain theorem: of each head the recovered record's fields and the session, the lines as they read, the sessions formed.
use mathlib.Core.Bool.{cond, true}
use mathlib.Core.Path.{◌≡◌}
use mathlib.Core.List.{List, Memᴰ}
use Prim.Native.Nat.{ℕ, zero, suc, ◌<◌}
use lib.Dec.{ltb}
use lib.ListN.{get_or}
use Rattle.group.specs.Heads.{has, highest}
use Rattle.group.specs.Fresh.{fresh_record}
use Rattle.record.specs.Layout.{entered, number, primary, formed_for, place_at, marks_at}
use Rattle.recovery.specs.Recover.{mended}
use Rattle.state.specs.declared.State.{State}
use Rattle.lines.specs.Reading.{read_whole}
use Rattle.lines.specs.Read.{StateLine, AttemptLine}
use Rattle.plan.specs.Members.{held_of}
use Rattle.head.specs.declared.session.Session.{Session}
use Rattle.chain.specs.Model.{Sess, Group}
use Rattle.chain.specs.Words.{Rec, Said, guard, sess}
use Rattle.chain.specs.Quorum.{group_of}
use Rattle.chain.specs.World.{Phase, Phase.undecided as undecided, Phase.trying as trying, Phase.closed as closed, Phase.primary as prime, Session as Heard, Vol, gone, live, World as Model}
use Rattle.history.specs.Setting.{Setting}
use Rattle.history.specs.Statement.{Sent, Head, unstarted, running, World}

-- the chain's group of a setting
abbrev pub group_in : Setting → Group
group_in S = group_of highest S.core S.least S.members

abbrev pub rec_of : List ℕ → Rec
rec_of r = record { view = entered r; num = number r; prim = primary r; formed = guard (formed_for r); place = place_at r; mark = marks_at r }

-- a state's values; places past the count are none
abbrev pub said_of : State → Said
said_of t = record { num = t.number; prim = t.primary; formed = guard (λ q. get_or t.formed q 0); place = λ i. cond (ltb i t.count) (get_or t.places i 0) 0 }

-- what head p heard, own head apart
abbrev pub heard_of : ℕ → Phase → Session → Heard
heard_of p f s = record {
  phase = f;
  said = λ x. said_of (held_of s.held x);
  states = λ x. (x ≡ p → ⊥) × (x < 16) × (has s.states x ≡ true);
  attempts = λ x. (x ≡ p → ⊥) × (x < 16) × (has s.attempts x ≡ true);
}

-- by the stage: 0 none, 1 undecided, 2 closed, 3 attempted, 4 formed
abbrev pub vol_by : ℕ → ℕ → Session → Vol
vol_by zero p s = gone
vol_by (suc zero) p s = live (heard_of p undecided s)
vol_by (suc (suc zero)) p s = live (heard_of p closed s)
vol_by (suc (suc (suc zero))) p s = live (heard_of p trying s)
vol_by (suc (suc (suc (suc n)))) p s = live (heard_of p prime s)

abbrev pub vol_of : ℕ → Session → Vol
vol_of p s = vol_by s.stage p s

-- a head that is not started stands for its fresh record, so that its start changes nothing
abbrev pub head_rec : Setting → ℕ → Head → Rec
head_rec S p unstarted = rec_of (fresh_record S.core S.least p)
head_rec S p (running r s) = rec_of (mended r)

abbrev pub head_vol : ℕ → Head → Vol
head_vol p unstarted = gone
head_vol p (running r s) = vol_of p s

-- a state line of view v that head x wrote, saying m; an attempt line
pub record Wrote (L : List Sent) (v x : ℕ) (m : Said) : Type 0 where
  pub bytes : List ℕ
  pub at : Memᴰ (record { by = x; bytes = bytes }) L
  pub reads : (read_whole bytes).line ≡ StateLine v x
  pub is : m ≡ said_of (read_whole bytes).state

pub record Tried (L : List Sent) (v x : ℕ) : Type 0 where
  pub bytes : List ℕ
  pub at : Memᴰ (record { by = x; bytes = bytes }) L
  pub reads : (read_whole bytes).line ≡ AttemptLine v x

-- the sessions formed
abbrev pub FormedIn : List ℕ → Sess → Type 0
FormedIn L F = (w : ℕ) × Memᴰ w L × (F ≡ sess w)

unfoldable pub world_of : Setting → World → Model
world_of S W = record {
  rec = λ x. head_rec S x (W.head x);
  vol = λ x. head_vol x (W.head x);
  state = Wrote W.sent;
  attempt = Tried W.sent;
  formed = FormedIn W.formed;
}
