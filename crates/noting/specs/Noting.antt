-- What the bench keeps and prints of a step.
use Rattle.std.specs.Prelude.{true, cond, List, ◌++◌, ◌≡◌, ℕ, ◌+◌, ◌-◌, ◌≤◌, ltb, take}
use Rattle.deeds.specs.declared.Deed.{Deed}
use Rattle.deeds.specs.declared.What.{What}
use Rattle.deeds.specs.declared.What.TheVariants as what
use Rattle.deeds.specs.Told.{told}
use Rattle.formed.specs.Formed.{noted}
use Rattle.printing.specs.Texts.{told_text}
use Rattle.asking.specs.declared.Order.{Order}
use Rattle.asking.specs.declared.World.{World}

-- the world with what the bench itself keeps of an event
abbrev pub kept_by : What → World → World
kept_by (what.Refuse n) w = w
kept_by (what.Announce v m) w = record { at = w.at; stop = w.stop; put = w.put; views = w.views + 1; formed = w.formed; starting = w.starting; grouped = w.grouped; core = w.core; least = w.least; end = w.end; turns = w.turns }
kept_by (what.Open core least) w = record { at = w.at; stop = w.stop; put = w.put; views = w.views; formed = w.formed; starting = 16; grouped = true; core = core; least = least; end = w.end; turns = w.turns }
kept_by (what.Start core least) w = w
kept_by (what.Enter view m) w = w
kept_by (what.HearState which) w = w
kept_by (what.HearAttempt which) w = w
kept_by what.Decide w = w
kept_by what.Form w = w
kept_by what.Recover w = w
kept_by (what.Arm k) w = w

-- the world one line on, with its counts
abbrev pub onward : World → ℕ → ℕ → ℕ → World
onward w next put formed = record { at = next; stop = w.stop; put = put; views = w.views; formed = formed; starting = 0; grouped = w.grouped; core = w.core; least = w.least; end = w.end; turns = w.turns }

-- one head less to start
abbrev pub one_started : World → World
one_started w = record { at = w.at; stop = w.stop; put = w.put; views = w.views; formed = w.formed; starting = w.starting - 1; grouped = w.grouped; core = w.core; least = w.least; end = w.end; turns = w.turns }

abbrev pub world_after : World → Order → ℕ → ℕ → World
world_after w o put formed = cond (ltb 0 w.starting) (one_started w) (kept_by o.what (onward w o.next put formed))

-- what is kept of the deed d of a step: the lists before and after it, and the world r after it
pub record Noted (w : World) (o : Order) (d : Deed) (formed out formed' out' : List ℕ) (r : World) : Type 0 where
  pub world : r ≡ world_after w o r.put r.formed
  pub formed-is : take r.formed formed' ≡ cond (ltb 0 w.starting) (take w.formed formed) (noted d.formed (take w.formed formed))
  pub formed-in : r.formed ≤ 1001
  pub text-is : take r.put out' ≡ cond (ltb 0 w.starting) (take w.put out) (take w.put out ++ told_text (told d.reply))
  pub put_in : r.put ≤ w.put + 24
