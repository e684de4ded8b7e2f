-- The program between two reads. What is held of a line that was begun are its first 15 bytes: a line that long is no event, whatever follows.
use Rattle.std.specs.Prelude.{Bool, false, cond, ◌≡◌, List, [], ℕ, ◌+◌, ◌-◌, ◌≤◌, eqb, min, length, take, drop, Option, Some, None, IfSome}
use Rattle.lines.specs.Walk.{begun}
use Rattle.asking.specs.declared.World.{World}

-- nothing is read yet
abbrev pub first_world : World
first_world = record { at = 0; stop = 0; put = 0; views = 0; formed = 0; starting = 0; grouped = false; core = 0; least = 0; end = 0; turns = 18446744073709551615 }

-- after a read: end bytes lie in the buffer, and the lines up to stop end
abbrev pub at_read : World → ℕ → ℕ → ℕ → World
at_read w stop end turns = record { at = 0; stop = stop; put = 0; views = w.views; formed = w.formed; starting = w.starting; grouped = w.grouped; core = w.core; least = w.least; end = end; turns = turns }

-- what was read lies in the buffer
pub record Between (buf : List ℕ) (w : World) : Type 0 where
  pub long : length buf ≡ 8192
  pub stop : w.stop ≤ w.end
  pub end : w.end ≤ 8192

-- how many bytes of a line that was begun are held, and which
abbrev pub held_count : World → ℕ
held_count w = min (w.end - w.stop) 15

unfoldable pub held_in : List ℕ → World → List ℕ
held_in old w = take 15 (take (w.end - w.stop) (drop w.stop old))

-- how many bytes a read brought, by its answer: none at the end of the input, and none where it failed
abbrev pub brought : World → Option ℕ → ℕ
brought w (Some n) = min n (8192 - held_count w)
brought w None = 0

-- where the last whole line of s ends
unfoldable pub lines_end : List ℕ → ℕ
lines_end s = length s - length (begun [] s)

-- after a read that brought n bytes behind those held. Where it brought none, the bytes held, if any, are of a last line that does not end, and no read is left to make;
-- else all whole lines are handed on, and there is exactly one read less to make
abbrev pub after_bytes : List ℕ → World → ℕ → World
after_bytes buf w n = cond (eqb n 0) (at_read w 0 (held_count w) 0) (at_read w (lines_end (take (held_count w + n) buf)) (held_count w + n) (w.turns - 1))

abbrev pub after_read : List ℕ → World → Option ℕ → World
after_read buf w got = after_bytes buf w (brought w got)

-- a read: what is held stands first, and the world is the one that belongs to the read's answer, which may be any that a read into this room can give
pub record Filled (old buf : List ℕ) (w r : World) : Type 0 where
  pub kept : take (held_count w) buf ≡ held_in old w
  pub answer : Option ℕ
  pub can : IfSome answer (λ n. n ≤ 8192 - held_count w)
  pub is : r ≡ after_read buf w answer

-- after a write: the same, or no read is left to make where not all was written
abbrev pub after_write : World → Bool → World
after_write w all = cond all w (record { at = w.at; stop = w.stop; put = w.put; views = w.views; formed = w.formed; starting = w.starting; grouped = w.grouped; core = w.core; least = w.least; end = w.end; turns = 0 })

-- a write: the world is the one that belongs to the write's answer
pub record Later (w r : World) : Type 0 where
  pub answer : Bool
  pub is : r ≡ after_write w answer
