-- A lent buffer and how far it is filled.
use Rattle.std.specs.Prelude.{◌≡◌, List, ◌++◌, ℕ, ◌+◌, ◌≤◌, length, take}
use Rattle.text.specs.declared.Printer.{Printer}

-- what stands in the filled part
abbrev pub written : Printer → List ℕ
written p = take p.end p.out.now

-- there is room for n more bytes
abbrev pub Room : ℕ → Printer → Type 0
Room n p = p.end + n ≤ length p.out.now

-- q is p after a text of at most n bytes was put: the same buffer, with the text after what stood there
pub record Puts (n : ℕ) (text : List ℕ) (p q : Printer) : Type 0 where
  pub buffer : q.out.ghost_name ≡ p.out.ghost_name
  pub size : length q.out.now ≡ length p.out.now
  pub most : q.end ≤ p.end + n
  pub then : written q ≡ written p ++ text
