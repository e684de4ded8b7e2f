-- "Own head p, others q": what decide reads of the members of the view M and of the states held of them.
use Rattle.std.specs.Prelude.{Bool, not, ◌&&◌, List, [], ℕ, eqb, get_or}
use Rattle.group.specs.Heads.{has}
use Rattle.record.specs.Layout.{own}
use Rattle.state.specs.declared.State.{State}
use Rattle.state.specs.declared.Held.{Held}

-- what a read past the sixteen would give: no such read is made
abbrev pub absent : State
absent = record { number = 0; primary = 0; formed = []; count = 0; places = [] }

-- the state held of head q
abbrev pub held_of : Held → ℕ → State
held_of held q = get_or held.of q absent

-- q is a member other than own head
unfoldable pub other : ℕ → List ℕ → ℕ → Bool
other m r q = has m q && not (eqb q (own r))

-- q's last formed for p
unfoldable pub formed_with : Held → List ℕ → ℕ → ℕ
formed_with held r q = get_or (held_of held q).formed (own r) 0
