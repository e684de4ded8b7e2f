-- Whatever the parts, the bench comes to what the whole input makes of it: of the line that a part begins 15 bytes are held, and no line of so many is an event.
use mathlib.Core.Bool.{◌&&◌}
use mathlib.Core.List.{List, [], ◌∷◌, ◌++◌}
use mathlib.Core.Path.{◌≡◌, refl, ap, fun_ext}
use Prim.Native.Nat.{ℕ, ◌≤◌}
use native.Mathlib.Omega.{arith}
use borrow.Author.Tests.{ne_eqb, lt-ltb, le-ltb}
use lib.ListN.{length, length-append}
use lib.Seq.{take_at}
use lib.Dec.{eqb, leb}
use Rattle.std.specs.Prelude.{Option, None}
use Rattle.loops.specs.Below.{every}
use Rattle.loops.proofs.Laws.Truth.{cond-elim}
use Rattle.lines.specs.Hex.{is_digit, unhex, line_end, line_of}
use Rattle.lines.specs.Walk.{last_line}
use Rattle.lines.proofs.Laws.Alike.{NoEnd, end_after, Long}
use Rattle.lines.proofs.Laws.Parts as parts
use Rattle.events.specs.declared.Event.{Event}
use Rattle.events.specs.Events.{byte_at, of_kind, event_of}
use Rattle.asking.specs.Asking.{event_in}
use Rattle.worlds.specs.Bench.{Bench, happens, taken, played}
use Rattle.worlds.specs.Parts.{runs, AnyParts}

-- ---- a long line is no event

abbrev Nothing : Option Event → Type 0
Nothing e = e ≡ None

kind-long : (k n : ℕ) (f : List ℕ) → 15 ≤ n → Nothing (of_kind k n f)
kind-long k n f h =
    cond-elim Nothing (eqb k 0x10) _ _ (λ t. rw (ne_eqb n 8 (λ e. omega (arith, e))))
    (λ t. cond-elim Nothing (eqb k 0x11) _ _ (λ t. rw (ne_eqb n 14 (λ e. omega (arith, e))))
    (λ t. cond-elim Nothing (eqb k 0x12) _ _ (λ t. rw (ne_eqb n 12 (λ e. omega (arith, e))))
    (λ t. cond-elim Nothing (eqb k 0x13) _ _ (λ t. rw (ne_eqb n 8 (λ e. omega (arith, e))))
    (λ t. cond-elim Nothing (eqb k 0x14) _ _ (λ t. rw (ne_eqb n 4 (λ e. omega (arith, e))))
    (λ t. cond-elim Nothing (eqb k 0x15) _ _ (λ t. rw (ne_eqb n 8 (λ e. omega (arith, e))))
    (λ t. cond-elim Nothing (eqb k 0x16) _ _ (λ t. rw (ne_eqb n 4 (λ e. omega (arith, e))))
    (λ t. cond-elim Nothing (eqb k 0x17) _ _ (λ t. rw (ne_eqb n 8 (λ e. omega (arith, e))))
    (λ t. cond-elim Nothing (eqb k 0x18) _ _ (λ t. rw (ne_eqb n 4 (λ e. omega (arith, e)))) (λ t. refl)))))))))

event-long : (l : List ℕ) → 15 ≤ length l → Nothing (event_of l)
event-long l h =
    cond-elim Nothing (every is_digit l && leb 4 (length l)) (of_kind (byte_at 0 (unhex l)) (length l) (unhex l)) None (λ t. kind-long (byte_at 0 (unhex l)) (length l) (unhex l) h) (λ t. refl)

long-event : (p : List ℕ) → Long 15 p → event_in (p ++ (10 ∷ [])) ≡ None
unfolding line_of
long-event p h =
    let k = end_after p h.1 in
    let n = length-append p (10 ∷ []) in
    rw (lt-ltb (line_end (p ++ (10 ∷ []))) (length (p ++ (10 ∷ []))) (omega arith), k, take_at p (10 ∷ []) (length p) refl) (event-long p h.0)

no_line : (p : List ℕ) → NoEnd p → event_in p ≡ None
no_line p h = rw (le-ltb (line_end p) (length p) h)

long-line : (p : List ℕ) → Long 15 p → played ((p ++ (10 ∷ [])) ∷ []) ≡ happens None
unfolding played taken
long-line p h = ap happens (long-event p h)

long-last : (p : List ℕ) → Long 15 p → played (last_line p) ≡ happens None
unfolding played last_line taken
long-last [] h = absurd (omega (arith, h.0))
long-last (b ∷ p) h = ap happens (no_line (b ∷ p) h.1)

-- ---- the parts

played-append : (a b : List (List ℕ)) (x : Bench) → played (a ++ b) x ≡ played b (played a x)
unfolding played
played-append [] b x = refl
played-append (l ∷ a) b x = played-append a b (taken l x)

in_parts : parts.InParts 15 played (λ f g x. g (f x)) runs
unfolding runs
in_parts = record {
  append = λ a b. fun_ext (played-append a b);
  long = happens None;
  long-line = long-line;
  long-last = long-last;
  ends = λ h. refl;
  goes = λ h c cs. refl;
}

pub any-parts : AnyParts
any-parts cs b = ap (λ (f : Bench → Bench). f b) (parts.any-parts in_parts cs)
