-- What is kept of a step, put together from its parts; and what is printed at the end.
use mathlib.Core.List.{List, ◌++◌}
use mathlib.Core.Path.{◌≡◌, refl, sym, ap, ◌∙◌, ap₂}
use Prim.Native.Nat.{ℕ, ◌+◌, ◌≤◌, ◌<◌}
use native.Mathlib.Omega.{arith}
use borrow.Author.Tests.{lt-ltb, le-ltb}
use lib.ListN.{take}
use Rattle.deeds.specs.declared.Deed.{Deed}
use Rattle.deeds.specs.declared.What.{What}
use Rattle.deeds.specs.declared.What.TheVariants as what
use Rattle.deeds.specs.Told.{told}
use Rattle.formed.specs.Formed.{noted}
use Rattle.printing.specs.Texts.{told_text}
use Rattle.asking.specs.declared.Order.{Order}
use Rattle.asking.specs.declared.World.{World}
use Rattle.noting.specs.Noting.{kept_by, onward, one_started, Noted}

-- the counts stay as they are
kept-put : (a : What) (x : World) → (kept_by a x).put ≡ x.put
kept-put (what.Refuse k) x = refl
kept-put (what.Announce v m) x = refl
kept-put (what.Open core least) x = refl
kept-put (what.Start core least) x = refl
kept-put (what.Enter view m) x = refl
kept-put (what.HearState k) x = refl
kept-put (what.HearAttempt k) x = refl
kept-put what.Decide x = refl
kept-put what.Form x = refl
kept-put what.Recover x = refl
kept-put (what.Arm k) x = refl

kept-formed : (a : What) (x : World) → (kept_by a x).formed ≡ x.formed
kept-formed (what.Refuse k) x = refl
kept-formed (what.Announce v m) x = refl
kept-formed (what.Open core least) x = refl
kept-formed (what.Start core least) x = refl
kept-formed (what.Enter view m) x = refl
kept-formed (what.HearState k) x = refl
kept-formed (what.HearAttempt k) x = refl
kept-formed what.Decide x = refl
kept-formed what.Form x = refl
kept-formed what.Recover x = refl
kept-formed (what.Arm k) x = refl

-- a head that was started: the lists stay as they are
pub told-start : (w : World) (o : Order) (d : Deed) (formed out : List ℕ) (r : World) → 0 < w.starting → w.formed ≤ 1001 → r ≡ one_started w → Noted w o d formed out formed out r
told-start w o d formed out r h l e =
    let y = lt-ltb 0 w.starting h in
    record {
      world = rw y e;
      formed-is = rw y (ap (λ (x : World). take x.formed formed) e);
      formed-in = omega (arith, ap (λ (x : World). x.formed) e, l);
      text-is = rw y (ap (λ (x : World). take x.put out) e);
      put_in = omega (arith, ap (λ (x : World). x.put) e);
    }

pub told_line : (w : World) (o : Order) (d : Deed) (formed out formed' out' : List ℕ) (r x : World) (n put : ℕ) → w.starting ≤ 0 → r ≡ kept_by o.what x → x ≡ onward w o.next put n
    → n ≤ 1001 → take n formed' ≡ noted d.formed (take w.formed formed) → put ≤ w.put + 24 → take put out' ≡ take w.put out ++ told_text (told d.reply) → Noted w o d formed out formed' out' r
told_line w o d formed out formed' out' r x n put h e f l p m q =
    let z = le-ltb 0 w.starting h in
    let rp : r.put ≡ put = ap (λ (y : World). y.put) e ∙ kept-put o.what x ∙ ap (λ (y : World). y.put) f in
    let rf : r.formed ≡ n = ap (λ (y : World). y.formed) e ∙ kept-formed o.what x ∙ ap (λ (y : World). y.formed) f in
    record {
      world = rw z (e ∙ ap (kept_by o.what) (f ∙ ap₂ (λ (a b : ℕ). onward w o.next a b) (sym rp) (sym rf)));
      formed-is = rw (z, rf) p;
      formed-in = omega (arith, rf, l);
      text-is = rw (z, rp) q;
      put_in = omega (arith, rp, m);
    }
