-- The views announced so far: "11 view (number 4, heads 2)". A view is kept as a session word is, its number above its heads.
use Rattle.std.specs.Prelude.{Bool, cond, not, ◌&&◌, List, ℕ, eqb, ltb, length, get_or, set}
use Rattle.loops.specs.Below.{first_below}
use Rattle.group.specs.Words.{heads, num, session}
use Rattle.deeds.specs.declared.What.{What}
use Rattle.deeds.specs.declared.What.TheVariants as what

-- where view v stands, and past the end if it is unknown
unfoldable pub view_index : ℕ → List ℕ → ℕ
view_index v views = first_below (length views) (λ i. eqb (num (get_or views i 0)) v)

unfoldable pub announced : ℕ → List ℕ → Bool
announced v views = ltb (view_index v views) (length views)

-- the heads that a view number stands for
unfoldable pub members_of : ℕ → List ℕ → ℕ
members_of v views = heads (get_or views (view_index v views) 0)

-- ---- what an event asks of them

-- "for a view number announced twice", "for a view past 1,000"
unfoldable pub view_what : Bool → List ℕ → ℕ → ℕ → What
view_what grouped views v m =
    cond (grouped && not (announced v views) && ltb (length views) 1000) (what.Announce v m) (what.Refuse 14)

-- "or unknown": the head enters the view as it was announced
unfoldable pub enter_what : Bool → List ℕ → ℕ → What
enter_what grouped views v = cond (grouped && announced v views) (what.Enter v (members_of v views)) (what.Refuse 14)

-- the list of views after it, with n in use
abbrev pub listed : ℕ → What → List ℕ → List ℕ
listed n (what.Refuse k) views = views
listed n (what.Announce v m) views = cond (ltb n (length views)) (set views n (session v m)) views
listed n (what.Open core least) views = views
listed n (what.Start core least) views = views
listed n (what.Enter view m) views = views
listed n (what.HearState which) views = views
listed n (what.HearAttempt which) views = views
listed n what.Decide views = views
listed n what.Form views = views
listed n what.Recover views = views
listed n (what.Arm k) views = views
