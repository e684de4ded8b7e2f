-- Each return is the case of the definition that the tests before it leave.
use Rattle.std.proofs.Common.{◌≡◌, sym, ap, ◌∙◌, false, true, List, ℕ, ◌/◌, length, get_or, arith}
use Rattle.std.proofs.lemmas.Result.{err_from_is_err_and}
use Rattle.state.specs.declared.State.{State}
use Rattle.state.specs.declared.rules.Rule.{Rule}
use Rattle.state.specs.declared.rules.Rule.TheVariants.{Digits, Length, Head, Empty, Formed, Places, Numbers}
use Rattle.state.specs.Rules.{broken, number_of_rule}
use Rattle.lines.specs.Hex.{unhex}
use Rattle.lines.specs.Reading.{state_fits, sender_of, count_of, state_of}
use Rattle.lines.proofs.Laws.Hex.{length-unhex}
use Rattle.lines.proofs.Laws.Reading.{fits-ok, fits-many, fits-length, head-true, state-length, state-head, state-broken, state-kept}
use Rattle.reader.proofs.judge_state.Goals.{then-count-gt-PLACES-via-then-count-gt-PLACES, then-count-gt-PLACES-via-else-count-gt-PLACES+then-l-count, In_ok-view, Else-l-count}
use Rattle.reader.proofs.judge_state.Goals as goal

-- a frame is half as long as its line, and has its bytes
half : (l f : List ℕ) → f ≡ unhex l → length f ≡ length l / 2
half l f e = ap length e ∙ length-unhex l

count : (l f : List ℕ) → f ≡ unhex l → get_or f 112 0 ≡ count_of (unhex l)
unfolding count_of
count l f e = ap (λ (f : List ℕ). get_or f 112 0) e

some-rule : (r : Rule) → number_of_rule r ≡ 0 → ⊥
some-rule Digits e = absurd (omega arith)
some-rule Length e = absurd (omega arith)
some-rule Head e = absurd (omega arith)
some-rule Empty e = absurd (omega arith)
some-rule Formed e = absurd (omega arith)
some-rule Places e = absurd (omega arith)
some-rule Numbers e = absurd (omega arith)

fits : (c : Else-l-count) → state_fits (length c.args.l.now) (unhex c.args.l.now) ≡ true
fits c =
    let n = count _ _ c.requires.2 in
    let i = c.in-Some.ensures.lookup in
    fits-ok _ _ (omega (arith, n, c.from-count.ensures)) (omega (arith, n, c.from-count.ensures))

later : (l f : List ℕ) → f ≡ unhex l → (st : State) (sender : ℕ) → st ≡ state_of f → sender ≡ sender_of f
    → broken st sender ≡ broken (state_of (unhex l)) (sender_of (unhex l))
later l f e st sender s q =
    ap (λ (t : State). broken t sender) s ∙ ap (broken (state_of f)) q ∙ ap (λ (f : List ℕ). broken (state_of f) (sender_of f)) e

pub returns-in_default : goal.returns-in_default
returns-in_default c =
    let short = c.in_default.ensures.lookup.3 in
    let h = half _ _ c.requires.2 in
    sym (state-length _ c.requires.0 c.requires.1 (fits-length _ _ (λ e. omega (arith, h, e))))

pub returns-then-count-gt-PLACES : goal.returns-then-count-gt-PLACES
returns-then-count-gt-PLACES c =
    let n = count _ _ c.requires.2 in
    let i = c.in-Some.ensures.lookup.3.1 0 in
    let unfit : state_fits (length c.args.l.now) (unhex c.args.l.now) ≡ false =
    elim c.then-count-gt-PLACES.branch [
      | then-count-gt-PLACES-via-then-count-gt-PLACES w ↦ fits-many _ _ (omega (arith, n, i, c.from-count.ensures, w.if-count-gt-PLACES.true))
      | then-count-gt-PLACES-via-else-count-gt-PLACES+then-l-count w ↦ fits-length _ _ (λ e. w.if-l-count.true (omega (arith, n, i, c.from-count.ensures, e)))
    ] in sym (state-length _ c.requires.0 c.requires.1 unfit)

pub returns-in_err-view : goal.returns-in_err-view
returns-in_err-view c =
    let p = err_from_is_err_and c.from_residual.result c.from_residual.ensures.1 in
    let e = c.in_err-view.ensures in
    rw (p.1, p.2, e.1) (sym (state-head _ c.requires.0 c.requires.1 (fits (goal.at.returns-in_err-view c).Else-l-count) (rw (← c.requires.2) e.0)))

pub state_of-state-requires : goal.state_of-state-requires
unfolding count_of
state_of-state-requires c =
    let h = half _ _ c.requires.2 in
    let i = c.in-Some.ensures.lookup.3.1 0 in
    (omega (arith, i, c.from-count.ensures), omega (arith, h, i, c.from-count.ensures))

pub broken-requires : goal.broken-requires
unfolding count_of state_of
broken-requires c =
    let k = ap (λ (st : State). st.count) c.state_of-state.ensures in
    let i = c.in-Some.ensures.lookup.3.1 0 in
    let e = c.in_ok-view.ensures in
    (omega (arith, c.from.ensures, e.2, (head-true _ e.0).1), omega (arith, k, i, c.from-count.ensures))

pub returns-in_err-broken : goal.returns-in_err-broken
returns-in_err-broken c =
    let r = c.from_residual-in_err-broken in
    let p = err_from_is_err_and r.result r.ensures.1 in
    let e = c.in_ok-view.ensures in
    rw (p.1, p.2)
    (sym
    (state-broken _ c.requires.0 c.requires.1 (fits (goal.at.returns-in_err-broken c).Else-l-count) (rw (← c.requires.2) e.0) _
    (c.in_err-broken.ensures ∙ later _ _ c.requires.2 _ _ c.state_of-state.ensures (c.from.ensures ∙ e.2))
    (some-rule c.in_err-broken.field-0.0)))

pub returns : goal.returns
returns c =
    let e = c.in_ok-view.ensures in
    rw (e.1, e.2, c.state_of-state.ensures, c.requires.2)
    (sym
    (state-kept _ c.requires.0 c.requires.1 (fits (goal.at.returns c).Else-l-count) (rw (← c.requires.2) e.0)
    (sym (later _ _ c.requires.2 _ _ c.state_of-state.ensures (c.from.ensures ∙ e.2)) ∙ sym c.in_ok-broken.ensures)))
