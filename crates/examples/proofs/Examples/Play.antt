-- Histories played by computation: a list of moves from the empty world, each checked to be one that a history may make.
use mathlib.Core.Bool.{Bool, true, false, cond, ◌&&◌, ◌||◌}
use mathlib.Core.Logic.{⊎_elim}
use mathlib.Core.Path.{◌≡◌, refl, sym, ap, ◌∙◌}
use mathlib.Core.List.{List, [], ◌∷◌, Memᴰ}
use Prim.Native.Nat.{ℕ, zero, suc, ◌<◌}
use lib.Dec.{eqb, ltb}
use lib.ListN.{length, replicate}
use borrow.Author.Tests.{eqb-true, ltb-true}
use Rattle.loops.proofs.Laws.Truth.{clash, and_left, and_right, or_cases}
use Rattle.loops.specs.Below.{fold_below, count_below, all_below, any_below, last_below, first_below, store_when, collect, table, every}
use Rattle.group.specs.Heads.{has, size, empty, common, either, shared, less, only, within, highest}
use Rattle.group.specs.Words.{rank, highest_of, sound, session_word, primary_ok, formed_ok}
use Rattle.group.specs.Quorum.{enough, majority, tied, blocking, passes, is_group, quorum_test}
use Rattle.group.specs.Fresh.{group_word, fresh_word, fresh_record}
use Rattle.store.specs.Desk.{stored, put_to, run, apply, store_if, where_changed, diff_if}
use Rattle.store.specs.Program.{step_by, exec, script, after, up_to}
use Rattle.state.specs.Values.{no_state, nothing_held, padded}
use Rattle.state.specs.Rules.{rule4, rule5, prior, place_ok, rule6, rule7, broken, keeps_rules}
use Rattle.lines.specs.Hex.{is_digit, digit, nib, hex_of, unhex, line_end, line_of, rest_of}
use Rattle.lines.specs.Frame.{two, four, six, words}
use Rattle.lines.specs.Reading.{kind_of, view_of, sender_of, count_of, state_of, rule1, state_fits, rule2, rule3, later_broken, first_broken, breaks, carried, answer, judged, read_line, read_whole}
use Rattle.lines.specs.Writing.{bytes2, bytes4, bytes6, flat, head_bytes, field_bytes, place_bytes, attempt_frame, state_frame, line_for, attempt_line, state_line, spell, write_attempt, write_state}
use Rattle.record.specs.Layout.{settings, core, least, own, entered, number, primary, formed_for, place_at, marks_at, store_entered, store_number, store_primary, store_formed, store_place, store_marks}
use Rattle.record.specs.Whole.{group_whole, limits_whole, primary_whole, formed_whole, used_ok, place_whole, apart, apart_whole, top_whole, marks_ok, marks_whole, words_whole, whole}
use Rattle.record.specs.Start.{taken_least, can_start, start_spec}
use Rattle.recovery.specs.Changes.{entry_change, mark_change, clear_change, past, formed_stores, adopt_change, attempt_change, form_change}
use Rattle.recovery.specs.Recover.{greatest, raise_step, formed_step, clear_step as mend_clear_step, wipe_step, mend_program, mended, mendable, recover_spec}
use Rattle.telling.specs.Telling.{used_places, nearer, next_above, rising, tells}
use Rattle.plan.specs.Members.{other, formed_with}
use Rattle.plan.specs.Marks.{to_mark, adding, marked, mark_step}
use Rattle.plan.specs.Adoption.{offered, best_offer, adopts, adopt_step}
use Rattle.plan.specs.Clearing.{all_marked, lists, behind, denies, to_clear, clear_step}
use Rattle.plan.specs.Attempt.{number_of, primary_of, highest_number, highest_primary, passes_for, weighed, own_weighed, state_weighed, listed_weighed, quorate, lowest_free, decision, attempts, attempt_session, attempt_step}
use Rattle.plan.specs.Decide.{learning, after_c, decide_program, decide_answer, decide_changes}
use Rattle.plan.specs.Form.{view_session, form_step, form_changes}
use Rattle.head.specs.Session.{no_session, opened, with_state, with_attempt, at_stage}
use Rattle.fitting.specs.Fits.{view_fits, heard_fits, state_fits as state_fits_fits, placed, stage_fits}
use Rattle.head.specs.Fits.{held_fits, fits, usable}
use Rattle.head.specs.Refusals.{enter_refusal, state_refusal, hear_state_refusal, attempt_refusal, hear_attempt_refusal, decide_refusal, form_refusal, write_state_refusal, write_attempt_refusal}
use Rattle.head.specs.Calls.{under, stores, entry_step, enter_spec, hear_state_spec, hear_attempt_spec, decided_stage, decide_spec, form_spec, writes, write_state_spec, write_attempt_spec, enter_changes, decides_changes, forms_changes}
use Rattle.lines.specs.Read.{Line, StateLine, AttemptLine, Broken}
use Rattle.history.specs.Setting.{Setting}
use Rattle.examples.specs.Examples.{Leads, here, on}
use Rattle.history.specs.Statement.{Sent, Head, unstarted, running, World, Call, enter, hear-state, hear-attempt, decide, form, recover, write-state, write-attempt, Event, start, call, empty as empty_world, step, SentBefore, Given, May, History, more, insert, in_order}

-- ---- settings with three views

pub three-views : (a b : Bool) (x y z : ℕ) → x < 65536 → y < 65536 → z < 65536 → cond a x (cond b y z) < 65536
three-views true b x y z l m n = l
three-views false true x y z l m n = m
three-views false false x y z l m n = n

pub seven-grouped : is_group 0x7 1 ≡ true
unfolding is_group empty size count_below fold_below has
seven-grouped = refl

-- ---- moves: an event, or hearing the line that was written so many lines ago

pub data Move : Type 0 where
  does : Event → Move
  hears-state hears-attempt : (head ago : ℕ) → Move

abbrev pub line_at : ℕ → List Sent → List ℕ
line_at n [] = []
line_at zero (l ∷ L) = l.bytes
line_at (suc n) (l ∷ L) = line_at n L

abbrev pub event_of : World → Move → Event
event_of W (does e) = e
event_of W (hears-state p n) = call p false 0 (hear-state (line_at n W.sent))
event_of W (hears-attempt p n) = call p false 0 (hear-attempt (line_at n W.sent))

-- head p starts; it makes a call with all the stores that it needs; it writes a line
unfoldable pub starts : ℕ → Move
starts p = does (start p (replicate 52 0) 0)

unfoldable pub makes : ℕ → Call → Move
makes p c = does (call p false 128 c)

unfoldable pub tells-state : ℕ → Move
tells-state p = makes p (write-state (replicate 419 0))

unfoldable pub tells-attempt : ℕ → Move
tells-attempt p = makes p (write-attempt (replicate 13 0))

-- ---- what a history may do, as a test

abbrev same_bytes : List ℕ → List ℕ → Bool
same_bytes [] [] = true
same_bytes [] (y ∷ b) = false
same_bytes (x ∷ a) [] = false
same_bytes (x ∷ a) (y ∷ b) = eqb x y && same_bytes a b

abbrev wrote : ℕ → List ℕ → List Sent → Bool
wrote x b [] = false
wrote x b (l ∷ L) = (eqb x l.by && same_bytes b l.bytes) || wrote x b L

abbrev sent_before : List Sent → List ℕ → Line → Bool
sent_before L b (StateLine v x) = wrote x b L
sent_before L b (AttemptLine v x) = wrote x b L
sent_before L b (Broken k) = true

abbrev may_call : World → Call → Bool
may_call W (enter view) = ltb view 4294967296
may_call W (hear-state b) = sent_before W.sent b (read_whole b).line
may_call W (hear-attempt b) = sent_before W.sent b (read_whole b).line
may_call W decide = true
may_call W form = true
may_call W recover = true
may_call W (write-state out) = true
may_call W (write-attempt out) = true

abbrev is_unstarted : Head → Bool
is_unstarted unstarted = true
is_unstarted (running r s) = false

abbrev may : Setting → World → Event → Bool
may S W (start p words q) = ltb p 16 && is_unstarted (W.head p) && eqb (length words) 52 && eqb (taken_least q) S.least
may S W (call p lost k c) = may_call W c

-- the world after the moves, and whether a history may make them
unfoldable pub play : Setting → List Move → World → World
unfolding starts makes tells-state tells-attempt empty_world step in_order insert greatest raise_step formed_step mend_clear_step wipe_step mend_program mended mendable recover_spec fold_below count_below all_below any_below last_below first_below store_when collect table every has size empty common either shared less only within highest rank highest_of sound session_word primary_ok formed_ok enough majority tied blocking passes is_group quorum_test group_word fresh_word fresh_record stored put_to run apply store_if where_changed diff_if step_by exec script after up_to no_state nothing_held padded rule4 rule5 prior place_ok rule6 rule7 broken keeps_rules is_digit digit nib hex_of unhex line_end line_of rest_of two four six words kind_of view_of sender_of count_of state_of rule1 state_fits rule2 rule3 later_broken first_broken breaks carried answer judged read_line read_whole bytes2 bytes4 bytes6 flat head_bytes field_bytes place_bytes attempt_frame state_frame line_for attempt_line state_line spell write_attempt write_state settings core least own entered number primary formed_for place_at marks_at store_entered store_number store_primary store_formed store_place store_marks group_whole limits_whole primary_whole formed_whole used_ok place_whole apart apart_whole top_whole marks_ok marks_whole words_whole whole taken_least can_start start_spec entry_change mark_change clear_change past formed_stores adopt_change attempt_change form_change used_places nearer next_above rising tells other formed_with to_mark adding marked mark_step offered best_offer adopts adopt_step all_marked lists behind denies to_clear clear_step number_of primary_of highest_number highest_primary passes_for weighed own_weighed state_weighed listed_weighed quorate lowest_free decision attempts attempt_session attempt_step learning after_c decide_program decide_answer decide_changes view_session form_step form_changes no_session opened with_state with_attempt at_stage view_fits heard_fits state_fits_fits held_fits placed stage_fits fits usable enter_refusal state_refusal hear_state_refusal attempt_refusal hear_attempt_refusal decide_refusal form_refusal write_state_refusal write_attempt_refusal under stores entry_step enter_spec hear_state_spec hear_attempt_spec decided_stage decide_spec form_spec writes write_state_spec write_attempt_spec enter_changes decides_changes forms_changes
play S [] W = W
play S (m ∷ ms) W = play S ms (step S (event_of W m) W)

unfoldable pub allowed : Setting → List Move → World → Bool
unfolding play
allowed S [] W = true
allowed S (m ∷ ms) W = may S W (event_of W m) && allowed S ms (step S (event_of W m) W)

-- ---- the tests are sound

same_bytes-eq : (a b : List ℕ) → same_bytes a b ≡ true → a ≡ b
same_bytes-eq [] [] e = refl
same_bytes-eq [] (y ∷ b) e = absurd (clash (sym e))
same_bytes-eq (x ∷ a) [] e = absurd (clash (sym e))
same_bytes-eq (x ∷ a) (y ∷ b) e =
    ap (λ (z : ℕ). z ∷ a) (eqb-true x y (and_left (eqb x y) (same_bytes a b) e)) ∙ ap (λ (z : List ℕ). y ∷ z) (same_bytes-eq a b (and_right (eqb x y) (same_bytes a b) e))

same_sent : (x : ℕ) (b : List ℕ) (l : Sent) → x ≡ l.by → b ≡ l.bytes → ◌≡◌ {A = Sent} (record { by = x; bytes = b }) l
same_sent x b l e f = rw (e, f)

wrote-in : (x : ℕ) (b : List ℕ) (L : List Sent) → wrote x b L ≡ true → Memᴰ (record { by = x; bytes = b }) L
wrote-in x b [] e = absurd (clash (sym e))
wrote-in x b (l ∷ L) e =
    ⊎_elim
    (λ t.
    let f : x ≡ l.by = eqb-true x l.by (and_left (eqb x l.by) (same_bytes b l.bytes) t) in
    let g : b ≡ l.bytes = same_bytes-eq b l.bytes (and_right (eqb x l.by) (same_bytes b l.bytes) t) in
    Memᴰ.head (same_sent x b l f g))
    (λ t. Memᴰ.tail (wrote-in x b L t))
    (or_cases (eqb x l.by && same_bytes b l.bytes) (wrote x b L) e)

sent-before : (L : List Sent) (b : List ℕ) (l : Line) → sent_before L b l ≡ true → SentBefore L b l
sent-before L b (StateLine v x) e = wrote-in x b L e
sent-before L b (AttemptLine v x) e = wrote-in x b L e
sent-before L b (Broken k) e = tt

may-call : (W : World) (c : Call) → may_call W c ≡ true → Given W c
may-call W (enter view) e = ltb-true view 4294967296 e
may-call W (hear-state b) e = sent-before W.sent b (read_whole b).line e
may-call W (hear-attempt b) e = sent-before W.sent b (read_whole b).line e
may-call W decide e = tt
may-call W form e = tt
may-call W recover e = tt
may-call W (write-state out) e = tt
may-call W (write-attempt out) e = tt

is-unstarted : (h : Head) → is_unstarted h ≡ true → h ≡ unstarted
is-unstarted unstarted e = refl
is-unstarted (running r s) e = absurd (clash (sym e))

may-event : (S : Setting) (W : World) (v : Event) → may S W v ≡ true → May S W v
may-event S W (start p words q) e =
    let a = ltb p 16 in
    let b = is_unstarted (W.head p) in
    let c = eqb (length words) 52 in
    let d = eqb (taken_least q) S.least in
    let abc = and_left (a && b && c) d e in
    let ab = and_left (a && b) c abc in
    record {
      seat = ltb-true p 16 (and_left a b ab);
      once = is-unstarted (W.head p) (and_right a b ab);
      long = eqb-true (length words) 52 (and_right (a && b) c abc);
      takes = eqb-true (taken_least q) S.least (and_right (a && b && c) d e);
    }
may-event S W (call p lost k c) e = may-call W c e

-- the moves lead there by events that a history may make
pub led : (S : Setting) (U : World) (ms : List Move) (W : World) → allowed S ms W ≡ true → Leads S U W → Leads S U (play S ms W)
unfolding play allowed
led S U [] W e l = l
led S U (m ∷ ms) W e l =
    let v = event_of W m in
    led S U ms (step S v W) (and_right (may S W v) (allowed S ms (step S v W)) e)
    (on v (may-event S W v (and_left (may S W v) (allowed S ms (step S v W)) e)) l)

leads-on : (S : Setting) (U W : World) → History S U → Leads S U W → History S W
leads-on S U W h here = h
leads-on S U W h (on {W = X} e m l) = more e m (leads-on S U X h l)

-- A PLAYED HISTORY IS A HISTORY
pub played : (S : Setting) (ms : List Move) (W : World) → allowed S ms W ≡ true → History S W → History S (play S ms W)
played S ms W e h = leads-on S W (play S ms W) h (led S W ms W e here)
