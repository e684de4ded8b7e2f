-- The theorem has something to say: a text in which two heads form a session, one of them in a call that is cut after word 3, computed line by line.
use mathlib.Core.Path.{◌≡◌, refl}
use mathlib.Core.List.{List, [], ◌∷◌}
use Prim.Native.Nat.{ℕ}
use Rattle.loops.specs.Below.{fold_below, count_below, all_below, any_below, last_below, first_below, store_when, collect, table, every}
use Rattle.group.specs.Heads.{has, size, empty, common, either, shared, less, only, within, highest}
use Rattle.group.specs.Words.{rank, highest_of, sound, session_word, primary_ok, formed_ok}
use Rattle.group.specs.Quorum.{enough, majority, tied, blocking, passes, is_group}
use Rattle.group.specs.Fresh.{group_word, fresh_word, fresh_record}
use Rattle.store.specs.Desk.{stored, put_to, run, apply, store_if, where_changed, diff_if}
use Rattle.store.specs.Program.{step_by, exec, after, script, up_to}
use Rattle.state.specs.Values.{no_state, nothing_held, padded}
use Rattle.state.specs.Rules.{rule4, rule5, prior, place_ok, rule6, rule7, broken, keeps_rules}
use Rattle.lines.specs.Hex.{is_digit, digit, nib, hex_of, unhex, line_end, line_of}
use Rattle.lines.specs.Frame.{two, four, six, words}
use Rattle.lines.specs.Reading.{kind_of, view_of, sender_of, count_of, state_of, rule1, state_fits, rule2, rule3, later_broken, first_broken, breaks, carried, answer, judged, read_whole}
use Rattle.lines.specs.Writing.{bytes2, bytes4, bytes6, flat, head_bytes, field_bytes, place_bytes, attempt_frame, state_frame, line_for, attempt_line, state_line}
use Rattle.record.specs.Layout.{settings, core, least, own, entered, number, primary, formed_for, place_at, marks_at, store_entered, store_number, store_primary, store_formed, store_place, store_marks}
use Rattle.record.specs.Whole.{group_whole, limits_whole, primary_whole, formed_whole, used_ok, place_whole, apart, apart_whole, top_whole, marks_ok, marks_whole, words_whole, whole}
use Rattle.record.specs.Start.{taken_least, can_start, start_spec}
use Rattle.recovery.specs.Changes.{entry_change, mark_change, clear_change, past, formed_stores, adopt_change, attempt_change, form_change}
use Rattle.telling.specs.Telling.{used_places, nearer, next_above, rising, tells}
use Rattle.plan.specs.Members.{other, formed_with}
use Rattle.plan.specs.Marks.{to_mark, adding, marked, mark_step}
use Rattle.plan.specs.Adoption.{offered, best_offer, adopts, adopt_step}
use Rattle.plan.specs.Clearing.{all_marked, lists, behind, denies, to_clear, clear_step}
use Rattle.plan.specs.Attempt.{number_of, primary_of, highest_number, highest_primary, passes_for, weighed, own_weighed, state_weighed, listed_weighed, quorate, lowest_free, decision, attempts, attempt_session, attempt_step}
use Rattle.plan.specs.Decide.{learning, after_c, decide_program, decide_answer}
use Rattle.plan.specs.Form.{view_session, form_step}
use Rattle.head.specs.Session.{no_session, opened, with_state, with_attempt, at_stage}
use Rattle.fitting.specs.Fits.{view_fits, heard_fits, state_fits as state_fits_fits, placed, stage_fits}
use Rattle.head.specs.Fits.{held_fits, fits, usable}
use Rattle.head.specs.Refusals.{enter_refusal, state_refusal, hear_state_refusal, attempt_refusal, hear_attempt_refusal, decide_refusal, form_refusal, write_state_refusal, write_attempt_refusal}
use Rattle.head.specs.Calls.{under, stores, entry_step, enter_spec, hear_state_spec, hear_attempt_spec, decided_stage, decide_spec, form_spec, writes, write_state_spec, write_attempt_spec}
use Rattle.lines.specs.Walk.{lines_of, begun, whole_lines, last_line}
use Rattle.events.specs.Events.{starts}
use Rattle.keeping.specs.Keeping.{blank, no_line, stores_for, pushed, kept_at, is_line}
use Rattle.formed.specs.Formed.{newly, insert, noted}
use Rattle.views.specs.Views.{view_index, announced, members_of, view_what, enter_what}
use Rattle.worlds.specs.Bench.{start_last, acts, obeyed, happens, taken, played, new_bench}
use Rattle.printed.specs.Printed.{bench_after}

-- group 0003 with Q 1; view 1 is 0003; heads 0 and 1 enter it, hear each other's state, decide, hear each other's attempt; head 0 forms with one store, head 1 forms
pub text : List ℕ
text = 49 ∷ 48 ∷ 48 ∷ 48 ∷ 48 ∷ 51 ∷ 48 ∷ 49 ∷ 10 ∷ 49 ∷ 49 ∷ 48 ∷ 48 ∷ 48 ∷ 48 ∷ 48 ∷ 48 ∷ 48 ∷ 49 ∷ 48 ∷ 48 ∷ 48 ∷ 51 ∷ 10 ∷ 49 ∷ 50 ∷ 48 ∷ 48 ∷ 48 ∷ 48 ∷ 48 ∷ 48 ∷ 48 ∷ 48 ∷ 48 ∷ 49 ∷ 10 ∷ 49 ∷ 50 ∷ 48 ∷ 49 ∷ 48 ∷ 48 ∷ 48 ∷ 48 ∷ 48 ∷ 48 ∷ 48 ∷ 49 ∷ 10 ∷ 49 ∷ 51 ∷ 48 ∷ 48 ∷ 48 ∷ 49 ∷ 48 ∷ 48 ∷ 10 ∷ 49 ∷ 51 ∷ 48 ∷ 49 ∷ 48 ∷ 48 ∷ 48 ∷ 48 ∷ 10 ∷ 49 ∷ 52 ∷ 48 ∷ 48 ∷ 10 ∷ 49 ∷ 52 ∷ 48 ∷ 49 ∷ 10 ∷ 49 ∷ 53 ∷ 48 ∷ 48 ∷ 48 ∷ 49 ∷ 48 ∷ 48 ∷ 10 ∷ 49 ∷ 53 ∷ 48 ∷ 49 ∷ 48 ∷ 48 ∷ 48 ∷ 48 ∷ 10 ∷ 49 ∷ 55 ∷ 48 ∷ 48 ∷ 48 ∷ 48 ∷ 48 ∷ 49 ∷ 10 ∷ 49 ∷ 54 ∷ 48 ∷ 48 ∷ 10 ∷ 49 ∷ 54 ∷ 48 ∷ 49 ∷ 10 ∷ []

pub two-form : (bench_after text).formed ≡ 0x3 ∷ 0x10003 ∷ []
unfolding text fold_below count_below all_below any_below last_below first_below store_when collect table every has size empty common either shared less only within highest rank highest_of sound session_word primary_ok formed_ok enough majority tied blocking passes is_group group_word fresh_word fresh_record stored put_to run apply store_if where_changed diff_if step_by exec after no_state nothing_held padded rule4 rule5 prior place_ok rule6 rule7 broken keeps_rules is_digit digit nib hex_of unhex line_end line_of two four six words kind_of view_of sender_of count_of state_of rule1 state_fits rule2 rule3 later_broken first_broken breaks carried answer judged read_whole bytes2 bytes4 bytes6 flat head_bytes field_bytes place_bytes attempt_frame state_frame line_for attempt_line state_line settings core least own entered number primary formed_for place_at marks_at store_entered store_number store_primary store_formed store_place store_marks taken_least can_start start_spec entry_change mark_change clear_change past formed_stores adopt_change attempt_change form_change used_places nearer next_above rising tells other formed_with to_mark adding marked mark_step offered best_offer adopts adopt_step all_marked lists behind denies to_clear clear_step number_of primary_of highest_number highest_primary passes_for weighed own_weighed state_weighed listed_weighed quorate lowest_free decision attempts attempt_session attempt_step learning after_c decide_program decide_answer view_session form_step no_session opened with_state with_attempt at_stage view_fits heard_fits state_fits_fits held_fits placed stage_fits fits usable enter_refusal state_refusal hear_state_refusal attempt_refusal hear_attempt_refusal decide_refusal form_refusal write_state_refusal write_attempt_refusal under stores entry_step enter_spec hear_state_spec hear_attempt_spec decided_stage decide_spec form_spec writes write_state_spec write_attempt_spec lines_of begun whole_lines last_line starts blank no_line stores_for pushed kept_at is_line newly view_index announced members_of insert noted start_last view_what enter_what acts obeyed happens taken played new_bench whole words_whole group_whole limits_whole primary_whole formed_whole place_whole apart_whole apart top_whole marks_whole marks_ok used_ok script up_to
two-form = refl
