-- Cases 1 to 12 by computation: every definition on the way is opened.
use mathlib.Core.Path.{◌≡◌, refl, ap₂}
use mathlib.Core.List.{List, [], ◌∷◌}
use Rattle.loops.specs.Below.{all_below, any_below, collect, count_below, every, first_below, fold_below, last_below, table}
use Rattle.group.specs.Cases.{answered, cases}
use Rattle.group.specs.Fresh.{fresh_record, fresh_word, group_word}
use Rattle.group.specs.Heads.{common, either, empty, has, highest, less, only, shared, size, within}
use Rattle.group.specs.Quorum.{blocking, enough, is_group, majority, passes, quorum_test, tied}
use Rattle.group.specs.Words.{formed_ok, highest_of, primary_ok, rank, session_word, sound}
use Rattle.store.specs.Desk.{apply, where_changed, diff_if, put_to, run, store_if, stored}
use Rattle.store.specs.Program.{after, exec, script, step_by, up_to}
use Rattle.state.specs.Rules.{broken, keeps_rules, place_ok, prior, rule4, rule5, rule6, rule7}
use Rattle.state.specs.Values.{no_state, nothing_held, padded}
use Rattle.lines.specs.Frame.{four, six, two, words}
use Rattle.lines.specs.Hex.{digit, hex_of, is_digit, line_end, line_of, nib, unhex}
use Rattle.lines.specs.Reading.{answer, breaks, carried, count_of, first_broken, judged, kind_of, later_broken, read_whole, rule1, rule2, rule3, sender_of, state_fits, state_of, view_of}
use Rattle.lines.specs.Writing.{attempt_frame, attempt_line, bytes2, bytes4, bytes6, field_bytes, flat, head_bytes, line_for, place_bytes, state_frame, state_line}
use Rattle.record.specs.Layout.{core, entered, formed_for, least, marks_at, number, own, place_at, primary, settings, store_entered, store_formed, store_marks, store_number, store_place, store_primary}
use Rattle.record.specs.Whole.{apart, apart_whole, formed_whole, group_whole, limits_whole, marks_ok, marks_whole, place_whole, primary_whole, top_whole, used_ok, whole, words_whole}
use Rattle.recovery.specs.Cases.{formed, six_stores}
use Rattle.recovery.specs.Changes.{adopt_change, attempt_change, clear_change, entry_change, form_change, formed_stores, past}
use Rattle.recovery.specs.Recover.{clear_step, formed_step, greatest, mend_program, mended, raise_step, wipe_step}
use Rattle.telling.specs.Telling.{nearer, next_above, rising, tells, used_places}
use Rattle.plan.specs.Adoption.{adopt_step, adopts, best_offer, offered}
use Rattle.plan.specs.Attempt.{attempt_session, attempt_step, attempts, decision, highest_number, highest_primary, listed_weighed, lowest_free, number_of, own_weighed, passes_for, primary_of, quorate, state_weighed, weighed}
use Rattle.plan.specs.Clearing.{all_marked, behind, clear_step as clear_step-of-clearing, denies, lists, to_clear}
use Rattle.plan.specs.Decide.{after_c, decide_answer, decide_program, learning}
use Rattle.plan.specs.Form.{form_changes, form_step, view_session}
use Rattle.plan.specs.Marks.{adding, mark_step, marked, to_mark}
use Rattle.plan.specs.Members.{formed_with, other}
use Rattle.head.specs.Calls.{decide_spec, decided_stage, enter_spec, entry_step, form_spec, forms_changes, hear_attempt_spec, hear_state_spec, stores, under, write_attempt_spec, write_state_spec, writes}
use Rattle.calls.specs.Cases.{case_table, decided0, decided1, decided2, expected, formed0, formed1, given, quorum_rows, ready2, Row, Seen, TwelveCases}
use Rattle.fitting.specs.Fits.{view_fits, heard_fits, state_fits as state_fits-of-fits, placed, stage_fits}
use Rattle.head.specs.Fits.{held_fits, fits, usable}
use Rattle.head.specs.Refusals.{attempt_refusal, decide_refusal, enter_refusal, form_refusal, hear_attempt_refusal, hear_state_refusal, state_refusal, write_attempt_refusal, write_state_refusal}
use Rattle.head.specs.Session.{at_stage, no_session, opened, with_attempt, with_state}

-- of each row the definitions give what document 01 says
data Hold : List Row → Type 0 where
  none : Hold []
  more : {x : Row} {xs : List Row} → x.gives ≡ x.says → Hold xs → Hold (x ∷ xs)

hold-same : {xs : List Row} → Hold xs → given xs ≡ expected xs
hold-same none = refl
hold-same (more e h) = ap₂ (λ (a : Seen) (l : List Seen). a ∷ l) e (hold-same h)

table-holds : Hold case_table
unfolding case_table quorum_rows cases answered quorum_test all_below any_below collect count_below every first_below fold_below last_below table fresh_record fresh_word group_word common either empty has highest less only shared size within blocking enough is_group majority passes tied formed_ok highest_of primary_ok rank session_word sound apply where_changed diff_if put_to run store_if stored after exec script step_by up_to broken keeps_rules place_ok prior rule4 rule5 rule6 rule7 no_state nothing_held padded four six two words digit hex_of is_digit line_end line_of nib unhex answer breaks carried count_of first_broken judged kind_of later_broken read_whole rule1 rule2 rule3 sender_of state_fits state_of view_of attempt_frame attempt_line bytes2 bytes4 bytes6 field_bytes flat head_bytes line_for place_bytes state_frame state_line core entered formed_for least marks_at number own place_at primary settings store_entered store_formed store_marks store_number store_place store_primary apart apart_whole formed_whole group_whole limits_whole marks_ok marks_whole place_whole primary_whole top_whole used_ok whole words_whole formed six_stores adopt_change attempt_change clear_change entry_change form_change formed_stores past clear_step formed_step greatest mend_program mended raise_step wipe_step nearer next_above rising tells used_places adopt_step adopts best_offer offered attempt_session attempt_step attempts decision highest_number highest_primary listed_weighed lowest_free number_of own_weighed passes_for primary_of quorate state_weighed weighed all_marked behind clear_step-of-clearing denies lists to_clear after_c decide_answer decide_program learning form_changes form_step view_session adding mark_step marked to_mark formed_with other decide_spec decided_stage enter_spec entry_step form_spec forms_changes hear_attempt_spec hear_state_spec stores under write_attempt_spec write_state_spec writes decided0 decided1 decided2 formed0 formed1 ready2 fits heard_fits held_fits placed stage_fits state_fits-of-fits usable view_fits attempt_refusal decide_refusal enter_refusal form_refusal hear_attempt_refusal hear_state_refusal state_refusal write_attempt_refusal write_state_refusal at_stage no_session opened with_attempt with_state
table-holds =
    more refl (more refl (more refl (more refl (more refl (more refl (more refl (more refl (more refl (more refl (more refl (more refl (more refl (more refl (more refl (more refl (more refl (more refl (more refl (more refl (more refl (more refl (more refl (more refl (more refl (none)))))))))))))))))))))))))

pub twelve-cases : TwelveCases
twelve-cases = hold-same table-holds
