-- Case 12 by computation.
use mathlib.Core.Path.{◌≡◌, refl}
use mathlib.Core.Bool.{true}
use lib.ListN.{take}
use Rattle.loops.specs.Below.{fold_below, count_below, all_below, collect}
use Rattle.group.specs.Heads.{has, size, empty, common, shared, less, only, within}
use Rattle.group.specs.Words.{rank, sound, session_word, primary_ok, formed_ok}
use Rattle.group.specs.Quorum.{enough, is_group}
use Rattle.store.specs.Desk.{stored, apply, store_if, where_changed, diff_if}
use Rattle.store.specs.Program.{script, after, up_to}
use Rattle.record.specs.Layout.{settings, core, least, own, entered, number, primary, formed_for, place_at, marks_at, store_number, store_primary, store_formed, store_place, store_marks}
use Rattle.record.specs.Whole.{group_whole, limits_whole, primary_whole, formed_whole, used_ok, place_whole, apart, apart_whole, top_whole, marks_ok, marks_whole, words_whole, whole}
use Rattle.recovery.specs.Recover.{greatest, raise_step, formed_step, clear_step, wipe_step, mend_program, mended}
use Rattle.recovery.specs.Changes.{clear_change, formed_stores, form_change}
use Rattle.recovery.specs.Cases.{attempted, six_stores, formed, CaseTwelve}

is_whole : whole attempted ≡ true
unfolding attempted whole words_whole group_whole limits_whole primary_whole formed_whole used_ok place_whole apart apart_whole top_whole marks_ok marks_whole settings core least own entered number primary formed_for place_at marks_at enough is_group rank sound session_word primary_ok formed_ok has size empty common shared less only within fold_below count_below all_below
is_whole = refl

its-stores : form_change attempted 0x10007 ≡ six_stores
unfolding attempted six_stores form_change formed_stores clear_change store_if store_primary store_formed store_place store_marks place_at has collect fold_below
its-stores = refl

forms : apply six_stores attempted ≡ formed
unfolding attempted six_stores formed apply stored
forms = refl

recovers : mended (apply (take 1 six_stores) attempted) ≡ formed
unfolding attempted six_stores formed apply stored mended after script mend_program raise_step formed_step clear_step wipe_step greatest diff_if where_changed store_number store_formed store_place store_marks number primary place_at rank has up_to collect fold_below
recovers = refl

pub case-twelve : CaseTwelve
case-twelve = record { before = is_whole; stores = its-stores; after = forms; cut = recovers }
