-- W1 to W12 and our own rows, of those on sleep entry and version 2 the first, hold, by one computation on the bytes of the tables: the list
-- of the rows that fail is empty. The other rows hold too (crates/rows).
use mathlib.Core.Path.{◌≡◌, refl}
use mathlib.Core.Bool.{true, false}
use mathlib.Core.List.{[], ◌∷◌, ◌++◌, map}
use lib.ListN.{take, replicate}
use Rattle.sets.specs.Sets.{member, union, minus, single, first_n, subset}
use Rattle.words.specs.Words.{read_le, bytes_le, put, word_bytes, byte_words}
use Rattle.rules.specs.Index.{least_from, every, below, each_from, each, join_from}
use Rattle.rules.specs.Answers.{passes, first_of, unless, lowest}
use Rattle.rules.specs.Station.{version_good, version_width, width, device_start, resource_at, device_at, station_of, field_bytes}
use Rattle.rules.specs.Describe.{resources_of, devices_of, header_bytes, record_bytes, table_bytes}
use Rattle.rules.specs.Table.{header_good, counts_good, length_good, first_bad, all_good, resource_good, parent_good, present, set_good}
use Rattle.rules.specs.Table.{sxd_good}
use Rattle.rules.specs.Table.{sxw_good, deepest_good, head_fields, set_fields, sxd_fields, sxw_fields, deepest_fields, value_fields}
use Rattle.rules.specs.Table.{zero_fields}
use Rattle.rules.specs.Table.{device_fields, bad_field, fields_good, objects_good, fields_or_objects, device_good, table_verdict}
use Rattle.rules.specs.Write.{described_resource_good, described_fields_good, described_device_good, records_verdict, described_counts_good}
use Rattle.rules.specs.Write.{write_verdict, write, describe_verdict, describe}
use Rattle.rules.specs.WriteRows.{bench_resources, write_rows, answered, describing}
use Rattle.rules.specs.Power.{supported, own_set, listed_set, state_needs, wake_needs, needs, needed_below, needed, wake_range}
use Rattle.rules.specs.Power.{wake_from, powered_in, wake_state, wake_pair}
use Rattle.rules.specs.Status.{entry_at, entry_bytes, entries_of, status_of, image_of, fresh_status, entry_good}
use Rattle.rules.specs.Status.{entry_zero, entries_good, on_good, parent_allows, wake_consistent, consistent_but_power, powered}
use Rattle.rules.specs.Status.{consistent, values_good, image_good, values_verdict, consistency_verdict, state_verdict}
use Rattle.rules.specs.Request.{numbers_good, form_good, not_shallower_or_d0, child_bars, wake_allows, move_verdict, arm_verdict}
use Rattle.rules.specs.Request.{kind_verdict, request_verdict, new_entry, replace_entry}
use Rattle.rules.specs.Calls.{wake_of, call_of_bytes, call_of, list_of, only, method_for, calls_method, move_call, wake_call, own_call}
use Rattle.rules.specs.Calls.{status_needed}
use Rattle.rules.specs.Calls.{own_last, end_set, to_turn_on, to_turn_off, members_from, earlier, insert, sort, rising, turn_on, turn_off}
use Rattle.rules.specs.Calls.{arrange, switch_calls, calls, status_after, switching_words}
use Rattle.rules.specs.Check.{on_word, off_word, and_then, take_words, may_come, take_set, first_calls, last_calls, is_end, conforming}
use Rattle.rules.specs.Outcomes.{outcome, fresh_verdict, fresh, ready_verdict, request_stage, stages_verdict, plan_verdict, plan_outcome}
use Rattle.rules.specs.Outcomes.{planned}
use Rattle.rules.specs.Outcomes.{state_after}
use Rattle.rules.specs.Outcomes.{plan_room, plan_stages, plan_list, plan_state, plan_words, plan_bytes, list_verdict, of_bytes, check_words}
use Rattle.rules.specs.Outcomes.{check_bytes, record_part}
use Rattle.rules.specs.BringUp.{but_power_verdict, state_but_power_verdict, bring_up_stages, bring_up_calls, bring_up_list}
use Rattle.rules.specs.BringUp.{state_brought_up, bring_up_words}
use Rattle.rules.specs.BringUp.{bring_up_bytes, check_bring_up_words, check_bring_up_bytes}
use Rattle.rules.specs.BringUpRows.{done_rows, refused_rows}
use Rattle.rules.specs.Sleep.{sleep_form_good, armed_for_other, sxd_allows, wake_d_if_armed, may_take, may_take_under, least_state, least_below}
use Rattle.rules.specs.Sleep.{least_choice, has_choice, armed_verdict, sleep_verdict, moves, none_moving, offs_alone}
use Rattle.rules.specs.Outcomes.{sleep_stage, sleep_stages, planned_each, state_after_each, sleep_list, state_for_sleep}
use Rattle.rules.specs.SleepRows.{sleep_first_rows, steps_table}
use Rattle.rules.specs.Execution.{carry_out, execution}
use Rattle.rules.specs.Rows.{bytes, rows, bench_table, bench_devices}
use Rattle.rules.specs.OwnStation.{own_table, own_state, full_table}
use Rattle.rules.specs.OwnRows.{own_rows, call_words, other_words}
use Rattle.rules.specs.WideStation.{rig, flash, rig_table, wide_bench_table}
use Rattle.rules.specs.WideRows.{wide_first_rows}
use Rattle.rules.specs.Holds.{same, answers, fresh_answers, start_of, state_of, end_state, leaves, word_read, words_read, agree}
use Rattle.rules.specs.Holds.{changes, carried, checks, checks_all, holds_from, holds_in, holds, wrong, holds_bring_up_in, holds_bring_up}
use Rattle.rules.specs.Holds.{plans, holds_sleep_in, holds_sleep}

pub all_hold : (wrong holds 1 rows ≡ []) × (wrong holds 1 own_rows ≡ []) × (wrong holds 1 wide_first_rows ≡ [])
unfolding member union minus single first_n subset read_le bytes_le put word_bytes byte_words least_from every below each_from passes first_of
    unless lowest version_good version_width width device_start resource_at device_at station_of header_good counts_good length_good first_bad
    resource_good parent_good present set_good sxd_good sxw_good deepest_good head_fields set_fields sxd_fields sxw_fields deepest_fields value_fields
    zero_fields device_fields bad_field fields_good objects_good fields_or_objects device_good table_verdict supported own_set listed_set state_needs
    wake_needs needs needed_below needed wake_range
    wake_from powered_in wake_state wake_pair entry_at entry_bytes entries_of status_of join_from image_of fresh_status entry_good entry_zero
    entries_good on_good parent_allows wake_consistent consistent_but_power powered consistent values_good image_good values_verdict
    consistency_verdict state_verdict
    numbers_good form_good not_shallower_or_d0 child_bars wake_allows move_verdict arm_verdict kind_verdict request_verdict new_entry replace_entry
    list_of only method_for calls_method move_call wake_call own_call own_last end_set to_turn_on to_turn_off members_from earlier insert sort rising
    turn_on turn_off arrange switch_calls calls status_after and_then take_words may_come take_set first_calls last_calls is_end conforming outcome
    fresh_verdict fresh ready_verdict request_stage stages_verdict plan_verdict plan_outcome planned state_after plan_room plan_stages
    plan_list plan_state plan_bytes list_verdict of_bytes check_bytes carry_out execution wake_of
    call_of_bytes call_of plan_words check_words record_part same answers fresh_answers start_of state_of end_state leaves word_read words_read
    agree switching_words changes carried checks checks_all plans holds_from holds_in wrong own_table own_state full_table
    rig_table wide_bench_table
all_hold = (refl, refl, refl)

-- and so do the rows of bring-up
pub bring_up_holds : (wrong holds_bring_up 1 done_rows ≡ []) × (wrong holds_bring_up 1 refused_rows ≡ [])
unfolding member union minus single read_le bytes_le put word_bytes byte_words least_from every below each_from passes first_of
    unless lowest version_good version_width width device_start resource_at device_at station_of header_good counts_good length_good first_bad
    resource_good parent_good present set_good sxd_good sxw_good deepest_good head_fields set_fields sxd_fields sxw_fields deepest_fields value_fields
    zero_fields device_fields bad_field fields_good objects_good fields_or_objects device_good table_verdict supported own_set listed_set state_needs
    wake_needs needs needed_below needed wake_range wake_from powered_in wake_state wake_pair entry_at entry_bytes entries_of status_of join_from
    image_of entry_good entry_zero entries_good on_good parent_allows wake_consistent consistent_but_power values_good image_good values_verdict
    to_turn_on
    to_turn_off members_from earlier insert sort rising turn_on turn_off arrange switch_calls and_then take_words may_come take_set first_calls
    last_calls is_end conforming outcome plan_verdict plan_outcome list_verdict of_bytes carry_out execution wake_of call_of_bytes call_of
    but_power_verdict state_but_power_verdict bring_up_stages bring_up_calls status_needed bring_up_list state_brought_up bring_up_words bring_up_bytes
    check_bring_up_words
    check_bring_up_bytes same answers end_state leaves word_read words_read agree carried checks checks_all plans holds_bring_up_in wrong own_table
    full_table
bring_up_holds = (refl, refl)

-- and the first of sleep entry
pub sleep_holds : wrong holds_sleep 1 sleep_first_rows ≡ []
unfolding member union minus subset read_le bytes_le put word_bytes byte_words least_from every below each_from passes first_of
    unless lowest version_good version_width width device_start resource_at device_at station_of header_good counts_good length_good first_bad
    resource_good parent_good present set_good sxd_good sxw_good deepest_good head_fields set_fields sxd_fields sxw_fields deepest_fields value_fields
    zero_fields device_fields bad_field fields_good objects_good fields_or_objects device_good table_verdict supported own_set listed_set state_needs
    wake_needs needs needed_below needed wake_range wake_from powered_in wake_state wake_pair entry_at entry_bytes entries_of status_of join_from
    image_of entry_good entry_zero entries_good on_good parent_allows wake_consistent consistent_but_power powered consistent values_good image_good
    values_verdict consistency_verdict state_verdict numbers_good form_good request_verdict new_entry replace_entry list_of only method_for
    calls_method move_call own_call own_last end_set to_turn_on to_turn_off members_from earlier insert sort rising turn_on turn_off arrange switch_calls
    calls status_after status_needed outcome ready_verdict request_stage stages_verdict plan_verdict plan_outcome planned state_after plan_room
    plan_stages plan_list plan_state plan_bytes plan_words list_verdict of_bytes check_bytes check_words carry_out execution wake_of call_of_bytes call_of
    sleep_form_good armed_for_other sxd_allows wake_d_if_armed may_take may_take_under least_state least_below least_choice has_choice armed_verdict
    sleep_verdict moves none_moving offs_alone sleep_stage sleep_stages planned_each state_after_each sleep_list state_for_sleep same answers end_state
    leaves word_read words_read agree carried checks plans holds_sleep_in wrong own_table steps_table
sleep_holds = refl

-- a word is read as the call with this word, or as none; words that are none leave any set
pub codes_hold :
    (words_read call_words ≡ call_words)
    × (words_read other_words ≡ [])
    × (each (execution (member 0) other_words) 8 ≡ each (member 0) 8)
    × (each (execution (member 255) other_words) 8 ≡ each (member 255) 8)
unfolding member read_le byte_words each_from wake_of call_of_bytes call_of carry_out execution word_read words_read
codes_hold = (refl, refl, refl, refl)

-- each word finds the set as the one before left it
pub in_order_lem : (execution (member 0) (on_word 5 ∷ off_word 5 ∷ []) 5 ≡ false) × (execution (member 0) (off_word 5 ∷ on_word 5 ∷ []) 5 ≡ true)
unfolding member carry_out execution
in_order_lem = (refl, refl)

-- the bench station is described byte for byte, and the descriptions of it, of the station of our own and of one with large sets make their
-- tables; as version 2 it is described by the same bytes, and they make the table of either version
pub described_holds :
    (devices_of bench_table ≡ bench_devices)
    × (table_bytes 1 (resources_of bench_table) bench_devices ≡ bench_table)
    × (table_bytes 1 (resources_of own_table) (devices_of own_table) ≡ own_table)
    × (table_bytes 1 (resources_of full_table) (devices_of full_table) ≡ full_table)
    × (devices_of wide_bench_table ≡ bench_devices)
    × (table_bytes 1 (resources_of wide_bench_table) bench_devices ≡ bench_table)
    × (table_bytes 2 (resources_of bench_table) bench_devices ≡ wide_bench_table)
    × (devices_of rig_table ≡ take 54 rig ++ take 54 flash)
    × (table_bytes 2 (resources_of rig_table) (devices_of rig_table) ≡ rig_table)
unfolding read_le bytes_le below each_from join_from version_width width device_start device_at field_bytes resources_of devices_of header_bytes
    record_bytes table_bytes own_table full_table rig_table wide_bench_table
described_holds = (refl, refl, refl, refl, refl, refl, refl, refl, refl)

-- the writer answers as its rows say; describing answers 9 if either buffer is a byte short, after what is wrong with the table
pub written_holds :
    (map answered write_rows ≡ map (λ r. r.answer) write_rows)
    × (describing bench_table 12 162 ≡ 0 ∷ 0 ∷ 174 ∷ [])
    × (describing bench_table 11 162 ≡ 9 ∷ 0 ∷ 0 ∷ [])
    × (describing bench_table 12 161 ≡ 9 ∷ 0 ∷ 0 ∷ [])
    × (describing rig_table 256 108 ≡ 0 ∷ 0 ∷ 364 ∷ [])
    × (describing rig_table 256 107 ≡ 9 ∷ 0 ∷ 0 ∷ [])
    × (describing (put bench_table 12 (5 ∷ [])) 0 0 ≡ 4 ∷ 1 ∷ 0 ∷ [])
    × (describing (bytes 8 0x5057540001000000) 0 0 ≡ 0 ∷ 0 ∷ 0 ∷ [])
unfolding member read_le put least_from below each_from join_from passes first_of unless lowest version_good version_width width device_start
    device_at
    header_good counts_good length_good first_bad all_good resource_good parent_good present set_good sxd_good sxw_good deepest_good head_fields
    set_fields sxd_fields sxw_fields deepest_fields value_fields zero_fields device_fields bad_field fields_good objects_good fields_or_objects
    device_good table_verdict described_resource_good described_fields_good described_device_good records_verdict described_counts_good write_verdict
    describe_verdict rig_table
written_holds = (refl, refl, refl, refl, refl, refl, refl, refl)

-- what is written and described stands at the front of the lent buffers, and what is refused leaves them
pub lent_holds :
    ((write 1 bench_resources bench_devices (replicate 142 7)).table ≡ bench_table ++ 7 ∷ 7 ∷ [])
    × ((write 2 bench_resources bench_devices (replicate 214 7)).table ≡ wide_bench_table ++ 7 ∷ 7 ∷ [])
    × ((write 1 bench_resources bench_devices (replicate 139 7)).table ≡ replicate 139 7)
    × ((write 2 bench_resources bench_devices (replicate 211 7)).table ≡ replicate 211 7)
    × ((write 1 bench_resources (put bench_devices 161 (1 ∷ [])) (replicate 142 7)).table ≡ replicate 142 7)
    × ((describe bench_table (replicate 13 7) (replicate 163 7)).resources ≡ bench_resources ++ 7 ∷ [])
    × ((describe bench_table (replicate 13 7) (replicate 163 7)).devices ≡ bench_devices ++ 7 ∷ [])
    × ((describe wide_bench_table (replicate 13 7) (replicate 163 7)).devices ≡ bench_devices ++ 7 ∷ [])
    × ((describe bench_table (replicate 13 7) (replicate 161 7)).resources ≡ replicate 13 7)
    × ((describe bench_table (replicate 11 7) (replicate 163 7)).devices ≡ replicate 163 7)
    × ((describe (put bench_table 9 (1 ∷ [])) (replicate 13 7) (replicate 163 7)).devices ≡ replicate 163 7)
unfolding member read_le bytes_le put least_from below each_from join_from passes first_of unless lowest version_good version_width width
    device_start device_at field_bytes header_good counts_good length_good first_bad all_good resource_good parent_good present set_good sxd_good
    sxw_good deepest_good head_fields set_fields sxd_fields sxw_fields deepest_fields value_fields zero_fields device_fields bad_field fields_good
    objects_good fields_or_objects device_good table_verdict resources_of devices_of header_bytes record_bytes table_bytes described_resource_good
    described_fields_good described_device_good records_verdict described_counts_good write_verdict describe_verdict write describe
    wide_bench_table
lent_holds = (refl, refl, refl, refl, refl, refl, refl, refl, refl, refl, refl)
