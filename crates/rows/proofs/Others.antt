-- The rows of sleep entry and of version 2 that stand past the first ones hold, by one computation on the bytes of the tables.
use mathlib.Core.Path.{◌≡◌, refl}
use mathlib.Core.List.{[], ◌++◌}
use lib.ListN.{replicate}
use Rattle.sets.specs.Sets.{member, union, minus, single, first_n, subset}
use Rattle.words.specs.Words.{read_le, bytes_le, put, word_bytes, byte_words}
use Rattle.std.specs.Prelude.{Ok}
use Rattle.rules.specs.Index.{least_from, every, below, each_from, join_from}
use Rattle.rules.specs.Answers.{passes, first_of, unless, lowest}
use Rattle.rules.specs.Station.{version_good, version_width, width, device_start, resource_at, device_at, station_of}
use Rattle.rules.specs.Table.{header_good, counts_good, length_good, first_bad, resource_good, parent_good, present, set_good, sxd_good}
use Rattle.rules.specs.Table.{sxw_good, deepest_good, head_fields, set_fields, sxd_fields, sxw_fields, deepest_fields, value_fields}
use Rattle.rules.specs.Table.{zero_fields, device_fields, bad_field, fields_good, objects_good, fields_or_objects, device_good, table_verdict}
use Rattle.rules.specs.Power.{supported, own_set, listed_set, state_needs, wake_needs, needs, needed_below, needed, wake_range}
use Rattle.rules.specs.Power.{wake_from, powered_in, wake_state, wake_pair}
use Rattle.rules.specs.Status.{entry_at, entry_bytes, entries_of, status_of, image_of, fresh_status, entry_good}
use Rattle.rules.specs.Status.{entry_zero, entries_good, on_good, parent_allows, wake_consistent, consistent_but_power, powered}
use Rattle.rules.specs.Status.{consistent, values_good, image_good, values_verdict, consistency_verdict, state_verdict}
use Rattle.rules.specs.Request.{numbers_good, form_good, not_shallower_or_d0, child_bars, wake_allows, move_verdict, arm_verdict}
use Rattle.rules.specs.Request.{kind_verdict, request_verdict, new_entry, replace_entry}
use Rattle.rules.specs.Calls.{wake_of, call_of_bytes, call_of, list_of, only, method_for, calls_method, move_call, wake_call, own_call}
use Rattle.rules.specs.Calls.{own_last, end_set, to_turn_on, to_turn_off, members_from, earlier, insert, sort, rising, turn_on, turn_off}
use Rattle.rules.specs.Calls.{arrange, switch_calls, calls, status_after, status_needed, switching_words}
use Rattle.rules.specs.Check.{and_then, take_words, may_come, take_set, first_calls, last_calls, is_end, conforming}
use Rattle.rules.specs.Outcomes.{outcome, fresh_verdict, fresh, ready_verdict, request_stage, stages_verdict, plan_verdict, plan_outcome}
use Rattle.rules.specs.Outcomes.{planned, state_after, plan_room, plan_stages, plan_list, plan_state, plan_words, plan_bytes, list_verdict}
use Rattle.rules.specs.Outcomes.{of_bytes, check_words, check_bytes, record_part}
use Rattle.rules.specs.Outcomes.{sleep_stage, sleep_stages, planned_each, state_after_each, sleep_list, state_for_sleep}
use Rattle.rules.specs.BringUp.{but_power_verdict, state_but_power_verdict, bring_up_stages, bring_up_calls, bring_up_list}
use Rattle.rules.specs.BringUp.{state_brought_up, bring_up_words, bring_up_bytes, check_bring_up_words, check_bring_up_bytes}
use Rattle.rules.specs.Sleep.{sleep_form_good, armed_for_other, sxd_allows, wake_d_if_armed, may_take, may_take_under, least_state, least_below}
use Rattle.rules.specs.Sleep.{least_choice, has_choice, armed_verdict, sleep_verdict, moves, none_moving, offs_alone}
use Rattle.rules.specs.Execution.{carry_out, execution}
use Rattle.rules.specs.Rows.{bytes, blank, move}
use Rattle.rules.specs.OwnStation.{own_table}
use Rattle.rules.specs.SleepRows.{sleep_done_rows, sleep_refused_rows, steps_table, port_table, scanner_table}
use Rattle.rules.specs.WideStation.{wide_image, rig_table, long_table, wide_bench_table}
use Rattle.rules.specs.WideRows.{wide_done_rows, wide_refused_rows, wide_bring_up_rows, wide_sleep_rows}
use Rattle.rules.specs.Holds.{same, answers, fresh_answers, start_of, state_of, end_state, leaves, word_read, words_read, agree}
use Rattle.rules.specs.Holds.{changes, carried, checks, checks_all, holds_from, holds_in, holds, wrong, holds_bring_up_in, holds_bring_up}
use Rattle.rules.specs.Holds.{plans, holds_sleep_in, holds_sleep}

pub others_hold :
    (wrong holds_sleep 1 sleep_done_rows ≡ [])
    × (wrong holds_sleep 1 sleep_refused_rows ≡ [])
    × (wrong holds 1 wide_done_rows ≡ [])
    × (wrong holds 1 wide_refused_rows ≡ [])
    × (wrong holds_bring_up 1 wide_bring_up_rows ≡ [])
    × (wrong holds_sleep 1 wide_sleep_rows ≡ [])
unfolding member union minus single first_n subset read_le bytes_le put word_bytes byte_words least_from every below each_from passes first_of
    unless lowest version_good version_width width device_start resource_at device_at station_of header_good counts_good length_good first_bad
    resource_good parent_good present set_good sxd_good sxw_good deepest_good head_fields set_fields sxd_fields sxw_fields deepest_fields value_fields
    zero_fields device_fields bad_field fields_good objects_good fields_or_objects device_good table_verdict supported own_set listed_set state_needs
    wake_needs needs needed_below needed wake_range wake_from powered_in wake_state wake_pair entry_at entry_bytes entries_of status_of join_from
    image_of fresh_status entry_good entry_zero entries_good on_good parent_allows wake_consistent consistent_but_power powered consistent values_good
    image_good values_verdict consistency_verdict state_verdict numbers_good form_good not_shallower_or_d0 child_bars wake_allows move_verdict
    arm_verdict kind_verdict request_verdict new_entry replace_entry list_of only method_for calls_method move_call wake_call own_call own_last end_set
    to_turn_on to_turn_off members_from earlier insert sort rising turn_on turn_off arrange switch_calls calls status_after status_needed and_then
    take_words may_come take_set first_calls last_calls is_end conforming outcome fresh_verdict fresh ready_verdict request_stage stages_verdict
    plan_verdict plan_outcome planned state_after plan_room plan_stages plan_list plan_state plan_bytes plan_words list_verdict of_bytes check_bytes
    check_words carry_out execution wake_of call_of_bytes call_of record_part but_power_verdict state_but_power_verdict bring_up_stages bring_up_calls
    bring_up_list state_brought_up bring_up_words bring_up_bytes check_bring_up_words check_bring_up_bytes sleep_form_good armed_for_other sxd_allows
    wake_d_if_armed may_take may_take_under least_state least_below least_choice has_choice armed_verdict sleep_verdict moves none_moving offs_alone
    sleep_stage sleep_stages planned_each state_after_each sleep_list state_for_sleep same answers fresh_answers start_of state_of end_state leaves
    word_read words_read agree switching_words changes carried checks checks_all plans holds_from holds_in holds_bring_up_in holds_sleep_in wrong
    own_table steps_table port_table scanner_table rig_table wide_bench_table
others_hold = (refl, refl, refl, refl, refl, refl)

-- the own call of device 33, whose entry is at byte 132
pub last_device_holds :
    (plan_bytes long_table (replicate 264 0) (move 33 3) (blank 260)
    ≡ record { verdict = Ok 1; state = wide_image 34 0x03000000 0; plan = bytes 4 0x03210300 ++ blank 256 })
unfolding member union minus subset read_le bytes_le put word_bytes byte_words least_from every below each_from passes first_of
    unless lowest version_good version_width width device_start resource_at device_at station_of header_good counts_good length_good first_bad
    resource_good parent_good present set_good sxd_good sxw_good deepest_good head_fields set_fields sxd_fields sxw_fields deepest_fields value_fields
    zero_fields device_fields bad_field fields_good objects_good fields_or_objects device_good table_verdict supported own_set listed_set state_needs
    wake_needs needs needed_below needed entry_at entry_bytes entries_of status_of join_from image_of entry_good entry_zero entries_good on_good
    parent_allows wake_consistent consistent_but_power powered consistent values_good image_good values_verdict consistency_verdict state_verdict
    numbers_good form_good not_shallower_or_d0 child_bars wake_allows move_verdict kind_verdict request_verdict new_entry replace_entry list_of only
    method_for calls_method move_call own_call own_last end_set to_turn_on to_turn_off members_from earlier insert sort rising turn_on turn_off arrange
    switch_calls calls status_after outcome ready_verdict request_stage stages_verdict plan_verdict plan_outcome planned state_after plan_room
    plan_stages plan_list plan_state plan_bytes list_verdict of_bytes check_bytes long_table
last_device_holds = refl
