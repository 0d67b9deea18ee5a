-- RULES.md 12, bring-up: the calls that make a state consistent whose entries were kept and whose on-set is what `_STA` reports.
use Rattle.std.specs.Prelude.{ℕ, ◌*◌, Bool, true, false, not, List, [], ◌∷◌, map, length, leb}
use Rattle.words.specs.Words.{word_bytes}
use Rattle.rules.specs.declared.Call.{Call}
use Rattle.rules.specs.declared.Entry.{Entry}
use Rattle.rules.specs.Verdict.{Verdict}
use Rattle.std.specs.Prelude.{Ok}
use Rattle.rules.specs.Verdict.{refuse}
use Rattle.rules.specs.declared.Reason.TheVariants.{Inconsistent, NoRoom}
use Rattle.rules.specs.Answers.{first_of, unless, lowest}
use Rattle.rules.specs.Station.{Station, width, station}
use Rattle.rules.specs.Table.{table_verdict}
use Rattle.rules.specs.Power.{needed}
use Rattle.rules.specs.Status.{Status, status, image_of, consistent_but_power, values_verdict}
use Rattle.rules.specs.Calls.{word_of, switch_calls, status_needed}
use Rattle.rules.specs.Conforms.{Conforms}
use Rattle.rules.specs.Check.{conforming}
use Rattle.rules.specs.Outcomes.{Outcome, list_room, plan_outcome, list_verdict, of_bytes}

-- 8 (RULES.md 12.1): the lowest device that breaks a rule of 4.3 other than that what it needs is on
unfoldable pub but_power_verdict : Station → (ℕ → Entry) → Verdict
but_power_verdict s entries = lowest (λ d. not (consistent_but_power s entries d)) s.devices (refuse Inconsistent)

-- 7, then that 8
unfoldable pub state_but_power_verdict : List ℕ → List ℕ → Verdict
state_but_power_verdict t b = first_of (values_verdict t b ∷ but_power_verdict (station t) (status t b).entries ∷ []) (Ok 0)

-- 1 to 8; then 9 without room, which only bring-up itself needs
unfoldable pub bring_up_stages : Bool → List ℕ → List ℕ → Verdict
bring_up_stages room t b = first_of (table_verdict t ∷ state_but_power_verdict t b ∷ unless room NoRoom 0 ∷ []) (Ok 0)

-- RULES.md 12.2: from the on-set to the needed set of the entries as they are; no device's own call
unfoldable pub bring_up_calls : Station → Status → List Call
bring_up_calls s st = switch_calls s [] false st.on (needed s st.entries)

-- the words of the list, and the state image afterwards
unfoldable pub bring_up_list : List ℕ → List ℕ → List ℕ
bring_up_list t b = map word_of (bring_up_calls (station t) (status t b))

unfoldable pub state_brought_up : List ℕ → List ℕ → List ℕ
state_brought_up t b = image_of (width t) (status_needed (station t) (status t b))

-- bring-up on a plan of words, and on one of bytes, four a word
unfoldable pub bring_up_words : List ℕ → List ℕ → List ℕ → Outcome
bring_up_words t b plan =
    plan_outcome (λ ws. ws) (bring_up_stages (leb (list_room (width t)) (length plan)) t b) b plan (state_brought_up t b) (bring_up_list t b)

unfoldable pub bring_up_bytes : List ℕ → List ℕ → List ℕ → Outcome
bring_up_bytes t b plan =
    plan_outcome word_bytes (bring_up_stages (leb (4 * list_room (width t)) (length plan)) t b) b plan (state_brought_up t b) (bring_up_list t b)

-- RULES.md 12.3: a list conforms to bring-up from a status, and the test of it
abbrev pub ConformsToBringUp : Station → Status → List ℕ → Type 0
ConformsToBringUp s st = Conforms s [] false st.on (needed s st.entries)

abbrev pub conforming_to_bring_up : Station → Status → List ℕ → Bool
conforming_to_bring_up s st = conforming s [] false st.on (needed s st.entries)

-- its checker on a list of words, and on one of bytes: 1 to 8 as bring-up has them, then 19
unfoldable pub check_bring_up_words : List ℕ → List ℕ → List ℕ → Verdict
check_bring_up_words t b list = list_verdict (bring_up_stages true t b) (conforming_to_bring_up (station t) (status t b) list)

unfoldable pub check_bring_up_bytes : List ℕ → List ℕ → List ℕ → Verdict
check_bring_up_bytes t b list = list_verdict (bring_up_stages true t b) (of_bytes (conforming_to_bring_up (station t) (status t b)) list)
