-- What the stages before consistency have shown of a table and of the bytes that start with the device part; and consistency of a status
-- as the code asks for it.
use Rattle.std.specs.Prelude.{ℕ, ◌≤◌, ◌<◌, ◌≡◌, Bool, true, not, ◌&&◌, List, length, Option, Some, None}
use Rattle.rules.specs.declared.Entry.{Entry}
use Rattle.rules.specs.Verdict.{Verdict}
use Rattle.rules.specs.Verdict.{refuse}
use Rattle.rules.specs.declared.Reason.TheVariants.{Inconsistent}
use Rattle.rules.specs.Answers.{lowest}
use Rattle.rules.specs.Station.{Station, width, limit, count_d, station}
use Rattle.rules.specs.Table.{parent_good}
use Rattle.rules.specs.Status.{Status, entries_size, entries, entries_good, consistent_but_power, powered}
use Rattle.rules.specs.Request.{replace_entry}
use Rattle.table.specs.Layout.{WellSized}

pub record Ready (t b : List ℕ) : Type 0 where
  pub sized : WellSized t
  pub parents : (d : ℕ) → d < count_d t → parent_good d ((station t).device d) ≡ true
  pub long : entries_size (width t) ≤ length b
  pub good : entries_good (limit (width t)) (station t) (entries t b) ≡ true

-- the status of these bytes with an on-set
abbrev pub status_with : List ℕ → List ℕ → ℕ → Status
status_with t b on = record { entries = entries t b; on = on }

-- whether device d is consistent with a set of resources on: by rules 1 to 4 of RULES.md 4.3; by 1 to 3, if no set is given
unfoldable pub consistent_with : Option ℕ → Station → (ℕ → Entry) → ℕ → Bool
consistent_with (Some on) s f d = consistent_but_power s f d && powered s (record { entries = f; on = on }) d
consistent_with None s f d = consistent_but_power s f d

-- 8 with the lowest device that is not, or done
unfoldable pub consistency_verdict_with : Option ℕ → Station → (ℕ → Entry) → Verdict
consistency_verdict_with on s f = lowest (λ d. not (consistent_with on s f d)) s.devices (refuse Inconsistent)

-- the status of these bytes with another entry for device d and an on-set
abbrev pub entry_with : List ℕ → List ℕ → ℕ → Entry → ℕ → Status
entry_with t b d e on = record { entries = replace_entry (entries t b) d e; on = on }
