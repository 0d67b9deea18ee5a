-- The state as code holds it, the device part beside the on-set, against the image's bytes and the status that they say. Version 1 has 128
-- bytes and 32 bits, version 2 has 256 bytes and 64 bits; here both are one thing, and the width w tells them apart.
use Rattle.std.specs.Prelude.{ℕ, ◌*◌, List, ◌++◌, take, replicate}
use Rattle.std.proofs.lemmas.List.Edits.{sets}
use Rattle.sets.specs.Sets.{first_n}
use Rattle.words.specs.Words.{read_le, bytes_le}
use Rattle.status.specs.declared.state.State.{State}
use Rattle.rules.specs.declared.Entry.{Entry}
use Rattle.rules.specs.Status.{Status, entry_bytes, entries_size, entries_of}

-- a state by value, of either version
pub record Held : Type 0 where
  pub devices : List ℕ
  pub on : ℕ

-- that of a state, whose on-set is a number of its version's type
abbrev pub held : {S : Type 0} {N : ℕ} → (S → ℕ) → State S N → Held
held number st = record { devices = st.devices; on = number st.on }

-- the state that the bytes of an image hold
unfoldable pub loaded : ℕ → List ℕ → Held
loaded w b = record { devices = take (entries_size w) b; on = read_le w b (entries_size w) }

-- the image that a state is written as
unfoldable pub stored : ℕ → Held → List ℕ
stored w h = h.devices ++ bytes_le w h.on

-- what a state says of the devices and resources
unfoldable pub status_in : ℕ → Held → Status
status_in w h = record { entries = entries_of w h.devices; on = h.on }

-- every device in D0, none armed, the first n resources on
unfoldable pub fresh_held : ℕ → ℕ → Held
fresh_held w n = record { devices = replicate (entries_size w) 0; on = first_n n }

-- the state with another entry for device d and another on-set
unfoldable pub changed : Held → ℕ → Entry → ℕ → Held
changed h d e on = record { devices = sets h.devices (4 * d) (entry_bytes e); on = on }
