-- A device by value beside the device of a station, and its bytes.
use Rattle.std.specs.Prelude.{ℕ, ◌+◌, List, [], ◌∷◌, ◌++◌, get_or}
use Rattle.words.specs.Words.{bytes_le}
use Rattle.rules.specs.Index.{each, join}
use Rattle.rules.specs.Station as station
use Rattle.record.specs.declared.device.Device.{Device}

-- a station's device as a value
unfoldable pub device_value : station.Device → Device
device_value v =
    record {
      parent = v.parent;
      ps = v.ps;
      pr = v.pr;
      flags = v.flags;
      sets = each v.sets 5;
      sxd = each (λ k. v.sxd (k + 1)) 4;
      sxw = each v.sxw 5;
      deepest = v.deepest;
    }

-- five sets as bytes, w each
unfoldable pub sets_bytes : ℕ → List ℕ → List ℕ
sets_bytes w sets = join (λ k. bytes_le w (get_or sets k 0)) 5

-- the fields of a value as bytes
unfoldable pub value_bytes : ℕ → Device → List ℕ
value_bytes w v = (v.parent ∷ v.ps ∷ v.pr ∷ v.flags ∷ []) ++ sets_bytes w v.sets ++ v.sxd ++ v.sxw ++ v.deepest ∷ []
