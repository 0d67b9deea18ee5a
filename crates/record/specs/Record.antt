-- The device that a record says.
use Rattle.rules.specs.Station.{Device, device_at}
use Rattle.record.specs.declared.Record.{Record}

-- the device whose record it is
abbrev pub device_of : Record → Device
device_of r = device_at r.width r.bytes.now r.at
