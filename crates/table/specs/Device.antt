-- What a device record stands for.
use Rattle.std.specs.Prelude.{ℕ, List}
use Rattle.rules.specs.Station.{Station, Device, station}
use Rattle.table.specs.declared.fields.DeviceRecord.{DeviceRecord}

-- its table
abbrev pub table_in : DeviceRecord → List ℕ
table_in z = z.record.bytes.now

-- the station of that table
abbrev pub station_in : DeviceRecord → Station
station_in z = station (table_in z)

-- the device of its number there
abbrev pub device_in : DeviceRecord → Device
device_in z = (station_in z).device z.number
