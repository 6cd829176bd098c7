use Rattle.std.proofs.Common.{◌≡◌, map, take}
use Rattle.json_lines.specs.Lines.{DeviceLine, texts}
use Rattle.json_lines.proofs.devices.device_lines.Given as goal

abbrev pub invariant-loop-device : goal.invariant-loop-device
invariant-loop-device l = l.lines ≡ texts (map DeviceLine (take l.device-index l.devices))
