use Rattle.std.proofs.Common.{take}
use Rattle.serde.specs.Event.{WritesEach}
use Rattle.serde_json.specs.Events.{SendsValue}
use Rattle.profile_rows.specs.Reading.{entry_of}
use Rattle.json_lines.specs.private.LineData.{entry_data}
use Rattle.json_lines.proofs.reading.put_readings.Given as goal

-- the readings so far are sent, in their order
abbrev pub invariant-loop-reading : goal.invariant-loop-reading
invariant-loop-reading g l =
    WritesEach (λ reading. SendsValue (entry_data (entry_of reading))) (take l.reading-index l.readings)
    (g.S.Serializer.written l.initial.out) (g.S.Serializer.written l.out)
