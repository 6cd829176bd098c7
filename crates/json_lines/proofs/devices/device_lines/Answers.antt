use Rattle.std.proofs.Common.{rules, ◌≡◌, ℕ, ◌+◌, ◌<◌, List, ◌++◌, length, map, take, append-nil, refl, arith, suc}
use Rattle.std.proofs.Common.{ap₂, ◌∙◌}
use Rattle.std.proofs.Math.Seq.{take-suc}
use Rattle.std.proofs.Math.ListN.{get_or}
use Rattle.std.proofs.lemmas.List.{map-append}
use Rattle.std.specs.List.{flat_map}
use Rattle.std.proofs.lemmas.List.Concat.{flat_map-append}
use Rattle.json_lines.specs.Lines.{DeviceLine, text}
use Rattle.json_lines.proofs.devices.device_lines.Goals as goal

-- the texts of this many devices, and that of the next
with-next : {X Y : Type 0} (line : X → Y) (piece : Y → List ℕ) (items : List X) (i : ℕ) (item : X) → i < length items
    → item ≡ get_or items i item
    → flat_map piece (map line (take i items)) ++ piece (line item) ≡ flat_map piece (map line (take (i + 1) items))
with-next line piece items i item within is =
    let next : i + 1 ≡ suc i = search arith in
    rw (next, take-suc items i item within, map-append, flat_map-append, ← is, append-nil) refl

pub loop-device-preserved : goal.loop-device-preserved
loop-device-preserved c =
    let line : c.in_ok-device_line.field-0 ≡ text (DeviceLine c.device-item.result) = c.in_ok-device_line.ensures in
    let added : c.append.new.self ≡ c.loop-device.lines ++ c.in_ok-device_line.field-0 = search rules in
    added ∙ ap₂ (λ (reported next : List ℕ). reported ++ next) c.loop-device.invariant line
    ∙ with-next DeviceLine text c.args.devices.now c.loop-device.device-index c.device-item.result (search arith)
    c.device-item.is
