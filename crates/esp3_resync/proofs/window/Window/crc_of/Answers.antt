use Rattle.std.proofs.Common.{◌+◌, ◌++◌, take, drop, arith, length-take, length-drop, append_assoc}
use Rattle.std.proofs.Math.Seq.{take-add}
use Rattle.std.proofs.lemmas.List.{get_or_default}
use Rattle.esp3_resync.proofs.window.Window.crc_of.Goals as goal

pub returns : goal.returns
returns c =
    let held = c.self.inside.bytes.items in
    let r = c.self.invariant in
    let from = c.args.from in
    let len = c.args.len in
    let part = take len (drop from held) in
    grind (
      arith,
      c.check8_between.ensures.part (r.dropped ++ take from held) part,
      r.crcs_are_running from,
      r.crcs_are_running (from + len),
      get_or_default,
      take-add from len held,
      append_assoc,
      length-take,
      length-drop,
    )
