use Rattle.std.proofs.Common.{◌≡◌, ◌-◌, ◌++◌, length, take, arith, length-drop}
use Rattle.esp3_resync.proofs.RunningCrcLemmas.{running_crcs-drop}
use Rattle.esp3_resync.proofs.window.Window.skip.Goals as goal

pub invariant_of-self : goal.invariant_of-self
invariant_of-self c =
    let held = c.self.inside.bytes.items in
    let r = c.self.invariant in
    let count : length held - (c.len.result - c.args.count) ≡ c.args.count = grind arith in
    rw (c.truncate_front.ensures, count) (record {
      has_capacity = r.has_capacity;
      within = grind (arith, length-drop);
      enough_slots = grind (arith, length-drop);
      dropped = r.dropped ++ take c.args.count held;
      crcs_are_running =
          running_crcs-drop r.dropped held c.self.inside.crcs.items c.self.inside.start c.args.count (grind arith)
          r.crcs_are_running;
    })
