use Rattle.std.proofs.Math.Logic.{∥∥₁_map}
use Rattle.gateway_main.proofs.restart.start_after_crash.Goals as goal

pub returns : goal.returns
returns g c clean start inputs results are_prefixes may =
    ∥∥₁_map (rw c.into_store.ensures at (c.crashed_files_hold_devices-files.ensures clean) _ may)
    (λ held. (held.0, are_prefixes held.0 held.1, c.start_file-started.ensures.holds held.0 held.2))
