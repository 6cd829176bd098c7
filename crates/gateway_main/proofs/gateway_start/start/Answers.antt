use Rattle.std.proofs.Common.{inl, inr, refl}
use Rattle.learned_devices.specs.Faults.{out_of_memory}
use Rattle.device_registry.specs.declared.fault.OpenFault.TheVariants.{Failed}
use Rattle.gateway_main.specs.declared.fault.Fault.TheVariants.{Database}
use Rattle.gateway_main.proofs.StartLemmas.{new_gateway_is_idle, failed_start_keeps_devices, new_gateway, starts}
use Rattle.gateway_main.proofs.gateway_start.start.Goals as goal

pub returns-in-Err-clause-kept : goal.returns-in-Err-clause-kept
returns-in-Err-clause-kept g c =
    failed_start_keeps_devices _ _ (Database c.in-Err.why) (g.met.C.SqlConnection.settled c.args.conn)
    (inl c.in-Err.ensures.failed)

pub returns-in-Ok-with_base_id-clause-begins : goal.returns-in-Ok-with_base_id-clause-begins
returns-in-Ok-with_base_id-clause-begins g c =
    new_gateway g.C.SqlConnection.state g.C.SqlConnection.commits c.args.conn c.in-Ok.registry c.args.base
    c.in-Ok-with_base_id.gateway c.in-Ok-with_base_id.ensures.new c.in-Ok.ensures.opened

pub returns-in-Ok-with_base_id-clause-idle : goal.returns-in-Ok-with_base_id-clause-idle
returns-in-Ok-with_base_id-clause-idle g c =
    new_gateway_is_idle c.args.base c.in-Ok.registry c.in-Ok-with_base_id.gateway c.in-Ok-with_base_id.ensures.new

pub returns-in-Ok-with_base_id-clause-starts : goal.returns-in-Ok-with_base_id-clause-starts
returns-in-Ok-with_base_id-clause-starts g c =
    starts g.C.SqlConnection.state g.C.SqlConnection.commits c.args.conn c.in-Ok.registry c.args.base
    c.in-Ok-with_base_id.gateway c.in-Ok-with_base_id.ensures.new c.in-Ok.ensures.opened

pub returns-in-Err-with_base_id-clause-kept : goal.returns-in-Err-with_base_id-clause-kept
returns-in-Err-with_base_id-clause-kept g c = rw (c.close.ensures.same, c.in-Err-with_base_id.ensures.returned)
    (failed_start_keeps_devices _ _ (Database (Failed out_of_memory)) (g.met.C.SqlConnection.settled c.args.conn)
    (inr (refl, λ clean. (c.in-Ok.ensures.clean clean, c.in-Ok.ensures.opened clean))))
