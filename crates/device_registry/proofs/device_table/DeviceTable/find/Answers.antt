use Rattle.device_registry.proofs.Common.{device_of}
use Rattle.device_registry.proofs.RegistryCalls.{err_is, reports, keeps_well, looks_up}
use Rattle.device_registry.proofs.device_table.DeviceTable.find.Goals as goal

pub invariant_of-self : goal.invariant_of-self
invariant_of-self g c = keeps_well c.look_up.ensures.stays c.self.invariant

pub returns-in_err-rows-clause-looks_up : goal.returns-in_err-rows-clause-looks_up
returns-in_err-rows-clause-looks_up g c =
    rw (← c.self.view_is, err_is _ c.from_residual.ensures.1) (looks_up c.look_up.ensures.stays c.self.invariant
    c.look_up.ensures.counted _ (λ clean devices has. tt))

pub invariant_of-self-2 : goal.invariant_of-self-2
invariant_of-self-2 g c = keeps_well c.look_up.ensures.stays c.self.invariant

pub returns-clause-looks_up : goal.returns-clause-looks_up
returns-clause-looks_up g c =
    let stays = c.look_up.ensures.stays in
    rw (← c.self.view_is) (looks_up stays c.self.invariant c.look_up.ensures.counted c.decode_found.result
    (λ clean devices has. (rw c.deref.ensures.value at c.decode_found.ensures.found) (device_of devices c.args.id)
    (reports stays c.self.invariant c.in_ok-rows.ensures.found clean devices has)))
