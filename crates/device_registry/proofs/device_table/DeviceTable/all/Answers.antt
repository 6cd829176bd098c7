use Rattle.keyed_table.proofs.Common.{map, ap, ◌∙◌, IfOk-weaker}
use Rattle.device_registry.proofs.Common.{shown_device}
use Rattle.std.proofs.lemmas.Result.{IfOk-from_err}
use Rattle.device_registry.proofs.RegistryCalls.{reports, keeps_well, lists_all}
use Rattle.device_registry.proofs.device_table.DeviceTable.all.Goals as goal

pub invariant_of-self : goal.invariant_of-self
invariant_of-self g c = keeps_well c.list_devices.ensures.stays c.self.invariant

pub returns-in_err-rows-clause-lists : goal.returns-in_err-rows-clause-lists
returns-in_err-rows-clause-lists g c =
    rw (← c.self.view_is) (lists_all c.list_devices.ensures.stays c.self.invariant c.list_devices.ensures.counted _
    (λ clean devices has. IfOk-from_err _ _ c.from_residual.ensures.0))

pub invariant_of-self-2 : goal.invariant_of-self-2
invariant_of-self-2 g c = keeps_well c.list_devices.ensures.stays c.self.invariant

pub returns-clause-lists : goal.returns-clause-lists
returns-clause-lists g c =
    let stays = c.list_devices.ensures.stays in
    rw (← c.self.view_is) (lists_all stays c.self.invariant c.list_devices.ensures.counted c.decode_all.result
    (λ clean devices has. IfOk-weaker c.decode_all.result _ _ (λ all read. read
    ∙ ap (map shown_device) c.deref.ensures.value
    ∙ reports stays c.self.invariant c.in_ok-rows.ensures.all clean devices has) c.decode_all.ensures.listed))
