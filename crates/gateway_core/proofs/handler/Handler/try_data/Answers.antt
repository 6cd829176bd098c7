use Rattle.std.proofs.lemmas.Grind.{common_steps}
use Rattle.std.proofs.Common.{arith}
use Rattle.std.proofs.Common.{refl, sym, ap, ◌∙◌}
use Rattle.std.proofs.lemmas.Result.{err_from_is_err_and}
use Rattle.learned_devices.specs.Devices.{device_of}
use Rattle.gateway_core.specs.Profiles.{read_by}
use Rattle.gateway_core.specs.Step.{case_effect, data_case, reading_effect}
use Rattle.gateway_core.proofs.AttemptLemmas.{known_with, MayFailFor-store, attempts-looked_up, attempts-after_look_up}
use Rattle.gateway_core.proofs.AttemptLemmas.{data-need, reading-unchanging, applies-unchanged}
use Rattle.gateway_core.proofs.TelegramLemmas.{plain-is_data}
use Rattle.gateway_core.proofs.handler.Handler.try_data.Goals as goal

pub reading-requires : goal.reading-requires
reading-requires g c = plain-is_data c.args.telegram.now (sym c.requires.role ∙ c.requires.data)

pub returns-in_err-device : goal.returns-in_err-device
returns-in_err-device g c =
    grind (arith, common_steps, attempts-looked_up, data-need, err_from_is_err_and, known_with, MayFailFor-store)

pub returns-in_default : goal.returns-in_default
returns-in_default g c =
    rw (← c.self.view_is) (attempts-after_look_up g.S.DeviceStore.store_state _ _ _ c.find.new.self _ _ _ _ _ refl
    c.in_ok-device.ensures
    (λ devices is.
    let known = sym c.in_default.is ∙ is ∙ ap (device_of devices) c.sender.ensures in
    let now = known_with c.self.inside.base c.self.inside.mode c.self.inside.counts devices in
    ap (λ k. case_effect now c.args.telegram.now (data_case k)) (sym known))
    c.try_plan.ensures)

pub returns-in_err-done : goal.returns-in_err-done
returns-in_err-done g c =
    grind (arith, common_steps, attempts-looked_up, data-need, err_from_is_err_and, known_with, MayFailFor-store)

pub returns : goal.returns
returns g c =
    rw (← c.self.view_is)
    (attempts-looked_up g.S.DeviceStore.store_state _ _ _ _ _ _ c.in_ok-device.ensures
    (λ devices found.
    let readings = read_by c.in-Some.device.eep c.args.telegram.now in
    let known = sym c.in-Some.is ∙ found.0 ∙ ap (device_of devices) c.sender.ensures in
    rw (← known)
    (applies-unchanged g.S.DeviceStore.store_state c.self.inside.registry c.find.new.self devices
    (reading_effect c.args.telegram.now c.in-Some.device readings) c.in_ok-done.done
    (reading-unchanging c.args.telegram.now c.in-Some.device readings) c.in_ok-done.ensures found.1)))
