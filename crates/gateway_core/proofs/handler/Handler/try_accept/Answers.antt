use Rattle.std.proofs.Common.{Some, ap, ◌∙◌}
use Rattle.teach_in.specs.declared.outcome.Outcome.TheVariants.{Accepted}
use Rattle.gateway_core.specs.Handling.{HandlerValue}
use Rattle.gateway_core.specs.Step.{mode_set_by_learning, device_teach_line}
use Rattle.gateway_core.specs.private.Attempts.{state_of}
use Rattle.gateway_core.proofs.AttemptLemmas.{by_radio, teach_line-answer, attempts-learned, attempts-registry_full}
use Rattle.gateway_core.proofs.handler.Handler.try_accept.Goals as goal

pub returns-in_default : goal.returns-in_default
returns-in_default g c =
    let none =
    rw c.in_default.is at c.in_ok-verdict.ensures in
    attempts-registry_full g.S.DeviceStore.store_state _ _ c.args.device
    (by_radio c.args.teach.now c.args.device) _ none
    c.in_ok-full.ensures

pub returns : goal.returns
returns g c =
    let learned =
    rw c.in-Some.is at c.in_ok-verdict.ensures in
    attempts-learned g.S.DeviceStore.store_state _ _ c.args.device
    (by_radio c.args.teach.now c.args.device)
    _ _ learned
    (λ devices. (
      teach_line-answer (state_of c.learn.new.self devices) c.args.teach.now
          (device_teach_line c.args.device Accepted) _ _
          _
          learned.reported.1
          learned.reported.2
          c.reply_with_teach_line.ensures,
      ap Some c.for_device-disposition.ensures,
      c.mode_set_by_learning.ensures ∙ ap (λ
          (handler : HandlerValue _). mode_set_by_learning handler.mode) c.self.view_is,
    ))
