use Rattle.std.proofs.Common.{Ok, ap, subst, ◌∙◌}
use Rattle.learned_devices.specs.StoreCalls.{Relabels}
use Rattle.learned_devices.proofs.ForCallers.{relabel_adds_one}
use Rattle.gateway_core.proofs.AttemptLemmas.{label-applies_or_fails, label-failed, attempts-called}
use Rattle.gateway_core.proofs.handler.Handler.try_label.Goals as goal
use Rattle.gateway_core.proofs.handler.Handler.try_label.Goals.{in-Ok-true, in-Ok-false, in-Err}

pub returns : goal.returns
returns g c =
    let stored = g.S.DeviceStore.store_state in
    let old = c.self.inside.registry in
    let new = c.relabel.new.self in
    let relabels = c.relabel.ensures.relabels in
    let Was = Relabels (stored old) (stored new) c.args.id c.args.label in
    rw (← c.self.view_is) (attempts-called stored _ _ _ _ relabels.clean relabels.reopenable
    (λ honest. relabel_adds_one c.relabel.result (relabels.commits honest))
    (λ honest devices has.
    elim c.match-relabel.branch [
      | in-Ok-true w ↦
          let is = w.in-Ok-true.is ∙ ap Ok w.in-Ok-true.field-0-test in
          let was = (subst Was is relabels).devices honest devices has in
          rw w.result-is (label-applies_or_fails stored old new devices c.args.id c.args.label _ w.relabel_effect.result
          was.0
          (w.relabel_effect.ensures c.args.id c.args.label, was.1))
      | in-Ok-false w ↦
          let is = w.in-Ok-false.is ∙ ap Ok w.in-Ok-false.field-0-test in
          let was = (subst Was is relabels).devices honest devices has in
          rw w.result-is (label-applies_or_fails stored old new devices c.args.id c.args.label _ w.error_effect.result
          was.0
          (w.error_effect.ensures, was.1))
      | in-Err w ↦
          let was = (subst Was w.in-Err.is relabels).devices honest devices has in
          rw w.result-is (label-failed stored old new devices c.args.id c.args.label _ was)
    ]))
