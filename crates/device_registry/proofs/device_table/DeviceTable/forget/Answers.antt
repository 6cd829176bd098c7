use Rattle.keyed_table.proofs.Common.{◌∙◌, ap, is_some}
use Rattle.device_registry.proofs.Common.{forget_update}
use Rattle.device_registry.proofs.OpenCalls.{run-rewrites}
use Rattle.device_registry.proofs.RegistryCalls.{err_is, turned_well, updates, made_ready}
use Rattle.learned_devices.proofs.ForCallers.{one_more_commit}
use Rattle.device_registry.proofs.device_table.DeviceTable.forget.Goals as goal

pub delete_or_rewrite_if_absent-requires-clause-ready : goal.delete_or_rewrite_if_absent-requires-clause-ready
delete_or_rewrite_if_absent-requires-clause-ready g c = rw (← c.self.view_is) at c.requires.ready

pub invariant_of-self : goal.invariant_of-self
invariant_of-self g c = turned_well (forget_update c.args.id) c.self.invariant
    (rw (← c.self.view_is) at c.requires.ready) _ c.delete_or_rewrite_if_absent.ensures.turns

pub returns-in_err-delete_or_rewrite_if_absent-clause-forgets :
    goal.returns-in_err-delete_or_rewrite_if_absent-clause-forgets
returns-in_err-delete_or_rewrite_if_absent-clause-forgets g c =
    rw (← c.self.view_is, err_is _ c.from_residual.ensures.1) (updates (forget_update c.args.id)
    c.self.invariant (rw (← c.self.view_is) at c.requires.ready)
    (one_more_commit c.delete_or_rewrite_if_absent.ensures.counted) _
    c.in_err-delete_or_rewrite_if_absent.ensures.turns
    (g.met.C.SqlConnection.settled c.delete_or_rewrite_if_absent.new.conn))

pub invariant_of-self-2 : goal.invariant_of-self-2
invariant_of-self-2 g c = turned_well (forget_update c.args.id) c.self.invariant
    (rw (← c.self.view_is) at c.requires.ready) _ c.delete_or_rewrite_if_absent.ensures.turns

pub returns : goal.returns
returns g c =
    let done = c.in_ok-delete_or_rewrite_if_absent in
    let turns = done.ensures.turns in
    let ready = rw (← c.self.view_is) at c.requires.ready in
    let update = forget_update c.args.id in
    rw (← c.self.view_is) (record {
      forgets = updates update c.self.invariant ready
          (one_more_commit c.delete_or_rewrite_if_absent.ensures.counted) _ turns
          (g.met.C.SqlConnection.settled c.delete_or_rewrite_if_absent.new.conn);
      written = λ clean devices has none.
          let early = turns.clean clean in
          run-rewrites _ _ done.field-0 (ready early) (done.ensures.written clean
          ((rw (← c.self.view_is) at c.requires.known) early devices has ∙ ap is_some none));
      ready = made_ready update c.self.invariant ready turns;
    })
