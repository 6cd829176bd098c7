use Rattle.device_registry.proofs.Common.{device_data}
use Rattle.device_registry.proofs.DevicesHeld.{room_for_known}
use Rattle.device_registry.proofs.RegistryCalls.{makes_update, turned_well, updates, made_ready, err_is}
use Rattle.learned_devices.proofs.ForCallers.{one_more_commit}
use Rattle.device_registry.proofs.device_table.DeviceTable.put_known.Goals as goal

pub upsert-requires : goal.upsert-requires
upsert-requires g c =
    let known = rw (← c.self.view_is) at c.requires.known in
    record { ready = rw (← c.self.view_is) at c.requires.ready; room = room_for_known c.args.device known.0 known.1 }

pub invariant_of-self : goal.invariant_of-self
invariant_of-self g c = turned_well _ c.self.invariant (rw (← c.self.view_is) at c.requires.ready) _
    (makes_update c.args.device c.upsert.ensures.turns _ (rw (← c.self.view_is) at c.requires.known).1)

pub returns-in_err-upsert-clause-updates : goal.returns-in_err-upsert-clause-updates
returns-in_err-upsert-clause-updates g c = rw (← c.self.view_is, err_is _ c.from_residual.ensures.1)
    (λ operation makes. updates _ c.self.invariant (rw (← c.self.view_is) at c.requires.ready)
    (one_more_commit c.upsert.ensures.counted) _
    (makes_update c.args.device c.in_err-upsert.ensures.turns operation makes)
    (g.met.C.SqlConnection.settled c.upsert.new.conn))

pub invariant_of-self-2 : goal.invariant_of-self-2
invariant_of-self-2 g c = turned_well _ c.self.invariant (rw (← c.self.view_is) at c.requires.ready) _
    (makes_update c.args.device c.upsert.ensures.turns _ (rw (← c.self.view_is) at c.requires.known).1)

pub returns : goal.returns
returns g c =
    let ready = rw (← c.self.view_is) at c.requires.ready in
    let known = rw (← c.self.view_is) at c.requires.known in
    let turns = makes_update c.args.device c.in_ok-upsert.ensures.turns in
    rw (← c.self.view_is) (record {
      updates = λ operation makes. updates _ c.self.invariant ready
          (one_more_commit c.upsert.ensures.counted) _ (turns operation makes)
          (g.met.C.SqlConnection.settled c.upsert.new.conn);
      written = λ operation makes clean devices has. record {
        row = device_data c.args.device;
        is = (makes ((turns operation makes).clean clean) devices has).1;
        before = c.self.inside.conn;
        had = has;
        count = c.in_ok-upsert.field-0;
        executed = c.in_ok-upsert.ensures.written clean;
      };
      ready = made_ready _ c.self.invariant ready (turns known.0 known.1);
    })
