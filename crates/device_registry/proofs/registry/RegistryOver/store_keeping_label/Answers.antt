use Rattle.keyed_table.proofs.Common.{Ok, Err, refl}
use Rattle.device_registry.proofs.Common.{Learn}
use Rattle.device_registry.proofs.RegistryCalls.{err_is, updates_then, learns_then, stored_now, makes_known, learns}
use Rattle.device_registry.proofs.RegistryCalls.{unlearned, room_after}
use Rattle.device_registry.proofs.registry.RegistryOver.store_keeping_label.Goals as goal

pub returns-in_err-known-clause-learns : goal.returns-in_err-known-clause-learns
returns-in_err-known-clause-learns g c =
    rw (err_is _ c.from_residual.ensures.1) (unlearned c.args.device c.in_err-known.ensures.looks_up)

-- ---- the sender is known

pub store_known-requires-clause-ready : goal.store_known-requires-clause-ready
store_known-requires-clause-ready g c clean = (c.in_ok-known.ensures.ready clean).1

pub store_known-requires-clause-known : goal.store_known-requires-clause-known
store_known-requires-clause-known g c = (
  Learn c.args.device.eep c.args.device.maker,
  makes_known c.in_ok-known.ensures.looks_up c.in_ok-known.ensures.ready c.in-Some.is (Learn _ _) refl refl,
)

pub returns-in_err-store_known-in-Some-clause-learns : goal.returns-in_err-store_known-in-Some-clause-learns
returns-in_err-store_known-in-Some-clause-learns g c =
    let known = c.in_ok-known.ensures in
    let learn = Learn c.args.device.eep c.args.device.maker in
    let makes = makes_known known.looks_up known.ready c.in-Some.is learn refl refl in
    let stored = c.in_err-store_known-in-Some.ensures.updates learn makes in
    rw (err_is _ c.from_residual-in_err-store_known-in-Some.ensures.1)
    (learns c.args.device (λ fault. fault) (Err _) (updates_then known.looks_up (Err _) stored)
    (λ clean. room_after known.looks_up known.ready _ learn makes (stored.clean clean)))

pub returns-in_ok-store_known-in-Some : goal.returns-in_ok-store_known-in-Some
returns-in_ok-store_known-in-Some g c =
    let known = c.in_ok-known.ensures in
    let learn = Learn c.args.device.eep c.args.device.maker in
    let makes = makes_known known.looks_up known.ready c.in-Some.is learn refl refl in
    let done = c.in_ok-store_known-in-Some.ensures in
    let stored = done.updates learn makes in
    record {
      learns = learns c.args.device (λ fault. fault) (Ok _) (updates_then known.looks_up (Ok _) stored)
          (λ clean. room_after known.looks_up known.ready _ learn makes (stored.clean clean));
      written = λ clean devices has. done.written learn makes clean devices
          (known.looks_up.devices (stored.clean clean) devices has).1.now;
    }

-- ---- the sender is unknown

pub store_new_unless_full-requires-clause-ready : goal.store_new_unless_full-requires-clause-ready
store_new_unless_full-requires-clause-ready g c clean = (c.in_ok-known.ensures.ready clean).1

pub store_new_unless_full-requires-clause-learned : goal.store_new_unless_full-requires-clause-learned
store_new_unless_full-requires-clause-learned g c clean devices has = rw (
  stored_now c.in_ok-known.ensures.looks_up
      c.in_ok-known.ensures.ready c.in-None.is clean devices has,
  c.requires,
) refl

pub returns-in-None : goal.returns-in-None
returns-in-None g c =
    let looks = c.in_ok-known.ensures.looks_up in
    let stored = c.store_new_unless_full.ensures in
    record {
      learns = learns_then looks _ stored.learns;
      written = λ clean devices has. stored.written clean devices
          (looks.devices (stored.learns.clean clean) devices has).1.now;
    }
