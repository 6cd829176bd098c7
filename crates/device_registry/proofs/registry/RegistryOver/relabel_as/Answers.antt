use Rattle.std.proofs.Common.{rules}
use Rattle.keyed_table.proofs.Common.{refl, Bool, true, MatchBool, ◌≡◌}
use Rattle.learned_devices.specs.Devices.{Relabel}
use Rattle.device_registry.proofs.RegistryCalls.{MatchBool-from_both, err_is, is_known, makes_known, pending-from_kept}
use Rattle.device_registry.proofs.RegistryCalls.{updates_then}
use Rattle.learned_devices.proofs.ForCallers.{no_more_commits}
use Rattle.device_registry.proofs.registry.RegistryOver.relabel_as.Goals as goal

pub returns-in_err-known-clause-relabels : goal.returns-in_err-known-clause-relabels
returns-in_err-known-clause-relabels g c =
    let looks = c.in_err-known.ensures.looks_up in
    rw (err_is _ c.from_residual.ensures.1)
    (search (rules, looks.commits, looks.devices, no_more_commits, MatchBool-from_both, pending-from_kept))

pub store_known-requires-clause-ready : goal.store_known-requires-clause-ready
store_known-requires-clause-ready g c clean = (c.in_ok-known.ensures.ready clean).1

pub store_known-requires-clause-known : goal.store_known-requires-clause-known
store_known-requires-clause-known g c = (
  Relabel c.args.label,
  makes_known c.in_ok-known.ensures.looks_up
      c.in_ok-known.ensures.ready c.in-Some.is (Relabel c.args.label) refl refl,
)

MatchBool-at : (A B : Type 0) (b : Bool) → true ≡ b → A → MatchBool b A B
MatchBool-at A B b is a = rw (← is) a

pub returns-in_err-store_known-in-Some-clause-relabels : goal.returns-in_err-store_known-in-Some-clause-relabels
returns-in_err-store_known-in-Some-clause-relabels g c =
    let known = c.in_ok-known.ensures in
    let stored = c.in_err-store_known-in-Some.ensures.updates (Relabel c.args.label)
    (makes_known known.looks_up known.ready c.in-Some.is (Relabel c.args.label) refl refl) in
    let updates = updates_then known.looks_up _ stored in
    rw (err_is _ c.from_residual-in_err-store_known-in-Some.ensures.1)
    (search (rules, updates, updates.devices, stored.clean, is_known known.looks_up c.in-Some.is, MatchBool-at))

pub returns-in_ok-store_known-in-Some : goal.returns-in_ok-store_known-in-Some
returns-in_ok-store_known-in-Some g c =
    let known = c.in_ok-known.ensures in
    let makes = makes_known known.looks_up known.ready c.in-Some.is (Relabel c.args.label) refl refl in
    let done = c.in_ok-store_known-in-Some.ensures in
    let stored = done.updates (Relabel c.args.label) makes in
    let updates = updates_then known.looks_up _ stored in
    record {
      relabels = search (rules, updates, updates.devices, stored.clean, is_known known.looks_up c.in-Some.is);
      written = λ clean devices has _. done.written (Relabel c.args.label) makes clean devices
          (known.looks_up.devices (stored.clean clean) devices has).1.now;
    }

pub returns-in-None-clause-relabels : goal.returns-in-None-clause-relabels
returns-in-None-clause-relabels g c =
    let looks = c.in_ok-known.ensures.looks_up in
    record {
      clean = looks.clean;
      reopenable = looks.reopenable;
      commits = λ clean. no_more_commits 0 (looks.commits clean);
      devices = λ clean devices has.
          (is_known looks c.in-None.is clean devices has, (looks.devices clean devices has).1);
    }
