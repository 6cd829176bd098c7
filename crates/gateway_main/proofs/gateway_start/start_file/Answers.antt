use Rattle.std.proofs.Common.{subst}
use Rattle.sqlite.specs.Files.{file_state}
use Rattle.device_registry.specs.Holding.{registry_state_of, uncounted}
use Rattle.device_registry.proofs.ForCallers.{found_in_files, found_in_new_file, held_in_files}
use Rattle.gateway_loop.specs.Headline.{IsNew}
use Rattle.gateway_main.proofs.StartLemmas.{rejected_is_foreign, was_clean_before_start}
use Rattle.gateway_main.proofs.gateway_start.start_file.Goals as goal

pub returns-in-Ok-start-clause-holds : goal.returns-in-Ok-start-clause-holds
returns-in-Ok-start-clause-holds g c devices held clean =
    let (found, opened, new, is_open) = c.in-Ok-start.ensures.begins clean in
    let finds = c.in-Ok.ensures.found (c.in-Ok-start.ensures.clean clean) in
    subst (λ d. IsNew (registry_state_of file_state uncounted) c.args.base d c.in-Ok-start.gateway)
    (found_in_files _ _ found devices finds opened held) new

pub returns-in-Ok-start-clause-empty : goal.returns-in-Ok-start-clause-empty
returns-in-Ok-start-clause-empty g c clean no_file =
    let (found, opened, new, is_open) = c.in-Ok-start.ensures.begins clean in
    let finds = c.in-Ok.ensures.found (c.in-Ok-start.ensures.clean clean) in
    subst (λ d. IsNew (registry_state_of file_state uncounted) c.args.base d c.in-Ok-start.gateway)
    (found_in_new_file _ _ found finds opened no_file) new

pub returns-in-Ok-start-clause-begins : goal.returns-in-Ok-start-clause-begins
returns-in-Ok-start-clause-begins g c clean =
    let (found, finds, new, is_open) = c.in-Ok-start.ensures.begins clean in (found, new, is_open)

pub returns-in-Err-start-clause-holds : goal.returns-in-Err-start-clause-holds
returns-in-Err-start-clause-holds g c devices held clean =
    let failed = c.in-Err-start.ensures.failed in
    let finds = c.in-Ok.ensures.found (was_clean_before_start _ _ c.in-Err-start.fault failed clean) in
    let found = held_in_files _ _ devices finds held in (
      λ is. rejected_is_foreign _ _ c.in-Err-start.fault failed is clean devices found,
      λ trees may. c.in-Err-start.ensures.kept clean
          (c.in-Ok.ensures.opened (was_clean_before_start _ _ c.in-Err-start.fault failed clean)).0.is_open devices
          found trees may,
    )
