use Rattle.std.proofs.Common.{rules}
use Rattle.keyed_table.proofs.Common.{refl}
use Rattle.device_registry.proofs.Common.{apply_update}
use Rattle.device_registry.proofs.VersionRow.{rewrite-crash_keeps_devices, rewrite-commits, rewrite-keeps_rows}
use Rattle.keyed_table.proofs.Statements.{failed_keeps_database}
use Rattle.device_registry.proofs.queries.rewrite_version.Goals as goal

pub returns : goal.returns
returns g c =
    let run = c.execute.ensures in
    record {
      runs = run.runs;
      renewed = λ clean. (rewrite-commits (λ devices. devices) _ _ _ c.requires (λ _ devices shows. refl) run.survives
          run.runs).made clean;
      crash = rewrite-crash_keeps_devices run.survives;
      rows = λ clean. rewrite-keeps_rows _ _ _ (run.runs clean);
      remains = search (rules, failed_keeps_database);
      counted = run.counted;
      turns = λ update same. rewrite-commits (λ devices. apply_update devices update) _ _ _ c.requires same run.survives
          run.runs;
    }
