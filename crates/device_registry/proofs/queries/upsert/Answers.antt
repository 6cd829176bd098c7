use Rattle.keyed_table.proofs.Common.{rules}
use Rattle.device_registry.proofs.Common.{device_data, upsert_sql, upsert_params}
use Rattle.keyed_table.proofs.Statements.{executed_ok}
use Rattle.device_registry.proofs.DevicesHeld.{upsert-commits}
use Rattle.device_registry.proofs.queries.upsert.Goals as goal

pub returns : goal.returns
returns g c =
    let row = device_data c.args.device in
    let run = rw c.upsert_params.ensures at c.execute.ensures in
    record {
      turns = λ update makes. upsert-commits update c.args.device.id row (search rules) (search rules) _ _ _
          c.requires.ready (λ clean devices shows. (c.requires.room clean devices shows, makes clean devices shows))
          run.survives run.runs;
      counted = run.counted;
      written = λ clean. executed_ok upsert_sql (upsert_params c.args.device.id row) _ _ _ (run.runs clean);
    }
