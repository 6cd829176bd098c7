use Rattle.std.proofs.lemmas.Grind.{common_steps}
use Rattle.std.proofs.Common.{arith}
use Rattle.profile_rows.specs.Rows.{rows_entries}
use Rattle.profiles_rps.specs.Profiles.{one_bs_profile, rows_of}
use Rattle.profiles_rps.proofs.ReadLemmas.{of-found, of-not-found}
use Rattle.profiles_rps.proofs.one_bs.read_byte.Goals as goal

pub returns-then-read_if_supported-clause-exact : goal.returns-then-read_if_supported-clause-exact
returns-then-read_if_supported-clause-exact c status = grind (arith, common_steps, of-found)

pub returns-else-read_if_supported-clause-exact : goal.returns-else-read_if_supported-clause-exact
returns-else-read_if_supported-clause-exact c status =
    of-not-found c.read_if_supported.new.readings.items (rows_entries status) c.args.bytes.now
    (rows_of (one_bs_profile c.args.func c.args.typ)) (c.if-read_if_supported.ensures.exact status)
