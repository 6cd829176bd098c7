use Rattle.std.proofs.Common.{arith}
use Rattle.std.proofs.lemmas.Grind.{common_steps}
use Rattle.profiles_rps.proofs.ForCallers as rps
use Rattle.profiles_4bs.proofs.ForCallers as four_byte
use Rattle.profiles_vld.proofs.ForCallers as variable_length
use Rattle.teach_in.proofs.profiles.supported.Goals as goal

pub returns-in-246 : goal.returns-in-246
returns-in-246 c = grind (
  arith,
  common_steps,
  rps.by-rps-supported,
  four_byte.not-supported,
  variable_length.not-supported,
)

pub returns-in-213 : goal.returns-in-213
returns-in-213 c = grind (
  arith,
  common_steps,
  rps.by-1bs-supported,
  four_byte.not-supported,
  variable_length.not-supported,
)

pub returns-in-165 : goal.returns-in-165
returns-in-165 c = grind (
  arith,
  common_steps,
  four_byte.by-4bs-supported,
  rps.not-supported,
  variable_length.not-supported,
)

pub returns-in-210 : goal.returns-in-210
returns-in-210 c = grind (
  arith,
  common_steps,
  variable_length.by-vld-supported,
  rps.not-supported,
  four_byte.not-supported,
)

pub returns-in_default : goal.returns-in_default
returns-in_default c =
    grind (arith, common_steps, rps.not-supported, four_byte.not-supported, variable_length.not-supported)
