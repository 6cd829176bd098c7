-- The profiles that can be learned. Own choice: those of the three crates of profiles.
use Rattle.std.specs.Prelude.{Bool, ◌||◌}
use Rattle.erp1_telegrams.specs.declared.eep.Eep.{Eep}
use Rattle.profiles_rps.specs.Profiles as rps
use Rattle.profiles_4bs.specs.Profiles as four_byte
use Rattle.profiles_vld.specs.Profiles as variable_length

abbrev pub supported : Eep → Bool
supported eep = rps.supported eep || four_byte.supported eep || variable_length.supported eep
