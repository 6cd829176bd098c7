use Rattle.std.proofs.Common.{◌∷◌, [], refl}
use Rattle.bit_fields.specs.Bits.{field, number, bits, byte_bits}
use Rattle.profile_rows.specs.Rows.{rows_entries}
use Rattle.profiles_rps.specs.Profiles.{one_bs_profile, rows_of}
use Rattle.profiles_rps.proofs.ReadLemmas.{found-if-some}
use Rattle.profiles_rps.proofs.one_bs.supports_1bs.Goals as goal

pub read_if_supported-requires : goal.read_if_supported-requires
unfolding field number bits byte_bits
read_if_supported-requires c = refl

pub returns : goal.returns
returns c =
    found-if-some c.read_if_supported.result c.read_if_supported.new.readings.items (rows_entries 0 (0x08 ∷ []))
    (rows_of (one_bs_profile c.args.func c.args.typ)) (c.read_if_supported.ensures.exact 0)
