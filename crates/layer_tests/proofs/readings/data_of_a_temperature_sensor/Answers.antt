use Rattle.std.proofs.Common.{◌≡◌, true, refl, subst, sym}
use Rattle.bit_fields.specs.Bits.{field, number, bits, byte_bits}
use Rattle.profile_rows.specs.Payload.{is_data}
use Rattle.layer_tests.proofs.readings.data_of_a_temperature_sensor.Goals as goal

pub read_4bs_data-result-requires : goal.read_4bs_data-result-requires
unfolding field number bits byte_bits
read_4bs_data-result-requires g c =
    subst (λ t. is_data t.rorg t.payload ≡ true) (sym c.in_ok-telegram.ensures.ok) refl
