use Rattle.bit_fields.proofs.laws.set_field_is_read.Goals as goal

pub returns : goal.returns
returns c = λ bytes changed offset len value h. h.field_has_value
