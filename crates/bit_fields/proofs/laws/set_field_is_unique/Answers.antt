use Rattle.bit_fields.proofs.FieldLemmas.{field_set-unique}
use Rattle.bit_fields.proofs.laws.set_field_is_unique.Goals as goal

pub returns : goal.returns
returns c = field_set-unique
