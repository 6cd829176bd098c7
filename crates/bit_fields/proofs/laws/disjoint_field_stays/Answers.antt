use Rattle.bit_fields.proofs.FieldLemmas.{disjoint_field-stays}
use Rattle.bit_fields.proofs.laws.disjoint_field_stays.Goals as goal

pub returns : goal.returns
returns c = disjoint_field-stays
