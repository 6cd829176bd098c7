use Rattle.exact_values.proofs.Lowest.{same_from_value}
use Rattle.exact_values.proofs.laws.lowest_terms_are_unique.Goals as goal

pub returns : goal.returns
returns c = same_from_value
