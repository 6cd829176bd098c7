use Rattle.std.proofs.Common.{rules}
use Rattle.exact_values.proofs.fraction.over.Goals as goal

pub returns-clause-exact : goal.returns-clause-exact
returns-clause-exact c = search rules

pub returns-clause-in_lowest_terms : goal.returns-clause-in_lowest_terms
returns-clause-in_lowest_terms c = search rules

pub returns-clause-value : goal.returns-clause-value
returns-clause-value c = search rules
