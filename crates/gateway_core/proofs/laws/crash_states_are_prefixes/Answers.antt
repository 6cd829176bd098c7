use Rattle.gateway_core.proofs.PrefixLemmas.{crash_states_are_prefixes, acknowledged_are_in_prefix}
use Rattle.gateway_core.proofs.laws.crash_states_are_prefixes.Goals as goal

pub returns-clause-safe : goal.returns-clause-safe
returns-clause-safe c = crash_states_are_prefixes

pub returns-clause-reported : goal.returns-clause-reported
returns-clause-reported c = acknowledged_are_in_prefix
