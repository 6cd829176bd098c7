use Rattle.gateway_core.proofs.WindowLemmas.{packets_learn_only_in_windows}
use Rattle.gateway_core.proofs.laws.packets_learn_only_in_windows.Goals as goal

pub returns : goal.returns
returns c = packets_learn_only_in_windows
