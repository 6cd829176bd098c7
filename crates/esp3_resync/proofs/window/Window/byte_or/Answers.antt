use Rattle.std.proofs.Common.{arith}
use Rattle.std.proofs.lemmas.Option.{unwrap_or-slice_get}
use Rattle.esp3_resync.proofs.window.Window.byte_or.Goals as goal

pub returns : goal.returns
returns c = grind (arith, unwrap_or-slice_get)
