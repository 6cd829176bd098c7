-- The text of a reply for the desk.
use Rattle.std.specs.Prelude.{ℕ, List, []}
use Rattle.gateway_core.specs.declared.reply.DeskText.{DeskText}
use Rattle.gateway_core.specs.declared.reply.DeskText.TheVariants.{Nothing, Fixed, Owned}

abbrev pub desk_bytes : DeskText → List ℕ
desk_bytes Nothing = []
desk_bytes (Fixed text) = text.now
desk_bytes (Owned line) = line
