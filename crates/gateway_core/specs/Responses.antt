-- Responses of the radio module (EnOcean Serial Protocol 3, "Packet type 2: RESPONSE").
use Rattle.std.specs.Prelude.{ℕ, ◌==◌, List, [], ◌∷◌, Option, Some, None, if◌then◌else◌}
use Rattle.esp3_frames.specs.Packet.{Packet}
use Rattle.json_lines.specs.Lines.{ModuleResponse}
use Rattle.gateway_core.specs.declared.response.ResponseRef.{ResponseRef}

-- own choice: a response without data is ignored
abbrev pub response_from : List ℕ → Option ModuleResponse
response_from [] = None
response_from (code ∷ bytes) = Some (record { code = code; bytes = bytes })

-- own choice: the optional data of a response is ignored
abbrev pub response_in : Packet → Option ModuleResponse
response_in packet = if packet.kind == 2 then response_from packet.body else None

-- the response that a reference borrows
abbrev pub response_of : ResponseRef → ModuleResponse
response_of r = record { code = r.code; bytes = r.bytes.now }
