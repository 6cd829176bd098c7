-- The ranges of devices: learned devices, and those that teach lines report, are in range.
use Rattle.std.specs.Prelude.{◌≡◌, ◌⊎◌, ℕ, ◌<◌, List, ◌++◌, Some, IfSome}
use Rattle.std.specs.List.{All, AllByRecursion}
use Rattle.learned_devices.specs.declared.Device.{Device}
use Rattle.learned_devices.specs.Ranges.{IsProfileInRange, HasDeviceNumbersInRange, AreInRange}
use Rattle.teach_in.specs.declared.mode.Mode.{Mode}
use Rattle.teach_in.specs.declared.mode.Mode.TheVariants.{LearnAs}
use Rattle.teach_in.specs.declared.outcome.Outcome.TheVariants.{Accepted, Deleted}
use Rattle.json_lines.specs.Lines.{HasNumbersInRange, Teach, TeachLine, text}
use Rattle.gateway_core.specs.Step.{State, Input, Received, Ordered, Answer, update_of, device_teach_line}
use Rattle.gateway_core.specs.Run.{InputResult, Run, answer_for_result}
use Rattle.gateway_core.specs.Events.{InputEvent, bytes_in, inputs_of}
use Rattle.gateway_core.specs.Sessions.{Session, IsSession}
use Rattle.gateway_core.specs.Reporting.{accepted_or_deleted_update}

-- the profile that the desk has given is in range
abbrev pub IsModeInRange : Mode → Type 0
IsModeInRange (LearnAs eep) = IsProfileInRange eep
IsModeInRange mode = Unit {0}

abbrev pub IsStateInRange : State → Type 0
IsStateInRange state = AreInRange state.devices × IsModeInRange state.mode

-- The data of a packet are bytes. An order line needs no premise: digits always spell bytes.
abbrev pub PacketBodyIsBytes : Input → Type 0
PacketBodyIsBytes (Received packet) = All (λ byte. byte < 256) packet.body
PacketBodyIsBytes (Ordered line) = Unit {0}

-- the packets of a stream of bytes consist of bytes
abbrev pub InputsAreOfBytes : Type 0
InputsAreOfBytes = (stream : List ℕ) (events : List InputEvent) → All (λ byte. byte < 256) (stream ++ bytes_in events)
    → AllByRecursion PacketBodyIsBytes (inputs_of stream events)

-- Inputs of bytes keep the state in range, whatever their results.
abbrev pub StaysInRange : Type 0
StaysInRange = (old new : State) (inputs : List Input) (results : List InputResult) (answers : List Answer)
    → Run old inputs results answers new → AllByRecursion PacketBodyIsBytes inputs → IsStateInRange old
    → IsStateInRange new

-- A session with inputs of bytes leaves devices in range, if those that it found were in range.
abbrev pub SessionsLeaveDevicesInRange : Type 0
SessionsLeaveDevicesInRange =
    (session : Session) → IsSession session → AreInRange session.found → AllByRecursion PacketBodyIsBytes session.inputs
    → IfSome session.interrupted_input PacketBodyIsBytes → AreInRange session.left

-- The teach line has the text of the line of this device, which is in range, and the input makes the update that the
-- line reports. If the numbers of the line are in range, it is the line of this device.
pub record IsOfDevice (state : State) (input : Input) (line : TeachLine) : Type 0 where
  pub device : Device
  pub in_range : HasDeviceNumbersInRange device
  pub update : update_of state input ≡ Some (accepted_or_deleted_update line.outcome device)
  pub same_text : text (Teach line) ≡ text (Teach (device_teach_line device line.outcome))
  pub is_line_of_device : HasNumbersInRange line → line ≡ device_teach_line device line.outcome

-- in a state in range, an input of bytes gets `accepted` or `deleted` only for such a device
abbrev pub ReportsInRange : Type 0
ReportsInRange =
    (state : State) (input : Input) (result : InputResult) (line : TeachLine) → IsStateInRange state
    → PacketBodyIsBytes input
    → (answer_for_result state input result).desk ≡ text (Teach line)
    → (line.outcome ≡ Accepted) ⊎ (line.outcome ≡ Deleted) → IsOfDevice state input line
