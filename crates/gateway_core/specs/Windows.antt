-- When packets change the devices.
use Rattle.std.specs.Prelude.{◌≡◌, ◌≢◌, ◌⊎◌, Some, None, Ok}
use Rattle.esp3_frames.specs.Packet.{Packet}
use Rattle.erp1_telegrams.specs.declared.eep.Eep.{Eep}
use Rattle.erp1_telegrams.specs.Telegram.{Telegram, telegram_of}
use Rattle.learned_devices.specs.declared.Device.{Device}
use Rattle.learned_devices.specs.Devices.{learn_update, forget_update}
use Rattle.teach_in.specs.declared.mode.Mode.{Mode}
use Rattle.teach_in.specs.declared.mode.Mode.TheVariants.{Closed, Learn, LearnAnswer, LearnAs}
use Rattle.teach_in.specs.declared.telegrams.Teach.TheVariants.{Ute}
use Rattle.teach_in.specs.declared.ute.UteQuery.{UteQuery}
use Rattle.teach_in.specs.Telegrams.{teach_in_of}
use Rattle.teach_in.specs.Ute.{request_in, deletion_request}
use Rattle.gateway_core.specs.Step.{State, Received, update_of, new_mode_of}

-- the packet carries a telegram whose sender is learned in an open window; by a UTE query only in a window for all
-- senders. A window for one sender then closes, and any other stays open
pub record LearnsSender (state : State) (packet : Packet) : Type 0 where
  pub telegram : Telegram
  pub carried : telegram_of packet ≡ Ok telegram
  pub device : Device
  pub is_sender : device.id ≡ telegram.sender
  pub update : update_of state (Received packet) ≡ Some (learn_update device)
  pub window_open : state.mode ≢ Closed
  pub ute_needs_window_for_all : (query : UteQuery) → teach_in_of telegram ≡ Ute query
      → (state.mode ≡ Learn) ⊎ (state.mode ≡ LearnAnswer)
  pub closes : (eep : Eep) → state.mode ≡ LearnAs eep → new_mode_of state (Received packet) ≡ Some Closed
  pub stays : (mode : Mode) → new_mode_of state (Received packet) ≡ Some mode
      → (eep : Eep) × (state.mode ≡ LearnAs eep)

-- the packet carries a UTE query to forget its sender. The sender is forgotten, and the window, which is one for all
-- senders, stays open
pub record ForgetsSender (state : State) (packet : Packet) : Type 0 where
  pub telegram : Telegram
  pub carried : telegram_of packet ≡ Ok telegram
  pub query : UteQuery
  pub asked : teach_in_of telegram ≡ Ute query
  pub deletes : request_in query ≡ deletion_request
  pub update : update_of state (Received packet) ≡ Some (forget_update telegram.sender)
  pub open_for_all : (state.mode ≡ Learn) ⊎ (state.mode ≡ LearnAnswer)
  pub stays : new_mode_of state (Received packet) ≡ None

-- a packet does one of these, or it changes neither the devices nor the mode
abbrev pub PacketsLearnOnlyInWindows : Type 0
PacketsLearnOnlyInWindows = (state : State) (packet : Packet)
    → LearnsSender state packet
    ⊎ (ForgetsSender state packet
    ⊎ ((update_of state (Received packet) ≡ None) × (new_mode_of state (Received packet) ≡ None)))
