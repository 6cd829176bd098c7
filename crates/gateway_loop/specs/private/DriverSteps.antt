-- What a `Driver` does with ready packets, and with events.
use Rattle.std.specs.Prelude.{◌≡◌, ◌<◌, ℕ, List, [], ◌∷◌, ◌++◌, length, map, Result, MatchResult}
use Rattle.learned_devices.specs.DeviceStoreState.{DeviceStoreState}
use Rattle.esp3_frames.specs.Packet.{Packet}
use Rattle.gateway_state.specs.Counts.{saturated_sum}
use Rattle.gateway_core.specs.Step.{Received, Answer}
use Rattle.gateway_core.specs.Calls.{GatewayValue}
use Rattle.gateway_core.specs.Events.{InputEvent, inputs_of}
use Rattle.gateway_loop.specs.declared.driver.Driver.{Driver}
use Rattle.gateway_loop.specs.OutputSpecs.{OutputSpec}
use Rattle.gateway_loop.specs.Processing.{AnswersInputs, LastAnswerCutShort, Processes, BreaksAtLastEvent, Breaks}

module _ {S : Type 0} (stored : S → DeviceStoreState) where
  -- the packets that were ready first were handled, and no others
  pub record Drains (old new : GatewayValue S) (puts : List Answer → Type 0) (count total : ℕ) : Type 0 where
    pub packets : List Packet
    pub ready : old.ready ≡ packets ++ new.ready
    pub rest : new.rest ≡ old.rest
    pub answered : AnswersInputs stored old.handler new.handler (map Received packets) puts
    pub counted : total ≡ saturated_sum count (length packets)

  -- the same, if an answer was not written completely
  pub record DrainsPart (old new : GatewayValue S) (breaks : List Answer → Answer → Type 0) : Type 0 where
    pub packets : List Packet
    pub not_empty : 0 < length packets
    pub ready : old.ready ≡ packets ++ new.ready
    pub rest : new.rest ≡ old.rest
    pub answered : LastAnswerCutShort stored old.handler new.handler (map Received packets) breaks

module _ {O S : Type 0} (stored : S → DeviceStoreState) (output : OutputSpec O) where
  -- the events were processed, and their answers written
  abbrev pub DriverProcesses : (old new : Driver O S) → List InputEvent → Type 0
  DriverProcesses old new events =
      Processes stored old.gateway.now new.gateway.now events (output.puts old.reply_sink new.reply_sink)

  -- after these events an answer to an input of one more was not written completely
  abbrev pub DriverBreaks : (old new : Driver O S) → List InputEvent → InputEvent → Type 0
  DriverBreaks old new events event =
      Breaks stored old.gateway.now new.gateway.now events event (output.breaks old.reply_sink new.reply_sink)

  -- the events' inputs were handled and counted
  pub record Takes (old new : Driver O S) (events : List InputEvent) : Type 0 where
    pub processed : DriverProcesses old new events
    pub counted : new.items ≡ saturated_sum old.items (length (inputs_of old.gateway.now.rest events))

  -- a call that takes events: it does so at `Ok`, and breaks off at one of them at `Err`
  abbrev pub TakesOrStops : {A E : Type 0} → Result A E → (old new : Driver O S) → List InputEvent → Type 0
  TakesOrStops result old new events =
      MatchResult result (λ _. Takes old new events)
      (λ _. BreaksAtLastEvent stored old.gateway.now new.gateway.now events
      (output.breaks old.reply_sink new.reply_sink))

  -- a call that takes one event: it does so at `Ok`, and breaks off at `Err`
  abbrev pub TakesOrBreaks : {A E : Type 0} → Result A E → (old new : Driver O S) → InputEvent → Type 0
  TakesOrBreaks result old new event =
      MatchResult result (λ _. Takes old new (event ∷ [])) (λ _. DriverBreaks old new [] event)
