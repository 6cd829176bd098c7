-- How a live gateway continues with turns.
use Rattle.std.proofs.Common.{◌≡◌, ℕ, ◌<◌, ◌^◌, List, [], ◌∷◌, ◌++◌, length, refl, ap, sym, ◌∙◌, append_assoc}
use Rattle.std.proofs.Common.{append-nil}
use Rattle.std.specs.List.{flat_map}
use Rattle.std.specs.Str.Lines.{strip_carriage_return}
use Rattle.std.proofs.lemmas.List.{length-map}
use Rattle.std.proofs.lemmas.List.Concat.{flat_map-append}
use Rattle.std.proofs.lemmas.List.Elements.{All-append, All-nil}
use Rattle.learned_devices.specs.DeviceStoreState.{DeviceStoreState}
use Rattle.gateway_core.specs.Events.{InputEvent, Chunk}
use Rattle.gateway_loop.specs.Script.{HasNoLf}
use Rattle.gateway_loop.specs.declared.line_splitter.LineSource.TheVariants.{DeskLines}
use Rattle.gateway_loop.specs.declared.driver.Driver.{Driver}
use Rattle.gateway_loop.specs.declared.line_splitter.LineSplitter.{LineSplitter}
use Rattle.gateway_loop.specs.OutputSpecs.{OutputSpec}
use Rattle.gateway_loop.specs.Processing.{HasNoReadyPacket}
use Rattle.gateway_loop.specs.LiveGateway.{BreaksAtOrder}
use Rattle.gateway_loop.specs.private.DriverSteps.{DriverBreaks, Takes}
use Rattle.gateway_loop.specs.private.LineSplitting.{TakesEndedLines, BreaksInBytes}
use Rattle.gateway_loop.specs.private.Lines.{KeepsTruncatedLine, event_of_line_from, events_by}
use Rattle.gateway_loop.specs.Turns.{Turn, desk_line_events, desk_reads, events_of_turns, events_of_turns_after}
use Rattle.gateway_loop.specs.Turns.{serial_reads}
use Rattle.gateway_loop.proofs.LineSplitterLemmas.{keeps-nothing}
use Rattle.gateway_loop.proofs.LineLemmas.{Splits, ended-append, events_in-ended, events_in-first, orders-none}
use Rattle.gateway_loop.proofs.LineLemmas.{orders_after, orders_after-nothing, orders_after-split}
use Rattle.gateway_loop.proofs.ProcessingLemmas.{takes-nothing, takes-append, processes-break}

-- ---- the events of one more turn

-- everything that turns read of the desk
abbrev pub desk_bytes : List Turn → List ℕ
desk_bytes turns = flat_map (λ turn. turn.desk) turns

abbrev events_of_turn : (before : List ℕ) → Turn → List InputEvent
events_of_turn before turn = Chunk turn.chunk ∷ orders_after before turn.desk

events_of_turns_after-push : (before : List ℕ) (read : List Turn) (turn : Turn)
    → events_of_turns_after before (read ++ turn ∷ [])
    ≡ events_of_turns_after before read ++ events_of_turn (before ++ desk_bytes read) turn
events_of_turns_after-push before [] turn =
    append-nil (events_of_turn before turn) ∙ ap (λ b. events_of_turn b turn) (sym (append-nil before))
events_of_turns_after-push before (first ∷ read) turn =
    let now = before ++ first.desk in
    let own = events_of_turn before first in
    ap (λ (events : List InputEvent). own ++ events) (events_of_turns_after-push now read turn)
    ∙ sym (append_assoc own (events_of_turns_after now read) (events_of_turn (now ++ desk_bytes read) turn))
    ∙ ap (λ b. (own ++ events_of_turns_after now read) ++ events_of_turn b turn)
    (append_assoc before first.desk (desk_bytes read))

-- the orders of the turn are known
events_of_turns-push : (read : List Turn) (turn : Turn) {orders : List InputEvent}
    → orders_after (desk_bytes read) turn.desk ≡ orders
    → events_of_turns (read ++ turn ∷ []) ≡ (events_of_turns read ++ Chunk turn.chunk ∷ []) ++ orders
events_of_turns-push read turn {orders} is =
    events_of_turns_after-push [] read turn
    ∙ ap (λ (events : List InputEvent). events_of_turns read ++ Chunk turn.chunk ∷ events) is
    ∙ sym (append_assoc (events_of_turns read) (Chunk turn.chunk ∷ []) orders)

-- a turn that read nothing of the desk
pub events_of_turns-chunk : (read : List Turn) (chunk : List ℕ)
    → events_of_turns (read ++ record { chunk = chunk; desk = [] } ∷ []) ≡ events_of_turns read ++ Chunk chunk ∷ []
events_of_turns-chunk read chunk =
    events_of_turns-push read (record { chunk = chunk; desk = [] }) (orders_after-nothing (desk_bytes read))
    ∙ append-nil (events_of_turns read ++ Chunk chunk ∷ [])

-- ---- how many reads turns are

pub length-serial_reads : (read : List Turn) → length (serial_reads read) ≡ length read
length-serial_reads read = length-map read (λ (turn : Turn). turn.chunk)

pub length-desk_reads : (read : List Turn) → length (desk_reads read) ≡ length read
length-desk_reads read = length-map read (λ (turn : Turn). turn.desk)

-- the turns were taken, and the first bytes of the desk's partial line are kept
pub record TakesTurns {O S : Type 0} (stored : S → DeviceStoreState) (output : OutputSpec O)
    (old new : LineSplitter O S)
    (read : List Turn) : Type 0 where
  pub lines : Splits (desk_bytes read)
  pub keeps : KeepsTruncatedLine lines.rest new.partial
  pub taken : Takes stored output old.driver new.driver (events_of_turns read)

module _ {O S : Type 0} {stored : S → DeviceStoreState} {output : OutputSpec O} where
  abbrev pub first_splitter : {old new : LineSplitter O S} {read : List Turn} → TakesTurns stored output old new read
      → LineSplitter O S
  first_splitter {old = old} taken = old

  pub takes_turns-nothing : (old : LineSplitter O S) → HasNoReadyPacket old.driver.gateway.now
      → old.driver.items < 2 ^ 64 → old.partial ≡ [] → TakesTurns stored output old old []
  takes_turns-nothing old idle fits none = record {
    lines = record {
      ended = [];
      rest = [];
      whole = refl;
      each = All-nil HasNoLf;
      no_lf = keeps-nothing.no_lf;
    };
    keeps = rw none keeps-nothing;
    taken = takes-nothing output old.driver idle fits;
  }

  module _ {entry old : LineSplitter O S} {read : List Turn} (turns : TakesTurns stored output entry old read) where
    -- an answer to a packet of the next chunk was not written completely
    pub breaks-chunk : (new : Driver O S) {chunk : List ℕ} → DriverBreaks stored output old.driver new [] (Chunk chunk)
        → DriverBreaks stored output entry.driver new (events_of_turns read) (Chunk chunk)
    breaks-chunk new broken =
        rw (← append-nil (events_of_turns read))
        (processes-break output entry.driver old.driver new turns.taken.processed broken)

    -- the next turn's chunk, and not yet its bytes of the desk
    pub takes-chunk : {new : Driver O S} {chunk : List ℕ} → Takes stored output old.driver new (Chunk chunk ∷ [])
        → Takes stored output entry.driver new (events_of_turns read ++ Chunk chunk ∷ [])
    takes-chunk taken = takes-append output turns.taken taken

    -- `mid` is the line splitter after the chunk
    pub takes_turns-push : {mid new : LineSplitter O S} {chunk : List ℕ} (desk : List ℕ)
        → Takes stored output old.driver mid.driver (Chunk chunk ∷ [])
        → TakesEndedLines stored output DeskLines mid new (turns.lines.rest ++ desk)
        → TakesTurns stored output entry new (read ++ record { chunk = chunk; desk = desk } ∷ [])
    takes_turns-push {chunk = chunk} desk taken later =
        let turn : Turn = record { chunk = chunk; desk = desk } in
        let own = events_by DeskLines later.ended in
        let orders : orders_after (desk_bytes read) desk ≡ own =
        orders_after-split turns.lines desk ∙ ap desk_line_events later.whole
        ∙ events_in-ended DeskLines later.ended later.rest later.each
        ∙ ap (λ (events : List InputEvent). own ++ events) (orders-none later.rest later.keeps.no_lf)
        ∙ append-nil own in
        record {
          lines = record {
            ended = turns.lines.ended ++ later.ended;
            rest = later.rest;
            whole = flat_map-append (λ (turn : Turn). turn.desk) read (turn ∷ [])
                ∙ ap (λ s. desk_bytes read ++ s) (append-nil desk)
                ∙ ended-append desk turns.lines.ended later.ended turns.lines.rest later.rest turns.lines.whole
                later.whole;
            each = All-append HasNoLf turns.lines.ended later.ended turns.lines.each later.each;
            no_lf = later.keeps.no_lf;
          };
          keeps = later.keeps;
          taken = rw (events_of_turns-push read turn orders) (takes-append output (takes-chunk taken) later.taken);
        }

    -- an answer to an order of the next turn was not written completely
    pub breaks-order : {mid new : LineSplitter O S} {chunk : List ℕ} (desk : List ℕ)
        → Takes stored output old.driver mid.driver (Chunk chunk ∷ [])
        → BreaksInBytes stored output DeskLines mid new (turns.lines.rest ++ desk)
        → BreaksAtOrder stored entry.driver.gateway.now new.driver.gateway.now
        (read ++ record { chunk = chunk; desk = desk } ∷ [])
        (output.breaks entry.driver.reply_sink new.driver.reply_sink)
    breaks-order {mid} {new} {chunk} desk taken later =
        let turn : Turn = record { chunk = chunk; desk = desk } in
        let own = events_by DeskLines later.ended in
        let order = event_of_line_from DeskLines (strip_carriage_return later.line) in
        let orders : orders_after (desk_bytes read) desk ≡ own ++ order ∷ desk_line_events later.more =
        orders_after-split turns.lines desk ∙ ap desk_line_events later.whole
        ∙ events_in-ended DeskLines later.ended (later.line ++ 10 ∷ later.more) later.each
        ∙ ap (λ (events : List InputEvent). own ++ events)
        (events_in-first DeskLines later.line later.more later.no_lf) in
        record {
          earlier_turns = read;
          last = turn;
          is_last = refl;
          earlier_events = own;
          order = order;
          later_events = desk_line_events later.more;
          whole = events_of_turns-push read turn orders
              ∙ sym (append_assoc (events_of_turns read ++ Chunk chunk ∷ []) own (order ∷ desk_line_events later.more));
          broken = processes-break output entry.driver mid.driver new.driver (takes-chunk taken).processed later.broken;
        }
