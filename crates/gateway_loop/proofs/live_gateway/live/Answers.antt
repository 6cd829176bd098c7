use Rattle.std.proofs.Common.{rules, [], ◌∷◌, ◌++◌, ◌+◌, refl, take, ap, arith, None, Some, ◌∙◌, length-append}
use Rattle.std.proofs.lemmas.List.{map-append}
use Rattle.gateway_loop.specs.Processing.{HasNoReadyPacket}
use Rattle.gateway_loop.specs.Turns.{Turn, serial_reads}
use Rattle.gateway_loop.proofs.EndLemmas.{live_ends, live_read_fails, live_write_fails}
use Rattle.gateway_loop.proofs.ReadLemmas.{reads-fail, reads-push, reads-nothing}
use Rattle.gateway_loop.proofs.TurnLemmas.{breaks-chunk, breaks-order, first_splitter, length-serial_reads}
use Rattle.gateway_loop.proofs.TurnLemmas.{takes-chunk, takes_turns-nothing, takes_turns-push}
use Rattle.gateway_loop.proofs.LoanLemmas.{live_breaks, live_breaks_at_order, live_processes}
use Rattle.gateway_loop.proofs.live_gateway.live.Goals as goal

pub loop-turn-init : goal.loop-turn-init
loop-turn-init g c =
    let idle : HasNoReadyPacket c.args.gateway.now = record
    { ready = c.requires; rest = c.is_ready-is_ready.ensures.rest } in
    record {
      gateway = refl;
      serial = refl;
      desk = refl;
      idle = idle;
      progress = (
        [],
        refl,
        reads-nothing _,
        reads-nothing _,
        takes_turns-nothing _ idle (omega arith) c.new.ensures,
      );
    }

-- ---- a read of the serial line fails

pub returns-in_default : goal.returns-in_default
returns-in_default g c =
    let (read, count, serial, desk, turns) = c.loop-turn.invariant.progress in
    let failed = c.in_default.ensures in
    live_read_fails g.S.DeviceStore.store_state g.P.Source g.Q.Source g.R.Sink g.D.Sink c.args.explains _ _ _
    (record {
      read = read;
      chunk = None;
      fails = (reads-fail serial failed.bytes failed.listed, desk);
      processed = live_processes g.S.DeviceStore.store_state g.R.Sink g.D.Sink (first_splitter turns).driver
          c.loop-turn.splitter.driver _ _ _ (search rules) (search rules) (search rules) turns.taken.processed;
    }) (omega arith)

-- ---- an answer to a packet is not written completely

pub returns-in_default-process_chunk : goal.returns-in_default-process_chunk
returns-in_default-process_chunk g c =
    let (read, count, serial, desk, turns) = c.loop-turn.invariant.progress in
    let returned = c.in-Ok.ensures in
    let chunk = take c.in-Ok.length c.read.new.buffer in
    let new = c.process_chunk.new.self in
    live_write_fails g.S.DeviceStore.store_state g.P.Source g.Q.Source g.R.Sink g.D.Sink c.args.explains _ _ _
    (record {
      read = read;
      chunk = Some chunk;
      serial = reads-push c.in-Ok.length c.read.new.buffer serial returned.within (omega arith) returned.bytes
          returned.listed;
      desk = desk;
      broken = live_breaks g.S.DeviceStore.store_state g.R.Sink g.D.Sink (first_splitter turns).driver new _ _ _
          (search rules) (search rules) (search rules)
          (breaks-chunk turns new c.in_default-process_chunk.ensures.taken);
    }) (omega (arith, length-append (serial_reads read) (chunk ∷ []), length-serial_reads read))

-- ---- a read of the desk fails

pub returns-in_default-read : goal.returns-in_default-read
returns-in_default-read g c =
    let (read, count, serial, desk, turns) = c.loop-turn.invariant.progress in
    let returned = c.in-Ok.ensures in
    let failed = c.in_default-read.ensures in
    live_read_fails g.S.DeviceStore.store_state g.P.Source g.Q.Source g.R.Sink g.D.Sink c.args.explains _ _ _
    (record {
      read = read;
      chunk = Some (take c.in-Ok.length c.read.new.buffer);
      fails = (
        reads-push c.in-Ok.length c.read.new.buffer serial returned.within (omega arith) returned.bytes
            returned.listed,
        reads-fail desk failed.bytes failed.listed,
      );
      processed = live_processes g.S.DeviceStore.store_state g.R.Sink g.D.Sink (first_splitter turns).driver
          c.process_chunk.new.self _ _ _ (search rules) (search rules) (search rules)
          (takes-chunk turns c.in-Ok-process_chunk.ensures.taken).processed;
    }) (omega arith)

-- ---- an answer to an order is not written completely

pub returns-in_default-process_bytes : goal.returns-in_default-process_bytes
returns-in_default-process_bytes g c =
    let (read, count, serial, desk, turns) = c.loop-turn.invariant.progress in
    let returned = c.in-Ok.ensures in
    let sent = c.in-Ok-read.ensures in
    let chunk = take c.in-Ok.length c.read.new.buffer in
    let bytes = take c.in-Ok-read.length c.read-in-loop-turn.new.buffer in
    let turn : Turn = record { chunk = chunk; desk = bytes } in
    let mid = record c.loop-turn.splitter { driver = c.process_chunk.new.self } in
    let new = c.process_bytes.new.self in
    live_write_fails g.S.DeviceStore.store_state g.P.Source g.Q.Source g.R.Sink g.D.Sink c.args.explains _ _ _
    (record {
      read = read ++ turn ∷ [];
      chunk = None;
      serial = rw (map-append (λ (turn : Turn). turn.chunk) read (turn ∷ []))
          (reads-push c.in-Ok.length c.read.new.buffer serial returned.within (omega arith) returned.bytes
          returned.listed);
      desk = rw (map-append (λ (turn : Turn). turn.desk) read (turn ∷ []))
          (reads-push c.in-Ok-read.length c.read-in-loop-turn.new.buffer desk sent.within (omega arith) sent.bytes
          sent.listed);
      broken = live_breaks_at_order g.S.DeviceStore.store_state g.R.Sink g.D.Sink (first_splitter turns).driver
          new.driver _ _ _ (search rules) (search rules) (search rules)
          (breaks-order turns {mid = mid} {new = new} bytes c.in-Ok-process_chunk.ensures.taken
          (c.in_default-process_bytes.ensures.stopped turns.lines.rest turns.keeps));
    }) (omega (arith, length-serial_reads (read ++ turn ∷ []), length-append read (turn ∷ [])))

-- ---- a whole turn

pub loop-turn-preserved : goal.loop-turn-preserved
loop-turn-preserved g c =
    let (read, count, serial, desk, turns) = c.loop-turn.invariant.progress in
    let returned = c.in-Ok.ensures in
    let sent = c.in-Ok-read.ensures in
    let chunk = take c.in-Ok.length c.read.new.buffer in
    let bytes = take c.in-Ok-read.length c.read-in-loop-turn.new.buffer in
    let turn : Turn = record { chunk = chunk; desk = bytes } in
    let mid = record c.loop-turn.splitter { driver = c.process_chunk.new.self } in
    record {
      gateway = search rules;
      serial = search rules;
      desk = search rules;
      idle = c.in-Ok-process_bytes.ensures.idle;
      progress = (
        read ++ turn ∷ [],
        length-append read (turn ∷ []) ∙ ap (λ n. n + 1) count,
        rw (map-append (λ (turn : Turn). turn.chunk) read (turn ∷ []))
            (reads-push c.in-Ok.length c.read.new.buffer serial returned.within (omega arith) returned.bytes
            returned.listed),
        rw (map-append (λ (turn : Turn). turn.desk) read (turn ∷ []))
            (reads-push c.in-Ok-read.length c.read-in-loop-turn.new.buffer desk sent.within (omega arith) sent.bytes
            sent.listed),
        takes_turns-push turns {mid = mid} bytes c.in-Ok-process_chunk.ensures.taken
            (c.in-Ok-process_bytes.ensures.taken turns.lines.rest turns.keeps),
      );
    }

-- ---- all turns

pub returns : goal.returns
returns g c =
    let (read, count, serial, desk, turns) = c.loop-turn.invariant.progress in
    let done = c.loop-turn-test.false in
    let last = c.loop-turn.auto._turn-end in
    let counted = turns.taken.counted in
    live_ends g.S.DeviceStore.store_state g.P.Source g.Q.Source g.R.Sink g.D.Sink c.args.explains _ _ _
    (record {
      read = read;
      count = count ∙ omega (arith, done, last);
      serial = serial;
      desk = desk;
      processed = live_processes g.S.DeviceStore.store_state g.R.Sink g.D.Sink (first_splitter turns).driver
          c.loop-turn.splitter.driver _ _ _ (search rules) (search rules) (search rules) turns.taken.processed;
      counted = omega (arith, counted);
    })
