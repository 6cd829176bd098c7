use Rattle.std.proofs.Common.{rules, ℕ, List, [], ◌∷◌, ◌++◌, ◌+◌, ◌∙◌, refl, take, ap, arith, inl, inr, length}
use Rattle.std.proofs.Common.{length-append}
use Rattle.std.specs.Prelude.{◌≢◌}
use Rattle.std.proofs.lemmas.List.Elements.{All-nil, All-push}
use Rattle.byte_io.proofs.ForCallers.{concat-more}
use Rattle.gateway_loop.specs.Processing.{HasNoReadyPacket}
use Rattle.gateway_loop.proofs.EndLemmas.{replay_ends, replay_read_fails, replay_uses_all_turns, replay_write_fails}
use Rattle.gateway_loop.proofs.LineSplitterLemmas.{first_splitter, keeps-nothing, takes_lines-append, takes_lines-break}
use Rattle.gateway_loop.proofs.LineSplitterLemmas.{takes_lines-nothing}
use Rattle.gateway_loop.proofs.ReadLemmas.{concat-end, reads-end, reads-fail, reads-push, reads-nothing, take-some}
use Rattle.gateway_loop.proofs.LoanLemmas.{replay_breaks_at_end, replay_breaks_at_line, replay_processes}
use Rattle.gateway_loop.proofs.LoanLemmas.{replay_ended_lines, takes-script}
use Rattle.gateway_loop.proofs.script_replay.replay.Goals as goal

pub loop-turn-init : goal.loop-turn-init
loop-turn-init g c =
    let idle : HasNoReadyPacket c.args.gateway.now = record
    { ready = c.requires; rest = c.is_ready-is_ready.ensures.rest } in
    record {
      gateway = refl;
      writer = refl;
      idle = idle;
      progress = (
        [],
        refl,
        reads-nothing _,
        All-nil (λ (bytes : List ℕ). bytes ≢ []),
        takes_lines-nothing _ {tail = []} idle (omega arith) (rw c.new.ensures keeps-nothing),
      );
    }

pub loop-turn-preserved : goal.loop-turn-preserved
loop-turn-preserved g c =
    let (reads, count, succeeded, some, taken) = c.loop-turn.invariant.progress in
    let returned = c.in-Ok.ensures in
    let bytes = take c.in-Ok.length c.read.new.buffer in
    let after = c.in-Ok-process_bytes.ensures in
    record {
      gateway = search rules;
      writer = search rules;
      idle = after.idle;
      progress = (
        reads ++ bytes ∷ [],
        length-append reads (bytes ∷ []) ∙ ap (λ n. n + 1) count,
        reads-push c.in-Ok.length c.read.new.buffer succeeded returned.within (omega arith) returned.bytes
            returned.listed,
        All-push (λ (bytes : List ℕ). bytes ≢ []) reads bytes some
            (take-some c.in-Ok.length c.read.new.buffer returned.within c.if-length-eq0.false),
        rw (concat-more reads bytes) (takes_lines-append bytes taken (after.taken taken.rest taken.keeps)),
      );
    }

-- ---- a read fails

pub returns-in-Err : goal.returns-in-Err
returns-in-Err g c =
    let (reads, count, succeeded, some, taken) = c.loop-turn.invariant.progress in
    replay_read_fails g.S.DeviceStore.store_state g.R.Source g.W.Sink c.args.explains _ _ _
    (record {
      reads = reads;
      read = reads-fail succeeded c.in-Err.ensures.bytes c.in-Err.ensures.listed;
      some = some;
      processed = replay_ended_lines g.S.DeviceStore.store_state g.W.Sink (first_splitter taken)
          c.loop-turn.splitter _ _ (search rules) (search rules) taken;
    }) (omega arith)

-- ---- the script ends

pub returns-then-length-eq0 : goal.returns-then-length-eq0
returns-then-length-eq0 g c =
    let (reads, count, succeeded, some, taken) = c.loop-turn.invariant.progress in
    let returned = c.in-Ok.ensures in
    let none = c.if-length-eq0.true in
    let new = c.process_last_script_line.new.self in
    let all = takes-script g.S.DeviceStore.store_state g.W.Sink taken
    (c.in-Ok-process_last_script_line.ensures.taken taken.rest taken.keeps) in
    replay_ends g.S.DeviceStore.store_state g.R.Source g.W.Sink c.args.explains _ _ _
    (record {
      reads = reads ++ [] ∷ [];
      read = reads-end c.in-Ok.length c.read.new.buffer succeeded returned.within (omega arith) returned.bytes
          returned.listed none;
      ends = record { earlier = reads; whole = refl; some = some };
      at_end = returned.bytes.1 none (omega arith);
      processed = rw (concat-end reads)
          (replay_processes g.S.DeviceStore.store_state g.W.Sink (first_splitter taken) new _ _ (search rules)
          (search rules) all.processed);
      counted = rw (concat-end reads) (let counted = all.counted in omega (arith, counted));
    }) (omega (arith, count, length-append reads ([] ∷ [])))

-- ---- an answer to the last line is not written completely

pub returns-in_default : goal.returns-in_default
returns-in_default g c =
    let (reads, count, succeeded, some, taken) = c.loop-turn.invariant.progress in
    let returned = c.in-Ok.ensures in
    let none = c.if-length-eq0.true in
    replay_write_fails g.S.DeviceStore.store_state g.R.Source g.W.Sink c.args.explains _ _ _
    (record {
      reads = reads ++ [] ∷ [];
      read = reads-end c.in-Ok.length c.read.new.buffer succeeded returned.within (omega arith) returned.bytes
          returned.listed none;
      broken = inr (record {
        ends = record { earlier = reads; whole = refl; some = some };
        at_end = returned.bytes.1 none (omega arith);
        broken = rw (concat-end reads)
            (replay_breaks_at_end g.S.DeviceStore.store_state g.W.Sink (first_splitter taken)
            c.process_last_script_line.new.self _ _ (search rules) (search rules) taken
            (c.in_default.ensures.taken taken.rest taken.keeps));
      });
    }) (omega (arith, count, length-append reads ([] ∷ [])))

-- ---- an answer to another line is not written completely

pub returns-in_default-process_bytes : goal.returns-in_default-process_bytes
returns-in_default-process_bytes g c =
    let (reads, count, succeeded, some, taken) = c.loop-turn.invariant.progress in
    let returned = c.in-Ok.ensures in
    let bytes = take c.in-Ok.length c.read.new.buffer in
    replay_write_fails g.S.DeviceStore.store_state g.R.Source g.W.Sink c.args.explains _ _ _
    (record {
      reads = reads ++ bytes ∷ [];
      read = reads-push c.in-Ok.length c.read.new.buffer succeeded returned.within (omega arith) returned.bytes
          returned.listed;
      broken = inl (record {
        some = All-push (λ (bytes : List ℕ). bytes ≢ []) reads bytes some
            (take-some c.in-Ok.length c.read.new.buffer returned.within c.if-length-eq0.false);
        broken = rw (concat-more reads bytes)
            (replay_breaks_at_line g.S.DeviceStore.store_state g.W.Sink (first_splitter taken)
            c.process_bytes.new.self _ _
            (search rules) (search rules)
            (takes_lines-break bytes taken
            (c.in_default-process_bytes.ensures.stopped taken.rest taken.keeps)));
      });
    }) (omega (arith, count, length-append reads (bytes ∷ [])))

-- ---- all turns are used

pub returns : goal.returns
returns g c =
    let (reads, count, succeeded, some, taken) = c.loop-turn.invariant.progress in
    replay_uses_all_turns g.S.DeviceStore.store_state g.R.Source g.W.Sink c.args.explains _ _ _
    (record {
      reads = reads;
      read = succeeded;
      some = some;
      processed = replay_ended_lines g.S.DeviceStore.store_state g.W.Sink (first_splitter taken)
          c.loop-turn.splitter _ _ (search rules) (search rules) taken;
    }) (omega arith)
