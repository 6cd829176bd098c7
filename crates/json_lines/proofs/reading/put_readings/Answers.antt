use Rattle.std.proofs.Common.{◌≡◌, suc, List, [], ◌∷◌, length, Some, refl, ap, subst, arith}
use Rattle.std.proofs.lemmas.List.{take_all, get_or_default}
use Rattle.std.proofs.lemmas.Result.{on_ok_weaker}
use Rattle.serde.specs.Event.{Log, Logs, seq_begins, seq_ends, WritesEach}
use Rattle.serde.proofs.Events.{WritesEach-more}
use Rattle.serde_json.specs.Data.{array}
use Rattle.serde_json.specs.Events.{SendsValue, SendsItems, items_len}
use Rattle.profile_rows.specs.declared.reading.Reading.{Reading}
use Rattle.profile_rows.specs.Reading.{entries, entry_of}
use Rattle.json_lines.specs.private.LineData.{entry_data, entries_data}
use Rattle.json_lines.proofs.reading.put_readings.Goals as goal

items_len-entries : (readings : List Reading) → items_len (entries_data (entries readings)) ≡ length readings
items_len-entries [] = refl
items_len-entries (reading ∷ readings) = ap suc (items_len-entries readings)

-- the readings in their order, and then the end of their array
sends_items : (readings : List Reading) (old last new : Log)
    → WritesEach (λ reading. SendsValue (entry_data (entry_of reading))) readings old last → Logs last new seq_ends
    → SendsItems (entries_data (entries readings)) old new
sends_items [] old last new sent ended = subst (λ log. Logs log new seq_ends) sent ended
sends_items (reading ∷ readings) old last new sent ended =
    (sent.0, sent.1, sends_items readings sent.0 last new sent.2 ended)

sends_array : (readings : List Reading) (old first last new : Log)
    → Logs old first (seq_begins (Some (length readings)))
    → WritesEach (λ reading. SendsValue (entry_data (entry_of reading))) readings first last → Logs last new seq_ends
    → SendsValue (array (entries_data (entries readings))) old new
sends_array readings old first last new begun sent ended =
    (first, rw items_len-entries begun, sends_items readings first last new sent ended)

pub loop-reading-preserved : goal.loop-reading-preserved
loop-reading-preserved g c =
    let readings = c.args.readings.now in
    let i = c.loop-reading.reading-index in
    WritesEach-more (λ reading. SendsValue (entry_data (entry_of reading))) readings i _ _ _ _ (omega arith)
    (get_or_default readings i _ _ (omega arith)) c.loop-reading.invariant c.in_ok-put_reading.ensures

pub returns : goal.returns
returns g c =
    let readings = c.args.readings.now in
    let sent = rw (take_all c.loop-reading.reading-index readings (omega arith)) at c.loop-reading.invariant in
    on_ok_weaker c.end_seq.result (λ ended. sends_array readings _ _ _ _ c.in_ok-begin_seq.ensures sent ended)
    c.end_seq.ensures
