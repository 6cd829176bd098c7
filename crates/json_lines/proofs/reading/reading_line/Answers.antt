use Rattle.std.proofs.lemmas.Result.{IfOk-weaker}
use Rattle.profile_rows.specs.Reading.{entries}
use Rattle.json_lines.specs.Lines.{ReadingLine}
use Rattle.json_lines.proofs.LineTexts.{reading_written}
use Rattle.json_lines.proofs.reading.reading_line.Goals as goal

pub returns : goal.returns
returns c =
    let line : ReadingLine = record {
      dbm = c.args.telegram.now.dbm;
      eep = c.args.eep;
      id = c.args.telegram.now.sender;
      readings = entries c.args.readings.now.items;
    } in
    IfOk-weaker c.line_of.result _ _ (λ bytes h.
    reading_written line bytes (rw (c.dbm.ensures, c.sender.ensures, c.as_slice.ensures.value) at h)) c.line_of.ensures
