use Rattle.std.proofs.Common.{rules}
use Rattle.json_lines.specs.Lines.{TeachLine}
use Rattle.json_lines.proofs.LineTexts.{teach_written}
use Rattle.json_lines.proofs.teach.teach_line.Goals as goal

pub returns-clause-line : goal.returns-clause-line
returns-clause-line c =
    let line : TeachLine = record {
      eep = c.args.eep;
      id = c.args.id;
      maker = c.args.maker;
      outcome = c.args.outcome;
    } in
    teach_written line c.in_ok-line.line c.in_ok-line.ensures

pub returns-clause-outcome : goal.returns-clause-outcome
returns-clause-outcome c = search rules
