use Rattle.std.proofs.Common.{sym, ap, ◌∙◌}
use Rattle.std.specs.Prelude.{option_map}
use Rattle.desk_orders.proofs.LabelLemmas.{text-given}
use Rattle.desk_orders.proofs.words.label_if_well_formed.Goals as goal

pub returns : goal.returns
returns c =
    ap (option_map (λ name. name.now)) c.ok.ensures.value
    ∙ text-given _ c.args.text.now c.from_utf8.result (sym c.if-is_empty.ensures)
    (sym c.if-not-is_label_of_any_length.ensures)
    c.from_utf8.ensures.cases (λ e h. h.0)
