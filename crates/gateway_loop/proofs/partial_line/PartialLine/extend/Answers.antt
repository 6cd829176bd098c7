use Rattle.std.proofs.Common.{◌≡◌, arith, min, length, ◌≤◌, ◌+◌, ◌-◌, sym, ◌∙◌, ap, take, ◌++◌}
use Rattle.std.proofs.lemmas.List.{length-take}
use Rattle.gateway_loop.specs.private.Lines.{max_partial_line}
use Rattle.gateway_loop.proofs.ListLemmas.{take-append}
use Rattle.gateway_loop.proofs.WriteLemmas.{OnOk-where_ok}
use Rattle.gateway_loop.proofs.partial_line.PartialLine.extend.Goals as goal

pub returns : goal.returns
returns c =
    let items = c.self.inside.bytes.items in
    let bytes = c.args.bytes.now in
    let put = c.try_extend_from_slice-fits in
    let most : length items ≤ max_partial_line = c.self.invariant in
    let count : c.min.result ≡ min (max_partial_line - length items) (length bytes) =
    c.min.ensures ∙ ap (λ n. min (max_partial_line - n) (length bytes)) c.len-room.ensures.value in
    let fits : length items + length (take c.min.result bytes) ≤ max_partial_line =
    omega (arith, length-take c.min.result bytes, count, most) in
    rw (← c.self.view_is)
    (OnOk-where_ok put.result (put.ensures.variant.1 fits) put.ensures.ok ∙ ap (λ n. items ++ take n bytes) count
    ∙ sym (take-append max_partial_line items bytes most))
