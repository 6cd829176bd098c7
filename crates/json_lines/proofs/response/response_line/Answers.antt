use Rattle.std.proofs.Common.{◌≡◌, ◌∙◌, arith}
use Rattle.std.proofs.lemmas.Result.{IfOk-weaker}
use Rattle.hex.specs.Hex.{encode_upper, IsBytes}
use Rattle.json_lines.specs.Lines.{ModuleResponse}
use Rattle.json_lines.proofs.LineTexts.{response_written}
use Rattle.json_lines.proofs.response.response_line.Goals as goal

pub returns : goal.returns
returns c =
    let response : ModuleResponse = record { code = c.args.code; bytes = c.args.rest.now } in
    let bytes : IsBytes c.args.rest.now = λ i. omega (arith, c.type_inv.rest i) in
    let digits : c.as_str.result.now ≡ encode_upper c.args.rest.now =
    c.as_str.ensures.value ∙ c.in_ok-digits.ensures in
    IfOk-weaker c.line_of.result _ _ (λ line h. response_written response line bytes (rw digits at h)) c.line_of.ensures
