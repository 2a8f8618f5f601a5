use Rattle.std.proofs.Common.{◌∙◌, string_bytes}
use Rattle.zone_check.proofs.EncodingLaws.{bytes_refused}
use Rattle.std.proofs.lemmas.Result.{IfOk-weaker}
use Rattle.zone_check.proofs.encoding.encoding_report.Goals as goal

pub returns-in-Err-clause-report : goal.returns-in-Err-clause-report
returns-in-Err-clause-report c =
    IfOk-weaker c.invalid_report.result _ _
    (λ report written. bytes_refused c.args.format c.args.file.now c.args.bytes.now (string_bytes report) c.valid_up_to.result c.in-Err.ensures.cases.0
    (c.valid_up_to.ensures ∙ c.in-Err.ensures.valid_len) written)
    c.invalid_report.ensures

pub returns-in-Err-clause-decided : goal.returns-in-Err-clause-decided
returns-in-Err-clause-decided c = λ valid. absurd (c.in-Err.ensures.cases.0 valid)
