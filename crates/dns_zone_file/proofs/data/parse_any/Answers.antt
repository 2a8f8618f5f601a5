use Rattle.std.proofs.Common.{map, sym}
use Rattle.std.proofs.lemmas.Result.{IfOk-weaker, IfErr-weaker, err_from_is_err_and}
use Rattle.dns_text.specs.Token.{lexeme}
use Rattle.dns_zone_file.specs.Data.{IsDataOf, RefusesBytes, IsAnyData, RefusesAny, RefusesValues}
use Rattle.dns_zone_file.specs.internal.Error.{IsFault}
use Rattle.dns_zone_file.proofs.DataLaws.{values_fault, format_fault, bytes_read, bytes_fault}
use Rattle.dns_zone_file.proofs.data.parse_any.Goals as goal

pub returns-then-not-has_bytes-clause-refused : goal.returns-then-not-has_bytes-clause-refused
returns-then-not-has_bytes-clause-refused c =
    let tokens = map lexeme c.args.tokens.now in
    IfErr-weaker c.parse_values.result (IsFault (RefusesValues c.args.origin.now c.args.record_type tokens)) (IsFault (RefusesAny c.args.origin.now c.args.record_type tokens))
    (values_fault c.args.origin.now c.args.record_type tokens (sym (c.if-not-has_bytes.ensures))) c.parse_values.ensures.refused

pub returns-in_err-bytes-clause-refused : goal.returns-in_err-bytes-clause-refused
returns-in_err-bytes-clause-refused c =
    let p = err_from_is_err_and c.from_residual.result c.from_residual.ensures.1 in
    rw (p.1, p.2) (format_fault c.args.origin.now c.args.record_type (map lexeme c.args.tokens.now) (sym (c.if-not-has_bytes.ensures)) c.in_err-bytes.field-0.0 c.in_err-bytes.ensures.refused)

pub returns-clause-parsed : goal.returns-clause-parsed
returns-clause-parsed c =
    let tokens = map lexeme c.args.tokens.now in
    IfOk-weaker c.data_of.result (IsDataOf c.args.record_type c.as_slice.result.now) (IsAnyData c.args.origin.now c.args.record_type tokens)
    (bytes_read c.args.origin.now c.args.record_type tokens (sym (c.if-not-has_bytes.ensures)) c.in_ok-bytes.bytes.items c.as_slice.result.now c.in_ok-bytes.ensures.ok c.as_slice.ensures.value)
    c.data_of.ensures.ok

pub returns-clause-refused : goal.returns-clause-refused
returns-clause-refused c =
    let tokens = map lexeme c.args.tokens.now in
    IfErr-weaker c.data_of.result (IsFault (RefusesBytes c.args.record_type c.as_slice.result.now)) (IsFault (RefusesAny c.args.origin.now c.args.record_type tokens))
    (bytes_fault c.args.origin.now c.args.record_type tokens (sym (c.if-not-has_bytes.ensures)) c.in_ok-bytes.bytes.items c.as_slice.result.now c.in_ok-bytes.ensures.ok c.as_slice.ensures.value)
    c.data_of.ensures.refused
