use Rattle.std.proofs.Common.{rules, map}
use Rattle.dns_text.specs.Token.{lexeme}
use Rattle.api.specs.messages.Data.{not_in_fields}
use Rattle.api.proofs.DataLaws.{unwritten}
use Rattle.api.proofs.messages.data.data_of.Goals as goal

pub returns-in-Err-UnsupportedRecordType-clause-refused : goal.returns-in-Err-UnsupportedRecordType-clause-refused
returns-in-Err-UnsupportedRecordType-clause-refused c =
    unwritten c.args.zone.now c.args.record_type (map lexeme c.args.tokens.now) c.in-Err-UnsupportedRecordType.field-0 c.opaque_data.result c.in-Err-UnsupportedRecordType.field-0-is
    (c.in-Err-UnsupportedRecordType.ensures.refused (search rules)) c.opaque_data.ensures.refused

pub returns-in-Err : goal.returns-in-Err
returns-in-Err c = record { read = tt; refused = not_in_fields c.in-Err.field-0 (search rules) (c.in-Err.ensures.refused (search rules)) }
