use Rattle.std.proofs.Common.{rules, map}
use Rattle.dns_text.specs.Token.{lexeme}
use Rattle.api.specs.messages.Data.{no_bytes}
use Rattle.api.proofs.DataLaws.{unfilled}
use Rattle.api.proofs.messages.data.opaque_data.Goals as goal

pub returns-in-Ok-clause-refused : goal.returns-in-Ok-clause-refused
returns-in-Ok-clause-refused c =
    unfilled c.args.zone.now c.args.record_type (map lexeme c.args.tokens.now) c.in-Ok.bytes.items c.filled_data.result c.in-Ok.ensures.ok c.filled_data.ensures.refused

pub returns-in-Err : goal.returns-in-Err
returns-in-Err c = record { read = tt; refused = no_bytes c.in-Err.field-0 (c.in-Err.ensures.refused (search rules)) }
