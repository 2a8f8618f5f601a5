use Rattle.std.proofs.Common.{Some, map}
use Rattle.dns_wire.specs.codes.RecordType.{type_number}
use Rattle.dns_text.specs.Token.{lexeme}
use Rattle.dns_formats.specs.Field.{fields_of}
use Rattle.dns_zone_file.proofs.DataLaws.{bytes_short}
use Rattle.dns_zone_file.proofs.data.read_bytes.Goals as goal

pub returns-in-Ok-clause-fits : goal.returns-in-Ok-clause-fits
returns-in-Ok-clause-fits c =
    bytes_short (Some c.args.origin.now) (fields_of (type_number c.args.record_type)) (map lexeme c.args.tokens.now) c.in-Ok.bytes.items c.in-Ok.ensures.ok
