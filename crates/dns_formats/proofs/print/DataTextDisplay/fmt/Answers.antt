use Rattle.std.proofs.Common.{sym}
use Rattle.dns_wire.specs.codes.RecordType.{type_number}
use Rattle.dns_formats.proofs.FormatLaws.{format_is}
use Rattle.dns_formats.proofs.print.DataTextDisplay.fmt.Goals as goal

pub write_fields-requires-clause-begun : goal.write_fields-requires-clause-begun
write_fields-requires-clause-begun g c = (format_is (type_number c.args.self.now.record_type) c.in-Some.fields.now (sym c.in-Some.ensures)).begun
