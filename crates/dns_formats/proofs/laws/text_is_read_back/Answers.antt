use Rattle.std.proofs.Common.{List, Option, sym, ap, ◌∙◌}
use Rattle.dns_wire.specs.codes.RecordType.{type_number}
use Rattle.dns_formats.specs.Print.{format_text}
use Rattle.dns_formats.specs.declared.field.Field.{Field}
use Rattle.dns_formats.proofs.DataLaws.{printed_fields, printed_generic}
use Rattle.dns_formats.proofs.laws.text_is_read_back.Goals as goal

pub returns : goal.returns
returns c = record {
  format = λ record_type fields bytes p of fit are small closed text.
      printed_fields (type_number record_type) p fields bytes of are small fit closed (text ∙ ap (λ (o : Option (List Field)). format_text o bytes) (sym of));
  generic = λ record_type bytes p may are small closed text. printed_generic (type_number record_type) p bytes may are small closed text;
}
