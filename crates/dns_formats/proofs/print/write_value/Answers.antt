use Rattle.std.proofs.Common.{List, ℕ, subst}
use Rattle.std.specs.Fmt.{HasWritten}
use Rattle.dns_formats.proofs.PrintLaws.{tag_written}
use Rattle.dns_formats.proofs.print.write_value.Goals as goal

pub returns-in-Tag : goal.returns-in-Tag
returns-in-Tag g c = λ plain ok.
    subst (λ (l : List ℕ). HasWritten g.W.Write.write_str_gives c.args.f.now l c.write_label.new.f)
    (tag_written c.args.field c.args.bytes.now c.counted_octets-in-Tag.result.now c.in-Tag.is c.counted_octets-in-Tag.ensures c.requires) (c.write_label.ensures plain ok)
