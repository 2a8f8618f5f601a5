use Rattle.std.proofs.Common.{List, ℕ, length, subst}
use Rattle.std.specs.Fmt.{HasWritten}
use Rattle.dns_formats.proofs.PrintLaws.{some_of, some_name}
use Rattle.dns_formats.proofs.print.write_name.Goals as goal

pub returns : goal.returns
returns g c = λ plain ok.
    subst (λ (l : List ℕ). HasWritten g.W.Write.write_str_gives c.args.f.now l c.write_labels.new.f)
    (some_name c.args.bytes.now (some_of (length c.args.bytes.now) c.if-is_empty.ensures) c.if-bytes-eq0.false) (c.write_labels.ensures plain ok)
