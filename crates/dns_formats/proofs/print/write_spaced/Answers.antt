use Rattle.std.proofs.Common.{List, ℕ, subst, rules}
use Rattle.std.specs.Fmt.{HasWritten}
use Rattle.dns_formats.proofs.PrintLaws.{one_written, list_written, not_first}
use Rattle.dns_formats.proofs.print.write_spaced.Goals as goal

pub returns-then-may_be_empty : goal.returns-then-may_be_empty
returns-then-may_be_empty g c = λ plain ok.
    subst (λ (l : List ℕ). HasWritten g.W.Write.write_str_gives c.args.f.now l c.write_list.new.f)
    (list_written c.args.is_first c.args.field c.args.bytes.now (search rules) (not_first c.args.is_first c.args.field c.requires.front (search rules))) (c.write_list.ensures plain ok)

pub returns : goal.returns
returns g c = λ plain ok.
    subst (λ (l : List ℕ). HasWritten g.W.Write.write_str_gives c.args.f.now l c.write_one.new.f)
    (one_written c.args.is_first c.args.field c.args.bytes.now (search rules)) (c.write_one.ensures plain ok)
