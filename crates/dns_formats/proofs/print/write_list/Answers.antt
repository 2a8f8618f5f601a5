use Rattle.std.proofs.Common.{List, ℕ, subst}
use Rattle.std.specs.Fmt.{HasWritten}
use Rattle.dns_formats.proofs.PrintLaws.{types_list, parameters_list}
use Rattle.dns_formats.proofs.print.write_list.Goals as goal

pub returns-in-Types : goal.returns-in-Types
returns-in-Types g c = λ plain ok.
    subst (λ (l : List ℕ). HasWritten g.W.Write.write_str_gives c.args.f.now l c.write_types.new.f)
    (types_list c.args.field c.args.bytes.now c.in-Types.is) (c.write_types.ensures plain ok)

pub returns-in-Parameters : goal.returns-in-Parameters
returns-in-Parameters g c = λ plain ok.
    subst (λ (l : List ℕ). HasWritten g.W.Write.write_str_gives c.args.f.now l c.write_parameters.new.f)
    (parameters_list c.args.field c.args.bytes.now c.in-Parameters.is) (c.write_parameters.ensures plain ok)
