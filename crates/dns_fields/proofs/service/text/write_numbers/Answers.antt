use Rattle.std.proofs.Common.{List, ℕ, sym, subst, arith}
use Rattle.std.specs.Fmt.{HasWritten}
use Rattle.dns_fields.proofs.PlainLaws.{plain_word, dotted_simple}
use Rattle.dns_fields.proofs.service.text.write_numbers.Goals as goal

pub returns : goal.returns
returns g c = λ plain ok. subst (λ (l : List ℕ). HasWritten g.W.Write.write_str_gives c.args.f.now l c.write_dotted.new.f) (sym (plain_word _ (dotted_simple c.args.a c.args.b c.args.c c.args.d (omega arith) (omega arith) (omega arith) (omega arith)))) (c.write_dotted.ensures plain ok)
