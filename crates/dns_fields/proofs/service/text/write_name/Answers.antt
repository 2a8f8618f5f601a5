use Rattle.std.proofs.Common.{List, ℕ, sym, subst, arith}
use Rattle.std.specs.Fmt.{HasWritten}
use Rattle.dns_fields.proofs.PlainLaws.{plain_word, key_simple}
use Rattle.dns_fields.proofs.service.text.write_name.Goals as goal

pub returns : goal.returns
returns g c = λ plain ok. subst (λ (l : List ℕ). HasWritten g.W.Write.write_str_gives c.args.f.now l c.write_key.new.f) (sym (plain_word _ (key_simple c.args.key (omega arith)))) (c.write_key.ensures plain ok)
