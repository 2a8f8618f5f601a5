use Rattle.std.proofs.Common.{List, ℕ, sym, subst}
use Rattle.std.specs.Fmt.{HasWritten}
use Rattle.dns_fields.proofs.PlainLaws.{plain_word, pairs_simple}
use Rattle.dns_fields.proofs.service.text.write_pairs.Goals as goal

pub returns : goal.returns
returns g c = λ plain ok. subst (λ (l : List ℕ). HasWritten g.W.Write.write_str_gives c.args.f.now l c.write_digits.new.f) (sym (plain_word _ (pairs_simple c.args.high c.args.low c.requires.0 c.requires.1))) (c.write_digits.ensures plain ok)
