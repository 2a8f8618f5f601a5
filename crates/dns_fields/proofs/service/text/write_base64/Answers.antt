use Rattle.std.proofs.Common.{List, ℕ, sym, subst, arith}
use Rattle.std.specs.Fmt.{HasWritten}
use Rattle.dns_fields.proofs.PlainLaws.{plain_word, base64_simple, octets_are}
use Rattle.dns_fields.proofs.service.text.write_base64.Goals as goal

pub returns : goal.returns
returns g c = λ plain ok. subst (λ (l : List ℕ). HasWritten g.W.Write.write_str_gives c.args.f.now l c.write_encoded.new.f) (sym (plain_word _ (base64_simple c.args.bytes.now (octets_are c.args.bytes.now (λ i. let f = c.type_inv.bytes i in omega arith))))) (c.write_encoded.ensures plain ok)
