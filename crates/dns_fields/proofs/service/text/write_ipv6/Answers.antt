use Rattle.std.proofs.Common.{List, ℕ, sym, subst, drop}
use Rattle.std.specs.Fmt.{HasWritten}
use Rattle.dns_fields.specs.service.Text.{group_text, more_groups}
use Rattle.dns_fields.proofs.TextLaws.{word_append}
use Rattle.dns_fields.proofs.service.text.write_ipv6.Goals as goal

pub returns : goal.returns
returns g c = λ plain ok. subst (λ (l : List ℕ). HasWritten g.W.Write.write_str_gives c.args.f.now l c.write_groups.new.f) (sym (word_append (group_text c.args.bytes.now) (more_groups 7 (drop 2 c.args.bytes.now)))) (c.write_groups.ensures plain ok)
