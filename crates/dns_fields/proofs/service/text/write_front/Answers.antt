use Rattle.std.proofs.Common.{sym, subst}
use Rattle.std.specs.Fmt.{HasWritten}
use Rattle.dns_fields.specs.service.Text.{word_text, front_item}
use Rattle.dns_fields.specs.declared.service.list.Item.{Item}
use Rattle.dns_fields.proofs.service.text.write_front.Goals as goal

pub returns-in-Address6 : goal.returns-in-Address6
returns-in-Address6 g c = λ plain ok.
    subst (λ (k : Item). HasWritten g.W.Write.write_str_gives c.args.f.now (word_text (front_item k c.args.bytes.now)) c.write_ipv6.new.f) (sym c.in-Address6.is)
    (c.write_ipv6.ensures plain ok)
