use Rattle.std.proofs.Common.{rules}
use Rattle.dns_wire.proofs.SuffixLaws.{filter_from_retain_by}
use Rattle.dns_messages.specs.Message.{is_without_dnssec}
use Rattle.dns_messages.proofs.message.dnssec.strip_dnssec.Goals as goal

pub returns : goal.returns
returns c = filter_from_retain_by _ (is_without_dnssec c.args.asked) _ (λ x b q k. search rules) _ _ c.retain.ensures
