use Rattle.std.proofs.Common.{rules, nat_lt}
use Rattle.dns_wire.proofs.SuffixLaws.{filter_from_retain_by}
use Rattle.dns_wire.proofs.suffixes.retain_before.Goals as goal

pub returns : goal.returns
returns c = filter_from_retain_by _ (λ e. nat_lt e.offset c.args.offset) _ (λ x b q k. search rules) _ _ c.retain.ensures.filtered
