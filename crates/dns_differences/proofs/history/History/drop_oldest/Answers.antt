use Rattle.dns_differences.proofs.OctetLaws.{counted_kept}
use Rattle.dns_differences.proofs.history.History.drop_oldest.Goals as goal

pub invariant_of-self : goal.invariant_of-self
invariant_of-self c = record {
  counted =
      counted_kept c.args.self.now.differences.items c.rotate_left.new.self.items c.truncate.new.self.items c.args.self.now.lengths.items c.rotate_left-2.new.self.items
      c.truncate-2.new.self.items c.first_kept-start.result _ c.rotate_left.ensures.items c.truncate.ensures.items c.rotate_left-2.ensures.items c.truncate-2.ensures.items
      c.args.self.now.counted;
}
