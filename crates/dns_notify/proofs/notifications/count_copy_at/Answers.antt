use Rattle.dns_notify.proofs.SecondaryLaws.{copy_at}
use Rattle.dns_notify.proofs.notifications.count_copy_at.Goals as goal

pub returns-clause-address : goal.returns-clause-address
returns-clause-address c =
    (copy_at c.args.retries.now c.args.now c.args.secondaries.now c.args.place _ c.count_copy.new.self c.requires.place c.count_copy.ensures).0

pub returns-clause-left : goal.returns-clause-left
returns-clause-left c =
    (copy_at c.args.retries.now c.args.now c.args.secondaries.now c.args.place _ c.count_copy.new.self c.requires.place c.count_copy.ensures).1
