use Rattle.std.proofs.Common.{rules}
use Rattle.dns_transfers.proofs.RecordedLaws.{new_known_if}
use Rattle.dns_transfers.proofs.replies.recorder.Recorder.new.Goals as goal

pub returns-clause-known : goal.returns-clause-known
returns-clause-known c = new_known_if c.args.limits c.args.zones.now c.match-limits.histories.items (search rules)
