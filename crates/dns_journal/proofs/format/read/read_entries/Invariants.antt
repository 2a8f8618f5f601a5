use Rattle.std.proofs.Common.{length, map}
use Rattle.dns_journal.proofs.JournalLaws.{ReadSoFar}
use Rattle.dns_journal.proofs.format.read.read_entries.Given as goal

-- the payloads so far are those of the entries before the rest
abbrev pub invariant-loop-found : goal.invariant-loop-found
invariant-loop-found l = ReadSoFar l.key l.fn.first l.start (map (λ p. p.now) l.payloads.items) l.link l.place l.rest l.bytes

abbrev pub decreases-loop-found : goal.decreases-loop-found
decreases-loop-found l = length l.rest
