use Rattle.dns_authority.proofs.MalformedLaws.{PassesNoOpt}
use Rattle.dns_authority.proofs.replies.malformed.is_opt_among.Given as goal

abbrev pub invariant-loop-record : goal.invariant-loop-record
invariant-loop-record l =
    (goal.iterator-loop-record).can_next l.record-iterator
    × ((goal.iterator-loop-record).is_finite l.record-iterator × PassesNoOpt l.fn.records l.record-iterator)
