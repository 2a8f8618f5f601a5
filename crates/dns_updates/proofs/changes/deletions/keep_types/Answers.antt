use Rattle.std.proofs.Common.{rules}
use Rattle.dns_wire.specs.codes.RecordType.{type_number}
use Rattle.dns_wire.specs.declared.codes.record_type.RecordType.{RecordType}
use Rattle.dns_wire.proofs.SuffixLaws.{filter_from_retain_by}
use Rattle.dns_updates.specs.Change.{is_kept_set}
use Rattle.dns_updates.proofs.changes.deletions.keep_types.Goals as goal

pub returns : goal.returns
returns c = filter_from_retain_by _ (λ (t : RecordType). is_kept_set c.args.origin.now c.args.owner.now (type_number t)) _ (λ x b q k. search rules) _ _ c.retain.ensures.filtered
