use Rattle.std.proofs.Common.{sym, ap, not, take, refl}
use Rattle.dns_records.specs.Record.{Record}
use Rattle.dns_messages.specs.declared.response_code.ResponseCode.TheVariants.{NXRRSet}
use Rattle.dns_updates.specs.Records.{is_in_class}
use Rattle.dns_updates.specs.Code.{fault_if, has_required}
use Rattle.dns_updates.proofs.UpdateLaws.Codes.{and_both}
use Rattle.dns_updates.proofs.CodeLaws.{first_tested, others_tested, all_fails}
use Rattle.dns_updates.proofs.code.required_sets.sets_code_by_search.Goals as goal
use Rattle.dns_updates.proofs.code.required_sets.sets_code_by_search.Goals.{else-is_first_of_set-via-then-is_first_of_set+else-not-has_required, else-is_first_of_set-via-else-is_first_of_set}

pub returns-then-not-has_required : goal.returns-then-not-has_required
returns-then-not-has_required g c =
    sym (ap (λ b. fault_if (not b) NXRRSet)
    (all_fails (has_required (g.Z.ZoneRows.rows c.args.zone.now) c.args.prerequisites.now) (λ (r : Record). is_in_class r.dns_class) c.args.prerequisites.now c.loop-i.i c.index-prerequisites-i.result c.loop-i-test.true c.index-prerequisites-i.is
    (and_both (is_in_class c.index-prerequisites-i.result.dns_class) _ (sym c.if-is_first_of_set.ensures)).0
    (sym c.if-not-has_required.ensures)))

pub loop-i-preserved : goal.loop-i-preserved
loop-i-preserved g c =
    elim c.else-is_first_of_set.branch [
      | else-is_first_of_set-via-then-is_first_of_set+else-not-has_required w ↦
          first_tested c.equal_labels_have_equal_lowercase.ensures (g.Z.ZoneRows.rows c.args.zone.now) c.args.prerequisites.now c.loop-i.i c.index-prerequisites-i.result c.loop-i-test.true c.index-prerequisites-i.is c.loop-i.invariant
          (sym w.if-not-has_required.ensures)
      | else-is_first_of_set-via-else-is_first_of_set w ↦
          others_tested c.equal_labels_have_equal_lowercase.ensures (g.Z.ZoneRows.rows c.args.zone.now) c.args.prerequisites.now c.loop-i.i c.index-prerequisites-i.result (take c.loop-i.i c.args.prerequisites.now) refl c.loop-i-test.true c.index-prerequisites-i.is c.loop-i.invariant
          (sym w.if-is_first_of_set.ensures)
    ]
