use Rattle.std.proofs.Common.{◌++◌, ◌∷◌, [], ◌∙◌, ap, arith}
use Rattle.dns_records.specs.Record.{Record}
use Rattle.dns_authority.proofs.CopyLaws.{all_copies, copies_are, copy_of, one_more_copy}
use Rattle.dns_authority.proofs.copies.copies.Goals as goal

pub loop-record-preserved : goal.loop-record-preserved
loop-record-preserved c =
    c.in_ok-push.ensures.ok ∙ ap (λ (r : Record). c.loop-record.copies ++ r ∷ []) c.in_ok-copy.ensures
    ∙ one_more_copy (copy_of c.args.owner.now) c.args.stored.now c.loop-record.record-index c.record-item.result c.loop-record.copies (omega arith) c.record-item.is c.loop-record.invariant

pub returns : goal.returns
returns c =
    all_copies (copy_of c.args.owner.now) c.args.stored.now c.loop-record.record-index c.loop-record.copies (omega arith) c.loop-record.invariant
    ∙ copies_are c.args.owner.now c.args.stored.now
