use Rattle.std.proofs.Common.{◌≡◌, true, map}
use Rattle.std.proofs.lemmas.Result.{IfErr-weaker}
use Rattle.dns_text.specs.Token.{lexeme}
use Rattle.dns_zone_file.specs.RecordSets.{has_other_class}
use Rattle.dns_zone_file.specs.declared.error.EntryFault.{EntryFault}
use Rattle.dns_zone_file.specs.declared.error.EntryFault.TheVariants.{ClassMismatch}
use Rattle.dns_zone_file.specs.Context.{RefusesRecord}
use Rattle.dns_zone_file.specs.internal.Error.{IsFault}
use Rattle.zone_lines.proofs.ContextLaws.{Keeps, class_fault}
use Rattle.zone_lines.proofs.context.add_record.Goals as goal

pub returns-clause-refused : goal.returns-clause-refused
returns-clause-refused c =
    let before = c.args.context.now in
    let tokens = map lexeme c.args.tokens.now in
    let added = c.in_ok-added.added in
    IfErr-weaker c.insert_record.result
    (IsFault (λ (refusal : EntryFault). (refusal ≡ ClassMismatch) × (has_other_class before.sets added.parsed ≡ true) × (c.insert_record.new.context ≡ before)))
    (Keeps (RefusesRecord before tokens) before c.insert_record.new.context)
    (λ e. class_fault before c.insert_record.new.context tokens added.stated added.parsed e c.in_ok-added.ensures.ok)
    c.insert_record.ensures.refused
