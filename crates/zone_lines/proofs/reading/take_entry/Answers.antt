use Rattle.std.proofs.Common.{map, refl, subst, sym, Some}
use Rattle.std.specs.Global.{Vec}
use Rattle.dns_text.specs.Token.{lexeme}
use Rattle.dns_zone_file.specs.internal.Entry.{inclusion_view}
use Rattle.dns_zone_file.specs.internal.Parsing.{includes_view}
use Rattle.dns_zone_file.specs.declared.entry.Inclusion.{Inclusion}
use Rattle.zone_lines.specs.internal.Reading.{IncludeStep}
use Rattle.zone_lines.specs.Reading.{Generated, Takes, no_record, one_record}
use Rattle.zone_lines.specs.declared.record_line.EntryLine.{EntryLine}
use Rattle.zone_lines.specs.declared.record_line.EntryLine.TheVariants as kind
use Rattle.zone_lines.specs.declared.record_line.RecordLine.{RecordLine}
use Rattle.zone_lines.proofs.ReadingLaws.{faulted, step_included}
use Rattle.zone_lines.proofs.reading.take_entry.Goals as goal

pub returns-in-Ok-Applied : goal.returns-in-Ok-Applied
returns-in-Ok-Applied c = no_record (rw c.in-Ok-Applied.field-0-is at c.in-Ok-Applied.ensures.ok)

pub returns-in-Ok-Record : goal.returns-in-Ok-Record
returns-in-Ok-Record c =
    let adds = rw c.in-Ok-Record.field-0-is at c.in-Ok-Record.ensures.ok in
    let tokens = map lexeme c.args.tokens.now in
    let taken : Takes (includes_view c.args.includes.now) c.args.depth c.args.is_closed c.args.context.now c.args.at tokens (Some (kind.Record c.in-Ok-Record.found)) c.apply.new.context =
    one_record adds.0 adds.1 adds.2 in
    subst (λ (r : RecordLine).
    Takes (includes_view c.args.includes.now) c.args.depth c.args.is_closed c.args.context.now c.args.at tokens (Some (kind.Record r)) c.apply.new.context)
    (sym c.in-Ok-Record.found-is) taken

pub returns-in-Ok-Generated : goal.returns-in-Ok-Generated
returns-in-Ok-Generated c =
    let made = rw c.in-Ok-Generated.field-0-is at c.in-Ok-Generated.ensures.ok in
    subst (λ (v : Vec EntryLine). Generated c.args.context.now c.args.at (map lexeme c.args.tokens.now) v.items c.apply.new.context)
    (sym c.in-Ok-Generated.found-is) made

pub returns-in-Ok-Includes : goal.returns-in-Ok-Includes
returns-in-Ok-Includes c =
    let includes = rw c.in-Ok-Includes.field-0-is at c.in-Ok-Includes.ensures.ok in
    step_included (includes_view c.args.includes.now) c.args.depth c.args.is_closed c.args.at c.args.context.now c.apply.new.context
    (map lexeme c.args.tokens.now) (inclusion_view c.in-Ok-Includes.inclusion) c.include.result includes.0 includes.1
    (subst (λ (i : Inclusion). IncludeStep (includes_view c.args.includes.now) c.args.depth c.args.is_closed c.args.at (inclusion_view i) c.include.result)
    c.in-Ok-Includes.inclusion-is c.include.ensures)

pub returns-in_ok-recover-in-Err-Fault : goal.returns-in_ok-recover-in-Err-Fault
returns-in_ok-recover-in-Err-Fault c =
    let refused = rw c.in-Err-Fault.field-0-is at c.in-Err-Fault.ensures.refused in
    faulted (includes_view c.args.includes.now) c.args.depth c.args.is_closed c.args.context.now c.apply.new.context c.recover.new.context c.args.at
    (map lexeme c.args.tokens.now) c.in-Err-Fault.fault _ refused.0 refused.1
    refl refl c.in_ok-word-in-Err-Fault.ensures c.type_of-record_type.ensures c.names_start.ensures c.in_ok-apex-in-Err-Fault.ensures c.in_ok-recover-in-Err-Fault.ensures
