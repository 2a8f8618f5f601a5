use Rattle.std.proofs.Common.{map}
use Rattle.dns_text.specs.Token.{lexeme}
use Rattle.zone_lines.specs.Reading.{entry_added}
use Rattle.zone_lines.proofs.GenerateLaws.{refused_entry}
use Rattle.zone_lines.proofs.generate.add_entry.Goals as goal

pub returns-in-Ok : goal.returns-in-Ok
returns-in-Ok c = entry_added c.in-Ok.ensures.ok

pub returns-in_ok-fault_line-in-Err-Fault : goal.returns-in_ok-fault_line-in-Err-Fault
returns-in_ok-fault_line-in-Err-Fault c =
    let refused = rw c.in-Err-Fault.field-0-is at c.in-Err-Fault.ensures.refused in
    refused_entry c.args.at (map lexeme c.args.tokens.now) c.args.context.now c.add_record.new.context c.in-Err-Fault.fault _ refused
    c.in_ok-fault_line-in-Err-Fault.ensures
