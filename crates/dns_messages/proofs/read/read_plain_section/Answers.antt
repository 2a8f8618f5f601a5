use Rattle.std.proofs.Common.{◌≡◌, ◌∙◌, false, Ok, refl, ap}
use Rattle.dns_messages.specs.Grammar.{kind_of}
use Rattle.dns_messages.specs.declared.section.SectionRecords.{SectionRecords}
use Rattle.dns_messages.proofs.BareLaws.{empty_section}
use Rattle.dns_messages.proofs.SectionLaws.{plain_records}
use Rattle.dns_messages.proofs.read.read_plain_section.Goals as goal

pub returns-clause-read : goal.returns-clause-read
returns-clause-read c =
    let d0 = c.args.decoder.now in
    plain_records d0.bytes (kind_of c.args.op_code false) d0.index c.args.count c.read.new.self c.read.new.decoder.index refl c.in_ok-read.ensures.read

pub returns-in_err-read-clause-decided : goal.returns-in_err-read-clause-decided
returns-in_err-read-clause-decided c = λ none. let never = (c.in_err-read.ensures.decided none).0 in absurd (cc never)

pub returns-clause-decided : goal.returns-clause-decided
returns-clause-decided c = λ none.
    let empty : c.read.new.self ≡ empty_section = (c.in_ok-read.ensures.decided none).1 ∙ c.new-section.ensures in
    ap (λ (s : SectionRecords). Ok s.records) empty
