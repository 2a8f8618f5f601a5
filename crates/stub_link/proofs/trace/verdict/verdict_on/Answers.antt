use Rattle.std.proofs.Common.{sym, ◌∙◌}
use Rattle.std.specs.Option.{option_copied}
use Rattle.stub_link.proofs.VerdictLaws.{header-other, none-other}
use Rattle.stub_link.proofs.trace.verdict.verdict_on.Goals as goal

pub returns-in-None-clause-dropped : goal.returns-in-None-clause-dropped
returns-in-None-clause-dropped c = λ drops.
    none-other c.headers_are_peeked.ensures c.args.id (option_copied c.args.question) c.args.bytes.now (sym c.peek.ensures ∙ c.in-None.is)

pub returns-in-Some-fault_of_header-clause-dropped : goal.returns-in-Some-fault_of_header-clause-dropped
returns-in-Some-fault_of_header-clause-dropped c = λ drops.
    header-other c.headers_are_peeked.ensures c.args.id (option_copied c.args.question) c.args.bytes.now c.in-Some.header
    c.in-Some-fault_of_header.fault (sym c.peek.ensures ∙ c.in-Some.is)
    (rw c.in-Some-fault_of_header.is at c.fault_of_header.ensures.fault)
