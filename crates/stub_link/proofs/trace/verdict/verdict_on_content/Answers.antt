use Rattle.std.specs.Option.{option_copied}
use Rattle.stub_link.proofs.VerdictLaws.{content-verdicts}
use Rattle.stub_link.proofs.trace.verdict.verdict_on_content.Goals as goal

pub returns-in-Some-clause-verdict : goal.returns-in-Some-clause-verdict
returns-in-Some-clause-verdict c =
    (c.in-Some.response, rw (c.in-Some.is, c.in_ok-copy.ensures.items) at c.in_ok-found.ensures.found)

pub returns-in-None-clause-verdict : goal.returns-in-None-clause-verdict
returns-in-None-clause-verdict c =
    content-verdicts c.headers_are_peeked.ensures c.args.id (option_copied c.args.question) c.args.bytes.now c.fault_of_content.result c.requires
    (rw (c.in-None.is, c.in_ok-copy.ensures.items) at c.in_ok-found.ensures.found) c.fault_of_content.ensures
