use Rattle.std.proofs.Common.{◌-◌, arith}
use Rattle.dns_message_bytes.proofs.SectionViewLaws.{query_lent, no_query_lent, query_not_refused}
use Rattle.dns_message_bytes.proofs.view.query_views.QueryViewsIterator.next.Goals as goal

pub returns-then-self-eq0-clause-steps : goal.returns-then-self-eq0-clause-steps
returns-then-self-eq0-clause-steps c = λ qs has. no_query_lent c.args.self.now qs c.if-self-eq0.true has

pub returns-in-Ok-clause-steps : goal.returns-in-Ok-clause-steps
returns-in-Ok-clause-steps c = λ qs has.
    let old = c.args.self.now in
    let found = c.in-Ok.ensures.read in
    query_lent old (record { decoder = c.read.new.decoder; left = old.left - 1 }) c.in-Ok.view found.0 qs (omega (arith, c.if-self-eq0.false))
    found.1.0 found.1.1 c.in-Ok.ensures.bytes (omega (arith, c.if-self-eq0.false)) has

pub returns-in-Err-clause-steps : goal.returns-in-Err-clause-steps
returns-in-Err-clause-steps c = λ qs has.
    let old = c.args.self.now in
    query_not_refused old (record { decoder = c.read.new.decoder; left = 0 }) c.in-Err.field-0 qs (omega (arith, c.if-self-eq0.false)) c.in-Err.ensures.refused has
