use Rattle.dns_tsig.specs.Skip.{after_questions}
use Rattle.dns_tsig.proofs.SkipLaws.{question_skipped, question_refused, questions_skipped}
use Rattle.dns_tsig.proofs.skip.after_questions.Goals as goal

pub loop-preserved : goal.loop-preserved
loop-preserved c =
    question_skipped c.loop.counter c.args.count c.loop.rest.now c.in-Some.more.now (after_questions c.args.count c.args.bytes.now)
    c.loop-test.true c.in-Some.ensures c.loop.invariant

pub returns-in-None : goal.returns-in-None
returns-in-None c =
    question_refused c.loop.counter c.args.count c.loop.rest.now (after_questions c.args.count c.args.bytes.now)
    c.loop-test.true c.in-None.ensures c.loop.invariant

pub returns : goal.returns
returns c =
    questions_skipped c.loop.counter c.args.count c.loop.rest.now (after_questions c.args.count c.args.bytes.now) c.loop-test.false c.loop.invariant
