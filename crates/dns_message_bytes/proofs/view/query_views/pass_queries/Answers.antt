use Rattle.std.proofs.Common.{ℕ, List, refl, subst, ◌∙◌, arith}
use Rattle.dns_messages.specs.Grammar.{ReadsQuestion, RefusesQuestion}
use Rattle.dns_message_bytes.proofs.PassedLaws.{none_passed, one_more}
use Rattle.dns_message_bytes.proofs.view.query_views.pass_queries.Goals as goal

pub loop-init : goal.loop-init
loop-init c = record {
  passed = none_passed (ReadsQuestion c.args.decoder.now.bytes) c.args.decoder.now.index;
  same_bytes = refl;
}

pub loop-preserved : goal.loop-preserved
loop-preserved c =
    let inv = c.loop.invariant in
    let old = c.args.decoder.now in
    let now = c.loop.decoder in
    let new = c.read.new.decoder in
    let found = c.in-Ok.ensures.read in
    let here = subst (λ (bs : List ℕ). ReadsQuestion bs now.index found.0 new.index) inv.same_bytes found.1.0 in
    record {
      passed = one_more (ReadsQuestion old.bytes) old.index c.loop.counter now.index new.index found.0 inv.passed here;
      same_bytes = c.in-Ok.ensures.bytes ∙ inv.same_bytes;
    }

pub returns-in-Err-clause-refused : goal.returns-in-Err-clause-refused
returns-in-Err-clause-refused c =
    let inv = c.loop.invariant in
    let now = c.loop.decoder in
    record {
      front = inv.passed.items;
      middle = now.index;
      queries = inv.passed.follow;
      counted = omega (arith, inv.passed.count_is, c.loop-test.true);
      next = subst (λ (bs : List ℕ). RefusesQuestion bs now.index c.in-Err.error) inv.same_bytes c.in-Err.ensures.refused;
    }

pub returns-clause-read : goal.returns-clause-read
returns-clause-read c =
    let passed = c.loop.invariant.passed in
    (passed.items, record { queries = passed.follow; count_is = omega (arith, passed.count_is) })
