use Rattle.std.proofs.Common.{length, ◌≡◌, arith, List, ℕ, sym, subst}
use Rattle.std.proofs.lemmas.Bool.Decides.{nat_tests}
use Rattle.dns_authority.specs.declared.service.answering.Answering.{Answering}
use Rattle.dns_durable.specs.Durable.{IsTaken}
use Rattle.dns_durable.specs.Rule.{rule_in, step_of, updates_in}
use Rattle.dns_durable.proofs.ReplayLaws.{HasTaken, taken_all, taken_more, taken_none}
use Rattle.dns_durable.proofs.replaying.replay_update.Goals as goal

pub loop-rest-init : goal.loop-rest-init
loop-rest-init c =
    subst (λ (l : List ℕ). HasTaken (step_of (rule_in c.args.update.now)) c.args.server.now (updates_in c.args.update.now) l c.args.server.now) (sym c.rule_of-answering.ensures.updates)
    (taken_none (step_of (rule_in c.args.update.now)) c.args.server.now (updates_in c.args.update.now))

pub loop-rest-preserved : goal.loop-rest-preserved
loop-rest-preserved c =
    taken_more (step_of (rule_in c.args.update.now)) c.args.server.now c.loop-rest.server c.replay_message.new.server (updates_in c.args.update.now) c.loop-rest.rest.now
    c.in-Some.first.message.now c.in-Some.first.rest.now c.loop-rest.invariant c.in-Some.ensures.parts c.in-Some.ensures.short
    (subst (λ (a : Answering). IsTaken (step_of a) c.loop-rest.server c.in-Some.first.message.now c.replay_message.new.server) c.rule_of-answering.ensures.rule c.in_ok-replay_message.ensures.ok)

pub returns-clause-ok : goal.returns-clause-ok
returns-clause-ok c =
    let none : length c.loop-rest.rest.now ≡ 0 = grind (arith, nat_tests, c.loop-rest-test.ensures) in
    taken_all (step_of (rule_in c.args.update.now)) c.args.server.now c.loop-rest.server (updates_in c.args.update.now) c.loop-rest.rest.now none c.loop-rest.invariant
