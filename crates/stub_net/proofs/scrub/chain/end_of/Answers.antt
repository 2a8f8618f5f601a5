use Rattle.std.proofs.Common.{◌≡◌, ◌+◌, ◌-◌, suc, Some, None, sym, ◌∙◌, arith}
use Rattle.stub_net.specs.scrub.Scrub.{alias_in, max_aliases}
use Rattle.stub_net.proofs.ScrubLaws.{end-none, end-some, end-zero}
use Rattle.stub_net.proofs.scrub.chain.end_of.Goals as goal

pub returns-in-None : goal.returns-in-None
returns-in-None c =
    let none : alias_in c.args.query.now c.loop-followed.name.now c.args.answers.now ≡ None = sym c.in-None.ensures in
    sym (end-none _ c.args.query.now c.args.answers.now c.loop-followed.name.now none) ∙ c.loop-followed.invariant

pub loop-followed-preserved : goal.loop-followed-preserved
loop-followed-preserved c =
    let found : alias_in c.args.query.now c.loop-followed.name.now c.args.answers.now ≡ Some (c.in-Some._alias.now, c.in-Some.target.now) = sym c.in-Some.ensures in
    let limit = max_aliases c.args.query.now in
    let more : limit - c.loop-followed._followed ≡ suc (limit - (c.loop-followed._followed + 1)) = omega (arith, c.max_aliases-followed-end.ensures) in
    sym (end-some (limit - c.loop-followed._followed) (limit - (c.loop-followed._followed + 1)) c.args.query.now c.args.answers.now c.loop-followed.name.now c.in-Some.target.now c.in-Some._alias.now more found)
    ∙ c.loop-followed.invariant

pub returns : goal.returns
returns c =
    sym (end-zero (max_aliases c.args.query.now - c.loop-followed._followed) c.args.query.now c.args.answers.now c.loop-followed.name.now
    (omega (arith, c.max_aliases-followed-end.ensures))) ∙ c.loop-followed.invariant
