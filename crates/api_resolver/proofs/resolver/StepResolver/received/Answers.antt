use Rattle.std.proofs.Common.{◌≡◌, ◌≢◌, None, Some, rules}
use Rattle.api_resolver.specs.Lookup.{awaited_in}
use Rattle.api_resolver.proofs.LookupLaws.{after_the_end, from_another, from_server}
use Rattle.api_resolver.proofs.resolver.StepResolver.received.Goals as goal

pub returns-in_default : goal.returns-in_default
returns-in_default c =
    after_the_end c.args.self.now c.args.lookup.now _ _ _ (let none : awaited_in c.args.lookup.now.state ≡ None = cc in none)

pub returns-then-ne : goal.returns-then-ne
returns-then-ne c =
    from_another c.args.self.now c.args.lookup.now _ _ _ c.in-Some.awaited.now (let some : awaited_in c.args.lookup.now.state ≡ Some c.in-Some.awaited.now = cc in some)
    (let other : c.in-Some.awaited.now.outgoing.server ≢ c.args.from = search rules in other)

pub returns : goal.returns
returns c =
    from_server c.args.self.now c.take.new.self c.args.lookup.now c.take.new.lookup _ _ _ c.in-Some.awaited.now (let some : awaited_in c.args.lookup.now.state ≡ Some c.in-Some.awaited.now = cc in some)
    (let same : c.in-Some.awaited.now.outgoing.server ≡ c.args.from = search rules in same) (search rules)
