use Rattle.std.proofs.Common.{◌≡◌, None, Some, refl}
use Rattle.api_resolver.proofs.ProgressLaws.{asks-next, comes-to-an-end}
use Rattle.api_resolver.proofs.known.progress.look_up.Goals as goal

pub returns-in-Some : goal.returns-in-Some
returns-in-Some c =
    asks-next c.args.options c.args.now c.args.client.now c.args.question c.lookup-reply.result c.lookup-reply.new.self _ c.in-Some.wanted c.requires.wanted
    (let is : c.lookup-reply.new.self.handle.wanted ≡ Some c.in-Some.wanted = cc in is) c.lookup-reply.ensures.lookup refl (cc) refl

pub returns-in-None : goal.returns-in-None
returns-in-None c =
    comes-to-an-end c.args.options c.args.now c.args.client.now c.args.question c.lookup-reply.result c.lookup-reply.new.self _ c.requires.wanted
    (let is : c.lookup-reply.new.self.handle.wanted ≡ None = cc in is) c.lookup-reply.ensures.lookup refl (cc) refl
