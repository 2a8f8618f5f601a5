use Rattle.std.proofs.Common.{◌∙◌, ap, sym}
use Rattle.std.specs.Vec.Iter.{into_iter_items}
use Rattle.nameserver_handlers.specs.Grants.{has_name}
use Rattle.nameserver_handlers.proofs.PolicyLaws.{key_more, key_twice}
use Rattle.nameserver_handlers.proofs.policy.add_all.Goals as goal

pub returns-then-has_name-clause-refused : goal.returns-then-has_name-clause-refused
returns-then-has_name-clause-refused c = λ has_memory.
    let inv = c.loop-key.invariant in
    key_twice c.args.keys.now.items c.loop-key.keys.items inv.0 c.args.found.items (into_iter_items c.loop-key.key-iterator) (into_iter_items c.next.new.self) c.in-Some.key inv.1.0 inv.1.1.0 c.in-Some.ensures.steps.0
    (ap (λ keys. has_name keys c.in-Some.key.name.items) (sym c.as_slice.ensures.value) ∙ sym c.has_name.ensures ∙ c.if-has_name.true)

pub loop-key-preserved : goal.loop-key-preserved
loop-key-preserved c =
    let inv = c.loop-key.invariant in
    key_more c.args.keys.now.items c.loop-key.keys.items inv.0 c.args.found.items (into_iter_items c.loop-key.key-iterator) (into_iter_items c.next.new.self) c.in-Some.key inv.1.0 inv.1.1.0 c.in-Some.ensures.steps.0
    c.push.new.self.items inv.1.1.1 c.in_ok-push.ensures.items
    (ap (λ keys. has_name keys c.in-Some.key.name.items) (sym c.as_slice.ensures.value) ∙ sym c.has_name.ensures ∙ c.if-has_name.false)
