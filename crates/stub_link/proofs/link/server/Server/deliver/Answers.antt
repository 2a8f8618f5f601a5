use Rattle.std.proofs.Common.{ap, refl, ◌∙◌, ◌++◌, ◌∷◌, [], List, ℕ, map}
use Rattle.std.specs.Global.{Vec}
use Rattle.dns_zone.specs.declared.transport.Transport.TheVariants.{Datagram}
use Rattle.stub_link.proofs.Delivering.{delivered, replied}
use Rattle.stub_link.proofs.link.server.Server.deliver.Goals as goal

pub returns-in-Some-clause-ok : goal.returns-in-Some-clause-ok
returns-in-Some-clause-ok c = λ state m s r. (
  refl,
  delivered c.messages_decode_unambiguously.ensures.same c.args.self.now _ state c.args.bytes.now c.in-Some.reply.items m s r (rw c.in-Some.is at c.in_ok-reply.ensures.reply) refl
      (c.push_reply.ensures ∙ ap (λ (xs : List (Vec ℕ)). map (λ (b : Vec ℕ). b.items) xs ++ c.in-Some.reply.items ∷ []) c.in_ok-reserve.ensures.items),
)

pub returns-in-None-clause-ok : goal.returns-in-None-clause-ok
returns-in-None-clause-ok c = λ state m s r. replied c.args.self.now.zone (Datagram c.args.self.now.limit) c.args.bytes.now c.serve.new.self m r (rw c.in-None.is at c.in_ok-reply.ensures.reply)
