use Rattle.std.proofs.Common.{◌≡◌, ℕ, List, Some, refl, subst, sym, ◌∙◌}
use Rattle.dns_messages.specs.Grammar.{ReadsMessage}
use Rattle.dns_zone.specs.declared.transport.Transport.TheVariants.{Stream}
use Rattle.dns_zone.specs.Serving.{Serves, sent_reply}
use Rattle.stub_link.specs.ScriptedLink.{IsRequest}
use Rattle.stub_link.proofs.Delivering.{replied, served-reply, streamed}
use Rattle.stub_link.proofs.link.server.Server.ask_stream.Goals as goal

pub returns-in-Some : goal.returns-in-Some
returns-in-Some c = record {
  ok = λ state m s r within.
      let served : Serves c.args.self.now.zone Stream c.as_slice.result.now (Some c.in-Some.reply.items) c.serve.new.self = rw c.in-Some.is at c.in_ok-reply.ensures.reply in
      let request : IsRequest c.as_slice.result.now m = subst (λ (bs : List ℕ). IsRequest bs m) (sym (c.as_slice.ensures.value ∙ c.in_ok-request.ensures)) r in (
        subst (λ (bs : List ℕ). ReadsMessage bs (sent_reply state.zone Stream m)) (sym (c.in_ok-through_stream-in-Some.ensures ∙ c.as_slice-in-Some.ensures.value))
            (served-reply c.messages_decode_unambiguously.ensures.same c.args.self.now.zone Stream c.as_slice.result.now c.in-Some.reply.items c.serve.new.self state m s.zone request served),
        streamed c.messages_decode_unambiguously.ensures.same c.args.self.now _ state c.as_slice.result.now c.in-Some.reply.items m s request served refl refl,
      );
}

pub returns : goal.returns
returns c = record {
  ok = λ state m s r within.
      let request : IsRequest c.as_slice.result.now m = subst (λ (bs : List ℕ). IsRequest bs m) (sym (c.as_slice.ensures.value ∙ c.in_ok-request.ensures)) r in
      replied c.args.self.now.zone Stream c.as_slice.result.now c.serve.new.self m request (rw c.in-None.is at c.in_ok-reply.ensures.reply);
}
