use Rattle.std.proofs.Common.{◌∙◌, [], List, ℕ, ap, inl, inr, map, refl, subst}
use Rattle.std.specs.Global.{Vec}
use Rattle.std.specs.Prelude.{is_err}
use Rattle.std.specs.declared.net.socket_addr.SocketAddr.{SocketAddr}
use Rattle.dns_sockets.specs.Handler.{RequestContent, message_bytes, request_content}
use Rattle.dns_sockets.specs.Stream.{AreAnswered, stream_request}
use Rattle.dns_sockets.proofs.StreamStepLaws.{none_leave, taken_leave}
use Rattle.dns_sockets.proofs.stream.Stream.answer.Goals as goal

pub returns-in_err-gathered-clause-calls : goal.returns-in_err-gathered-clause-calls
returns-in_err-gathered-clause-calls g c = record { events = []; led = refl; holds = (inl refl, none_leave _ _ _ c.from_residual.ensures.0) }

pub returns-in_err-requests-clause-calls : goal.returns-in_err-requests-clause-calls
returns-in_err-requests-clause-calls g c = record { events = []; led = refl; holds = (inl refl, none_leave _ _ _ c.from_residual-in_err-requests.ensures.0) }

pub returns-clause-calls : goal.returns-clause-calls
returns-clause-calls g c =
    let done = c.respond.ensures.calls in
    let are = ap (map request_content) c.as_slice-2.ensures.value ∙ c.in_ok-requests.ensures
    ∙ ap (λ (messages : List (Vec ℕ)). map (stream_request c.gather.new.self.peer c.args.now) (map message_bytes messages)) c.as_slice.ensures.value in
    record {
      events = done.events;
      led = done.led;
      holds = (
        inr (
          map message_bytes c.in_ok-gathered.gathered.items,
          subst (λ (rs : List RequestContent). AreAnswered c.args.is_busy rs done.events)
              (are ∙ ap (λ (peer : SocketAddr). map (stream_request peer c.args.now) (map message_bytes c.in_ok-gathered.gathered.items)) c.in_ok-gathered.ensures.kept.peer) done.holds.0,
        ),
        taken_leave (is_err c.respond.result) c.args.self.now c.gather.new.self c.respond.new.self c.args.now (map message_bytes c.in_ok-gathered.gathered.items)
            (map request_content c.as_slice-2.result.now) done.events c.requires c.in_ok-gathered.ensures.taken c.in_ok-gathered.ensures.kept c.respond.ensures.kept are done.holds.1,
      );
    }

pub returns-clause-active : goal.returns-clause-active
returns-clause-active g c = c.respond.ensures.kept.active ∙ c.in_ok-gathered.ensures.kept.active
