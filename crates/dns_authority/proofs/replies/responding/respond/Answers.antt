use Rattle.std.proofs.Common.{Option, subst}
use Rattle.dns_messages.specs.declared.message.Message.{Message}
use Rattle.dns_zone.specs.Request.{DecodesRequest}
use Rattle.dns_authority.specs.replies.Responding.IsSentFor.{malformed, replied}
use Rattle.dns_authority.proofs.RespondingLaws.{undecodable}
use Rattle.dns_authority.proofs.replies.responding.respond.Goals as goal

pub returns-in_ok-respond_to-in-Some-2-clause-reply : goal.returns-in_ok-respond_to-in-Some-2-clause-reply
returns-in_ok-respond_to-in-Some-2-clause-reply c =
    replied c.in-Some-2.message
    (subst (λ (o : Option Message). DecodesRequest c.args.request.now o) c.in-Some-2.is c.in_ok-message.ensures.request)
    c.in_ok-respond_to-in-Some-2.ensures

pub returns-in_ok-malformed_bytes-in-None-clause-reply : goal.returns-in_ok-malformed_bytes-in-None-clause-reply
returns-in_ok-malformed_bytes-in-None-clause-reply c =
    malformed
    (undecodable c.args.request.now c.in-Some.metadata c.in-Some.ensures.some.0 c.in-Some.ensures.some.1
    (subst (λ (o : Option Message). DecodesRequest c.args.request.now o) c.in-None.is c.in_ok-message.ensures.request))
    (record {
      metadata = c.in-Some.metadata;
      peeked = c.in-Some.ensures.some.0;
      asks = c.in-Some.ensures.some.1;
      has_opt = c.has_opt.result;
      is_found = c.has_opt.ensures;
      encodes = c.in_ok-malformed_bytes-in-None.ensures;
    })
