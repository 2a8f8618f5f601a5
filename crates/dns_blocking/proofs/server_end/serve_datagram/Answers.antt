use Rattle.std.proofs.Common.{Some, None, inl, inr}
use Rattle.dns_blocking.proofs.server_end.serve_datagram.Goals as goal

pub returns-in_err-reply : goal.returns-in_err-reply
returns-in_err-reply g c = inl c.in_err-reply.ensures.err

pub returns-in-Some : goal.returns-in-Some
returns-in-Some g c = inr (_, (Some c.in-Some.reply.items, rw c.in-Some.is at c.in_ok-reply.ensures.ok))

pub returns-in-None : goal.returns-in-None
returns-in-None g c = inr (_, (None, rw c.in-None.is at c.in_ok-reply.ensures.ok))
