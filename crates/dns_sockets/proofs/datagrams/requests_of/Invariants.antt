use Rattle.std.proofs.Common.{◌≡◌, map, take}
use Rattle.dns_sockets.specs.Datagrams.{content_at}
use Rattle.dns_sockets.specs.Handler.{request_content}
use Rattle.dns_sockets.proofs.datagrams.requests_of.Given as goal

-- the first datagrams are requests
abbrev pub invariant-loop-datagram : goal.invariant-loop-datagram
invariant-loop-datagram l = map request_content l.requests.items ≡ map (content_at l.now) (take l.datagram-index l.gathered)
