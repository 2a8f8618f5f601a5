use Rattle.std.proofs.Common.{◌≡◌, map, take}
use Rattle.dns_sockets.specs.Handler.{request_content}
use Rattle.dns_sockets.proofs.StreamLaws.{message_request}
use Rattle.dns_sockets.proofs.stream.requests_of.Given as goal

-- the first messages are requests
abbrev pub invariant-loop-bytes : goal.invariant-loop-bytes
invariant-loop-bytes l = map request_content l.requests.items ≡ map (message_request l.peer l.now) (take l.bytes-index l.gathered)
