use Rattle.std.proofs.Common.{◌≡◌, [], length, map}
use Rattle.dns_text.specs.Token.{lexeme}
use Rattle.dns_formats.specs.Service.{in_order}
use Rattle.dns_formats.proofs.service.in_order.Given as goal

-- the parameters that are left complete the bytes
abbrev pub invariant-loop-left : goal.invariant-loop-left
invariant-loop-left l = in_order 0 l.bytes.items (map lexeme l.left) ≡ in_order 0 [] (map lexeme l.tokens)

abbrev pub decreases-loop-left : goal.decreases-loop-left
decreases-loop-left l = length l.left
