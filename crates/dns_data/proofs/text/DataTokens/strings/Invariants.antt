use Rattle.std.proofs.Common.{drop}
use Rattle.dns_data.proofs.TextLaws.{Underway}
use Rattle.dns_data.proofs.text.DataTokens.strings.Given as goal

-- the tokens that are left complete the strings
abbrev pub invariant-loop-token : goal.invariant-loop-token
invariant-loop-token l = Underway l.tokens l.strings.items (drop l.token-index l.tokens)
