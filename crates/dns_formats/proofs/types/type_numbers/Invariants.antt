use Rattle.std.proofs.Common.{◌≡◌, drop, map}
use Rattle.dns_text.specs.Token.{lexeme}
use Rattle.dns_formats.specs.Types.{type_numbers}
use Rattle.dns_formats.proofs.SetLaws.{numbers_before}
use Rattle.dns_formats.proofs.types.type_numbers.Given as goal

-- the tokens that are left complete the numbers
abbrev pub invariant-loop-token : goal.invariant-loop-token
invariant-loop-token l = numbers_before l.numbers.items (type_numbers (map lexeme (drop l.token-index l.tokens))) ≡ type_numbers (map lexeme l.tokens)
