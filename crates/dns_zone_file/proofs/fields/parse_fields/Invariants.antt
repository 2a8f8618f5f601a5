use Rattle.std.proofs.Common.{◌≡◌, drop, map}
use Rattle.dns_text.specs.Token.{lexeme}
use Rattle.dns_zone_file.specs.Fields.{fields_in, fields_from}
use Rattle.dns_zone_file.proofs.fields.parse_fields.Given as goal

-- what follows completes the fields
abbrev pub invariant-loop-i : goal.invariant-loop-i
invariant-loop-i l = fields_from l.types l.ttl l.dns_class (drop l.i (map lexeme l.tokens)) ≡ fields_in l.types (map lexeme l.tokens)
