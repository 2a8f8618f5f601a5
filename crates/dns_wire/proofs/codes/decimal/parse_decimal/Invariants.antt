use Rattle.std.proofs.Common.{◌≡◌, ◌≤◌, drop}
use Rattle.dns_wire.specs.codes.Decimal.{decimal_up_to, at_most, digits_from}
use Rattle.dns_wire.proofs.codes.decimal.parse_decimal.Given as goal

-- what the digits so far spell, and the rest goes on from there
abbrev pub invariant-loop-byte : goal.invariant-loop-byte
invariant-loop-byte l = record {
  spells : decimal_up_to l.greatest l.text ≡ at_most l.greatest (digits_from l.number (drop l.byte-index l.text));
  small : l.number ≤ l.greatest;
}
