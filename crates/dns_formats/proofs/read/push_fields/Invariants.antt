use Rattle.std.proofs.Common.{◌≡◌, ◌≤◌, length, drop, map, option_map}
use Rattle.dns_text.specs.Token.{lexeme}
use Rattle.dns_formats.specs.Value.{append_to}
use Rattle.dns_formats.specs.Read.{fields_bytes}
use Rattle.dns_formats.proofs.read.push_fields.Given as goal

-- the fields that are left complete the data
abbrev pub invariant-loop-field : goal.invariant-loop-field
invariant-loop-field l = record {
  within : l.place ≤ length l.tokens;
  completes : append_to l.out.items (fields_bytes (option_map (λ o. o.now) l.origin) (drop l.field-index l.fields) l.place (map lexeme (drop l.place l.tokens)))
      ≡ append_to l.initial.out.items (fields_bytes (option_map (λ o. o.now) l.origin) l.fields 0 (map lexeme l.tokens));
}
