use Rattle.std.proofs.Common.{◌≡◌, ℕ, List, ◌++◌, drop, true}
use Rattle.std.specs.Fmt.{HasWritten, IsPlainFormatter}
use Rattle.dns_text.specs.Tokens.{data_text}
use Rattle.dns_formats.specs.Field.{begins}
use Rattle.dns_formats.specs.Wire.{fits}
use Rattle.dns_formats.specs.Print.{data_tokens, spaced}
use Rattle.dns_formats.proofs.print.write_fields.Given as goal

-- the fields that are left fit, and complete the text
abbrev pub invariant-loop-field : goal.invariant-loop-field
invariant-loop-field g l = record {
  fitting : fits (drop l.field-index l.fields) l.left ≡ true;
  begun : l.is_first ≡ true → begins (drop l.field-index l.fields) ≡ true;
  completes : IsPlainFormatter l.initial.f → (done : List ℕ) × HasWritten g.W.Write.write_str_gives l.initial.f done l.f
      × (done ++ spaced l.is_first (data_tokens (drop l.field-index l.fields) l.left) ≡ data_text (data_tokens l.fields l.bytes));
}
