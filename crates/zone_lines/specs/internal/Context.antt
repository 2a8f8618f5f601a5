-- What an entry is, as the code divides it.
use Rattle.std.specs.Prelude.{◌≡◌, List, None}
use Rattle.dns_text.specs.Lexer.{Lexeme}
use Rattle.dns_zone_file.specs.Entry.{record_entry, entry_of}
use Rattle.dns_zone_file.specs.Generate.{generate_of}
use Rattle.dns_zone_file.specs.Parsing.{IncludesText}
use Rattle.dns_zone_file.specs.declared.context.Context.{Context}
use Rattle.dns_zone_file.specs.internal.Entry.{inclusion_view}
use Rattle.zone_lines.specs.Reading.{AddsLine, Directs, Generated}
use Rattle.zone_lines.specs.declared.context.Effect.{Effect}
use Rattle.zone_lines.specs.declared.context.Effect.TheVariants as effect
use Rattle.zone_lines.specs.declared.record_line.Position.{Position}

-- what an entry without a fault is, and the context after it
abbrev pub EffectIs : Context → Position → List Lexeme → Effect → Context → Type 0
EffectIs c at tokens effect.Applied then = Directs c tokens then
EffectIs c at tokens (effect.Record found) then =
    (entry_of tokens ≡ record_entry) × (generate_of c.types tokens ≡ None) × AddsLine c at tokens found then
EffectIs c at tokens (effect.Generated found) then = Generated c at tokens found.items then
EffectIs c at tokens (effect.Includes i) then = IncludesText c tokens (inclusion_view i) × (then ≡ c)
