use Rattle.std.proofs.Common.{◌≡◌, sym, ap, ◌∙◌, subst, refl, Err}
use Rattle.dns_names.specs.Parse.{name_of_text}
use Rattle.dns_names.specs.declared.error.ParseError.TheVariants.{Memory}
use Rattle.dns_keys.proofs.NameTextLaws.{IsNoMemory, text_is_no_memory}
use Rattle.dns_keys.proofs.file.name_at.Goals as goal

pub returns-in-Err-Memory-clause-short : goal.returns-in-Err-Memory-clause-short
returns-in-Err-Memory-clause-short c = λ short.
    let none : name_of_text c.args.text.now ≡ Err Memory = sym (c.from_ascii_bytes.ensures.short short) ∙ c.in-Err-Memory.is ∙ ap (λ (e : _). Err e) c.in-Err-Memory.field-0-is in
    absurd (subst IsNoMemory none (text_is_no_memory c.args.text.now) refl)
