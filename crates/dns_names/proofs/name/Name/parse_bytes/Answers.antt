use Rattle.std.proofs.Common.{◌≡◌, true, false, Option}
use Rattle.std.specs.Prelude.{option_map}
use Rattle.std.specs.Borrow.{Bor}
use Rattle.dns_names.specs.Name.{DomainName}
use Rattle.dns_names.proofs.InlineText.{parsed_inline}
use Rattle.dns_names.proofs.name.Name.parse_bytes.Goals as goal

pub returns-in_err-name-clause-inline : goal.returns-in_err-name-clause-inline
returns-in_err-name-clause-inline c = λ name e is.
    let origin : Option DomainName = option_map (λ (o : Bor DomainName). o.now) c.args.origin in
    let parsed = parsed_inline c.args.text.now origin name e is in
    let clash : false ≡ true = c.in_err-name.ensures.inline parsed.0 parsed.1 parsed.2 in
    absurd (cc)
