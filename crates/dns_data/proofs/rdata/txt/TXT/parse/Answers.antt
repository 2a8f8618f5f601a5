use Rattle.std.proofs.lemmas.Result.{err_from_is_err_and}
use Rattle.std.proofs.Common.{[], None, refl}
use Rattle.dns_data.specs.Field.{Strings}
use Rattle.dns_data.specs.Text.{refused_token}
use Rattle.dns_data.proofs.EarlyLaws.{one_error, no_error, parse_stops, parse_goes_on, nothing_parsed}
use Rattle.dns_data.proofs.rdata.txt.TXT.parse.Goals as goal

pub returns-in_err-strings-clause-refused : goal.returns-in_err-strings-clause-refused
returns-in_err-strings-clause-refused c = λ o.
    let p = err_from_is_err_and c.from_residual.result c.from_residual.ensures.1 in
    rw (p.1, p.2) (λ other. refused_token (c.in_err-strings.ensures.refused o other))

pub returns-clause-parsed : goal.returns-clause-parsed
returns-clause-parsed c = λ o. let takes = c.in_ok-strings.ensures.ok o in (c.strings.new.self, takes, takes.2)

pub returns-in_err-strings-clause-early : goal.returns-in_err-strings-clause-early
returns-in_err-strings-clause-early c = λ o.
    let p = err_from_is_err_and c.from_residual.result c.from_residual.ensures.1 in
    rw (p.1, p.2) (parse_stops o Strings [] _ _ (λ fixed. absurd (cc fixed)) (λ none. one_error _ _ refl (c.in_err-strings.ensures.missing none)) (c.in_err-strings.ensures.refused o))

pub returns-clause-early : goal.returns-clause-early
returns-clause-early c = λ o.
    parse_goes_on o Strings [] _ c.strings.new.self c.in_ok-strings.field-0.items (c.in_ok-strings.ensures.ok o) (λ none. no_error _ _ (c.in_ok-strings.ensures.missing none)) None (nothing_parsed o _ None (λ memory. absurd (cc memory)))
