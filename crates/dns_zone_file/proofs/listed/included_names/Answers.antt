use Rattle.std.proofs.Common.{rules, ap, ◌∙◌, refl, List, ℕ, Bor, Vec, Global}
use Rattle.dns_text.specs.declared.quotes.Quotes.{Quotes}
use Rattle.dns_text.specs.Lexer.{start_with}
use Rattle.dns_zone_file.proofs.ListedLaws.{ends, breaks, from_start, takes_name, takes_none}
use Rattle.dns_zone_file.proofs.listed.included_names.Goals as goal
use Rattle.dns_zone_file.proofs.listed.included_names.Goals.{in-Some+in_ok-push-in-Ok-Some, in_default}

pub loop-tokens-preserved : goal.loop-tokens-preserved
loop-tokens-preserved c =
    let lexed = rw c.in-Ok-Some.field-0-is at c.in-Ok-Some.ensures.entry in
    elim c.match-name_in.branch [
      | in-Some+in_ok-push-in-Ok-Some w ↦
          takes_name c.in-Ok-Some.tokens.items c.as_slice.result.now c.loop-tokens.names.items c.match-name_in.names.items c.loop-tokens.invariant lexed c.as_slice.ensures.value
          c.name_in.result w.in-Some.name w.in-Some.is c.name_in.ensures (ap (λ (v : Vec (Bor (List ℕ)) Global). v.items) w.names-is ∙ w.in_ok-push-in-Ok-Some.ensures.items)
      | in_default w ↦
          takes_none c.in-Ok-Some.tokens.items c.as_slice.result.now c.loop-tokens.names.items c.match-name_in.names.items c.loop-tokens.invariant lexed c.as_slice.ensures.value
          c.name_in.result w.in_default.is c.name_in.ensures (ap (λ (v : Vec (Bor (List ℕ)) Global). v.items) w.names-is)
    ]

pub returns-in-Ok-None : goal.returns-in-Ok-None
returns-in-Ok-None c =
    let end = rw c.in-Ok-None.field-0-is at c.in-Ok-None.ensures.end in
    from_start (c.with_quotes-lexer.ensures ∙ ap (λ (q : Quotes). start_with q c.args.text.now) c.quotes.ensures) (ends c.loop-tokens.invariant (end refl))

pub returns-in-Err : goal.returns-in-Err
returns-in-Err c =
    from_start (c.with_quotes-lexer.ensures ∙ ap (λ (q : Quotes). start_with q c.args.text.now) c.quotes.ensures)
    (breaks c.in-Err.field-0 c.loop-tokens.invariant (c.in-Err.ensures.refused (search rules)))
