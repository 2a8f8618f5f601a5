-- The answer along aliases, step by step.
use Rattle.std.proofs.Common.{◌≡◌, ◌≢◌, ◌-◌, zero, suc, ℕ, List, [], refl, ap, ◌∙◌, arith, Option}
use Rattle.dns_names.specs.Name.{DomainName}
use Rattle.dns_records.specs.Record.{Record}
use Rattle.dns_zone.specs.Rows.{ZoneContent}
use Rattle.dns_authority.specs.declared.answer.AuthorityAnswer.{AuthorityAnswer}
use Rattle.dns_authority.specs.declared.asked.Asked.{Asked}
use Rattle.dns_authority.specs.declared.step.Step.{Step}
use Rattle.dns_authority.specs.declared.step.Step.TheVariants.{End, Links}
use Rattle.dns_authority.specs.Step.{positive, step}
use Rattle.dns_authority.specs.Answer.{after_records, after_step, answer_at, rest_at}

module _ (zones : List ZoneContent) (asked : Asked) (owner : DomainName) where
  -- the answer ends here
  pub ends : (links : ℕ) (a : AuthorityAnswer) → End a ≡ step zones asked owner → a ≡ answer_at links zones asked owner
  unfolding answer_at
  ends zero a is = ap (λ (s : Step). after_step s (λ records next. positive [])) is
  ends (suc links) a is = ap (λ (s : Step). after_step s (λ records next. after_records records (rest_at (answer_at links zones asked) next))) is

  -- there are too many aliases
  pub breaks_off : (links : ℕ) (records : List Record) (next : Option DomainName) → links ≡ 0 → Links records next ≡ step zones asked owner → positive [] ≡ answer_at links zones asked owner
  unfolding answer_at
  breaks_off zero records next none is = ap (λ (s : Step). after_step s (λ records next. positive [])) is
  breaks_off (suc links) records next none is = absurd (omega arith)

  -- there are aliases, and the answer goes on or stops
  pub goes_on : (links : ℕ) (records : List Record) (next : Option DomainName) → links ≢ 0 → Links records next ≡ step zones asked owner
      → after_records records (rest_at (answer_at (links - 1) zones asked) next) ≡ answer_at links zones asked owner
  unfolding answer_at
  goes_on zero records next some is = absurd (some refl)
  goes_on (suc links) records next some is =
      let less : suc links - 1 ≡ links = omega arith in
      ap (λ (n : ℕ). after_records records (rest_at (answer_at n zones asked) next)) less
      ∙ ap (λ (s : Step). after_step s (λ records next. after_records records (rest_at (answer_at links zones asked) next))) is
