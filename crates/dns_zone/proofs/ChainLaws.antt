-- The answer along an alias chain, link by link.
use Rattle.std.proofs.Common.{◌≡◌, ◌+◌, ◌-◌, ◌<◌, zero, suc, ℕ, List, [], ◌∷◌, ◌++◌, length, refl, sym, ap, ◌∙◌, arith, add-one, Option, Some, None, slice_set}
use Rattle.std.proofs.lemmas.List.{append_assoc}
use Rattle.dns_wire.specs.declared.codes.record_type.RecordType.{RecordType}
use Rattle.dns_wire.specs.declared.codes.record_type.RecordType.TheVariants as types
use Rattle.dns_names.specs.Name.{DomainName}
use Rattle.dns_messages.specs.declared.response_code.ResponseCode.TheVariants.{NoError}
use Rattle.dns_records.specs.Record.{Record}
use Rattle.dns_records.specs.declared.row.Row.{Row}
use Rattle.dns_zone.specs.declared.zone.answer.Answer.{Answer}
use Rattle.dns_zone.specs.declared.zone.section.RowRef.{RowRef}
use Rattle.dns_zone.specs.Rows.{ZoneContent, rows_at}
use Rattle.dns_zone.specs.Answer.{after_records, answer_at, answer_by, bare, max_aliases, next_owner, record_of, rest_at}
use Rattle.dns_zone.specs.Section.{alias_records, borrowed_record}

-- ---- aliases, as an array has them

-- the first places have aliases, and the others have none
abbrev pub HasAliases : ℕ → List (Option RowRef) → Type 0
HasAliases n [] = Unit {0}
HasAliases zero (None ∷ aliases) = HasAliases zero aliases
HasAliases zero (Some alias ∷ aliases) = ⊥
HasAliases (suc n) (None ∷ aliases) = ⊥
HasAliases (suc n) (Some alias ∷ aliases) = HasAliases n aliases

none_left : (aliases : List (Option RowRef)) → HasAliases zero aliases → alias_records aliases ≡ []
none_left [] has = refl
none_left (None ∷ aliases) has = refl
none_left (Some alias ∷ aliases) has = absurd has

one_more : (n : ℕ) (aliases : List (Option RowRef)) (alias : RowRef) → HasAliases n aliases → n < length aliases
    → (alias_records (slice_set aliases n (Some alias)) ≡ alias_records aliases ++ borrowed_record alias ∷ []) × HasAliases (suc n) (slice_set aliases n (Some alias))
    × (length (slice_set aliases n (Some alias)) ≡ length aliases)
one_more n [] alias has within = absurd (omega arith)
one_more zero (None ∷ aliases) alias has within = (ap (λ (rs : List Record). borrowed_record alias ∷ rs) (none_left aliases has), has, refl)
one_more zero (Some first ∷ aliases) alias has within = absurd has
one_more (suc n) (None ∷ aliases) alias has within = absurd has
one_more (suc n) (Some first ∷ aliases) alias has within =
    let rest = one_more n aliases alias has (omega arith) in
    (ap (λ (rs : List Record). borrowed_record first ∷ rs) rest.0, rest.1, omega (arith, rest.2))

-- the next place takes one more alias
pub one_more_alias : (n : ℕ) (aliases : List (Option RowRef)) (alias : RowRef) (r : Record) → HasAliases n aliases → n < length aliases → borrowed_record alias ≡ r
    → (alias_records (slice_set aliases n (Some alias)) ≡ alias_records aliases ++ r ∷ []) × HasAliases (n + 1) (slice_set aliases n (Some alias))
    × (length (slice_set aliases n (Some alias)) ≡ length aliases)
one_more_alias n aliases alias r has within is =
    let more = one_more n aliases alias has within in
    (more.0 ∙ ap (λ (x : Record). alias_records aliases ++ x ∷ []) is, rw (add-one) more.1, more.2)

-- ---- the answer at a name

module _ (zone : ZoneContent) (t : RecordType) (owner : DomainName) where
  abbrev there : (Row → Answer) → Answer
  there on_alias = answer_by zone owner (rows_at zone.rows owner.labels t) (rows_at zone.rows owner.labels types.CNAME) on_alias

  -- a name without an alias, or with rows of the type
  pub ends_at : (links : ℕ) (a : Answer) → ((on_alias : Row → Answer) → there on_alias ≡ a) → answer_at links zone t owner ≡ a
  unfolding answer_at
  ends_at zero a is = is (λ alias. bare NoError)
  ends_at (suc links) a is = is (λ alias. after_records (record_of owner alias ∷ []) (rest_at (answer_at links zone t) (next_owner zone.origin alias.rdata)))

  -- a name with an alias
  pub leads_on : (links : ℕ) (alias : Row) → ((on_alias : Row → Answer) → there on_alias ≡ on_alias alias)
      → answer_at (suc links) zone t owner ≡ after_records (record_of owner alias ∷ []) (rest_at (answer_at links zone t) (next_owner zone.origin alias.rdata))
  unfolding answer_at
  leads_on links alias is = is (λ alias. after_records (record_of owner alias ∷ []) (rest_at (answer_at links zone t) (next_owner zone.origin alias.rdata)))

  -- an alias that is one too many
  pub breaks_off : (alias : Row) → ((on_alias : Row → Answer) → there on_alias ≡ on_alias alias) → answer_at zero zone t owner ≡ bare NoError
  unfolding answer_at
  breaks_off alias is = is (λ alias. bare NoError)

one_link : (i : ℕ) → i < max_aliases → max_aliases - i ≡ suc (max_aliases - (i + 1))
one_link i below = omega arith

-- records before records
after_both : (first second : List Record) (a : Answer) → after_records first (after_records second a) ≡ after_records (first ++ second) a
after_both first second a = ap (λ (rs : List Record). record a { answers = rs }) (sym (append_assoc first second a.answers))

-- ---- the answer after aliases

module _ (zone : ZoneContent) (t : RecordType) (owner : DomainName) where
  -- a chain that ends here
  pub ends_along : (links : ℕ) (before : List Record) (a : Answer) → ((on_alias : Row → Answer) → there zone t owner on_alias ≡ a)
      → after_records before a ≡ after_records before (answer_at links zone t owner)
  ends_along links before a is = ap (after_records before) (sym (ends_at zone t owner links a is))

  -- a chain that would be too long
  pub breaks_along : (links : ℕ) (before : List Record) (alias : Row) → links ≡ 0 → ((on_alias : Row → Answer) → there zone t owner on_alias ≡ on_alias alias)
      → after_records before (bare NoError) ≡ after_records before (answer_at links zone t owner)
  breaks_along links before alias none is = ap (after_records before) (sym (ap (λ (n : ℕ). answer_at n zone t owner) none ∙ breaks_off zone t owner alias is))

  -- an alias is added, and the chain goes on
  pub follows_along : (i : ℕ) (before after : List Record) (alias : Row) → i < max_aliases → after ≡ before ++ record_of owner alias ∷ []
      → ((on_alias : Row → Answer) → there zone t owner on_alias ≡ on_alias alias)
      → after_records after (rest_at (answer_at (max_aliases - (i + 1)) zone t) (next_owner zone.origin alias.rdata)) ≡ after_records before (answer_at (max_aliases - i) zone t owner)
  follows_along i before after alias below added is =
      let rest : Answer = rest_at (answer_at (max_aliases - (i + 1)) zone t) (next_owner zone.origin alias.rdata) in
      ap (λ (rs : List Record). after_records rs rest) added ∙ sym (after_both before (record_of owner alias ∷ []) rest)
      ∙ ap (after_records before) (sym (leads_on zone t owner (max_aliases - (i + 1)) alias is))
      ∙ ap (λ (n : ℕ). after_records before (answer_at n zone t owner)) (sym (one_link i below))
