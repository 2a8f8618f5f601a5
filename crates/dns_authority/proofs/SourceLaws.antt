-- The step at a name by whether it exists, and what is above it.
use Rattle.std.proofs.Common.{◌≡◌, Bool, true, false, ◌&&◌, not, cond, ◌==◌, List, length, map, refl, sym, ap, ◌∙◌, Option, Some, None}
use Rattle.std.specs.Prelude.{nat_lt}
use Rattle.std.specs.Option.{option_or}
use Rattle.dns_wire.specs.declared.codes.record_type.RecordType.TheVariants as types
use Rattle.dns_names.specs.Name.{DomainName}
use Rattle.dns_names.specs.Labels.{begins_with_star}
use Rattle.dns_messages.specs.declared.response_code.ResponseCode.TheVariants.{NXDomain}
use Rattle.dns_records.specs.Record.{Record}
use Rattle.dns_records.specs.declared.row.Row.{Row}
use Rattle.dns_zone.specs.Answer.{record_of}
use Rattle.dns_zone.specs.Rows.{ZoneContent, rows_at, some_row_below}
use Rattle.dns_authority.specs.steps.Barrier.{barrier, barrier_above, cut_at, is_cut, is_ds}
use Rattle.dns_authority.specs.steps.Wildcard.{if_exists, source_of_synthesis}
use Rattle.dns_authority.specs.declared.asked.Asked.{Asked}
use Rattle.dns_authority.specs.declared.step.Step.{Step}
use Rattle.dns_authority.specs.declared.step.Step.TheVariants.{End}
use Rattle.dns_authority.specs.Asked.{asked_rows}
use Rattle.dns_authority.specs.Step.{negative, referral, step_at, step_below, step_by, step_from, step_over, step_with}
use Rattle.dns_authority.proofs.StepsExistenceLaws.{absent_rows}

-- ---- steps

module _ (zones : List ZoneContent) (zone : ZoneContent) (asked : Asked) (owner : DomainName) where
  abbrev by_barrier : Option DomainName → Step
  by_barrier above = step_with zones zone asked owner (option_or above (cut_at zone asked.record_type owner))

  -- a barrier is above the name
  pub over_above : (above : Option DomainName) (at : DomainName) → above ≡ barrier_above zone owner → above ≡ Some at
      → step_over zones zone asked.record_type owner at ≡ step_with zones zone asked owner (barrier zone asked.record_type owner)
  over_above above at is some = ap by_barrier (sym some ∙ is)

  -- none is
  pub none_above : (above : Option DomainName) → above ≡ barrier_above zone owner → above ≡ None
      → step_with zones zone asked owner (cut_at zone asked.record_type owner) ≡ step_with zones zone asked owner (barrier zone asked.record_type owner)
  none_above above is none = ap by_barrier (sym none ∙ is)

  both_false : (a b : Bool) → (a && (b && false)) ≡ false
  both_false true true = refl
  both_false true false = refl
  both_false false b = refl

  no_cut : some_row_below zone.rows owner.labels ≡ false → is_cut zone owner ≡ false
  no_cut absent =
      ap (λ (rs : List Row). nat_lt (length zone.origin.labels) (length owner.labels) && (not (begins_with_star owner.labels) && not (length rs == 0)))
      (absent_rows zone.rows owner.labels types.NS absent)
      ∙ both_false (nat_lt (length zone.origin.labels) (length owner.labels)) (not (begins_with_star owner.labels))

  abbrev by_cut : Bool → Step
  by_cut b = step_with zones zone asked owner (cond b (Some owner) None)

  abbrev by_existence : Bool → Step
  by_existence b = step_at zones zone asked owner (cond b (Some owner) (if_exists zone.rows (source_of_synthesis zone.rows owner.labels)))

  -- the name does not exist
  pub absent_name : some_row_below zone.rows owner.labels ≡ false
      → step_at zones zone asked owner (if_exists zone.rows (source_of_synthesis zone.rows owner.labels)) ≡ step_with zones zone asked owner (cut_at zone asked.record_type owner)
  absent_name absent = ap by_existence (sym absent) ∙ sym (ap (λ (b : Bool). by_cut (b && not (is_ds asked.record_type))) (no_cut absent))

  -- the name is a zone cut
  pub cut_name : (b : Bool) → b ≡ (is_cut zone owner && not (is_ds asked.record_type)) → b ≡ true
      → End (referral zone owner) ≡ step_with zones zone asked owner (cut_at zone asked.record_type owner)
  cut_name b is holds = sym (over (is_cut zone owner) refl (sym is ∙ holds)) ∙ ap by_cut (sym holds ∙ is)
    where
      over : (c : Bool) → is_cut zone owner ≡ c → (c && not (is_ds asked.record_type)) ≡ true → step_over zones zone asked.record_type owner owner ≡ End (referral zone owner)
      over true e both =
          ap (λ (d : Bool). cond d (End (referral zone owner)) (step_below zones asked.record_type owner owner (rows_at zone.rows owner.labels types.DNAME))) e
      over false e both = absurd (cc)

  -- it exists, and is none
  pub own_name : (b : Bool) → b ≡ (is_cut zone owner && not (is_ds asked.record_type)) → b ≡ false → some_row_below zone.rows owner.labels ≡ true
      → step_from zones zone asked owner owner ≡ step_with zones zone asked owner (cut_at zone asked.record_type owner)
  own_name b is fails exists = ap by_existence (sym exists) ∙ ap by_cut (sym fails ∙ is)

  -- ---- from a wildcard

  abbrev of_source : DomainName → Bool → Step
  of_source source b = step_at zones zone asked owner (cond b (Some source) None)

  -- it does not exist
  pub no_source : (source : DomainName) → some_row_below zone.rows source.labels ≡ false
      → End (negative zone NXDomain) ≡ step_at zones zone asked owner (if_exists zone.rows (Some source))
  no_source source absent = ap (of_source source) (sym absent)

  -- it exists
  pub source_rows : (source : DomainName) (records : List Record) → some_row_below zone.rows source.labels ≡ true
      → records ≡ map (record_of owner) (asked_rows asked zone.rows source.labels)
      → step_by zones zone owner records (rows_at zone.rows source.labels types.CNAME) ≡ step_at zones zone asked owner (if_exists zone.rows (Some source))
  source_rows source records exists is =
      ap (λ (rs : List Record). step_by zones zone owner rs (rows_at zone.rows source.labels types.CNAME)) is ∙ ap (of_source source) (sym exists)
