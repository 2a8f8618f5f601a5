-- Steps by what a zone has.
use Rattle.std.proofs.Common.{◌≡◌, ◌≢◌, List, [], ◌∷◌, ◌++◌, length, refl, ap, ◌∙◌, Option, Some, arith}
use Rattle.std.specs.Prelude.{IfOk, Result, Ok, Err}
use Rattle.dns_wire.specs.declared.codes.record_type.RecordType.{RecordType}
use Rattle.dns_names.specs.Name.{DomainName}
use Rattle.dns_records.specs.Record.{Record}
use Rattle.dns_records.specs.declared.row.Row.{Row}
use Rattle.dns_zone.specs.Answer.{record_of}
use Rattle.dns_zone.specs.Rows.{ZoneContent}
use Rattle.dns_authority.specs.declared.step.Step.TheVariants.{End, Links}
use Rattle.dns_authority.specs.Step.{followed_for, positive, redirected, step_by, synthesized}

module _ (zones : List ZoneContent) (zone : ZoneContent) (owner : DomainName) where
  -- there are records
  pub found_records : (records asked : List Record) (aliases : List Row) → records ≡ asked → length records ≢ 0
      → End (positive records) ≡ step_by zones zone owner asked aliases
  found_records [] asked aliases is some = absurd (some refl)
  found_records (r ∷ records) asked aliases is some = ap (λ (rs : List Record). step_by zones zone owner rs aliases) is

  -- there are none
  pub no_records : (records asked : List Record) (aliases : List Row) → records ≡ asked → length records ≡ 0
      → step_by zones zone owner [] aliases ≡ step_by zones zone owner asked aliases
  no_records [] asked aliases is none = ap (λ (rs : List Record). step_by zones zone owner rs aliases) is
  no_records (r ∷ records) asked aliases is none = absurd (omega arith)

-- a DNAME record, the alias that is synthesized from it, and the name at which the answer goes on
pub redirected_links : (zones : List ZoneContent) (t : RecordType) (owner at target : DomainName) (dname : Row) (none first second : List Record) (copied alias : Record) (next : Option DomainName)
    → none ≡ [] → first ≡ none ++ copied ∷ [] → copied ≡ record_of at dname → second ≡ first ++ alias ∷ [] → alias ≡ synthesized owner dname target
    → next ≡ followed_for zones t target → Links second next ≡ redirected zones t owner at dname (Some target)
redirected_links zones t owner at target dname none first second copied alias next none_is first_is copied_is second_is alias_is next_is =
    let one : first ≡ record_of at dname ∷ [] = first_is ∙ ap (λ (rs : List Record). rs ++ copied ∷ []) none_is ∙ ap (λ (r : Record). r ∷ []) copied_is in
    let two : second ≡ record_of at dname ∷ synthesized owner dname target ∷ [] =
    second_is ∙ ap (λ (rs : List Record). rs ++ alias ∷ []) one ∙ ap (λ (r : Record). record_of at dname ∷ r ∷ []) alias_is in
    ap (λ (rs : List Record). Links rs next) two ∙ ap (Links (record_of at dname ∷ synthesized owner dname target ∷ [])) next_is

-- ---- outcomes

pub over : {A E : Type 0} (r : Result A E) (x y : A) → IfOk r (λ a. a ≡ x) → x ≡ y → IfOk r (λ a. a ≡ y)
over (Ok a) x y is same = is ∙ same
over (Err e) x y is same = tt
