-- Delegations above a name.
use Rattle.std.proofs.Common.{◌≡◌, ◌<◌, ◌≤◌, ◌||◌, ◌&&◌, ◌∙◌, ℕ, suc, Bool, true, false, not, List, [], ◌∷◌, length, drop, refl, sym, ap, arith}
use Rattle.std.specs.Prelude.{nat_lt, is_some}
use Rattle.std.proofs.lemmas.Bool.{le-ltb}
use Rattle.dns_names.specs.Build.{base_name}
use Rattle.dns_names.specs.Labels.{begins_with_star}
use Rattle.dns_names.specs.Name.{DomainName}
use Rattle.zone_lines.specs.declared.record_line.EntryLine.{EntryLine}
use Rattle.zone_lines.specs.warnings.Places.{first_place}
use Rattle.zone_lines.specs.warnings.Survey.{Facts}
use Rattle.zone_lines.specs.warnings.Cuts.{has_cut_from, is_below_cut, is_delegated}
use Rattle.zone_lines.specs.declared.warnings.places.Trait.TheVariants as property

-- ---- the parent name

parent_labels : (flag : Bool) (labels : List (List ℕ)) → (base_name (record { is_fqdn = flag; labels = labels })).labels ≡ drop 1 labels
parent_labels flag [] = refl
parent_labels flag (label ∷ labels) = refl

pub labels_above : (name : DomainName) → (base_name name).labels ≡ drop 1 name.labels
labels_above name = parent_labels name.is_fqdn name.labels

parent_flag : (flag : Bool) (labels : List (List ℕ)) → 0 < length (base_name (record { is_fqdn = flag; labels = labels })).labels
    → (base_name (record { is_fqdn = flag; labels = labels })).is_fqdn ≡ true
parent_flag flag [] h = absurd (let no : ⊥ = omega (arith, h) in no)
parent_flag flag (label ∷ labels) h = refl

pub flag_above : (name : DomainName) → 0 < length (base_name name).labels → (base_name name).is_fqdn ≡ true
flag_above name h = parent_flag name.is_fqdn name.labels h

parent_shorter : (flag : Bool) (labels : List (List ℕ)) → 0 < length labels → length (base_name (record { is_fqdn = flag; labels = labels })).labels < length labels
parent_shorter flag [] h = absurd (let no : ⊥ = omega (arith, h) in no)
parent_shorter flag (label ∷ labels) h = omega arith

pub shorter_above : (name : DomainName) → 0 < length name.labels → length (base_name name).labels < length name.labels
shorter_above name h = parent_shorter name.is_fqdn name.labels h

-- ---- one name more

clash : false ≡ true → ⊥
clash e = cc

module _ (f : Facts) (entries : List EntryLine) where
  -- no name that is as short as the origin is delegated
  pub none_left : (labels : List (List ℕ)) → length labels ≤ length f.origin.labels → has_cut_from f entries labels ≡ false
  none_left [] h = refl
  none_left (label ∷ labels) h =
      let past : nat_lt (length f.origin.labels) (suc (length labels)) ≡ false = le-ltb (length f.origin.labels) (suc (length labels)) h in
      ap (λ (b : Bool). (b && not (begins_with_star (label ∷ labels)) && is_some (first_place property.NameServer entries (record { is_fqdn = true; labels = label ∷ labels }))) || has_cut_from f entries labels) past
      ∙ none_left labels (omega (arith, h))

  one_more : (flag : Bool) (labels : List (List ℕ)) → flag ≡ true → 0 < length labels
      → has_cut_from f entries labels ≡ (is_delegated f entries (record { is_fqdn = flag; labels = labels }) || has_cut_from f entries (drop 1 labels))
  one_more true (label ∷ labels) e h = refl
  one_more true [] e h = absurd (let no : ⊥ = omega (arith, h) in no)
  one_more false labels e h = absurd (clash e)

  module _ (name : DomainName) (flag : name.is_fqdn ≡ true) (some : 0 < length name.labels) where
    pub cut_found : is_delegated f entries name ≡ true → has_cut_from f entries name.labels ≡ true
    cut_found here =
        one_more name.is_fqdn name.labels flag some ∙ ap (λ (b : Bool). b || has_cut_from f entries (drop 1 name.labels)) here

    pub cut_passed : is_delegated f entries name ≡ false → has_cut_from f entries (base_name name).labels ≡ has_cut_from f entries name.labels
    cut_passed none =
        ap (has_cut_from f entries) (labels_above name)
        ∙ sym (ap (λ (b : Bool). b || has_cut_from f entries (drop 1 name.labels)) none)
        ∙ sym (one_more name.is_fqdn name.labels flag some)

-- the outcome, once it is known
pub decided : (f : Facts) (entries : List EntryLine) (name : DomainName) (b : Bool) → f.is_plain ≡ false
    → has_cut_from f entries (drop 1 name.labels) ≡ b → b ≡ is_below_cut f entries name
decided f entries name b whole is =
    sym is ∙ sym (ap (λ (p : Bool). not p && has_cut_from f entries (drop 1 name.labels)) whole)

pub plainly : (f : Facts) (entries : List EntryLine) (name : DomainName) → f.is_plain ≡ true → false ≡ is_below_cut f entries name
plainly f entries name plain = sym (ap (λ (p : Bool). not p && has_cut_from f entries (drop 1 name.labels)) plain)
