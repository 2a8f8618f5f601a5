-- Names, as far as they were read in place.
use Rattle.std.proofs.Common.{◌≡◌, ℕ, ◌+◌, ◌<◌, ◌≤◌, Bool, true, List, [], ◌∷◌, ◌++◌, length, Option, Some, None, Result, Ok, Err, refl, sym, ap, subst, ◌∙◌, arith}
use Rattle.std.specs.Prelude.{unwrap_or, MatchResult, IfOk}
use Rattle.dns_wire.specs.Decoder.{Decoder}
use Rattle.dns_names.specs.Name.{DomainName}
use Rattle.dns_wire.specs.declared.error.DecodeError.{DecodeError}
use Rattle.dns_wire.specs.declared.error.DecodeError.TheVariants.{Memory, PointerNotPriorToLabel, DomainNameTooLong}
use Rattle.dns_wire.specs.Element.{Closing, Label, Pointer, element_at}
use Rattle.dns_wire.specs.Name.{name_len}
use Rattle.dns_wire.specs.Pointers.{Follows}
use Rattle.dns_wire.specs.Reading.{ReadsName, RefusesName}
use Rattle.dns_names.proofs.Underway.{Underway, starts, on_closing, on_label, on_pointer, on_pointers, on_fault, on_long_name, on_forward_pointer, name_len-push}

-- A name that begins at start was read as far as index, in a segment that begins at segment: its labels so far take so many
-- bytes, and it ends at end, if that is known.
pub record Passed (bytes : List ℕ) (start index segment len : ℕ) (end : Option ℕ) : Type 0 where
  pub labels : List (List ℕ)
  pub underway : Underway bytes start index segment labels end
  pub len_is : name_len labels ≡ len

pub passed-start : (bytes : List ℕ) (start : ℕ) → Passed bytes start start start 1 None
passed-start bytes start = record { labels = []; underway = starts bytes start; len_is = refl }

module _ {bytes : List ℕ} {start index segment len : ℕ} {end : Option ℕ} (p : Passed bytes start index segment len end) where
  pub passed-closing : element_at bytes index ≡ Ok Closing → (labels : List (List ℕ)) × ReadsName bytes start labels (unwrap_or end (index + 1))
  passed-closing e = (p.labels, on_closing p.underway e)

  pub passed-label : (label : List ℕ) → element_at bytes index ≡ Ok (Label label) → len + (length label + 1) ≤ 255 → Passed bytes start (index + (length label + 1)) segment (len + (length label + 1)) end
  passed-label label e room = record {
    labels = p.labels ++ label ∷ [];
    underway = on_label p.underway label e (omega (arith, room, p.len_is));
    len_is = omega (arith, name_len-push p.labels label, p.len_is);
  }

  pub passed-pointer : (target to : ℕ) → element_at bytes index ≡ Ok (Pointer target) → target < segment → Follows bytes target to → Passed bytes start to to len (Some (unwrap_or end (index + 2)))
  passed-pointer target to e back follows = record {
    labels = p.labels;
    underway = on_pointers follows (on_pointer p.underway target e back);
    len_is = p.len_is;
  }

  pub passed-fault : (error : DecodeError) → element_at bytes index ≡ Err error → RefusesName bytes start error
  passed-fault error e = on_fault p.underway error e

  pub passed-long : (label : List ℕ) → element_at bytes index ≡ Ok (Label label) → 255 < len + (length label + 1) → RefusesName bytes start DomainNameTooLong
  passed-long label e over = on_long_name p.underway label e (omega (arith, over, p.len_is))

  pub passed-forward : (target : ℕ) → element_at bytes index ≡ Ok (Pointer target) → segment ≤ target → RefusesName bytes start PointerNotPriorToLabel
  passed-forward target e on = on_forward_pointer p.underway target e on

  pub passed-within : len ≤ 255
  passed-within = omega (arith, p.underway.fits, p.len_is)

-- ---- the name that is borrowed

at_index : (d : Decoder) (place : ℕ) → place ≡ d.index → record d { index = place } ≡ d
at_index d place e = ap (λ (n : ℕ). record d { index = n }) e

pub in_place : (d from start new : Decoder) (place end : ℕ) → place ≡ d.index → from ≡ record d { index = place } → start ≡ record d { index = place } → new ≡ record d { index = end } → (labels : List (List ℕ)) × ReadsName from.bytes from.index labels end
    → (labels : List (List ℕ)) × (ReadsName d.bytes d.index labels new.index × ((last : ℕ) × ReadsName start.bytes start.index labels last))
in_place d from start new place end at from_is start_is new_is found =
    let reads : ReadsName d.bytes d.index found.0 end = subst (λ (x : Decoder). ReadsName x.bytes x.index found.0 end) (from_is ∙ at_index d place at) found.1 in
    let index : new.index ≡ end = ap (λ (x : Decoder). x.index) new_is in
    (found.0, (subst (λ (n : ℕ). ReadsName d.bytes d.index found.0 n) (sym index) reads, (end, subst (λ (x : Decoder). ReadsName x.bytes x.index found.0 end) (sym (start_is ∙ at_index d place at)) reads)))

pub refused_in_place : (d from : Decoder) (place : ℕ) (error : DecodeError) → place ≡ d.index → from ≡ record d { index = place } → RefusesName from.bytes from.index error → RefusesName d.bytes d.index error
refused_in_place d from place error at from_is refused = subst (λ (x : Decoder). RefusesName x.bytes x.index error) (from_is ∙ at_index d place at) refused

-- ---- the name that is copied

same_name : (a b : DomainName) → a.is_fqdn ≡ true → b.is_fqdn ≡ true → a.labels ≡ b.labels → a ≡ b
same_name a b fqdn fqdn' e = ap (λ (ls : List (List ℕ)). record a { labels = ls }) e ∙ ap (λ (f : Bool). record b { is_fqdn = f }) (fqdn ∙ sym fqdn')

pub copied : (r : Result DomainName DecodeError) (labels : List (List ℕ)) (P : Type 0) → MatchResult r (λ name. (name.labels ≡ labels) × P) (λ error. error ≡ Memory) → IfOk r (λ name. name.is_fqdn ≡ true)
    → MatchResult r (λ name. name ≡ record { is_fqdn = true; labels = labels }) (λ error. error ≡ Memory)
copied (Ok name) labels P read fqdn = same_name name (record { is_fqdn = true; labels = labels }) fqdn refl read.0
copied (Err error) labels P read fqdn = read

pub at_place : (d from : Decoder) (place last : ℕ) (labels : List (List ℕ)) → place ≡ d.index → from ≡ record d { index = place } → ReadsName d.bytes d.index labels last → ReadsName from.bytes from.index labels last
at_place d from place last labels at from_is reads = subst (λ (x : Decoder). ReadsName x.bytes x.index labels last) (sym (from_is ∙ at_index d place at)) reads
