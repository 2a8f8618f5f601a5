-- A zone whose sets can be stated can be stated.
use Rattle.std.proofs.Common.{◌≡◌, ◌<◌, ◌≤◌, ◌+◌, ◌∙◌, ℕ, suc, Bool, true, false, cond, List, [], ◌∷◌, length, get_or, refl, sym, ap, subst, arith, Option, Some}
use Rattle.std.specs.Prelude.{IfSome}
use Rattle.std.proofs.lemmas.Bool.Decides.{nat_tests}
use Rattle.std.specs.Char.{to_ascii_lowercase}
use Rattle.std.specs.FinMap as rows_map
use Rattle.std.specs.List as list
use Rattle.std.specs.List.{AllByRecursion}
use Rattle.std.specs.Str.{str_to_ascii_lowercase}
use Rattle.dns_wire.specs.Name.{AreLabels, IsLabel, name_len}
use Rattle.dns_names.specs.Compare.{lower}
use Rattle.dns_names.specs.Print.{AreOctets}
use Rattle.dns_records.specs.Record.{Record}
use Rattle.dns_records.specs.declared.row.Row.{Row}
use Rattle.dns_records.specs.RecordSet.{RecordSetValue}
use Rattle.dns_zone.specs.Rows.{Key, key_cmp, ZoneContent, set_key, rows_of, rows_of_sets}
use Rattle.dns_zone.proofs.KeptLaws.{tied_key}
use Rattle.dns_zone.proofs.RowLaws.{tied, rows_if, get-sets}
use Rattle.dns_durable.specs.zone_texts.Stated.{AreStatedAt, IsStated, IsStatedData, IsStatedRow, IsStatedSet}

-- ---- lower case keeps octets and labels

lower_octet : (c : ℕ) → c < 256 → to_ascii_lowercase c < 256
lower_octet c h = grind (arith, nat_tests)

lower_octets : (l : List ℕ) → AreOctets l → AreOctets (str_to_ascii_lowercase l)
lower_octets [] all = tt
lower_octets (c ∷ cs) all = (lower_octet c all.0, lower_octets cs all.1)

lower_each : (labels : List (List ℕ)) → AllByRecursion AreOctets labels → AllByRecursion AreOctets (lower labels)
lower_each [] all = tt
lower_each (l ∷ ls) all = (lower_octets l all.0, lower_each ls all.1)

same_length : (l : List ℕ) → length l ≡ length (str_to_ascii_lowercase l)
same_length [] = refl
same_length (c ∷ cs) = ap suc (same_length cs)

same_len : (labels : List (List ℕ)) → name_len labels ≡ name_len (lower labels)
same_len [] = refl
same_len (l ∷ ls) = λ i. (same_length l i + 1) + same_len ls i

each_lower : (labels : List (List ℕ)) → AllByRecursion IsLabel labels → AllByRecursion IsLabel (lower labels)
each_lower [] all = tt
each_lower (l ∷ ls) all = (
  record { some = subst (λ n. 0 < n) (same_length l) all.0.some; most = subst (λ n. n < 64) (same_length l) all.0.most },
  each_lower ls all.1,
)

lower_labels : (labels : List (List ℕ)) → AreLabels labels → AreLabels (lower labels)
lower_labels labels h = record { each = each_lower labels h.each; fits = subst (λ n. n ≤ 255) (same_len labels) h.fits }

-- ---- the rows of sets

stated_rows : (records : List Record) → AllByRecursion (λ r. IsStatedData r.rdata) records → AllByRecursion IsStatedRow (rows_of records)
stated_rows [] all = tt
stated_rows (r ∷ rs) all = (all.0, stated_rows rs all.1)

stated_set : (s : RecordSetValue) → IsStatedSet s → AreStatedAt (set_key s) (rows_of s.records)
stated_set s is = record {
  labels = lower_labels s.name.labels is.owner.0;
  octets = lower_each s.name.labels is.owner.1;
  rows = stated_rows s.records is.rdata;
}

stated_at : (q : Key) (sets : List RecordSetValue) → AllByRecursion IsStatedSet sets → IfSome (rows_if (list.find (tied q) sets)) (AreStatedAt q)
unfolding rows_if
stated_at q [] all = tt
stated_at q (s ∷ sets) all = at (tied q s) refl (stated_at q sets all.1)
  where
    at : (b : Bool) → tied q s ≡ b → IfSome (rows_if (list.find (tied q) sets)) (AreStatedAt q) → IfSome (rows_if (cond b (Some s) (list.find (tied q) sets))) (AreStatedAt q)
    at true is more = subst (λ (k : Key). AreStatedAt k (rows_of s.records)) (tied_key q (set_key s) is) (stated_set s all.0)
    at false is more = more

pub stated_zone : (zone : ZoneContent) (sets : List RecordSetValue) → zone.rows ≡ rows_of_sets sets → AllByRecursion IsStatedSet sets → IsStated zone
stated_zone zone sets e all q =
    subst (λ (o : Option (List Row)). IfSome o (AreStatedAt q)) (sym (ap (λ (rows : rows_map.FinMap key_cmp (List Row)). rows_map.get rows q) e ∙ get-sets sets q)) (stated_at q sets all)

pub octets_of : (l : List ℕ) → ((k : ℕ) → get_or l k 0 < 256) → AreOctets l
octets_of [] fits = tt
octets_of (c ∷ cs) fits = (fits 0, octets_of cs (λ k. fits (suc k)))
