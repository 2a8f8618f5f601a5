-- A zone that was read from a zone file can be printed.
use Rattle.std.proofs.Common.{◌≡◌, ◌<◌, ◌≤◌, ◌+◌, ◌∙◌, ℕ, suc, Bool, true, false, cond, List, [], ◌∷◌, length, get_or, refl, sym, ap, subst, arith, Option, Some, Result, Ok, Err}
use Rattle.std.specs.Prelude.{IfSome, IfOk}
use Rattle.std.proofs.lemmas.Bool.Decides.{nat_tests}
use Rattle.std.specs.Char.{to_ascii_lowercase}
use Rattle.std.specs.FinMap as rows_map
use Rattle.std.specs.List as list
use Rattle.std.specs.List.{AllByRecursion}
use Rattle.std.specs.Str.{str_to_ascii_lowercase}
use Rattle.dns_wire.specs.Name.{AreLabels, IsLabel, name_len}
use Rattle.dns_names.specs.Name.{DomainName}
use Rattle.dns_names.specs.Compare.{lower}
use Rattle.dns_names.specs.Print.{AreOctets}
use Rattle.dns_records.specs.Record.{Record}
use Rattle.dns_records.specs.declared.row.Row.{Row}
use Rattle.dns_records.specs.RecordSet.{RecordSetValue}
use Rattle.dns_zone_file.specs.declared.parser.ZoneRecords.{ZoneRecords}
use Rattle.dns_zone_file.specs.declared.types.Types.{Types}
use Rattle.dns_zone_file.specs.declared.types.Types.TheVariants.{Nine}
use Rattle.dns_zone_file.specs.Parsing.{Includes, ZoneFile, HasRecords}
use Rattle.dns_zone_file.specs.Printed.{IsValidName, HasText, IsTextSet}
use Rattle.dns_zone_file.proofs.ValidLaws.{text_file}
use Rattle.dns_zone.specs.declared.zone.ZoneFault.{ZoneFault}
use Rattle.dns_zone.specs.Printed.{IsPrintableRow, ArePrintableAt, IsPrintable}
use Rattle.dns_zone.specs.Rows.{Key, key_cmp, ZoneContent, set_key, rows_of, rows_of_sets}
use Rattle.dns_zone.proofs.KeptLaws.{tied_key}
use Rattle.dns_zone.proofs.RowLaws.{tied, rows_if, get-sets}

-- ---- lower case keeps octets and labels

lower_octet : (c : ℕ) → c < 256 → to_ascii_lowercase c < 256
lower_octet c h = grind (arith, nat_tests)

lower_octets : (l : List ℕ) → AreOctets l → AreOctets (str_to_ascii_lowercase l)
lower_octets [] all = tt
lower_octets (c ∷ cs) all = (lower_octet c all.0, lower_octets cs all.1)

lower_each : (labels : List (List ℕ)) → AllByRecursion AreOctets labels → AllByRecursion AreOctets (lower labels)
lower_each [] all = tt
lower_each (l ∷ ls) all = (lower_octets l all.0, lower_each ls all.1)

same_length : (l : List ℕ) → length l ≡ length (str_to_ascii_lowercase l)
same_length [] = refl
same_length (c ∷ cs) = ap suc (same_length cs)

same_len : (labels : List (List ℕ)) → name_len labels ≡ name_len (lower labels)
same_len [] = refl
same_len (l ∷ ls) = λ i. (same_length l i + 1) + same_len ls i

each_lower : (labels : List (List ℕ)) → AllByRecursion IsLabel labels → AllByRecursion IsLabel (lower labels)
each_lower [] all = tt
each_lower (l ∷ ls) all = (
  record { some = subst (λ n. 0 < n) (same_length l) all.0.some; most = subst (λ n. n < 64) (same_length l) all.0.most },
  each_lower ls all.1,
)

lower_labels : (labels : List (List ℕ)) → AreLabels labels → AreLabels (lower labels)
lower_labels labels h = record { each = each_lower labels h.each; fits = subst (λ n. n ≤ 255) (same_len labels) h.fits }

-- ---- the rows of sets

printable_rows : (records : List Record) → AllByRecursion (λ r. HasText r.rdata) records → AllByRecursion IsPrintableRow (rows_of records)
printable_rows [] all = tt
printable_rows (r ∷ rs) all = (record { has_text = all.0.has_text; valid = all.0.valid }, printable_rows rs all.1)

printable_set : (s : RecordSetValue) → IsTextSet s → ArePrintableAt (set_key s) (rows_of s.records)
printable_set s is = record {
  labels = lower_labels s.name.labels is.owner.0;
  octets = lower_each s.name.labels is.owner.1;
  rows = printable_rows s.records is.rdata;
}

printable_at : (q : Key) (sets : List RecordSetValue) → AllByRecursion IsTextSet sets → IfSome (rows_if (list.find (tied q) sets)) (ArePrintableAt q)
unfolding rows_if
printable_at q [] all = tt
printable_at q (s ∷ sets) all = at (tied q s) refl (printable_at q sets all.1)
  where
    at : (b : Bool) → tied q s ≡ b → IfSome (rows_if (list.find (tied q) sets)) (ArePrintableAt q) → IfSome (rows_if (cond b (Some s) (list.find (tied q) sets))) (ArePrintableAt q)
    at true is more = subst (λ (k : Key). ArePrintableAt k (rows_of s.records)) (tied_key q (set_key s) is) (printable_set s all.0)
    at false is more = more

printable_sets : (zone : ZoneContent) (sets : List RecordSetValue) → AllByRecursion IsTextSet sets → zone.rows ≡ rows_of_sets sets → IsPrintable zone
printable_sets zone sets all e q =
    subst (λ (o : Option (List Row)). IfSome o (ArePrintableAt q)) (sym (ap (λ (rows : rows_map.FinMap key_cmp (List Row)). rows_map.get rows q) e ∙ get-sets sets q)) (printable_at q sets all)

-- ---- zones

pub octets_of : (l : List ℕ) → ((k : ℕ) → get_or l k 0 < 256) → AreOctets l
octets_of [] fits = tt
octets_of (c ∷ cs) fits = (fits 0, octets_of cs (λ k. fits (suc k)))

-- the zone of a text of octets can be printed, if the included texts consist of octets and the origin is valid
pub printable_zone : (types : Types) (includes : Includes) (origin : Option DomainName) (text : List ℕ) (records : ZoneRecords) → types ≡ Nine
    → HasRecords (record { text = text; includes = includes; origin = origin; types = types }) records → (r : Result ZoneContent ZoneFault)
    → IfOk r (λ zone. zone.rows ≡ rows_of_sets records.sets) → ((k : ℕ) → get_or text k 0 < 256)
    → AllByRecursion (λ i. AreOctets i.1) includes → IfSome origin IsValidName → IfOk r IsPrintable
printable_zone types includes origin text records nine has (Err refusal) rows fits are is = tt
printable_zone types includes origin text records nine has (Ok zone) rows fits are is =
    let file : ZoneFile = record { text = text; includes = includes; origin = origin; types = types } in
    let found = text_file file has.context (record { types = nine; text = octets_of text fits; includes = are; origin = is }) has.parses in
    printable_sets zone records.sets (subst (λ (found : ZoneRecords). AllByRecursion IsTextSet found.sets) (sym has.records_are) found.sets) rows
