-- Differences, and the records to which they lead.
use Rattle.std.proofs.Common.{◌≡◌, ◌∙◌, Bool, true, false, not, ◌&&◌, ◌||◌, List, [], ◌∷◌, refl, ap}
use Rattle.std.proofs.lemmas.List.Folds.{list_any-append}
use Rattle.std.proofs.lemmas.Map.Views.{any-filter_same}
use Rattle.std.specs.List.{filter}
use Rattle.dns_records.specs.Record.{Record}
use Rattle.dns_records.specs.Rows.{Rows}
use Rattle.dns_differences.specs.declared.difference.Difference.{Difference}
use Rattle.dns_differences.specs.Difference.{applied, applied_all, in_zone, is_among, same_in_zone, AreRecordsOf, IsDifference, Lead}
use Rattle.dns_differences.proofs.RecordLaws.{alike}

-- the records that are among those after a difference
among_applied : (d : Difference) (records : List Record) (r : Record)
    → is_among (applied d records) r ≡ ((not (is_among d.deleted.items r) && is_among records r) || is_among d.added.items r)
among_applied d records r =
    list_any-append (λ x. same_in_zone x r) (filter (λ x. not (is_among d.deleted.items x)) records) d.added.items
    ∙ ap (λ (b : Bool). b || is_among d.added.items r)
    (any-filter_same (λ x. same_in_zone x r) (λ x. not (is_among d.deleted.items x)) (not (is_among d.deleted.items r))
    (λ x e. ap not (alike d.deleted.items x r e)) records)

leads_at : (old new : Bool) → ((not (old && not new) && old) || (new && not old)) ≡ new
leads_at true true = refl
leads_at true false = refl
leads_at false true = refl
leads_at false false = refl

pub leads : (old new : Rows) (d : Difference) (records : List Record) → IsDifference old new d → AreRecordsOf old records
    → AreRecordsOf new (applied d records)
leads old new d records is are r =
    among_applied d records r
    ∙ (λ i. (not (is.deleted r i) && are r i) || is.added r i)
    ∙ leads_at (in_zone old r) (in_zone new r)

pub all_lead : (ds : List Difference) (old new : Rows) (records : List Record) → Lead old ds new → AreRecordsOf old records
    → AreRecordsOf new (applied_all ds records)
all_lead [] old new records same are = λ r. are r ∙ same r
all_lead (d ∷ ds) old new records (next, (is, more)) are =
    all_lead ds next new (applied d records) more (leads old next d records is are)
