-- Texts that are written piece by piece.
use Rattle.std.proofs.Common.{◌≡◌, ◌<◌, ◌+◌, ℕ, List, ◌∷◌, ◌++◌, length, drop, get_or, flat_map, sym, ap, ◌∙◌}
use Rattle.std.proofs.lemmas.List.{append_assoc}
use Rattle.dns_names.specs.Name.{DomainName}
use Rattle.dns_records.specs.Record.{Record}
use Rattle.dns_records.specs.RecordSet.{RecordSetValue}
use Rattle.dns_zone.specs.Printed.{owner_lines, set_lines, zone_text}
use Rattle.dns_zone.proofs.ListLaws.{drop_at}

-- the text of one more item
pub text_further : {A : Type 0} (f : A → List ℕ) (xs : List A) (i : ℕ) (x : A) (text done whole : List ℕ) → text ≡ f x → i < length xs → x ≡ get_or xs i x
    → done ++ flat_map f (drop i xs) ≡ whole → (done ++ text) ++ flat_map f (drop (i + 1) xs) ≡ whole
text_further f xs i x text done whole is h e was =
    append_assoc done text (flat_map f (drop (i + 1) xs))
    ∙ ap (λ l. done ++ (l ++ flat_map f (drop (i + 1) xs))) is
    ∙ ap (λ l. done ++ flat_map f l) (sym (drop_at xs i x h e)) ∙ was

-- the text of one more item, which is the next of those that are left
pub next_text : {A : Type 0} (f : A → List ℕ) (xs more : List A) (x : A) (text done whole : List ℕ) → text ≡ f x → xs ≡ x ∷ more
    → done ++ flat_map f xs ≡ whole → (done ++ text) ++ flat_map f more ≡ whole
next_text f xs more x text done whole is e was =
    append_assoc done text (flat_map f more) ∙ ap (λ l. done ++ (l ++ flat_map f more)) is ∙ ap (λ l. done ++ flat_map f l) (sym e) ∙ was

-- the first set, and those after it
pub first_and_more : (origin : DomainName) (sets more : List RecordSetValue) (s : RecordSetValue) (records : List Record) → records ≡ s.records → sets ≡ s ∷ more
    → owner_lines origin records ++ flat_map set_lines more ≡ zone_text origin sets
first_and_more origin sets more s records is e = ap (λ (l : List Record). owner_lines origin l ++ flat_map set_lines more) is ∙ ap (zone_text origin) (sym e)
