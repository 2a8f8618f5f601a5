-- Updates without effect.
use Rattle.std.proofs.Common.{◌≡◌, ◌<◌, ℕ, Bool, true, false, List, [], length, get_or, refl, sym, ap, subst, ◌∙◌}
use Rattle.std.proofs.lemmas.List.Folds.{list_all_at}
use Rattle.dns_names.specs.Name.{DomainName}
use Rattle.dns_records.specs.Record.{Record}
use Rattle.dns_records.specs.Rows.{Rows}
use Rattle.dns_updates.specs.Change.{are_void, is_void_in_class}
use Rattle.dns_updates.specs.Changes.{overlay}
use Rattle.dns_updates.specs.declared.changes.changed_set.ChangedSet.{ChangedSet}

true_of : (b : Bool) → (b ≡ false → ⊥) → b ≡ true
true_of true h = refl
true_of false h = absurd (h refl)

-- an update of a list of updates without effect is without effect, also over no changed sets
pub void_at : (origin : DomainName) (rows : Rows) (updates : List Record) (sets : List ChangedSet) (i : ℕ) (r : Record)
    → r ≡ get_or updates i r → i < length updates → are_void origin rows updates ≡ true → sets ≡ []
    → is_void_in_class origin (overlay rows sets) r.dns_class r ≡ true
void_at origin rows updates sets i r is within void none =
    let test = λ (x : Record). is_void_in_class origin rows x.dns_class x in
    let here : is_void_in_class origin rows r.dns_class r ≡ true =
    true_of (test r) (λ wrong. let all : are_void origin rows updates ≡ false = list_all_at test updates i r within (ap test (sym is) ∙ wrong) in absurd (cc)) in
    subst (λ (xs : List ChangedSet). is_void_in_class origin (overlay rows xs) r.dns_class r ≡ true) (sym none) here
