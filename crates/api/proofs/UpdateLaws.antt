-- Why an item with data is not added to an update.
use Rattle.std.proofs.Common.{◌≡◌, List, ℕ, Option, Some, Result, Ok, IfErr, refl, sym, subst}
use Rattle.std.specs.Prelude.{IsOk}
use Rattle.api.specs.buffer.Arguments.{name_in}
use Rattle.api.specs.declared.buffer.refusal.Refusal.{Refusal}
use Rattle.api.specs.declared.buffer.refusal.Refusal.TheVariants as refusal
use Rattle.dns_wire.specs.declared.codes.record_type.RecordType.{RecordType}
use Rattle.dns_names.specs.Name.{DomainName}
use Rattle.api.specs.messages.Data as text
use Rattle.api.specs.messages.Updates.{IsFilledUnadded, IsItemUnadded}
use Rattle.api.specs.declared.messages.item.FilledItem.{FilledItem}
use Rattle.api.specs.declared.messages.item.Item.{Item}
use Rattle.api.specs.declared.messages.item.Item.TheVariants.{Filled}

-- its text is no data, and its name is one
unadded_as : (zone : DomainName) (name : List ℕ) (kind : RecordType) (written : List ℕ) (reason : Refusal) → IsOk (name_in name)
    → text.IsRefused zone kind written reason → IsFilledUnadded zone name kind written reason
unadded_as zone name kind written refusal.Encoding named not = (named, not)
unadded_as zone name kind written refusal.Data named not = (named, not)
unadded_as zone name kind written refusal.Memory named not = tt
unadded_as zone name kind written refusal.NoReply named not = absurd not
unadded_as zone name kind written refusal.TooSmall named not = absurd not
unadded_as zone name kind written refusal.NullHandle named not = absurd not
unadded_as zone name kind written refusal.Transport named not = absurd not
unadded_as zone name kind written refusal.Limit named not = absurd not
unadded_as zone name kind written refusal.Name named not = absurd not
unadded_as zone name kind written refusal.Zone named not = absurd not
unadded_as zone name kind written refusal.Message named not = absurd not
unadded_as zone name kind written refusal.TooLong named not = absurd not
unadded_as zone name kind written refusal.Update named not = absurd not
unadded_as zone name kind written refusal.Item named not = absurd not

pub unadded : (zone zone' : DomainName) (name : List ℕ) (owner : DomainName) (kind : RecordType) (written : List ℕ) (reason : Refusal)
    → zone' ≡ zone → name_in name ≡ Ok owner → text.IsRefused zone' kind written reason → IsFilledUnadded zone name kind written reason
unadded zone zone' name owner kind written reason same named not =
    unadded_as zone name kind written reason (subst (λ (r : Result DomainName Refusal). IsOk r) (sym named) refl)
    (subst (λ (z : DomainName). text.IsRefused z kind written reason) same not)

-- by the number of the item, and that of the type
pub filled_unadded : (zone : DomainName) (found : Option Item) (item : FilledItem) (name : List ℕ) (kind kind' : RecordType) (written : List ℕ)
    (result : Result (Unit {0}) Refusal) → found ≡ Some (Filled item) → kind ≡ kind' → IfErr result (IsFilledUnadded zone name kind written)
    → IfErr result (IsItemUnadded zone found name kind' written)
filled_unadded zone found item name kind kind' written result is same not =
    subst (λ (t : RecordType). IfErr result (IsItemUnadded zone found name t written)) same
    (subst (λ (o : Option Item). IfErr result (IsItemUnadded zone o name kind written)) (sym is) not)
