-- The records of a zone, one after another.
use Rattle.std.proofs.Common.{◌≡◌, ◌∙◌, ℕ, true, false, List, [], ◌∷◌, ◌++◌, map, flat_map, refl, sym, ap, subst}
use Rattle.std.proofs.lemmas.List.{append_assoc}
use Rattle.std.specs.List.{AllByRecursion}
use Rattle.dns_messages.specs.declared.message.Message.{Message}
use Rattle.dns_messages.specs.Sound.{IsSound, IsSoundIn}
use Rattle.dns_names.specs.Name.{DomainName}
use Rattle.dns_records.specs.Record.{Record}
use Rattle.dns_records.specs.RecordSet.{RecordSetValue}
use Rattle.dns_zone.specs.Lookup.{AreSetsOf}
use Rattle.dns_zone.specs.Printed.{BeginsWithStart}
use Rattle.dns_zone.specs.Answer.{record_of}
use Rattle.dns_zone.specs.Rows.{ZoneContent, rows_of, AreSoundRows, AreSoundSets}
use Rattle.dns_zone.proofs.AnswerLaws.{sound_records}
use Rattle.dns_transfers.specs.Records.{owned_record}
use Rattle.dns_transfers.specs.Sending.{AreRead}
use Rattle.dns_transfers.proofs.SendingLaws.{all_arrive}
use Rattle.dns_transfers.specs.whole.Reply.{IsTransfer}
use Rattle.dns_transfers.specs.whole.ZoneRecords.{owned_by, records_of_set, transfer_records}

-- the first set of a zone, and the others
pub record Begins (sets : List RecordSetValue) : Type 0 where
  pub first : RecordSetValue
  pub others : List RecordSetValue
  pub is : sets ≡ first ∷ others

pub begins : (origin : DomainName) (sets : List RecordSetValue) → BeginsWithStart origin sets → Begins sets
begins origin [] start = absurd start
begins origin (s ∷ sets) start = record { first = s; others = sets; is = refl }

-- what an iterator begins with
pub starts_with : (origin : DomainName) (sets all more : List RecordSetValue) (s : RecordSetValue) (records : List Record) → all ≡ s ∷ more → records ≡ s.records → sets ≡ more
    → owned_by origin records ++ (flat_map records_of_set sets ++ owned_by origin records) ≡ transfer_records origin all
starts_with origin sets all more s records e is rest =
    (λ i. owned_by origin (is i) ++ (flat_map records_of_set (rest i) ++ owned_by origin (is i))) ∙ ap (transfer_records origin) (sym e)

-- ---- going on

-- one set is over, and the next begins
pub set_over : (owner next origin : DomainName) (records following last : List Record) (sets more : List RecordSetValue) (s : RecordSetValue) → records ≡ [] → sets ≡ s ∷ more → next ≡ s.name → following ≡ s.records
    → owned_by next following ++ (flat_map records_of_set more ++ last) ≡ owned_by owner records ++ (flat_map records_of_set sets ++ last)
set_over owner next origin records following last sets more s none e name is =
    (λ i. owned_by (name i) (is i) ++ (flat_map records_of_set more ++ last))
    ∙ sym (append_assoc (records_of_set s) (flat_map records_of_set more) last)
    ∙ (λ i. owned_by owner (sym none i) ++ (flat_map records_of_set (sym e i) ++ last))

-- ---- sound records

all_parts : {A : Type 0} (P : A → Type 0) (xs ys : List A) → AllByRecursion P xs → AllByRecursion P ys → AllByRecursion P (xs ++ ys)
all_parts P [] ys a b = b
all_parts P (x ∷ xs) ys a b = (a.0, all_parts P xs ys a.1 b)

owned_sound : (owner : DomainName) (records : List Record) → owner.is_fqdn ≡ true → AreSoundRows (rows_of records) → AllByRecursion (IsSoundIn false) (owned_by owner records)
owned_sound owner records f sound = subst (AllByRecursion (IsSoundIn false)) (owned_same records) (sound_records owner (rows_of records) f sound)
  where
    owned_same : (rs : List Record) → map (record_of owner) (rows_of rs) ≡ owned_by owner rs
    owned_same [] = refl
    owned_same (r ∷ rs) = ap (λ (l : List Record). owned_record owner r ∷ l) (owned_same rs)

sets_sound : (sets : List RecordSetValue) → AreSoundSets sets → AllByRecursion (IsSoundIn false) (flat_map records_of_set sets)
sets_sound [] sound = tt
sets_sound (s ∷ sets) sound =
    all_parts (IsSoundIn false) (records_of_set s) (flat_map records_of_set sets) (owned_sound s.name s.records sound.0.fqdn sound.0.rows) (sets_sound sets sound.1)

transfer_sound : (origin : DomainName) (sets : List RecordSetValue) → origin.is_fqdn ≡ true → AreSoundSets sets → AllByRecursion (IsSoundIn false) (transfer_records origin sets)
transfer_sound origin [] f sound = tt
transfer_sound origin (s ∷ sets) f sound =
    let start = owned_sound origin s.records f sound.0.rows in
    all_parts (IsSoundIn false) (owned_by origin s.records) (flat_map records_of_set sets ++ owned_by origin s.records) start
    (all_parts (IsSoundIn false) (flat_map records_of_set sets) (owned_by origin s.records) (sets_sound sets sound.1) start)

pub all_sound : (zone : ZoneContent) (sets : List RecordSetValue) → AreSetsOf zone sets → AllByRecursion (IsSoundIn false) (transfer_records zone.origin sets)
all_sound zone sets h = transfer_sound zone.origin sets h.origin_fqdn h.sound

pub zone_arrives : (zone : ZoneContent) (request : Message) (messages : List (List ℕ)) → IsSound request → IsTransfer zone request messages
    → (sets : List RecordSetValue) × (AreSetsOf zone sets × ((decoded : List Message) × (AreRead messages decoded × (flat_map (λ m. m.answers) decoded ≡ transfer_records zone.origin sets))))
zone_arrives zone request messages sound t =
    (t.sets, (t.of_zone, all_arrive request (transfer_records zone.origin t.sets) messages sound (all_sound zone t.sets t.of_zone) t.sends))
