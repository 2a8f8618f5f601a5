-- A zone after an update, and after one that was refused memory.
use Rattle.std.proofs.Common.{◌≡◌, ◌∙◌, ℕ, Bool, true, false, cond, not, ◌||◌, List, [], ◌∷◌, refl, sym, subst, Option, Some}
use Rattle.std.specs.Prelude.{IfSome}
use Rattle.std.specs.List as list
use Rattle.std.specs.List.{list_any}
use Rattle.dns_wire.specs.codes.RecordType.{type_number, type_of}
use Rattle.dns_names.specs.Name.{DomainName}
use Rattle.dns_records.specs.RecordSet.{RecordSetValue}
use Rattle.dns_messages.specs.declared.message.Message.{Message}
use Rattle.dns_messages.specs.declared.response_code.ResponseCode.TheVariants.{NoError}
use Rattle.dns_messages.specs.Sound.{IsSound}
use Rattle.dns_updates.specs.declared.changes.changed_set.ChangedSet.{ChangedSet}
use Rattle.dns_updates.specs.Change.{update_change}
use Rattle.dns_updates.specs.Changes.{overlay}
use Rattle.dns_updates.specs.Code.{update_code}
use Rattle.dns_zone.specs.Load.{is_internet}
use Rattle.dns_zone.specs.Printed.{AreZoneSets}
use Rattle.dns_zone.specs.Rows.{Key, ZoneContent, AreSoundSets, IsZone, rows_of_sets, zone_of}
use Rattle.dns_zone.specs.Sets.{set_at, AreInOrder}
use Rattle.dns_zone.specs.internal.Store.{changed_at}
use Rattle.dns_zone.proofs.KeptLaws.{AreKept, HaveSameSets, kept_sets}
use Rattle.dns_zone.proofs.LoadLaws.{faultless}
use Rattle.dns_zone.proofs.RowLaws.{tied}
use Rattle.dns_zone.proofs.StoreLaws.{overlaid, plain_changed}
use Rattle.dns_zone.proofs.UpdatedLaws.{zone_kept}
use Rattle.dns_zone.proofs.WholeLaws.{AreWhole, IsPlainSet, whole_sets}

or_both : (a b : Bool) → (a || b) ≡ false → (a ≡ false) × (b ≡ false)
or_both true b e = absurd (cc)
or_both false b e = (refl, e)

to_true : (b : Bool) → not b ≡ false → b ≡ true
to_true true e = refl
to_true false e = absurd (cc)

-- the sets of a zone are plain
pub plain_found : (p : RecordSetValue → Bool) (sets : List RecordSetValue) → AreSoundSets sets → list_any (λ s. not (is_internet s)) sets ≡ false → IfSome (list.find p sets) IsPlainSet
plain_found p [] sound internet = tt
plain_found p (s ∷ ss) sound internet = by (p s) (plain_found p ss sound.1 parts.1)
  where
    parts : (not (is_internet s) ≡ false) × (list_any (λ s. not (is_internet s)) ss ≡ false)
    parts = or_both (not (is_internet s)) (list_any (λ s. not (is_internet s)) ss) internet

    by : (b : Bool) → IfSome (list.find p ss) IsPlainSet → IfSome (cond b (Some s) (list.find p ss)) IsPlainSet
    by true more = record { fqdn = sound.0.fqdn; internet = to_true (is_internet s) parts.0; type_named = sound.0.type_named }
    by false more = more

-- what a zone is after an update
pub record IsApplied (origin : DomainName) (old new : List RecordSetValue) (m : Message) : Type 0 where
  pub zone_is : ◌≡◌ {A = ZoneContent} (zone_of origin new) (record (zone_of origin old) { rows = update_change origin (rows_of_sets old) m })
  pub well : IsZone (zone_of origin new)
  pub whole : AreWhole origin new

module _ (origin : DomainName) (old new : List RecordSetValue) (sound : AreSoundSets old) (kept : AreZoneSets origin old) (sorted : AreInOrder new) where
  pub unchanged : HaveSameSets new old → AreKept origin old new
  unchanged same = kept_sets origin old new sound kept.distinct kept.faultless same sorted

  pub applied : (changed : List ChangedSet) (m : Message) → ((number : ℕ) → type_number (type_of number) ≡ number) → IsZone (zone_of origin old) → IsSound m
      → update_code origin (rows_of_sets old) m ≡ NoError → overlay (rows_of_sets old) changed ≡ update_change origin (rows_of_sets old) m
      → ((k : Key) → set_at new k ≡ changed_at changed k (set_at old k)) → IsApplied origin old new m
  applied changed m round well message ok changes steps =
      let rows : rows_of_sets new ≡ update_change origin (rows_of_sets old) m = overlaid old new changed steps ∙ changes in
      let zone : ◌≡◌ {A = ZoneContent} (zone_of origin new) (record (zone_of origin old) { rows = update_change origin (rows_of_sets old) m }) =
      (λ i. record { origin = origin; rows = rows i }) in
      let after : IsZone (zone_of origin new) = subst IsZone (sym zone) (zone_kept (zone_of origin old) m well message ok) in
      record {
        zone_is = zone;
        well = after;
        whole = whole_sets (zone_of origin new) new refl after sorted (λ k.
            subst (λ (o : Option RecordSetValue). IfSome o IsPlainSet) (sym (steps k))
            (plain_changed changed k round (set_at old k) (plain_found (tied k) old sound (faultless origin old kept.faultless).internet)));
      }
