-- The text of a zone, which is written in steps while updates change the zone.
use Rattle.std.specs.Prelude.{◌≡◌, ◌&&◌, ◌||◌, ◌∷◌, [], not, string_bytes, Bool, true, false, List, ℕ, None}
use Rattle.std.specs.BTreeSet as keys
use Rattle.std.specs.FinMap as rows_map
use Rattle.std.specs.List.{AllByRecursion}
use Rattle.std.specs.Ordering.{is_gt}
use Rattle.dns_wire.specs.declared.codes.dns_class.DNSClass.{DNSClass}
use Rattle.dns_wire.specs.declared.codes.dns_class.DNSClass.TheVariants as classes
use Rattle.dns_wire.specs.declared.codes.record_type.RecordType.TheVariants as types
use Rattle.dns_names.specs.Compare.{same_labels}
use Rattle.dns_records.specs.Record.{Record}
use Rattle.dns_records.specs.RecordSet.{RecordSetValue}
use Rattle.dns_records.specs.Rows.{key_of}
use Rattle.dns_updates.specs.Keys.{Place, number_code, owner_code, place_cmp}
use Rattle.dns_updates.specs.Records.{is_of_type}
use Rattle.dns_zone.specs.Printed.{AreZoneSets, zone_text}
use Rattle.dns_zone.specs.Rows.{Key, Rows, ZoneContent, AreSoundSets, rows_of_sets}
use Rattle.dns_zone.specs.Sets.{set_place}
use Rattle.dns_durable.specs.Durable.{TakesEntry}
use Rattle.dns_durable.specs.declared.draft.Draft.{Draft}
use Rattle.dns_durable.specs.declared.draft.Progress.{Progress}
use Rattle.dns_durable.specs.declared.draft.Progress.TheVariants.{Writing}
use Rattle.dns_durable.specs.declared.incoming.Arrived.{Arrived}
use Rattle.dns_durable.specs.declared.incoming.Arrived.TheVariants.{Request, Other}
use Rattle.dns_durable.specs.Reply.{makes_change}
use Rattle.dns_durable.specs.zone_texts.Stated.{IsStatedSet, with_origin}

-- ---- places

-- which places in the order of sets are settled
abbrev pub Settled : Type 0
Settled = Place → Bool

-- the place of the set at a key
abbrev pub place_of : Key → Place
place_of k = (owner_code k.0, number_code k.1)

-- Whether a place is settled: its turn has come, or it was looked at ahead of its turn.
abbrev pub is_settled : Draft → Settled
is_settled d p = d.is_whole || (not (is_gt (place_cmp p d.place)) || keys.contains place_cmp d.ahead p)

-- ---- the text

-- The text has some sets of a zone, its SOA record first. Later updates do not change it.
pub record IsPart (base : ZoneContent) (sets : List RecordSetValue) (text : List ℕ) : Type 0 where
  pub fqdn : base.origin.is_fqdn ≡ true
  pub text_is : text ≡ with_origin base.origin (zone_text base.origin sets)
  pub sound : AreSoundSets sets
  pub kept : AreZoneSets base.origin sets
  pub stated : AllByRecursion IsStatedSet sets

-- Rows that were once those of a zone, and are now others: at settled places the sets have the rows from before, and at all other
-- places nothing has changed.
pub record IsBetween (before now : Rows) (settled : Settled) (sets : List RecordSetValue) : Type 0 where
  pub all : AllByRecursion (λ s. settled (set_place s) ≡ true) sets
  pub written : (k : Key) → settled (place_of k) ≡ true → rows_map.get (rows_of_sets sets) k ≡ rows_map.get before k
  pub others : (k : Key) → settled (place_of k) ≡ false → rows_map.get now k ≡ rows_map.get before k

-- A draft of the text of a zone, which has become another zone since, by the updates that the draft carries.
pub record IsDraftOf (base zone : ZoneContent) (d : Draft) : Type 0 where
  pub sets : List RecordSetValue
  pub part : IsPart base sets (string_bytes d.text.text)
  pub between : IsBetween base.rows zone.rows (is_settled d) sets
  pub origin_is : zone.origin ≡ base.origin

-- the updates that a draft carries lead from its zone to the zones that are served
pub record IsDraftBehind (base : ZoneContent) (zones : List ZoneContent) (d : Draft) : Type 0 where
  pub zone : ZoneContent
  pub zones_are : zones ≡ zone ∷ []
  pub draft : IsDraftOf base zone d
  pub carries : TakesEntry (base ∷ []) d.carried.items zones

-- if a text is being written, it is that of a zone from which the updates that it lacks lead to the zones that are served
abbrev pub IsBehind : ZoneContent → List ZoneContent → Progress → Type 0
IsBehind base zones (Writing d) = IsDraftBehind base zones d
IsBehind base zones other = Unit {0}

-- a text is begun for the only zone, or given up at once
abbrev pub Begins : List ZoneContent → Progress → Type 0
Begins zones progress = (zone : ZoneContent) × ((zones ≡ zone ∷ []) × IsBehind zone zones progress)

-- the whole text is written
abbrev pub IsWhole : Progress → Type 0
IsWhole (Writing d) = d.is_whole ≡ true
IsWhole other = ⊥

-- ---- updates

-- whether a class is that of a deletion of sets
abbrev pub is_any_class : DNSClass → Bool
is_any_class classes.ANY = true
is_any_class other = false

-- whether a record in an update section deletes all sets of its owner (RFC 2136 section 2.5.3)
abbrev pub deletes_owner : Record → Bool
deletes_owner r = is_any_class r.dns_class && is_of_type types.ANY r

-- The set of a record in an update section is settled, and each set of its owner, if all of them are deleted.
pub record IsSettledFor (settled : Settled) (rows : Rows) (r : Record) : Type 0 where
  pub own : settled (place_of (key_of r)) ≡ true
  pub of_owner : deletes_owner r ≡ true
      → (k : Key) → same_labels r.name.labels k.0 ≡ true → settled (place_of k) ≡ false → rows_map.get rows k ≡ None

-- no settled place becomes unsettled
abbrev pub Grows : Settled → Settled → Type 0
Grows old new = (p : Place) → old p ≡ true → new p ≡ true

-- rows differ at settled places alone
abbrev pub DifferWhereSettled : Settled → Rows → Rows → Type 0
DifferWhereSettled settled old new = (k : Key) → settled (place_of k) ≡ false → rows_map.get new k ≡ rows_map.get old k

-- the sets are settled that a request may change: those of an update that may be made
abbrev pub IsSettledForOne : Settled → Rows → Arrived → Type 0
IsSettledForOne settled rows (Request a) = makes_change a ≡ true → AllByRecursion (IsSettledFor settled rows) a.message.authorities
IsSettledForOne settled rows (Other bytes) = Unit {0}

-- those that requests may change
abbrev pub AreSettledFor : Settled → Rows → List Arrived → Type 0
AreSettledFor settled rows requests = AllByRecursion (IsSettledForOne settled rows) requests

-- ---- what is carried

-- Two entries begin with the same mark, of three bytes. After it, the second has these bytes.
pub record HaveOneMark (one other more : List ℕ) : Type 0 where
  pub first : ℕ
  pub second : ℕ
  pub third : ℕ
  pub rest : List ℕ
  pub one_is : one ≡ first ∷ second ∷ third ∷ rest
  pub other_is : other ≡ first ∷ second ∷ third ∷ more
