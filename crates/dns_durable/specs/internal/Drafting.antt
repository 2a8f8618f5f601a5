-- What the steps of writing a text do to a draft.
use Rattle.std.specs.Prelude.{◌≡◌, ◌++◌, [], ◌∷◌, string_bytes, Bool, true, false, List, ℕ, None, Result, Ok, Err}
use Rattle.std.specs.declared.alloc.AllocError.{AllocError}
use Rattle.std.specs.BTreeSet as keys
use Rattle.std.specs.FinMap as rows_map
use Rattle.dns_names.specs.Compare.{same_labels}
use Rattle.dns_names.specs.Name.{DomainName}
use Rattle.dns_records.specs.RecordSet.{RecordSetValue}
use Rattle.dns_updates.specs.Keys.{place_cmp}
use Rattle.dns_zone.specs.Printed.{owner_lines, set_lines}
use Rattle.dns_zone.specs.Rows.{Key, Rows, ZoneContent, IsZone}
use Rattle.dns_zone.specs.Sets.{set_place}
use Rattle.dns_durable.specs.Draft.{AreSettledFor, Grows, HaveOneMark, IsBehind, IsDraftOf, Settled, is_settled, place_of}
use Rattle.dns_durable.specs.declared.draft.Draft.{Draft}
use Rattle.dns_durable.specs.declared.draft.Progress.{Progress}
use Rattle.dns_durable.specs.declared.draft.Progress.TheVariants.{Idle, Writing, GivenUp}
use Rattle.dns_durable.specs.declared.durable_server.Replies.{Replies}
use Rattle.dns_durable.specs.declared.incoming.Arrived.{Arrived}
use Rattle.dns_durable.specs.zone_texts.Stated.{IsStatedSet, with_origin}

-- ---- writing

-- a draft has the line of an origin and the lines of the first set
pub record IsBegun (origin : DomainName) (start : RecordSetValue) (d : Draft) : Type 0 where
  pub stated : IsStatedSet start
  pub text_is : string_bytes d.text.text ≡ with_origin origin [] ++ owner_lines origin start.records
  pub place_is : d.place ≡ set_place start
  pub unfinished : d.is_whole ≡ false
  pub none_ahead : d.ahead.keys ≡ []
  pub none_carried : d.carried.items ≡ []

-- a draft has the lines of a set more
pub record Writes (set : RecordSetValue) (old new : Draft) : Type 0 where
  pub stated : IsStatedSet set
  pub text_is : string_bytes new.text.text ≡ string_bytes old.text.text ++ set_lines set
  pub place_is : new.place ≡ old.place
  pub whole_is : new.is_whole ≡ old.is_whole
  pub ahead_is : new.ahead ≡ old.ahead
  pub carried_is : new.carried ≡ old.carried

-- the lines of a set that comes next, unless it was written ahead
abbrev pub WritesUnless : Bool → RecordSetValue → Draft → Draft → Type 0
WritesUnless true set old new = string_bytes new.text.text ≡ string_bytes old.text.text
WritesUnless false set old new =
    (string_bytes new.text.text ≡ string_bytes old.text.text ++ set_lines set) × IsStatedSet set

-- a set has had its turn
pub record Passes (set : RecordSetValue) (old new : Draft) : Type 0 where
  pub writes : WritesUnless (keys.contains place_cmp old.ahead (set_place set)) set old new
  pub place_is : new.place ≡ set_place set
  pub whole_is : new.is_whole ≡ old.is_whole
  pub ahead_is : new.ahead ≡ old.ahead
  pub carried_is : new.carried ≡ old.carried

-- ---- settling

-- A draft goes on while the zone does not change: more places are settled, and it carries the same.
pub record GoesOn (zone : ZoneContent) (old new : Draft) : Type 0 where
  pub draft : (base : ZoneContent) → IsDraftOf base zone old → IsDraftOf base zone new
  pub grows : Grows (is_settled old) (is_settled new)
  pub carried_is : new.carried ≡ old.carried

-- each set of an owner is settled
abbrev pub AreOwnersSettled : DomainName → Settled → Rows → Type 0
AreOwnersSettled owner settled rows =
    (k : Key) → same_labels owner.labels k.0 ≡ true → settled (place_of k) ≡ false → rows_map.get rows k ≡ None

-- if a text is being written, the sets are settled that requests may change
abbrev pub AreSettledIn : List ZoneContent → List Arrived → Progress → Type 0
AreSettledIn zones requests (Writing d) =
    (zone : ZoneContent) → zones ≡ zone ∷ [] → IsZone zone × AreSettledFor (is_settled d) zone.rows requests
AreSettledIn zones requests other = Unit {0}

-- a text goes on, or is given up, and is ready for the updates of requests
abbrev pub IsReadyFor : ZoneContent → List ZoneContent → List Arrived → Progress → Progress → Type 0
IsReadyFor base zones requests old new = IsBehind base zones old → IsBehind base zones new × AreSettledIn zones requests new

-- ---- carrying

-- an entry joins the one of earlier updates: if there are any, behind the mark of their rule
pub data IsJoined (old entry : List ℕ) : List ℕ → Type 0 where
  nothing : entry ≡ [] → IsJoined old entry old
  first : old ≡ [] → IsJoined old entry entry
  further : (more : List ℕ) → HaveOneMark old entry more → IsJoined old entry (old ++ more)

-- a draft carries an entry more
pub record CarriesOn (entry : List ℕ) (old new : Draft) : Type 0 where
  pub joined : IsJoined old.carried.items entry new.carried.items
  pub text_is : new.text ≡ old.text
  pub place_is : new.place ≡ old.place
  pub whole_is : new.is_whole ≡ old.is_whole
  pub ahead_is : new.ahead ≡ old.ahead

-- what is made of a text that is being written: it carries an entry more, or is given up
abbrev pub CarriesOrEnds : List ℕ → Draft → Progress → Type 0
CarriesOrEnds entry d Idle = ⊥
CarriesOrEnds entry d (Writing new) = CarriesOn entry d new
CarriesOrEnds entry d (GivenUp fault) = Unit {0}

-- a text, if one is being written, carries an entry more
abbrev pub Carries : List ℕ → Progress → Progress → Type 0
Carries entry (Writing d) new = CarriesOrEnds entry d new
Carries entry other new = new ≡ other

-- the same if updates are stored, and else nothing
abbrev pub CarriesIf : Bool → List ℕ → Progress → Progress → Type 0
CarriesIf true entry old new = Carries entry old new
CarriesIf false entry old new = new ≡ old

-- what a text makes of the outcome of requests: without memory it is given up
abbrev pub Notes : Result Replies AllocError → List ℕ → Progress → Progress → Type 0
Notes (Ok replies) entry old new = CarriesIf replies.is_stored entry old new
Notes (Err error) entry old new = (base : ZoneContent) (zones : List ZoneContent) → IsBehind base zones new
