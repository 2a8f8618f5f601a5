-- The text of a zone takes the place of its journal.
use Rattle.std.specs.Prelude.{◌≡◌, ◌≢◌, ◌⊎◌, ℕ, Bool, true, false, List, [], ◌∷◌, length, Option, Some, None, Result, Ok, Err}
use Rattle.dns_journal.specs.declared.error.AppendError.{AppendError}
use Rattle.dns_journal.specs.declared.journal.Position.{Position}
use Rattle.dns_journal.specs.declared.journal.State.TheVariants as states
use Rattle.dns_journal.specs.Appending.{IsRefusal}
use Rattle.dns_journal.specs.Event.{Event}
use Rattle.dns_durable.specs.recovery.Compacting.{AsksToCompact, mark}
use Rattle.dns_durable.specs.Durable.{TakesEntry}
use Rattle.dns_zone.specs.Load.{ReadsZoneIn}
use Rattle.dns_zone.specs.Printed.{IsZoneText}
use Rattle.dns_zone.specs.Rows.{ZoneContent}
use Rattle.dns_zone.specs.declared.zone.ZoneFault.{ZoneFault}
use Rattle.dns_zone.specs.declared.zone.ZoneFault.TheVariants as faults
use Rattle.dns_zone_file.specs.declared.types.Types.TheVariants.{All}
use Rattle.dns_durable.specs.zone_texts.Stated.{IsStated, with_origin}
use Rattle.dns_durable.specs.declared.error.CompactError.{CompactError}
use Rattle.dns_durable.specs.declared.error.CompactError.TheVariants as errors

-- a text of a zone for its file: the line of its origin, and then its records
pub record IsFileText (zone : ZoneContent) (text : List ℕ) : Type 0 where
  pub records : List ℕ
  pub is_text : IsZoneText zone records
  pub text_is : text ≡ with_origin zone.origin records

-- a text of the only zone, and the zone that is read from it: that is a text of this one, too
pub record IsRewritten (zones : List ZoneContent) (text : List ℕ) (again : ZoneContent) : Type 0 where
  pub zone : ZoneContent
  pub zones_are : zones ≡ zone ∷ []
  pub is_text : IsFileText zone text
  pub is_read : ReadsZoneIn All [] None text (Ok again)
  pub is_same_text : IsFileText again text

-- A text lacks updates of zones: it is one of the only zone of others, from which these updates lead to the zones. The last one is the
-- zone that is read from it.
pub record IsTextBehind (zones : List ZoneContent) (text carried : List ℕ) (again : ZoneContent) : Type 0 where
  pub base : List ZoneContent
  pub rewritten : IsRewritten base text again
  pub carries : TakesEntry base carried zones

-- the zones of a server after a compaction: the one that was read again, if it was, or else the same
abbrev pub zones_again : List ZoneContent → Option ZoneContent → List ZoneContent
zones_again zones (Some again) = again ∷ []
zones_again zones None = zones

-- A text that lacks updates, and what is served once it has taken the place of a journal: that to which these updates lead from the zone
-- that is read from the text.
pub record IsSuccessor (zones : List ZoneContent) (text carried : List ℕ) (read : Option ZoneContent) : Type 0 where
  pub again : ZoneContent
  pub behind : IsTextBehind zones text carried again
  pub served : TakesEntry (again ∷ []) carried (zones_again zones read)

-- a text of the only zone, which can be stated
pub record IsStatedText (zones : List ZoneContent) (text : List ℕ) : Type 0 where
  pub zone : ZoneContent
  pub zones_are : zones ≡ zone ∷ []
  pub is_text : IsFileText zone text
  pub stated : IsStated zone

-- A zone's text takes the place of the text of a journal, and the updates that it lacks that of its updates, if that is done; then that is
-- served to which these updates lead from the zone that is read from the text.
pub record Replaces (text carried : List ℕ) (done : Bool) (old new : Position) (zones after : List ZoneContent) (es : List Event) : Type 0 where
  pub again : ZoneContent
  pub behind : IsTextBehind zones text carried again
  pub served : done ≡ true → TakesEntry (again ∷ []) carried after
  pub unchanged : done ≡ false → after ≡ zones
  pub ready : done ≡ true → old.state ≡ states.Ready
  pub asks : AsksToCompact text carried done old new es

-- nothing is done
pub record IsLeftAlone (old new : Position) (zones after : List ZoneContent) (es : List Event) : Type 0 where
  pub unasked : es ≡ []
  pub position : new ≡ old
  pub zones_are : after ≡ zones

-- What a compaction to a text that lacks updates asks of a storage, and the zones after it, by its result: nothing, unless the text is
-- ready to take the place of the old one.
abbrev pub Rewrites : List ℕ → List ℕ → Result (Unit {0}) CompactError → Position → Position → List ZoneContent → List ZoneContent
    → List Event → Type 0
Rewrites text carried (Ok done) old new zones after es = Replaces text carried true old new zones after es
Rewrites text carried (Err (errors.Journal error)) old new zones after es = Replaces text carried false old new zones after es
Rewrites text carried (Err other) old new zones after es = IsLeftAlone old new zones after es

-- a zone has a text that is not this one
pub record HasOtherText (zone : ZoneContent) (text : List ℕ) : Type 0 where
  pub other : List ℕ
  pub is_text : IsFileText zone other
  pub is_other : other ≢ text

-- a text from which a zone with another text is read
pub record IsReadOtherwise (text : List ℕ) : Type 0 where
  pub again : ZoneContent
  pub is_read : ReadsZoneIn All [] None text (Ok again)
  pub has_other : HasOtherText again text

-- whether memory was refused while a zone was read
abbrev pub is_want_of_memory : ZoneFault → Bool
is_want_of_memory faults.Memory = true
is_want_of_memory other = false

-- a text from which no zone is read
pub record IsNotRead (text : List ℕ) : Type 0 where
  pub fault : ZoneFault
  pub is_fault : ReadsZoneIn All [] None text (Err fault)
  pub has_memory : fault ≢ faults.Memory

-- the only zone has a text that is not read as the zone
pub record HasNoText (zones : List ZoneContent) : Type 0 where
  pub zone : ZoneContent
  pub zones_are : zones ≡ zone ∷ []
  pub text : List ℕ
  pub is_text : IsFileText zone text
  pub fails : IsNotRead text ⊎ IsReadOtherwise text

-- the journal does not take the mark of the text
pub record IsRefusedText (old new : Position) (zones : List ZoneContent) (error : AppendError) : Type 0 where
  pub text : List ℕ
  pub carried : List ℕ
  pub again : ZoneContent
  pub behind : IsTextBehind zones text carried again
  pub refused : IsRefusal old (mark text carried) new error

-- why zones have no text that takes the place of a journal
abbrev pub IsTextRefusal : List ZoneContent → CompactError → Type 0
IsTextRefusal zones errors.Zones = length zones ≢ 1
IsTextRefusal zones errors.Text = HasNoText zones
IsTextRefusal zones (errors.Journal error) = ⊥
IsTextRefusal zones errors.Memory = Unit {0}

-- why the text of a zone does not take the place of its journal, and the position that this leaves
abbrev pub IsCompactRefusal : List ZoneContent → Position → Position → CompactError → Type 0
IsCompactRefusal zones old new (errors.Journal error) = IsRefusedText old new zones error
IsCompactRefusal zones old new other = IsTextRefusal zones other
