-- What every answer of a lookup comes from, of whatever type it is: a row of the zone, or the local host.
use Rattle.std.specs.Prelude.{◌≡◌, ◌≤◌, ◌+◌, ◌-◌, ◌*◌, ◌⊎◌, Bool, true, min, All, Contains, List, ℕ, Ok, Err}
use Rattle.dns_wire.specs.declared.codes.record_type.RecordType.{RecordType}
use Rattle.dns_names.specs.Name.{DomainName}
use Rattle.dns_messages.specs.Message.{all_records}
use Rattle.dns_messages.specs.declared.query.Query.{Query}
use Rattle.dns_messages.specs.declared.response.DnsResponse.{DnsResponse}
use Rattle.dns_records.specs.Record.{Record}
use Rattle.dns_records.specs.Rows.{Rows, rows_at, type_of_record}
use Rattle.dns_records.specs.declared.row.Row.{Row}
use Rattle.stub_cache.specs.Cache.{CacheContent, Kept}
use Rattle.stub_cache.specs.Ttl.{TtlConfigContent, TtlRange, bounds_of, clamp, positive_range}
use Rattle.stub_cache.specs.declared.cache.entry.Entry.{Entry}
use Rattle.stub_client.specs.Handle.{Ask, Behavior, Led}
use Rattle.stub_client.specs.Laws.{EachOf}
use Rattle.stub_client.specs.Looks.{Reply}
use Rattle.stub_client.specs.SpecialNames.{special_answer}
use Rattle.stub_client.specs.Step.{meaning}
use Rattle.stub_client.specs.declared.special_names.SpecialAnswer.TheVariants.{Loopback}
use Rattle.stub_core.specs.Attempts.{Lookups}
use Rattle.stub_core.specs.Origins.{EachAnswer, HasNoMinima}
use Rattle.stub_core.specs.Resolver.{request_options}
use Rattle.stub_core.specs.declared.resolver.Resolver.{Resolver}
use Rattle.stub_link.specs.LinkState.{Version}
use Rattle.stub_laws.specs.history.Answered.{AreZones, IsAnsweredBy, greatest_ttl, is_plain}
use Rattle.stub_laws.specs.history.Stands.{StandAt}
use Rattle.stub_laws.specs.answers.Standing.{IsLed}

-- ---- records

-- the range of the TTLs that are kept and returned of records of the type of a record
abbrev pub range_of_record : TtlConfigContent → Record → TtlRange
range_of_record config r = positive_range (bounds_of config (type_of_record r))

-- A record is a row of rows that stand at a moment, with at most its TTL.
pub record IsRowNow (history : List Version) (now : ℕ) (r : Record) : Type 0 where
  pub rows : Rows
  pub row : Row
  pub stand : StandAt history now rows
  pub holds : Contains (rows_at rows r.name.labels (type_of_record r)) row
  pub same_data : row.rdata ≡ r.rdata
  pub lower : r.ttl ≤ row.ttl

-- A record was a row: rows that stood at a moment had its data at its owner. Its TTL is at most the row's, within the bounds of
-- the type; and if no minimum raises TTLs, at most what is left of the row's, and of the greatest that is kept, since that moment.
pub record WasRow (config : TtlConfigContent) (history : List Version) (now : ℕ) (r : Record) : Type 0 where
  pub moment : ℕ
  pub rows : Rows
  pub row : Row
  pub stand : StandAt history moment rows
  pub past : moment ≤ now
  pub holds : Contains (rows_at rows r.name.labels (type_of_record r)) row
  pub same_data : row.rdata ≡ r.rdata
  pub within : r.ttl ≤ clamp (range_of_record config r) row.ttl
  pub left : HasNoMinima config → r.ttl ≤ moment + min row.ttl (greatest_ttl config (type_of_record r)) - now

-- A record is the answer for a name of the local host, whatever its TTL (RFC 6761 section 6.3).
pub record IsOfHost (r : Record) : Type 0 where
  pub question : Query
  pub whole : Record
  pub special : special_answer question ≡ Loopback whole
  pub same : r ≡ record whole { ttl = r.ttl }

-- what an answer comes from
abbrev pub HasSource : TtlConfigContent → List Version → ℕ → Record → Type 0
HasSource config history now r = WasRow config history now r ⊎ IsOfHost r

-- ---- records that are asked for

-- A record is recent: it was a row at a name to which a question for its type leads, along so many links. Its age since a moment
-- at which the row stood, and its TTL, are together at most the TTL of the row, within the bounds of the type, and the least of
-- these once more for each link: what is kept for a name may be kept anew for a name whose alias leads there.
pub record IsRecent (config : TtlConfigContent) (preserves : Bool) (history : List Version) (now : ℕ) (kind : RecordType)
    (from : DomainName) (r : Record) : Type 0 where
  pub links : ℕ
  pub led : IsLed preserves history now kind from links r.name
  pub moment : ℕ
  pub rows : Rows
  pub row : Row
  pub stand : StandAt history moment rows
  pub past : moment ≤ now
  pub holds : Contains (rows_at rows r.name.labels (type_of_record r)) row
  pub same_data : row.rdata ≡ r.rdata
  pub lasts : now + r.ttl ≤ moment + (clamp (range_of_record config r) row.ttl + links * (range_of_record config r).least)

-- the same of what is returned for a question, or the answer for a name of the local host
abbrev pub IsRecentFor : TtlConfigContent → Bool → List Version → Query → ℕ → Record → Type 0
IsRecentFor config preserves history q now r = IsRecent config preserves history now q.query_type q.name r ⊎ IsOfHost r

-- of each answer of the type that was asked for, if this is plain
abbrev pub ReplyIsRecent : TtlConfigContent → Bool → List Version → Query → ℕ → Reply → Type 0
ReplyIsRecent config preserves history q now (Ok lookup) =
    is_plain q.query_type ≡ true → EachOf q.query_type (IsRecentFor config preserves history q now) lookup.message.answers
ReplyIsRecent config preserves history q now (Err error) = Unit {0}

-- of what is stored for a question, up to its deadline
abbrev pub KeptIsRecent : TtlConfigContent → Bool → List Version → Query → ℕ → ℕ → Kept → Type 0
KeptIsRecent config preserves history q moment deadline (Ok m) =
    is_plain q.query_type ≡ true
    → EachOf q.query_type (λ r. IsRecentFor config preserves history q moment r × (deadline ≤ moment + r.ttl)) m.answers
KeptIsRecent config preserves history q moment deadline (Err answer) = Unit {0}

-- ---- lookups

-- each record of each reply to one of the questions that is no error
abbrev pub EachReceived : (Record → Type 0) → List Ask → Type 0
EachReceived Holds asks =
    All (λ ask. (response : DnsResponse) → meaning ask.outcome ≡ Ok response → All Holds (all_records response.message)) asks

-- a fact of each answer of a stored response
abbrev pub EachKept : (Record → Type 0) → Kept → Type 0
EachKept Holds (Ok m) = All Holds m.answers
EachKept Holds (Err answer) = Unit {0}

-- an entry was stored by now, and each of its answers had a source then
pub record EntryHasSources (config : TtlConfigContent) (history : List Version) (now : ℕ) (e : Entry) : Type 0 where
  pub past : e.moment ≤ now
  pub kept : EachKept (HasSource config history e.moment) e.kept

-- an entry was stored by now, and its answers were recent then
pub record EntryIsRecent (config : TtlConfigContent) (preserves : Bool) (history : List Version) (now : ℕ) (e : Entry)
    : Type 0 where
  pub past : e.moment ≤ now
  pub kept : KeptIsRecent config preserves history e.question e.moment e.deadline e.kept

-- each entry of a cache has sources, and is recent
pub record CacheHasSources (config : TtlConfigContent) (preserves : Bool) (history : List Version) (now : ℕ)
    (cache : CacheContent) : Type 0 where
  pub sources : All (EntryHasSources config history now) cache.entries
  pub recent : All (EntryIsRecent config preserves history now) cache.entries

-- lookups without cache and handle, in which each answer to each question has a source, and those of the type that was asked for
-- are recent
abbrev pub BySources : TtlConfigContent → Bool → List Version → ℕ → Lookups (Unit {0}) Query
BySources config preserves history now old q reply new =
    EachAnswer (HasSource config history now) reply × ReplyIsRecent config preserves history q now reply

-- A lookup of a resolver asks these questions with these outcomes. If each response is an answer by rows of this history, what is
-- kept has sources if it had before, and the lookup is one in which each answer to each question has a source.
pub record KeepsSources {H : Type 0} (origin : DomainName) (history : List Version) (gives : Behavior H) (now : ℕ)
    (old new : Resolver H) (looks : Lookups (Unit {0}) Query → Type 0) : Type 0 where
  pub asks : List Ask
  pub led : Led gives (request_options old.settings.options) now old.client.handle asks new.client.handle
  pub aliases : new.client.preserve_intermediates ≡ old.client.preserve_intermediates
  pub config : new.client.cache.config ≡ old.client.cache.config
  pub keeps : (preserves : Bool) → AreZones origin history
      → All (λ ask. IsAnsweredBy origin history (record { moment = now; ask = ask })) asks
      → CacheHasSources old.client.cache.config preserves history now old.client.cache
      → CacheHasSources old.client.cache.config preserves history now new.client.cache
      × looks (BySources old.client.cache.config preserves history now)
