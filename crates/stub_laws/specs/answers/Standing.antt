-- Whole sets of records, and negative answers, that stood in a zone: what may be returned for a name, whole and in time.
use Rattle.std.specs.Prelude.{◌≡◌, ◌≢◌, ◌≤◌, ◌+◌, ◌*◌, ◌<◌, ◌⊎◌, ◌&&◌, ◌||◌, not, Bool, true, false, suc, min, Contains, List, [], ◌∷◌, ℕ, Some, None, IsSomeAnd}
use Rattle.dns_wire.specs.codes.RecordType.{type_number}
use Rattle.dns_wire.specs.declared.codes.record_type.RecordType.{RecordType}
use Rattle.dns_wire.specs.declared.codes.record_type.RecordType.TheVariants as types
use Rattle.dns_names.specs.Compare.{at_or_below}
use Rattle.dns_names.specs.Name.{DomainName}
use Rattle.dns_text.specs.Usage.{is_loopback, is_nonexistent}
use Rattle.dns_data.specs.declared.rdata.RData.TheVariants as of
use Rattle.dns_data.specs.declared.rdata.cname.CNAME.{CNAME}
use Rattle.dns_data.specs.declared.rdata.soa.SOA.{SOA}
use Rattle.dns_data.specs.declared.rdata.srv.SRV.{SRV}
use Rattle.dns_records.specs.Record.{Record}
use Rattle.dns_records.specs.Rows.{Rows, rows_at}
use Rattle.dns_records.specs.declared.record.Record as generic
use Rattle.dns_records.specs.declared.row.Row.{Row}
use Rattle.dns_messages.specs.Response.{has_type}
use Rattle.dns_messages.specs.declared.query.Query.{Query}
use Rattle.dns_messages.specs.declared.response_code.ResponseCode.TheVariants.{NoError}
use Rattle.dns_zone.specs.Answer.{negative, negative_ttl, record_of}
use Rattle.stub_lookup.specs.declared.error.NoRecords.{NoRecords}
use Rattle.stub_cache.specs.Ttl.{TtlConfigContent}
use Rattle.stub_client.specs.SpecialNames.{special_answer}
use Rattle.stub_client.specs.declared.special_names.SpecialAnswer.TheVariants.{Loopback, Nothing}
use Rattle.stub_core.specs.Origins.{HasNoMinima}
use Rattle.stub_link.specs.LinkState.{Version}
use Rattle.stub_laws.specs.history.Answered.{greatest_ttl, zone_with}
use Rattle.stub_laws.specs.history.Stands.{AreSame, StandAt}
use Rattle.stub_laws.specs.answers.Claims.{HasNoNegativeMinima, longest_absence}

-- ---- names that a question leads to

-- A question for a type leads from one name to another along links, each of which stood in the zone by now: aliases, which a
-- question for aliases themselves does not follow (RFC 1034 section 3.6.2), and for services their targets (RFC 2782), where an
-- alias led to these, or intermediate aliases are preserved: a lookup goes on there. The links are counted.
pub data IsLed (preserves : Bool) (history : List Version) (now : ℕ) (kind : RecordType) (from : DomainName) : ℕ → DomainName → Type 0 where
  here : (name : DomainName) → AreSame from name → IsLed preserves history now kind from 0 name
  by_alias : (links : ℕ) (owner name : DomainName) (moment : ℕ) (rows : Rows) (row : Row) (alias : CNAME) → type_number kind ≢ 5
      → IsLed preserves history now kind from links owner → StandAt history moment rows → moment ≤ now
      → Contains (rows_at rows owner.labels types.CNAME) row → row.rdata ≡ of.CNAME alias → AreSame alias.0 name
      → IsLed preserves history now kind from (suc links) name
  by_service : (links : ℕ) (owner name : DomainName) (moment : ℕ) (rows : Rows) (row : Row) (service : SRV) → type_number kind ≡ 33
      → (0 < links) ⊎ (preserves ≡ true)
      → IsLed preserves history now kind from links owner → StandAt history moment rows → moment ≤ now
      → Contains (rows_at rows owner.labels types.SRV) row → row.rdata ≡ of.SRV service → AreSame service.target name
      → IsLed preserves history now kind from (suc links) name

-- A lookup that has followed aliases so many times asks this question: at least so many links lead to its name from some name.
pub record IsDeep (preserves : Bool) (history : List Version) (now depth : ℕ) (q : Query) : Type 0 where
  pub first : DomainName
  pub before : ℕ
  pub far : depth ≤ before
  pub led : IsLed preserves history now q.query_type first before q.name

-- a record of the local host, with at most its own TTL, at a special-use name that a question leads to (RFC 6761 section 6.3)
pub record IsOfLocalHost (preserves : Bool) (history : List Version) (now : ℕ) (kind : RecordType) (from : DomainName) (r : Record) : Type 0 where
  pub question : Query
  pub links : ℕ
  pub led : IsLed preserves history now kind from links question.name
  pub whole : Record
  pub special : special_answer question ≡ Loopback whole
  pub same : r ≡ record whole { ttl = r.ttl }
  pub lasts : r.ttl ≤ whole.ttl

-- ---- sets of records (RFC 2181 section 5)

-- Among records, those of a type are all of some rows at an owner, in order. The TTL of each is at most what is left, at `now`,
-- of the row's own from a moment on, and of the greatest that is kept from then on.
pub data HasRows (greatest moment now : ℕ) (owner : DomainName) (kind : RecordType) : List Row → List Record → Type 0 where
  no_more : HasRows greatest moment now owner kind [] []
  of_other_type : (r : Record) (rows : List Row) (records : List Record) → has_type kind r ≡ false
      → HasRows greatest moment now owner kind rows records → HasRows greatest moment now owner kind rows (r ∷ records)
  of_row : (row : Row) (ttl : ℕ) (rows : List Row) (records : List Record) → has_type kind (record_of owner row) ≡ true
      → now + ttl ≤ moment + min row.ttl greatest
      → HasRows greatest moment now owner kind rows records
      → HasRows greatest moment now owner kind (row ∷ rows) (record (record_of owner row) { ttl = ttl } ∷ records)

-- A whole set: the records of a type are all rows of this type at a name in one version of the zone, which stood at one moment
-- up to now, from which all their TTLs count. There is at least one, and the question leads to the name.
pub record IsWholeSet (preserves : Bool) (history : List Version) (greatest now : ℕ) (kind : RecordType) (from : DomainName)
    (records : List Record) : Type 0 where
  pub owner : DomainName
  pub full : owner.is_fqdn ≡ true
  pub links : ℕ
  pub led : IsLed preserves history now kind from links owner
  pub moment : ℕ
  pub rows : Rows
  pub stand : StandAt history moment rows
  pub past : moment ≤ now
  pub filled : rows_at rows owner.labels kind ≢ []
  pub set : HasRows greatest moment now owner kind (rows_at rows owner.labels kind) records

-- The answers to a question stood: they have a whole set of the type that was asked for, or are the record of the local host,
-- at a special-use name that the question leads to (RFC 6761 section 6.3).
pub data HaveStood (preserves : Bool) (history : List Version) (greatest now : ℕ) (q : Query) : List Record → Type 0 where
  as_set : (records : List Record) → IsWholeSet preserves history greatest now q.query_type q.name records
      → HaveStood preserves history greatest now q records
  as_loopback : (r : Record) → IsOfLocalHost preserves history now q.query_type q.name r
      → HaveStood preserves history greatest now q (r ∷ [])

-- ---- negative answers (RFC 2308)

-- the SOA record of a negative answer has the owner and the data of a row, whatever is left of its TTL
abbrev pub IsSoaOf : DomainName → Row → generic.Record SOA → Type 0
IsSoaOf origin row soa = (soa.name ≡ origin) × (of.SOA soa.rdata ≡ row.rdata)

-- The absence of a type stood: at one moment a name that the question leads to had neither rows of this type nor an alias, the
-- answer of the zone was negative, with this code and the zone's SOA record (RFC 2308 sections 2 and 3). That moment is no longer
-- ago than a negative answer may be kept, once for each link and, as `age` says, for what is kept under the question. If no minimum
-- prolongs it, what is left of its time at `now` counts from that moment: the lesser of the TTL of the SOA record and its minimum
-- (section 5).
pub record IsAbsent (config : TtlConfigContent) (preserves : Bool) (origin : DomainName) (history : List Version) (age now : ℕ)
    (kind : RecordType) (from : DomainName) (answer : NoRecords) : Type 0 where
  pub owner : DomainName
  pub links : ℕ
  pub led : IsLed preserves history now kind from links owner
  pub moment : ℕ
  pub rows : Rows
  pub stand : StandAt history moment rows
  pub past : moment ≤ now
  pub recent : now ≤ moment + (links * longest_absence config kind + age)
  pub inside : at_or_below origin.labels owner.labels ≡ true
  pub no_row : rows_at rows owner.labels kind ≡ []
  pub no_alias : rows_at rows owner.labels types.CNAME ≡ []
  pub code : answer.response_code ≡ (negative (zone_with origin rows) owner.labels).code
  pub soa_row : Row
  pub soa_there : rows_at rows origin.labels types.SOA ≡ soa_row ∷ []
  pub soa : IsSomeAnd answer.soa (IsSoaOf origin soa_row)
  pub left : ℕ
  pub left_is : answer.negative_ttl ≡ Some left
  pub lasts : HasNoNegativeMinima config → now + left ≤ moment + negative_ttl soa_row.ttl soa_row.rdata

-- a question for a type leads on from a name: to the target of an alias, or of a service
abbrev pub LeadsOn : Rows → RecordType → DomainName → Type 0
LeadsOn rows kind owner =
    ((type_number kind ≢ 5) × (rows_at rows owner.labels types.CNAME ≢ []))
    ⊎ ((type_number kind ≡ 33) × (rows_at rows owner.labels types.SRV ≢ []))

-- A name lies at the end of a chain of seven links, or more, which lead there from some name: a lookup that has followed them goes no
-- further.
pub record HasSevenLinks (preserves : Bool) (history : List Version) (now : ℕ) (kind : RecordType) (owner : DomainName) : Type 0 where
  pub first : DomainName
  pub before : ℕ
  pub many : 7 ≤ before
  pub led : IsLed preserves history now kind first before owner

-- Aliases lead from a name to one that the zone does not answer for, as it is not in the zone, or a special-use name. There a lookup
-- of an SOA record ends.
pub record LeadsAway (preserves : Bool) (origin : DomainName) (history : List Version) (now : ℕ) (kind : RecordType) (owner : DomainName)
    : Type 0 where
  pub soa : type_number kind ≡ 6
  pub end : DomainName
  pub links : ℕ
  pub some : 0 < links
  pub led : IsLed preserves history now kind owner links end
  pub away : at_or_below origin.labels end.labels && not (is_loopback end || is_nonexistent end) ≡ false

-- A link stood at a name that the question leads to: now, if no minimum prolongs the answer, and else no longer ago than above. The
-- lookup does not follow it, as it is the eighth link of a chain, or as it leads away.
pub record HasLastLink (config : TtlConfigContent) (preserves : Bool) (origin : DomainName) (history : List Version) (age now : ℕ)
    (kind : RecordType) (from : DomainName) : Type 0 where
  pub owner : DomainName
  pub links : ℕ
  pub led : IsLed preserves history now kind from links owner
  pub moment : ℕ
  pub rows : Rows
  pub stand : StandAt history moment rows
  pub past : moment ≤ now
  pub recent : now ≤ moment + (links * longest_absence config kind + age)
  pub there : LeadsOn rows kind owner
  pub last : HasSevenLinks preserves history now kind owner ⊎ LeadsAway preserves origin history now kind owner
  pub lasts : HasNoNegativeMinima config → now ≤ moment

-- A negative answer to a question stood: as the absence of its type; or, without an SOA record and for no time, as that of a
-- special-use name that the question leads to (RFC 6761, RFC 7686), or at a link that is not followed.
pub data HasBeenAbsent (config : TtlConfigContent) (preserves : Bool) (origin : DomainName) (history : List Version) (age now : ℕ)
    (q : Query) (answer : NoRecords) : Type 0 where
  as_absence : IsAbsent config preserves origin history age now q.query_type q.name answer
      → HasBeenAbsent config preserves origin history age now q answer
  as_special : (links : ℕ) (p : Query) → IsLed preserves history now q.query_type q.name links p.name
      → special_answer p ≡ Nothing answer.response_code → answer.negative_ttl ≡ None
      → HasBeenAbsent config preserves origin history age now q answer
  as_link : HasLastLink config preserves origin history age now q.query_type q.name → answer.response_code ≡ NoError → answer.negative_ttl ≡ None
      → HasBeenAbsent config preserves origin history age now q answer

-- ---- claims

-- The answers to a question stood, whole, if the least TTL of positive answers is 0.
abbrev pub FindsWhole : TtlConfigContent → Bool → List Version → Query → ℕ → List Record → Type 0
FindsWhole config preserves history q now records =
    HasNoMinima config → HaveStood preserves history (greatest_ttl config q.query_type) now q records

-- A negative answer to a question stood as it was stored, or passed on.
abbrev pub MissesIndeed : TtlConfigContent → Bool → DomainName → List Version → Query → ℕ → NoRecords → Type 0
MissesIndeed config preserves origin history q now answer = HasBeenAbsent config preserves origin history 0 now q answer

-- A negative answer to a question stood, since when it may have been kept once more.
abbrev pub LacksIndeed : TtlConfigContent → Bool → DomainName → List Version → Query → ℕ → NoRecords → Type 0
LacksIndeed config preserves origin history q now answer =
    HasBeenAbsent config preserves origin history (longest_absence config q.query_type) now q answer
