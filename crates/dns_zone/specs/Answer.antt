-- The answer of a zone to a question (RFC 1034 section 4.3.2, RFC 2308 sections 2 and 3).
use Rattle.std.specs.Prelude.{false, ◌≡◌, ◌<◌, ◌==◌, ◌&&◌, ◌||◌, ◌++◌, nat_le, not, map, min, if◌then◌else◌, zero, suc, Bool, List, [], ◌∷◌, ℕ, Option, Some, None}
use Rattle.dns_wire.specs.codes.RecordType.{type_number}
use Rattle.dns_wire.specs.codes.DNSClass.{class_number}
use Rattle.dns_wire.specs.declared.codes.dns_class.DNSClass.TheVariants.{IN}
use Rattle.dns_wire.specs.declared.codes.record_type.RecordType.{RecordType}
use Rattle.dns_wire.specs.declared.codes.record_type.RecordType.TheVariants as types
use Rattle.dns_names.specs.Name.{DomainName}
use Rattle.dns_names.specs.Compare.{at_or_below}
use Rattle.dns_messages.specs.declared.response_code.ResponseCode.{ResponseCode}
use Rattle.dns_messages.specs.declared.response_code.ResponseCode.TheVariants.{NoError, NXDomain, NotImp, Refused}
use Rattle.dns_text.specs.Usage.{is_loopback, is_nonexistent}
use Rattle.dns_zone.specs.declared.zone.answer.Answer.{Answer}
use Rattle.dns_messages.specs.declared.query.Query.{Query}
use Rattle.dns_records.specs.Record.{Record}
use Rattle.dns_data.specs.declared.rdata.cname.CNAME.{CNAME}
use Rattle.dns_data.specs.declared.rdata.RData.{RData}
use Rattle.dns_data.specs.declared.rdata.RData.TheVariants as of
use Rattle.dns_records.specs.declared.row.Row.{Row}
use Rattle.std.specs.List.{AllByRecursion}
use Rattle.dns_messages.specs.Header.{code_number, code_of}
use Rattle.dns_messages.specs.Sound.{IsSoundIn}
use Rattle.dns_zone.specs.Rows.{Rows, ZoneContent, rows_at, some_row_below}

-- types that no row can have: 0, OPT, and 128 to 255 (RFC 6895 section 3.1), and SIG, which only signs messages (RFC 2931)
abbrev pub is_no_row_type : ℕ → Bool
is_no_row_type number = (number == 0) || ((number == 24) || ((number == 41) || (nat_le 128 number && nat_le number 255)))

-- a row as a record with this owner
abbrev pub record_of : DomainName → Row → Record
record_of owner row = record { name = owner; dns_class = IN; ttl = row.ttl; rdata = row.rdata }

-- the TTL of a negative answer: the lesser of the TTL and the minimum of an SOA row (RFC 2308 section 3)
abbrev pub negative_ttl : ℕ → RData → ℕ
negative_ttl ttl (of.SOA soa) = min ttl soa.minimum
negative_ttl ttl other = ttl

-- the SOA row of a negative answer: its TTL is the negative one (RFC 2308 section 3)
abbrev pub authority_row : Row → Row
authority_row row = record row { ttl = negative_ttl row.ttl row.rdata }

-- the SOA row, owned by the origin as the zone spells it
abbrev pub authority : ZoneContent → List Record
authority zone = map (λ row. record_of zone.origin (authority_row row)) (rows_at zone.rows zone.origin.labels types.SOA)

-- an answer without records
abbrev pub bare : ResponseCode → Answer
bare code = record { code = code; answers = []; authorities = [] }

-- the answer where a name has neither the type nor an alias: whether the name exists, and the SOA record
abbrev pub negative : ZoneContent → List (List ℕ) → Answer
negative zone name = record {
  code = if some_row_below zone.rows name then NoError else NXDomain;
  answers = [];
  authorities = authority zone;
}

-- the answer with these rows at a name
abbrev pub positive : DomainName → List Row → Answer
positive owner rows = record (bare NoError) { answers = map (record_of owner) rows }

-- the answer with these rows at a name, or the negative answer if there are none
abbrev pub direct_answer : ZoneContent → DomainName → List Row → Answer
direct_answer zone owner [] = negative zone owner.labels
direct_answer zone owner (row ∷ rows) = positive owner (row ∷ rows)

-- ---- aliases (RFC 1034 section 3.6.2)

-- an answer with records before its answers
abbrev pub after_records : List Record → Answer → Answer
after_records records a = record a { answers = records ++ a.answers }

-- where an alias leads if it is followed: to a name in the zone that is not a special-use name
abbrev pub next_owner : DomainName → RData → Option DomainName
next_owner origin (of.CNAME alias) =
    if at_or_below origin.labels alias.0.labels && not (is_loopback alias.0 || is_nonexistent alias.0) then Some alias.0
    else None
next_owner origin other = None

-- the rest of an answer: at the next name, or nothing if the alias is not followed
abbrev pub rest_at : (DomainName → Answer) → Option DomainName → Answer
rest_at answer_of None = bare NoError
rest_at answer_of (Some owner) = answer_of owner

-- The answer at a name that has these rows of the type and these aliases: `on_alias` where there is an alias and no such row.
abbrev pub answer_by : ZoneContent → DomainName → List Row → List Row → (Row → Answer) → Answer
answer_by zone owner [] (alias ∷ more) on_alias = on_alias alias
answer_by zone owner rows aliases on_alias = direct_answer zone owner rows

-- the answer to a question for a type at a name, along an alias chain of so many links at most
unfoldable pub answer_at : ℕ → ZoneContent → RecordType → DomainName → Answer
answer_at zero zone t owner =
    answer_by zone owner (rows_at zone.rows owner.labels t) (rows_at zone.rows owner.labels types.CNAME) (λ alias. bare NoError)
answer_at (suc links) zone t owner =
    answer_by zone owner (rows_at zone.rows owner.labels t) (rows_at zone.rows owner.labels types.CNAME)
    (λ alias. after_records (record_of owner alias ∷ []) (rest_at (answer_at links zone t) (next_owner zone.origin alias.rdata)))

-- the most aliases that an answer follows
abbrev pub max_aliases : ℕ
max_aliases = 7

-- ---- answers

-- whether a question is refused because of its type, its class or its name
abbrev pub is_refused : ZoneContent → Query → Bool
is_refused zone q =
    is_no_row_type (type_number q.query_type)
    || (not (class_number q.query_class == 1) || not (at_or_below zone.origin.labels q.name.labels))

-- The answer to a question: the first case that applies (RFC 1034 section 4.3.2). The owner of its first record is spelled like
-- the name in the question, and that of each other record like the target of the alias before it.
abbrev pub answer : ZoneContent → Query → Answer
answer zone q =
    if is_no_row_type (type_number q.query_type) then bare NotImp
    else if not (class_number q.query_class == 1) || not (at_or_below zone.origin.labels q.name.labels) then bare Refused
    else answer_at max_aliases zone q.query_type q.name

-- Records along an alias chain from a name: an alias of each name leads to the next, and the last name has rows of the type, or
-- the chain stops.
pub data IsChain (rows : Rows) (t : RecordType) : DomainName → List Record → Type 0 where
  found : (owner : DomainName) → IsChain rows t owner (map (record_of owner) (rows_at rows owner.labels t))
  stops : (owner : DomainName) → IsChain rows t owner []
  last : (owner : DomainName) (alias : Row) (more : List Row) → rows_at rows owner.labels types.CNAME ≡ alias ∷ more
      → IsChain rows t owner (record_of owner alias ∷ [])
  leads : (owner : DomainName) (alias : Row) (more : List Row) (cname : CNAME) (records : List Record)
      → rows_at rows owner.labels types.CNAME ≡ alias ∷ more → alias.rdata ≡ of.CNAME cname
      → IsChain rows t cname.0 records → IsChain rows t owner (record_of owner alias ∷ records)

-- ---- answers that can be encoded and decoded again

-- each record can be encoded in a section of an answer and decoded again
abbrev pub AreSoundRecords : List Record → Type 0
AreSoundRecords records = AllByRecursion (IsSoundIn false) records

-- An answer that can be encoded and decoded again: a code of four bits that its number names, and sound records.
pub record IsSoundAnswer (a : Answer) : Type 0 where
  pub code_fits : code_number a.code < 16
  pub code_named : code_of (code_number a.code) ≡ a.code
  pub answers : AreSoundRecords a.answers
  pub authorities : AreSoundRecords a.authorities
