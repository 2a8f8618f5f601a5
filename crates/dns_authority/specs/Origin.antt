-- Where the records of an answer come from: rows of a zone, or what is synthesized from them, at the names that the answer leads to.
use Rattle.std.specs.Prelude.{◌≡◌, true, false, List, Some, None}
use Rattle.std.specs.List.{AllByRecursion, Contains}
use Rattle.dns_wire.specs.declared.codes.record_type.RecordType.{RecordType}
use Rattle.dns_wire.specs.declared.codes.record_type.RecordType.TheVariants as types
use Rattle.dns_names.specs.Name.{DomainName}
use Rattle.dns_messages.specs.declared.query.Query.{Query}
use Rattle.dns_records.specs.Record.{Record}
use Rattle.dns_records.specs.declared.row.Row.{Row}
use Rattle.dns_zone.specs.Rows.{ZoneContent, rows_at}
use Rattle.dns_zone.specs.Answer.{authority_row, record_of}
use Rattle.dns_authority.specs.steps.Barrier.{barrier, is_cut}
use Rattle.dns_authority.specs.steps.Redirection.{dname_target}
use Rattle.dns_authority.specs.steps.Wildcard.{answering_name}
use Rattle.dns_authority.specs.declared.answer.AuthorityAnswer.{AuthorityAnswer}
use Rattle.dns_authority.specs.Additional.{host_of}
use Rattle.dns_authority.specs.Asked.{is_any}
use Rattle.dns_authority.specs.Step.{alias_target, closest_zone, redirect, synthesized, zone_for}

-- A name that the answers to a question lead to: the name in the question, or the target of a CNAME record among them whose owner is
-- such a name (RFC 1034 section 3.6.2). The aliases that are synthesized from DNAME records are among them.
pub data IsReached (q : Query) (answers : List Record) : DomainName → Type 0 where
  is_asked : IsReached q answers q.name
  by_alias : (alias : Record) (target : DomainName) → IsReached q answers alias.name → Contains answers alias
      → alias_target alias.rdata ≡ Some target → IsReached q answers target

-- A type whose rows answer a question for a type: that type, CNAME, and each type if the question is for ANY (RFC 1035 section 3.2.3).
pub data AnswersType (asked : RecordType) : RecordType → Type 0 where
  same_type : AnswersType asked asked
  alias_type : AnswersType asked types.CNAME
  any_type : (t : RecordType) → is_any asked ≡ true → AnswersType asked t

-- A record of the answer section. It belongs to a name that the answers lead to, in the zone of the question at that name, and none is
-- below a zone cut: it is a row of the name or of its source of synthesis, of a type that answers the question, where no zone cut and no
-- DNAME record is on the way to the name; or a DNAME row on the way, before any zone cut; or the alias that is synthesized from one.
pub data IsAnswerRecord (zones : List ZoneContent) (q : Query) (answers : List Record) : Record → Type 0 where
  stored : (zone : ZoneContent) (t : RecordType) (owner source : DomainName) (row : Row) → IsReached q answers owner
      → zone_for zones q.query_type owner ≡ Some zone → barrier zone q.query_type owner ≡ None
      → answering_name zone.rows owner ≡ Some source → AnswersType q.query_type t
      → Contains (rows_at zone.rows source.labels t) row → IsAnswerRecord zones q answers (record_of owner row)
  redirects : (zone : ZoneContent) (owner at : DomainName) (row : Row) → IsReached q answers owner
      → zone_for zones q.query_type owner ≡ Some zone → barrier zone q.query_type owner ≡ Some at → is_cut zone at ≡ false
      → Contains (rows_at zone.rows at.labels types.DNAME) row → IsAnswerRecord zones q answers (record_of at row)
  redirected : (zone : ZoneContent) (owner at target made : DomainName) (row : Row) → IsReached q answers owner
      → zone_for zones q.query_type owner ≡ Some zone → barrier zone q.query_type owner ≡ Some at → is_cut zone at ≡ false
      → Contains (rows_at zone.rows at.labels types.DNAME) row → dname_target row.rdata ≡ Some target
      → redirect owner at target ≡ Some made → IsAnswerRecord zones q answers (synthesized owner row made)

-- A record of the authority section, at a name that the answers lead to: the SOA row of its zone, with the TTL of a negative answer, or
-- an NS row of the zone cut on the way to it.
pub data IsAuthorityRecord (zones : List ZoneContent) (q : Query) (answers : List Record) : Record → Type 0 where
  soa : (zone : ZoneContent) (owner : DomainName) (row : Row) → IsReached q answers owner
      → zone_for zones q.query_type owner ≡ Some zone → Contains (rows_at zone.rows zone.origin.labels types.SOA) row
      → IsAuthorityRecord zones q answers (record_of zone.origin (authority_row row))
  delegates : (zone : ZoneContent) (owner cut : DomainName) (row : Row) → IsReached q answers owner
      → zone_for zones q.query_type owner ≡ Some zone → barrier zone q.query_type owner ≡ Some cut → is_cut zone cut ≡ true
      → Contains (rows_at zone.rows cut.labels types.NS) row → IsAuthorityRecord zones q answers (record_of cut row)

-- the types of addresses
pub data IsAddressType : RecordType → Type 0 where
  ipv4 : IsAddressType types.A
  ipv6 : IsAddressType types.AAAA

-- A record of the additional section: an address of a host, in the zone that is closest to it. An authority record names the host, or
-- a record of the answer section does and the zone is the authority for it.
pub data IsAdditionalRecord (zones : List ZoneContent) (answers authorities : List Record) : Record → Type 0 where
  glue : (zone : ZoneContent) (t : RecordType) (naming : Record) (host : DomainName) (row : Row) → Contains authorities naming
      → host_of naming.rdata ≡ Some host → IsAddressType t → closest_zone zones host.labels ≡ Some zone
      → Contains (rows_at zone.rows host.labels t) row → IsAdditionalRecord zones answers authorities (record_of host row)
  address : (zone : ZoneContent) (t : RecordType) (naming : Record) (host : DomainName) (row : Row) → Contains answers naming
      → host_of naming.rdata ≡ Some host → IsAddressType t → closest_zone zones host.labels ≡ Some zone
      → barrier zone t host ≡ None → Contains (rows_at zone.rows host.labels t) row
      → IsAdditionalRecord zones answers authorities (record_of host row)

-- Each record of the answer to a question comes from a zone.
pub record ComesFrom (zones : List ZoneContent) (q : Query) (a : AuthorityAnswer) : Type 0 where
  pub answers : AllByRecursion (IsAnswerRecord zones q a.answers) a.answers
  pub authorities : AllByRecursion (IsAuthorityRecord zones q a.answers) a.authorities
  pub additionals : AllByRecursion (IsAdditionalRecord zones a.answers a.authorities) a.additionals
