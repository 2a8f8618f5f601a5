-- Walks over a zone: what a name comes to for a type, by the rows of the zone alone (RFC 1034 section 4.3.2). A walk has neither
-- a cache nor messages nor TTLs.
use Rattle.std.specs.Prelude.{◌≡◌, ◌≤◌, ◌+◌, ◌==◌, ◌||◌, Bool, true, false, suc, All, map, List, [], ◌∷◌, ℕ, Ok, Err}
use Rattle.dns_wire.specs.codes.DNSClass.{class_number}
use Rattle.dns_wire.specs.codes.RecordType.{type_number}
use Rattle.dns_wire.specs.declared.codes.record_type.RecordType.{RecordType}
use Rattle.dns_wire.specs.declared.codes.record_type.RecordType.TheVariants as types
use Rattle.dns_names.specs.Compare.{at_or_below}
use Rattle.dns_names.specs.Name.{DomainName}
use Rattle.dns_data.specs.declared.rdata.RData.TheVariants as of
use Rattle.dns_data.specs.declared.rdata.cname.CNAME.{CNAME}
use Rattle.dns_records.specs.Record.{Record}
use Rattle.dns_records.specs.Rows.{rows_at}
use Rattle.dns_records.specs.declared.row.Row.{Row}
use Rattle.dns_messages.specs.declared.query.Query.{Query}
use Rattle.dns_messages.specs.declared.response_code.ResponseCode.{ResponseCode}
use Rattle.dns_messages.specs.declared.response_code.ResponseCode.TheVariants.{Refused}
use Rattle.dns_zone.specs.Answer.{is_no_row_type, negative, record_of}
use Rattle.dns_zone.specs.Rows.{ZoneContent}
use Rattle.stub_lookup.specs.declared.error.DnsError.TheVariants as dns
use Rattle.stub_lookup.specs.declared.error.NetError.TheVariants as errors
use Rattle.stub_hosts.specs.Hosts.{question}
use Rattle.stub_cache.specs.Cache.{CacheContent}
use Rattle.stub_client.specs.Conclusions.{CacheComesTo, Conclusion, Finds, Lacks, Refuses, values}
use Rattle.stub_client.specs.Looks.{Reply}
use Rattle.stub_client.specs.SpecialNames.{special_answer}
use Rattle.stub_client.specs.declared.special_names.SpecialAnswer.TheVariants.{Ordinary, Loopback, Nothing}
use Rattle.stub_core.specs.Attempts.{Lookups}
use Rattle.stub_laws.specs.history.Answered.{is_plain}
use Rattle.stub_laws.specs.history.Stands.{AreSame, IsLinked}

-- ---- walks

-- a name in the zone that is not a special-use name
pub record IsOfZone (zone : ZoneContent) (kind : RecordType) (name : DomainName) : Type 0 where
  pub ordinary : special_answer (question name kind) ≡ Ordinary
  pub inside : at_or_below zone.origin.labels name.labels ≡ true

-- a name in the zone, not a special-use name, that has no rows of the type
pub record HasNoRows (zone : ZoneContent) (kind : RecordType) (name : DomainName) : Type 0 where
  pub is_there : IsOfZone zone kind name
  pub none : rows_at zone.rows name.labels kind ≡ []

-- What a name comes to for a type, along so many aliases at most.
pub data Walk (zone : ZoneContent) (kind : RecordType) : ℕ → DomainName → Conclusion → Type 0 where
  -- a special-use name with an address of the local host (RFC 6761 section 6.3)
  at_local_host : (budget : ℕ) (name : DomainName) (r : Record) → special_answer (question name kind) ≡ Loopback r
      → Walk zone kind budget name (Finds (values (r ∷ [])))
  -- a special-use name without a record of the type
  at_special_name : (budget : ℕ) (name : DomainName) (code : ResponseCode) → special_answer (question name kind) ≡ Nothing code
      → Walk zone kind budget name (Lacks code)
  -- a name outside the zone, whose server refuses the question (RFC 1035 section 4.1.1)
  at_foreign_name : (budget : ℕ) (name : DomainName) → special_answer (question name kind) ≡ Ordinary
      → at_or_below zone.origin.labels name.labels ≡ false → Walk zone kind budget name (Refuses Refused)
  -- a name with rows of the type
  at_rows : (budget : ℕ) (name : DomainName) (row : Row) (more : List Row) → IsOfZone zone kind name
      → rows_at zone.rows name.labels kind ≡ row ∷ more
      → Walk zone kind budget name (Finds (values (map (record_of name) (row ∷ more))))
  -- a name with an alias alone: its target is next (RFC 1034 section 3.6.2)
  at_alias : (budget : ℕ) (name : DomainName) (row : Row) (more : List Row) (target : CNAME) (conclusion : Conclusion)
      → HasNoRows zone kind name → rows_at zone.rows name.labels types.CNAME ≡ row ∷ more → row.rdata ≡ of.CNAME target
      → Walk zone kind budget target.0 conclusion → Walk zone kind (suc budget) name conclusion
  -- a name with neither: the negative answer says whether it exists (RFC 2308 section 2)
  at_nothing : (budget : ℕ) (name : DomainName) → HasNoRows zone kind name → rows_at zone.rows name.labels types.CNAME ≡ []
      → Walk zone kind budget name (Lacks (negative zone name.labels).code)
  -- a name with an alias that is one too many
  at_limit : (name : DomainName) (row : Row) (more : List Row) → HasNoRows zone kind name
      → rows_at zone.rows name.labels types.CNAME ≡ row ∷ more → Walk zone kind 0 name (Lacks (negative zone name.labels).code)

-- the number of aliases that a walk of a question follows
abbrev pub most_aliases : ℕ
most_aliases = 7

-- what the walk of a question comes to
abbrev pub WalksTo : ZoneContent → Query → Conclusion → Type 0
WalksTo zone q conclusion = Walk zone q.query_type most_aliases q.name conclusion

-- ---- where a lookup walks

-- aliases at names without rows of a type lead from a name to another one: one alias, or more
pub data LeadsAlong (zone : ZoneContent) (kind : RecordType) : DomainName → DomainName → Type 0 where
  to_target : (owner : DomainName) (row : Row) (more : List Row) (target : CNAME) → HasNoRows zone kind owner
      → rows_at zone.rows owner.labels types.CNAME ≡ row ∷ more → row.rdata ≡ of.CNAME target → LeadsAlong zone kind owner target.0
  past_target : (owner : DomainName) (row : Row) (more : List Row) (target : CNAME) (end : DomainName) → HasNoRows zone kind owner
      → rows_at zone.rows owner.labels types.CNAME ≡ row ∷ more → row.rdata ≡ of.CNAME target → LeadsAlong zone kind target.0 end
      → LeadsAlong zone kind owner end

-- A lookup of services walks from a name unless an alias leads to services, from which it goes on to their targets (RFC 2782), or out
-- of the zone; a lookup of an SOA record, unless an alias leads out of the zone, where it ends. Lookups of other types always walk.
pub record IsDirect (zone : ZoneContent) (kind : RecordType) (name : DomainName) : Type 0 where
  pub services : type_number kind ≡ 33 → (end : DomainName) → LeadsAlong zone kind name end → HasNoRows zone kind end
  pub soa : type_number kind ≡ 6 → (end : DomainName) → LeadsAlong zone kind name end → IsOfZone zone kind end

-- whether lookups of a type walk from every name: it is plain, or that of aliases, which a question for them does not follow (RFC
-- 1034 section 3.6.2)
abbrev pub walks_everywhere : RecordType → Bool
walks_everywhere kind = is_plain kind || (type_number kind == 5)

-- ---- chains of aliases

-- no chain of aliases that goes through a name passes seven links
abbrev pub HasShortAliasesAt : ZoneContent → DomainName → Type 0
HasShortAliasesAt zone name =
    (before after : ℕ) (first through last : DomainName) → IsLinked zone.rows first before through → AreSame through name
    → IsLinked zone.rows name after last → before + after ≤ 7

-- the same of each of some names
abbrev pub AreShortAt : ZoneContent → List DomainName → Type 0
AreShortAt zone names = All (HasShortAliasesAt zone) names

-- the same of one, unless the zone does not answer for it
abbrev pub HasShortAliasesIn : ZoneContent → RecordType → DomainName → Type 0
HasShortAliasesIn zone kind name = IsOfZone zone kind name → HasShortAliasesAt zone name

-- ---- lookups that agree with walks

-- A reply is what the walk of a question comes to: records up to TTLs and ASCII case of owners, a negative answer, or an error by
-- its response code. Or memory ran out; there is no other error.
abbrev pub IsWalked : ZoneContent → Query → Reply → Type 0
IsWalked zone q (Ok lookup) = WalksTo zone q (Finds (values lookup.message.answers))
IsWalked zone q (Err (errors.Dns (dns.NoRecordsFound answer))) = WalksTo zone q (Lacks answer.response_code)
IsWalked zone q (Err (errors.Dns (dns.ResponseCode code))) = WalksTo zone q (Refuses code)
IsWalked zone q (Err errors.Memory) = Unit {0}
IsWalked zone q (Err error) = ⊥

-- lookups without cache and handle, in which each question is walked over the zone
abbrev pub ByWalk : ZoneContent → Lookups (Unit {0}) Query
ByWalk zone old q reply new = IsWalked zone q reply

-- the same of each question from whose name a lookup of its type walks
abbrev pub ByDirectWalk : ZoneContent → Lookups (Unit {0}) Query
ByDirectWalk zone old q reply new = IsDirect zone q.query_type q.name → IsWalked zone q reply

-- ---- what is kept

-- A question of a type that rows may have and of the class of the Internet, from whose name a lookup of the type walks, and through
-- whose name no chain of aliases passes seven links, comes to what its walk comes to. Of others nothing is claimed.
abbrev pub AgreesWithWalk : ZoneContent → Query → Conclusion → Type 0
AgreesWithWalk zone q conclusion =
    is_no_row_type (type_number q.query_type) ≡ false → class_number q.query_class ≡ 1 → IsDirect zone q.query_type q.name
    → HasShortAliasesIn zone q.query_type q.name → WalksTo zone q conclusion

-- what a cache has for such questions is what their walks come to
abbrev pub CacheAgrees : ZoneContent → CacheContent → Type 0
CacheAgrees zone cache = CacheComesTo (AgreesWithWalk zone) cache
