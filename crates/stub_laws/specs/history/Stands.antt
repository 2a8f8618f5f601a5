-- What stood in a zone, by the versions of its rows, and what of it may be returned for a name: bounded staleness.
use Rattle.std.specs.Prelude.{◌≡◌, ◌≤◌, ◌+◌, ◌++◌, ◌⊎◌, true, suc, min, length, All, Contains, List, [], ◌∷◌, ℕ}
use Rattle.dns_wire.specs.declared.codes.record_type.RecordType.TheVariants as types
use Rattle.dns_names.specs.Compare.{lower}
use Rattle.dns_names.specs.Name.{DomainName}
use Rattle.dns_data.specs.declared.rdata.RData.TheVariants as of
use Rattle.dns_data.specs.declared.rdata.cname.CNAME.{CNAME}
use Rattle.dns_records.specs.Record.{Record}
use Rattle.dns_records.specs.Rows.{Rows, rows_at, type_of_record}
use Rattle.dns_records.specs.declared.row.Row.{Row}
use Rattle.dns_messages.specs.declared.query.Query.{Query}
use Rattle.stub_client.specs.SpecialNames.{special_answer}
use Rattle.stub_client.specs.declared.special_names.SpecialAnswer.TheVariants.{Loopback}
use Rattle.stub_link.specs.LinkState.{Version}

-- ---- what stood

-- the next version, if there is one, begins at a moment or after it
abbrev pub BeginsNotBefore : ℕ → List Version → Type 0
BeginsNotBefore moment [] = Unit {0}
BeginsNotBefore moment (next ∷ more) = moment ≤ next.moment

-- Rows stand at a moment: their version begins at it or before it, and the next version, if there is one, at it or after it. So at the
-- moment of a change both versions stand.
pub record StandAt (history : List Version) (moment : ℕ) (rows : Rows) : Type 0 where
  pub before : List Version
  pub since : ℕ
  pub after : List Version
  pub split : history ≡ before ++ record { moment = since; rows = rows } ∷ after
  pub begun : since ≤ moment
  pub lasts : BeginsNotBefore moment after

-- a history goes on after earlier versions
abbrev pub Extends : List Version → List Version → Type 0
Extends earlier history = (more : List Version) × (history ≡ earlier ++ more)

-- Rows hold since earlier versions of a history: those of the last of them, or of a version after them. At one moment several
-- rows may stand; these are not among those that were replaced before.
pub record HoldSince (earlier history : List Version) (rows : Rows) : Type 0 where
  pub before : List Version
  pub since : ℕ
  pub after : List Version
  pub split : history ≡ before ++ record { moment = since; rows = rows } ∷ after
  pub late : length earlier ≤ suc (length before)

-- two names have the same labels, up to ASCII case; in a zone every name is fully qualified
abbrev pub AreSame : DomainName → DomainName → Type 0
AreSame a b = lower a.labels ≡ lower b.labels

-- A record is fresh: its owner is fully qualified, rows that stood have its data there, and its TTL, at most the greatest that is
-- kept, counts from a moment at which they stood.
pub record IsFresh (history : List Version) (greatest now : ℕ) (r : Record) : Type 0 where
  pub full : r.name.is_fqdn ≡ true
  pub moment : ℕ
  pub rows : Rows
  pub row : Row
  pub stand : StandAt history moment rows
  pub past : moment ≤ now
  pub holds : Contains (rows_at rows r.name.labels (type_of_record r)) row
  pub same_data : row.rdata ≡ r.rdata
  pub lasts : now + r.ttl ≤ moment + min row.ttl greatest

-- A name is reached from another one: aliases lead to it, each of which stood in the zone by now.
pub data IsReached (history : List Version) (now : ℕ) (from : DomainName) : DomainName → Type 0 where
  here : (name : DomainName) → AreSame from name → IsReached history now from name
  by_alias : (owner name : DomainName) (moment : ℕ) (rows : Rows) (row : Row) (alias : CNAME)
      → IsReached history now from owner → StandAt history moment rows → moment ≤ now
      → Contains (rows_at rows owner.labels types.CNAME) row → row.rdata ≡ of.CNAME alias → AreSame alias.0 name
      → IsReached history now from name

-- ---- chains of aliases in the same rows

-- a chain of aliases in the same rows, with the least of their TTLs and a bound
pub data IsAliasChain (rows : Rows) (bound : ℕ) (from : DomainName) : ℕ → DomainName → Type 0 where
  no_alias : (name : DomainName) → AreSame from name → IsAliasChain rows bound from bound name
  one_alias : (owner name : DomainName) (least : ℕ) (row : Row) (alias : CNAME) → IsAliasChain rows bound from least owner
      → Contains (rows_at rows owner.labels types.CNAME) row → row.rdata ≡ of.CNAME alias → AreSame alias.0 name
      → IsAliasChain rows bound from (min least row.ttl) name

-- The chain bound: a record and the aliases that lead to its fully qualified owner stood in the same rows, and its TTL, at most that
-- of each alias and the greatest that is kept, counts from one moment at which they stood.
pub record HasChain (history : List Version) (greatest now : ℕ) (from : DomainName) (r : Record) : Type 0 where
  pub full : r.name.is_fqdn ≡ true
  pub moment : ℕ
  pub rows : Rows
  pub row : Row
  pub least : ℕ
  pub stand : StandAt history moment rows
  pub past : moment ≤ now
  pub chain : IsAliasChain rows greatest from least r.name
  pub holds : Contains (rows_at rows r.name.labels (type_of_record r)) row
  pub same_data : row.rdata ≡ r.rdata
  pub lasts : now + r.ttl ≤ moment + min row.ttl least

-- this number of aliases in the same rows leads from one name to another
pub data IsLinked (rows : Rows) (from : DomainName) : ℕ → DomainName → Type 0 where
  no_link : IsLinked rows from 0 from
  one_link : (links : ℕ) (owner : DomainName) (row : Row) (alias : CNAME) → IsLinked rows from links owner
      → Contains (rows_at rows owner.labels types.CNAME) row → row.rdata ≡ of.CNAME alias
      → IsLinked rows from (suc links) alias.0

-- no chain of aliases in the rows of a version passes seven links
abbrev pub HasShortLinks : Version → Type 0
HasShortLinks version = (links : ℕ) (from to : DomainName) → IsLinked version.rows from links to → links ≤ 7

-- the same of each version of a history
abbrev pub HasShortChains : List Version → Type 0
HasShortChains history = All HasShortLinks history

-- ---- what may be returned for a name

-- a record of the local host, with at most its own TTL, at a special-use name that is reached (RFC 6761 section 6.3)
pub record IsLoopback (history : List Version) (now : ℕ) (from : DomainName) (r : Record) : Type 0 where
  pub question : Query
  pub reached : IsReached history now from question.name
  pub whole : Record
  pub special : special_answer question ≡ Loopback whole
  pub same : r ≡ record whole { ttl = r.ttl }
  pub lasts : r.ttl ≤ whole.ttl

-- Bounded staleness: a record that is returned for a name is fresh and its owner is reached, or it is one of the local host.
abbrev pub IsFreshFor : List Version → ℕ → ℕ → DomainName → Record → Type 0
IsFreshFor history greatest now from r =
    (IsFresh history greatest now r × IsReached history now from r.name) ⊎ IsLoopback history now from r

-- The same where aliases bound the TTL too: a record that is returned for a name has the chain bound, or it is one of the local
-- host.
abbrev pub HasChainFor : List Version → ℕ → ℕ → DomainName → Record → Type 0
HasChainFor history greatest now from r = HasChain history greatest now from r ⊎ IsLoopback history now from r
