-- Where the records that a client returns come from: the responses that brought them, and the aliases that led to these (RFC 1034
-- sections 3.6.2 and 5.3.3).
use Rattle.std.specs.Prelude.{◌≡◌, ◌≤◌, ◌+◌, ◌++◌, ◌&&◌, Bool, true, false, Contains, List, ℕ, map, Ok}
use Rattle.dns_records.specs.Record.{Record}
use Rattle.dns_messages.specs.Message.{all_records}
use Rattle.dns_messages.specs.Response.{has_type, is_empty}
use Rattle.dns_messages.specs.declared.message.Message.{Message}
use Rattle.dns_messages.specs.declared.query.Query.{Query}
use Rattle.dns_messages.specs.declared.response.DnsResponse.{DnsResponse}
use Rattle.stub_cache.specs.Cache.{CacheContent, same_key}
use Rattle.stub_cache.specs.Ttl.{TtlConfigContent, clamped_record}
use Rattle.stub_client.specs.Handle.{Ask, Outcome}
use Rattle.stub_client.specs.Laws.{HoldsOfCache, HoldsOfReply, RecordClaim}
use Rattle.stub_client.specs.Looks.{Reply}
use Rattle.stub_client.specs.SpecialNames.{special_answer}
use Rattle.stub_client.specs.Step.{chain_of, found, is_end_found, is_found, is_negative_end, lowered, meaning, next_question}
use Rattle.stub_client.specs.declared.special_names.SpecialAnswer.TheVariants.{Loopback}

-- ---- what was asked

-- a question that was asked at a moment, with its outcome
pub record Asked : Type 0 where
  pub moment : ℕ
  pub ask : Ask

-- the questions of one lookup, which are all asked at the same moment
abbrev pub asked_at : ℕ → List Ask → List Asked
asked_at now asks = map (λ ask. record { moment = now; ask = ask }) asks

-- each question of a list is also in another one
abbrev pub IsPartOf : List Asked → List Asked → Type 0
IsPartOf some all = (asked : Asked) → Contains some asked → Contains all asked

-- the question was asked at a moment, and the outcome was this response, which is no error
pub record HasResponse (history : List Asked) (q : Query) (moment : ℕ) (response : DnsResponse) : Type 0 where
  pub outcome : Outcome
  pub asked : Contains history (record { moment = moment; ask = record { question = q; outcome = outcome } })
  pub means : meaning outcome ≡ Ok response

-- ---- what a response brings

-- A response brings a record to its question: an answer of the type that was asked for, whatever its owner, or a record of this
-- type that is found in another section. The TTL is within its bounds.
pub data Brings (config : TtlConfigContent) (q : Query) (m : Message) : Record → Type 0 where
  in_answers : (r : Record) → Contains m.answers r → has_type q.query_type r ≡ true → Brings config q m (clamped_record config r)
  elsewhere : (r : Record) → Contains (m.authorities ++ m.additionals) r → has_type q.query_type r ≡ true
      → is_found q (chain_of q m).name r ≡ true → Brings config q m (clamped_record config r)

-- the aliases of a response lead on: they do not end in nothing (RFC 2308 section 2.1)
pub record LeadsOn (q : Query) (m : Message) : Type 0 where
  pub is_alias : (chain_of q m).is_alias ≡ true
  pub is_open : is_negative_end q (chain_of q m) m ≡ false

-- ---- what a response brings where aliases are left out

-- whether a response has a record at the end of its aliases
abbrev pub is_complete : Query → Message → Bool
is_complete q m = (chain_of q m).is_alias && is_end_found q (chain_of q m) m

-- Where aliases are left out, a response brings the records at their end, with a TTL of at most that of each alias, or else, if
-- any record is found, its answers of the type that was asked for.
pub data BringsClosely (config : TtlConfigContent) (q : Query) (m : Message) : Record → Type 0 where
  directly : (r : Record) → Contains m.answers r → has_type q.query_type r ≡ true → is_complete q m ≡ false
      → is_empty (found q (chain_of q m) m) ≡ false → BringsClosely config q m (clamped_record config r)
  after_aliases : (r : Record) → Contains (all_records m) r → has_type q.query_type r ≡ true → is_complete q m ≡ true
      → is_found q (chain_of q m).name r ≡ true
      → BringsClosely config q m (clamped_record config (lowered (chain_of q m).ttl r))

-- the aliases of a response lead on, and it has no record for the question
pub record LeadsOnClosely (q : Query) (m : Message) : Type 0 where
  pub leads : LeadsOn q m
  pub nothing_found : is_empty (found q (chain_of q m) m) ≡ true

-- ---- where a record comes from

-- the record is the first one after some time, with no more than what is then left of the TTL
pub record IsLeftOf (since now : ℕ) (first r : Record) : Type 0 where
  pub same : r ≡ record first { ttl = r.ttl }
  pub past : since ≤ now
  pub lasts : now + r.ttl ≤ since + first.ttl

-- A record may be returned for a question at a moment, after the questions of a history: a response to it carries the record; the
-- aliases of a response lead to a question for which it may then be returned; it is that of the local host; or it might be
-- returned before, for the question in any spelling, and comes from the cache.
pub data Comes (Carries : Query → Message → Record → Type 0) (Leads : Query → Message → Type 0) (history : List Asked)
    : Query → ℕ → Record → Type 0 where
  by_response : (q : Query) (now : ℕ) (r : Record) (response : DnsResponse) → HasResponse history q now response
      → Carries q response.message r → Comes Carries Leads history q now r
  by_alias : (q : Query) (now : ℕ) (r : Record) (response : DnsResponse) → HasResponse history q now response
      → Leads q response.message → Comes Carries Leads history (next_question q (chain_of q response.message)) now r
      → Comes Carries Leads history q now r
  by_loopback : (q : Query) (now : ℕ) (r : Record) → special_answer q ≡ Loopback r → Comes Carries Leads history q now r
  by_cache : (p q : Query) (since now : ℕ) (first r : Record) → Comes Carries Leads history p since first → same_key p q ≡ true
      → IsLeftOf since now first r → Comes Carries Leads history q now r

-- the origin of a record: the responses and the aliases that brought it
abbrev pub IsBrought : TtlConfigContent → List Asked → RecordClaim
IsBrought config history = Comes (Brings config) LeadsOn history

-- the same where aliases are left out, with the least TTL of the aliases that led to the record
abbrev pub IsBroughtClosely : TtlConfigContent → List Asked → RecordClaim
IsBroughtClosely config history = Comes (BringsClosely config) LeadsOnClosely history

-- ---- what is kept and returned

-- each record of the type that an entry was stored for was brought, and lasts up to the deadline of the entry
abbrev pub CacheIsBrought : TtlConfigContent → List Asked → ℕ → CacheContent → Type 0
CacheIsBrought config history now cache = HoldsOfCache (IsBrought config history) now cache

-- the same where aliases are left out, with the least TTL of the aliases that led to a record
abbrev pub CacheIsBroughtClosely : TtlConfigContent → List Asked → ℕ → CacheContent → Type 0
CacheIsBroughtClosely config history now cache = HoldsOfCache (IsBroughtClosely config history) now cache

-- each answer of the type that was asked for was brought
abbrev pub ReplyIsBrought : TtlConfigContent → List Asked → Query → ℕ → Reply → Type 0
ReplyIsBrought config history q now reply = HoldsOfReply (IsBrought config history) q now reply

-- the same where aliases are left out, with the least TTL of the aliases that led to an answer
abbrev pub ReplyIsBroughtClosely : TtlConfigContent → List Asked → Query → ℕ → Reply → Type 0
ReplyIsBroughtClosely config history q now reply = HoldsOfReply (IsBroughtClosely config history) q now reply
