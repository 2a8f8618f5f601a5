-- What every lookup of a client keeps: claims about the records that are returned, and how an error is passed on.
use Rattle.std.specs.Prelude.{◌≡◌, ◌≤◌, ◌+◌, ◌-◌, ◌++◌, true, false, All, List, [], ℕ, None, Ok, Err}
use Rattle.dns_wire.specs.declared.codes.record_type.RecordType.{RecordType}
use Rattle.dns_records.specs.Record.{Record, after_seconds}
use Rattle.dns_messages.specs.Message.{all_records}
use Rattle.dns_messages.specs.Response.{has_type}
use Rattle.dns_messages.specs.declared.message.Message.{Message}
use Rattle.dns_messages.specs.declared.query.Query.{Query}
use Rattle.dns_messages.specs.declared.response.DnsResponse.{DnsResponse}
use Rattle.stub_lookup.specs.declared.error.NetError.{NetError}
use Rattle.stub_cache.specs.Cache.{CacheContent, Kept, kept_of_result, same_key}
use Rattle.stub_cache.specs.Ttl.{TtlConfigContent, bounds_of, clamped_record, positive_range}
use Rattle.stub_cache.specs.declared.cache.entry.Entry.{Entry}
use Rattle.stub_client.specs.Handle.{Ask}
use Rattle.stub_client.specs.Looks.{Looks, Reply}
use Rattle.stub_client.specs.SpecialNames.{special_answer}
use Rattle.stub_client.specs.Step.{chain_of, is_found, is_given, is_negative_end, is_selected, lowered, meaning, next_question}
use Rattle.stub_client.specs.declared.caching_client.step.LookupSettings.{LookupSettings}
use Rattle.stub_client.specs.declared.special_names.SpecialAnswer.TheVariants.{Loopback}

-- ---- claims

-- a claim about the records that are returned for a question at a moment
abbrev pub RecordClaim : Type 1
RecordClaim = Query → ℕ → Record → Type 0

-- each of the records that has the type
abbrev pub EachOf : RecordType → (Record → Type 0) → List Record → Type 0
EachOf kind P records = All (λ r. has_type kind r ≡ true → P r) records

-- A claim outlasts the cache if it still holds while the TTL runs down, with a lower TTL, and for the question in another
-- spelling.
pub record Outlasts (holds : RecordClaim) : Type 0 where
  pub ages : (q : Query) (since now : ℕ) (r : Record) → holds q since r → since ≤ now → now ≤ since + r.ttl
      → holds q now (after_seconds (now - since) r)
  pub lowers : (q : Query) (now ttl : ℕ) (r : Record) → holds q now r → ttl ≤ r.ttl → holds q now (record r { ttl = ttl })
  pub respells : (p q : Query) (now : ℕ) (r : Record) → holds p now r → same_key p q ≡ true → holds q now r

-- the claim holds of the records of the local host
abbrev pub HoldsOfLoopback : RecordClaim → Type 0
HoldsOfLoopback holds = (q : Query) (now : ℕ) (r : Record) → special_answer q ≡ Loopback r → holds q now r

-- the least TTL of positive answers of a type is 0
abbrev pub HasNoMinimum : TtlConfigContent → RecordType → Type 0
HasNoMinimum config kind = (positive_range (bounds_of config kind)).least ≡ 0

-- ---- replies that bear a claim out

-- A reply to a question bears the claim out, with TTLs within their bounds: the claim holds of each answer of the type that was
-- asked for, whatever its owner and class, and of each record of this type that is found in another section; and a record of
-- which it holds at the end of the aliases is one of which it holds at the question.
pub record BearsOut (holds : RecordClaim) (config : TtlConfigContent) (now : ℕ) (q : Query) (m : Message) : Type 0 where
  pub answers : EachOf q.query_type (λ r. holds q now (clamped_record config r)) m.answers
  pub others : EachOf q.query_type (λ r. is_found q (chain_of q m).name r ≡ true → holds q now (clamped_record config r))
      (m.authorities ++ m.additionals)
  pub along : is_negative_end q (chain_of q m) m ≡ false → (chain_of q m).is_alias ≡ true
      → (r : Record) → has_type q.query_type r ≡ true → holds (next_question q (chain_of q m)) now r → holds q now r

-- The same where aliases are not preserved, for what is returned alone: the answers as they are or, if they are selected, the
-- found records with a TTL of at most that of the aliases; and the end of the aliases where the client asks for it.
pub record BearsOutClosely (holds : RecordClaim) (settings : LookupSettings) (config : TtlConfigContent) (now : ℕ) (q : Query)
    (m : Message) : Type 0 where
  pub whole : is_given q (chain_of q m) [] m ≡ true → is_selected settings q (chain_of q m) [] m ≡ false
      → EachOf q.query_type (λ r. holds q now (clamped_record config r)) m.answers
  pub selected : is_given q (chain_of q m) [] m ≡ true → is_selected settings q (chain_of q m) [] m ≡ true
      → EachOf q.query_type (λ r. is_found q (chain_of q m).name r ≡ true
      → holds q now (clamped_record config (lowered (chain_of q m).ttl r))) (all_records m)
  pub along : is_given q (chain_of q m) [] m ≡ false → is_negative_end q (chain_of q m) m ≡ false
      → (chain_of q m).is_alias ≡ true → (r : Record) → has_type q.query_type r ≡ true
      → holds (next_question q (chain_of q m)) now r → holds q now r

-- each reply to one of the questions that is no error
abbrev pub EachReply : (Query → Message → Type 0) → List Ask → Type 0
EachReply bears asks =
    All (λ ask. (response : DnsResponse) → meaning ask.outcome ≡ Ok response → bears ask.question response.message) asks

-- ---- what is kept and returned

-- the claim holds of each answer of the type that was asked for, and each lasts up to the deadline
abbrev pub HoldsOfKept : RecordClaim → Query → ℕ → ℕ → Kept → Type 0
HoldsOfKept holds q moment deadline (Ok m) = EachOf q.query_type (λ r. holds q moment r × (deadline ≤ moment + r.ttl)) m.answers
HoldsOfKept holds q moment deadline (Err answer) = Unit {0}

-- an entry was stored by this moment, and a claim holds of the records of the type that it was stored for, up to its deadline
pub record HoldsOfEntry (holds : RecordClaim) (now : ℕ) (e : Entry) : Type 0 where
  pub past : e.moment ≤ now
  pub kept : HoldsOfKept holds e.question e.moment e.deadline e.kept

-- the same of each entry of a cache
abbrev pub HoldsOfCache : RecordClaim → ℕ → CacheContent → Type 0
HoldsOfCache holds now cache = All (HoldsOfEntry holds now) cache.entries

-- the claim holds of each answer of the type that was asked for
abbrev pub HoldsOfReply : RecordClaim → Query → ℕ → Reply → Type 0
HoldsOfReply holds q now (Ok lookup) = EachOf q.query_type (holds q now) lookup.message.answers
HoldsOfReply holds q now (Err error) = Unit {0}

-- ---- lookups

-- a law of every lookup
abbrev pub EveryLookup : (LookupSettings → ℕ → CacheContent → Query → List Ask → Reply → CacheContent → Type 0) → Type 0
EveryLookup Law =
    (settings : LookupSettings) (now : ℕ) (old : CacheContent) (q : Query) (asks : List Ask) (reply : Reply) (new : CacheContent)
    → Looks settings now 0 [] old q asks reply new → Law settings now old q asks reply new

-- an error that is no negative answer, and so is not stored
abbrev pub IsFailure : NetError → Type 0
IsFailure error = kept_of_result (Err error) ≡ None
