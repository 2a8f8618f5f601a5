-- Claims about whole answers: about all records that are returned for a question together, about its negative answers, and about
-- the other errors with which it ends.
use Rattle.std.specs.Prelude.{◌≡◌, ◌≤◌, ◌+◌, ◌-◌, max, true, false, All, List, [], ◌∷◌, ℕ, map, suc, Ok, Err}
use Rattle.std.specs.Option.{unwrap_or}
use Rattle.dns_wire.specs.codes.RecordType.{type_number}
use Rattle.dns_wire.specs.declared.codes.record_type.RecordType.{RecordType}
use Rattle.dns_wire.specs.declared.codes.record_type.RecordType.TheVariants as types
use Rattle.dns_records.specs.Record.{Record, after_seconds}
use Rattle.dns_messages.specs.Response.{has_type}
use Rattle.dns_messages.specs.declared.query.Query.{Query}
use Rattle.dns_messages.specs.declared.response_code.ResponseCode.{ResponseCode}
use Rattle.stub_lookup.specs.Error.{no_records}
use Rattle.stub_lookup.specs.declared.error.DnsError.TheVariants as dns
use Rattle.stub_lookup.specs.declared.error.NetError.{NetError}
use Rattle.stub_lookup.specs.declared.error.NetError.TheVariants as errors
use Rattle.stub_lookup.specs.declared.error.NoRecords.{NoRecords}
use Rattle.stub_cache.specs.Cache.{CacheContent, Kept, same_key}
use Rattle.stub_cache.specs.Ttl.{TtlConfigContent, aged_answer, bounds_of, clamped_record, negative_range}
use Rattle.stub_cache.specs.declared.cache.entry.Entry.{Entry}
use Rattle.stub_client.specs.Handle.{Ask}
use Rattle.stub_client.specs.Laws.{EachOf}
use Rattle.stub_client.specs.Looks.{Reply}
use Rattle.stub_client.specs.SpecialNames.{special_answer}
use Rattle.stub_client.specs.Step.{step_of}
use Rattle.stub_client.specs.declared.caching_client.step.LookupSettings.{LookupSettings}
use Rattle.stub_client.specs.declared.caching_client.step.Step.{Step}
use Rattle.stub_client.specs.declared.caching_client.step.Step.TheVariants.{Gives, Misses, Stops, Follows}
use Rattle.stub_client.specs.declared.special_names.SpecialAnswer.TheVariants.{Loopback, Nothing}

-- ---- claims

-- Below, `low` is a premise under which no TTL is raised, `short` one under which no negative answer is kept for longer than its
-- own time, and `longest` the time for which a negative answer to a question is kept at most.

-- a claim about all answers that are returned for a question at a moment
abbrev pub AnswersClaim : Type 1
AnswersClaim = Query → ℕ → List Record → Type 0

-- a claim about a negative answer that is returned for a question at a moment
abbrev pub AbsenceClaim : Type 1
AbsenceClaim = Query → ℕ → NoRecords → Type 0

-- a claim about an error with which a question ends at a moment, other than a negative answer and want of memory
abbrev pub FailureClaim : Type 1
FailureClaim = Query → ℕ → NetError → Type 0

-- a claim about the questions that a lookup asks after it followed aliases so many times
abbrev pub DepthClaim : Type 1
DepthClaim = ℕ → Query → Type 0

-- A claim about answers outlasts the cache if it still holds while the TTLs of the type that was asked for run down, with lower
-- TTLs, and for the question in another spelling.
pub record AnswersOutlast (low : Type 0) (finds : AnswersClaim) : Type 0 where
  pub ages : (q : Query) (since now : ℕ) (rs : List Record) → finds q since rs → since ≤ now
      → (low → EachOf q.query_type (λ r. now ≤ since + r.ttl) rs) → finds q now (map (after_seconds (now - since)) rs)
  pub lowers : (q : Query) (now : ℕ) (ttl_of : Record → ℕ) (rs : List Record) → finds q now rs
      → (low → (r : Record) → ttl_of r ≤ r.ttl) → finds q now (map (λ (r : Record). record r { ttl = ttl_of r }) rs)
  pub respells : (p q : Query) (now : ℕ) (rs : List Record) → finds p now rs → same_key p q ≡ true → finds q now rs

-- how long a negative answer may be kept: for its negative TTL, and without one for no time (RFC 2308 section 5)
abbrev pub negative_time : NoRecords → ℕ
negative_time answer = unwrap_or answer.negative_ttl 0

-- Claims about negative answers outlast the cache if what is claimed of one as it is stored, `misses`, implies what is claimed of
-- it as it is returned, `lacks`: at once, and while its negative TTL runs down; and if this still holds for the question in another
-- spelling.
pub record AbsencesOutlast (short : Type 0) (longest : Query → ℕ) (misses lacks : AbsenceClaim) : Type 0 where
  pub returns : (q : Query) (now : ℕ) (answer : NoRecords) → misses q now answer → lacks q now answer
  pub ages : (q : Query) (since now : ℕ) (answer : NoRecords) → misses q since answer → since ≤ now
      → (short → now ≤ since + negative_time answer) → now ≤ since + longest q → lacks q now (aged_answer (now - since) answer)
  pub respells : (p q : Query) (now : ℕ) (answer : NoRecords) → lacks p now answer → same_key p q ≡ true → lacks q now answer

-- the claims hold of what is answered for special-use names (RFC 6761)
pub record HoldOfSpecialNames (finds : AnswersClaim) (lacks : AbsenceClaim) : Type 0 where
  pub loopback : (q : Query) (now : ℕ) (r : Record) → special_answer q ≡ Loopback r → finds q now (r ∷ [])
  pub nothing : (q : Query) (now : ℕ) (code : ResponseCode) → special_answer q ≡ Nothing code → lacks q now (no_records q code)

-- the least time for which negative answers are kept is 0 for every type
abbrev pub HasNoNegativeMinima : TtlConfigContent → Type 0
HasNoNegativeMinima config = (kind : RecordType) → (negative_range (bounds_of config kind)).least ≡ 0

-- the longest time for which a negative answer for a type is kept: the maximum, which is no less than the minimum
abbrev pub longest_absence : TtlConfigContent → RecordType → ℕ
longest_absence config kind =
    max (negative_range (bounds_of config kind)).least (negative_range (bounds_of config kind)).greatest

-- the same for a question
abbrev pub longest_of : TtlConfigContent → Query → ℕ
longest_of config q = longest_absence config q.query_type

-- ---- what is kept and returned

-- the claims hold of a response, of which no answer of the asked type ends before the deadline, or of a negative answer that
-- does not, and that is not kept for too long
abbrev pub HoldOfKept : Type 0 → Type 0 → (Query → ℕ) → AnswersClaim → AbsenceClaim → Query → ℕ → ℕ → Kept → Type 0
HoldOfKept low short longest finds misses q moment deadline (Ok m) =
    finds q moment m.answers × (low → EachOf q.query_type (λ r. deadline ≤ moment + r.ttl) m.answers)
HoldOfKept low short longest finds misses q moment deadline (Err answer) =
    misses q moment answer × (short → deadline ≤ moment + negative_time answer) × (deadline ≤ moment + longest q)

-- an entry was stored by this moment, and the claims hold of it up to its deadline
pub record HoldOfEntry (low short : Type 0) (longest : Query → ℕ) (finds : AnswersClaim) (misses : AbsenceClaim) (now : ℕ) (e : Entry)
    : Type 0 where
  pub past : e.moment ≤ now
  pub kept : HoldOfKept low short longest finds misses e.question e.moment e.deadline e.kept

-- the same of each entry of a cache
abbrev pub HoldOfCache : Type 0 → Type 0 → (Query → ℕ) → AnswersClaim → AbsenceClaim → ℕ → CacheContent → Type 0
HoldOfCache low short longest finds misses now cache = All (HoldOfEntry low short longest finds misses now) cache.entries

-- The claims hold of a reply: of all its answers, of its negative answer, or of another error. Memory may run out in the lookup
-- itself, so that nothing is claimed of the want of it.
abbrev pub HoldOfReply : AnswersClaim → AbsenceClaim → FailureClaim → Query → ℕ → Reply → Type 0
HoldOfReply finds lacks fails q now (Ok lookup) = finds q now lookup.message.answers
HoldOfReply finds lacks fails q now (Err (errors.Dns (dns.NoRecordsFound answer))) = lacks q now answer
HoldOfReply finds lacks fails q now (Err errors.Memory) = Unit {0}
HoldOfReply finds lacks fails q now (Err error) = fails q now error

-- ---- steps

-- the aliases that are kept for a question: there are none for a question for aliases, and none where aliases are left out
pub record AreKeptAliases (settings : LookupSettings) (q : Query) (kept : List Record) : Type 0 where
  pub aliases : All (λ r. has_type types.CNAME r ≡ true) kept
  pub of_aliases : type_number q.query_type ≡ 5 → kept ≡ []
  pub left_out : settings.preserve_intermediates ≡ false → kept ≡ []

-- The claims hold of the answers of a step, with TTLs within their bounds, or of its negative answer or error; and they hold at the
-- question if they do at the end of the aliases, which is a question that a lookup asks next: of a negative answer that is returned
-- there, what is claimed as it is stored.
abbrev pub HoldOfStep : AnswersClaim → AbsenceClaim → AbsenceClaim → FailureClaim → DepthClaim → LookupSettings → TtlConfigContent → ℕ → ℕ
    → Query → Step → Type 0
HoldOfStep finds misses lacks fails deep settings config now depth q (Gives m) = finds q now (map (clamped_record config) m.answers)
HoldOfStep finds misses lacks fails deep settings config now depth q (Misses answer) = misses q now answer
HoldOfStep finds misses lacks fails deep settings config now depth q (Stops error) = HoldOfReply finds lacks fails q now (Err error)
HoldOfStep finds misses lacks fails deep settings config now depth q (Follows target kept) =
    (target.query_type ≡ q.query_type) × AreKeptAliases settings target kept × deep (suc depth) target
    × ((rs : List Record) → finds target now rs → finds q now rs)
    × ((answer : NoRecords) → lacks target now answer → misses q now answer)
    × ((error : NetError) → fails target now error → fails q now error)

-- the outcome of a question leads to a step of which the claims hold, whatever aliases are kept, and at each depth at which it is asked
abbrev pub BearOut : AnswersClaim → AbsenceClaim → AbsenceClaim → FailureClaim → DepthClaim → LookupSettings → TtlConfigContent → ℕ → Ask
    → Type 0
BearOut finds misses lacks fails deep settings config now ask =
    (kept : List Record) (depth : ℕ) → AreKeptAliases settings ask.question kept → deep depth ask.question
    → HoldOfStep finds misses lacks fails deep settings config now depth ask.question
    (step_of settings ask.question kept depth ask.outcome)
