-- How the parts of a lookup make a lookup.
use Rattle.std.proofs.Common.{◌≡◌, ◌⊎◌, ◌∙◌, inl, inr, refl, sym, ap, subst, Bool, true, false, ℕ, suc, ◌+◌, ◌<◌, List, [], ◌∷◌, length, Option, Some, None, Err, arith}
use Rattle.dns_records.specs.Record.{Record}
use Rattle.dns_messages.specs.declared.message.Message.{Message}
use Rattle.dns_messages.specs.declared.query.Query.{Query}
use Rattle.dns_messages.specs.declared.response_code.ResponseCode.{ResponseCode}
use Rattle.stub_lookup.specs.Error.{no_records}
use Rattle.stub_config.specs.declared.request_options.DnsRequestOptions.{DnsRequestOptions}
use Rattle.stub_lookup.specs.declared.error.NetError.TheVariants.{Memory}
use Rattle.stub_cache.specs.Cache.{CacheContent, Kept, current}
use Rattle.stub_client.specs.Handle.{Ask, Led, Outcome}
use Rattle.stub_client.specs.Looks.{Answers, IsAnsweredHere, Looks, Proceeds, Reply, TakesMemory, lookup_settings, negative, out_of_memory}
use Rattle.stub_client.specs.SpecialNames.{special_answer}
use Rattle.dns_messages.specs.Message.{strip_for, stripped}
use Rattle.stub_client.specs.Step.{chain_of, given_answers, given_message, max_depth, meaning, questions_or, step_of, with_question}
use Rattle.stub_client.specs.declared.caching_client.chain.Chain.{Chain}
use Rattle.stub_client.specs.declared.caching_client.CachingClient.{CachingClient}
use Rattle.stub_client.specs.declared.caching_client.step.LookupSettings.{LookupSettings}
use Rattle.stub_client.specs.declared.caching_client.step.Step.{Step}
use Rattle.stub_client.specs.declared.caching_client.step.Step.TheVariants.{Gives, Misses, Stops, Follows}
use Rattle.stub_client.specs.declared.request.DnsRequest.{DnsRequest}
use Rattle.stub_client.specs.declared.special_names.SpecialAnswer.{SpecialAnswer}
use Rattle.stub_client.specs.declared.special_names.SpecialAnswer.TheVariants.{Ordinary, Loopback, Nothing}
use Rattle.stub_client.specs.internal.Looks.{IsAsked, IsNotAsked, LooksUp, local_reply}
use Rattle.stub_client.proofs.AsksLaws.{few-asks}
use Rattle.stub_client.proofs.StepCases.{outcome-cases, reply-cases}

-- ---- local replies

answered : (now : ℕ) (q : Query) (special : SpecialAnswer) (hit : Option Kept) (reply : Reply)
    → local_reply now q special hit ≡ Some reply → IsAnsweredHere now q special hit reply
answered now q (Loopback r) hit reply h = cc
answered now q (Nothing code) hit reply h = cc
answered now q Ordinary (Some kept) reply h = cc
answered now q Ordinary None reply h = absurd (cc)

-- a name without records takes no memory
answered-takes : (now : ℕ) (q : Query) (special : SpecialAnswer) (hit : Option Kept) (reply : Reply)
    → local_reply now q special hit ≡ Some reply → reply ≡ out_of_memory → TakesMemory special
answered-takes now q (Loopback r) hit reply h memory = tt
answered-takes now q (Nothing code) hit reply h memory = absurd (cc)
answered-takes now q Ordinary hit reply h memory = tt

without-takes : (special : SpecialAnswer) → ((code : ResponseCode) → special ≡ Nothing code → ⊥) → TakesMemory special
without-takes (Loopback r) other = tt
without-takes (Nothing code) other = absurd (other code refl)
without-takes Ordinary other = tt

unanswered : (now : ℕ) (q : Query) (special : SpecialAnswer) (hit : Option Kept)
    → local_reply now q special hit ≡ None → (special ≡ Ordinary) × (hit ≡ None)
unanswered now q (Loopback r) hit h = absurd (cc)
unanswered now q (Nothing code) hit h = absurd (cc)
unanswered now q Ordinary (Some kept) h = absurd (cc)
unanswered now q Ordinary None h = (refl, refl)

-- ---- steps

-- a message that is given has a question, and aliases are followed below the greatest depth alone
abbrev IsUsable : ℕ → Step → Type 0
IsUsable depth (Gives m) = 0 < length m.queries
IsUsable depth (Misses answer) = Unit {0}
IsUsable depth (Stops error) = Unit {0}
IsUsable depth (Follows target kept) = depth < max_depth

strip_for-queries : (qs : List Query) (m : Message) → (strip_for qs m).queries ≡ m.queries
strip_for-queries [] m = refl
strip_for-queries (q ∷ qs) m = refl

stripped-queries : (wanted : Bool) (m : Message) → (stripped wanted m).queries ≡ m.queries
stripped-queries true m = refl
stripped-queries false m = strip_for-queries m.queries m

has-question : (q : Query) (queries : List Query) → 0 < length (questions_or q queries)
has-question q [] = omega arith
has-question q (p ∷ ps) = omega arith

given-question : (settings : LookupSettings) (q : Query) (chain : Chain) (kept : List Record) (m : Message)
    → 0 < length (given_message settings q chain kept m).queries
given-question settings q chain kept m =
    subst (λ (qs : List Query). 0 < length qs)
    (sym (stripped-queries settings.dnssec_ok (record (with_question q m) { answers = given_answers settings q chain kept m })))
    (has-question q m.queries)

is-usable : (settings : LookupSettings) (q : Query) (kept : List Record) (depth : ℕ) (outcome : Outcome)
    → IsUsable depth (step_of settings q kept depth outcome)
is-usable settings q kept depth outcome =
    outcome-cases settings q kept depth (IsUsable depth) (meaning outcome)
    (λ response is. reply-cases settings q kept depth (IsUsable depth) response.message
    (λ given. given-question settings q (chain_of q response.message) kept response.message) (λ not-given ends. tt) (λ not-given no-end alias above. above) tt)
    (λ answer. tt) (λ error failure is. tt)

-- ---- lookups

module _ {H : Type 0} (gives : H → DnsRequest → ℕ → Outcome → H → Type 0) (options : DnsRequestOptions) (now depth : ℕ)
    (kept : List Record) (old : CachingClient H) (q : Query) where
  -- what the client is about to do
  abbrev pub Does : Reply → CachingClient H → Type 0
  Does reply new = LooksUp gives options now depth kept old q reply new

  -- there is no memory for the reply
  pub without-memory : ((code : ResponseCode) → special_answer q ≡ Nothing code → ⊥) → Does (Err Memory) old
  without-memory other = record {
    asks = [];
    led = refl;
    looks = (refl, inl refl, λ memory. without-takes (special_answer q) other);
    settings = refl;
  }

  -- the question is answered without the handle
  pub locally : (reply : Reply) → local_reply now q (special_answer q) (current old.cache.entries q now) ≡ Some reply → Does reply old
  locally reply h = record {
    asks = [];
    led = refl;
    looks = (
      refl,
      inr (answered now q (special_answer q) (current old.cache.entries q now) reply h),
      answered-takes now q (special_answer q) (current old.cache.entries q now) reply h,
    );
    settings = refl;
  }

  -- this step is to be taken, by a client whose handle may have been asked
  abbrev pub Asked : Step → CachingClient H → Type 0
  Asked step mid = IsNotAsked old step mid ⊎ IsAsked gives options now depth kept old q step mid

  -- a step that is taken makes a lookup
  abbrev pub Takes : Step → CachingClient H → Type 0
  Takes step mid =
      (asks : List Ask) (reply : Reply) (new : CachingClient H) → Led gives options now mid.handle asks new.handle
      → Proceeds (λ target aliases inner c. Looks (lookup_settings mid options) now (suc depth) aliases mid.cache target asks inner c)
      now mid.cache q step asks reply new.cache
      → new.preserve_intermediates ≡ mid.preserve_intermediates → Does reply new

  stopped-led : (handle : H) (asks : List Ask) (new : H) → asks ≡ [] → Led gives options now handle asks new → new ≡ handle
  stopped-led handle asks new none led = subst (λ (a : List Ask). Led gives options now handle a new) none led

  module _ (missed : (special_answer q ≡ Ordinary) × (current old.cache.entries q now ≡ None)) (handle : H) where
    abbrev mid : CachingClient H
    mid = record old { handle = handle }

    took : (step : Step) → Asked step mid → Takes step mid
    took step (inl none) asks reply new led goes same =
        let stops : (asks ≡ []) × (reply ≡ Err Memory) × (new.cache ≡ old.cache) =
        subst (λ (s : Step). Proceeds (λ target aliases inner c. Looks (lookup_settings old options) now (suc depth) aliases old.cache target asks inner c) now old.cache q s asks reply new.cache) none.0 goes in
        let at : new.handle ≡ handle = stopped-led handle asks new.handle stops.0 led in
        record { asks = []; led = cc; looks = (stops.2, inl stops.1, λ memory. subst TakesMemory (sym missed.0) tt); settings = same }
    took step (inr asked) asks reply new led goes same = elim asked.is_step [
      | inl is ↦ record {
        asks = record { question = q; outcome = asked.outcome } ∷ asks;
        led = (handle, asked.given, led);
        looks = (refl, missed.0, missed.1, inr (subst (λ (s : Step). Proceeds (λ target aliases inner c. Looks (lookup_settings old options) now (suc depth) aliases old.cache target asks inner c) now old.cache q s asks reply new.cache) is goes));
        settings = same;
      }
      | inr memory ↦
          let stops : (asks ≡ []) × (reply ≡ Err Memory) × (new.cache ≡ old.cache) =
          subst (λ (s : Step). Proceeds (λ target aliases inner c. Looks (lookup_settings old options) now (suc depth) aliases old.cache target asks inner c) now old.cache q s asks reply new.cache) memory.0 goes in
          let at : new.handle ≡ handle = stopped-led handle asks new.handle stops.0 led in
          record {
            asks = record { question = q; outcome = asked.outcome } ∷ [];
            led = (handle, asked.given, at);
            looks = (refl, missed.0, missed.1, inl (refl, memory.1, stops.1, stops.2));
            settings = same;
          }
    ]

  -- after the cache had nothing and the handle may have been asked
  pub takes : local_reply now q (special_answer q) (current old.cache.entries q now) ≡ None → (step : Step) (client : CachingClient H)
      → Asked step client → client ≡ record old { handle = client.handle } → Takes step client
  takes h step client asked rest =
      let missed = unanswered now q (special_answer q) (current old.cache.entries q now) h in
      subst (λ (c : CachingClient H). Asked step c → Takes step c) (sym rest) (took missed client.handle step) asked

  -- a step can be taken
  pub usable : (step : Step) (client : CachingClient H) → Asked step client → IsUsable depth step
  usable step client (inl none) = subst (λ (s : Step). IsUsable depth s) (sym none.0) tt
  usable step client (inr asked) = elim asked.is_step [
    | inl is ↦ subst (λ (s : Step). IsUsable depth s) (sym is) (is-usable (lookup_settings old options) q kept depth asked.outcome)
    | inr memory ↦ subst (λ (s : Step). IsUsable depth s) (sym memory.0) tt
  ]

-- ---- depths

next-depth : (depth : ℕ) → depth + 1 ≡ suc depth
next-depth depth = omega arith

pub deeper : (settings : LookupSettings) (now depth : ℕ) (kept : List Record) (old : CacheContent) (q : Query) (asks : List Ask)
    (reply : Reply) (new : CacheContent)
    → Looks settings now (depth + 1) kept old q asks reply new → Looks settings now (suc depth) kept old q asks reply new
deeper settings now depth kept old q asks reply new h =
    subst (λ (d : ℕ). Looks settings now d kept old q asks reply new) (next-depth depth) h

-- a lookup without kept aliases is that of a client
pub from-the-start : {H : Type 0} (gives : H → DnsRequest → ℕ → Outcome → H → Type 0) (options : DnsRequestOptions) (now : ℕ)
    (kept : List Record) (old : CachingClient H) (q : Query) (reply : Reply) (new : CachingClient H)
    → kept ≡ [] → LooksUp gives options now 0 kept old q reply new → Answers gives options now old q reply new
from-the-start gives options now kept old q reply new none h =
    let looks : Looks (lookup_settings old options) now 0 [] old.cache q h.asks reply new.cache =
    subst (λ (rs : List Record). Looks (lookup_settings old options) now 0 rs old.cache q h.asks reply new.cache) none h.looks in
    record {
      asks = h.asks;
      led = h.led;
      looks = looks;
      few = few-asks (lookup_settings old options) now 0 [] old.cache q h.asks reply new.cache looks (omega arith);
      settings = h.settings;
    }

-- a name without records is answered with its code
here-nothing : (now : ℕ) (q : Query) (special : SpecialAnswer) (hit : Option Kept) (reply : Reply) (code : ResponseCode) → special ≡ Nothing code
    → IsAnsweredHere now q special hit reply → reply ≡ negative (no_records q code)
here-nothing now q (Nothing code) hit reply other is h = cc
here-nothing now q (Loopback r) hit reply other is h = absurd (cc)
here-nothing now q Ordinary hit reply other is h = absurd (cc)

pub nothing-decided : (settings : LookupSettings) (now depth : ℕ) (kept : List Record) (old : CacheContent) (q : Query) (asks : List Ask)
    (reply : Reply) (new : CacheContent) → Looks settings now depth kept old q asks reply new
    → (code : ResponseCode) → special_answer q ≡ Nothing code → reply ≡ negative (no_records q code)
nothing-decided settings now depth kept old q [] reply new h code is = elim h.1 [
  | inl memory ↦ absurd (subst TakesMemory is (h.2 memory))
  | inr here ↦ here-nothing now q (special_answer q) (current old.entries q now) reply code is here
]
nothing-decided settings now depth kept old q (ask ∷ asks) reply new h code is =
    let both : Ordinary ≡ Nothing code = sym h.1 ∙ is in
    absurd (cc)
