-- One lookup of a client, as a relation over the questions that it asks its handle (RFC 1034 section 5.3.3).
use Rattle.std.specs.Prelude.{◌≡◌, ◌≤◌, ◌+◌, ◌⊎◌, suc, length, List, [], ◌∷◌, ℕ, Option, Some, None, Result, Ok, Err}
use Rattle.std.specs.Option.{unwrap_or}
use Rattle.dns_records.specs.Record.{Record}
use Rattle.dns_messages.specs.declared.message.Message.{Message}
use Rattle.dns_messages.specs.declared.query.Query.{Query}
use Rattle.dns_messages.specs.declared.response.DnsResponse.{DnsResponse}
use Rattle.stub_config.specs.declared.request_options.DnsRequestOptions.{DnsRequestOptions}
use Rattle.stub_lookup.specs.Error.{no_records}
use Rattle.stub_lookup.specs.Lookup.{LookupContent, lookup_of, max_ttl, response_to}
use Rattle.stub_lookup.specs.declared.error.DnsError.TheVariants as dns
use Rattle.stub_lookup.specs.declared.error.NetError.{NetError}
use Rattle.stub_lookup.specs.declared.error.NetError.TheVariants as errors
use Rattle.stub_lookup.specs.declared.error.NoRecords.{NoRecords}
use Rattle.stub_cache.specs.Cache.{CacheContent, Kept, current, storing}
use Rattle.stub_cache.specs.Ttl.{clamped, least_ttl, positive_lifetime}
use Rattle.stub_cache.specs.Ttl.{TtlConfigContent}
use Rattle.stub_client.specs.Handle.{Ask, Led, Outcome}
use Rattle.stub_client.specs.SpecialNames.{special_answer}
use Rattle.stub_client.specs.Step.{meaning, step_of, with_question}
use Rattle.stub_client.specs.declared.caching_client.CachingClient.{CachingClient}
use Rattle.stub_client.specs.declared.caching_client.step.LookupSettings.{LookupSettings}
use Rattle.stub_client.specs.declared.caching_client.step.Step.{Step}
use Rattle.stub_client.specs.declared.caching_client.step.Step.TheVariants.{Gives, Misses, Stops, Follows}
use Rattle.stub_client.specs.declared.request.DnsRequest.{DnsRequest}
use Rattle.stub_client.specs.declared.special_names.SpecialAnswer.{SpecialAnswer}
use Rattle.stub_client.specs.declared.special_names.SpecialAnswer.TheVariants.{Ordinary, Loopback, Nothing}

-- what a lookup returns
abbrev pub Reply : Type 0
Reply = Result LookupContent NetError

-- the reply where memory ran out
abbrev pub out_of_memory : Reply
out_of_memory = Err errors.Memory

-- the reply of a negative answer (RFC 2308 section 2)
abbrev pub negative : NoRecords → Reply
negative answer = Err (errors.Dns (dns.NoRecordsFound answer))

-- ---- answers without a question

-- What a cache has for a question. A message without a question has this one. It is valid as long as each of its answers, and
-- for a day if it has none.
abbrev pub cached_reply : ℕ → Query → Kept → Reply
cached_reply now q (Ok m) = Ok (record {
  message = with_question q m;
  valid_until = now + unwrap_or (least_ttl m.answers) max_ttl;
})
cached_reply now q (Err answer) = negative answer

-- a question that is answered without the handle, by what is special about its name or by what the cache has
abbrev pub IsAnsweredHere : ℕ → Query → SpecialAnswer → Option Kept → Reply → Type 0
IsAnsweredHere now q (Loopback r) hit reply = reply ≡ Ok (lookup_of q (r ∷ []) (now + max_ttl))
IsAnsweredHere now q (Nothing code) hit reply = reply ≡ negative (no_records q code)
IsAnsweredHere now q Ordinary (Some kept) reply = reply ≡ cached_reply now q kept
IsAnsweredHere now q Ordinary None reply = ⊥

-- Whether memory is taken where no question was asked yet: for a record of the local host, for a copy of what the cache has, or
-- for the request. A name without records takes none.
abbrev pub TakesMemory : SpecialAnswer → Type 0
TakesMemory (Nothing code) = ⊥
TakesMemory answer = Unit {0}

-- ---- replies of the handle

-- The reply of a message that is stored: its TTLs are within their bounds, and it is valid as long as it is stored.
abbrev pub given_reply : TtlConfigContent → ℕ → Query → Message → Reply
given_reply config now q m = Ok (record {
  message = clamped config m;
  valid_until = now + positive_lifetime config q.query_type (clamped config m);
})

-- What is stored under a question whose alias led to a reply: the records of the reply as a response to the question, or its
-- negative answer, and no other error.
abbrev pub kept_of : Query → Reply → Option Kept
kept_of q (Ok lookup) = Some (Ok (record (response_to q lookup.message.answers) {
  authorities = lookup.message.authorities;
  additionals = lookup.message.additionals;
}))
kept_of q (Err (errors.Dns (dns.NoRecordsFound answer))) = Some (Err answer)
kept_of q (Err error) = None

-- What a question came to is stored, if it can be, and the reply is returned. If memory runs out, it is stored or not.
abbrev pub Stores : ℕ → CacheContent → Query → Option Kept → Reply → Reply → CacheContent → Type 0
Stores now old q None given reply new = (reply ≡ given) × (new ≡ old)
Stores now old q (Some kept) given reply new =
    ((reply ≡ given) × (new ≡ storing old q kept now))
    ⊎ ((reply ≡ out_of_memory) × ((new ≡ old) ⊎ (new ≡ storing old q kept now)))

-- The rest of a lookup, by what the reply to its question comes to. `next` says of another question and the aliases that are
-- kept which reply and which cache a lookup of it may lead to.
abbrev pub Proceeds : (Query → List Record → Reply → CacheContent → Type 0) → ℕ → CacheContent → Query → Step → List Ask
    → Reply → CacheContent → Type 0
Proceeds next now old q (Gives m) asks reply new =
    (asks ≡ []) × Stores now old q (Some (Ok m)) (given_reply old.config now q m) reply new
Proceeds next now old q (Misses answer) asks reply new =
    (asks ≡ []) × Stores now old q (Some (Err answer)) (negative answer) reply new
Proceeds next now old q (Stops error) asks reply new = (asks ≡ []) × (reply ≡ Err error) × (new ≡ old)
Proceeds next now old q (Follows target kept) asks reply new =
    (inner : Reply) × (mid : CacheContent) × next target kept inner mid × Stores now mid q (kept_of q inner) inner reply new

-- ---- lookups

-- whether memory may be taken for what an outcome means: for a response, and for a negative answer
abbrev pub MayRunOut : Outcome → Type 0
MayRunOut (Ok response) = Unit {0}
MayRunOut (Err (errors.Dns (dns.NoRecordsFound answer))) = Unit {0}
MayRunOut (Err error) = ⊥

-- A lookup of a question at a depth of aliases, with those that are kept: these questions with these outcomes, from the old
-- cache to the new one. Want of memory may end it before a question, unless its name has no records, and after an outcome.
abbrev pub Looks : LookupSettings → ℕ → ℕ → List Record → CacheContent → Query → List Ask → Reply → CacheContent → Type 0
Looks settings now depth kept old q [] reply new =
    (new ≡ old)
    × ((reply ≡ out_of_memory) ⊎ IsAnsweredHere now q (special_answer q) (current old.entries q now) reply)
    × (reply ≡ out_of_memory → TakesMemory (special_answer q))
Looks settings now depth kept old q (ask ∷ asks) reply new =
    (ask.question ≡ q) × (special_answer q ≡ Ordinary) × (current old.entries q now ≡ None)
    × (((asks ≡ []) × MayRunOut (meaning ask.outcome) × (reply ≡ out_of_memory) × (new ≡ old))
    ⊎ Proceeds (λ target aliases inner mid. Looks settings now (suc depth) aliases old target asks inner mid)
    now old q (step_of settings q kept depth ask.outcome) asks reply new)

-- ---- clients

-- what a client, and the options of its requests, say of the answers that it returns
abbrev pub lookup_settings : {H : Type 0} → CachingClient H → DnsRequestOptions → LookupSettings
lookup_settings client options = record {
  preserve_intermediates = client.preserve_intermediates;
  dnssec_ok = options.edns_set_dnssec_ok;
}

-- a lookup of a client: its handle is led from the old state to the new one, by at most eight questions
pub record Answers {H : Type 0} (gives : H → DnsRequest → ℕ → Result DnsResponse NetError → H → Type 0)
    (options : DnsRequestOptions) (now : ℕ) (old : CachingClient H) (q : Query) (reply : Reply) (new : CachingClient H)
    : Type 0 where
  pub asks : List Ask
  pub led : Led gives options now old.handle asks new.handle
  pub looks : Looks (lookup_settings old options) now 0 [] old.cache q asks reply new.cache
  pub few : length asks ≤ 8
  pub settings : new.preserve_intermediates ≡ old.preserve_intermediates
