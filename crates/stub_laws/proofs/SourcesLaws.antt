-- Every answer of a lookup, of whatever type, has a source if each record that it received has one.
use Rattle.std.proofs.Common.{◌≡◌, ℕ, suc, ◌+◌, ◌-◌, ◌≤◌, ◌++◌, ◌||◌, min, max, nat_le, Bool, true, false, List, [], ◌∷◌, map, filter, Option, Some, None, Result, Ok, Err, All, IfSome, Contains, refl, sym, ap, subst, ◌∙◌, inl, inr, arith, slice_index_or}
use Rattle.std.specs.List.{find}
use Rattle.std.specs.declared.net.ip_addr.IpAddr.{IpAddr}
use Rattle.std.proofs.lemmas.Bool.{cond_both}
use Rattle.std.proofs.lemmas.List.Elements.{All-nil, All-cons, All-head, All-tail, All-append, All-filter, All-map, All-weaker}
use Rattle.dns_wire.specs.declared.codes.record_type.RecordType.{RecordType}
use Rattle.dns_wire.specs.declared.codes.record_type.RecordType.TheVariants as types
use Rattle.dns_names.specs.Name.{DomainName}
use Rattle.dns_names.specs.declared.error.ParseError.{ParseError}
use Rattle.dns_data.specs.rdata.{data_type}
use Rattle.dns_records.specs.Record.{Record, after_seconds}
use Rattle.dns_messages.specs.Message.{all_records, is_without_dnssec, strip_for, stripped}
use Rattle.dns_messages.specs.Response.{has_type}
use Rattle.dns_messages.specs.declared.message.Message.{Message}
use Rattle.dns_messages.specs.declared.query.Query.{Query}
use Rattle.dns_messages.specs.declared.response.DnsResponse.{DnsResponse}
use Rattle.dns_zone.specs.Answer.{IsChain, answer}
use Rattle.dns_zone.specs.Rows.{ZoneContent}
use Rattle.stub_config.specs.declared.request_options.DnsRequestOptions.{DnsRequestOptions}
use Rattle.stub_lookup.specs.declared.error.DnsError.TheVariants as dns
use Rattle.stub_lookup.specs.declared.error.NetError.TheVariants as errors
use Rattle.stub_cache.specs.Cache.{CacheContent, Kept, aged, current, entry_of, is_current, storing}
use Rattle.stub_cache.specs.Ttl.{TtlConfigContent, TtlRange, bounds_of, clamp, clamped_record, positive_range}
use Rattle.stub_cache.specs.declared.cache.entry.Entry.{Entry}
use Rattle.stub_client.specs.Handle.{Ask, Behavior, Led, Outcome}
use Rattle.stub_client.specs.Looks.{Answers, IsAnsweredHere, Looks, Proceeds, Reply, Stores, cached_reply, given_reply, kept_of, lookup_settings, negative}
use Rattle.stub_client.specs.SpecialNames.{special_answer}
use Rattle.stub_client.specs.Step.{chain_of, given_answers, is_found, is_kept_alias, is_selected, kept_aliases, lowered, meaning, selected_answers, step_of, with_question}
use Rattle.stub_client.specs.declared.caching_client.CachingClient.{CachingClient}
use Rattle.stub_client.specs.declared.caching_client.step.LookupSettings.{LookupSettings}
use Rattle.stub_client.specs.declared.caching_client.step.Step.{Step}
use Rattle.stub_client.specs.declared.caching_client.step.Step.TheVariants.{Gives, Misses, Stops, Follows}
use Rattle.stub_client.specs.declared.special_names.SpecialAnswer.{SpecialAnswer}
use Rattle.stub_client.specs.declared.special_names.SpecialAnswer.TheVariants.{Ordinary, Loopback, Nothing}
use Rattle.stub_client.proofs.EntriesLaws.{all-inserted, found-entry, if-some-map}
use Rattle.stub_client.proofs.PassingLaws.{SameSettings, settings-stay}
use Rattle.stub_client.proofs.StepCases.{outcome-cases, reply-cases}
use Rattle.stub_core.specs.Attempts.{Lookups}
use Rattle.stub_core.specs.Origins.{EachAnswer, HasNoMinima}
use Rattle.stub_core.specs.Resolver.{LooksUp, LooksUpHost, asks_of, cleared_lookup, request_options}
use Rattle.stub_core.specs.declared.resolver.Resolver.{Resolver}
use Rattle.stub_core.specs.declared.resolver.settings.Settings.{Settings}
use Rattle.stub_core.proofs.ResolvesLaws.{all-cleared_lookup}
use Rattle.stub_core.proofs.StatelessLaws.{EachExplained, Explained, looks_up-by, looks_up_host-by}
use Rattle.stub_link.specs.LinkState.{Version}
use Rattle.stub_laws.specs.history.Answered.{AreZones, HoldsAnswerAt, IsAnsweredBy, greatest_ttl}
use Rattle.stub_laws.specs.answers.Lookups.{GoesOn}
use Rattle.stub_laws.specs.answers.Sources.{BySources, CacheHasSources, EachKept, EachReceived, EntryHasSources, EntryIsRecent, HasSource, IsOfHost, IsRecentFor, IsRowNow, KeepsSources, KeptIsRecent, WasRow}
use Rattle.stub_laws.proofs.FreshLaws.{meant}
use Rattle.stub_laws.proofs.GrowingLaws.{led-on}
use Rattle.stub_laws.proofs.ReceivedLaws.{received-rows}
use Rattle.stub_laws.proofs.RecentLaws.{recent-keep}

-- ---- lists

all-front : {X : Type 0} (P : X → Type 0) (xs ys : List X) → All P (xs ++ ys) → All P xs
all-front P [] ys h = All-nil P
all-front P (x ∷ xs) ys h = All-cons P x xs (All-head P x (xs ++ ys) h) (all-front P xs ys (All-tail P x (xs ++ ys) h))

all-back : {X : Type 0} (P : X → Type 0) (xs ys : List X) → All P (xs ++ ys) → All P ys
all-back P [] ys h = h
all-back P (x ∷ xs) ys h = all-back P xs ys (All-tail P x (xs ++ ys) h)

-- ---- records

-- bounds of TTLs keep their order, and bring a TTL within them once
clamp-least : (range : TtlRange) (low high : ℕ) → low ≤ high → clamp range low ≤ clamp range high
clamp-least range low high h = omega (arith, h)

clamp-again : (range : TtlRange) (low high : ℕ) → low ≤ clamp range high → clamp range low ≤ clamp range high
clamp-again range low high h = omega (arith, h)

clamp-left : (range : TtlRange) (now low high : ℕ) → range.least ≡ 0 → low ≤ high → clamp range low ≤ now + min high range.greatest - now
clamp-left range now low high none h = omega (arith, none, h)

clamp-lower : (range : TtlRange) (ttl most : ℕ) → range.least ≡ 0 → ttl ≤ most → clamp range ttl ≤ most
clamp-lower range ttl most none h = omega (arith, none, h)

left-later : (since now ttl most : ℕ) → since ≤ now → ttl ≤ most - since → ttl - (now - since) ≤ most - now
left-later since now ttl most past h = omega (arith, past, h)

less-later : (ttl most seconds : ℕ) → ttl ≤ most → ttl - seconds ≤ most
less-later ttl most seconds h = omega (arith, h)

module _ (config : TtlConfigContent) (history : List Version) where
  abbrev Source : ℕ → Record → Type 0
  Source now r = HasSource config history now r

  abbrev Range : Record → TtlRange
  Range r = positive_range (bounds_of config (data_type r.rdata))

  ages : (since now : ℕ) (r : Record) → since ≤ now → Source since r → Source now (after_seconds (now - since) r)
  ages since now r later (inl w) = inl (record {
    moment = w.moment;
    rows = w.rows;
    row = w.row;
    stand = w.stand;
    past = (let past : w.moment ≤ since = w.past in omega (arith, later, past));
    holds = w.holds;
    same_data = w.same_data;
    within = less-later r.ttl (clamp (Range r) w.row.ttl) (now - since) w.within;
    left = λ none. left-later since now r.ttl (w.moment + min w.row.ttl (greatest_ttl config (data_type r.rdata))) later (w.left none);
  })
  ages since now r later (inr h) = inr (record {
    question = h.question;
    whole = h.whole;
    special = h.special;
    same = ap (λ (x : Record). record x { ttl = r.ttl - (now - since) }) h.same;
  })

  clamps : (now : ℕ) (r : Record) → Source now r → Source now (clamped_record config r)
  clamps now r (inl w) = inl (record {
    moment = w.moment;
    rows = w.rows;
    row = w.row;
    stand = w.stand;
    past = w.past;
    holds = w.holds;
    same_data = w.same_data;
    within = clamp-again (Range r) r.ttl w.row.ttl w.within;
    left = λ none. clamp-lower (Range r) r.ttl (w.moment + min w.row.ttl (greatest_ttl config (data_type r.rdata)) - now) (none (data_type r.rdata)) (w.left none);
  })
  clamps now r (inr h) = inr (record {
    question = h.question;
    whole = h.whole;
    special = h.special;
    same = ap (λ (x : Record). record x { ttl = (clamped_record config r).ttl }) h.same;
  })

  row-clamps : (now : ℕ) (r : Record) → IsRowNow history now r → Source now (clamped_record config r)
  row-clamps now r w = inl (record {
    moment = now;
    rows = w.rows;
    row = w.row;
    stand = w.stand;
    past = omega arith;
    holds = w.holds;
    same_data = w.same_data;
    within = clamp-least (Range r) r.ttl w.row.ttl w.lower;
    left = λ none. clamp-left (Range r) now r.ttl w.row.ttl (none (data_type r.rdata)) w.lower;
  })

  row-lowers : (now most : ℕ) (r : Record) → IsRowNow history now r → IsRowNow history now (lowered most r)
  row-lowers now most r w = record {
    rows = w.rows;
    row = w.row;
    stand = w.stand;
    holds = w.holds;
    same_data = w.same_data;
    lower = (let low : r.ttl ≤ w.row.ttl = w.lower in omega (arith, low));
  }

  host-source : (q : Query) (now : ℕ) (r : Record) → special_answer q ≡ Loopback r → Source now r
  host-source q now r e = inr (record { question = q; whole = r; special = e; same = refl })

  -- ---- what is kept and returned

  abbrev Cached : ℕ → CacheContent → Type 0
  Cached now cache = All (EntryHasSources config history now) cache.entries

  abbrev Replied : ℕ → Reply → Type 0
  Replied now reply = EachAnswer (HasSource config history now) reply

  abbrev Keeps : ℕ → Kept → Type 0
  Keeps now kept = EachKept (HasSource config history now) kept

  all-clamped : (now : ℕ) (rs : List Record) → All (Source now) rs → All (Source now) (map (clamped_record config) rs)
  all-clamped now rs h =
      All-map (Source now) (clamped_record config) rs
      (All-weaker (Source now) (λ r. Source now (clamped_record config r)) (λ r s. clamps now r s) rs h)

  rows-clamped : (now : ℕ) (rs : List Record) → All (IsRowNow history now) rs → All (Source now) (map (clamped_record config) rs)
  rows-clamped now rs h =
      All-map (Source now) (clamped_record config) rs
      (All-weaker (IsRowNow history now) (λ r. Source now (clamped_record config r)) (λ r s. row-clamps now r s) rs h)

  aged-keeps : (since now : ℕ) (kept : Kept) → since ≤ now → Keeps since kept → Keeps now (aged (now - since) kept)
  aged-keeps since now (Ok m) later h =
      All-map (Source now) (after_seconds (now - since)) m.answers
      (All-weaker (Source since) (λ r. Source now (after_seconds (now - since) r)) (λ r s. ages since now r later s) m.answers h)
  aged-keeps since now (Err answer) later h = tt

  current-keeps : (now : ℕ) (es : List Entry) (q : Query) → All (EntryHasSources config history now) es → IfSome (current es q now) (Keeps now)
  current-keeps now es q h =
      if-some-map (λ e. EntryHasSources config history now e × (is_current q now e ≡ true)) (Keeps now) (λ e. aged (now - e.moment) e.kept)
      (λ e found. aged-keeps e.moment now e.kept found.0.past found.0.kept)
      (find (is_current q now) es) (found-entry (EntryHasSources config history now) (is_current q now) es h)

  -- what is stored of a response, with TTLs within their bounds
  abbrev Storable : ℕ → Kept → Type 0
  Storable now (Ok m) = All (Source now) (map (clamped_record config) m.answers)
  Storable now (Err answer) = Unit {0}

  entry-keeps : (q : Query) (kept : Kept) (now : ℕ) → Storable now kept → EntryHasSources config history now (entry_of config q kept now)
  entry-keeps q (Ok m) now h = record { past = omega arith; kept = h }
  entry-keeps q (Err answer) now h = record { past = omega arith; kept = tt }

  abbrev Both : ℕ → Reply → CacheContent → Type 0
  Both now reply new = Cached now new × Replied now reply

  stored-keeps : (now : ℕ) (old : CacheContent) (q : Query) (kept : Kept) (new : CacheContent) → old.config ≡ config → Cached now old
      → Storable now kept → new ≡ storing old q kept now → Cached now new
  stored-keeps now old q kept new same holds storable e =
      subst (Cached now) (sym e)
      (all-inserted (EntryHasSources config history now) old.capacity old.entries (entry_of old.config q kept now) holds
      (subst (λ (c : TtlConfigContent). EntryHasSources config history now (entry_of c q kept now)) (sym same) (entry-keeps q kept now storable)))

  stores-keep : (now : ℕ) (old : CacheContent) (q : Query) (o : Option Kept) (given reply : Reply) (new : CacheContent) → old.config ≡ config
      → Cached now old → IfSome o (Storable now) → Replied now given → Stores now old q o given reply new → Both now reply new
  stores-keep now old q None given reply new same holds option told h =
      (subst (Cached now) (sym h.1) holds, subst (Replied now) (sym h.0) told)
  stores-keep now old q (Some kept) given reply new same holds option told (inl h) =
      (stored-keeps now old q kept new same holds option h.1, subst (Replied now) (sym h.0) told)
  stores-keep now old q (Some kept) given reply new same holds option told (inr h) = (
    elim h.1 [
      | inl e ↦ subst (Cached now) (sym e) holds
      | inr e ↦ stored-keeps now old q kept new same holds option e
    ],
    subst (Replied now) (sym h.0) tt,
  )

  may-be-stored : (q : Query) (now : ℕ) (reply : Reply) → Replied now reply → IfSome (kept_of q reply) (Storable now)
  may-be-stored q now (Ok lookup) h = all-clamped now lookup.message.answers h
  may-be-stored q now (Err (errors.Dns (dns.NoRecordsFound answer))) h = tt
  may-be-stored q now (Err (errors.Dns (dns.ResponseCode code))) h = tt
  may-be-stored q now (Err (errors.Proto error)) h = tt
  may-be-stored q now (Err (errors.Message text)) h = tt
  may-be-stored q now (Err (errors.Link fault)) h = tt
  may-be-stored q now (Err errors.Unsupported) h = tt
  may-be-stored q now (Err errors.Memory) h = tt

  -- ---- steps

  abbrev Row : ℕ → Record → Type 0
  Row now r = IsRowNow history now r

  abbrev StepRows : ℕ → Step → Type 0
  StepRows now (Gives m) = All (Row now) m.answers
  StepRows now (Misses answer) = Unit {0}
  StepRows now (Stops error) = Unit {0}
  StepRows now (Follows target kept) = All (Row now) kept

  strip-rows : (now : ℕ) (qs : List Query) (m : Message) → All (Row now) m.answers → All (Row now) (strip_for qs m).answers
  strip-rows now [] m h = h
  strip-rows now (q ∷ qs) m h = All-filter (is_without_dnssec q.query_type) (Row now) m.answers h

  stripped-rows : (now : ℕ) (dnssec_ok : Bool) (m : Message) → All (Row now) m.answers → All (Row now) (stripped dnssec_ok m).answers
  stripped-rows now true m h = h
  stripped-rows now false m h = strip-rows now m.queries m h

  module _ (settings : LookupSettings) (now : ℕ) (q : Query) (kept : List Record) (are : All (Row now) kept) where
    some-rows : (p : Record → Bool) (most : ℕ) (m : Message) → All (Row now) (all_records m)
        → All (Row now) (kept ++ map (lowered most) (filter p (all_records m)))
    some-rows p most m h =
        All-append (Row now) kept (map (lowered most) (filter p (all_records m))) are
        (All-map (Row now) (lowered most) (filter p (all_records m))
        (All-weaker (Row now) (λ r. Row now (lowered most r)) (λ r s. row-lowers now most r s) (filter p (all_records m))
        (All-filter p (Row now) (all_records m) h)))

    given-rows : (m : Message) → All (Row now) (all_records m) → All (Row now) (given_answers settings q (chain_of q m) kept m)
    given-rows m h =
        cond_both (is_selected settings q (chain_of q m) kept m) (selected_answers settings q (chain_of q m) kept m) m.answers (All (Row now))
        (λ selected. some-rows (λ r. is_found q (chain_of q m).name r || is_kept_alias settings q r) (chain_of q m).ttl m h)
        (λ whole. all-front (Row now) m.answers (m.authorities ++ m.additionals) h)

    step-rows : (depth : ℕ) (outcome : Outcome)
        → ((response : DnsResponse) → meaning outcome ≡ Ok response → All (Row now) (all_records response.message))
        → StepRows now (step_of settings q kept depth outcome)
    step-rows depth outcome bears =
        outcome-cases settings q kept depth (StepRows now) (meaning outcome)
        (λ response is. (let m = response.message in
        reply-cases settings q kept depth (StepRows now) m
        (λ given. stripped-rows now settings.dnssec_ok
        (record (with_question q m) { answers = given_answers settings q (chain_of q m) kept m }) (given-rows m (bears response is)))
        (λ not-given ends. tt)
        (λ not-given no-end alias above. some-rows (is_kept_alias settings q) (chain_of q m).ttl m (bears response is)) tt))
        (λ answer. tt) (λ error failure is. tt)

  -- ---- lookups of a client

  proceeds-keep : (next : Query → List Record → Reply → CacheContent → Type 0) (now : ℕ) (old : CacheContent) (q : Query) (step : Step)
      (asks : List Ask) (reply : Reply) (new : CacheContent)
      → ((target : Query) (kept : List Record) (inner : Reply) (mid : CacheContent) → All (Row now) kept → next target kept inner mid
      → SameSettings old mid × Both now inner mid)
      → old.config ≡ config → Cached now old → StepRows now step → Proceeds next now old q step asks reply new → Both now reply new
  proceeds-keep next now old q (Gives m) asks reply new rest same holds step h =
      let given : All (Source now) (map (clamped_record config) m.answers) = rows-clamped now m.answers step in
      stores-keep now old q (Some (Ok m)) (given_reply old.config now q m) reply new same holds given
      (subst (λ (c : TtlConfigContent). Replied now (given_reply c now q m)) (sym same) given) h.1
  proceeds-keep next now old q (Misses answer) asks reply new rest same holds step h =
      stores-keep now old q (Some (Err answer)) (negative answer) reply new same holds tt tt h.1
  proceeds-keep next now old q (Stops error) asks reply new rest same holds step h =
      (subst (Cached now) (sym h.2) holds, subst (Replied now) (sym h.1) tt)
  proceeds-keep next now old q (Follows target kept) asks reply new rest same holds step h =
      let inner = rest target kept h.0 h.1 step h.2 in
      stores-keep now h.1 q (kept_of q h.0) h.0 reply new (inner.0.1 ∙ same) inner.1.0 (may-be-stored q now h.0 inner.1.1) inner.1.1 h.3

  cached-keeps : (q : Query) (now : ℕ) (kept : Kept) → Keeps now kept → Replied now (cached_reply now q kept)
  cached-keeps q now (Ok m) h = h
  cached-keeps q now (Err answer) h = tt

  answered-keeps : (now : ℕ) (q : Query) (special : SpecialAnswer) (hit : Option Kept) (reply : Reply)
      → ((r : Record) → special ≡ Loopback r → Source now r) → IfSome hit (Keeps now) → IsAnsweredHere now q special hit reply
      → Replied now reply
  answered-keeps now q (Loopback r) hit reply f k h =
      subst (Replied now) (sym h) (All-cons (Source now) r [] (f r refl) (All-nil (Source now)))
  answered-keeps now q (Nothing code) hit reply f k h = subst (Replied now) (sym h) tt
  answered-keeps now q Ordinary (Some kept) reply f k h = subst (Replied now) (sym h) (cached-keeps q now kept k)
  answered-keeps now q Ordinary None reply f k h = absurd h

  -- every lookup keeps sources
  pub sources-keep : (settings : LookupSettings) (now depth : ℕ) (kept : List Record) (old : CacheContent) (q : Query) (asks : List Ask)
      (reply : Reply) (new : CacheContent) → old.config ≡ config → All (Row now) kept → Cached now old → EachReceived (Row now) asks
      → Looks settings now depth kept old q asks reply new → Both now reply new
  sources-keep settings now depth kept old q [] reply new same are holds bears h = (
    subst (Cached now) (sym h.0) holds,
    elim h.1 [
      | inl memory ↦ subst (Replied now) (sym memory) tt
      | inr answered ↦ answered-keeps now q (special_answer q) (current old.entries q now) reply (λ r e. host-source q now r e)
          (current-keeps now old.entries q holds) answered
    ],
  )
  sources-keep settings now depth kept old q (ask ∷ asks) reply new same are holds bears h =
      let Each : Ask → Type 0 = λ a. (response : DnsResponse) → meaning a.outcome ≡ Ok response → All (Row now) (all_records response.message) in
      elim h.3 [
        | inl memory ↦ (subst (Cached now) (sym memory.3) holds, subst (Replied now) (sym memory.2) tt)
        | inr goes ↦
            proceeds-keep (λ target aliases inner mid. Looks settings now (suc depth) aliases old target asks inner mid) now old q
            (step_of settings q kept depth ask.outcome) asks reply new
            (λ target aliases inner mid kept-rows looks. (
              settings-stay settings now (suc depth) aliases old target asks inner mid looks,
              sources-keep settings now (suc depth) aliases old target asks inner mid same kept-rows holds (All-tail Each ask asks bears) looks,
            ))
            same holds (step-rows settings now q kept are depth ask.outcome (All-head Each ask asks bears)) goes
      ]

-- ---- lookups of a resolver

module _ {H : Type 0} (chains : (zone : ZoneContent) (q : Query) → IsChain zone.rows q.query_type q.name (answer zone q).answers)
    (origin : DomainName) (history : List Version) (gives : Behavior H) (now : ℕ) (old new : Resolver H) where
  abbrev options : DnsRequestOptions
  options = request_options old.settings.options

  abbrev config : TtlConfigContent
  config = old.client.cache.config

  -- these asks lead a client from one state to another
  abbrev Path : CachingClient H → List Ask → CachingClient H → Type 0
  Path before asks after =
      Led gives options now before.handle asks after.handle
      × (after.preserve_intermediates ≡ before.preserve_intermediates)
      × (after.cache.config ≡ before.cache.config)

  abbrev IsAnswered : Ask → Type 0
  IsAnswered ask = IsAnsweredBy origin history (record { moment = now; ask = ask })

  abbrev Fits : List Ask → Bool → Type 0
  Fits asks preserves = AreZones origin history × All IsAnswered asks

  abbrev Good : Bool → CachingClient H → Type 0
  Good preserves client = (client.cache.config ≡ config) × CacheHasSources config preserves history now client.cache

  path-none : (client : CachingClient H) → Path client [] client
  path-none client = (refl, refl, refl)

  led-both : (before mid after : H) (asks more : List Ask) → Led gives options now before asks mid → Led gives options now mid more after
      → Led gives options now before (asks ++ more) after
  led-both before mid after [] more h k = subst (λ (s : H). Led gives options now s more after) h k
  led-both before mid after (ask ∷ asks) more h k = (h.0, h.1, led-both h.0 mid after asks more h.2 k)

  path-both : (before mid after : CachingClient H) (asks more : List Ask) → Path before asks mid → Path mid more after
      → Path before (asks ++ more) after
  path-both before mid after asks more h k = (led-both before.handle mid.handle after.handle asks more h.0 k.0, k.1 ∙ h.1, k.2 ∙ h.2)

  fits-front : (asks more : List Ask) (preserves : Bool) → Fits (asks ++ more) preserves → Fits asks preserves
  fits-front asks more preserves h = (h.0, all-front IsAnswered asks more h.1)

  fits-back : (asks more : List Ask) (preserves : Bool) → Fits (asks ++ more) preserves → Fits more preserves
  fits-back asks more preserves h = (h.0, all-back IsAnswered asks more h.1)

  -- each response holds an answer
  held : (asks : List Ask) → All IsAnswered asks
      → All (λ ask. (response : DnsResponse) → meaning ask.outcome ≡ Ok response → HoldsAnswerAt origin history now ask.question response.message) asks
  held asks answered = λ k d less response means. answered k d less response (meant (slice_index_or asks k d).outcome response means)

  abbrev AsksClient : Lookups (CachingClient H) Query
  AsksClient before q reply after = Answers gives options now before q reply after

  question-by : EachExplained {All = Bool} Path Fits Good path-none path-both fits-front fits-back AsksClient
      (λ preserves. BySources config preserves history now)
  question-by before after q reply h =
      let bounds = settings-stay (lookup_settings before options) now 0 [] before.cache q h.asks reply after.cache h.looks in (
        h.asks,
        (h.led, h.settings, bounds.1),
        λ preserves fits good.
            let kept = sources-keep config history (lookup_settings before options) now 0 [] before.cache q h.asks reply after.cache good.0
            (All-nil (IsRowNow history now)) good.1.sources (received-rows chains origin history fits.0 now h.asks fits.1) h.looks in
            let recent = recent-keep config preserves origin history chains fits.0 (lookup_settings before options) now 0 [] before.cache q h.asks reply
            after.cache good.0 (All-nil (λ (r : Record). has_type types.CNAME r ≡ true)) good.1.recent (held h.asks fits.1) h.looks in
            ((bounds.1 ∙ good.0, record { sources = kept.0; recent = recent.0 }), (kept.1, recent.1)),
      )

  explained : (leads : Lookups (Unit {0}) Query → Type 0)
      → Explained Path Fits Good path-none path-both fits-front fits-back old.client new.client
      (λ preserves. leads (BySources config preserves history now))
      → KeepsSources origin history gives now old new leads
  explained leads h = record {
    asks = h.0;
    led = h.1.0;
    aliases = h.1.1;
    config = h.1.2;
    keeps = λ preserves zones answered holds.
        let whole = h.2 preserves (zones, answered) (refl, holds) in
        (whole.0.1, whole.1);
  }

  pub name-has-sources : (name : Result DomainName ParseError) (kind : RecordType) (reply : Reply)
      → LooksUp old.settings now (asks_of gives now old) name kind old.client reply new.client
      → KeepsSources origin history gives now old new (λ asks. LooksUp old.settings now asks name kind tt reply tt)
  name-has-sources name kind reply h =
      explained (λ asks. LooksUp old.settings now asks name kind tt reply tt)
      (looks_up-by Path Fits Good path-none path-both fits-front fits-back now (asks_of gives now old)
      (λ preserves. BySources config preserves history now) question-by old.settings name kind old.client new.client reply h)

  pub host-has-sources : (address : Option IpAddr) (name : Result DomainName ParseError) (reply : Reply)
      → LooksUpHost old.settings now (asks_of gives now old) address name old.client reply new.client
      → KeepsSources origin history gives now old new (λ asks. LooksUpHost old.settings now asks address name tt reply tt)
  host-has-sources address name reply h =
      explained (λ asks. LooksUpHost old.settings now asks address name tt reply tt)
      (looks_up_host-by Path Fits Good path-none path-both fits-front fits-back now (asks_of gives now old)
      (λ preserves. BySources config preserves history now) question-by old.settings address name old.client new.client reply h)

-- ---- between lookups

module _ (config : TtlConfigContent) (preserves : Bool) where
  -- what was a row still was one in a history that goes on
  source-on : (history other : List Version) (since now : ℕ) (r : Record) → GoesOn now history other → since ≤ now
      → HasSource config history since r → HasSource config other since r
  source-on history other since now r on before (inl w) = inl (record {
    moment = w.moment;
    rows = w.rows;
    row = w.row;
    stand = on w.moment w.rows (let past : w.moment ≤ since = w.past in omega (arith, past, before)) w.stand;
    past = w.past;
    holds = w.holds;
    same_data = w.same_data;
    within = w.within;
    left = w.left;
  })
  source-on history other since now r on before (inr h) = inr h

  kept-on : (history other : List Version) (since now : ℕ) (kept : Kept) → GoesOn now history other → since ≤ now
      → EachKept (HasSource config history since) kept → EachKept (HasSource config other since) kept
  kept-on history other since now (Ok m) on before h =
      All-weaker (HasSource config history since) (HasSource config other since) (λ r s. source-on history other since now r on before s) m.answers h
  kept-on history other since now (Err answer) on before h = tt

  recent-on : (history other : List Version) (q : Query) (since now : ℕ) (r : Record) → GoesOn now history other → since ≤ now
      → IsRecentFor config preserves history q since r → IsRecentFor config preserves other q since r
  recent-on history other q since now r on before (inl w) = inl (record {
    links = w.links;
    led = led-on preserves history other since (λ moment rows past stand. on moment rows (omega (arith, past, before)) stand) w.led;
    moment = w.moment;
    rows = w.rows;
    row = w.row;
    stand = on w.moment w.rows (let past : w.moment ≤ since = w.past in omega (arith, past, before)) w.stand;
    past = w.past;
    holds = w.holds;
    same_data = w.same_data;
    lasts = w.lasts;
  })
  recent-on history other q since now r on before (inr h) = inr h

  kept-recent-on : (history other : List Version) (q : Query) (since deadline now : ℕ) (kept : Kept) → GoesOn now history other → since ≤ now
      → KeptIsRecent config preserves history q since deadline kept → KeptIsRecent config preserves other q since deadline kept
  kept-recent-on history other q since deadline now (Ok m) on before h = λ plain k d less typed.
      let both = h plain k d less typed in
      (recent-on history other q since now (slice_index_or m.answers k d) on before both.0, both.1)
  kept-recent-on history other q since deadline now (Err answer) on before h = tt

  pub sources-on : (history other : List Version) (now : ℕ) (cache : CacheContent) → GoesOn now history other
      → CacheHasSources config preserves history now cache → CacheHasSources config preserves other now cache
  sources-on history other now cache on h = record {
    sources = All-weaker (EntryHasSources config history now) (EntryHasSources config other now)
        (λ e s. (let kept = kept-on history other e.moment now e.kept on s.past s.kept in record { past = s.past; kept = kept }))
        cache.entries h.sources;
    recent = All-weaker (EntryIsRecent config preserves history now) (EntryIsRecent config preserves other now)
        (λ e s. (let kept = kept-recent-on history other e.question e.moment e.deadline now e.kept on s.past s.kept in record { past = s.past; kept = kept }))
        cache.entries h.recent;
  }

  pub sources-later : (history : List Version) (now later : ℕ) (cache : CacheContent) → now ≤ later
      → CacheHasSources config preserves history now cache → CacheHasSources config preserves history later cache
  sources-later history now later cache after h = record {
    sources = All-weaker (EntryHasSources config history now) (EntryHasSources config history later)
        (λ e s. (let past : e.moment ≤ now = s.past in record { past = omega (arith, past, after); kept = s.kept })) cache.entries h.sources;
    recent = All-weaker (EntryIsRecent config preserves history now) (EntryIsRecent config preserves history later)
        (λ e s. (let past : e.moment ≤ now = s.past in record { past = omega (arith, past, after); kept = s.kept })) cache.entries h.recent;
  }

  pub sources-cleared : (history : List Version) (now : ℕ) (cache : CacheContent) (settings : Settings)
      (name : Result DomainName ParseError) (kind : RecordType) → CacheHasSources config preserves history now cache
      → CacheHasSources config preserves history now (record cache { entries = cleared_lookup settings name kind cache.entries })
  sources-cleared history now cache settings name kind h = record {
    sources = all-cleared_lookup (EntryHasSources config history now) settings name kind cache.entries h.sources;
    recent = all-cleared_lookup (EntryIsRecent config preserves history now) settings name kind cache.entries h.recent;
  }

  pub sources-empty : (history : List Version) (now : ℕ) (cache : CacheContent)
      → CacheHasSources config preserves history now (record cache { entries = [] })
  sources-empty history now cache =
      record { sources = All-nil (EntryHasSources config history now); recent = All-nil (EntryIsRecent config preserves history now) }
