-- Every lookup keeps a claim that outlasts the cache and that the replies bear out.
use Rattle.std.proofs.Common.{◌≡◌, ℕ, suc, ◌+◌, ◌-◌, ◌≤◌, ◌==◌, ◌&&◌, true, List, [], ◌∷◌, map, Option, Some, None, Ok, Err, All, IfSome, refl, sym, ap, subst, inl, inr, arith, nat_le, slice_index_or}
use Rattle.std.specs.List.{find}
use Rattle.std.proofs.lemmas.Bool.Decides.{nat_tests}
use Rattle.std.proofs.lemmas.List.Elements.{All-nil, All-cons, All-head, All-map, All-tail}
use Rattle.dns_wire.specs.codes.DNSClass.{class_number}
use Rattle.dns_wire.specs.codes.RecordType.{type_number}
use Rattle.dns_names.specs.Compare.{same_name}
use Rattle.dns_records.specs.Record.{Record, after_seconds}
use Rattle.dns_messages.specs.Response.{has_type}
use Rattle.dns_messages.specs.declared.query.Query.{Query}
use Rattle.stub_lookup.specs.declared.error.DnsError.TheVariants as dns
use Rattle.stub_lookup.specs.declared.error.NetError.TheVariants as errors
use Rattle.stub_cache.specs.Cache.{CacheContent, Kept, aged, current, entry_of, is_about, is_current, same_key, storing}
use Rattle.stub_cache.specs.Ttl.{TtlConfigContent, clamped, clamped_record, positive_lifetime}
use Rattle.stub_cache.specs.declared.cache.entry.Entry.{Entry}
use Rattle.stub_client.specs.Handle.{Ask}
use Rattle.stub_client.specs.Laws.{EachOf, HasNoMinimum, HoldsOfCache, HoldsOfEntry, HoldsOfKept, HoldsOfLoopback, HoldsOfReply, Outlasts}
use Rattle.stub_client.specs.Looks.{IsAnsweredHere, Looks, Proceeds, Reply, Stores, cached_reply, given_reply, kept_of, negative}
use Rattle.stub_client.specs.SpecialNames.{special_answer}
use Rattle.stub_client.specs.Step.{step_of}
use Rattle.stub_client.specs.declared.caching_client.step.LookupSettings.{LookupSettings}
use Rattle.stub_client.specs.declared.caching_client.step.Step.{Step}
use Rattle.stub_client.specs.declared.caching_client.step.Step.TheVariants.{Gives, Misses, Stops, Follows}
use Rattle.stub_client.specs.declared.special_names.SpecialAnswer.{SpecialAnswer}
use Rattle.stub_client.specs.declared.special_names.SpecialAnswer.TheVariants.{Ordinary, Loopback, Nothing}
use Rattle.stub_client.proofs.ClaimSteps.{AllStepsHold, AreKept, StepHolds}
use Rattle.stub_client.proofs.EntriesLaws.{all-inserted, found-entry, if-some-map}
use Rattle.stub_client.proofs.PassingLaws.{SameSettings, settings-stay}
use Rattle.stub_client.proofs.RecordsLaws.{clamped-bound, each-both, each-of-number, each-weaker, equal-numbers, lifetime-each}
use Rattle.stub_client.proofs.StepCases.{both-true}

-- the claim holds of what is kept, now; and of it with TTLs within their bounds
abbrev HoldsNow : (Query → ℕ → Record → Type 0) → Query → ℕ → Kept → Type 0
HoldsNow holds q now (Ok m) = EachOf q.query_type (holds q now) m.answers
HoldsNow holds q now (Err answer) = Unit {0}

abbrev HoldsClamped : (Query → ℕ → Record → Type 0) → TtlConfigContent → Query → ℕ → Kept → Type 0
HoldsClamped holds config q now (Ok m) = EachOf q.query_type (λ r. holds q now (clamped_record config r)) m.answers
HoldsClamped holds config q now (Err answer) = Unit {0}

le-true : (m n : ℕ) → nat_le m n ≡ true → m ≤ n
le-true m n h = grind (arith, nat_tests)

same-type : (p q : Query) → same_key p q ≡ true → type_number p.query_type ≡ type_number q.query_type
same-type p q h =
    let types : Rattle.std.proofs.Common.Bool = type_number p.query_type == type_number q.query_type in
    let classes : Rattle.std.proofs.Common.Bool = class_number p.query_class == class_number q.query_class in
    equal-numbers (type_number p.query_type) (type_number q.query_type)
    (both-true types classes (both-true (same_name p.name q.name) (types && classes) h).1).0

-- what is kept at a moment is kept at later ones
pub holds-later : (P : Query → ℕ → Record → Type 0) (now later : ℕ) (cache : CacheContent) → now ≤ later → HoldsOfCache P now cache
    → HoldsOfCache P later cache
holds-later P now later cache after holds = λ k d less.
    let e = slice_index_or cache.entries k d in
    let past : e.moment ≤ now = (holds k d less).past in
    record { past = omega arith; kept = (holds k d less).kept }

module _ (P : Query → ℕ → Record → Type 0) (outlasts : Outlasts P) where
  -- ---- what the cache has

  aged-holds : (p q : Query) (since deadline now : ℕ) (kept : Kept) → HoldsOfKept P p since deadline kept → same_key p q ≡ true
      → since ≤ now → now ≤ deadline → HoldsNow P q now (aged (now - since) kept)
  aged-holds p q since deadline now (Ok m) h same past due =
      All-map (λ r. has_type q.query_type r ≡ true → P q now r) (after_seconds (now - since)) m.answers
      (each-of-number p.query_type q.query_type (λ r. P q now (after_seconds (now - since) r)) m.answers (same-type p q same)
      (each-weaker p.query_type (λ r. P p since r × (deadline ≤ since + r.ttl)) (λ r. P q now (after_seconds (now - since) r))
      (λ r typed holds. outlasts.respells p q now (after_seconds (now - since) r)
      (outlasts.ages p since now r holds.0 past (let last : deadline ≤ since + r.ttl = holds.1 in omega arith)) same)
      m.answers h))
  aged-holds p q since deadline now (Err answer) h same past due = tt

  current-holds : (now : ℕ) (es : List Entry) (q : Query) → All (HoldsOfEntry P now) es → IfSome (current es q now) (HoldsNow P q now)
  current-holds now es q h =
      if-some-map (λ e. HoldsOfEntry P now e × (is_current q now e ≡ true)) (HoldsNow P q now) (λ e. aged (now - e.moment) e.kept)
      (λ e found.
      (let both = both-true (is_about q e) (nat_le now e.deadline) found.1 in
      aged-holds e.question q e.moment e.deadline now e.kept found.0.kept both.0 found.0.past (le-true now e.deadline both.1)))
      (find (is_current q now) es) (found-entry (HoldsOfEntry P now) (is_current q now) es h)

  -- ---- what is stored

  entry-holds : (config : TtlConfigContent) (q : Query) (kept : Kept) (now : ℕ) → HasNoMinimum config q.query_type → HoldsClamped P config q now kept
      → HoldsOfEntry P now (entry_of config q kept now)
  entry-holds config q (Ok m) now none h =
      let life = positive_lifetime config q.query_type (clamped config m) in
      let rs = map (clamped_record config) m.answers in record {
        past = omega arith;
        kept = each-weaker q.query_type (λ r. P q now r × (life ≤ r.ttl)) (λ r. P q now r × (now + life ≤ now + r.ttl))
            (λ r typed both. (both.0, let less : life ≤ r.ttl = both.1 in omega arith)) rs
            (each-both q.query_type (P q now) (λ r. life ≤ r.ttl) rs
            (All-map (λ r. has_type q.query_type r ≡ true → P q now r) (clamped_record config) m.answers h)
            (lifetime-each config q.query_type (clamped config m) none));
      }
  entry-holds config q (Err answer) now none h = record { past = omega arith; kept = tt }

  -- what may be returned may be stored
  reply-may-be-stored : (config : TtlConfigContent) (q : Query) (now : ℕ) (reply : Reply) → HasNoMinimum config q.query_type → HoldsOfReply P q now reply
      → IfSome (kept_of q reply) (HoldsClamped P config q now)
  reply-may-be-stored config q now (Ok lookup) none h =
      each-weaker q.query_type (P q now) (λ r. P q now (clamped_record config r))
      (λ r typed holds. outlasts.lowers q now (clamped_record config r).ttl r holds (clamped-bound config q.query_type r none typed))
      lookup.message.answers h
  reply-may-be-stored config q now (Err (errors.Dns (dns.NoRecordsFound answer))) none h = tt
  reply-may-be-stored config q now (Err (errors.Dns (dns.ResponseCode code))) none h = tt
  reply-may-be-stored config q now (Err (errors.Proto error)) none h = tt
  reply-may-be-stored config q now (Err (errors.Message text)) none h = tt
  reply-may-be-stored config q now (Err (errors.Link fault)) none h = tt
  reply-may-be-stored config q now (Err errors.Unsupported) none h = tt
  reply-may-be-stored config q now (Err errors.Memory) none h = tt

  abbrev Holds : ℕ → Query → Reply → CacheContent → Type 0
  Holds now q reply new = HoldsOfCache P now new × HoldsOfReply P q now reply

  holds-stored : (now : ℕ) (old : CacheContent) (q : Query) (kept : Kept) (new : CacheContent) → HasNoMinimum old.config q.query_type
      → HoldsOfCache P now old → HoldsClamped P old.config q now kept → new ≡ storing old q kept now → HoldsOfCache P now new
  holds-stored now old q kept new none holds clamps e =
      subst (HoldsOfCache P now) (sym e)
      (all-inserted (HoldsOfEntry P now) old.capacity old.entries (entry_of old.config q kept now) holds
      (entry-holds old.config q kept now none clamps))

  stores-hold : (now : ℕ) (old : CacheContent) (q : Query) (o : Option Kept) (given reply : Reply) (new : CacheContent)
      → HasNoMinimum old.config q.query_type → HoldsOfCache P now old → IfSome o (HoldsClamped P old.config q now) → HoldsOfReply P q now given
      → Stores now old q o given reply new → Holds now q reply new
  stores-hold now old q None given reply new none holds clamps told h =
      (subst (HoldsOfCache P now) (sym h.1) holds, subst (HoldsOfReply P q now) (sym h.0) told)
  stores-hold now old q (Some kept) given reply new none holds clamps told (inl h) =
      (holds-stored now old q kept new none holds clamps h.1, subst (HoldsOfReply P q now) (sym h.0) told)
  stores-hold now old q (Some kept) given reply new none holds clamps told (inr h) = (
    elim h.1 [
      | inl e ↦ subst (HoldsOfCache P now) (sym e) holds
      | inr e ↦ holds-stored now old q kept new none holds clamps e
    ],
    subst (HoldsOfReply P q now) (sym h.0) tt,
  )

  -- ---- lookups

  back : (now : ℕ) (p q : Query) (reply : Reply) → p.query_type ≡ q.query_type
      → ((r : Record) → has_type q.query_type r ≡ true → P p now r → P q now r) → HoldsOfReply P p now reply → HoldsOfReply P q now reply
  back now p q (Ok lookup) same f h =
      each-weaker q.query_type (P p now) (P q now) f lookup.message.answers
      (each-of-number p.query_type q.query_type (P p now) lookup.message.answers
      (ap (λ (kind : Rattle.dns_wire.specs.declared.codes.record_type.RecordType.RecordType). type_number kind) same) h)
  back now p q (Err error) same f h = tt

  proceeds-hold : (next : Query → List Record → Reply → CacheContent → Type 0) (settings : LookupSettings) (now : ℕ) (old : CacheContent)
      (q : Query) (step : Step) (asks : List Ask) (reply : Reply) (new : CacheContent)
      → ((target : Query) (kept : List Record) (inner : Reply) (mid : CacheContent) → HasNoMinimum old.config target.query_type
      → AreKept settings target kept → next target kept inner mid → SameSettings old mid × Holds now target inner mid)
      → HasNoMinimum old.config q.query_type → HoldsOfCache P now old → StepHolds P settings old.config now q step
      → Proceeds next now old q step asks reply new → Holds now q reply new
  proceeds-hold next settings now old q (Gives m) asks reply new rest none holds step h =
      stores-hold now old q (Some (Ok m)) (given_reply old.config now q m) reply new none holds step
      (All-map (λ r. has_type q.query_type r ≡ true → P q now r) (clamped_record old.config) m.answers step) h.1
  proceeds-hold next settings now old q (Misses answer) asks reply new rest none holds step h =
      stores-hold now old q (Some (Err answer)) (negative answer) reply new none holds tt tt h.1
  proceeds-hold next settings now old q (Stops error) asks reply new rest none holds step h =
      (subst (HoldsOfCache P now) (sym h.2) holds, subst (HoldsOfReply P q now) (sym h.1) tt)
  proceeds-hold next settings now old q (Follows target kept) asks reply new rest none holds step h =
      let NoMinimum : Rattle.dns_wire.specs.declared.codes.record_type.RecordType.RecordType → Type 0 = HasNoMinimum old.config in
      let inner = rest target kept h.0 h.1 (subst NoMinimum (sym step.0) none) step.1 h.2 in
      let none-then : HasNoMinimum h.1.config q.query_type =
      subst (λ (config : TtlConfigContent). HasNoMinimum config q.query_type) (sym inner.0.1) none in
      let at-question : HoldsOfReply P q now h.0 = back now target q h.0 step.0 step.2 inner.1.1 in
      stores-hold now h.1 q (kept_of q h.0) h.0 reply new none-then inner.1.0
      (reply-may-be-stored h.1.config q now h.0 none-then at-question) at-question h.3

  cached-holds : (q : Query) (now : ℕ) (kept : Kept) → HoldsNow P q now kept → HoldsOfReply P q now (cached_reply now q kept)
  cached-holds q now (Ok m) h = h
  cached-holds q now (Err answer) h = tt

  answered-holds : (now : ℕ) (q : Query) (special : SpecialAnswer) (hit : Option Kept) (reply : Reply)
      → ((r : Record) → special ≡ Loopback r → P q now r) → IfSome hit (HoldsNow P q now) → IsAnsweredHere now q special hit reply
      → HoldsOfReply P q now reply
  answered-holds now q (Loopback r) hit reply f g h =
      subst (HoldsOfReply P q now) (sym h)
      (All-cons (λ x. has_type q.query_type x ≡ true → P q now x) r [] (λ typed. f r refl) (All-nil (λ x. has_type q.query_type x ≡ true → P q now x)))
  answered-holds now q (Nothing code) hit reply f g h = subst (HoldsOfReply P q now) (sym h) tt
  answered-holds now q Ordinary (Some kept) reply f g h = subst (HoldsOfReply P q now) (sym h) (cached-holds q now kept g)
  answered-holds now q Ordinary None reply f g h = absurd h

  -- Every lookup keeps the claim.
  pub lookup-keeps : HoldsOfLoopback P → (settings : LookupSettings) (now depth : ℕ) (kept : List Record) (old : CacheContent) (q : Query)
      (asks : List Ask) (reply : Reply) (new : CacheContent)
      → HasNoMinimum old.config q.query_type → AreKept settings q kept → HoldsOfCache P now old → AllStepsHold P settings old.config now asks
      → Looks settings now depth kept old q asks reply new → Holds now q reply new
  lookup-keeps loopback settings now depth kept old q [] reply new none are holds steps h = (
    subst (HoldsOfCache P now) (sym h.0) holds,
    elim h.1 [
      | inl memory ↦ subst (HoldsOfReply P q now) (sym memory) tt
      | inr answered ↦ answered-holds now q (special_answer q) (current old.entries q now) reply (λ r e. loopback q now r e)
          (current-holds now old.entries q holds) answered
    ],
  )
  lookup-keeps loopback settings now depth kept old q (ask ∷ asks) reply new none are holds steps h =
      let Each : Ask → Type 0 = λ a. (kept : List Record) (depth : ℕ) → AreKept settings a.question kept
      → StepHolds P settings old.config now a.question (step_of settings a.question kept depth a.outcome) in
      elim h.3 [
        | inl memory ↦ (subst (HoldsOfCache P now) (sym memory.3) holds, subst (HoldsOfReply P q now) (sym memory.2) tt)
        | inr goes ↦
            proceeds-hold (λ target aliases inner mid. Looks settings now (suc depth) aliases old target asks inner mid) settings now old q
            (step_of settings q kept depth ask.outcome) asks reply new
            (λ target aliases inner mid none are looks. (
              settings-stay settings now (suc depth) aliases old target asks inner mid looks,
              lookup-keeps loopback settings now (suc depth) aliases old target asks inner mid none are holds (All-tail Each ask asks steps) looks,
            )) none holds
            (subst (λ (p : Query). AreKept settings p kept → StepHolds P settings old.config now p (step_of settings p kept depth ask.outcome)) h.0
            (All-head Each ask asks steps kept depth) are) goes
      ]
