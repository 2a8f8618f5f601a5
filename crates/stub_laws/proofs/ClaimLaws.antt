-- Every lookup of a client keeps claims about whole answers and negative answers.
use Rattle.std.proofs.Common.{◌≡◌, ℕ, suc, ◌+◌, ◌-◌, ◌≤◌, max, true, List, [], ◌∷◌, map, Option, Some, None, Ok, Err, All, IfSome, refl, sym, subst, inl, inr, arith, nat_le, slice_index_or}
use Rattle.std.specs.List.{find}
use Rattle.std.specs.Option.{unwrap_or}
use Rattle.std.proofs.lemmas.Bool.Decides.{nat_tests}
use Rattle.std.proofs.lemmas.List.Elements.{All-head, All-tail}
use Rattle.dns_wire.specs.codes.RecordType.{type_number}
use Rattle.dns_data.specs.rdata.{data_type}
use Rattle.dns_records.specs.Record.{Record}
use Rattle.dns_messages.specs.declared.query.Query.{Query}
use Rattle.dns_messages.specs.declared.response_code.ResponseCode.{ResponseCode}
use Rattle.stub_lookup.specs.Error.{no_records}
use Rattle.stub_lookup.specs.declared.error.DnsError.TheVariants as dns
use Rattle.stub_lookup.specs.declared.error.NetError.{NetError}
use Rattle.stub_lookup.specs.declared.error.NetError.TheVariants as errors
use Rattle.stub_lookup.specs.declared.error.NoRecords.{NoRecords}
use Rattle.stub_cache.specs.Cache.{CacheContent, Kept, aged, current, entry_of, is_about, is_current, same_key, storing}
use Rattle.stub_cache.specs.Ttl.{TtlConfigContent, TtlRange, bounds_of, clamped, clamped_record, lifetime_within, negative_lifetime, negative_range, positive_lifetime}
use Rattle.stub_cache.specs.declared.cache.entry.Entry.{Entry}
use Rattle.stub_client.specs.Handle.{Ask}
use Rattle.stub_client.specs.Looks.{IsAnsweredHere, Looks, Proceeds, Reply, Stores, cached_reply, given_reply, kept_of, negative}
use Rattle.stub_client.specs.SpecialNames.{special_answer}
use Rattle.stub_client.specs.Step.{step_of}
use Rattle.stub_client.specs.declared.caching_client.step.LookupSettings.{LookupSettings}
use Rattle.stub_client.specs.declared.caching_client.step.Step.{Step}
use Rattle.stub_client.specs.declared.caching_client.step.Step.TheVariants.{Gives, Misses, Stops, Follows}
use Rattle.stub_client.specs.declared.special_names.SpecialAnswer.{SpecialAnswer}
use Rattle.stub_client.specs.declared.special_names.SpecialAnswer.TheVariants.{Ordinary, Loopback, Nothing}
use Rattle.stub_client.proofs.EntriesLaws.{all-inserted, found-entry, if-some-map}
use Rattle.stub_client.proofs.PassingLaws.{SameSettings, settings-stay}
use Rattle.stub_client.proofs.RecordsLaws.{clamped-bound, each-weaker, lifetime-each, numbers-equal}
use Rattle.stub_client.proofs.StepCases.{both-true}
use Rattle.stub_core.specs.Origins.{HasNoMinima}
use Rattle.stub_laws.specs.answers.Claims.{AbsencesOutlast, AnswersOutlast, AreKeptAliases, BearOut, HasNoNegativeMinima, HoldOfCache, HoldOfEntry, HoldOfKept, HoldOfReply, HoldOfSpecialNames, HoldOfStep, longest_of, negative_time}

le-true : (m n : ℕ) → nat_le m n ≡ true → m ≤ n
le-true m n h = grind (arith, nat_tests)

-- no negative answer is kept for longer than its negative TTL
negative-bound : (range : TtlRange) → range.least ≡ 0 → (o : Option ℕ) → lifetime_within range o ≤ unwrap_or o 0
negative-bound range h None = omega arith
negative-bound range h (Some ttl) = omega arith

-- and none for longer than the greater of the bounds
negative-most : (range : TtlRange) (o : Option ℕ) → lifetime_within range o ≤ max range.least range.greatest
negative-most range None = omega arith
negative-most range (Some ttl) = omega arith

-- under the premises the least TTLs of both kinds of answers are 0 for every type, and no negative answer is kept for longer than
-- at most
pub record HasNoLeast (low short : Type 0) (longest : Query → ℕ) (config : TtlConfigContent) : Type 0 where
  pub positive : low → HasNoMinima config
  pub negative : short → HasNoNegativeMinima config
  pub bounded : (q : Query) → longest_of config q ≡ longest q

-- premises that say so
pub own-least : (config : TtlConfigContent) → HasNoLeast (HasNoMinima config) (HasNoNegativeMinima config) (longest_of config) config
own-least config = record { positive = λ none. none; negative = λ none. none; bounded = λ q. refl }

-- then no TTL is raised
lower-bound : (config : TtlConfigContent) → HasNoMinima config → (r : Record) → (clamped_record config r).ttl ≤ r.ttl
lower-bound config none r =
    clamped-bound config (data_type r.rdata) r (none (data_type r.rdata))
    (numbers-equal (type_number (data_type r.rdata)) (type_number (data_type r.rdata)) refl)

module _ (low short : Type 0) (longest : Query → ℕ) (finds : Query → ℕ → List Record → Type 0) (misses : Query → ℕ → NoRecords → Type 0) where
  -- what is kept at a moment is kept at later ones
  pub hold-later : (now later : ℕ) (cache : CacheContent) → now ≤ later → HoldOfCache low short longest finds misses now cache → HoldOfCache low short longest finds misses later cache
  hold-later now later cache after holds = λ k d less.
      let e = slice_index_or cache.entries k d in
      let past : e.moment ≤ now = (holds k d less).past in
      record { past = omega arith; kept = (holds k d less).kept }

  module _ (lacks : Query → ℕ → NoRecords → Type 0) (fails : Query → ℕ → NetError → Type 0) (deep : ℕ → Query → Type 0) (answers : AnswersOutlast low finds) (absences : AbsencesOutlast short longest misses lacks) where
    -- the claims hold of what is kept, as it is returned now; and of what is stored, with TTLs within their bounds
    abbrev HoldNow : Query → ℕ → Kept → Type 0
    HoldNow q now (Ok m) = finds q now m.answers
    HoldNow q now (Err answer) = lacks q now answer

    abbrev HoldClamped : TtlConfigContent → Query → ℕ → Kept → Type 0
    HoldClamped config q now (Ok m) = finds q now (map (clamped_record config) m.answers)
    HoldClamped config q now (Err answer) = misses q now answer

    -- ---- what the cache has

    aged-hold : (p q : Query) (since deadline now : ℕ) (kept : Kept) → HoldOfKept low short longest finds misses p since deadline kept → same_key p q ≡ true
        → since ≤ now → now ≤ deadline → HoldNow q now (aged (now - since) kept)
    aged-hold p q since deadline now (Ok m) h same past due =
        answers.respells p q now _
        (answers.ages p since now m.answers h.0 past
        (λ is-low. each-weaker p.query_type (λ r. deadline ≤ since + r.ttl) (λ r. now ≤ since + r.ttl)
        (λ r typed last. (let due-then : deadline ≤ since + r.ttl = last in omega arith)) m.answers (h.1 is-low))) same
    aged-hold p q since deadline now (Err answer) h same past due =
        absences.respells p q now _
        (absences.ages p since now answer h.0 past
        (λ is-short. (let last : deadline ≤ since + negative_time answer = h.1 is-short in omega arith))
        (let last : deadline ≤ since + longest p = h.2 in omega arith)) same

    current-hold : (now : ℕ) (es : List Entry) (q : Query) → All (HoldOfEntry low short longest finds misses now) es → IfSome (current es q now) (HoldNow q now)
    current-hold now es q h =
        if-some-map (λ e. HoldOfEntry low short longest finds misses now e × (is_current q now e ≡ true)) (HoldNow q now) (λ e. aged (now - e.moment) e.kept)
        (λ e found.
        (let both = both-true (is_about q e) (nat_le now e.deadline) found.1 in
        aged-hold e.question q e.moment e.deadline now e.kept found.0.kept both.0 found.0.past (le-true now e.deadline both.1)))
        (find (is_current q now) es) (found-entry (HoldOfEntry low short longest finds misses now) (is_current q now) es h)

    -- ---- what is stored

    entry-holds : (config : TtlConfigContent) (q : Query) (kept : Kept) (now : ℕ) → HasNoLeast low short longest config → HoldClamped config q now kept
        → HoldOfEntry low short longest finds misses now (entry_of config q kept now)
    entry-holds config q (Ok m) now none h =
        let life = positive_lifetime config q.query_type (clamped config m) in
        let rs = map (clamped_record config) m.answers in record {
          past = omega arith;
          kept = (
            h,
            λ is-low. each-weaker q.query_type (λ r. life ≤ r.ttl) (λ r. now + life ≤ now + r.ttl)
                (λ r typed less. (let bound : life ≤ r.ttl = less in omega arith)) rs
                (lifetime-each config q.query_type (clamped config m) (none.positive is-low q.query_type)),
          );
        }
    entry-holds config q (Err answer) now none h =
        record {
          past = omega arith;
          kept = (
            h,
            λ is-short.
                let bound : negative_lifetime config q.query_type answer ≤ negative_time answer =
                negative-bound (negative_range (bounds_of config q.query_type)) (none.negative is-short q.query_type) answer.negative_ttl in
                omega arith,
            (let bound : negative_lifetime config q.query_type answer ≤ longest_of config q =
                negative-most (negative_range (bounds_of config q.query_type)) answer.negative_ttl in
                let same : longest_of config q ≡ longest q = none.bounded q in omega arith),
          );
        }

    -- what may be returned where aliases lead may be stored
    reply-may-be-stored : (config : TtlConfigContent) (target q : Query) (now : ℕ) (reply : Reply) → HasNoLeast low short longest config
        → ((rs : List Record) → finds target now rs → finds q now rs) → ((answer : NoRecords) → lacks target now answer → misses q now answer)
        → HoldOfReply finds lacks fails target now reply → IfSome (kept_of q reply) (HoldClamped config q now)
    reply-may-be-stored config target q now (Ok lookup) none f g h =
        answers.lowers q now (λ r. (clamped_record config r).ttl) lookup.message.answers (f lookup.message.answers h)
        (λ is-low. lower-bound config (none.positive is-low))
    reply-may-be-stored config target q now (Err (errors.Dns (dns.NoRecordsFound answer))) none f g h = g answer h
    reply-may-be-stored config target q now (Err (errors.Dns (dns.ResponseCode code))) none f g h = tt
    reply-may-be-stored config target q now (Err (errors.Proto error)) none f g h = tt
    reply-may-be-stored config target q now (Err (errors.Message text)) none f g h = tt
    reply-may-be-stored config target q now (Err (errors.Link fault)) none f g h = tt
    reply-may-be-stored config target q now (Err errors.Unsupported) none f g h = tt
    reply-may-be-stored config target q now (Err errors.Memory) none f g h = tt

    abbrev Hold : ℕ → Query → Reply → CacheContent → Type 0
    Hold now q reply new = HoldOfCache low short longest finds misses now new × HoldOfReply finds lacks fails q now reply

    hold-stored : (now : ℕ) (old : CacheContent) (q : Query) (kept : Kept) (new : CacheContent) → HasNoLeast low short longest old.config
        → HoldOfCache low short longest finds misses now old → HoldClamped old.config q now kept → new ≡ storing old q kept now → HoldOfCache low short longest finds misses now new
    hold-stored now old q kept new none holds clamps e =
        subst (HoldOfCache low short longest finds misses now) (sym e)
        (all-inserted (HoldOfEntry low short longest finds misses now) old.capacity old.entries (entry_of old.config q kept now) holds
        (entry-holds old.config q kept now none clamps))

    stores-hold : (now : ℕ) (old : CacheContent) (q : Query) (o : Option Kept) (given reply : Reply) (new : CacheContent)
        → HasNoLeast low short longest old.config → HoldOfCache low short longest finds misses now old → IfSome o (HoldClamped old.config q now)
        → HoldOfReply finds lacks fails q now given → Stores now old q o given reply new → Hold now q reply new
    stores-hold now old q None given reply new none holds clamps told h =
        (subst (HoldOfCache low short longest finds misses now) (sym h.1) holds, subst (HoldOfReply finds lacks fails q now) (sym h.0) told)
    stores-hold now old q (Some kept) given reply new none holds clamps told (inl h) =
        (hold-stored now old q kept new none holds clamps h.1, subst (HoldOfReply finds lacks fails q now) (sym h.0) told)
    stores-hold now old q (Some kept) given reply new none holds clamps told (inr h) = (
      elim h.1 [
        | inl e ↦ subst (HoldOfCache low short longest finds misses now) (sym e) holds
        | inr e ↦ hold-stored now old q kept new none holds clamps e
      ],
      subst (HoldOfReply finds lacks fails q now) (sym h.0) tt,
    )

    -- ---- lookups

    back : (now : ℕ) (p q : Query) (reply : Reply) → ((rs : List Record) → finds p now rs → finds q now rs)
        → ((answer : NoRecords) → lacks p now answer → lacks q now answer) → ((error : NetError) → fails p now error → fails q now error)
        → HoldOfReply finds lacks fails p now reply → HoldOfReply finds lacks fails q now reply
    back now p q (Ok lookup) f g e h = f lookup.message.answers h
    back now p q (Err (errors.Dns (dns.NoRecordsFound answer))) f g e h = g answer h
    back now p q (Err (errors.Dns (dns.ResponseCode code))) f g e h = e (errors.Dns (dns.ResponseCode code)) h
    back now p q (Err (errors.Proto error)) f g e h = e (errors.Proto error) h
    back now p q (Err (errors.Message text)) f g e h = e (errors.Message text) h
    back now p q (Err (errors.Link fault)) f g e h = e (errors.Link fault) h
    back now p q (Err errors.Unsupported) f g e h = e errors.Unsupported h
    back now p q (Err errors.Memory) f g e h = tt

    proceeds-hold : (next : Query → List Record → Reply → CacheContent → Type 0) (settings : LookupSettings) (now depth : ℕ) (old : CacheContent)
        (q : Query) (step : Step) (asks : List Ask) (reply : Reply) (new : CacheContent)
        → ((target : Query) (kept : List Record) (inner : Reply) (mid : CacheContent) → HasNoLeast low short longest old.config
        → AreKeptAliases settings target kept → deep (suc depth) target → next target kept inner mid → SameSettings old mid × Hold now target inner mid)
        → HasNoLeast low short longest old.config → HoldOfCache low short longest finds misses now old → HoldOfStep finds misses lacks fails deep settings old.config now depth q step
        → Proceeds next now old q step asks reply new → Hold now q reply new
    proceeds-hold next settings now depth old q (Gives m) asks reply new rest none holds step h =
        stores-hold now old q (Some (Ok m)) (given_reply old.config now q m) reply new none holds step step h.1
    proceeds-hold next settings now depth old q (Misses answer) asks reply new rest none holds step h =
        stores-hold now old q (Some (Err answer)) (negative answer) reply new none holds step (absences.returns q now answer step) h.1
    proceeds-hold next settings now depth old q (Stops error) asks reply new rest none holds step h =
        (subst (HoldOfCache low short longest finds misses now) (sym h.2) holds, subst (HoldOfReply finds lacks fails q now) (sym h.1) step)
    proceeds-hold next settings now depth old q (Follows target kept) asks reply new rest none holds step h =
        let inner = rest target kept h.0 h.1 none step.1 step.2 h.2 in
        let none-then : HasNoLeast low short longest h.1.config =
        subst (λ (config : TtlConfigContent). HasNoLeast low short longest config) (sym inner.0.1) none in
        let at-question : HoldOfReply finds lacks fails q now h.0 =
        back now target q h.0 step.3 (λ answer lacking. absences.returns q now answer (step.4 answer lacking)) step.5 inner.1.1 in
        stores-hold now h.1 q (kept_of q h.0) h.0 reply new none-then inner.1.0
        (reply-may-be-stored h.1.config target q now h.0 none-then step.3 step.4 inner.1.1) at-question h.3

    cached-hold : (q : Query) (now : ℕ) (kept : Kept) → HoldNow q now kept → HoldOfReply finds lacks fails q now (cached_reply now q kept)
    cached-hold q now (Ok m) h = h
    cached-hold q now (Err answer) h = h

    answered-hold : (now : ℕ) (q : Query) (special : SpecialAnswer) (hit : Option Kept) (reply : Reply)
        → ((r : Record) → special ≡ Loopback r → finds q now (r ∷ []))
        → ((code : ResponseCode) → special ≡ Nothing code → lacks q now (no_records q code)) → IfSome hit (HoldNow q now)
        → IsAnsweredHere now q special hit reply → HoldOfReply finds lacks fails q now reply
    answered-hold now q (Loopback r) hit reply f n g h = subst (HoldOfReply finds lacks fails q now) (sym h) (f r refl)
    answered-hold now q (Nothing code) hit reply f n g h = subst (HoldOfReply finds lacks fails q now) (sym h) (n code refl)
    answered-hold now q Ordinary (Some kept) reply f n g h = subst (HoldOfReply finds lacks fails q now) (sym h) (cached-hold q now kept g)
    answered-hold now q Ordinary None reply f n g h = absurd h

    -- Every lookup keeps the claims.
    pub lookup-keeps : HoldOfSpecialNames finds lacks → (settings : LookupSettings) (now depth : ℕ) (kept : List Record) (old : CacheContent)
        (q : Query) (asks : List Ask) (reply : Reply) (new : CacheContent)
        → HasNoLeast low short longest old.config → AreKeptAliases settings q kept → deep depth q
        → HoldOfCache low short longest finds misses now old
        → All (BearOut finds misses lacks fails deep settings old.config now) asks
        → Looks settings now depth kept old q asks reply new → Hold now q reply new
    lookup-keeps special settings now depth kept old q [] reply new none are there holds steps h = (
      subst (HoldOfCache low short longest finds misses now) (sym h.0) holds,
      elim h.1 [
        | inl memory ↦ subst (HoldOfReply finds lacks fails q now) (sym memory) tt
        | inr answered ↦ answered-hold now q (special_answer q) (current old.entries q now) reply (λ r e. special.loopback q now r e)
            (λ code e. special.nothing q now code e) (current-hold now old.entries q holds) answered
      ],
    )
    lookup-keeps special settings now depth kept old q (ask ∷ asks) reply new none are there holds steps h =
        let Each : Ask → Type 0 = BearOut finds misses lacks fails deep settings old.config now in
        elim h.3 [
          | inl memory ↦ (subst (HoldOfCache low short longest finds misses now) (sym memory.3) holds, subst (HoldOfReply finds lacks fails q now) (sym memory.2) tt)
          | inr goes ↦
              proceeds-hold (λ target aliases inner mid. Looks settings now (suc depth) aliases old target asks inner mid) settings now depth old q
              (step_of settings q kept depth ask.outcome) asks reply new
              (λ target aliases inner mid none are there looks. (
                settings-stay settings now (suc depth) aliases old target asks inner mid looks,
                lookup-keeps special settings now (suc depth) aliases old target asks inner mid none are there holds (All-tail Each ask asks steps) looks,
              )) none holds
              (subst (λ (p : Query). AreKeptAliases settings p kept → deep depth p
              → HoldOfStep finds misses lacks fails deep settings old.config now depth p (step_of settings p kept depth ask.outcome))
              h.0 (All-head Each ask asks steps kept depth) are there) goes
        ]
