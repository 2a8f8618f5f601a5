-- What the replies that are known make of a lookup: they have an outcome for each of its questions, or it stops at the first
-- question that nothing is known of, and has stored nothing.
use Rattle.std.proofs.Common.{◌≡◌, ◌⊎◌, ◌∙◌, inl, inr, refl, sym, ap, subst, ℕ, suc, List, [], ◌∷◌, ◌++◌, Option, Some, None, Err, All}
use Rattle.std.proofs.lemmas.List.Elements.{All-nil, All-cons}
use Rattle.dns_records.specs.Record.{Record}
use Rattle.dns_messages.specs.declared.query.Query.{Query}
use Rattle.stub_cache.specs.Cache.{CacheContent}
use Rattle.stub_client.specs.Handle.{Ask, Led, Outcome}
use Rattle.stub_client.specs.Looks.{Answers, Looks, MayRunOut, Proceeds, Reply, Stores, kept_of, lookup_settings, out_of_memory}
use Rattle.stub_client.specs.Step.{meaning, step_of}
use Rattle.stub_client.specs.declared.caching_client.CachingClient.{CachingClient}
use Rattle.stub_client.specs.declared.caching_client.step.LookupSettings.{LookupSettings}
use Rattle.stub_client.specs.declared.caching_client.step.Step.{Step}
use Rattle.stub_client.specs.declared.caching_client.step.Step.TheVariants.{Gives, Misses, Stops, Follows}
use Rattle.stub_client.specs.declared.request.DnsRequest.{DnsRequest}
use Rattle.stub_config.specs.declared.request_options.DnsRequestOptions.{DnsRequestOptions}
use Rattle.stub_lookup.specs.declared.error.NetError.TheVariants as net
use Rattle.api_resolver.specs.known.Answered as handle
use Rattle.api_resolver.specs.known.Answered.{AnsweredState, GivesKnown, GivesTo}
use Rattle.api_resolver.specs.known.Known.{outcome_for}
use Rattle.api_resolver.specs.known.Progress.{AreKnown, Comes, IsKnown, over, unanswered}
use Rattle.api_resolver.specs.declared.known.known.KnownOutcome.{KnownOutcome}
use Rattle.api_resolver.specs.declared.known.known.KnownReply.{KnownReply}
use Rattle.api_resolver.specs.declared.known.progress.Progress.TheVariants.{Asks, Ends}

-- what a handle gives
abbrev pub gives : AnsweredState → DnsRequest → ℕ → Outcome → AnsweredState → Type 0
gives = λ old request now outcome new. handle.Gives old request.message.queries outcome new

-- All questions were known, or the last one was not.
pub data Settles (known : List KnownReply) (old : CacheContent) (asks : List Ask) (reply : Reply) (new : CacheContent) (after : AnsweredState)
    : Type 0 where
  all_are_known : AreKnown known asks → after ≡ over known → Settles known old asks reply new after
  last_is_wanted : (front : List Ask) (q : Query) → asks ≡ front ++ unanswered q ∷ [] → AreKnown known front → outcome_for known q ≡ None
      → after ≡ record (over known) { wanted = Some q } → reply ≡ out_of_memory → new ≡ old → Settles known old asks reply new after

-- ---- one question

-- a question has the outcome that is known, or none is known and it is wanted
given-cases : (known : List KnownReply) (q : Query) (found : Option KnownOutcome) (outcome : Outcome) (mid : AnsweredState)
    → GivesKnown found q (over known) outcome mid
    → (mid ≡ over known) ⊎ ((outcome ≡ Err net.Memory) × (found ≡ None) × (mid ≡ record (over known) { wanted = Some q }))
given-cases known q (Some k) outcome mid h = inl h.1
given-cases known q None outcome mid h = elim h.1 [ inl same ↦ inl same | inr wanted ↦ inr (h.0, refl, wanted) ]

-- ---- the step after a question

-- what may follow a question
abbrev After : (Query → List Record → Reply → CacheContent → Type 0) → LookupSettings → ℕ → ℕ → List Record → CacheContent → Query → List Ask → Reply → CacheContent → Outcome
    → Type 0
After next settings now depth kept old q asks reply new outcome =
    ((asks ≡ []) × MayRunOut (meaning outcome) × (reply ≡ out_of_memory) × (new ≡ old))
    ⊎ Proceeds next now old q (step_of settings q kept depth outcome) asks reply new

-- want of memory ends the lookup
after-memory : (next : Query → List Record → Reply → CacheContent → Type 0) (settings : LookupSettings) (now depth : ℕ) (kept : List Record) (old : CacheContent) (q : Query)
    (asks : List Ask) (reply : Reply) (new : CacheContent) (outcome : Outcome) → outcome ≡ Err net.Memory
    → After next settings now depth kept old q asks reply new outcome → (asks ≡ []) × (reply ≡ out_of_memory) × (new ≡ old)
after-memory next settings now depth kept old q asks reply new outcome e h =
    let at-memory = subst (λ (o : Outcome). After next settings now depth kept old q asks reply new o) e h in
    elim at-memory [ inl ran-out ↦ absurd ran-out.1 | inr goes ↦ goes ]

-- want of memory in a lookup of the target of an alias is not stored
stored-memory : (now : ℕ) (mid : CacheContent) (q : Query) (inner reply : Reply) (new : CacheContent) → inner ≡ out_of_memory
    → Stores now mid q (kept_of q inner) inner reply new → (reply ≡ out_of_memory) × (new ≡ mid)
stored-memory now mid q inner reply new e h = subst (λ (i : Reply). Stores now mid q (kept_of q i) i reply new) e h

-- no question is left
none-left : (options : DnsRequestOptions) (now : ℕ) (mid : AnsweredState) (asks : List Ask) (after : AnsweredState) → asks ≡ []
    → Led gives options now mid asks after → after ≡ mid
none-left options now mid asks after e led = subst (λ (a : List Ask). Led gives options now mid a after) e led

one-ask : (ask : Ask) (asks : List Ask) → asks ≡ [] → ask.outcome ≡ Err net.Memory → ask ∷ asks ≡ [] ++ unanswered ask.question ∷ []
one-ask ask asks e m =
    ap (λ (a : List Ask). ask ∷ a) e ∙ ap (λ (o : Outcome). (let a : Ask = record { question = ask.question; outcome = o } in a ∷ [])) m

-- a question that is known is the last one
known-last : (known : List KnownReply) (old : CacheContent) (ask : Ask) (asks : List Ask) (reply : Reply) (new : CacheContent) (after : AnsweredState)
    → asks ≡ [] → IsKnown known ask → after ≡ over known → Settles known old (ask ∷ asks) reply new after
known-last known old ask asks reply new after e this same =
    let all : AreKnown known (ask ∷ []) = All-cons (IsKnown known) ask [] this (All-nil (IsKnown known)) in
    all_are_known (subst (λ (a : List Ask). AreKnown known (ask ∷ a)) (sym e) all) same

-- what a known question adds to a lookup of the target of an alias
followed : (known : List KnownReply) (now : ℕ) (old mid : CacheContent) (q : Query) (ask : Ask) (asks : List Ask) (inner reply : Reply) (new : CacheContent) (after : AnsweredState)
    → IsKnown known ask → Settles known old asks inner mid after → Stores now mid q (kept_of q inner) inner reply new
    → Settles known old (ask ∷ asks) reply new after
followed known now old mid q ask asks inner reply new after this (all_are_known all same) stores =
    all_are_known (All-cons (IsKnown known) ask asks this all) same
followed known now old mid q ask asks inner reply new after this (last_is_wanted front w is all unknown wanted ran-out unchanged) stores =
    let stored = stored-memory now mid q inner reply new ran-out stores in
    last_is_wanted (ask ∷ front) w (ap (λ (a : List Ask). ask ∷ a) is) (All-cons (IsKnown known) ask front this all) unknown wanted stored.0 (stored.1 ∙ unchanged)

-- ---- lookups

-- the rest of a lookup after a question that is known
proceeds : (known : List KnownReply) (next : Query → List Record → Reply → CacheContent → Type 0) (options : DnsRequestOptions) (now : ℕ) (old : CacheContent) (q : Query) (step : Step)
    (ask : Ask) (asks : List Ask) (reply : Reply) (new : CacheContent) (after : AnsweredState) → IsKnown known ask → Led gives options now (over known) asks after
    → ((target : Query) (aliases : List Record) (inner : Reply) (mid : CacheContent) → next target aliases inner mid → Settles known old asks inner mid after)
    → Proceeds next now old q step asks reply new → Settles known old (ask ∷ asks) reply new after
proceeds known next options now old q (Gives m) ask asks reply new after this led rest h =
    known-last known old ask asks reply new after h.0 this (none-left options now (over known) asks after h.0 led)
proceeds known next options now old q (Misses answer) ask asks reply new after this led rest h =
    known-last known old ask asks reply new after h.0 this (none-left options now (over known) asks after h.0 led)
proceeds known next options now old q (Stops error) ask asks reply new after this led rest h =
    known-last known old ask asks reply new after h.0 this (none-left options now (over known) asks after h.0 led)
proceeds known next options now old q (Follows target aliases) ask asks reply new after this led rest h =
    followed known now old h.1 q ask asks h.0 reply new after this (rest target aliases h.0 h.1 h.2) h.3

-- a lookup over the replies that are known
pub settles : (known : List KnownReply) (settings : LookupSettings) (options : DnsRequestOptions) (now depth : ℕ) (kept : List Record) (old : CacheContent) (q : Query)
    (asks : List Ask) (reply : Reply) (new : CacheContent) (after : AnsweredState) → Led gives options now (over known) asks after
    → Looks settings now depth kept old q asks reply new → Settles known old asks reply new after
settles known settings options now depth kept old q [] reply new after led looks = all_are_known (All-nil (IsKnown known)) led
settles known settings options now depth kept old q (ask ∷ asks) reply new after led looks =
    let next : Query → List Record → Reply → CacheContent → Type 0 = λ target aliases inner mid. Looks settings now (suc depth) aliases old target asks inner mid in
    elim (given-cases known ask.question (outcome_for known ask.question) ask.outcome led.0 led.1) [
      | inl same ↦ (let this : IsKnown known ask = subst (λ (s : AnsweredState). GivesTo ask.question (over known) ask.outcome s) same led.1 in
          let rest : Led gives options now (over known) asks after = subst (λ (s : AnsweredState). Led gives options now s asks after) same led.2 in
          elim looks.3 [
            | inl ran-out ↦ known-last known old ask asks reply new after ran-out.0 this (none-left options now (over known) asks after ran-out.0 rest)
            | inr goes ↦ proceeds known next options now old q (step_of settings q kept depth ask.outcome) ask asks reply new after this rest
                (λ target aliases inner mid looks'. settles known settings options now (suc depth) aliases old target asks inner mid after rest looks') goes
          ])
      | inr wanted ↦ (let end = after-memory next settings now depth kept old q asks reply new ask.outcome wanted.0 looks.3 in
          last_is_wanted [] ask.question (one-ask ask asks end.0 wanted.0) (All-nil (IsKnown known)) wanted.1
          (none-left options now led.0 asks after end.0 led.2 ∙ wanted.2) end.1 end.2)
    ]

-- ---- clients

abbrev Client : Type 0
Client = CachingClient AnsweredState

-- a handle to which no question is wanted
over-known : (state : AnsweredState) → state.wanted ≡ None → state ≡ over state.known
over-known state w = ap (λ (x : Option Query). (let s : AnsweredState = record { known = state.known; wanted = x } in s)) w

-- what the questions of a client's lookup come to
settled : (options : DnsRequestOptions) (now : ℕ) (old : Client) (q : Query) (reply : Reply) (mid : Client) → old.handle.wanted ≡ None
    → (answers : Answers gives options now old q reply mid) → Settles old.handle.known old.cache answers.asks reply mid.cache mid.handle
settled options now old q reply mid w answers =
    settles old.handle.known (lookup_settings old options) options now 0 [] old.cache q answers.asks reply mid.cache mid.handle
    (subst (λ (s : AnsweredState). Led gives options now s answers.asks mid.handle) (over-known old.handle w) answers.led) answers.looks

same-handle : (old mid new : AnsweredState) → old.wanted ≡ None → mid.known ≡ old.known → new ≡ record mid { wanted = None } → new ≡ old
same-handle old mid new w known is =
    is ∙ ap (λ (k : List KnownReply). over k) known ∙ sym (over-known old w)

ends : (options : DnsRequestOptions) (now : ℕ) (old : Client) (q : Query) (reply : Reply) (mid new : Client) → old.handle.wanted ≡ None → mid.handle.wanted ≡ None
    → (answers : Answers gives options now old q reply mid) → new.cache ≡ mid.cache → new.handle ≡ record mid.handle { wanted = None }
    → new.preserve_intermediates ≡ mid.preserve_intermediates → Settles old.handle.known old.cache answers.asks reply mid.cache mid.handle
    → Comes options now old q (Ends reply) new
ends options now old q reply mid new w none answers cache-is handle-is settings-is (all_are_known all same) = record {
  comes = record {
    asks = answers.asks;
    are_known = all;
    looks = subst (λ (c : CacheContent). Looks (lookup_settings old options) now 0 [] old.cache q answers.asks reply c) (sym cache-is) answers.looks;
    few = answers.few;
  };
  same_handle = same-handle old.handle mid.handle new.handle w (ap (λ (s : AnsweredState). s.known) same) handle-is;
  same_settings = settings-is ∙ answers.settings;
}
ends options now old q reply mid new w none answers cache-is handle-is settings-is (last_is_wanted front wanted is all unknown state ran-out unchanged) =
    let bad : mid.handle.wanted ≡ Some wanted = ap (λ (s : AnsweredState). s.wanted) state in absurd (cc)

-- a lookup ends if no question is wanted
pub comes-to-an-end : (options : DnsRequestOptions) (now : ℕ) (old : Client) (q : Query) (reply : Reply) (mid new : Client) → old.handle.wanted ≡ None → mid.handle.wanted ≡ None
    → Answers gives options now old q reply mid → new.cache ≡ mid.cache → new.handle ≡ record mid.handle { wanted = None }
    → new.preserve_intermediates ≡ mid.preserve_intermediates → Comes options now old q (Ends reply) new
comes-to-an-end options now old q reply mid new w none answers cache-is handle-is settings-is =
    ends options now old q reply mid new w none answers cache-is handle-is settings-is (settled options now old q reply mid w answers)

-- the questions up to the one that is wanted
stops-at : (settings : LookupSettings) (now : ℕ) (old mid : CacheContent) (q : Query) (asks front : List Ask) (w wanted : Query) (reply : Reply)
    → asks ≡ front ++ unanswered w ∷ [] → w ≡ wanted → reply ≡ out_of_memory → mid ≡ old → Looks settings now 0 [] old q asks reply mid
    → Looks settings now 0 [] old q (front ++ unanswered wanted ∷ []) out_of_memory old
stops-at settings now old mid q asks front w wanted reply is same ran-out unchanged looks =
    let a = subst (λ (xs : List Ask). Looks settings now 0 [] old q xs reply mid) is looks in
    let b = subst (λ (x : Query). Looks settings now 0 [] old q (front ++ unanswered x ∷ []) reply mid) same a in
    let d = subst (λ (r : Reply). Looks settings now 0 [] old q (front ++ unanswered wanted ∷ []) r mid) ran-out b in
    subst (λ (c : CacheContent). Looks settings now 0 [] old q (front ++ unanswered wanted ∷ []) out_of_memory c) unchanged d

asks : (options : DnsRequestOptions) (now : ℕ) (old : Client) (q : Query) (reply : Reply) (mid new : Client) (wanted : Query) → old.handle.wanted ≡ None
    → mid.handle.wanted ≡ Some wanted → (answers : Answers gives options now old q reply mid) → new.cache ≡ mid.cache → new.handle ≡ record mid.handle { wanted = None }
    → new.preserve_intermediates ≡ mid.preserve_intermediates → Settles old.handle.known old.cache answers.asks reply mid.cache mid.handle
    → Comes options now old q (Asks wanted) new
asks options now old q reply mid new wanted w some answers cache-is handle-is settings-is (all_are_known all same) =
    let bad : mid.handle.wanted ≡ None = ap (λ (s : AnsweredState). s.wanted) same in absurd (cc)
asks options now old q reply mid new wanted w some answers cache-is handle-is settings-is (last_is_wanted front x is all unknown state ran-out unchanged) =
    let both : mid.handle.wanted ≡ Some x = ap (λ (s : AnsweredState). s.wanted) state in
    let same : x ≡ wanted = cc in
    record {
      comes = (
        record {
          asks = front;
          are_known = all;
          is_unknown = subst (λ (y : Query). outcome_for old.handle.known y ≡ None) same unknown;
          looks = stops-at (lookup_settings old options) now old.cache mid.cache q answers.asks front x wanted reply is same ran-out unchanged answers.looks;
        },
        cache-is ∙ unchanged,
      );
      same_handle = same-handle old.handle mid.handle new.handle w (ap (λ (s : AnsweredState). s.known) state) handle-is;
      same_settings = settings-is ∙ answers.settings;
    }

-- a lookup goes on to ask the question that is wanted
pub asks-next : (options : DnsRequestOptions) (now : ℕ) (old : Client) (q : Query) (reply : Reply) (mid new : Client) (wanted : Query) → old.handle.wanted ≡ None
    → mid.handle.wanted ≡ Some wanted → Answers gives options now old q reply mid → new.cache ≡ mid.cache → new.handle ≡ record mid.handle { wanted = None }
    → new.preserve_intermediates ≡ mid.preserve_intermediates → Comes options now old q (Asks wanted) new
asks-next options now old q reply mid new wanted w some answers cache-is handle-is settings-is =
    asks options now old q reply mid new wanted w some answers cache-is handle-is settings-is (settled options now old q reply mid w answers)
