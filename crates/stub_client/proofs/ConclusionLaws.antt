-- Where aliases are not preserved, every lookup comes to what its steps bear out, TTLs aside.
use Rattle.std.proofs.Common.{◌≡◌, ℕ, suc, ◌-◌, nat_le, true, false, List, [], ◌∷◌, map, Option, Some, None, Ok, Err, All, IfSome, refl, sym, ap, subst, inl, inr}
use Rattle.std.specs.List.{find}
use Rattle.std.proofs.lemmas.List.Elements.{All-head, All-tail}
use Rattle.dns_records.specs.Record.{Record, after_seconds}
use Rattle.dns_messages.specs.declared.query.Query.{Query}
use Rattle.dns_messages.specs.declared.response_code.ResponseCode.{ResponseCode}
use Rattle.stub_lookup.specs.declared.error.DnsError.TheVariants as dns
use Rattle.stub_lookup.specs.declared.error.NetError.TheVariants as errors
use Rattle.stub_cache.specs.Cache.{CacheContent, Kept, aged, current, entry_of, is_about, is_current, same_key, storing}
use Rattle.stub_cache.specs.Ttl.{TtlConfigContent, clamped_record}
use Rattle.stub_cache.specs.declared.cache.entry.Entry.{Entry}
use Rattle.stub_client.specs.Handle.{Ask, Outcome}
use Rattle.stub_client.specs.Looks.{IsAnsweredHere, Looks, Proceeds, Reply, Stores, cached_reply, given_reply, kept_of, negative}
use Rattle.stub_client.specs.Conclusions.{AsksComeTo, CacheComesTo, Conclusion, Finds, Lacks, HasSpecialNames, KeptComesTo, ReplyComesTo, Respells, StepComesTo, value_of, values}
use Rattle.stub_client.specs.SpecialNames.{special_answer}
use Rattle.stub_client.specs.Step.{meaning, step_of}
use Rattle.stub_client.specs.declared.caching_client.step.LookupSettings.{LookupSettings}
use Rattle.stub_client.specs.declared.caching_client.step.Step.{Step}
use Rattle.stub_client.specs.declared.caching_client.step.Step.TheVariants.{Gives, Misses, Stops, Follows}
use Rattle.stub_client.specs.declared.special_names.SpecialAnswer.{SpecialAnswer}
use Rattle.stub_client.specs.declared.special_names.SpecialAnswer.TheVariants.{Ordinary, Loopback, Nothing}
use Rattle.stub_client.proofs.ClaimSteps.{none-kept}
use Rattle.stub_client.proofs.EntriesLaws.{all-inserted, found-entry, if-some-map}
use Rattle.stub_client.proofs.StepCases.{both-true, outcome-cases, reply-cases}

-- ---- values

aged-values : (seconds : ℕ) (rs : List Record) → values (map (after_seconds seconds) rs) ≡ values rs
aged-values seconds [] = refl
aged-values seconds (r ∷ rs) = ap (λ (vs : List Record). value_of r ∷ vs) (aged-values seconds rs)

clamped-values : (config : TtlConfigContent) (rs : List Record) → values (map (clamped_record config) rs) ≡ values rs
clamped-values config [] = refl
clamped-values config (r ∷ rs) = ap (λ (vs : List Record). value_of r ∷ vs) (clamped-values config rs)

-- ---- kept aliases

abbrev KeepsNone : Step → Type 0
KeepsNone (Gives m) = Unit {0}
KeepsNone (Misses answer) = Unit {0}
KeepsNone (Stops error) = Unit {0}
KeepsNone (Follows target kept) = kept ≡ []

keeps-none : (settings : LookupSettings) (q : Query) (depth : ℕ) (outcome : Outcome) → settings.preserve_intermediates ≡ false
    → KeepsNone (step_of settings q [] depth outcome)
keeps-none settings q depth outcome off =
    outcome-cases settings q [] depth KeepsNone (meaning outcome)
    (λ response is. reply-cases settings q [] depth KeepsNone response.message (λ given. tt)
    (λ not-given ends. tt) (λ not-given no-end alias above. none-kept settings q response.message [] off refl) tt)
    (λ answer. tt) (λ error failure is. tt)

module _ (R : Query → Conclusion → Type 0) (respells : Respells R) (names : HasSpecialNames R) (Within : ℕ → Query → Type 0) where
  -- ---- what the cache has

  aged-comes : (p q : Query) (seconds : ℕ) (kept : Kept) → KeptComesTo R p kept → same_key p q ≡ true → KeptComesTo R q (aged seconds kept)
  aged-comes p q seconds (Ok m) h same =
      subst (λ (vs : List Record). R q (Finds vs)) (sym (aged-values seconds m.answers)) (respells p q (Finds (values m.answers)) h same)
  aged-comes p q seconds (Err answer) h same = respells p q (Lacks answer.response_code) h same

  current-comes : (now : ℕ) (es : List Entry) (q : Query) → All (λ e. KeptComesTo R e.question e.kept) es
      → IfSome (current es q now) (KeptComesTo R q)
  current-comes now es q h =
      if-some-map (λ e. KeptComesTo R e.question e.kept × (is_current q now e ≡ true)) (KeptComesTo R q) (λ e. aged (now - e.moment) e.kept)
      (λ e found. aged-comes e.question q (now - e.moment) e.kept found.0 (both-true (is_about q e) (nat_le now e.deadline) found.1).0)
      (find (is_current q now) es) (found-entry (λ e. KeptComesTo R e.question e.kept) (is_current q now) es h)

  -- ---- what is stored

  entry-comes : (config : TtlConfigContent) (q : Query) (kept : Kept) (now : ℕ) → KeptComesTo R q kept
      → KeptComesTo R (entry_of config q kept now).question (entry_of config q kept now).kept
  entry-comes config q (Ok m) now h = subst (λ (vs : List Record). R q (Finds vs)) (sym (clamped-values config m.answers)) h
  entry-comes config q (Err answer) now h = h

  reply-may-be-stored : (q : Query) (reply : Reply) → ReplyComesTo R q reply → IfSome (kept_of q reply) (KeptComesTo R q)
  reply-may-be-stored q (Ok lookup) h = h
  reply-may-be-stored q (Err (errors.Dns (dns.NoRecordsFound answer))) h = h
  reply-may-be-stored q (Err (errors.Dns (dns.ResponseCode code))) h = tt
  reply-may-be-stored q (Err (errors.Proto error)) h = tt
  reply-may-be-stored q (Err (errors.Message text)) h = tt
  reply-may-be-stored q (Err (errors.Link fault)) h = tt
  reply-may-be-stored q (Err errors.Unsupported) h = tt
  reply-may-be-stored q (Err errors.Memory) h = tt

  back : (p q : Query) (reply : Reply) → ((conclusion : Conclusion) → R p conclusion → R q conclusion) → ReplyComesTo R p reply
      → ReplyComesTo R q reply
  back p q (Ok lookup) f h = f _ h
  back p q (Err (errors.Dns (dns.NoRecordsFound answer))) f h = f _ h
  back p q (Err (errors.Dns (dns.ResponseCode code))) f h = f _ h
  back p q (Err (errors.Proto error)) f h = tt
  back p q (Err (errors.Message text)) f h = tt
  back p q (Err (errors.Link fault)) f h = tt
  back p q (Err errors.Unsupported) f h = tt
  back p q (Err errors.Memory) f h = tt

  abbrev Comes : Query → Reply → CacheContent → Type 0
  Comes q reply new = CacheComesTo R new × ReplyComesTo R q reply

  stored-comes : (now : ℕ) (old : CacheContent) (q : Query) (kept : Kept) (new : CacheContent) → CacheComesTo R old → KeptComesTo R q kept
      → new ≡ storing old q kept now → CacheComesTo R new
  stored-comes now old q kept new holds told e =
      subst (CacheComesTo R) (sym e)
      (all-inserted (λ x. KeptComesTo R x.question x.kept) old.capacity old.entries (entry_of old.config q kept now) holds
      (entry-comes old.config q kept now told))

  stores-come : (now : ℕ) (old : CacheContent) (q : Query) (o : Option Kept) (given reply : Reply) (new : CacheContent)
      → CacheComesTo R old → IfSome o (KeptComesTo R q) → ReplyComesTo R q given → Stores now old q o given reply new → Comes q reply new
  stores-come now old q None given reply new holds option told h =
      (subst (CacheComesTo R) (sym h.1) holds, subst (ReplyComesTo R q) (sym h.0) told)
  stores-come now old q (Some kept) given reply new holds option told (inl h) =
      (stored-comes now old q kept new holds option h.1, subst (ReplyComesTo R q) (sym h.0) told)
  stores-come now old q (Some kept) given reply new holds option told (inr h) = (
    elim h.1 [
      | inl e ↦ subst (CacheComesTo R) (sym e) holds
      | inr e ↦ stored-comes now old q kept new holds option e
    ],
    subst (ReplyComesTo R q) (sym h.0) tt,
  )

  -- ---- lookups

  proceeds-come : (next : Query → List Record → Reply → CacheContent → Type 0) (now depth : ℕ) (old : CacheContent) (q : Query) (step : Step)
      (asks : List Ask) (reply : Reply) (new : CacheContent)
      → ((target : Query) (inner : Reply) (mid : CacheContent) → Within (suc depth) target → next target [] inner mid → Comes target inner mid)
      → CacheComesTo R old → KeepsNone step → StepComesTo R Within depth q step → Proceeds next now old q step asks reply new
      → Comes q reply new
  proceeds-come next now depth old q (Gives m) asks reply new rest holds none told h =
      stores-come now old q (Some (Ok m)) (given_reply old.config now q m) reply new holds told
      (subst (λ (vs : List Record). R q (Finds vs)) (sym (clamped-values old.config m.answers)) told) h.1
  proceeds-come next now depth old q (Misses answer) asks reply new rest holds none told h =
      stores-come now old q (Some (Err answer)) (negative answer) reply new holds told told h.1
  proceeds-come next now depth old q (Stops error) asks reply new rest holds none told h =
      (subst (CacheComesTo R) (sym h.2) holds, subst (ReplyComesTo R q) (sym h.1) told)
  proceeds-come next now depth old q (Follows target kept) asks reply new rest holds none told h =
      let inner = rest target h.0 h.1 told.0 (subst (λ (ks : List Record). next target ks h.0 h.1) none h.2) in
      let at-question = back target q h.0 told.1 inner.1 in
      stores-come now h.1 q (kept_of q h.0) h.0 reply new inner.0 (reply-may-be-stored q h.0 at-question) at-question h.3

  cached-comes : (q : Query) (now : ℕ) (kept : Kept) → KeptComesTo R q kept → ReplyComesTo R q (cached_reply now q kept)
  cached-comes q now (Ok m) h = h
  cached-comes q now (Err answer) h = h

  answered-comes : (now : ℕ) (q : Query) (special : SpecialAnswer) (hit : Option Kept) (reply : Reply)
      → ((r : Record) → special ≡ Loopback r → R q (Finds (values (r ∷ []))))
      → ((code : ResponseCode) → special ≡ Nothing code → R q (Lacks code))
      → IfSome hit (KeptComesTo R q) → IsAnsweredHere now q special hit reply → ReplyComesTo R q reply
  answered-comes now q (Loopback r) hit reply f g k h = subst (ReplyComesTo R q) (sym h) (f r refl)
  answered-comes now q (Nothing code) hit reply f g k h = subst (ReplyComesTo R q) (sym h) (g code refl)
  answered-comes now q Ordinary (Some kept) reply f g k h = subst (ReplyComesTo R q) (sym h) (cached-comes q now kept k)
  answered-comes now q Ordinary None reply f g k h = absurd h

  -- Every lookup comes to what its steps bear out.
  pub lookup-comes : (settings : LookupSettings) (now depth : ℕ) (old : CacheContent) (q : Query) (asks : List Ask) (reply : Reply)
      (new : CacheContent)
      → settings.preserve_intermediates ≡ false → Within depth q → CacheComesTo R old → AsksComeTo R Within settings asks
      → Looks settings now depth [] old q asks reply new → Comes q reply new
  lookup-comes settings now depth old q [] reply new off within holds bears h = (
    subst (CacheComesTo R) (sym h.0) holds,
    elim h.1 [
      | inl memory ↦ subst (ReplyComesTo R q) (sym memory) tt
      | inr answered ↦ answered-comes now q (special_answer q) (current old.entries q now) reply (λ r e. names.loopback q r e)
          (λ code e. names.nothing q code e) (current-comes now old.entries q holds) answered
    ],
  )
  lookup-comes settings now depth old q (ask ∷ asks) reply new off within holds bears h =
      let Each : Ask → Type 0 = λ a. (depth : ℕ) → Within depth a.question
      → StepComesTo R Within depth a.question (step_of settings a.question [] depth a.outcome) in
      elim h.3 [
        | inl memory ↦ (subst (CacheComesTo R) (sym memory.3) holds, subst (ReplyComesTo R q) (sym memory.2) tt)
        | inr goes ↦
            proceeds-come (λ target aliases inner mid. Looks settings now (suc depth) aliases old target asks inner mid) now depth old q
            (step_of settings q [] depth ask.outcome) asks reply new
            (λ target inner mid within looks. lookup-comes settings now (suc depth) old target asks inner mid off within holds
            (All-tail Each ask asks bears) looks)
            holds (keeps-none settings q depth ask.outcome off)
            (subst (λ (p : Query). Within depth p → StepComesTo R Within depth p (step_of settings p [] depth ask.outcome)) h.0
            (All-head Each ask asks bears depth) within) goes
      ]
