-- The types of answers: that of the question, and aliases.
use Rattle.std.proofs.Common.{◌≡◌, ℕ, suc, ◌-◌, ◌==◌, ◌&&◌, ◌||◌, nat_le, Bool, true, false, List, [], ◌∷◌, map, filter, Option, Some, None, Ok, Err, All, IfSome, refl, sym, ap, subst, ◌⊎◌, inl, inr}
use Rattle.std.specs.List.{find}
use Rattle.std.proofs.lemmas.Bool.{cond_both}
use Rattle.std.proofs.lemmas.List.Elements.{All-nil, All-cons, All-head, All-tail, All-append, All-filter, All-map, All-weaker, filter_passes}
use Rattle.dns_wire.specs.codes.DNSClass.{class_number, class_of}
use Rattle.dns_wire.specs.codes.RecordType.{type_number, type_of}
use Rattle.dns_wire.specs.declared.codes.dns_class.DNSClass.{DNSClass}
use Rattle.dns_wire.specs.declared.codes.dns_class.DNSClass.TheVariants as classes
use Rattle.dns_wire.specs.declared.codes.record_type.RecordType.{RecordType}
use Rattle.dns_wire.specs.declared.codes.record_type.RecordType.TheVariants as types
use Rattle.dns_names.specs.Compare.{same_name}
use Rattle.dns_names.specs.Name.{DomainName}
use Rattle.dns_text.specs.Usage.{is_loopback, is_nonexistent}
use Rattle.dns_data.specs.declared.rdata.RData.{RData}
use Rattle.dns_data.specs.rdata.{data_type}
use Rattle.dns_records.specs.Record.{Record, after_seconds}
use Rattle.dns_messages.specs.Message.{all_records, is_without_dnssec, strip_for, stripped}
use Rattle.dns_messages.specs.Response.{has_type}
use Rattle.dns_messages.specs.declared.message.Message.{Message}
use Rattle.dns_messages.specs.declared.query.Query.{Query}
use Rattle.dns_messages.specs.declared.response.DnsResponse.{DnsResponse}
use Rattle.dns_messages.specs.declared.response_code.ResponseCode.TheVariants.{NXDomain}
use Rattle.stub_lookup.specs.declared.error.DnsError.TheVariants as dns
use Rattle.stub_lookup.specs.declared.error.NetError.TheVariants as errors
use Rattle.stub_cache.specs.Cache.{CacheContent, Kept, aged, current, entry_of, is_about, is_current, same_key, storing}
use Rattle.stub_cache.specs.Ttl.{TtlConfigContent, clamped_record}
use Rattle.stub_cache.specs.declared.cache.entry.Entry.{Entry}
use Rattle.stub_client.specs.AnswerTypes.{CacheHasAskedTypes, HasAskedTypes, KeptHasAskedTypes, ReplyHasAskedTypes, is_asked_or_alias}
use Rattle.stub_client.specs.Handle.{Ask, Outcome}
use Rattle.stub_client.specs.Laws.{EachReply}
use Rattle.stub_client.specs.Looks.{IsAnsweredHere, Looks, Proceeds, Reply, Stores, cached_reply, given_reply, kept_of, negative}
use Rattle.stub_client.specs.SpecialNames.{in_class, loopback_answer, loopback_data, name_answer, special_answer}
use Rattle.stub_client.specs.Step.{asks_for, chain_of, given_answers, has_class, is_at_either, is_found, is_kept_alias, is_selected, kept_aliases, lowered, meaning, selected_answers, step_of, with_question}
use Rattle.stub_client.specs.declared.caching_client.step.LookupSettings.{LookupSettings}
use Rattle.stub_client.specs.declared.caching_client.step.Step.{Step}
use Rattle.stub_client.specs.declared.caching_client.step.Step.TheVariants.{Gives, Misses, Stops, Follows}
use Rattle.stub_client.specs.declared.special_names.SpecialAnswer.{SpecialAnswer}
use Rattle.stub_client.specs.declared.special_names.SpecialAnswer.TheVariants.{Ordinary, Loopback, Nothing}
use Rattle.stub_client.proofs.ClaimSteps.{is-alias}
use Rattle.stub_client.proofs.EntriesLaws.{all-inserted, found-entry, if-some-map}
use Rattle.stub_client.proofs.RecordsLaws.{equal-numbers, numbers-equal, or-left}
use Rattle.stub_client.proofs.StepCases.{both-true, outcome-cases, reply-cases}

-- ---- tests

or-right : (a b : Bool) → b ≡ true → a || b ≡ true
or-right true b h = refl
or-right false b h = h

either : (a b : Bool) → a || b ≡ true → (a ≡ true) ⊎ (b ≡ true)
either true b h = inl refl
either false b h = inr h

abbrev Fits : Query → Record → Type 0
Fits q r = is_asked_or_alias q r ≡ true

alias-fits : (q : Query) (r : Record) → has_type types.CNAME r ≡ true → Fits q r
alias-fits q r alias = or-right (asks_for q r) (has_type types.CNAME r) alias

found-fits : (q : Query) (name : DomainName) (r : Record) → is_found q name r ≡ true → Fits q r
found-fits q name r h =
    or-left (asks_for q r) (has_type types.CNAME r)
    (both-true (asks_for q r) (is_at_either name q r) (both-true (has_class q r) (asks_for q r && is_at_either name q r) h).1).0

-- ---- questions with the same key

same-types : (p q : Query) → same_key p q ≡ true → type_number p.query_type ≡ type_number q.query_type
same-types p q h =
    equal-numbers (type_number p.query_type) (type_number q.query_type)
    (both-true (type_number p.query_type == type_number q.query_type) (class_number p.query_class == class_number q.query_class)
    (both-true (same_name p.name q.name) _ h).1).0

abbrev fits_number : ℕ → Record → Bool
fits_number number r = ((number == 255) || (type_number (data_type r.rdata) == number)) || has_type types.CNAME r

respelled : (p q : Query) → type_number p.query_type ≡ type_number q.query_type → (rs : List Record) → All (Fits p) rs → All (Fits q) rs
respelled p q same rs h = subst (λ (number : ℕ). All (λ r. fits_number number r ≡ true) rs) same h

-- ---- special names

abbrev HasNumber : ℕ → SpecialAnswer → Type 0
HasNumber number (Loopback r) = type_number (data_type r.rdata) ≡ number
HasNumber number (Nothing code) = Unit {0}
HasNumber number Ordinary = Unit {0}

data-has-type : (kind : RecordType) → IfSome (loopback_data kind) (λ rdata. data_type rdata ≡ kind)
data-has-type types.A = refl
data-has-type types.AAAA = refl
data-has-type types.PTR = refl
data-has-type other = tt

loopback-number : (name : DomainName) (kind : RecordType) (o : Option RData) → IfSome o (λ rdata. data_type rdata ≡ kind)
    → HasNumber (type_number kind) (loopback_answer name o)
loopback-number name kind None h = tt
loopback-number name kind (Some rdata) h = ap (λ (k : RecordType). type_number k) h

name-number : (name : DomainName) (kind : RecordType) → HasNumber (type_number kind) (name_answer name kind)
name-number name kind =
    cond_both (is_loopback name) (loopback_answer name (loopback_data kind)) _ (HasNumber (type_number kind))
    (λ local. loopback-number name kind (loopback_data kind) (data-has-type kind))
    (λ other. cond_both (is_nonexistent name) (Nothing NXDomain) Ordinary (HasNumber (type_number kind)) (λ none. tt) (λ ordinary. tt))

class-number : (number : ℕ) (class : DNSClass) (answer : SpecialAnswer) → HasNumber number answer → HasNumber number (in_class class answer)
class-number number classes.IN answer h = h
class-number number other answer h = tt

special-number : ((number : ℕ) → type_number (type_of number) ≡ number) → (q : Query)
    → HasNumber (type_number q.query_type) (special_answer q)
special-number round q =
    let kind = type_of (type_number q.query_type) in
    subst (λ (number : ℕ). HasNumber number (special_answer q)) (round (type_number q.query_type))
    (class-number (type_number kind) (class_of (class_number q.query_class)) (name_answer q.name kind) (name-number q.name kind))

number-fits : (q : Query) (r : Record) → type_number (data_type r.rdata) ≡ type_number q.query_type → Fits q r
number-fits q r same =
    or-left (asks_for q r) (has_type types.CNAME r)
    (or-right (type_number q.query_type == 255) (has_type q.query_type r)
    (numbers-equal (type_number (data_type r.rdata)) (type_number q.query_type) same))

-- ---- what the cache has

aged-fits : (p q : Query) (seconds : ℕ) (kept : Kept) → KeptHasAskedTypes p kept → same_key p q ≡ true → KeptHasAskedTypes q (aged seconds kept)
aged-fits p q seconds (Ok m) h same =
    All-map (Fits q) (after_seconds seconds) m.answers (respelled p q (same-types p q same) m.answers h)
aged-fits p q seconds (Err answer) h same = tt

current-fits : (now : ℕ) (es : List Entry) (q : Query) → All (λ e. KeptHasAskedTypes e.question e.kept) es
    → IfSome (current es q now) (KeptHasAskedTypes q)
current-fits now es q h =
    if-some-map (λ e. KeptHasAskedTypes e.question e.kept × (is_current q now e ≡ true)) (KeptHasAskedTypes q)
    (λ e. aged (now - e.moment) e.kept)
    (λ e found. aged-fits e.question q (now - e.moment) e.kept found.0 (both-true (is_about q e) (nat_le now e.deadline) found.1).0)
    (find (is_current q now) es) (found-entry (λ e. KeptHasAskedTypes e.question e.kept) (is_current q now) es h)

-- ---- what is stored

entry-fits : (config : TtlConfigContent) (q : Query) (kept : Kept) (now : ℕ) → KeptHasAskedTypes q kept
    → KeptHasAskedTypes (entry_of config q kept now).question (entry_of config q kept now).kept
entry-fits config q (Ok m) now h = All-map (Fits q) (clamped_record config) m.answers h
entry-fits config q (Err answer) now h = h

reply-may-be-stored : (q : Query) (reply : Reply) → ReplyHasAskedTypes q reply → IfSome (kept_of q reply) (KeptHasAskedTypes q)
reply-may-be-stored q (Ok lookup) h = h
reply-may-be-stored q (Err (errors.Dns (dns.NoRecordsFound answer))) h = tt
reply-may-be-stored q (Err (errors.Dns (dns.ResponseCode code))) h = tt
reply-may-be-stored q (Err (errors.Proto error)) h = tt
reply-may-be-stored q (Err (errors.Message text)) h = tt
reply-may-be-stored q (Err (errors.Link fault)) h = tt
reply-may-be-stored q (Err errors.Unsupported) h = tt
reply-may-be-stored q (Err errors.Memory) h = tt

back : (p q : Query) (reply : Reply) → type_number p.query_type ≡ type_number q.query_type → ReplyHasAskedTypes p reply → ReplyHasAskedTypes q reply
back p q (Ok lookup) same h = respelled p q same lookup.message.answers h
back p q (Err error) same h = tt

abbrev AreFit : Query → Reply → CacheContent → Type 0
AreFit q reply new = CacheHasAskedTypes new × ReplyHasAskedTypes q reply

stored-fits : (now : ℕ) (old : CacheContent) (q : Query) (kept : Kept) (new : CacheContent) → CacheHasAskedTypes old → KeptHasAskedTypes q kept
    → new ≡ storing old q kept now → CacheHasAskedTypes new
stored-fits now old q kept new holds fits e =
    subst CacheHasAskedTypes (sym e)
    (all-inserted (λ x. KeptHasAskedTypes x.question x.kept) old.capacity old.entries (entry_of old.config q kept now) holds
    (entry-fits old.config q kept now fits))

stores-fit : (now : ℕ) (old : CacheContent) (q : Query) (o : Option Kept) (given reply : Reply) (new : CacheContent)
    → CacheHasAskedTypes old → IfSome o (KeptHasAskedTypes q) → ReplyHasAskedTypes q given → Stores now old q o given reply new
    → AreFit q reply new
stores-fit now old q None given reply new holds option fits h =
    (subst CacheHasAskedTypes (sym h.1) holds, subst (ReplyHasAskedTypes q) (sym h.0) fits)
stores-fit now old q (Some kept) given reply new holds option fits (inl h) =
    (stored-fits now old q kept new holds option h.1, subst (ReplyHasAskedTypes q) (sym h.0) fits)
stores-fit now old q (Some kept) given reply new holds option fits (inr h) = (
  elim h.1 [
    | inl e ↦ subst CacheHasAskedTypes (sym e) holds
    | inr e ↦ stored-fits now old q kept new holds option e
  ],
  subst (ReplyHasAskedTypes q) (sym h.0) tt,
)

-- ---- steps

abbrev AreAliases : List Record → Type 0
AreAliases kept = All (λ r. has_type types.CNAME r ≡ true) kept

abbrev StepFits : Query → Step → Type 0
StepFits q (Gives m) = HasAskedTypes q m
StepFits q (Misses answer) = Unit {0}
StepFits q (Stops error) = Unit {0}
StepFits q (Follows target kept) = (type_number target.query_type ≡ type_number q.query_type) × AreAliases kept

strip-fits : (q : Query) (ps : List Query) (m : Message) → HasAskedTypes q m → HasAskedTypes q (strip_for ps m)
strip-fits q [] m h = h
strip-fits q (p ∷ ps) m h = All-filter (is_without_dnssec p.query_type) (Fits q) m.answers h

stripped-fits : (q : Query) (dnssec_ok : Bool) (m : Message) → HasAskedTypes q m → HasAskedTypes q (stripped dnssec_ok m)
stripped-fits q true m h = h
stripped-fits q false m h = strip-fits q m.queries m h

module _ (settings : LookupSettings) (q : Query) (kept : List Record) (are : AreAliases kept) where
  given-fits : (m : Message) → HasAskedTypes q m → All (Fits q) (given_answers settings q (chain_of q m) kept m)
  given-fits m h =
      let chain = chain_of q m in
      let p : Record → Bool = λ r. is_found q chain.name r || is_kept_alias settings q r in
      cond_both (is_selected settings q chain kept m) (selected_answers settings q chain kept m) m.answers (All (Fits q))
      (λ selected. All-append (Fits q) kept (map (lowered chain.ttl) (filter p (all_records m)))
      (All-weaker (λ r. has_type types.CNAME r ≡ true) (Fits q) (alias-fits q) kept are)
      (All-map (Fits q) (lowered chain.ttl) (filter p (all_records m))
      (All-weaker (λ r. p r ≡ true) (Fits q)
      (λ r passes. elim (either (is_found q chain.name r) (is_kept_alias settings q r) passes) [
        | inl there ↦ found-fits q chain.name r there
        | inr alias ↦ alias-fits q r (is-alias settings q r alias)
      ]) (filter p (all_records m)) (filter_passes p (all_records m)))))
      (λ whole. h)

  kept-fit : (m : Message) → AreAliases (kept_aliases settings q (chain_of q m) kept m)
  kept-fit m =
      let some = filter (is_kept_alias settings q) (all_records m) in
      All-append (λ r. has_type types.CNAME r ≡ true) kept (map (lowered (chain_of q m).ttl) some) are
      (All-map (λ r. has_type types.CNAME r ≡ true) (lowered (chain_of q m).ttl) some
      (All-weaker (λ r. is_kept_alias settings q r ≡ true) (λ r. has_type types.CNAME r ≡ true) (is-alias settings q) some
      (filter_passes (is_kept_alias settings q) (all_records m))))

  step-fits : (depth : ℕ) (outcome : Outcome)
      → ((response : DnsResponse) → meaning outcome ≡ Ok response → HasAskedTypes q response.message)
      → StepFits q (step_of settings q kept depth outcome)
  step-fits depth outcome bears =
      outcome-cases settings q kept depth (StepFits q) (meaning outcome)
      (λ response is. (let m = response.message in
      reply-cases settings q kept depth (StepFits q) m
      (λ given. stripped-fits q settings.dnssec_ok
      (record (with_question q m) { answers = given_answers settings q (chain_of q m) kept m }) (given-fits m (bears response is)))
      (λ not-given ends. tt) (λ not-given no-end alias above. (refl, kept-fit m)) tt))
      (λ answer. tt) (λ error failure is. tt)

-- ---- lookups

proceeds-fit : (next : Query → List Record → Reply → CacheContent → Type 0) (now : ℕ) (old : CacheContent) (q : Query) (step : Step)
    (asks : List Ask) (reply : Reply) (new : CacheContent)
    → ((target : Query) (kept : List Record) (inner : Reply) (mid : CacheContent) → AreAliases kept → next target kept inner mid
    → AreFit target inner mid)
    → CacheHasAskedTypes old → StepFits q step → Proceeds next now old q step asks reply new → AreFit q reply new
proceeds-fit next now old q (Gives m) asks reply new rest holds fits h =
    stores-fit now old q (Some (Ok m)) (given_reply old.config now q m) reply new holds fits
    (All-map (Fits q) (clamped_record old.config) m.answers fits) h.1
proceeds-fit next now old q (Misses answer) asks reply new rest holds fits h =
    stores-fit now old q (Some (Err answer)) (negative answer) reply new holds tt tt h.1
proceeds-fit next now old q (Stops error) asks reply new rest holds fits h =
    (subst CacheHasAskedTypes (sym h.2) holds, subst (ReplyHasAskedTypes q) (sym h.1) tt)
proceeds-fit next now old q (Follows target kept) asks reply new rest holds fits h =
    let inner = rest target kept h.0 h.1 fits.1 h.2 in
    let at-question = back target q h.0 fits.0 inner.1 in
    stores-fit now h.1 q (kept_of q h.0) h.0 reply new inner.0 (reply-may-be-stored q h.0 at-question) at-question h.3

cached-fits : (q : Query) (now : ℕ) (kept : Kept) → KeptHasAskedTypes q kept → ReplyHasAskedTypes q (cached_reply now q kept)
cached-fits q now (Ok m) h = h
cached-fits q now (Err answer) h = tt

answered-fits : (now : ℕ) (q : Query) (special : SpecialAnswer) (hit : Option Kept) (reply : Reply)
    → HasNumber (type_number q.query_type) special → IfSome hit (KeptHasAskedTypes q) → IsAnsweredHere now q special hit reply
    → ReplyHasAskedTypes q reply
answered-fits now q (Loopback r) hit reply same k h =
    subst (ReplyHasAskedTypes q) (sym h) (All-cons (Fits q) r [] (number-fits q r same) (All-nil (Fits q)))
answered-fits now q (Nothing code) hit reply same k h = subst (ReplyHasAskedTypes q) (sym h) tt
answered-fits now q Ordinary (Some kept) reply same k h = subst (ReplyHasAskedTypes q) (sym h) (cached-fits q now kept k)
answered-fits now q Ordinary None reply same k h = absurd h

-- Every lookup has answers of the type that was asked for, and aliases, if each response has.
pub lookup-fits : ((number : ℕ) → type_number (type_of number) ≡ number) → (settings : LookupSettings) (now depth : ℕ) (kept : List Record)
    (old : CacheContent) (q : Query) (asks : List Ask) (reply : Reply) (new : CacheContent)
    → AreAliases kept → CacheHasAskedTypes old → EachReply HasAskedTypes asks → Looks settings now depth kept old q asks reply new
    → AreFit q reply new
lookup-fits round settings now depth kept old q [] reply new are holds bears h = (
  subst CacheHasAskedTypes (sym h.0) holds,
  elim h.1 [
    | inl memory ↦ subst (ReplyHasAskedTypes q) (sym memory) tt
    | inr answered ↦ answered-fits now q (special_answer q) (current old.entries q now) reply (special-number round q)
        (current-fits now old.entries q holds) answered
  ],
)
lookup-fits round settings now depth kept old q (ask ∷ asks) reply new are holds bears h =
    let Each : Ask → Type 0 = λ a. (response : DnsResponse) → meaning a.outcome ≡ Ok response → HasAskedTypes a.question response.message in
    elim h.3 [
      | inl memory ↦ (subst CacheHasAskedTypes (sym memory.3) holds, subst (ReplyHasAskedTypes q) (sym memory.2) tt)
      | inr goes ↦
          proceeds-fit (λ target aliases inner mid. Looks settings now (suc depth) aliases old target asks inner mid) now old q
          (step_of settings q kept depth ask.outcome) asks reply new
          (λ target aliases inner mid are looks. lookup-fits round settings now (suc depth) aliases old target asks inner mid are holds
          (All-tail Each ask asks bears) looks)
          holds
          (step-fits settings q kept are depth ask.outcome
          (subst (λ (p : Query). (response : DnsResponse) → meaning ask.outcome ≡ Ok response → HasAskedTypes p response.message) h.0
          (All-head Each ask asks bears)))
          goes
    ]
