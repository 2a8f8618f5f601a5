-- What a reply that bears a claim out makes of a step.
use Rattle.std.proofs.Common.{◌≡◌, ℕ, ◌==◌, ◌&&◌, ◌||◌, ◌++◌, not, Bool, true, false, cond, List, [], ◌∷◌, map, filter, Ok, All, refl, sym, ap, subst, ◌∙◌, ◌⊎◌, inl, inr, slice_index_or}
use Rattle.std.proofs.lemmas.Bool.{cond_both, not-true}
use Rattle.std.proofs.lemmas.List.Elements.{All-nil, All-append, All-filter, All-map, filter_passes}
use Rattle.dns_wire.specs.codes.RecordType.{type_number}
use Rattle.dns_wire.specs.declared.codes.record_type.RecordType.{RecordType}
use Rattle.dns_wire.specs.declared.codes.record_type.RecordType.TheVariants as types
use Rattle.dns_data.specs.rdata.{data_type}
use Rattle.dns_records.specs.Record.{Record}
use Rattle.dns_messages.specs.Message.{all_records, is_without_dnssec, strip_for, stripped}
use Rattle.dns_messages.specs.Response.{has_type, is_empty}
use Rattle.dns_messages.specs.declared.message.Message.{Message}
use Rattle.dns_messages.specs.declared.query.Query.{Query}
use Rattle.dns_messages.specs.declared.response.DnsResponse.{DnsResponse}
use Rattle.stub_cache.specs.Ttl.{TtlConfigContent, clamped_record}
use Rattle.stub_client.specs.Handle.{Ask, Outcome}
use Rattle.stub_client.specs.Laws.{BearsOut, BearsOutClosely, EachOf, Outlasts, EachReply}
use Rattle.stub_client.specs.Step.{asks_for_aliases, chain_of, chain_over, chain_start, given_answers, has_class, is_end_found, is_found, is_given, is_kept_alias, is_selected, kept_aliases, lowered, meaning, next_question, selected_answers, step_along, step_of, with_question}
use Rattle.stub_client.specs.declared.caching_client.step.LookupSettings.{LookupSettings}
use Rattle.stub_client.specs.declared.caching_client.step.Step.{Step}
use Rattle.stub_client.specs.declared.caching_client.step.Step.TheVariants.{Gives, Misses, Stops, Follows}
use Rattle.stub_client.proofs.RecordsLaws.{clamped-lowered, each-filter, each-weaker, equal-numbers, numbers-equal, or-left}
use Rattle.stub_client.proofs.StepCases.{both-true, outcome-cases, reply-cases}

-- kept aliases are aliases; there are none for a question for aliases, and none where aliases are not preserved
abbrev pub AreKept : LookupSettings → Query → List Record → Type 0
AreKept settings q kept =
    All (λ r. has_type types.CNAME r ≡ true) kept × (type_number q.query_type ≡ 5 → kept ≡ []) × (settings.preserve_intermediates ≡ false → kept ≡ [])

pub no-aliases : (settings : LookupSettings) (q : Query) → AreKept settings q []
no-aliases settings q = (All-nil (λ r. has_type types.CNAME r ≡ true), λ e. refl, λ e. refl)

-- the claim holds of the answers of a step, and holds at the question if it does at the end of the aliases
abbrev pub StepHolds : (Query → ℕ → Record → Type 0) → LookupSettings → TtlConfigContent → ℕ → Query → Step → Type 0
StepHolds holds settings config now q (Gives m) = EachOf q.query_type (λ r. holds q now (clamped_record config r)) m.answers
StepHolds holds settings config now q (Misses answer) = Unit {0}
StepHolds holds settings config now q (Stops error) = Unit {0}
StepHolds holds settings config now q (Follows target kept) =
    (target.query_type ≡ q.query_type) × AreKept settings target kept
    × ((r : Record) → has_type q.query_type r ≡ true → holds target now r → holds q now r)

-- ---- tests

either-true : (a b : Bool) → a || b ≡ true → (a ≡ true) ⊎ (b ≡ true)
either-true true b h = inl refl
either-true false b h = inr h

off-and : (a b : Bool) → a ≡ false → a && b ≡ false
off-and true b h = absurd (cc)
off-and false b h = refl

-- ---- kept aliases

pub is-alias : (settings : LookupSettings) (q : Query) (r : Record) → is_kept_alias settings q r ≡ true → has_type types.CNAME r ≡ true
is-alias settings q r h =
    (both-true (has_class q r) (has_type types.CNAME r)
    (both-true settings.preserve_intermediates (has_class q r && has_type types.CNAME r) h).1).1

nothing-passes : (p : Record → Bool) → ((r : Record) → p r ≡ false) → (rs : List Record) → filter p rs ≡ []
nothing-passes p f [] = refl
nothing-passes p f (r ∷ rs) =
    cond_both (p r) (r ∷ filter p rs) (filter p rs) (λ xs. xs ≡ [])
    (λ passes. absurd (let clash : true ≡ false = sym passes ∙ f r in cc)) (λ fails. nothing-passes p f rs)

append-nothing : (xs ys : List Record) (f : Record → Record) → xs ≡ [] → ys ≡ [] → xs ++ map f ys ≡ []
append-nothing xs ys f h i =
    ap (λ (zs : List Record). zs ++ map f ys) h ∙ ap (λ (zs : List Record). map f zs) i

-- where aliases are not preserved, none are kept
pub none-kept : (settings : LookupSettings) (q : Query) (m : Message) (kept : List Record) → settings.preserve_intermediates ≡ false → kept ≡ []
    → kept_aliases settings q (chain_of q m) kept m ≡ []
none-kept settings q m kept off none =
    append-nothing kept (filter (is_kept_alias settings q) (all_records m)) (lowered (chain_of q m).ttl) none
    (nothing-passes (is_kept_alias settings q) (λ r. off-and settings.preserve_intermediates (has_class q r && has_type types.CNAME r) off)
    (all_records m))

chain-is-none : (b : Bool) (q : Query) (rs : List Record) → b ≡ true → (cond b (chain_start q) (chain_over (chain_start q) rs)).is_alias ≡ true → ⊥
chain-is-none true q rs h i = cc
chain-is-none false q rs h i = cc

-- a question for aliases follows none
chain-not-alias : (q : Query) (m : Message) → (chain_of q m).is_alias ≡ true → type_number q.query_type ≡ 5 → ⊥
chain-not-alias q m h e =
    chain-is-none (asks_for_aliases q) q m.answers
    (or-left (type_number q.query_type == 5) (type_number q.query_type == 255) (numbers-equal (type_number q.query_type) 5 e)) h

kept-next : (settings : LookupSettings) (q : Query) (kept : List Record) (m : Message) → (chain_of q m).is_alias ≡ true
    → AreKept settings q kept → AreKept settings (next_question q (chain_of q m)) (kept_aliases settings q (chain_of q m) kept m)
kept-next settings q kept m alias are =
    let some = filter (is_kept_alias settings q) (all_records m) in
    let passed = filter_passes (is_kept_alias settings q) (all_records m) in
    let aliases : All (λ r. has_type types.CNAME r ≡ true) (map (lowered (chain_of q m).ttl) some) =
    All-map (λ r. has_type types.CNAME r ≡ true) (lowered (chain_of q m).ttl) some
    (λ k d less. is-alias settings q (slice_index_or some k d) (passed k d less)) in (
      All-append (λ r. has_type types.CNAME r ≡ true) kept (map (lowered (chain_of q m).ttl) some) are.0 aliases,
      λ e. absurd (chain-not-alias q m alias e),
      λ off. none-kept settings q m kept off (are.2 off),
    )

selected-not-alias : (settings : LookupSettings) (q : Query) (kept : List Record) (m : Message) → AreKept settings q kept
    → is_selected settings q (chain_of q m) kept m ≡ true → type_number q.query_type ≡ 5 → ⊥
selected-not-alias settings q kept m are h e =
    let more : Bool = is_end_found q (chain_of q m) m && not settings.preserve_intermediates in
    elim (either-true (not (is_empty kept)) ((chain_of q m).is_alias && more) h) [
      | inl some ↦
          (let empty : is_empty kept ≡ true = ap (λ (rs : List Record). is_empty rs) (are.1 e) in
          let clash : true ≡ false = sym empty ∙ not-true (is_empty kept) some in cc)
      | inr alias ↦ chain-not-alias q m (both-true (chain_of q m).is_alias more alias).0 e
    ]

-- ---- stripped answers

strip-holds : (kind : RecordType) (P : Record → Type 0) (qs : List Query) (m : Message) → EachOf kind P m.answers → EachOf kind P (strip_for qs m).answers
strip-holds kind P [] m h = h
strip-holds kind P (q ∷ qs) m h = All-filter (is_without_dnssec q.query_type) (λ r. has_type kind r ≡ true → P r) m.answers h

stripped-holds : (kind : RecordType) (P : Record → Type 0) (dnssec_ok : Bool) (m : Message) → EachOf kind P m.answers
    → EachOf kind P (stripped dnssec_ok m).answers
stripped-holds kind P true m h = h
stripped-holds kind P false m h = strip-holds kind P m.queries m h

-- ---- claims that replies bear out

module _ (P : Query → ℕ → Record → Type 0) (outlasts : Outlasts P) (settings : LookupSettings) (config : TtlConfigContent) (now : ℕ) where
  lowered-holds : (q : Query) (most : ℕ) (r : Record) → P q now (clamped_record config r) → P q now (clamped_record config (lowered most r))
  lowered-holds q most r h =
      outlasts.lowers q now (clamped_record config (lowered most r)).ttl (clamped_record config r) h (clamped-lowered config most r)

  selected-hold : (q : Query) (kept : List Record) (m : Message) → (type_number q.query_type ≡ 5 → ⊥) → AreKept settings q kept
      → BearsOut P config now q m
      → EachOf q.query_type (λ r. P q now (clamped_record config r)) (selected_answers settings q (chain_of q m) kept m)
  selected-hold q kept m other are bears =
      let kind = q.query_type in
      let chain = chain_of q m in
      let C : Record → Type 0 = λ r. P q now (clamped_record config r) in
      let L : Record → Type 0 = λ r. P q now (clamped_record config (lowered chain.ttl r)) in
      let p : Record → Bool = λ r. is_found q chain.name r || is_kept_alias settings q r in
      let T : Record → Type 0 = λ r. p r ≡ true → L r in
      let no-alias : (r : Record) → has_type kind r ≡ true → has_type types.CNAME r ≡ true → ⊥ = λ r typed alias.
      other (sym (equal-numbers (type_number (data_type r.rdata)) (type_number kind) typed)
      ∙ equal-numbers (type_number (data_type r.rdata)) 5 alias) in
      let front : EachOf kind T m.answers = each-weaker kind C T (λ r typed h passes. lowered-holds q chain.ttl r h) m.answers bears.answers in
      let rest : EachOf kind T (m.authorities ++ m.additionals) =
      each-weaker kind (λ r. is_found q chain.name r ≡ true → C r) T
      (λ r typed h passes. elim (either-true (is_found q chain.name r) (is_kept_alias settings q r) passes) [
        | inl is-found ↦ lowered-holds q chain.ttl r (h is-found)
        | inr alias ↦ absurd (no-alias r typed (is-alias settings q r alias))
      ]) (m.authorities ++ m.additionals) bears.others in
      All-append (λ r. has_type kind r ≡ true → C r) kept (map (lowered chain.ttl) (filter p (all_records m)))
      (λ k d less typed. absurd (no-alias (slice_index_or kept k d) typed (are.0 k d less)))
      (All-map (λ r. has_type kind r ≡ true → C r) (lowered chain.ttl) (filter p (all_records m))
      (each-filter kind L p (all_records m)
      (All-append (λ r. has_type kind r ≡ true → T r) m.answers (m.authorities ++ m.additionals) front rest)))

  given-hold : (q : Query) (kept : List Record) (m : Message) → AreKept settings q kept → BearsOut P config now q m
      → EachOf q.query_type (λ r. P q now (clamped_record config r)) (given_answers settings q (chain_of q m) kept m)
  given-hold q kept m are bears =
      cond_both (is_selected settings q (chain_of q m) kept m) (selected_answers settings q (chain_of q m) kept m) m.answers
      (EachOf q.query_type (λ r. P q now (clamped_record config r)))
      (λ selected. selected-hold q kept m (selected-not-alias settings q kept m are selected) are bears)
      (λ whole. bears.answers)

  reply-holds : (q : Query) (kept : List Record) (depth : ℕ) (m : Message) → AreKept settings q kept → BearsOut P config now q m
      → StepHolds P settings config now q (step_along settings q (chain_of q m) kept depth m)
  reply-holds q kept depth m are bears =
      reply-cases settings q kept depth (StepHolds P settings config now q) m
      (λ given. stripped-holds q.query_type (λ r. P q now (clamped_record config r)) settings.dnssec_ok
      (record (with_question q m) { answers = given_answers settings q (chain_of q m) kept m }) (given-hold q kept m are bears))
      (λ not-given ends. tt)
      (λ not-given no-end alias above. (refl, kept-next settings q kept m alias are, bears.along no-end alias))
      tt

  step-holds : (q : Query) (kept : List Record) (depth : ℕ) (outcome : Outcome) → AreKept settings q kept
      → ((response : DnsResponse) → meaning outcome ≡ Ok response → BearsOut P config now q response.message)
      → StepHolds P settings config now q (step_of settings q kept depth outcome)
  step-holds q kept depth outcome are bears =
      outcome-cases settings q kept depth (StepHolds P settings config now q) (meaning outcome)
      (λ response is. reply-holds q kept depth response.message are (bears response is)) (λ answer. tt) (λ error failure is. tt)

-- ---- where aliases are not preserved

module _ (P : Query → ℕ → Record → Type 0) (settings : LookupSettings) (off : settings.preserve_intermediates ≡ false) (config : TtlConfigContent) (now : ℕ) where
  close-given : (q : Query) (m : Message) → is_given q (chain_of q m) [] m ≡ true → BearsOutClosely P settings config now q m
      → EachOf q.query_type (λ r. P q now (clamped_record config r)) (given_answers settings q (chain_of q m) [] m)
  close-given q m given bears =
      let kind = q.query_type in
      let chain = chain_of q m in
      let C : Record → Type 0 = λ r. P q now (clamped_record config r) in
      let L : Record → Type 0 = λ r. P q now (clamped_record config (lowered chain.ttl r)) in
      let p : Record → Bool = λ r. is_found q chain.name r || is_kept_alias settings q r in
      cond_both (is_selected settings q chain [] m) (selected_answers settings q chain [] m) m.answers (EachOf kind C)
      (λ selected. All-map (λ r. has_type kind r ≡ true → C r) (lowered chain.ttl) (filter p (all_records m))
      (each-filter kind L p (all_records m)
      (each-weaker kind (λ r. is_found q chain.name r ≡ true → L r) (λ r. p r ≡ true → L r)
      (λ r typed h passes. elim (either-true (is_found q chain.name r) (is_kept_alias settings q r) passes) [
        | inl is-found ↦ h is-found
        | inr alias ↦
            (let clash : true ≡ false =
            sym alias ∙ off-and settings.preserve_intermediates (has_class q r && has_type types.CNAME r) off in cc)
      ]) (all_records m) (bears.selected given selected))))
      (λ whole. bears.whole given whole)

  close-reply : (q : Query) (depth : ℕ) (m : Message) → AreKept settings q [] → BearsOutClosely P settings config now q m
      → StepHolds P settings config now q (step_along settings q (chain_of q m) [] depth m)
  close-reply q depth m are bears =
      reply-cases settings q [] depth (StepHolds P settings config now q) m
      (λ given. stripped-holds q.query_type (λ r. P q now (clamped_record config r)) settings.dnssec_ok
      (record (with_question q m) { answers = given_answers settings q (chain_of q m) [] m }) (close-given q m given bears))
      (λ not-given ends. tt)
      (λ not-given no-end alias above. (refl, kept-next settings q [] m alias are, bears.along not-given no-end alias))
      tt

  close-step : (q : Query) (kept : List Record) (depth : ℕ) (outcome : Outcome) → AreKept settings q kept
      → ((response : DnsResponse) → meaning outcome ≡ Ok response → BearsOutClosely P settings config now q response.message)
      → StepHolds P settings config now q (step_of settings q kept depth outcome)
  close-step q kept depth outcome are bears =
      let none : kept ≡ [] = are.2 off in
      subst (λ (ks : List Record). StepHolds P settings config now q (step_of settings q ks depth outcome)) (sym none)
      (outcome-cases settings q [] depth (StepHolds P settings config now q) (meaning outcome)
      (λ response is. close-reply q depth response.message (subst (AreKept settings q) none are) (bears response is))
      (λ answer. tt) (λ error failure is. tt))

-- ---- all outcomes

-- each outcome leads to a step of which the claim holds, whatever is kept and however deep
abbrev pub AllStepsHold : (Query → ℕ → Record → Type 0) → LookupSettings → TtlConfigContent → ℕ → List Ask → Type 0
AllStepsHold holds settings config now asks =
    All (λ ask. (kept : List Record) (depth : ℕ) → AreKept settings ask.question kept
    → StepHolds holds settings config now ask.question (step_of settings ask.question kept depth ask.outcome)) asks

pub all-steps : (P : Query → ℕ → Record → Type 0) → Outlasts P → (settings : LookupSettings) (config : TtlConfigContent) (now : ℕ) (asks : List Ask)
    → EachReply (BearsOut P config now) asks → AllStepsHold P settings config now asks
all-steps P outlasts settings config now asks h = λ k d less kept depth are.
    step-holds P outlasts settings config now (slice_index_or asks k d).question kept depth (slice_index_or asks k d).outcome are (h k d less)

pub all-steps-closely : (P : Query → ℕ → Record → Type 0) (settings : LookupSettings) → settings.preserve_intermediates ≡ false
    → (config : TtlConfigContent) (now : ℕ) (asks : List Ask)
    → EachReply (BearsOutClosely P settings config now) asks → AllStepsHold P settings config now asks
all-steps-closely P settings off config now asks h = λ k d less kept depth are.
    close-step P settings off config now (slice_index_or asks k d).question kept depth (slice_index_or asks k d).outcome are (h k d less)
