-- Where a zone answers the questions, they come to what their walks come to, and so do lookups.
use Rattle.std.proofs.Common.{◌≡◌, ℕ, ◌≤◌, ◌==◌, Bool, true, false, List, [], Some, None, Ok, Err, All, Contains, unwrap_or, refl, sym, ap, subst, ◌∙◌, slice_index_or, inl, inr, arith}
use Rattle.std.specs.Prelude.{◌⊎◌, ◌≢◌, Option}
use Rattle.std.specs.FinMap as rows_map
use Rattle.std.proofs.lemmas.Bool.{true≢false}
use Rattle.std.proofs.lemmas.List.Elements.{All-contains}
use Rattle.dns_wire.specs.codes.DNSClass.{class_number}
use Rattle.dns_wire.specs.codes.RecordType.{type_number}
use Rattle.dns_wire.specs.declared.codes.dns_class.DNSClass.TheVariants.{IN}
use Rattle.dns_names.specs.Compare.{at_or_below, same_name}
use Rattle.dns_names.specs.Name.{DomainName}
use Rattle.dns_records.specs.Record.{Record}
use Rattle.dns_records.specs.Rows.{Rows}
use Rattle.dns_messages.specs.declared.query.Query.{Query}
use Rattle.dns_messages.specs.declared.response.DnsResponse.{DnsResponse}
use Rattle.dns_zone.specs.Answer.{is_no_row_type}
use Rattle.dns_zone.specs.Rows.{IsZone, ZoneContent}
use Rattle.stub_lookup.specs.Outcome.{error_in, unless_error}
use Rattle.stub_lookup.specs.declared.error.DnsError.{DnsError}
use Rattle.stub_lookup.specs.declared.error.DnsError.TheVariants as dns
use Rattle.stub_lookup.specs.declared.error.NetError.{NetError}
use Rattle.stub_lookup.specs.declared.error.NetError.TheVariants as errors
use Rattle.stub_cache.specs.Cache.{CacheContent, same_key}
use Rattle.stub_client.specs.Conclusions.{AsksComeTo, Conclusion, HasSpecialNames, ReplyComesTo, Respells}
use Rattle.stub_client.specs.Handle.{Ask, Outcome}
use Rattle.stub_client.specs.Laws.{IsFailure}
use Rattle.stub_client.specs.Looks.{Looks, Reply}
use Rattle.stub_client.specs.Outcomes.{ChainsEnd, ComesTo, Leads, StepsTo, by_absence, by_alias, by_code, by_loopback, by_negative, by_nothing, by_records, by_spelling, no_alias, one_more}
use Rattle.stub_client.specs.SpecialNames.{special_answer}
use Rattle.stub_client.specs.Step.{chain_of, meaning, next_question, step_of, step_on}
use Rattle.stub_client.specs.declared.caching_client.chain.Chain.{Chain}
use Rattle.stub_client.specs.declared.caching_client.step.LookupSettings.{LookupSettings}
use Rattle.stub_client.specs.declared.caching_client.step.Step.{Step}
use Rattle.stub_client.specs.declared.caching_client.step.Step.TheVariants.{Stops, Follows}
use Rattle.stub_client.specs.declared.special_names.SpecialAnswer.TheVariants.{Ordinary}
use Rattle.stub_client.proofs.ConclusionLaws.{lookup-comes}
use Rattle.stub_client.proofs.StepCases.{outcome-cases, reply-cases}
use Rattle.stub_core.specs.Outcomes.{ErrorIsOutcome}
use Rattle.stub_core.proofs.OrdinaryLaws.{ordinary-asks}
use Rattle.stub_laws.specs.history.Answered.{is_plain}
use Rattle.stub_laws.specs.history.Stands.{AreSame, IsLinked}
use Rattle.stub_laws.specs.history.Stands.IsLinked.{no_link, one_link}
use Rattle.stub_laws.proofs.AnswerRowLaws.{equal-numbers}
use Rattle.stub_laws.proofs.EndLaws.{is_followed}
use Rattle.stub_laws.proofs.FreshLaws.{same-names, same-numbers}
use Rattle.stub_laws.proofs.StandLaws.{both-true}
use Rattle.stub_laws.specs.walk.Answered.{HasShortAliases, HaveNoFault, IsAsked, IsOrdinary, IsPlainAsk, IsZoneOutcome, IsZoneReply}
use Rattle.stub_laws.specs.walk.Walk.{AgreesWithWalk, CacheAgrees, HasShortAliasesAt, HasShortAliasesIn, IsDirect, IsWalked}
use Rattle.stub_laws.specs.walk.Walk.Walk.{at_local_host, at_special_name}
use Rattle.stub_laws.proofs.Spelling.{flags-of}
use Rattle.stub_laws.proofs.StepLaws.{Bears, WithinWalk, answered-bears, both-inside, cut-bears, is_out, nothing-claimed, refused-bears, refused-step, special-question}
use Rattle.stub_laws.proofs.CourseLaws.{answer-course, linked-through, plain-rows}
use Rattle.stub_laws.proofs.DirectLaws.{direct-bears}
use Rattle.stub_laws.proofs.WalkLaws.{direct-respelled, followed-of, of-zone-same, walk-respelled}

-- ---- claims about walks

same-classes : (p q : Query) → same_key p q ≡ true → class_number p.query_class ≡ class_number q.query_class
same-classes p q same =
    let rest = both-true (same_name p.name q.name) _ same in
    equal-numbers (class_number p.query_class) (class_number q.query_class)
    (both-true (type_number p.query_type == type_number q.query_type) (class_number p.query_class == class_number q.query_class) rest.1).1

-- chains from another spelling of a name
linked-respelled : {rows : Rows} {a : DomainName} {links : ℕ} {to : DomainName} (b : DomainName) → AreSame a b → IsLinked rows a links to
    → (last : DomainName) × IsLinked rows b links last × AreSame to last
linked-respelled b same no_link = (b, no_link, same)
linked-respelled {rows} b same (one_link links owner row alias rest there is) =
    let r = linked-respelled b same rest in (
      alias.0,
      one_link links r.0 row alias r.1
          (subst (λ (labels : List (List ℕ)). Contains (unwrap_or (rows_map.get rows (labels, 5)) []) row) r.2 there) is,
      refl,
    )

short-respelled : (zone : ZoneContent) (a b : DomainName) → AreSame a b → HasShortAliasesAt zone a → HasShortAliasesAt zone b
short-respelled zone a b same short = λ before after first through last to at from.
    (let other = linked-respelled a (sym same) from in
    short before after first through other.0 to (at ∙ sym same) other.1)

-- where no chain in a zone passes seven links, none through a name does
pub short-at : (zone : ZoneContent) → HasShortAliases zone → (name : DomainName) → HasShortAliasesAt zone name
short-at zone short name = λ before after first through last to at from.
    (let other = linked-respelled through (sym at) from in
    let all = linked-through to other.1 in
    let bound : all.links ≤ 7 = short all.links first other.0 all.linked in
    omega (arith, all.far))

module _ (zone : ZoneContent) where
  pub agreement-respells : Respells (AgreesWithWalk zone)
  agreement-respells p q conclusion agrees same = λ typed in_internet direct short.
      let number : type_number p.query_type ≡ type_number q.query_type = same-numbers p q same in
      let flag : p.name.is_fqdn ≡ q.name.is_fqdn = flags-of p.name q.name (both-true (same_name p.name q.name) _ same).0 in
      walk-respelled zone p.query_type q.query_type number q.name flag (same-names p q same)
      (agrees (ap is_no_row_type number ∙ typed) (same-classes p q same ∙ in_internet)
      (direct-respelled zone q.query_type p.query_type (sym number) q.name p.name (sym flag) (sym (same-names p q same)) direct)
      (λ of_zone. short-respelled zone q.name p.name (sym (same-names p q same))
      (short (of-zone-same zone p.query_type q.query_type number p.name q.name flag (same-names p q same) of_zone))))

  pub special-names-agree : HasSpecialNames (AgreesWithWalk zone)
  special-names-agree = record {
    loopback = λ q r e. λ typed in_internet direct short. at_local_host 7 q.name r (sym (special-question q in_internet) ∙ e);
    nothing = λ q code e. λ typed in_internet direct short. at_special_name 7 q.name code (sym (special-question q in_internet) ∙ e);
  }

-- ---- outcomes

module _ (zone : ZoneContent) (good : IsZone zone) (settings : LookupSettings) (off : settings.preserve_intermediates ≡ false) where
  -- the name of a question that the zone answers, but does not refuse, is followed
  followed-there : (q : Query) → special_answer q ≡ Ordinary → class_number q.query_class ≡ 1 → at_or_below zone.origin.labels q.name.labels ≡ true
      → is_followed zone.origin q.name ≡ true
  followed-there q ordinary in_internet inside =
      followed-of zone q.query_type q.name (record { ordinary = sym (special-question q in_internet) ∙ ordinary; inside = inside })

  response-bears : (depth : ℕ) (q : Query) (response : DnsResponse) → IsZoneReply zone q response.message → special_answer q ≡ Ordinary → WithinWalk zone depth q
      → Bears zone settings depth q (step_of settings q [] depth (Ok response))
  response-bears depth q response reply ordinary within = by-type (is_no_row_type (type_number q.query_type)) refl
    where
      by-plain : is_no_row_type (type_number q.query_type) ≡ false → class_number q.query_class ≡ 1 → is_followed zone.origin q.name ≡ true
          → is_out zone q ≡ false → (b : Bool) → is_plain q.query_type ≡ b → Bears zone settings depth q (step_of settings q [] depth (Ok response))
      by-plain typed in_internet followed out true plain =
          elim (answer-course zone q typed good out followed) [
            | inl course ↦ answered-bears zone settings depth q typed response reply plain good off in_internet followed out within course
            | inr cut ↦ cut-bears zone settings depth q typed response reply good followed cut plain
          ]
      by-plain typed in_internet followed out false other =
          direct-bears zone settings depth q good off typed in_internet other response reply out followed

      by-name : is_no_row_type (type_number q.query_type) ≡ false → (b : Bool) → is_out zone q ≡ b
          → Bears zone settings depth q (step_of settings q [] depth (Ok response))
      by-name typed true out = refused-bears zone settings depth q typed response reply ordinary out
      by-name typed false out =
          let parts = both-inside (class_number q.query_class == 1) (at_or_below zone.origin.labels q.name.labels) out in
          let in_internet : class_number q.query_class ≡ 1 = equal-numbers (class_number q.query_class) 1 parts.0 in
          let followed : is_followed zone.origin q.name ≡ true = followed-there q ordinary in_internet parts.1 in
          by-plain typed in_internet followed out (is_plain q.query_type) refl

      by-type : (b : Bool) → is_no_row_type (type_number q.query_type) ≡ b → Bears zone settings depth q (step_of settings q [] depth (Ok response))
      by-type true none = nothing-claimed zone settings depth q (λ typed. true≢false (sym none ∙ typed)) (meaning (Ok response))
      by-type false typed = by-name typed (is_out zone q) refl

  outcome-bears : (depth : ℕ) (q : Query) (out : Outcome) → IsZoneOutcome zone q out → special_answer q ≡ Ordinary → WithinWalk zone depth q
      → Bears zone settings depth q (step_of settings q [] depth out)
  outcome-bears depth q (Ok response) reply ordinary within = response-bears depth q response reply ordinary within
  outcome-bears depth q (Err (errors.Dns error)) h ordinary within = absurd h
  outcome-bears depth q (Err (errors.Proto error)) h ordinary within = tt
  outcome-bears depth q (Err (errors.Message text)) h ordinary within = tt
  outcome-bears depth q (Err (errors.Link fault)) h ordinary within = tt
  outcome-bears depth q (Err errors.Unsupported) h ordinary within = tt
  outcome-bears depth q (Err errors.Memory) h ordinary within = tt

  -- ---- lookups

  module _ (asks : List Ask) (asked : All (IsAsked zone) asks) (ordinary : All IsOrdinary asks) where
    asks-agree : AsksComeTo (AgreesWithWalk zone) (WithinWalk zone) settings asks
    asks-agree = λ k d less depth within.
        outcome-bears depth (slice_index_or asks k d).question (slice_index_or asks k d).outcome (asked k d less) (ordinary k d less) within

  -- a lookup keeps and returns what walks come to
  pub lookup-agrees : (now : ℕ) (old : CacheContent) (q : Query) (asks : List Ask) (reply : Reply) (new : CacheContent)
      → All (IsAsked zone) asks → CacheAgrees zone old → Looks settings now 0 [] old q asks reply new
      → CacheAgrees zone new × ReplyComesTo (AgreesWithWalk zone) q reply
  lookup-agrees now old q asks reply new asked agrees looks =
      lookup-comes (AgreesWithWalk zone) (agreement-respells zone) (special-names-agree zone) (WithinWalk zone) settings now 0 old q asks reply new off
      (λ plain in_internet short. inl refl) agrees (asks-agree asks asked (ordinary-asks settings now 0 [] old q asks reply new looks)) looks

  -- ---- questions that are asked anew

  module _ (asks : List Ask) (asked : All (IsAsked zone) asks) (ordinary : All IsOrdinary asks) where
    steps-bear : {q : Query} {step : Step} → StepsTo settings asks q step → Bears zone settings 0 q step
    steps-bear {q} steps =
        let ask : Ask = record { question = q; outcome = steps.outcome } in
        subst (Bears zone settings 0 q) steps.is_step
        (outcome-bears 0 q steps.outcome (All-contains (IsAsked zone) asks ask asked steps.is_asked) (All-contains IsOrdinary asks ask ordinary steps.is_asked)
        (λ plain in_internet short. inl refl))

    pub comes-agree : {q : Query} {conclusion : Conclusion} → ComesTo settings asks q conclusion → AgreesWithWalk zone q conclusion
    comes-agree (by_records steps) = steps-bear steps
    comes-agree (by_negative steps) = steps-bear steps
    comes-agree (by_nothing steps) = steps-bear steps
    comes-agree (by_code steps) = steps-bear steps
    comes-agree (by_alias steps comes) = (steps-bear steps).1 _ (comes-agree comes)
    comes-agree {q} (by_loopback special) = (special-names-agree zone).loopback q _ special
    comes-agree {q} (by_absence special) = (special-names-agree zone).nothing q _ special
    comes-agree {q} (by_spelling {p} comes same) = agreement-respells zone p q _ (comes-agree comes) same

    -- ---- chains of aliases

    -- an alias leads to a question of the same type
    record IsNext (q target : Query) : Type 0 where
      kind : target.query_type ≡ q.query_type
      class : target.query_class ≡ IN

    abbrev NextBy : Query → Query → List Record → Step → Type 0
    NextBy q target kept step = step ≡ Follows target kept → IsNext q target

    next-of : (q target : Query) (kept aliases : List Record) (c : Chain) → Follows (next_question q c) aliases ≡ Follows target kept → IsNext q target
    next-of q target kept aliases c e =
        let same : next_question q c ≡ target = cc in
        record { kind = ap (λ (x : Query). x.query_type) (sym same); class = ap (λ (x : Query). x.query_class) (sym same) }

    follows-next : (q target : Query) (kept : List Record) (out : Outcome) → NextBy q target kept (step_on settings q [] 0 out)
    follows-next q target kept out =
        outcome-cases settings q [] 0 (NextBy q target kept) out
        (λ response is. reply-cases settings q [] 0 (NextBy q target kept) response.message
        (λ given e. absurd (cc)) (λ none ends e. absurd (cc)) (λ none no_end alias above e. next-of q target kept _ (chain_of q response.message) e)
        (λ e. absurd (cc)))
        (λ answer e. absurd (cc)) (λ error failure is e. absurd (cc))

    stops-clash : (error : NetError) (target : Query) (kept : List Record) → Stops error ≡ Follows target kept → ⊥
    stops-clash error target kept e = cc

    -- a question for a name that is not followed leads no further
    off-stops : (q target : Query) (kept : List Record) (out : Outcome) → IsZoneOutcome zone q out → special_answer q ≡ Ordinary
        → is_plain q.query_type ≡ true → class_number q.query_class ≡ 1 → is_followed zone.origin q.name ≡ false
        → step_of settings q [] 0 out ≡ Follows target kept → ⊥
    off-stops q target kept (Ok response) reply ordinary plain in_internet leaves e = by (is_out zone q) refl
      where
        by : (b : Bool) → is_out zone q ≡ b → ⊥
        by true out = stops-clash _ target kept (sym (refused-step zone settings 0 q (plain-rows (type_number q.query_type) plain) response reply out) ∙ e)
        by false out =
            let parts = both-inside (class_number q.query_class == 1) (at_or_below zone.origin.labels q.name.labels) out in
            true≢false (sym (followed-there q ordinary in_internet parts.1) ∙ leaves)
    off-stops q target kept (Err (errors.Dns error)) h ordinary plain in_internet leaves e = h
    off-stops q target kept (Err (errors.Proto error)) h ordinary plain in_internet leaves e = stops-clash _ target kept e
    off-stops q target kept (Err (errors.Message text)) h ordinary plain in_internet leaves e = stops-clash _ target kept e
    off-stops q target kept (Err (errors.Link fault)) h ordinary plain in_internet leaves e = stops-clash _ target kept e
    off-stops q target kept (Err errors.Unsupported) h ordinary plain in_internet leaves e = stops-clash _ target kept e
    off-stops q target kept (Err errors.Memory) h ordinary plain in_internet leaves e = stops-clash _ target kept e

    module _ (plain : All IsPlainAsk asks) (short : HasShortAliases zone) where
      -- after one alias no name is followed
      leads-off : {first last : Query} {links : ℕ} → Leads settings asks first links last
          → (links ≤ 1) × ((links ≡ 0) ⊎ (is_followed zone.origin last.name ≡ false))
      leads-off no_alias = (omega arith, inl refl)
      leads-off (one_more {n} {q} {target} {kept} leads steps) =
          let ask : Ask = record { question = q; outcome = steps.outcome } in
          let is_plain_ask = All-contains IsPlainAsk asks ask plain steps.is_asked in
          let before = leads-off leads in
          let next = follows-next q target kept (meaning steps.outcome) steps.is_step in
          let bears = steps-bear steps in
          elim before.1 [
            | inl none ↦ (
              omega arith,
              elim (bears.0 (ap is_plain next.kind ∙ is_plain_ask.plain) (ap class_number next.class) (λ of_zone. short-at zone short target.name)) [
                | inl never ↦ absurd (let clash : ◌≡◌ {A = ℕ} 1 0 = never in omega arith)
                | inr leaves ↦ inr leaves
              ],
            )
            | inr leaves ↦ absurd (off-stops q target kept steps.outcome (All-contains (IsAsked zone) asks ask asked steps.is_asked)
                (All-contains IsOrdinary asks ask ordinary steps.is_asked) is_plain_ask.plain is_plain_ask.in_internet leaves steps.is_step)
          ]

      pub chains-end : ChainsEnd settings asks
      chains-end first last links leads = let bound : links ≤ 1 = (leads-off leads).0 in omega arith

-- ---- replies without faults

abbrev is_of_dns : NetError → Bool
is_of_dns (errors.Dns error) = true
is_of_dns error = false

no-fault-by : (response : DnsResponse) (o : Option DnsError) (error : NetError) → is_of_dns error ≡ false → unless_error response o ≡ Err error → ⊥
no-fault-by response None error other e = cc
no-fault-by response (Some d) error other e =
    let same : errors.Dns d ≡ error = (let both : ◌≡◌ {A = Outcome} (Err (errors.Dns d)) (Err error) = e in cc) in
    true≢false (ap is_of_dns same ∙ other)

-- an outcome that is no fault means none
no-fault : (out : Outcome) (error : NetError) → is_of_dns error ≡ false → error ≢ errors.Memory → ((other : NetError) → out ≡ Err other → other ≡ errors.Memory)
    → meaning out ≡ Err error → ⊥
no-fault (Ok response) error other memory none e = no-fault-by response (error_in response.message) error other e
no-fault (Err first) error other memory none e =
    let same : first ≡ error = (let both : ◌≡◌ {A = Outcome} (Err first) (Err error) = e in cc) in
    memory (sym same ∙ none first refl)

no-failure : (asks : List Ask) → HaveNoFault asks → (error : NetError) → is_of_dns error ≡ false → error ≢ errors.Memory → IsFailure error
    → ErrorIsOutcome asks (Err error) → ⊥
no-failure asks none error other memory failure from =
    let h = from error refl failure memory in
    no-fault h.0.outcome error other memory
    (All-contains (λ (ask : Ask). (e : NetError) → ask.outcome ≡ Err e → e ≡ errors.Memory) asks h.0 none h.1) h.2

-- a reply agrees with the walk if there was no fault
pub reply-walked : (zone : ZoneContent) (asks : List Ask) (q : Query) (reply : Reply) → ReplyComesTo (AgreesWithWalk zone) q reply → ErrorIsOutcome asks reply
    → HaveNoFault asks → is_no_row_type (type_number q.query_type) ≡ false → class_number q.query_class ≡ 1
    → IsDirect zone q.query_type q.name → HasShortAliasesIn zone q.query_type q.name → IsWalked zone q reply
reply-walked zone asks q (Ok lookup) agrees from none typed in_internet direct short = agrees typed in_internet direct short
reply-walked zone asks q (Err (errors.Dns (dns.NoRecordsFound answer))) agrees from none typed in_internet direct short = agrees typed in_internet direct short
reply-walked zone asks q (Err (errors.Dns (dns.ResponseCode code))) agrees from none typed in_internet direct short = agrees typed in_internet direct short
reply-walked zone asks q (Err (errors.Proto error)) agrees from none typed in_internet direct short =
    no-failure asks none (errors.Proto error) refl (λ e. cc) refl from
reply-walked zone asks q (Err (errors.Message text)) agrees from none typed in_internet direct short =
    no-failure asks none (errors.Message text) refl (λ e. cc) refl from
reply-walked zone asks q (Err (errors.Link fault)) agrees from none typed in_internet direct short =
    no-failure asks none (errors.Link fault) refl (λ e. cc) refl from
reply-walked zone asks q (Err errors.Unsupported) agrees from none typed in_internet direct short =
    no-failure asks none errors.Unsupported refl (λ e. cc) refl from
reply-walked zone asks q (Err errors.Memory) agrees from none typed in_internet direct short = tt
