-- A response that holds the answer of a zone by rows that stand leads to a step of which the claims on whole answers hold.
use Rattle.std.proofs.Common.{◌≡◌, ◌≢◌, ℕ, suc, ◌+◌, ◌*◌, ◌<◌, ◌≤◌, ◌==◌, ◌&&◌, ◌||◌, ◌++◌, min, nat_lt, Bool, true, false, cond, not, List, [], ◌∷◌, map, filter, length, Option, Some, None, Ok, Err, unwrap_or, is_some, All, refl, sym, ap, subst, ◌∙◌, slice_index_or, inl, inr, arith}
use Rattle.std.specs.Prelude.{◌⊎◌, Contains, IfSome, IsSomeAnd}
use Rattle.std.specs.FinMap as rows_map
use Rattle.std.specs.Bool.{beq}
use Rattle.std.specs.List.{list_any}
use Rattle.std.specs.Ordering.{on}
use Rattle.std.proofs.lemmas.Bool.{cond_both, true≢false}
use Rattle.std.proofs.lemmas.Bool.Decides.{nat_tests}
use Rattle.std.proofs.lemmas.List.{append-nil}
use Rattle.std.proofs.lemmas.List.Folds.{list_any-append}
use Rattle.std.proofs.lemmas.List.Elements.{All-append, All-head, All-map, All-nil, All-tail, Contains-append_right, filter_passes}
use Rattle.dns_wire.specs.codes.DNSClass.{class_number}
use Rattle.dns_wire.specs.codes.RecordType.{type_number}
use Rattle.dns_wire.specs.declared.codes.dns_class.DNSClass.TheVariants.{IN}
use Rattle.dns_wire.specs.declared.codes.record_type.RecordType.{RecordType}
use Rattle.dns_wire.specs.declared.codes.record_type.RecordType.TheVariants as types
use Rattle.dns_names.specs.Compare.{at_or_below, lower, same_labels, same_name}
use Rattle.dns_names.specs.Name.{DomainName}
use Rattle.dns_names.specs.internal.Compare.{same_name-equivalence}
use Rattle.dns_names.proofs.ComparisonLaws.{at_or_below-lower}
use Rattle.dns_data.specs.declared.rdata.RData.{RData}
use Rattle.dns_data.specs.declared.rdata.RData.TheVariants as of
use Rattle.dns_data.specs.declared.rdata.soa.SOA.{SOA}
use Rattle.dns_data.specs.rdata.{data_type}
use Rattle.dns_records.specs.Record.{Record}
use Rattle.dns_records.specs.Rows.{key, rows_at}
use Rattle.dns_records.specs.declared.record.Record as generic
use Rattle.dns_records.specs.declared.row.Row.{Row}
use Rattle.dns_messages.specs.Message.{all_records}
use Rattle.dns_messages.specs.Response.{answers_question, contains_answer, has_type, in_sections, is_answer_of_type, is_at, is_empty, is_soa_above, is_soa_data, negative_ttl, soa_in}
use Rattle.dns_messages.specs.declared.message.Message.{Message}
use Rattle.dns_messages.specs.declared.query.Query.{Query}
use Rattle.dns_messages.specs.declared.response.DnsResponse.{DnsResponse}
use Rattle.dns_messages.specs.declared.response_code.ResponseCode.{ResponseCode}
use Rattle.dns_messages.specs.declared.response_code.ResponseCode.TheVariants.{NoError, NotImp, NXDomain, Refused}
use Rattle.dns_zone.specs.Answer.{IsChain, answer, authority, authority_row, is_no_row_type, is_refused, negative, record_of}
use Rattle.dns_zone.specs.Answer.{negative_ttl as zone_negative_ttl}
use Rattle.dns_zone.specs.Rows.{AreRowsAt, IsSoundRow, IsZone, ZoneContent, some_row_below}
use Rattle.dns_zone.proofs.RowLaws.{same_lower}
use Rattle.dns_zone.specs.declared.zone.answer.Answer.{Answer}
use Rattle.stub_config.specs.declared.request_options.DnsRequestOptions.{DnsRequestOptions}
use Rattle.stub_lookup.specs.Outcome.{as_soa, error_by_code, error_in, error_without_answer, no_records_in, unless_error}
use Rattle.stub_lookup.specs.declared.error.DnsError.{DnsError}
use Rattle.stub_lookup.specs.declared.error.DnsError.TheVariants as dns
use Rattle.stub_lookup.specs.declared.error.NetError.{NetError}
use Rattle.stub_lookup.specs.declared.error.NetError.TheVariants as errors
use Rattle.stub_lookup.specs.declared.error.NoRecords.{NoRecords}
use Rattle.stub_cache.specs.Ttl.{TtlConfigContent, clamped_record}
use Rattle.stub_client.specs.Handle.{Ask, Outcome}
use Rattle.stub_client.specs.Step.{asks_for, asks_for_aliases, questions_or, chain_of, chain_over, chain_start, extended, found, given_answers, given_message, has_class, is_at_either, is_found, is_given, is_kept_alias, is_negative_end, is_selected, kept_aliases, lowered, max_depth, next_name, next_question, nothing_found, selected_answers, step_along, step_of, step_on, with_question}
use Rattle.stub_client.specs.declared.caching_client.chain.Chain.{Chain}
use Rattle.stub_client.specs.declared.caching_client.step.LookupSettings.{LookupSettings}
use Rattle.stub_client.specs.declared.caching_client.step.Step.{Step}
use Rattle.stub_client.specs.declared.caching_client.step.Step.TheVariants.{Gives, Misses, Stops, Follows}
use Rattle.stub_client.proofs.ClaimSteps.{is-alias, none-kept}
use Rattle.stub_client.proofs.RecordsLaws.{numbers-equal, or-left}
use Rattle.stub_client.proofs.StepCases.{both-true}
use Rattle.stub_link.specs.LinkState.{Version}
use Rattle.stub_laws.specs.history.Answered.{AreZones, HoldsAnswerAt, IsAnsweredBy, greatest_ttl, zone_with}
use Rattle.stub_laws.proofs.AnswerRowLaws.{IsAnswerRow, Typed, answer-rows, equal-numbers, number_of, owner-full, sound-at, typed-at, zone-of-rows}
use Rattle.stub_laws.proofs.ChainLaws.{soa-data}
use Rattle.stub_laws.proofs.FreshLaws.{range_at}
use Rattle.stub_laws.proofs.StandLaws.{contains-head, labels-lower, names-lower}
use Rattle.stub_laws.specs.answers.Claims.{AreKeptAliases, BearOut, HoldOfStep, longest_absence}
use Rattle.stub_laws.specs.answers.Failing.{FailsIndeed, HasReason}
use Rattle.stub_laws.specs.answers.Standing.{FindsWhole, HasBeenAbsent, HasRows, HaveStood, IsDeep, IsLed, IsSoaOf, LacksIndeed, LeadsOn, MissesIndeed}
use Rattle.stub_laws.specs.answers.Standing.HasBeenAbsent.{as_absence, as_link}
use Rattle.stub_laws.specs.answers.Standing.HaveStood.{as_set}
use Rattle.stub_laws.specs.answers.Standing.IsLed.{here}
use Rattle.stub_laws.proofs.EndedLaws.{Answered, Ended, GoesAlong, Halts, HasAliasAt, HasAliases, IsAliasRecord, answered-by, ended, finds, lacks, not_implemented, refused, stops}
use Rattle.stub_laws.proofs.LeadingLaws.{IsService, Leads, LeadsTo, chain-leads, lead, services-lead}
use Rattle.stub_laws.proofs.SelectingLaws.{Selects, selects-after, selects-clamped, selects-filter, selects-lowered, selects-rows, selects-some, selects-stripped}
use Rattle.stub_laws.proofs.StandingLaws.{IsLast, deep-through, fails-through, lacking-through, leads-here, stood-through}

-- ---- tests

not-less : (m n : ℕ) → nat_lt m n ≡ false → n ≤ m
not-less m n h = grind (arith, nat_tests)

second-off : (a b : Bool) → a ≡ true → a && b ≡ false → b ≡ false
second-off true b e h = h
second-off false b e h = absurd (true≢false (sym e))

other-test : (m n : ℕ) → (m ≡ n → ⊥) → (m == n) ≡ false
other-test m n h = by (m == n) refl
  where
    by : (b : Bool) → (m == n) ≡ b → b ≡ false
    by true e = absurd (h (equal-numbers m n e))
    by false e = refl

test-other : (m n : ℕ) → (m == n) ≡ false → m ≢ n
test-other m n off same = true≢false (sym (numbers-equal m n same) ∙ off)

or-right : (a b : Bool) → b ≡ true → a || b ≡ true
or-right true b h = refl
or-right false b h = h

all-three : (a b c : Bool) → a ≡ true → b ≡ true → c ≡ true → a && (b && c) ≡ true
all-three a b c e f g = λ i. e i && (f i && g i)

not-second : (a b c : Bool) → b ≡ false → a && (b && c) ≡ false
not-second true b c e = λ i. e i && c
not-second false b c e = refl

not-third : (a b c : Bool) → c ≡ false → a && (b && c) ≡ false
not-third true true c e = e
not-third true false c e = refl
not-third false b c e = refl

neither : (a b : Bool) → a ≡ false → b ≡ false → a || b ≡ false
neither a b e f = λ i. e i || f i

not-past : (now more : ℕ) → now ≤ now + more
not-past now more = omega arith

-- rows have no type that is none of rows
has-rows : (n m : ℕ) → is_no_row_type n ≡ false → is_no_row_type m ≡ true → n ≢ m
has-rows n m rows none same = true≢false (sym none ∙ ap is_no_row_type (sym same) ∙ rows)

-- a question for aliases, or for all types
first-off : (a b : Bool) → a || b ≡ false → a ≡ false
first-off true b h = absurd (true≢false h)
first-off false b h = refl

labels-same : (labels : List (List ℕ)) → same_labels labels labels ≡ true
labels-same labels =
    let name : DomainName = record { is_fqdn = true; labels = labels } in
    (both-true (on (λ (n : DomainName). n.is_fqdn) beq name name) (same_labels labels labels) (same_name-equivalence.refl name)).1

at-self : (labels : List (List ℕ)) → at_or_below labels labels ≡ true
at-self [] = refl
at-self (label ∷ labels) = or-left (same_labels (label ∷ labels) (label ∷ labels)) (at_or_below (label ∷ labels) labels) (labels-same (label ∷ labels))

filter-none : (p : Record → Bool) (xs : List Record) → All (λ r. p r ≡ false) xs → filter p xs ≡ []
filter-none p [] h = refl
filter-none p (x ∷ xs) h =
    ap (λ (b : Bool). cond b (x ∷ filter p xs) (filter p xs)) (All-head (λ r. p r ≡ false) x xs h)
    ∙ filter-none p xs (All-tail (λ r. p r ≡ false) x xs h)

-- rows of a type other than CNAME and SRV leave a chain as it is
no-next : (name : DomainName) (r : Record) (d : RData) (n : ℕ) → type_number (data_type d) ≡ n → n ≢ 5 → n ≢ 33 → next_name name r d ≡ None
no-next name r (of.CNAME cname) n typed no_alias no_service = absurd (no_alias (sym typed))
no-next name r (of.SRV service) n typed no_alias no_service = absurd (no_service (sym typed))
no-next name r other n typed no_alias no_service = refl

no-links : (c : Chain) (owner : DomainName) (rows : List Row) (n : ℕ) → All (Typed n) rows → n ≢ 5 → n ≢ 33
    → chain_over c (map (record_of owner) rows) ≡ c
no-links c owner [] n typed no_alias no_service = refl
no-links c owner (row ∷ rows) n typed no_alias no_service =
    ap (λ (o : Option DomainName). chain_over (extended c row.ttl o) (map (record_of owner) rows))
    (no-next c.name (record_of owner row) row.rdata n (All-head (Typed n) row rows typed) no_alias no_service)
    ∙ no-links c owner rows n (All-tail (Typed n) row rows typed) no_alias no_service

-- records along which a chain goes on are some
goes-some : (q : Query) (rs : List Record) → GoesAlong q.name rs → is_empty rs ≡ false
goes-some q [] goes = absurd (true≢false (sym (goes (chain_start q) [] refl)))
goes-some q (r ∷ rs) goes = refl

-- the SOA record of a zone is at its origin
soa-at-origin : (zone : ZoneContent) → IsZone zone → (labels : List (List ℕ)) (t : RecordType) → type_number t ≡ 6
    → rows_at zone.rows labels t ≢ [] → same_labels zone.origin.labels labels ≡ true
soa-at-origin zone good labels t soa some =
    sym (same_lower zone.origin.labels labels) ∙ by (rows_map.get zone.rows (key labels t)) (good.rows (key labels t)) some
  where
    by : (o : Option (List Row)) → IfSome o (AreRowsAt zone.origin (key labels t)) → unwrap_or o [] ≢ []
        → same_labels zone.origin.labels (lower labels) ≡ true
    by None h there = absurd (there refl)
    by (Some rows) h there = h.soa_at_origin soa

-- ---- kept aliases

chain-is-none : (b : Bool) (q : Query) (rs : List Record) → b ≡ true → (cond b (chain_start q) (chain_over (chain_start q) rs)).is_alias ≡ true → ⊥
chain-is-none true q rs h i = cc
chain-is-none false q rs h i = cc

chain-not-alias : (q : Query) (m : Message) → (chain_of q m).is_alias ≡ true → type_number q.query_type ≡ 5 → ⊥
chain-not-alias q m h e =
    chain-is-none (asks_for_aliases q) q m.answers
    (or-left (type_number q.query_type == 5) (type_number q.query_type == 255) (numbers-equal (type_number q.query_type) 5 e)) h

kept-next : (settings : LookupSettings) (q : Query) (kept : List Record) (m : Message) → (chain_of q m).is_alias ≡ true
    → AreKeptAliases settings q kept → AreKeptAliases settings (next_question q (chain_of q m)) (kept_aliases settings q (chain_of q m) kept m)
kept-next settings q kept m alias are =
    let some = filter (is_kept_alias settings q) (all_records m) in
    let passed = filter_passes (is_kept_alias settings q) (all_records m) in
    record {
      aliases = All-append (λ r. has_type types.CNAME r ≡ true) kept (map (lowered (chain_of q m).ttl) some) are.aliases
          (All-map (λ r. has_type types.CNAME r ≡ true) (lowered (chain_of q m).ttl) some
          (λ k d less. is-alias settings q (slice_index_or some k d) (passed k d less)));
      of_aliases = λ e. absurd (chain-not-alias q m alias e);
      left_out = λ off. none-kept settings q m kept off (are.left_out off);
    }

-- ---- the SOA record of a negative answer

soa-of : (d : RData) → is_soa_data d ≡ true → (soa : SOA) × (d ≡ of.SOA soa)
soa-of (of.SOA soa) h = (soa, refl)
soa-of other h = absurd (true≢false (sym h))

-- the SOA record of a zone as it is read, and its time
pub record IsRead (origin : DomainName) (ttl : ℕ) (d : RData) (rs : List Record) : Type 0 where
  pub soa : IsSomeAnd (as_soa (soa_in rs)) (λ s. (s.name ≡ origin) × (of.SOA s.rdata ≡ d))
  pub left : ℕ
  pub left_is : negative_ttl (soa_in rs) ≡ Some left
  pub low : left ≤ zone_negative_ttl ttl d

-- the SOA record of a negative answer
abbrev soa_record : DomainName → ℕ → RData → Record
soa_record origin ttl d = record { name = origin; dns_class = IN; ttl = zone_negative_ttl ttl d; rdata = d }

soa-read : (origin : DomainName) (ttl : ℕ) (soa : SOA) (d : RData) → d ≡ of.SOA soa → IsRead origin ttl d (soa_record origin ttl d ∷ [])
soa-read origin ttl soa d e =
    subst (λ (x : RData). IsRead origin ttl x (soa_record origin ttl x ∷ [])) (sym e)
    (record { soa = (refl, refl); left = min (min ttl soa.minimum) soa.minimum; left_is = refl; low = omega arith })

-- the authority section of a negative answer
pub record HasSoa (zone : ZoneContent) (rs : List Record) : Type 0 where
  pub row : Row
  pub there : rows_at zone.rows zone.origin.labels types.SOA ≡ row ∷ []
  pub read : IsRead zone.origin row.ttl row.rdata rs

only-row : (rows : List Row) → length rows ≡ 1 → (row : Row) × (rows ≡ row ∷ [])
only-row [] one = absurd (omega arith)
only-row (row ∷ []) one = (row, refl)
only-row (row ∷ (other ∷ more)) one = absurd (omega arith)

authority-soa : (zone : ZoneContent) → IsZone zone → HasSoa zone (authority zone)
authority-soa zone good =
    let rows : List Row = rows_at zone.rows zone.origin.labels types.SOA in
    let one = only-row rows good.soa in
    let there : rows ≡ one.0 ∷ [] = one.1 in
    let sound : All IsSoundRow (one.0 ∷ []) = subst (All IsSoundRow) there (sound-at zone good zone.origin.labels types.SOA) in
    let typed : All (Typed 6) (one.0 ∷ []) = subst (All (Typed 6)) there (typed-at zone good zone.origin.labels types.SOA) in
    let data_is : is_soa_data one.0.rdata ≡ true =
    soa-data one.0.rdata (All-head IsSoundRow one.0 [] sound).rdata (All-head (Typed 6) one.0 [] typed) in
    let soa = soa-of one.0.rdata data_is in
    record {
      row = one.0;
      there = there;
      read = subst (λ (all : List Row). IsRead zone.origin one.0.ttl one.0.rdata
          (map (λ (row : Row). record_of zone.origin (authority_row row)) all)) (sym there)
          (soa-read zone.origin one.0.ttl soa.0 one.0.rdata soa.1);
    }

-- ---- a response

module _ (chains : (zone : ZoneContent) (q : Query) → IsChain zone.rows q.query_type q.name (answer zone q).answers)
    (origin : DomainName) (options : DnsRequestOptions) (history : List Version) (failed : List Query) (zones : AreZones origin history)
    (config : TtlConfigContent) (settings : LookupSettings) (now : ℕ) (q : Query) where
  abbrev pub Bears : ℕ → Step → Type 0
  Bears depth step =
      HoldOfStep (λ q at rs. FindsWhole config settings.preserve_intermediates history q at rs)
      (λ q at answer. MissesIndeed config settings.preserve_intermediates origin history q at answer)
      (λ q at answer. LacksIndeed config settings.preserve_intermediates origin history q at answer)
      (λ q at error. FailsIndeed settings.preserve_intermediates origin options history failed q at error)
      (λ depth q. IsDeep settings.preserve_intermediates history now depth q) settings config now depth q step

  module _ (response : DnsResponse) (held : HoldsAnswerAt origin history now q response.message) (kept : List Record)
      (are : AreKeptAliases settings q kept) (depth : ℕ) (deep : IsDeep settings.preserve_intermediates history now depth q) where
    abbrev Bear : Step → Type 0
    Bear step = Bears depth step

    abbrev m : Message
    m = response.message

    abbrev zone : ZoneContent
    zone = zone_with origin held.rows

    abbrev kind : RecordType
    kind = q.query_type

    abbrev preserves : Bool
    preserves = settings.preserve_intermediates

    abbrev LeadsHere : DomainName → Type 0
    LeadsHere name = Leads preserves history now kind q.name held.rows held.stand name

    -- along so many links
    abbrev LeadsBy : ℕ → DomainName → Type 0
    LeadsBy links name = IsLed preserves history now kind q.name links name

    good : IsZone zone
    good = zone-of-rows origin history now held.rows zones held.stand

    -- the step after a response, by the error that it means
    step-by : (o : Option DnsError) → error_in m ≡ o → Bear (step_on settings q kept depth (unless_error response o))
        → Bear (step_of settings q kept depth (Ok response))
    step-by o e h = subst (λ (x : Option DnsError). Bear (step_on settings q kept depth (unless_error response x))) (sym e) h

    coded : (code : ResponseCode) → is_refused zone q ≡ true → (answer zone q).code ≡ code → error_by_code code m ≡ Some (dns.ResponseCode code)
        → Bear (step_of settings q kept depth (Ok response))
    coded code refuses is e =
        step-by (Some (dns.ResponseCode code)) (ap (λ (c : ResponseCode). error_by_code c m) (held.holds.code ∙ is) ∙ e)
        (record {
          question = q;
          leads = leads-here preserves history now q;
          rows = held.rows;
          stand = held.stand;
          refused = refuses;
          code_is = sym is;
        })

    -- ---- links that are followed

    -- services at the name itself lead on only where aliases are preserved
    abbrev MayLead : Type 0
    MayLead = (preserves ≡ true) ⊎ (rows_at held.rows q.name.labels kind ≡ [])

    may-lead : MayLead → ((0 < 0) ⊎ (preserves ≡ true)) ⊎ (rows_at held.rows q.name.labels kind ≡ [])
    may-lead (inl kept) = inl (inr kept)
    may-lead (inr none) = inr none

    start : LeadsTo preserves history now kind q.name held.rows held.stand (chain_start q)
    start = record { links = 0; led = here q.name refl; some = λ e. absurd (true≢false (sym e)) }

    links : MayLead → LeadsTo preserves history now kind q.name held.rows held.stand (chain_of q m)
    links may =
        cond_both (asks_for_aliases q) (chain_start q) (chain_over (chain_start q) m.answers)
        (LeadsTo preserves history now kind q.name held.rows held.stand)
        (λ none. start)
        (λ some.
        (let other : type_number kind ≢ 5 =
        test-other (type_number kind) 5 (first-off (type_number kind == 5) (type_number kind == 255) some) in
        chain-leads preserves history now kind q.name held.rows held.stand (chain_start q) m.answers other
        (subst (λ (rs : List Record). All (IsAnswerRow held.rows kind) rs) (sym held.holds.answers) (answer-rows zone good kind (chains zone q)))
        (subst (λ (rs : List Record). All (IsService preserves history now kind q.name held.rows held.stand) rs) (sym held.holds.answers)
        (services-lead preserves history now kind q.name held.rows held.stand zone good refl other (chains zone q) (0, here q.name refl) (may-lead may)))
        start))

    follow : MayLead → (chain_of q m).is_alias ≡ true
        → Bear (Follows (next_question q (chain_of q m)) (kept_aliases settings q (chain_of q m) kept m))
    follow may alias =
        let target : Query = next_question q (chain_of q m) in
        let to = links may in (
          refl,
          kept-next settings q kept m alias are,
          deep-through preserves history now depth to.links q target refl (to.some alias) to.led deep,
          λ rs h none. stood-through preserves history (greatest_ttl config kind) now to.links q target refl to.led (h none),
          λ answer h. lacking-through config preserves origin history now to.links q target answer refl (to.some alias) to.led h,
          λ error h. fails-through preserves origin options history failed now to.links q target error refl refl to.led h,
        )

    -- ---- where the type has rows, in the class of the Internet

    module _ (has_rows : is_no_row_type (type_number kind) ≡ false) (in_internet : class_number q.query_class ≡ 1)
        (inside : at_or_below origin.labels q.name.labels ≡ true) where
      abbrev Off : Record → Type 0
      Off r = has_type kind r ≡ false

      abbrev NotFound : Record → Type 0
      NotFound r = is_found q (chain_of q m).name r ≡ false

      of-other : (n : ℕ) → type_number kind ≢ n → (r : Record) → number_of r ≡ n → Off r
      of-other n other r is = other-test (number_of r) (type_number kind) (λ e. other (sym e ∙ is))

      not-all : (type_number kind == 255) ≡ false
      not-all = other-test (type_number kind) 255 (has-rows (type_number kind) 255 has_rows refl)

      off-not-found : (r : Record) → Off r → NotFound r
      off-not-found r off =
          not-second (has_class q r) (asks_for q r) (is_at_either (chain_of q m).name q r)
          (neither (type_number kind == 255) (has_type kind r) not-all off)

      elsewhere-not-found : (r : Record) → is_at_either (chain_of q m).name q r ≡ false → NotFound r
      elsewhere-not-found r elsewhere = not-third (has_class q r) (asks_for q r) (is_at_either (chain_of q m).name q r) elsewhere

      -- aliases before an answer are no records of the type
      abbrev HasAliasesTo : List Record → DomainName → Type 0
      HasAliasesTo aliases end = HasAliases zone kind q.name aliases end

      aliases-off : (aliases : List Record) (end : DomainName) → All IsAliasRecord aliases → HasAliasesTo aliases end → All Off aliases
      aliases-off aliases end all (inl none) = subst (All Off) (sym none.0) (All-nil Off)
      aliases-off aliases end all (inr some) = λ k d less. of-other 5 some.1 (slice_index_or aliases k d) (all k d less)

      -- nor are the kept ones
      kept-off : All Off kept
      kept-off = by (type_number kind == 5) refl
        where
          by : (b : Bool) → (type_number kind == 5) ≡ b → All Off kept
          by true is = subst (All Off) (sym (are.of_aliases (equal-numbers (type_number kind) 5 is))) (All-nil Off)
          by false other = λ k d less. of-other 5 (test-other (type_number kind) 5 other) (slice_index_or kept k d)
              (equal-numbers (number_of (slice_index_or kept k d)) 5 (are.aliases k d less))

      -- the chain along answers
      chain-along : type_number kind ≢ 5 → chain_of q m ≡ chain_over (chain_start q) m.answers
      chain-along other =
          ap (λ (b : Bool). cond b (chain_start q) (chain_over (chain_start q) m.answers))
          (neither (type_number kind == 5) (type_number kind == 255) (other-test (type_number kind) 5 other) not-all)

      -- ---- nothing is found

      -- why a lookup goes no further: aliases end in a negative answer, too many were followed, or the response is none to the question
      abbrev GoesNoFurther : Type 0
      GoesNoFurther =
          (is_negative_end q (chain_of q m) m ≡ true)
          ⊎ (((chain_of q m).is_alias && nat_lt depth max_depth ≡ false) ⊎ (contains_answer m || m.metadata.truncation ≡ false))

      module _ (lacking : GoesNoFurther → (answer : NoRecords) → answer.response_code ≡ m.metadata.response_code → answer.soa ≡ as_soa (soa_in m.authorities)
          → answer.negative_ttl ≡ negative_ttl (soa_in m.authorities) → (age : ℕ) → HasBeenAbsent config preserves origin history age now q answer)
          (nowhere : All NotFound (all_records m)) (no_rows : rows_at held.rows q.name.labels kind ≡ []) where
        not-found : found q (chain_of q m) m ≡ []
        not-found = filter-none (is_found q (chain_of q m).name) (all_records m) nowhere

        not-given : is_given q (chain_of q m) kept m ≡ false
        not-given = ap (λ (rs : List Record). not (is_empty rs) && (not (chain_of q m).is_alias || is_empty kept)) not-found

        along : Bear (step_along settings q (chain_of q m) kept depth m)
        along =
            cond_both (is_given q (chain_of q m) kept m) (Gives (given_message settings q (chain_of q m) kept m)) _ Bear
            (λ given. absurd (true≢false (sym given ∙ not-given)))
            (λ no-answer. cond_both (is_negative_end q (chain_of q m) m) (Misses (nothing_found q m)) _ Bear
            (λ ends. lacking (inl ends) (nothing_found q m) refl refl refl 0)
            (λ no-end. cond_both ((chain_of q m).is_alias && nat_lt depth max_depth)
            (Follows (next_question q (chain_of q m)) (kept_aliases settings q (chain_of q m) kept m))
            (Stops (errors.Dns (dns.NoRecordsFound (nothing_found q m)))) Bear
            (λ both. follow (inr no_rows) (both-true (chain_of q m).is_alias (nat_lt depth max_depth) both).0)
            (λ neither. lacking (inr (inl neither)) (nothing_found q m) refl refl refl (longest_absence config kind))))

        without-answer : error_in m ≡ error_without_answer m → Bear (step_of settings q kept depth (Ok response))
        without-answer e =
            step-by (error_without_answer m) e
            (cond_both (contains_answer m || m.metadata.truncation) None (Some (dns.NoRecordsFound (no_records_in m)))
            (λ (x : Option DnsError). Bear (step_on settings q kept depth (unless_error response x)))
            (λ some. along) (λ missing. lacking (inr (inr missing)) (no_records_in m) refl refl refl 0))

      error-by-existence : (exists : Bool) → error_by_code (cond exists NoError NXDomain) m ≡ error_without_answer m
      error-by-existence true = refl
      error-by-existence false = refl

      -- the records of all sections
      in-no-section : (answers : List Record) → m.answers ≡ answers → All NotFound answers → All NotFound m.authorities → All NotFound (all_records m)
      in-no-section answers is all rest =
          All-append NotFound m.answers (m.authorities ++ m.additionals) (subst (All NotFound) (sym is) all)
          (All-append NotFound m.authorities m.additionals rest (subst (All NotFound) (sym held.holds.additionals) (All-nil NotFound)))

      each-not-found : (rs : List Record) → All Off rs → All NotFound rs
      each-not-found rs off = λ k d less. off-not-found (slice_index_or rs k d) (off k d less)

      no-authorities : m.authorities ≡ [] → All NotFound m.authorities
      no-authorities none = subst (All NotFound) (sym none) (All-nil NotFound)

      -- ---- an answer without the type

      -- where a name has no rows of the type, this is not the SOA type, or the name is not the origin
      not-origin : (row : Row) → rows_at held.rows origin.labels types.SOA ≡ row ∷ [] → type_number kind ≡ 6 → (name : DomainName)
          → rows_at held.rows name.labels kind ≡ [] → same_name origin name ≡ false
      not-origin row there soa name none = by (same_name origin name) refl
        where
          by : (b : Bool) → same_name origin name ≡ b → b ≡ false
          by true same =
              absurd
              (let at-origin : rows_at held.rows name.labels kind ≡ rows_at held.rows origin.labels types.SOA =
              (λ i. unwrap_or (rows_map.get held.rows (sym (names-lower origin name same) i, soa i)) []) in
              let clash : ◌≡◌ {A = List Row} (row ∷ []) [] = sym there ∙ sym at-origin ∙ none in cc)
          by false differs = refl

      soa-not-found : (row : Row) → rows_at held.rows origin.labels types.SOA ≡ row ∷ [] → (aliases : List Record) (end : DomainName)
          → m.answers ≡ aliases → rows_at held.rows q.name.labels kind ≡ [] → rows_at held.rows end.labels kind ≡ []
          → ((c : Chain) → c.name ≡ q.name → (chain_over c aliases).name ≡ end) → (r : Record) → r.name ≡ origin → number_of r ≡ 6 → NotFound r
      soa-not-found row there aliases end answers first last chain r at is = by (type_number kind == 6) refl
        where
          by : (b : Bool) → (type_number kind == 6) ≡ b → NotFound r
          by false other = off-not-found r (of-other 6 (test-other (type_number kind) 6 other) r is)
          by true same =
              let soa : type_number kind ≡ 6 = equal-numbers (type_number kind) 6 same in
              let to : (chain_of q m).name ≡ end =
              ap (λ (c : Chain). c.name) (chain-along (λ e. (let clash : ◌≡◌ {A = ℕ} 6 5 = sym soa ∙ e in omega (arith, clash))))
              ∙ ap (λ (rs : List Record). (chain_over (chain_start q) rs).name) answers ∙ chain (chain_start q) refl in
              let no-end : same_name origin (chain_of q m).name ≡ false =
              not-origin row there soa (chain_of q m).name
              (subst (λ (name : DomainName). rows_at held.rows name.labels kind ≡ []) (sym to) last) in
              let no-name : same_name origin q.name ≡ false = not-origin row there soa q.name first in
              elsewhere-not-found r
              (subst (λ (name : DomainName). same_name name (chain_of q m).name || same_name name q.name ≡ false) (sym at)
              (neither (same_name origin (chain_of q m).name) (same_name origin q.name) no-end no-name))

      lacks-step : (aliases : List Record) (end : DomainName) → All IsAliasRecord aliases → LeadsHere end
          → at_or_below origin.labels end.labels ≡ true → rows_at held.rows q.name.labels kind ≡ [] → rows_at held.rows end.labels kind ≡ []
          → rows_at held.rows end.labels types.CNAME ≡ [] → ((c : Chain) → c.name ≡ q.name → (chain_over c aliases).name ≡ end)
          → HasAliasesTo aliases end
          → answer zone q ≡ record { code = (negative zone end.labels).code; answers = aliases; authorities = authority zone }
          → Bear (step_of settings q kept depth (Ok response))
      lacks-step aliases end all led below first no_row no_alias chain has is =
          let code : m.metadata.response_code ≡ (negative zone end.labels).code = held.holds.code ∙ ap (λ (a : Answer). a.code) is in
          let answers : m.answers ≡ aliases = held.holds.answers ∙ ap (λ (a : Answer). a.answers) is in
          let authorities : m.authorities ≡ authority zone = held.holds.authorities ∙ ap (λ (a : Answer). a.authorities) is in
          let soa = authority-soa zone good in
          let read : IsRead origin soa.row.ttl soa.row.rdata m.authorities =
          subst (IsRead origin soa.row.ttl soa.row.rdata) (sym authorities) soa.read in
          let soa-rows : List Row = rows_at held.rows origin.labels types.SOA in
          without-answer
          (λ reason answer code_is soa_is ttl_is age. as_absence (record {
            owner = end;
            links = led.0;
            led = led.1;
            moment = now;
            rows = held.rows;
            stand = held.stand;
            past = omega arith;
            recent = not-past now (led.0 * longest_absence config kind + age);
            inside = below;
            no_row = no_row;
            no_alias = no_alias;
            code = code_is ∙ code;
            soa_row = soa.row;
            soa_there = soa.there;
            soa = subst (λ (o : Option (generic.Record SOA)). IsSomeAnd o (IsSoaOf origin soa.row)) (sym soa_is) read.soa;
            left = read.left;
            left_is = ttl_is ∙ read.left_is;
            lasts = λ none. omega (arith, read.low);
          }))
          (in-no-section aliases answers (each-not-found aliases (aliases-off aliases end all has))
          (subst (All NotFound) (sym authorities)
          (All-map NotFound (λ (row : Row). record_of origin (authority_row row)) soa-rows
          (λ k d less. soa-not-found soa.row soa.there aliases end answers first no_row chain
          (record_of origin (authority_row (slice_index_or soa-rows k d))) refl (typed-at zone good origin.labels types.SOA k d less))))) first
          (ap (λ (c : ResponseCode). error_by_code c m) code ∙ error-by-existence (some_row_below held.rows end.labels))

      -- ---- an answer at a name from which the question leads on

      no-soa : m.authorities ≡ [] → negative_ttl (soa_in m.authorities) ≡ None
      no-soa is = ap (λ (rs : List Record). negative_ttl (soa_in rs)) is

      -- a link at a name that the question leads to, which is not followed
      linked : (owner : DomainName) (links : ℕ) → IsLed preserves history now kind q.name links owner → LeadsOn held.rows kind owner
          → IsLast preserves origin history now kind owner → m.metadata.response_code ≡ NoError → m.authorities ≡ [] → (answer : NoRecords)
          → answer.response_code ≡ m.metadata.response_code → answer.negative_ttl ≡ negative_ttl (soa_in m.authorities) → (age : ℕ)
          → HasBeenAbsent config preserves origin history age now q answer
      linked owner links led there last code none answer code_is ttl_is age =
          as_link (record {
            owner = owner;
            links = links;
            led = led;
            moment = now;
            rows = held.rows;
            stand = held.stand;
            past = omega arith;
            recent = not-past now (links * longest_absence config kind + age);
            there = there;
            last = last;
            lasts = λ none. omega arith;
          }) (code_is ∙ code) (ttl_is ∙ no-soa none)

      -- one at the name itself, where too many were followed
      too-deep : (chain_of q m).is_alias ≡ true → (chain_of q m).is_alias && nat_lt depth max_depth ≡ false → IsLast preserves origin history now kind q.name
      too-deep alias off =
          let far : 7 ≤ depth = not-less depth 7 (second-off (chain_of q m).is_alias (nat_lt depth max_depth) alias off) in
          inl (record { first = deep.first; before = deep.before; many = (let at : depth ≤ deep.before = deep.far in omega arith); led = deep.led })

      -- no negative answer without an SOA record
      no-negative-end : m.authorities ≡ [] → is_negative_end q (chain_of q m) m ≡ true → ⊥
      no-negative-end none ends =
          let rest : Bool = is_empty (found q (chain_of q m) m) && is_some (soa_in m.authorities) in
          let soa = (both-true (is_empty (found q (chain_of q m) m)) (is_some (soa_in m.authorities))
          (both-true (chain_of q m).is_alias rest ends).1).1 in
          true≢false (sym soa ∙ ap (λ (rs : List Record). is_some (soa_in rs)) none)

      answers-by : (t : RecordType) → type_number t ≢ 255 → is_empty m.answers ≡ false
          → (type_number t ≡ 6 → in_sections (is_soa_above q) m ≡ true) → is_answer_of_type t q m ≡ true
      answers-by types.ANY not_all some above = absurd (not_all refl)
      answers-by types.SOA not_all some above = above refl
      answers-by t not_all some above = ap (λ (b : Bool). not b || in_sections (λ r. has_type t r && is_at q r) m) some

      has-answer : is_empty m.answers ≡ false → (type_number kind ≡ 6 → in_sections (is_soa_above q) m ≡ true) → contains_answer m ≡ true
      has-answer some above =
          ap (list_any (answers_question m)) held.holds.queries
          ∙ or-left (answers_question m q) (list_any (answers_question m) [])
          (answers-by kind (has-rows (type_number kind) 255 has_rows refl) some above)

      -- the chain along aliases
      alias-chain : (aliases more : List Record) → type_number kind ≢ 5 → m.answers ≡ aliases ++ more → GoesAlong q.name aliases
          → (chain_of q m).is_alias ≡ true
      alias-chain aliases more other answers goes =
          ap (λ (c : Chain). c.is_alias) (chain-along other)
          ∙ ap (λ (rs : List Record). (chain_over (chain_start q) rs).is_alias) answers
          ∙ goes (chain_start q) more refl

      -- ---- an answer of aliases alone

      -- where it halts, a lookup of an SOA record ends
      halted : type_number kind ≡ 6 → HasAliasAt zone q.name → type_number kind ≢ 5 → Halts zone LeadsBy → m.metadata.response_code ≡ NoError
          → m.authorities ≡ [] → (answer : NoRecords) → answer.response_code ≡ m.metadata.response_code
          → answer.negative_ttl ≡ negative_ttl (soa_in m.authorities) → (age : ℕ) → HasBeenAbsent config preserves origin history age now q answer
      halted soa has other (inl eighth) code none answer code_is ttl_is age =
          linked eighth.1 eighth.0 eighth.3 (inl (other, eighth.4))
          (inl (record { first = q.name; before = eighth.0; many = eighth.2; led = eighth.3 })) code none answer code_is ttl_is age
      halted soa has other (inr away) code none answer code_is ttl_is age =
          linked q.name 0 (here q.name refl) (inl (other, has))
          (inr (record { soa = soa; end = away.1; links = suc away.0; some = omega arith; led = away.2; away = away.3 })) code none answer code_is
          ttl_is age

      stops-step : (aliases : List Record) → All IsAliasRecord aliases → HasAliasAt zone q.name → type_number kind ≢ 5
          → rows_at held.rows q.name.labels kind ≡ [] → GoesAlong q.name aliases → Halts zone LeadsBy
          → answer zone q ≡ record { code = NoError; answers = aliases; authorities = [] } → Bear (step_of settings q kept depth (Ok response))
      stops-step aliases all has other no_rows goes halts is =
          without-answer lacking
          (in-no-section aliases answers
          (each-not-found aliases (aliases-off aliases q.name all (inr (has, other, no_rows, goes)))) (no-authorities authorities)) no_rows
          (ap (λ (c : ResponseCode). error_by_code c m) code)
        where
          code : m.metadata.response_code ≡ NoError
          code = held.holds.code ∙ ap (λ (a : Answer). a.code) is

          answers : m.answers ≡ aliases
          answers = held.holds.answers ∙ ap (λ (a : Answer). a.answers) is

          authorities : m.authorities ≡ []
          authorities = held.holds.authorities ∙ ap (λ (a : Answer). a.authorities) is

          some : is_empty m.answers ≡ false
          some = ap (λ (rs : List Record). is_empty rs) answers ∙ goes-some q aliases goes

          -- only for an SOA record aliases are no answer
          by : (b : Bool) → (type_number kind == 6) ≡ b → contains_answer m || m.metadata.truncation ≡ false → type_number kind ≡ 6
          by true same missing = equal-numbers (type_number kind) 6 same
          by false differs missing =
              absurd (true≢false
              (sym (has-answer some (λ soa. absurd (test-other (type_number kind) 6 differs soa)))
              ∙ first-off (contains_answer m) m.metadata.truncation missing))

          lacking : GoesNoFurther → (answer : NoRecords) → answer.response_code ≡ m.metadata.response_code
              → answer.soa ≡ as_soa (soa_in m.authorities) → answer.negative_ttl ≡ negative_ttl (soa_in m.authorities) → (age : ℕ)
              → HasBeenAbsent config preserves origin history age now q answer
          lacking (inl ends) answer code_is soa_is ttl_is age = absurd (no-negative-end authorities ends)
          lacking (inr (inl off)) answer code_is soa_is ttl_is age =
              linked q.name 0 (here q.name refl) (inl (other, has))
              (too-deep (alias-chain aliases [] other (answers ∙ sym (append-nil aliases)) goes) off) code authorities answer code_is ttl_is age
          lacking (inr (inr missing)) answer code_is soa_is ttl_is age =
              halted (by (type_number kind == 6) refl missing) has other halts code authorities answer code_is ttl_is age

      -- ---- an answer with the type

      module _ (aliases : List Record) (end : DomainName) (row : Row) (more : List Row) (all : All IsAliasRecord aliases) (led : LeadsHere end)
          (there : rows_at held.rows end.labels kind ≡ row ∷ more) (has : HasAliasesTo aliases end)
          (is : answer zone q ≡ record { code = NoError; answers = aliases ++ map (record_of end) (row ∷ more); authorities = [] }) where
        abbrev Has : List Record → Type 0
        Has rs = Selects kind end (row ∷ more) rs

        code : m.metadata.response_code ≡ NoError
        code = held.holds.code ∙ ap (λ (a : Answer). a.code) is

        authorities : m.authorities ≡ []
        authorities = held.holds.authorities ∙ ap (λ (a : Answer). a.authorities) is

        answers : m.answers ≡ aliases ++ map (record_of end) (row ∷ more)
        answers = held.holds.answers ∙ ap (λ (a : Answer). a.answers) is

        meant : error_in m ≡ error_without_answer m
        meant = ap (λ (c : ResponseCode). error_by_code c m) code

        -- the end of the aliases is fully qualified
        full : end.is_fqdn ≡ true
        full =
            owner-full zone good q held.full (record_of end row)
            (subst (λ (rs : List Record). Contains rs (record_of end row)) (sym (ap (λ (a : Answer). a.answers) is))
            (Contains-append_right aliases (map (record_of end) (row ∷ more)) (record_of end row)
            (contains-head (record_of end row) (map (record_of end) more))))

        typed : All (Typed (type_number kind)) (row ∷ more)
        typed = subst (λ (all : List Row). All (Typed (type_number kind)) all) there (typed-at zone good end.labels kind)

        in-answers : Has m.answers
        in-answers =
            subst Has (sym answers)
            (selects-after kind end (row ∷ more) aliases (map (record_of end) (row ∷ more)) (aliases-off aliases end all has)
            (selects-rows kind end (row ∷ more)
            (λ k d less. numbers-equal _ (type_number kind) (typed k d less))))

        in-all : Has (all_records m)
        in-all =
            let all-is : all_records m ≡ m.answers =
            (λ i. m.answers ++ (authorities i ++ held.holds.additionals i)) ∙ append-nil m.answers in
            subst Has (sym all-is) in-answers

        -- ---- such rows are an answer: an SOA record is that of the zone, which has the name of the question

        soa-above : type_number kind ≡ 6 → is_soa_above q (record_of end row) ≡ true
        soa-above soa =
            let some : rows_at held.rows end.labels kind ≢ [] =
            λ none. (let clash : ◌≡◌ {A = List Row} (row ∷ more) [] = sym there ∙ none in cc) in
            let origin-is : lower origin.labels ≡ lower end.labels =
            labels-lower origin.labels end.labels (soa-at-origin zone good end.labels kind soa some) in
            let above : at_or_below end.labels q.name.labels ≡ true =
            sym (at_or_below-lower origin.labels end.labels q.name.labels q.name.labels origin-is refl) ∙ inside in
            λ i. numbers-equal (number_of (record_of end row)) 6 (typed 0 row (omega arith) ∙ soa) i && above i

        answered : contains_answer m ≡ true
        answered =
            has-answer (selects-some kind end in-answers)
            (λ soa. or-left (list_any (is_soa_above q) m.answers) _
            (ap (list_any (is_soa_above q)) answers
            ∙ list_any-append (is_soa_above q) aliases (map (record_of end) (row ∷ more))
            ∙ or-right (list_any (is_soa_above q) aliases) (list_any (is_soa_above q) (map (record_of end) (row ∷ more)))
            (or-left (is_soa_above q (record_of end row)) (list_any (is_soa_above q) (map (record_of end) more)) (soa-above soa))))

        -- ---- whether the rows are at the end of the links, or at the name that is asked for

        abbrev at_either : Bool
        at_either = is_at_either (chain_of q m).name q (record_of end row)

        at-name : q.name ≡ end → at_either ≡ true
        at-name same =
            or-right (same_name end (chain_of q m).name) (same_name end q.name)
            (subst (λ (name : DomainName). same_name end name ≡ true) (sym same) (same_name-equivalence.refl end))

        -- the question leads on
        leads-on : (chain_of q m).is_alias ≡ true → LeadsOn held.rows kind q.name
        leads-on alias = by has
          where
            start-by : (b : Bool) → aliases ≡ [] → (type_number kind == 33) ≡ false → asks_for_aliases q ≡ b
                → cond b (chain_start q) (chain_over (chain_start q) m.answers) ≡ chain_start q
            start-by true none other asks = refl
            start-by false none other asks =
                ap (chain_over (chain_start q)) (answers ∙ ap (λ (rs : List Record). rs ++ map (record_of end) (row ∷ more)) none)
                ∙ no-links (chain_start q) end (row ∷ more) (type_number kind) typed
                (test-other (type_number kind) 5 (first-off (type_number kind == 5) (type_number kind == 255) asks))
                (test-other (type_number kind) 33 other)

            service-by : (b : Bool) → (type_number kind == 33) ≡ b → aliases ≡ [] → q.name ≡ end → LeadsOn held.rows kind q.name
            service-by true same none at =
                let service : type_number kind ≡ 33 = equal-numbers (type_number kind) 33 same in
                inr (
                  service,
                  λ empty.
                      (let rows-are : rows_at held.rows q.name.labels types.SRV ≡ row ∷ more =
                      (λ i. unwrap_or (rows_map.get held.rows (lower (at i).labels, sym service i)) []) ∙ there in
                      let clash : ◌≡◌ {A = List Row} (row ∷ more) [] = sym rows-are ∙ empty in cc),
                )
            service-by false other none at =
                absurd (true≢false (sym alias ∙ ap (λ (c : Chain). c.is_alias) (start-by (asks_for_aliases q) none other refl)))

            by : HasAliasesTo aliases end → LeadsOn held.rows kind q.name
            by (inl none) = service-by (type_number kind == 33) refl none.0 none.1
            by (inr some) = inl (some.1, some.0)

        -- ---- at neither: nothing is found

        module _ (elsewhere : at_either ≡ false) where
          leads-away : LeadsOn held.rows kind q.name × (rows_at held.rows q.name.labels kind ≡ []) × ((chain_of q m).is_alias ≡ true)
          leads-away = by has
            where
              by : HasAliasesTo aliases end
                  → LeadsOn held.rows kind q.name × (rows_at held.rows q.name.labels kind ≡ []) × ((chain_of q m).is_alias ≡ true)
              by (inl none) = absurd (true≢false (sym (at-name none.1) ∙ elsewhere))
              by (inr some) =
                  (inl (some.1, some.0), some.2, alias-chain aliases (map (record_of end) (row ∷ more)) some.1 answers some.3)

          lacking-away : GoesNoFurther → (answer : NoRecords) → answer.response_code ≡ m.metadata.response_code
              → answer.negative_ttl ≡ negative_ttl (soa_in m.authorities) → (age : ℕ) → HasBeenAbsent config preserves origin history age now q answer
          lacking-away (inl ends) answer code_is ttl_is age = absurd (no-negative-end authorities ends)
          lacking-away (inr (inl off)) answer code_is ttl_is age =
              linked q.name 0 (here q.name refl) leads-away.0 (too-deep leads-away.2 off) code authorities answer code_is ttl_is age
          lacking-away (inr (inr missing)) answer code_is ttl_is age =
              absurd (true≢false (sym answered ∙ first-off (contains_answer m) m.metadata.truncation missing))

          away-step : Bear (step_of settings q kept depth (Ok response))
          away-step =
              without-answer (λ reason answer code_is soa_is ttl_is age. lacking-away reason answer code_is ttl_is age)
              (in-no-section (aliases ++ map (record_of end) (row ∷ more)) answers
              (All-append NotFound aliases (map (record_of end) (row ∷ more)) (each-not-found aliases (aliases-off aliases end all has))
              (All-map NotFound (record_of end) (row ∷ more)
              (λ k d less. elsewhere-not-found (record_of end (slice_index_or (row ∷ more) k d)) elsewhere)))
              (no-authorities authorities)) leads-away.1 meant

        -- ---- at one of them: all of them are found

        module _ (at : at_either ≡ true) where
          row-found : (x : Row) (ttl : ℕ) → has_type kind (record_of end x) ≡ true
              → is_found q (chain_of q m).name (record (record_of end x) { ttl = ttl }) ≡ true
          row-found x ttl typed =
              all-three (has_class q (record_of end x)) (asks_for q (record_of end x)) (is_at_either (chain_of q m).name q (record_of end x))
              (numbers-equal 1 (class_number q.query_class) (sym in_internet))
              (or-right (type_number kind == 255) (has_type kind (record_of end x)) typed) at

          in-found : Has (found q (chain_of q m) m)
          in-found = selects-filter kind end (is_found q (chain_of q m).name) row-found in-all

          given : Has (given_answers settings q (chain_of q m) kept m)
          given =
              cond_both (is_selected settings q (chain_of q m) kept m) (selected_answers settings q (chain_of q m) kept m) m.answers Has
              (λ selected. selects-after kind end (row ∷ more) kept _ kept-off
              (selects-lowered kind end (chain_of q m).ttl
              (selects-filter kind end (λ r. is_found q (chain_of q m).name r || is_kept_alias settings q r)
              (λ x ttl typed. or-left (is_found q (chain_of q m).name (record (record_of end x) { ttl = ttl })) _ (row-found x ttl typed)) in-all)))
              (λ whole. in-answers)

          gives : (range_at config (type_number kind)).least ≡ 0 → HaveStood preserves history (greatest_ttl config kind) now q (map (clamped_record config) (given_message settings q (chain_of q m) kept m).answers)
          gives least = as_set (map (clamped_record config) (given_message settings q (chain_of q m) kept m).answers) (record {
            owner = end;
            full = full;
            links = led.0;
            led = led.1;
            moment = now;
            rows = held.rows;
            stand = held.stand;
            past = omega arith;
            filled = λ empty. (let clash : ◌≡◌ {A = List Row} (row ∷ more) [] = sym there ∙ empty in cc);
            set = subst (λ (all : List Row). HasRows (greatest_ttl config kind) now now end kind all
                (map (clamped_record config) (given_message settings q (chain_of q m) kept m).answers)) (sym there)
                (selects-clamped kind end config now least
                (selects-stripped kind end q refl settings.dnssec_ok
                (record (with_question q m) { answers = given_answers settings q (chain_of q m) kept m })
                (ap (questions_or q) held.holds.queries) given));
          })

          -- what was found is only not returned where the question leads on
          held-back : (b : Bool) → (chain_of q m).is_alias ≡ b → is_given q (chain_of q m) kept m ≡ false → b ≡ true
          held-back true alias off = refl
          held-back false alias off =
              absurd
              (let given-is : is_given q (chain_of q m) kept m ≡ true =
              λ i. not (selects-some kind end in-found i) && (not (alias i) || is_empty kept) in
              true≢false (sym given-is ∙ off))

          -- and where aliases are kept
          preserved : is_given q (chain_of q m) kept m ≡ false → preserves ≡ true
          preserved off = by settings.preserve_intermediates refl
            where
              by : (b : Bool) → settings.preserve_intermediates ≡ b → b ≡ true
              by true on = refl
              by false leaves-out =
                  absurd
                  (let none : kept ≡ [] = are.left_out leaves-out in
                  let given-is : is_given q (chain_of q m) kept m ≡ true =
                  (λ i. not (selects-some kind end in-found i) && (not (chain_of q m).is_alias || is_empty (none i)))
                  ∙ or-right (not (chain_of q m).is_alias) true refl in
                  true≢false (sym given-is ∙ off))

          lacking : is_given q (chain_of q m) kept m ≡ false → (chain_of q m).is_alias && nat_lt depth max_depth ≡ false → (answer : NoRecords)
              → answer.response_code ≡ m.metadata.response_code → answer.negative_ttl ≡ negative_ttl (soa_in m.authorities) → (age : ℕ) → HasBeenAbsent config preserves origin history age now q answer
          lacking off neither answer code_is ttl_is age =
              let alias = held-back (chain_of q m).is_alias refl off in
              linked q.name 0 (here q.name refl) (leads-on alias) (too-deep alias neither) code authorities answer code_is ttl_is age

          along-found : Bear (step_along settings q (chain_of q m) kept depth m)
          along-found =
              cond_both (is_given q (chain_of q m) kept m) (Gives (given_message settings q (chain_of q m) kept m)) _ Bear
              (λ is-given none. gives (none kind))
              (λ no-answer. cond_both (is_negative_end q (chain_of q m) m) (Misses (nothing_found q m)) _ Bear
              (λ ends. absurd (no-negative-end authorities ends))
              (λ no-end. cond_both ((chain_of q m).is_alias && nat_lt depth max_depth)
              (Follows (next_question q (chain_of q m)) (kept_aliases settings q (chain_of q m) kept m))
              (Stops (errors.Dns (dns.NoRecordsFound (nothing_found q m)))) Bear
              (λ both. follow (inl (preserved no-answer)) (both-true (chain_of q m).is_alias (nat_lt depth max_depth) both).0)
              (λ neither. lacking no-answer neither (nothing_found q m) refl refl (longest_absence config kind))))

          found-step : Bear (step_of settings q kept depth (Ok response))
          found-step =
              step-by (error_without_answer m) meant
              (cond_both (contains_answer m || m.metadata.truncation) None (Some (dns.NoRecordsFound (no_records_in m)))
              (λ (x : Option DnsError). Bear (step_on settings q kept depth (unless_error response x)))
              (λ some. along-found)
              (λ missing. absurd (true≢false (sym answered ∙ first-off (contains_answer m) m.metadata.truncation missing))))

        finds-step : Bear (step_of settings q kept depth (Ok response))
        finds-step = by at_either refl
          where
            by : (b : Bool) → at_either ≡ b → Bear (step_of settings q kept depth (Ok response))
            by true at = found-step at
            by false elsewhere = away-step elsewhere

      -- ---- each answer

      ended-step : {a : Answer} → Ended zone kind LeadsBy 0 q.name a → answer zone q ≡ a → Bear (step_of settings q kept depth (Ok response))
      ended-step (finds aliases end row more all links led there has) is = finds-step aliases end row more all (links, led) there has is
      ended-step (lacks aliases end all links led below first no_row no_alias chain has) is =
          lacks-step aliases end all (links, led) below first no_row no_alias chain has is
      ended-step (stops aliases all has other no_rows (inl seven) halts) is = absurd (omega (arith, seven))
      ended-step (stops aliases all has other no_rows (inr goes) halts) is = stops-step aliases all has other no_rows goes halts is

    answered-step : {a : Answer} → Answered zone q LeadsBy a → answer zone q ≡ a → Bear (step_of settings q kept depth (Ok response))
    answered-step (not_implemented refuses) is = coded NotImp refuses (ap (λ (a : Answer). a.code) is) refl
    answered-step (refused refuses) is = coded Refused refuses (ap (λ (a : Answer). a.code) is) refl
    answered-step (ended a has_rows internet inside h) is = ended-step has_rows internet inside h is

    pub response-step : Bear (step_of settings q kept depth (Ok response))
    response-step =
        answered-step
        (answered-by zone good q LeadsBy
        (λ links owner name row more alias other l e is same.
        (lead preserves history now kind q.name held.rows held.stand owner name row more alias other (links, l) e is same).1)
        (here q.name refl) equal-numbers)
        refl

-- ---- each outcome

module _ (chains : (zone : ZoneContent) (q : Query) → IsChain zone.rows q.query_type q.name (answer zone q).answers)
    (origin : DomainName) (options : DnsRequestOptions) (history : List Version) (failed : List Query) (zones : AreZones origin history)
    (config : TtlConfigContent) (settings : LookupSettings) (now : ℕ) where
  -- an outcome that is answered by rows that stand, or an error for a reason
  pub ask-bears : (ask : Ask) → IsAnsweredBy origin history (record { moment = now; ask = ask }) → HasReason options failed ask.question ask.outcome
      → BearOut (λ q at rs. FindsWhole config settings.preserve_intermediates history q at rs)
      (λ q at answer. MissesIndeed config settings.preserve_intermediates origin history q at answer)
      (λ q at answer. LacksIndeed config settings.preserve_intermediates origin history q at answer)
      (λ q at error. FailsIndeed settings.preserve_intermediates origin options history failed q at error)
      (λ depth q. IsDeep settings.preserve_intermediates history now depth q) settings config now ask
  ask-bears ask answered reason = λ kept depth are deep. by ask.outcome refl kept depth are deep
    where
      q : Query
      q = ask.question

      preserves : Bool
      preserves = settings.preserve_intermediates

      failing : (error : NetError) → HasReason options failed q (Err error) → (kept : List Record) (depth : ℕ)
          → Bears chains origin options history failed zones config settings now q depth (step_of settings q kept depth (Err error))
      failing (errors.Dns error) h kept depth = absurd h
      failing (errors.Proto error) h kept depth = absurd h
      failing (errors.Message text) h kept depth = absurd h
      failing (errors.Link fault) h kept depth = record { question = q; leads = leads-here preserves history now q; fails = h }
      failing errors.Unsupported h kept depth = record { question = q; leads = leads-here preserves history now q; no_question = h }
      failing errors.Memory h kept depth = tt

      by : (outcome : Outcome) → ask.outcome ≡ outcome → (kept : List Record) (depth : ℕ)
          → AreKeptAliases settings q kept → IsDeep preserves history now depth q
          → Bears chains origin options history failed zones config settings now q depth (step_of settings q kept depth outcome)
      by (Ok response) e kept depth are deep =
          response-step chains origin options history failed zones config settings now q response (answered response e) kept are depth deep
      by (Err error) e kept depth are deep =
          failing error (subst (λ (o : Outcome). HasReason options failed q o) e reason) kept depth
