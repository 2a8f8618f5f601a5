-- Questions for aliases, for services and for SOA records come to what their walks come to, where a lookup walks from their names.
use Rattle.std.proofs.Common.{◌≡◌, ℕ, ◌==◌, ◌&&◌, ◌||◌, ◌++◌, nat_le, nat_lt, Bool, true, false, cond, not, List, [], ◌∷◌, length, map, filter, Some, None, Ok, All, is_some, unwrap_or, refl, sym, ap, subst, ◌∙◌, slice_index_or, inl, inr, arith}
use Rattle.std.specs.Prelude.{◌⊎◌, IfSome, Option}
use Rattle.std.specs.FinMap as rows_map
use Rattle.std.specs.List.{list_any}
use Rattle.std.proofs.lemmas.Bool.{cond_both, true≢false}
use Rattle.std.proofs.lemmas.Bool.Decides.{nat_tests}
use Rattle.std.proofs.lemmas.List.{append-nil}
use Rattle.std.proofs.lemmas.List.Elements.{All-append, All-cons, All-head, All-map, All-nil, All-tail, filter-append}
use Rattle.std.proofs.lemmas.List.Folds.{list_any-append}
use Rattle.dns_wire.specs.codes.DNSClass.{class_number}
use Rattle.dns_wire.specs.codes.RecordType.{type_number}
use Rattle.dns_wire.specs.declared.codes.record_type.RecordType.{RecordType}
use Rattle.dns_wire.specs.declared.codes.record_type.RecordType.TheVariants as types
use Rattle.dns_names.specs.Compare.{at_or_below, lower, same_labels, same_name}
use Rattle.dns_names.specs.Name.{DomainName}
use Rattle.dns_names.specs.internal.Compare.{same_name-equivalence}
use Rattle.dns_names.proofs.ComparisonLaws.{at_or_below-lower, same_labels-true}
use Rattle.dns_data.specs.declared.rdata.RData.{RData}
use Rattle.dns_data.specs.declared.rdata.RData.TheVariants as of
use Rattle.dns_data.specs.rdata.{data_type}
use Rattle.dns_records.specs.Record.{Record}
use Rattle.dns_records.specs.Rows.{key, rows_at, some_row_below}
use Rattle.dns_records.specs.declared.row.Row.{Row}
use Rattle.dns_messages.specs.Message.{all_records, is_without_dnssec, strip_for, stripped}
use Rattle.dns_messages.specs.Response.{answers_question, contains_answer, has_type, in_sections, is_answer_of_type, is_at, is_empty, is_soa_above, soa_in}
use Rattle.dns_messages.specs.declared.message.Message.{Message}
use Rattle.dns_messages.specs.declared.query.Query.{Query}
use Rattle.dns_messages.specs.declared.response.DnsResponse.{DnsResponse}
use Rattle.dns_messages.specs.declared.response_code.ResponseCode.{ResponseCode}
use Rattle.dns_messages.specs.declared.response_code.ResponseCode.TheVariants.{NoError, NXDomain}
use Rattle.dns_zone.specs.Answer.{answer, authority, authority_row, bare, is_no_row_type, negative, positive, record_of}
use Rattle.dns_zone.specs.Rows.{AreRowsAt, IsZone, ZoneContent}
use Rattle.dns_zone.specs.declared.zone.answer.Answer.{Answer}
use Rattle.dns_zone.proofs.RowLaws.{same_lower}
use Rattle.stub_lookup.specs.Outcome.{error_by_code, error_in, error_without_answer, no_records_in, unless_error}
use Rattle.stub_lookup.specs.declared.error.DnsError.{DnsError}
use Rattle.stub_lookup.specs.declared.error.DnsError.TheVariants as dns
use Rattle.stub_lookup.specs.declared.error.NetError.TheVariants as errors
use Rattle.stub_client.specs.Conclusions.{Finds, Lacks, Refuses, value_of, values}
use Rattle.stub_client.specs.Handle.{Outcome}
use Rattle.stub_client.specs.Step.{asks_for, chain_of, chain_over, chain_start, extended, found, given_answers, given_message, has_class, is_at_either, is_end_found, is_found, is_given, is_kept_alias, is_negative_end, is_selected, kept_aliases, lowered, max_depth, meaning, next_name, next_question, nothing_found, questions_or, selected_answers, step_of, step_on}
use Rattle.stub_client.specs.declared.caching_client.chain.Chain.{Chain}
use Rattle.stub_client.specs.declared.caching_client.step.LookupSettings.{LookupSettings}
use Rattle.stub_client.specs.declared.caching_client.step.Step.{Step}
use Rattle.stub_client.specs.declared.caching_client.step.Step.TheVariants.{Gives, Misses, Stops, Follows}
use Rattle.stub_client.proofs.StepCases.{outcome-cases, reply-cases}
use Rattle.stub_laws.specs.history.Answered.{is_plain, is_plain_number}
use Rattle.stub_laws.proofs.AnswerRowLaws.{Typed, alias-typed, equal-numbers, not-plain, number_of, typed-at}
use Rattle.stub_laws.proofs.ChainLaws.{alias-stays, follows, next-chain}
use Rattle.stub_laws.proofs.EndLaws.{has-soa, is_followed}
use Rattle.stub_laws.proofs.StandLaws.{both-true, names-lower}
use Rattle.stub_laws.specs.walk.Answered.{IsZoneReply}
use Rattle.stub_laws.specs.walk.Walk.{HasNoRows, HasShortAliasesIn, IsDirect, IsOfZone, LeadsAlong, WalksTo, walks_everywhere}
use Rattle.stub_laws.specs.walk.Walk.LeadsAlong.{past_target, to_target}
use Rattle.stub_laws.specs.walk.Walk.Walk.{at_nothing, at_rows}
use Rattle.stub_laws.proofs.CourseLaws.{Ending, HasCourse, Links, answer-course, ends_found, ends_negative, ends_off, never-cut, no_alias, one_alias, plain-rows, walk-along}
use Rattle.stub_laws.proofs.ReadLaws.{all-three, equal-test, filter-all, filter-none, links-end, not-second, or-left, or-right, other-test, over-append, some-after}
use Rattle.stub_laws.proofs.StepLaws.{Bears, is_out}
use Rattle.stub_laws.proofs.WalkLaws.{followed-of, of-zone, others-direct}

-- ---- tests

neither : (a b : Bool) → a ≡ false → b ≡ false → a || b ≡ false
neither a b e f = λ i. e i || f i

parts-false : (a b : Bool) → a || b ≡ false → (a ≡ false) × (b ≡ false)
parts-false true b h = absurd (true≢false h)
parts-false false b h = (refl, h)

not-third : (a b c : Bool) → c ≡ false → a && (b && c) ≡ false
not-third true true c e = e
not-third true false c e = refl
not-third false b c e = refl

and-true : (b : Bool) → b && true ≡ b
and-true true = refl
and-true false = refl

clash : {P : Type 0} (row : Row) (more : List Row) → row ∷ more ≡ [] → P
clash row more e = absurd (let never : ◌≡◌ {A = List Row} (row ∷ more) [] = e in cc)

-- ---- types

not-above : (n : ℕ) → nat_le n 255 ≡ false → nat_lt 255 n ≡ true
not-above n h = grind (arith, nat_tests)

at-most : (n : ℕ) → nat_le 128 n ≡ false → nat_le n 127 ≡ true
at-most n h = grind (arith, nat_tests)

some-type : (n : ℕ) → (n == 0) ≡ false → nat_le 1 n ≡ true
some-type n h = grind (arith, nat_tests)

in-range : (n : ℕ) → (n == 0) ≡ false → (a b : Bool) → nat_le 128 n ≡ a → nat_le n 255 ≡ b → a && b ≡ false
    → (nat_le 1 n && nat_le n 127) || nat_lt 255 n ≡ true
in-range n some true true e f h = absurd (true≢false h)
in-range n some true false e f h = or-right (nat_le 1 n && nat_le n 127) (nat_lt 255 n) (not-above n f)
in-range n some false b e f h =
    or-left (nat_le 1 n && nat_le n 127) (nat_lt 255 n) (λ i. some-type n some i && at-most n e i)

-- a type that rows may have is plain, or that of aliases, of SOA records or of services
data-type : (n : ℕ) → is_no_row_type n ≡ false → is_plain_number n ≡ false → (n ≡ 5) ⊎ ((n ≡ 6) ⊎ (n ≡ 33))
data-type n typed other = by (n == 5) (n == 6) (n == 33) refl refl refl
  where
    by : (a b c : Bool) → (n == 5) ≡ a → (n == 6) ≡ b → (n == 33) ≡ c → (n ≡ 5) ⊎ ((n ≡ 6) ⊎ (n ≡ 33))
    by true b c e f g = inl (equal-numbers n 5 e)
    by false true c e f g = inr (inl (equal-numbers n 6 f))
    by false false true e f g = inr (inr (equal-numbers n 33 g))
    by false false false e f g =
        let above : Bool = nat_le 128 n && nat_le n 255 in
        let first = parts-false (n == 0) ((n == 24) || ((n == 41) || above)) typed in
        let second = parts-false (n == 24) ((n == 41) || above) first.1 in
        let third = parts-false (n == 41) above second.1 in
        let range : (nat_le 1 n && nat_le n 127) || nat_lt 255 n ≡ true =
        in-range n first.0 (nat_le 128 n) (nat_le n 255) refl refl third.1 in
        let plain : is_plain_number n ≡ true = λ i. range i && not (e i || (f i || (second.0 i || (g i || third.0 i)))) in
        absurd (true≢false (sym plain ∙ other))

-- lookups of a type that walk from every name
everywhere-by : (n : ℕ) (m : ℕ) → (m ≡ 5 → ⊥) → is_plain_number m ≡ false → (a b : Bool) → is_plain_number n ≡ a → (n == 5) ≡ b → a || b ≡ true → n ≡ m → ⊥
everywhere-by n m other off true b plain alias h e = not-plain n m plain e off
everywhere-by n m other off false true plain alias h e = other (sym e ∙ equal-numbers n 5 alias)
everywhere-by n m other off false false plain alias h e = true≢false (sym h)

pub everywhere-rows : (kind : RecordType) → walks_everywhere kind ≡ true → is_no_row_type (type_number kind) ≡ false
everywhere-rows kind every = by (is_plain kind) (type_number kind == 5) refl refl every
  where
    by : (a b : Bool) → is_plain kind ≡ a → (type_number kind == 5) ≡ b → a || b ≡ true → is_no_row_type (type_number kind) ≡ false
    by true b plain alias h = plain-rows (type_number kind) plain
    by false true plain alias h = ap is_no_row_type (equal-numbers (type_number kind) 5 alias)
    by false false plain alias h = absurd (true≢false (sym h))

pub everywhere-direct : (zone : ZoneContent) (kind : RecordType) (name : DomainName) → walks_everywhere kind ≡ true → IsDirect zone kind name
everywhere-direct zone kind name every =
    others-direct zone kind name
    (everywhere-by (type_number kind) 6 (λ e. (let never : ◌≡◌ {A = ℕ} 6 5 = e in omega arith)) refl (is_plain kind) (type_number kind == 5) refl refl every)
    (everywhere-by (type_number kind) 33 (λ e. (let never : ◌≡◌ {A = ℕ} 33 5 = e in omega arith)) refl (is_plain kind) (type_number kind == 5) refl refl every)

-- ---- links

module _ (zone : ZoneContent) (t : RecordType) where
  -- there is no alias, or one leads to the end
  links-lead : {n : ℕ} {owner end : DomainName} {records : List Record} → Links zone t n owner records end
      → ((records ≡ []) × (owner ≡ end)) ⊎ LeadsAlong zone t owner end
  links-lead (no_alias owner) = inl (refl, refl)
  links-lead (one_alias n owner row more target records end none e is rest) = inr (by (links-lead rest))
    where
      by : ((records ≡ []) × (target.0 ≡ end)) ⊎ LeadsAlong zone t target.0 end → LeadsAlong zone t owner end
      by (inl here) = subst (LeadsAlong zone t owner) here.1 (to_target owner row more target none e is)
      by (inr leads) = past_target owner row more target end none e is leads

  -- if the end has no rows of the type, the first name has none
  first-bare : {n : ℕ} {owner end : DomainName} {records : List Record} → Links zone t n owner records end → rows_at zone.rows end.labels t ≡ []
      → rows_at zone.rows owner.labels t ≡ []
  first-bare (no_alias owner) h = h
  first-bare (one_alias n owner row more target records end none e is rest) h = none.none

  abbrev IsAlias : Record → Type 0
  IsAlias r = number_of r ≡ 5

  links-aliases : IsZone zone → {n : ℕ} {owner end : DomainName} {records : List Record} → Links zone t n owner records end → All IsAlias records
  links-aliases good (no_alias owner) = All-nil IsAlias
  links-aliases good (one_alias n owner row more target records end none e is rest) =
      All-cons IsAlias (record_of owner row) records (alias-typed zone good t owner row more e) (links-aliases good rest)

  -- a question for aliases follows none
  links-none-of-aliases : type_number t ≡ 5 → {n : ℕ} {owner end : DomainName} {records : List Record} → Links zone t n owner records end
      → (records ≡ []) × (owner ≡ end)
  links-none-of-aliases five (no_alias owner) = (refl, refl)
  links-none-of-aliases five (one_alias n owner row more target records end none e is rest) =
      clash row more
      (sym e ∙ ap (λ (k : ℕ). unwrap_or (rows_map.get zone.rows (lower owner.labels, k)) []) (sym five) ∙ none.none)

  -- where the chain along them has no alias, there are none
  links-bare : {n : ℕ} {owner end : DomainName} {records : List Record} → Links zone t n owner records end → (c : Chain) → c.name ≡ owner
      → (rest : List Record) → (chain_over c (records ++ rest)).is_alias ≡ false → records ≡ []
  links-bare (no_alias owner) c at rest e = refl
  links-bare (one_alias n owner row more target records end none f is links) c at rest e =
      absurd (true≢false (sym (alias-stays (next-chain c row target) (records ++ rest) refl)
      ∙ sym (ap (λ (next : Chain). (chain_over next (records ++ rest)).is_alias) (follows c owner row target is at)) ∙ e))

-- ---- SOA records are at the origin

only-row : (rows : List Row) → length rows ≡ 1 → (row : Row) × (rows ≡ row ∷ [])
only-row [] one = absurd (omega arith)
only-row (row ∷ []) one = (row, refl)
only-row (row ∷ (other ∷ more)) one = absurd (omega arith)

-- they lead no chain on
soa-next : (name : DomainName) (r : Record) (d : RData) → type_number (data_type d) ≡ 6 → next_name name r d ≡ None
soa-next name r (of.CNAME cname) typed = absurd (let never : ◌≡◌ {A = ℕ} 5 6 = typed in omega arith)
soa-next name r (of.SRV service) typed = absurd (let never : ◌≡◌ {A = ℕ} 33 6 = typed in omega arith)
soa-next name r other typed = refl

soa-same : (c : Chain) (owner : DomainName) (rows : List Row) → All (Typed 6) rows → chain_over c (map (record_of owner) rows) ≡ c
soa-same c owner [] all = refl
soa-same c owner (row ∷ rows) all =
    ap (λ (o : Option DomainName). chain_over (extended c row.ttl o) (map (record_of owner) rows))
    (soa-next c.name (record_of owner row) row.rdata (All-head (Typed 6) row rows all))
    ∙ soa-same c owner rows (All-tail (Typed 6) row rows all)

module _ (zone : ZoneContent) (good : IsZone zone) (t : RecordType) (soa : type_number t ≡ 6) where
  soa-at-origin : (name : DomainName) (row : Row) (more : List Row) → rows_at zone.rows name.labels t ≡ row ∷ more
      → lower zone.origin.labels ≡ lower name.labels
  soa-at-origin name row more e =
      same_labels-true zone.origin.labels name.labels
      (sym (same_lower zone.origin.labels name.labels) ∙ by (rows_map.get zone.rows (key name.labels t)) (good.rows (key name.labels t)) e)
    where
      by : (o : Option (List Row)) → IfSome o (AreRowsAt zone.origin (key name.labels t)) → unwrap_or o [] ≡ row ∷ more
          → same_labels zone.origin.labels (lower name.labels) ≡ true
      by None h e = clash row more (sym e)
      by (Some rows) h e = h.soa_at_origin soa

  -- a name without SOA records is not the origin
  not-origin : (row : Row) (more : List Row) → rows_at zone.rows zone.origin.labels types.SOA ≡ row ∷ more → (name : DomainName)
      → rows_at zone.rows name.labels t ≡ [] → same_name zone.origin name ≡ false
  not-origin row more there name none = by (same_name zone.origin name) refl
    where
      by : (b : Bool) → same_name zone.origin name ≡ b → b ≡ false
      by true same =
          clash row more
          (sym there ∙ (λ i. unwrap_or (rows_map.get zone.rows (names-lower zone.origin name same i, sym soa i)) []) ∙ none)
      by false differs = refl

-- ---- the values of records

values-lowered : (most : ℕ) (rs : List Record) → values (map (lowered most) rs) ≡ values rs
values-lowered most [] = refl
values-lowered most (r ∷ rs) = ap (λ (vs : List Record). value_of r ∷ vs) (values-lowered most rs)

-- ---- steps

module _ (zone : ZoneContent) (settings : LookupSettings) (depth : ℕ) (q : Query) where
  -- a step ends at what the walk of the question comes to, and follows no alias
  abbrev EndsAtWalk : Step → Type 0
  EndsAtWalk (Gives m) = WalksTo zone q (Finds (values m.answers))
  EndsAtWalk (Misses answer) = WalksTo zone q (Lacks answer.response_code)
  EndsAtWalk (Stops (errors.Dns (dns.NoRecordsFound answer))) = WalksTo zone q (Lacks answer.response_code)
  EndsAtWalk (Stops (errors.Dns (dns.ResponseCode code))) = WalksTo zone q (Refuses code)
  EndsAtWalk (Stops error) = Unit {0}
  EndsAtWalk (Follows target kept) = ⊥

  -- a question that is followed has the same type
  abbrev HasSameType : Step → Type 0
  HasSameType (Follows target kept) = target.query_type ≡ q.query_type
  HasSameType step = Unit {0}

  same-type : (out : Outcome) → HasSameType (step_on settings q [] depth out)
  same-type out =
      outcome-cases settings q [] depth HasSameType out
      (λ response is. reply-cases settings q [] depth HasSameType response.message (λ given. tt) (λ none ends. tt)
      (λ none no_end alias above. refl) tt)
      (λ answer. tt) (λ error failure is. tt)

  abbrev Premises : Type 0 → Type 0
  Premises claim =
      is_no_row_type (type_number q.query_type) ≡ false → class_number q.query_class ≡ 1 → IsDirect zone q.query_type q.name
      → HasShortAliasesIn zone q.query_type q.name → claim

  ends-bear : is_plain q.query_type ≡ false → (step : Step) → HasSameType step → Premises (EndsAtWalk step) → Bears zone settings depth q step
  ends-bear other (Gives m) same h = h
  ends-bear other (Misses answer) same h = h
  ends-bear other (Stops (errors.Dns (dns.NoRecordsFound answer))) same h = h
  ends-bear other (Stops (errors.Dns (dns.ResponseCode code))) same h = h
  ends-bear other (Stops (errors.Proto error)) same h = tt
  ends-bear other (Stops (errors.Message text)) same h = tt
  ends-bear other (Stops (errors.Link fault)) same h = tt
  ends-bear other (Stops errors.Unsupported) same h = tt
  ends-bear other (Stops errors.Memory) same h = tt
  ends-bear other (Follows target kept) same h = (
    λ plain in_internet short. absurd (true≢false (sym plain ∙ ap is_plain same ∙ other)),
    λ conclusion comes. λ typed in_internet direct short. absurd (h typed in_internet direct short),
  )

  -- ---- a response

  module _ (good : IsZone zone) (typed : is_no_row_type (type_number q.query_type) ≡ false) (in_internet : class_number q.query_class ≡ 1)
      (response : DnsResponse) (reply : IsZoneReply zone q response.message) (course : HasCourse zone q.query_type 0 q.name (answer zone q)) where
    abbrev m : Message
    m = response.message

    abbrev number : ℕ
    number = type_number q.query_type

    abbrev NotFound : Record → Type 0
    NotFound r = is_found q (chain_of q m).name r ≡ false

    step-by : (o : Option DnsError) → error_in m ≡ o → EndsAtWalk (step_on settings q [] depth (unless_error response o))
        → EndsAtWalk (step_of settings q [] depth (Ok response))
    step-by o e h = subst (λ (x : Option DnsError). EndsAtWalk (step_on settings q [] depth (unless_error response x))) (sym e) h

    answers-are : m.answers ≡ course.records ++ course.last.answers
    answers-are = reply.holds.answers ∙ course.answers

    authorities-are : m.authorities ≡ course.last.authorities
    authorities-are = reply.holds.authorities ∙ course.authorities

    not-all : number ≡ 255 → ⊥
    not-all e = true≢false (ap is_no_row_type (sym e) ∙ typed)

    -- the chain along the answers, where the question is not for aliases
    chain-is : (number ≡ 5 → ⊥) → chain_of q m ≡ chain_over (chain_start q) m.answers
    chain-is other =
        ap (λ (b : Bool). cond b (chain_start q) (chain_over (chain_start q) m.answers))
        (neither (number == 5) (number == 255) (other-test number 5 other) (other-test number 255 not-all))

    -- records of other types, and those elsewhere, are not found
    off-not-found : (r : Record) → (number_of r ≡ number → ⊥) → NotFound r
    off-not-found r differs =
        not-second (has_class q r) (asks_for q r) (is_at_either (chain_of q m).name q r)
        (neither (number == 255) (has_type q.query_type r) (other-test number 255 not-all) (other-test (number_of r) number differs))

    elsewhere-not-found : (r : Record) → is_at_either (chain_of q m).name q r ≡ false → NotFound r
    elsewhere-not-found r elsewhere = not-third (has_class q r) (asks_for q r) (is_at_either (chain_of q m).name q r) elsewhere

    -- the aliases of the answer are not found
    aliases-not-found : All NotFound course.records
    aliases-not-found = by (number == 5) refl
      where
        by : (b : Bool) → (number == 5) ≡ b → All NotFound course.records
        by true same =
            subst (All NotFound) (sym (links-none-of-aliases zone q.query_type (equal-numbers number 5 same) course.links).0) (All-nil NotFound)
        by false other = λ k d less.
            off-not-found (slice_index_or course.records k d)
            (λ e. true≢false (sym (equal-test number 5 (sym e ∙ links-aliases zone q.query_type good course.links k d less)) ∙ other))

    -- ---- a negative answer

    module _ (none : rows_at zone.rows course.end.labels q.query_type ≡ []) (is : course.last ≡ negative zone course.end.labels) where
      abbrev soa_rows : List Row
      soa_rows = rows_at zone.rows zone.origin.labels types.SOA

      -- the SOA record of the answer is not found
      soa-not-found : All NotFound (authority zone)
      soa-not-found =
          All-map NotFound (λ (row : Row). record_of zone.origin (authority_row row)) soa_rows
          (λ k d less. by (number == 6) refl (record_of zone.origin (authority_row (slice_index_or soa_rows k d))) refl
          (typed-at zone good zone.origin.labels types.SOA k d less))
        where
          no-origin : number ≡ 6 → (name : DomainName) → rows_at zone.rows name.labels q.query_type ≡ [] → same_name zone.origin name ≡ false
          no-origin soa name empty =
              let one = only-row soa_rows good.soa in
              not-origin zone good q.query_type soa one.0 [] one.1 name empty

          to-end : number ≡ 6 → (chain_of q m).name ≡ course.end
          to-end soa =
              ap (λ (c : Chain). c.name) (chain-is (λ e. (let never : ◌≡◌ {A = ℕ} 6 5 = sym soa ∙ e in omega arith)))
              ∙ ap (λ (rs : List Record). (chain_over (chain_start q) rs).name)
              (answers-are ∙ ap (λ (a : Answer). course.records ++ a.answers) is ∙ append-nil course.records)
              ∙ links-end course.links (chain_start q) refl

          by : (b : Bool) → (number == 6) ≡ b → (r : Record) → r.name ≡ zone.origin → number_of r ≡ 6 → NotFound r
          by true same r at is_soa =
              let soa : number ≡ 6 = equal-numbers number 6 same in
              elsewhere-not-found r
              (subst (λ (name : DomainName). same_name name (chain_of q m).name || same_name name q.name ≡ false) (sym at)
              (neither (same_name zone.origin (chain_of q m).name) (same_name zone.origin q.name)
              (no-origin soa (chain_of q m).name
              (subst (λ (name : DomainName). rows_at zone.rows name.labels q.query_type ≡ []) (sym (to-end soa)) none))
              (no-origin soa q.name (first-bare zone q.query_type course.links none))))
          by false other r at is_soa = off-not-found r (λ e. true≢false (sym (equal-test number 6 (sym e ∙ is_soa)) ∙ other))

      nowhere : All NotFound (all_records m)
      nowhere =
          All-append NotFound m.answers (m.authorities ++ m.additionals)
          (subst (All NotFound) (sym (answers-are ∙ ap (λ (a : Answer). course.records ++ a.answers) is ∙ append-nil course.records)) aliases-not-found)
          (All-append NotFound m.authorities m.additionals
          (subst (All NotFound) (sym (authorities-are ∙ ap (λ (a : Answer). a.authorities) is)) soa-not-found)
          (subst (All NotFound) (sym reply.holds.additionals) (All-nil NotFound)))

      none-found : found q (chain_of q m) m ≡ []
      none-found = filter-none (is_found q (chain_of q m).name) (all_records m) nowhere

      not-given : is_given q (chain_of q m) [] m ≡ false
      not-given = ap (λ (rs : List Record). not (is_empty rs) && (not (chain_of q m).is_alias || is_empty {X = Record} [])) none-found

      has-soa-record : is_some (soa_in m.authorities) ≡ true
      has-soa-record =
          ap (λ (rs : List Record). is_some (soa_in rs)) (authorities-are ∙ ap (λ (a : Answer). a.authorities) is) ∙ has-soa zone good

      negative-end : is_negative_end q (chain_of q m) m ≡ (chain_of q m).is_alias
      negative-end = (λ i. (chain_of q m).is_alias && (is_empty (none-found i) && has-soa-record i)) ∙ and-true (chain_of q m).is_alias

      code : m.metadata.response_code ≡ (negative zone course.end.labels).code
      code = reply.holds.code ∙ course.code ∙ ap (λ (a : Answer). a.code) is

      error-by-existence : (exists : Bool) → error_by_code (cond exists NoError NXDomain) m ≡ error_without_answer m
      error-by-existence true = refl
      error-by-existence false = refl

      lacks-ends : WalksTo zone q (Lacks m.metadata.response_code) → EndsAtWalk (step_of settings q [] depth (Ok response))
      lacks-ends lacks =
          step-by (error_without_answer m)
          (ap (λ (c : ResponseCode). error_by_code c m) code ∙ error-by-existence (some_row_below zone.rows course.end.labels))
          (cond_both (contains_answer m || m.metadata.truncation) None (Some (dns.NoRecordsFound (no_records_in m)))
          (λ (x : Option DnsError). EndsAtWalk (step_on settings q [] depth (unless_error response x)))
          (λ some. cond_both (is_given q (chain_of q m) [] m) (Gives (given_message settings q (chain_of q m) [] m)) _ EndsAtWalk
          (λ given. absurd (true≢false (sym given ∙ not-given)))
          (λ not_given. cond_both (is_negative_end q (chain_of q m) m) (Misses (nothing_found q m)) _ EndsAtWalk (λ end. lacks)
          (λ no_end. cond_both ((chain_of q m).is_alias && nat_lt depth max_depth)
          (Follows (next_question q (chain_of q m)) (kept_aliases settings q (chain_of q m) [] m))
          (Stops (errors.Dns (dns.NoRecordsFound (nothing_found q m)))) EndsAtWalk
          (λ both. absurd (true≢false (sym (both-true (chain_of q m).is_alias (nat_lt depth max_depth) both).0 ∙ sym negative-end ∙ no_end)))
          (λ neither. lacks))))
          (λ missing. lacks))

      negative-ends : HasNoRows zone q.query_type course.end → rows_at zone.rows course.end.labels types.CNAME ≡ []
          → EndsAtWalk (step_of settings q [] depth (Ok response))
      negative-ends bare no_aliases =
          lacks-ends (subst (λ (c : ResponseCode). WalksTo zone q (Lacks c)) (sym code)
          (walk-along 7 course.links (omega (arith, course.few)) (λ left. at_nothing left course.end bare no_aliases)))

    -- ---- rows at the name, or at the end of the aliases

    module _ (row : Row) (more : List Row) (are : rows_at zone.rows course.end.labels q.query_type ≡ row ∷ more)
        (is : course.last ≡ positive course.end (row ∷ more)) (at : same_name course.end (chain_of q m).name || same_name course.end q.name ≡ true) where
      abbrev rows : List Record
      rows = map (record_of course.end) (row ∷ more)

      typed-rows : All (Typed number) (row ∷ more)
      typed-rows = subst (λ (all : List Row). All (Typed number) all) are (typed-at zone good course.end.labels q.query_type)

      whole-answers : m.answers ≡ course.records ++ rows
      whole-answers = answers-are ∙ ap (λ (a : Answer). course.records ++ a.answers) is

      no-authorities : m.authorities ≡ []
      no-authorities = authorities-are ∙ ap (λ (a : Answer). a.authorities) is

      all-is : all_records m ≡ course.records ++ rows
      all-is = (λ i. m.answers ++ (no-authorities i ++ reply.holds.additionals i)) ∙ append-nil m.answers ∙ whole-answers

      rows-kept : (p : Record → Bool) → All (λ r. p r ≡ false) course.records
          → ((x : Row) → Typed number x → p (record_of course.end x) ≡ true) → filter p (all_records m) ≡ rows
      rows-kept p none keeps =
          ap (filter p) all-is ∙ filter-append p course.records rows
          ∙ ap (λ (rs : List Record). rs ++ filter p rows) (filter-none p course.records none)
          ∙ filter-all p rows (All-map (λ r. p r ≡ true) (record_of course.end) (row ∷ more) (λ k d less. keeps _ (typed-rows k d less)))

      row-found : (x : Row) → Typed number x → is_found q (chain_of q m).name (record_of course.end x) ≡ true
      row-found x is_typed =
          all-three (has_class q (record_of course.end x)) (asks_for q (record_of course.end x))
          (is_at_either (chain_of q m).name q (record_of course.end x))
          (equal-test 1 (class_number q.query_class) (sym in_internet))
          (or-right (number == 255) (has_type q.query_type (record_of course.end x))
          (equal-test (number_of (record_of course.end x)) number is_typed)) at

      rows-found : found q (chain_of q m) m ≡ rows
      rows-found = rows-kept (is_found q (chain_of q m).name) aliases-not-found row-found

      rows-given : is_given q (chain_of q m) [] m ≡ true
      rows-given =
          ap (λ (rs : List Record). not (is_empty rs) && (not (chain_of q m).is_alias || is_empty {X = Record} [])) rows-found
          ∙ or-right (not (chain_of q m).is_alias) true refl

      module _ (off : settings.preserve_intermediates ≡ false) (bare-if : is_selected settings q (chain_of q m) [] m ≡ false → course.records ≡ [])
          (above : number ≡ 6 → in_sections (is_soa_above q) m ≡ true) where
        -- these are records of the type, and the rows, TTLs aside
        record AreRows (rs : List Record) : Type 0 where
          all_typed : All (λ r. number_of r ≡ number) rs
          same : values rs ≡ values rows

        rows-themselves : AreRows rows
        rows-themselves = record { all_typed = All-map (λ r. number_of r ≡ number) (record_of course.end) (row ∷ more) typed-rows; same = refl }

        rows-lowered : (most : ℕ) → AreRows (map (lowered most) rows)
        rows-lowered most = record {
          all_typed = All-map (λ r. number_of r ≡ number) (lowered most) rows rows-themselves.all_typed;
          same = values-lowered most rows;
        }

        aliases-kept-not : All (λ r. is_found q (chain_of q m).name r || is_kept_alias settings q r ≡ false) course.records
        aliases-kept-not = λ k d less.
            (λ i. aliases-not-found k d less i
            || (off i && (has_class q (slice_index_or course.records k d) && has_type types.CNAME (slice_index_or course.records k d))))

        given-rows : AreRows (given_answers settings q (chain_of q m) [] m)
        given-rows = by (is_selected settings q (chain_of q m) [] m) refl
          where
            by : (b : Bool) → is_selected settings q (chain_of q m) [] m ≡ b → AreRows (given_answers settings q (chain_of q m) [] m)
            by true e =
                let same : given_answers settings q (chain_of q m) [] m ≡ map (lowered (chain_of q m).ttl) rows =
                ap (λ (b : Bool). cond b (selected_answers settings q (chain_of q m) [] m) m.answers) e
                ∙ ap (map (lowered (chain_of q m).ttl))
                (rows-kept (λ r. is_found q (chain_of q m).name r || is_kept_alias settings q r) aliases-kept-not
                (λ x is_typed. or-left (is_found q (chain_of q m).name (record_of course.end x)) (is_kept_alias settings q (record_of course.end x))
                (row-found x is_typed))) in
                subst AreRows (sym same) (rows-lowered (chain_of q m).ttl)
            by false e =
                let same : given_answers settings q (chain_of q m) [] m ≡ rows =
                ap (λ (b : Bool). cond b (selected_answers settings q (chain_of q m) [] m) m.answers) e
                ∙ whole-answers ∙ ap (λ (rs : List Record). rs ++ rows) (bare-if e) in
                subst AreRows (sym same) rows-themselves

        -- records of the type are not stripped
        whole : (secure : Bool) (x : Message) → x.queries ≡ q ∷ [] → All (λ r. number_of r ≡ number) x.answers → (stripped secure x).answers ≡ x.answers
        whole true x asked all = refl
        whole false x asked all =
            ap (λ (qs : List Query). (strip_for qs x).answers) asked
            ∙ filter-all (is_without_dnssec q.query_type) x.answers
            (λ k d less. or-left _ _ (equal-test _ number (all k d less)))

        given-values : values (given_message settings q (chain_of q m) [] m).answers ≡ values rows
        given-values =
            ap values (whole settings.dnssec_ok
            (record m { queries = questions_or q m.queries; answers = given_answers settings q (chain_of q m) [] m })
            (ap (questions_or q) reply.repeats) given-rows.all_typed)
            ∙ given-rows.same

        -- ---- the message contains an answer

        answers-by : (t : RecordType) → (type_number t ≡ 255 → ⊥) → is_empty m.answers ≡ false
            → (type_number t ≡ 6 → in_sections (is_soa_above q) m ≡ true) → is_answer_of_type t q m ≡ true
        answers-by types.ANY not_all some up = absurd (not_all refl)
        answers-by types.SOA not_all some up = up refl
        answers-by t not_all some up = ap (λ (b : Bool). not b || in_sections (λ r. has_type t r && is_at q r) m) some

        has-answer : contains_answer m ≡ true
        has-answer =
            ap (list_any (answers_question m)) reply.repeats
            ∙ or-left (answers_question m q) (list_any (answers_question m) [])
            (answers-by q.query_type not-all
            (ap (λ (rs : List Record). is_empty rs) whole-answers
            ∙ some-after course.records (record_of course.end row) (map (record_of course.end) more)) above)

        no-error : error_in m ≡ None
        no-error =
            ap (λ (c : ResponseCode). error_by_code c m) (reply.holds.code ∙ course.code ∙ ap (λ (a : Answer). a.code) is)
            ∙ ap (λ (b : Bool). cond (b || m.metadata.truncation) None (Some (dns.NoRecordsFound (no_records_in m)))) has-answer

        rows-end : IsOfZone zone q.query_type course.end → EndsAtWalk (step_of settings q [] depth (Ok response))
        rows-end of_zone =
            step-by None no-error
            (cond_both (is_given q (chain_of q m) [] m) (Gives (given_message settings q (chain_of q m) [] m)) _ EndsAtWalk
            (λ given. subst (λ (vs : List Record). WalksTo zone q (Finds vs)) (sym given-values)
            (walk-along 7 course.links (omega (arith, course.few)) (λ left. at_rows left course.end row more of_zone are)))
            (λ none. absurd (true≢false (sym rows-given ∙ none))))

    -- ---- each type

    -- rows at the name of the question itself
    here-ends : settings.preserve_intermediates ≡ false → (row : Row) (more : List Row)
        → rows_at zone.rows course.end.labels q.query_type ≡ row ∷ more → course.last ≡ positive course.end (row ∷ more)
        → IsOfZone zone q.query_type course.end → course.records ≡ [] → q.name ≡ course.end → (number ≡ 6 → ⊥)
        → EndsAtWalk (step_of settings q [] depth (Ok response))
    here-ends off row more are is of_zone bare here no_soa =
        rows-end row more are is
        (or-right (same_name course.end (chain_of q m).name) (same_name course.end q.name)
        (subst (λ (name : DomainName). same_name course.end name ≡ true) (sym here) (same_name-equivalence.refl course.end)))
        off (λ e. bare) (λ soa. absurd (no_soa soa)) of_zone

    -- the SOA record, at the end of aliases, too
    soa-ends : settings.preserve_intermediates ≡ false → at_or_below zone.origin.labels q.name.labels ≡ true → number ≡ 6 → (row : Row) (more : List Row)
        → rows_at zone.rows course.end.labels q.query_type ≡ row ∷ more → course.last ≡ positive course.end (row ∷ more)
        → IsOfZone zone q.query_type course.end → EndsAtWalk (step_of settings q [] depth (Ok response))
    soa-ends off inside soa row more are is of_zone = rows-end row more are is at off bare-if above of_zone
      where
        not-five : number ≡ 5 → ⊥
        not-five e = let never : ◌≡◌ {A = ℕ} 6 5 = sym soa ∙ e in omega arith

        rows-here : List Record
        rows-here = map (record_of course.end) (row ∷ more)

        no-next : (c : Chain) (xs : List Row) → All (Typed number) xs → chain_over c (map (record_of course.end) xs) ≡ c
        no-next c xs all = soa-same c course.end xs (subst (λ (n : ℕ). All (Typed n) xs) soa all)

        over-rows : (c : Chain) → chain_over c rows-here ≡ c
        over-rows c =
            no-next c (row ∷ more)
            (subst (λ (all : List Row). All (Typed number) all) are (typed-at zone good course.end.labels q.query_type))

        chain-along : chain_of q m ≡ chain_over (chain_start q) course.records
        chain-along =
            chain-is not-five
            ∙ ap (chain_over (chain_start q)) (answers-are ∙ ap (λ (a : Answer). course.records ++ a.answers) is)
            ∙ over-append (chain_start q) course.records rows-here
            ∙ over-rows (chain_over (chain_start q) course.records)

        to-end : (chain_of q m).name ≡ course.end
        to-end = ap (λ (c : Chain). c.name) chain-along ∙ links-end course.links (chain_start q) refl

        at-end : same_name course.end (chain_of q m).name ≡ true
        at-end = subst (λ (name : DomainName). same_name course.end name ≡ true) (sym to-end) (same_name-equivalence.refl course.end)

        at : same_name course.end (chain_of q m).name || same_name course.end q.name ≡ true
        at = or-left (same_name course.end (chain_of q m).name) (same_name course.end q.name) at-end

        end-found : is_end_found q (chain_of q m) m ≡ true
        end-found =
            ap (list_any (λ r. same_name r.name (chain_of q m).name)) (rows-found row more are is at)
            ∙ or-left (same_name course.end (chain_of q m).name) (list_any (λ r. same_name r.name (chain_of q m).name) (map (record_of course.end) more)) at-end

        bare-by : (b : Bool) → (chain_of q m).is_alias ≡ b → is_selected settings q (chain_of q m) [] m ≡ false → course.records ≡ []
        bare-by true alias e =
            absurd (true≢false (sym (λ i. alias i && (end-found i && not (off i))) ∙ e))
        bare-by false alias e =
            links-bare zone q.query_type course.links (chain_start q) refl []
            (ap (λ (rs : List Record). (chain_over (chain_start q) rs).is_alias) (append-nil course.records)
            ∙ sym (ap (λ (c : Chain). c.is_alias) chain-along) ∙ alias)

        bare-if : is_selected settings q (chain_of q m) [] m ≡ false → course.records ≡ []
        bare-if e = bare-by (chain_of q m).is_alias refl e

        below : at_or_below course.end.labels q.name.labels ≡ true
        below =
            at_or_below-lower course.end.labels zone.origin.labels q.name.labels q.name.labels
            (sym (soa-at-origin zone good q.query_type soa course.end row more are)) refl ∙ inside

        typed-six : number_of (record_of course.end row) ≡ 6
        typed-six = typed-rows row more are is at 0 row (omega arith) ∙ soa

        is-above : is_soa_above q (record_of course.end row) ≡ true
        is-above = λ i. equal-test (number_of (record_of course.end row)) 6 typed-six i && below i

        above : number ≡ 6 → in_sections (is_soa_above q) m ≡ true
        above e =
            or-left (list_any (is_soa_above q) m.answers) (list_any (is_soa_above q) m.authorities || list_any (is_soa_above q) m.additionals)
            (ap (list_any (is_soa_above q)) (whole-answers row more are is at) ∙ list_any-append (is_soa_above q) course.records rows-here
            ∙ or-right (list_any (is_soa_above q) course.records) (list_any (is_soa_above q) rows-here)
            (or-left (is_soa_above q (record_of course.end row)) (list_any (is_soa_above q) (map (record_of course.end) more)) is-above))

    -- the answer, where a lookup walks from the name
    module _ (off : settings.preserve_intermediates ≡ false) (other : is_plain q.query_type ≡ false)
        (inside : at_or_below zone.origin.labels q.name.labels ≡ true) (followed : is_followed zone.origin q.name ≡ true)
        (direct : IsDirect zone q.query_type q.name) where
      found-ends : (row : Row) (more : List Row) → IsOfZone zone q.query_type course.end
          → rows_at zone.rows course.end.labels q.query_type ≡ row ∷ more → course.last ≡ positive course.end (row ∷ more)
          → EndsAtWalk (step_of settings q [] depth (Ok response))
      found-ends row more of_zone are is = by (data-type number typed other)
        where
          by-links : number ≡ 33 → ((course.records ≡ []) × (q.name ≡ course.end)) ⊎ LeadsAlong zone q.query_type q.name course.end
              → EndsAtWalk (step_of settings q [] depth (Ok response))
          by-links service (inl here) =
              here-ends off row more are is of_zone here.0 here.1 (λ e. (let never : ◌≡◌ {A = ℕ} 33 6 = sym service ∙ e in omega arith))
          by-links service (inr leads) = clash row more (sym are ∙ (direct.services service course.end leads).none)

          by : (number ≡ 5) ⊎ ((number ≡ 6) ⊎ (number ≡ 33)) → EndsAtWalk (step_of settings q [] depth (Ok response))
          by (inl alias) =
              let here = links-none-of-aliases zone q.query_type alias course.links in
              here-ends off row more are is of_zone here.0 here.1 (λ e. (let never : ◌≡◌ {A = ℕ} 5 6 = sym alias ∙ e in omega arith))
          by (inr (inl soa)) = soa-ends off inside soa row more are is of_zone
          by (inr (inr service)) = by-links service (links-lead zone q.query_type course.links)

      -- no alias leads off
      never-off : is_followed zone.origin course.end ≡ false → ⊥
      never-off leaves = by (data-type number typed other)
        where
          here-off : q.name ≡ course.end → ⊥
          here-off same = true≢false (sym followed ∙ ap (is_followed zone.origin) same ∙ leaves)

          there-off : IsOfZone zone q.query_type course.end → ⊥
          there-off of_zone = true≢false (sym (followed-of zone q.query_type course.end of_zone) ∙ leaves)

          by-links : ((course.records ≡ []) × (q.name ≡ course.end)) ⊎ LeadsAlong zone q.query_type q.name course.end
              → (LeadsAlong zone q.query_type q.name course.end → IsOfZone zone q.query_type course.end) → ⊥
          by-links (inl here) stays = here-off here.1
          by-links (inr leads) stays = there-off (stays leads)

          by : (number ≡ 5) ⊎ ((number ≡ 6) ⊎ (number ≡ 33)) → ⊥
          by (inl alias) = here-off (links-none-of-aliases zone q.query_type alias course.links).1
          by (inr (inl soa)) = by-links (links-lead zone q.query_type course.links) (λ leads. direct.soa soa course.end leads)
          by (inr (inr service)) = by-links (links-lead zone q.query_type course.links) (λ leads. (direct.services service course.end leads).is_there)

      ends-at-walk : EndsAtWalk (step_of settings q [] depth (Ok response))
      ends-at-walk = by course.ending refl
        where
          by : {last : Answer} → Ending zone q.query_type course.end last → course.last ≡ last → EndsAtWalk (step_of settings q [] depth (Ok response))
          by (ends_found row more of_zone are) is = found-ends row more of_zone are is
          by (ends_negative none e) is = negative-ends none.none is none e
          by (ends_off leaves) is = absurd (never-off leaves)

  pub direct-bears : IsZone zone → settings.preserve_intermediates ≡ false → is_no_row_type (type_number q.query_type) ≡ false
      → class_number q.query_class ≡ 1 → is_plain q.query_type ≡ false → (response : DnsResponse) → IsZoneReply zone q response.message
      → is_out zone q ≡ false → is_followed zone.origin q.name ≡ true → Bears zone settings depth q (step_of settings q [] depth (Ok response))
  direct-bears good off typed in_internet other response reply out followed =
      ends-bear other (step_of settings q [] depth (Ok response)) (same-type (meaning (Ok response)))
      (λ again class direct short. elim (answer-course zone q typed good out followed) [
        | inl course ↦ ends-at-walk good typed in_internet response reply course off other
            (both-true (at_or_below zone.origin.labels q.name.labels) _ followed).0 followed direct
        | inr cut ↦ absurd (never-cut zone good q.query_type q.name (answer zone q) cut (short (of-zone zone q.query_type q.name followed)))
      ])
