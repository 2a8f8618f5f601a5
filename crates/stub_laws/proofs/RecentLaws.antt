-- Every answer of a plain type that was asked for is recent, by any bounds of TTLs, if each response holds an answer that stood.
use Rattle.std.proofs.Common.{cond, ◌≡◌, ◌≢◌, ℕ, suc, ◌+◌, ◌-◌, ◌*◌, ◌<◌, ◌≤◌, ◌==◌, ◌||◌, ◌++◌, ◌⊎◌, min, nat_le, Bool, true, false, List, [], ◌∷◌, map, filter, Option, Some, None, Ok, Err, All, IfSome, Contains, refl, sym, ap, subst, ◌∙◌, inl, inr, arith, slice_index_or}
use Rattle.std.specs.BTreeMap.{is_at}
use Rattle.std.specs.List.{find}
use Rattle.std.specs.Map.{lookup}
use Rattle.std.specs.Option.{unwrap_or}
use Rattle.std.specs.Ordering.{nat_cmp}
use Rattle.std.proofs.Math.Nat.{suc-mul}
use Rattle.std.proofs.lemmas.Bool.{cond_both}
use Rattle.std.proofs.lemmas.Bool.Decides.{nat_tests}
use Rattle.std.proofs.lemmas.List.Elements.{All-nil, All-cons, All-head, All-tail, All-append, All-contains, All-filter, All-map, All-weaker, Contains-append_left, Contains-append_right, Contains-get_or, filter_passes}
use Rattle.std.proofs.lemmas.Nat.{mul-le}
use Rattle.dns_wire.specs.codes.RecordType.{type_number}
use Rattle.dns_wire.specs.declared.codes.record_type.RecordType.{RecordType}
use Rattle.dns_wire.specs.declared.codes.record_type.RecordType.TheVariants as types
use Rattle.dns_names.specs.Name.{DomainName}
use Rattle.dns_data.specs.rdata.{data_type}
use Rattle.dns_records.specs.Record.{Record, after_seconds}
use Rattle.dns_records.specs.Rows.{Rows, row_of, rows_at, type_of_record}
use Rattle.dns_records.specs.declared.row.Row.{Row}
use Rattle.dns_messages.specs.Message.{all_records, is_without_dnssec, strip_for, stripped}
use Rattle.dns_messages.specs.Response.{has_type}
use Rattle.dns_messages.specs.declared.message.Message.{Message}
use Rattle.dns_messages.specs.declared.query.Query.{Query}
use Rattle.dns_messages.specs.declared.response.DnsResponse.{DnsResponse}
use Rattle.dns_zone.specs.Answer.{IsChain, answer, record_of}
use Rattle.dns_zone.specs.Answer.IsChain.{found, stops, last, leads}
use Rattle.dns_zone.specs.Rows.{IsZone, ZoneContent}
use Rattle.stub_lookup.specs.declared.error.DnsError.TheVariants as dns
use Rattle.stub_lookup.specs.declared.error.NetError.TheVariants as errors
use Rattle.stub_cache.specs.Cache.{CacheContent, Kept, aged, current, entry_of, is_about, is_current, same_key, storing}
use Rattle.stub_cache.specs.Ttl.{TtlConfigContent, TtlRange, bounds_of, clamp, clamped, clamped_record, deciding_records, least_ttl, lesser, lifetime_within, positive_lifetime, positive_range}
use Rattle.stub_cache.specs.declared.cache.entry.Entry.{Entry}
use Rattle.stub_client.specs.Handle.{Ask, Outcome}
use Rattle.stub_client.specs.Laws.{EachOf}
use Rattle.stub_client.specs.Looks.{IsAnsweredHere, Looks, Proceeds, Reply, Stores, cached_reply, given_reply, kept_of, negative}
use Rattle.stub_client.specs.SpecialNames.{special_answer}
use Rattle.stub_client.specs.Step.{asks_for_aliases, chain_of, chain_over, chain_start, given_answers, is_found, is_kept_alias, is_selected, kept_aliases, lowered, meaning, next_question, selected_answers, step_of, with_question}
use Rattle.stub_client.specs.declared.caching_client.step.LookupSettings.{LookupSettings}
use Rattle.stub_client.specs.declared.caching_client.step.Step.{Step}
use Rattle.stub_client.specs.declared.caching_client.step.Step.TheVariants.{Gives, Misses, Stops, Follows}
use Rattle.stub_client.specs.declared.special_names.SpecialAnswer.{SpecialAnswer}
use Rattle.stub_client.specs.declared.special_names.SpecialAnswer.TheVariants.{Ordinary, Loopback, Nothing}
use Rattle.stub_client.proofs.ClaimSteps.{is-alias}
use Rattle.stub_client.proofs.EntriesLaws.{all-inserted, found-entry, if-some-map}
use Rattle.stub_client.proofs.PassingLaws.{SameSettings, settings-stay}
use Rattle.stub_client.proofs.RecordsLaws.{each-front, each-unfilter, numbers-equal, or-left}
use Rattle.stub_client.proofs.StepCases.{both-true, outcome-cases, reply-cases}
use Rattle.stub_link.specs.LinkState.{Version}
use Rattle.stub_laws.specs.history.Answered.{AreZones, HoldsAnswerAt, IsAnsweredBy, is_plain, is_plain_number, zone_with}
use Rattle.stub_laws.specs.history.Stands.{AreSame, StandAt}
use Rattle.stub_laws.specs.answers.Sources.{EntryIsRecent, IsOfHost, IsRecent, IsRecentFor, KeptIsRecent, ReplyIsRecent, range_of_record}
use Rattle.stub_laws.specs.answers.Standing.{IsLed}
use Rattle.stub_laws.specs.answers.Standing.IsLed.{here}
use Rattle.stub_laws.proofs.AnswerRowLaws.{IsAnswerRow, IsRowOf, answer-rows, equal-numbers, not-plain, number_of, zone-of-rows}
use Rattle.stub_laws.proofs.FreshLaws.{in-answers, meant, range_at, same-names, same-numbers}
use Rattle.stub_laws.proofs.LeadingLaws.{IsService, Leads, LeadsTo, chain-leads, lead}
use Rattle.stub_laws.proofs.StandingLaws.{led-later, led-respelled, led-through}

le-true : (m n : ℕ) → nat_le m n ≡ true → m ≤ n
le-true m n h = grind (arith, nat_tests)

-- ---- sums

-- one link more has room for the least TTL
longer : (few many least : ℕ) → suc few ≤ many → few * least + least ≤ many * least
longer few many least less = subst (λ (x : ℕ). x ≤ many * least) (suc-mul few least) (mul-le (suc few) least many least less (omega arith))

as-long : (few many least : ℕ) → few ≤ many → few * least ≤ many * least
as-long few many least less = mul-le few least many least less (omega arith)

last-later : (since now ttl most : ℕ) → since ≤ now → now ≤ since + ttl → since + ttl ≤ most → now + (ttl - (now - since)) ≤ most
last-later since now ttl most past due h = omega (arith, past, due, h)

first-lasts : (range : TtlRange) (now low high more : ℕ) → low ≤ high → now + clamp range low ≤ now + (clamp range high + more)
first-lasts range now low high more h = omega (arith, h)

-- what is left is brought within its bounds where one link more leads to it
anew-lasts : (range : TtlRange) (now ttl moment high few many : ℕ) → now + ttl ≤ moment + (high + few) → few + range.least ≤ many
    → now + clamp range ttl ≤ moment + (high + many)
anew-lasts range now ttl moment high few many h more = omega (arith, h, more)

more-lasts : (now ttl moment high few many : ℕ) → now + ttl ≤ moment + (high + few) → few ≤ many → now + ttl ≤ moment + (high + many)
more-lasts now ttl moment high few many h more = omega (arith, h, more)

-- ---- lifetimes

lesser-low : (n : ℕ) (o : Option ℕ) → lesser n o ≤ n
lesser-low n None = omega arith
lesser-low n (Some other) = omega arith

lesser-each : (n : ℕ) (rs : List Record) → All (λ r. lesser n (least_ttl rs) ≤ r.ttl) rs
lesser-each n [] = All-nil (λ r. n ≤ r.ttl)
lesser-each n (r ∷ rs) =
    let least = lesser r.ttl (least_ttl rs) in
    let first : least ≤ r.ttl = lesser-low r.ttl (least_ttl rs) in
    let rest : All (λ x. least ≤ x.ttl) rs = lesser-each r.ttl rs in
    All-cons (λ x. min n least ≤ x.ttl) r rs (omega arith)
    (λ k d less. let one : least ≤ (slice_index_or rs k d).ttl = rest k d less in omega arith)

clamp-within : (range : TtlRange) (least ttl : ℕ) → least ≤ ttl → clamp range ttl ≤ ttl → clamp range least ≤ ttl
clamp-within range least ttl low within = omega (arith, low, within)

-- of records whose TTLs are within a range, none ends before the lifetime
abbrev Lasts : TtlRange → ℕ → Record → Type 0
Lasts range life r = clamp range r.ttl ≤ r.ttl → life ≤ r.ttl

lifetime-lasts : (range : TtlRange) (rs : List Record) → All (Lasts range (lifetime_within range (least_ttl rs))) rs
lifetime-lasts range [] = All-nil (Lasts range range.least)
lifetime-lasts range (r ∷ rs) =
    let least = lesser r.ttl (least_ttl rs) in
    let first : least ≤ r.ttl = lesser-low r.ttl (least_ttl rs) in
    let rest : All (λ x. least ≤ x.ttl) rs = lesser-each r.ttl rs in
    All-cons (Lasts range (clamp range least)) r rs (λ within. clamp-within range least r.ttl first within)
    (λ k d less within. clamp-within range least (slice_index_or rs k d).ttl (rest k d less) within)

same-third : (m n k : ℕ) → (m == n) ≡ true → (n == k) ≡ true → (m == k) ≡ true
same-third m n k h i = numbers-equal m k (equal-numbers m n h ∙ equal-numbers n k i)

deciding-lasts : (c : Bool) (kind : RecordType) (range : TtlRange) (m : Message) → (type_number kind == 2) ≡ c
    → EachOf kind (Lasts range (lifetime_within range (least_ttl (cond c (filter (has_type types.NS) (m.answers ++ m.authorities))
    (filter (λ x. has_type kind x || has_type types.CNAME x) m.answers))))) m.answers
deciding-lasts true kind range m e =
    let rs = filter (has_type types.NS) (m.answers ++ m.authorities) in
    let P : Record → Type 0 = Lasts range (lifetime_within range (least_ttl rs)) in
    let all : All P rs = lifetime-lasts range rs in
    each-front kind P m.answers m.authorities
    (each-unfilter kind P (has_type types.NS) (λ r typed. same-third (type_number (data_type r.rdata)) (type_number kind) 2 typed e)
    (m.answers ++ m.authorities) (λ k d less typed. all k d less))
deciding-lasts false kind range m e =
    let p : Record → Bool = λ r. has_type kind r || has_type types.CNAME r in
    let rs = filter p m.answers in
    let P : Record → Type 0 = Lasts range (lifetime_within range (least_ttl rs)) in
    let all : All P rs = lifetime-lasts range rs in
    each-unfilter kind P p (λ r typed. or-left (has_type kind r) (has_type types.CNAME r) typed) m.answers (λ k d less typed. all k d less)

-- no answer of the type that was asked for ends before the response does, if its TTL is within the bounds of the type
lifetime-of : (config : TtlConfigContent) (kind : RecordType) (m : Message)
    → EachOf kind (Lasts (positive_range (bounds_of config kind)) (positive_lifetime config kind m)) m.answers
lifetime-of config kind m = deciding-lasts (type_number kind == 2) kind (positive_range (bounds_of config kind)) m refl

clamp-once : (range : TtlRange) (ttl : ℕ) → clamp range (clamp range ttl) ≤ clamp range ttl
clamp-once range ttl = omega arith

-- a TTL within its bounds is within those of the type
clamped-within : (config : TtlConfigContent) (kind : RecordType) (r : Record) → has_type kind r ≡ true
    → clamp (positive_range (bounds_of config kind)) (clamped_record config r).ttl ≤ (clamped_record config r).ttl
clamped-within config kind r typed =
    subst (λ (n : ℕ). clamp (range_at config n) (clamp (positive_range (bounds_of config (data_type r.rdata))) r.ttl)
    ≤ clamp (positive_range (bounds_of config (data_type r.rdata))) r.ttl)
    (equal-numbers (number_of r) (type_number kind) typed) (clamp-once (range_of_record config r) r.ttl)

module _ (config : TtlConfigContent) (preserves : Bool) (origin : DomainName) (history : List Version) where
  abbrev Recent : Query → ℕ → Record → Type 0
  Recent q now r = IsRecentFor config preserves history q now r

  abbrev Plain : Query → Type 0
  Plain q = is_plain q.query_type ≡ true

  -- ---- records that are kept

  ages : (p q : Query) (since now : ℕ) (r : Record) → same_key p q ≡ true → since ≤ now → now ≤ since + r.ttl → Recent p since r
      → Recent q now (after_seconds (now - since) r)
  ages p q since now r same later due (inl w) = inl (record {
    links = w.links;
    led = led-later now later (led-respelled p q (same-numbers p q same) (same-names p q same) w.led);
    moment = w.moment;
    rows = w.rows;
    row = w.row;
    stand = w.stand;
    past = (let past : w.moment ≤ since = w.past in omega (arith, later, past));
    holds = w.holds;
    same_data = w.same_data;
    lasts = last-later since now r.ttl (w.moment + (clamp (range_of_record config r) w.row.ttl + w.links * (range_of_record config r).least)) later due w.lasts;
  })
  ages p q since now r same later due (inr h) = inr (record {
    question = h.question;
    whole = h.whole;
    special = h.special;
    same = ap (λ (x : Record). record x { ttl = r.ttl - (now - since) }) h.same;
  })

  -- where links lead to a name, what is returned for it is returned
  through : (q target : Query) (now links : ℕ) (r : Record) → target.query_type ≡ q.query_type
      → IsLed preserves history now q.query_type q.name links target.name → Recent target now r → Recent q now r
  through q target now links r same first (inl w) =
      let led : IsLed preserves history now q.query_type target.name w.links r.name =
      subst (λ (kind : RecordType). IsLed preserves history now kind target.name w.links r.name) same w.led in
      let all = led-through first led in
      let range : TtlRange = range_of_record config r in
      inl (record {
        links = all.links;
        led = all.led;
        moment = w.moment;
        rows = w.rows;
        row = w.row;
        stand = w.stand;
        past = w.past;
        holds = w.holds;
        same_data = w.same_data;
        lasts = more-lasts now r.ttl w.moment (clamp range w.row.ttl) (w.links * range.least) (all.links * range.least) w.lasts
            (as-long w.links all.links range.least (let far : links + w.links ≤ all.links = all.far in omega (arith, far)));
      })
  through q target now links r same first (inr h) = inr h

  -- and stored, with its TTL within its bounds
  anew : (q target : Query) (now links : ℕ) (r : Record) → target.query_type ≡ q.query_type → 0 < links
      → IsLed preserves history now q.query_type q.name links target.name → Recent target now r → Recent q now (clamped_record config r)
  anew q target now links r same some first (inl w) =
      let led : IsLed preserves history now q.query_type target.name w.links r.name =
      subst (λ (kind : RecordType). IsLed preserves history now kind target.name w.links r.name) same w.led in
      let all = led-through first led in
      let range : TtlRange = range_of_record config r in
      inl (record {
        links = all.links;
        led = all.led;
        moment = w.moment;
        rows = w.rows;
        row = w.row;
        stand = w.stand;
        past = w.past;
        holds = w.holds;
        same_data = w.same_data;
        lasts = anew-lasts range now r.ttl w.moment (clamp range w.row.ttl) (w.links * range.least) (all.links * range.least) w.lasts
            (longer w.links all.links range.least (let far : links + w.links ≤ all.links = all.far in omega (arith, some, far)));
      })
  anew q target now links r same some first (inr h) = inr (record {
    question = h.question;
    whole = h.whole;
    special = h.special;
    same = ap (λ (x : Record). record x { ttl = (clamped_record config r).ttl }) h.same;
  })

  -- ---- records of a response

  -- a row of now at a name to which the question leads, with at most its TTL
  pub record IsLedRow (q : Query) (now : ℕ) (r : Record) : Type 0 where
    pub links : ℕ
    pub led : IsLed preserves history now q.query_type q.name links r.name
    pub rows : Rows
    pub row : Row
    pub stand : StandAt history now rows
    pub holds : Contains (rows_at rows r.name.labels (type_of_record r)) row
    pub same_data : row.rdata ≡ r.rdata
    pub low : r.ttl ≤ row.ttl

  row-recent : (q : Query) (now : ℕ) (r : Record) → IsLedRow q now r → Recent q now (clamped_record config r)
  row-recent q now r w =
      let range : TtlRange = range_of_record config r in
      inl (record {
        links = w.links;
        led = w.led;
        moment = now;
        rows = w.rows;
        row = w.row;
        stand = w.stand;
        past = omega arith;
        holds = w.holds;
        same_data = w.same_data;
        lasts = first-lasts range now r.ttl w.row.ttl (w.links * range.least) w.low;
      })

  row-lowers : (q : Query) (now most : ℕ) (r : Record) → IsLedRow q now r → IsLedRow q now (lowered most r)
  row-lowers q now most r w = record {
    links = w.links;
    led = w.led;
    rows = w.rows;
    row = w.row;
    stand = w.stand;
    holds = w.holds;
    same_data = w.same_data;
    low = (let low : r.ttl ≤ w.row.ttl = w.low in omega (arith, low));
  }

  -- each record of a plain type
  abbrev EachRow : Query → ℕ → List Record → Type 0
  EachRow q now rs = EachOf q.query_type (IsLedRow q now) rs

  module _ (chains : (zone : ZoneContent) (q : Query) → IsChain zone.rows q.query_type q.name (answer zone q).answers) (zones : AreZones origin history)
      (q : Query) (now : ℕ) (m : Message) (held : HoldsAnswerAt origin history now q m) (plain : Plain q) where
    abbrev zone : ZoneContent
    zone = zone_with origin held.rows

    good : IsZone zone
    good = zone-of-rows origin history now held.rows zones held.stand

    other : type_number q.query_type ≢ 5
    other e = not-plain (type_number q.query_type) 5 plain e refl

    -- each owner in an answer is led to
    owners-led : {owner : DomainName} {records : List Record} → IsChain held.rows q.query_type owner records
        → Leads preserves history now q.query_type q.name held.rows held.stand owner
        → All (λ (r : Record). Leads preserves history now q.query_type q.name held.rows held.stand r.name) records
    owners-led (found owner) l =
        All-map (λ (r : Record). Leads preserves history now q.query_type q.name held.rows held.stand r.name) (record_of owner)
        (rows_at held.rows owner.labels q.query_type) (λ k d less. l)
    owners-led (stops owner) l = All-nil (λ (r : Record). Leads preserves history now q.query_type q.name held.rows held.stand r.name)
    owners-led (last owner alias more e) l =
        All-cons (λ (r : Record). Leads preserves history now q.query_type q.name held.rows held.stand r.name) (record_of owner alias) [] l
        (All-nil (λ (r : Record). Leads preserves history now q.query_type q.name held.rows held.stand r.name))
    owners-led (leads owner alias more cname records e is rest) l =
        All-cons (λ (r : Record). Leads preserves history now q.query_type q.name held.rows held.stand r.name) (record_of owner alias) records l
        (owners-led rest (lead preserves history now q.query_type q.name held.rows held.stand owner cname.0 alias more cname other l e is refl))

    rows-are : All (IsAnswerRow held.rows q.query_type) m.answers
    rows-are =
        subst (λ (rs : List Record). All (IsAnswerRow held.rows q.query_type) rs) (sym held.holds.answers)
        (answer-rows zone good q.query_type (chains zone q))

    answers-led : All (λ (r : Record). Leads preserves history now q.query_type q.name held.rows held.stand r.name) m.answers
    answers-led =
        subst (λ (rs : List Record). All (λ (r : Record). Leads preserves history now q.query_type q.name held.rows held.stand r.name) rs)
        (sym held.holds.answers) (owners-led (chains zone q) (0, here q.name refl))

    answer-led : EachRow q now m.answers
    answer-led = λ k d less typed.
        let r = slice_index_or m.answers k d in
        let l = answers-led k d less in
        record {
          links = l.0;
          led = l.1;
          rows = held.rows;
          row = row_of r;
          stand = held.stand;
          holds = (rows-are k d less).row;
          same_data = refl;
          low = omega arith;
        }

    others-none : EachRow q now (m.authorities ++ m.additionals)
    others-none = λ k d less typed.
        let r = slice_index_or (m.authorities ++ m.additionals) k d in
        absurd (in-answers zone good q m held.holds (type_number q.query_type) plain r
        (equal-numbers (number_of r) (type_number q.query_type) typed) (Contains-get_or (m.authorities ++ m.additionals) k d less))

    pub message-led : EachRow q now (all_records m)
    message-led =
        All-append (λ r. has_type q.query_type r ≡ true → IsLedRow q now r) m.answers (m.authorities ++ m.additionals) answer-led others-none

    no-service : (r : Record) → (number_of r ≡ type_number q.query_type) ⊎ (number_of r ≡ 5)
        → IsService preserves history now q.query_type q.name held.rows held.stand r
    no-service r (inl is) e = absurd (not-plain (type_number q.query_type) 33 plain (sym is ∙ e) refl)
    no-service r (inr is) e = absurd (let clash : ◌≡◌ {A = ℕ} 5 33 = sym is ∙ e in omega (arith, clash))

    start : LeadsTo preserves history now q.query_type q.name held.rows held.stand (chain_start q)
    start = record { links = 0; led = here q.name refl; some = λ e. absurd (cc) }

    -- the end of the aliases of the response is led to
    pub end-led : LeadsTo preserves history now q.query_type q.name held.rows held.stand (chain_of q m)
    end-led =
        cond_both (asks_for_aliases q) (chain_start q) (chain_over (chain_start q) m.answers)
        (LeadsTo preserves history now q.query_type q.name held.rows held.stand) (λ none. start)
        (λ some. chain-leads preserves history now q.query_type q.name held.rows held.stand (chain_start q) m.answers other rows-are
        (All-weaker (IsAnswerRow held.rows q.query_type) (IsService preserves history now q.query_type q.name held.rows held.stand)
        (λ r h. no-service r h.kind) m.answers rows-are)
        start)

  -- ---- what is kept and returned

  abbrev Cached : ℕ → CacheContent → Type 0
  Cached now cache = All (EntryIsRecent config preserves history now) cache.entries

  abbrev Replied : Query → ℕ → Reply → Type 0
  Replied q now reply = ReplyIsRecent config preserves history q now reply

  -- what is stored, as it is returned now
  abbrev Keeps : Query → ℕ → Kept → Type 0
  Keeps q now (Ok m) = Plain q → EachOf q.query_type (Recent q now) m.answers
  Keeps q now (Err absent) = Unit {0}

  -- what may be stored, with TTLs within their bounds
  abbrev Storable : Query → ℕ → Kept → Type 0
  Storable q now (Ok m) = Plain q → EachOf q.query_type (λ r. Recent q now (clamped_record config r)) m.answers
  Storable q now (Err absent) = Unit {0}

  aged-keeps : (p q : Query) (since deadline now : ℕ) (kept : Kept) → same_key p q ≡ true → since ≤ now → now ≤ deadline
      → KeptIsRecent config preserves history p since deadline kept → Keeps q now (aged (now - since) kept)
  aged-keeps p q since deadline now (Ok m) same later due h = λ plain.
      let numbers : type_number p.query_type ≡ type_number q.query_type = same-numbers p q same in
      let each = h (ap is_plain_number numbers ∙ plain) in
      All-map (λ r. has_type q.query_type r ≡ true → Recent q now r) (after_seconds (now - since)) m.answers
      (λ k d less typed.
      (let r = slice_index_or m.answers k d in
      let both = each k d less (subst (λ (n : ℕ). (number_of r == n) ≡ true) (sym numbers) typed) in
      let until : deadline ≤ since + r.ttl = both.1 in
      ages p q since now r same later (omega (arith, due, until)) both.0))
  aged-keeps p q since deadline now (Err absent) same later due h = tt

  current-keeps : (now : ℕ) (es : List Entry) (q : Query) → All (EntryIsRecent config preserves history now) es → IfSome (current es q now) (Keeps q now)
  current-keeps now es q h =
      if-some-map (λ e. EntryIsRecent config preserves history now e × (is_current q now e ≡ true)) (Keeps q now) (λ e. aged (now - e.moment) e.kept)
      (λ e found.
      (let both = both-true (is_about q e) (nat_le now e.deadline) found.1 in
      aged-keeps e.question q e.moment e.deadline now e.kept both.0 found.0.past (le-true now e.deadline both.1) found.0.kept))
      (find (is_current q now) es) (found-entry (EntryIsRecent config preserves history now) (is_current q now) es h)

  entry-keeps : (q : Query) (kept : Kept) (now : ℕ) → Storable q now kept → EntryIsRecent config preserves history now (entry_of config q kept now)
  entry-keeps q (Ok m) now h = record {
    past = omega arith;
    kept = λ plain.
        let life = positive_lifetime config q.query_type (clamped config m) in
        let lasts : EachOf q.query_type (Lasts (positive_range (bounds_of config q.query_type)) life) (map (clamped_record config) m.answers) =
        lifetime-of config q.query_type (clamped config m) in
        each-both q.query_type (Recent q now) (Lasts (positive_range (bounds_of config q.query_type)) life)
        (λ r. Recent q now r × (now + life ≤ now + r.ttl)) m.answers (h plain) lasts
        (λ r typed recent low.
        (let within : life ≤ (clamped_record config r).ttl = low (clamped-within config q.query_type r typed) in
        (recent, (omega (arith, within)))));
  }
    where
      each-both : (kind : RecordType) (P Q R : Record → Type 0) (rs : List Record)
          → EachOf kind (λ r. P (clamped_record config r)) rs → EachOf kind Q (map (clamped_record config) rs)
          → ((r : Record) → has_type kind r ≡ true → P (clamped_record config r) → Q (clamped_record config r) → R (clamped_record config r))
          → EachOf kind R (map (clamped_record config) rs)
      each-both kind P Q R [] h k f = All-nil (λ r. has_type kind r ≡ true → R r)
      each-both kind P Q R (r ∷ rs) h k f =
          All-cons (λ x. has_type kind x ≡ true → R x) (clamped_record config r) (map (clamped_record config) rs)
          (λ typed. f r typed (All-head (λ x. has_type kind x ≡ true → P (clamped_record config x)) r rs h typed)
          (All-head (λ x. has_type kind x ≡ true → Q x) (clamped_record config r) (map (clamped_record config) rs) k typed))
          (each-both kind P Q R rs (All-tail (λ x. has_type kind x ≡ true → P (clamped_record config x)) r rs h)
          (All-tail (λ x. has_type kind x ≡ true → Q x) (clamped_record config r) (map (clamped_record config) rs) k) f)
  entry-keeps q (Err absent) now h = record { past = omega arith; kept = tt }

  abbrev Both : Query → ℕ → Reply → CacheContent → Type 0
  Both q now reply new = Cached now new × Replied q now reply

  stored-keeps : (now : ℕ) (old : CacheContent) (q : Query) (kept : Kept) (new : CacheContent) → old.config ≡ config → Cached now old
      → Storable q now kept → new ≡ storing old q kept now → Cached now new
  stored-keeps now old q kept new same holds storable e =
      subst (Cached now) (sym e)
      (all-inserted (EntryIsRecent config preserves history now) old.capacity old.entries (entry_of old.config q kept now) holds
      (subst (λ (c : TtlConfigContent). EntryIsRecent config preserves history now (entry_of c q kept now)) (sym same) (entry-keeps q kept now storable)))

  stores-keep : (now : ℕ) (old : CacheContent) (q : Query) (o : Option Kept) (given reply : Reply) (new : CacheContent) → old.config ≡ config
      → Cached now old → IfSome o (Storable q now) → Replied q now given → Stores now old q o given reply new → Both q now reply new
  stores-keep now old q None given reply new same holds option told h =
      (subst (Cached now) (sym h.1) holds, subst (Replied q now) (sym h.0) told)
  stores-keep now old q (Some kept) given reply new same holds option told (inl h) =
      (stored-keeps now old q kept new same holds option h.1, subst (Replied q now) (sym h.0) told)
  stores-keep now old q (Some kept) given reply new same holds option told (inr h) = (
    elim h.1 [
      | inl e ↦ subst (Cached now) (sym e) holds
      | inr e ↦ stored-keeps now old q kept new same holds option e
    ],
    subst (Replied q now) (sym h.0) tt,
  )

  -- ---- steps

  abbrev AreAliases : List Record → Type 0
  AreAliases kept = All (λ r. has_type types.CNAME r ≡ true) kept

  -- where a step follows aliases, links lead to their end, if the type is plain
  record GoesTo (q target : Query) (now : ℕ) : Type 0 where
    links : ℕ
    some : 0 < links
    led : IsLed preserves history now q.query_type q.name links target.name

  abbrev StepRows : Query → ℕ → Step → Type 0
  StepRows q now (Gives m) = Plain q → EachRow q now m.answers
  StepRows q now (Misses absent) = Unit {0}
  StepRows q now (Stops error) = Unit {0}
  StepRows q now (Follows target kept) =
      (target.query_type ≡ q.query_type) × AreAliases kept × (Plain q → GoesTo q target now)

  strip-rows : (q : Query) (now : ℕ) (qs : List Query) (m : Message) → EachRow q now m.answers → EachRow q now (strip_for qs m).answers
  strip-rows q now [] m h = h
  strip-rows q now (p ∷ qs) m h = All-filter (is_without_dnssec p.query_type) (λ r. has_type q.query_type r ≡ true → IsLedRow q now r) m.answers h

  stripped-rows : (q : Query) (now : ℕ) (dnssec_ok : Bool) (m : Message) → EachRow q now m.answers → EachRow q now (stripped dnssec_ok m).answers
  stripped-rows q now true m h = h
  stripped-rows q now false m h = strip-rows q now m.queries m h

  -- a response holds the answer of a zone
  abbrev IsHeld : Query → ℕ → Message → Type 0
  IsHeld q now m = HoldsAnswerAt origin history now q m

  module _ (chains : (zone : ZoneContent) (q : Query) → IsChain zone.rows q.query_type q.name (answer zone q).answers) (zones : AreZones origin history)
      (settings : LookupSettings) (now : ℕ) (q : Query) (kept : List Record) (are : AreAliases kept) where
    abbrev Led : Record → Type 0
    Led r = has_type q.query_type r ≡ true → IsLedRow q now r

    -- kept aliases are none of a plain type
    kept-rows : Plain q → All Led kept
    kept-rows plain = λ k d less typed.
        let r = slice_index_or kept k d in
        absurd (not-plain (type_number q.query_type) 5 plain
        (sym (equal-numbers (number_of r) (type_number q.query_type) typed) ∙ equal-numbers (number_of r) 5 (are k d less)) refl)

    given-rows : Plain q → (m : Message) → EachRow q now (all_records m) → EachRow q now m.answers
        → EachRow q now (given_answers settings q (chain_of q m) kept m)
    given-rows plain m h answers =
        let p : Record → Bool = λ r. is_found q (chain_of q m).name r || is_kept_alias settings q r in
        cond_both (is_selected settings q (chain_of q m) kept m) (selected_answers settings q (chain_of q m) kept m) m.answers (All Led)
        (λ selected. All-append Led kept (map (lowered (chain_of q m).ttl) (filter p (all_records m))) (kept-rows plain)
        (All-map Led (lowered (chain_of q m).ttl) (filter p (all_records m))
        (All-weaker Led (λ r. Led (lowered (chain_of q m).ttl r)) (λ r s typed. row-lowers q now (chain_of q m).ttl r (s typed)) (filter p (all_records m))
        (All-filter p Led (all_records m) h))))
        (λ whole. answers)

    kept-aliases : (m : Message) → AreAliases (kept_aliases settings q (chain_of q m) kept m)
    kept-aliases m =
        let some = filter (is_kept_alias settings q) (all_records m) in
        All-append (λ r. has_type types.CNAME r ≡ true) kept (map (lowered (chain_of q m).ttl) some) are
        (All-map (λ r. has_type types.CNAME r ≡ true) (lowered (chain_of q m).ttl) some
        (All-weaker (λ r. is_kept_alias settings q r ≡ true) (λ r. has_type types.CNAME r ≡ true) (is-alias settings q) some
        (filter_passes (is_kept_alias settings q) (all_records m))))

    step-rows : (depth : ℕ) (outcome : Outcome) → ((response : DnsResponse) → meaning outcome ≡ Ok response → IsHeld q now response.message)
        → StepRows q now (step_of settings q kept depth outcome)
    step-rows depth outcome bears =
        outcome-cases settings q kept depth (StepRows q now) (meaning outcome)
        (λ response is. (let m = response.message in
        reply-cases settings q kept depth (StepRows q now) m
        (λ given plain. stripped-rows q now settings.dnssec_ok
        (record (with_question q m) { answers = given_answers settings q (chain_of q m) kept m })
        (given-rows plain m (message-led chains zones q now m (bears response is) plain) (answer-led chains zones q now m (bears response is) plain)))
        (λ not-given ends. tt)
        (λ not-given no-end alias above. (
          refl,
          kept-aliases m,
          λ plain. (let l = end-led chains zones q now m (bears response is) plain in record { links = l.links; some = l.some alias; led = l.led }),
        ))
        tt))
        (λ absent. tt) (λ error failure is. tt)

  -- ---- lookups of a client

  may-be-stored : (q target : Query) (now : ℕ) (reply : Reply) → target.query_type ≡ q.query_type → (Plain q → GoesTo q target now)
      → Replied target now reply → IfSome (kept_of q reply) (Storable q now)
  may-be-stored q target now (Ok lookup) same goes h = λ plain.
      let g = goes plain in
      let each = h (ap is_plain same ∙ plain) in
      λ k d less typed.
      let r = slice_index_or lookup.message.answers k d in
      anew q target now g.links r same g.some g.led
      (each k d less (subst (λ (kind : RecordType). has_type kind r ≡ true) (sym same) typed))
  may-be-stored q target now (Err (errors.Dns (dns.NoRecordsFound absent))) same goes h = tt
  may-be-stored q target now (Err (errors.Dns (dns.ResponseCode code))) same goes h = tt
  may-be-stored q target now (Err (errors.Proto error)) same goes h = tt
  may-be-stored q target now (Err (errors.Message text)) same goes h = tt
  may-be-stored q target now (Err (errors.Link fault)) same goes h = tt
  may-be-stored q target now (Err errors.Unsupported) same goes h = tt
  may-be-stored q target now (Err errors.Memory) same goes h = tt

  back : (q target : Query) (now : ℕ) (reply : Reply) → target.query_type ≡ q.query_type → (Plain q → GoesTo q target now)
      → Replied target now reply → Replied q now reply
  back q target now (Ok lookup) same goes h = λ plain.
      let g = goes plain in
      let each = h (ap is_plain same ∙ plain) in
      λ k d less typed.
      let r = slice_index_or lookup.message.answers k d in
      through q target now g.links r same g.led (each k d less (subst (λ (kind : RecordType). has_type kind r ≡ true) (sym same) typed))
  back q target now (Err error) same goes h = tt

  proceeds-keep : (next : Query → List Record → Reply → CacheContent → Type 0) (now : ℕ) (old : CacheContent) (q : Query) (step : Step)
      (asks : List Ask) (reply : Reply) (new : CacheContent)
      → ((target : Query) (kept : List Record) (inner : Reply) (mid : CacheContent) → AreAliases kept → next target kept inner mid
      → SameSettings old mid × Both target now inner mid)
      → old.config ≡ config → Cached now old → StepRows q now step → Proceeds next now old q step asks reply new → Both q now reply new
  proceeds-keep next now old q (Gives m) asks reply new rest same holds step h =
      let given : Storable q now (Ok m) =
      λ plain. All-weaker (λ r. has_type q.query_type r ≡ true → IsLedRow q now r)
      (λ r. has_type q.query_type r ≡ true → Recent q now (clamped_record config r)) (λ r s typed. row-recent q now r (s typed)) m.answers (step plain) in
      stores-keep now old q (Some (Ok m)) (given_reply old.config now q m) reply new same holds given
      (subst (λ (c : TtlConfigContent). Replied q now (given_reply c now q m)) (sym same)
      (λ plain. All-map (λ r. has_type q.query_type r ≡ true → Recent q now r) (clamped_record config) m.answers (given plain))) h.1
  proceeds-keep next now old q (Misses absent) asks reply new rest same holds step h =
      stores-keep now old q (Some (Err absent)) (negative absent) reply new same holds tt tt h.1
  proceeds-keep next now old q (Stops error) asks reply new rest same holds step h =
      (subst (Cached now) (sym h.2) holds, subst (Replied q now) (sym h.1) tt)
  proceeds-keep next now old q (Follows target kept) asks reply new rest same holds step h =
      let inner = rest target kept h.0 h.1 step.1 h.2 in
      stores-keep now h.1 q (kept_of q h.0) h.0 reply new (inner.0.1 ∙ same) inner.1.0 (may-be-stored q target now h.0 step.0 step.2 inner.1.1)
      (back q target now h.0 step.0 step.2 inner.1.1) h.3

  cached-keeps : (q : Query) (now : ℕ) (kept : Kept) → Keeps q now kept → Replied q now (cached_reply now q kept)
  cached-keeps q now (Ok m) h = h
  cached-keeps q now (Err absent) h = tt

  answered-keeps : (now : ℕ) (q : Query) (special : SpecialAnswer) (hit : Option Kept) (reply : Reply)
      → ((r : Record) → special ≡ Loopback r → Recent q now r) → IfSome hit (Keeps q now) → IsAnsweredHere now q special hit reply
      → Replied q now reply
  answered-keeps now q (Loopback r) hit reply f k h =
      subst (Replied q now) (sym h)
      (λ plain. All-cons (λ x. has_type q.query_type x ≡ true → Recent q now x) r [] (λ typed. f r refl)
      (All-nil (λ x. has_type q.query_type x ≡ true → Recent q now x)))
  answered-keeps now q (Nothing code) hit reply f k h = subst (Replied q now) (sym h) tt
  answered-keeps now q Ordinary (Some kept) reply f k h = subst (Replied q now) (sym h) (cached-keeps q now kept k)
  answered-keeps now q Ordinary None reply f k h = absurd h

  -- each response is an answer by rows of the history
  abbrev pub AreHeld : ℕ → List Ask → Type 0
  AreHeld now asks =
      All (λ ask. (response : DnsResponse) → meaning ask.outcome ≡ Ok response → HoldsAnswerAt origin history now ask.question response.message) asks

  -- every lookup keeps what is recent
  pub recent-keep : ((zone : ZoneContent) (q : Query) → IsChain zone.rows q.query_type q.name (answer zone q).answers) → AreZones origin history
      → (settings : LookupSettings) (now depth : ℕ) (kept : List Record) (old : CacheContent) (q : Query) (asks : List Ask)
      (reply : Reply) (new : CacheContent) → old.config ≡ config → AreAliases kept → Cached now old → AreHeld now asks
      → Looks settings now depth kept old q asks reply new → Both q now reply new
  recent-keep chains zones settings now depth kept old q [] reply new same are holds bears h = (
    subst (Cached now) (sym h.0) holds,
    elim h.1 [
      | inl memory ↦ subst (Replied q now) (sym memory) tt
      | inr answered ↦ answered-keeps now q (special_answer q) (current old.entries q now) reply
          (λ r e. inr (record { question = q; whole = r; special = e; same = refl })) (current-keeps now old.entries q holds) answered
    ],
  )
  recent-keep chains zones settings now depth kept old q (ask ∷ asks) reply new same are holds bears h =
      let Each : Ask → Type 0 = λ a. (response : DnsResponse) → meaning a.outcome ≡ Ok response → HoldsAnswerAt origin history now a.question response.message in
      elim h.3 [
        | inl memory ↦ (subst (Cached now) (sym memory.3) holds, subst (Replied q now) (sym memory.2) tt)
        | inr goes ↦
            proceeds-keep (λ target aliases inner mid. Looks settings now (suc depth) aliases old target asks inner mid) now old q
            (step_of settings q kept depth ask.outcome) asks reply new
            (λ target aliases inner mid kept-are looks. (
              settings-stay settings now (suc depth) aliases old target asks inner mid looks,
              recent-keep chains zones settings now (suc depth) aliases old target asks inner mid same kept-are holds (All-tail Each ask asks bears) looks,
            ))
            same holds
            (step-rows chains zones settings now q kept are depth ask.outcome
            (subst (λ (p : Query). (response : DnsResponse) → meaning ask.outcome ≡ Ok response → HoldsAnswerAt origin history now p response.message) h.0
            (All-head Each ask asks bears))) goes
      ]
