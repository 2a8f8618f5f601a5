-- Where aliases are left out, records with an origin among answers that stood have the chain bound.
use Rattle.std.proofs.Common.{◌≡◌, ℕ, ◌+◌, ◌<◌, ◌≤◌, ◌==◌, ◌&&◌, ◌||◌, ◌++◌, min, zero, suc, not, Bool, true, false, cond, List, [], ◌∷◌, length, filter, is_some, All, Contains, refl, sym, ap, subst, ◌∙◌, slice_index_or, inl, inr, arith}
use Rattle.std.specs.Prelude.{◌⊎◌}
use Rattle.std.specs.List.{list_any}
use Rattle.std.proofs.lemmas.Bool.{true≢false}
use Rattle.std.proofs.lemmas.Bool.Decides.{nat_tests}
use Rattle.std.proofs.lemmas.List.Elements.{All-contains, Contains-append_cases, Contains-append_left}
use Rattle.dns_wire.specs.codes.DNSClass.{class_number}
use Rattle.dns_wire.specs.codes.RecordType.{type_number}
use Rattle.dns_names.specs.Compare.{at_or_below, same_name}
use Rattle.dns_names.specs.Name.{DomainName}
use Rattle.dns_names.specs.internal.Compare.{same_name-equivalence}
use Rattle.dns_text.specs.Usage.{is_loopback, is_nonexistent}
use Rattle.dns_records.specs.Record.{Record}
use Rattle.dns_records.specs.Rows.{row_of}
use Rattle.dns_messages.specs.Message.{all_records}
use Rattle.dns_messages.specs.Response.{has_type, is_empty, soa_in}
use Rattle.dns_messages.specs.declared.message.Message.{Message}
use Rattle.dns_messages.specs.declared.query.Query.{Query}
use Rattle.dns_messages.specs.declared.response.DnsResponse.{DnsResponse}
use Rattle.dns_zone.specs.Answer.{IsChain, answer}
use Rattle.dns_zone.specs.Rows.{IsZone, ZoneContent}
use Rattle.stub_cache.specs.Cache.{same_key}
use Rattle.stub_cache.specs.Ttl.{TtlConfigContent, clamped_record}
use Rattle.stub_client.specs.Origins.{Asked, BringsClosely, Comes, HasResponse, LeadsOnClosely, after_aliases, by_alias, by_cache, by_loopback, by_response, directly}
use Rattle.stub_client.specs.SpecialNames.{special_answer}
use Rattle.stub_client.specs.Step.{asks_for, chain_of, chain_over, chain_start, found, has_class, is_at_either, is_end_found, is_found, lowered}
use Rattle.stub_client.specs.declared.caching_client.chain.Chain.{Chain}
use Rattle.stub_client.specs.declared.special_names.SpecialAnswer.TheVariants.{Ordinary}
use Rattle.stub_link.specs.LinkState.{Version}
use Rattle.stub_laws.specs.history.Answered.{AreOrdinary, AreZones, HoldsAnswer, HoldsAnswerAt, IsAnsweredBy, is_plain_number, zone_with}
use Rattle.stub_laws.specs.history.Stands.{HasChain, HasChainFor, HasShortChains, HasShortLinks, IsAliasChain, IsLoopback}
use Rattle.stub_laws.specs.history.Stands.IsAliasChain.{no_alias}
use Rattle.stub_laws.specs.history.Stands.IsReached.{here}
use Rattle.stub_laws.proofs.AnswerRowLaws.{IsAnswerRow, answer-rows, equal-numbers, not-plain, number_of, owner-full, zone-of-rows}
use Rattle.stub_laws.proofs.ChainLaws.{EndsAlong, along, no-alias-same}
use Rattle.stub_laws.proofs.EndLaws.{End, accepted, answer-ends, finds, followed-same, is_followed, lacks, leaves, not-ordinary, passes, refused-empty}
use Rattle.stub_laws.proofs.FreshLaws.{answer-held, clamped-least, end-reached, in-answers, range_at, same-names, same-numbers}
use Rattle.stub_laws.proofs.StandLaws.{both-true, chain-left, contains-none, loopback-aged, loopback-through, stands-among}

-- ---- tests

numbers-equal : (m n : ℕ) → m ≡ n → (m == n) ≡ true
numbers-equal m n h = grind (arith, nat_tests)

or-right : (a b : Bool) → b ≡ true → a || b ≡ true
or-right true b h = refl
or-right false b h = h

or-left : (a b : Bool) → a ≡ true → a || b ≡ true
or-left true b h = refl
or-left false b h = absurd (true≢false (sym h))

both : (a b : Bool) → a ≡ true → b ≡ true → a && b ≡ true
both true b h i = i
both false b h i = absurd (true≢false (sym h))

-- ---- records that pass two tests

any-kept : (f : Record → Bool) (y : Record) (rest : List Record) (b : Bool) → list_any f rest ≡ true → list_any f (cond b (y ∷ rest) rest) ≡ true
any-kept f y rest true h = or-right (f y) (list_any f rest) h
any-kept f y rest false h = h

any-filter : (f p : Record → Bool) (x : Record) → f x ≡ true → p x ≡ true → (xs : List Record) (k : ℕ) → k < length xs → slice_index_or xs k x ≡ x
    → list_any f (filter p xs) ≡ true
any-filter f p x fx px [] k less e = absurd (omega arith)
any-filter f p x fx px (y ∷ ys) zero less e =
    ap (λ (b : Bool). list_any f (cond b (y ∷ filter p ys) (filter p ys))) (ap p e ∙ px)
    ∙ or-left (f y) (list_any f (filter p ys)) (ap f e ∙ fx)
any-filter f p x fx px (y ∷ ys) (suc k) less e =
    any-kept f y (filter p ys) (p y) (any-filter f p x fx px ys k (omega arith) e)

not-empty : (f : Record → Bool) (xs : List Record) → list_any f xs ≡ true → is_empty xs ≡ false
not-empty f [] h = absurd (true≢false (sym h))
not-empty f (x ∷ xs) h = refl

-- ---- aliases of a response

alias-test : (n : ℕ) → is_plain_number n ≡ true → (a b : Bool) → (n == 5) ≡ a → (n == 255) ≡ b → a || b ≡ false
alias-test n plain true b e f = absurd (not-plain n 5 plain (equal-numbers n 5 e) refl)
alias-test n plain false true e f = absurd (not-plain n 255 plain (equal-numbers n 255 f) refl)
alias-test n plain false false e f = refl

chain-of-answers : (q : Query) (m : Message) → is_plain_number (type_number q.query_type) ≡ true → chain_of q m ≡ chain_over (chain_start q) m.answers
chain-of-answers q m plain =
    ap (λ (b : Bool). cond b (chain_start q) (chain_over (chain_start q) m.answers))
    (alias-test (type_number q.query_type) plain (type_number q.query_type == 5) (type_number q.query_type == 255) refl refl)

-- ---- a response that holds an answer

module _ (chains : (zone : ZoneContent) (q : Query) → IsChain zone.rows q.query_type q.name (answer zone q).answers)
    (zone : ZoneContent) (good : IsZone zone) (q : Query) (m : Message) (holds : HoldsAnswer zone q m) (plain : is_plain_number (type_number q.query_type) ≡ true) where
  end-is : chain_of q m ≡ chain_over (chain_start q) (answer zone q).answers
  end-is = chain-of-answers q m plain ∙ ap (chain_over (chain_start q)) holds.answers

  -- the records of the type are at the end
  along-answer : (bound : ℕ) → EndsAlong zone.rows bound q.name q.query_type (chain_of q m) (answer zone q).answers
  along-answer bound =
      subst (λ (c : Chain). EndsAlong zone.rows bound q.name q.query_type c (answer zone q).answers) (sym end-is)
      (along zone good q.query_type plain bound q.name (chains zone q) (chain_start q) refl bound (no_alias q.name refl) (omega arith))

  at-end : (r : Record) → Contains (answer zone q).answers r → number_of r ≡ type_number q.query_type → r.name ≡ (chain_of q m).name
  at-end r c typed =
      All-contains (λ (x : Record). number_of x ≡ type_number q.query_type → x.name ≡ (chain_of q m).name) (answer zone q).answers r
      (along-answer 0).ends c typed

  -- and are found
  found-there : (r : Record) → Contains (answer zone q).answers r → number_of r ≡ type_number q.query_type → is_found q (chain_of q m).name r ≡ true
  found-there r c typed =
      let row : IsAnswerRow zone.rows q.query_type r =
      All-contains (IsAnswerRow zone.rows q.query_type) (answer zone q).answers r (answer-rows zone good q.query_type (chains zone q)) c in
      let in-internet : 1 ≡ class_number q.query_class = sym (equal-numbers (class_number q.query_class) 1 (accepted zone q r c)) in
      let same : same_name r.name (chain_of q m).name ≡ true =
      subst (λ (name : DomainName). same_name r.name name ≡ true) (at-end r c typed) (same_name-equivalence.refl r.name) in
      both (has_class q r) (asks_for q r && is_at_either (chain_of q m).name q r)
      (numbers-equal (class_number r.dns_class) (class_number q.query_class) (ap class_number row.class ∙ in-internet))
      (both (asks_for q r) (is_at_either (chain_of q m).name q r)
      (or-right (type_number q.query_type == 255) (has_type q.query_type r) (numbers-equal (number_of r) (type_number q.query_type) typed))
      (or-left (same_name r.name (chain_of q m).name) (same_name r.name q.name) same))

  end-found : (r : Record) → Contains (answer zone q).answers r → number_of r ≡ type_number q.query_type → is_end_found q (chain_of q m) m ≡ true
  end-found r c typed =
      let there : Contains (all_records m) r =
      Contains-append_left m.answers (m.authorities ++ m.additionals) r (subst (λ (rs : List Record). Contains rs r) (sym holds.answers) c) in
      let same : same_name r.name (chain_of q m).name ≡ true =
      subst (λ (name : DomainName). same_name r.name name ≡ true) (at-end r c typed) (same_name-equivalence.refl r.name) in
      any-filter (λ (x : Record). same_name x.name (chain_of q m).name) (is_found q (chain_of q m).name) r same (found-there r c typed)
      (all_records m) there.0 there.1 there.2

  -- a record of the type is an answer
  among-answers : (r : Record) → Contains (all_records m) r → number_of r ≡ type_number q.query_type → Contains (answer zone q).answers r
  among-answers r c typed = by (Contains-append_cases m.answers (m.authorities ++ m.additionals) r c)
    where
      by : Contains m.answers r ⊎ Contains (m.authorities ++ m.additionals) r → Contains (answer zone q).answers r
      by (inl there) = subst (λ (rs : List Record). Contains rs r) holds.answers there
      by (inr there) = absurd (in-answers zone good q m holds (type_number q.query_type) plain r typed there)

  -- without an alias the end is the name that was asked for
  no-alias-end : (chain_of q m).is_alias ≡ false → (chain_of q m).name ≡ q.name
  no-alias-end none =
      ap (λ (c : Chain). c.name) end-is
      ∙ ap (λ (c : Chain). c.name) (no-alias-same (chain_start q) (answer zone q).answers (sym (ap (λ (c : Chain). c.is_alias) end-is) ∙ none))

  no-answers : (answer zone q).answers ≡ [] → (chain_of q m).is_alias ≡ false
  no-answers none = ap (λ (c : Chain). c.is_alias) (end-is ∙ ap (chain_over (chain_start q)) none)

-- ---- classes and times

same-classes : (p q : Query) → same_key p q ≡ true → class_number p.query_class ≡ class_number q.query_class
same-classes p q same =
    let rest = both-true (same_name p.name q.name) _ same in
    equal-numbers (class_number p.query_class) (class_number q.query_class)
    (both-true (type_number p.query_type == type_number q.query_type) (class_number p.query_class == class_number q.query_class) rest.1).1

left-less : (since now : ℕ) (first r : Record) → since ≤ now → now + r.ttl ≤ since + first.ttl → r.ttl ≤ first.ttl
left-less since now first r past lasts = omega arith

-- ---- records of a response

module _ (chains : (zone : ZoneContent) (q : Query) → IsChain zone.rows q.query_type q.name (answer zone q).answers)
    (origin : DomainName) (history : List Version) (zones : AreZones origin history) (config : TtlConfigContent) (n : ℕ) (plain : is_plain_number n ≡ true)
    (none : (range_at config n).least ≡ 0) where
  abbrev greatest : ℕ
  greatest = (range_at config n).greatest

  plain-of : (q : Query) → type_number q.query_type ≡ n → is_plain_number (type_number q.query_type) ≡ true
  plain-of q typed = ap is_plain_number typed ∙ plain

  module _ (q : Query) (now : ℕ) (m : Message) (held : HoldsAnswerAt origin history now q m) (typed : type_number q.query_type ≡ n) where
    abbrev zone : ZoneContent
    zone = zone_with origin held.rows

    good : IsZone (zone_with origin held.rows)
    good = zone-of-rows origin history now held.rows zones held.stand

    -- a record at the end of the aliases, with a TTL of at most theirs
    lowered-chain : (r : Record) (ttl : ℕ) → Contains (answer zone q).answers r → number_of r ≡ type_number q.query_type
        → ttl ≤ min (min r.ttl (chain_of q m).ttl) greatest → HasChain history greatest now q.name (record r { ttl = ttl })
    lowered-chain r ttl c is low =
        let ends = along-answer chains zone good q m held.holds (plain-of q typed) greatest in
        let least-is : min (chain_of q m).ttl greatest ≤ ends.least = ends.low in
        record {
          full = owner-full zone good q held.full r c;
          moment = now;
          rows = held.rows;
          row = row_of r;
          least = ends.least;
          stand = held.stand;
          past = omega arith;
          chain = subst (λ (name : DomainName). IsAliasChain held.rows greatest q.name ends.least name)
              (sym (at-end chains zone good q m held.holds (plain-of q typed) r c is)) ends.chain;
          holds = (All-contains (IsAnswerRow held.rows q.query_type) (answer zone q).answers r
              (answer-rows zone good q.query_type (chains zone q)) c).row;
          same_data = refl;
          lasts = omega arith;
        }

    -- a record at the name that was asked for
    direct-chain : (r : Record) (ttl : ℕ) → Contains (answer zone q).answers r → number_of r ≡ type_number q.query_type
        → (chain_of q m).is_alias ≡ false → ttl ≤ min r.ttl greatest → HasChain history greatest now q.name (record r { ttl = ttl })
    direct-chain r ttl c is no-alias low = record {
      full = owner-full zone good q held.full r c;
      moment = now;
      rows = held.rows;
      row = row_of r;
      least = greatest;
      stand = held.stand;
      past = omega arith;
      chain = subst (λ (name : DomainName). IsAliasChain held.rows greatest q.name greatest name)
          (sym (at-end chains zone good q m held.holds (plain-of q typed) r c is ∙ no-alias-end chains zone good q m held.holds (plain-of q typed) no-alias))
          (no_alias q.name refl);
      holds = (All-contains (IsAnswerRow held.rows q.query_type) (answer zone q).answers r
          (answer-rows zone good q.query_type (chains zone q)) c).row;
      same_data = refl;
      lasts = omega arith;
    }

    response-chain : {r : Record} → BringsClosely config q m r → HasChain history greatest now q.name r
    response-chain (directly r c has incomplete some) = by (chain_of q m).is_alias refl
      where
        is : number_of r ≡ type_number q.query_type
        is = equal-numbers (number_of r) (type_number q.query_type) has

        there : Contains (answer zone q).answers r
        there = subst (λ (rs : List Record). Contains rs r) held.holds.answers c

        by : (b : Bool) → (chain_of q m).is_alias ≡ b → HasChain history greatest now q.name (clamped_record config r)
        by false no-alias =
            direct-chain r (clamped_record config r).ttl there is no-alias (clamped-least config n r none (is ∙ typed))
        by true alias =
            absurd (true≢false (sym (both (chain_of q m).is_alias (is_end_found q (chain_of q m) m) alias
            (end-found chains zone good q m held.holds (plain-of q typed) r there is)) ∙ incomplete))
    response-chain (after_aliases r c has complete at) =
        let is : number_of r ≡ type_number q.query_type = equal-numbers (number_of r) (type_number q.query_type) has in
        lowered-chain r (clamped_record config (lowered (chain_of q m).ttl r)).ttl
        (among-answers chains zone good q m held.holds (plain-of q typed) r c is) is
        (clamped-least config n (lowered (chain_of q m).ttl r) none (is ∙ typed))

    -- aliases that lead on end at a name for which the zone's server is not asked, or which it refuses
    leads-off : HasShortChains history → LeadsOnClosely q m → is_followed origin (chain_of q m).name ≡ false
    leads-off short lead = by (answer-ends zone good q (plain-of q typed))
      where
        is-end : chain_of q m ≡ chain_over (chain_start q) (answer zone q).answers
        is-end = end-is chains zone good q m held.holds (plain-of q typed)

        by-end : End zone q.query_type q.name (answer zone q) (chain_of q m) → is_followed origin (chain_of q m).name ≡ false
        by-end (finds r c is at) =
            absurd (true≢false (sym lead.nothing_found
            ∙ not-empty (λ (x : Record). same_name x.name (chain_of q m).name) (found q (chain_of q m) m)
            (end-found chains zone good q m held.holds (plain-of q typed) r c is)))
        by-end (lacks soa) =
            absurd (true≢false (sym (both (chain_of q m).is_alias (is_empty (found q (chain_of q m) m) && is_some (soa_in m.authorities)) lead.leads.is_alias
            (both (is_empty (found q (chain_of q m) m)) (is_some (soa_in m.authorities)) lead.nothing_found
            (ap (λ (rs : List Record). is_some (soa_in rs)) held.holds.authorities ∙ soa)))
            ∙ lead.leads.is_open))
        by-end (leaves off) = off
        by-end (passes to linked) = absurd (let bound : 8 ≤ 7 = All-contains HasShortLinks history
            (record { moment = held.stand.since; rows = held.rows }) short (stands-among history now held.rows held.stand) 8 q.name to linked in
            omega arith)

        by : ((answer zone q).answers ≡ []) ⊎ End zone q.query_type q.name (answer zone q) (chain_over (chain_start q) (answer zone q).answers)
            → is_followed origin (chain_of q m).name ≡ false
        by (inl none) =
            absurd (true≢false (sym lead.leads.is_alias ∙ no-answers chains zone good q m held.holds (plain-of q typed) none))
        by (inr end) =
            by-end (subst (λ (c : Chain). End zone q.query_type q.name (answer zone q) c) (sym is-end) end)

    -- the zone's server has no answer there
    nothing-there : special_answer q ≡ Ordinary → class_number q.query_class ≡ 1 → is_followed origin q.name ≡ false → (answer zone q).answers ≡ []
    nothing-there ordinary in-internet off =
        by (at_or_below origin.labels q.name.labels) (is_loopback q.name || is_nonexistent q.name) refl refl off
      where
        by : (a b : Bool) → at_or_below origin.labels q.name.labels ≡ a → is_loopback q.name || is_nonexistent q.name ≡ b → a && not b ≡ false
            → (answer zone q).answers ≡ []
        by false b outside special off = refused-empty zone q outside
        by true true inside special off = absurd (not-ordinary q in-internet special ordinary)
        by true false inside special off = absurd (true≢false off)

  -- ---- records with an origin

  module _ (asked : List Asked) (answered : All (IsAnsweredBy origin history) asked) (ordinary : AreOrdinary asked) (short : HasShortChains history) where
    held-by : (q : Query) (now : ℕ) (response : DnsResponse) → HasResponse asked q now response → HoldsAnswerAt origin history now q response.message
    held-by q now response has = answer-held origin history asked q now response answered has

    empty-there : (q : Query) (now : ℕ) (response : DnsResponse) (has : HasResponse asked q now response) → type_number q.query_type ≡ n
        → class_number q.query_class ≡ 1 → is_followed origin q.name ≡ false
        → (answer (zone_with origin (held-by q now response has).rows) q).answers ≡ []
    empty-there q now response has typed in-internet off =
        nothing-there q now response.message (held-by q now response has) typed
        (All-contains (λ (a : Asked). special_answer a.ask.question ≡ Ordinary) asked
        (record { moment = now; ask = record { question = q; outcome = has.outcome } }) ordinary has.asked) in-internet off

    -- a record of a type is among the answers
    brought-answer : (q : Query) (now : ℕ) (m : Message) (held : HoldsAnswerAt origin history now q m) → type_number q.query_type ≡ n → {r : Record}
        → BringsClosely config q m r → (answer (zone_with origin held.rows) q).answers ≡ [] → ⊥
    brought-answer q now m held typed (directly r c has incomplete some) none =
        contains-none r (subst (λ (rs : List Record). Contains rs r) (held.holds.answers ∙ none) c)
    brought-answer q now m held typed (after_aliases r c has complete at) none =
        let is : number_of r ≡ type_number q.query_type = equal-numbers (number_of r) (type_number q.query_type) has in
        contains-none r (subst (λ (rs : List Record). Contains rs r) none
        (among-answers chains (zone_with origin held.rows) (zone-of-rows origin history now held.rows zones held.stand) q m held.holds
        (plain-of q typed) r c is))

    -- at such a name only records of the local host have an origin
    foreign : {q : Query} {now : ℕ} {r : Record} → Comes (BringsClosely config) LeadsOnClosely asked q now r → type_number q.query_type ≡ n
        → class_number q.query_class ≡ 1 → is_followed origin q.name ≡ false → IsLoopback history now q.name r
    foreign (by_response q now r response has brings) typed in-internet off =
        absurd (brought-answer q now response.message (held-by q now response has) typed brings (empty-there q now response has typed in-internet off))
    foreign (by_alias q now r response has leads rest) typed in-internet off =
        let held = held-by q now response has in
        absurd (true≢false (sym leads.leads.is_alias
        ∙ no-answers chains (zone_with origin held.rows) (zone-of-rows origin history now held.rows zones held.stand) q response.message held.holds
        (plain-of q typed) (empty-there q now response has typed in-internet off)))
    foreign (by_loopback q now r e) typed in-internet off =
        record { question = q; reached = here q.name refl; whole = r; special = e; same = refl; lasts = omega arith }
    foreign (by_cache p q since now first r before same left) typed in-internet off =
        subst (IsLoopback history now q.name) (sym left.same)
        (loopback-aged history since now r.ttl p.name q.name first
        (foreign before (same-numbers p q same ∙ typed) (same-classes p q same ∙ in-internet) (followed-same origin p.name q.name (same-names p q same) ∙ off))
        (same-names p q same) left.past (left-less since now first r left.past left.lasts))

    pub closely : {q : Query} {now : ℕ} {r : Record} → Comes (BringsClosely config) LeadsOnClosely asked q now r → type_number q.query_type ≡ n
        → HasChainFor history greatest now q.name r
    closely (by_response q now r response has brings) typed =
        inl (response-chain q now response.message (held-by q now response has) typed brings)
    closely (by_alias q now r response has leads rest) typed =
        inr (loopback-through history now q.name (chain_of q response.message).name r
        (end-reached chains origin history zones config n plain none q now response.message (held-by q now response has) typed)
        (foreign rest typed refl (leads-off q now response.message (held-by q now response has) typed short leads)))
    closely (by_loopback q now r e) typed =
        inr (record { question = q; reached = here q.name refl; whole = r; special = e; same = refl; lasts = omega arith })
    closely (by_cache p q since now first r before same left) typed =
        chain-left history greatest since now p.name q.name first r left.same (same-names p q same) left.past left.lasts
        (closely before (same-numbers p q same ∙ typed))
