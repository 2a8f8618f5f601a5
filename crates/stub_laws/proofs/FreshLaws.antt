-- Records with an origin among answers that stood are fresh, and their owners are reached.
use Rattle.std.proofs.Common.{◌≡◌, ℕ, ◌≤◌, ◌==◌, ◌++◌, min, true, List, Option, Some, None, Ok, Err, All, Contains, refl, sym, ap, subst, ◌∙◌, inl, inr, arith}
use Rattle.std.specs.Prelude.{◌⊎◌}
use Rattle.std.specs.BTreeMap.{is_at}
use Rattle.std.specs.Map.{lookup}
use Rattle.std.specs.Option.{unwrap_or}
use Rattle.std.specs.Ordering.{nat_cmp}
use Rattle.std.proofs.lemmas.Bool.{cond_both}
use Rattle.std.proofs.lemmas.List.Elements.{All-contains, Contains-append_cases}
use Rattle.dns_wire.specs.codes.DNSClass.{class_number}
use Rattle.dns_wire.specs.codes.RecordType.{type_number}
use Rattle.dns_names.specs.Compare.{same_name}
use Rattle.dns_names.specs.Name.{DomainName}
use Rattle.dns_records.specs.Record.{Record}
use Rattle.dns_records.specs.Rows.{row_of}
use Rattle.dns_messages.specs.declared.message.Message.{Message}
use Rattle.dns_messages.specs.declared.query.Query.{Query}
use Rattle.dns_messages.specs.declared.response.DnsResponse.{DnsResponse}
use Rattle.dns_zone.specs.Answer.{IsChain, answer}
use Rattle.dns_zone.specs.Rows.{IsZone, ZoneContent}
use Rattle.stub_lookup.specs.Outcome.{error_in, unless_error}
use Rattle.stub_lookup.specs.declared.error.DnsError.{DnsError}
use Rattle.stub_cache.specs.Cache.{same_key}
use Rattle.stub_cache.specs.Ttl.{TtlConfigContent, TtlRange, clamp, clamped_record, positive_range}
use Rattle.stub_client.specs.Handle.{Outcome}
use Rattle.stub_client.specs.Origins.{Asked, Brings, Comes, HasResponse, LeadsOn, by_alias, by_cache, by_loopback, by_response, elsewhere, in_answers}
use Rattle.stub_client.specs.Step.{chain_of, chain_over, chain_start, meaning, asks_for_aliases}
use Rattle.stub_link.specs.LinkState.{Version}
use Rattle.stub_laws.specs.history.Answered.{AreZones, HoldsAnswer, HoldsAnswerAt, IsAnsweredBy, is_plain_number, zone_with}
use Rattle.stub_laws.specs.history.Stands.{AreSame, IsFreshFor, IsReached}
use Rattle.stub_laws.specs.history.Stands.IsReached.{here}
use Rattle.stub_laws.proofs.AnswerRowLaws.{IsAnswerRow, IsSoaRecord, answer-rows, chain-reaches, equal-numbers, not-plain, number_of, only-soa, owner-full, owners-reached, zone-of-rows}
use Rattle.stub_laws.proofs.StandLaws.{both-true, contains-none, fresh-left, fresh-through, names-lower}

-- ---- bounds of TTLs, by the number of a type

abbrev pub range_at : TtlConfigContent → ℕ → TtlRange
range_at config n = positive_range (unwrap_or (lookup (is_at (nat_cmp n)) config.by_query_type) config.default)

clamp-least : (range : TtlRange) (ttl : ℕ) → range.least ≡ 0 → clamp range ttl ≤ min ttl range.greatest
clamp-least range ttl h = omega arith

pub clamped-least : (config : TtlConfigContent) (n : ℕ) (r : Record) → (range_at config n).least ≡ 0 → number_of r ≡ n
    → (clamped_record config r).ttl ≤ min r.ttl (range_at config n).greatest
clamped-least config n r none is =
    subst (λ (m : ℕ). clamp (range_at config m) r.ttl ≤ min r.ttl (range_at config n).greatest) (sym is) (clamp-least (range_at config n) r.ttl none)

-- ---- outcomes

pub meant : (o : Outcome) (response : DnsResponse) → meaning o ≡ Ok response → o ≡ Ok response
meant (Ok first) response means = by (error_in first.message) means
  where
    by : (e : Option DnsError) → unless_error first e ≡ Ok response → ◌≡◌ {A = Outcome} (Ok first) (Ok response)
    by None h = h
    by (Some error) h = absurd (cc)
meant (Err error) response means = means

-- ---- records with an origin

pub same-numbers : (p q : Query) → same_key p q ≡ true → type_number p.query_type ≡ type_number q.query_type
same-numbers p q same =
    let rest = both-true (same_name p.name q.name) _ same in
    equal-numbers (type_number p.query_type) (type_number q.query_type)
    (both-true (type_number p.query_type == type_number q.query_type) (class_number p.query_class == class_number q.query_class) rest.1).0

pub same-names : (p q : Query) → same_key p q ≡ true → AreSame p.name q.name
same-names p q same = names-lower p.name q.name (both-true (same_name p.name q.name) _ same).0

pub answer-held : (origin : DomainName) (history : List Version) (asked : List Asked) (q : Query) (now : ℕ) (response : DnsResponse)
    → All (IsAnsweredBy origin history) asked → HasResponse asked q now response → HoldsAnswerAt origin history now q response.message
answer-held origin history asked q now response answered has =
    All-contains (IsAnsweredBy origin history) asked (record { moment = now; ask = record { question = q; outcome = has.outcome } }) answered
    has.asked response (meant has.outcome response has.means)

-- a record with a type that is not that of an SOA record is an answer
pub in-answers : (zone : ZoneContent) → IsZone zone → (q : Query) (m : Message) → HoldsAnswer zone q m → (n : ℕ) → is_plain_number n ≡ true
    → (r : Record) → number_of r ≡ n → Contains (m.authorities ++ m.additionals) r → ⊥
in-answers zone good q m holds n plain r is c = by (Contains-append_cases m.authorities m.additionals r c)
  where
    by : Contains m.authorities r ⊎ Contains m.additionals r → ⊥
    by (inl there) =
        not-plain n 6 plain (sym is ∙ All-contains IsSoaRecord (answer zone q).authorities r (only-soa zone good q)
        (subst (λ (rs : List Record). Contains rs r) holds.authorities there)) refl
    by (inr there) = contains-none r (subst (λ (rs : List Record). Contains rs r) holds.additionals there)

module _ (chains : (zone : ZoneContent) (q : Query) → IsChain zone.rows q.query_type q.name (answer zone q).answers)
    (origin : DomainName) (history : List Version) (zones : AreZones origin history) (config : TtlConfigContent) (n : ℕ) (plain : is_plain_number n ≡ true)
    (none : (range_at config n).least ≡ 0) where
  -- a record of a response
  response-fresh : (q : Query) (now : ℕ) (m : Message) → HoldsAnswerAt origin history now q m → type_number q.query_type ≡ n → {r : Record}
      → Brings config q m r → IsFreshFor history (range_at config n).greatest now q.name r
  response-fresh q now m held typed (in_answers r c is) =
      let zone : ZoneContent = zone_with origin held.rows in
      let good : IsZone zone = zone-of-rows origin history now held.rows zones held.stand in
      let there : Contains (answer zone q).answers r = subst (λ (rs : List Record). Contains rs r) held.holds.answers c in
      let number : number_of r ≡ n = equal-numbers (number_of r) (type_number q.query_type) is ∙ typed in
      let low : (clamped_record config r).ttl ≤ min r.ttl (range_at config n).greatest = clamped-least config n r none number in
      inl (
        record {
          full = owner-full zone good q held.full r there;
          moment = now;
          rows = held.rows;
          row = row_of r;
          stand = held.stand;
          past = omega arith;
          holds = (All-contains (IsAnswerRow held.rows q.query_type) (answer zone q).answers r (answer-rows zone good q.query_type (chains zone q)) there).row;
          same_data = refl;
          lasts = omega arith;
        },
        All-contains (λ (x : Record). IsReached history now q.name x.name) (answer zone q).answers r
            (owners-reached history now q.name now held.rows held.stand (omega arith) (chains zone q) (here q.name refl)) there,
      )
  response-fresh q now m held typed (elsewhere r c is found) =
      let zone : ZoneContent = zone_with origin held.rows in
      absurd (in-answers zone (zone-of-rows origin history now held.rows zones held.stand) q m held.holds n plain r
      (equal-numbers (number_of r) (type_number q.query_type) is ∙ typed) c)

  -- the end of the aliases of a response is reached
  pub end-reached : (q : Query) (now : ℕ) (m : Message) → HoldsAnswerAt origin history now q m → type_number q.query_type ≡ n
      → IsReached history now q.name (chain_of q m).name
  end-reached q now m held typed =
      let zone : ZoneContent = zone_with origin held.rows in
      let good : IsZone zone = zone-of-rows origin history now held.rows zones held.stand in
      cond_both (asks_for_aliases q) (chain_start q) (chain_over (chain_start q) m.answers) (λ c. IsReached history now q.name c.name)
      (λ e. here q.name refl)
      (λ e. chain-reaches history now q.name now held.rows held.stand (omega arith) q.query_type (ap is_plain_number typed ∙ plain) (chain_start q) m.answers
      (subst (λ (rs : List Record). All (IsAnswerRow held.rows q.query_type) rs) (sym held.holds.answers) (answer-rows zone good q.query_type (chains zone q)))
      (here q.name refl))

  module _ (asked : List Asked) (answered : All (IsAnsweredBy origin history) asked) where
    pub fresh : {q : Query} {now : ℕ} {r : Record} → Comes (Brings config) LeadsOn asked q now r → type_number q.query_type ≡ n
        → IsFreshFor history (range_at config n).greatest now q.name r
    fresh (by_response q now r response has brings) typed =
        response-fresh q now response.message (answer-held origin history asked q now response answered has) typed brings
    fresh (by_alias q now r response has leads rest) typed =
        fresh-through history (range_at config n).greatest now q.name (chain_of q response.message).name r
        (end-reached q now response.message (answer-held origin history asked q now response answered has) typed) (fresh rest typed)
    fresh (by_loopback q now r e) typed =
        inr (record { question = q; reached = here q.name refl; whole = r; special = e; same = refl; lasts = omega arith })
    fresh (by_cache p q since now first r before same left) typed =
        fresh-left history (range_at config n).greatest since now p.name q.name first r left.same (same-names p q same) left.past left.lasts
        (fresh before (same-numbers p q same ∙ typed))
