-- How an answer with aliases ends: with records of the type, with the SOA record of a negative answer, or where the zone follows no further.
use Rattle.std.proofs.Common.{◌≡◌, ℕ, ◌+◌, ◌<◌, ◌==◌, ◌&&◌, ◌||◌, zero, suc, Bool, true, false, cond, not, List, [], ◌∷◌, length, map, Option, Some, None, is_some, All, Contains, refl, sym, ap, subst, ◌∙◌, inl, inr, arith}
use Rattle.std.specs.Prelude.{◌⊎◌}
use Rattle.std.specs.List.{find}
use Rattle.std.specs.Cmp.Lexicographic.{pointwise}
use Rattle.std.specs.Str.{bytes_eq, str_to_ascii_lowercase}
use Rattle.std.proofs.lemmas.Bool.{true≢false}
use Rattle.std.proofs.lemmas.List.Elements.{Contains-append_right}
use Rattle.dns_wire.specs.codes.DNSClass.{class_number, class_of}
use Rattle.dns_wire.specs.codes.RecordType.{type_number, type_of}
use Rattle.dns_wire.specs.declared.codes.record_type.RecordType.{RecordType}
use Rattle.dns_wire.specs.declared.codes.record_type.RecordType.TheVariants as types
use Rattle.dns_names.specs.Compare.{at_or_below, lower, same_labels}
use Rattle.dns_names.specs.Name.{DomainName}
use Rattle.dns_text.specs.Usage.{in_addr_arpa_127_zone, invalid_zone, ip6_arpa_1_zone, is_loopback, is_nonexistent, is_within, localhost_zone, onion_zone, zone_name}
use Rattle.dns_text.specs.declared.usage.ZoneUsage.{ZoneUsage}
use Rattle.dns_data.specs.declared.rdata.RData.{RData}
use Rattle.dns_data.specs.declared.rdata.RData.TheVariants as of
use Rattle.dns_data.specs.declared.rdata.cname.CNAME.{CNAME}
use Rattle.dns_records.specs.Record.{Record}
use Rattle.dns_records.specs.Rows.{rows_at}
use Rattle.dns_records.specs.declared.row.Row.{Row}
use Rattle.dns_messages.specs.Response.{is_soa, soa_in}
use Rattle.dns_messages.specs.declared.query.Query.{Query}
use Rattle.dns_messages.specs.declared.response_code.ResponseCode.TheVariants.{NoError, NotImp, NXDomain, Refused}
use Rattle.dns_zone.specs.Answer.{after_records, answer, answer_at, answer_by, authority, authority_row, bare, is_no_row_type, max_aliases, next_owner, record_of, rest_at}
use Rattle.dns_zone.specs.Rows.{IsSoundRow, IsZone, ZoneContent}
use Rattle.dns_zone.specs.declared.zone.answer.Answer.{Answer}
use Rattle.stub_client.specs.SpecialNames.{in_class, loopback_answer, loopback_data, name_answer, special_answer}
use Rattle.stub_client.specs.Step.{chain_over, chain_start, extended, next_name}
use Rattle.stub_client.specs.declared.caching_client.chain.Chain.{Chain}
use Rattle.stub_client.specs.declared.special_names.SpecialAnswer.TheVariants.{Ordinary, Nothing}
use Rattle.stub_laws.specs.history.Answered.{is_plain_number}
use Rattle.stub_laws.specs.history.Stands.{AreSame, IsLinked}
use Rattle.stub_laws.specs.history.Stands.IsLinked.{no_link, one_link}
use Rattle.stub_laws.proofs.AnswerRowLaws.{Typed, alias-there, number_of, sound-at, typed-at}
use Rattle.stub_laws.proofs.ChainLaws.{alias-cname, follows, next-chain, same-over, soa-data}
use Rattle.stub_laws.proofs.StandLaws.{contains-head}

-- ---- names at which a zone's aliases are followed

abbrev pub is_followed : DomainName → DomainName → Bool
is_followed origin name = at_or_below origin.labels name.labels && not (is_loopback name || is_nonexistent name)

labels-by-lower : (a b : List (List ℕ)) → same_labels a b ≡ pointwise bytes_eq (lower a) (lower b)
labels-by-lower [] [] = refl
labels-by-lower [] (y ∷ ys) = refl
labels-by-lower (x ∷ xs) [] = refl
labels-by-lower (x ∷ xs) (y ∷ ys) =
    ap (λ (b : Bool). bytes_eq (str_to_ascii_lowercase x) (str_to_ascii_lowercase y) && b) (labels-by-lower xs ys)

labels-same : (o a b : List (List ℕ)) → lower a ≡ lower b → same_labels o a ≡ same_labels o b
labels-same o a b e = labels-by-lower o a ∙ ap (pointwise bytes_eq (lower o)) e ∙ sym (labels-by-lower o b)

below-same : (o a b : List (List ℕ)) → lower a ≡ lower b → at_or_below o a ≡ at_or_below o b
below-same o [] [] e = refl
below-same o [] (y ∷ ys) e =
    absurd (let clash : ◌≡◌ {A = List (List ℕ)} [] (str_to_ascii_lowercase y ∷ lower ys) = e in cc)
below-same o (x ∷ xs) [] e =
    absurd (let clash : ◌≡◌ {A = List (List ℕ)} (str_to_ascii_lowercase x ∷ lower xs) [] = e in cc)
below-same o (x ∷ xs) (y ∷ ys) e =
    let both : ◌≡◌ {A = List (List ℕ)} (str_to_ascii_lowercase x ∷ lower xs) (str_to_ascii_lowercase y ∷ lower ys) = e in
    let rest : lower xs ≡ lower ys = cc in
    λ i. labels-same o (x ∷ xs) (y ∷ ys) e i || below-same o xs ys rest i

within-same : (usage : ZoneUsage) (a b : DomainName) → AreSame a b → is_within usage a ≡ is_within usage b
within-same usage a b e = below-same (zone_name usage).labels a.labels b.labels e

loopback-same : (a b : DomainName) → AreSame a b → is_loopback a ≡ is_loopback b
loopback-same a b e =
    λ i. within-same localhost_zone a b e i || within-same in_addr_arpa_127_zone a b e i || within-same ip6_arpa_1_zone a b e i

nonexistent-same : (a b : DomainName) → AreSame a b → is_nonexistent a ≡ is_nonexistent b
nonexistent-same a b e = λ i. within-same invalid_zone a b e i || within-same onion_zone a b e i

pub followed-same : (origin a b : DomainName) → AreSame a b → is_followed origin a ≡ is_followed origin b
followed-same origin a b e =
    λ i. below-same origin.labels a.labels b.labels e i && not (loopback-same a b e i || nonexistent-same a b e i)

-- ---- questions that are not sent to the zone's server, or refused by it

not-ordinary-data : (name : DomainName) (o : Option RData) → loopback_answer name o ≡ Ordinary → ⊥
not-ordinary-data name None e = cc
not-ordinary-data name (Some rdata) e = cc

special-by : (name : DomainName) (o : Option RData) (a b : Bool) → a || b ≡ true
    → cond a (loopback_answer name o) (cond b (Nothing NXDomain) Ordinary) ≡ Ordinary → ⊥
special-by name o true b h e = not-ordinary-data name o e
special-by name o false true h e = cc
special-by name o false false h e = true≢false (sym h)

-- a question for a special-use name is none for a server
pub not-ordinary : (q : Query) → class_number q.query_class ≡ 1 → is_loopback q.name || is_nonexistent q.name ≡ true
    → special_answer q ≡ Ordinary → ⊥
not-ordinary q in-internet special e =
    special-by q.name (loopback_data (type_of (type_number q.query_type))) (is_loopback q.name) (is_nonexistent q.name) special
    (sym (ap (λ (n : ℕ). in_class (class_of n) (name_answer q.name (type_of (type_number q.query_type)))) in-internet) ∙ e)

-- a question for a name outside the zone is refused
pub refused-empty : (zone : ZoneContent) (q : Query) → at_or_below zone.origin.labels q.name.labels ≡ false → (answer zone q).answers ≡ []
refused-empty zone q outside = by (is_no_row_type (type_number q.query_type)) (class_number q.query_class == 1) (at_or_below zone.origin.labels q.name.labels) outside
  where
    by : (a x y : Bool) → y ≡ false
        → (cond a (bare NotImp) (cond (not x || not y) (bare Refused) (answer_at max_aliases zone q.query_type q.name))).answers ≡ []
    by true x y e = refl
    by false false y e = refl
    by false true false e = refl
    by false true true e = absurd (true≢false e)

-- a question with an answer is one of the class of the Internet
pub accepted : (zone : ZoneContent) (q : Query) (r : Record) → Contains (answer zone q).answers r → (class_number q.query_class == 1) ≡ true
accepted zone q r c = by (is_no_row_type (type_number q.query_type)) (class_number q.query_class == 1) (at_or_below zone.origin.labels q.name.labels) c
  where
    by : (a x y : Bool)
        → Contains (cond a (bare NotImp) (cond (not x || not y) (bare Refused) (answer_at max_aliases zone q.query_type q.name))).answers r → x ≡ true
    by true x y c = absurd (let less : c.0 < 0 = c.1 in omega arith)
    by false false y c = absurd (let less : c.0 < 0 = c.1 in omega arith)
    by false true y c = refl

-- ---- the end of an answer

-- an answer ends with a record of the type, with an SOA record, with an alias that is not followed, or with one too many
pub data End (zone : ZoneContent) (t : RecordType) (from : DomainName) (a : Answer) (end : Chain) : Type 0 where
  finds : (r : Record) → Contains a.answers r → number_of r ≡ type_number t → r.name ≡ end.name → End zone t from a end
  lacks : is_some (soa_in a.authorities) ≡ true → End zone t from a end
  leaves : is_followed zone.origin end.name ≡ false → End zone t from a end
  passes : (to : DomainName) → IsLinked zone.rows from 8 to → End zone t from a end

after-first : (zone : ZoneContent) (t : RecordType) (from : DomainName) (first : Record) (a : Answer) (end : Chain) → End zone t from a end
    → End zone t from (after_records (first ∷ []) a) end
after-first zone t from first a end (finds r c typed at) = finds r (Contains-append_right (first ∷ []) a.answers r c) typed at
after-first zone t from first a end (lacks soa) = lacks soa
after-first zone t from first a end (leaves off) = leaves off
after-first zone t from first a end (passes to linked) = passes to linked

module _ (zone : ZoneContent) (good : IsZone zone) where
  soa-by : (rows : List Row) → length rows ≡ 1 → All IsSoundRow rows → All (Typed 6) rows
      → is_some (soa_in (map (λ (row : Row). record_of zone.origin (authority_row row)) rows)) ≡ true
  soa-by [] one sound typed = absurd (omega arith)
  soa-by (row ∷ rows) one sound typed =
      let first : Record = record_of zone.origin (authority_row row) in
      ap (λ (b : Bool). is_some (cond b (Some first) (find is_soa (map (λ (row : Row). record_of zone.origin (authority_row row)) rows))))
      (soa-data row.rdata (sound 0 row (omega arith)).rdata (typed 0 row (omega arith)))

  pub has-soa : is_some (soa_in (authority zone)) ≡ true
  has-soa =
      soa-by (rows_at zone.rows zone.origin.labels types.SOA) good.soa (sound-at zone good zone.origin.labels types.SOA)
      (typed-at zone good zone.origin.labels types.SOA)

module _ (zone : ZoneContent) (good : IsZone zone) (t : RecordType) (plain : is_plain_number (type_number t) ≡ true) (from : DomainName) where
  end-by : (owner : DomainName) (rows aliases : List Row) (on_alias : Row → Answer) (c : Chain) → c.name ≡ owner → rows ≡ rows_at zone.rows owner.labels t
      → ((alias : Row) (more : List Row) → aliases ≡ alias ∷ more → End zone t from (on_alias alias) (chain_over c (on_alias alias).answers))
      → End zone t from (answer_by zone owner rows aliases on_alias) (chain_over c (answer_by zone owner rows aliases on_alias).answers)
  end-by owner [] [] on_alias c at of_type next = lacks (has-soa zone good)
  end-by owner [] (alias ∷ more) on_alias c at of_type next = next alias more refl
  end-by owner (row ∷ rows) aliases on_alias c at of_type next =
      let typed : All (Typed (type_number t)) (row ∷ rows) =
      subst (λ (all : List Row). All (Typed (type_number t)) all) (sym of_type) (typed-at zone good owner.labels t) in
      finds (record_of owner row) (contains-head (record_of owner row) (map (record_of owner) rows)) (typed 0 row (omega arith))
      (sym at ∙ ap (λ (end : Chain). end.name) (sym (same-over zone good t plain c owner (row ∷ rows) typed)))

  -- the answer after an alias
  end-after : (answer_of : DomainName → Answer) (owner : DomainName) (alias : Row) (cname : CNAME) (c : Chain) → alias.rdata ≡ of.CNAME cname
      → c.name ≡ owner
      → ((next : Chain) → next.name ≡ cname.0 → End zone t from (answer_of cname.0) (chain_over next (answer_of cname.0).answers))
      → End zone t from (after_records (record_of owner alias ∷ []) (rest_at answer_of (next_owner zone.origin alias.rdata)))
      (chain_over c (record_of owner alias ∷ (rest_at answer_of (next_owner zone.origin alias.rdata)).answers))
  end-after answer_of owner alias cname c is at next =
      subst (λ (d : RData). End zone t from (after_records (record_of owner alias ∷ []) (rest_at answer_of (next_owner zone.origin d)))
      (chain_over (extended c alias.ttl (next_name c.name (record_of owner alias) alias.rdata)) (rest_at answer_of (next_owner zone.origin d)).answers)) (sym is)
      (subst (λ (to : Chain). End zone t from (after_records (record_of owner alias ∷ []) (rest_at answer_of (next_owner zone.origin (of.CNAME cname))))
      (chain_over to (rest_at answer_of (next_owner zone.origin (of.CNAME cname))).answers)) (sym (follows c owner alias cname is at))
      (by (is_followed zone.origin cname.0) refl))
    where
      by : (b : Bool) → is_followed zone.origin cname.0 ≡ b
          → End zone t from (after_records (record_of owner alias ∷ []) (rest_at answer_of (cond b (Some cname.0) None)))
          (chain_over (next-chain c alias cname) (rest_at answer_of (cond b (Some cname.0) None)).answers)
      by true e =
          after-first zone t from (record_of owner alias) (answer_of cname.0) (chain_over (next-chain c alias cname) (answer_of cname.0).answers)
          (next (next-chain c alias cname) refl)
      by false e = leaves e

  end-at : (links n : ℕ) (owner : DomainName) (c : Chain) → c.name ≡ owner → n + links ≡ 7 → IsLinked zone.rows from n owner
      → End zone t from (answer_at links zone t owner) (chain_over c (answer_at links zone t owner).answers)
  unfolding answer_at
  end-at zero n owner c at count linked =
      end-by owner (rows_at zone.rows owner.labels t) (rows_at zone.rows owner.labels types.CNAME) (λ alias. bare NoError) c at refl
      (λ alias more e.
      (let to = alias-cname zone good t plain owner alias more e in
      let seven : n ≡ 7 = omega arith in
      passes to.0.0 (subst (λ (m : ℕ). IsLinked zone.rows from m to.0.0) (ap suc seven)
      (one_link n owner alias to.0 linked (alias-there zone good owner alias more e) to.1))))
  end-at (suc left) n owner c at count linked =
      end-by owner (rows_at zone.rows owner.labels t) (rows_at zone.rows owner.labels types.CNAME)
      (λ alias. after_records (record_of owner alias ∷ []) (rest_at (answer_at left zone t) (next_owner zone.origin alias.rdata))) c at refl
      (λ alias more e.
      (let to = alias-cname zone good t plain owner alias more e in
      end-after (answer_at left zone t) owner alias to.0 c to.1 at
      (λ next there. end-at left (suc n) to.0.0 next there (omega arith)
      (one_link n owner alias to.0 linked (alias-there zone good owner alias more e) to.1))))

-- an answer has no records, or ends so
pub answer-ends : (zone : ZoneContent) → IsZone zone → (q : Query) → is_plain_number (type_number q.query_type) ≡ true
    → ((answer zone q).answers ≡ []) ⊎ End zone q.query_type q.name (answer zone q) (chain_over (chain_start q) (answer zone q).answers)
answer-ends zone good q plain = by (is_no_row_type (type_number q.query_type)) (not (class_number q.query_class == 1) || not (at_or_below zone.origin.labels q.name.labels))
  where
    by : (a b : Bool) → ((cond a (bare NotImp) (cond b (bare Refused) (answer_at max_aliases zone q.query_type q.name))).answers ≡ [])
        ⊎ End zone q.query_type q.name (cond a (bare NotImp) (cond b (bare Refused) (answer_at max_aliases zone q.query_type q.name)))
        (chain_over (chain_start q) (cond a (bare NotImp) (cond b (bare Refused) (answer_at max_aliases zone q.query_type q.name))).answers)
    by true b = inl refl
    by false true = inl refl
    by false false = inr (end-at zone good q.query_type plain q.name max_aliases 0 q.name (chain_start q) refl refl no_link)
