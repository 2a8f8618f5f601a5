-- What is the same of two names that differ in ASCII case alone, and of two types of the same number.
use Rattle.std.proofs.Common.{◌≡◌, ℕ, ◌||◌, Bool, true, false, cond, List, [], ◌∷◌, map, Option, Some, None, unwrap_or, refl, sym, ap, ◌∙◌}
use Rattle.std.specs.Bool.{beq}
use Rattle.std.specs.FinMap as rows_map
use Rattle.std.specs.List.{list_any}
use Rattle.std.proofs.lemmas.Bool.{true≢false}
use Rattle.dns_wire.specs.codes.RecordType.{type_number, type_of}
use Rattle.dns_wire.specs.declared.codes.dns_class.DNSClass.TheVariants.{IN}
use Rattle.dns_wire.specs.declared.codes.record_type.RecordType.{RecordType}
use Rattle.dns_names.specs.Compare.{at_or_below, lower, same_labels, same_name}
use Rattle.dns_names.specs.Name.{DomainName}
use Rattle.dns_names.proofs.ComparisonLaws.{at_or_below-lower}
use Rattle.dns_text.specs.Usage.{in_addr_arpa_127_zone, invalid_zone, ip6_arpa_1_zone, is_loopback, is_nonexistent, is_within, localhost_zone, onion_zone, zone_name}
use Rattle.dns_text.specs.declared.usage.ZoneUsage.{ZoneUsage}
use Rattle.dns_data.specs.declared.rdata.RData.{RData}
use Rattle.dns_records.specs.Record.{Record}
use Rattle.dns_records.specs.Rows.{rows_at}
use Rattle.dns_records.specs.declared.row.Row.{Row}
use Rattle.dns_messages.specs.declared.response_code.ResponseCode.TheVariants.{NoError, NXDomain}
use Rattle.dns_zone.specs.Answer.{negative, record_of}
use Rattle.dns_zone.specs.Rows.{ZoneContent}
use Rattle.stub_hosts.specs.Hosts.{question}
use Rattle.stub_client.specs.Conclusions.{value_of, values}
use Rattle.stub_client.specs.SpecialNames.{loopback_answer, loopback_data, loopback_record, special_answer}
use Rattle.stub_client.specs.declared.special_names.SpecialAnswer.{SpecialAnswer}
use Rattle.stub_client.specs.declared.special_names.SpecialAnswer.TheVariants.{Ordinary, Loopback, Nothing}
use Rattle.stub_laws.specs.history.Stands.{AreSame}
use Rattle.stub_laws.proofs.StandLaws.{both-true}

-- ---- names

same-flag : (p q : Bool) → beq p q ≡ true → p ≡ q
same-flag true true e = refl
same-flag true false e = absurd (true≢false (sym e))
same-flag false true e = absurd (true≢false (sym e))
same-flag false false e = refl

pub flags-of : (a b : DomainName) → same_name a b ≡ true → a.is_fqdn ≡ b.is_fqdn
flags-of a b h = same-flag a.is_fqdn b.is_fqdn (both-true (beq a.is_fqdn b.is_fqdn) (same_labels a.labels b.labels) h).0

module _ (a b : DomainName) (flag : a.is_fqdn ≡ b.is_fqdn) (low : AreSame a b) where
  within-same : (usage : ZoneUsage) → is_within usage a ≡ is_within usage b
  within-same usage = at_or_below-lower (zone_name usage).labels (zone_name usage).labels a.labels b.labels refl low

  loopback-same : is_loopback a ≡ is_loopback b
  loopback-same = λ i. within-same localhost_zone i || within-same in_addr_arpa_127_zone i || within-same ip6_arpa_1_zone i

  nonexistent-same : is_nonexistent a ≡ is_nonexistent b
  nonexistent-same = λ i. within-same invalid_zone i || within-same onion_zone i

  pub inside-same : (origin : List (List ℕ)) → at_or_below origin a.labels ≡ at_or_below origin b.labels
  inside-same origin = at_or_below-lower origin origin a.labels b.labels refl low

  -- ---- special-use names

  -- the answer of a special-use name, with another owner
  abbrev pub owned : SpecialAnswer → SpecialAnswer
  owned (Loopback r) = Loopback (record r { name = b })
  owned (Nothing code) = Nothing code
  owned Ordinary = Ordinary

  owned-by : (o : Option RData) (x y : Bool)
      → cond x (loopback_answer b o) (cond y (Nothing NXDomain) Ordinary) ≡ owned (cond x (loopback_answer a o) (cond y (Nothing NXDomain) Ordinary))
  owned-by None true y = refl
  owned-by (Some rdata) true y = refl
  owned-by o false true = refl
  owned-by o false false = refl

  owner-by : (o : Option RData) (x y : Bool) (r : Record) → cond x (loopback_answer a o) (cond y (Nothing NXDomain) Ordinary) ≡ Loopback r → r.name ≡ a
  owner-by None true y r e = absurd (let clash : ◌≡◌ {A = SpecialAnswer} (Nothing NoError) (Loopback r) = e in cc)
  owner-by (Some rdata) true y r e =
      let same : loopback_record a rdata ≡ r = (let both : ◌≡◌ {A = SpecialAnswer} (Loopback (loopback_record a rdata)) (Loopback r) = e in cc) in
      ap (λ (x : Record). x.name) (sym same)
  owner-by o false true r e = absurd (let clash : ◌≡◌ {A = SpecialAnswer} (Nothing NXDomain) (Loopback r) = e in cc)
  owner-by o false false r e = absurd (let clash : ◌≡◌ {A = SpecialAnswer} Ordinary (Loopback r) = e in cc)

  module _ (one other : RecordType) (number : type_number one ≡ type_number other) where
    abbrev data_of : RecordType → Option RData
    data_of kind = loopback_data (type_of (type_number kind))

    pub special-same : special_answer (question b other) ≡ owned (special_answer (question a one))
    special-same =
        let local : is_loopback b ≡ is_loopback a = sym loopback-same in
        let none : is_nonexistent b ≡ is_nonexistent a = sym nonexistent-same in
        let same : type_number other ≡ type_number one = sym number in
        (λ i. cond (local i) (loopback_answer b (loopback_data (type_of (same i)))) (cond (none i) (Nothing NXDomain) Ordinary))
        ∙ owned-by (data_of one) (is_loopback a) (is_nonexistent a)

    pub owner-is : (r : Record) → special_answer (question a one) ≡ Loopback r → r.name ≡ a
    owner-is r e = owner-by (data_of one) (is_loopback a) (is_nonexistent a) r e

    -- ---- rows

    pub rows-same : (zone : ZoneContent) → rows_at zone.rows a.labels one ≡ rows_at zone.rows b.labels other
    rows-same zone = λ i. unwrap_or (rows_map.get zone.rows (low i, number i)) []

  pub aliases-same : (zone : ZoneContent) (kind : RecordType) → rows_at zone.rows a.labels kind ≡ rows_at zone.rows b.labels kind
  aliases-same zone kind = λ i. unwrap_or (rows_map.get zone.rows (low i, type_number kind)) []

  pub code-same : (zone : ZoneContent) → (negative zone a.labels).code ≡ (negative zone b.labels).code
  code-same zone =
      ap (λ (some : Bool). cond some NoError NXDomain)
      (λ i. list_any (λ k. at_or_below-lower a.labels b.labels k.0 k.0 low refl i) (rows_map.keys zone.rows))

  -- ---- values

  pub loopback-values : (r : Record) → r.name ≡ a → values (r ∷ []) ≡ values (record r { name = b } ∷ [])
  loopback-values r at =
      let flag-is : r.name.is_fqdn ≡ b.is_fqdn = ap (λ (n : DomainName). n.is_fqdn) at ∙ flag in
      let low-is : lower r.name.labels ≡ lower b.labels = ap (λ (n : DomainName). lower n.labels) at ∙ low in
      λ i. record r { name = record { is_fqdn = flag-is i; labels = low-is i }; ttl = 0 } ∷ []

  pub rows-values : (all : List Row) → values (map (record_of a) all) ≡ values (map (record_of b) all)
  rows-values [] = refl
  rows-values (row ∷ all) =
      let first : value_of (record_of a row) ≡ value_of (record_of b row) =
      λ i. record { name = record { is_fqdn = flag i; labels = low i }; dns_class = IN; ttl = 0; rdata = row.rdata } in
      let rest : values (map (record_of a) all) ≡ values (map (record_of b) all) = rows-values all in
      λ i. first i ∷ rest i
