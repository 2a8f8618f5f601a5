-- What stands where w. is an alias of h.: the set of addresses to which the alias leads, and that h. has no IPv6 address. No lookup of w. finds
-- that there is no address.
use Rattle.std.proofs.Common.{◌≡◌, ◌≢◌, ◌≤◌, ◌+◌, ◌*◌, ◌||◌, ◌⊎◌, ◌∙◌, arith, ℕ, Bool, false, cond, get_or, List, [], ◌∷◌, Contains, Some, None, refl, sym, ap, subst, inl, inr}
use Rattle.std.proofs.lemmas.List.Elements.{All-cons, All-contains, All-nil}
use Rattle.dns_wire.specs.codes.DNSClass.{class_number, class_of}
use Rattle.dns_wire.specs.codes.RecordType.{type_number, type_of}
use Rattle.dns_wire.specs.declared.codes.dns_class.DNSClass.{DNSClass}
use Rattle.dns_wire.specs.declared.codes.dns_class.DNSClass.TheVariants as classes
use Rattle.dns_wire.specs.declared.codes.record_type.RecordType.{RecordType}
use Rattle.dns_wire.specs.declared.codes.record_type.RecordType.TheVariants as types
use Rattle.dns_names.specs.Compare.{lower}
use Rattle.dns_names.specs.Name.{DomainName}
use Rattle.dns_names.proofs.ComparisonLaws.{at_or_below-lower}
use Rattle.dns_text.specs.Usage.{in_addr_arpa_127_zone, invalid_zone, ip6_arpa_1_zone, is_loopback, is_nonexistent, is_within, localhost_zone, onion_zone, zone_name}
use Rattle.dns_text.specs.declared.usage.ZoneUsage.{ZoneUsage}
use Rattle.dns_records.specs.Record.{Record}
use Rattle.dns_records.specs.Rows.{Rows, rows_at}
use Rattle.dns_records.specs.declared.row.Row.{Row}
use Rattle.dns_messages.specs.declared.query.Query.{Query}
use Rattle.dns_messages.specs.declared.response_code.ResponseCode.{ResponseCode}
use Rattle.dns_messages.specs.declared.response_code.ResponseCode.TheVariants.{NXDomain, NoError}
use Rattle.dns_zone.specs.Answer.{answer, direct_answer, negative}
use Rattle.dns_zone.proofs.AnswerLaws.{answered_directly}
use Rattle.stub_lookup.specs.declared.error.NoRecords.{NoRecords}
use Rattle.stub_cache.specs.Ttl.{TtlConfigContent, default_bounds, plain_config}
use Rattle.stub_hosts.specs.Hosts.{question}
use Rattle.stub_client.specs.SpecialNames.{in_class, loopback_answer, loopback_data, special_answer}
use Rattle.stub_client.specs.declared.special_names.SpecialAnswer.{SpecialAnswer}
use Rattle.stub_client.specs.declared.special_names.SpecialAnswer.TheVariants.{Nothing, Ordinary}
use Rattle.stub_laws.specs.answers.Claims.{longest_absence}
use Rattle.stub_laws.specs.answers.Standing.{HasBeenAbsent, HasRows, IsAbsent, IsLed, IsWholeSet}
use Rattle.stub_laws.specs.answers.Standing.HasBeenAbsent.{as_absence}
use Rattle.stub_laws.specs.answers.Standing.HasRows.{no_more, of_row}
use Rattle.stub_laws.specs.answers.Standing.IsLed.{by_alias, here}
use Rattle.stub_laws.specs.answers.Steady.{HasSpecialEnd, LeadsNowhere, always}
use Rattle.stub_laws.specs.history.Answered.{zone_with}
use Rattle.stub_laws.specs.history.Stands.{AreSame, IsFresh, IsReached}
use Rattle.stub_laws.specs.history.Stands.IsReached.{here as reached_here, by_alias as reached_by_alias}
use Rattle.stub_laws.proofs.AnswersSteadyLaws.{absent-here, always-stand, only-rows, set-here, short-ends}
use Rattle.stub_laws.proofs.GrowingLaws.{led-here, led-reached, set-fresh}
use Rattle.stub_laws.proofs.StandLaws.{contains-head}
use Rattle.stub_witnesses.proofs.AliasWitness.{addresses, alias, alias_row, alias_table, aliases, is_zone, led_to, no_alias_at_host, short, to_host, zone}
use Rattle.stub_witnesses.proofs.VersionsWitness.{address, below_found, host, newcomer, root, row, rows_there, start}

abbrev config : TtlConfigContent
config = plain_config default_bounds

abbrev record_with : ℕ → Record
record_with ttl = record { name = host; dns_class = classes.IN; ttl = ttl; rdata = address 1 }

-- ---- names that a question leads to

alias_there : Contains (rows_at zone.rows alias.labels types.CNAME) alias_row
alias_there = subst (λ (rs : List Row). Contains rs alias_row) (sym (aliases alias refl)) (contains-head alias_row [])

to_the_end : (kind : RecordType) → type_number kind ≢ 5 → IsLed false (always zone.rows) 30 kind alias 1 host
to_the_end kind other =
    by_alias 0 alias host 30 zone.rows alias_row (record { 0 = host }) other (here alias refl) (always-stand zone.rows 30) (omega arith) alias_there
    refl refl

pub alias_leads : IsLed false (always zone.rows) 30 types.A alias 1 host
alias_leads = to_the_end types.A (omega arith)

-- h. is reached from w.
pub host_is_reached : IsReached (always zone.rows) 30 alias host
host_is_reached = led-reached (omega arith) alias_leads

reached_names : {now : ℕ} {name : DomainName} → IsReached (always zone.rows) now alias name → AreSame alias name ⊎ AreSame host name
reached_names (reached_here name same) = inl same
reached_names (reached_by_alias owner name moment rows x target led s past there is same) =
    inr (ap (λ (n : DomainName). lower n.labels) (sym (to_host owner.labels x target
    (subst (λ (rs : Rows). Contains (rows_at rs owner.labels types.CNAME) x) (only-rows zone.rows moment rows s) there) is)) ∙ same)

abbrev first_octet : List (List ℕ) → ℕ
first_octet labels = get_or (get_or labels 0 []) 0 0

-- n. is not
pub newcomer_is_excluded : IsReached (always zone.rows) 30 alias newcomer → ⊥
newcomer_is_excluded led = by (reached_names led)
  where
    by : AreSame alias newcomer ⊎ AreSame host newcomer → ⊥
    by (inl same) = let clash : ◌≡◌ {A = ℕ} 119 110 = ap first_octet same in absurd (omega (arith, clash))
    by (inr same) = let clash : ◌≡◌ {A = ℕ} 104 110 = ap first_octet same in absurd (omega (arith, clash))

-- a question for the alias itself stays at w.
pub alias_stays : AreSame alias alias
alias_stays = led-here {preserves = false} {history = always zone.rows} {now = 30} {kind = types.CNAME} {from = alias} {to = alias} refl (here alias refl)

pub alias_leads_is_excluded : IsLed false (always zone.rows) 30 types.CNAME alias 1 host → ⊥
alias_leads_is_excluded led = let clash : ◌≡◌ {A = ℕ} 119 104 = ap first_octet (led-here refl led) in omega (arith, clash)

-- ---- the addresses of w.

set_of : (from : DomainName) (links : ℕ)
    → IsLed false (always zone.rows) 30 types.A from links host → IsWholeSet false (always zone.rows) 86400 30 types.A from (record_with 60 ∷ [])
set_of from links led = record {
  owner = host;
  full = refl;
  links = links;
  led = led;
  moment = 30;
  rows = zone.rows;
  stand = always-stand zone.rows 30;
  past = omega arith;
  filled = λ none. (let never : row 1 ∷ [] ≡ [] = sym (addresses host refl) ∙ none in absurd cc);
  set = subst (λ (rows : List Row). HasRows 86400 30 30 host types.A rows (record_with 60 ∷ [])) (sym (addresses host refl))
      (of_row (row 1) 60 [] [] refl (omega arith) no_more);
}

whole_set : IsWholeSet false (always zone.rows) 86400 30 types.A alias (record_with 60 ∷ [])
whole_set = set_of alias 1 alias_leads

pub set_is_fresh
    : IsFresh (always zone.rows) 86400 30 (record_with 60) × ((links : ℕ) × IsLed false (always zone.rows) 30 types.A alias links host)
set_is_fresh =
    set-fresh false (always zone.rows) 86400 30 types.A alias (record_with 60 ∷ []) (record_with 60) whole_set (contains-head (record_with 60) []) refl

not_fresh : IsFresh (always zone.rows) 86400 30 (record_with 61) → ⊥
not_fresh fresh =
    let there : Contains (row 1 ∷ []) fresh.row =
    subst (λ (rs : List Row). Contains rs fresh.row)
    (ap (λ (rows : Rows). rows_at rows host.labels types.A) (only-rows zone.rows fresh.moment fresh.rows fresh.stand) ∙ addresses host refl) fresh.holds in
    let ttl : fresh.row.ttl ≡ 60 =
    All-contains (λ (x : Row). x.ttl ≡ 60) (row 1 ∷ []) fresh.row
    (All-cons (λ (x : Row). x.ttl ≡ 60) (row 1) [] refl (All-nil (λ (x : Row). x.ttl ≡ 60))) there in
    let past = fresh.past in
    let lasts = fresh.lasts in
    omega (arith, ttl, past, lasts)

-- the set for a second more
pub longer_set_is_excluded : IsWholeSet false (always zone.rows) 86400 30 types.A alias (record_with 61 ∷ []) → ⊥
longer_set_is_excluded set =
    not_fresh (set-fresh false (always zone.rows) 86400 30 types.A alias (record_with 61 ∷ []) (record_with 61) set
    (contains-head (record_with 61) []) refl).0

-- ---- there is no IPv6 address

abbrev no_records : DomainName → NoRecords
no_records name = record {
  query = question name types.AAAA;
  soa = Some (record { name = root; dns_class = classes.IN; ttl = 60; rdata = record { mname = root; rname = root; serial = 1; refresh = 4; retry = 3; expire = 2; minimum = 21 } });
  ns = None;
  negative_ttl = Some 21;
  response_code = NoError;
  authorities = None;
}

no_row : rows_at zone.rows host.labels types.AAAA ≡ []
no_row = rows_there alias_table types.AAAA host host refl

more_than : (time : ℕ) → 30 ≤ 30 + time
more_than time = omega arith

absent_from : (from : DomainName) (links : ℕ) → IsLed false (always zone.rows) 30 types.AAAA from links host
    → IsAbsent config false root (always zone.rows) 0 30 types.AAAA from (no_records from)
absent_from from links led = record {
  owner = host;
  links = links;
  led = led;
  moment = 30;
  rows = zone.rows;
  stand = always-stand zone.rows 30;
  past = omega arith;
  recent = more_than (links * longest_absence config types.AAAA + 0);
  inside = refl;
  no_row = no_row;
  no_alias = no_alias_at_host host refl;
  code = sym (ap (λ (b : Bool). cond b NoError NXDomain) (below_found alias_table host.labels));
  soa_row = start;
  soa_there = rows_there alias_table types.SOA root root refl;
  soa = (refl, refl);
  left = 21;
  left_is = refl;
  lasts = λ least. omega arith;
}

absent : IsAbsent config false root (always zone.rows) 0 30 types.AAAA alias (no_records alias)
absent = absent_from alias 1 (to_the_end types.AAAA (omega arith))

-- the chain is followed to its end, where the type is absent
pub absent_at_the_end
    : IsAbsent config false root (always zone.rows) 0 30 types.AAAA alias (no_records alias)
    ⊎ HasSpecialEnd false (always zone.rows) 30 (question alias types.AAAA) (no_records alias)
absent_at_the_end =
    short-ends config false root zone.rows 0 30 (question alias types.AAAA) (no_records alias) is_zone short (omega arith) (omega arith) (as_absence absent)

-- the zone's answer to the question at the end is negative
pub answered_negatively : answer (zone_with root zone.rows) (question host types.AAAA) ≡ negative (zone_with root zone.rows) host.labels
answered_negatively =
    answered_directly (zone_with root zone.rows) (question host types.AAAA) refl (no_alias_at_host host refl)
    ∙ ap (λ (rows : List Row). direct_answer (zone_with root zone.rows) host rows) no_row

-- ---- there is an address

not_absent : (age now : ℕ) (a : NoRecords) → IsAbsent config false root (always zone.rows) age now types.A alias a → ⊥
not_absent age now a absence = by (led_to absence.led)
  where
    same_rows : absence.rows ≡ zone.rows
    same_rows = only-rows zone.rows absence.moment absence.rows absence.stand

    by : AreSame alias absence.owner ⊎ AreSame host absence.owner → ⊥
    by (inl same) =
        let there : rows_at absence.rows absence.owner.labels types.CNAME ≡ alias_row ∷ [] =
        ap (λ (rows : Rows). rows_at rows absence.owner.labels types.CNAME) same_rows ∙ aliases absence.owner same in
        let never : [] ≡ alias_row ∷ [] = sym absence.no_alias ∙ there in absurd cc
    by (inr same) =
        let there : rows_at absence.rows absence.owner.labels types.A ≡ row 1 ∷ [] =
        ap (λ (rows : Rows). rows_at rows absence.owner.labels types.A) same_rows ∙ addresses absence.owner same in
        let never : [] ≡ row 1 ∷ [] = sym absence.no_row ∙ there in absurd cc

-- neither w. nor h. is a special-use name, in any spelling
module _ (usual : DomainName) (name : DomainName) (same : AreSame usual name) where
  within_same : (usage : ZoneUsage) → is_within usage name ≡ is_within usage usual
  within_same usage = at_or_below-lower (zone_name usage).labels (zone_name usage).labels name.labels usual.labels refl (sym same)

  loopback_same : is_loopback name ≡ is_loopback usual
  loopback_same = λ i. within_same localhost_zone i || within_same in_addr_arpa_127_zone i || within_same ip6_arpa_1_zone i

  nonexistent_same : is_nonexistent name ≡ is_nonexistent usual
  nonexistent_same = λ i. within_same invalid_zone i || within_same onion_zone i

class_ordinary : (c : DNSClass) → in_class c Ordinary ≡ Ordinary
class_ordinary classes.IN = refl
class_ordinary other = refl

no_special : (p : Query) (usual : DomainName) → AreSame usual p.name → is_loopback usual ≡ false → is_nonexistent usual ≡ false
    → special_answer p ≡ Ordinary
no_special p usual same far there =
    ap (in_class (class_of (class_number p.query_class)))
    (λ i. cond ((loopback_same usual p.name same ∙ far) i) (loopback_answer p.name (loopback_data (type_of (type_number p.query_type))))
    (cond ((nonexistent_same usual p.name same ∙ there) i) (Nothing NXDomain) Ordinary))
    ∙ class_ordinary (class_of (class_number p.query_class))

not_special : (p : Query) (code : ResponseCode) → AreSame alias p.name ⊎ AreSame host p.name → special_answer p ≡ Nothing code → ⊥
not_special p code (inl same) special =
    let never : ◌≡◌ {A = SpecialAnswer} Ordinary (Nothing code) = sym (no_special p alias same refl refl) ∙ special in cc
not_special p code (inr same) special =
    let never : ◌≡◌ {A = SpecialAnswer} Ordinary (Nothing code) = sym (no_special p host same refl refl) ∙ special in cc

-- no negative answer to a question for the addresses of w. stood: the alias is followed
pub missing_addresses_are_excluded : (age now : ℕ) (a : NoRecords)
    → HasBeenAbsent config false root (always zone.rows) age now (question alias types.A) a → ⊥
missing_addresses_are_excluded age now a missing =
    by (short-ends config false root zone.rows age now (question alias types.A) a is_zone short (omega arith) (omega arith) missing)
  where
    by : IsAbsent config false root (always zone.rows) age now types.A alias a ⊎ HasSpecialEnd false (always zone.rows) now (question alias types.A) a → ⊥
    by (inl absence) = not_absent age now a absence
    by (inr end) = not_special end.question a.response_code (led_to end.led) end.special

-- ---- a question for h. leads nowhere

nowhere : (kind : RecordType) → LeadsNowhere false zone.rows (question host kind)
nowhere kind = record { no_alias = λ other. no_alias_at_host host refl; no_service = λ services. refl }

-- so its addresses are those of h., and it has no IPv6 address
pub found_here
    : AreSame host host × (rows_at zone.rows host.labels types.A ≢ [])
    × HasRows 86400 30 30 host types.A (rows_at zone.rows host.labels types.A) (record_with 60 ∷ [])
unfolding set_of
found_here = set-here false zone.rows 30 (question host types.A) (nowhere types.A) 86400 (record_with 60 ∷ []) (set_of host 0 (here host refl))

pub absent_here
    : AreSame host host × (rows_at zone.rows host.labels types.AAAA ≡ [])
    × ((no_records host).response_code ≡ (negative (zone_with root zone.rows) host.labels).code)
unfolding absent_from
absent_here =
    absent-here false zone.rows 30 (question host types.AAAA) (nowhere types.AAAA) config root 0 (no_records host) (absent_from host 0 (here host refl))
