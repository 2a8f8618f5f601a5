-- Whole sets and negative answers that stood, as TTLs run down and names are spelled otherwise: they are claims that outlast a
-- cache.
use Rattle.std.proofs.Common.{◌≡◌, ℕ, ◌+◌, ◌-◌, ◌*◌, ◌<◌, ◌≤◌, ◌==◌, max, suc, Bool, true, false, List, [], map, Option, Some, None, option_map, unwrap_or, refl, sym, ap, subst, ◌∙◌, slice_index_or, inl, inr, arith}
use Rattle.std.specs.Prelude.{◌⊎◌, IsSomeAnd}
use Rattle.std.specs.BTreeMap.{is_at}
use Rattle.std.specs.FinMap as rows_map
use Rattle.std.specs.Map.{lookup}
use Rattle.std.specs.Ordering.{nat_cmp}
use Rattle.std.proofs.Math.Nat.{suc-mul}
use Rattle.std.proofs.lemmas.Nat.{mul-le}
use Rattle.std.proofs.lemmas.List.Elements.{All-head, All-tail}
use Rattle.dns_wire.specs.codes.RecordType.{type_number}
use Rattle.dns_wire.specs.declared.codes.dns_class.DNSClass.TheVariants.{IN}
use Rattle.dns_wire.specs.declared.codes.record_type.RecordType.{RecordType}
use Rattle.dns_names.specs.Compare.{lower}
use Rattle.dns_names.specs.Name.{DomainName}
use Rattle.dns_data.specs.rdata.{data_type}
use Rattle.dns_records.specs.Record.{Record, after_seconds}
use Rattle.dns_records.specs.Rows.{Rows, rows_at}
use Rattle.dns_records.specs.declared.row.Row.{Row}
use Rattle.dns_messages.specs.Response.{has_type}
use Rattle.dns_messages.specs.declared.query.Query.{Query}
use Rattle.dns_zone.specs.Answer.{record_of}
use Rattle.stub_config.specs.declared.request_options.DnsRequestOptions.{DnsRequestOptions}
use Rattle.stub_lookup.specs.declared.error.DnsError.TheVariants as dns
use Rattle.stub_lookup.specs.declared.error.NetError.{NetError}
use Rattle.stub_lookup.specs.declared.error.NetError.TheVariants as errors
use Rattle.stub_lookup.specs.declared.error.NoRecords.{NoRecords}
use Rattle.stub_cache.specs.Ttl.{TtlConfigContent, TtlRange, aged_answer, negative_range}
use Rattle.stub_client.specs.Laws.{EachOf}
use Rattle.stub_core.specs.Origins.{HasNoMinima}
use Rattle.stub_link.specs.LinkState.{Version}
use Rattle.stub_laws.specs.history.Answered.{greatest_ttl}
use Rattle.stub_laws.specs.history.Stands.{AreSame}
use Rattle.stub_laws.proofs.FreshLaws.{range_at, same-names, same-numbers}
use Rattle.stub_laws.specs.answers.Claims.{AbsencesOutlast, AnswersOutlast, HasNoNegativeMinima, HoldOfSpecialNames, longest_absence, longest_of, negative_time}
use Rattle.stub_laws.specs.answers.Failing.{FailsIndeed, LeadsToQuestion}
use Rattle.stub_laws.specs.answers.Standing.{FindsWhole, HasBeenAbsent, HasLastLink, HasRows, HasSevenLinks, HaveStood, IsAbsent, IsDeep, IsLed, IsOfLocalHost, IsSoaOf, IsWholeSet, LacksIndeed, LeadsAway, LeadsOn, MissesIndeed}
use Rattle.stub_laws.specs.answers.Standing.IsLed.{by_alias, by_service, here}
use Rattle.stub_laws.specs.answers.Standing.HasBeenAbsent.{as_absence, as_link, as_special}
use Rattle.stub_laws.specs.answers.Standing.HasRows.{no_more, of_other_type, of_row}
use Rattle.stub_laws.specs.answers.Standing.HaveStood.{as_loopback, as_set}

-- ---- names that a question leads to

-- a name that is led to along so many links at least
pub record IsLedFar (preserves : Bool) (history : List Version) (now : ℕ) (kind : RecordType) (from : DomainName) (least : ℕ) (to : DomainName) : Type 0 where
  pub links : ℕ
  pub far : least ≤ links
  pub led : IsLed preserves history now kind from links to

pub led-same : {preserves : Bool} {history : List Version} {now : ℕ} {kind : RecordType} {from mid : DomainName} {links : ℕ} (to : DomainName)
    → IsLed preserves history now kind from links mid → AreSame mid to → IsLed preserves history now kind from links to
led-same to (here mid s) e = here to (s ∙ e)
led-same to (by_alias links owner mid moment rows row alias follows first stand past there is s) e =
    by_alias links owner to moment rows row alias follows first stand past there is (s ∙ e)
led-same to (by_service links owner mid moment rows row service asks after first stand past there is s) e =
    by_service links owner to moment rows row service asks after first stand past there is (s ∙ e)

still-far : (preserves : Bool) (links count all : ℕ) → (0 < links) ⊎ (preserves ≡ true) → count + links ≤ all → (0 < all) ⊎ (preserves ≡ true)
still-far preserves links count all (inl some) far = inl (omega (arith, some, far))
still-far preserves links count all (inr kept) far = inr kept

pub led-through : {preserves : Bool} {history : List Version} {now : ℕ} {kind : RecordType} {from mid goal : DomainName} {links more : ℕ}
    → IsLed preserves history now kind from links mid → IsLed preserves history now kind mid more goal
    → IsLedFar preserves history now kind from (links + more) goal
led-through {preserves} {history} {now} {kind} {from} {mid} {goal} {links} first (here to s) =
    record { links = links; far = omega arith; led = led-same to first s }
led-through {preserves} {history} {now} {kind} {from} {mid} {goal} {links} first (by_alias n owner to moment rows row alias follows rest stand past there is s) =
    let r = led-through first rest in
    record {
      links = suc r.links;
      far = omega (arith, r.far);
      led = by_alias r.links owner to moment rows row alias follows r.led stand past there is s;
    }
led-through {preserves} {history} {now} {kind} {from} {mid} {goal} {links} first (by_service n owner to moment rows row service asks after rest stand past there is s) =
    let r = led-through first rest in
    record {
      links = suc r.links;
      far = omega (arith, r.far);
      led = by_service r.links owner to moment rows row service asks (still-far preserves n links r.links after r.far) r.led stand past there is s;
    }

pub led-from : {preserves : Bool} {history : List Version} {now : ℕ} {kind : RecordType} {from to : DomainName} {links : ℕ} (other : DomainName)
    → AreSame from other → IsLed preserves history now kind from links to → IsLed preserves history now kind other links to
led-from other e (here to s) = here to (sym e ∙ s)
led-from other e (by_alias links owner to moment rows row alias follows rest stand past there is s) =
    by_alias links owner to moment rows row alias follows (led-from other e rest) stand past there is s
led-from other e (by_service links owner to moment rows row service asks after rest stand past there is s) =
    by_service links owner to moment rows row service asks after (led-from other e rest) stand past there is s

pub led-later : {preserves : Bool} {history : List Version} {now : ℕ} {kind : RecordType} {from to : DomainName} {links : ℕ} (later : ℕ) → now ≤ later
    → IsLed preserves history now kind from links to → IsLed preserves history later kind from links to
led-later later less (here to s) = here to s
led-later later less (by_alias links owner to moment rows row alias follows rest stand past there is s) =
    by_alias links owner to moment rows row alias follows (led-later later less rest) stand (omega arith) there is s
led-later later less (by_service links owner to moment rows row service asks after rest stand past there is s) =
    by_service links owner to moment rows row service asks after (led-later later less rest) stand (omega arith) there is s

-- for a type with the same number
pub led-typed : {preserves : Bool} {history : List Version} {now : ℕ} {kind : RecordType} {from to : DomainName} {links : ℕ} (other : RecordType)
    → type_number kind ≡ type_number other → IsLed preserves history now kind from links to → IsLed preserves history now other from links to
led-typed other same (here to s) = here to s
led-typed other same (by_alias links owner to moment rows row alias follows rest stand past there is s) =
    by_alias links owner to moment rows row alias (λ e. follows (same ∙ e)) (led-typed other same rest) stand past there is s
led-typed other same (by_service links owner to moment rows row service asks after rest stand past there is s) =
    by_service links owner to moment rows row service (sym same ∙ asks) after (led-typed other same rest) stand past there is s

-- for a question with the same name and type, up to ASCII case
pub led-respelled : {preserves : Bool} {history : List Version} {now : ℕ} (p q : Query) {to : DomainName} {links : ℕ} → type_number p.query_type ≡ type_number q.query_type
    → AreSame p.name q.name → IsLed preserves history now p.query_type p.name links to → IsLed preserves history now q.query_type q.name links to
led-respelled p q same name led = led-from q.name name (led-typed q.query_type same led)

-- ---- links that are not followed

-- why a link is not followed
abbrev pub IsLast : Bool → DomainName → List Version → ℕ → RecordType → DomainName → Type 0
IsLast preserves origin history now kind owner =
    HasSevenLinks preserves history now kind owner ⊎ LeadsAway preserves origin history now kind owner

last-later : (preserves : Bool) (origin : DomainName) (history : List Version) (now later : ℕ) (kind : RecordType) (owner : DomainName) → now ≤ later
    → IsLast preserves origin history now kind owner → IsLast preserves origin history later kind owner
last-later preserves origin history now later kind owner less (inl s) =
    inl (record { first = s.first; before = s.before; many = s.many; led = led-later later less s.led })
last-later preserves origin history now later kind owner less (inr a) =
    inr (record { soa = a.soa; end = a.end; links = a.links; some = a.some; led = led-later later less a.led; away = a.away })

-- for a type with the same number
last-typed : (preserves : Bool) (origin : DomainName) (history : List Version) (now : ℕ) (kind other : RecordType) (owner : DomainName)
    → type_number kind ≡ type_number other → IsLast preserves origin history now kind owner → IsLast preserves origin history now other owner
last-typed preserves origin history now kind other owner same (inl s) =
    inl (record { first = s.first; before = s.before; many = s.many; led = led-typed other same s.led })
last-typed preserves origin history now kind other owner same (inr a) =
    inr (record { soa = sym same ∙ a.soa; end = a.end; links = a.links; some = a.some; led = led-typed other same a.led; away = a.away })

-- ---- how far a lookup has come

-- it begins at its name
pub deep-first : (preserves : Bool) (history : List Version) (now : ℕ) (q : Query) → IsDeep preserves history now 0 q
deep-first preserves history now q = record { first = q.name; before = 0; far = omega arith; led = here q.name refl }

-- each time that it goes on, a link leads there, at least
pub deep-through : (preserves : Bool) (history : List Version) (now depth links : ℕ) (q target : Query) → target.query_type ≡ q.query_type → 0 < links
    → IsLed preserves history now q.query_type q.name links target.name → IsDeep preserves history now depth q
    → IsDeep preserves history now (suc depth) target
deep-through preserves history now depth links q target same some led d =
    let all = led-through d.led led in
    record {
      first = d.first;
      before = all.links;
      far = (let far : d.before + links ≤ all.links = all.far in let deep : depth ≤ d.before = d.far in omega (arith, some));
      led = subst (λ (kind : RecordType). IsLed preserves history now kind d.first all.links target.name) (sym same) all.led;
    }

-- ---- sets

-- with lower TTLs, at a later moment
pub rows-lowered : {greatest moment now : ℕ} {owner : DomainName} {kind : RecordType} {rows : List Row} {rs : List Record} (later : ℕ)
    (ttl_of : Record → ℕ) → HasRows greatest moment now owner kind rows rs → EachOf kind (λ r. later + ttl_of r ≤ now + r.ttl) rs
    → HasRows greatest moment later owner kind rows (map (λ (r : Record). record r { ttl = ttl_of r }) rs)
rows-lowered later ttl_of no_more each = no_more
rows-lowered {greatest} {moment} {now} {owner} {kind} later ttl_of (of_other_type r rows rs off more) each =
    let Each : Record → Type 0 = λ x. has_type kind x ≡ true → later + ttl_of x ≤ now + x.ttl in
    of_other_type (record r { ttl = ttl_of r }) rows (map (λ (x : Record). record x { ttl = ttl_of x }) rs) off (rows-lowered later ttl_of more (All-tail Each r rs each))
rows-lowered {greatest} {moment} {now} {owner} {kind} later ttl_of (of_row row ttl rows rs typed lasts more) each =
    let Each : Record → Type 0 = λ x. has_type kind x ≡ true → later + ttl_of x ≤ now + x.ttl in
    let first : Record = record (record_of owner row) { ttl = ttl } in
    let low : later + ttl_of first ≤ now + ttl = All-head Each first rs each typed in
    of_row row (ttl_of first) rows (map (λ (x : Record). record x { ttl = ttl_of x }) rs) typed (omega arith) (rows-lowered later ttl_of more (All-tail Each first rs each))

-- for a type with the same number
rows-respelled : {greatest moment now : ℕ} {owner : DomainName} {kind : RecordType} {rows : List Row} {rs : List Record} (other : RecordType)
    → type_number kind ≡ type_number other → HasRows greatest moment now owner kind rows rs → HasRows greatest moment now owner other rows rs
rows-respelled other same no_more = no_more
rows-respelled other same (of_other_type r rows rs off more) =
    of_other_type r rows rs (subst (λ (n : ℕ). (type_number (data_type r.rdata) == n) ≡ false) same off) (rows-respelled other same more)
rows-respelled other same (of_row row ttl rows rs typed lasts more) =
    of_row row ttl rows rs (subst (λ (n : ℕ). (type_number (data_type row.rdata) == n) ≡ true) same typed) lasts (rows-respelled other same more)

rows-of-number : (rows : Rows) (labels : List (List ℕ)) (kind other : RecordType) → type_number kind ≡ type_number other
    → rows_at rows labels kind ≡ rows_at rows labels other
rows-of-number rows labels kind other same = ap (λ (n : ℕ). unwrap_or (rows_map.get rows (lower labels, n)) []) same

set-lowered : (preserves : Bool) (history : List Version) (greatest now later : ℕ) (kind : RecordType) (from : DomainName) (rs : List Record) (ttl_of : Record → ℕ)
    → now ≤ later → IsWholeSet preserves history greatest now kind from rs → EachOf kind (λ r. later + ttl_of r ≤ now + r.ttl) rs
    → IsWholeSet preserves history greatest later kind from (map (λ (r : Record). record r { ttl = ttl_of r }) rs)
set-lowered preserves history greatest now later kind from rs ttl_of after s each = record {
  owner = s.owner;
  full = s.full;
  links = s.links;
  led = led-later later after s.led;
  moment = s.moment;
  rows = s.rows;
  stand = s.stand;
  past = omega (arith, s.past);
  filled = s.filled;
  set = rows-lowered later ttl_of s.set each;
}

set-respelled : (preserves : Bool) (history : List Version) (greatest now : ℕ) (p q : Query) (rs : List Record) → type_number p.query_type ≡ type_number q.query_type
    → AreSame p.name q.name → IsWholeSet preserves history greatest now p.query_type p.name rs → IsWholeSet preserves history greatest now q.query_type q.name rs
set-respelled preserves history greatest now p q rs same name s =
    let rows-same = rows-of-number s.rows s.owner.labels p.query_type q.query_type same in
    record {
      owner = s.owner;
      full = s.full;
      links = s.links;
      led = led-respelled p q same name s.led;
      moment = s.moment;
      rows = s.rows;
      stand = s.stand;
      past = s.past;
      filled = λ none. s.filled (rows-same ∙ none);
      set = subst (λ (rows : List Row). HasRows greatest s.moment now s.owner q.query_type rows rs) rows-same
          (rows-respelled q.query_type same s.set);
    }

set-through : (preserves : Bool) (history : List Version) (greatest now : ℕ) (kind : RecordType) (from mid : DomainName) (links : ℕ) (rs : List Record)
    → IsLed preserves history now kind from links mid → IsWholeSet preserves history greatest now kind mid rs → IsWholeSet preserves history greatest now kind from rs
set-through preserves history greatest now kind from mid links rs first s =
    let all = led-through first s.led in
    record {
      owner = s.owner;
      full = s.full;
      links = all.links;
      led = all.led;
      moment = s.moment;
      rows = s.rows;
      stand = s.stand;
      past = s.past;
      filled = s.filled;
      set = s.set;
    }

-- ---- answers

local-lowered : (preserves : Bool) (history : List Version) (now later ttl : ℕ) (kind : RecordType) (from : DomainName) (r : Record) → now ≤ later → ttl ≤ r.ttl
    → IsOfLocalHost preserves history now kind from r → IsOfLocalHost preserves history later kind from (record r { ttl = ttl })
local-lowered preserves history now later ttl kind from r after less l = record {
  question = l.question;
  links = l.links;
  led = led-later later after l.led;
  whole = l.whole;
  special = l.special;
  same = ap (λ (x : Record). record x { ttl = ttl }) l.same;
  lasts = omega (arith, l.lasts);
}

stood-lowered : (preserves : Bool) (history : List Version) (greatest now later : ℕ) (q : Query) (ttl_of : Record → ℕ) → now ≤ later
    → ((r : Record) → ttl_of r ≤ r.ttl) → {rs : List Record} → HaveStood preserves history greatest now q rs
    → EachOf q.query_type (λ r. later + ttl_of r ≤ now + r.ttl) rs
    → HaveStood preserves history greatest later q (map (λ (r : Record). record r { ttl = ttl_of r }) rs)
stood-lowered preserves history greatest now later q ttl_of after less (as_set rs s) each =
    as_set (map (λ (x : Record). record x { ttl = ttl_of x }) rs) (set-lowered preserves history greatest now later q.query_type q.name rs ttl_of after s each)
stood-lowered preserves history greatest now later q ttl_of after less (as_loopback r l) each =
    as_loopback (record r { ttl = ttl_of r }) (local-lowered preserves history now later (ttl_of r) q.query_type q.name r after (less r) l)

stood-respelled : (preserves : Bool) (history : List Version) (greatest now : ℕ) (p q : Query) → type_number p.query_type ≡ type_number q.query_type
    → AreSame p.name q.name → {rs : List Record} → HaveStood preserves history greatest now p rs → HaveStood preserves history greatest now q rs
stood-respelled preserves history greatest now p q same name (as_set rs s) = as_set rs (set-respelled preserves history greatest now p q rs same name s)
stood-respelled preserves history greatest now p q same name (as_loopback r l) =
    as_loopback r (record {
      question = l.question;
      links = l.links;
      led = led-respelled p q same name l.led;
      whole = l.whole;
      special = l.special;
      same = l.same;
      lasts = l.lasts;
    })

pub stood-through : (preserves : Bool) (history : List Version) (greatest now links : ℕ) (q target : Query) → target.query_type ≡ q.query_type
    → IsLed preserves history now q.query_type q.name links target.name → {rs : List Record} → HaveStood preserves history greatest now target rs
    → HaveStood preserves history greatest now q rs
stood-through preserves history greatest now links q target same first (as_set rs s) =
    as_set rs (set-through preserves history greatest now q.query_type q.name target.name links rs first
    (subst (λ (kind : RecordType). IsWholeSet preserves history greatest now kind target.name rs) same s))
stood-through preserves history greatest now links q target same first (as_loopback r l) =
    let all = led-through first (subst (λ (kind : RecordType). IsLed preserves history now kind target.name l.links l.question.name) same l.led) in
    as_loopback r (record {
      question = l.question;
      links = all.links;
      led = all.led;
      whole = l.whole;
      special = l.special;
      same = l.same;
      lasts = l.lasts;
    })

-- what is left of a TTL, at the end of which no moment is past
left-lasts : (since now ttl : ℕ) → since ≤ now → now ≤ since + ttl → now + (ttl - (now - since)) ≤ since + ttl
left-lasts since now ttl past due = omega arith

pub finds-outlast : (config : TtlConfigContent) (preserves : Bool) (history : List Version)
    → AnswersOutlast (HasNoMinima config) (λ q at rs. FindsWhole config preserves history q at rs)
finds-outlast config preserves history = record {
  ages = λ q since now rs h past due. λ none.
      stood-lowered preserves history (greatest_ttl config q.query_type) since now q (λ r. r.ttl - (now - since)) past (λ r. omega arith) (h none)
      (λ k d less typed. left-lasts since now (slice_index_or rs k d).ttl past (due none k d less typed));
  lowers = λ q now ttl_of rs h less. λ none.
      stood-lowered preserves history (greatest_ttl config q.query_type) now now q ttl_of (omega arith) (less none) (h none)
      (λ k d there typed. (let low : ttl_of (slice_index_or rs k d) ≤ (slice_index_or rs k d).ttl = less none (slice_index_or rs k d) in omega arith));
  respells = λ p q now rs h same. λ none.
      (let number = same-numbers p q same in
      subst (λ (n : ℕ). HaveStood preserves history (range_at config n).greatest now q rs) number
      (stood-respelled preserves history (greatest_ttl config p.query_type) now p q number (same-names p q same) (h none)));
}

-- ---- negative answers

-- how long negative answers are kept, by the number of their type
abbrev negative_at : TtlConfigContent → ℕ → TtlRange
negative_at config n = negative_range (unwrap_or (lookup (is_at (nat_cmp n)) config.by_query_type) config.default)

abbrev longest_at : TtlConfigContent → ℕ → ℕ
longest_at config n = max (negative_at config n).least (negative_at config n).greatest

longest-same : (config : TtlConfigContent) (p q : RecordType) → type_number p ≡ type_number q → longest_absence config p ≡ longest_absence config q
longest-same config p q same = ap (longest_at config) same

-- once more along at least one link
longer : (few many longest : ℕ) → suc few ≤ many → few * longest + longest ≤ many * longest
longer few many longest less =
    subst (λ (x : ℕ). x ≤ many * longest) (suc-mul few longest) (mul-le (suc few) longest many longest less (omega arith))

recent-aged : (since now moment kept longest : ℕ) → since ≤ moment + (kept + 0) → now ≤ since + longest → now ≤ moment + (kept + longest)
recent-aged since now moment kept longest recent most = omega arith

recent-returned : (now moment kept age : ℕ) → now ≤ moment + (kept + 0) → now ≤ moment + (kept + age)
recent-returned now moment kept age recent = omega arith

recent-through : (now moment kept longest more : ℕ) → now ≤ moment + (kept + longest) → kept + longest ≤ more → now ≤ moment + (more + 0)
recent-through now moment kept longest more recent less = omega arith

some-mapped : {X Y : Type 0} (P : X → Type 0) (Q : Y → Type 0) (f : X → Y) → ((x : X) → P x → Q (f x)) → (o : Option X) → IsSomeAnd o P
    → IsSomeAnd (option_map f o) Q
some-mapped P Q f turn (Some x) h = turn x h
some-mapped P Q f turn None h = absurd h

module _ (config : TtlConfigContent) (preserves : Bool) (origin : DomainName) (history : List Version) where
  absent-aged : (since now : ℕ) (kind : RecordType) (from : DomainName) (answer : NoRecords) → since ≤ now
      → (HasNoNegativeMinima config → now ≤ since + negative_time answer) → now ≤ since + longest_absence config kind
      → IsAbsent config preserves origin history 0 since kind from answer
      → IsAbsent config preserves origin history (longest_absence config kind) now kind from (aged_answer (now - since) answer)
  absent-aged since now kind from answer past due most a =
      let time : negative_time answer ≡ a.left = ap (λ (o : Option ℕ). unwrap_or o 0) a.left_is in
      record {
        owner = a.owner;
        links = a.links;
        led = led-later now past a.led;
        moment = a.moment;
        rows = a.rows;
        stand = a.stand;
        past = omega (arith, a.past, past);
        recent = recent-aged since now a.moment (a.links * longest_absence config kind) (longest_absence config kind) a.recent most;
        inside = a.inside;
        no_row = a.no_row;
        no_alias = a.no_alias;
        code = a.code;
        soa_row = a.soa_row;
        soa_there = a.soa_there;
        soa = some-mapped (IsSoaOf origin a.soa_row) (IsSoaOf origin a.soa_row) (after_seconds (now - since)) (λ soa is. is) answer.soa a.soa;
        left = a.left - (now - since);
        left_is = ap (option_map (λ (ttl : ℕ). ttl - (now - since))) a.left_is;
        lasts = λ none.
            (let last = a.lasts none in
            let before = due none in
            omega (arith, last, before, time, past));
      }

  link-aged : (since now : ℕ) (kind : RecordType) (from : DomainName) (answer : NoRecords) → since ≤ now → answer.negative_ttl ≡ None
      → (HasNoNegativeMinima config → now ≤ since + negative_time answer) → now ≤ since + longest_absence config kind
      → HasLastLink config preserves origin history 0 since kind from
      → HasLastLink config preserves origin history (longest_absence config kind) now kind from
  link-aged since now kind from answer past no_ttl due most a =
      let time : negative_time answer ≡ 0 = ap (λ (o : Option ℕ). unwrap_or o 0) no_ttl in
      record {
        owner = a.owner;
        links = a.links;
        led = led-later now past a.led;
        moment = a.moment;
        rows = a.rows;
        stand = a.stand;
        past = omega (arith, a.past, past);
        recent = recent-aged since now a.moment (a.links * longest_absence config kind) (longest_absence config kind) a.recent most;
        there = a.there;
        last = last-later preserves origin history since now kind a.owner past a.last;
        lasts = λ none.
            (let last = a.lasts none in
            let before = due none in
            omega (arith, last, before, time, past));
      }

  lacking-aged : (since now : ℕ) (q : Query) (answer : NoRecords) → since ≤ now → (HasNoNegativeMinima config → now ≤ since + negative_time answer)
      → now ≤ since + longest_absence config q.query_type → HasBeenAbsent config preserves origin history 0 since q answer
      → HasBeenAbsent config preserves origin history (longest_absence config q.query_type) now q (aged_answer (now - since) answer)
  lacking-aged since now q answer past due most (as_absence a) =
      as_absence (absent-aged since now q.query_type q.name answer past due most a)
  lacking-aged since now q answer past due most (as_special links p led special none) =
      as_special links p (led-later now past led) special (ap (option_map (λ (ttl : ℕ). ttl - (now - since))) none)
  lacking-aged since now q answer past due most (as_link a code none) =
      as_link (link-aged since now q.query_type q.name answer past none due most a) code (ap (option_map (λ (ttl : ℕ). ttl - (now - since))) none)

  -- what is stored may be returned at once
  lacking-returned : (now age : ℕ) (q : Query) (answer : NoRecords) → HasBeenAbsent config preserves origin history 0 now q answer
      → HasBeenAbsent config preserves origin history age now q answer
  lacking-returned now age q answer (as_absence a) = as_absence (record {
    owner = a.owner;
    links = a.links;
    led = a.led;
    moment = a.moment;
    rows = a.rows;
    stand = a.stand;
    past = a.past;
    recent = recent-returned now a.moment (a.links * longest_absence config q.query_type) age a.recent;
    inside = a.inside;
    no_row = a.no_row;
    no_alias = a.no_alias;
    code = a.code;
    soa_row = a.soa_row;
    soa_there = a.soa_there;
    soa = a.soa;
    left = a.left;
    left_is = a.left_is;
    lasts = a.lasts;
  })
  lacking-returned now age q answer (as_special links p led special none) = as_special links p led special none
  lacking-returned now age q answer (as_link a code none) = as_link (record {
    owner = a.owner;
    links = a.links;
    led = a.led;
    moment = a.moment;
    rows = a.rows;
    stand = a.stand;
    past = a.past;
    recent = recent-returned now a.moment (a.links * longest_absence config q.query_type) age a.recent;
    there = a.there;
    last = a.last;
    lasts = a.lasts;
  }) code none

  -- a type with the same number, and a name in another spelling
  lacking-respelled : (now age : ℕ) (p q : Query) (answer : NoRecords) → type_number p.query_type ≡ type_number q.query_type
      → AreSame p.name q.name → HasBeenAbsent config preserves origin history age now p answer → HasBeenAbsent config preserves origin history age now q answer
  lacking-respelled now age p q answer same name (as_absence a) =
      let most : longest_absence config p.query_type ≡ longest_absence config q.query_type = longest-same config p.query_type q.query_type same in
      as_absence (record {
        owner = a.owner;
        links = a.links;
        led = led-respelled p q same name a.led;
        moment = a.moment;
        rows = a.rows;
        stand = a.stand;
        past = a.past;
        recent = subst (λ (l : ℕ). now ≤ a.moment + (a.links * l + age)) most a.recent;
        inside = a.inside;
        no_row = sym (rows-of-number a.rows a.owner.labels p.query_type q.query_type same) ∙ a.no_row;
        no_alias = a.no_alias;
        code = a.code;
        soa_row = a.soa_row;
        soa_there = a.soa_there;
        soa = a.soa;
        left = a.left;
        left_is = a.left_is;
        lasts = a.lasts;
      })
  lacking-respelled now age p q answer same name (as_special links s led special none) =
      as_special links s (led-respelled p q same name led) special none
  lacking-respelled now age p q answer same name (as_link a code none) =
      let most : longest_absence config p.query_type ≡ longest_absence config q.query_type = longest-same config p.query_type q.query_type same in
      as_link (record {
        owner = a.owner;
        links = a.links;
        led = led-respelled p q same name a.led;
        moment = a.moment;
        rows = a.rows;
        stand = a.stand;
        past = a.past;
        recent = subst (λ (l : ℕ). now ≤ a.moment + (a.links * l + age)) most a.recent;
        there = there-same a.rows a.owner a.there;
        last = last-typed preserves origin history now p.query_type q.query_type a.owner same a.last;
        lasts = a.lasts;
      }) code none
    where
      there-same : (rows : Rows) (owner : DomainName) → LeadsOn rows p.query_type owner → LeadsOn rows q.query_type owner
      there-same rows owner (inl h) = inl (λ e. h.0 (same ∙ e), h.1)
      there-same rows owner (inr h) = inr (sym same ∙ h.0, h.1)

  -- Where a question leads along a link, a negative answer that may have been kept there is one that may be stored here.
  absent-through : (now links : ℕ) (kind : RecordType) (from mid : DomainName) (answer : NoRecords) → 0 < links
      → IsLed preserves history now kind from links mid → IsAbsent config preserves origin history (longest_absence config kind) now kind mid answer
      → IsAbsent config preserves origin history 0 now kind from answer
  absent-through now links kind from mid answer some first a =
      let all = led-through first a.led in
      let more : a.links * longest_absence config kind + longest_absence config kind ≤ all.links * longest_absence config kind =
      longer a.links all.links (longest_absence config kind) (omega (arith, some, all.far)) in
      record {
        owner = a.owner;
        links = all.links;
        led = all.led;
        moment = a.moment;
        rows = a.rows;
        stand = a.stand;
        past = a.past;
        recent = recent-through now a.moment (a.links * longest_absence config kind) (longest_absence config kind)
            (all.links * longest_absence config kind) a.recent more;
        inside = a.inside;
        no_row = a.no_row;
        no_alias = a.no_alias;
        code = a.code;
        soa_row = a.soa_row;
        soa_there = a.soa_there;
        soa = a.soa;
        left = a.left;
        left_is = a.left_is;
        lasts = a.lasts;
      }

  link-through : (now links : ℕ) (kind : RecordType) (from mid : DomainName) → 0 < links → IsLed preserves history now kind from links mid
      → HasLastLink config preserves origin history (longest_absence config kind) now kind mid
      → HasLastLink config preserves origin history 0 now kind from
  link-through now links kind from mid some first a =
      let all = led-through first a.led in
      let more : a.links * longest_absence config kind + longest_absence config kind ≤ all.links * longest_absence config kind =
      longer a.links all.links (longest_absence config kind) (omega (arith, some, all.far)) in
      record {
        owner = a.owner;
        links = all.links;
        led = all.led;
        moment = a.moment;
        rows = a.rows;
        stand = a.stand;
        past = a.past;
        recent = recent-through now a.moment (a.links * longest_absence config kind) (longest_absence config kind)
            (all.links * longest_absence config kind) a.recent more;
        there = a.there;
        last = a.last;
        lasts = a.lasts;
      }

  pub lacking-through : (now links : ℕ) (q target : Query) (answer : NoRecords) → target.query_type ≡ q.query_type → 0 < links
      → IsLed preserves history now q.query_type q.name links target.name → LacksIndeed config preserves origin history target now answer
      → MissesIndeed config preserves origin history q now answer
  lacking-through now links q target answer same some first h =
      by (subst (λ (kind : RecordType). HasBeenAbsent config preserves origin history (longest_absence config kind) now target answer) same h)
    where
      most : ℕ
      most = longest_absence config q.query_type

      by : HasBeenAbsent config preserves origin history most now target answer → HasBeenAbsent config preserves origin history 0 now q answer
      by (as_absence a) =
          as_absence (absent-through now links q.query_type q.name target.name answer some first
          (subst (λ (kind : RecordType). IsAbsent config preserves origin history most now kind target.name answer) same a))
      by (as_special more s led special none) =
          let all = led-through first (subst (λ (kind : RecordType). IsLed preserves history now kind target.name more s.name) same led) in
          as_special all.links s all.led special none
      by (as_link a code none) =
          as_link (link-through now links q.query_type q.name target.name some first
          (subst (λ (kind : RecordType). HasLastLink config preserves origin history most now kind target.name) same a)) code none

  pub lacks-outlast : AbsencesOutlast (HasNoNegativeMinima config) (longest_of config) (λ q at answer. MissesIndeed config preserves origin history q at answer)
      (λ q at answer. LacksIndeed config preserves origin history q at answer)
  lacks-outlast = record {
    returns = λ q now answer h. lacking-returned now (longest_absence config q.query_type) q answer h;
    ages = λ q since now answer h past due most. lacking-aged since now q answer past due most h;
    respells = λ p q now answer h same.
        (let number = same-numbers p q same in
        lacking-respelled now (longest_absence config q.query_type) p q answer number (same-names p q same)
        (subst (λ (age : ℕ). HasBeenAbsent config preserves origin history age now p answer) (longest-same config p.query_type q.query_type number) h));
  }

-- ---- errors

-- where a question leads to another one along a link, it leads to what that one leads to
leads-through : (preserves : Bool) (history : List Version) (now links : ℕ) (q target p : Query) → target.query_type ≡ q.query_type
    → target.query_class ≡ IN → IsLed preserves history now q.query_type q.name links target.name → LeadsToQuestion preserves history now target p
    → LeadsToQuestion preserves history now q p
leads-through preserves history now links q target p same class first l =
    let all = led-through first (subst (λ (kind : RecordType). IsLed preserves history now kind target.name l.links p.name) same l.led) in
    record {
      links = all.links;
      led = all.led;
      same_type = l.same_type ∙ same;
      same_class = elim l.same_class [
        | inl as_target ↦ inr (as_target ∙ class)
        | inr internet ↦ inr internet
      ];
    }

-- a question leads to itself
pub leads-here : (preserves : Bool) (history : List Version) (now : ℕ) (q : Query) → LeadsToQuestion preserves history now q q
leads-here preserves history now q = record { links = 0; led = here q.name refl; same_type = refl; same_class = inl refl }

pub fails-through : (preserves : Bool) (origin : DomainName) (options : DnsRequestOptions) (history : List Version) (failed : List Query) (now links : ℕ)
    (q target : Query) (error : NetError) → target.query_type ≡ q.query_type → target.query_class ≡ IN
    → IsLed preserves history now q.query_type q.name links target.name
    → FailsIndeed preserves origin options history failed target now error → FailsIndeed preserves origin options history failed q now error
fails-through preserves origin options history failed now links q target (errors.Link fault) same class first h = record {
  question = h.question;
  leads = leads-through preserves history now links q target h.question same class first h.leads;
  fails = h.fails;
}
fails-through preserves origin options history failed now links q target (errors.Dns (dns.ResponseCode code)) same class first h = record {
  question = h.question;
  leads = leads-through preserves history now links q target h.question same class first h.leads;
  rows = h.rows;
  stand = h.stand;
  refused = h.refused;
  code_is = h.code_is;
}
fails-through preserves origin options history failed now links q target errors.Unsupported same class first h = record {
  question = h.question;
  leads = leads-through preserves history now links q target h.question same class first h.leads;
  no_question = h.no_question;
}
fails-through preserves origin options history failed now links q target errors.Memory same class first h = tt
fails-through preserves origin options history failed now links q target (errors.Dns (dns.NoRecordsFound answer)) same class first h = absurd h
fails-through preserves origin options history failed now links q target (errors.Proto error) same class first h = absurd h
fails-through preserves origin options history failed now links q target (errors.Message text) same class first h = absurd h

-- ---- special-use names

pub special-hold : (config : TtlConfigContent) (preserves : Bool) (origin : DomainName) (history : List Version)
    → HoldOfSpecialNames (λ q at rs. FindsWhole config preserves history q at rs) (λ q at answer. LacksIndeed config preserves origin history q at answer)
special-hold config preserves origin history = record {
  loopback = λ q now r e. λ none.
      as_loopback r (record { question = q; links = 0; led = here q.name refl; whole = r; special = e; same = refl; lasts = omega arith });
  nothing = λ q now code e. as_special 0 q (here q.name refl) e refl;
}
