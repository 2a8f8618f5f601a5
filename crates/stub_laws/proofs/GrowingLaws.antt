-- What stood in a history stands in one that goes on; and a whole set is fresh.
use Rattle.std.proofs.Common.{◌≡◌, ◌≢◌, ℕ, ◌+◌, ◌≤◌, min, Bool, true, List, [], ◌∷◌, Ok, Err, All, Contains, unwrap_or, refl, sym, ap, subst, ◌∙◌, slice_index_or, inl, inr, arith}
use Rattle.std.specs.FinMap as rows_map
use Rattle.std.proofs.lemmas.Bool.{true≢false}
use Rattle.std.proofs.lemmas.List.Elements.{All-cons, All-contains, All-nil, All-weaker, Contains-append_right}
use Rattle.dns_wire.specs.codes.RecordType.{type_number}
use Rattle.dns_wire.specs.declared.codes.record_type.RecordType.{RecordType}
use Rattle.dns_names.specs.Compare.{lower}
use Rattle.dns_names.specs.Name.{DomainName}
use Rattle.dns_data.specs.rdata.{data_type}
use Rattle.dns_records.specs.Record.{Record}
use Rattle.dns_records.specs.Rows.{rows_at}
use Rattle.dns_records.specs.declared.row.Row.{Row}
use Rattle.dns_messages.specs.Response.{has_type}
use Rattle.dns_messages.specs.declared.query.Query.{Query}
use Rattle.dns_zone.specs.Answer.{record_of}
use Rattle.stub_lookup.specs.declared.error.NoRecords.{NoRecords}
use Rattle.stub_cache.specs.Cache.{CacheContent, Kept}
use Rattle.stub_cache.specs.Ttl.{TtlConfigContent}
use Rattle.stub_cache.specs.declared.cache.entry.Entry.{Entry}
use Rattle.stub_core.specs.Origins.{HasNoMinima}
use Rattle.stub_link.specs.LinkState.{Version}
use Rattle.stub_laws.specs.history.Answered.{greatest_ttl}
use Rattle.stub_laws.specs.history.Stands.{AreSame, IsFresh, IsReached}
use Rattle.stub_laws.specs.history.Stands.IsReached.{by_alias as reached_by_alias, here as reached_here}
use Rattle.stub_laws.proofs.AnswerRowLaws.{equal-numbers}
use Rattle.stub_laws.proofs.StandLaws.{contains-head}
use Rattle.stub_laws.specs.answers.Claims.{HasNoNegativeMinima, HoldOfKept, longest_of}
use Rattle.stub_laws.specs.answers.Lookups.{CacheStands, GoesOn}
use Rattle.stub_laws.specs.answers.Standing.{FindsWhole, HasBeenAbsent, HasRows, HaveStood, IsLed, IsWholeSet, MissesIndeed}
use Rattle.stub_laws.specs.answers.Standing.IsLed.{by_alias, by_service, here}
use Rattle.stub_laws.specs.answers.Standing.HasRows.{no_more, of_other_type, of_row}
use Rattle.stub_laws.specs.answers.Standing.HasBeenAbsent.{as_absence, as_link, as_special}
use Rattle.stub_laws.specs.answers.Standing.HaveStood.{as_loopback, as_set}
use Rattle.stub_laws.proofs.StandingLaws.{IsLast}

module _ (preserves : Bool) (history other : List Version) where
  pub led-on : (now : ℕ) → GoesOn now history other → {kind : RecordType} {from to : DomainName} {links : ℕ} → IsLed preserves history now kind from links to
      → IsLed preserves other now kind from links to
  led-on now on (here to s) = here to s
  led-on now on (by_alias links owner to moment rows row alias follows rest stand past there is s) =
      by_alias links owner to moment rows row alias follows (led-on now on rest) (on moment rows past stand) past there is s
  led-on now on (by_service links owner to moment rows row service asks after rest stand past there is s) =
      by_service links owner to moment rows row service asks after (led-on now on rest) (on moment rows past stand) past there is s

  stood-on : (greatest now : ℕ) (q : Query) → GoesOn now history other → {rs : List Record} → HaveStood preserves history greatest now q rs
      → HaveStood preserves other greatest now q rs
  stood-on greatest now q on (as_set rs s) = as_set rs (record {
    owner = s.owner;
    full = s.full;
    links = s.links;
    led = led-on now on s.led;
    moment = s.moment;
    rows = s.rows;
    stand = on s.moment s.rows s.past s.stand;
    past = s.past;
    filled = s.filled;
    set = s.set;
  })
  stood-on greatest now q on (as_loopback r l) = as_loopback r (record {
    question = l.question;
    links = l.links;
    led = led-on now on l.led;
    whole = l.whole;
    special = l.special;
    same = l.same;
    lasts = l.lasts;
  })

  module _ (config : TtlConfigContent) (origin : DomainName) where
    last-on : (now : ℕ) → GoesOn now history other → {kind : RecordType} {owner : DomainName} → IsLast preserves origin history now kind owner
        → IsLast preserves origin other now kind owner
    last-on now on (inl s) = inl (record { first = s.first; before = s.before; many = s.many; led = led-on now on s.led })
    last-on now on (inr a) =
        inr (record { soa = a.soa; end = a.end; links = a.links; some = a.some; led = led-on now on a.led; away = a.away })

    lacking-on : (age now : ℕ) (q : Query) (answer : NoRecords) → GoesOn now history other
        → HasBeenAbsent config preserves origin history age now q answer → HasBeenAbsent config preserves origin other age now q answer
    lacking-on age now q answer on (as_absence a) = as_absence (record {
      owner = a.owner;
      links = a.links;
      led = led-on now on a.led;
      moment = a.moment;
      rows = a.rows;
      stand = on a.moment a.rows a.past a.stand;
      past = a.past;
      recent = a.recent;
      inside = a.inside;
      no_row = a.no_row;
      no_alias = a.no_alias;
      code = a.code;
      soa_row = a.soa_row;
      soa_there = a.soa_there;
      soa = a.soa;
      left = a.left;
      left_is = a.left_is;
      lasts = a.lasts;
    })
    lacking-on age now q answer on (as_special links p led special none) = as_special links p (led-on now on led) special none
    lacking-on age now q answer on (as_link a code none) = as_link (record {
      owner = a.owner;
      links = a.links;
      led = led-on now on a.led;
      moment = a.moment;
      rows = a.rows;
      stand = on a.moment a.rows a.past a.stand;
      past = a.past;
      recent = a.recent;
      there = a.there;
      last = last-on now on a.last;
      lasts = a.lasts;
    }) code none

    kept-on : (now : ℕ) (q : Query) (deadline : ℕ) (kept : Kept) → GoesOn now history other
        → HoldOfKept (HasNoMinima config) (HasNoNegativeMinima config) (longest_of config) (λ p at rs. FindsWhole config preserves history p at rs)
        (λ p at answer. MissesIndeed config preserves origin history p at answer) q now deadline kept
        → HoldOfKept (HasNoMinima config) (HasNoNegativeMinima config) (longest_of config) (λ p at rs. FindsWhole config preserves other p at rs)
        (λ p at answer. MissesIndeed config preserves origin other p at answer) q now deadline kept
    kept-on now q deadline (Ok m) on h = (λ none. stood-on (greatest_ttl config q.query_type) now q on (h.0 none), h.1)
    kept-on now q deadline (Err answer) on h = (lacking-on 0 now q answer on h.0, h.1, h.2)

    pub cache-on : (now : ℕ) (cache : CacheContent) → GoesOn now history other → CacheStands config preserves origin history now cache
        → CacheStands config preserves origin other now cache
    cache-on now cache on h = record {
      holds = λ k d less.
          let e : Entry = slice_index_or cache.entries k d in
          let past : e.moment ≤ now = (h.holds k d less).past in
          record {
            past = past;
            kept = kept-on e.moment e.question e.deadline e.kept (λ moment rows before. on moment rows (omega arith)) (h.holds k d less).kept;
          };
      typed = h.typed;
    }

-- ---- names that a question leads to

-- for a type other than SRV they are reached by aliases
pub led-reached : {preserves : Bool} {history : List Version} {now : ℕ} {kind : RecordType} {from to : DomainName} {links : ℕ} → type_number kind ≢ 33
    → IsLed preserves history now kind from links to → IsReached history now from to
led-reached other (here to s) = reached_here to s
led-reached other (by_alias links owner to moment rows row alias follows rest stand past there is s) =
    reached_by_alias owner to moment rows row alias (led-reached other rest) stand past there is s
led-reached other (by_service links owner to moment rows row service asks after rest stand past there is s) = absurd (other asks)

-- for CNAME there is only the name itself
pub led-here : {preserves : Bool} {history : List Version} {now : ℕ} {kind : RecordType} {from to : DomainName} {links : ℕ} → type_number kind ≡ 5
    → IsLed preserves history now kind from links to → AreSame from to
led-here is (here to s) = s
led-here is (by_alias links owner to moment rows row alias follows rest stand past there same s) = absurd (follows is)
led-here is (by_service links owner to moment rows row service asks after rest stand past there same s) =
    absurd (let clash : ◌≡◌ {A = ℕ} 5 33 = sym is ∙ asks in omega (arith, clash))

-- ---- whole sets

-- a record of the type is one of the rows
abbrev Among : ℕ → ℕ → ℕ → DomainName → RecordType → List Row → Record → Type 0
Among greatest moment now owner kind rows r =
    has_type kind r ≡ true → (row : Row) × Contains rows row × (r ≡ record (record_of owner row) { ttl = r.ttl })
    × (now + r.ttl ≤ moment + min row.ttl greatest)

rows-among : {greatest moment now : ℕ} {owner : DomainName} {kind : RecordType} {rows : List Row} {rs : List Record}
    → HasRows greatest moment now owner kind rows rs → All (Among greatest moment now owner kind rows) rs
rows-among {greatest} {moment} {now} {owner} {kind} no_more = All-nil (Among greatest moment now owner kind [])
rows-among {greatest} {moment} {now} {owner} {kind} (of_other_type r rows rs off more) =
    All-cons (Among greatest moment now owner kind rows) r rs (λ typed. absurd (true≢false (sym typed ∙ off))) (rows-among more)
rows-among {greatest} {moment} {now} {owner} {kind} (of_row row ttl rows rs is lasts more) =
    All-cons (Among greatest moment now owner kind (row ∷ rows)) (record (record_of owner row) { ttl = ttl }) rs
    (λ typed. (row, contains-head row rows, refl, lasts))
    (All-weaker (Among greatest moment now owner kind rows) (Among greatest moment now owner kind (row ∷ rows))
    (λ r among typed.
    (let a = among typed in (a.0, Contains-append_right (row ∷ []) rows a.0 a.1, a.2, a.3))) rs (rows-among more))

pub set-fresh : (preserves : Bool) (history : List Version) (greatest now : ℕ) (kind : RecordType) (from : DomainName) (rs : List Record) (r : Record)
    → IsWholeSet preserves history greatest now kind from rs → Contains rs r → has_type kind r ≡ true
    → IsFresh history greatest now r × ((links : ℕ) × IsLed preserves history now kind from links r.name)
set-fresh preserves history greatest now kind from rs r s there typed =
    let a = All-contains (Among greatest s.moment now s.owner kind (rows_at s.rows s.owner.labels kind)) rs r (rows-among s.set) there typed in
    let number : type_number (data_type a.0.rdata) ≡ type_number kind =
    ap (λ (x : Record). type_number (data_type x.rdata)) (sym a.2) ∙ equal-numbers (type_number (data_type r.rdata)) (type_number kind) typed in
    subst (λ (x : Record). IsFresh history greatest now x × ((links : ℕ) × IsLed preserves history now kind from links x.name)) (sym a.2) (
      record {
        full = s.full;
        moment = s.moment;
        rows = s.rows;
        row = a.0;
        stand = s.stand;
        past = s.past;
        holds = subst (λ (n : ℕ). Contains (unwrap_or (rows_map.get s.rows (lower s.owner.labels, n)) []) a.0) (sym number) a.1;
        same_data = refl;
        lasts = a.3;
      },
      (s.links, s.led),
    )
