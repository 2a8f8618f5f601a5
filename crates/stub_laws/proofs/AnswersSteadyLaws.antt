-- What stood in a zone that always had the same rows are these rows: where a question leads nowhere, those at its name.
use Rattle.std.proofs.Common.{◌≡◌, ◌≢◌, ℕ, ◌≤◌, suc, Bool, inl, inr, List, [], ◌∷◌, ◌++◌, Contains, unwrap_or, refl, sym, ap, subst, ◌∙◌, arith}
use Rattle.std.specs.Prelude.{◌⊎◌}
use Rattle.std.specs.FinMap as rows_map
use Rattle.std.proofs.lemmas.Bool.{true≢false}
use Rattle.dns_wire.specs.codes.RecordType.{type_number}
use Rattle.dns_wire.specs.declared.codes.record_type.RecordType.{RecordType}
use Rattle.dns_wire.specs.declared.codes.record_type.RecordType.TheVariants as types
use Rattle.dns_names.specs.Name.{DomainName}
use Rattle.dns_records.specs.Record.{Record}
use Rattle.dns_records.specs.Rows.{Rows, rows_at}
use Rattle.dns_records.specs.declared.row.Row.{Row}
use Rattle.dns_messages.specs.declared.query.Query.{Query}
use Rattle.dns_zone.specs.Answer.{negative}
use Rattle.dns_zone.specs.Rows.{IsZone}
use Rattle.stub_lookup.specs.declared.error.NoRecords.{NoRecords}
use Rattle.stub_cache.specs.Ttl.{TtlConfigContent}
use Rattle.stub_link.specs.LinkState.{Version}
use Rattle.stub_laws.specs.history.Answered.{zone_with}
use Rattle.stub_laws.specs.history.Stands.{AreSame, IsLinked, StandAt}
use Rattle.stub_laws.specs.history.Stands.IsLinked.{no_link, one_link}
use Rattle.stub_laws.proofs.AnswerRowLaws.{alias-there}
use Rattle.stub_laws.proofs.ChainLaws.{alias-cname}
use Rattle.stub_laws.proofs.StandLaws.{contains-none}
use Rattle.stub_laws.specs.walk.Answered.{HasShortAliases}
use Rattle.stub_laws.specs.answers.Standing.{HasBeenAbsent, HasLastLink, HasRows, HasSevenLinks, IsAbsent, IsLed, IsWholeSet, LeadsAway, LeadsOn}
use Rattle.stub_laws.specs.answers.Standing.HasBeenAbsent.{as_absence, as_link, as_special}
use Rattle.stub_laws.specs.answers.Standing.IsLed.{by_alias, by_service, here}
use Rattle.stub_laws.specs.answers.Steady.{HasSpecialEnd, LeadsNowhere, always}

same-head : (v w : Version) (vs ws : List Version) → ◌≡◌ {A = List Version} (v ∷ vs) (w ∷ ws) → v ≡ w
same-head v w vs ws e = cc

only-version : (v w : Version) (before after : List Version) → ◌≡◌ {A = List Version} (v ∷ []) (before ++ w ∷ after) → w ≡ v
only-version v w [] after e = sym (same-head v w [] after e)
only-version v w (b ∷ []) after e =
    absurd (let clash : ◌≡◌ {A = List Version} (v ∷ []) (b ∷ (w ∷ after)) = e in cc)
only-version v w (b ∷ (c ∷ before)) after e =
    absurd (let clash : ◌≡◌ {A = List Version} (v ∷ []) (b ∷ (c ∷ (before ++ w ∷ after))) = e in cc)

-- no other rows stand there
pub only-rows : (rows : Rows) (moment : ℕ) (others : Rows) → StandAt (always rows) moment others → others ≡ rows
only-rows rows moment others s =
    ap (λ (v : Version). v.rows)
    (only-version (record { moment = 0; rows = rows }) (record { moment = s.since; rows = others }) s.before s.after s.split)

pub always-stand : (rows : Rows) (moment : ℕ) → StandAt (always rows) moment rows
always-stand rows moment = record { before = []; since = 0; after = []; split = refl; begun = omega arith; lasts = tt }

module _ (preserves : Bool) (rows : Rows) (now : ℕ) (q : Query) (nowhere : LeadsNowhere preserves rows q) where
  no-alias-there : (owner : DomainName) → AreSame q.name owner → (moment : ℕ) (others : Rows) → StandAt (always rows) moment others
      → type_number q.query_type ≢ 5 → rows_at others owner.labels types.CNAME ≡ []
  no-alias-there owner same moment others stand follows =
      let there : rows_at others owner.labels types.CNAME ≡ rows_at rows q.name.labels types.CNAME =
      λ i. unwrap_or (rows_map.get (only-rows rows moment others stand i) (sym same i, 5)) [] in
      there ∙ nowhere.no_alias follows

  pub led-nowhere : {links : ℕ} {name : DomainName} → IsLed preserves (always rows) now q.query_type q.name links name
      → (links ≡ 0) × AreSame q.name name
  led-nowhere (here name s) = (refl, s)
  led-nowhere (by_alias links owner name moment others row alias follows rest stand past there is s) =
      let same = (led-nowhere rest).1 in
      absurd
      (contains-none row (subst (λ (all : List Row). Contains all row) (no-alias-there owner same moment others stand follows) there))
  led-nowhere (by_service links owner name moment others row service asks (inl some) rest stand past there is s) =
      absurd (let none = (led-nowhere rest).0 in omega (arith, some, none))
  led-nowhere (by_service links owner name moment others row service asks (inr kept) rest stand past there is s) =
      absurd (true≢false (sym kept ∙ nowhere.no_service asks))

  -- the rows of the type at a name that is led to are those at the name of the question
  pub rows-here : {links : ℕ} (owner : DomainName) → IsLed preserves (always rows) now q.query_type q.name links owner → (moment : ℕ) (others : Rows)
      → StandAt (always rows) moment others → rows_at others owner.labels q.query_type ≡ rows_at rows q.name.labels q.query_type
  rows-here owner led moment others stand =
      λ i. unwrap_or (rows_map.get (only-rows rows moment others stand i) (sym (led-nowhere led).1 i, type_number q.query_type)) []

  pub set-here : (greatest : ℕ) (records : List Record) → (s : IsWholeSet preserves (always rows) greatest now q.query_type q.name records)
      → AreSame q.name s.owner
      × (rows_at rows q.name.labels q.query_type ≢ [])
      × HasRows greatest s.moment now s.owner q.query_type (rows_at rows q.name.labels q.query_type) records
  set-here greatest records s =
      let same = rows-here s.owner s.led s.moment s.rows s.stand in (
        (led-nowhere s.led).1,
        λ none. s.filled (same ∙ none),
        subst (λ (all : List Row). HasRows greatest s.moment now s.owner q.query_type all records) same s.set,
      )

  pub absent-here : (config : TtlConfigContent) (origin : DomainName) (age : ℕ) (answer : NoRecords)
      → (a : IsAbsent config preserves origin (always rows) age now q.query_type q.name answer)
      → AreSame q.name a.owner × (rows_at rows q.name.labels q.query_type ≡ [])
      × (answer.response_code ≡ (negative (zone_with origin rows) a.owner.labels).code)
  absent-here config origin age answer a = (
    (led-nowhere a.led).1,
    sym (rows-here a.owner a.led a.moment a.rows a.stand) ∙ a.no_row,
    a.code ∙ ap (λ (others : Rows). (negative (zone_with origin others) a.owner.labels).code) (only-rows rows a.moment a.rows a.stand),
  )

-- ---- chains that are short

-- the first of some rows
first-row : (rows : List Row) → rows ≢ [] → (row : Row) × (more : List Row) × (rows ≡ row ∷ more)
first-row [] some = absurd (some refl)
first-row (row ∷ more) some = (row, more, refl)

module _ (preserves : Bool) (rows : Rows) (now : ℕ) (kind : RecordType) (no_service : type_number kind ≢ 33) where
  -- links of such a question are aliases in the rows
  led-linked : {from : DomainName} {links : ℕ} {name : DomainName} → IsLed preserves (always rows) now kind from links name
      → (last : DomainName) × IsLinked rows from links last × AreSame last name
  led-linked {from} (here name s) = (from, no_link, s)
  led-linked (by_alias links owner name moment others row alias follows rest stand past there is s) =
      let r = led-linked rest in (
        alias.0,
        one_link links r.0 row alias r.1
            (subst (λ (all : List Row). Contains all row)
            (λ i. unwrap_or (rows_map.get (only-rows rows moment others stand i) (sym r.2 i, 5)) []) there) is,
        s,
      )
  led-linked (by_service links owner name moment others row service asks after rest stand past there is s) = absurd (no_service asks)

  module _ (origin : DomainName) (good : IsZone (zone_with origin rows)) (short : HasShortAliases (zone_with origin rows)) where
    -- after seven links there is no other
    never-eighth : (owner : DomainName) → HasSevenLinks preserves (always rows) now kind owner → rows_at rows owner.labels types.CNAME ≢ [] → ⊥
    never-eighth owner s some =
        let l = led-linked s.led in
        let there : rows_at rows l.0.labels types.CNAME ≡ rows_at rows owner.labels types.CNAME =
        λ i. unwrap_or (rows_map.get rows (l.2 i, 5)) [] in
        let row = first-row (rows_at rows owner.labels types.CNAME) some in
        let to = alias-cname (zone_with origin rows) good types.A refl l.0 row.0 row.1 (there ∙ row.2) in
        let bound : suc s.before ≤ 7 = short (suc s.before) s.first to.0.0
        (one_link s.before l.0 row.0 to.0 l.1
        (alias-there (zone_with origin rows) good l.0 row.0 row.1 (there ∙ row.2)) to.1) in
        omega (arith, s.many)

    never-last : (config : TtlConfigContent) (age : ℕ) (from : DomainName) → type_number kind ≢ 6
        → HasLastLink config preserves origin (always rows) age now kind from → ⊥
    never-last config age from no_soa h = by h.last h.there
      where
        by : HasSevenLinks preserves (always rows) now kind h.owner ⊎ LeadsAway preserves origin (always rows) now kind h.owner
            → LeadsOn h.rows kind h.owner → ⊥
        by (inr away) there = no_soa away.soa
        by (inl seven) (inr service) = no_service service.0
        by (inl seven) (inl alias) =
            never-eighth h.owner seven
            (subst (λ (others : Rows). rows_at others h.owner.labels types.CNAME ≢ []) (only-rows rows h.moment h.rows h.stand) alias.1)

-- So an answer without records is an absence, or that of a special-use name.
pub short-ends : (config : TtlConfigContent) (preserves : Bool) (origin : DomainName) (rows : Rows) (age now : ℕ) (q : Query) (answer : NoRecords)
    → IsZone (zone_with origin rows) → HasShortAliases (zone_with origin rows) → type_number q.query_type ≢ 6 → type_number q.query_type ≢ 33
    → HasBeenAbsent config preserves origin (always rows) age now q answer
    → IsAbsent config preserves origin (always rows) age now q.query_type q.name answer
    ⊎ HasSpecialEnd preserves (always rows) now q answer
short-ends config preserves origin rows age now q answer good short no_soa no_service (as_absence a) = inl a
short-ends config preserves origin rows age now q answer good short no_soa no_service (as_special links p led special none) =
    inr (record { question = p; links = links; led = led; special = special })
short-ends config preserves origin rows age now q answer good short no_soa no_service (as_link a code none) =
    absurd (never-last preserves rows now q.query_type no_service origin good short config age q.name no_soa a)
