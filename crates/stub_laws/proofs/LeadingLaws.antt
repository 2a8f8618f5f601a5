-- The records of an answer lead on: their owners are names that the question leads to, and so is the end of the links among them.
use Rattle.std.proofs.Common.{◌≡◌, ◌≢◌, ℕ, ◌<◌, suc, Bool, true, false, cond, List, [], ◌∷◌, map, Some, None, unwrap_or, All, Contains, refl, sym, ap, subst, ◌∙◌, inl, inr, arith}
use Rattle.std.specs.Prelude.{◌⊎◌}
use Rattle.std.specs.FinMap as rows_map
use Rattle.std.proofs.lemmas.List.Elements.{All-cons, All-head, All-map, All-nil, All-tail}
use Rattle.dns_wire.specs.codes.RecordType.{type_number}
use Rattle.dns_wire.specs.declared.codes.record_type.RecordType.{RecordType}
use Rattle.dns_wire.specs.declared.codes.record_type.RecordType.TheVariants as types
use Rattle.dns_names.specs.Compare.{lower, same_name}
use Rattle.dns_names.specs.Name.{DomainName}
use Rattle.dns_data.specs.declared.rdata.RData.{RData}
use Rattle.dns_data.specs.declared.rdata.RData.TheVariants as of
use Rattle.dns_data.specs.declared.rdata.cname.CNAME.{CNAME}
use Rattle.dns_data.specs.rdata.{data_type}
use Rattle.dns_records.specs.Record.{Record}
use Rattle.dns_records.specs.Rows.{Rows, row_of, rows_at}
use Rattle.dns_records.specs.declared.row.Row.{Row}
use Rattle.dns_zone.specs.Answer.{IsChain, record_of}
use Rattle.dns_zone.specs.Answer.IsChain.{found, stops, last, leads}
use Rattle.dns_zone.specs.Rows.{IsZone, ZoneContent}
use Rattle.stub_client.specs.Step.{chain_over, extended, next_name}
use Rattle.stub_client.specs.declared.caching_client.chain.Chain.{Chain}
use Rattle.stub_link.specs.LinkState.{Version}
use Rattle.stub_laws.specs.history.Stands.{StandAt}
use Rattle.stub_laws.proofs.AnswerRowLaws.{IsAnswerRow, IsRowOf, alias-typed, number_of}
use Rattle.stub_laws.proofs.StandLaws.{contains-head, names-lower}
use Rattle.stub_laws.specs.answers.Standing.{IsLed}
use Rattle.stub_laws.specs.answers.Standing.IsLed.{by_alias, by_service}

module _ (preserves : Bool) (history : List Version) (now : ℕ) (kind : RecordType) (from : DomainName) (rows : Rows) (stand : StandAt history now rows) where
  -- a name that the question leads to
  abbrev pub Leads : DomainName → Type 0
  Leads name = (links : ℕ) × IsLed preserves history now kind from links name

  abbrev pub lead : (owner name : DomainName) (row : Row) (more : List Row) (alias : CNAME) → type_number kind ≢ 5 → Leads owner
      → rows_at rows owner.labels types.CNAME ≡ row ∷ more → row.rdata ≡ of.CNAME alias → alias.0 ≡ name → Leads name
  lead owner name row more alias other l e is same = (
    suc l.0,
    by_alias l.0 owner name now rows row alias other l.1 stand (omega arith)
        (subst (λ (all : List Row). Contains all row) (sym e) (contains-head row more)) is (ap (λ (x : DomainName). lower x.labels) same),
  )

  -- a name whose services lead on
  abbrev pub LeadsOnFrom : DomainName → Type 0
  LeadsOnFrom name = (l : Leads name) × ((0 < l.0) ⊎ (preserves ≡ true))

  -- if a record is a service, this leads on
  abbrev pub IsService : Record → Type 0
  IsService r = number_of r ≡ 33 → LeadsOnFrom r.name

  not-service : (zone : ZoneContent) → IsZone zone → zone.rows ≡ rows → (owner : DomainName) (alias : Row) (more : List Row)
      → rows_at rows owner.labels types.CNAME ≡ alias ∷ more → IsService (record_of owner alias)
  not-service zone good same owner alias more e service =
      let typed : number_of (record_of owner alias) ≡ 5 =
      alias-typed zone good kind owner alias more (ap (λ (rs : Rows). rows_at rs owner.labels types.CNAME) same ∙ e) in
      absurd (let clash : ◌≡◌ {A = ℕ} 33 5 = sym service ∙ typed in omega (arith, clash))

  -- each service in an answer leads on, if those at the name of the question do, or if it has none
  pub services-lead : (zone : ZoneContent) → IsZone zone → zone.rows ≡ rows → type_number kind ≢ 5 → {owner : DomainName} {records : List Record}
      → IsChain rows kind owner records → (l : Leads owner) → ((0 < l.0) ⊎ (preserves ≡ true)) ⊎ (rows_at rows owner.labels kind ≡ [])
      → All IsService records
  services-lead zone good same other (found owner) l (inl on) =
      All-map IsService (record_of owner) (rows_at rows owner.labels kind) (λ k d less service. (l, on))
  services-lead zone good same other (found owner) l (inr none) =
      subst (λ (all : List Row). All IsService (map (record_of owner) all)) (sym none) (All-nil IsService)
  services-lead zone good same other (stops owner) l may = All-nil IsService
  services-lead zone good same other (last owner alias more e) l may =
      All-cons IsService (record_of owner alias) [] (not-service zone good same owner alias more e) (All-nil IsService)
  services-lead zone good same other (leads owner alias more cname records e is rest) l may =
      let next = lead owner cname.0 alias more cname other l e is refl in
      All-cons IsService (record_of owner alias) records (not-service zone good same owner alias more e)
      (services-lead zone good same other rest next (inl (inl (omega arith))))

  -- the end of a chain, to which the question leads: along a link at least, if the chain has one
  pub record LeadsTo (c : Chain) : Type 0 where
    pub links : ℕ
    pub led : IsLed preserves history now kind from links c.name
    pub some : c.is_alias ≡ true → 0 < links

  row-of-number : (r : Record) (d : RData) (n : ℕ) → r.rdata ≡ d → type_number (data_type d) ≡ n → IsRowOf rows r
      → Contains (unwrap_or (rows_map.get rows (lower r.name.labels, n)) []) (row_of r)
  row-of-number r d n is number row =
      subst (λ (m : ℕ). Contains (unwrap_or (rows_map.get rows (lower r.name.labels, m)) []) (row_of r))
      (ap (λ (x : RData). type_number (data_type x)) is ∙ number) row

  asks-services : (r : Record) → number_of r ≡ 33 → (number_of r ≡ type_number kind) ⊎ (number_of r ≡ 5) → type_number kind ≡ 33
  asks-services r number (inl typed) = sym typed ∙ number
  asks-services r number (inr alias) = absurd (let clash : ◌≡◌ {A = ℕ} 33 5 = sym number ∙ alias in omega (arith, clash))

  step-leads : (c : Chain) (r : Record) (d : RData) → r.rdata ≡ d → type_number kind ≢ 5 → IsAnswerRow rows kind r → IsService r → LeadsTo c
      → LeadsTo (extended c r.ttl (next_name c.name r d))
  step-leads c r (of.CNAME alias) is other row l t = by (same_name r.name c.name) refl
    where
      by : (b : Bool) → same_name r.name c.name ≡ b → LeadsTo (extended c r.ttl (cond b (Some alias.0) None))
      by true same = record {
        links = suc t.links;
        led = by_alias t.links c.name alias.0 now rows (row_of r) alias other t.led stand (omega arith)
            (subst (λ (labels : List (List ℕ)). Contains (unwrap_or (rows_map.get rows (labels, 5)) []) (row_of r)) (names-lower r.name c.name same)
            (row-of-number r (of.CNAME alias) 5 is refl row.row)) is refl;
        some = λ e. omega arith;
      }
      by false differs = t
  step-leads c r (of.SRV service) is other row l t =
      let number : number_of r ≡ 33 = ap (λ (x : RData). type_number (data_type x)) is in
      let on : LeadsOnFrom r.name = l number in
      record {
        links = suc on.0.0;
        led = by_service on.0.0 r.name service.target now rows (row_of r) service (asks-services r number row.kind) on.1 on.0.1 stand (omega arith)
            (row-of-number r (of.SRV service) 33 is refl row.row) is refl;
        some = λ e. omega arith;
      }
  step-leads c r other is no_alias row l t = t

  pub chain-leads : (c : Chain) (rs : List Record) → type_number kind ≢ 5 → All (IsAnswerRow rows kind) rs → All IsService rs
      → LeadsTo c → LeadsTo (chain_over c rs)
  chain-leads c [] other are services t = t
  chain-leads c (r ∷ rs) other are services t =
      chain-leads (extended c r.ttl (next_name c.name r r.rdata)) rs other (All-tail (IsAnswerRow rows kind) r rs are)
      (All-tail IsService r rs services)
      (step-leads c r r.rdata refl other (All-head (IsAnswerRow rows kind) r rs are) (All-head IsService r rs services) t)
