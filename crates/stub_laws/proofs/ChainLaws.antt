-- The aliases in an answer, one after another, and the records at their end.
use Rattle.std.proofs.Common.{◌≡◌, ℕ, ◌≤◌, min, suc, Bool, true, false, cond, List, [], ◌∷◌, map, Option, Some, None, All, Contains, refl, sym, ap, subst, ◌∙◌, arith}
use Rattle.std.proofs.lemmas.Bool.{true≢false}
use Rattle.std.proofs.lemmas.List.Elements.{All-nil, All-cons, All-map, All-contains}
use Rattle.dns_wire.specs.codes.RecordType.{type_number, type_of}
use Rattle.dns_wire.specs.declared.codes.record_type.RecordType.{RecordType}
use Rattle.dns_wire.specs.declared.codes.record_type.RecordType.TheVariants as types
use Rattle.dns_names.specs.Compare.{same_name}
use Rattle.dns_names.specs.Name.{DomainName}
use Rattle.dns_names.specs.internal.Compare.{same_name-equivalence}
use Rattle.dns_data.specs.Field.{Kind, Opaque}
use Rattle.dns_data.specs.declared.rdata.RData.{RData}
use Rattle.dns_data.specs.declared.rdata.RData.TheVariants as of
use Rattle.dns_data.specs.declared.rdata.cname.CNAME.{CNAME}
use Rattle.dns_data.specs.rdata.{data_type, kinds_of_type}
use Rattle.dns_records.specs.Record.{Record}
use Rattle.dns_records.specs.Rows.{Rows, rows_at}
use Rattle.dns_records.specs.declared.row.Row.{Row}
use Rattle.dns_messages.specs.Response.{is_soa_data}
use Rattle.dns_zone.specs.Answer.{IsChain, record_of}
use Rattle.dns_zone.specs.Answer.IsChain.{found, stops, last, leads}
use Rattle.dns_zone.specs.Rows.{IsSoundRow, IsSoundRowData, IsZone, ZoneContent}
use Rattle.stub_client.specs.Step.{chain_over, extended, next_name}
use Rattle.stub_client.specs.declared.caching_client.chain.Chain.{Chain}
use Rattle.stub_laws.specs.history.Answered.{is_plain_number}
use Rattle.stub_laws.specs.history.Stands.{IsAliasChain}
use Rattle.stub_laws.specs.history.Stands.IsAliasChain.{one_alias}
use Rattle.stub_laws.proofs.AnswerRowLaws.{alias-there, alias-typed, not-plain, number_of, sound-at, typed-at}

-- ---- data by the number of its type

named-kinds : (code : RecordType) (n : ℕ) → type_of (type_number code) ≡ code → type_number code ≡ n → kinds_of_type code ≡ kinds_of_type (type_of n)
named-kinds code n named is = ap kinds_of_type (sym named ∙ ap type_of is)

pub alias-data : (d : RData) → IsSoundRowData d → type_number (data_type d) ≡ 5 → (cname : CNAME) × (d ≡ of.CNAME cname)
alias-data (of.CNAME cname) s e = (cname, refl)
alias-data (of.Update0 t) s e = absurd (true≢false s.has_data)
alias-data (of.Unknown code bytes) s e =
    absurd (let clash : ◌≡◌ {A = List Kind} (Opaque ∷ []) (kinds_of_type types.CNAME) = s.sound.fields ∙ named-kinds code 5 s.sound.type_named e in cc)
alias-data other s e = absurd (omega arith)

pub soa-data : (d : RData) → IsSoundRowData d → type_number (data_type d) ≡ 6 → is_soa_data d ≡ true
soa-data (of.SOA soa) s e = refl
soa-data (of.Update0 t) s e = absurd (true≢false s.has_data)
soa-data (of.Unknown code bytes) s e =
    absurd (let clash : ◌≡◌ {A = List Kind} (Opaque ∷ []) (kinds_of_type types.SOA) = s.sound.fields ∙ named-kinds code 6 s.sound.type_named e in cc)
soa-data other s e = absurd (omega arith)

-- ---- chains that have an alias

ext-stays : (c : Chain) (ttl : ℕ) (o : Option DomainName) → c.is_alias ≡ true → (extended c ttl o).is_alias ≡ true
ext-stays c ttl None h = h
ext-stays c ttl (Some target) h = refl

pub alias-stays : (c : Chain) (rs : List Record) → c.is_alias ≡ true → (chain_over c rs).is_alias ≡ true
alias-stays c [] h = h
alias-stays c (r ∷ rs) h =
    alias-stays (extended c r.ttl (next_name c.name r r.rdata)) rs (ext-stays c r.ttl (next_name c.name r r.rdata) h)

no-alias-by : (c : Chain) (ttl : ℕ) (rs : List Record) → ((chain_over c rs).is_alias ≡ false → chain_over c rs ≡ c) → (o : Option DomainName)
    → (chain_over (extended c ttl o) rs).is_alias ≡ false → chain_over (extended c ttl o) rs ≡ c
no-alias-by c ttl rs rest None h = rest h
no-alias-by c ttl rs rest (Some target) h =
    absurd (true≢false (sym (alias-stays (record { name = target; ttl = min ttl c.ttl; is_alias = true }) rs refl) ∙ h))

-- a chain without an alias is the one that it began as
pub no-alias-same : (c : Chain) (rs : List Record) → (chain_over c rs).is_alias ≡ false → chain_over c rs ≡ c
no-alias-same c [] h = refl
no-alias-same c (r ∷ rs) h = no-alias-by c r.ttl rs (no-alias-same c rs) (next_name c.name r r.rdata) h

-- ---- the chain along an answer

-- The records of a type are at the end of a chain, to which aliases in the same rows lead from a name, none of which has a lesser TTL.
pub record EndsAlong (rows : Rows) (bound : ℕ) (from : DomainName) (t : RecordType) (end : Chain) (records : List Record) : Type 0 where
  pub ends : All (λ (r : Record). number_of r ≡ type_number t → r.name ≡ end.name) records
  pub least : ℕ
  pub chain : IsAliasChain rows bound from least end.name
  pub low : min end.ttl bound ≤ least

abbrev pub next-chain : Chain → Row → CNAME → Chain
next-chain c alias cname = record { name = cname.0; ttl = min alias.ttl c.ttl; is_alias = true }

pub follows : (c : Chain) (owner : DomainName) (alias : Row) (cname : CNAME) → alias.rdata ≡ of.CNAME cname → c.name ≡ owner
    → extended c alias.ttl (next_name c.name (record_of owner alias) alias.rdata) ≡ next-chain c alias cname
follows c owner alias cname is at =
    let same : same_name owner c.name ≡ true = subst (λ (name : DomainName). same_name owner name ≡ true) (sym at) (same_name-equivalence.refl owner) in
    ap (λ (d : RData). extended c alias.ttl (next_name c.name (record_of owner alias) d)) is
    ∙ ap (λ (b : Bool). extended c alias.ttl (cond b (Some cname.0) None)) same

module _ (zone : ZoneContent) (good : IsZone zone) (t : RecordType) (plain : is_plain_number (type_number t) ≡ true) where
  plain-next : (name : DomainName) (r : Record) (d : RData) → type_number (data_type d) ≡ type_number t → next_name name r d ≡ None
  plain-next name r (of.CNAME cname) e = absurd (not-plain (type_number t) 5 plain (sym e) refl)
  plain-next name r (of.SRV service) e = absurd (not-plain (type_number t) 33 plain (sym e) refl)
  plain-next name r other e = refl

  pub same-over : (c : Chain) (owner : DomainName) (rows : List Row) → All (λ (row : Row). type_number (data_type row.rdata) ≡ type_number t) rows
      → chain_over c (map (record_of owner) rows) ≡ c
  same-over c owner [] all = refl
  same-over c owner (row ∷ rows) all =
      ap (λ (o : Option DomainName). chain_over (extended c row.ttl o) (map (record_of owner) rows))
      (plain-next c.name (record_of owner row) row.rdata (all 0 row (omega arith)))
      ∙ same-over c owner rows (λ k d less. all (suc k) d (omega arith))

  -- the rows of the type at a name leave a chain as it is
  pub found-same : (c : Chain) (owner : DomainName) → chain_over c (map (record_of owner) (rows_at zone.rows owner.labels t)) ≡ c
  found-same c owner = same-over c owner (rows_at zone.rows owner.labels t) (typed-at zone good owner.labels t)

  -- the data of an alias
  pub alias-cname : (owner : DomainName) (alias : Row) (more : List Row) → rows_at zone.rows owner.labels types.CNAME ≡ alias ∷ more
      → (cname : CNAME) × (alias.rdata ≡ of.CNAME cname)
  alias-cname owner alias more e =
      alias-data alias.rdata
      (All-contains IsSoundRow (rows_at zone.rows owner.labels types.CNAME) alias (sound-at zone good owner.labels types.CNAME) (alias-there zone good owner alias more e)).rdata
      (alias-typed zone good t owner alias more e)

  module _ (bound : ℕ) (from : DomainName) where
    abbrev AtEnd : Chain → Record → Type 0
    AtEnd end r = number_of r ≡ type_number t → r.name ≡ end.name

    alias-not-at : (end : Chain) (owner : DomainName) (alias : Row) (more : List Row) → rows_at zone.rows owner.labels types.CNAME ≡ alias ∷ more
        → AtEnd end (record_of owner alias)
    alias-not-at end owner alias more e typed =
        absurd (not-plain (type_number t) 5 plain (sym typed ∙ alias-typed zone good t owner alias more e) refl)

    linked : (c : Chain) (owner : DomainName) (alias : Row) (more : List Row) (cname : CNAME) (least : ℕ)
        → rows_at zone.rows owner.labels types.CNAME ≡ alias ∷ more → alias.rdata ≡ of.CNAME cname → c.name ≡ owner
        → IsAliasChain zone.rows bound from least c.name → IsAliasChain zone.rows bound from (min least alias.ttl) cname.0
    linked c owner alias more cname least e is at chain =
        one_alias c.name cname.0 least alias cname chain
        (subst (λ (name : DomainName). Contains (rows_at zone.rows name.labels types.CNAME) alias) (sym at) (alias-there zone good owner alias more e))
        is refl

    pub along : {owner : DomainName} {records : List Record} → IsChain zone.rows t owner records → (c : Chain) → c.name ≡ owner → (least : ℕ)
        → IsAliasChain zone.rows bound from least c.name → min c.ttl bound ≤ least
        → EndsAlong zone.rows bound from t (chain_over c records) records
    along (found owner) c at least chain low =
        subst (λ (end : Chain). EndsAlong zone.rows bound from t end (map (record_of owner) (rows_at zone.rows owner.labels t))) (sym (found-same c owner))
        (record {
          ends = All-map (AtEnd c) (record_of owner) (rows_at zone.rows owner.labels t) (λ k d less typed. sym at);
          least = least;
          chain = chain;
          low = low;
        })
    along (stops owner) c at least chain low =
        record { ends = All-nil (AtEnd c); least = least; chain = chain; low = low }
    along (last owner alias more e) c at least chain low =
        let to = alias-cname owner alias more e in
        subst (λ (end : Chain). EndsAlong zone.rows bound from t end (record_of owner alias ∷ [])) (sym (follows c owner alias to.0 to.1 at))
        (record {
          ends = All-cons (AtEnd (next-chain c alias to.0)) (record_of owner alias) [] (alias-not-at (next-chain c alias to.0) owner alias more e)
              (All-nil (AtEnd (next-chain c alias to.0)));
          least = min least alias.ttl;
          chain = linked c owner alias more to.0 least e to.1 at chain;
          low = omega arith;
        })
    along (leads owner alias more cname records e is rest) c at least chain low =
        let inner = along rest (next-chain c alias cname) refl (min least alias.ttl) (linked c owner alias more cname least e is at chain) (omega arith) in
        subst (λ (next : Chain). EndsAlong zone.rows bound from t (chain_over next records) (record_of owner alias ∷ records))
        (sym (follows c owner alias cname is at))
        (record {
          ends = All-cons (AtEnd (chain_over (next-chain c alias cname) records)) (record_of owner alias) records
              (alias-not-at (chain_over (next-chain c alias cname) records) owner alias more e) inner.ends;
          least = inner.least;
          chain = inner.chain;
          low = inner.low;
        })
