-- A walk is a function of zone, name and type: the name comes to one conclusion, and to no other. Its spelling does not matter.
use Rattle.std.proofs.Common.{◌≡◌, ℕ, ◌&&◌, ◌||◌, zero, suc, Bool, true, false, cond, not, List, [], ◌∷◌, map, refl, sym, ap, subst, ◌∙◌}
use Rattle.std.proofs.lemmas.Bool.{true≢false}
use Rattle.dns_wire.specs.codes.RecordType.{type_number, type_of}
use Rattle.dns_wire.specs.declared.codes.record_type.RecordType.{RecordType}
use Rattle.dns_wire.specs.declared.codes.record_type.RecordType.TheVariants as types
use Rattle.dns_names.specs.Compare.{at_or_below}
use Rattle.dns_names.specs.Name.{DomainName}
use Rattle.dns_text.specs.Usage.{is_loopback, is_nonexistent}
use Rattle.dns_data.specs.declared.rdata.RData.{RData}
use Rattle.dns_data.specs.declared.rdata.RData.TheVariants as of
use Rattle.dns_data.specs.declared.rdata.cname.CNAME.{CNAME}
use Rattle.dns_records.specs.Record.{Record}
use Rattle.dns_records.specs.Rows.{rows_at}
use Rattle.dns_records.specs.declared.row.Row.{Row}
use Rattle.dns_messages.specs.declared.response_code.ResponseCode.TheVariants.{NXDomain, Refused}
use Rattle.dns_zone.specs.Answer.{negative, record_of}
use Rattle.dns_zone.specs.Rows.{IsSoundRow, IsZone, ZoneContent}
use Rattle.stub_hosts.specs.Hosts.{question}
use Rattle.stub_client.specs.Conclusions.{Conclusion, Finds, Lacks, Refuses, values}
use Rattle.stub_client.specs.SpecialNames.{loopback_answer, loopback_data, special_answer}
use Rattle.stub_client.specs.declared.special_names.SpecialAnswer.{SpecialAnswer}
use Rattle.stub_client.specs.declared.special_names.SpecialAnswer.TheVariants.{Ordinary, Loopback, Nothing}
use Rattle.stub_laws.specs.history.Stands.{AreSame}
use Rattle.stub_laws.specs.history.Answered.{is_plain}
use Rattle.stub_laws.proofs.AnswerRowLaws.{alias-there, not-plain, sound-at, typed-at}
use Rattle.stub_laws.proofs.ChainLaws.{alias-data}
use Rattle.stub_laws.proofs.EndLaws.{is_followed, not-ordinary}
use Rattle.stub_laws.proofs.StandLaws.{both-true}
use Rattle.std.proofs.lemmas.List.Elements.{All-contains}
use Rattle.dns_data.specs.rdata.{data_type}
use Rattle.stub_laws.specs.walk.Walk.{HasNoRows, IsDirect, IsOfZone, LeadsAlong, Walk}
use Rattle.stub_laws.specs.walk.Walk.LeadsAlong.{past_target, to_target}
use Rattle.stub_laws.specs.walk.Walk.Walk.{at_alias, at_foreign_name, at_limit, at_local_host, at_nothing, at_rows, at_special_name}
use Rattle.stub_laws.proofs.Spelling.{aliases-same, code-same, inside-same, loopback-values, owned, owner-is, rows-same, rows-values, special-same}

-- ---- aliases

-- the data of an alias of a zone
pub alias-target : (zone : ZoneContent) → IsZone zone → (name : DomainName) (row : Row) (more : List Row)
    → rows_at zone.rows name.labels types.CNAME ≡ row ∷ more → (target : CNAME) × (row.rdata ≡ of.CNAME target)
alias-target zone good name row more e =
    let there = alias-there zone good name row more e in
    alias-data row.rdata
    (All-contains IsSoundRow (rows_at zone.rows name.labels types.CNAME) row (sound-at zone good name.labels types.CNAME) there).rdata
    (All-contains (λ (x : Row). type_number (data_type x.rdata) ≡ 5) (rows_at zone.rows name.labels types.CNAME) row
    (typed-at zone good name.labels types.CNAME) there)

-- ---- the conclusion as a function

module _ (zone : ZoneContent) (kind : RecordType) where
  abbrev nothing_at : DomainName → Conclusion
  nothing_at name = Lacks (negative zone name.labels).code

  -- what is concluded at a name, by what is special about it, whether it is in the zone, its rows of the type and its aliases
  abbrev concluded : DomainName → (RData → Conclusion) → SpecialAnswer → Bool → List Row → List Row → Conclusion
  concluded name next (Loopback r) inside found aliases = Finds (values (r ∷ []))
  concluded name next (Nothing code) inside found aliases = Lacks code
  concluded name next Ordinary false found aliases = Refuses Refused
  concluded name next Ordinary true (row ∷ more) aliases = Finds (values (map (record_of name) (row ∷ more)))
  concluded name next Ordinary true [] [] = nothing_at name
  concluded name next Ordinary true [] (row ∷ more) = next row.rdata

  abbrev from_target : (DomainName → Conclusion) → Conclusion → RData → Conclusion
  from_target walk none (of.CNAME target) = walk target.0
  from_target walk none other = none

  abbrev concluded_at : DomainName → (RData → Conclusion) → Conclusion
  concluded_at name next =
      concluded name next (special_answer (question name kind)) (at_or_below zone.origin.labels name.labels)
      (rows_at zone.rows name.labels kind) (rows_at zone.rows name.labels types.CNAME)

  abbrev walked : ℕ → DomainName → Conclusion
  walked zero name = concluded_at name (λ d. nothing_at name)
  walked (suc budget) name = concluded_at name (from_target (walked budget) (nothing_at name))

  -- what follows an alias at a name
  abbrev after_alias : ℕ → DomainName → RData → Conclusion
  after_alias zero name d = nothing_at name
  after_alias (suc budget) name d = from_target (walked budget) (nothing_at name) d

  walked-by : (budget : ℕ) (name : DomainName) → walked budget name ≡ concluded_at name (after_alias budget name)
  walked-by zero name = refl
  walked-by (suc budget) name = refl

  module _ (name : DomainName) (next : RData → Conclusion) where
    by-special : (s : SpecialAnswer) → special_answer (question name kind) ≡ s
        → concluded_at name next
        ≡ concluded name next s (at_or_below zone.origin.labels name.labels) (rows_at zone.rows name.labels kind) (rows_at zone.rows name.labels types.CNAME)
    by-special s e =
        λ i. concluded name next (e i) (at_or_below zone.origin.labels name.labels) (rows_at zone.rows name.labels kind) (rows_at zone.rows name.labels types.CNAME)

    by-rows : (found aliases : List Row) → IsOfZone zone kind name → rows_at zone.rows name.labels kind ≡ found
        → rows_at zone.rows name.labels types.CNAME ≡ aliases → concluded_at name next ≡ concluded name next Ordinary true found aliases
    by-rows found aliases of_zone e f = λ i. concluded name next (of_zone.ordinary i) (of_zone.inside i) (e i) (f i)

  walk-is : {budget : ℕ} {name : DomainName} {conclusion : Conclusion} → Walk zone kind budget name conclusion
      → concluded_at name (after_alias budget name) ≡ conclusion
  walk-is (at_local_host budget name r e) = by-special name (after_alias budget name) (Loopback r) e
  walk-is (at_special_name budget name code e) = by-special name (after_alias budget name) (Nothing code) e
  walk-is (at_foreign_name budget name e out) =
      λ i. concluded name (after_alias budget name) (e i) (out i) (rows_at zone.rows name.labels kind) (rows_at zone.rows name.labels types.CNAME)
  walk-is (at_rows budget name row more of_zone e) =
      by-rows name (after_alias budget name) (row ∷ more) (rows_at zone.rows name.labels types.CNAME) of_zone e refl
  walk-is (at_alias budget name row more target conclusion bare e is rest) =
      by-rows name (after_alias (suc budget) name) [] (row ∷ more) bare.is_there bare.none e
      ∙ ap (after_alias (suc budget) name) is ∙ walked-by budget target.0 ∙ walk-is rest
  walk-is (at_nothing budget name bare e) = by-rows name (after_alias budget name) [] [] bare.is_there bare.none e
  walk-is (at_limit name row more bare e) = by-rows name (after_alias 0 name) [] (row ∷ more) bare.is_there bare.none e

  -- a walk comes to one conclusion
  pub walk-same : (budget : ℕ) (name : DomainName) (one other : Conclusion) → Walk zone kind budget name one → Walk zone kind budget name other → one ≡ other
  walk-same budget name one other walk again = sym (walk-is walk) ∙ walk-is again

  -- ---- each name comes to one

  abbrev Concludes : ℕ → DomainName → Type 0
  Concludes budget name = (conclusion : Conclusion) × Walk zone kind budget name conclusion

  concludes-by : (budget : ℕ) (name : DomainName)
      → ((row : Row) (more : List Row) → HasNoRows zone kind name → rows_at zone.rows name.labels types.CNAME ≡ row ∷ more → Concludes budget name)
      → (s : SpecialAnswer) (b : Bool) (found aliases : List Row) → special_answer (question name kind) ≡ s → at_or_below zone.origin.labels name.labels ≡ b
      → rows_at zone.rows name.labels kind ≡ found → rows_at zone.rows name.labels types.CNAME ≡ aliases → Concludes budget name
  concludes-by budget name next (Loopback r) b found aliases e inside f g = (Finds (values (r ∷ [])), at_local_host budget name r e)
  concludes-by budget name next (Nothing code) b found aliases e inside f g = (Lacks code, at_special_name budget name code e)
  concludes-by budget name next Ordinary false found aliases e inside f g = (Refuses Refused, at_foreign_name budget name e inside)
  concludes-by budget name next Ordinary true (row ∷ more) aliases e inside f g =
      (Finds (values (map (record_of name) (row ∷ more))), at_rows budget name row more (record { ordinary = e; inside = inside }) f)
  concludes-by budget name next Ordinary true [] [] e inside f g =
      (nothing_at name, at_nothing budget name (record { is_there = record { ordinary = e; inside = inside }; none = f }) g)
  concludes-by budget name next Ordinary true [] (row ∷ more) e inside f g =
      next row more (record { is_there = record { ordinary = e; inside = inside }; none = f }) g

  concludes-at : (budget : ℕ) (name : DomainName)
      → ((row : Row) (more : List Row) → HasNoRows zone kind name → rows_at zone.rows name.labels types.CNAME ≡ row ∷ more → Concludes budget name)
      → Concludes budget name
  concludes-at budget name next =
      concludes-by budget name next (special_answer (question name kind)) (at_or_below zone.origin.labels name.labels) (rows_at zone.rows name.labels kind)
      (rows_at zone.rows name.labels types.CNAME) refl refl refl refl

  module _ (good : IsZone zone) where
    pub walk-exists : (budget : ℕ) (name : DomainName) → Concludes budget name
    walk-exists zero name = concludes-at zero name (λ row more bare e. (nothing_at name, at_limit name row more bare e))
    walk-exists (suc budget) name =
        concludes-at (suc budget) name (λ row more bare e.
        (let to = alias-target zone good name row more e in
        let rest = walk-exists budget to.0.0 in
        (rest.0, at_alias budget name row more to.0 rest.0 bare e to.1 rest.1)))

-- ---- other spellings

module _ (zone : ZoneContent) (one other : RecordType) (number : type_number one ≡ type_number other) where
  pub of-zone-same : (a b : DomainName) → a.is_fqdn ≡ b.is_fqdn → AreSame a b → IsOfZone zone one a → IsOfZone zone other b
  of-zone-same a b flag low of_zone = record {
    ordinary = special-same a b flag low one other number ∙ ap (owned a b flag low) of_zone.ordinary;
    inside = sym (inside-same a b flag low zone.origin.labels) ∙ of_zone.inside;
  }

  no-rows-same : (a b : DomainName) → a.is_fqdn ≡ b.is_fqdn → AreSame a b → HasNoRows zone one a → HasNoRows zone other b
  no-rows-same a b flag low bare = record {
    is_there = of-zone-same a b flag low bare.is_there;
    none = sym (rows-same a b flag low one other number zone) ∙ bare.none;
  }

  pub walk-respelled : {budget : ℕ} {a : DomainName} {conclusion : Conclusion} (b : DomainName) → a.is_fqdn ≡ b.is_fqdn → AreSame a b
      → Walk zone one budget a conclusion → Walk zone other budget b conclusion
  walk-respelled b flag low (at_local_host budget a r e) =
      subst (λ (vs : List Record). Walk zone other budget b (Finds vs)) (sym (loopback-values a b flag low r (owner-is a b flag low one other number r e)))
      (at_local_host budget b (record r { name = b }) (special-same a b flag low one other number ∙ ap (owned a b flag low) e))
  walk-respelled b flag low (at_special_name budget a code e) =
      at_special_name budget b code (special-same a b flag low one other number ∙ ap (owned a b flag low) e)
  walk-respelled b flag low (at_foreign_name budget a e out) =
      at_foreign_name budget b (special-same a b flag low one other number ∙ ap (owned a b flag low) e)
      (sym (inside-same a b flag low zone.origin.labels) ∙ out)
  walk-respelled b flag low (at_rows budget a row more of_zone e) =
      subst (λ (vs : List Record). Walk zone other budget b (Finds vs)) (sym (rows-values a b flag low (row ∷ more)))
      (at_rows budget b row more (of-zone-same a b flag low of_zone) (sym (rows-same a b flag low one other number zone) ∙ e))
  walk-respelled b flag low (at_alias budget a row more target conclusion bare e is rest) =
      at_alias budget b row more target conclusion (no-rows-same a b flag low bare) (sym (aliases-same a b flag low zone types.CNAME) ∙ e) is
      (walk-respelled target.0 refl refl rest)
  walk-respelled b flag low (at_nothing budget a bare e) =
      subst (λ (code : _). Walk zone other budget b (Lacks code)) (sym (code-same a b flag low zone))
      (at_nothing budget b (no-rows-same a b flag low bare) (sym (aliases-same a b flag low zone types.CNAME) ∙ e))
  walk-respelled b flag low (at_limit a row more bare e) =
      subst (λ (code : _). Walk zone other 0 b (Lacks code)) (sym (code-same a b flag low zone))
      (at_limit b row more (no-rows-same a b flag low bare) (sym (aliases-same a b flag low zone types.CNAME) ∙ e))

-- ---- names from which lookups walk

module _ (zone : ZoneContent) (one other : RecordType) (number : type_number one ≡ type_number other) where
  leads-respelled : {a end : DomainName} (b : DomainName) → a.is_fqdn ≡ b.is_fqdn → AreSame a b → LeadsAlong zone one a end → LeadsAlong zone other b end
  leads-respelled b flag low (to_target a row more target bare e is) =
      to_target b row more target (no-rows-same zone one other number a b flag low bare) (sym (aliases-same a b flag low zone types.CNAME) ∙ e) is
  leads-respelled b flag low (past_target a row more target end bare e is rest) =
      past_target b row more target end (no-rows-same zone one other number a b flag low bare) (sym (aliases-same a b flag low zone types.CNAME) ∙ e) is
      (leads-respelled target.0 refl refl rest)

pub direct-respelled : (zone : ZoneContent) (one other : RecordType) → type_number one ≡ type_number other → (a b : DomainName) → a.is_fqdn ≡ b.is_fqdn
    → AreSame a b → IsDirect zone one a → IsDirect zone other b
direct-respelled zone one other number a b flag low direct = record {
  services = λ e end leads.
      no-rows-same zone one other number end end refl refl
      (direct.services (number ∙ e) end (leads-respelled zone other one (sym number) a (sym flag) (sym low) leads));
  soa = λ e end leads.
      of-zone-same zone one other number end end refl refl
      (direct.soa (number ∙ e) end (leads-respelled zone other one (sym number) a (sym flag) (sym low) leads));
}

pub others-direct : (zone : ZoneContent) (kind : RecordType) (name : DomainName) → (type_number kind ≡ 6 → ⊥) → (type_number kind ≡ 33 → ⊥)
    → IsDirect zone kind name
others-direct zone kind name no_soa no_service = record {
  services = λ e end leads. absurd (no_service e);
  soa = λ e end leads. absurd (no_soa e);
}

pub plain-direct : (zone : ZoneContent) (kind : RecordType) (name : DomainName) → is_plain kind ≡ true → IsDirect zone kind name
plain-direct zone kind name plain =
    others-direct zone kind name (λ e. not-plain (type_number kind) 6 plain e refl) (λ e. not-plain (type_number kind) 33 plain e refl)

-- ---- names at which a zone's aliases are followed

not-true : (b : Bool) → not b ≡ true → b ≡ false
not-true true h = absurd (true≢false (sym h))
not-true false h = refl

or-false : (a b : Bool) → a || b ≡ false → (a ≡ false) × (b ≡ false)
or-false true b h = absurd (true≢false h)
or-false false b h = (refl, h)

module _ (zone : ZoneContent) (kind : RecordType) (name : DomainName) where
  pub of-zone : is_followed zone.origin name ≡ true → IsOfZone zone kind name
  of-zone followed =
      let parts = both-true (at_or_below zone.origin.labels name.labels) (not (is_loopback name || is_nonexistent name)) followed in
      let usual = or-false (is_loopback name) (is_nonexistent name) (not-true (is_loopback name || is_nonexistent name) parts.1) in
      record {
        ordinary = λ i. cond (usual.0 i) (loopback_answer name (loopback_data (type_of (type_number kind)))) (cond (usual.1 i) (Nothing NXDomain) Ordinary);
        inside = parts.0;
      }

  is-ordinary : special_answer (question name kind) ≡ Ordinary → is_loopback name || is_nonexistent name ≡ false
  is-ordinary ordinary = by (is_loopback name || is_nonexistent name) refl
    where
      by : (b : Bool) → is_loopback name || is_nonexistent name ≡ b → b ≡ false
      by true special = absurd (not-ordinary (question name kind) refl special ordinary)
      by false special = refl

  pub followed-of : IsOfZone zone kind name → is_followed zone.origin name ≡ true
  followed-of of_zone = λ i. of_zone.inside i && not (is-ordinary of_zone.ordinary i)

-- where they are not, the number of aliases that are left does not matter
pub walk-off : {zone : ZoneContent} {kind : RecordType} {budget : ℕ} {name : DomainName} {conclusion : Conclusion} (left : ℕ)
    → is_followed zone.origin name ≡ false → Walk zone kind budget name conclusion → Walk zone kind left name conclusion
walk-off left off (at_local_host budget name r e) = at_local_host left name r e
walk-off left off (at_special_name budget name code e) = at_special_name left name code e
walk-off left off (at_foreign_name budget name e out) = at_foreign_name left name e out
walk-off {zone} {kind} left off (at_rows budget name row more of_zone e) = absurd (true≢false (sym (followed-of zone kind name of_zone) ∙ off))
walk-off {zone} {kind} left off (at_alias budget name row more target conclusion bare e is rest) =
    absurd (true≢false (sym (followed-of zone kind name bare.is_there) ∙ off))
walk-off {zone} {kind} left off (at_nothing budget name bare e) = absurd (true≢false (sym (followed-of zone kind name bare.is_there) ∙ off))
walk-off {zone} {kind} left off (at_limit name row more bare e) = absurd (true≢false (sym (followed-of zone kind name bare.is_there) ∙ off))
