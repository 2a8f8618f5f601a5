-- How the answer of a zone to a question ends: with all rows of the type at a name, with a negative answer, or at an alias.
use Rattle.std.proofs.Common.{◌≡◌, ◌≢◌, ℕ, ◌+◌, ◌≤◌, ◌==◌, ◌||◌, ◌++◌, zero, suc, Bool, true, false, cond, not, List, [], ◌∷◌, map, Some, None, unwrap_or, All, refl, sym, ap, subst, ◌∙◌, inl, inr, arith}
use Rattle.std.specs.Prelude.{◌⊎◌}
use Rattle.std.specs.FinMap as rows_map
use Rattle.std.proofs.lemmas.Bool.{true≢false}
use Rattle.std.proofs.lemmas.List.Elements.{All-cons, All-nil}
use Rattle.dns_wire.specs.codes.DNSClass.{class_number}
use Rattle.dns_wire.specs.codes.RecordType.{type_number}
use Rattle.dns_wire.specs.declared.codes.record_type.RecordType.{RecordType}
use Rattle.dns_wire.specs.declared.codes.record_type.RecordType.TheVariants as types
use Rattle.dns_names.specs.Compare.{at_or_below, lower}
use Rattle.dns_names.specs.Name.{DomainName}
use Rattle.dns_data.specs.declared.rdata.RData.{RData}
use Rattle.dns_data.specs.declared.rdata.RData.TheVariants as of
use Rattle.dns_data.specs.declared.rdata.cname.CNAME.{CNAME}
use Rattle.dns_records.specs.Record.{Record}
use Rattle.dns_records.specs.Rows.{rows_at}
use Rattle.dns_records.specs.declared.row.Row.{Row}
use Rattle.dns_messages.specs.declared.query.Query.{Query}
use Rattle.dns_messages.specs.declared.response_code.ResponseCode.TheVariants.{NoError, NotImp, Refused}
use Rattle.dns_zone.specs.Answer.{after_records, answer, answer_at, answer_by, authority, bare, is_no_row_type, is_refused, max_aliases, negative, next_owner, record_of, rest_at}
use Rattle.dns_zone.specs.Rows.{IsZone, ZoneContent}
use Rattle.dns_zone.specs.declared.zone.answer.Answer.{Answer}
use Rattle.stub_client.specs.Step.{chain_over, extended, next_name}
use Rattle.stub_client.specs.declared.caching_client.chain.Chain.{Chain}
use Rattle.stub_laws.proofs.AnswerRowLaws.{alias-typed, number_of}
use Rattle.stub_laws.proofs.ChainLaws.{alias-cname, alias-stays, follows, next-chain}
use Rattle.stub_laws.proofs.EndLaws.{is_followed}
use Rattle.stub_laws.proofs.StandLaws.{both-true}

-- an alias, by the number of its type
abbrev pub IsAliasRecord : Record → Type 0
IsAliasRecord r = number_of r ≡ 5

-- a name has an alias
abbrev pub HasAliasAt : ZoneContent → DomainName → Type 0
HasAliasAt zone owner = rows_at zone.rows owner.labels types.CNAME ≢ []

-- a chain goes on along records from an owner
abbrev pub GoesAlong : DomainName → List Record → Type 0
GoesAlong owner records = (c : Chain) (more : List Record) → c.name ≡ owner → (chain_over c (records ++ more)).is_alias ≡ true

-- aliases before the end of an answer: there are none, or they begin at the owner, which has no rows of the type
abbrev pub HasAliases : ZoneContent → RecordType → DomainName → List Record → DomainName → Type 0
HasAliases zone t owner aliases end =
    ((aliases ≡ []) × (owner ≡ end))
    ⊎ (HasAliasAt zone owner × (type_number t ≢ 5) × (rows_at zone.rows owner.labels t ≡ []) × GoesAlong owner aliases)

-- Where an answer follows no further: at a name with an alias to which seven aliases lead, or at an alias to a name that is not followed.
abbrev pub Halts : ZoneContent → (ℕ → DomainName → Type 0) → Type 0
Halts zone Leads =
    ((links : ℕ) × (end : DomainName) × (7 ≤ links) × Leads links end × HasAliasAt zone end)
    ⊎ ((links : ℕ) × (end : DomainName) × Leads (suc links) end × (is_followed zone.origin end ≡ false))

-- The answer at a name to which so many aliases lead, along aliases that lead to names: all rows of the type, a negative answer, or
-- aliases alone. A question for aliases meets none.
pub data Ended (zone : ZoneContent) (t : RecordType) (Leads : ℕ → DomainName → Type 0) (count : ℕ) (owner : DomainName) : Answer → Type 0 where
  finds : (aliases : List Record) (end : DomainName) (row : Row) (more : List Row) → All IsAliasRecord aliases → (links : ℕ) → Leads links end
      → rows_at zone.rows end.labels t ≡ row ∷ more
      → HasAliases zone t owner aliases end
      → Ended zone t Leads count owner
      (record { code = NoError; answers = aliases ++ map (record_of end) (row ∷ more); authorities = [] })
  lacks : (aliases : List Record) (end : DomainName) → All IsAliasRecord aliases → (links : ℕ) → Leads links end
      → at_or_below zone.origin.labels end.labels ≡ true → rows_at zone.rows owner.labels t ≡ [] → rows_at zone.rows end.labels t ≡ []
      → rows_at zone.rows end.labels types.CNAME ≡ []
      → ((c : Chain) → c.name ≡ owner → (chain_over c aliases).name ≡ end)
      → HasAliases zone t owner aliases end
      → Ended zone t Leads count owner
      (record { code = (negative zone end.labels).code; answers = aliases; authorities = authority zone })
  stops : (aliases : List Record) → All IsAliasRecord aliases → HasAliasAt zone owner → type_number t ≢ 5 → rows_at zone.rows owner.labels t ≡ []
      → (7 ≤ count) ⊎ GoesAlong owner aliases → Halts zone Leads
      → Ended zone t Leads count owner (record { code = NoError; answers = aliases; authorities = [] })

-- a chain goes on along an alias
along-alias : (owner : DomainName) (alias : Row) (cname : CNAME) (records : List Record) → alias.rdata ≡ of.CNAME cname
    → GoesAlong owner (record_of owner alias ∷ records)
along-alias owner alias cname records is c more at =
    alias-stays (extended c alias.ttl (next_name c.name (record_of owner alias) alias.rdata)) (records ++ more)
    (ap (λ (next : Chain). next.is_alias) (follows c owner alias cname is at))

module _ (zone : ZoneContent) (good : IsZone zone) (t : RecordType) (Leads : ℕ → DomainName → Type 0)
    (lead : (links : ℕ) (owner name : DomainName) (row : Row) (more : List Row) (alias : CNAME) → type_number t ≢ 5 → Leads links owner
    → rows_at zone.rows owner.labels types.CNAME ≡ row ∷ more → row.rdata ≡ of.CNAME alias → alias.0 ≡ name → Leads (suc links) name) where
  has-alias : (owner : DomainName) (alias : Row) (more : List Row) → rows_at zone.rows owner.labels types.CNAME ≡ alias ∷ more → HasAliasAt zone owner
  has-alias owner alias more e none = let clash : ◌≡◌ {A = List Row} (alias ∷ more) [] = sym e ∙ none in cc

  -- where there is an alias and no row of the type, the type is not that of aliases
  not-aliases : (owner : DomainName) (alias : Row) (more : List Row) → rows_at zone.rows owner.labels types.CNAME ≡ alias ∷ more
      → rows_at zone.rows owner.labels t ≡ [] → type_number t ≢ 5
  not-aliases owner alias more e none is =
      has-alias owner alias more e (ap (λ (n : ℕ). unwrap_or (rows_map.get zone.rows (lower owner.labels, n)) []) (sym is) ∙ none)

  -- an alias before an answer
  after-alias : (count : ℕ) (owner : DomainName) (alias : Row) (cname : CNAME) → IsAliasRecord (record_of owner alias) → HasAliasAt zone owner
      → type_number t ≢ 5 → rows_at zone.rows owner.labels t ≡ []
      → alias.rdata ≡ of.CNAME cname → {a : Answer} → Ended zone t Leads (suc count) cname.0 a
      → Ended zone t Leads count owner (after_records (record_of owner alias ∷ []) a)
  after-alias count owner alias cname typed has other none is (finds aliases end row more all links leads are some) =
      finds (record_of owner alias ∷ aliases) end row more (All-cons IsAliasRecord (record_of owner alias) aliases typed all) links leads are
      (inr (has, other, none, along-alias owner alias cname aliases is))
  after-alias count owner alias cname typed has other none is (lacks aliases end all links leads inside first no_row no_alias chain some) =
      lacks (record_of owner alias ∷ aliases) end (All-cons IsAliasRecord (record_of owner alias) aliases typed all) links leads inside none no_row
      no_alias
      (λ c at. ap (λ (next : Chain). (chain_over next aliases).name) (follows c owner alias cname is at) ∙ chain (next-chain c alias cname) refl)
      (inr (has, other, none, along-alias owner alias cname aliases is))
  after-alias count owner alias cname typed has other none is (stops aliases all some no_aliases no_rows along halts) =
      stops (record_of owner alias ∷ aliases) (All-cons IsAliasRecord (record_of owner alias) aliases typed all) has other none
      (inr (along-alias owner alias cname aliases is)) halts

  ended-by : (count : ℕ) (owner : DomainName) → Leads count owner → at_or_below zone.origin.labels owner.labels ≡ true → (rows aliases : List Row)
      (on_alias : Row → Answer) → rows ≡ rows_at zone.rows owner.labels t → aliases ≡ rows_at zone.rows owner.labels types.CNAME
      → ((alias : Row) (more : List Row) → aliases ≡ alias ∷ more → rows_at zone.rows owner.labels t ≡ []
      → Ended zone t Leads count owner (on_alias alias))
      → Ended zone t Leads count owner (answer_by zone owner rows aliases on_alias)
  ended-by count owner leads inside [] [] on_alias of_type of_alias next =
      lacks [] owner (All-nil IsAliasRecord) count leads inside (sym of_type) (sym of_type) (sym of_alias) (λ c at. at) (inl (refl, refl))
  ended-by count owner leads inside [] (alias ∷ more) on_alias of_type of_alias next = next alias more refl (sym of_type)
  ended-by count owner leads inside (row ∷ rows) aliases on_alias of_type of_alias next =
      finds [] owner row rows (All-nil IsAliasRecord) count leads (sym of_type) (inl (refl, refl))

  -- the answer after an alias, which is followed or not
  ended-after : (count : ℕ) (answer_of : DomainName → Answer) (owner : DomainName) (alias : Row) (cname : CNAME)
      → IsAliasRecord (record_of owner alias)
      → HasAliasAt zone owner → type_number t ≢ 5 → rows_at zone.rows owner.labels t ≡ [] → alias.rdata ≡ of.CNAME cname
      → Leads (suc count) cname.0
      → (at_or_below zone.origin.labels cname.0.labels ≡ true → Ended zone t Leads (suc count) cname.0 (answer_of cname.0))
      → Ended zone t Leads count owner (after_records (record_of owner alias ∷ []) (rest_at answer_of (next_owner zone.origin alias.rdata)))
  ended-after count answer_of owner alias cname typed has other none is leads next =
      subst (λ (d : RData). Ended zone t Leads count owner (after_records (record_of owner alias ∷ []) (rest_at answer_of (next_owner zone.origin d))))
      (sym is) (by (is_followed zone.origin cname.0) refl)
    where
      by : (b : Bool) → is_followed zone.origin cname.0 ≡ b
          → Ended zone t Leads count owner (after_records (record_of owner alias ∷ []) (rest_at answer_of (cond b (Some cname.0) None)))
      by true e = after-alias count owner alias cname typed has other none is (next (both-true (at_or_below zone.origin.labels cname.0.labels) _ e).0)
      by false e =
          stops (record_of owner alias ∷ []) (All-cons IsAliasRecord (record_of owner alias) [] typed (All-nil IsAliasRecord)) has other none
          (inr (along-alias owner alias cname [] is)) (inr (count, cname.0, leads, e))

  ended-at : (links count : ℕ) (owner : DomainName) → count + links ≡ 7 → Leads count owner → at_or_below zone.origin.labels owner.labels ≡ true
      → Ended zone t Leads count owner (answer_at links zone t owner)
  unfolding answer_at
  ended-at zero count owner all leads inside =
      let seven : 7 ≤ count = omega (arith, all) in
      ended-by count owner leads inside (rows_at zone.rows owner.labels t) (rows_at zone.rows owner.labels types.CNAME) (λ alias. bare NoError) refl
      refl
      (λ alias more e none.
      stops [] (All-nil IsAliasRecord) (has-alias owner alias more e) (not-aliases owner alias more e none) none (inl seven)
      (inl (count, owner, seven, leads, has-alias owner alias more e)))
  ended-at (suc left) count owner all leads inside =
      ended-by count owner leads inside (rows_at zone.rows owner.labels t) (rows_at zone.rows owner.labels types.CNAME)
      (λ alias. after_records (record_of owner alias ∷ []) (rest_at (answer_at left zone t) (next_owner zone.origin alias.rdata))) refl refl
      (λ alias more e none.
      (let to = alias-cname zone good types.A refl owner alias more e in
      let other = not-aliases owner alias more e none in
      let on : Leads (suc count) to.0.0 = lead count owner to.0.0 alias more to.0 other leads e to.1 refl in
      ended-after count (answer_at left zone t) owner alias to.0 (alias-typed zone good t owner alias more e) (has-alias owner alias more e) other none
      to.1 on (λ there. ended-at left (suc count) to.0.0 (omega (arith, all)) on there)))

-- the answer to a question is that of an error, where it is refused, or ends so, for a question of the class of the Internet, for a name in
-- the zone and of a type that rows have
pub data Answered (zone : ZoneContent) (q : Query) (Leads : ℕ → DomainName → Type 0) : Answer → Type 0 where
  not_implemented : is_refused zone q ≡ true → Answered zone q Leads (bare NotImp)
  refused : is_refused zone q ≡ true → Answered zone q Leads (bare Refused)
  ended : (a : Answer) → is_no_row_type (type_number q.query_type) ≡ false → class_number q.query_class ≡ 1
      → at_or_below zone.origin.labels q.name.labels ≡ true → Ended zone q.query_type Leads 0 q.name a → Answered zone q Leads a

both-inside : (x y : Bool) → not x || not y ≡ false → (x ≡ true) × (y ≡ true)
both-inside true true h = (refl, refl)
both-inside true false h = absurd (true≢false h)
both-inside false y h = absurd (true≢false h)

pub answered-by : (zone : ZoneContent) → IsZone zone → (q : Query) → (Leads : ℕ → DomainName → Type 0)
    → ((links : ℕ) (owner name : DomainName) (row : Row) (more : List Row) (alias : CNAME) → type_number q.query_type ≢ 5 → Leads links owner
    → rows_at zone.rows owner.labels types.CNAME ≡ row ∷ more → row.rdata ≡ of.CNAME alias → alias.0 ≡ name → Leads (suc links) name)
    → Leads 0 q.name → ((m n : ℕ) → (m == n) ≡ true → m ≡ n) → Answered zone q Leads (answer zone q)
answered-by zone good q Leads lead here equal =
    by (is_no_row_type (type_number q.query_type)) (not (class_number q.query_class == 1) || not (at_or_below zone.origin.labels q.name.labels)) refl refl
  where
    by : (a b : Bool) → is_no_row_type (type_number q.query_type) ≡ a
        → not (class_number q.query_class == 1) || not (at_or_below zone.origin.labels q.name.labels) ≡ b
        → Answered zone q Leads (cond a (bare NotImp) (cond b (bare Refused) (answer_at max_aliases zone q.query_type q.name)))
    by true b f e =
        not_implemented (λ i. f i || (not (class_number q.query_class == 1) || not (at_or_below zone.origin.labels q.name.labels)))
    by false true f e = refused (λ i. f i || e i)
    by false false f e =
        let both = both-inside (class_number q.query_class == 1) (at_or_below zone.origin.labels q.name.labels) e in
        ended (answer_at max_aliases zone q.query_type q.name) f (equal (class_number q.query_class) 1 both.0) both.1
        (ended-at zone good q.query_type Leads lead max_aliases 0 q.name refl here both.1)
