-- The records of a zone's answer are rows at their owners, which the aliases of the answer reach.
use Rattle.std.proofs.Common.{◌≡◌, ℕ, ◌≤◌, ◌==◌, ◌||◌, zero, suc, Bool, true, false, cond, not, List, [], ◌∷◌, map, Option, Some, None, unwrap_or, All, Contains, refl, sym, ap, subst, ◌∙◌, slice_index_or, inl, inr, arith}
use Rattle.std.specs.Prelude.{◌⊎◌, IfSome}
use Rattle.std.specs.FinMap as rows_map
use Rattle.std.proofs.lemmas.Bool.{true≢false}
use Rattle.std.proofs.lemmas.Bool.Decides.{nat_tests}
use Rattle.std.proofs.lemmas.List.Elements.{All-nil, All-cons, All-head, All-tail, All-map, All-contains, All-from_recursion, Contains-get_or, Contains-append_right}
use Rattle.dns_wire.specs.codes.DNSClass.{class_number}
use Rattle.dns_wire.specs.codes.RecordType.{type_number}
use Rattle.dns_wire.specs.declared.codes.dns_class.DNSClass.TheVariants.{IN}
use Rattle.dns_wire.specs.declared.codes.record_type.RecordType.{RecordType}
use Rattle.dns_wire.specs.declared.codes.record_type.RecordType.TheVariants as types
use Rattle.dns_names.specs.Compare.{at_or_below, lower, same_name}
use Rattle.dns_names.specs.Name.{DomainName}
use Rattle.dns_data.specs.declared.rdata.RData.{RData}
use Rattle.dns_data.specs.declared.rdata.RData.TheVariants as of
use Rattle.dns_data.specs.rdata.{data_type}
use Rattle.dns_records.specs.Record.{Record}
use Rattle.dns_records.specs.Rows.{Rows, key, row_of, rows_at, type_of_record}
use Rattle.dns_records.specs.declared.row.Row.{Row}
use Rattle.dns_messages.specs.Sound.{IsSoundIn}
use Rattle.dns_messages.specs.declared.query.Query.{Query}
use Rattle.dns_messages.specs.declared.response_code.ResponseCode.TheVariants.{NoError, NotImp, Refused}
use Rattle.dns_zone.specs.Answer.{IsChain, after_records, answer, answer_at, answer_by, authority_row, bare, is_no_row_type, max_aliases, next_owner, record_of, rest_at}
use Rattle.dns_zone.specs.Answer.IsChain.{found, stops, last, leads}
use Rattle.dns_zone.specs.Rows.{AreRowsAt, AreSoundRows, IsSoundRow, IsZone, ZoneContent}
use Rattle.dns_zone.specs.declared.zone.answer.Answer.{Answer}
use Rattle.dns_zone.proofs.AnswerLaws.{HasSoundRows, sound_answer}
use Rattle.stub_client.specs.Step.{chain_over, extended, next_name}
use Rattle.stub_client.specs.declared.caching_client.chain.Chain.{Chain}
use Rattle.stub_link.specs.LinkState.{Version}
use Rattle.stub_laws.specs.history.Answered.{AreZones, is_plain_number, zone_with}
use Rattle.stub_laws.specs.history.Stands.{IsReached, StandAt}
use Rattle.stub_laws.specs.history.Stands.IsReached.{by_alias}
use Rattle.stub_laws.proofs.StandLaws.{contains-head, names-lower}

-- ---- numbers of types

pub equal-numbers : (m n : ℕ) → (m == n) ≡ true → m ≡ n
equal-numbers m n h = grind (arith, nat_tests)

pub not-plain : (n m : ℕ) → is_plain_number n ≡ true → n ≡ m → is_plain_number m ≡ false → ⊥
not-plain n m plain same off = true≢false (sym plain ∙ ap is_plain_number same ∙ off)

abbrev pub number_of : Record → ℕ
number_of r = type_number (data_type r.rdata)

-- ---- rows of a zone

abbrev pub Typed : ℕ → Row → Type 0
Typed n row = type_number (data_type row.rdata) ≡ n

-- the zone of rows that stand
pub zone-of-rows : (origin : DomainName) (history : List Version) (moment : ℕ) (rows : Rows) → AreZones origin history → StandAt history moment rows
    → IsZone (zone_with origin rows)
zone-of-rows origin history moment rows zones s =
    let version : Version = record { moment = s.since; rows = rows } in
    All-contains (λ (v : Version). IsZone (zone_with origin v.rows)) history version zones
    (subst (λ (all : List Version). Contains all version) (sym s.split)
    (Contains-append_right s.before (version ∷ s.after) version (contains-head version s.after)))

module _ (zone : ZoneContent) (good : IsZone zone) where
  pub typed-at : (owner : List (List ℕ)) (t : RecordType) → All (Typed (type_number t)) (rows_at zone.rows owner t)
  typed-at owner t = by (rows_map.get zone.rows (key owner t)) (good.rows (key owner t))
    where
      by : (o : Option (List Row)) → IfSome o (AreRowsAt zone.origin (key owner t)) → All (Typed (type_number t)) (unwrap_or o [])
      by None h = All-nil (Typed (type_number t))
      by (Some rows) h = All-from_recursion (Typed (type_number t)) rows h.of_type

  pub sound-at : (owner : List (List ℕ)) (t : RecordType) → All IsSoundRow (rows_at zone.rows owner t)
  sound-at owner t = by (rows_map.get zone.rows (key owner t)) (good.rows (key owner t))
    where
      by : (o : Option (List Row)) → IfSome o (AreRowsAt zone.origin (key owner t)) → All IsSoundRow (unwrap_or o [])
      by None h = All-nil IsSoundRow
      by (Some rows) h = All-from_recursion IsSoundRow rows h.sound

  pub alias-there : (owner : DomainName) (alias : Row) (more : List Row) → rows_at zone.rows owner.labels types.CNAME ≡ alias ∷ more
      → Contains (rows_at zone.rows owner.labels types.CNAME) alias
  alias-there owner alias more e = subst (λ (rows : List Row). Contains rows alias) (sym e) (contains-head alias more)

-- ---- records that are rows at their owners

abbrev pub IsRowOf : Rows → Record → Type 0
IsRowOf rows r = Contains (rows_at rows r.name.labels (type_of_record r)) (row_of r)

-- a record of an answer to a question for a type: a row at its owner, of this type or an alias
pub record IsAnswerRow (rows : Rows) (t : RecordType) (r : Record) : Type 0 where
  pub row : IsRowOf rows r
  pub kind : (number_of r ≡ type_number t) ⊎ (number_of r ≡ 5)
  pub class : r.dns_class ≡ IN

row-of-record : (rows : Rows) (owner : DomainName) (t : RecordType) (row : Row) → Typed (type_number t) row
    → Contains (rows_at rows owner.labels t) row → IsRowOf rows (record_of owner row)
row-of-record rows owner t row typed c =
    subst (λ (n : ℕ). Contains (unwrap_or (rows_map.get rows (lower owner.labels, n)) []) row) (sym typed) c

module _ (zone : ZoneContent) (good : IsZone zone) (t : RecordType) where
  found-rows : (owner : DomainName) → All (IsAnswerRow zone.rows t) (map (record_of owner) (rows_at zone.rows owner.labels t))
  found-rows owner =
      All-map (IsAnswerRow zone.rows t) (record_of owner) (rows_at zone.rows owner.labels t)
      (λ k d less. record {
        row = row-of-record zone.rows owner t (slice_index_or (rows_at zone.rows owner.labels t) k d) (typed-at zone good owner.labels t k d less)
            (Contains-get_or (rows_at zone.rows owner.labels t) k d less);
        kind = inl (typed-at zone good owner.labels t k d less);
        class = refl;
      })

  pub alias-typed : (owner : DomainName) (alias : Row) (more : List Row) → rows_at zone.rows owner.labels types.CNAME ≡ alias ∷ more → Typed 5 alias
  alias-typed owner alias more e =
      All-contains (Typed 5) (rows_at zone.rows owner.labels types.CNAME) alias (typed-at zone good owner.labels types.CNAME)
      (alias-there zone good owner alias more e)

  alias-row : (owner : DomainName) (alias : Row) (more : List Row) → rows_at zone.rows owner.labels types.CNAME ≡ alias ∷ more
      → IsAnswerRow zone.rows t (record_of owner alias)
  alias-row owner alias more e = record {
    row = row-of-record zone.rows owner types.CNAME alias (alias-typed owner alias more e) (alias-there zone good owner alias more e);
    kind = inr (alias-typed owner alias more e);
    class = refl;
  }

  -- each record of an answer is one
  pub answer-rows : {owner : DomainName} {records : List Record} → IsChain zone.rows t owner records → All (IsAnswerRow zone.rows t) records
  answer-rows (found owner) = found-rows owner
  answer-rows (stops owner) = All-nil (IsAnswerRow zone.rows t)
  answer-rows (last owner alias more e) =
      All-cons (IsAnswerRow zone.rows t) (record_of owner alias) [] (alias-row owner alias more e) (All-nil (IsAnswerRow zone.rows t))
  answer-rows (leads owner alias more cname records e is rest) =
      All-cons (IsAnswerRow zone.rows t) (record_of owner alias) records (alias-row owner alias more e) (answer-rows rest)

-- ---- reached names

module _ (history : List Version) (now : ℕ) (from : DomainName) (moment : ℕ) (rows : Rows) (stand : StandAt history moment rows) (past : moment ≤ now) where
  -- each owner in an answer is reached
  pub owners-reached : {t : RecordType} {owner : DomainName} {records : List Record} → IsChain rows t owner records → IsReached history now from owner
      → All (λ (r : Record). IsReached history now from r.name) records
  owners-reached {t} (found owner) h =
      All-map (λ (r : Record). IsReached history now from r.name) (record_of owner) (rows_at rows owner.labels t) (λ k d less. h)
  owners-reached (stops owner) h = All-nil (λ (r : Record). IsReached history now from r.name)
  owners-reached (last owner alias more e) h =
      All-cons (λ (r : Record). IsReached history now from r.name) (record_of owner alias) [] h (All-nil (λ (r : Record). IsReached history now from r.name))
  owners-reached (leads owner alias more cname records e is rest) h =
      All-cons (λ (r : Record). IsReached history now from r.name) (record_of owner alias) records h
      (owners-reached rest (by_alias owner cname.0 moment rows alias cname h stand past
      (subst (λ (all : List Row). Contains all alias) (sym e) (contains-head alias more)) is refl))

  step-reaches : (c : Chain) (r : Record) (d : RData) → r.rdata ≡ d → IsRowOf rows r → (type_number (data_type d) ≡ 33 → ⊥)
      → IsReached history now from c.name → IsReached history now from (extended c r.ttl (next_name c.name r d)).name
  step-reaches c r (of.CNAME alias) is row no-service h = by (same_name r.name c.name) refl
    where
      at-owner : Contains (unwrap_or (rows_map.get rows (lower r.name.labels, 5)) []) (row_of r)
      at-owner = subst (λ (d : RData). Contains (unwrap_or (rows_map.get rows (lower r.name.labels, type_number (data_type d))) []) (row_of r)) is row

      by : (b : Bool) → same_name r.name c.name ≡ b → IsReached history now from (extended c r.ttl (cond b (Some alias.0) None)).name
      by true same =
          by_alias c.name alias.0 moment rows (row_of r) alias h stand past
          (subst (λ (labels : List (List ℕ)). Contains (unwrap_or (rows_map.get rows (labels, 5)) []) (row_of r)) (names-lower r.name c.name same) at-owner)
          is refl
      by false other = h
  step-reaches c r (of.SRV service) is row no-service h = absurd (no-service refl)
  step-reaches c r other is row no-service h = h

  -- the end of the aliases among the records of an answer is reached
  pub chain-reaches : (t : RecordType) → is_plain_number (type_number t) ≡ true → (c : Chain) (rs : List Record) → All (IsAnswerRow rows t) rs
      → IsReached history now from c.name → IsReached history now from (chain_over c rs).name
  chain-reaches t plain c [] all h = h
  chain-reaches t plain c (r ∷ rs) all h =
      chain-reaches t plain (extended c r.ttl (next_name c.name r r.rdata)) rs (All-tail (IsAnswerRow rows t) r rs all)
      (step-reaches c r r.rdata refl (All-head (IsAnswerRow rows t) r rs all).row
      (no-service t plain r (All-head (IsAnswerRow rows t) r rs all).kind) h)
    where
      no-service : (t : RecordType) → is_plain_number (type_number t) ≡ true → (r : Record) → (number_of r ≡ type_number t) ⊎ (number_of r ≡ 5) → number_of r ≡ 33 → ⊥
      no-service t plain r (inl is) e = not-plain (type_number t) 33 plain (sym is ∙ e) refl
      no-service t plain r (inr is) e = let clash : ◌≡◌ {A = ℕ} 5 33 = sym is ∙ e in omega arith

-- ---- the authority section

abbrev pub IsSoaRecord : Record → Type 0
IsSoaRecord r = number_of r ≡ 6

rest-of-soa : (answer_of : DomainName → Answer) → ((owner : DomainName) → All IsSoaRecord (answer_of owner).authorities) → (o : Option DomainName)
    → All IsSoaRecord (rest_at answer_of o).authorities
rest-of-soa answer_of all None = All-nil IsSoaRecord
rest-of-soa answer_of all (Some owner) = all owner

module _ (zone : ZoneContent) (good : IsZone zone) where
  soa-by : (owner : DomainName) (rows aliases : List Row) (on_alias : Row → Answer) → ((alias : Row) → All IsSoaRecord (on_alias alias).authorities)
      → All IsSoaRecord (answer_by zone owner rows aliases on_alias).authorities
  soa-by owner [] [] on_alias next =
      All-map IsSoaRecord (λ (row : Row). record_of zone.origin (authority_row row)) (rows_at zone.rows zone.origin.labels types.SOA)
      (typed-at zone good zone.origin.labels types.SOA)
  soa-by owner [] (alias ∷ more) on_alias next = next alias
  soa-by owner (row ∷ rows) aliases on_alias next = All-nil IsSoaRecord

  soa-at : (t : RecordType) (links : ℕ) (owner : DomainName) → All IsSoaRecord (answer_at links zone t owner).authorities
  unfolding answer_at
  soa-at t zero owner =
      soa-by owner (rows_at zone.rows owner.labels t) (rows_at zone.rows owner.labels types.CNAME) (λ alias. bare NoError) (λ alias. All-nil IsSoaRecord)
  soa-at t (suc links) owner =
      soa-by owner (rows_at zone.rows owner.labels t) (rows_at zone.rows owner.labels types.CNAME)
      (λ alias. after_records (record_of owner alias ∷ []) (rest_at (answer_at links zone t) (next_owner zone.origin alias.rdata)))
      (λ alias. rest-of-soa (answer_at links zone t) (soa-at t links) (next_owner zone.origin alias.rdata))

  -- each owner in the answer for a fully qualified name is fully qualified
  sound-rows : HasSoundRows zone.rows
  sound-rows labels t = by (rows_map.get zone.rows (key labels t)) (good.rows (key labels t))
    where
      by : (o : Option (List Row)) → IfSome o (AreRowsAt zone.origin (key labels t)) → AreSoundRows (unwrap_or o [])
      by None h = tt
      by (Some rows) h = h.sound

  pub owner-full : (q : Query) → q.name.is_fqdn ≡ true → (r : Record) → Contains (answer zone q).answers r → r.name.is_fqdn ≡ true
  owner-full q full r c =
      let records : List Record = (answer zone q).answers in
      let sound : All (IsSoundIn false) records =
      All-from_recursion (IsSoundIn false) records (sound_answer zone good.origin_fqdn sound-rows q full).answers in
      (All-contains (IsSoundIn false) records r sound c).sound.fqdn

  pub only-soa : (q : Query) → All IsSoaRecord (answer zone q).authorities
  only-soa q = by (is_no_row_type (type_number q.query_type)) (not (class_number q.query_class == 1) || not (at_or_below zone.origin.labels q.name.labels))
    where
      by : (a b : Bool) → All IsSoaRecord (cond a (bare NotImp) (cond b (bare Refused) (answer_at max_aliases zone q.query_type q.name))).authorities
      by true b = All-nil IsSoaRecord
      by false true = All-nil IsSoaRecord
      by false false = soa-at q.query_type max_aliases q.name
