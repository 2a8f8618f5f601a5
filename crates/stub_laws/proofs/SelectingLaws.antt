-- Among the records of a message those of a type are all rows at a name, also after others are added or left out, and TTLs
-- lowered.
use Rattle.std.proofs.Common.{◌≡◌, ℕ, ◌≤◌, ◌||◌, ◌++◌, min, Bool, true, false, cond, List, [], ◌∷◌, map, filter, All, refl, sym, subst, arith}
use Rattle.std.proofs.lemmas.Bool.{cond_both, true≢false}
use Rattle.std.proofs.lemmas.List.Elements.{All-head, All-tail}
use Rattle.dns_wire.specs.codes.RecordType.{type_number}
use Rattle.dns_wire.specs.declared.codes.record_type.RecordType.{RecordType}
use Rattle.dns_names.specs.Name.{DomainName}
use Rattle.dns_records.specs.Record.{Record}
use Rattle.dns_records.specs.declared.row.Row.{Row}
use Rattle.dns_messages.specs.Message.{is_without_dnssec, strip_for, stripped}
use Rattle.dns_messages.specs.Response.{has_type, is_empty}
use Rattle.dns_messages.specs.declared.message.Message.{Message}
use Rattle.dns_messages.specs.declared.query.Query.{Query}
use Rattle.dns_zone.specs.Answer.{record_of}
use Rattle.stub_cache.specs.Ttl.{TtlConfigContent, clamped_record}
use Rattle.stub_client.specs.Step.{lowered}
use Rattle.stub_laws.proofs.AnswerRowLaws.{equal-numbers, number_of}
use Rattle.stub_laws.proofs.FreshLaws.{clamped-least, range_at}
use Rattle.stub_laws.specs.answers.Standing.{HasRows}
use Rattle.stub_laws.specs.answers.Standing.HasRows.{no_more, of_other_type, of_row}

-- among records those of a type are rows at an owner, in order, with TTLs of at most theirs
pub data Selects (t : RecordType) (owner : DomainName) : List Row → List Record → Type 0 where
  nothing : Selects t owner [] []
  another : (r : Record) (rows : List Row) (rs : List Record) → has_type t r ≡ false → Selects t owner rows rs → Selects t owner rows (r ∷ rs)
  that : (row : Row) (ttl : ℕ) (rows : List Row) (rs : List Record) → has_type t (record_of owner row) ≡ true → ttl ≤ row.ttl
      → Selects t owner rows rs → Selects t owner (row ∷ rows) (record (record_of owner row) { ttl = ttl } ∷ rs)

module _ (t : RecordType) (owner : DomainName) where
  pub selects-rows : (rows : List Row) → All (λ (row : Row). has_type t (record_of owner row) ≡ true) rows
      → Selects t owner rows (map (record_of owner) rows)
  selects-rows [] all = nothing
  selects-rows (row ∷ rows) all =
      let Is : Row → Type 0 = λ x. has_type t (record_of owner x) ≡ true in
      that row row.ttl rows (map (record_of owner) rows) (All-head Is row rows all) (omega arith) (selects-rows rows (All-tail Is row rows all))

  pub selects-after : (rows : List Row) (others rs : List Record) → All (λ (r : Record). has_type t r ≡ false) others → Selects t owner rows rs
      → Selects t owner rows (others ++ rs)
  selects-after rows [] rs all h = h
  selects-after rows (r ∷ others) rs all h =
      let Off : Record → Type 0 = λ x. has_type t x ≡ false in
      another r rows (others ++ rs) (All-head Off r others all) (selects-after rows others rs (All-tail Off r others all) h)

  pub selects-lowered : (most : ℕ) {rows : List Row} {rs : List Record} → Selects t owner rows rs → Selects t owner rows (map (lowered most) rs)
  selects-lowered most nothing = nothing
  selects-lowered most (another r rows rs off h) = another (lowered most r) rows (map (lowered most) rs) off (selects-lowered most h)
  selects-lowered most (that row ttl rows rs is low h) =
      that row (min ttl most) rows (map (lowered most) rs) is (omega arith) (selects-lowered most h)

  module _ (p : Record → Bool) (keeps : (row : Row) (ttl : ℕ) → has_type t (record_of owner row) ≡ true → p (record (record_of owner row) { ttl = ttl }) ≡ true) where
    pub selects-filter : {rows : List Row} {rs : List Record} → Selects t owner rows rs → Selects t owner rows (filter p rs)
    selects-filter nothing = nothing
    selects-filter (another r rows rs off h) =
        cond_both (p r) (r ∷ filter p rs) (filter p rs) (Selects t owner rows) (λ passes. another r rows (filter p rs) off (selects-filter h))
        (λ fails. selects-filter h)
    selects-filter (that row ttl rows rs is low h) =
        let r : Record = record (record_of owner row) { ttl = ttl } in
        subst (λ (b : Bool). Selects t owner (row ∷ rows) (cond b (r ∷ filter p rs) (filter p rs))) (sym (keeps row ttl is))
        (that row ttl rows (filter p rs) is low (selects-filter h))

  pub selects-some : {row : Row} {more : List Row} {rs : List Record} → Selects t owner (row ∷ more) rs → is_empty rs ≡ false
  selects-some (another r rows rs off h) = refl
  selects-some (that row ttl rows rs is low h) = refl

  -- records of the type are not stripped
  pub selects-stripped : (q : Query) → q.query_type ≡ t → (secure : Bool) (m : Message) → m.queries ≡ q ∷ [] → {rows : List Row}
      → Selects t owner rows m.answers → Selects t owner rows (stripped secure m).answers
  selects-stripped q same true m asked h = h
  selects-stripped q same false m asked {rows} h =
      subst (λ (qs : List Query). Selects t owner rows (strip_for qs m).answers) (sym asked)
      (selects-filter (is_without_dnssec q.query_type)
      (λ row ttl is. subst (λ (kind : RecordType). is_without_dnssec kind (record (record_of owner row) { ttl = ttl }) ≡ true) (sym same)
      (left (has_type t (record_of owner row)) _ is)) h)
    where
      left : (a b : Bool) → a ≡ true → a || b ≡ true
      left true b h = refl
      left false b h = absurd (true≢false (sym h))

  -- within their bounds, without a minimum
  pub selects-clamped : (config : TtlConfigContent) (now : ℕ) → (range_at config (type_number t)).least ≡ 0 → {rows : List Row} {rs : List Record}
      → Selects t owner rows rs → HasRows (range_at config (type_number t)).greatest now now owner t rows (map (clamped_record config) rs)
  selects-clamped config now none nothing = no_more
  selects-clamped config now none (another r rows rs off h) =
      of_other_type (clamped_record config r) rows (map (clamped_record config) rs) off (selects-clamped config now none h)
  selects-clamped config now none (that row ttl rows rs is low h) =
      let r : Record = record (record_of owner row) { ttl = ttl } in
      let bound : (clamped_record config r).ttl ≤ min ttl (range_at config (type_number t)).greatest =
      clamped-least config (type_number t) r none (equal-numbers (number_of r) (type_number t) is) in
      of_row row (clamped_record config r).ttl rows (map (clamped_record config) rs) is (omega arith) (selects-clamped config now none h)
