-- Each record of a response that holds the answer of a zone is one of its rows.
use Rattle.std.proofs.Common.{◌≡◌, ℕ, ◌≤◌, ◌==◌, ◌||◌, ◌++◌, min, zero, suc, not, cond, Bool, true, false, List, [], ◌∷◌, map, Option, Some, None, Ok, unwrap_or, All, Contains, refl, sym, subst, slice_index_or, inl, inr, arith}
use Rattle.std.specs.FinMap as rows_map
use Rattle.std.proofs.lemmas.List.Elements.{All-nil, All-append, All-map, All-weaker, Contains-get_or}
use Rattle.dns_wire.specs.codes.DNSClass.{class_number}
use Rattle.dns_wire.specs.codes.RecordType.{type_number}
use Rattle.dns_wire.specs.declared.codes.record_type.RecordType.{RecordType}
use Rattle.dns_wire.specs.declared.codes.record_type.RecordType.TheVariants as types
use Rattle.dns_names.specs.Compare.{at_or_below, lower}
use Rattle.dns_names.specs.Name.{DomainName}
use Rattle.dns_data.specs.declared.rdata.RData.{RData}
use Rattle.dns_data.specs.declared.rdata.RData.TheVariants as of
use Rattle.dns_data.specs.rdata.{data_type}
use Rattle.dns_records.specs.Record.{Record}
use Rattle.dns_records.specs.Rows.{Rows, row_of, rows_at, type_of_record}
use Rattle.dns_records.specs.declared.row.Row.{Row}
use Rattle.dns_messages.specs.Message.{all_records}
use Rattle.dns_messages.specs.declared.message.Message.{Message}
use Rattle.dns_messages.specs.declared.query.Query.{Query}
use Rattle.dns_messages.specs.declared.response.DnsResponse.{DnsResponse}
use Rattle.dns_messages.specs.declared.response_code.ResponseCode.TheVariants.{NoError, NotImp, Refused}
use Rattle.dns_zone.specs.Answer.{IsChain, after_records, answer, answer_at, answer_by, authority_row, bare, is_no_row_type, max_aliases, negative_ttl, next_owner, record_of, rest_at}
use Rattle.dns_zone.specs.Rows.{IsZone, ZoneContent}
use Rattle.dns_zone.specs.declared.zone.answer.Answer.{Answer}
use Rattle.stub_client.specs.Handle.{Ask}
use Rattle.stub_client.specs.Step.{meaning}
use Rattle.stub_link.specs.LinkState.{Version}
use Rattle.stub_laws.specs.history.Answered.{AreZones, HoldsAnswerAt, IsAnsweredBy, zone_with}
use Rattle.stub_laws.specs.history.Stands.{StandAt}
use Rattle.stub_laws.specs.answers.Sources.{EachReceived, IsRowNow}
use Rattle.stub_laws.proofs.AnswerRowLaws.{IsAnswerRow, Typed, answer-rows, typed-at, zone-of-rows}
use Rattle.stub_laws.proofs.FreshLaws.{meant}

-- a record has the data of a row at its owner, with at most its TTL
record IsSome (rows : Rows) (r : Record) : Type 0 where
  row : Row
  holds : Contains (rows_at rows r.name.labels (type_of_record r)) row
  same_data : row.rdata ≡ r.rdata
  low : r.ttl ≤ row.ttl

-- the TTL of a negative answer is none above that of the SOA row
negative-low : (ttl : ℕ) (rdata : RData) → negative_ttl ttl rdata ≤ ttl
negative-low ttl (of.SOA soa) = omega arith
negative-low ttl other = omega arith

module _ (zone : ZoneContent) (good : IsZone zone) where
  soa-row : (row : Row) → Typed 6 row → Contains (rows_at zone.rows zone.origin.labels types.SOA) row
      → IsSome zone.rows (record_of zone.origin (authority_row row))
  soa-row row typed c = record {
    row = row;
    holds = subst (λ (n : ℕ). Contains (unwrap_or (rows_map.get zone.rows (lower zone.origin.labels, n)) []) row) (sym typed) c;
    same_data = refl;
    low = negative-low row.ttl row.rdata;
  }

  rest-rows : (answer_of : DomainName → Answer) → ((owner : DomainName) → All (IsSome zone.rows) (answer_of owner).authorities)
      → (o : Option DomainName) → All (IsSome zone.rows) (rest_at answer_of o).authorities
  rest-rows answer_of all None = All-nil (IsSome zone.rows)
  rest-rows answer_of all (Some owner) = all owner

  rows-by : (owner : DomainName) (rows aliases : List Row) (on_alias : Row → Answer)
      → ((alias : Row) → All (IsSome zone.rows) (on_alias alias).authorities)
      → All (IsSome zone.rows) (answer_by zone owner rows aliases on_alias).authorities
  rows-by owner [] [] on_alias next =
      let soas : List Row = rows_at zone.rows zone.origin.labels types.SOA in
      All-map (IsSome zone.rows) (λ (row : Row). record_of zone.origin (authority_row row)) soas
      (λ k d less. soa-row (slice_index_or soas k d) (typed-at zone good zone.origin.labels types.SOA k d less) (Contains-get_or soas k d less))
  rows-by owner [] (alias ∷ more) on_alias next = next alias
  rows-by owner (row ∷ rows) aliases on_alias next = All-nil (IsSome zone.rows)

  rows-at-links : (t : RecordType) (links : ℕ) (owner : DomainName) → All (IsSome zone.rows) (answer_at links zone t owner).authorities
  unfolding answer_at
  rows-at-links t zero owner =
      rows-by owner (rows_at zone.rows owner.labels t) (rows_at zone.rows owner.labels types.CNAME) (λ alias. bare NoError)
      (λ alias. All-nil (IsSome zone.rows))
  rows-at-links t (suc links) owner =
      rows-by owner (rows_at zone.rows owner.labels t) (rows_at zone.rows owner.labels types.CNAME)
      (λ alias. after_records (record_of owner alias ∷ []) (rest_at (answer_at links zone t) (next_owner zone.origin alias.rdata)))
      (λ alias. rest-rows (answer_at links zone t) (rows-at-links t links) (next_owner zone.origin alias.rdata))

  authority-rows : (q : Query) → All (IsSome zone.rows) (answer zone q).authorities
  authority-rows q = by (is_no_row_type (type_number q.query_type)) (not (class_number q.query_class == 1) || not (at_or_below zone.origin.labels q.name.labels))
    where
      by : (a b : Bool) → All (IsSome zone.rows) (cond a (bare NotImp) (cond b (bare Refused) (answer_at max_aliases zone q.query_type q.name))).authorities
      by true b = All-nil (IsSome zone.rows)
      by false true = All-nil (IsSome zone.rows)
      by false false = rows-at-links q.query_type max_aliases q.name

  answers-rows : (q : Query) → IsChain zone.rows q.query_type q.name (answer zone q).answers → All (IsSome zone.rows) (answer zone q).answers
  answers-rows q chain =
      All-weaker (IsAnswerRow zone.rows q.query_type) (IsSome zone.rows)
      (λ r h. record { row = row_of r; holds = h.row; same_data = refl; low = omega arith }) (answer zone q).answers
      (answer-rows zone good q.query_type chain)

module _ (chains : (zone : ZoneContent) (q : Query) → IsChain zone.rows q.query_type q.name (answer zone q).answers)
    (origin : DomainName) (history : List Version) (zones : AreZones origin history) (now : ℕ) where
  message-rows : (q : Query) (m : Message) → HoldsAnswerAt origin history now q m → All (IsRowNow history now) (all_records m)
  message-rows q m held =
      let zone : ZoneContent = zone_with origin held.rows in
      let good : IsZone zone = zone-of-rows origin history now held.rows zones held.stand in
      let answers : All (IsSome held.rows) m.answers =
      subst (λ (rs : List Record). All (IsSome held.rows) rs) (sym held.holds.answers) (answers-rows zone good q (chains zone q)) in
      let authorities : All (IsSome held.rows) m.authorities =
      subst (λ (rs : List Record). All (IsSome held.rows) rs) (sym held.holds.authorities) (authority-rows zone good q) in
      let additionals : All (IsSome held.rows) m.additionals =
      subst (λ (rs : List Record). All (IsSome held.rows) rs) (sym held.holds.additionals) (All-nil (IsSome held.rows)) in
      All-weaker (IsSome held.rows) (IsRowNow history now)
      (λ r h. record { rows = held.rows; row = h.row; stand = held.stand; holds = h.holds; same_data = h.same_data; lower = h.low })
      (all_records m)
      (All-append (IsSome held.rows) m.answers (m.authorities ++ m.additionals) answers
      (All-append (IsSome held.rows) m.authorities m.additionals authorities additionals))

  -- each record of each response that was answered by rows that stood
  pub received-rows : (asks : List Ask) → All (λ ask. IsAnsweredBy origin history (record { moment = now; ask = ask })) asks
      → EachReceived (IsRowNow history now) asks
  received-rows asks answered = λ k d less response means.
      let ask = slice_index_or asks k d in
      message-rows ask.question response.message (answered k d less response (meant ask.outcome response means))
