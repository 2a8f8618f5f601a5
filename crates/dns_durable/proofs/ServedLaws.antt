-- A zone that serves updates of settled sets differs where places are settled alone.
use Rattle.std.proofs.Common.{◌≡◌, ◌==◌, ◌∙◌, ℕ, zero, suc, Bool, true, false, cond, not, ◌&&◌, List, [], ◌∷◌, map, refl, sym, ap, subst, Option, Some, None, if◌then◌else◌, is_none}
use Rattle.std.specs.FinMap as rows_map
use Rattle.std.specs.List.{AllByRecursion}
use Rattle.dns_wire.specs.codes.RecordType.{type_number}
use Rattle.dns_wire.specs.declared.codes.record_type.RecordType.TheVariants as types
use Rattle.dns_names.specs.Compare.{lower}
use Rattle.dns_names.specs.Name.{DomainName}
use Rattle.dns_data.specs.declared.rdata.RData.{RData}
use Rattle.dns_data.specs.declared.rdata.RData.TheVariants as of
use Rattle.dns_data.specs.rdata.{data_type}
use Rattle.dns_records.specs.Record.{Record}
use Rattle.dns_records.specs.declared.row.Row.{Row}
use Rattle.dns_records.specs.Rows.{Key, Rows, key, set_of, type_of_record}
use Rattle.dns_messages.specs.declared.message.Message.{Message}
use Rattle.dns_messages.specs.declared.query.Query.{Query}
use Rattle.dns_messages.specs.declared.op_code.OpCode.{OpCode}
use Rattle.dns_messages.specs.declared.op_code.OpCode.TheVariants as ops
use Rattle.dns_messages.specs.declared.response_code.ResponseCode.{ResponseCode}
use Rattle.dns_messages.specs.declared.response_code.ResponseCode.TheVariants.{NoError}
use Rattle.dns_updates.specs.Code.{update_code}
use Rattle.dns_zone.specs.Answer.{record_of}
use Rattle.dns_zone.specs.Maintained.{is_due, maintained, zone_with}
use Rattle.dns_zone.specs.Rising.{raised, raised_at, raised_row, start_key, start_rows, with_next_serial}
use Rattle.dns_zone.specs.Rows.{ZoneContent}
use Rattle.dns_zone.specs.Serving.{zone_after, zone_by_code, zone_by_op}
use Rattle.dns_zone.specs.declared.zone.serials.Serials.{Serials}
use Rattle.dns_zone.specs.declared.zone.serials.Serials.TheVariants.{Kept, Rising}
use Rattle.dns_server.specs.Maintaining.{adds_formatted_data, maintained_as, maintained_by, update_route_by_name, update_route_to}
use Rattle.dns_server.specs.Server.{route_by_code, route_by_name, route_to, zones_by}
use Rattle.dns_server.specs.Zones.{closest}
use Rattle.dns_server.specs.SetTtls.{is_addition, last_ttl, restated, restated_rows, with_one_ttl, with_set_ttl}
use Rattle.dns_server.specs.declared.updates.Updates.TheVariants as may
use Rattle.dns_server.proofs.SetTtlCodeLaws.{all_append, all_mapped}
use Rattle.dns_authority.specs.declared.service.answering.Answering.{Answering}
use Rattle.dns_authority.specs.declared.service.answering.Answering.TheVariants.{Plain, Whole}
use Rattle.dns_authority.specs.service.Answering.{zones_by_op}
use Rattle.dns_durable.specs.Draft.{AreSettledFor, DifferWhereSettled, IsSettledFor, IsSettledForOne, Settled, place_of}
use Rattle.dns_durable.specs.Reply.{AnswersAll, makes_change, zones_left}
use Rattle.dns_durable.specs.Reply.AnswersAll.{no_request, a_request}
use Rattle.dns_durable.specs.Rule.{step_of}
use Rattle.dns_durable.specs.declared.incoming.Arrived.{Arrived}
use Rattle.dns_durable.specs.declared.incoming.Arrived.TheVariants.{Request, Other}
use Rattle.dns_durable.specs.declared.policy.Policy.{Policy}
use Rattle.dns_durable.proofs.AnsweringLaws.{left_by_one}
use Rattle.dns_durable.proofs.TouchLaws.{AreOfType, changed_of_type, changed_where_settled, put_elsewhere, put_of_type, set_of_type, typed_found}

module _ (settled : Settled) (before : Rows) (origin : DomainName) where
  -- a zone that once had other rows, which differ where places are settled alone
  pub record IsLater (zone : ZoneContent) : Type 0 where
    pub origin_is : zone.origin ≡ origin
    pub differs : DifferWhereSettled settled before zone.rows
    pub typed : AreOfType zone.rows

  -- ---- one update of one zone

  later_by_code : (zone : ZoneContent) (m : Message) (code : ResponseCode) → AllByRecursion (IsSettledFor settled before) m.authorities → IsLater zone → IsLater (zone_by_code zone m code)
  later_by_code zone m NoError all later = record {
    origin_is = later.origin_is;
    differs = changed_where_settled settled before zone.origin zone.rows m.authorities all later.differs;
    typed = changed_of_type zone.origin zone.rows m.authorities later.typed;
  }
  later_by_code zone m fault all later = later

  later_by_op : (zone : ZoneContent) (m : Message) (op : OpCode) → AllByRecursion (IsSettledFor settled before) m.authorities → IsLater zone → IsLater (zone_by_op zone m op)
  later_by_op zone m ops.Update all later = later_by_code zone m (update_code zone.origin zone.rows m) all later
  later_by_op zone m other all later = later

  next_type : (d : RData) → data_type (with_next_serial d) ≡ data_type d
  next_type (of.SOA soa) = refl
  next_type other = refl

  later_raised : (old new : ZoneContent) → settled (place_of (key origin.labels types.SOA)) ≡ true → IsLater old → IsLater new → IsLater (raised old new)
  later_raised old new start before_it after_it = by (start_rows old) refl
    where
      q : Key
      q = start_key old

      here : settled (place_of q) ≡ true
      here = ap (λ (o : DomainName). settled (place_of (key o.labels types.SOA))) before_it.origin_is ∙ start

      typed : AllByRecursion (λ (row : Row). type_number (data_type row.rdata) ≡ q.1) (start_rows old)
      typed = typed_found (rows_map.get old.rows q) q.1 (before_it.typed q)

      by : (rows : List Row) → start_rows old ≡ rows → IsLater (record new { rows = raised_at new.rows q rows })
      by [] e = after_it
      by (row ∷ more) e =
          let first = subst (λ (l : List Row). AllByRecursion (λ (x : Row). type_number (data_type x.rdata) ≡ q.1) l) e typed in
          record {
            origin_is = after_it.origin_is;
            differs = put_elsewhere settled before new.rows q (raised_row row ∷ []) here after_it.differs;
            typed = put_of_type new.rows q (raised_row row ∷ []) (ap type_number (next_type row.rdata) ∙ first.0, tt) after_it.typed;
          }

  later_risen : (b : Bool) (old new : ZoneContent) → settled (place_of (key origin.labels types.SOA)) ≡ true → IsLater old → IsLater new → IsLater (if b then raised old new else new)
  later_risen true old new start one other = later_raised old new start one other
  later_risen false old new start one other = other

  later_maintained : (serials : Serials) (zone : ZoneContent) (m : Message) → settled (place_of (key origin.labels types.SOA)) ≡ true
      → AllByRecursion (IsSettledFor settled before) m.authorities → IsLater zone → IsLater (maintained serials zone m)
  later_maintained Kept zone m start all later = later_by_code zone m (update_code zone.origin zone.rows m) all later
  later_maintained Rising zone m start all later =
      later_risen (is_due zone (zone_with zone m)) zone (zone_with zone m) start later (later_by_code zone m (update_code zone.origin zone.rows m) all later)

  -- ---- updates that are completed

  restated_settled : (r : Record) (rows : List Row) → IsSettledFor settled before r → AllByRecursion (λ (row : Row). type_number (data_type row.rdata) ≡ type_number (type_of_record r)) rows
      → AllByRecursion (λ (row : Row). IsSettledFor settled before (record_of r.name (record row { ttl = r.ttl }))) rows
  restated_settled r [] is all = tt
  restated_settled r (row ∷ rows) is all = (
    record {
      own = ap (λ (n : ℕ). settled (place_of (lower r.name.labels, n))) all.0 ∙ is.own;
      of_owner = λ e. absurd (cc);
    },
    restated_settled r rows is all.1,
  )

  all_restated : (zone : ZoneContent) (records : List Record) → IsLater zone → AllByRecursion (IsSettledFor settled before) records
      → AllByRecursion (IsSettledFor settled before) (restated zone.rows records)
  all_restated zone [] later all = tt
  all_restated zone (r ∷ more) later all =
      all_append (IsSettledFor settled before) (restated zone.rows more) (cond (is_addition r && is_none (last_ttl more r)) (restated_rows r (set_of zone.rows r)) [])
      (all_restated zone more later all.1) (by (is_addition r && is_none (last_ttl more r)))
    where
      by : (b : Bool) → AllByRecursion (IsSettledFor settled before) (cond b (restated_rows r (set_of zone.rows r)) [])
      by true =
          all_mapped (IsSettledFor settled before) (λ (row : Row). record_of r.name (record row { ttl = r.ttl })) (λ (row : Row). not (row.ttl == r.ttl)) (set_of zone.rows r)
          (restated_settled r (set_of zone.rows r) all.0 (set_of_type zone.rows r later.typed))
      by false = tt

  all_with_ttl : (updates records : List Record) → AllByRecursion (IsSettledFor settled before) records → AllByRecursion (IsSettledFor settled before) (map (with_set_ttl updates) records)
  all_with_ttl updates [] all = tt
  all_with_ttl updates (r ∷ more) all = (record { own = all.0.own; of_owner = all.0.of_owner }, all_with_ttl updates more all.1)

  all_completed : (zone : ZoneContent) (m : Message) → IsLater zone → AllByRecursion (IsSettledFor settled before) m.authorities
      → AllByRecursion (IsSettledFor settled before) (with_one_ttl zone.rows m).authorities
  all_completed zone m later all =
      all_append (IsSettledFor settled before) (restated zone.rows m.authorities) (map (with_set_ttl m.authorities) m.authorities)
      (all_restated zone m.authorities later all) (all_with_ttl m.authorities m.authorities all)

  -- ---- the only zone of a server

  -- there is one zone, and it is later
  pub record AreLater (zones : List ZoneContent) : Type 0 where
    pub zone : ZoneContent
    pub zones_are : zones ≡ zone ∷ []
    pub later : IsLater zone

  only_later : (zone : ZoneContent) → IsLater zone → AreLater (zone ∷ [])
  only_later zone later = record { zone = zone; zones_are = refl; later = later }

  plain_to : (o : Option ℕ) (zone : ZoneContent) (m : Message) → AllByRecursion (IsSettledFor settled before) m.authorities → IsLater zone → AreLater (zones_by (zone ∷ []) m (route_to o))
  plain_to (Some zero) zone m all later = only_later (zone_after zone m) (later_by_op zone m m.metadata.op_code all later)
  plain_to (Some (suc n)) zone m all later = only_later zone later
  plain_to None zone m all later = only_later zone later

  plain_name : (queries : List Query) (zone : ZoneContent) (m : Message) → AllByRecursion (IsSettledFor settled before) m.authorities → IsLater zone
      → AreLater (zones_by (zone ∷ []) m (route_by_name (zone ∷ []) queries))
  plain_name [] zone m all later = only_later zone later
  plain_name (q ∷ []) zone m all later = plain_to (closest (zone ∷ []) q.name.labels) zone m all later
  plain_name (q ∷ r ∷ queries) zone m all later = only_later zone later

  plain_code : (op : OpCode) (zone : ZoneContent) (m : Message) → AllByRecursion (IsSettledFor settled before) m.authorities → IsLater zone
      → AreLater (zones_by (zone ∷ []) m (route_by_code may.Allowed (zone ∷ []) m.queries op))
  plain_code ops.Query zone m all later = plain_name m.queries zone m all later
  plain_code ops.Update zone m all later = plain_name m.queries zone m all later
  plain_code other zone m all later = only_later zone later

  whole_to : (o : Option ℕ) (serials : Serials) (zone : ZoneContent) (m : Message) → settled (place_of (key origin.labels types.SOA)) ≡ true
      → AllByRecursion (IsSettledFor settled before) m.authorities → IsLater zone → AreLater (maintained_by serials (zone ∷ []) m (update_route_to o))
  whole_to (Some zero) serials zone m start all later =
      only_later (maintained_as serials zone m) (later_maintained serials zone (with_one_ttl zone.rows m) start (all_completed zone m later all) later)
  whole_to (Some (suc n)) serials zone m start all later = only_later zone later
  whole_to None serials zone m start all later = only_later zone later

  whole_name : (queries : List Query) (serials : Serials) (zone : ZoneContent) (m : Message) → settled (place_of (key origin.labels types.SOA)) ≡ true
      → AllByRecursion (IsSettledFor settled before) m.authorities → IsLater zone → AreLater (maintained_by serials (zone ∷ []) m (update_route_by_name (zone ∷ []) queries))
  whole_name [] serials zone m start all later = only_later zone later
  whole_name (q ∷ []) serials zone m start all later = whole_to (closest (zone ∷ []) q.name.labels) serials zone m start all later
  whole_name (q ∷ r ∷ queries) serials zone m start all later = only_later zone later

  -- malformed data is answered as a request without a question is
  whole_if : (b : Bool) (serials : Serials) (zone : ZoneContent) (m : Message) → settled (place_of (key origin.labels types.SOA)) ≡ true
      → AllByRecursion (IsSettledFor settled before) m.authorities → IsLater zone
      → AreLater (maintained_by serials (zone ∷ []) m (if b then update_route_by_name (zone ∷ []) m.queries else update_route_by_name (zone ∷ []) []))
  whole_if true serials zone m start all later = whole_name m.queries serials zone m start all later
  whole_if false serials zone m start all later = whole_name [] serials zone m start all later

  whole_by_op : (op : OpCode) (serials : Serials) (zone : ZoneContent) (m : Message) → settled (place_of (key origin.labels types.SOA)) ≡ true
      → AllByRecursion (IsSettledFor settled before) m.authorities → IsLater zone → AreLater (zones_by_op serials may.Allowed op (zone ∷ []) m)
  whole_by_op ops.Update serials zone m start all later = whole_if (adds_formatted_data m) serials zone m start all later
  whole_by_op other serials zone m start all later = only_later zone later

  step_later : (answering : Answering) (zone : ZoneContent) (m : Message) → settled (place_of (key origin.labels types.SOA)) ≡ true
      → AllByRecursion (IsSettledFor settled before) m.authorities → IsLater zone → AreLater (step_of answering (zone ∷ []) m)
  step_later Plain zone m start all later = plain_code m.metadata.op_code zone m all later
  step_later (Whole any serials) zone m start all later = whole_by_op m.metadata.op_code serials zone m start all later

  -- ---- requests, one after another

  left_later : (answering : Answering) (zone : ZoneContent) (a : Arrived) → settled (place_of (key origin.labels types.SOA)) ≡ true
      → IsSettledForOne settled before a → IsLater zone → AreLater (zones_left answering true (zone ∷ []) a)
  left_later answering zone (Request a) start is later = by (makes_change a) refl
    where
      by : (b : Bool) → makes_change a ≡ b → AreLater (if b then step_of answering (zone ∷ []) a.message else zone ∷ [])
      by true e = step_later answering zone a.message start (is e) later
      by false e = only_later zone later
  left_later answering zone (Other bytes) start is later = only_later zone later

  pub answers_later : (policy : Policy) (zones after : List ZoneContent) (admitted : List Arrived) (replies : List (Option (List ℕ))) → settled (place_of (key origin.labels types.SOA)) ≡ true
      → AreSettledFor settled before admitted → AreLater zones → AnswersAll policy true zones admitted replies after → AreLater after
  answers_later policy zones after admitted replies start all are no_request = are
  answers_later policy zones after admitted replies start all are (a_request {mid = mid} {a = a} {more = more} {reply = reply} {replies = others} one answers) =
      let mid_is : mid ≡ zones_left policy.answering true (are.zone ∷ []) a =
      left_by_one policy true zones mid a reply one ∙ ap (λ (z : List ZoneContent). zones_left policy.answering true z a) are.zones_are in
      answers_later policy mid after more others start all.1
      (subst (λ (z : List ZoneContent). AreLater z) (sym mid_is) (left_later policy.answering are.zone a start all.0 are.later)) answers
