-- A zone whose serial number rises by itself, from 4,294,967,295 to 0: an update adds a TXT record at its origin.
use Rattle.std.proofs.Common.{◌≡◌, ◌∙◌, arith, Bool, true, false, cond, not, ◌&&◌, ◌||◌, List, [], ◌∷◌, length, refl, sym, ap, subst, Option, Some, None, is_some, unwrap_or}
use Rattle.std.specs.FinMap as rows_map
use Rattle.std.specs.List.{IsDistinct}
use Rattle.std.specs.Ordering.{eq_by_cmp}
use Rattle.std.specs.Prelude.{IfSome}
use Rattle.dns_wire.specs.declared.codes.dns_class.DNSClass.TheVariants.{IN}
use Rattle.dns_wire.specs.declared.codes.record_type.RecordType.TheVariants as types
use Rattle.dns_data.specs.declared.rdata.RData.TheVariants as of
use Rattle.dns_differences.specs.Difference.{has_row, in_zone}
use Rattle.dns_messages.specs.Header.{new_metadata}
use Rattle.dns_messages.specs.Message.{empty_message}
use Rattle.dns_messages.specs.Sound.{IsSound}
use Rattle.dns_messages.specs.declared.message.Message.{Message}
use Rattle.dns_messages.specs.declared.message_type.MessageType.TheVariants as kinds
use Rattle.dns_messages.specs.declared.op_code.OpCode.TheVariants as ops
use Rattle.dns_messages.specs.declared.response_code.ResponseCode.TheVariants.{NoError}
use Rattle.dns_names.specs.Name.{DomainName}
use Rattle.dns_records.specs.Record.{Record}
use Rattle.dns_records.specs.Rows.{Key, Rows, key_cmp, key_of, row_of, set_of, with_set}
use Rattle.dns_records.specs.declared.row.Row.{Row}
use Rattle.dns_updates.specs.Change.{update_change, with_row}
use Rattle.dns_updates.specs.Code.{update_code}
use Rattle.dns_zone.specs.Changed.{has_changed_at}
use Rattle.dns_zone.specs.Maintained.{is_due, maintained, zone_with}
use Rattle.dns_zone.specs.Rows.{ZoneContent, AreRowsAt, IsSoundRow, IsZone}
use Rattle.dns_zone.specs.Serving.{zone_by_code}
use Rattle.dns_zone.specs.ZoneSerial.{rows_serial, zone_serial}
use Rattle.dns_zone.specs.declared.zone.serials.Serials.TheVariants.{Rising}
use Rattle.dns_zone.proofs.ChangedLaws.{changed_where_gained, is_lost, same_rows}
use Rattle.dns_zone.proofs.RisingLaws.{serial_rises}
use Rattle.dns_zone.proofs.RowLaws.{key_total}
use Rattle.dns_differences.proofs.RecordLaws.{same_key}

-- ---- the zone

abbrev root : DomainName
root = record { is_fqdn = true; labels = [] }

abbrev start : Row
start = record {
  ttl = 60;
  rdata = of.SOA (record { mname = root; rname = root; serial = 4294967295; refresh = 4; retry = 3; expire = 2; minimum = 1 });
}

abbrev start_key : Key
start_key = ([], 6)

abbrev zone : ZoneContent
zone = record { origin = root; rows = rows_map.insert rows_map.empty start_key (start ∷ []) }

got : (k : Key) → rows_map.get zone.rows k ≡ cond (eq_by_cmp key_cmp k start_key) (Some (start ∷ [])) None
got k = rows_map.get-insert key_total rows_map.empty start_key (start ∷ []) k ∙ ap (cond (eq_by_cmp key_cmp k start_key) (Some (start ∷ []))) (rows_map.get-empty key_cmp k)

start_sound : IsSoundRow start
start_sound = record {
  ttl_fits = omega arith;
  rdata = record {
    sound = record {
      values = (refl, (refl, (omega arith, (omega arith, (omega arith, (omega arith, (omega arith, tt)))))));
      fields = refl;
      type_fits = omega arith;
      type_named = refl;
      fits = omega arith;
    };
    not_opt = refl;
    not_tsig = refl;
    has_data = refl;
  };
}

start_rows : AreRowsAt zone.origin start_key (start ∷ [])
unfolding IsDistinct
start_rows = record {
  inside = refl;
  filled = omega arith;
  sound = (start_sound, tt);
  of_type = (refl, tt);
  distinct = (tt, tt);
  single = λ e. refl;
  soa_at_origin = λ e. refl;
}

is_zone : IsZone zone
is_zone = record {
  origin_fqdn = refl;
  soa = ap (λ (o : Option (List Row)). length (unwrap_or o [])) (got ([], 6));
  rows = λ k. subst (λ (o : Option (List Row)). IfSome o (AreRowsAt zone.origin k)) (sym (got k)) (by k (eq_by_cmp key_cmp k start_key) refl);
}
  where
    by : (k : Key) (b : Bool) → eq_by_cmp key_cmp k start_key ≡ b → IfSome (cond b (Some (start ∷ [])) None) (AreRowsAt zone.origin k)
    by k true e = subst (λ (q : Key). AreRowsAt zone.origin q (start ∷ [])) (sym (same_key k start_key e)) start_rows
    by k false e = tt

-- ---- the update

abbrev address : Record
address = record { name = root; dns_class = IN; ttl = 60; rdata = of.TXT ((97 ∷ []) ∷ []) }

abbrev update : Message
update = record (empty_message (new_metadata 0 kinds.Query ops.Update)) {
  queries = record { name = root; query_type = types.SOA; query_class = IN } ∷ [];
  authorities = address ∷ [];
}

update_sound : IsSound update
update_sound = record {
  metadata = record { id_fits = omega arith; op_fits = omega arith; op_named = refl; code_fits = omega arith; code_named = refl };
  queries = (record { fqdn = refl; type_fits = omega arith; type_named = refl; class_fits = omega arith; class_named = refl }, tt);
  answers = tt;
  authorities = (
    record {
      sound = record {
        fqdn = refl;
        class_fits = omega arith;
        class_named = refl;
        ttl_fits = omega arith;
        rdata = record { values = ((λ e. absurd (cc), (omega arith, tt)), tt); fields = refl; type_fits = omega arith; type_named = refl; fits = omega arith };
      };
      not_opt = refl;
      not_signature = refl;
      has_data = refl;
    },
    tt,
  );
  additionals = tt;
  edns = tt;
  extended = omega arith;
  signature = tt;
}

accepted : update_code zone.origin zone.rows update ≡ NoError
accepted = refl

-- ---- the zone after it

abbrev added : Rows
added = with_set zone.rows (key_of address) (row_of address ∷ [])

changed : update_change zone.origin zone.rows update ≡ added
changed =
    ap (λ (o : Option (List Row)). cond (is_some o || false) zone.rows (with_set zone.rows (key_of address) (with_row (set_of zone.rows address) (row_of address)))) (got ([], 5))
    ∙ ap (λ (o : Option (List Row)). with_set zone.rows (key_of address) (with_row (unwrap_or o []) (row_of address))) (got ([], 16))

after_is : zone_with zone update ≡ record { origin = zone.origin; rows = added }
after_is = ap (zone_by_code zone update) accepted ∙ ap (λ (rows : Rows). record { origin = zone.origin; rows = rows }) changed

-- ---- what has changed

added_at : (k : Key) → rows_map.get added k ≡ cond (eq_by_cmp key_cmp k (key_of address)) (Some (row_of address ∷ [])) (rows_map.get zone.rows k)
added_at k = rows_map.get-insert {X = List Row} key_total zone.rows (key_of address) (row_of address ∷ []) k

gained : is_lost added zone.rows address ≡ true
gained =
    ap (λ (o : Option (List Row)). has_row (unwrap_or o []) (row_of address) && not (in_zone zone.rows address)) (added_at (key_of address))
    ∙ ap (λ (o : Option (List Row)). not (has_row (unwrap_or o []) (row_of address))) (got (key_of address))

start_same : has_changed_at zone.rows added ([], 6) ≡ false
start_same = same_rows zone.rows added ([], 6) (sym (added_at ([], 6)))

is_due_then : is_due zone (zone_with zone update) ≡ true
is_due_then =
    ap (is_due zone) after_is
    ∙ (λ i. changed_where_gained zone.rows added address gained i && not (start_same i))

-- the premises of the law hold of this zone and this update
pub rises_here : zone_serial (maintained Rising zone update) ≡ Some 0
rises_here = serial_rises zone update 4294967295 is_due_then (ap (λ (o : Option (List Row)). rows_serial (unwrap_or o [])) (got ([], 6)))
