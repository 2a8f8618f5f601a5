-- What is sent can be encoded and decoded again.
use Rattle.std.proofs.Common.{◌≡◌, ◌==◌, ◌<◌, ◌≤◌, ◌^◌, ◌-◌, ◌&&◌, not, Bool, true, false, cond, ℕ, zero, suc, List, [], ◌∷◌, ◌++◌, map, length, take, drop, get_or, refl, sym, subst, ap, ◌∙◌, arith, length-append, Option, Some, None, Result, Ok, Err}
use Rattle.std.specs.Prelude.{IfSome, nat_lt, slice_get, unwrap_or}
use Rattle.std.specs.FinMap as rows_map
use Rattle.std.specs.List.{AllByRecursion, Contains, find, range_with_len}
use Rattle.std.specs.Option.{option_or}
use Rattle.std.proofs.lemmas.Bool.{ltb-false}
use Rattle.dns_wire.specs.Encodable.{whole_form}
use Rattle.dns_wire.specs.Name.{max_name_len, name_len}
use Rattle.dns_wire.specs.codes.DNSClass.{class_number}
use Rattle.dns_wire.specs.declared.codes.dns_class.DNSClass.TheVariants.{IN}
use Rattle.dns_wire.specs.declared.codes.record_type.RecordType.{RecordType}
use Rattle.dns_wire.specs.declared.codes.record_type.RecordType.TheVariants as types
use Rattle.dns_wire.proofs.NameLaws.{length-whole_form}
use Rattle.dns_names.specs.Build.{append_label, append_labels, append_name, base_name, root_name, trim_to}
use Rattle.dns_names.specs.Label.{label_of_bytes}
use Rattle.dns_names.specs.Name.{DomainName}
use Rattle.dns_names.specs.declared.error.ParseError.{ParseError}
use Rattle.dns_names.specs.declared.error.ParseError.TheVariants.{DomainNameTooLong}
use Rattle.dns_data.specs.declared.rdata.RData.{RData}
use Rattle.dns_data.specs.declared.rdata.RData.TheVariants as of
use Rattle.dns_data.specs.rdata.{data_type, is_update_data, whole_len, IsSoundData}
use Rattle.dns_messages.specs.declared.edns.Edns.{Edns}
use Rattle.dns_messages.specs.declared.message.Message.{Message}
use Rattle.dns_messages.specs.declared.op_code.OpCode.{OpCode}
use Rattle.dns_messages.specs.declared.op_code.OpCode.TheVariants as ops
use Rattle.dns_messages.specs.declared.query.Query.{Query}
use Rattle.dns_messages.specs.declared.response_code.ResponseCode.{ResponseCode}
use Rattle.dns_messages.specs.declared.response_code.ResponseCode.TheVariants.{BADVERS, NotImp, Refused}
use Rattle.dns_messages.specs.Edns.{IsSoundEdns}
use Rattle.dns_messages.specs.Encoding.{Encodes}
use Rattle.dns_messages.specs.Grammar.{ReadsMessage}
use Rattle.dns_messages.specs.Header.{code_number, code_of}
use Rattle.dns_messages.specs.Message.{version_of}
use Rattle.dns_messages.specs.Section.{is_opt_type}
use Rattle.dns_messages.specs.Sound.{IsExtendedBy, IsSound, IsSoundIn, IsSoundQuery, is_update_code}
use Rattle.dns_records.specs.Record.{Record}
use Rattle.dns_records.specs.RecordHead.{class_for}
use Rattle.dns_records.specs.declared.row.Row.{Row}
use Rattle.dns_zone.specs.Answer.{authority_row, max_aliases, negative_ttl, record_of}
use Rattle.dns_zone.specs.Request.{repeated_by_code}
use Rattle.dns_zone.specs.Rows.{AreRowsAt, AreSoundRows, IsSoundRow, IsSoundRowData, IsZone, Key, ZoneContent, key, rows_at}
use Rattle.dns_server.specs.Zones.{closest}
use Rattle.dns_authority.specs.declared.answer.AuthorityAnswer.{AuthorityAnswer}
use Rattle.dns_authority.specs.declared.asked.AnyAnswer.{AnyAnswer}
use Rattle.dns_authority.specs.declared.asked.Asked.{Asked}
use Rattle.dns_authority.specs.declared.step.Step.{Step}
use Rattle.dns_authority.specs.declared.step.Step.TheVariants.{End, Links}
use Rattle.dns_authority.specs.Additional.{host_of}
use Rattle.dns_authority.specs.Answer.{after_records, after_step, answer_at, bare_answer, is_unanswered, rest_at}
use Rattle.dns_authority.specs.Asked.{asked_rows}
use Rattle.dns_authority.specs.Origin.{ComesFrom, IsAdditionalRecord, IsAnswerRecord, IsAuthorityRecord, IsReached}
use Rattle.dns_authority.specs.Origin.IsReached.{by_alias, is_asked}
use Rattle.dns_authority.specs.Origin.IsAnswerRecord.{redirected as redirected_alias, redirects, stored}
use Rattle.dns_authority.specs.Origin.IsAuthorityRecord.{delegates, soa}
use Rattle.dns_authority.specs.Origin.IsAdditionalRecord.{address, glue}
use Rattle.dns_authority.specs.Step.{alias_target, closest_zone, positive, redirect, redirected, referral, refusal, step, step_at, step_below, step_by, step_in, step_over, step_to, step_with, zone_at, zone_for}
use Rattle.dns_authority.specs.replies.Reply.{answer_to, bare_answer_by_code, bare_answer_to_queries, edns_with, reply}
use Rattle.dns_authority.specs.replies.Sending.{sent}
use Rattle.dns_authority.specs.sent.Sent.{IsReplyWith}
use Rattle.dns_authority.specs.steps.Barrier.{barrier, barrier_above, cut_at, is_barrier, is_cut, is_ds}
use Rattle.dns_authority.specs.steps.Redirection.{after_label, dname_target, if_made, name_along, split_label, with_label, with_part}
use Rattle.dns_authority.specs.steps.Wildcard.{answering_name}
use Rattle.dns_authority.proofs.SentLaws.{AnswerComes, IsPart, all, all_taken, answer_comes, bare, cut_short, decoded_reply, fewer, sent_part}

-- ---- lists

module _ {X : Type 0} (P Q : X → Type 0) where
  all_weaker : ((x : X) → P x → Q x) → (xs : List X) → AllByRecursion P xs → AllByRecursion Q xs
  all_weaker weaker [] h = tt
  all_weaker weaker (x ∷ xs) h = (weaker x h.0, all_weaker weaker xs h.1)

module _ {X : Type 0} (P : X → Type 0) where
  all_at : (xs : List X) (i : ℕ) (d x : X) → AllByRecursion P xs → i < length xs → get_or xs i d ≡ x → P x
  all_at [] i d x h within e = absurd (omega (arith, within))
  all_at (y ∷ ys) zero d x h within e = subst P e h.0
  all_at (y ∷ ys) (suc i) d x h within e = all_at ys i d x h.1 (omega (arith, within)) e

  all_contained : (xs : List X) (x : X) → AllByRecursion P xs → Contains xs x → P x
  all_contained xs x h there = all_at xs there.0 x x h there.1 there.2

  all_found : (xs : List X) (i : ℕ) (x : X) → AllByRecursion P xs → slice_get xs i ≡ Some x → P x
  all_found [] i x h e = absurd (cc)
  all_found (y ∷ ys) zero x h e = let same : y ≡ x = cc in subst P same h.0
  all_found (y ∷ ys) (suc i) x h e = all_found ys i x h.1 e

-- ---- names that are made of others

-- a name with labels appended has the flag of the name, and fits
module _ (name : DomainName) (labels : List (List ℕ)) (made : DomainName) where
  appended : append_labels name labels ≡ Ok made → (made.is_fqdn ≡ name.is_fqdn) × (name_len made.labels ≤ 255)
  appended e = by (nat_lt max_name_len (name_len (name.labels ++ labels))) refl e
    where
      by : (b : Bool) → nat_lt 255 (name_len (name.labels ++ labels)) ≡ b
          → cond b (Err DomainNameTooLong) (Ok (record name { labels = name.labels ++ labels })) ≡ Ok made → (made.is_fqdn ≡ name.is_fqdn) × (name_len made.labels ≤ 255)
      by true is e = absurd (cc)
      by false is e =
          let same : record name { labels = name.labels ++ labels } ≡ made = cc in
          (sym (ap (λ (n : DomainName). n.is_fqdn) same), subst (λ (n : DomainName). name_len n.labels ≤ 255) same (ltb-false 255 (name_len (name.labels ++ labels)) is))

label_appended : (name : DomainName) (label : Result (List ℕ) ParseError) (made : DomainName) → append_label name label ≡ Ok made → made.is_fqdn ≡ name.is_fqdn
label_appended name (Ok label) made e = (appended name (label ∷ []) made e).0
label_appended name (Err error) made e = absurd (cc)

-- the names that bytes encode after a name have its flag
module _ (rest_of : DomainName → List ℕ → Option DomainName) (made : DomainName)
    (more : (next : DomainName) (rest : List ℕ) → next.is_fqdn ≡ true → rest_of next rest ≡ Some made → made.is_fqdn ≡ true) where
  longer_fqdn : (rest : List ℕ) (longer : Result DomainName ParseError) → ((next : DomainName) → longer ≡ Ok next → next.is_fqdn ≡ true)
      → after_label rest_of rest longer ≡ Some made → made.is_fqdn ≡ true
  longer_fqdn rest (Ok next) is e = more next rest (is next refl) e
  longer_fqdn rest (Err error) is e = absurd (cc)

  label_fqdn : (name : DomainName) (label rest : List ℕ) → name.is_fqdn ≡ true → with_label rest_of name label rest ≡ Some made → made.is_fqdn ≡ true
  label_fqdn name [] [] f e = let same : name ≡ made = cc in subst (λ (n : DomainName). n.is_fqdn ≡ true) same f
  label_fqdn name [] (byte ∷ rest) f e = absurd (cc)
  label_fqdn name (octet ∷ label) rest f e =
      longer_fqdn rest (append_label name (label_of_bytes (octet ∷ label))) (λ next is. label_appended name (label_of_bytes (octet ∷ label)) next is ∙ f) e

  part_fqdn : (name : DomainName) (part : Option (List ℕ × List ℕ)) → name.is_fqdn ≡ true → with_part rest_of name part ≡ Some made → made.is_fqdn ≡ true
  part_fqdn name None f e = absurd (cc)
  part_fqdn name (Some part) f e = label_fqdn name part.0 part.1 f e

along_fqdn : (count : ℕ) (made name : DomainName) (bytes : List ℕ) → name.is_fqdn ≡ true → name_along count name bytes ≡ Some made → made.is_fqdn ≡ true
unfolding name_along
along_fqdn zero made name bytes f e = absurd (cc)
along_fqdn (suc count) made name bytes f e = part_fqdn (name_along count) made (along_fqdn count made) name (split_label bytes) f e

target_fqdn : (d : RData) (target : DomainName) → dname_target d ≡ Some target → target.is_fqdn ≡ true
target_fqdn (of.Unknown code bytes) target e = along_fqdn 128 target root_name bytes refl e
target_fqdn other target e = absurd (cc)

-- the name that a DNAME record makes
redirect_made : (owner at target made : DomainName) → redirect owner at target ≡ Some made → (made.is_fqdn ≡ target.is_fqdn) × (name_len made.labels ≤ 255)
redirect_made owner at target made e = by (append_name kept target) refl e
  where
    kept : DomainName
    kept = record { is_fqdn = false; labels = take (length owner.labels - length at.labels) owner.labels }

    by : (outcome : Result DomainName ParseError) → append_name kept target ≡ outcome → if_made outcome ≡ Some made → (made.is_fqdn ≡ target.is_fqdn) × (name_len made.labels ≤ 255)
    by (Ok name) is e =
        let same : name ≡ made = cc in
        subst (λ (n : DomainName). (n.is_fqdn ≡ target.is_fqdn) × (name_len n.labels ≤ 255)) same (appended (record kept { is_fqdn = target.is_fqdn }) target.labels name is)
    by (Err error) is e = absurd (cc)

-- a barrier is the name or a name above it
trim_fqdn : (name : DomainName) (count : ℕ) → name.is_fqdn ≡ true → (trim_to name count).is_fqdn ≡ true
trim_fqdn name count f = by (nat_lt (length name.labels) count)
  where
    by : (b : Bool) → (cond b name (record { is_fqdn = true; labels = drop (length name.labels - count) name.labels })).is_fqdn ≡ true
    by true = f
    by false = refl

found_fqdn : (b : Bool) (x : DomainName) (rest : Option DomainName) (at : DomainName) → x.is_fqdn ≡ true → (rest ≡ Some at → at.is_fqdn ≡ true) → cond b (Some x) rest ≡ Some at → at.is_fqdn ≡ true
found_fqdn true x rest at f more e = let same : x ≡ at = cc in subst (λ (m : DomainName). m.is_fqdn ≡ true) same f
found_fqdn false x rest at f more e = more e

find_fqdn : (p : DomainName → Bool) (name : DomainName) (counts : List ℕ) (at : DomainName) → name.is_fqdn ≡ true → find p (map (trim_to name) counts) ≡ Some at → at.is_fqdn ≡ true
find_fqdn p name [] at f e = absurd (cc)
find_fqdn p name (n ∷ counts) at f e =
    found_fqdn (p (trim_to name n)) (trim_to name n) (find p (map (trim_to name) counts)) at (trim_fqdn name n f) (λ later. find_fqdn p name counts at f later) e

barrier_fqdn : (zone : ZoneContent) (t : RecordType) (name at : DomainName) → name.is_fqdn ≡ true → barrier zone t name ≡ Some at → at.is_fqdn ≡ true
barrier_fqdn zone t name at f e = by (barrier_above zone name) refl e
  where
    by_cut : (b : Bool) → cond b (Some name) None ≡ Some at → at.is_fqdn ≡ true
    by_cut true e = let same : name ≡ at = cc in subst (λ (m : DomainName). m.is_fqdn ≡ true) same f
    by_cut false e = absurd (cc)

    by : (above : Option DomainName) → barrier_above zone name ≡ above → option_or above (cut_at zone t name) ≡ Some at → at.is_fqdn ≡ true
    by (Some x) is e =
        let same : x ≡ at = cc in
        subst (λ (m : DomainName). m.is_fqdn ≡ true) same (find_fqdn (is_barrier zone) name (range_with_len (length zone.origin.labels) (length name.labels - length zone.origin.labels)) x f is)
    by None is e = by_cut (is_cut zone name && not (is_ds t)) e

-- ---- rows

module _ (zones : List ZoneContent) (well_formed : AllByRecursion IsZone zones) where
  at_place : (place : Option ℕ) (zone : ZoneContent) → zone_at zones place ≡ Some zone → IsZone zone
  at_place None zone e = absurd (cc)
  at_place (Some place) zone e = all_found IsZone zones place zone well_formed e

  closest_is_zone : (labels : List (List ℕ)) (zone : ZoneContent) → closest_zone zones labels ≡ Some zone → IsZone zone
  closest_is_zone labels zone e = at_place (closest zones labels) zone e

  is_zone_for : (t : RecordType) (owner : DomainName) (zone : ZoneContent) → zone_for zones t owner ≡ Some zone → IsZone zone
  is_zone_for t owner zone e = by (is_ds t) e
    where
      either : (above : Option ZoneContent) → closest_zone zones (base_name owner).labels ≡ above → option_or above (closest_zone zones owner.labels) ≡ Some zone → IsZone zone
      either (Some other) is e = let same : other ≡ zone = cc in subst IsZone same (closest_is_zone (base_name owner).labels other is)
      either None is e = closest_is_zone owner.labels zone e

      by : (b : Bool) → cond b (option_or (closest_zone zones (base_name owner).labels) (closest_zone zones owner.labels)) (closest_zone zones owner.labels) ≡ Some zone → IsZone zone
      by true e = either (closest_zone zones (base_name owner).labels) refl e
      by false e = closest_is_zone owner.labels zone e

sound_rows : (origin : DomainName) (k : Key) (found : Option (List Row)) → IfSome found (AreRowsAt origin k) → AreSoundRows (unwrap_or found [])
sound_rows origin k None h = tt
sound_rows origin k (Some rows) h = h.sound

row_sound : (zone : ZoneContent) (labels : List (List ℕ)) (t : RecordType) (row : Row) → IsZone zone → Contains (rows_at zone.rows labels t) row → IsSoundRow row
row_sound zone labels t row is there =
    all_contained IsSoundRow (rows_at zone.rows labels t) row (sound_rows zone.origin (key labels t) (rows_map.get zone.rows (key labels t)) (is.rows (key labels t))) there

-- ---- records

class_of_row : (t : RecordType) → is_opt_type t ≡ false → class_for t 1 ≡ IN
class_of_row types.OPT e = cc
class_of_row other e = refl

record_sound : (owner : DomainName) (row : Row) → owner.is_fqdn ≡ true → row.ttl < 2 ^ 32 → IsSoundRowData row.rdata → IsSoundIn false (record_of owner row)
record_sound owner row f fits sound = record {
  sound = record {
    fqdn = f;
    class_fits = omega arith;
    class_named = class_of_row (data_type row.rdata) sound.not_opt;
    ttl_fits = fits;
    rdata = sound.sound;
  };
  not_opt = sound.not_opt;
  not_signature = ap (λ (b : Bool). b && not (is_update_data row.rdata)) sound.not_tsig;
  has_data = ap not sound.has_data;
}

-- an alias with a name that fits
alias_sound : (made : DomainName) → made.is_fqdn ≡ true → name_len made.labels ≤ 255 → IsSoundRowData (of.CNAME (record { 0 = made }))
alias_sound made f fits =
    let len : whole_len (of.CNAME (record { 0 = made })) ≡ length (whole_form made.labels ++ []) = refl in
    record {
      sound = record {
        values = (f, tt);
        fields = refl;
        type_fits = omega arith;
        type_named = refl;
        fits = omega (arith, len, length-append (whole_form made.labels) [], length-whole_form made.labels, fits);
      };
      not_opt = refl;
      not_tsig = refl;
      has_data = refl;
    }

lowered_fits : (ttl : ℕ) (d : RData) → ttl < 2 ^ 32 → negative_ttl ttl d < 2 ^ 32
lowered_fits ttl (of.SOA start) h = omega arith
lowered_fits ttl other h = h

alias_fqdn : (d : RData) (target : DomainName) → IsSoundData d → alias_target d ≡ Some target → target.is_fqdn ≡ true
alias_fqdn (of.CNAME cname) target sound e = let same : cname.0 ≡ target = cc in subst (λ (m : DomainName). m.is_fqdn ≡ true) same sound.values.0
alias_fqdn other target sound e = absurd (cc)

host_fqdn : (d : RData) (host : DomainName) → IsSoundData d → host_of d ≡ Some host → host.is_fqdn ≡ true
host_fqdn (of.NS ns) host sound e = let same : ns.0 ≡ host = cc in subst (λ (m : DomainName). m.is_fqdn ≡ true) same sound.values.0
host_fqdn (of.MX mx) host sound e = let same : mx.exchange ≡ host = cc in subst (λ (m : DomainName). m.is_fqdn ≡ true) same sound.values.1.0
host_fqdn (of.SRV srv) host sound e = let same : srv.target ≡ host = cc in subst (λ (m : DomainName). m.is_fqdn ≡ true) same sound.values.1.1.1.0
host_fqdn other host sound e = absurd (cc)

-- ---- the records of an answer

module _ (zones : List ZoneContent) (well_formed : AllByRecursion IsZone zones) (q : Query) (q_fqdn : q.name.is_fqdn ≡ true) (answers : List Record)
    (from : AllByRecursion (IsAnswerRecord zones q answers) answers) where
  stored_row : (owner : DomainName) (zone : ZoneContent) (labels : List (List ℕ)) (t : RecordType) (row : Row) → zone_for zones q.query_type owner ≡ Some zone
      → Contains (rows_at zone.rows labels t) row → IsSoundRow row
  stored_row owner zone labels t row is there = row_sound zone labels t row (is_zone_for zones well_formed q.query_type owner zone is) there

  answer_data : (r : Record) → IsAnswerRecord zones q answers r → IsSoundRowData r.rdata
  answer_data _ (stored zone t owner source row reached zone_is free is kind there) = (stored_row owner zone source.labels t row zone_is there).rdata
  answer_data _ (redirects zone owner at row reached zone_is on no_cut there) = (stored_row owner zone at.labels types.DNAME row zone_is there).rdata
  answer_data _ (redirected_alias zone owner at target made row reached zone_is on no_cut there is makes) =
      let is_made = redirect_made owner at target made makes in
      alias_sound made (is_made.0 ∙ target_fqdn row.rdata target is) is_made.1

  reached_fqdn : (name : DomainName) → IsReached q answers name → name.is_fqdn ≡ true
  reached_fqdn _ is_asked = q_fqdn
  reached_fqdn _ (by_alias alias target reached there leads) =
      alias_fqdn alias.rdata target (answer_data alias (all_contained (IsAnswerRecord zones q answers) answers alias from there)).sound leads

  answer_sound : (r : Record) → IsAnswerRecord zones q answers r → IsSoundIn false r
  answer_sound _ (stored zone t owner source row reached zone_is free is kind there) =
      let row_is : IsSoundRow row = stored_row owner zone source.labels t row zone_is there in
      record_sound owner row (reached_fqdn owner reached) row_is.ttl_fits row_is.rdata
  answer_sound _ (redirects zone owner at row reached zone_is on no_cut there) =
      let row_is : IsSoundRow row = stored_row owner zone at.labels types.DNAME row zone_is there in
      record_sound at row (barrier_fqdn zone q.query_type owner at (reached_fqdn owner reached) on) row_is.ttl_fits row_is.rdata
  answer_sound _ (redirected_alias zone owner at target made row reached zone_is on no_cut there is makes) =
      let row_is : IsSoundRow row = stored_row owner zone at.labels types.DNAME row zone_is there in
      let is_made = redirect_made owner at target made makes in
      record_sound owner (record { ttl = row.ttl; rdata = of.CNAME (record { 0 = made }) }) (reached_fqdn owner reached) row_is.ttl_fits
      (alias_sound made (is_made.0 ∙ target_fqdn row.rdata target is) is_made.1)

  authority_sound : (r : Record) → IsAuthorityRecord zones q answers r → IsSoundIn false r
  authority_sound _ (soa zone owner row reached zone_is there) =
      let row_is : IsSoundRow row = stored_row owner zone zone.origin.labels types.SOA row zone_is there in
      record_sound zone.origin (authority_row row) (is_zone_for zones well_formed q.query_type owner zone zone_is).origin_fqdn (lowered_fits row.ttl row.rdata row_is.ttl_fits) row_is.rdata
  authority_sound _ (delegates zone owner cut row reached zone_is on is there) =
      let row_is : IsSoundRow row = stored_row owner zone cut.labels types.NS row zone_is there in
      record_sound cut row (barrier_fqdn zone q.query_type owner cut (reached_fqdn owner reached) on) row_is.ttl_fits row_is.rdata

  -- the hosts that records with sound data name
  additional_sound : (authorities : List Record) → AllByRecursion (IsSoundIn false) authorities → (r : Record) → IsAdditionalRecord zones answers authorities r → IsSoundIn false r
  additional_sound authorities sound _ (glue zone t naming host row named hosts kind zone_is there) =
      let row_is : IsSoundRow row = row_sound zone host.labels t row (closest_is_zone zones well_formed host.labels zone zone_is) there in
      record_sound host row (host_fqdn naming.rdata host (all_contained (IsSoundIn false) authorities naming sound named).sound.rdata hosts) row_is.ttl_fits row_is.rdata
  additional_sound authorities sound _ (address zone t naming host row named hosts kind zone_is free there) =
      let row_is : IsSoundRow row = row_sound zone host.labels t row (closest_is_zone zones well_formed host.labels zone zone_is) there in
      record_sound host row (host_fqdn naming.rdata host (answer_data naming (all_contained (IsAnswerRecord zones q answers) answers naming from named)).sound hosts) row_is.ttl_fits row_is.rdata

-- an answer each of whose records can be encoded and decoded again
record HasSoundRecords (a : AuthorityAnswer) : Type 0 where
  in_answers : AllByRecursion (IsSoundIn false) a.answers
  in_authorities : AllByRecursion (IsSoundIn false) a.authorities
  in_additionals : AllByRecursion (IsSoundIn false) a.additionals

answer_records : (zones : List ZoneContent) (q : Query) (a : AuthorityAnswer) → AllByRecursion IsZone zones → q.name.is_fqdn ≡ true → ComesFrom zones q a → HasSoundRecords a
answer_records zones q a well_formed f from =
    let authorities : AllByRecursion (IsSoundIn false) a.authorities =
    all_weaker (IsAuthorityRecord zones q a.answers) (IsSoundIn false) (authority_sound zones well_formed q f a.answers from.answers) a.authorities from.authorities in
    record {
      in_answers = all_weaker (IsAnswerRecord zones q a.answers) (IsSoundIn false) (answer_sound zones well_formed q f a.answers from.answers) a.answers from.answers;
      in_authorities = authorities;
      in_additionals = all_weaker (IsAdditionalRecord zones a.answers a.authorities) (IsSoundIn false) (additional_sound zones well_formed q f a.answers from.answers a.authorities authorities) a.additionals from.additionals;
    }

no_records : (a : AuthorityAnswer) → (a.answers ≡ []) × (a.authorities ≡ []) × (a.additionals ≡ []) → HasSoundRecords a
no_records a none = record {
  in_answers = subst (AllByRecursion (IsSoundIn false)) (sym none.0) tt;
  in_authorities = subst (AllByRecursion (IsSoundIn false)) (sym none.1) tt;
  in_additionals = subst (AllByRecursion (IsSoundIn false)) (sym none.2) tt;
}

answered_records : (zones : List ZoneContent) (queries : List Query) (a : AuthorityAnswer) → AllByRecursion IsZone zones → AllByRecursion IsSoundQuery queries → AnswerComes zones queries a → HasSoundRecords a
answered_records zones [] a well_formed sound none = no_records a none
answered_records zones (q ∷ []) a well_formed sound from = answer_records zones q a well_formed sound.0.fqdn from
answered_records zones (q ∷ r ∷ more) a well_formed sound none = no_records a none

-- ---- the code of an answer

-- a code of four bits
abbrev IsShort : ResponseCode → Type 0
IsShort code = (code_number code < 16) × (code_of (code_number code) ≡ code)

-- the code of a step that ends an answer
abbrev StepIsShort : Step → Type 0
StepIsShort (End a) = IsShort a.code
StepIsShort (Links records next) = Unit {0}

module _ (zones : List ZoneContent) (asked : Asked) (owner : DomainName) where
  by_short : (zone : ZoneContent) (records : List Record) (aliases : List Row) → StepIsShort (step_by zones zone owner records aliases)
  by_short zone [] [] = (omega arith, refl)
  by_short zone [] (alias ∷ more) = tt
  by_short zone (r ∷ records) aliases = (omega arith, refl)

  at_short : (zone : ZoneContent) (source : Option DomainName) → StepIsShort (step_at zones zone asked owner source)
  at_short zone None = (omega arith, refl)
  at_short zone (Some source) = by_short zone (map (record_of owner) (asked_rows asked zone.rows source.labels)) (rows_at zone.rows source.labels types.CNAME)

  redirected_short : (at : DomainName) (dname : Row) (made : Option DomainName) → StepIsShort (redirected zones asked.record_type owner at dname made)
  redirected_short at dname None = (omega arith, refl)
  redirected_short at dname (Some made) = tt

  to_short : (at : DomainName) (dname : Row) (target : Option DomainName) → StepIsShort (step_to zones asked.record_type owner at dname target)
  to_short at dname None = (omega arith, refl)
  to_short at dname (Some target) = redirected_short at dname (redirect owner at target)

  below_short : (at : DomainName) (rows : List Row) → StepIsShort (step_below zones asked.record_type owner at rows)
  below_short at [] = (omega arith, refl)
  below_short at (dname ∷ more) = to_short at dname (dname_target dname.rdata)

  over_short : (zone : ZoneContent) (at : DomainName) → StepIsShort (step_over zones zone asked.record_type owner at)
  over_short zone at = by (is_cut zone at)
    where
      by : (b : Bool) → StepIsShort (cond b (End (referral zone at)) (step_below zones asked.record_type owner at (rows_at zone.rows at.labels types.DNAME)))
      by true = (omega arith, refl)
      by false = below_short at (rows_at zone.rows at.labels types.DNAME)

  with_short : (zone : ZoneContent) (at : Option DomainName) → StepIsShort (step_with zones zone asked owner at)
  with_short zone None = at_short zone (answering_name zone.rows owner)
  with_short zone (Some at) = over_short zone at

  in_short : (found : Option ZoneContent) → StepIsShort (step_in zones asked owner found)
  in_short None = (omega arith, refl)
  in_short (Some zone) = with_short zone (barrier zone asked.record_type owner)

last_short : (s : Step) → StepIsShort s → IsShort (after_step s (λ records next. positive [])).code
last_short (End a) h = h
last_short (Links records next) h = (omega arith, refl)

rest_short : (answer_of : DomainName → AuthorityAnswer) (next : Option DomainName) → ((target : DomainName) → IsShort (answer_of target).code) → IsShort (rest_at answer_of next).code
rest_short answer_of None more = (omega arith, refl)
rest_short answer_of (Some target) more = more target

after_short : (answer_of : DomainName → AuthorityAnswer) (s : Step) → StepIsShort s → ((target : DomainName) → IsShort (answer_of target).code)
    → IsShort (after_step s (λ records next. after_records records (rest_at answer_of next))).code
after_short answer_of (End a) h more = h
after_short answer_of (Links records next) h more = rest_short answer_of next more

along_short : (zones : List ZoneContent) (asked : Asked) (links : ℕ) (owner : DomainName) → IsShort (answer_at links zones asked owner).code
unfolding answer_at
along_short zones asked zero owner = last_short (step zones asked owner) (in_short zones asked owner (zone_for zones asked.record_type owner))
along_short zones asked (suc links) owner =
    after_short (answer_at links zones asked) (step zones asked owner) (in_short zones asked owner (zone_for zones asked.record_type owner)) (along_short zones asked links)

query_short : (any : AnyAnswer) (zones : List ZoneContent) (q : Query) → IsShort (bare_answer any zones q).code
query_short any zones q = by (is_unanswered q.query_type) (not (class_number q.query_class == 1))
  where
    by : (a b : Bool) → IsShort (cond a (refusal NotImp) (cond b (refusal Refused) (answer_at max_aliases zones (record { record_type = q.query_type; any = any }) q.name))).code
    by true b = (omega arith, refl)
    by false true = (omega arith, refl)
    by false false = along_short zones (record { record_type = q.query_type; any = any }) max_aliases q.name

queries_short : (any : AnyAnswer) (zones : List ZoneContent) (queries : List Query) → IsShort (bare_answer_to_queries any zones queries).code
queries_short any zones [] = (omega arith, refl)
queries_short any zones (q ∷ []) = query_short any zones q
queries_short any zones (q ∷ r ∷ more) = (omega arith, refl)

code_short : (any : AnyAnswer) (zones : List ZoneContent) (queries : List Query) (op : OpCode) → IsShort (bare_answer_by_code any zones queries op).code
code_short any zones queries ops.Query = queries_short any zones queries
code_short any zones queries other = (omega arith, refl)

-- a code of twelve bits, of which the OPT record of a reply to a request has the upper eight; without one it has four bits
record IsCodeOfReply (edns : Option Edns) (code : ResponseCode) : Type 0 where
  fits : code_number code < 4096
  named : code_of (code_number code) ≡ code
  extended : IsExtendedBy (edns_with code edns) code

short_code : (edns : Option Edns) (code : ResponseCode) → IsShort code → IsCodeOfReply edns code
short_code None code short = record { fits = omega (arith, short.0); named = short.1; extended = short.0 }
short_code (Some e) code short = record { fits = omega (arith, short.0); named = short.1; extended = omega (arith, short.0) }

code_of_reply : (any : AnyAnswer) (zones : List ZoneContent) (request : Message) → version_of request.edns ≡ 0 → IsCodeOfReply request.edns (answer_to any zones request).code
code_of_reply any zones request known = by (nat_lt 0 (version_of request.edns)) (ap (nat_lt 0) known)
  where
    by : (b : Bool) → b ≡ false → IsCodeOfReply request.edns (cond b (refusal BADVERS) (bare_answer_by_code any zones request.queries request.metadata.op_code)).code
    by true is = absurd (cc)
    by false is = short_code request.edns (bare_answer_by_code any zones request.queries request.metadata.op_code).code (code_short any zones request.queries request.metadata.op_code)

-- ---- the reply

-- a record with data belongs in a section of any message
in_any : (is_update : Bool) (r : Record) → IsSoundIn false r → IsSoundIn is_update r
in_any false r h = h
in_any true r h = record { sound = h.sound; not_opt = h.not_opt; not_signature = h.not_signature; has_data = refl }

repeated_sound : (op : OpCode) (queries : List Query) → AllByRecursion IsSoundQuery queries → AllByRecursion IsSoundQuery (repeated_by_code op queries)
repeated_sound ops.Query [] sound = tt
repeated_sound ops.Query (q ∷ []) sound = sound
repeated_sound ops.Query (q ∷ r ∷ more) sound = tt
repeated_sound other queries sound = tt

edns_sound : (edns : Option Edns) (code : ResponseCode) → IfSome (edns_with code edns) IsSoundEdns
edns_sound None code = tt
edns_sound (Some e) code = record {
  rcode_fits = omega arith;
  version_fits = omega arith;
  z_fits = omega arith;
  payload_least = omega arith;
  payload_fits = omega arith;
  options = record { values = (tt, tt); fields = refl; type_fits = omega arith; type_named = refl; fits = omega arith };
}

whole_reply_sound : (any : AnyAnswer) (zones : List ZoneContent) (request : Message) → AllByRecursion IsZone zones → IsSound request → version_of request.edns ≡ 0 → IsSound (reply any zones request)
whole_reply_sound any zones request well_formed sound known =
    let a : AuthorityAnswer = answer_to any zones request in
    let records : HasSoundRecords a = answered_records zones request.queries a well_formed sound.queries (answer_comes any zones request) in
    let code : IsCodeOfReply request.edns a.code = code_of_reply any zones request known in
    let is_update : Bool = is_update_code request.metadata.op_code in
    record {
      metadata = record {
        id_fits = sound.metadata.id_fits;
        op_fits = sound.metadata.op_fits;
        op_named = sound.metadata.op_named;
        code_fits = code.fits;
        code_named = code.named;
      };
      queries = repeated_sound request.metadata.op_code request.queries sound.queries;
      answers = all_weaker (IsSoundIn false) (IsSoundIn is_update) (in_any is_update) a.answers records.in_answers;
      authorities = all_weaker (IsSoundIn false) (IsSoundIn is_update) (in_any is_update) a.authorities records.in_authorities;
      additionals = all_weaker (IsSoundIn false) (IsSoundIn is_update) (in_any is_update) a.additionals records.in_additionals;
      edns = edns_sound request.edns a.code;
      extended = code.extended;
      signature = tt;
    }

-- what is sent of a message
part_sound : (m part : Message) → IsPart m part → IsSound m → IsSound part
part_sound m _ (fewer n) h = record {
  metadata = h.metadata;
  queries = h.queries;
  answers = h.answers;
  authorities = h.authorities;
  additionals = all_taken (IsSoundIn (is_update_code m.metadata.op_code)) n m.additionals h.additionals;
  edns = h.edns;
  extended = h.extended;
  signature = h.signature;
}
part_sound m _ bare h = record {
  metadata = h.metadata;
  queries = h.queries;
  answers = h.answers;
  authorities = h.authorities;
  additionals = tt;
  edns = h.edns;
  extended = h.extended;
  signature = h.signature;
}
part_sound m _ all h = h
part_sound m _ cut_short h = record {
  metadata = record {
    id_fits = h.metadata.id_fits;
    op_fits = h.metadata.op_fits;
    op_named = h.metadata.op_named;
    code_fits = h.metadata.code_fits;
    code_named = h.metadata.code_named;
  };
  queries = h.queries;
  answers = tt;
  authorities = tt;
  additionals = tt;
  edns = h.edns;
  extended = h.extended;
  signature = tt;
}

pub sent_sound : (any : AnyAnswer) (zones : List ZoneContent) (request : Message) (limit : ℕ) → AllByRecursion IsZone zones → IsSound request → version_of request.edns ≡ 0 → IsSound (sent limit (reply any zones request))
sent_sound any zones request limit well_formed sound known =
    part_sound (reply any zones request) (sent limit (reply any zones request)) (sent_part limit (reply any zones request)) (whole_reply_sound any zones request well_formed sound known)

pub decoded_sound_reply : (any : AnyAnswer) (zones : List ZoneContent) (request : Message) (limit : ℕ) (bytes : List ℕ) → AllByRecursion IsZone zones → IsSound request → version_of request.edns ≡ 0
    → Encodes limit (sent limit (reply any zones request)) bytes
    → (decoded : Message) × (ReadsMessage bytes decoded × IsReplyWith zones request.queries (answer_to any zones request) decoded)
decoded_sound_reply any zones request limit bytes well_formed sound known encodes =
    decoded_reply any zones request limit bytes encodes (sent_sound any zones request limit well_formed sound known)
