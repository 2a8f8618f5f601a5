-- A zone, updates of it that add a TXT record each, and its text after the first one, which lacks the second.
use Rattle.std.proofs.Common.{◌≡◌, ◌≢◌, ◌≤◌, ◌<◌, ◌∙◌, arith, ℕ, Bool, true, false, cond, List, [], ◌∷◌, length, refl, sym, ap, subst, Option, Some, None, Ok, unwrap_or, is_some, ◌||◌, ◌==◌, ◌^◌, get_or, ◌+◌, length-append}
use Rattle.std.proofs.lemmas.Bool.Decides.{nat_tests}
use Rattle.std.specs.FinMap as rows_map
use Rattle.std.specs.Fmt.{digits}
use Rattle.std.specs.List.{IsDistinct}
use Rattle.std.specs.Ordering.{eq_by_cmp}
use Rattle.std.specs.Prelude.{IfSome}
use Rattle.sha2.specs.Sha256.{first_words, schedule, rounds, compress, hash_after, digest_bytes, sha256}
use Rattle.dns_wire.specs.declared.codes.dns_class.DNSClass.TheVariants.{IN}
use Rattle.dns_wire.specs.declared.codes.record_type.RecordType.TheVariants as types
use Rattle.dns_data.specs.declared.rdata.RData.TheVariants as of
use Rattle.dns_messages.specs.Cut.{cut_form}
use Rattle.dns_messages.specs.Header.{new_metadata}
use Rattle.dns_messages.specs.Message.{empty_message}
use Rattle.dns_messages.specs.Sound.{IsSound}
use Rattle.dns_messages.specs.declared.message.Message.{Message}
use Rattle.dns_messages.specs.declared.message_type.MessageType.TheVariants as kinds
use Rattle.dns_messages.specs.declared.op_code.OpCode.TheVariants as ops
use Rattle.dns_messages.proofs.DecodeLaws.{decodes_again}
use Rattle.dns_messages.specs.Grammar.{ReadsMessage}
use Rattle.dns_names.specs.Name.{DomainName}
use Rattle.dns_wire.specs.Name.{AreLabels}
use Rattle.dns_records.specs.Record.{Record}
use Rattle.dns_records.specs.Rows.{key_of, row_of, set_of, with_set}
use Rattle.dns_updates.specs.Change.{update_change, with_row}
use Rattle.dns_records.specs.RecordSet.{RecordSetValue}
use Rattle.dns_records.specs.declared.row.Row.{Row}
use Rattle.dns_zone.specs.Load.{ReadsZoneIn}
use Rattle.dns_zone_file.specs.declared.types.Types.TheVariants.{All}
use Rattle.dns_durable.specs.zone_texts.Stated.{AreStatedAt, IsStated, with_origin}
use Rattle.dns_durable.proofs.ZoneLaws.{file_reads}
use Rattle.dns_server.specs.Server.{zones_after}
use Rattle.dns_server.specs.declared.updates.Updates.TheVariants.{Allowed}
use Rattle.dns_zone.proofs.KeptLaws.{tied_key}
use Rattle.dns_zone.specs.Printed.{AreZoneSets, IsZoneText, zone_text}
use Rattle.dns_zone.specs.Request.{IsRequest}
use Rattle.dns_zone.specs.Rows.{Key, Rows, ZoneContent, AreSoundSets, IsSoundRow, key_cmp, zone_of}
use Rattle.dns_zone.proofs.RowLaws.{key_antisymmetric, key_total}
use Rattle.dns_authority.specs.declared.service.answering.Answering.TheVariants.{Plain}
use Rattle.dns_journal.specs.format.Format.{IsShort}
use Rattle.dns_durable.specs.recovery.Compacting.{mark}
use Rattle.dns_durable.specs.recovery.Updating.{update_payload}
use Rattle.sha2.proofs.Facts256.{length-sha256}
use Rattle.dns_durable.specs.Compaction.{IsFileText, IsRewritten, IsTextBehind}
use Rattle.dns_durable.specs.Durable.{TakesEntry}
use Rattle.dns_durable.specs.Durable.Takes.{no_frame, a_frame}
use Rattle.dns_durable.specs.Rule.{entry_of, step_of}
use Rattle.dns_durable.proofs.RuleLaws.{entry_takes}

-- ---- the zone

abbrev root : DomainName
root = record { is_fqdn = true; labels = [] }

abbrev start : Record
start = record {
  name = root;
  dns_class = IN;
  ttl = 60;
  rdata = of.SOA (record { mname = root; rname = root; serial = 5; refresh = 4; retry = 3; expire = 2; minimum = 1 });
}

-- a TXT record
abbrev note : ℕ → Record
note letter = record { name = root; dns_class = IN; ttl = 60; rdata = of.TXT ((letter ∷ []) ∷ []) }

abbrev start_set : RecordSetValue
start_set = record { name = root; record_type = types.SOA; dns_class = IN; ttl = 60; serial = 0; records = start ∷ [] }

abbrev note_set : RecordSetValue
note_set = record { name = root; record_type = types.TXT; dns_class = IN; ttl = 60; serial = 0; records = note 97 ∷ [] }

abbrev pub zone : ZoneContent
zone = zone_of root (start_set ∷ [])

abbrev pub grown : ZoneContent
grown = zone_of root (start_set ∷ note_set ∷ [])

abbrev pub text : List ℕ
text = zone_text root (start_set ∷ [])

-- its lines, and its text with the line of the origin in front of them
abbrev next_lines : List ℕ
next_lines = zone_text root (start_set ∷ note_set ∷ [])

abbrev pub next_text : List ℕ
next_text = with_origin root next_lines

-- ---- its updates

abbrev update : ℕ → Message
update letter = record (empty_message (new_metadata 0 kinds.Query ops.Update)) {
  queries = record { name = root; query_type = types.SOA; query_class = IN } ∷ [];
  authorities = note letter ∷ [];
}

abbrev pub request : ℕ → List ℕ
request letter = cut_form 512 (update letter)

update_sound : (letter : ℕ) → IsSound (update letter)
update_sound letter = record {
  metadata = record { id_fits = omega arith; op_fits = omega arith; op_named = refl; code_fits = omega arith; code_named = refl };
  queries = (record { fqdn = refl; type_fits = omega arith; type_named = refl; class_fits = omega arith; class_named = refl }, tt);
  answers = tt;
  authorities = (
    record {
      sound = record {
        fqdn = refl;
        class_fits = omega arith;
        class_named = refl;
        ttl_fits = omega arith;
        rdata = record { values = ((λ e. absurd (cc), (omega arith, tt)), tt); fields = refl; type_fits = omega arith; type_named = refl; fits = omega arith };
      };
      not_opt = refl;
      not_signature = refl;
      has_data = refl;
    },
    tt,
  );
  additionals = tt;
  edns = tt;
  extended = omega arith;
  signature = tt;
}

no_labels : AreLabels []
no_labels = record { each = tt; fits = omega arith }

reads : (letter : ℕ) → ReadsMessage (request letter) (update letter)
reads letter = decodes_again 512 (update letter) (omega arith) (omega arith) (no_labels, (tt, (tt, tt))) (record { answers = tt; authorities = (no_labels, (tt, (tt, (tt, (tt, (tt, (tt, tt))))))); additionals = tt; edns = tt; signature = tt }) (update_sound letter)

is_request : (letter : ℕ) → IsRequest (request letter) (update letter)
is_request letter = record { reads = reads letter; asks = refl; sound = update_sound letter }

request_len : (letter : ℕ) → length (request letter) ≡ 30
request_len letter = refl

-- the entry for an update
abbrev frames : ℕ → List ℕ
frames letter = entry_of Plain (request letter ∷ [])

abbrev pub frames_one : List ℕ
frames_one = frames 97

abbrev pub frames_two : List ℕ
frames_two = frames 98

abbrev pub frames_three : List ℕ
frames_three = frames 99

abbrev pub frames_four : List ℕ
frames_four = frames 100

short : (letter : ℕ) → IsShort (update_payload (frames letter))
short letter = let len : length (update_payload (frames letter)) ≡ 36 = refl in subst (λ (n : ℕ). n < 2 ^ 23) (sym len) (omega arith)

takes : (letter : ℕ) (zones after : List ZoneContent) → after ≡ step_of Plain zones (update letter) → TakesEntry zones (frames letter) after
takes letter zones after is =
    entry_takes Plain zones after (request letter ∷ [])
    (a_frame {bytes = request letter} {rest = []} (subst (λ (n : ℕ). n ≤ 65535) (sym (request_len letter)) (omega arith))
    (record { request = update letter; is_request = is_request letter; after_is = is }) no_frame)

pub some_one : frames_one ≢ []
some_one e = absurd cc

pub some_two : frames_two ≢ []
some_two e = absurd cc

pub some_three : frames_three ≢ []
some_three e = absurd cc

pub some_four : frames_four ≢ []
some_four e = absurd cc

pub short_one : IsShort (update_payload frames_one)
short_one = short 97

pub short_two : IsShort (update_payload frames_two)
short_two = short 98

pub short_three : IsShort (update_payload frames_three)
short_three = short 99

pub short_four : IsShort (update_payload frames_four)
short_four = short 100

-- no updates change nothing
pub takes_none : (zones : List ZoneContent) → TakesEntry zones [] zones
takes_none zones = no_frame

-- ---- the zone after the first one

got : (k : Key) → rows_map.get zone.rows k ≡ cond (eq_by_cmp key_cmp k ([], 6)) (Some (row_of start ∷ [])) None
got k = rows_map.get-from_entries key_total ((([], 6), row_of start ∷ []) ∷ []) k

abbrev added : Rows
added = with_set zone.rows (key_of (note 97)) (row_of (note 97) ∷ [])

added_is : added ≡ grown.rows
added_is = sym (rows_map.from_entries_push key_total key_antisymmetric ((([], 6), row_of start ∷ []) ∷ []) ([], 16) (row_of (note 97) ∷ []) refl)

changed : update_change root zone.rows (update 97) ≡ grown.rows
changed =
    ap (λ (o : Option (List Row)). cond (is_some o || false) zone.rows (with_set zone.rows (key_of (note 97)) (with_row (set_of zone.rows (note 97)) (row_of (note 97))))) (got ([], 5))
    ∙ ap (λ (o : Option (List Row)). with_set zone.rows (key_of (note 97)) (with_row (unwrap_or o []) (row_of (note 97)))) (got ([], 16))
    ∙ added_is

-- ---- its text

start_sound : IsSoundRow (row_of start)
start_sound = record {
  ttl_fits = omega arith;
  rdata = record {
    sound = record {
      values = (refl, (refl, (omega arith, (omega arith, (omega arith, (omega arith, (omega arith, tt)))))));
      fields = refl;
      type_fits = omega arith;
      type_named = refl;
      fits = omega arith;
    };
    not_opt = refl;
    not_tsig = refl;
    has_data = refl;
  };
}

note_sound : IsSoundRow (row_of (note 97))
note_sound = record {
  ttl_fits = omega arith;
  rdata = record {
    sound = record { values = ((λ e. absurd (cc), (omega arith, tt)), tt); fields = refl; type_fits = omega arith; type_named = refl; fits = omega arith };
    not_opt = refl;
    not_tsig = refl;
    has_data = refl;
  };
}

sets_sound : AreSoundSets (start_set ∷ note_set ∷ [])
unfolding IsDistinct
sets_sound = (
  record { fqdn = refl; type_named = refl; filled = omega arith; rows = (start_sound, tt); of_type = (refl, tt); distinct = (tt, tt); single = λ e. refl },
  (
    record { fqdn = refl; type_named = refl; filled = omega arith; rows = (note_sound, tt); of_type = (refl, tt); distinct = (tt, tt); single = λ e. refl },
    tt,
  ),
)

sets_kept : AreZoneSets root (start_set ∷ note_set ∷ [])
unfolding IsDistinct
sets_kept = record { start_first = refl; distinct = ((refl, tt), (tt, tt)); faultless = refl }

are_lines : IsZoneText grown next_lines
are_lines = record { sets = start_set ∷ note_set ∷ []; origin_fqdn = refl; rows = refl; sound = sets_sound; kept = sets_kept; text_is = refl }

is_text : IsFileText grown next_text
is_text = record { records = next_lines; is_text = are_lines; text_is = refl }

start_stated : AreStatedAt ([], 6) (row_of start ∷ [])
start_stated = record { labels = no_labels; octets = tt; rows = (record { valid = ((no_labels, tt), ((no_labels, tt), (tt, (tt, (tt, (tt, (tt, tt))))))); has_text = refl }, tt) }

note_stated : AreStatedAt ([], 16) (row_of (note 97) ∷ [])
note_stated = record { labels = no_labels; octets = tt; rows = (record { valid = (((omega arith, tt), tt), tt); has_text = refl }, tt) }

stated : IsStated grown
stated k = subst (λ (o : Option (List Row)). IfSome o (AreStatedAt k)) (sym (rows_map.get-from_entries key_total ((([], 6), row_of start ∷ []) ∷ (([], 16), row_of (note 97) ∷ []) ∷ []) k))
    (by (eq_by_cmp key_cmp k ([], 6)) (eq_by_cmp key_cmp k ([], 16)) refl refl)
  where
    by : (b c : Bool) → eq_by_cmp key_cmp k ([], 6) ≡ b → eq_by_cmp key_cmp k ([], 16) ≡ c
        → IfSome (cond b (Some (row_of start ∷ [])) (cond c (Some (row_of (note 97) ∷ [])) None)) (AreStatedAt k)
    by true c e f = subst (λ (q : Key). AreStatedAt q (row_of start ∷ [])) (tied_key k ([], 6) e) start_stated
    by false true e f = subst (λ (q : Key). AreStatedAt q (row_of (note 97) ∷ [])) (tied_key k ([], 16) f) note_stated
    by false false e f = tt

is_read : ReadsZoneIn All [] None next_text (Ok grown)
is_read = file_reads grown next_lines are_lines stated

rewritten : IsRewritten (grown ∷ []) next_text grown
rewritten = record { zone = grown; zones_are = refl; is_text = is_text; is_read = is_read; is_same_text = is_text }

-- ---- the zones after updates

after_one : zones_after Allowed (zone ∷ []) (update 97) ≡ grown ∷ []
after_one = ap (λ (rows : Rows). (record { origin = root; rows = rows }) ∷ []) changed

pub takes_one : TakesEntry (zone ∷ []) frames_one (grown ∷ [])
takes_one = takes 97 (zone ∷ []) (grown ∷ []) (sym after_one)

abbrev pub after_two : List ZoneContent
after_two = step_of Plain (grown ∷ []) (update 98)

pub takes_two : TakesEntry (grown ∷ []) frames_two after_two
takes_two = takes 98 (grown ∷ []) after_two refl

abbrev pub after_three : List ZoneContent
after_three = step_of Plain after_two (update 99)

pub takes_three : TakesEntry after_two frames_three after_three
takes_three = takes 99 after_two after_three refl

abbrev pub after_four : List ZoneContent
after_four = step_of Plain after_three (update 100)

pub takes_four : TakesEntry after_three frames_four after_four
takes_four = takes 100 after_three after_four refl

-- ---- the keys of its journals

abbrev pub key : List ℕ
key = 1 ∷ 2 ∷ 3 ∷ 4 ∷ 5 ∷ 6 ∷ 7 ∷ 8 ∷ 9 ∷ 10 ∷ 11 ∷ 12 ∷ 13 ∷ 14 ∷ 15 ∷ 16 ∷ []

abbrev pub next_key : List ℕ
next_key = 16 ∷ 15 ∷ 14 ∷ 13 ∷ 12 ∷ 11 ∷ 10 ∷ 9 ∷ 8 ∷ 7 ∷ 6 ∷ 5 ∷ 4 ∷ 3 ∷ 2 ∷ 1 ∷ []

-- the second update is made while the text is written
pub behind_two : IsTextBehind after_two next_text frames_two grown
behind_two = record { base = grown ∷ []; rewritten = rewritten; carries = takes_two }

frames_len : length frames_two ≡ 35
frames_len = refl

pub short_mark : IsShort (mark next_text frames_two)
short_mark = omega (arith, length-sha256 next_text, length-append (sha256 next_text) frames_two, frames_len)

pub few_two : length frames_two + 1 < 2 ^ 23
few_two = omega (arith, frames_len)

-- ---- their digests

-- the first bytes differ
differ : (get_or (sha256 next_text) 0 0 == get_or (sha256 text) 0 0) ≡ false
unfolding digits first_words schedule rounds compress hash_after digest_bytes sha256
differ = refl

same_number : (n : ℕ) → (n == n) ≡ true
same_number n = grind (arith, nat_tests)

pub own_digest : sha256 next_text ≡ sha256 text → next_text ≡ text
own_digest e =
    let never : true ≡ false = sym (same_number (get_or (sha256 text) 0 0)) ∙ subst (λ (d : List ℕ). (get_or d 0 0 == get_or (sha256 text) 0 0) ≡ false) e differ in
    absurd cc
