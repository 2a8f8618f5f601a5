-- What remains of a sound message is decoded from its bytes.
use Rattle.std.proofs.Common.{◌≡◌, ℕ, ◌+◌, ◌-◌, ◌*◌, ◌/◌, ◌%◌, ◌<◌, ◌≤◌, ◌||◌, ◌&&◌, not, Bool, true, false, cond, eqb, ltb, List, [], ◌∷◌, ◌++◌, length, map, Option, Some, None, refl, sym, ap, subst, ◌∙◌, append_assoc, arith, length-append}
use Rattle.std.specs.Prelude.{IfSome, option_map}
use Rattle.std.specs.Int.{w16, to_be_bytes}
use Rattle.std.specs.List.{AllByRecursion, find}
use Rattle.std.proofs.lemmas.List.{append-nil}
use Rattle.dns_wire.specs.declared.codes.record_type.RecordType.{RecordType}
use Rattle.dns_wire.specs.declared.codes.record_type.RecordType.TheVariants as types
use Rattle.dns_wire.specs.declared.codes.dns_class.DNSClass.TheVariants as classes
use Rattle.dns_wire.specs.codes.DNSClass.{class_number}
use Rattle.dns_wire.specs.Decodable.{BytesAt, Follow}
use Rattle.dns_wire.specs.declared.error.DecodeError.{DecodeError}
use Rattle.dns_wire.specs.declared.error.DecodeError.TheVariants.{InvalidEmptyRecord, RecordNotInAdditionalSection}
use Rattle.dns_wire.specs.declared.name_encoding.NameEncoding.TheVariants.{Uncompressed}
use Rattle.dns_wire.specs.Encodable.{Piece, Plain, Domain, Whole, Position, piece_form, piece_next, form, after, reach, PiecesAt, AreWritable}
use Rattle.dns_wire.specs.Items.{fitting_prefix, all_pieces}
use Rattle.dns_wire.specs.internal.Sections.{fitting_form, position_behind}
use Rattle.dns_wire.proofs.PieceLaws.{after-place, after-canonical, form-append, pieces_at-append}
use Rattle.dns_wire.proofs.SectionLaws.{Stage, stage_again, Rereads, items_again, fitting_prefix-each}
use Rattle.dns_data.specs.rdata.{data_type, data_pieces, is_update_data}
use Rattle.dns_records.specs.RecordHead.{head_form, class_for}
use Rattle.dns_records.specs.Record.{Record, head_pieces, data_len, record_pieces, head_of, ReadsRecord, IsSoundRecord}
use Rattle.dns_messages.specs.declared.response_code.ResponseCode.{ResponseCode}
use Rattle.dns_messages.specs.declared.header.Metadata.{Metadata}
use Rattle.dns_messages.specs.declared.edns.Edns.{Edns}
use Rattle.dns_messages.specs.declared.message.Message.{Message}
use Rattle.dns_messages.specs.Header.{bit, code_number, code_of, third_byte, fourth_byte}
use Rattle.dns_messages.specs.Question.{question_pieces}
use Rattle.dns_messages.specs.Edns.{edns_ttl, opt_record, edns_of, IsSoundEdns}
use Rattle.dns_messages.specs.Section.{is_opt_type, is_tsig_type, is_opt, is_signature, Setting, SectionKind, setting_of, record_fault, AreWellPlaced, ordinary_records, edns_in, signature_in}
use Rattle.dns_messages.specs.Sound.{IsSoundQuery, is_update_code, IsSoundIn, IsExtendedBy, IsSoundSignature, IsSound}
use Rattle.dns_messages.specs.Grammar.{ReadsQuestion, ReadsMessage, extended}
use Rattle.dns_messages.specs.Cut.{query_item, record_item, edns_item, listed, fitting_item, with_code, written_edns, header_end, queries_pieces, queries_end, answers_end, authorities_end, additionals_end, edns_end, remaining, remaining_code, cut, last_count, header_of, cut_form, front_reach}
use Rattle.dns_messages.proofs.DecodedLaws.{code_numbered}
use Rattle.dns_messages.proofs.HeaderLaws.{bit-small, bit-again, in_header, metadata_in_header}
use Rattle.dns_messages.proofs.EmitLaws.{fitting-one, bytes0, bytes1, bytes2, bytes3, bytes4, bytes5, grouped, Writables, Few, few}

-- ---- response codes

-- what remains of the response code is what header and OPT record say
pub code_again : (md : Metadata) (found : Option Edns) (code : ResponseCode) → code_number code < 4096 → code_of (code_number code) ≡ code → IfSome found (λ e. e.rcode_high ≡ code_number code / 16)
    → md.response_code ≡ remaining_code found code → md ≡ extended found (in_header md)
code_again md None code fits named high is =
    let number : code_number md.response_code ≡ code_number code % 16 = ap code_number is ∙ code_numbered (code_number code % 16) in
    let low : code_number code % 16 ≡ code_number md.response_code % 16 = omega (arith, number) in
    let same : md.response_code ≡ code_of (code_number md.response_code % 16) = is ∙ ap code_of low in
    ap (λ (c : ResponseCode). record md { response_code = c }) same
code_again md (Some e) code fits named high is =
    let number : code_number md.response_code ≡ code_number code = ap code_number is in
    let low : code_number (in_header md).response_code ≡ code_number code % 16 = code_numbered (code_number md.response_code % 16) ∙ omega (arith, number) in
    let sum : code_number code ≡ 16 * e.rcode_high + code_number (in_header md).response_code = omega (arith, low, high) in
    ap (λ (c : ResponseCode). record md { response_code = c }) (is ∙ sym named ∙ ap code_of sum)

-- ---- OPT records

pub edns_again : (e : Edns) → IsSoundEdns e → edns_of (opt_record e) ≡ e
edns_again e s =
    let b : ℕ = bit e.flags.dnssec_ok in
    let small : b < 2 = bit-small e.flags.dnssec_ok in
    let ttl : edns_ttl e ≡ 16777216 * e.rcode_high + (65536 * e.version + (32768 * b + e.flags.z % 32768)) = refl in
    let high : edns_ttl e / 16777216 ≡ e.rcode_high = omega (arith, ttl, small, s.rcode_fits, s.version_fits, s.z_fits) in
    let version : (edns_ttl e / 65536) % 256 ≡ e.version = omega (arith, ttl, small, s.rcode_fits, s.version_fits, s.z_fits) in
    let low : edns_ttl e % 65536 ≡ 32768 * b + e.flags.z = omega (arith, ttl, small, s.rcode_fits, s.version_fits, s.z_fits) in
    let z : (edns_ttl e % 65536) % 32768 ≡ e.flags.z = omega (arith, low, small, s.z_fits) in
    let dnssec : eqb (((edns_ttl e % 65536) / 32768) % 2) 1 ≡ e.flags.dnssec_ok = bit-again e.flags.dnssec_ok _ (omega (arith, low, small, s.z_fits)) in
    let read : Edns = edns_of (opt_record e) in
    ap (λ (n : ℕ). record read { rcode_high = n }) high
    ∙ ap (λ (n : ℕ). record read { rcode_high = e.rcode_high; version = n }) version
    ∙ ap (λ (f : Bool). record e { flags = record read.flags { dnssec_ok = f } }) dnssec
    ∙ ap (λ (n : ℕ). record e { flags = record e.flags { z = n } }) z

payload-most : (n : ℕ) → 512 ≤ n → class_for types.OPT n ≡ classes.OPT n
payload-most n least = ap (λ (m : ℕ). classes.OPT m) (omega (arith, least))

pub opt_sound : (e : Edns) → IsSoundEdns e → IsSoundRecord (opt_record e)
opt_sound e s = record {
  fqdn = refl;
  class_fits = s.payload_fits;
  class_named = payload-most e.max_payload s.payload_least;
  ttl_fits = omega (arith, bit-small e.flags.dnssec_ok, s.rcode_fits, s.version_fits, s.z_fits);
  rdata = s.options;
}

-- a sound message has the upper bits of its response code in its OPT record already
pub written_edns_sound : (m : Message) → IsSound m → written_edns m ≡ m.edns
written_edns_sound m s = at m.edns s.extended
  where
    at : (found : Option Edns) → IsExtendedBy found m.metadata.response_code → option_map {T = Edns} {U = Edns} (with_code m.metadata.response_code) found ≡ found
    at None high = refl
    at (Some e) high = ap (λ (n : ℕ). Some (record e { rcode_high = n })) (omega (arith, high, s.metadata.code_fits))

-- ---- decoding items

follow_stays : {X : Type 0} (R : List ℕ → ℕ → X → ℕ → Type 0) (stays : (bytes more : List ℕ) (place : ℕ) (x : X) (end : ℕ) → R bytes place x end → R (bytes ++ more) place x end)
    (bytes more : List ℕ) (place end : ℕ) (xs : List X) → Follow (R bytes) place xs end → Follow (R (bytes ++ more)) place xs end
follow_stays R stays bytes more place end [] h = h
follow_stays R stays bytes more place end (x ∷ xs) h = (h.0, stays bytes more place x h.0 h.1, follow_stays R stays bytes more h.0 end xs h.2)

follow_join : {X : Type 0} (R : ℕ → X → ℕ → Type 0) (place middle end : ℕ) (xs ys : List X) → Follow R place xs middle → Follow R middle ys end → Follow R place (xs ++ ys) end
follow_join R place middle end [] ys a b = subst (λ (n : ℕ). Follow R n ys end) (sym a) b
follow_join R place middle end (x ∷ xs) ys a b = (a.0, a.1, follow_join R a.0 middle end xs ys a.2 b)

question_law : Rereads query_item IsSoundQuery ReadsQuestion
question_law = record {
  stays = λ bytes more place q end h. record { sound = h.sound; there = pieces_at-append Uncompressed bytes more place (question_pieces q) end h.there };
  again = λ bytes s q stage is sound small. record { sound = sound; there = (stage_again bytes s (question_pieces q) stage is).0 };
}

-- a record's pieces where record data does not have its canonical form
abbrev plain_item : Record → Position → List Piece
plain_item r s = record_pieces (record s { canonical = false }) r

plain_all : (s : Position) (rs : List Record) → s.canonical ≡ false → all_pieces plain_item s rs ≡ all_pieces record_item s rs
plain_all s [] e = refl
plain_all s (r ∷ rs) e =
    let one : plain_item r s ≡ record_item r s = ap (λ (b : Bool). record_pieces (record s { canonical = b }) r) (sym e) in
    ap (λ (ps : List Piece). ps ++ all_pieces plain_item (after s ps) rs) one
    ∙ ap (λ (qs : List Piece). record_item r s ++ qs) (plain_all (after s (record_item r s)) rs (after-canonical s (record_item r s) ∙ e))

form-canonical : (s : Position) (b : Bool) (ps : List Piece) → form (record s { canonical = b }) ps ≡ form s ps
form-canonical s b [] = refl
form-canonical s b (Plain bytes ∷ ps) = ap (λ (x : List ℕ). bytes ++ x) (form-canonical (piece_next s (Plain bytes)) b ps)
form-canonical s b (Domain labels ∷ ps) = ap (λ (x : List ℕ). piece_form s (Domain labels) ++ x) (form-canonical (piece_next s (Domain labels)) b ps)
form-canonical s b (Whole labels ∷ ps) = ap (λ (x : List ℕ). piece_form s (Whole labels) ++ x) (form-canonical (piece_next s (Whole labels)) b ps)

pub record_stays : (bytes more : List ℕ) (place : ℕ) (r : Record) (end : ℕ) → ReadsRecord bytes place r end → ReadsRecord (bytes ++ more) place r end
record_stays bytes more place r end h =
    let head = h.head in
    let fields = h.rdata in
    record {
      len = h.len;
      data_place = h.data_place;
      head = record {
        fqdn = head.fqdn;
        type_fits = head.type_fits;
        type_named = head.type_named;
        class = head.class;
        class_fits = head.class_fits;
        class_named = head.class_named;
        ttl_fits = head.ttl_fits;
        len_fits = head.len_fits;
        there = pieces_at-append Uncompressed bytes more place (head_form (head_of r h.len) head.class) h.data_place head.there;
      };
      rdata = record {
        of_type = fields.of_type;
        sound = fields.sound;
        there = pieces_at-append Uncompressed bytes more h.data_place (data_pieces false r.rdata) (h.data_place + h.len) fields.there;
      };
      ends = h.ends;
    }

split : (ps qs : List Piece) → AreWritable (ps ++ qs) → AreWritable ps × AreWritable qs
split [] qs are = (tt, are)
split (p ∷ ps) qs are = let more = split ps qs are.1 in ((are.0, more.0), more.1)

record_again : (bytes : List ℕ) (s : Position) (r : Record) → Stage bytes s → AreWritable (plain_item r s) → IsSoundRecord r → (after s (plain_item r s)).place < 65536 → ReadsRecord (bytes ++ form s (plain_item r s)) s.place r (after s (plain_item r s)).place
record_again bytes s r stage is sound small =
    let t : Position = record s { canonical = false } in
    let len : ℕ = data_len t r in
    let hs : List Piece = head_pieces r ++ Plain (to_be_bytes w16 len) ∷ [] in
    let ds : List Piece = data_pieces false r.rdata in
    let w = split hs ds is in
    let grown : List ℕ = bytes ++ form s hs in
    let one = stage_again bytes s hs stage w.0 in
    let two = stage_again grown (after s hs) ds one.1 w.1 in
    let same : grown ++ form (after s hs) ds ≡ bytes ++ form s (hs ++ ds) = append_assoc bytes (form s hs) (form (after s hs) ds) ∙ ap (λ (b : List ℕ). bytes ++ b) (sym (form-append s hs ds)) in
    let len_is : len ≡ length (form (after s hs) ds) = ap length (form-canonical (after s hs) false ds) in
    let ends : (after s hs).place + len ≡ (after (after s hs) ds).place = omega (arith, after-place (after s hs) ds, len_is) in
    subst (λ (b : List ℕ). ReadsRecord b s.place r (after s (plain_item r s)).place) same
    (record {
      len = len;
      data_place = (after s hs).place;
      head = record {
        fqdn = sound.fqdn;
        type_fits = sound.rdata.type_fits;
        type_named = sound.rdata.type_named;
        class = class_number r.dns_class;
        class_fits = sound.class_fits;
        class_named = sym sound.class_named;
        ttl_fits = sound.ttl_fits;
        len_fits = omega (arith, ends, small);
        there = pieces_at-append Uncompressed grown (form (after s hs) ds) s.place hs (after s hs).place one.0;
      };
      rdata = record {
        of_type = sym sound.rdata.type_named;
        sound = sound.rdata;
        there = subst (λ (n : ℕ). PiecesAt Uncompressed (grown ++ form (after s hs) ds) (after s hs).place ds n) (sym ends) two.0;
      };
      ends = ends;
    })

record_law : Rereads plain_item IsSoundRecord ReadsRecord
record_law = record { stays = record_stays; again = record_again }

-- records are decoded where they were written
records_again : (bytes : List ℕ) (s : Position) (rs : List Record) → Stage bytes s → s.canonical ≡ false → AreWritable (all_pieces record_item s rs) → AllByRecursion IsSoundRecord rs → (after s (all_pieces record_item s rs)).place < 65536
    → Follow (ReadsRecord (bytes ++ form s (all_pieces record_item s rs))) s.place rs (after s (all_pieces record_item s rs)).place × Stage (bytes ++ form s (all_pieces record_item s rs)) (after s (all_pieces record_item s rs))
records_again bytes s rs stage canonical is sound small =
    let same = plain_all s rs canonical in
    subst (λ (ps : List Piece). Follow (ReadsRecord (bytes ++ form s ps)) s.place rs (after s ps).place × Stage (bytes ++ form s ps) (after s ps)) same
    (items_again plain_item IsSoundRecord ReadsRecord record_law bytes s rs stage (subst AreWritable (sym same) is) sound (subst (λ (ps : List Piece). (after s ps).place < 65536) (sym same) small))

-- what fits of a section is decoded as records again, and a stage follows
section_again : {X : Type 0} (pieces : X → Position → List Piece) (limit : ℕ) (bytes : List ℕ) (s : Position) (xs : List X) (rs : List Record) → all_pieces pieces s (fitting_prefix pieces limit s xs) ≡ all_pieces record_item s rs
    → Stage bytes s → s.canonical ≡ false → AreWritable (all_pieces pieces s (fitting_prefix pieces limit s xs)) → AllByRecursion IsSoundRecord rs → (position_behind pieces limit s xs).place < 65536
    → Follow (ReadsRecord (bytes ++ fitting_form pieces limit s xs)) s.place rs (position_behind pieces limit s xs).place × Stage (bytes ++ fitting_form pieces limit s xs) (position_behind pieces limit s xs)
section_again pieces limit bytes s xs rs same stage canonical is sound small =
    let ps : List Piece = all_pieces pieces s (fitting_prefix pieces limit s xs) in
    let again = records_again bytes s rs stage canonical (subst AreWritable same is) sound (subst (λ (qs : List Piece). (after s qs).place < 65536) same small) in
    let here : Follow (ReadsRecord (bytes ++ form s ps)) s.place rs (after s ps).place × Stage (bytes ++ form s ps) (after s ps) =
    subst (λ (qs : List Piece). Follow (ReadsRecord (bytes ++ form s qs)) s.place rs (after s qs).place × Stage (bytes ++ form s qs) (after s qs)) (sym same) again in
    (here.0, record { encoding = here.1.encoding; place = here.1.place; targets = here.1.targets })

-- ---- records in their places

plain_fault : (a : Option DecodeError) (o e u t p : Bool) → o ≡ false → (t && not e) ≡ false → (u || not e) ≡ true → cond o a (cond e (cond u None (Some InvalidEmptyRecord)) (cond (t && not p) (Some RecordNotInAdditionalSection) None)) ≡ None
plain_fault a true e u t p off tsig has = absurd (cc)
plain_fault a false true true t p off tsig has = refl
plain_fault a false true false t p off tsig has = absurd (cc)
plain_fault a false false u true p off tsig has = absurd (cc)
plain_fault a false false u false p off tsig has = refl

ordinary_fault : (setting : Setting) (r : Record) → IsSoundIn setting.is_update r → record_fault setting r ≡ None
ordinary_fault setting r s = plain_fault _ (is_opt r) (is_update_data r.rdata) setting.is_update (is_tsig_type (data_type r.rdata)) (setting.is_additional && setting.is_last) s.not_opt s.not_signature s.has_data

-- ordinary records, and then others
placed_then : (kind : SectionKind) (rs ts : List Record) (k : ℕ) → AllByRecursion (IsSoundIn kind.is_update) rs → AreWellPlaced kind false k ts → AreWellPlaced kind false (length rs + k) (rs ++ ts)
placed_then kind [] ts k sound more =
    let same : k ≡ 0 + k = omega arith in
    subst (λ (n : ℕ). AreWellPlaced kind false n ts) same more
placed_then kind (r ∷ rs) ts k sound more =
    let left : length rs + k ≡ (length (r ∷ rs) + k) - 1 = omega arith in
    let rest = placed_then kind rs ts k sound.1 more in (
      ordinary_fault (setting_of kind false (length (r ∷ rs) + k)) r sound.0,
      subst (λ (b : Bool). AreWellPlaced kind b ((length (r ∷ rs) + k) - 1) (rs ++ ts)) (sym sound.0.not_opt) (subst (λ (n : ℕ). AreWellPlaced kind false n (rs ++ ts)) left rest),
    )

pub placed : (kind : SectionKind) (rs : List Record) → AllByRecursion (IsSoundIn kind.is_update) rs → AreWellPlaced kind false (length rs) rs
placed kind rs sound =
    let h = placed_then kind rs [] 0 sound tt in
    let same : length rs + 0 ≡ length rs = omega arith in
    subst (λ (n : ℕ). AreWellPlaced kind false n rs) same (subst (λ (xs : List Record). AreWellPlaced kind false (length rs + 0) xs) (append-nil rs) h)

tsig_not_opt : (t : RecordType) → is_tsig_type t ≡ true → is_opt_type t ≡ false
tsig_not_opt types.TSIG e = refl
tsig_not_opt types.OPT e = absurd (cc)
tsig_not_opt other e = absurd (cc)

and-parts : (a b : Bool) → (a && b) ≡ true → (a ≡ true) × (b ≡ true)
and-parts true true e = (refl, refl)
and-parts true false e = absurd (cc)
and-parts false b e = absurd (cc)

pub signature_not_opt : (r : Record) → is_signature r ≡ true → is_opt r ≡ false
signature_not_opt r e = tsig_not_opt (data_type r.rdata) (and-parts (is_tsig_type (data_type r.rdata)) (not (is_update_data r.rdata)) e).0

last_fault : (a : Option DecodeError) (o e u t : Bool) → o ≡ false → (t && not e) ≡ true → cond o a (cond e (cond u None (Some InvalidEmptyRecord)) (cond (t && false) (Some RecordNotInAdditionalSection) None)) ≡ None
last_fault a true e u t off is = absurd (cc)
last_fault a false true u true off is = absurd (cc)
last_fault a false true u false off is = absurd (cc)
last_fault a false false u true off is = refl
last_fault a false false u false off is = refl

abbrev last_kind : Bool → SectionKind
last_kind is_update = record { is_update = is_update; is_additional = true }

signature_placed : (u has_edns : Bool) (r : Record) → is_signature r ≡ true → record_fault (setting_of (last_kind u) has_edns 1) r ≡ None
signature_placed u has_edns r e = last_fault _ (is_opt r) (is_update_data r.rdata) u (is_tsig_type (data_type r.rdata)) (signature_not_opt r e) e

-- an OPT record and a signature
abbrev pub tail_of : Option Edns → Option Record → List Record
tail_of found x = map opt_record (listed found) ++ listed x

tail_placed : (u : Bool) (found : Option Edns) (x : Option Record) → IfSome x IsSoundSignature → AreWellPlaced (last_kind u) false (length (listed found) + length (listed x)) (tail_of found x)
tail_placed u None None s = tt
tail_placed u (Some e) None s = (refl, tt)
tail_placed u None (Some r) s = (signature_placed u false r s.signature, tt)
tail_placed u (Some e) (Some r) s = (refl, (signature_placed u true r s.signature, tt))

-- ---- records, sorted

or-false : (a b : Bool) → a ≡ false → b ≡ false → not (a || b) ≡ true
or-false a b e f = rw (e, f) refl

or-true : (a b : Bool) → b ≡ true → not (a || b) ≡ false
or-true true b e = refl
or-true false b e = ap not e

module _ (u : Bool) where
  ordinary_then : (rs ts : List Record) → AllByRecursion (IsSoundIn u) rs → ordinary_records (rs ++ ts) ≡ rs ++ ordinary_records ts
  ordinary_then [] ts sound = refl
  ordinary_then (r ∷ rs) ts sound =
      ap (λ (b : Bool). cond b (r ∷ ordinary_records (rs ++ ts)) (ordinary_records (rs ++ ts))) (or-false (is_opt r) (is_signature r) sound.0.not_opt sound.0.not_signature)
      ∙ ap (λ (xs : List Record). r ∷ xs) (ordinary_then rs ts sound.1)

  find_opt_then : (rs ts : List Record) → AllByRecursion (IsSoundIn u) rs → find is_opt (rs ++ ts) ≡ find is_opt ts
  find_opt_then [] ts sound = refl
  find_opt_then (r ∷ rs) ts sound = ap (λ (b : Bool). cond b (Some r) (find is_opt (rs ++ ts))) sound.0.not_opt ∙ find_opt_then rs ts sound.1

  find_signature_then : (rs ts : List Record) → AllByRecursion (IsSoundIn u) rs → find is_signature (rs ++ ts) ≡ find is_signature ts
  find_signature_then [] ts sound = refl
  find_signature_then (r ∷ rs) ts sound = ap (λ (b : Bool). cond b (Some r) (find is_signature (rs ++ ts))) sound.0.not_signature ∙ find_signature_then rs ts sound.1

tail_ordinary : (found : Option Edns) (x : Option Record) → IfSome x IsSoundSignature → ordinary_records (tail_of found x) ≡ []
tail_ordinary None None s = refl
tail_ordinary (Some e) None s = refl
tail_ordinary None (Some r) s = ap (λ (b : Bool). cond b (r ∷ []) []) (or-true (is_opt r) (is_signature r) s.signature)
tail_ordinary (Some e) (Some r) s = ap (λ (b : Bool). cond b (r ∷ []) []) (or-true (is_opt r) (is_signature r) s.signature)

tail_edns : (found : Option Edns) (x : Option Record) → IfSome found IsSoundEdns → IfSome x IsSoundSignature → found ≡ edns_in (tail_of found x)
tail_edns None None se s = refl
tail_edns (Some e) None se s = ap (λ (f : Edns). Some f) (sym (edns_again e se))
tail_edns None (Some r) se s = ap (λ (b : Bool). option_map {T = Record} {U = Edns} edns_of (cond b (Some r) None)) (sym (signature_not_opt r s.signature))
tail_edns (Some e) (Some r) se s = ap (λ (f : Edns). Some f) (sym (edns_again e se))

tail_signature : (found : Option Edns) (x : Option Record) → IfSome x IsSoundSignature → x ≡ signature_in (tail_of found x)
tail_signature None None s = refl
tail_signature (Some e) None s = refl
tail_signature None (Some r) s = ap (λ (b : Bool). cond b (Some r) None) (sym s.signature)
tail_signature (Some e) (Some r) s = ap (λ (b : Bool). cond b (Some r) None) (sym s.signature)

tail_sound : (found : Option Edns) (x : Option Record) → IfSome found IsSoundEdns → IfSome x IsSoundSignature → AllByRecursion IsSoundRecord (map opt_record (listed found)) × AllByRecursion IsSoundRecord (listed x)
tail_sound None None se s = (tt, tt)
tail_sound (Some e) None se s = ((opt_sound e se, tt), tt)
tail_sound None (Some r) se s = (tt, (s.sound, tt))
tail_sound (Some e) (Some r) se s = ((opt_sound e se, tt), (s.sound, tt))

-- ---- what remains of a sound message is sound

sound_records : (u : Bool) (rs : List Record) → AllByRecursion (IsSoundIn u) rs → AllByRecursion IsSoundRecord rs
sound_records u [] s = tt
sound_records u (r ∷ rs) s = (s.0.sound, sound_records u rs s.1)

-- what holds of an item holds of it if it fits
some_fits : {X : Type 0} (P : X → Type 0) (pieces : X → Position → List Piece) (limit : ℕ) (s : Position) (found : Option X) → IfSome found P → IfSome (fitting_item pieces limit s found) P
some_fits P pieces limit s None h = tt
some_fits P pieces limit s (Some x) h = at (ltb limit (reach s (pieces x s)))
  where
    at : (b : Bool) → IfSome (cond b None (Some x)) P
    at true = tt
    at false = h

edns_pieces-same : (s : Position) (found : Option Edns) → all_pieces edns_item s (listed found) ≡ all_pieces record_item s (map opt_record (listed found))
edns_pieces-same s None = refl
edns_pieces-same s (Some e) = refl

-- ---- the whole message

pub decodes_again : (limit : ℕ) (m : Message) → limit < 65536 → front_reach m ≤ limit → AreWritable (queries_pieces m) → Writables limit m → IsSound m → ReadsMessage (cut_form limit m) (cut limit m)
decodes_again limit m small room asks is sound =
    let c : Message = cut limit m in
    let md : Metadata = c.metadata in
    let u : Bool = is_update_code m.metadata.op_code in
    let l : Message = remaining limit m in
    let h : List ℕ = header_of c in
    let f : Few limit m = few limit m room in
    let high : IfSome m.edns (λ e. e.rcode_high ≡ code_number m.metadata.response_code / 16) = high_bits m.edns sound.extended in
    let edns_sound : IfSome l.edns IsSoundEdns = some_fits IsSoundEdns edns_item limit (additionals_end limit m) (written_edns m) (subst (λ (x : Option Edns). IfSome x IsSoundEdns) (sym (written_edns_sound m sound)) sound.edns) in
    let edns_high : IfSome l.edns (λ e. e.rcode_high ≡ code_number m.metadata.response_code / 16) =
    some_fits (λ e. e.rcode_high ≡ code_number m.metadata.response_code / 16) edns_item limit (additionals_end limit m) (written_edns m) (subst (λ (x : Option Edns). IfSome x (λ e. e.rcode_high ≡ code_number m.metadata.response_code / 16)) (sym (written_edns_sound m sound)) high) in
    let signature_sound : IfSome l.signature IsSoundSignature = some_fits IsSoundSignature record_item limit (edns_end limit m) m.signature sound.signature in
    let tails = tail_sound l.edns l.signature edns_sound signature_sound in
    let answers_sound : AllByRecursion (IsSoundIn u) l.answers = fitting_prefix-each record_item (IsSoundIn u) limit (queries_end m) m.answers sound.answers in
    let authorities_sound : AllByRecursion (IsSoundIn u) l.authorities = fitting_prefix-each record_item (IsSoundIn u) limit (answers_end limit m) m.authorities sound.authorities in
    let additionals_sound : AllByRecursion (IsSoundIn u) l.additionals = fitting_prefix-each record_item (IsSoundIn u) limit (authorities_end limit m) m.additionals sound.additionals in
    let os : List Record = map opt_record (listed l.edns) in
    let gs : List Record = listed l.signature in
    let c0 : (queries_end m).canonical ≡ false = after-canonical header_end (queries_pieces m) in
    let c1 : (answers_end limit m).canonical ≡ false = after-canonical (queries_end m) (all_pieces record_item (queries_end m) l.answers) ∙ c0 in
    let c2 : (authorities_end limit m).canonical ≡ false = after-canonical (answers_end limit m) (all_pieces record_item (answers_end limit m) l.authorities) ∙ c1 in
    let c3 : (additionals_end limit m).canonical ≡ false = after-canonical (authorities_end limit m) (all_pieces record_item (authorities_end limit m) l.additionals) ∙ c2 in
    let c4 : (edns_end limit m).canonical ≡ false = after-canonical (additionals_end limit m) (all_pieces edns_item (additionals_end limit m) (fitting_prefix edns_item limit (additionals_end limit m) (listed (written_edns m)))) ∙ c3 in
    let opts : all_pieces edns_item (additionals_end limit m) (fitting_prefix edns_item limit (additionals_end limit m) (listed (written_edns m))) ≡ all_pieces record_item (additionals_end limit m) os =
    ap (λ (es : List Edns). all_pieces edns_item (additionals_end limit m) es) (sym (fitting-one edns_item limit (additionals_end limit m) (written_edns m))) ∙ edns_pieces-same (additionals_end limit m) l.edns in
    let signs : all_pieces record_item (edns_end limit m) (fitting_prefix record_item limit (edns_end limit m) (listed m.signature)) ≡ all_pieces record_item (edns_end limit m) gs =
    ap (λ (xs : List Record). all_pieces record_item (edns_end limit m) xs) (sym (fitting-one record_item limit (edns_end limit m) m.signature)) in
    let stage0 : Stage h header_end = record { encoding = refl; place = refl; targets = tt } in
    let q = items_again query_item IsSoundQuery ReadsQuestion question_law h header_end m.queries stage0 asks sound.queries (omega (arith, f.queries_place, small)) in
    let a = section_again record_item limit (bytes0 h m) (queries_end m) m.answers l.answers refl q.1 c0 is.answers (sound_records u l.answers answers_sound) (omega (arith, f.answers_place, small)) in
    let n = section_again record_item limit (bytes1 h limit m) (answers_end limit m) m.authorities l.authorities refl a.1 c1 is.authorities (sound_records u l.authorities authorities_sound) (omega (arith, f.authorities_place, small)) in
    let d = section_again record_item limit (bytes2 h limit m) (authorities_end limit m) m.additionals l.additionals refl n.1 c2 is.additionals (sound_records u l.additionals additionals_sound) (omega (arith, f.additionals_place, small)) in
    let o = section_again edns_item limit (bytes3 h limit m) (additionals_end limit m) (listed (written_edns m)) os opts d.1 c3 is.edns tails.0 (omega (arith, f.edns_place, small)) in
    let g = section_again record_item limit (bytes4 h limit m) (edns_end limit m) (listed m.signature) gs signs o.1 c4 is.signature tails.1 (omega (arith, f.end, small)) in
    let x1 : List ℕ = fitting_form record_item limit (queries_end m) m.answers in
    let x2 : List ℕ = fitting_form record_item limit (answers_end limit m) m.authorities in
    let x3 : List ℕ = fitting_form record_item limit (authorities_end limit m) m.additionals in
    let x4 : List ℕ = fitting_form edns_item limit (additionals_end limit m) (listed (written_edns m)) in
    let x5 : List ℕ = fitting_form record_item limit (edns_end limit m) (listed m.signature) in
    let stayq = follow_stays ReadsQuestion question_law.stays in
    let stayr = follow_stays ReadsRecord record_stays in
    let p0 : ℕ = (queries_end m).place in
    let p1 : ℕ = (answers_end limit m).place in
    let p2 : ℕ = (authorities_end limit m).place in
    let p3 : ℕ = (additionals_end limit m).place in
    let p4 : ℕ = (edns_end limit m).place in
    let p5 : ℕ = (position_behind record_item limit (edns_end limit m) (listed m.signature)).place in
    let all : List ℕ = bytes5 h limit m in
    let head : BytesAt all 0 h 12 = subst (λ (b : List ℕ). BytesAt b 0 h 12) (sym (grouped h limit m)) (record { ends = refl; within = omega (arith); there = refl }) in
    let d5 : Follow (ReadsRecord all) p2 l.additionals p3 = stayr (bytes4 h limit m) x5 p2 p3 l.additionals (stayr (bytes3 h limit m) x4 p2 p3 l.additionals d.0) in
    let o5 : Follow (ReadsRecord all) p3 os p4 = stayr (bytes4 h limit m) x5 p3 p4 os o.0 in
    let last : List Record = l.additionals ++ tail_of l.edns l.signature in
    subst (λ (b : List ℕ). ReadsMessage b c) (grouped h limit m)
    (record {
      head = record {
        metadata = in_header md;
        counts = record { queries = length m.queries; answers = length l.answers; authorities = length l.authorities; additionals = last_count l };
      };
      header = record {
        third = third_byte md;
        fourth = fourth_byte md;
        id_fits = sound.metadata.id_fits;
        there = head;
        metadata = metadata_in_header md sound.metadata.op_fits sound.metadata.op_named;
        counts_fit = record {
          queries = omega (arith, f.queries, small);
          answers = omega (arith, f.answers, small);
          authorities = omega (arith, f.authorities, small);
          additionals = omega (arith, f.last, small);
        };
      };
      queries_end = p0;
      queries = record {
        queries = stayq (bytes4 h limit m) x5 12 p0 m.queries (stayq (bytes3 h limit m) x4 12 p0 m.queries (stayq (bytes2 h limit m) x3 12 p0 m.queries (stayq (bytes1 h limit m) x2 12 p0 m.queries (stayq (bytes0 h m) x1 12 p0 m.queries q.0))));
        count_is = refl;
      };
      answers_end = p1;
      answers = record {
        records = stayr (bytes4 h limit m) x5 p0 p1 l.answers (stayr (bytes3 h limit m) x4 p0 p1 l.answers (stayr (bytes2 h limit m) x3 p0 p1 l.answers (stayr (bytes1 h limit m) x2 p0 p1 l.answers a.0)));
        count_is = refl;
        placed = placed (record { is_update = u; is_additional = false }) l.answers answers_sound;
      };
      authorities_end = p2;
      authorities = record {
        records = stayr (bytes4 h limit m) x5 p1 p2 l.authorities (stayr (bytes3 h limit m) x4 p1 p2 l.authorities (stayr (bytes2 h limit m) x3 p1 p2 l.authorities n.0));
        count_is = refl;
        placed = placed (record { is_update = u; is_additional = false }) l.authorities authorities_sound;
      };
      last = last;
      end = p5;
      additionals = record {
        records = follow_join (ReadsRecord all) p2 p3 p5 l.additionals (tail_of l.edns l.signature) d5 (follow_join (ReadsRecord all) p3 p4 p5 os gs o5 g.0);
        count_is = last_len l.additionals l.edns l.signature;
        placed = placed_then (last_kind u) l.additionals (tail_of l.edns l.signature) (length (listed l.edns) + length (listed l.signature)) additionals_sound (tail_placed u l.edns l.signature signature_sound);
      };
      ordinary = sym (ordinary_then u l.additionals (tail_of l.edns l.signature) additionals_sound ∙ ap (λ (xs : List Record). l.additionals ++ xs) (tail_ordinary l.edns l.signature signature_sound) ∙ append-nil l.additionals);
      edns = tail_edns l.edns l.signature edns_sound signature_sound ∙ ap (λ (x : Option Record). option_map {T = Record} {U = Edns} edns_of x) (sym (find_opt_then u l.additionals (tail_of l.edns l.signature) additionals_sound));
      signature = tail_signature l.edns l.signature signature_sound ∙ sym (find_signature_then u l.additionals (tail_of l.edns l.signature) additionals_sound);
      metadata = code_again md l.edns m.metadata.response_code sound.metadata.code_fits sound.metadata.code_named edns_high refl;
    })
  where
    high_bits : (found : Option Edns) → IsExtendedBy found m.metadata.response_code → IfSome found (λ e. e.rcode_high ≡ code_number m.metadata.response_code / 16)
    high_bits None x = tt
    high_bits (Some e) x = x

    last_len : (rs : List Record) (found : Option Edns) (x : Option Record) → length (rs ++ tail_of found x) ≡ length rs + (length (listed found) + length (listed x))
    last_len rs None None = length-append rs []
    last_len rs (Some e) None = length-append rs (opt_record e ∷ [])
    last_len rs None (Some r) = length-append rs (r ∷ [])
    last_len rs (Some e) (Some r) = length-append rs (opt_record e ∷ r ∷ [])
