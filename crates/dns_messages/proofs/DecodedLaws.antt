-- A message that is decoded is sound.
use Rattle.std.proofs.Common.{◌≡◌, ◌==◌, ◌||◌, ◌+◌, ◌-◌, ◌*◌, ◌/◌, ◌%◌, ◌<◌, ◌^◌, not, max, Bool, true, false, ℕ, List, [], ◌∷◌, Option, Some, None, refl, sym, ap, subst, ◌∙◌, arith}
use Rattle.std.specs.Prelude.{if◌then◌else◌, IfSome, option_map}
use Rattle.std.specs.List.{find, AllByRecursion}
use Rattle.std.proofs.lemmas.Bool.{eqb-true}
use Rattle.dns_wire.specs.declared.codes.record_type.RecordType.{RecordType}
use Rattle.dns_wire.specs.declared.codes.record_type.RecordType.TheVariants as types
use Rattle.dns_wire.specs.declared.codes.dns_class.DNSClass.{DNSClass}
use Rattle.dns_wire.specs.declared.codes.dns_class.DNSClass.TheVariants as classes
use Rattle.dns_wire.specs.codes.DNSClass.{class_number, class_of}
use Rattle.dns_wire.specs.Decodable.{Follow}
use Rattle.dns_data.specs.Field.{Opaque}
use Rattle.dns_data.specs.rdata.{data_type, kinds_of_type, IsSoundData}
use Rattle.dns_data.specs.declared.rdata.RData.{RData}
use Rattle.dns_data.specs.declared.rdata.RData.TheVariants as of
use Rattle.dns_records.specs.RecordHead.{class_for}
use Rattle.dns_records.specs.Record.{Record, ReadsRecord, IsSoundRecord}
use Rattle.dns_messages.specs.declared.edns.Edns.{Edns}
use Rattle.dns_messages.specs.declared.op_code.OpCode.{OpCode}
use Rattle.dns_messages.specs.declared.op_code.OpCode.TheVariants as ops
use Rattle.dns_messages.specs.declared.response_code.ResponseCode.{ResponseCode}
use Rattle.dns_messages.specs.declared.response_code.ResponseCode.TheVariants as codes
use Rattle.dns_messages.specs.declared.header.Metadata.{Metadata}
use Rattle.dns_messages.specs.declared.header.Header.{Header}
use Rattle.dns_messages.specs.declared.query.Query.{Query}
use Rattle.dns_messages.specs.declared.message.Message.{Message}
use Rattle.dns_messages.specs.Header.{op_number, op_of, code_number, code_of, DecodesHeader}
use Rattle.dns_messages.specs.Edns.{edns_of, options_of, IsSoundEdns}
use Rattle.dns_messages.specs.Section.{SectionKind, setting_of, is_opt_type, is_opt, is_signature, record_fault, AreWellPlaced, ReadsSection, ordinary_records, edns_in, signature_in}
use Rattle.dns_messages.specs.Sound.{IsSoundMetadata, IsSoundQuery, IsSoundIn, IsExtendedBy, IsSoundSignature, IsSound, is_update_code}
use Rattle.dns_messages.specs.Grammar.{ReadsQuestion, section_kind, additional_kind, extended, ReadsMessage}
use Rattle.dns_messages.proofs.PlacementLaws.{data_there, plain_section}

-- ---- codes

module _ {X : Type 0} (number : X → ℕ) where
  -- a number that is asked for, or one of those behind it
  step : (n k : ℕ) (x y : X) → number x ≡ k → number y ≡ n → number (if n == k then x else y) ≡ n
  step n k x y e rest = by (n == k) (λ f. e ∙ sym (eqb-true n k f)) rest
    where
      by : (b : Bool) → (b ≡ true → number x ≡ n) → number y ≡ n → number (if b then x else y) ≡ n
      by true here rest = here refl
      by false here rest = rest

pub op_again : (n : ℕ) → op_number (op_of n) ≡ n
op_again n = step op_number n 0 ops.Query _ refl (step op_number n 2 ops.Status _ refl (step op_number n 4 ops.Notify _ refl (step op_number n 5 ops.Update _ refl refl)))

pub code_numbered : (n : ℕ) → code_number (code_of n) ≡ n
code_numbered n =
    step code_number n 0 codes.NoError _ refl (step code_number n 1 codes.FormErr _ refl (step code_number n 2 codes.ServFail _ refl (step code_number n 3 codes.NXDomain _ refl (
    step code_number n 4 codes.NotImp _ refl (step code_number n 5 codes.Refused _ refl (step code_number n 6 codes.YXDomain _ refl (step code_number n 7 codes.YXRRSet _ refl (
    step code_number n 8 codes.NXRRSet _ refl (step code_number n 9 codes.NotAuth _ refl (step code_number n 10 codes.NotZone _ refl (step code_number n 16 codes.BADSIG _ refl (
    step code_number n 17 codes.BADKEY _ refl (step code_number n 18 codes.BADTIME _ refl (step code_number n 19 codes.BADMODE _ refl (step code_number n 20 codes.BADNAME _ refl (
    step code_number n 21 codes.BADALG _ refl (step code_number n 22 codes.BADTRUNC _ refl (step code_number n 23 codes.BADCOOKIE _ refl refl))))))))))))))))))

-- ---- metadata

-- the response code of a header has four bits
pub header_code : (bytes : List ℕ) (place : ℕ) (h : Header) (end : ℕ) → DecodesHeader bytes place h end → code_number h.metadata.response_code < 16
header_code bytes place h end r =
    let code : h.metadata.response_code ≡ code_of (r.fourth % 16) = ap (λ (m : Metadata). m.response_code) r.metadata in
    omega (arith, ap code_number code, code_numbered (r.fourth % 16))

header_sound : (bytes : List ℕ) (place : ℕ) (h : Header) (end : ℕ) → DecodesHeader bytes place h end → IsSoundMetadata h.metadata
header_sound bytes place h end r =
    let code : h.metadata.response_code ≡ code_of (r.fourth % 16) = ap (λ (m : Metadata). m.response_code) r.metadata in
    let op : h.metadata.op_code ≡ op_of ((r.third / 8) % 16) = ap (λ (m : Metadata). m.op_code) r.metadata in
    record {
      id_fits = r.id_fits;
      op_fits = omega (arith, ap op_number op, op_again ((r.third / 8) % 16));
      op_named = ap (λ (x : OpCode). op_of (op_number x)) op ∙ ap op_of (op_again ((r.third / 8) % 16)) ∙ sym op;
      code_fits = omega (arith, header_code bytes place h end r);
      code_named = ap (λ (x : ResponseCode). code_of (code_number x)) code ∙ ap code_of (code_numbered (r.fourth % 16)) ∙ sym code;
    }

extended_sound : (o : Option Edns) (m : Metadata) → IsSoundMetadata m → code_number m.response_code < 16 → IfSome o IsSoundEdns → IsSoundMetadata (extended o m)
extended_sound None m s low e = s
extended_sound (Some edns) m s low e = record {
  id_fits = s.id_fits;
  op_fits = s.op_fits;
  op_named = s.op_named;
  code_fits = omega (arith, low, e.rcode_fits, code_numbered (16 * edns.rcode_high + code_number m.response_code));
  code_named = ap code_of (code_numbered (16 * edns.rcode_high + code_number m.response_code));
}

extended_by : (o : Option Edns) (m : Metadata) → code_number m.response_code < 16 → IsExtendedBy o (extended o m).response_code
extended_by None m low = low
extended_by (Some edns) m low = omega (arith, low, code_numbered (16 * edns.rcode_high + code_number m.response_code))

-- ---- questions

queries_sound : (bytes : List ℕ) (place : ℕ) (qs : List Query) (end : ℕ) → Follow (ReadsQuestion bytes) place qs end → AllByRecursion IsSoundQuery qs
queries_sound bytes place [] end f = tt
queries_sound bytes place (q ∷ qs) end f = (f.1.sound, queries_sound bytes f.0 qs end f.2)

-- ---- OPT records

opt_class : (t : RecordType) (n : ℕ) → is_opt_type t ≡ true → class_number (class_for t n) ≡ max n 512
opt_class types.OPT n e = refl
opt_class t n e = absurd (cc)

opt_only : (t : RecordType) → is_opt_type t ≡ true → t ≡ types.OPT
opt_only types.OPT e = refl
opt_only t e = absurd (cc)

opt_data : (d : RData) → IsSoundData d → is_opt_type (data_type d) ≡ true → IsSoundData (of.OPT (options_of d))
opt_data (of.A a) s e = absurd (cc)
opt_data (of.AAAA a) s e = absurd (cc)
opt_data (of.CNAME c) s e = absurd (cc)
opt_data (of.NS n) s e = absurd (cc)
opt_data (of.PTR p) s e = absurd (cc)
opt_data (of.MX m) s e = absurd (cc)
opt_data (of.SOA a) s e = absurd (cc)
opt_data (of.SRV v) s e = absurd (cc)
opt_data (of.TXT strings) s e = absurd (cc)
opt_data (of.OPT options) s e = s
opt_data (of.Update0 t) s e = absurd (s.fields (opt_only t e))
opt_data (of.Unknown code opaque) s e =
    let fields : Opaque ∷ [] ≡ kinds_of_type types.OPT = s.fields ∙ ap kinds_of_type (opt_only code e) in
    absurd (cc)

edns_sound : (bytes : List ℕ) (place : ℕ) (r : Record) (end : ℕ) → ReadsRecord bytes place r end → is_opt r ≡ true → IsSoundEdns (edns_of r)
edns_sound bytes place r end h opt =
    let payload : class_number r.dns_class ≡ max h.head.class 512 = ap class_number h.head.class_named ∙ opt_class (data_type r.rdata) h.head.class opt in
    record {
      rcode_fits = omega (arith, h.head.ttl_fits);
      version_fits = omega arith;
      z_fits = omega arith;
      payload_least = omega (arith, payload);
      payload_fits = omega (arith, payload, h.head.class_fits);
      options = opt_data r.rdata h.rdata.sound opt;
    }

-- ---- records

-- every class round-trips through its number
abbrev pub RoundTrips : Type 0
RoundTrips = (number : ℕ) → class_number (class_of number) ≡ number

module _ (again : RoundTrips) where
  class_below : (t : RecordType) (n : ℕ) → n < 2 ^ 16 → class_number (class_for t n) < 2 ^ 16
  class_below types.OPT n fits = omega (arith, fits)
  class_below t n fits = omega (arith, fits, again n)

  class_again : (t : RecordType) (n : ℕ) → class_for t (class_number (class_for t n)) ≡ class_for t n
  class_again types.OPT n = ap classes.OPT (omega arith)
  class_again t n = ap class_of (again n)

  record_sound : (bytes : List ℕ) (place : ℕ) (r : Record) (end : ℕ) → ReadsRecord bytes place r end → IsSoundRecord r
  record_sound bytes place r end h = record {
    fqdn = h.head.fqdn;
    class_fits = subst (λ (k : DNSClass). class_number k < 2 ^ 16) (sym h.head.class_named) (class_below (data_type r.rdata) h.head.class h.head.class_fits);
    class_named = ap (λ (k : DNSClass). class_for (data_type r.rdata) (class_number k)) h.head.class_named ∙ class_again (data_type r.rdata) h.head.class ∙ sym h.head.class_named;
    ttl_fits = h.head.ttl_fits;
    rdata = h.rdata.sound;
  }

  sound_in : (bytes : List ℕ) (kind : SectionKind) (has : Bool) (left place : ℕ) (r : Record) (end : ℕ) → ReadsRecord bytes place r end → record_fault (setting_of kind has left) r ≡ None → is_opt r ≡ false → is_signature r ≡ false → IsSoundIn kind.is_update r
  sound_in bytes kind has left place r end reads placed no_opt unsigned = record {
    sound = record_sound bytes place r end reads;
    not_opt = no_opt;
    not_signature = unsigned;
    has_data = data_there (setting_of kind has left) r placed no_opt;
  }

  -- the ordinary records of a section
  ordinary_sound : (bytes : List ℕ) (kind : SectionKind) (has : Bool) (left place : ℕ) (rs : List Record) (end : ℕ) → Follow (ReadsRecord bytes) place rs end → AreWellPlaced kind has left rs → AllByRecursion (IsSoundIn kind.is_update) (ordinary_records rs)
  ordinary_sound bytes kind has left place [] end f placed = tt
  ordinary_sound bytes kind has left place (r ∷ rs) end f placed =
      by (is_opt r) (is_signature r) refl refl (ordinary_sound bytes kind (has || is_opt r) (left - 1) f.0 rs end f.2 placed.1)
    where
      by : (o g : Bool) → is_opt r ≡ o → is_signature r ≡ g → AllByRecursion (IsSoundIn kind.is_update) (ordinary_records rs) → AllByRecursion (IsSoundIn kind.is_update) (if not (o || g) then r ∷ ordinary_records rs else ordinary_records rs)
      by true g e e' rest = rest
      by false true e e' rest = rest
      by false false e e' rest = (sound_in bytes kind has left place r f.0 f.1 placed.0 e e', rest)

  plain_sound : (bytes : List ℕ) (kind : SectionKind) (place count : ℕ) (rs : List Record) (end : ℕ) → kind.is_additional ≡ false → ReadsSection bytes kind place count rs end → AllByRecursion (IsSoundIn kind.is_update) rs
  plain_sound bytes kind place count rs end plain s =
      subst (AllByRecursion (IsSoundIn kind.is_update)) (plain_section kind false count rs plain s.placed) (ordinary_sound bytes kind false count place rs end s.records s.placed)

  edns_in_sound : (bytes : List ℕ) (place : ℕ) (rs : List Record) (end : ℕ) → Follow (ReadsRecord bytes) place rs end → IfSome (edns_in rs) IsSoundEdns
  edns_in_sound bytes place [] end f = tt
  edns_in_sound bytes place (r ∷ rs) end f = by (is_opt r) refl (edns_in_sound bytes f.0 rs end f.2)
    where
      by : (o : Bool) → is_opt r ≡ o → IfSome (edns_in rs) IsSoundEdns → IfSome (option_map edns_of (if o then Some r else find is_opt rs)) IsSoundEdns
      by true e rest = edns_sound bytes place r f.0 f.1 e
      by false e rest = rest

  signature_sound : (bytes : List ℕ) (place : ℕ) (rs : List Record) (end : ℕ) → Follow (ReadsRecord bytes) place rs end → IfSome (signature_in rs) IsSoundSignature
  signature_sound bytes place [] end f = tt
  signature_sound bytes place (r ∷ rs) end f = by (is_signature r) refl (signature_sound bytes f.0 rs end f.2)
    where
      by : (g : Bool) → is_signature r ≡ g → IfSome (signature_in rs) IsSoundSignature → IfSome (if g then Some r else find is_signature rs) IsSoundSignature
      by true e rest = record { sound = record_sound bytes place r f.0 f.1; signature = e }
      by false e rest = rest

  -- ---- messages

  op_kept : (o : Option Edns) (m : Metadata) → (extended o m).op_code ≡ m.op_code
  op_kept None m = refl
  op_kept (Some edns) m = refl

  pub message_sound : (bytes : List ℕ) (m : Message) → ReadsMessage bytes m → IsSound m
  message_sound bytes m r =
      let update : is_update_code r.head.metadata.op_code ≡ is_update_code m.metadata.op_code = sym (ap (λ (x : Metadata). is_update_code x.op_code) r.metadata ∙ ap is_update_code (op_kept m.edns r.head.metadata)) in
      let low = header_code bytes 0 r.head 12 r.header in
      let edns : IfSome m.edns IsSoundEdns = subst (λ (o : Option Edns). IfSome o IsSoundEdns) (sym r.edns) (edns_in_sound bytes r.authorities_end r.last r.end r.additionals.records) in
      let all : (rs : List Record) → AllByRecursion (IsSoundIn (is_update_code r.head.metadata.op_code)) rs → AllByRecursion (IsSoundIn (is_update_code m.metadata.op_code)) rs = λ rs h. subst (λ (b : Bool). AllByRecursion (IsSoundIn b) rs) update h in
      record {
        metadata = subst IsSoundMetadata (sym r.metadata) (extended_sound m.edns r.head.metadata (header_sound bytes 0 r.head 12 r.header) low edns);
        queries = queries_sound bytes 12 m.queries r.queries_end r.queries.queries;
        answers = all m.answers (plain_sound bytes (section_kind r.head) r.queries_end r.head.counts.answers m.answers r.answers_end refl r.answers);
        authorities = all m.authorities (plain_sound bytes (section_kind r.head) r.answers_end r.head.counts.authorities m.authorities r.authorities_end refl r.authorities);
        additionals = all m.additionals (subst (AllByRecursion (IsSoundIn (is_update_code r.head.metadata.op_code))) (sym r.ordinary) (ordinary_sound bytes (additional_kind r.head) false r.head.counts.additionals r.authorities_end r.last r.end r.additionals.records r.additionals.placed));
        edns = edns;
        extended = subst (λ (x : Metadata). IsExtendedBy m.edns x.response_code) (sym r.metadata) (extended_by m.edns r.head.metadata low);
        signature = subst (λ (o : Option Record). IfSome o IsSoundSignature) (sym r.signature) (signature_sound bytes r.authorities_end r.last r.end r.additionals.records);
      }
