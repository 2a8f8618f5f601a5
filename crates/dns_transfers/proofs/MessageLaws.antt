-- The messages of a transfer: their length, and that they are sound.
use Rattle.std.proofs.Common.{◌≡◌, ◌<◌, ◌≤◌, ◌+◌, ◌-◌, ◌∙◌, Bool, false, List, [], ◌∷◌, length, refl, sym, ap, subst, arith, lit<, Option, Some, None, option_map}
use Rattle.std.specs.Prelude.{IfSome}
use Rattle.std.specs.List.{AllByRecursion}
use Rattle.dns_wire.specs.Name.{name_len}
use Rattle.dns_wire.specs.Encodable.{Plain, reach, start_position}
use Rattle.dns_wire.specs.Items.{all_pieces}
use Rattle.dns_wire.proofs.SectionLaws.{reach-most}
use Rattle.dns_messages.specs.declared.edns.Edns.{Edns}
use Rattle.dns_messages.specs.declared.query.Query.{Query}
use Rattle.dns_messages.specs.declared.message.Message.{Message}
use Rattle.dns_messages.specs.Cut.{cut, edns_item, header_end, items_len, listed, query_item, record_item, twelve_zeros, uncompressed_len}
use Rattle.dns_messages.specs.Edns.{IsSoundEdns}
use Rattle.dns_messages.specs.Sound.{IsSound, IsSoundIn, is_update_code}
use Rattle.dns_messages.proofs.FitLaws.{uncut}
use Rattle.dns_records.specs.Record.{Record}
use Rattle.dns_message_bytes.proofs.SizeLaws.{edns-len, query-len}
use Rattle.dns_transfers.specs.Message.{edns_of, first_message, with_answers}
use Rattle.dns_transfers.specs.Sending.{Sending, next_records, room_of}
use Rattle.dns_transfers.proofs.RecordLaws.{front_within, room_positive}

-- ---- lengths

-- header and question fit
pub front_fits : (queries : List Query) → length queries ≤ 1 → AllByRecursion (λ q. name_len q.name.labels ≤ 255) queries
    → reach start_position (Plain twelve_zeros ∷ all_pieces query_item header_end queries) ≤ 65535
front_fits [] few short = omega (arith, reach-most start_position (Plain twelve_zeros ∷ all_pieces query_item header_end []))
front_fits (q ∷ []) few short = omega (arith, reach-most start_position (Plain twelve_zeros ∷ all_pieces query_item header_end (q ∷ [])), short.0)
front_fits (q ∷ r ∷ more) few short = absurd (omega (arith, few))

pub only_item : {A : Type 0} (xs : List A) (x : A) → 1 ≤ length xs → length xs < 2 → x ≡ Rattle.std.proofs.Common.get_or xs 0 x → xs ≡ x ∷ []
only_item [] x least below e = absurd (omega (arith, least))
only_item {A} (y ∷ []) x least below e = ap (λ (z : A). z ∷ []) (sym e)
only_item (y ∷ z ∷ more) x least below e = absurd (omega (arith, below))

pub no_item : {A : Type 0} (xs : List A) → length xs ≤ 1 → (length xs ≡ 1 → ⊥) → xs ≡ []
no_item [] few none = refl
no_item (x ∷ []) few none = absurd (none refl)
no_item (x ∷ y ∷ more) few none = absurd (omega (arith, few))

pub one_query_len : (queries : List Query) (q : Query) → queries ≡ q ∷ [] → items_len query_item queries ≡ name_len q.name.labels + 4
one_query_len queries q e = omega (arith, ap (items_len query_item) e, query-len q)

-- the length of an OPT record without options
pub opt_len : (dnssec_ok : Option Bool) (flag : Bool) → dnssec_ok ≡ Some flag → items_len edns_item (listed (edns_of dnssec_ok)) ≡ 11
opt_len dnssec_ok flag e =
    ap (λ (x : Option Bool). items_len edns_item (listed (edns_of x))) e ∙ edns-len (edns_of (Some flag)) _ refl

pub no_opt_len : (dnssec_ok : Option Bool) → dnssec_ok ≡ None → items_len edns_item (listed (edns_of dnssec_ok)) ≡ 0
no_opt_len dnssec_ok e = ap (λ (x : Option Bool). items_len edns_item (listed (edns_of x))) e

-- a message has no records yet
pub record IsEmpty (m : Message) : Type 0 where
  pub answers : m.answers ≡ []
  pub sound : IsSound m
  pub is_query : is_update_code m.metadata.op_code ≡ false

-- a message whose records have room is within the limit without compression
has_room : (s : Sending) → s.message.answers ≡ [] → 0 < length (next_records s) → uncompressed_len (with_answers s.message (next_records s)) ≤ 65535
has_room s none some =
    omega (arith, room_positive (room_of s) s.records some, front_within (room_of s) s.records, ap (items_len record_item) none)

-- nothing of it is dropped
pub message_uncut : (s : Sending) → s.message.answers ≡ [] → 0 < length (next_records s) → IsSound (with_answers s.message (next_records s))
    → cut 65535 (with_answers s.message (next_records s)) ≡ with_answers s.message (next_records s)
message_uncut s none some sound = uncut 65535 (with_answers s.message (next_records s)) sound (has_room s none some)

-- ---- sound messages

pub with_records : (m : Message) (records : List Record) → IsEmpty m → AllByRecursion (IsSoundIn false) records → IsSound (with_answers m records)
with_records m records is all = record {
  metadata = is.sound.metadata;
  queries = is.sound.queries;
  answers = subst (λ (update : Bool). AllByRecursion (IsSoundIn update) records) (sym is.is_query) all;
  authorities = is.sound.authorities;
  additionals = is.sound.additionals;
  edns = is.sound.edns;
  extended = is.sound.extended;
  signature = is.sound.signature;
}

pub without_question : (m : Message) → IsEmpty m → IsEmpty (record m { queries = [] })
without_question m is = record {
  answers = is.answers;
  sound = record {
    metadata = is.sound.metadata;
    queries = tt;
    answers = is.sound.answers;
    authorities = is.sound.authorities;
    additionals = is.sound.additionals;
    edns = is.sound.edns;
    extended = is.sound.extended;
    signature = is.sound.signature;
  };
  is_query = is.is_query;
}

edns_sound : (dnssec_ok : Option Bool) → IfSome (edns_of dnssec_ok) IsSoundEdns
edns_sound None = tt
edns_sound (Some flag) = record {
  rcode_fits = lit< tt;
  version_fits = lit< tt;
  z_fits = lit< tt;
  payload_least = omega arith;
  payload_fits = lit< tt;
  options = record { values = (tt, tt); fields = refl; type_fits = lit< tt; type_named = refl; fits = lit< tt };
}

pub first_sound : (request : Message) → IsSound request → IsEmpty (first_message request)
first_sound request sound = record {
  answers = refl;
  sound = record {
    metadata = record { id_fits = sound.metadata.id_fits; op_fits = lit< tt; op_named = refl; code_fits = lit< tt; code_named = refl };
    queries = sound.queries;
    answers = tt;
    authorities = tt;
    additionals = tt;
    edns = edns_sound (option_map {T = Edns} {U = Bool} (λ e. e.flags.dnssec_ok) request.edns);
    extended = extended_sound (option_map {T = Edns} {U = Bool} (λ e. e.flags.dnssec_ok) request.edns);
    signature = tt;
  };
  is_query = refl;
}
  where
    extended_sound : (dnssec_ok : Option Bool) → Rattle.dns_messages.specs.Sound.IsExtendedBy (edns_of dnssec_ok) Rattle.dns_messages.specs.declared.response_code.ResponseCode.TheVariants.NoError
    extended_sound None = lit< tt
    extended_sound (Some flag) = refl
