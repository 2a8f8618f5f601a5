-- Answers with more records than fit.
use Rattle.std.proofs.Common.{◌≡◌, ◌<◌, ◌≤◌, ◌+◌, ◌-◌, ◌*◌, ◌||◌, Bool, true, false, not, ℕ, List, [], ◌∷◌, length, take, max, refl, sym, ap, ◌∙◌, subst, arith, length-append, Option, Some, None, option_map}
use Rattle.std.specs.Prelude.{IfOk, Result, Ok, Err}
use Rattle.std.proofs.lemmas.Bool.{ltb-false}
use Rattle.std.proofs.lemmas.List.{length-take, take_all}
use Rattle.std.specs.Int.{w16, w32, to_be_bytes}
use Rattle.dns_wire.specs.codes.DNSClass.{class_number}
use Rattle.dns_wire.specs.codes.RecordType.{type_number}
use Rattle.dns_data.specs.rdata.{data_pieces, data_type}
use Rattle.dns_messages.specs.Cut.{answers_end, is_shorter, listed, queries_end, record_item, remaining}
use Rattle.dns_messages.specs.Encoding.{Encodes}
use Rattle.dns_messages.specs.Message.{truncated}
use Rattle.dns_messages.specs.declared.message.Message.{Message}
use Rattle.dns_records.specs.Record.{Record, data_len}
use Rattle.dns_wire.specs.Encodable.{Piece, Plain, Domain, Position, after, form, name_form, piece_next}
use Rattle.dns_wire.specs.Items.{all_pieces, fitting_prefix}
use Rattle.dns_wire.specs.internal.Sections.{position_behind}
use Rattle.dns_wire.proofs.PieceLaws.{after-append, after-place, name_form-some}
use Rattle.dns_wire.proofs.SectionLaws.{after-reach, reach-fitting_prefix}
use Rattle.dns_zone.specs.Rows.{ZoneContent}
use Rattle.dns_authority.specs.declared.answer.AuthorityAnswer.{AuthorityAnswer}
use Rattle.dns_authority.specs.Additional.{with_additionals}
use Rattle.dns_authority.specs.Front.{first_records}
use Rattle.dns_authority.specs.replies.Reply.{reply_with}
use Rattle.dns_authority.specs.replies.Sending.{sections_fit, sent}
use Rattle.dns_authority.specs.replies.TooMany.{record_count, too_many_records, IsReplyToLong}
use Rattle.dns_authority.proofs.SendingLaws.{sent_truncated}

-- ---- outcomes

pub if_ok : {A E : Type 0} (r : Result A E) (P Q : A → Type 0) → IfOk r P → ((x : A) → P x → Q x) → IfOk r Q
if_ok (Ok x) P Q holds leads = leads x holds
if_ok (Err e) P Q holds leads = tt

-- ---- the bytes of records

-- a record has eleven bytes at least
record-bytes : (r : Record) (s : Position) → 11 ≤ length (form s (record_item r s))
record-bytes r s =
    let next : Position = piece_next s (Domain r.name.labels) in
    let rest : List Piece =
    Plain (to_be_bytes w16 (type_number (data_type r.rdata))) ∷ Plain (to_be_bytes w16 (class_number r.dns_class)) ∷ Plain (to_be_bytes w32 r.ttl)
    ∷ Plain (to_be_bytes w16 (data_len s r)) ∷ data_pieces s.canonical r.rdata in
    let ten : 10 ≤ length (form next rest) = omega arith in
    omega (arith, ten, name_form-some s r.name.labels, length-append (name_form s r.name.labels) (form next rest))

-- so records take eleven times their number
records-bytes : (s : Position) (rs : List Record) → s.place + 11 * length rs ≤ (after s (all_pieces record_item s rs)).place
records-bytes s [] = omega arith
records-bytes s (r ∷ rs) =
    let next : Position = after s (record_item r s) in
    omega (arith, record-bytes r s, records-bytes next rs, after-place s (record_item r s), ap (λ (t : Position). t.place) (after-append s (record_item r s) (all_pieces record_item next rs)))

-- those that fit end within the limit, unless they begin past it
end-within : (limit : ℕ) (s : Position) (rs : List Record) → (position_behind record_item limit s rs).place ≤ max s.place limit
end-within limit s rs =
    let fit : List Record = fitting_prefix record_item limit s rs in
    omega (arith, after-reach s (all_pieces record_item s fit), reach-fitting_prefix record_item limit s rs)

-- ---- what does not fit

-- of a message that fits nothing was dropped
kept : (t a b c : Bool) → not (t || (a || (b || c))) ≡ true → (a ≡ false) × (b ≡ false)
kept true a b c e = absurd (cc)
kept false true b c e = absurd (cc)
kept false false true c e = absurd (cc)
kept false false false c e = (refl, refl)

-- too many records do not fit
pub unfit : (limit : ℕ) (m : Message) → too_many_records limit ≤ length m.answers + length m.authorities → sections_fit limit m ≡ false
unfit limit m many = by (sections_fit limit m) refl
  where
    bare : Message
    bare = record m { additionals = []; edns = Option.None }

    by : (b : Bool) → sections_fit limit m ≡ b → b ≡ false
    by false e = refl
    by true e =
        let rest : Bool = is_shorter (remaining limit bare).additionals bare.additionals
        || (is_shorter (listed (remaining limit bare).edns) (listed bare.edns) || is_shorter (listed (remaining limit bare).signature) (listed bare.signature)) in
        let all = kept m.metadata.truncation (is_shorter (remaining limit bare).answers m.answers) (is_shorter (remaining limit bare).authorities m.authorities) rest e in
        let first = records-bytes (queries_end m) (remaining limit bare).answers in
        let second = records-bytes (answers_end limit m) (remaining limit bare).authorities in
        absurd (omega (arith, many, first, second, ltb-false _ _ all.0, ltb-false _ _ all.1, end-within limit (queries_end m) m.answers, end-within limit (answers_end limit m) m.authorities))

-- ---- the first records of an answer

-- there are no more of them than records
counted : (most : ℕ) (a : AuthorityAnswer) → record_count (first_records most a) ≤ record_count a
counted most a = omega (arith, length-take most a.answers, length-take (most - length a.answers) a.authorities)

-- fewer than so many are all records
pub all_records : (most : ℕ) (first a : AuthorityAnswer) → first ≡ first_records most a → record_count first < most → first ≡ a
all_records most first a is few =
    let few_of : record_count (first_records most a) < most = subst (λ (b : AuthorityAnswer). record_count b < most) is few in
    let answers : take most a.answers ≡ a.answers =
    take_all most a.answers (omega (arith, few_of, length-take most a.answers)) in
    let authorities : take (most - length a.answers) a.authorities ≡ a.authorities =
    take_all (most - length a.answers) a.authorities
    (omega (arith, few_of, length-take most a.answers, length-take (most - length a.answers) a.authorities)) in
    is
    ∙ ap (λ (rs : List Record). record a { answers = rs; authorities = take (most - length a.answers) a.authorities }) answers
    ∙ ap (λ (rs : List Record). record a { authorities = rs }) authorities

-- an answer whose reply is not cut has fewer
pub few_records : (limit : ℕ) (m : Message) (a : AuthorityAnswer) {V : Type 0} {found : Option V} → ((out : V) → found ≡ Some out → ⊥) → (items : V → List ℕ)
    → IsReplyToLong limit m a (option_map items found) → record_count a < too_many_records limit
few_records limit m a {found = None} none items is = is
few_records limit m a {found = Some out} none items is = absurd (none out refl)

-- with as many, the reply is sent without records
pub sent_without : (limit : ℕ) (request : Message) (zones : List ZoneContent) (first a : AuthorityAnswer) (out : List ℕ) → first ≡ first_records (too_many_records limit) a
    → too_many_records limit ≤ record_count first → Encodes limit (truncated (reply_with request first)) out
    → Encodes limit (sent limit (reply_with request (with_additionals zones a))) out
sent_without limit request zones first a out is many encodes =
    let m : Message = reply_with request (with_additionals zones a) in
    let enough : too_many_records limit ≤ record_count a =
    omega (arith, subst (λ (b : AuthorityAnswer). too_many_records limit ≤ record_count b) is many, counted (too_many_records limit) a) in
    subst (λ (n : Message). Encodes limit n out)
    (ap (λ (b : AuthorityAnswer). truncated (reply_with request b)) is
    ∙ sym (sent_truncated limit m.metadata m.queries m.answers m.authorities m.additionals m.edns (unfit limit m enough)))
    encodes
