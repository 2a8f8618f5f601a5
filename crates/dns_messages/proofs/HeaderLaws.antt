-- The header: what is encoded decodes to itself, and what is read.
use Rattle.std.proofs.Common.{◌≡◌, ℕ, ◌+◌, ◌*◌, ◌/◌, ◌%◌, ◌^◌, ◌<◌, ◌≤◌, Some, Bool, true, false, cond, eqb, List, [], ◌∷◌, ◌++◌, length, get_or, zero, suc, drop, take, refl, sym, ap, subst, ◌∙◌, arith, drop-cons}
use Rattle.std.specs.Int.{w16, to_be_bytes, from_be_bytes}
use Rattle.std.proofs.lemmas.Bool.{le-leb}
use Rattle.std.proofs.lemmas.Nat.{be_bytes_2, from_be_bytes-to_be_bytes_2}
use Rattle.std.proofs.Math.Seq.{drop-length, take-length}
use Rattle.dns_wire.specs.Decoder.{Decoder, rest, Advances}
use Rattle.dns_wire.specs.Encodable.{BytesAt}
use Rattle.dns_wire.proofs.BytesAtLaws.{advances-bytes_at}
use Rattle.dns_messages.specs.declared.message_type.MessageType.TheVariants as kinds
use Rattle.dns_messages.specs.declared.message_type.MessageType.{MessageType}
use Rattle.dns_messages.specs.declared.op_code.OpCode.{OpCode}
use Rattle.dns_messages.specs.declared.response_code.ResponseCode.{ResponseCode}
use Rattle.dns_messages.specs.declared.header.Metadata.{Metadata}
use Rattle.dns_messages.specs.declared.header.Header.{Header}
use Rattle.dns_messages.specs.Header.{bit, kind_bit, op_number, op_of, code_number, code_of, third_byte, fourth_byte, metadata_of, peeked_metadata, header_layout, encoded_header, DecodesHeader, FitsHeader, IsSoundHeader}

-- ---- the bits of two bytes

-- five parts of a byte, read again
record Third (k o a t r : ℕ) : Type 0 where
  kind_is : (128 * k + (8 * o + (4 * a + (2 * t + r)))) / 128 % 2 ≡ k
  op_is : (128 * k + (8 * o + (4 * a + (2 * t + r)))) / 8 % 16 ≡ o
  authoritative_is : (128 * k + (8 * o + (4 * a + (2 * t + r)))) / 4 % 2 ≡ a
  truncation_is : (128 * k + (8 * o + (4 * a + (2 * t + r)))) / 2 % 2 ≡ t
  recursion_is : (128 * k + (8 * o + (4 * a + (2 * t + r)))) / 1 % 2 ≡ r

third_parts : (k o a t r : ℕ) → k < 2 → o < 16 → a < 2 → t < 2 → r < 2 → Third k o a t r
third_parts k o a t r kk oo aa tt' rr = record { kind_is = omega arith; op_is = omega arith; authoritative_is = omega arith; truncation_is = omega arith; recursion_is = omega arith }

record Fourth (a d k o : ℕ) : Type 0 where
  available_is : (128 * a + (32 * d + (16 * k + o))) / 128 % 2 ≡ a
  authentic_is : (128 * a + (32 * d + (16 * k + o))) / 32 % 2 ≡ d
  checking_is : (128 * a + (32 * d + (16 * k + o))) / 16 % 2 ≡ k
  code_is : (128 * a + (32 * d + (16 * k + o))) % 16 ≡ o

fourth_parts : (a d k o : ℕ) → a < 2 → d < 2 → k < 2 → o < 16 → Fourth a d k o
fourth_parts a d k o aa dd kk oo = record { available_is = omega arith; authentic_is = omega arith; checking_is = omega arith; code_is = omega arith }

pub bit-small : (b : Bool) → bit b < 2
bit-small true = omega arith
bit-small false = omega arith

pub bit-again : (b : Bool) (n : ℕ) → n ≡ bit b → eqb n 1 ≡ b
bit-again true n e = ap (λ (m : ℕ). eqb m 1) e
bit-again false n e = ap (λ (m : ℕ). eqb m 1) e

kind-small : (k : MessageType) → kind_bit k < 2
kind-small kinds.Query = omega arith
kind-small kinds.Response = omega arith

kind-again : (k : MessageType) (n : ℕ) → n ≡ kind_bit k → cond (eqb n 1) kinds.Response kinds.Query ≡ k
kind-again kinds.Query n e = ap (λ (m : ℕ). cond (eqb m 1) kinds.Response kinds.Query) e
kind-again kinds.Response n e = ap (λ (m : ℕ). cond (eqb m 1) kinds.Response kinds.Query) e

-- the metadata of a header, which has four bits of the response code
abbrev pub in_header : Metadata → Metadata
in_header m = record m { response_code = code_of (code_number m.response_code % 16) }

pub metadata_in_header : (m : Metadata) → op_number m.op_code < 16 → op_of (op_number m.op_code) ≡ m.op_code → in_header m ≡ metadata_of m.id (third_byte m) (fourth_byte m)
metadata_in_header m op_fits op_named =
    let op : op_number m.op_code % 16 ≡ op_number m.op_code = omega (arith, op_fits) in
    let t = third_parts (kind_bit m.message_type) (op_number m.op_code % 16) (bit m.authoritative) (bit m.truncation) (bit m.recursion_desired) (kind-small m.message_type) (omega arith) (bit-small m.authoritative) (bit-small m.truncation) (bit-small m.recursion_desired) in
    let f = fourth_parts (bit m.recursion_available) (bit m.authentic_data) (bit m.checking_disabled) (code_number m.response_code % 16) (bit-small m.recursion_available) (bit-small m.authentic_data) (bit-small m.checking_disabled) (omega arith) in
    let read : Metadata = metadata_of m.id (third_byte m) (fourth_byte m) in
    let low : Metadata = in_header m in
    let ops : read.op_code ≡ m.op_code = ap op_of (t.op_is ∙ op) ∙ op_named in
    let codes : read.response_code ≡ low.response_code = ap code_of f.code_is in
    let kinds_are : read.message_type ≡ m.message_type = kind-again m.message_type (third_byte m / 128 % 2) t.kind_is in
    let aa : read.authoritative ≡ m.authoritative = bit-again m.authoritative (third_byte m / 4 % 2) t.authoritative_is in
    let tc : read.truncation ≡ m.truncation = bit-again m.truncation (third_byte m / 2 % 2) t.truncation_is in
    let rd : read.recursion_desired ≡ m.recursion_desired = bit-again m.recursion_desired (third_byte m / 1 % 2) t.recursion_is in
    let ra : read.recursion_available ≡ m.recursion_available = bit-again m.recursion_available (fourth_byte m / 128 % 2) f.available_is in
    let ad : read.authentic_data ≡ m.authentic_data = bit-again m.authentic_data (fourth_byte m / 32 % 2) f.authentic_is in
    let cd : read.checking_disabled ≡ m.checking_disabled = bit-again m.checking_disabled (fourth_byte m / 16 % 2) f.checking_is in
    sym
    (ap (λ (x : MessageType). record read { message_type = x }) kinds_are
    ∙ ap (λ (x : OpCode). record low { op_code = x; authoritative = read.authoritative; truncation = read.truncation; recursion_desired = read.recursion_desired; recursion_available = read.recursion_available; authentic_data = read.authentic_data; checking_disabled = read.checking_disabled; response_code = read.response_code }) ops
    ∙ ap (λ (x : Bool). record low { authoritative = x; truncation = read.truncation; recursion_desired = read.recursion_desired; recursion_available = read.recursion_available; authentic_data = read.authentic_data; checking_disabled = read.checking_disabled; response_code = read.response_code }) aa
    ∙ ap (λ (x : Bool). record low { truncation = x; recursion_desired = read.recursion_desired; recursion_available = read.recursion_available; authentic_data = read.authentic_data; checking_disabled = read.checking_disabled; response_code = read.response_code }) tc
    ∙ ap (λ (x : Bool). record low { recursion_desired = x; recursion_available = read.recursion_available; authentic_data = read.authentic_data; checking_disabled = read.checking_disabled; response_code = read.response_code }) rd
    ∙ ap (λ (x : Bool). record low { recursion_available = x; authentic_data = read.authentic_data; checking_disabled = read.checking_disabled; response_code = read.response_code }) ra
    ∙ ap (λ (x : Bool). record low { authentic_data = x; checking_disabled = read.checking_disabled; response_code = read.response_code }) ad
    ∙ ap (λ (x : Bool). record low { checking_disabled = x; response_code = read.response_code }) cd
    ∙ ap (λ (x : ResponseCode). record low { response_code = x }) codes)

pub metadata_again : (m : Metadata) → FitsHeader m → m ≡ metadata_of m.id (third_byte m) (fourth_byte m)
metadata_again m s =
    let code : code_number m.response_code % 16 ≡ code_number m.response_code = omega (arith, s.code_fits) in
    let low : in_header m ≡ m = ap (λ (x : ResponseCode). record m { response_code = x }) (ap code_of code ∙ s.code_named) in
    sym low ∙ metadata_in_header m s.op_fits s.op_named

-- ---- the header

pub header_again : (bytes : List ℕ) (place end : ℕ) (h : Header) → IsSoundHeader h → BytesAt bytes place (encoded_header h) end → DecodesHeader bytes place h end
header_again bytes place end h sound there = record {
  third = third_byte h.metadata;
  fourth = fourth_byte h.metadata;
  there = there;
  metadata = metadata_again h.metadata sound.metadata;
  id_fits = sound.metadata.id_fits;
  counts_fit = sound.counts_fit;
}

-- a list of twelve, element by element
pub listing : (xs : List ℕ) → length xs ≡ 12 → xs ≡ get_or xs 0 0 ∷ get_or xs 1 0 ∷ get_or xs 2 0 ∷ get_or xs 3 0 ∷ get_or xs 4 0 ∷ get_or xs 5 0 ∷ get_or xs 6 0 ∷ get_or xs 7 0 ∷ get_or xs 8 0 ∷ get_or xs 9 0 ∷ get_or xs 10 0 ∷ get_or xs 11 0 ∷ []
listing xs len =
    let none : drop 12 xs ≡ [] = ap (λ (n : ℕ). drop n xs) (sym len) ∙ drop-length xs in
    let at : (i : ℕ) (more : List ℕ) → i < 12 → drop (suc i) xs ≡ more → drop i xs ≡ get_or xs i 0 ∷ more = λ i more fits e. drop-cons xs i 0 (omega (arith, len, fits)) ∙ ap (λ (ys : List ℕ). get_or xs i 0 ∷ ys) e in
    at 0 _ (omega arith) (at 1 _ (omega arith) (at 2 _ (omega arith) (at 3 _ (omega arith) (at 4 _ (omega arith) (at 5 _ (omega arith)
    (at 6 _ (omega arith) (at 7 _ (omega arith) (at 8 _ (omega arith) (at 9 _ (omega arith) (at 10 _ (omega arith) (at 11 _ (omega arith) none)))))))))))

-- two bytes in network byte order
two_bytes : (a b n : ℕ) → a < 256 → b < 256 → n ≡ a * 256 + b → to_be_bytes w16 n ≡ a ∷ b ∷ []
two_bytes a b n fits fits' e = be_bytes_2 (a ∷ b ∷ []) n refl small (e ∙ omega arith)
  where
    small : (i : ℕ) → get_or (a ∷ b ∷ []) i 0 < 256
    small zero = fits
    small (suc zero) = fits'
    small (suc (suc i)) = omega arith

-- what twelve bytes decode to
pub header_listed : (xs : List ℕ) (h : Header) (number : ℕ) → length xs ≡ 12 → ((i : ℕ) → get_or xs i 0 < 256)
    → h.metadata ≡ metadata_of number (get_or xs 2 0) (get_or xs 3 0)
    → number ≡ get_or xs 0 0 * 256 + get_or xs 1 0 → h.counts.queries ≡ get_or xs 4 0 * 256 + get_or xs 5 0
    → h.counts.answers ≡ get_or xs 6 0 * 256 + get_or xs 7 0 → h.counts.authorities ≡ get_or xs 8 0 * 256 + get_or xs 9 0
    → h.counts.additionals ≡ get_or xs 10 0 * 256 + get_or xs 11 0 → DecodesHeader xs 0 h 12
header_listed xs h number len small metadata number_is queries answers authorities additionals =
    let same : h.metadata.id ≡ number = ap (λ (m : Metadata). m.id) metadata in
    let id : h.metadata.id ≡ get_or xs 0 0 * 256 + get_or xs 1 0 = same ∙ number_is in
    let x : ℕ → ℕ = λ (i : ℕ). get_or xs i 0 in
    let both : (i j n : ℕ) → n ≡ x i * 256 + x j → to_be_bytes w16 n ≡ x i ∷ x j ∷ [] = λ i j n e. two_bytes (x i) (x j) n (small i) (small j) e in
    let fits : (i j n : ℕ) → n ≡ x i * 256 + x j → n < 2 ^ 16 = λ i j n e. omega (arith, e, small i, small j) in
    let layout : header_layout h.metadata.id (x 2) (x 3) h.counts.queries h.counts.answers h.counts.authorities h.counts.additionals ≡ xs =
    ap (λ (ys : List ℕ). ys ++ (x 2 ∷ x 3 ∷ (to_be_bytes w16 h.counts.queries ++ (to_be_bytes w16 h.counts.answers ++ (to_be_bytes w16 h.counts.authorities ++ to_be_bytes w16 h.counts.additionals))))) (both 0 1 h.metadata.id id)
    ∙ ap (λ (ys : List ℕ). x 0 ∷ x 1 ∷ x 2 ∷ x 3 ∷ (ys ++ (to_be_bytes w16 h.counts.answers ++ (to_be_bytes w16 h.counts.authorities ++ to_be_bytes w16 h.counts.additionals)))) (both 4 5 h.counts.queries queries)
    ∙ ap (λ (ys : List ℕ). x 0 ∷ x 1 ∷ x 2 ∷ x 3 ∷ x 4 ∷ x 5 ∷ (ys ++ (to_be_bytes w16 h.counts.authorities ++ to_be_bytes w16 h.counts.additionals))) (both 6 7 h.counts.answers answers)
    ∙ ap (λ (ys : List ℕ). x 0 ∷ x 1 ∷ x 2 ∷ x 3 ∷ x 4 ∷ x 5 ∷ x 6 ∷ x 7 ∷ (ys ++ to_be_bytes w16 h.counts.additionals)) (both 8 9 h.counts.authorities authorities)
    ∙ ap (λ (ys : List ℕ). x 0 ∷ x 1 ∷ x 2 ∷ x 3 ∷ x 4 ∷ x 5 ∷ x 6 ∷ x 7 ∷ x 8 ∷ x 9 ∷ ys) (both 10 11 h.counts.additionals additionals)
    ∙ sym (listing xs len) in
    record {
      third = x 2;
      fourth = x 3;
      there = subst (λ (ys : List ℕ). BytesAt xs 0 ys 12) (sym layout) (record { ends = omega (arith, len); within = omega (arith, len); there = take-length xs });
      metadata = metadata ∙ ap (λ (n : ℕ). metadata_of n (x 2) (x 3)) (sym same);
      id_fits = fits 0 1 h.metadata.id id;
      counts_fit = record {
        queries = fits 4 5 h.counts.queries queries;
        answers = fits 6 7 h.counts.answers answers;
        authorities = fits 8 9 h.counts.authorities authorities;
        additionals = fits 10 11 h.counts.additionals additionals;
      };
    }

whole : (bytes other : List ℕ) → length bytes ≡ 12 → BytesAt bytes 0 other 12 → bytes ≡ other
whole bytes other len there =
    let same : length bytes ≡ length other = omega (arith, there.ends, len) in
    sym (take-length bytes) ∙ ap (λ (n : ℕ). take n bytes) same ∙ there.there

-- what a slice decodes to, decodes where a decoder has read the slice
pub header_read : (old new : Decoder) (bytes : List ℕ) (h : Header) → length bytes ≡ 12 → rest old ≡ bytes ++ rest new → Advances old new 12 → DecodesHeader bytes 0 h 12 → DecodesHeader old.bytes old.index h new.index
header_read old new bytes h len e moved d =
    let moved' : Advances old new (length bytes) = subst (λ (n : ℕ). Advances old new n) (sym len) moved in
    let at : BytesAt old.bytes old.index bytes new.index = advances-bytes_at old new bytes (omega (arith, len)) e moved' in
    let all : bytes ≡ header_layout h.metadata.id d.third d.fourth h.counts.queries h.counts.answers h.counts.authorities h.counts.additionals = whole bytes _ len d.there in
    record {
      third = d.third;
      fourth = d.fourth;
      there = subst (λ (xs : List ℕ). BytesAt old.bytes old.index xs new.index) all at;
      metadata = d.metadata;
      id_fits = d.id_fits;
      counts_fit = d.counts_fit;
    }

-- the metadata of bytes that begin with a header
pub peeked : (bytes : List ℕ) (h : Header) → DecodesHeader bytes 0 h 12 → peeked_metadata bytes ≡ Some h.metadata
peeked [] h r = absurd (omega (arith, r.there.within))
peeked (a ∷ []) h r = absurd (omega (arith, r.there.within))
peeked (a ∷ b ∷ []) h r = absurd (omega (arith, r.there.within))
peeked (a ∷ b ∷ c ∷ []) h r = absurd (omega (arith, r.there.within))
peeked (a ∷ b ∷ c ∷ d ∷ counts) h r =
    let long : 8 ≤ length counts = omega (arith, r.there.within) in
    let there : take 12 (a ∷ b ∷ c ∷ d ∷ counts) ≡ header_layout h.metadata.id r.third r.fourth h.counts.queries h.counts.answers h.counts.authorities h.counts.additionals = r.there.there in
    let first : a ∷ b ∷ [] ≡ to_be_bytes w16 h.metadata.id = ap (λ (xs : List ℕ). take 2 xs) there in
    let value : from_be_bytes w16 (a ∷ b ∷ []) ≡ h.metadata.id = ap (from_be_bytes w16) first ∙ from_be_bytes-to_be_bytes_2 h.metadata.id r.id_fits in
    let number : 256 * a + b ≡ h.metadata.id = omega (arith, value) in
    let third : c ≡ r.third = ap (λ (xs : List ℕ). get_or xs 2 0) there in
    let fourth : d ≡ r.fourth = ap (λ (xs : List ℕ). get_or xs 3 0) there in
    rw (le-leb 8 (length counts) long) (ap (λ (m : Metadata). Some m)
    (ap (λ (n : ℕ). metadata_of n c d) number ∙ ap (λ (n : ℕ). metadata_of h.metadata.id n d) third ∙ ap (λ (n : ℕ). metadata_of h.metadata.id r.third n) fourth ∙ sym r.metadata))
