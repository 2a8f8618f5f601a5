-- Values of fields: bytes decode to one at most, and are those of its pieces.
use Rattle.std.proofs.Common.{◌≡◌, ℕ, ◌+◌, ◌*◌, ◌/◌, ◌%◌, ◌<◌, ◌^◌, Bool, true, false, List, [], ◌∷◌, length, get_or, zero, suc, refl, sym, ap, subst, ◌∙◌, arith, length-drop}
use Rattle.std.specs.Int.{w16, w32, to_be_bytes}
use Rattle.std.specs.Net.Addr.{segments_of, octets_of, ipv4_octets, ipv6_octets, ipv6_segments}
use Rattle.std.specs.declared.net.ipv4_addr.Ipv4Addr.{Ipv4Addr}
use Rattle.std.specs.declared.net.ipv6_addr.Ipv6Addr.{Ipv6Addr}
use Rattle.dns_names.specs.Name.{DomainName}
use Rattle.dns_wire.specs.Encodable.{BytesAt, PiecesAt}
use Rattle.dns_wire.specs.internal.NumberLaws.{same_bytes, one_byte, one_of_two, one_of_four, not_short}
use Rattle.dns_wire.specs.declared.error.DecodeError.{DecodeError}
use Rattle.dns_wire.specs.declared.name_encoding.NameEncoding.TheVariants.{Uncompressed}
use Rattle.dns_wire.proofs.ReadingLaws.{reads_same, reads_not_refused, refuses_same}
use Rattle.dns_wire.proofs.PieceLaws.{pieces_at-join}
use Rattle.dns_data.specs.Field.{OptionValue, Kind, Number16, Number32, Seconds, Address4, Address6, CompressibleName, WholeName, Strings, Options, Opaque, ValueOf, Values, string_pieces, option_pieces, value_pieces, values_pieces}
use Rattle.dns_data.specs.Wire.{StringAt, OptionAt, ValueAt, ValuesAt, RefusesValue, RefusesFields, refused_value, past_value, RefusesValues, refused_field, wrong_length}
use Rattle.dns_data.proofs.ItemLaws.{items_same, items_not_refused, items-pieces}

-- ---- addresses

pub length-octets_of : (segments : List ℕ) → length (octets_of segments) ≡ 2 * length segments
length-octets_of [] = refl
length-octets_of (s ∷ segments) = omega (arith, length-octets_of segments)

halves : (s t : ℕ) → s / 256 ≡ t / 256 → s % 256 ≡ t % 256 → s ≡ t
halves s t high low = omega (arith, high, low)

octets_of-same : (xs ys : List ℕ) → octets_of xs ≡ octets_of ys → xs ≡ ys
octets_of-same [] [] e = refl
octets_of-same [] (y ∷ ys) e = absurd (cc)
octets_of-same (x ∷ xs) [] e = absurd (cc)
octets_of-same (x ∷ xs) (y ∷ ys) e =
    let high : x / 256 ≡ y / 256 = cc in
    let low : x % 256 ≡ y % 256 = cc in
    let more : octets_of xs ≡ octets_of ys = cc in
    ap (λ (n : ℕ). n ∷ xs) (halves x y high low) ∙ ap (λ (ns : List ℕ). y ∷ ns) (octets_of-same xs ys more)

-- bytes, two for each segment, are the octets of their segments
pub octets_of-segments_of : (n : ℕ) (xs : List ℕ) → length xs ≡ 2 * n → ((k : ℕ) → get_or xs k 0 < 256) → octets_of (segments_of xs) ≡ xs
octets_of-segments_of n [] len small = refl
octets_of-segments_of zero (x ∷ xs) len small = absurd (omega (arith, len))
octets_of-segments_of (suc n) (x ∷ []) len small = absurd (omega (arith, len))
octets_of-segments_of (suc n) (x ∷ y ∷ xs) len small =
    let high : (x * 256 + y) / 256 ≡ x = omega (arith, small 1) in
    let low : (x * 256 + y) % 256 ≡ y = omega (arith, small 1) in
    let more : octets_of (segments_of xs) ≡ xs = octets_of-segments_of n xs (omega (arith, len)) (λ k. small (suc (suc k))) in
    ap (λ (a : ℕ). a ∷ ((x * 256 + y) % 256) ∷ octets_of (segments_of xs)) high ∙ ap (λ (b : ℕ). x ∷ b ∷ octets_of (segments_of xs)) low ∙ ap (λ (zs : List ℕ). x ∷ y ∷ zs) more

same_address4 : (a b : Ipv4Addr) → ipv4_octets a ≡ ipv4_octets b → a ≡ b
same_address4 a b e = ap (λ (octets : List ℕ). let i : Ipv4Addr = record { octets = octets } in i) e

same_address6 : (a b : Ipv6Addr) → ipv6_segments a ≡ ipv6_segments b → a ≡ b
same_address6 a b e = ap (λ (segments : List ℕ). let i : Ipv6Addr = record { segments = segments } in i) e

-- ---- one value

same_name : (a b : DomainName) → a.is_fqdn ≡ true → b.is_fqdn ≡ true → a.labels ≡ b.labels → a ≡ b
same_name a b fqdn fqdn' e = ap (λ (ls : List (List ℕ)). record a { labels = ls }) e ∙ ap (λ (f : Bool). record b { is_fqdn = f }) (fqdn ∙ sym fqdn')

string_same : (bytes : List ℕ) (place : ℕ) (a b : List ℕ) (end end' : ℕ) → StringAt bytes place a end → StringAt bytes place b end' → (a ≡ b) × (end ≡ end')
string_same bytes place a b end end' h h' =
    let one = one_byte bytes place (length a) (length b) h.0.0 h'.0.0 h.0.1 h'.0.1 in
    let two = same_bytes bytes h.0.0 a b h.0.2.0 h'.0.2.0 one.0 h.0.2.1 (subst (λ (n : ℕ). BytesAt bytes n b h'.0.2.0) (sym one.1) h'.0.2.1) in
    (two.0, sym h.0.2.2 ∙ two.1 ∙ h'.0.2.2)

option_same : (bytes : List ℕ) (place : ℕ) (a b : OptionValue) (end end' : ℕ) → OptionAt bytes place a end → OptionAt bytes place b end' → (a ≡ b) × (end ≡ end')
option_same bytes place a b end end' h h' =
    let p = h.0 in
    let q = h'.0 in
    let one = one_of_two bytes place a.code b.code p.0 q.0 (p.1, h.1.0) (q.1, h'.1.0) in
    let two = one_of_two bytes p.0 (length a.bytes) (length b.bytes) p.2.0 q.2.0 (p.2.1, h.1.1) (subst (λ (n : ℕ). BytesAt bytes n (to_be_bytes w16 (length b.bytes)) q.2.0) (sym one.1) q.2.1, h'.1.1) in
    let three = same_bytes bytes p.2.0 a.bytes b.bytes p.2.2.0 q.2.2.0 two.0 p.2.2.1 (subst (λ (n : ℕ). BytesAt bytes n b.bytes q.2.2.0) (sym two.1) q.2.2.1) in
    (ap (λ (n : ℕ). record a { code = n }) one.0 ∙ ap (λ (xs : List ℕ). record b { bytes = xs }) three.0, sym p.2.2.2 ∙ three.1 ∙ q.2.2.2)

pub value_same : (bytes : List ℕ) (data_end : ℕ) (kind : Kind) (place : ℕ) (a b : ValueOf kind) (end end' : ℕ) → ValueAt bytes data_end kind place a end → ValueAt bytes data_end kind place b end' → (a ≡ b) × (end ≡ end')
value_same bytes data_end Number16 place a b end end' h h' = one_of_two bytes place a b end end' h h'
value_same bytes data_end Number32 place a b end end' h h' = one_of_four bytes place a b end end' h h'
value_same bytes data_end Seconds place a b end end' h h' = one_of_four bytes place a b end end' h h'
value_same bytes data_end Address4 place a b end end' h h' =
    let same = same_bytes bytes place (ipv4_octets a) (ipv4_octets b) end end' (h.1 ∙ sym h'.1) h.0 h'.0 in
    (same_address4 a b same.0, same.1)
value_same bytes data_end Address6 place a b end end' h h' =
    let same = same_bytes bytes place (ipv6_octets a) (ipv6_octets b) end end' (h.1 ∙ sym h'.1) h.0 h'.0 in
    (same_address6 a b (octets_of-same (ipv6_segments a) (ipv6_segments b) same.0), same.1)
value_same bytes data_end CompressibleName place a b end end' h h' = let same = reads_same h.0 h'.0 in (same_name a b h.1 h'.1 same.0, same.1)
value_same bytes data_end WholeName place a b end end' h h' = let same = reads_same h.0 h'.0 in (same_name a b h.1 h'.1 same.0, same.1)
value_same bytes data_end Strings place a b end end' h h' = items_same (StringAt bytes) (string_same bytes) h h'
value_same bytes data_end Options place a b end end' h h' = items_same (OptionAt bytes) (option_same bytes) h h'
value_same bytes data_end Opaque place a b end end' h h' =
    let len : length a ≡ length b = omega (arith, h.0.ends, h'.0.ends, h.1, h'.1) in
    same_bytes bytes place a b end end' len h.0 h'.0

pub value_not_refused : (bytes : List ℕ) (data_end : ℕ) (kind : Kind) (place : ℕ) (a : ValueOf kind) (end : ℕ) (error : DecodeError) → ValueAt bytes data_end kind place a end → RefusesValue bytes data_end kind place error → ⊥
value_not_refused bytes data_end Number16 place a end error h r = not_short bytes place (to_be_bytes w16 a) end h.0 r.1
value_not_refused bytes data_end Number32 place a end error h r = not_short bytes place (to_be_bytes w32 a) end h.0 r.1
value_not_refused bytes data_end Seconds place a end error h r = not_short bytes place (to_be_bytes w32 a) end h.0 r.1
value_not_refused bytes data_end Address4 place a end error h r = not_short bytes place (ipv4_octets a) end h.0 (omega (arith, r.1, h.1))
value_not_refused bytes data_end Address6 place a end error h r = not_short bytes place (ipv6_octets a) end h.0 (omega (arith, r.1, h.1))
value_not_refused bytes data_end CompressibleName place a end error h r = reads_not_refused h.0 r
value_not_refused bytes data_end WholeName place a end error h r = reads_not_refused h.0 r
value_not_refused bytes data_end Strings place a end error h r = items_not_refused (StringAt bytes) (string_same bytes) h r.1
value_not_refused bytes data_end Options place a end error h r = items_not_refused (OptionAt bytes) (option_same bytes) h r.1
value_not_refused bytes data_end Opaque place a end error h r = omega (arith, h.0.ends, h.0.within, h.1, r.1, length-drop place bytes)

pub value_refusal_same : (bytes : List ℕ) (data_end : ℕ) (kind : Kind) (place : ℕ) (error error' : DecodeError) → RefusesValue bytes data_end kind place error → RefusesValue bytes data_end kind place error' → error ≡ error'
value_refusal_same bytes data_end CompressibleName place error error' r r' = refuses_same r r'
value_refusal_same bytes data_end WholeName place error error' r r' = refuses_same r r'
value_refusal_same bytes data_end kind place error error' r r' = r.0 ∙ sym r'.0

-- ---- values of some kinds

pub values_same : (bytes : List ℕ) (data_end : ℕ) (kinds : List Kind) (place : ℕ) (a b : Values kinds) (end end' : ℕ) → ValuesAt bytes data_end kinds place a end → ValuesAt bytes data_end kinds place b end' → (a ≡ b) × (end ≡ end')
values_same bytes data_end [] place a b end end' h h' = (refl, sym h ∙ h')
values_same bytes data_end (kind ∷ kinds) place a b end end' h h' =
    let one = value_same bytes data_end kind place a.0 b.0 h.0 h'.0 h.1 h'.1 in
    let more = values_same bytes data_end kinds h.0 a.1 b.1 end end' h.2 (subst (λ (n : ℕ). ValuesAt bytes data_end kinds n b.1 end') (sym one.1) h'.2) in
    (ap (λ (x : ValueOf kind). (x, a.1)) one.0 ∙ ap (λ (xs : Values kinds). (b.0, xs)) more.0, more.1)

pub values_not_refused : (bytes : List ℕ) (data_end : ℕ) {kinds : List Kind} {place : ℕ} (values : Values kinds) (end : ℕ) {error : DecodeError} → ValuesAt bytes data_end kinds place values end → RefusesFields bytes data_end kinds place error → ⊥
values_not_refused bytes data_end {place = place} values end {error} h (refused_value {kind} r) = value_not_refused bytes data_end kind place values.0 h.0 error h.1 r
values_not_refused bytes data_end {place = place} values end {error} h (past_value {kind} {kinds} {middle = m} value there more) =
    let one = value_same bytes data_end kind place values.0 value h.0 m h.1 there in
    values_not_refused bytes data_end values.1 end (subst (λ (n : ℕ). ValuesAt bytes data_end kinds n values.1 end) one.1 h.2) more

-- data of exactly the length is not refused
pub data_not_refused : (bytes : List ℕ) (data_end : ℕ) (kinds : List Kind) (place : ℕ) (values : Values kinds) {error : DecodeError} → ValuesAt bytes data_end kinds place values data_end → RefusesValues bytes data_end kinds place error → ⊥
data_not_refused bytes data_end kinds place values h (refused_field r) = values_not_refused bytes data_end values data_end h r
data_not_refused bytes data_end kinds place values h (wrong_length other {end} there wrong) = wrong (sym (values_same bytes data_end kinds place values other data_end end h there).1)

-- data is refused with one error
fields_refusal_same : (bytes : List ℕ) (data_end : ℕ) {kinds : List Kind} {place : ℕ} {error error' : DecodeError} → RefusesFields bytes data_end kinds place error → RefusesFields bytes data_end kinds place error' → error ≡ error'
fields_refusal_same bytes data_end {place = place} {error} {error'} (refused_value {kind} r) (refused_value r') = value_refusal_same bytes data_end kind place error error' r r'
fields_refusal_same bytes data_end {place = place} {error} {error'} (refused_value {kind} r) (past_value {middle = m} value there more) = absurd (value_not_refused bytes data_end kind place value m error there r)
fields_refusal_same bytes data_end {place = place} {error} {error'} (past_value {middle = m} value there more) (refused_value {kind} r) = absurd (value_not_refused bytes data_end kind place value m error' there r)
fields_refusal_same bytes data_end {place = place} {error} {error'} (past_value {kind} {kinds} {middle = m} value there more) (past_value {middle = n} value' there' more') =
    fields_refusal_same bytes data_end more (subst (λ (k : ℕ). RefusesFields bytes data_end kinds k error') (sym (value_same bytes data_end kind place value value' m n there there').1) more')

pub data_refusal_same : (bytes : List ℕ) (data_end : ℕ) (kinds : List Kind) (place : ℕ) {error error' : DecodeError} → RefusesValues bytes data_end kinds place error → RefusesValues bytes data_end kinds place error' → error ≡ error'
data_refusal_same bytes data_end kinds place (refused_field r) (refused_field r') = fields_refusal_same bytes data_end r r'
data_refusal_same bytes data_end kinds place (refused_field r) (wrong_length values {end} there wrong) = absurd (values_not_refused bytes data_end values end there r)
data_refusal_same bytes data_end kinds place (wrong_length values {end} there wrong) (refused_field r) = absurd (values_not_refused bytes data_end values end there r)
data_refusal_same bytes data_end kinds place (wrong_length values there wrong) (wrong_length values' there' wrong') = refl

-- ---- values are their pieces

value_pieces_at : (bytes : List ℕ) (data_end : ℕ) (kind : Kind) (place : ℕ) (value : ValueOf kind) (end : ℕ) → ValueAt bytes data_end kind place value end → PiecesAt Uncompressed bytes place (value_pieces false kind value) end
value_pieces_at bytes data_end Number16 place value end h = (end, h.0, refl)
value_pieces_at bytes data_end Number32 place value end h = (end, h.0, refl)
value_pieces_at bytes data_end Seconds place value end h = (end, h.0, refl)
value_pieces_at bytes data_end Address4 place value end h = (end, h.0, refl)
value_pieces_at bytes data_end Address6 place value end h = (end, h.0, refl)
value_pieces_at bytes data_end CompressibleName place value end h = (end, h.0, refl)
value_pieces_at bytes data_end WholeName place value end h = (end, h.0, refl)
value_pieces_at bytes data_end Strings place value end h = (items-pieces bytes string_pieces (λ (string : List ℕ). length string < 256) h).0
value_pieces_at bytes data_end Options place value end h = (items-pieces bytes option_pieces (λ (option : OptionValue). (option.code < 2 ^ 16) × (length option.bytes < 2 ^ 16)) h).0
value_pieces_at bytes data_end Opaque place value end h = (end, h.0, refl)

pub values_pieces_at : (bytes : List ℕ) (data_end : ℕ) (kinds : List Kind) (place : ℕ) (values : Values kinds) (end : ℕ) → ValuesAt bytes data_end kinds place values end → PiecesAt Uncompressed bytes place (values_pieces false kinds values) end
values_pieces_at bytes data_end [] place values end h = h
values_pieces_at bytes data_end (kind ∷ kinds) place values end h =
    pieces_at-join Uncompressed bytes place h.0 end (value_pieces false kind values.0) (values_pieces false kinds values.1) (value_pieces_at bytes data_end kind place values.0 h.0 h.1) (values_pieces_at bytes data_end kinds h.0 values.1 end h.2)
