-- Bytes that stand at a place, as a reader sees them.
use Rattle.std.proofs.Common.{◌≡◌, ℕ, ◌+◌, ◌<◌, ◌≤◌, List, ◌++◌, length, take, drop, refl, sym, ap, subst, ◌∙◌, append_assoc, arith, length-append, length-drop}
use Rattle.std.proofs.lemmas.List.{take-append-drop, take_at, drop_at, drop-drop}
use Rattle.dns_wire.specs.Decoder.{Decoder, rest, Advances}
use Rattle.dns_wire.specs.Encodable.{BytesAt}

-- they are in front of what is unread
pub bytes_at-rest : (buffer : List ℕ) (place : ℕ) (bytes : List ℕ) (end : ℕ) → BytesAt buffer place bytes end → drop place buffer ≡ bytes ++ drop end buffer
bytes_at-rest buffer place bytes end s =
    sym (take-append-drop (length bytes) (drop place buffer)) ∙ ap (λ (xs : List ℕ). xs ++ drop (length bytes) (drop place buffer)) s.there
    ∙ ap (λ (xs : List ℕ). bytes ++ xs) (drop-drop (length bytes) place buffer ∙ ap (λ (n : ℕ). drop n buffer) s.ends)

-- what is in front of the unread bytes stands there
pub rest-bytes_at : (buffer : List ℕ) (place : ℕ) (bytes rest : List ℕ) → place ≤ length buffer → drop place buffer ≡ bytes ++ rest → BytesAt buffer place bytes (place + length bytes)
rest-bytes_at buffer place bytes rest within h = record {
  ends = refl;
  within = omega (arith, ap (λ (xs : List ℕ). length xs) h, length-drop place buffer, length-append bytes rest);
  there = ap (take (length bytes)) h ∙ take_at bytes rest (length bytes) refl;
}

-- they are determined by their place and end
pub bytes_at-same : (buffer : List ℕ) (place : ℕ) (a b : List ℕ) (end : ℕ) → BytesAt buffer place a end → BytesAt buffer place b end → a ≡ b
bytes_at-same buffer place a b end s t =
    let len : length a ≡ length b = omega (arith, s.ends, t.ends) in
    sym s.there ∙ ap (λ (n : ℕ). take n (drop place buffer)) len ∙ t.there

-- two runs of bytes after one another are one
pub bytes_at-join : (buffer : List ℕ) (place middle end : ℕ) (a b : List ℕ) → BytesAt buffer place a middle → BytesAt buffer middle b end → BytesAt buffer place (a ++ b) end
bytes_at-join buffer place middle end a b s t =
    let unread : drop place buffer ≡ (a ++ b) ++ drop end buffer = bytes_at-rest buffer place a middle s ∙ ap (λ (xs : List ℕ). a ++ xs) (bytes_at-rest buffer middle b end t) ∙ sym (append_assoc a b (drop end buffer)) in
    let ends : place + length (a ++ b) ≡ end = omega (arith, s.ends, t.ends, length-append a b) in
    subst (λ (n : ℕ). BytesAt buffer place (a ++ b) n) ends (rest-bytes_at buffer place (a ++ b) (drop end buffer) (omega (arith, s.ends, s.within)) unread)

pub bytes_at-split : (buffer : List ℕ) (place end : ℕ) (a b : List ℕ) → BytesAt buffer place (a ++ b) end → BytesAt buffer place a (place + length a) × BytesAt buffer (place + length a) b end
bytes_at-split buffer place end a b s =
    let unread : drop place buffer ≡ a ++ (b ++ drop end buffer) = bytes_at-rest buffer place (a ++ b) end s ∙ append_assoc a b (drop end buffer) in
    let later : drop (place + length a) buffer ≡ b ++ drop end buffer = sym (drop-drop (length a) place buffer) ∙ ap (drop (length a)) unread ∙ drop_at a (b ++ drop end buffer) (length a) refl in
    let ends : place + length a + length b ≡ end = omega (arith, s.ends, length-append a b) in (
      rest-bytes_at buffer place a (b ++ drop end buffer) (omega (arith, s.ends, s.within)) unread,
      subst (λ (n : ℕ). BytesAt buffer (place + length a) b n) ends (rest-bytes_at buffer (place + length a) b (drop end buffer) (omega (arith, s.ends, s.within, length-append a b)) later),
    )

-- what a decoder has read stands where it was
pub advances-bytes_at : (old new : Decoder) (bytes : List ℕ) → 0 < length bytes → rest old ≡ bytes ++ rest new → Advances old new (length bytes) → BytesAt old.bytes old.index bytes new.index
advances-bytes_at old new bytes some e moved =
    let within : old.index ≤ length old.bytes = omega (arith, ap (λ (xs : List ℕ). length xs) e, length-drop old.index old.bytes, length-append bytes (rest new), some) in
    let end : old.index + length bytes ≡ new.index = sym (ap (λ (d : Decoder). d.index) moved) in
    subst (λ (n : ℕ). BytesAt old.bytes old.index bytes n) end (rest-bytes_at old.bytes old.index bytes (rest new) within e)
