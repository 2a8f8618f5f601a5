-- Lists that begin alike, and bytes at a place.
use Rattle.std.proofs.Common.{◌≡◌, ℕ, ◌+◌, ◌≤◌, List, ◌∷◌, ◌++◌, length, take, drop, refl, sym, ap, ◌∙◌, arith, length-append, length-drop}
use Rattle.std.proofs.lemmas.List.{take_at, drop_at, drop-drop}
use Rattle.dns_wire.specs.Encodable.{Piece, Plain, PiecesAt}
use Rattle.dns_wire.specs.declared.name_encoding.NameEncoding.TheVariants.{Uncompressed}
use Rattle.dns_wire.proofs.BytesAtLaws.{rest-bytes_at}

-- what follows as many bytes of equal lists
pub same_rest : (a b xs ys : List ℕ) → length a ≡ length b → a ++ xs ≡ b ++ ys → xs ≡ ys
same_rest a b xs ys same e = sym (drop_at a xs (length a) refl) ∙ ap (drop (length a)) e ∙ drop_at b ys (length a) (sym same)

-- as many bytes at the front of equal lists
pub same_front : (a b xs ys : List ℕ) → length a ≡ length b → a ++ xs ≡ b ++ ys → a ≡ b
same_front a b xs ys same e = sym (take_at a xs (length a) refl) ∙ ap (take (length a)) e ∙ take_at b ys (length a) (sym same)

pub heads : (x y : ℕ) (xs ys : List ℕ) → x ∷ xs ≡ y ∷ ys → (x ≡ y) × (xs ≡ ys)
heads x y xs ys e = (cc, cc)

-- what is behind some bytes that are found
pub behind : (buffer : List ℕ) (place n : ℕ) (a rest : List ℕ) → length a ≡ n → drop place buffer ≡ a ++ rest → drop (place + n) buffer ≡ rest
behind buffer place n a rest len h = sym (drop-drop n place buffer) ∙ ap (drop n) h ∙ drop_at a rest n len

pub behind-within : (buffer : List ℕ) (place n : ℕ) (a rest : List ℕ) → length a ≡ n → place ≤ length buffer → drop place buffer ≡ a ++ rest → place + n ≤ length buffer
behind-within buffer place n a rest len within h = omega (arith, len, within, ap (λ (xs : List ℕ). length xs) h, length-drop place buffer, length-append a rest)

-- plain bytes, and the pieces behind them
pub plain_then : (buffer : List ℕ) (place n : ℕ) (a rest : List ℕ) (ps : List Piece) (end : ℕ) → length a ≡ n → place ≤ length buffer → drop place buffer ≡ a ++ rest
    → (drop (place + n) buffer ≡ rest → place + n ≤ length buffer → PiecesAt Uncompressed buffer (place + n) ps end) → PiecesAt Uncompressed buffer place (Plain a ∷ ps) end
plain_then buffer place n a rest ps end len within h more =
    let there = rest-bytes_at buffer place a rest within h in
    let ends : place + length a ≡ place + n = ap (λ (k : ℕ). place + k) len in
    (place + n, rw (sym ends) there, more (behind buffer place n a rest len h) (behind-within buffer place n a rest len within h))
