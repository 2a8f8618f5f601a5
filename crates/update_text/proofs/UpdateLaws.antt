-- The words of updates.
use Rattle.std.proofs.Common.{◌≡◌, ◌<◌, ◌≤◌, ◌+◌, cond, not, ℕ, Bool, List, [], ◌∷◌, length, take, drop, Option, Some, None, IfSome, Vec, Global, refl, sym, ap, subst, ◌∙◌, arith}
use Rattle.std.specs.Prelude.{codes, nat_lt}
use Rattle.std.specs.List.{position, position_or_len, prefix_len}
use Rattle.std.specs.Str.{bytes_eq}
use Rattle.std.proofs.lemmas.List.{take-map, drop-map, length-map}
use Rattle.dns_wire.specs.declared.codes.record_type.RecordType.{RecordType}
use Rattle.dns_zone_file.specs.declared.types.Types.{Types}
use Rattle.update_text.specs.Update.{RecordText, arrow_of, only_type, text_after, text_before, text_with_ttl}
use Rattle.update_text.specs.Words.{texts}

-- fewer words than a TTL and a type
pub no_text_with_ttl : (types : Types) (words : List (Vec ℕ Global)) → length words < 2 → None ≡ text_with_ttl types (texts words)
no_text_with_ttl types [] few = refl
no_text_with_ttl types (x ∷ []) few = refl
no_text_with_ttl types (x ∷ y ∷ words) few = absurd (omega arith)

-- a word comes after the type
pub no_only_type : (types : Types) (words : List (Vec ℕ Global)) → 2 ≤ length words → None ≡ only_type types (texts words)
no_only_type types [] many = absurd (omega arith)
no_only_type types (x ∷ []) many = absurd (omega arith)
no_only_type types (x ∷ y ∷ words) many = refl

-- ---- the words of a record

abbrev pub text_of : ℕ → RecordType → List (List ℕ) → RecordText
text_of ttl kind words = record { ttl = ttl; kind = kind; rdata = words }

pub is_text_before : (place ttl : ℕ) (kind : RecordType) (words front : List (Vec ℕ Global)) (text : RecordText)
    → text_of ttl kind (texts words) ≡ text → front ≡ take place words → text_of 0 kind (texts front) ≡ text_before place text
is_text_before place ttl kind words front text is front_is =
    let taken : texts front ≡ take place (texts words) =
    ap texts front_is ∙ sym (take-map {X = Vec ℕ Global} (λ word. word.items) place words) in
    ap (text_of 0 kind) taken ∙ ap (text_before place) is

pub is_text_after : (place ttl : ℕ) (kind : RecordType) (words rest : List (Vec ℕ Global)) (text : RecordText)
    → text_of ttl kind (texts words) ≡ text → rest ≡ drop (place + 1) words → text_of ttl kind (texts rest) ≡ text_after place text
is_text_after place ttl kind words rest text is rest_is =
    let dropped : texts rest ≡ drop (place + 1) (texts words) =
    ap texts rest_is ∙ sym (drop-map {X = Vec ℕ Global} (λ word. word.items) (place + 1) words) in
    ap (text_of ttl kind) dropped ∙ ap (text_after place) is

-- ---- the place of an arrow

prefix_of_texts : (test : List ℕ → Bool) (words : List (Vec ℕ Global)) → prefix_len (λ (word : Vec ℕ Global). test word.items) words ≡ prefix_len test (texts words)
prefix_of_texts test [] = refl
prefix_of_texts test (x ∷ words) = ap (λ (n : ℕ). cond (test x.items) (1 + n) 0) (prefix_of_texts test words)

length_of_texts : (words : List (Vec ℕ Global)) → length words ≡ length (texts words)
length_of_texts words = sym (length-map words (λ (word : Vec ℕ Global). word.items))

abbrev place_within : ℕ → ℕ → Option ℕ
place_within len place = cond (nat_lt place len) (Some place) None

place_in_texts : (test : List ℕ → Bool) (words : List (Vec ℕ Global))
    → position (λ (word : Vec ℕ Global). test word.items) words ≡ position test (texts words)
place_in_texts test words =
    let place : position_or_len (λ (word : Vec ℕ Global). test word.items) words ≡ position_or_len test (texts words) =
    prefix_of_texts (λ (word : List ℕ). not (test word)) words in
    ap (place_within (length words)) place
    ∙ ap (λ (len : ℕ). place_within len (position_or_len test (texts words))) (length_of_texts words)

pub is_arrow_of : (place : Option ℕ) (ttl : ℕ) (kind : RecordType) (words : List (Vec ℕ Global)) (text : RecordText)
    → text_of ttl kind (texts words) ≡ text → place ≡ position (λ (word : Vec ℕ Global). bytes_eq word.items (codes "->")) words
    → place ≡ arrow_of text.rdata
is_arrow_of place ttl kind words text is place_is =
    place_is ∙ place_in_texts (λ (word : List ℕ). bytes_eq word (codes "->")) words ∙ ap (λ (t : RecordText). arrow_of t.rdata) is

pub is_arrow_within : (place : Option ℕ) (ttl : ℕ) (kind : RecordType) (words : List (Vec ℕ Global)) (text : RecordText)
    → text_of ttl kind (texts words) ≡ text → IfSome place (λ at_word. at_word < length words)
    → IfSome place (λ at_word. at_word < length text.rdata)
is_arrow_within place ttl kind words text is within =
    subst (λ (len : ℕ). IfSome place (λ at_word. at_word < len)) (length_of_texts words ∙ ap (λ (t : RecordText). length t.rdata) is) within
