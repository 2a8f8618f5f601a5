-- The text of record data lexes to tokens that are read as the data.
use Rattle.std.proofs.Common.{◌≡◌, ℕ, zero, suc, ◌+◌, ◌<◌, Bool, true, false, ◌&&◌, List, [], ◌∷◌, ◌++◌, length, take, drop, Option, Some, None, Result, Ok, Err, refl, sym, ap, subst, ◌∙◌, arith}
use Rattle.std.specs.Prelude.{◌==◌, not, nat_lt, unwrap_or, if◌then◌else◌, codes}
use Rattle.std.specs.Fmt.{decimal}
use Rattle.std.specs.List.{AllByRecursion}
use Rattle.std.proofs.lemmas.Bool.Decides.{nat_tests}
use Rattle.std.proofs.lemmas.List.{append-nil}
use Rattle.hex.specs.Hex.{encode_lower, decode_pairs}
use Rattle.dns_wire.specs.codes.Decimal.{decimal_up_to}
use Rattle.hex.specs.declared.error.FromHexError.{FromHexError}
use Rattle.dns_names.specs.Name.{DomainName}
use Rattle.dns_names.specs.Print.{AreOctets}
use Rattle.dns_text.specs.Lexer.{Lexeme, CharData, LexerState}
use Rattle.dns_text.specs.Tokens.{LexesTo, IsDatum, no_character, one_escape, data_text}
use Rattle.dns_text.proofs.DataLexing.{data_lex_back}
use Rattle.dns_text.proofs.PrintedData.{decimal_datum}
use Rattle.dns_formats.specs.Field.{takes_rest, may_be_empty, begins, fields_of}
use Rattle.dns_formats.specs.Value.{append_to, value_bytes, number_or_fault}
use Rattle.dns_formats.specs.Rest.{rest_bytes}
use Rattle.dns_formats.specs.Read.{taken, is_missing, field_bytes, located, then_bytes, fields_bytes}
use Rattle.dns_formats.specs.Wire.{value_len, value_size, fits}
use Rattle.dns_formats.specs.Print.{front_tokens, data_tokens, generic_text, format_text}
use Rattle.dns_formats.specs.Data.{is_generic, digits_outcome, digits_bytes, sized, bytes_of_length, generic_bytes, of_type, short_data, format_bytes, data_bytes}
use Rattle.dns_formats.specs.ReadBack.{AreDataOf, IsReadAs}
use Rattle.dns_formats.specs.declared.fault.TokenFault.{TokenFault}
use Rattle.dns_formats.specs.declared.fault.FormatFault.{FormatFault}
use Rattle.dns_formats.specs.declared.fault.FormatFault.TheVariants.{MissingToken, WrongLength, NotOfType, TooLong}
use Rattle.dns_formats.specs.declared.field.Field.{Field}
use Rattle.dns_fields.proofs.DecimalLaws.{decimal_parses}
use Rattle.dns_formats.proofs.WordLaws.{tag_tame, tame_word}
use Rattle.dns_formats.proofs.EncodingLaws.{hex_word, hex_back}
use Rattle.dns_formats.proofs.BackLaws.{value_back}
use Rattle.dns_formats.proofs.FormatLaws.{IsFormat, is_chain, format_is}
use Rattle.dns_formats.proofs.ReadLaws.{none_left}

-- ---- fields

split_at : (n : ℕ) (xs : List ℕ) → take n xs ++ drop n xs ≡ xs
split_at zero [] = refl
split_at zero (x ∷ xs) = refl
split_at (suc n) [] = refl
split_at (suc n) (x ∷ xs) = ap (λ (l : List ℕ). x ∷ l) (split_at n xs)

octets_after : (n : ℕ) (bytes : List ℕ) → AreOctets bytes → AreOctets (drop n bytes)
octets_after zero bytes are = are
octets_after (suc n) [] are = tt
octets_after (suc n) (c ∷ cs) are = octets_after n cs are.1

-- the value at the front, and the fields after it
record IsSplit (field : Field) (fields : List Field) (bytes : List ℕ) : Type 0 where
  len : ℕ
  there : value_len field bytes ≡ Some len
  rest : fits fields (drop len bytes) ≡ true

split : (field : Field) (fields : List Field) (bytes : List ℕ) → fits (field ∷ fields) bytes ≡ true → IsSplit field fields bytes
split field fields bytes e = by (value_len field bytes) refl e
  where
    by : (o : Option ℕ) → value_len field bytes ≡ o → (elim o as (λ _. Bool) [ None ↦ false | Some k ↦ fits fields (drop k bytes) ]) ≡ true → IsSplit field fields bytes
    by None q r = absurd (cc)
    by (Some n) q r = record { len = n; there = q; rest = r }

size_is : (field : Field) (bytes : List ℕ) (n : ℕ) → value_len field bytes ≡ Some n → value_size field bytes ≡ n
size_is field bytes n e = ap (λ (o : Option ℕ). unwrap_or o 0) e

takes_first : (field : Field) (tokens : List Lexeme) → takes_rest field ≡ false → taken field tokens ≡ 1
takes_first field tokens no_rest = ap (λ (b : Bool). if b then length tokens else 1) no_rest

-- a field that has all its tokens leaves none
all_taken : (field : Field) (tokens : List Lexeme) → (takes_rest field ≡ false → length tokens ≡ 1) → drop (taken field tokens) tokens ≡ []
all_taken field tokens few = by (takes_rest field) refl
  where
    by : (b : Bool) → takes_rest field ≡ b → drop (if b then length tokens else 1) tokens ≡ []
    by true q = none_left tokens (length tokens) (omega arith)
    by false q = let one = few q in none_left tokens 1 (omega arith)

first_alone : (origin : Option DomainName) (field : Field) (token : Lexeme) (tokens : List Lexeme) → takes_rest field ≡ false → field_bytes origin field (token ∷ tokens) ≡ field_bytes origin field (token ∷ [])
first_alone origin field token tokens no_rest =
    ap (λ (b : Bool). if b then rest_bytes field (token ∷ tokens) else value_bytes origin field token) no_rest
    ∙ sym (ap (λ (b : Bool). if b then rest_bytes field (token ∷ []) else value_bytes origin field token) no_rest)

-- the bytes of a value before those of the fields after it
joined_values : (place n : ℕ) (bytes : List ℕ) (one : Result (List ℕ) TokenFault) (more : Result (List ℕ) FormatFault) → one ≡ Ok (take n bytes) → more ≡ Ok (drop n bytes)
    → then_bytes (located place one) more ≡ Ok bytes
joined_values place n bytes one more e q =
    ap (λ (r : Result (List ℕ) TokenFault). then_bytes (located place r) more) e ∙ ap (append_to (take n bytes)) q ∙ ap (λ (l : List ℕ). Ok l) (split_at n bytes)

no_bytes : (bytes : List ℕ) → fits [] bytes ≡ true → bytes ≡ []
no_bytes [] e = refl
no_bytes (b ∷ bs) e = absurd (cc)

first_part : (a b : Bool) → (not a && b) ≡ true → a ≡ false
first_part true b e = absurd (cc)
first_part false b e = refl

second_part : (a b : Bool) → (not a && b) ≡ true → b ≡ true
second_part true b e = absurd (cc)
second_part false b e = e

-- a field of one token before others
one_field : (origin : Option DomainName) (field : Field) (fields : List Field) (place n : ℕ) (bytes : List ℕ) (tokens more : List Lexeme) → takes_rest field ≡ false → length tokens ≡ 1
    → field_bytes origin field tokens ≡ Ok (take n bytes) → fields_bytes origin fields (place + 1) more ≡ Ok (drop n bytes) → fields_bytes origin (field ∷ fields) place (tokens ++ more) ≡ Ok bytes
one_field origin field fields place n bytes [] more no_rest len read rest = absurd (omega arith)
one_field origin field fields place n bytes (t ∷ u ∷ ts) more no_rest len read rest = absurd (omega arith)
one_field origin field fields place n bytes (token ∷ []) more no_rest len read rest =
    let after : fields_bytes origin fields (place + taken field (token ∷ more)) (drop (taken field (token ∷ more)) (token ∷ more)) ≡ Ok (drop n bytes) =
    ap (λ (k : ℕ). fields_bytes origin fields (place + k) (drop k (token ∷ more))) (takes_first field (token ∷ more) no_rest) ∙ rest in
    joined_values place n bytes (field_bytes origin field (token ∷ more)) _ (first_alone origin field token more no_rest ∙ read) after

last_field : (origin : Option DomainName) (field : Field) (place n : ℕ) (bytes : List ℕ) (tokens : List Lexeme) → is_missing field tokens ≡ false → (takes_rest field ≡ false → length tokens ≡ 1)
    → field_bytes origin field tokens ≡ Ok (take n bytes) → drop n bytes ≡ [] → fields_bytes origin (field ∷ []) place tokens ≡ Ok bytes
last_field origin field place n bytes tokens present few read none =
    let after : fields_bytes origin [] (place + taken field tokens) (drop (taken field tokens) tokens) ≡ Ok (drop n bytes) =
    ap (λ (l : List Lexeme). fields_bytes origin [] (place + taken field tokens) l) (all_taken field tokens few) ∙ ap (λ (l : List ℕ). Ok l) (sym none) in
    ap (λ (b : Bool). if b then Err (MissingToken place) else then_bytes (located place (field_bytes origin field tokens)) (fields_bytes origin [] (place + taken field tokens) (drop (taken field tokens) tokens))) present
    ∙ joined_values place n bytes (field_bytes origin field tokens) _ read after

fields_back : (origin : Option DomainName) (fields : List Field) (place : ℕ) (bytes : List ℕ) → is_chain fields ≡ true → AreOctets bytes → fits fields bytes ≡ true
    → fields_bytes origin fields place (data_tokens fields bytes) ≡ Ok bytes
fields_back origin [] place bytes is are e = absurd (cc)
fields_back origin (field ∷ []) place bytes is are e =
    let s = split field [] bytes e in
    let back = value_back origin field bytes s.len are s.there in
    ap (λ (l : List Lexeme). fields_bytes origin (field ∷ []) place l) (append-nil (front_tokens field bytes))
    ∙ last_field origin field place s.len bytes (front_tokens field bytes) back.present back.few back.read (no_bytes (drop s.len bytes) s.rest)
fields_back origin (field ∷ next ∷ fields) place bytes is are e =
    let s = split field (next ∷ fields) bytes e in
    let back = value_back origin field bytes s.len are s.there in
    let no_rest = first_part (takes_rest field) (is_chain (next ∷ fields)) is in
    let same = size_is field bytes s.len s.there in
    one_field origin field (next ∷ fields) place s.len bytes (front_tokens field bytes) (data_tokens (next ∷ fields) (drop (value_size field bytes) bytes)) no_rest (back.few no_rest) back.read
    (ap (λ (n : ℕ). fields_bytes origin (next ∷ fields) (place + 1) (data_tokens (next ∷ fields) (drop n bytes))) same
    ∙ fields_back origin (next ∷ fields) (place + 1) (drop s.len bytes) (second_part (takes_rest field) (is_chain (next ∷ fields)) is) (octets_after s.len bytes are) s.rest)

-- ---- tokens of an entry

all_append : (front more : List Lexeme) → AllByRecursion IsDatum front → AllByRecursion IsDatum more → AllByRecursion IsDatum (front ++ more)
all_append [] more are others = others
all_append (t ∷ ts) more are others = (are.0, all_append ts more are.1 others)

tokens_data : (fields : List Field) (bytes : List ℕ) → AreOctets bytes → fits fields bytes ≡ true → AllByRecursion IsDatum (data_tokens fields bytes)
tokens_data [] bytes are e = tt
tokens_data (field ∷ fields) bytes are e =
    let s = split field fields bytes e in
    let same = size_is field bytes s.len s.there in
    let back = value_back None field bytes s.len are s.there in
    all_append (front_tokens field bytes) (data_tokens fields (drop (value_size field bytes) bytes)) back.each
    (subst (λ (n : ℕ). AllByRecursion IsDatum (data_tokens fields (drop n bytes))) (sym same) (tokens_data fields (drop s.len bytes) (octets_after s.len bytes are) s.rest))

short_enough : (bytes : List ℕ) → length bytes < 65536 → short_data (Ok bytes) ≡ Ok bytes
short_enough bytes small = by (nat_lt 65535 (length bytes)) refl
  where
    by : (b : Bool) → nat_lt 65535 (length bytes) ≡ b → ◌≡◌ {A = Result (List ℕ) FormatFault} (if b then Err TooLong else Ok bytes) (Ok bytes)
    by true q = absurd (grind (arith, nat_tests))
    by false q = refl

needs_one : (field : Field) (fields : List Field) → begins (field ∷ fields) ≡ true → may_be_empty field ≡ false
needs_one field fields e = by (may_be_empty field) refl e
  where
    by : (b : Bool) → may_be_empty field ≡ b → not b ≡ true → may_be_empty field ≡ false
    by true q r = absurd (cc)
    by false q r = q

no_generic : (fields : List Field) (bytes : List ℕ) → begins fields ≡ true → AreOctets bytes → fits fields bytes ≡ true → is_generic (data_tokens fields bytes) ≡ false
no_generic [] bytes begun are e = refl
no_generic (field ∷ fields) bytes begun are e =
    let s = split field fields bytes e in
    (value_back None field bytes s.len are s.there).special (needs_one field fields begun) (data_tokens fields (drop (value_size field bytes) bytes))

data_back : (origin : Option DomainName) (fields : List Field) (bytes : List ℕ) → IsFormat fields → AreOctets bytes → length bytes < 65536 → fits fields bytes ≡ true
    → data_bytes origin (Some fields) (data_tokens fields bytes) ≡ Ok bytes
data_back origin fields bytes is are small e =
    ap (λ (b : Bool). if b then of_type (Some fields) (generic_bytes (drop 1 (data_tokens fields bytes))) else format_bytes origin (Some fields) (data_tokens fields bytes)) (no_generic fields bytes is.begun are e)
    ∙ ap short_data (fields_back origin fields 0 bytes is.chain are e) ∙ short_enough bytes small

some_tokens : (fields : List Field) (bytes : List ℕ) → begins fields ≡ true → AreOctets bytes → fits fields bytes ≡ true → 0 < length (data_tokens fields bytes)
some_tokens [] bytes begun are e = absurd (cc)
some_tokens (field ∷ fields) bytes begun are e =
    let s = split field fields bytes e in
    let back = value_back None field bytes s.len are s.there in
    there (front_tokens field bytes) (data_tokens fields (drop (value_size field bytes) bytes)) (needs_one field fields begun) back.present
  where
    there : (front more : List Lexeme) → may_be_empty field ≡ false → is_missing field front ≡ false → 0 < length (front ++ more)
    there [] more needs present = let missing : is_missing field [] ≡ true = ap not needs in absurd (cc)
    there (t ∷ ts) more needs present = omega arith

lex_all : (p : LexerState) (tokens : List Lexeme) → 0 < length tokens → AllByRecursion IsDatum tokens → p.is_open ≡ false → p.text ≡ data_text tokens
    → LexesTo p tokens (record p { text = []; is_front = false })
lex_all p [] some all closed text = absurd (omega arith)
lex_all p (t ∷ ts) some all closed text = data_lex_back p t ts all closed text

format_back : (number : ℕ) (p : LexerState) (fields : List Field) (bytes : List ℕ) → fields_of number ≡ Some fields → IsFormat fields → AreOctets bytes → length bytes < 65536
    → fits fields bytes ≡ true → p.is_open ≡ false → p.text ≡ data_text (data_tokens fields bytes) → IsReadAs number p bytes
format_back number p fields bytes of is are small e closed text = record {
  tokens = data_tokens fields bytes;
  lexed = lex_all p (data_tokens fields bytes) (some_tokens fields bytes is.begun are e) (tokens_data fields bytes are e) closed text;
  read = λ origin. ap (λ (o : Option (List Field)). data_bytes origin o (data_tokens fields bytes)) of ∙ data_back origin fields bytes is are small e;
}

pub printed_fields : (number : ℕ) (p : LexerState) (fields : List Field) (bytes : List ℕ) → fields_of number ≡ Some fields → AreOctets bytes → length bytes < 65536 → fits fields bytes ≡ true
    → p.is_open ≡ false → p.text ≡ format_text (fields_of number) bytes → IsReadAs number p bytes
printed_fields number p fields bytes of are small e closed text =
    let is = format_is number fields of in
    let own : format_text (fields_of number) bytes ≡ data_text (data_tokens fields bytes) =
    ap (λ (o : Option (List Field)). format_text o bytes) of ∙ ap (λ (b : Bool). if b then data_text (data_tokens fields bytes) else generic_text bytes) e in
    format_back number p fields bytes of is are small e closed (text ∙ own)

-- ---- the generic form

abbrev generic_word : Lexeme
generic_word = CharData (codes "\\#")

abbrev generic_more : List ℕ → List Lexeme
generic_more [] = CharData (codes "0") ∷ []
generic_more (byte ∷ bytes) = CharData (decimal (length (byte ∷ bytes))) ∷ CharData (encode_lower (byte ∷ bytes)) ∷ []

word_datum : IsDatum generic_word
word_datum = (omega arith, one_escape (omega arith) (omega arith) no_character, refl)

more_data : (bytes : List ℕ) → AreOctets bytes → length bytes < 65536 → AllByRecursion IsDatum (generic_more bytes)
more_data [] are small = ((tame_word (48 ∷ []) (omega arith) (tag_tame 48 refl, tt)).datum, tt)
more_data (b ∷ bs) are small = (decimal_datum (length (b ∷ bs)) (omega arith), ((hex_word b bs are).datum, tt))

generic_is : (bytes : List ℕ) → data_text (generic_word ∷ generic_more bytes) ≡ generic_text bytes
generic_is [] = refl
generic_is (b ∷ bs) = refl

sized_is : (bytes : List ℕ) → sized (length bytes) (Ok bytes) ≡ Ok bytes
sized_is bytes = by (length bytes == length bytes) refl
  where
    by : (b : Bool) → (length bytes == length bytes) ≡ b → ◌≡◌ {A = Result (List ℕ) FormatFault} (if b then Ok bytes else Err WrongLength) (Ok bytes)
    by true q = refl
    by false q = absurd (grind (arith, nat_tests))

generic_none : generic_bytes (generic_more []) ≡ Ok []
unfolding decimal_up_to decode_pairs
generic_none = refl

generic_read : (bytes : List ℕ) → AreOctets bytes → length bytes < 65536 → generic_bytes (generic_more bytes) ≡ Ok bytes
generic_read [] are small = generic_none
generic_read (b ∷ bs) are small =
    ap (λ (o : Option ℕ). bytes_of_length (number_or_fault o) (CharData (encode_lower (b ∷ bs)) ∷ [])) (decimal_parses 65535 (length (b ∷ bs)) (omega arith) (omega arith))
    ∙ ap (λ (l : List ℕ). sized (length (b ∷ bs)) (located 2 (digits_bytes (Some l)))) (append-nil (encode_lower (b ∷ bs)))
    ∙ ap (λ (r : Result (List ℕ) FromHexError). sized (length (b ∷ bs)) (located 2 (digits_outcome r))) (hex_back (b ∷ bs) are)
    ∙ sized_is (b ∷ bs)

of_any : (o : Option (List Field)) (bytes : List ℕ) → AreDataOf o bytes → of_type o (Ok bytes) ≡ Ok bytes
of_any None bytes may = refl
of_any (Some fields) bytes may = ap (λ (b : Bool). if b then Ok bytes else Err NotOfType) may

pub printed_generic : (number : ℕ) (p : LexerState) (bytes : List ℕ) → AreDataOf (fields_of number) bytes → AreOctets bytes → length bytes < 65536 → p.is_open ≡ false → p.text ≡ generic_text bytes
    → IsReadAs number p bytes
printed_generic number p bytes may are small closed text = record {
  tokens = generic_word ∷ generic_more bytes;
  lexed = data_lex_back p generic_word (generic_more bytes) (word_datum, more_data bytes are small) closed (text ∙ sym (generic_is bytes));
  read = λ origin. ap (of_type (fields_of number)) (generic_read bytes are small) ∙ of_any (fields_of number) bytes may;
}
