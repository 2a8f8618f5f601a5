-- What is written, value by value.
use Rattle.std.proofs.Common.{◌≡◌, ℕ, zero, suc, ◌+◌, ◌/◌, ◌%◌, ◌<◌, ◌≤◌, Bool, true, false, List, [], ◌∷◌, ◌++◌, length, take, drop, get_or, Option, Some, None, refl, sym, ap, subst, ◌∙◌, append_assoc, arith}
use Rattle.std.specs.Prelude.{◌==◌, ◌≢◌, not, slice_index, flat_map, is_some, unwrap_or, if◌then◌else◌}
use Rattle.std.specs.Fmt.{decimal}
use Rattle.std.proofs.lemmas.Bool.Decides.{nat_tests}
use Rattle.std.proofs.lemmas.List.{append-nil}
use Rattle.hex.specs.Hex.{encode_with, encode_lower, lower_digits}
use Rattle.dns_names.specs.Print.{label_text, dotted_labels, text_of_labels}
use Rattle.dns_text.specs.Lexer.{Lexeme}
use Rattle.dns_text.specs.Tokens.{datum_text, data_text}
use Rattle.dns_formats.specs.Wire.{counted_octets, value_len, value_size, fits}
use Rattle.dns_fields.specs.bitmaps.TypeWord.{word_of_type}
use Rattle.dns_fields.specs.bitmaps.Bitmap.{types_of, spaced_types}
use Rattle.dns_fields.specs.service.Text.{parameter_texts}
use Rattle.dns_fields.specs.service.Text as service
use Rattle.dns_fields.specs.location.Text.{location_words, spaced_words, joined_words}
use Rattle.dns_formats.specs.Field.{may_be_empty, begins}
use Rattle.dns_formats.specs.Print.{labels_at, front_token, type_tokens, word_tokens, list_tokens, some_tokens, front_tokens, data_tokens, lead, spaced, generic_text}
use Rattle.dns_formats.specs.Value.{is_tag}
use Rattle.dns_formats.specs.declared.field.Field.{Field}
use Rattle.dns_formats.specs.declared.field.Field.TheVariants as kind
use Rattle.dns_formats.specs.declared.field.Field.TheVariants.{Tag, Types, Parameters}
use Rattle.dns_formats.proofs.ValueLaws.{at_place}
use Rattle.dns_formats.proofs.ReadLaws.{none_left}
use Rattle.dns_formats.proofs.NameLaws.{labels_skip}
use Rattle.dns_formats.proofs.WordLaws.{tag_label}

-- ---- fields

pub spaced_is : (tokens : List Lexeme) → spaced true tokens ≡ data_text tokens
spaced_is [] = refl
spaced_is (token ∷ []) = append-nil (datum_text token)
spaced_is (token ∷ next ∷ tokens) = ap (λ (l : List ℕ). datum_text token ++ (32 ∷ l)) (spaced_is (next ∷ tokens))

-- a field whose value is there, and the fields after it
pub record IsFront (field : Field) (fields : List Field) (bytes : List ℕ) : Type 0 where
  pub some : is_some (value_len field bytes) ≡ true
  pub rest : fits fields (drop (value_size field bytes) bytes) ≡ true

pub front_fits : (field : Field) (fields : List Field) (bytes : List ℕ) → fits (field ∷ fields) bytes ≡ true → IsFront field fields bytes
front_fits field fields bytes e = by (value_len field bytes) refl e
  where
    by : (o : Option ℕ) → value_len field bytes ≡ o → (elim o as (λ _. Bool) [ None ↦ false | Some k ↦ fits fields (drop k bytes) ]) ≡ true → IsFront field fields bytes
    by None q r = absurd (cc)
    by (Some n) q r = record { some = ap (λ (o : Option ℕ). is_some o) q; rest = ap (λ (o : Option ℕ). fits fields (drop (unwrap_or o 0) bytes)) q ∙ r }

-- tokens after at least one, if that is the first
spaced_append : (is_first : Bool) (front more : List Lexeme) → (is_first ≡ true → 0 < length front) → spaced is_first (front ++ more) ≡ spaced is_first front ++ spaced false more
spaced_append true [] more some = let no = some refl in absurd (omega arith)
spaced_append false [] more some = refl
spaced_append is_first (t ∷ ts) more some =
    ap (λ (l : List ℕ). (lead is_first ++ datum_text t) ++ l) (spaced_append false ts more (λ q. absurd (cc)))
    ∙ sym (append_assoc (lead is_first ++ datum_text t) (spaced false ts) (spaced false more))

some_there : (field : Field) (bytes : List ℕ) → 0 < length (some_tokens field bytes)
some_there kind.Location bytes = omega arith
some_there kind.Number8 bytes = omega arith
some_there kind.Number16 bytes = omega arith
some_there kind.Number32 bytes = omega arith
some_there kind.Name bytes = omega arith
some_there kind.CharacterString bytes = omega arith
some_there kind.Tag bytes = omega arith
some_there kind.Text bytes = omega arith
some_there kind.Hex bytes = omega arith
some_there kind.Base64 bytes = omega arith
some_there kind.RecordType bytes = omega arith
some_there kind.Time bytes = omega arith
some_there kind.Salt bytes = omega arith
some_there kind.Algorithm bytes = omega arith
some_there kind.CertificateType bytes = omega arith
some_there kind.Hash bytes = omega arith
some_there kind.Types bytes = omega arith
some_there kind.Parameters bytes = omega arith

some_front : (field : Field) (bytes : List ℕ) → may_be_empty field ≡ false → 0 < length (front_tokens field bytes)
some_front field bytes needs =
    let some : front_tokens field bytes ≡ some_tokens field bytes = ap (λ (b : Bool). if b then list_tokens field bytes else some_tokens field bytes) needs in
    subst (λ (l : List Lexeme). 0 < length l) (sym some) (some_there field bytes)

needs_one : (field : Field) (fields : List Field) → begins (field ∷ fields) ≡ true → may_be_empty field ≡ false
needs_one field fields e = by (may_be_empty field) refl e
  where
    by : (b : Bool) → may_be_empty field ≡ b → not b ≡ true → may_be_empty field ≡ false
    by true q r = absurd (cc)
    by false q r = q

pub first_needed : (fields : List Field) (i : ℕ) (d : Field) → i < length fields → begins (drop i fields) ≡ true → may_be_empty (get_or fields i d) ≡ false
first_needed fields i d here e = needs_one (get_or fields i d) (drop (i + 1) fields) (ap begins (sym (at_place fields i d here)) ∙ e)

words_joined : (words : List (List ℕ)) → spaced_words words ≡ spaced false (word_tokens words)
words_joined [] = refl
words_joined (w ∷ ws) = ap (λ (l : List ℕ). (32 ∷ w) ++ l) (words_joined ws)

all_joined : (is_first : Bool) (words : List (List ℕ)) → 0 < length words → lead is_first ++ joined_words words ≡ spaced is_first (word_tokens words)
all_joined is_first [] some = absurd (omega arith)
all_joined is_first (w ∷ ws) some = sym (append_assoc (lead is_first) w (spaced_words ws)) ∙ ap (λ (l : List ℕ). (lead is_first ++ w) ++ l) (words_joined ws)

one_alone : (is_first : Bool) (token : Lexeme) → lead is_first ++ datum_text token ≡ spaced is_first (token ∷ [])
one_alone is_first token = sym (append-nil (lead is_first ++ datum_text token))

some_written : (is_first : Bool) (field : Field) (bytes : List ℕ) → lead is_first ++ datum_text (front_token field bytes) ≡ spaced is_first (some_tokens field bytes)
some_written is_first kind.Location bytes = all_joined is_first (location_words bytes) (omega arith)
some_written is_first kind.Number8 bytes = one_alone is_first (front_token kind.Number8 bytes)
some_written is_first kind.Number16 bytes = one_alone is_first (front_token kind.Number16 bytes)
some_written is_first kind.Number32 bytes = one_alone is_first (front_token kind.Number32 bytes)
some_written is_first kind.Name bytes = one_alone is_first (front_token kind.Name bytes)
some_written is_first kind.CharacterString bytes = one_alone is_first (front_token kind.CharacterString bytes)
some_written is_first kind.Tag bytes = one_alone is_first (front_token kind.Tag bytes)
some_written is_first kind.Text bytes = one_alone is_first (front_token kind.Text bytes)
some_written is_first kind.Hex bytes = one_alone is_first (front_token kind.Hex bytes)
some_written is_first kind.Base64 bytes = one_alone is_first (front_token kind.Base64 bytes)
some_written is_first kind.RecordType bytes = one_alone is_first (front_token kind.RecordType bytes)
some_written is_first kind.Time bytes = one_alone is_first (front_token kind.Time bytes)
some_written is_first kind.Salt bytes = one_alone is_first (front_token kind.Salt bytes)
some_written is_first kind.Algorithm bytes = one_alone is_first (front_token kind.Algorithm bytes)
some_written is_first kind.CertificateType bytes = one_alone is_first (front_token kind.CertificateType bytes)
some_written is_first kind.Hash bytes = one_alone is_first (front_token kind.Hash bytes)
some_written is_first kind.Types bytes = one_alone is_first (front_token kind.Types bytes)
some_written is_first kind.Parameters bytes = one_alone is_first (front_token kind.Parameters bytes)

-- the text of a value that is not empty
pub one_written : (is_first : Bool) (field : Field) (bytes : List ℕ) → may_be_empty field ≡ false → lead is_first ++ datum_text (front_token field bytes) ≡ spaced is_first (front_tokens field bytes)
one_written is_first field bytes needs =
    some_written is_first field bytes ∙ ap (λ (b : Bool). spaced is_first (if b then list_tokens field bytes else some_tokens field bytes)) (sym needs)

pub list_written : (is_first : Bool) (field : Field) (bytes : List ℕ) → may_be_empty field ≡ true → is_first ≡ false → spaced false (list_tokens field bytes) ≡ spaced is_first (front_tokens field bytes)
list_written is_first field bytes empty later =
    ap (λ (b : Bool). spaced b (list_tokens field bytes)) (sym later) ∙ ap (λ (b : Bool). spaced is_first (if b then list_tokens field bytes else some_tokens field bytes)) (sym empty)

pub types_written : (types : List ℕ) → spaced_types types ≡ spaced false (type_tokens types)
types_written [] = refl
types_written (t ∷ ts) = ap (λ (l : List ℕ). (32 ∷ word_of_type (t % 65536)) ++ l) (types_written ts)

pub types_list : (field : Field) (bytes : List ℕ) → field ≡ Types → spaced_types (types_of 0 0 bytes) ≡ spaced false (list_tokens field bytes)
types_list field bytes is = types_written (types_of 0 0 bytes) ∙ ap (λ (k : Field). spaced false (list_tokens k bytes)) (sym is)

pub words_written : (words : List (List ℕ)) → service.spaced_words words ≡ spaced false (word_tokens words)
words_written [] = refl
words_written (w ∷ ws) = ap (λ (l : List ℕ). (32 ∷ w) ++ l) (words_written ws)

pub parameters_list : (field : Field) (bytes : List ℕ) → field ≡ Parameters → service.spaced_words (parameter_texts 0 bytes) ≡ spaced false (list_tokens field bytes)
parameters_list field bytes is = words_written (parameter_texts 0 bytes) ∙ ap (λ (k : Field). spaced false (list_tokens k bytes)) (sym is)

pub not_first : (is_first : Bool) (field : Field) → (is_first ≡ true → may_be_empty field ≡ false) → may_be_empty field ≡ true → is_first ≡ false
not_first true field needs empty = let no = needs refl in absurd (cc)
not_first false field needs empty = refl

module _ (fields : List Field) (i : ℕ) (d : Field) (left : List ℕ) (here : i < length fields) where
  pub front_there : fits (drop i fields) left ≡ true → IsFront (get_or fields i d) (drop (i + 1) fields) left
  front_there e = front_fits (get_or fields i d) (drop (i + 1) fields) left (ap (λ (fs : List Field). fits fs left) (sym (at_place fields i d here)) ∙ e)

  pub rest_fits : (len : ℕ) → len ≡ value_size (get_or fields i d) left → fits (drop i fields) left ≡ true → fits (drop (i + 1) fields) (drop len left) ≡ true
  rest_fits len is e = ap (λ (n : ℕ). fits (drop (i + 1) fields) (drop n left)) is ∙ (front_there e).rest

  pub more_further : (is_first : Bool) (done whole : List ℕ) (len : ℕ) → (is_first ≡ true → begins (drop i fields) ≡ true) → len ≡ value_size (get_or fields i d) left
      → done ++ spaced is_first (data_tokens (drop i fields) left) ≡ whole
      → (done ++ spaced is_first (front_tokens (get_or fields i d) left)) ++ spaced false (data_tokens (drop (i + 1) fields) (drop len left)) ≡ whole
  more_further is_first done whole len begun is e =
      let field : Field = get_or fields i d in
      append_assoc done (spaced is_first (front_tokens field left)) (spaced false (data_tokens (drop (i + 1) fields) (drop len left)))
      ∙ ap (λ (n : ℕ). done ++ (spaced is_first (front_tokens field left) ++ spaced false (data_tokens (drop (i + 1) fields) (drop n left)))) is
      ∙ ap (λ (l : List ℕ). done ++ l) (sym (spaced_append is_first (front_tokens field left) (data_tokens (drop (i + 1) fields) (drop (value_size field left) left)) (λ q. some_front field left (first_needed fields i d here (begun q)))))
      ∙ ap (λ (fs : List Field). done ++ spaced is_first (data_tokens fs left)) (sym (at_place fields i d here)) ∙ e

pub some_of : (n : ℕ) → false ≡ (n == 0) → 0 < n
some_of zero e = absurd (cc)
some_of (suc n) e = omega arith

-- ---- tags

some_tag : (b : Bool) (o : Option ℕ) → is_some (if b then o else None) ≡ true → b ≡ true
some_tag true o e = refl
some_tag false o e = absurd (cc)

pub tag_written : (field : Field) (bytes octets : List ℕ) → field ≡ Tag → octets ≡ counted_octets bytes → is_some (value_len field bytes) ≡ true
    → label_text octets ≡ datum_text (front_token field bytes)
tag_written field bytes octets is same there =
    let tag : is_some (value_len Tag bytes) ≡ true = subst (λ (k : Field). is_some (value_len k bytes) ≡ true) is there in
    ap label_text same ∙ tag_label (counted_octets bytes) (some_tag (is_tag (counted_octets bytes)) _ tag) ∙ ap (λ (k : Field). datum_text (front_token k bytes)) (sym is)

-- ---- names

-- labels, each before a dot
abbrev pub each_dotted : List (List ℕ) → List ℕ
each_dotted labels = flat_map (λ label. label_text label ++ 46 ∷ []) labels

last_dot : (labels : List (List ℕ)) → dotted_labels labels ++ 46 ∷ [] ≡ 46 ∷ each_dotted labels
last_dot [] = refl
last_dot (l ∷ ls) =
    ap (λ (x : List ℕ). 46 ∷ x)
    (append_assoc (label_text l) (dotted_labels ls) (46 ∷ []) ∙ ap (λ (x : List ℕ). label_text l ++ x) (last_dot ls) ∙ sym (append_assoc (label_text l) (46 ∷ []) (each_dotted ls)))

pub name_is : (label : List ℕ) (labels : List (List ℕ)) → each_dotted (label ∷ labels) ≡ text_of_labels true (label ∷ labels)
name_is l ls = append_assoc (label_text l) (46 ∷ []) (each_dotted ls) ∙ ap (λ (x : List ℕ). label_text l ++ x) (sym (last_dot ls))

drop_taken : (c : ℕ) (cs : List ℕ) → drop (length (take c cs)) cs ≡ drop c cs
drop_taken zero [] = refl
drop_taken zero (x ∷ xs) = refl
drop_taken (suc c) [] = refl
drop_taken (suc c) (x ∷ xs) = drop_taken c xs

nonzero : (c : ℕ) (cs : List ℕ) → c ≢ 0 → labels_at 0 (c ∷ cs) ≡ take c cs ∷ labels_at c cs
nonzero c cs some = by (c == 0) refl
  where
    equal : (n : ℕ) → (n == 0) ≡ true → n ≡ 0
    equal n q = grind (arith, nat_tests)

    by : (b : Bool) → (c == 0) ≡ b → (if b then [] else take c cs ∷ labels_at c cs) ≡ take c cs ∷ labels_at c cs
    by true q = absurd (some (equal c q))
    by false q = refl

-- the labels at the front of bytes, from the first on
pub labels_front : (left label : List ℕ) → 0 < length left → get_or left 0 0 ≢ 0 → label ≡ counted_octets left → labels_at 0 left ≡ label ∷ labels_at 0 (drop (1 + length label) left)
labels_front [] label some first is = absurd (omega arith)
labels_front (c ∷ cs) label some first is =
    let next : 1 + length label ≡ suc (length label) = omega arith in
    nonzero c cs first
    ∙ ap (λ (ls : List (List ℕ)). take c cs ∷ ls) (labels_skip c cs ∙ ap (labels_at 0) (sym (drop_taken c cs)) ∙ ap (λ (l : List ℕ). labels_at 0 (drop (length l) cs)) (sym is))
    ∙ ap (λ (l : List ℕ). l ∷ labels_at 0 (drop (length label) cs)) (sym is)
    ∙ ap (λ (n : ℕ). label ∷ labels_at 0 (drop n (c ∷ cs))) (sym next)

pub labels_further : (left label done whole : List ℕ) → 0 < length left → get_or left 0 0 ≢ 0 → label ≡ counted_octets left → done ++ each_dotted (labels_at 0 left) ≡ whole
    → (done ++ (label_text label ++ 46 ∷ [])) ++ each_dotted (labels_at 0 (drop (1 + length label) left)) ≡ whole
labels_further left label done whole some first is e =
    append_assoc done (label_text label ++ 46 ∷ []) (each_dotted (labels_at 0 (drop (1 + length label) left)))
    ∙ ap (λ (ls : List (List ℕ)). done ++ each_dotted ls) (sym (labels_front left label some first is)) ∙ e

pub no_labels : (left : List ℕ) → length left ≡ 0 → labels_at 0 left ≡ []
no_labels [] e = refl
no_labels (c ∷ cs) e = absurd (omega arith)

pub root_labels : (left : List ℕ) → get_or left 0 0 ≡ 0 → labels_at 0 left ≡ []
root_labels [] e = refl
root_labels (c ∷ cs) e = ap (λ (n : ℕ). labels_at 0 (n ∷ cs)) e

pub labels_end : (left done whole : List ℕ) → labels_at 0 left ≡ [] → done ++ each_dotted (labels_at 0 left) ≡ whole → done ≡ whole
labels_end left done whole none e = sym (append-nil done) ∙ ap (λ (ls : List (List ℕ)). done ++ each_dotted ls) (sym none) ∙ e

pub some_name : (bytes : List ℕ) → 0 < length bytes → get_or bytes 0 0 ≢ 0 → each_dotted (labels_at 0 bytes) ≡ text_of_labels true (labels_at 0 bytes)
some_name bytes some first =
    let front = labels_front bytes (counted_octets bytes) some first refl in
    ap each_dotted front ∙ name_is (counted_octets bytes) (labels_at 0 (drop (1 + length (counted_octets bytes)) bytes)) ∙ ap (text_of_labels true) (sym front)

-- ---- hexadecimal digits

pub hex_further : (bytes : List ℕ) (i : ℕ) (done whole : List ℕ) → i < length bytes → done ++ encode_lower (drop i bytes) ≡ whole
    → (done ++ (slice_index lower_digits (get_or bytes i 0 / 16) ∷ slice_index lower_digits (get_or bytes i 0 % 16) ∷ [])) ++ encode_lower (drop (i + 1) bytes) ≡ whole
unfolding encode_with
hex_further bytes i done whole within e =
    append_assoc done (slice_index lower_digits (get_or bytes i 0 / 16) ∷ slice_index lower_digits (get_or bytes i 0 % 16) ∷ []) (encode_lower (drop (i + 1) bytes))
    ∙ ap (λ (l : List ℕ). done ++ encode_lower l) (sym (at_place bytes i 0 within)) ∙ e

pub hex_end : (bytes : List ℕ) (i : ℕ) (done whole : List ℕ) → length bytes ≤ i → done ++ encode_lower (drop i bytes) ≡ whole → done ≡ whole
unfolding encode_with
hex_end bytes i done whole past e = sym (append-nil done) ∙ ap (λ (l : List ℕ). done ++ encode_lower l) (sym (none_left bytes i past)) ∙ e

pub generic_parts : (bytes : List ℕ) (len : ℕ) → 0 < length bytes → len ≡ length bytes → (92 ∷ 35 ∷ 32 ∷ (decimal len ++ 32 ∷ [])) ++ encode_lower bytes ≡ generic_text bytes
generic_parts [] len some is = absurd (omega arith)
generic_parts (b ∷ bs) len some is =
    ap (λ (n : ℕ). (92 ∷ 35 ∷ 32 ∷ (decimal n ++ 32 ∷ [])) ++ encode_lower (b ∷ bs)) is
    ∙ ap (λ (l : List ℕ). 92 ∷ 35 ∷ 32 ∷ l) (append_assoc (decimal (length (b ∷ bs))) (32 ∷ []) (encode_lower (b ∷ bs)))
