-- The text of data of a type with a text form does not begin the generic form.
use Rattle.std.proofs.Common.{◌≡◌, ◌≢◌, ℕ, ◌<◌, ◌^◌, Bool, true, false, List, [], ◌∷◌, ◌++◌, Some, None, length, get_or, All, append_assoc, ◌⊎◌, inl, inr, refl, ap, subst, sym, arith}
use Rattle.std.specs.Prelude.{codes, if◌then◌else◌}
use Rattle.std.specs.Fmt.{decimal}
use Rattle.std.specs.Net.Addr.{ipv4_octets, ipv6_segments}
use Rattle.std.specs.Net.Text.{ipv4_text, hex_groups_text}
use Rattle.std.specs.Str.{bytes_eq}
use Rattle.std.proofs.lemmas.List.{append-nil}
use Rattle.std.proofs.lemmas.List.Elements.{All-head}
use Rattle.std.proofs.lemmas.Slice.Eq.{bytes_eq-Decides}
use Rattle.std.proofs.NetLemmas.Alphabet.{IsDigitOrDot, IsHexOrColon, All-ipv4_text, All-hex_groups_text}
use Rattle.dns_wire.specs.codes.Decimal.{is_digit}
use Rattle.dns_wire.specs.Name.{AreLabels}
use Rattle.dns_names.specs.Name.{DomainName}
use Rattle.dns_names.specs.Parse.{is_plain_octet}
use Rattle.dns_names.specs.Print.{escape_sequence, octets_text, label_text, dotted_labels, text_of_name}
use Rattle.dns_text.specs.Lexer.{Lexeme, CharData, QuotedString}
use Rattle.dns_text.specs.Tokens.{IsDatum, data_text}
use Rattle.dns_text.proofs.TokenGrammarLaws.{tested}
use Rattle.dns_formats.specs.Data.{is_generic}
use Rattle.dns_fields.proofs.DecimalLaws.{Spelled, spelled}
use Rattle.dns_formats.proofs.WordLaws.{unlike}
use Rattle.dns_data.specs.Text.{has_text, strings_text, AreValidValues}
use Rattle.dns_data.specs.Field.{AreSoundValues}
use Rattle.dns_data.specs.declared.rdata.RData.{RData}
use Rattle.dns_data.specs.declared.rdata.RData.TheVariants as of
use Rattle.dns_data.specs.rdata as rdata
use Rattle.dns_zone_file.specs.Generate.{after_word}
use Rattle.dns_data.specs.rdata.{data_kinds, data_values, is_update_data}

-- a text that does not begin with `\#`
abbrev IsOther : List ℕ → Type 0
IsOther text = (get_or text 0 0 ≢ 92) ⊎ (get_or text 1 0 ≢ 35)

digit_not : (c : ℕ) → is_digit c ≡ true → c ≢ 92
digit_not c is same = let no : is_digit 92 ≡ true = subst (λ (k : ℕ). is_digit k ≡ true) same is in absurd (cc)

-- ---- numbers and addresses

first_digit : (n : ℕ) (ds more : List ℕ) → Spelled n ds → IsOther (ds ++ more)
first_digit n [] more s = let some = s.some in absurd (omega arith)
first_digit n (d ∷ ds) more s = inl (digit_not d s.digits.0)

number : (n : ℕ) (more : List ℕ) → n < 2 ^ 64 → IsOther (decimal n ++ more)
number n more fits = first_digit n (decimal n) more (spelled n fits)

digit_or_dot : (c : ℕ) → IsDigitOrDot c → c ≢ 92
digit_or_dot c (inl digit) = omega arith
digit_or_dot c (inr dot) = omega arith

hex_or_colon : (c : ℕ) → IsHexOrColon c → c ≢ 92
hex_or_colon c (inl low) = omega arith
hex_or_colon c (inr high) = omega arith

address4 : (octets : List ℕ) → All IsDigitOrDot (ipv4_text octets) → IsOther (ipv4_text octets)
address4 octets all = first (ipv4_text octets) all
  where
    first : (text : List ℕ) → All IsDigitOrDot text → IsOther text
    first [] all = inl (omega arith)
    first (c ∷ cs) all = inl (digit_or_dot c (All-head IsDigitOrDot c cs all))

address6 : (segments : List ℕ) → All IsHexOrColon (hex_groups_text segments) → IsOther (hex_groups_text segments)
address6 segments all = first (hex_groups_text segments) all
  where
    first : (text : List ℕ) → All IsHexOrColon text → IsOther text
    first [] all = inl (omega arith)
    first (c ∷ cs) all = inl (hex_or_colon c (All-head IsHexOrColon c cs all))

-- ---- names

octet_other : (c : ℕ) (cs more : List ℕ) → IsOther (octets_text true (c ∷ cs) ++ more)
octet_other c cs more = by (is_plain_octet true c) refl
  where
    plain_not : (k : ℕ) → is_plain_octet true k ≡ true → k ≢ 92
    plain_not k is same = let no : is_plain_octet true 92 ≡ true = subst (λ (n : ℕ). is_plain_octet true n ≡ true) same is in absurd (cc)

    by : (b : Bool) → is_plain_octet true c ≡ b → IsOther (((if b then c ∷ [] else escape_sequence c) ++ octets_text false cs) ++ more)
    by true is = inl (plain_not c is)
    by false is = inr (omega arith)

label_other : (label more : List ℕ) → 0 < length label → IsOther (label_text label ++ more)
label_other [] more some = absurd (omega arith)
label_other (c ∷ cs) more some = octet_other c cs more

name_other : (is_fqdn : Bool) (labels : List (List ℕ)) (more : List ℕ) → is_fqdn ≡ true → AreLabels labels
    → IsOther (text_of_name (record { is_fqdn = is_fqdn; labels = labels }) ++ more)
name_other true [] more is are = inl (omega arith)
name_other true (label ∷ labels) more is are =
    subst IsOther (sym (append_assoc (label_text label) (dotted_labels labels ++ 46 ∷ []) more))
    (label_other label ((dotted_labels labels ++ 46 ∷ []) ++ more) are.each.0.some)
name_other false labels more is are = absurd (cc)

whole : (text : List ℕ) → IsOther (text ++ []) → IsOther text
whole text is = subst IsOther (append-nil text) is

whole_name : (name : DomainName) → name.is_fqdn ≡ true → AreLabels name.labels → IsOther (text_of_name name)
whole_name name is are = whole (text_of_name name) (name_other name.is_fqdn name.labels [] is are)

-- the text of a name does not begin with a dollar sign
first_plain : (c : ℕ) → is_plain_octet true c ≡ true → c ≢ 36
first_plain c is same = let no : is_plain_octet true 36 ≡ true = subst (λ (n : ℕ). is_plain_octet true n ≡ true) same is in absurd (cc)

no_dollar : (is_fqdn : Bool) (labels : List (List ℕ)) → is_fqdn ≡ true → AreLabels labels → get_or (text_of_name (record { is_fqdn = is_fqdn; labels = labels })) 0 0 ≢ 36
no_dollar false labels is are = absurd (cc)
no_dollar true [] is are = omega arith
no_dollar true ([] ∷ labels) is are = let some = are.each.0.some in absurd (omega arith)
no_dollar true ((c ∷ cs) ∷ labels) is are = by (is_plain_octet true c) refl
  where
    by : (b : Bool) → is_plain_octet true c ≡ b → get_or (((if b then c ∷ [] else escape_sequence c) ++ octets_text false cs) ++ (dotted_labels labels ++ 46 ∷ [])) 0 0 ≢ 36
    by true plain = first_plain c plain
    by false plain = omega arith

pub no_directive : (name : DomainName) (arguments : List Lexeme) → name.is_fqdn ≡ true → AreLabels name.labels → after_word (CharData (text_of_name name) ∷ arguments) ≡ None
no_directive name arguments is are =
    ap (λ (b : Bool). if b then Some arguments else None) (unlike (text_of_name name) 36 _ (no_dollar name.is_fqdn name.labels is are))

-- ---- strings

strings_other : (strings : List (List ℕ)) → IsOther (strings_text strings)
strings_other [] = inl (omega arith)
strings_other (string ∷ []) = inl (omega arith)
strings_other (string ∷ next ∷ strings) = inl (omega arith)

-- ---- data

data_other : (d : RData) → AreSoundValues (data_kinds d) (data_values d) → AreValidValues (data_kinds d) (data_values d) → has_text (data_kinds d) ≡ true → is_update_data d ≡ false
    → IsOther (rdata.data_text d)
data_other (of.A a) sound valid has some = address4 (ipv4_octets (data_values (of.A a)).0) (All-ipv4_text (ipv4_octets (data_values (of.A a)).0) valid.0.1)
data_other (of.AAAA a) sound valid has some = address6 (ipv6_segments (data_values (of.AAAA a)).0) (All-hex_groups_text (ipv6_segments (data_values (of.AAAA a)).0) valid.0.1)
data_other (of.CNAME c) sound valid has some = whole_name (data_values (of.CNAME c)).0 sound.0 valid.0.0
data_other (of.NS n) sound valid has some = whole_name (data_values (of.NS n)).0 sound.0 valid.0.0
data_other (of.PTR p) sound valid has some = whole_name (data_values (of.PTR p)).0 sound.0 valid.0.0
data_other (of.MX m) sound valid has some = number (data_values (of.MX m)).0 _ (omega (arith, sound.0))
data_other (of.SOA s) sound valid has some =
    let name : DomainName = (data_values (of.SOA s)).0 in name_other name.is_fqdn name.labels _ sound.0 valid.0.0
data_other (of.SRV s) sound valid has some = number (data_values (of.SRV s)).0 _ (omega (arith, sound.0))
data_other (of.TXT t) sound valid has some = strings_other (data_values (of.TXT t)).0
data_other (of.OPT o) sound valid has some = absurd (cc)
data_other (of.Update0 t) sound valid has some = absurd (cc)
data_other (of.Unknown code bytes) sound valid has some = absurd (cc)

-- ---- tokens

apart : (text : List ℕ) → get_or text 0 0 ≡ 92 → get_or text 1 0 ≡ 35 → IsOther text → ⊥
apart text first second (inl other) = other first
apart text first second (inr other) = other second

-- tokens with another text are not in the generic form
pub not_generic : (token : Lexeme) (tokens : List Lexeme) (text : List ℕ) → IsDatum token → data_text (token ∷ tokens) ≡ text → IsOther text → is_generic (token ∷ tokens) ≡ false
not_generic (CharData word) tokens text datum same is =
    tested (bytes_eq word (codes "\\#")) (λ e. absurd (begins tokens (subst (λ (w : List ℕ). data_text (CharData w ∷ tokens) ≡ text) ((bytes_eq-Decides word (codes "\\#")).0 e) same))) (λ e. e)
  where
    begins : (more : List Lexeme) → data_text (CharData (codes "\\#") ∷ more) ≡ text → ⊥
    begins [] e = apart text (ap (λ (l : List ℕ). get_or l 0 0) (sym e)) (ap (λ (l : List ℕ). get_or l 1 0) (sym e)) is
    begins (next ∷ more) e = apart text (ap (λ (l : List ℕ). get_or l 0 0) (sym e)) (ap (λ (l : List ℕ). get_or l 1 0) (sym e)) is
not_generic (QuotedString string) tokens text datum same is = refl
not_generic _ tokens text datum same is = absurd datum

pub data_not_generic : (d : RData) (token : Lexeme) (tokens : List Lexeme) → IsDatum token → data_text (token ∷ tokens) ≡ rdata.data_text d
    → AreSoundValues (data_kinds d) (data_values d) → AreValidValues (data_kinds d) (data_values d) → has_text (data_kinds d) ≡ true → is_update_data d ≡ false
    → is_generic (token ∷ tokens) ≡ false
data_not_generic d token tokens datum same sound valid has some = not_generic token tokens (rdata.data_text d) datum same (data_other d sound valid has some)
