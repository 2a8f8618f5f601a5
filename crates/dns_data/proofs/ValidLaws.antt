-- Data that is parsed from octets has valid values.
use Rattle.std.proofs.Common.{◌≡◌, ℕ, zero, suc, ◌-◌, ◌<◌, ◌≤◌, ◌^◌, Bool, true, false, cond, ◌==◌, ◌&&◌, List, [], ◌∷◌, ◌++◌, length, get_or, take, replicate, Option, Some, None, Result, Ok, Err, inl, inr, refl, sym, ap, subst, arith, lit≤}
use Rattle.std.specs.Prelude.{nat_le, nat_lt, codes, if◌then◌else◌}
use Rattle.std.specs.List.{AllByRecursion}
use Rattle.std.specs.Option.{option_map_or}
use Rattle.std.specs.Net.Addr.{ipv4_octets, ipv6_segments, segments_of}
use Rattle.std.specs.Net.Grammar.{IsDotted, IsGroup, IsGroupsAfter, IsColonHex}
use Rattle.std.proofs.lemmas.Bool.Decides.{nat_tests}
use Rattle.std.proofs.lemmas.Int.Digits.{digits_value-lt}
use Rattle.std.proofs.Math.Nat.{pow-le-pow_right}
use Rattle.dns_wire.specs.codes.Decimal.{is_digit, decimal_up_to}
use Rattle.dns_wire.specs.declared.codes.record_type.RecordType.{RecordType}
use Rattle.dns_wire.specs.Name.{max_name_len, name_len, IsLabel, AreLabels}
use Rattle.dns_names.specs.Name.{DomainName}
use Rattle.dns_names.specs.Build.{append_labels, complete}
use Rattle.dns_names.specs.Parse.{name_of_text, Symbol, Escaped, Broken, escape, decimal_octet, more_len, SpellsOctets, no_octet, SpellsLabels, one_label, more_labels, Spells, root, no_label, relative, fully_qualified}
use Rattle.dns_names.specs.Parse as spelled
use Rattle.dns_names.specs.Print.{AreOctets}
use Rattle.dns_names.specs.declared.error.ParseError.{ParseError}
use Rattle.dns_names.specs.declared.error.ParseError.TheVariants.{DomainNameTooLong}
use Rattle.dns_names.proofs.GrammarCompleteness.{read_is_spelled}
use Rattle.dns_text.specs.CharacterString.{octet_of, string_escape, first_octet, octet_before, unescaped_after, unescaped}
use Rattle.dns_text.specs.Lexer.{Lexeme, CharData, QuotedString, At}
use Rattle.dns_data.specs.Field.{Kind, Number16, Number32, Seconds, Address4, Address6, CompressibleName, WholeName, Strings, ValueOf, Values}
use Rattle.dns_data.specs.Text.{name_of_token, string_of_text, string_of_token, IsTokenOf, AreTokensOf, no_string, one_string, Takes, AreParsed, IsValidValue, AreValidValues}
use Rattle.dns_data.specs.declared.error.RDataParseError.{RDataParseError}
use Rattle.dns_data.specs.declared.error.RDataParseError.TheVariants.{CharacterDataTooLong, InvalidToken}
use Rattle.dns_data.specs.declared.rdata.RData.{RData}
use Rattle.dns_data.specs.rdata.{data_kinds, data_values, IsParsedData}
use Rattle.dns_data.proofs.ParsedSoundLaws.{decimal_fits, as_name-ok, eight_segments}

-- ---- lists

all_of_both : {A : Type 0} (P : A → Type 0) (xs ys : List A) → AllByRecursion P xs → AllByRecursion P ys → AllByRecursion P (xs ++ ys)
all_of_both P [] ys all more = more
all_of_both P (x ∷ xs) ys all more = (all.0, all_of_both P xs ys all.1 more)

all_before : {A : Type 0} (P : A → Type 0) (xs ys : List A) → AllByRecursion P (xs ++ ys) → AllByRecursion P xs
all_before P [] ys all = tt
all_before P (x ∷ xs) ys all = (all.0, all_before P xs ys all.1)

all_behind : {A : Type 0} (P : A → Type 0) (xs ys : List A) → AllByRecursion P (xs ++ ys) → AllByRecursion P ys
all_behind P [] ys all = all
all_behind P (x ∷ xs) ys all = all_behind P xs ys all.1

each_below : (greatest : ℕ) (xs : List ℕ) → 0 < greatest → AllByRecursion (λ n. n < greatest) xs → (k : ℕ) → get_or xs k 0 < greatest
each_below greatest [] some all k = some
each_below greatest (x ∷ xs) some all zero = all.0
each_below greatest (x ∷ xs) some all (suc k) = each_below greatest xs some all.1 k

-- ---- addresses

dotted_valid : (text octets : List ℕ) → IsDotted text octets → (length octets ≡ 4) × ((k : ℕ) → get_or octets k 0 < 2 ^ 8)
dotted_valid text octets is = (
  ap (λ (l : List ℕ). length l) is.value,
  each_below (2 ^ 8) octets (omega arith) (subst (λ (l : List ℕ). AllByRecursion (λ n. n < 2 ^ 8) l) (sym is.value) (is.fit.0, (is.fit.1, (is.fit.2, (is.fit.3, tt))))),
)

abbrev AreSegments : List ℕ → Type 0
AreSegments segments = AllByRecursion (λ n. n < 2 ^ 16) segments

dotted_segments : (text octets : List ℕ) → IsDotted text octets → AreSegments (segments_of octets)
dotted_segments text octets is =
    let fit = is.fit in
    subst (λ (l : List ℕ). AreSegments (segments_of l)) (sym is.value) (omega (arith, fit.0, fit.1), (omega (arith, fit.2, fit.3), tt))

group_below : (group : List ℕ) (s : ℕ) → IsGroup group s → s < 2 ^ 16
group_below group s is =
    let below = digits_value-lt 16 group is.0.0.1 in
    let most : 16 ^ length group ≤ 16 ^ 4 = pow-le-pow_right (lit≤ tt) is.1 in
    omega (arith, below, most, is.0.1)

groups_below : (ipv4 : Bool) (lead text segments : List ℕ) → IsGroupsAfter ipv4 lead text segments → AreSegments segments
groups_below ipv4 lead text [] is = tt
groups_below ipv4 lead text (s ∷ segments) (inl (group, rest, spelled, is, more)) = (group_below group s is, groups_below ipv4 (codes ":") rest segments more)
groups_below ipv4 lead text (s ∷ segments) (inr (last, octets, allowed, spelled, is, value)) = subst AreSegments (sym value) (dotted_segments last octets is)

zeros_below : (n : ℕ) → AreSegments (replicate n 0)
zeros_below zero = tt
zeros_below (suc n) = (omega arith, zeros_below n)

segments_below : (text segments : List ℕ) → IsColonHex text segments → AreSegments segments
segments_below text segments (inl whole) = groups_below true [] text segments whole.0
segments_below text segments (inr e) =
    let zeros : List ℕ = replicate (8 - length e.head - length e.tail) 0 in
    subst AreSegments (sym e.value)
    (all_of_both (λ n. n < 2 ^ 16) (e.head ++ zeros) e.tail
    (all_of_both (λ n. n < 2 ^ 16) e.head zeros (groups_below false [] e.head_text e.head e.head_groups) (zeros_below (8 - length e.head - length e.tail)))
    (groups_below true [] e.tail_text e.tail e.tail_groups))

-- ---- names

abbrev IsValidName : DomainName → Type 0
IsValidName name = AreLabels name.labels × AllByRecursion AreOctets name.labels

octets_valid : {is_first : Bool} {text octets : List ℕ} → SpellsOctets is_first text octets → AreOctets text → AreOctets octets
octets_valid no_octet are = tt
octets_valid (spelled.unescaped plain more) are = (are.0, octets_valid more are.1)
octets_valid (spelled.by_digits {x = x} {y = y} {z = z} {octet = octet} is more) are =
    (omega (arith, decimal_fits 255 octet (x ∷ y ∷ z ∷ []) is), octets_valid more are.1.1.1.1)
octets_valid (spelled.by_character digit low high more) are = (are.1.0, octets_valid more are.1.1)

labels_valid : {text : List ℕ} {labels : List (List ℕ)} → SpellsLabels text labels → AreOctets text → AllByRecursion IsLabel labels × AllByRecursion AreOctets labels
labels_valid (one_label is) are = ((is.1, tt), (octets_valid is.0 are, tt))
labels_valid (more_labels {text = text} {rest = rest} is more) are =
    let later = labels_valid more (all_behind (λ c. c < 256) text (46 ∷ rest) are).1 in
    ((is.1, later.0), (octets_valid is.0 (all_before (λ c. c < 256) text (46 ∷ rest) are), later.1))

spelled_valid : {text : List ℕ} {name : DomainName} → Spells text name → AreOctets text → IsValidName name
spelled_valid root are = (record { each = tt; fits = omega arith }, tt)
spelled_valid no_label are = (record { each = tt; fits = omega arith }, tt)
spelled_valid (relative is fits) are =
    let all = labels_valid is are in (record { each = all.0; fits = fits }, all.1)
spelled_valid (fully_qualified {text = text} is fits) are =
    let all = labels_valid is (all_before (λ c. c < 256) text (46 ∷ []) are) in (record { each = all.0; fits = fits }, all.1)

appended_valid : (base name : DomainName) (labels : List (List ℕ)) → IsValidName base → AreLabels labels → AllByRecursion AreOctets labels → append_labels base labels ≡ Ok name → IsValidName name
appended_valid base name labels valid are octets e = at (nat_lt max_name_len (name_len (base.labels ++ labels))) refl e
  where
    made : DomainName
    made = record base { labels = base.labels ++ labels }

    at : (long : Bool) → nat_lt max_name_len (name_len (base.labels ++ labels)) ≡ long → cond long (Err DomainNameTooLong) (Ok made) ≡ Ok name → IsValidName name
    at true is f = absurd (cc)
    at false is f =
        let same : made ≡ name = cc in
        subst IsValidName same (
          record { each = all_of_both IsLabel base.labels labels valid.0.each are.each; fits = grind (arith, nat_tests) },
          all_of_both AreOctets base.labels labels valid.1 octets,
        )

completed_valid : (origin base name : DomainName) → IsValidName origin → IsValidName base → complete base (Some origin) ≡ Ok name → IsValidName name
completed_valid origin base name from valid e = at base.is_fqdn e
  where
    at : (fqdn : Bool) → cond fqdn (Ok base) (append_labels (record base { is_fqdn = true }) origin.labels) ≡ Ok name → IsValidName name
    at true f = let same : base ≡ name = cc in subst IsValidName same valid
    at false f = appended_valid (record base { is_fqdn = true }) name origin.labels valid from.0 from.1 f

-- ---- tokens

-- the text of a token consists of octets
abbrev pub HasOctets : Lexeme → Type 0
HasOctets (CharData text) = AreOctets text
HasOctets (QuotedString text) = AreOctets text
HasOctets other = Unit {0}

pub word_valid : (origin name : DomainName) (text : List ℕ) → IsValidName origin → AreOctets text → (r : Result DomainName ParseError) → name_of_text text ≡ r
    → elim r as (λ _. Result DomainName ParseError) [ Ok base ↦ complete base (Some origin) | Err error ↦ Err error ] ≡ Ok name → IsValidName name
word_valid origin name text from are (Ok base) is e = completed_valid origin base name from (spelled_valid (read_is_spelled is) are) e
word_valid origin name text from are (Err error) is e = absurd (cc)

token_name_valid : (origin name : DomainName) (token : Lexeme) → IsValidName origin → HasOctets token → name_of_token (Some origin) token ≡ Ok name → IsValidName name
token_name_valid origin name (CharData text) from are e =
    word_valid origin name text from are (name_of_text text) refl
    (as_name-ok (elim (name_of_text text) as (λ _. Result DomainName ParseError) [ Ok base ↦ complete base (Some origin) | Err error ↦ Err error ]) name e)
token_name_valid origin name At from are e =
    appended_valid (record { is_fqdn = true; labels = [] }) name origin.labels (record { each = tt; fits = omega arith }, tt) from.0 from.1
    (as_name-ok (append_labels (record { is_fqdn = true; labels = [] }) origin.labels) name e)
token_name_valid origin name token from are e = absurd (cc)

-- ---- character strings

decimal_valid : (text : List ℕ) (octet : ℕ) → octet_of (decimal_octet text) ≡ Some octet → octet < 256
decimal_valid text octet e = at (nat_lt (length text) 3) (decimal_up_to 255 (take 3 text)) refl e
  where
    at : (short : Bool) (number : Option ℕ) → decimal_up_to 255 (take 3 text) ≡ number → octet_of (if short then Broken else option_map_or Escaped number Broken) ≡ Some octet → octet < 256
    at true number is f = absurd (cc)
    at false None is f = absurd (cc)
    at false (Some n) is f = let same : n ≡ octet = cc in omega (arith, decimal_fits 255 n (take 3 text) is)

escape_valid : (text : List ℕ) (octet : ℕ) → octet_of (escape text) ≡ Some octet → octet < 256
escape_valid [] octet e = absurd (cc)
escape_valid (c ∷ cs) octet e = at (is_digit c) (nat_le 32 c && nat_le c 126) refl e
  where
    at : (digit printable : Bool) → (nat_le 32 c && nat_le c 126) ≡ printable
        → octet_of (if digit then decimal_octet (c ∷ cs) else if printable then Escaped c else Broken) ≡ Some octet → octet < 256
    at true printable is f = decimal_valid (c ∷ cs) octet f
    at false true is f = let same : c ≡ octet = cc in grind (arith, nat_tests)
    at false false is f = absurd (cc)

string_escape_valid : (text : List ℕ) (octet : ℕ) → string_escape text ≡ Some octet → octet < 256
string_escape_valid [] octet e = absurd (cc)
string_escape_valid (c ∷ cs) octet e = at (c == 10) refl e
  where
    at : (feed : Bool) → (c == 10) ≡ feed → (if feed then Some c else octet_of (escape (c ∷ cs))) ≡ Some octet → octet < 256
    at true is f = let same : c ≡ octet = cc in grind (arith, nat_tests)
    at false is f = escape_valid (c ∷ cs) octet f

first_valid : (c : ℕ) (cs : List ℕ) (octet : ℕ) → c < 256 → first_octet (c ∷ cs) ≡ Some octet → octet < 256
first_valid c cs octet small e = at (c == 92) e
  where
    at : (slash : Bool) → (if slash then string_escape cs else Some c) ≡ Some octet → octet < 256
    at true f = string_escape_valid cs octet f
    at false f = let same : c ≡ octet = cc in omega arith

both_valid : (first : Option ℕ) (more : Option (List ℕ)) (octets : List ℕ) → ((octet : ℕ) → first ≡ Some octet → octet < 256)
    → ((later : List ℕ) → more ≡ Some later → AreOctets later) → octet_before first more ≡ Some octets → AreOctets octets
both_valid (Some octet) (Some later) octets h k e = let same : octet ∷ later ≡ octets = cc in subst AreOctets same (h octet refl, k later refl)
both_valid (Some octet) None octets h k e = absurd (cc)
both_valid None more octets h k e = absurd (cc)

unescaped_valid : (past : ℕ) (text octets : List ℕ) → AreOctets text → unescaped_after past text ≡ Some octets → AreOctets octets
unescaped_valid past [] octets are e = let same : ◌≡◌ {A = List ℕ} [] octets = cc in subst AreOctets same tt
unescaped_valid zero (c ∷ cs) octets are e =
    both_valid (first_octet (c ∷ cs)) (unescaped_after (more_len (c ∷ cs)) cs) octets (λ octet is. first_valid c cs octet are.0 is)
    (λ later is. unescaped_valid (more_len (c ∷ cs)) cs later are.1 is) e
unescaped_valid (suc past) (c ∷ cs) octets are e = unescaped_valid past cs octets are.1 e

text_valid : (text string : List ℕ) → AreOctets text → string_of_text text ≡ Ok string → AreOctets string
text_valid text string are e = at (unescaped text) refl e
  where
    at : (o : Option (List ℕ)) → unescaped text ≡ o
        → elim o as (λ _. Result (List ℕ) RDataParseError) [ None ↦ Err InvalidToken | Some s ↦ cond (nat_lt 255 (length s)) (Err CharacterDataTooLong) (Ok s) ] ≡ Ok string → AreOctets string
    at None is f = absurd (cc)
    at (Some s) is f = size (nat_lt 255 (length s)) f
      where
        size : (long : Bool) → cond long (Err CharacterDataTooLong) (Ok s) ≡ Ok string → AreOctets string
        size true g = absurd (cc)
        size false g = let same : s ≡ string = cc in subst AreOctets same (unescaped_valid 0 text s are is)

string_valid : (token : Lexeme) (string : List ℕ) → HasOctets token → string_of_token token ≡ Ok string → AreOctets string
string_valid (CharData text) string are e = text_valid text string are e
string_valid (QuotedString text) string are e = text_valid text string are e
string_valid At string are e = let same : 64 ∷ [] ≡ string = cc in subst AreOctets same (omega arith, tt)
string_valid token string are e = absurd (cc)

strings_valid : {strings : List (List ℕ)} {tokens : List Lexeme} → AreTokensOf strings tokens → AllByRecursion HasOctets tokens → AllByRecursion AreOctets strings
strings_valid no_string are = tt
strings_valid (one_string {string = string} {token = token} e more) are = (string_valid token string are.0 e, strings_valid more are.1)

-- ---- values

module _ (origin : DomainName) (from : IsValidName origin) where
  token_valid : (kind : Kind) (value : ValueOf kind) (token : Lexeme) → HasOctets token → IsTokenOf (Some origin) kind value token → IsValidValue kind value
  token_valid Number16 value token are h = tt
  token_valid Number32 value token are h = tt
  token_valid Seconds value token are h = tt
  token_valid Address4 value (CharData text) are h = dotted_valid text (ipv4_octets value) h
  token_valid Address6 value (CharData text) are h =
      (eight_segments text (ipv6_segments value) h, each_below (2 ^ 16) (ipv6_segments value) (omega arith) (segments_below text (ipv6_segments value) h))
  token_valid CompressibleName value token are h = token_name_valid origin value token from are h
  token_valid WholeName value token are h = token_name_valid origin value token from are h
  token_valid kind value token are h = absurd h

  value_valid : (kind : Kind) (tokens : List Lexeme) (value : ValueOf kind) (rest : List Lexeme) → AllByRecursion HasOctets tokens → Takes (Some origin) kind tokens value rest
      → IsValidValue kind value × AllByRecursion HasOctets rest
  value_valid Strings tokens value rest are h = (strings_valid h.1 are, subst (λ (l : List Lexeme). AllByRecursion HasOctets l) (sym h.2) tt)
  value_valid kind [] value rest are h = absurd h
  value_valid kind (token ∷ tokens) value rest are h = (token_valid kind value token are.0 h.0, subst (λ (l : List Lexeme). AllByRecursion HasOctets l) (sym h.1) are.1)

  pub values_valid : (kinds : List Kind) (tokens : List Lexeme) (values : Values kinds) → AllByRecursion HasOctets tokens → AreParsed (Some origin) kinds tokens values → AreValidValues kinds values
  values_valid [] tokens values are h = tt
  values_valid (kind ∷ kinds) tokens values are h =
      let first = value_valid kind tokens values.0 h.0 are h.1 in (first.0, values_valid kinds h.0 values.1 first.1 h.2)

pub parsed_valid : (origin : DomainName) (t : RecordType) (tokens : List Lexeme) (d : RData) → IsValidName origin → AllByRecursion HasOctets tokens → IsParsedData (Some origin) t tokens d
    → AreValidValues (data_kinds d) (data_values d)
parsed_valid origin t tokens d from are p = values_valid origin from (data_kinds d) tokens (data_values d) are p.values
