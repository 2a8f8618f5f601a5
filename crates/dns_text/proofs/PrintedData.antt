-- Printed names, numbers, addresses and strings are data of an entry.
use Rattle.std.proofs.Common.{◌≡◌, ℕ, ◌+◌, ◌/◌, ◌%◌, ◌<◌, ◌≤◌, ◌^◌, Bool, true, false, ◌&&◌, ◌||◌, List, [], ◌∷◌, ◌++◌, length, get_or, decimal, All, refl, ap, subst, ◌∙◌, arith, inl, inr, length-append}
use Rattle.std.specs.Prelude.{◌≢◌, ◌==◌, not, nat_le, codes, if◌then◌else◌}
use Rattle.std.specs.List.{AllByRecursion}
use Rattle.std.specs.Str.{bytes_eq}
use Rattle.std.specs.Net.Addr.{ipv4_octets, ipv6_segments, IsIpv4Addr, IsIpv6Addr, MatchIp}
use Rattle.std.specs.Net.Grammar.{IsColonHex}
use Rattle.std.specs.Net.Text.{ipv4_text, hex_groups_text}
use Rattle.std.specs.declared.net.ip_addr.IpAddr.{IpAddr}
use Rattle.std.specs.declared.net.ip_addr.IpAddr.TheVariants.{V4, V6}
use Rattle.std.proofs.lemmas.Bool.Decides.{nat_tests}
use Rattle.std.proofs.lemmas.Slice.Eq.{bytes_eq-Decides}
use Rattle.std.proofs.lemmas.List.Elements.{All-head, All-tail, All-from_get_or}
use Rattle.std.proofs.lemmas.Fmt.{decimal_is_IsNumeral, decimal_nonempty}
use Rattle.std.proofs.lemmas.Str.Parse.{digit_at}
use Rattle.std.proofs.NetLemmas.Alphabet.{IsDigitOrDot, IsHexOrColon, All-ipv4_text, All-hex_groups_text}
use Rattle.std.proofs.NetLemmas.Texts.{IsColonHex-hex_groups_text}
use Rattle.dns_names.specs.Name.{DomainName}
use Rattle.dns_names.specs.Parse.{is_plain_octet}
use Rattle.dns_names.specs.Print.{escape_sequence, octets_text, label_text, dotted_labels, text_of_labels, text_of_name, AreOctets}
use Rattle.dns_names.specs.Print as name
use Rattle.dns_text.specs.Address.{ip_text}
use Rattle.dns_text.specs.CharacterString.{octet_text, escaped_text}
use Rattle.dns_text.specs.Front.{Run, Bare, InQuotes, stops}
use Rattle.dns_text.specs.Lexer.{CharData, QuotedString, word_token}
use Rattle.dns_text.specs.Tokens.{IsRun, no_character, one_character, one_escape, IsDatum}
use Rattle.dns_text.proofs.TokenGrammarLaws.{unequal, tested}

-- a character that passes a test is none that fails it
differs : (test : ℕ → Bool) (c k : ℕ) → test c ≡ true → test k ≡ false → c ≢ k
differs test c k passes fails q = let same : test k ≡ true = subst (λ (n : ℕ). test n ≡ true) q passes in absurd (cc)

-- ---- words of characters above `)`, but for `;`, `@` and `\`, and of escapes of such characters

abbrev IsTame : ℕ → Type 0
IsTame c = (41 < c) × (c ≢ 59) × (c ≢ 64) × (c ≢ 92)

data IsTameWord : List ℕ → Type 0 where
  no_more : IsTameWord []
  tame : {c : ℕ} {text : List ℕ} → IsTame c → IsTameWord text → IsTameWord (c ∷ text)
  tame_escape : {c : ℕ} {text : List ℕ} → IsTame c → IsTameWord text → IsTameWord (92 ∷ c ∷ text)

on_word : (c : ℕ) → IsTame c → stops Bare c ≡ false
on_word c is =
    let a : c ≢ 32 = omega arith in
    let b : c ≢ 9 = omega arith in
    let d : c ≢ 34 = omega arith in
    let e : c ≢ 40 = omega arith in
    let f : c ≢ 41 = omega arith in
    rw (unequal c 32 a, unequal c 9 b, unequal c 59 is.1, unequal c 34 d, unequal c 40 e, unequal c 41 f) refl

tame_run : {text : List ℕ} → IsTameWord text → IsRun Bare text
tame_run no_more = no_character
tame_run (tame {c = c} is more) = one_character (omega arith) (omega arith) (on_word c is) is.3 (tame_run more)
tame_run (tame_escape {c = c} is more) = one_escape (omega arith) (omega arith) (tame_run more)

-- it begins as no directive does
begins : {text : List ℕ} → IsTameWord text → (get_or text 0 0 ≢ 64) × (get_or text 0 0 ≢ 36)
begins no_more = (omega arith, omega arith)
begins (tame is more) = (is.2, omega arith)
begins (tame_escape is more) = (omega arith, omega arith)

unlike : (text : List ℕ) (c : ℕ) (cs : List ℕ) → get_or text 0 0 ≢ c → bytes_eq text (c ∷ cs) ≡ false
unlike text c cs n = tested (bytes_eq text (c ∷ cs)) (λ e. absurd (n (ap (λ (l : List ℕ). get_or l 0 0) ((bytes_eq-Decides text (c ∷ cs)).0 e)))) (λ e. e)

no_directive : (text : List ℕ) → get_or text 0 0 ≢ 64 → get_or text 0 0 ≢ 36 → word_token true text ≡ CharData text
no_directive text n m = rw (unlike text 64 [] n, unlike text 36 _ m, unlike text 36 _ m, unlike text 36 _ m) refl

tame_datum : (text : List ℕ) → 0 < length text → IsTameWord text → IsDatum (CharData text)
tame_datum text some is = let first = begins is in (some, tame_run is, no_directive text first.0 first.1)

both_tame : {a b : List ℕ} → IsTameWord a → IsTameWord b → IsTameWord (a ++ b)
both_tame no_more k = k
both_tame (tame is more) k = tame is (both_tame more k)
both_tame (tame_escape is more) k = tame_escape is (both_tame more k)

-- ---- numbers and addresses

all_tame : (P : ℕ → Type 0) → ((c : ℕ) → P c → IsTame c) → (text : List ℕ) → All P text → IsTameWord text
all_tame P are [] all = no_more
all_tame P are (c ∷ cs) all = tame (are c (All-head P c cs all)) (all_tame P are cs (All-tail P c cs all))

digit_or_dot : (c : ℕ) → IsDigitOrDot c → IsTame c
digit_or_dot c (inl digit) = omega arith
digit_or_dot c (inr dot) = omega arith

hex_or_colon : (c : ℕ) → IsHexOrColon c → IsTame c
hex_or_colon c (inl low) = omega arith
hex_or_colon c (inr high) = omega arith

pub decimal_datum : (n : ℕ) → n < 2 ^ 64 → IsDatum (CharData (decimal n))
decimal_datum n fits =
    tame_datum (decimal n) (decimal_nonempty n fits)
    (all_tame IsDigitOrDot digit_or_dot (decimal n) (All-from_get_or IsDigitOrDot (decimal n) 0 (λ i h. inl (digit_at (decimal n) i (decimal_is_IsNumeral n fits).0.1 h))))

colon_hex_some : (text segments : List ℕ) → length segments ≡ 8 → IsColonHex text segments → 0 < length text
colon_hex_some text [] eight is = absurd (omega arith)
colon_hex_some text (s ∷ segments) eight (inl (inl (group, rest, spelled, is, more), _)) = omega (arith, ap (λ (l : List ℕ). length l) spelled, length-append group rest, is.0.0.0)
colon_hex_some text (s ∷ segments) eight (inl (inr (last, octets, _, spelled, is, value), _)) =
    omega (arith, ap (λ (l : List ℕ). length l) (spelled ∙ is.spelled), length-append {A = ℕ})
colon_hex_some text (s ∷ segments) eight (inr is) =
    omega (arith, ap (λ (l : List ℕ). length l) is.spelled, length-append (is.head_text ++ codes "::") is.tail_text, length-append is.head_text (codes "::"))

pub address_datum : (a : IpAddr) → MatchIp a IsIpv4Addr IsIpv6Addr → IsDatum (CharData (ip_text a))
address_datum (V4 a) are =
    tame_datum (ipv4_text (ipv4_octets a)) (omega (arith, length-append {A = ℕ})) (all_tame IsDigitOrDot digit_or_dot (ipv4_text (ipv4_octets a)) (All-ipv4_text (ipv4_octets a) are.1))
address_datum (V6 a) are =
    tame_datum (hex_groups_text (ipv6_segments a)) (colon_hex_some _ _ are.0 (IsColonHex-hex_groups_text (ipv6_segments a) are.0 are.1))
    (all_tame IsHexOrColon hex_or_colon (hex_groups_text (ipv6_segments a)) (All-hex_groups_text (ipv6_segments a) are.1))

-- ---- names

high_first : (c : ℕ) → is_plain_octet true c ≡ true → 41 < c
high_first c e = grind (arith, nat_tests)

high_later : (c : ℕ) → is_plain_octet false c ≡ true → 41 < c
high_later c e = grind (arith, nat_tests)

plain_tame : (is_first : Bool) (c : ℕ) → is_plain_octet is_first c ≡ true → IsTame c
plain_tame true c e = (high_first c e, differs (is_plain_octet true) c 59 e refl, differs (is_plain_octet true) c 64 e refl, differs (is_plain_octet true) c 92 e refl)
plain_tame false c e = (high_later c e, differs (is_plain_octet false) c 59 e refl, differs (is_plain_octet false) c 64 e refl, differs (is_plain_octet false) c 92 e refl)

digit_tame : (n : ℕ) → n ≤ 9 → IsTame (48 + n)
digit_tame n small = omega arith

octet_tame : (is_first : Bool) (c : ℕ) → c < 256 → IsTameWord (name.octet_text is_first c)
octet_tame is_first c small = by (is_plain_octet is_first c) refl
  where
    by : (t : Bool) → is_plain_octet is_first c ≡ t → IsTameWord (if t then c ∷ [] else escape_sequence c)
    by true may = tame (plain_tame is_first c may) no_more
    by false may = tame_escape (digit_tame (c / 100) (omega arith)) (tame (digit_tame (c / 10 % 10) (omega arith)) (tame (digit_tame (c % 10) (omega arith)) no_more))

octets_tame : (is_first : Bool) (cs : List ℕ) → AreOctets cs → IsTameWord (octets_text is_first cs)
octets_tame is_first [] are = no_more
octets_tame is_first (c ∷ cs) are = both_tame (octet_tame is_first c are.0) (octets_tame false cs are.1)

dot_tame : IsTame 46
dot_tame = omega arith

dotted_tame : (labels : List (List ℕ)) → AllByRecursion AreOctets labels → IsTameWord (dotted_labels labels)
dotted_tame [] are = no_more
dotted_tame (label ∷ labels) are = both_tame (tame dot_tame (octets_tame true label are.0)) (dotted_tame labels are.1)

last_dot : (is_fqdn : Bool) → IsTameWord (if is_fqdn then 46 ∷ [] else [])
last_dot true = tame dot_tame no_more
last_dot false = no_more

labels_tame : (is_fqdn : Bool) (labels : List (List ℕ)) → AllByRecursion AreOctets labels → IsTameWord (text_of_labels is_fqdn labels)
labels_tame is_fqdn [] are = last_dot is_fqdn
labels_tame is_fqdn (label ∷ labels) are = both_tame (octets_tame true label are.0) (both_tame (dotted_tame labels are.1) (last_dot is_fqdn))

-- the relative name without labels alone has no text
pub name_datum : (name : DomainName) → AllByRecursion AreOctets name.labels → 0 < length (text_of_name name) → IsDatum (CharData (text_of_name name))
name_datum name are some = tame_datum (text_of_name name) some (labels_tame name.is_fqdn name.labels are)

-- ---- strings

both_runs : {r : Run} {a b : List ℕ} → IsRun r a → IsRun r b → IsRun r (a ++ b)
both_runs no_character k = k
both_runs (one_character n m e l more) k = one_character n m e l (both_runs more k)
both_runs (one_escape n m more) k = one_escape n m (both_runs more k)

in_quotes : (c : ℕ) → c ≢ 34 → c ≢ 10 → c ≢ 13 → c ≢ 92 → {run : List ℕ} → IsRun InQuotes run → IsRun InQuotes (c ∷ run)
in_quotes c quote n m slash more = one_character n m (unequal c 34 quote) slash more

octet_run : (c : ℕ) → c < 256 → IsRun InQuotes (octet_text c)
octet_run c small = by (c == 34 || c == 92) refl (nat_le 32 c && nat_le c 126) refl
  where
    by : (special : Bool) → (c == 34 || c == 92) ≡ special → (printable : Bool) → (nat_le 32 c && nat_le c 126) ≡ printable
        → IsRun InQuotes (if special then 92 ∷ c ∷ [] else if printable then c ∷ [] else escape_sequence c)
    by true e printable f = one_escape (differs (λ k. k == 34 || k == 92) c 10 e refl) (differs (λ k. k == 34 || k == 92) c 13 e refl) no_character
    by false e true f = let unspecial : not (c == 34 || c == 92) ≡ true = ap not e in
        in_quotes c (differs (λ k. not (k == 34 || k == 92)) c 34 unspecial refl) (differs (λ k. nat_le 32 k && nat_le k 126) c 10 f refl) (differs (λ k. nat_le 32 k && nat_le k 126) c 13 f refl)
        (differs (λ k. not (k == 34 || k == 92)) c 92 unspecial refl) no_character
    by false e false f =
        one_escape (omega arith) (omega arith) (in_quotes (48 + c / 10 % 10) (omega arith) (omega arith) (omega arith) (omega arith) (in_quotes (48 + c % 10) (omega arith) (omega arith) (omega arith) (omega arith) no_character))

-- so `quoted_text octets` is the text of this datum
pub string_datum : (octets : List ℕ) → AreOctets octets → IsDatum (QuotedString (escaped_text octets))
string_datum [] are = no_character
string_datum (c ∷ cs) are = both_runs (octet_run c are.0) (string_datum cs are.1)
