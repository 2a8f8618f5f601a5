-- How hosts are spelled: addresses as their grammar derives them, and all hosts in ASCII.
use Rattle.std.proofs.Common.{◌≡◌, ◌∙◌, ◌+◌, ◌*◌, ◌-◌, ◌<◌, ◌++◌, ◌||◌, ◌==◌, ℕ, Bool, true, false, cond, List, [], ◌∷◌, length, Option, Some, None, Result, Ok, Err, is_some, is_ok, refl, sym, subst, ap, ne_eqb, inl, inr, arith, append-nil, lit≤, codes}
use Rattle.std.specs.Prelude.{◌⊎◌, ◌↔◌, decimal}
use Rattle.std.specs.Str.{IsAscii, IsUtf8}
use Rattle.std.specs.Str.Parse.{AllDigits}
use Rattle.std.specs.Net.Grammar.{IsColonHex, IsDotted, IsGroupsAfter, IsIpText}
use Rattle.std.specs.Net.Reader.{Read, read_ipv4, read_ipv6, whole_value}
use Rattle.std.specs.declared.net.ip_addr.IpAddr.{IpAddr}
use Rattle.std.specs.declared.net.ip_addr.IpAddr.TheVariants as Ip
use Rattle.std.proofs.NetLemmas.Ipv4.{read_ipv4_complete, read_ipv4_sound}
use Rattle.std.proofs.NetLemmas.Ipv6.{EndsGroups-nil, read_ipv6_complete, read_ipv6_sound}
use Rattle.std.proofs.lemmas.Bool.Decides.{nat_tests}
use Rattle.std.proofs.lemmas.Fmt.{IsAscii-decimal}
use Rattle.std.proofs.lemmas.Str.{IsAscii-append, IsUtf8-from_ascii}
use Rattle.std.proofs.lemmas.Str.Ascii.{IsAscii-nil, IsAscii-cons}
use Rattle.dns_wire.specs.codes.Decimal.{at_most, decimal_up_to, digits_from, is_digit}
use Rattle.dns_names.specs.Name.{DomainName}
use Rattle.dns_names.specs.Parse.{Spells, SpellsLabels, SpellsOctets, is_plain_octet, name_of_text}
use Rattle.dns_names.specs.Parse.{no_octet, unescaped, by_digits, by_character, one_label, more_labels, root, no_label, relative, fully_qualified}
use Rattle.dns_names.specs.declared.error.ParseError.{ParseError}
use Rattle.dns_names.proofs.GrammarCompleteness.{read_is_spelled}
use Rattle.dns_text.specs.Address.{IsTextOf}
use Rattle.stub_script.specs.ScriptFields.{SpellsHost, host_of, is_address}

-- ---- addresses

-- a value and all of the text
whole_some : {A : Type 0} (r : Read A) → is_some (whole_value r) ≡ true → (a : A) × (r ≡ Some (a, []))
whole_some None some = cc
whole_some {A} (Some p) some = go p.0 p.1 some
  where
    go : (a : A) (rest : List ℕ) → is_some (whole_value (Some (a, rest))) ≡ true → (x : A) × (◌≡◌ {A = Read A} (Some (a, rest)) (Some (x, [])))
    go a [] h = (a, refl)
    go a (c ∷ rest) h =
        let some_left : (length (c ∷ rest) == 0) ≡ false = ne_eqb (length (c ∷ rest)) 0 (omega arith) in
        let bad : false ≡ true = rw some_left at h in
        cc

dotted_is_read : (text octets : List ℕ) → IsDotted text octets → is_some (whole_value (read_ipv4 text)) ≡ true
dotted_is_read text octets h =
    let read : read_ipv4 text ≡ Some (octets, []) = ap read_ipv4 (sym (append-nil text)) ∙ read_ipv4_complete text octets [] h (lit≤ tt) in
    rw read refl

read_is_dotted : (text : List ℕ) → is_some (whole_value (read_ipv4 text)) ≡ true → (octets : List ℕ) × IsDotted text octets
read_is_dotted text some =
    let read = whole_some (read_ipv4 text) some in
    let front = read_ipv4_sound text read.0 [] read.1 in
    (read.0, subst (λ (t : List ℕ). IsDotted t read.0) (sym (front.1 ∙ append-nil front.0)) front.2)

colon_hex_is_read : (text segments : List ℕ) → IsColonHex text segments → is_some (whole_value (read_ipv6 text)) ≡ true
colon_hex_is_read text segments h =
    let read : read_ipv6 text ≡ Some (segments, []) = ap read_ipv6 (sym (append-nil text)) ∙ read_ipv6_complete text segments [] h EndsGroups-nil in
    rw read refl

read_is_colon_hex : (text : List ℕ) → is_some (whole_value (read_ipv6 text)) ≡ true → (segments : List ℕ) × IsColonHex text segments
read_is_colon_hex text some =
    let read = whole_some (read_ipv6 text) some in
    let front = read_ipv6_sound text read.0 [] read.1 in
    (read.0, subst (λ (t : List ℕ). IsColonHex t read.0) (sym (front.1 ∙ append-nil front.0)) front.2)

or_right : (a b : Bool) → b ≡ true → a || b ≡ true
or_right true b h = refl
or_right false b h = h

or_left : (a b : Bool) → a ≡ true → a || b ≡ true
or_left true b h = refl
or_left false b h = cc

either : (a b : Bool) → a || b ≡ true → (a ≡ true) ⊎ (b ≡ true)
either true b h = inl refl
either false b h = inr h

-- each text of an address is one
pub address_is : (text : List ℕ) (a : IpAddr) → IsIpText text a → is_address text ≡ true
unfolding is_address
address_is text (Ip.V4 a) h = or_left (is_some (whole_value (read_ipv4 text))) _ (dotted_is_read text _ h)
address_is text (Ip.V6 a) h = or_right (is_some (whole_value (read_ipv4 text))) _ (colon_hex_is_read text _ h)

-- and no other
pub is_of_address : (text : List ℕ) → is_address text ≡ true → (a : IpAddr) × IsIpText text a
unfolding is_address
is_of_address text h = elim (either (is_some (whole_value (read_ipv4 text))) _ h) [
  | inl four ↦
      let is = read_is_dotted text four in
      (Ip.V4 (record { octets = is.0 }), is.1)
  | inr six ↦
      let is = read_is_colon_hex text six in
      (Ip.V6 (record { segments = is.0 }), is.1)
]

if_true : (b : Bool) → (b ≡ true → ⊥) → b ≡ false
if_true true h = absurd (h refl)
if_true false h = refl

pub address_test : (text : List ℕ) (found : Option IpAddr) → IsTextOf text found → is_address text ≡ is_some found
address_test text None h = if_true (is_address text) (λ e. let of = is_of_address text e in h of.0 of.1)
address_test text (Some a) h = address_is text a h

-- ---- ASCII

ascii_digits : (ds : List ℕ) → AllDigits 16 ds → IsAscii ds
ascii_digits [] h = IsAscii-nil
ascii_digits (d ∷ ds) h =
    let digit = h.0 in
    let small : d < 128 = grind (arith, nat_tests) in
    IsAscii-cons d ds small (ascii_digits ds h.1)

ascii_dot : IsAscii (46 ∷ [])
ascii_dot = IsAscii-cons 46 [] (omega arith) IsAscii-nil

ascii_colon : IsAscii (58 ∷ [])
ascii_colon = IsAscii-cons 58 [] (omega arith) IsAscii-nil

ascii_byte : (n : ℕ) → n < 256 → IsAscii (decimal n)
ascii_byte n fits = IsAscii-decimal n (omega arith)

ascii_dotted : (text octets : List ℕ) → IsDotted text octets → IsAscii text
ascii_dotted text octets h =
    let one = IsAscii-append (decimal h.a) (46 ∷ []) (ascii_byte h.a h.fit.0) ascii_dot in
    let two = IsAscii-append (decimal h.a ++ codes ".") (decimal h.b) one (ascii_byte h.b h.fit.1) in
    let three = IsAscii-append (decimal h.a ++ codes "." ++ decimal h.b ++ codes ".") (decimal h.c) (IsAscii-append (decimal h.a ++ codes "." ++ decimal h.b) (46 ∷ []) two ascii_dot) (ascii_byte h.c h.fit.2) in
    let all = IsAscii-append (decimal h.a ++ codes "." ++ decimal h.b ++ codes "." ++ decimal h.c) (46 ∷ []) three ascii_dot in
    rw h.spelled (IsAscii-append (decimal h.a ++ codes "." ++ decimal h.b ++ codes "." ++ decimal h.c ++ codes ".") (decimal h.d) all (ascii_byte h.d h.fit.3))

ascii_groups_after : (ipv4 : Bool) (lead text segments : List ℕ) → IsAscii lead → IsGroupsAfter ipv4 lead text segments → IsAscii text
ascii_groups_after ipv4 lead text [] begins h = rw h IsAscii-nil
ascii_groups_after ipv4 lead text (s ∷ segments) begins (inl h) =
    let later = ascii_groups_after ipv4 (codes ":") h.1 segments ascii_colon h.4 in
    rw h.2 (IsAscii-append (lead ++ h.0) h.1 (IsAscii-append lead h.0 begins (ascii_digits h.0 h.3.0.0.1)) later)
ascii_groups_after ipv4 lead text (s ∷ segments) begins (inr h) =
    rw h.3 (IsAscii-append lead h.0 begins (ascii_dotted h.0 h.1 h.4))

ascii_colon_hex : (text segments : List ℕ) → IsColonHex text segments → IsAscii text
ascii_colon_hex text segments (inl h) = ascii_groups_after true [] text segments IsAscii-nil h.0
ascii_colon_hex text segments (inr h) =
    let tail = ascii_groups_after true [] h.tail_text h.tail IsAscii-nil h.tail_groups in
    let colons : IsAscii (codes "::") = IsAscii-cons 58 (58 ∷ []) (omega arith) ascii_colon in
    let head = ascii_groups_after false [] h.head_text h.head IsAscii-nil h.head_groups in
    rw h.spelled (IsAscii-append (h.head_text ++ codes "::") h.tail_text (IsAscii-append h.head_text (codes "::") head colons) tail)

ascii_address : (text : List ℕ) (a : IpAddr) → IsIpText text a → IsAscii text
ascii_address text (Ip.V4 a) h = ascii_dotted text _ h
ascii_address text (Ip.V6 a) h = ascii_colon_hex text _ h

plain_is_small : (is_first : Bool) (c : ℕ) → is_plain_octet is_first c ≡ true → c < 128
plain_is_small true c h = grind (arith, nat_tests)
plain_is_small false c h = grind (arith, nat_tests)

ascii_decimal : (number value : ℕ) (text : List ℕ) → digits_from number text ≡ Some value → IsAscii text
ascii_decimal number value [] h = IsAscii-nil
ascii_decimal number value (c ∷ cs) h = go (is_digit c) refl (ascii_decimal (10 * number + (c - 48)) value cs) h
  where
    go : (b : Bool) → is_digit c ≡ b → (digits_from (10 * number + (c - 48)) cs ≡ Some value → IsAscii cs)
        → cond b (digits_from (10 * number + (c - 48)) cs) None ≡ Some value → IsAscii (c ∷ cs)
    go true digit rest h =
        let small : c < 128 = grind (arith, nat_tests) in
        IsAscii-cons c cs small (rest h)
    go false digit rest h = cc

some_of_at_most : (greatest value : ℕ) (found : Option ℕ) → at_most greatest found ≡ Some value → (n : ℕ) × (found ≡ Some n)
some_of_at_most greatest value None h = cc
some_of_at_most greatest value (Some n) h = (n, refl)

ascii_octet : (x y z octet : ℕ) → decimal_up_to 255 (x ∷ y ∷ z ∷ []) ≡ Some octet → IsAscii (x ∷ y ∷ z ∷ [])
unfolding decimal_up_to
ascii_octet x y z octet h =
    let found = some_of_at_most 255 octet (digits_from 0 (x ∷ y ∷ z ∷ [])) h in
    ascii_decimal 0 found.0 (x ∷ y ∷ z ∷ []) found.1

ascii_octets : (is_first : Bool) (text octets : List ℕ) → SpellsOctets is_first text octets → IsAscii text
ascii_octets is_first _ _ no_octet = IsAscii-nil
ascii_octets is_first _ _ (unescaped {c} {text} {octets} plain rest) =
    IsAscii-cons c text (plain_is_small is_first c plain) (ascii_octets false text octets rest)
ascii_octets is_first _ _ (by_digits {x} {y} {z} {octet} {text} {octets} digits rest) =
    IsAscii-cons 92 (x ∷ y ∷ z ∷ text) (omega arith) (IsAscii-append (x ∷ y ∷ z ∷ []) text (ascii_octet x y z octet digits) (ascii_octets false text octets rest))
ascii_octets is_first _ _ (by_character {c} {text} {octets} other low high rest) =
    IsAscii-cons 92 (c ∷ text) (omega arith) (IsAscii-cons c text (omega arith) (ascii_octets false text octets rest))

ascii_labels : (text : List ℕ) (labels : List (List ℕ)) → SpellsLabels text labels → IsAscii text
ascii_labels _ _ (one_label {text} {label} first) = ascii_octets true text label first.0
ascii_labels _ _ (more_labels {text} {rest} {label} {labels} first others) =
    IsAscii-append text (46 ∷ rest) (ascii_octets true text label first.0) (IsAscii-cons 46 rest (omega arith) (ascii_labels rest labels others))

ascii_name : (text : List ℕ) (name : DomainName) → Spells text name → IsAscii text
ascii_name _ _ root = ascii_dot
ascii_name _ _ no_label = IsAscii-nil
ascii_name _ _ (relative {text} {labels} spelled within) = ascii_labels text labels spelled
ascii_name _ _ (fully_qualified {text} {labels} spelled within) = IsAscii-append text (46 ∷ []) (ascii_labels text labels spelled) ascii_dot

ascii_if_ok : (text : List ℕ) (found : Result DomainName ParseError) → name_of_text text ≡ found → is_ok found ≡ true → IsAscii text
ascii_if_ok text (Ok name) is ok = ascii_name text name (read_is_spelled is)
ascii_if_ok text (Err error) is ok = cc

-- ---- hosts

ascii_host : (text : List ℕ) → is_address text || is_ok (name_of_text text) ≡ true → IsAscii text
ascii_host text h = elim (either (is_address text) (is_ok (name_of_text text)) h) [
  | inl address ↦
      let of = is_of_address text address in
      ascii_address text of.0 of.1
  | inr name ↦ ascii_if_ok text (name_of_text text) refl name
]

-- a text that is not valid UTF-8 is not a host
pub no_host : (text : List ℕ) → (IsUtf8 text → ⊥) → host_of text ≡ None
unfolding host_of
no_host text not =
    let other : is_address text || is_ok (name_of_text text) ≡ false =
    if_true (is_address text || is_ok (name_of_text text)) (λ host. not (IsUtf8-from_ascii text (ascii_host text host))) in
    rw other refl

name_if_ok : (text : List ℕ) (found : Result DomainName ParseError) → name_of_text text ≡ found → is_ok found ≡ true → (name : DomainName) × (name_of_text text ≡ Ok name)
name_if_ok text (Ok name) is ok = (name, is)
name_if_ok text (Err error) is ok = cc

host_test : (text : List ℕ) (b : Bool) → cond b (Some text) None ≡ Some text → b ≡ true
host_test text true h = refl
host_test text false h = cc

-- a text is a host exactly if it spells one
pub host_spells : (text : List ℕ) → (host_of text ≡ Some text) ↔ SpellsHost text
unfolding host_of
host_spells text = (
  λ h. elim (either (is_address text) (is_ok (name_of_text text)) (host_test text (is_address text || is_ok (name_of_text text)) h)) [
    | inl address ↦ inl (is_of_address text address)
    | inr name ↦ inr (name_if_ok text (name_of_text text) refl name)
  ],
  λ spells. elim spells [
    | inl address ↦ rw (address_is text address.0 address.1) refl
    | inr name ↦
        let ok : is_ok (name_of_text text) ≡ true = rw name.1 refl in
        rw (or_right (is_address text) (is_ok (name_of_text text)) ok) refl
  ],
)
