-- The text of a value is read as the value.
use Rattle.std.proofs.Common.{◌≡◌, ℕ, zero, suc, ◌+◌, ◌-◌, ◌*◌, ◌%◌, ◌<◌, ◌^◌, Bool, true, false, ◌||◌, List, [], ◌∷◌, ◌++◌, length, take, drop, get_or, Option, Some, None, Ok, refl, sym, ap, subst, ◌∙◌, arith}
use Rattle.std.specs.Prelude.{◌==◌, nat_lt, slice_index, if◌then◌else◌}
use Rattle.std.specs.Fmt.{decimal}
use Rattle.std.proofs.lemmas.Bool.Decides.{nat_tests}
use Rattle.base64.specs.Engines.{standard}
use Rattle.base64.specs.GeneralPurpose.{encode_of, decode_of}
use Rattle.base64.proofs.RoundTrip.{decode-encode}
use Rattle.dns_wire.specs.codes.Decimal.{decimal_up_to}
use Rattle.dns_names.specs.Print.{AreOctets}
use Rattle.dns_fields.specs.service.Key.{keys}
use Rattle.dns_fields.specs.service.Wire.{key_at, is_value}
use Rattle.dns_fields.specs.service.Parameter.{port_bytes, base64_bytes, value_bytes, named_bytes}
use Rattle.dns_fields.specs.service.Text.{item_octet, item_text, name_among, key_name, ipv4_text, ipv6_text, front_item, lead, item_len, items_text, value_octets}
use Rattle.dns_fields.specs.declared.service.list.Item.{Item}
use Rattle.dns_fields.specs.declared.service.list.Item.TheVariants.{Key, Protocol, Address4, Address6}
use Rattle.dns_fields.proofs.DecimalLaws.{decimal_parses}
use Rattle.dns_fields.proofs.KeyBackLaws.{name_numbered}
use Rattle.dns_fields.proofs.ListBackLaws.{number_bytes, list_back, keys_are, protocols_are, ipv4_items, ipv6_items}
use Rattle.dns_fields.proofs.LoopLaws.{first_of, second_of}
use Rattle.dns_fields.proofs.PlainLaws.{octet_or, simple_octets, decimal_simple, dotted_simple, key_simple, ipv6_simple, base64_simple}

equal : (a b : ℕ) → (a == b) ≡ true → a ≡ b
equal a b q = grind (arith, nat_tests)

positive : (n : ℕ) → nat_lt 0 n ≡ true → 0 < n
positive n q = grind (arith, nat_tests)

tested : {P : Type 0} (t : Bool) → (t ≡ true → P) → (t ≡ false → P) → P
tested true p q = p refl
tested false p q = q refl

-- none of the keys with forms
pub record IsOpaque (key : ℕ) : Type 0 where
  pub n0 : (key == 0) ≡ false
  pub n1 : (key == 1) ≡ false
  pub n3 : (key == 3) ≡ false
  pub n4 : (key == 4) ≡ false
  pub n5 : (key == 5) ≡ false
  pub n6 : (key == 6) ≡ false

by_key : (P : ℕ → Type 0) → P 0 → P 1 → P 3 → P 4 → P 5 → P 6 → ((key : ℕ) → IsOpaque key → P key) → (key : ℕ) → P key
by_key P p0 p1 p3 p4 p5 p6 other key =
    tested (key == 0) (λ q. subst P (sym (equal key 0 q)) p0) (λ q0.
    tested (key == 1) (λ q. subst P (sym (equal key 1 q)) p1) (λ q1.
    tested (key == 3) (λ q. subst P (sym (equal key 3 q)) p3) (λ q3.
    tested (key == 4) (λ q. subst P (sym (equal key 4 q)) p4) (λ q4.
    tested (key == 5) (λ q. subst P (sym (equal key 5 q)) p5) (λ q5.
    tested (key == 6) (λ q. subst P (sym (equal key 6 q)) p6) (λ q6. other key (record { n0 = q0; n1 = q1; n3 = q3; n4 = q4; n5 = q5; n6 = q6 })))))))

-- ---- values

octet_at : (bytes : List ℕ) → AreOctets bytes → (i : ℕ) → slice_index bytes i < 256
octet_at [] are i = omega arith
octet_at (c ∷ cs) are zero = are.0
octet_at (c ∷ cs) are (suc i) = octet_at cs are.1 i

base64_back : (bytes : List ℕ) → AreOctets bytes → decode_of standard (encode_of standard bytes) ≡ Ok bytes
base64_back bytes are =
    let p = decode-encode standard.encode_table standard.decode_table bytes 61 standard.config.decode_allow_trailing_bits standard.config.decode_padding_mode true refl (octet_at bytes are) refl in
    rw (p.0, p.1) refl

port_back : (value : List ℕ) → AreOctets value → (length value == 2) ≡ true → port_bytes (decimal_up_to 65535 (decimal (key_at value))) ≡ Ok value
port_back [] are e = absurd (cc)
port_back (a ∷ []) are e = absurd (cc)
port_back (a ∷ b ∷ []) are e =
    let p = are.0 in
    let q = are.1.0 in
    ap port_bytes (decimal_parses 65535 (256 * a + b) (omega arith) (omega arith)) ∙ ap (λ (l : List ℕ). Ok l) (number_bytes a b p q)
port_back (a ∷ b ∷ c ∷ rest) are e = let two : length (a ∷ b ∷ c ∷ rest) ≡ 2 = equal (length (a ∷ b ∷ c ∷ rest)) 2 e in absurd (omega (arith, two))

abbrev IsBack : List ℕ → ℕ → Type 0
IsBack all key = (value : List ℕ) → AreOctets value → is_value all key value ≡ true → value_bytes key (value_octets key value) ≡ Ok value

opaque_back : (all : List ℕ) (key : ℕ) → IsOpaque key → IsBack all key
opaque_back all key is value are e = rw (is.n0, is.n1, is.n3, is.n4, is.n5, is.n6) refl

pub value_back : (all : List ℕ) (key : ℕ) → IsBack all key
value_back all =
    by_key (IsBack all)
    (λ value are e. list_back Key value (positive (length value) (first_of (nat_lt 0 (length value)) _ e)) (keys_are all value are (second_of (nat_lt 0 (length value)) _ e)))
    (λ value are e. list_back Protocol value (positive (length value) (first_of (nat_lt 0 (length value)) _ e)) (protocols_are value are (second_of (nat_lt 0 (length value)) _ e)))
    (λ value are e. port_back value are e)
    (λ value are e.
    list_back Address4 value (positive (length value) (first_of (nat_lt 0 (length value)) _ e)) (ipv4_items [] value are (equal (length value % 4) 0 (second_of (nat_lt 0 (length value)) _ e))))
    (λ value are e. ap base64_bytes (base64_back value are))
    (λ value are e.
    list_back Address6 value (positive (length value) (first_of (nat_lt 0 (length value)) _ e))
    (ipv6_items (length value) [] value (omega arith) are (equal (length value % 16) 0 (second_of (nat_lt 0 (length value)) _ e))))
    (opaque_back all)

-- a value of no octets, of which there is no text
pub empty_back : (all : List ℕ) (key : ℕ) → is_value all key [] ≡ true → value_bytes key [] ≡ Ok []
empty_back all = by_key (λ key. is_value all key [] ≡ true → value_bytes key [] ≡ Ok []) (λ e. absurd (cc)) (λ e. absurd (cc)) (λ e. absurd (cc)) (λ e. absurd (cc)) (λ e. absurd (cc)) (λ e. absurd (cc))
    (λ key is e. rw (is.n0, is.n1, is.n3, is.n4, is.n5, is.n6) refl)

-- a key that has no name is opaque
unnamed : (key : ℕ) → name_among keys key ≡ None → IsOpaque key
unnamed = by_key (λ key. name_among keys key ≡ None → IsOpaque key) (λ e. absurd (cc)) (λ e. absurd (cc)) (λ e. absurd (cc)) (λ e. absurd (cc)) (λ e. absurd (cc)) (λ e. absurd (cc)) (λ key is e. is)

-- the value by its name
pub named_back : (all : List ℕ) (key : ℕ) (value octets : List ℕ) → value_bytes key octets ≡ Ok value → (IsOpaque key → octets ≡ value) → named_bytes (key_name key) key octets ≡ Ok value
named_back all key value octets e same = by (name_among keys key) refl
  where
    by : (o : Option (List ℕ)) → name_among keys key ≡ o → named_bytes (key_name key) key octets ≡ Ok value
    by None q = ap (λ (t : Bool). if t then Ok octets else value_bytes key octets) ((name_numbered key).0 q) ∙ ap (λ (l : List ℕ). Ok l) (same (unnamed key q))
    by (Some name) q = ap (λ (t : Bool). if t then Ok octets else value_bytes key octets) ((name_numbered key).1 name q) ∙ e

-- the octets of a parameter's text: none if the value is empty
abbrev pub text_octets : ℕ → List ℕ → List ℕ
text_octets key value = if length value == 0 then [] else value_octets key value

some_octets : (key c : ℕ) (cs : List ℕ) → text_octets key (c ∷ cs) ≡ value_octets key (c ∷ cs)
some_octets key c cs = ap (λ (t : Bool). if t then [] else value_octets key (c ∷ cs)) some
  where
    some : (length (c ∷ cs) == 0) ≡ false
    some = grind (arith, nat_tests)

pub parameter_back : (all : List ℕ) (key : ℕ) (value : List ℕ) → AreOctets value → is_value all key value ≡ true → named_bytes (key_name key) key (text_octets key value) ≡ Ok value
parameter_back all key [] are e = named_back all key [] [] (empty_back all key e) (λ is. refl)
parameter_back all key (c ∷ cs) are e =
    ap (λ (l : List ℕ). named_bytes (key_name key) key l) (some_octets key c cs)
    ∙ named_back all key (c ∷ cs) (value_octets key (c ∷ cs)) (value_back all key (c ∷ cs) are e) (λ is. rw (is.n0, is.n1, is.n3, is.n4, is.n5, is.n6) refl)

-- ---- octets

octets_append : (a b : List ℕ) → AreOctets a → AreOctets b → AreOctets (a ++ b)
octets_append [] b are more = more
octets_append (c ∷ cs) b are more = (are.0, octets_append cs b are.1 more)

item_octets : (item : List ℕ) → AreOctets item → AreOctets (item_text item)
item_octets [] are = tt
item_octets (c ∷ cs) are = octets_append (item_octet c) (item_text cs) (by (c == 44 || c == 92)) (item_octets cs are.1)
  where
    by : (t : Bool) → AreOctets (if t then 92 ∷ c ∷ [] else c ∷ [])
    by true = (omega arith, (are.0, tt))
    by false = (are.0, tt)

front_octets : (n : ℕ) (bytes : List ℕ) → AreOctets bytes → AreOctets (take n bytes)
front_octets zero bytes are = tt
front_octets (suc n) [] are = tt
front_octets (suc n) (c ∷ cs) are = (are.0, front_octets n cs are.1)

later_octets : (n : ℕ) (bytes : List ℕ) → AreOctets bytes → AreOctets (drop n bytes)
later_octets zero bytes are = are
later_octets (suc n) [] are = tt
later_octets (suc n) (c ∷ cs) are = later_octets n cs are.1

small_key : (bytes : List ℕ) → AreOctets bytes → key_at bytes < 2 ^ 64
small_key bytes are = let p = octet_or bytes are 0 in let q = octet_or bytes are 1 in omega (arith, p, q)

small_octet : (bytes : List ℕ) → AreOctets bytes → (i : ℕ) → get_or bytes i 0 < 2 ^ 64
small_octet bytes are i = let p = octet_or bytes are i in omega (arith, p)

item_are : (kind : Item) (bytes : List ℕ) → AreOctets bytes → AreOctets (front_item kind bytes)
item_are Key bytes are = simple_octets (key_name (key_at bytes)) (key_simple (key_at bytes) (small_key bytes are))
item_are Protocol bytes are = item_octets (take (get_or bytes 0 0) (drop 1 bytes)) (front_octets (get_or bytes 0 0) (drop 1 bytes) (later_octets 1 bytes are))
item_are Address4 bytes are = simple_octets (ipv4_text bytes) (dotted_simple (get_or bytes 0 0) (get_or bytes 1 0) (get_or bytes 2 0) (get_or bytes 3 0) (small_octet bytes are 0) (small_octet bytes are 1) (small_octet bytes are 2) (small_octet bytes are 3))
item_are Address6 bytes are = simple_octets (ipv6_text bytes) (ipv6_simple bytes are)

lead_octets : (is_first : Bool) → AreOctets (lead is_first)
lead_octets true = tt
lead_octets false = (omega arith, tt)

items_are : (kind : Item) (is_first : Bool) (n : ℕ) (xs : List ℕ) → AreOctets xs → AreOctets (items_text kind is_first n xs)
items_are kind is_first n [] are = tt
items_are kind is_first zero (c ∷ cs) are =
    octets_append (lead is_first ++ front_item kind (c ∷ cs)) (items_text kind false (item_len kind (c ∷ cs) - 1) cs)
    (octets_append (lead is_first) (front_item kind (c ∷ cs)) (lead_octets is_first) (item_are kind (c ∷ cs) are)) (items_are kind false (item_len kind (c ∷ cs) - 1) cs are.1)
items_are kind is_first (suc n) (c ∷ cs) are = items_are kind is_first n cs are.1

pub value_are : (key : ℕ) (value : List ℕ) → AreOctets value → AreOctets (value_octets key value)
value_are = by_key (λ key. (value : List ℕ) → AreOctets value → AreOctets (value_octets key value)) (λ value are. items_are Key true 0 value are) (λ value are. items_are Protocol true 0 value are)
    (λ value are. simple_octets (decimal (key_at value)) (decimal_simple (key_at value) (small_key value are))) (λ value are. items_are Address4 true 0 value are) (λ value are. simple_octets (encode_of standard value) (base64_simple value are)) (λ value are. items_are Address6 true 0 value are)
    (λ key is value are. rw (is.n0, is.n1, is.n3, is.n4, is.n5, is.n6) are)
