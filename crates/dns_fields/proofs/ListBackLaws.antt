-- The text of a list is read as its value.
use Rattle.std.proofs.Common.{◌≡◌, ℕ, zero, suc, ◌+◌, ◌-◌, ◌*◌, ◌/◌, ◌%◌, ◌<◌, ◌≤◌, Bool, true, false, ◌&&◌, ◌||◌, List, [], ◌∷◌, ◌++◌, length, take, drop, get_or, Option, Some, None, Result, Ok, Err, refl, sym, ap, subst, ◌∙◌, append_assoc, arith, length-append, length-take, length-drop}
use Rattle.std.specs.Prelude.{◌==◌, not, nat_le, nat_lt, slice_index, if◌then◌else◌}
use Rattle.std.specs.Fmt.{decimal}
use Rattle.std.specs.Int.{w16, to_be_bytes}
use Rattle.std.specs.List.{AllByRecursion}
use Rattle.std.proofs.lemmas.Bool.Decides.{nat_tests}
use Rattle.std.proofs.lemmas.List.{append-nil}
use Rattle.std.proofs.lemmas.Nat.{be_bytes_2}
use Rattle.hex.specs.Hex.{encode_with, lower_digits}
use Rattle.dns_wire.specs.codes.Decimal.{decimal_up_to}
use Rattle.hex.proofs.HexLemmas.{decode_of-encode_lower}
use Rattle.dns_names.specs.Print.{AreOctets}
use Rattle.dns_fields.specs.service.Wire.{has_key, are_mandatory, are_protocols}
use Rattle.dns_fields.specs.service.Address.{joined, one_octet, hex_bytes, part_bytes, separator, parts_bytes, sized, ipv4_bytes, last_group, has_dot, groups_bytes, mixed_bytes, elision, elided_at, ipv6_bytes}
use Rattle.dns_fields.specs.service.List.{key_place, inserted, with_key, with_address, with_item, list_bytes}
use Rattle.dns_fields.specs.service.Text.{item_octet, item_text, key_name, dotted, hex_pair, more_groups, ipv6_text, item_len, front_item, items_text}
use Rattle.dns_fields.specs.declared.service.address.Part.{Part}
use Rattle.dns_fields.specs.declared.service.address.Part.TheVariants.{Decimal, Group}
use Rattle.dns_fields.specs.declared.service.fault.ServiceFault.{ServiceFault}
use Rattle.dns_fields.specs.declared.service.fault.ServiceFault.TheVariants.{InvalidValue}
use Rattle.dns_fields.specs.declared.service.list.Item.{Item}
use Rattle.dns_fields.specs.declared.service.list.Item.TheVariants.{Key, Protocol, Address4, Address6}
use Rattle.dns_fields.proofs.DecimalLaws.{decimal_parses}
use Rattle.dns_fields.proofs.KeyBackLaws.{no_leading_zero, key_back}
use Rattle.dns_fields.proofs.LoopLaws.{first_of, second_of, protocol_skip, protocol_ends}
use Rattle.dns_fields.proofs.PlainLaws.{octet_or, are_simple, simple_item, decimal_apart, dotted_is, dotted_simple, key_simple, ipv6_simple}
use Rattle.dns_fields.proofs.TextLaws.{items_front}

-- ---- texts of items

-- a text is read as an item, whatever was read of it before and whatever follows
abbrev pub ReadsAs : List ℕ → List ℕ → Type 0
ReadsAs text item = (kind : Item) (bytes before rest : List ℕ) → list_bytes kind bytes before false (text ++ rest) ≡ list_bytes kind bytes (before ++ item) false rest

reads_octet : (c : ℕ) → ReadsAs (item_octet c) (c ∷ [])
reads_octet c kind bytes before rest = by (c == 44) refl (c == 92) refl
  where
    by : (a : Bool) → (c == 44) ≡ a → (b : Bool) → (c == 92) ≡ b
        → list_bytes kind bytes before false ((if a || b then 92 ∷ c ∷ [] else c ∷ []) ++ rest) ≡ list_bytes kind bytes (before ++ c ∷ []) false rest
    by true e b f = rw e refl
    by false e true f = rw (e, f) refl
    by false e false f = rw (e, f) refl

reads_text : (item : List ℕ) → ReadsAs (item_text item) item
reads_text [] kind bytes before rest = ap (λ (l : List ℕ). list_bytes kind bytes l false rest) (sym (append-nil before))
reads_text (c ∷ cs) kind bytes before rest =
    ap (λ (l : List ℕ). list_bytes kind bytes before false l) (append_assoc (item_octet c) (item_text cs) rest)
    ∙ reads_octet c kind bytes before (item_text cs ++ rest)
    ∙ reads_text cs kind bytes (before ++ c ∷ []) rest
    ∙ ap (λ (l : List ℕ). list_bytes kind bytes l false rest) (append_assoc before (c ∷ []) cs)

reads_simple : (text : List ℕ) → are_simple text ≡ true → ReadsAs text text
reads_simple text e = subst (λ (l : List ℕ). ReadsAs l text) (simple_item text e) (reads_text text)

-- ---- lists

-- items, the first of which begins a value, as they are added to the bytes before them
pub data AreItems (kind : Item) : List ℕ → List ℕ → Type 0 where
  no_item : {done : List ℕ} → AreItems kind done []
  an_item : {done xs : List ℕ} (item : List ℕ) → 0 < length xs → ReadsAs (front_item kind xs) item → with_item kind done item ≡ Ok (done ++ take (item_len kind xs) xs)
      → AreItems kind (done ++ take (item_len kind xs) xs) (drop (item_len kind xs) xs) → AreItems kind done xs

split_at : (n : ℕ) (xs : List ℕ) → take n xs ++ drop n xs ≡ xs
split_at zero [] = refl
split_at zero (x ∷ xs) = refl
split_at (suc n) [] = refl
split_at (suc n) (x ∷ xs) = ap (λ (l : List ℕ). x ∷ l) (split_at n xs)

items_back : (kind : Item) (done item more xs : List ℕ) → with_item kind done item ≡ Ok more → AreItems kind more xs → list_bytes kind done item false (items_text kind false 0 xs) ≡ Ok (more ++ xs)
items_back kind done item more xs e no_item = e ∙ ap (λ (l : List ℕ). Ok l) (sym (append-nil more))
items_back kind done item more xs e (an_item next some reads adds rest) =
    let n : ℕ = item_len kind xs in
    let tail : List ℕ = items_text kind false 0 (drop n xs) in
    ap (λ (l : List ℕ). list_bytes kind done item false l) (items_front kind false xs some)
    ∙ ap (λ (r : Result (List ℕ) ServiceFault). elim r as (λ _. Result (List ℕ) ServiceFault) [ Ok bytes ↦ list_bytes kind bytes [] false (front_item kind xs ++ tail) | Err fault ↦ Err fault ]) e
    ∙ reads kind more [] tail
    ∙ items_back kind more next (more ++ take n xs) (drop n xs) adds rest
    ∙ ap (λ (l : List ℕ). Ok l) (append_assoc more (take n xs) (drop n xs) ∙ ap (λ (l : List ℕ). more ++ l) (split_at n xs))

pub list_back : (kind : Item) (xs : List ℕ) → 0 < length xs → AreItems kind [] xs → list_bytes kind [] [] false (items_text kind true 0 xs) ≡ Ok xs
list_back kind xs some no_item = absurd (omega arith)
list_back kind xs some (an_item next _ reads adds rest) =
    let n : ℕ = item_len kind xs in
    let tail : List ℕ = items_text kind false 0 (drop n xs) in
    ap (λ (l : List ℕ). list_bytes kind [] [] false l) (items_front kind true xs some)
    ∙ reads kind [] [] tail
    ∙ items_back kind [] next (take n xs) (drop n xs) adds rest
    ∙ ap (λ (l : List ℕ). Ok l) (split_at n xs)

-- ---- keys

two_octets : (a b : ℕ) → a < 256 → b < 256 → (i : ℕ) → get_or (a ∷ b ∷ []) i 0 < 256
two_octets a b p q zero = p
two_octets a b p q (suc zero) = q
two_octets a b p q (suc (suc i)) = omega arith

pub number_bytes : (a b : ℕ) → a < 256 → b < 256 → to_be_bytes w16 (256 * a + b) ≡ a ∷ b ∷ []
number_bytes a b p q = be_bytes_2 (a ∷ b ∷ []) (256 * a + b) refl (two_octets a b p q) (omega arith)

pub at_end : (n : ℕ) (more bytes : List ℕ) → n ≡ length bytes → inserted n more bytes ≡ bytes ++ more
at_end n more bytes is = ap (λ (k : ℕ). inserted k more bytes) is ∙ all bytes
  where
    all : (xs : List ℕ) → take (length xs) xs ++ more ++ drop (length xs) xs ≡ xs ++ more
    all [] = append-nil more
    all (x ∷ xs) = ap (λ (l : List ℕ). x ∷ l) (all xs)

-- keys that are all lower
abbrev AreLower : ℕ → List ℕ → Type 0
AreLower least done = (key : ℕ) → least ≤ key → key_place key done ≡ length done

lt_is : (a b : ℕ) → a < b → nat_lt a b ≡ true
lt_is a b lt = grind (arith, nat_tests)

place_append : (key : ℕ) (done more : List ℕ) → key_place key done ≡ length done → key_place key (done ++ more) ≡ length done + key_place key more
place_append key [] more e = omega arith
place_append key (a ∷ []) more e = absurd (omega (arith, e))
place_append key (a ∷ b ∷ done) more e = by (nat_lt (256 * a + b) key) (λ q. place_append key done more q) e
  where
    by : (t : Bool) → (key_place key done ≡ length done → key_place key (done ++ more) ≡ length done + key_place key more) → (if t then 2 + key_place key done else 0) ≡ length (a ∷ b ∷ done) → (if t then 2 + key_place key (done ++ more) else 0) ≡ length (a ∷ b ∷ done) + key_place key more
    by true further q = let rest : key_place key (done ++ more) ≡ length done + key_place key more = further (omega (arith, q)) in omega (arith, rest)
    by false further q = absurd (omega (arith, q))

more_lower : (a b least : ℕ) (done : List ℕ) → least ≤ 256 * a + b → AreLower least done → AreLower (256 * a + b + 1) (done ++ a ∷ b ∷ [])
more_lower a b least done up lower key above =
    let one : key_place key (a ∷ b ∷ []) ≡ 2 = ap (λ (t : Bool). if t then 2 + 0 else 0) (lt_is (256 * a + b) key (omega arith)) in
    let whole = place_append key done (a ∷ b ∷ []) (lower key (omega arith)) in
    omega (arith, one, whole, length-append done (a ∷ b ∷ []))

at_most : (a b : ℕ) → nat_le a b ≡ true → a ≤ b
at_most a b q = grind (arith, nat_tests)

key_items : (all done : List ℕ) (least : ℕ) (xs : List ℕ) → AreLower least done → AreOctets xs → are_mandatory all least xs ≡ true → AreItems Key done xs
key_items all done least [] lower are e = no_item
key_items all done least (a ∷ []) lower are e = absurd (cc)
key_items all done least (a ∷ b ∷ rest) lower are e =
    let key : ℕ = 256 * a + b in
    let high = are.0 in
    let low = are.1.0 in
    let small : key < 65536 = omega arith in
    let up : least ≤ key = at_most least key (first_of (nat_le least key) _ e) in
    let more : are_mandatory all (key + 1) rest ≡ true = second_of (has_key key 0 all) _ (second_of (nat_le least key) _ e) in
    an_item (key_name key) (omega arith) (reads_simple (key_name key) (key_simple key (omega arith)))
    (ap (with_key done) (key_back key small)
    ∙ ap (λ (l : List ℕ). Ok l) (at_end (key_place key done) (to_be_bytes w16 key) done (lower key up) ∙ ap (λ (l : List ℕ). done ++ l) (number_bytes a b high low)))
    (key_items all (done ++ a ∷ b ∷ []) (key + 1) rest (more_lower a b least done up lower) are.1.1 more)

pub keys_are : (all xs : List ℕ) → AreOctets xs → are_mandatory all 1 xs ≡ true → AreItems Key [] xs
keys_are all xs are e = key_items all [] 1 xs (λ key above. refl) are e

-- ---- identifiers of protocols

octets_after : (n : ℕ) (bytes : List ℕ) → AreOctets bytes → AreOctets (drop n bytes)
octets_after zero bytes are = are
octets_after (suc n) [] are = tt
octets_after (suc n) (c ∷ cs) are = octets_after n cs are.1

positive : (n : ℕ) → nat_lt 0 n ≡ true → 0 < n
positive n q = grind (arith, nat_tests)

protocol_fits : (n : ℕ) (xs : List ℕ) → are_protocols n xs ≡ true → n ≤ length xs
protocol_fits n xs e = by (nat_le n (length xs)) refl
  where
    by : (t : Bool) → nat_le n (length xs) ≡ t → n ≤ length xs
    by true q = at_most n (length xs) q
    by false q = let no : are_protocols n xs ≡ false = protocol_ends n xs (grind (arith, nat_tests)) in absurd (cc)

adds_protocol : (done item : List ℕ) → 0 < length item → length item < 256 → with_item Protocol done item ≡ Ok (done ++ length item ∷ item)
adds_protocol done item some most =
    ap (λ (t : Bool). if t && nat_lt (length item) 256 then Ok (done ++ length item ∷ item) else Err InvalidValue) (lt_is 0 (length item) some)
    ∙ ap (λ (t : Bool). if t then Ok (done ++ length item ∷ item) else Err InvalidValue) (lt_is (length item) 256 most)

protocol_items : (fuel : ℕ) (done xs : List ℕ) → length xs ≤ fuel → AreOctets xs → are_protocols 0 xs ≡ true → AreItems Protocol done xs
protocol_items fuel done [] enough are e = no_item
protocol_items zero done (len ∷ rest) enough are e = absurd (omega arith)
protocol_items (suc fuel) done (len ∷ rest) enough are e =
    let some : 0 < len = positive len (first_of (nat_lt 0 len) _ e) in
    let more : are_protocols len rest ≡ true = second_of (nat_lt 0 len) _ e in
    let fits : len ≤ length rest = protocol_fits len rest more in
    let small = are.0 in
    let full : length (take len rest) ≡ len = length-take len rest ∙ omega arith in
    let next : 1 + len ≡ suc len = omega arith in
    let front : len ∷ take len rest ≡ take (1 + len) (len ∷ rest) = ap (λ (n : ℕ). take n (len ∷ rest)) (sym next) in
    let after : drop len rest ≡ drop (1 + len) (len ∷ rest) = ap (λ (n : ℕ). drop n (len ∷ rest)) (sym next) in
    let left : length (drop len rest) ≤ fuel = omega (arith, length-drop len rest) in
    an_item (take len rest) (omega arith) (reads_text (take len rest))
    (adds_protocol done (take len rest) (omega (arith, full)) (omega (arith, full)) ∙ ap (λ (n : ℕ). Ok (done ++ n ∷ take len rest)) full ∙ ap (λ (l : List ℕ). Ok (done ++ l)) front)
    (subst (λ (l : List ℕ). AreItems Protocol (done ++ take (1 + len) (len ∷ rest)) l) after
    (protocol_items fuel (done ++ take (1 + len) (len ∷ rest)) (drop len rest) left (octets_after len rest are.1) (sym (protocol_skip len rest fits) ∙ more)))

pub protocols_are : (xs : List ℕ) → AreOctets xs → are_protocols 0 xs ≡ true → AreItems Protocol [] xs
protocols_are xs are e = protocol_items (length xs) [] xs (omega arith) are e

-- ---- parts of addresses

part_read : (kind : Part) (part digits rest : List ℕ) → AllByRecursion (λ c. (c == separator kind) ≡ false) digits → parts_bytes kind part (digits ++ rest) ≡ parts_bytes kind (part ++ digits) rest
part_read kind part [] rest apart = ap (λ (l : List ℕ). parts_bytes kind l rest) (sym (append-nil part))
part_read kind part (c ∷ cs) rest apart =
    ap (λ (t : Bool). if t then joined (part_bytes kind part) (parts_bytes kind [] (cs ++ rest)) else parts_bytes kind (part ++ c ∷ []) (cs ++ rest)) apart.0
    ∙ part_read kind (part ++ c ∷ []) cs rest apart.1
    ∙ ap (λ (l : List ℕ). parts_bytes kind l rest) (append_assoc part (c ∷ []) cs)

-- ---- IPv4 addresses

decimal_part : (n : ℕ) → n < 256 → part_bytes Decimal (decimal n) ≡ Some (n ∷ [])
decimal_part n small =
    ap (λ (t : Bool). if t then None else one_octet (decimal_up_to 255 (decimal n))) (no_leading_zero n (omega arith)) ∙ ap one_octet (decimal_parses 255 n (omega arith) (omega arith))

one_part : (n : ℕ) → n < 256 → parts_bytes Decimal [] (decimal n) ≡ Some (n ∷ [])
one_part n small =
    ap (λ (l : List ℕ). parts_bytes Decimal [] l) (sym (append-nil (decimal n))) ∙ part_read Decimal [] (decimal n) [] (decimal_apart n (omega arith)) ∙ decimal_part n small

more_parts : (n : ℕ) (rest bytes : List ℕ) → n < 256 → parts_bytes Decimal [] rest ≡ Some bytes → parts_bytes Decimal [] (decimal n ++ 46 ∷ rest) ≡ Some (n ∷ bytes)
more_parts n rest bytes small e =
    part_read Decimal [] (decimal n) (46 ∷ rest) (decimal_apart n (omega arith)) ∙ ap (λ (o : Option (List ℕ)). joined o (parts_bytes Decimal [] rest)) (decimal_part n small) ∙ ap (λ (o : Option (List ℕ)). joined (Some (n ∷ [])) o) e

dotted_back : (a b c d : ℕ) → a < 256 → b < 256 → c < 256 → d < 256 → ipv4_bytes (dotted a b c d) ≡ Some (a ∷ b ∷ c ∷ d ∷ [])
dotted_back a b c d p q r s =
    ap (λ (l : List ℕ). sized 4 (parts_bytes Decimal [] l)) (dotted_is a b c d)
    ∙ ap (λ (o : Option (List ℕ)). sized 4 o)
    (more_parts a (decimal b ++ 46 ∷ (decimal c ++ 46 ∷ decimal d)) (b ∷ c ∷ d ∷ []) p
    (more_parts b (decimal c ++ 46 ∷ decimal d) (c ∷ d ∷ []) q (more_parts c (decimal d) (d ∷ []) r (one_part d s))))

pub ipv4_items : (done xs : List ℕ) → AreOctets xs → length xs % 4 ≡ 0 → AreItems Address4 done xs
ipv4_items done [] are e = no_item
ipv4_items done (a ∷ []) are e = absurd (omega arith)
ipv4_items done (a ∷ b ∷ []) are e = absurd (omega arith)
ipv4_items done (a ∷ b ∷ c ∷ []) are e = absurd (omega arith)
ipv4_items done (a ∷ b ∷ c ∷ d ∷ rest) are e =
    let p = are.0 in
    let q = are.1.0 in
    let r = are.1.1.0 in
    let s = are.1.1.1.0 in
    an_item (dotted a b c d) (omega arith) (reads_simple (dotted a b c d) (dotted_simple a b c d (omega arith) (omega arith) (omega arith) (omega arith)))
    (ap (with_address done) (dotted_back a b c d p q r s)) (ipv4_items (done ++ a ∷ b ∷ c ∷ d ∷ []) rest are.1.1.1.1 (omega arith))

-- ---- IPv6 addresses

abbrev are_apart : ℕ → List ℕ → Bool
are_apart k [] = true
are_apart k (c ∷ cs) = not (c == k) && are_apart k cs

not_true : (b : Bool) → not b ≡ true → b ≡ false
not_true true e = absurd (cc)
not_true false e = refl

apart_at : (k : ℕ) (table : List ℕ) → are_apart k table ≡ true → (i : ℕ) → i < length table → (slice_index table i == k) ≡ false
apart_at k [] e i within = absurd (omega arith)
apart_at k (c ∷ cs) e zero within = not_true (c == k) (first_of (not (c == k)) (are_apart k cs) e)
apart_at k (c ∷ cs) e (suc i) within = apart_at k cs (second_of (not (c == k)) (are_apart k cs) e) i (omega arith)

-- a hexadecimal digit is neither a colon nor a dot
no_colon : (i : ℕ) → i < 16 → (slice_index lower_digits i == 58) ≡ false
no_colon i small = apart_at 58 lower_digits refl i small

no_dot : (i : ℕ) → i < 16 → (slice_index lower_digits i == 46) ≡ false
no_dot i small = apart_at 46 lower_digits refl i small

abbrev NoElision : List ℕ → Type 0
NoElision xs = (place : ℕ) → elision place xs ≡ None

skip_digit : (c : ℕ) (cs : List ℕ) → (c == 58) ≡ false → NoElision cs → NoElision (c ∷ cs)
skip_digit c cs e clear place = ap (λ (t : Bool). if t && (get_or cs 0 0 == 58) then Some place else elision (place + 1) cs) e ∙ clear (place + 1)

skip_colon : (c : ℕ) (cs : List ℕ) → (c == 58) ≡ false → NoElision (c ∷ cs) → NoElision (58 ∷ c ∷ cs)
skip_colon c cs e clear place = ap (λ (t : Bool). if t then Some place else elision (place + 1) (c ∷ cs)) e ∙ clear (place + 1)

group_skips : (a b : ℕ) (rest : List ℕ) → a < 256 → b < 256 → NoElision rest → NoElision ((hex_pair a ++ hex_pair b) ++ rest)
group_skips a b rest p q clear =
    skip_digit (slice_index lower_digits (a / 16)) (slice_index lower_digits (a % 16) ∷ slice_index lower_digits (b / 16) ∷ slice_index lower_digits (b % 16) ∷ rest) (no_colon (a / 16) (omega arith))
    (skip_digit (slice_index lower_digits (a % 16)) (slice_index lower_digits (b / 16) ∷ slice_index lower_digits (b % 16) ∷ rest) (no_colon (a % 16) (omega arith))
    (skip_digit (slice_index lower_digits (b / 16)) (slice_index lower_digits (b % 16) ∷ rest) (no_colon (b / 16) (omega arith))
    (skip_digit (slice_index lower_digits (b % 16)) rest (no_colon (b % 16) (omega arith)) clear)))

more_skips : (n : ℕ) (bytes : List ℕ) → AreOctets bytes → NoElision (more_groups n bytes)
more_skips zero bytes are = λ place. refl
more_skips (suc n) bytes are =
    let a : ℕ = get_or bytes 0 0 in
    let b : ℕ = get_or bytes 1 0 in
    let p = octet_or bytes are 0 in
    let rest : List ℕ = more_groups n (drop 2 bytes) in
    skip_colon (slice_index lower_digits (a / 16)) (slice_index lower_digits (a % 16) ∷ slice_index lower_digits (b / 16) ∷ slice_index lower_digits (b % 16) ∷ rest) (no_colon (a / 16) (omega arith))
    (group_skips a b rest p (octet_or bytes are 1) (more_skips n (drop 2 bytes) (octets_after 2 bytes are)))

dot_after : (c : ℕ) (cs : List ℕ) → (c == 46) ≡ false → has_dot cs ≡ false → has_dot (c ∷ cs) ≡ false
dot_after c cs e f = ap (λ (t : Bool). t || has_dot cs) e ∙ f

group_dots : (a b : ℕ) (rest : List ℕ) → a < 256 → b < 256 → has_dot rest ≡ false → has_dot ((hex_pair a ++ hex_pair b) ++ rest) ≡ false
group_dots a b rest p q clear =
    dot_after (slice_index lower_digits (a / 16)) (slice_index lower_digits (a % 16) ∷ slice_index lower_digits (b / 16) ∷ slice_index lower_digits (b % 16) ∷ rest) (no_dot (a / 16) (omega arith))
    (dot_after (slice_index lower_digits (a % 16)) (slice_index lower_digits (b / 16) ∷ slice_index lower_digits (b % 16) ∷ rest) (no_dot (a % 16) (omega arith))
    (dot_after (slice_index lower_digits (b / 16)) (slice_index lower_digits (b % 16) ∷ rest) (no_dot (b / 16) (omega arith))
    (dot_after (slice_index lower_digits (b % 16)) rest (no_dot (b % 16) (omega arith)) clear)))

more_dots : (n : ℕ) (bytes : List ℕ) → AreOctets bytes → has_dot (more_groups n bytes) ≡ false
more_dots zero bytes are = refl
more_dots (suc n) bytes are =
    group_dots (get_or bytes 0 0) (get_or bytes 1 0) (more_groups n (drop 2 bytes)) (octet_or bytes are 0) (octet_or bytes are 1) (more_dots n (drop 2 bytes) (octets_after 2 bytes are))

second_false : (a b : Bool) → (a || b) ≡ false → b ≡ false
second_false true b e = absurd (cc)
second_false false b e = e

dot_drop : (n : ℕ) (xs : List ℕ) → has_dot xs ≡ false → has_dot (drop n xs) ≡ false
dot_drop zero xs e = e
dot_drop (suc n) [] e = refl
dot_drop (suc n) (x ∷ xs) e = dot_drop n xs (second_false (x == 46) (has_dot xs) e)

no_mixed : (start : ℕ) (text : List ℕ) → has_dot (drop start text) ≡ false → mixed_bytes start text ≡ groups_bytes text
no_mixed start text e = rw e refl

pair_at : (a b : ℕ) → a < 256 → b < 256 → (i : ℕ) → slice_index (a ∷ b ∷ []) i < 256
pair_at a b p q zero = p
pair_at a b p q (suc zero) = q
pair_at a b p q (suc (suc i)) = omega arith

group_part : (a b : ℕ) → a < 256 → b < 256 → part_bytes Group (hex_pair a ++ hex_pair b) ≡ Some (a ∷ b ∷ [])
unfolding encode_with
group_part a b p q = ap hex_bytes (decode_of-encode_lower (a ∷ b ∷ []) (pair_at a b p q))

group_apart : (a b : ℕ) → a < 256 → b < 256 → AllByRecursion (λ c. (c == 58) ≡ false) (hex_pair a ++ hex_pair b)
group_apart a b p q = (no_colon (a / 16) (omega arith), (no_colon (a % 16) (omega arith), (no_colon (b / 16) (omega arith), (no_colon (b % 16) (omega arith), tt))))

more_back : (n : ℕ) (part front xs : List ℕ) → AreOctets xs → 2 * n ≤ length xs → part_bytes Group part ≡ Some front → parts_bytes Group part (more_groups n xs) ≡ Some (front ++ take (2 * n) xs)
more_back zero part front xs are enough e = e ∙ ap (λ (l : List ℕ). Some l) (sym (append-nil front))
more_back (suc n) part front [] are enough e = absurd (omega arith)
more_back (suc n) part front (a ∷ []) are enough e = absurd (omega arith)
more_back (suc n) part front (a ∷ b ∷ rest) are enough e =
    let p = are.0 in
    let q = are.1.0 in
    let next : 2 * suc n ≡ suc (suc (2 * n)) = omega arith in
    let group : List ℕ = hex_pair a ++ hex_pair b in
    ap (λ (o : Option (List ℕ)). joined o (parts_bytes Group [] (group ++ more_groups n rest))) e
    ∙ ap (λ (o : Option (List ℕ)). joined (Some front) o) (part_read Group [] group (more_groups n rest) (group_apart a b p q) ∙ more_back n group (a ∷ b ∷ []) rest are.1.1 (omega arith) (group_part a b p q))
    ∙ ap (λ (k : ℕ). Some (front ++ take k (a ∷ b ∷ rest))) (sym next)

sixteen : (bytes : List ℕ) → length bytes ≡ 16 → sized 16 (Some bytes) ≡ Some bytes
sixteen bytes e = ap (λ (k : ℕ). if k == 16 then Some bytes else None) e

groups_back : (a b : ℕ) (rest : List ℕ) → AreOctets (a ∷ b ∷ rest) → 14 ≤ length rest → ipv6_bytes (ipv6_text (a ∷ b ∷ rest)) ≡ Some (a ∷ b ∷ take 14 rest)
groups_back a b rest are enough =
    let p = are.0 in
    let q = are.1.0 in
    let group : List ℕ = hex_pair a ++ hex_pair b in
    let text : List ℕ = group ++ more_groups 7 rest in
    let clear : has_dot text ≡ false = group_dots a b (more_groups 7 rest) p q (more_dots 7 rest are.1.1) in
    let parts : parts_bytes Group [] text ≡ Some (a ∷ b ∷ take 14 rest) =
    part_read Group [] group (more_groups 7 rest) (group_apart a b p q) ∙ more_back 7 group (a ∷ b ∷ []) rest are.1.1 (omega arith) (group_part a b p q) in
    let len : length (a ∷ b ∷ take 14 rest) ≡ 16 = omega (arith, length-take 14 rest) in
    ap (λ (o : Option ℕ). elided_at o text) (group_skips a b (more_groups 7 rest) p q (more_skips 7 rest are.1.1) 0)
    ∙ ap (λ (o : Option (List ℕ)). sized 16 o) (no_mixed (last_group 0 0 text) text (dot_drop (last_group 0 0 text) text clear) ∙ parts)
    ∙ sixteen (a ∷ b ∷ take 14 rest) len

pub ipv6_items : (fuel : ℕ) (done xs : List ℕ) → length xs ≤ fuel → AreOctets xs → length xs % 16 ≡ 0 → AreItems Address6 done xs
ipv6_items fuel done [] enough are e = no_item
ipv6_items fuel done (a ∷ []) enough are e = absurd (omega arith)
ipv6_items zero done (a ∷ b ∷ rest) enough are e = absurd (omega arith)
ipv6_items (suc fuel) done (a ∷ b ∷ rest) enough are e =
    let long : 14 ≤ length rest = omega arith in
    let left : length (drop 14 rest) ≡ length rest - 14 = length-drop 14 rest in
    an_item (ipv6_text (a ∷ b ∷ rest)) (omega arith) (reads_simple (ipv6_text (a ∷ b ∷ rest)) (ipv6_simple (a ∷ b ∷ rest) are)) (ap (with_address done) (groups_back a b rest are long))
    (ipv6_items fuel (done ++ a ∷ b ∷ take 14 rest) (drop 14 rest) (omega arith) (octets_after 14 rest are.1.1) (omega arith))
