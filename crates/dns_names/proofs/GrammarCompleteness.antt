-- That what is read is spelled by the grammar.
use Rattle.std.proofs.Common.{◌≡◌, ℕ, zero, suc, ◌+◌, ◌<◌, ◌≤◌, Bool, true, false, List, [], ◌∷◌, ◌++◌, length, Ok, Err, refl, sym, ap, subst, ◌∙◌, append_assoc, length-append, arith}
use Rattle.std.specs.Prelude.{◌==◌, nat_lt, nat_le, ◌&&◌, not, Some, None, Option, Result}
use Rattle.std.specs.Option.{option_map_or}
use Rattle.std.specs.Str.{bytes_eq}
use Rattle.std.proofs.lemmas.List.{append-nil}
use Rattle.std.proofs.lemmas.Bool.Decides.{nat_tests}
use Rattle.std.proofs.lemmas.Slice.Eq.{bytes_eq-Decides}
use Rattle.dns_wire.specs.Name.{name_len}
use Rattle.dns_names.specs.Name.{DomainName}
use Rattle.dns_wire.specs.codes.Decimal.{is_digit, decimal_up_to}
use Rattle.dns_names.specs.declared.error.ParseError.{ParseError}
use Rattle.dns_names.specs.declared.error.ParseError.TheVariants.{LabelBytesTooLong, EmptyLabel, DomainNameTooLong, Text}
use Rattle.dns_names.specs.Parse.{Dot, Plain, Escaped, Broken, PartialName, SymbolAt, symbols_from, escape, escape_len, is_plain_octet, push_octet, push_symbol, end_label, finish, name_of_symbols, name_of_text}
use Rattle.dns_names.specs.Parse.{SpellsOctets, no_octet, unescaped, by_digits, by_character, SpellsLabel, SpellsLabels, one_label, more_labels, Spells, root, no_label, relative, fully_qualified}
use Rattle.dns_names.proofs.TextLaws.{taken}
use Rattle.dns_names.proofs.TextSteps.{equal_numbers, takes_octet, plain_at, digits_are, three_digits_are, digits_len, character_is, character_len, escape_at, begun_some, some_labels}

-- ---- one symbol

from_ok : (b : PartialName) (s : SymbolAt) (ps : List SymbolAt) (name : DomainName) → name_of_symbols b (s ∷ ps) ≡ Ok name → (next : PartialName) × (push_symbol b s ≡ Ok next) × (name_of_symbols next ps ≡ Ok name)
from_ok b s ps name h = by (push_symbol b s) refl
  where
    by : (r : Result PartialName ParseError) → push_symbol b s ≡ r → (next : PartialName) × (push_symbol b s ≡ Ok next) × (name_of_symbols next ps ≡ Ok name)
    by (Ok next) e = (next, e, sym (taken b next s ps e) ∙ h)
    by (Err error) e = absurd (let refused : name_of_symbols b (s ∷ ps) ≡ Err error = rw (e, name_of_symbols) refl in cc)

octet_ok : (b next : PartialName) (c : ℕ) → push_octet b c ≡ Ok next → (length b.label < 63) × (next ≡ record b { label = b.label ++ c ∷ [] })
octet_ok b next c e = by (nat_lt (length b.label) 63) refl
  where
    by : (t : Bool) → nat_lt (length b.label) 63 ≡ t → (length b.label < 63) × (next ≡ record b { label = b.label ++ c ∷ [] })
    by true room = let short : length b.label < 63 = grind (arith, nat_tests) in (short, let made = takes_octet b c short in cc)
    by false room = absurd (let refused : push_octet b c ≡ Err LabelBytesTooLong = rw room refl in cc)

-- what an octet leaves to be read
record Taken (b : PartialName) (c : ℕ) (ps : List SymbolAt) (name : DomainName) : Type 0 where
  room : length b.label < 63
  reads : name_of_symbols (record b { label = b.label ++ c ∷ [] }) ps ≡ Ok name

octet_taken : (b : PartialName) (s : SymbolAt) (c : ℕ) (ps : List SymbolAt) (name : DomainName) → push_symbol b s ≡ push_octet b c → name_of_symbols b (s ∷ ps) ≡ Ok name → Taken b c ps name
octet_taken b s c ps name is h =
    let next = from_ok b s ps name h in
    let made = octet_ok b next.0 c (sym is ∙ next.1) in
    record { room = made.0; reads = ap (λ (n : PartialName). name_of_symbols n ps) (sym made.1) ∙ next.2 }

-- what stands in front of a text that is read: a dot, or the text of an octet
data Front (b : PartialName) : List ℕ → DomainName → Type 0 where
  a_dot : {rest : List ℕ} {name : DomainName} → Front b (46 ∷ rest) name
  an_octet : {name : DomainName} (front rest : List ℕ) (c p : ℕ) → length rest < length (front ++ rest)
      → ((text cs : List ℕ) → SpellsOctets false text cs → SpellsOctets (length b.label == 0) (front ++ text) (c ∷ cs))
      → Taken b c (symbols_from 0 p rest) name → Front b (front ++ rest) name

plain_front : (b : PartialName) (p c : ℕ) (rest : List ℕ) (name : DomainName) → (c == 46) ≡ false → (c == 92) ≡ false → name_of_symbols b (symbols_from 0 p (c ∷ rest)) ≡ Ok name → Front b (c ∷ rest) name
plain_front b p c rest name dot backslash h = by (is_plain_octet (length b.label == 0) c) refl
  where
    plain : name_of_symbols b (record { place = p; symbol = Plain c } ∷ symbols_from 0 (p + 1) rest) ≡ Ok name
    plain = sym (plain_at b p c rest dot backslash) ∙ h

    by : (t : Bool) → is_plain_octet (length b.label == 0) c ≡ t → Front b (c ∷ rest) name
    by true may = an_octet (c ∷ []) rest c (p + 1) (omega arith) (λ text cs s. unescaped may s) (octet_taken b (record { place = p; symbol = Plain c }) c (symbols_from 0 (p + 1) rest) name (rw may refl) plain)
    by false may = absurd (
        let next = from_ok b (record { place = p; symbol = Plain c }) (symbols_from 0 (p + 1) rest) name plain in
        let refused : push_symbol b (record { place = p; symbol = Plain c }) ≡ Err (Text p) = rw may refl in
        let was = next.1 in
        cc)

escape_taken : (b : PartialName) (p c more : ℕ) (text : List ℕ) (name : DomainName) → escape text ≡ Escaped c → escape_len text ≡ more → name_of_symbols b (symbols_from 0 p (92 ∷ text)) ≡ Ok name
    → Taken b c (symbols_from more (p + 1) text) name
escape_taken b p c more text name is len h =
    octet_taken b (record { place = p; symbol = Escaped c }) c (symbols_from more (p + 1) text) name refl (sym (escape_at b p more (Escaped c) text is len) ∙ h)

broken_refused : (b : PartialName) (p : ℕ) (text : List ℕ) (name : DomainName) → escape text ≡ Broken → name_of_symbols b (symbols_from 0 p (92 ∷ text)) ≡ Ok name → ⊥
broken_refused b p text name is h =
    let refused : name_of_symbols b (symbols_from 0 p (92 ∷ text)) ≡ Err (Text p) = escape_at b p (escape_len text) Broken text is refl in
    cc

digits_front : (b : PartialName) (p x : ℕ) (text : List ℕ) (name : DomainName) → is_digit x ≡ true → name_of_symbols b (symbols_from 0 p (92 ∷ x ∷ text)) ≡ Ok name → Front b (92 ∷ x ∷ text) name
digits_front b p x [] name d h = absurd (broken_refused b p (x ∷ []) name (digits_are x [] d) h)
digits_front b p x (y ∷ []) name d h = absurd (broken_refused b p (x ∷ y ∷ []) name (digits_are x (y ∷ []) d) h)
digits_front b p x (y ∷ z ∷ rest) name d h = by (decimal_up_to 255 (x ∷ y ∷ z ∷ [])) refl
  where
    escaped : (o : Option ℕ) → decimal_up_to 255 (x ∷ y ∷ z ∷ []) ≡ o → escape (x ∷ y ∷ z ∷ rest) ≡ option_map_or Escaped o Broken
    escaped o e = three_digits_are x y z rest d ∙ ap (λ (v : Option ℕ). option_map_or Escaped v Broken) e

    by : (o : Option ℕ) → decimal_up_to 255 (x ∷ y ∷ z ∷ []) ≡ o → Front b (92 ∷ x ∷ y ∷ z ∷ rest) name
    by (Some c) e =
        an_octet (92 ∷ x ∷ y ∷ z ∷ []) rest c (p + 1 + 1 + 1 + 1) (omega arith) (λ text cs s. by_digits e s)
        (escape_taken b p c 3 (x ∷ y ∷ z ∷ rest) name (escaped (Some c) e) (digits_len x (y ∷ z ∷ rest) d) h)
    by None e = absurd (broken_refused b p (x ∷ y ∷ z ∷ rest) name (escaped None e) h)

character_front : (b : PartialName) (p c : ℕ) (rest : List ℕ) (name : DomainName) → is_digit c ≡ false → name_of_symbols b (symbols_from 0 p (92 ∷ c ∷ rest)) ≡ Ok name → Front b (92 ∷ c ∷ rest) name
character_front b p c rest name d h = by (nat_le 32 c && nat_le c 126) refl
  where
    by : (t : Bool) → (nat_le 32 c && nat_le c 126) ≡ t → Front b (92 ∷ c ∷ rest) name
    by true printable =
        let low : 32 ≤ c = grind (arith, nat_tests) in
        let high : c ≤ 126 = grind (arith, nat_tests) in
        an_octet (92 ∷ c ∷ []) rest c (p + 1 + 1) (omega arith) (λ text cs s. by_character d low high s)
        (escape_taken b p c 1 (c ∷ rest) name (character_is c rest d low high) (character_len c rest d) h)
    by false other = absurd (let refused : escape (c ∷ rest) ≡ Broken = rw (d, other) refl in broken_refused b p (c ∷ rest) name refused h)

escape_front : (b : PartialName) (p : ℕ) (text : List ℕ) (name : DomainName) → name_of_symbols b (symbols_from 0 p (92 ∷ text)) ≡ Ok name → Front b (92 ∷ text) name
escape_front b p [] name h = absurd (broken_refused b p [] name refl h)
escape_front b p (x ∷ text) name h = by (is_digit x) refl
  where
    by : (t : Bool) → is_digit x ≡ t → Front b (92 ∷ x ∷ text) name
    by true d = digits_front b p x text name d h
    by false d = character_front b p x text name d h

front : (b : PartialName) (p c : ℕ) (rest : List ℕ) (name : DomainName) → name_of_symbols b (symbols_from 0 p (c ∷ rest)) ≡ Ok name → Front b (c ∷ rest) name
front b p c rest name h = by (c == 46) refl
  where
    no_dot : (t : Bool) → (c == 46) ≡ false → (c == 92) ≡ t → Front b (c ∷ rest) name
    no_dot true dot e =
        let is = equal_numbers c 92 e in
        subst (λ (x : ℕ). Front b (x ∷ rest) name) (sym is) (escape_front b p rest name (ap (λ (x : ℕ). name_of_symbols b (symbols_from 0 p (x ∷ rest))) (sym is) ∙ h))
    no_dot false dot e = plain_front b p c rest name dot e h

    by : (t : Bool) → (c == 46) ≡ t → Front b (c ∷ rest) name
    by true e = subst (λ (x : ℕ). Front b (x ∷ rest) name) (sym (equal_numbers c 46 e)) a_dot
    by false e = no_dot (c == 92) e refl

-- ---- one label

-- the octets that a label goes on with, up to the text's end or a dot
data Label (labels : List (List ℕ)) (label : List ℕ) : List ℕ → DomainName → Type 0 where
  to_end : {text : List ℕ} {name : DomainName} (cs : List ℕ) → SpellsOctets (length label == 0) text cs → length (label ++ cs) < 64
      → finish (record { labels = labels; label = label ++ cs }) ≡ Ok name → Label labels label text name
  to_dot : {text : List ℕ} {name : DomainName} (cs rest : List ℕ) (p : ℕ) → SpellsOctets (length label == 0) text cs → length (label ++ cs) < 64
      → name_of_symbols (record { labels = labels; label = label ++ cs }) (symbols_from 0 p (46 ∷ rest)) ≡ Ok name → Label labels label (text ++ 46 ∷ rest) name

behind_octet : (labels : List (List ℕ)) (label : List ℕ) (c : ℕ) (octet : List ℕ) {text : List ℕ} {name : DomainName}
    → ((rest cs : List ℕ) → SpellsOctets false rest cs → SpellsOctets (length label == 0) (octet ++ rest) (c ∷ cs))
    → Label labels (label ++ c ∷ []) text name → Label labels label (octet ++ text) name
behind_octet labels label c octet {text} {name} spells (to_end cs s room e) =
    let same : (label ++ c ∷ []) ++ cs ≡ label ++ c ∷ cs = append_assoc label (c ∷ []) cs in
    to_end (c ∷ cs) (spells text cs (subst (λ (f : Bool). SpellsOctets f text cs) (begun_some label c) s)) (subst (λ (l : List ℕ). length l < 64) same room)
    (subst (λ (l : List ℕ). finish (record { labels = labels; label = l }) ≡ Ok name) same e)
behind_octet labels label c octet {name = name} spells (to_dot {text = text} cs rest p s room e) =
    let same : (label ++ c ∷ []) ++ cs ≡ label ++ c ∷ cs = append_assoc label (c ∷ []) cs in
    subst (λ (t : List ℕ). Label labels label t name) (append_assoc octet text (46 ∷ rest))
    (to_dot (c ∷ cs) rest p (spells text cs (subst (λ (f : Bool). SpellsOctets f text cs) (begun_some label c) s)) (subst (λ (l : List ℕ). length l < 64) same room)
    (subst (λ (l : List ℕ). name_of_symbols (record { labels = labels; label = l }) (symbols_from 0 p (46 ∷ rest)) ≡ Ok name) same e))

-- what is read from a text of at most n characters begins with a label's octets
Labelled : ℕ → List (List ℕ) → Type 0
Labelled n labels = (label text : List ℕ) (p : ℕ) (name : DomainName) → length text ≤ n → length label < 64 → name_of_symbols (record { labels = labels; label = label }) (symbols_from 0 p text) ≡ Ok name → Label labels label text name

label_front : (n : ℕ) (labels : List (List ℕ)) (label : List ℕ) {text : List ℕ} (p : ℕ) {name : DomainName} → Labelled n labels → length text ≤ suc n → length label < 64
    → name_of_symbols (record { labels = labels; label = label }) (symbols_from 0 p text) ≡ Ok name → Front (record { labels = labels; label = label }) text name → Label labels label text name
unfolding Labelled
label_front n labels label p more small most h (a_dot {rest = rest} {name = name}) =
    let same : label ++ [] ≡ label = append-nil label in
    to_dot [] rest p no_octet (subst (λ (l : List ℕ). length l < 64) (sym same) most)
    (subst (λ (l : List ℕ). name_of_symbols (record { labels = labels; label = l }) (symbols_from 0 p (46 ∷ rest)) ≡ Ok name) (sym same) h)
label_front n labels label p more small most h (an_octet {name = name} octet rest c q shorter spells t) =
    let room : length label < 63 = t.room in
    behind_octet labels label c octet spells (more (label ++ c ∷ []) rest q name (omega arith) (omega (arith, length-append label (c ∷ []))) t.reads)

labelled : (n : ℕ) (labels : List (List ℕ)) → Labelled n labels
unfolding Labelled
labelled n labels label [] p name small most h =
    let same : label ++ [] ≡ label = append-nil label in
    to_end [] no_octet (subst (λ (l : List ℕ). length l < 64) (sym same) most) (subst (λ (l : List ℕ). finish (record { labels = labels; label = l }) ≡ Ok name) (sym same) h)
labelled zero labels label (c ∷ text) p name small most h = absurd (omega arith)
labelled (suc n) labels label (c ∷ text) p name small most h = label_front n labels label p (labelled n labels) small most h (front (record { labels = labels; label = label }) p c text name h)

-- ---- the labels

record Done (b next : PartialName) : Type 0 where
  some : 0 < length b.label
  fits : name_len (b.labels ++ b.label ∷ []) ≤ 255
  made : next ≡ record { labels = b.labels ++ b.label ∷ []; label = [] }

ended_ok : (b next : PartialName) → end_label b ≡ Ok next → Done b next
ended_ok b next e = by (length b.label == 0) refl (nat_lt 255 (name_len (b.labels ++ b.label ∷ []))) refl
  where
    by : (t : Bool) → (length b.label == 0) ≡ t → (u : Bool) → nat_lt 255 (name_len (b.labels ++ b.label ∷ [])) ≡ u → Done b next
    by true none u long = absurd (let refused : end_label b ≡ Err EmptyLabel = rw none refl in cc)
    by false some true long = absurd (let refused : end_label b ≡ Err DomainNameTooLong = rw (some, long) refl in cc)
    by false some false long = record {
      some = grind (arith, nat_tests);
      fits = grind (arith, nat_tests);
      made = let is : end_label b ≡ Ok (record { labels = b.labels ++ b.label ∷ []; label = [] }) = rw (some, long) refl in cc;
    }

-- what is read behind labels: nothing, or labels, without a dot at the end or with one
data Ends (labels : List (List ℕ)) : List ℕ → DomainName → Type 0 where
  nothing : Ends labels [] (record { is_fqdn = not (length labels == 0); labels = labels })
  without_dot : {text : List ℕ} {more : List (List ℕ)} → SpellsLabels text more → name_len (labels ++ more) ≤ 255
      → Ends labels text (record { is_fqdn = false; labels = labels ++ more })
  with_dot : {text : List ℕ} {more : List (List ℕ)} → SpellsLabels text more → name_len (labels ++ more) ≤ 255
      → Ends labels (text ++ 46 ∷ []) (record { is_fqdn = true; labels = labels ++ more })

prepend_label : (labels : List (List ℕ)) (label : List ℕ) {text rest : List ℕ} {name : DomainName} → SpellsLabel text label → name_len (labels ++ label ∷ []) ≤ 255
    → Ends (labels ++ label ∷ []) rest name → Ends labels (text ++ 46 ∷ rest) name
prepend_label labels label {text} s fits nothing =
    subst (λ (f : Bool). Ends labels (text ++ 46 ∷ []) (record { is_fqdn = not f; labels = labels ++ label ∷ [] })) (sym (some_labels labels label)) (with_dot (one_label s) fits)
prepend_label labels label {text} s fits (without_dot {text = rest} {more = more} l all) =
    let whole : labels ++ label ∷ more ≡ (labels ++ label ∷ []) ++ more = sym (append_assoc labels (label ∷ []) more) in
    subst (λ (ls : List (List ℕ)). Ends labels (text ++ 46 ∷ rest) (record { is_fqdn = false; labels = ls })) whole (without_dot (more_labels s l) (omega (arith, ap name_len whole)))
prepend_label labels label {text} s fits (with_dot {text = rest} {more = more} l all) =
    let whole : labels ++ label ∷ more ≡ (labels ++ label ∷ []) ++ more = sym (append_assoc labels (label ∷ []) more) in
    subst (λ (t : List ℕ). Ends labels t (record { is_fqdn = true; labels = (labels ++ label ∷ []) ++ more })) (append_assoc text (46 ∷ rest) (46 ∷ []))
    (subst (λ (ls : List (List ℕ)). Ends labels ((text ++ 46 ∷ rest) ++ 46 ∷ []) (record { is_fqdn = true; labels = ls })) whole (with_dot (more_labels s l) (omega (arith, ap name_len whole))))

nothing_spelled : {f : Bool} {text : List ℕ} → SpellsOctets f text [] → text ≡ []
nothing_spelled no_octet = refl

name_done : (labels : List (List ℕ)) (label : List ℕ) {text : List ℕ} (name : DomainName) → SpellsOctets true text label → length label < 64 → finish (record { labels = labels; label = label }) ≡ Ok name → Ends labels text name
name_done labels [] {text} name s most e =
    let is : record { is_fqdn = not (length labels == 0); labels = labels } ≡ name = cc in
    subst (λ (t : List ℕ). Ends labels t name) (sym (nothing_spelled s)) (subst (λ (n : DomainName). Ends labels [] n) is nothing)
name_done labels (c ∷ cs) {text} name s most e = by (nat_lt 255 (name_len (labels ++ (c ∷ cs) ∷ []))) refl
  where
    some : (length (c ∷ cs) == 0) ≡ false
    some = grind (arith, nat_tests)

    by : (t : Bool) → nat_lt 255 (name_len (labels ++ (c ∷ cs) ∷ [])) ≡ t → Ends labels text name
    by true long = absurd (let refused : finish (record { labels = labels; label = c ∷ cs }) ≡ Err DomainNameTooLong = rw (some, long) refl in cc)
    by false short =
        let is : record { is_fqdn = false; labels = labels ++ (c ∷ cs) ∷ [] } ≡ name =
        let made : finish (record { labels = labels; label = c ∷ cs }) ≡ Ok (record { is_fqdn = false; labels = labels ++ (c ∷ cs) ∷ [] }) = rw (some, short) refl in cc in
        let fits : name_len (labels ++ (c ∷ cs) ∷ []) ≤ 255 = grind (arith, nat_tests) in
        subst (λ (n : DomainName). Ends labels text n) is (without_dot (one_label (s, record { some = omega arith; most = most })) fits)

-- what is read behind labels from a text of at most n characters
Ended : ℕ → Type 0
Ended n = (labels : List (List ℕ)) (text : List ℕ) (p : ℕ) (name : DomainName) → length text ≤ n → name_of_symbols (record { labels = labels; label = [] }) (symbols_from 0 p text) ≡ Ok name → Ends labels text name

behind_front : (n : ℕ) (labels : List (List ℕ)) {text : List ℕ} {name : DomainName} → Ended n → length text ≤ suc n → Label labels [] text name → Ends labels text name
unfolding Ended
behind_front n labels {name = name} more small (to_end cs s most e) = name_done labels cs name s most e
behind_front n labels {name = name} more small (to_dot {text = text} cs rest p s most h) =
    let next = from_ok (record { labels = labels; label = cs }) (record { place = p; symbol = Dot }) (symbols_from 0 (p + 1) rest) name h in
    let done = ended_ok (record { labels = labels; label = cs }) next.0 next.1 in
    prepend_label labels cs (s, record { some = done.some; most = most }) done.fits
    (more (labels ++ cs ∷ []) rest (p + 1) name (omega (arith, length-append text (46 ∷ rest))) (ap (λ (b : PartialName). name_of_symbols b (symbols_from 0 (p + 1) rest)) (sym done.made) ∙ next.2))

ends : (n : ℕ) → Ended n
unfolding Ended Labelled
ends zero labels [] p name small h = name_done labels [] name no_octet (omega arith) h
ends zero labels (c ∷ text) p name small h = absurd (omega arith)
ends (suc n) labels text p name small h = behind_front n labels (ends n) small (labelled (suc n) labels [] text p name small (omega arith) h)

-- ---- the name

name_spelled : {text : List ℕ} {name : DomainName} → Ends [] text name → Spells text name
name_spelled nothing = no_label
name_spelled (without_dot l fits) = relative l fits
name_spelled (with_dot l fits) = fully_qualified l fits

pub read_is_spelled : {text : List ℕ} {name : DomainName} → name_of_text text ≡ Ok name → Spells text name
unfolding name_of_text Ended
read_is_spelled {text} {name} h = by (bytes_eq text (46 ∷ [])) refl
  where
    by : (t : Bool) → bytes_eq text (46 ∷ []) ≡ t → Spells text name
    by true dot =
        let is = (bytes_eq-Decides text (46 ∷ [])).0 dot in
        let made : record { is_fqdn = true; labels = [] } ≡ name = let read : name_of_text text ≡ Ok (record { is_fqdn = true; labels = [] }) = rw dot refl in cc in
        subst (λ (n : DomainName). Spells text n) made (subst (λ (t : List ℕ). Spells t (record { is_fqdn = true; labels = [] })) (sym is) root)
    by false other =
        let from : name_of_text text ≡ name_of_symbols (record { labels = []; label = [] }) (symbols_from 0 0 text) = rw other refl in
        name_spelled (ends (length text) [] text 0 name (omega arith) (sym from ∙ h))
