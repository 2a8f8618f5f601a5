-- That a name which was printed is read back: the grammar spells it.
use Rattle.std.proofs.Common.{◌≡◌, ℕ, ◌+◌, ◌-◌, ◌*◌, ◌/◌, ◌%◌, ◌<◌, ◌≤◌, Bool, true, false, List, [], ◌∷◌, ◌++◌, Ok, refl, sym, subst, append_assoc, arith}
use Rattle.std.specs.Prelude.{nat_le, if◌then◌else◌, Some}
use Rattle.std.specs.List.{AllByRecursion}
use Rattle.std.proofs.lemmas.List.{append-nil}
use Rattle.std.proofs.lemmas.Bool.Decides.{nat_tests}
use Rattle.dns_wire.specs.Name.{IsLabel, AreLabels, name_len}
use Rattle.dns_names.specs.Name.{DomainName}
use Rattle.dns_wire.specs.codes.Decimal.{is_digit, decimal_up_to}
use Rattle.dns_names.specs.Parse.{is_plain_octet, name_of_text}
use Rattle.dns_names.specs.Parse.{SpellsOctets, no_octet, unescaped, by_digits, SpellsLabels, one_label, more_labels, Spells, root, no_label, relative, fully_qualified}
use Rattle.dns_names.specs.Print.{escape_sequence, octet_text, octets_text, label_text, dotted_labels, text_of_labels, text_of_name, AreOctets}
use Rattle.dns_names.proofs.GrammarLaws.{spelled_is_read}

-- ---- a label

pub digit : (n : ℕ) → n ≤ 9 → is_digit (48 + n) ≡ true
digit n small =
    let low : nat_le 48 (48 + n) ≡ true = grind (arith, nat_tests) in
    let high : nat_le (48 + n) 57 ≡ true = grind (arith, nat_tests) in
    rw (low, high) refl

pub three_digits : (x y z c : ℕ) → x ≤ 9 → y ≤ 9 → z ≤ 9 → 10 * (10 * (10 * 0 + (48 + x - 48)) + (48 + y - 48)) + (48 + z - 48) ≡ c → c < 256
    → decimal_up_to 255 ((48 + x) ∷ (48 + y) ∷ (48 + z) ∷ []) ≡ Some c
unfolding decimal_up_to
three_digits x y z c p q r e small =
    let fits : nat_le c 255 ≡ true = grind (arith, nat_tests) in
    rw (digit x p, digit y q, digit z r, e, fits) refl

octet_spelled : (is_first : Bool) (c : ℕ) {text cs : List ℕ} → c < 256 → SpellsOctets false text cs → SpellsOctets is_first (octet_text is_first c ++ text) (c ∷ cs)
octet_spelled is_first c {text} {cs} small s = by (is_plain_octet is_first c) refl
  where
    by : (t : Bool) → is_plain_octet is_first c ≡ t → SpellsOctets is_first ((if t then c ∷ [] else escape_sequence c) ++ text) (c ∷ cs)
    by true may = unescaped may s
    by false may = by_digits (three_digits (c / 100) (c / 10 % 10) (c % 10) c (omega arith) (omega arith) (omega arith) (omega arith) small) s

octets_spelled : (is_first : Bool) (cs : List ℕ) → AreOctets cs → SpellsOctets is_first (octets_text is_first cs) cs
octets_spelled is_first [] all = no_octet
octets_spelled is_first (c ∷ cs) all = octet_spelled is_first c all.0 (octets_spelled false cs all.1)

-- ---- the labels, and the name

labels_spelled : (label : List ℕ) (labels : List (List ℕ)) → AllByRecursion IsLabel (label ∷ labels) → AllByRecursion AreOctets (label ∷ labels)
    → SpellsLabels (label_text label ++ dotted_labels labels) (label ∷ labels)
labels_spelled label [] all bytes = subst (λ (t : List ℕ). SpellsLabels t (label ∷ [])) (sym (append-nil (label_text label))) (one_label (octets_spelled true label bytes.0, all.0))
labels_spelled label (next ∷ labels) all bytes = more_labels (octets_spelled true label bytes.0, all.0) (labels_spelled next labels all.1 bytes.1)

spelled : (is_fqdn : Bool) (labels : List (List ℕ)) → AllByRecursion IsLabel labels → AllByRecursion AreOctets labels → name_len labels ≤ 255
    → Spells (text_of_labels is_fqdn labels) (record { is_fqdn = is_fqdn; labels = labels })
spelled true [] all bytes fits = root
spelled false [] all bytes fits = no_label
spelled true (label ∷ labels) all bytes fits =
    subst (λ (t : List ℕ). Spells t (record { is_fqdn = true; labels = label ∷ labels })) (append_assoc (label_text label) (dotted_labels labels) (46 ∷ []))
    (fully_qualified (labels_spelled label labels all bytes) fits)
spelled false (label ∷ labels) all bytes fits =
    subst (λ (t : List ℕ). Spells (label_text label ++ t) (record { is_fqdn = false; labels = label ∷ labels })) (sym (append-nil (dotted_labels labels)))
    (relative (labels_spelled label labels all bytes) fits)

pub printed_is_read : (name : DomainName) → AreLabels name.labels → AllByRecursion AreOctets name.labels → name_of_text (text_of_name name) ≡ Ok name
printed_is_read name are bytes = spelled_is_read (spelled name.is_fqdn name.labels are.each bytes are.fits)
