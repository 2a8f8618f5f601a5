-- How long names are, how they are spelled, and that a name written whole is read again.
use Rattle.std.proofs.Common.{◌≡◌, ℕ, ◌+◌, ◌-◌, ◌<◌, ◌≤◌, List, [], ◌∷◌, ◌++◌, length, drop, map, Ok, refl, sym, ap, subst, ◌∙◌, append_assoc, arith, length-append}
use Rattle.std.specs.List.{AllByRecursion}
use Rattle.std.specs.Str.{str_to_ascii_lowercase}
use Rattle.std.proofs.lemmas.List.{drop_at, drop-drop, length-map}
use Rattle.dns_wire.specs.declared.name_encoding.NameEncoding.{NameEncoding}
use Rattle.dns_wire.specs.declared.name_encoding.NameEncoding.TheVariants.{Compressed, Uncompressed, UncompressedLowercase}
use Rattle.dns_wire.specs.Element.{Label, element, element_at}
use Rattle.dns_wire.specs.Name.{IsLabel, name_len, AreLabels}
use Rattle.dns_wire.specs.Reading.{Reads, at_closing, at_label}
use Rattle.dns_wire.specs.Writing.{labels_form, whole_form, spelling}
use Rattle.dns_wire.proofs.ElementLaws.{element-label}

-- ---- how long

pub length-labels_form : (labels : List (List ℕ)) → length (labels_form labels) + 1 ≡ name_len labels
length-labels_form [] = refl
length-labels_form (label ∷ labels) = omega (arith, length-labels_form labels, length-append label (labels_form labels))

pub length-whole_form : (labels : List (List ℕ)) → length (whole_form labels) ≡ name_len labels
length-whole_form labels = omega (arith, length-labels_form labels, length-append (labels_form labels) (0 ∷ []))

-- ---- how spelled

pub length-lowercase : (label : List ℕ) → length (str_to_ascii_lowercase label) ≡ length label
length-lowercase label = length-map label _

lowercase-each : (labels : List (List ℕ)) → AllByRecursion IsLabel labels → AllByRecursion IsLabel (map str_to_ascii_lowercase labels)
lowercase-each [] each = tt
lowercase-each (label ∷ labels) each =
    let len = length-lowercase label in
    (record { some = omega (arith, each.0.some); most = omega (arith, each.0.most) }, lowercase-each labels each.1)

name_len-lowercase : (labels : List (List ℕ)) → name_len (map str_to_ascii_lowercase labels) ≡ name_len labels
name_len-lowercase [] = refl
name_len-lowercase (label ∷ labels) = omega (arith, length-lowercase label, name_len-lowercase labels)

pub name_len-spelling : (encoding : NameEncoding) (labels : List (List ℕ)) → name_len (spelling encoding labels) ≡ name_len labels
name_len-spelling Compressed labels = refl
name_len-spelling Uncompressed labels = refl
name_len-spelling UncompressedLowercase labels = name_len-lowercase labels

-- the spelling of a name is a name
pub spelling-are_labels : (encoding : NameEncoding) (labels : List (List ℕ)) → AreLabels labels → AreLabels (spelling encoding labels)
spelling-are_labels Compressed labels is = is
spelling-are_labels Uncompressed labels is = is
spelling-are_labels UncompressedLowercase labels is = record { each = lowercase-each labels is.each; fits = omega (arith, is.fits, name_len-lowercase labels) }

-- ---- written whole and read again

-- what follows a label
pub past : (buffer : List ℕ) (place : ℕ) (label more rest : List ℕ) → drop place buffer ≡ (length label ∷ (label ++ more)) ++ rest → drop (place + (length label + 1)) buffer ≡ more ++ rest
past buffer place label more rest h =
    let e : drop (place + (length label + 1)) buffer ≡ drop (length label + 1) (drop place buffer) = sym (drop-drop (length label + 1) place buffer) in
    let f : (length label ∷ (label ++ more)) ++ rest ≡ (length label ∷ label) ++ (more ++ rest) = append_assoc (length label ∷ label) more rest in
    rw (e, h, f) (drop_at (length label ∷ label) (more ++ rest) (length label + 1) (omega arith))

-- a label that stands there
pub label_there : (buffer : List ℕ) (place : ℕ) (label more rest : List ℕ) → IsLabel label → drop place buffer ≡ (length label ∷ (label ++ more)) ++ rest → element_at buffer place ≡ Ok (Label label)
label_there buffer place label more rest is h = ap element (h ∙ append_assoc (length label ∷ label) more rest) ∙ element-label label (more ++ rest) is

pub whole_reads : (buffer : List ℕ) (place segment left : ℕ) (labels : List (List ℕ)) (rest : List ℕ) → AllByRecursion IsLabel labels → name_len labels ≤ left
    → drop place buffer ≡ whole_form labels ++ rest → Reads buffer place segment left labels (place + name_len labels)
whole_reads buffer place segment left [] rest each fits h = at_closing (ap element h)
whole_reads buffer place segment left (label ∷ labels) rest each fits h =
    let again : drop place buffer ≡ (length label ∷ (label ++ whole_form labels)) ++ rest = h ∙ ap (λ (xs : List ℕ). (length label ∷ xs) ++ rest) (append_assoc label (labels_form labels) (0 ∷ [])) in
    let more = whole_reads buffer (place + (length label + 1)) segment (left - (length label + 1)) labels rest each.1 (omega arith) (past buffer place label (whole_form labels) rest again) in
    let room : length label + 1 < left = omega (arith, length-labels_form labels) in
    let end : place + (length label + 1) + name_len labels ≡ place + name_len (label ∷ labels) = omega arith in
    subst (λ (e : ℕ). Reads buffer place segment left (label ∷ labels) e) end (at_label (label_there buffer place label (whole_form labels) rest each.0 again) room more)
