-- Names in canonical form are read and skipped.
use Rattle.std.proofs.Common.{◌≡◌, ◌≤◌, ◌<◌, ◌&&◌, ◌+◌, ◌-◌, Bool, true, false, cond, ℕ, suc, List, [], ◌∷◌, ◌++◌, length, map, take, drop, Some, refl, sym, subst, ap, ◌∙◌, arith, append_assoc, length-append}
use Rattle.std.proofs.Math.Seq.{drop-append_seam, take-append_seam}
use Rattle.std.proofs.lemmas.Bool.{le-ltb}
use Rattle.std.proofs.lemmas.Bool.Decides.{nat_tests}
use Rattle.std.proofs.lemmas.List.{drop-drop, length-map}
use Rattle.std.proofs.lemmas.Str.Ascii.{lowercase-lowercase}
use Rattle.std.specs.Char.{to_ascii_lowercase}
use Rattle.std.specs.List.{AllByRecursion}
use Rattle.std.specs.Prelude.{flat_map, nat_lt, ◌==◌, Ok}
use Rattle.dns_wire.specs.Element.{Label, element, element_at}
use Rattle.dns_wire.specs.Name.{IsLabel, name_len}
use Rattle.dns_wire.specs.Reading.{Reads, at_closing, at_label}
use Rattle.dns_tsig.proofs.SkipLaws.{label_skipped}
use Rattle.dns_tsig.specs.Skip.{after_end, after_labels, after_name}
use Rattle.dns_tsig.specs.WireName.{canonical_label, canonical_name}

-- labels in lower case
abbrev lower : List ℕ → List ℕ
lower label = map to_ascii_lowercase label

abbrev pub lowered : List (List ℕ) → List (List ℕ)
lowered labels = map lower labels

lower_twice : (label : List ℕ) → lower (lower label) ≡ lower label
lower_twice [] = refl
lower_twice (byte ∷ label) = cc (lowercase-lowercase byte, lower_twice label)

canonical_cons : (label : List ℕ) (labels : List (List ℕ)) → canonical_name (label ∷ labels) ≡ canonical_label label ++ canonical_name labels
canonical_cons label labels = append_assoc (canonical_label label) (flat_map canonical_label labels) (0 ∷ [])

label_lowered : (label : List ℕ) → canonical_label (lower label) ≡ canonical_label label
label_lowered label = ap (λ (n : ℕ). n ∷ lower (lower label)) (length-map label to_ascii_lowercase) ∙ ap (λ (l : List ℕ). length label ∷ l) (lower_twice label)

pub canonical_lowered : (labels : List (List ℕ)) → canonical_name (lowered labels) ≡ canonical_name labels
canonical_lowered [] = refl
canonical_lowered (label ∷ labels) =
    canonical_cons (lower label) (lowered labels)
    ∙ ap (λ (l : List ℕ). l ++ canonical_name (lowered labels)) (label_lowered label)
    ∙ ap (λ (l : List ℕ). canonical_label label ++ l) (canonical_lowered labels)
    ∙ sym (canonical_cons label labels)

pub canonical_length : (labels : List (List ℕ)) → length (canonical_name labels) ≡ name_len labels
canonical_length [] = refl
canonical_length (label ∷ labels) =
    let parts = ap length (canonical_cons label labels) in
    let sum : length (canonical_label label ++ canonical_name labels) ≡ length (canonical_label label) + length (canonical_name labels) = length-append (canonical_label label) (canonical_name labels) in
    omega (arith, parts, sum, canonical_length labels, length-map label to_ascii_lowercase)

-- a name before other bytes
before_rest : (label : List ℕ) (labels : List (List ℕ)) (rest : List ℕ) → canonical_name (label ∷ labels) ++ rest ≡ length label ∷ (lower label ++ (canonical_name labels ++ rest))
before_rest label labels rest = ap (λ (l : List ℕ). l ++ rest) (canonical_cons label labels) ∙ append_assoc (canonical_label label) (canonical_name labels) rest

-- the bytes after a label
label_behind : (label rest : List ℕ) → drop (length label) (lower label ++ rest) ≡ rest
label_behind label rest = ap (λ (n : ℕ). drop n (lower label ++ rest)) (sym (length-map label to_ascii_lowercase)) ∙ drop-append_seam (lower label) rest

-- ---- skipping

label_first : (label rest : List ℕ) → IsLabel label → after_labels 0 (length label ∷ (lower label ++ rest)) ≡ after_labels 0 rest
label_first label rest is =
    let test : (nat_lt 0 (length label) && nat_lt (length label) 64) ≡ true = grind (arith, nat_tests, is.some, is.most) in
    ap (λ (b : Bool). cond b (after_labels (length label) (lower label ++ rest)) (length label ∷ (lower label ++ rest))) test
    ∙ label_skipped (length label) (lower label ++ rest) ∙ ap (after_labels 0) (label_behind label rest)

labels_skipped : (labels : List (List ℕ)) (rest : List ℕ) → AllByRecursion IsLabel labels → after_labels 0 (canonical_name labels ++ rest) ≡ 0 ∷ rest
labels_skipped [] rest each = refl
labels_skipped (label ∷ labels) rest each =
    ap (after_labels 0) (before_rest label labels rest) ∙ label_first label (canonical_name labels ++ rest) each.0 ∙ labels_skipped labels rest each.1

pub name_skipped : (labels : List (List ℕ)) (rest : List ℕ) → AllByRecursion IsLabel labels → after_name (canonical_name labels ++ rest) ≡ Some rest
name_skipped labels rest each = ap after_end (labels_skipped labels rest each)

-- ---- reading

element_label : (label rest : List ℕ) → IsLabel label → element (length label ∷ (lower label ++ rest)) ≡ Ok (Label (lower label))
element_label label rest is =
    let some : (length label == 0) ≡ false = grind (arith, nat_tests, is.some) in
    let most : nat_lt (length label) 64 ≡ true = grind (arith, nat_tests, is.most) in
    let whole : nat_lt (length (lower label ++ rest)) (length label) ≡ false = le-ltb (length (lower label ++ rest)) (length label) (omega (arith, length-append (lower label) rest, length-map label to_ascii_lowercase)) in
    let taken : take (length label) (lower label ++ rest) ≡ lower label = ap (λ (n : ℕ). take n (lower label ++ rest)) (sym (length-map label to_ascii_lowercase)) ∙ take-append_seam (lower label) rest in
    rw (some, most, whole, taken)

name_some : (labels : List (List ℕ)) → 0 < name_len labels
name_some [] = omega arith
name_some (label ∷ labels) = omega (arith, name_some labels)

-- what is behind the first label of a name at a place
behind_label : (label : List ℕ) (labels : List (List ℕ)) (buffer rest : List ℕ) (place : ℕ) → drop place buffer ≡ canonical_name (label ∷ labels) ++ rest
    → drop (place + (length (lower label) + 1)) buffer ≡ canonical_name labels ++ rest
behind_label label labels buffer rest place there =
    let one : length (lower label) + 1 ≡ suc (length (lower label)) = omega arith in
    let len : length (lower label) ≡ length label = length-map label to_ascii_lowercase in
    sym (drop-drop (length (lower label) + 1) place buffer)
    ∙ ap (λ (n : ℕ). drop n (drop place buffer)) one
    ∙ ap (drop (suc (length (lower label)))) (there ∙ before_rest label labels rest)
    ∙ drop-append_seam (lower label) (canonical_name labels ++ rest)

pub name_reads : (labels : List (List ℕ)) (buffer rest : List ℕ) (place segment left : ℕ) → AllByRecursion IsLabel labels → drop place buffer ≡ canonical_name labels ++ rest → name_len labels ≤ left
    → Reads buffer place segment left (lowered labels) (place + name_len labels)
name_reads [] buffer rest place segment left each there fits = at_closing (ap element there)
name_reads (label ∷ labels) buffer rest place segment left each there fits =
    let here : element_at buffer place ≡ Ok (Label (lower label)) = ap element (there ∙ before_rest label labels rest) ∙ element_label label (canonical_name labels ++ rest) each.0 in
    let len : length (lower label) ≡ length label = length-map label to_ascii_lowercase in
    let next : drop (place + (length (lower label) + 1)) buffer ≡ canonical_name labels ++ rest = behind_label label labels buffer rest place there in
    let more : Reads buffer (place + (length (lower label) + 1)) segment (left - (length (lower label) + 1)) (lowered labels) (place + (length (lower label) + 1) + name_len labels) =
    name_reads labels buffer rest (place + (length (lower label) + 1)) segment (left - (length (lower label) + 1)) each.1 next (omega arith) in
    let end : place + (length (lower label) + 1) + name_len labels ≡ place + name_len (label ∷ labels) = omega arith in
    at_label here (omega (arith, name_some labels)) (subst (λ (n : ℕ). Reads buffer (place + (length (lower label) + 1)) segment (left - (length (lower label) + 1)) (lowered labels) n) end more)
