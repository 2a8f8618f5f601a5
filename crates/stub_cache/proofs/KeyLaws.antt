-- Keys tell the questions that have the same entry, and are short.
use Rattle.std.proofs.Common.{◌≡◌, ℕ, ◌+◌, ◌/◌, ◌%◌, ◌≤◌, Bool, true, false, List, [], ◌∷◌, ◌++◌, length, refl, ap, arith, length-append}
use Rattle.std.specs.Prelude.{◌==◌}
use Rattle.std.specs.Bool.{beq}
use Rattle.std.specs.Str.{str_to_ascii_lowercase, str_eq_ignore_ascii_case}
use Rattle.std.proofs.lemmas.Bool.{and_parts, and_from, eqb-true, eq-eqb}
use Rattle.std.proofs.lemmas.List.{length-map}
use Rattle.std.proofs.lemmas.Slice.Eq.{bytes_eq-Decides}
use Rattle.dns_wire.specs.codes.RecordType.{type_number}
use Rattle.dns_wire.specs.codes.DNSClass.{class_number}
use Rattle.dns_names.specs.Compare.{same_name, same_labels}
use Rattle.dns_messages.specs.declared.query.Query.{Query}
use Rattle.dns_wire.specs.Name.{AreLabels, name_len}
use Rattle.std.specs.Char.{to_ascii_lowercase}
use Rattle.stub_cache.specs.Cache.{same_key}
use Rattle.stub_cache.specs.internal.Key.{flag_key, key_of, label_key, labels_key}

-- ---- how long a key is

pub length_lower : (label : List ℕ) → length (str_to_ascii_lowercase label) ≡ length label
length_lower label = length-map label to_ascii_lowercase

pub length_labels_key : (labels : List (List ℕ)) → length (labels_key labels) + 1 ≡ name_len labels
length_labels_key [] = refl
length_labels_key (label ∷ labels) =
    omega (arith, length-append (label_key label) (labels_key labels), length_lower label, length_labels_key labels)

-- ---- labels

same_front : (a b x y : List ℕ) → length a ≡ length b → a ++ x ≡ b ++ y → (a ≡ b) × (x ≡ y)
same_front [] [] x y same e = (refl, e)
same_front [] (c ∷ b) x y same e = absurd (omega (arith, same))
same_front (c ∷ a) [] x y same e = absurd (omega (arith, same))
same_front (c ∷ a) (d ∷ b) x y same e =
    let head : c ≡ d = cc in
    let rest : a ++ x ≡ b ++ y = cc in
    let fronts = same_front a b x y (omega (arith, same)) rest in
    let first = fronts.0 in
    (cc, fronts.1)

labels_from_same : (a b : List (List ℕ)) → same_labels a b ≡ true → labels_key a ≡ labels_key b
labels_from_same [] [] e = refl
labels_from_same [] (y ∷ ys) e = absurd (cc)
labels_from_same (x ∷ xs) [] e = absurd (cc)
labels_from_same (x ∷ xs) (y ∷ ys) e =
    let both = and_parts (str_eq_ignore_ascii_case x y) (same_labels xs ys) e in
    let first : str_to_ascii_lowercase x ≡ str_to_ascii_lowercase y = (bytes_eq-Decides (str_to_ascii_lowercase x) (str_to_ascii_lowercase y)).0 both.0 in
    let same : length x ≡ length y = omega (arith, length_lower x, length_lower y, ap length first) in
    let others : labels_key xs ≡ labels_key ys = labels_from_same xs ys both.1 in
    cc

same_from_labels : (a b : List (List ℕ)) → labels_key a ≡ labels_key b → same_labels a b ≡ true
same_from_labels [] [] e = refl
same_from_labels [] (y ∷ ys) e = absurd (cc)
same_from_labels (x ∷ xs) [] e = absurd (cc)
same_from_labels (x ∷ xs) (y ∷ ys) e =
    let same : length x ≡ length y = cc in
    let rest : str_to_ascii_lowercase x ++ labels_key xs ≡ str_to_ascii_lowercase y ++ labels_key ys = cc in
    let parts = same_front (str_to_ascii_lowercase x) (str_to_ascii_lowercase y) (labels_key xs) (labels_key ys) (omega (arith, length_lower x, length_lower y, same)) rest in
    and_from (str_eq_ignore_ascii_case x y) (same_labels xs ys)
    ((bytes_eq-Decides (str_to_ascii_lowercase x) (str_to_ascii_lowercase y)).1 parts.0) (same_from_labels xs ys parts.1)

-- ---- questions

flag_from_same : (a b : Bool) → beq a b ≡ true → flag_key a ≡ flag_key b
flag_from_same true true e = refl
flag_from_same true false e = absurd (cc)
flag_from_same false true e = absurd (cc)
flag_from_same false false e = refl

same_from_flag : (a b : Bool) → flag_key a ≡ flag_key b → beq a b ≡ true
same_from_flag true true e = refl
same_from_flag true false e = absurd (omega (arith, e))
same_from_flag false true e = absurd (omega (arith, e))
same_from_flag false false e = refl

-- the two bytes of a number tell it
halves : (s t : ℕ) → s / 256 ≡ t / 256 → s % 256 ≡ t % 256 → s ≡ t
halves s t high low = omega (arith, high, low)

pub key_from_same : (p q : Query) → same_key p q ≡ true → key_of p ≡ key_of q
key_from_same p q e =
    let parts = and_parts (same_name p.name q.name) _ e in
    let names = and_parts (beq p.name.is_fqdn q.name.is_fqdn) (same_labels p.name.labels q.name.labels) parts.0 in
    let codes = and_parts (type_number p.query_type == type_number q.query_type) (class_number p.query_class == class_number q.query_class) parts.1 in
    let kinds = eqb-true (type_number p.query_type) (type_number q.query_type) codes.0 in
    let classes = eqb-true (class_number p.query_class) (class_number q.query_class) codes.1 in
    let flags = flag_from_same p.name.is_fqdn q.name.is_fqdn names.0 in
    let labels = labels_from_same p.name.labels q.name.labels names.1 in
    cc

pub same_from_key : (p q : Query) → key_of p ≡ key_of q → same_key p q ≡ true
same_from_key p q e =
    let kind_high : type_number p.query_type / 256 ≡ type_number q.query_type / 256 = cc in
    let kind_low : type_number p.query_type % 256 ≡ type_number q.query_type % 256 = cc in
    let class_high : class_number p.query_class / 256 ≡ class_number q.query_class / 256 = cc in
    let class_low : class_number p.query_class % 256 ≡ class_number q.query_class % 256 = cc in
    let kinds = halves (type_number p.query_type) (type_number q.query_type) kind_high kind_low in
    let classes = halves (class_number p.query_class) (class_number q.query_class) class_high class_low in
    let flags : flag_key p.name.is_fqdn ≡ flag_key q.name.is_fqdn = cc in
    let labels : labels_key p.name.labels ≡ labels_key q.name.labels = cc in
    and_from (same_name p.name q.name) _
    (and_from (beq p.name.is_fqdn q.name.is_fqdn) (same_labels p.name.labels q.name.labels) (same_from_flag p.name.is_fqdn q.name.is_fqdn flags) (same_from_labels p.name.labels q.name.labels labels))
    (and_from (type_number p.query_type == type_number q.query_type) (class_number p.query_class == class_number q.query_class) (eq-eqb (type_number p.query_type) (type_number q.query_type) kinds) (eq-eqb (class_number p.query_class) (class_number q.query_class) classes))

-- ---- the key of a question while it is built

pub next_label_fits : (q : Query) (key label : List ℕ) (labels : List (List ℕ)) → AreLabels q.name.labels → key ++ labels_key (label ∷ labels) ≡ key_of q
    → length key + (length label + 1) ≤ 260
next_label_fits q key label labels are e =
    let whole = ap length e in
    let fits = are.fits in
    omega (arith, whole, fits, length_labels_key q.name.labels, length-append key (labels_key (label ∷ labels)), length-append (label_key label) (labels_key labels), length_lower label)
