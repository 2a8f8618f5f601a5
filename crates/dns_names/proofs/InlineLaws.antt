-- Names that are stored inline.
use Rattle.std.proofs.Common.{◌≡◌, ℕ, ◌+◌, ◌≤◌, List, [], ◌∷◌, ◌++◌, length, take, drop, subst, arith, length-append}
use Rattle.dns_wire.specs.Name.{name_len}
use Rattle.dns_wire.specs.Writing.{labels_form}
use Rattle.dns_wire.proofs.NameLaws.{length-labels_form}
use Rattle.dns_names.specs.Name.{IsInline}
use Rattle.dns_names.specs.internal.Name.{labels_in}
use Rattle.dns_names.specs.Parse.{IsInlinePartial}
use Rattle.dns_names.specs.internal.Parse.{IsPartial}
use Rattle.dns_names.proofs.BuildingLaws.{name_len-append}
use Rattle.dns_names.proofs.PartialLaws.{partial_len}

-- each label takes a byte at least
least : (labels : List (List ℕ)) → length labels + 1 ≤ name_len labels
least [] = omega arith
least (label ∷ labels) = omega (arith, least labels)

-- the first labels of those that are stored inline
pub inline_front : (a b : List (List ℕ)) → IsInline (a ++ b) → IsInline a
inline_front a b is = record {
  few = omega (arith, is.few, length-append a b);
  short = omega (arith, is.short, name_len-append a b, length-append a b, least b);
}

pub inline_prefix : (all a b : List (List ℕ)) → all ≡ a ++ b → IsInline all → IsInline a
inline_prefix all a b e is = inline_front a b (subst IsInline e is)

-- ---- how they are stored

-- 24 lengths and 32 bytes
pub wire_fits : (labels : List (List ℕ)) → IsInline labels → length (labels_form labels) ≤ 56
wire_fits labels is = omega (arith, is.few, is.short, length-labels_form labels)

-- ---- a name that is built octet by octet

-- there is room for the length of the current label
pub len_fits : (count : ℕ) (bytes : List ℕ) (start : ℕ) → IsPartial count bytes start → IsInline (labels_in count (take start bytes) ++ drop start bytes ∷ []) → length bytes + 1 ≤ 56
len_fits count bytes start p is =
    let labels = labels_in count (take start bytes) in
    omega (arith, is.few, is.short, partial_len count bytes start p, name_len-append labels (drop start bytes ∷ []), length-append labels (drop start bytes ∷ []))

-- there is room for one more octet
pub octet_fits : (count : ℕ) (bytes : List ℕ) (start octet : ℕ) → IsPartial count bytes start
    → IsInlinePartial (record { labels = labels_in count (take start bytes); label = drop start bytes ++ octet ∷ [] })
    → length bytes + 1 ≤ 56
octet_fits count bytes start octet p is =
    omega (arith, is.few, is.short, partial_len count bytes start p, length-append (drop start bytes) (octet ∷ []))
