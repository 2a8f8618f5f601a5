-- What permitted updates leave as it was.
use Rattle.std.proofs.Common.{◌≡◌, ◌==◌, ◌↔◌, ℕ, Bool, true, false, cond, not, ◌&&◌, ◌||◌, List, [], ◌∷◌, refl, sym, ap, ◌∙◌, length}
use Rattle.std.specs.Prelude.{None}
use Rattle.std.specs.Str.{bytes_eq}
use Rattle.std.specs.List.{fold, list_all, list_any}
use Rattle.std.specs.Ordering.{eq_by_cmp}
use Rattle.std.specs.FinMap as rows_map
use Rattle.dns_wire.specs.codes.RecordType.{type_number}
use Rattle.dns_wire.specs.declared.codes.record_type.RecordType.TheVariants as types
use Rattle.dns_wire.specs.declared.codes.dns_class.DNSClass.{DNSClass}
use Rattle.dns_wire.specs.declared.codes.dns_class.DNSClass.TheVariants as classes
use Rattle.dns_names.specs.Name.{DomainName}
use Rattle.dns_names.specs.Compare.{at_or_below, lower, same_labels}
use Rattle.dns_records.specs.Record.{Record}
use Rattle.dns_records.specs.Rows.{Key, Rows, key_cmp, key_of, set_of, type_of_record, with_set}
use Rattle.dns_updates.specs.Records.{is_of_type}
use Rattle.dns_updates.specs.Change.{added, change, change_of_class, is_ignored, is_kept_set, keeps_rows, set_with, without_data, without_name, without_row, without_set}
use Rattle.dns_updates.proofs.UpdateLaws.Maps.{key_total, key_antisymmetric, same_key, get_other}
use Rattle.dns_updates.proofs.UpdateLaws.Sets.{lower_twice}
use Rattle.dns_keys.specs.grants.Grant.{allows_type, is_granted, is_granted_name, may_change, may_change_name, permits_record}
use Rattle.dns_keys.specs.declared.grants.grant.Grant.{Grant}

-- what the laws of names say
abbrev IgnoresCase : Type 0
IgnoresCase = (o p a b : List (List ℕ)) → lower o ≡ lower p → lower a ≡ lower b → at_or_below o a ≡ at_or_below p b

abbrev HaveLower : Type 0
HaveLower = (a b : List (List ℕ)) → (same_labels a b ≡ true) ↔ (lower a ≡ lower b)

-- ---- what is granted

-- a grant of names in one case is one in another
granted_alike : IgnoresCase → (name : List ℕ) (a b : List (List ℕ)) (number : ℕ) → lower a ≡ lower b
    → (grants : List Grant) → may_change grants name a number ≡ may_change grants name b number
granted_alike ignores name a b number e [] = refl
granted_alike ignores name a b number e (g ∷ gs) =
    let here : at_or_below g.subtree.labels a ≡ at_or_below g.subtree.labels b = ignores g.subtree.labels g.subtree.labels a b refl e in
    let more = granted_alike ignores name a b number e gs in
    ap (λ (x : Bool). (bytes_eq g.key.items name && x && allows_type g.types.items number) || may_change gs name a number) here
    ∙ ap (λ (x : Bool). (bytes_eq g.key.items name && at_or_below g.subtree.labels b && allows_type g.types.items number) || x) more

and_true : (x y z : Bool) → (x && y && z) ≡ true → (x ≡ true) × (y ≡ true) × (z ≡ true)
and_true true true true e = (refl, refl, refl)
and_true true true false e = absurd (cc)
and_true true false z e = absurd (cc)
and_true false y z e = absurd (cc)

or_true : (x y : Bool) (P : Type 0) → (x ≡ true → P) → (y ≡ true → P) → (x || y) ≡ true → P
or_true true y P f g e = f refl
or_true false y P f g e = g e

first_true : (x y : Bool) → x ≡ true → (x || y) ≡ true
first_true x y e = ap (λ (b : Bool). b || y) e

second_true : (x y : Bool) → y ≡ true → (x || y) ≡ true
second_true true y e = refl
second_true false y e = e

all_of_them : (x y z w : Bool) → x ≡ true → y ≡ true → z ≡ true → (x && y && (z || w)) ≡ true
all_of_them x y z w a b c =
    ap (λ (p : Bool). p && y && (z || w)) a ∙ ap (λ (p : Bool). p && (z || w)) b ∙ ap (λ (p : Bool). p || w) c

-- a grant of all sets of a name is one of each of them
name_granted : IgnoresCase → (name : List ℕ) (a b : List (List ℕ)) (number : ℕ) → lower a ≡ lower b
    → (grants : List Grant) → may_change_name grants name a ≡ true → may_change grants name b number ≡ true
name_granted ignores name a b number e [] h = absurd (cc)
name_granted ignores name a b number e (g ∷ gs) h =
    or_true (is_granted_name name a g) (may_change_name gs name a) (may_change (g ∷ gs) name b number ≡ true)
    (λ here.
    let parts = and_true (bytes_eq g.key.items name) (at_or_below g.subtree.labels a) (length g.types.items == 0) here in
    let there : at_or_below g.subtree.labels b ≡ true = sym (ignores g.subtree.labels g.subtree.labels a b refl e) ∙ parts.1 in
    first_true (is_granted name b number g) (may_change gs name b number)
    (all_of_them (bytes_eq g.key.items name) (at_or_below g.subtree.labels b) (length g.types.items == 0) (list_any (λ t. type_number t == number) g.types.items) parts.0 there parts.2))
    (λ more. second_true (is_granted name b number g) (may_change gs name b number) (name_granted ignores name a b number e gs more))
    h

-- ---- one record

-- the set of a record is not one that may not be changed
apart : IgnoresCase → (grants : List Grant) (name : List ℕ) (r : Record) (at : Key)
    → may_change grants name r.name.labels (type_number (type_of_record r)) ≡ true
    → may_change grants name at.0 at.1 ≡ false → eq_by_cmp key_cmp at (key_of r) ≡ false
apart ignores grants name r at may closed = by (eq_by_cmp key_cmp at (key_of r)) refl
  where
    by : (b : Bool) → eq_by_cmp key_cmp at (key_of r) ≡ b → b ≡ false
    by false e = refl
    by true e =
        let same : at ≡ key_of r = same_key at (key_of r) e in
        let lowered : may_change grants name at.0 at.1 ≡ may_change grants name (lower r.name.labels) (type_number (type_of_record r)) =
        ap (λ (k : Key). may_change grants name k.0 k.1) same in
        let raised : may_change grants name (lower r.name.labels) (type_number (type_of_record r)) ≡ may_change grants name r.name.labels (type_number (type_of_record r)) =
        granted_alike ignores name (lower r.name.labels) r.name.labels (type_number (type_of_record r)) (lower_twice r.name.labels) grants in
        sym (lowered ∙ raised ∙ may) ∙ closed

kept_added : (rows : Rows) (r : Record) (at : Key) → eq_by_cmp key_cmp at (key_of r) ≡ false → rows_map.get (added rows r) at ≡ rows_map.get rows at
kept_added rows r at e = by (is_ignored rows r)
  where
    by : (b : Bool) → rows_map.get (cond b rows (with_set rows (key_of r) (set_with rows r))) at ≡ rows_map.get rows at
    by true = refl
    by false = get_other rows (key_of r) (set_with rows r) at e

kept_row : (origin : DomainName) (rows : Rows) (r : Record) (at : Key) → eq_by_cmp key_cmp at (key_of r) ≡ false
    → rows_map.get (without_row origin rows r) at ≡ rows_map.get rows at
kept_row origin rows r at e = by (keeps_rows origin rows r)
  where
    by : (b : Bool) → rows_map.get (cond b rows (with_set rows (key_of r) (without_data (set_of rows r) r.rdata))) at ≡ rows_map.get rows at
    by true = refl
    by false = get_other rows (key_of r) (without_data (set_of rows r) r.rdata) at e

kept_set : (origin : DomainName) (rows : Rows) (r : Record) (at : Key) → eq_by_cmp key_cmp at (key_of r) ≡ false
    → rows_map.get (without_set origin rows r.name (type_of_record r)) at ≡ rows_map.get rows at
kept_set origin rows r at e = by (is_kept_set origin r.name (type_number (type_of_record r)))
  where
    by : (b : Bool) → rows_map.get (cond b rows (rows_map.remove rows (key_of r))) at ≡ rows_map.get rows at
    by true = refl
    by false = rows_map.get-remove key_total rows (key_of r) at ∙ ap (λ (b : Bool). cond b None (rows_map.get rows at)) e

-- the names of which no set may be changed are others
kept_name : (origin : DomainName) (rows : Rows) (owner : DomainName) (at : Key) → same_labels owner.labels at.0 ≡ false
    → rows_map.get (without_name origin rows owner) at ≡ rows_map.get rows at
kept_name origin rows owner at e =
    rows_map.get-retain_keys rows (λ k. not (same_labels owner.labels k.0) || is_kept_set origin owner k.1) at
    (λ x t. ap (λ (k : Key). not (same_labels owner.labels k.0) || is_kept_set origin owner k.1) (sym (key_antisymmetric at x t)))
    ∙ ap (λ (b : Bool). cond (not b || is_kept_set origin owner at.1) (rows_map.get rows at) None) e

name_apart : IgnoresCase → HaveLower → (grants : List Grant) (name : List ℕ) (owner : List (List ℕ)) (at : Key)
    → may_change_name grants name owner ≡ true → may_change grants name at.0 at.1 ≡ false → same_labels owner at.0 ≡ false
name_apart ignores have grants name owner at may closed = by (same_labels owner at.0) refl
  where
    by : (b : Bool) → same_labels owner at.0 ≡ b → b ≡ false
    by false e = refl
    by true e = sym (name_granted ignores name owner at.0 at.1 ((have owner at.0).0 e) grants may) ∙ closed

-- the set of a record at a name of which all sets may be changed
name_far : IgnoresCase → (grants : List Grant) (name : List ℕ) (r : Record) (at : Key) → may_change_name grants name r.name.labels ≡ true
    → may_change grants name at.0 at.1 ≡ false → eq_by_cmp key_cmp at (key_of r) ≡ false
name_far ignores grants name r at may closed = by (eq_by_cmp key_cmp at (key_of r)) refl
  where
    by : (b : Bool) → eq_by_cmp key_cmp at (key_of r) ≡ b → b ≡ false
    by false e = refl
    by true e =
        let same : at ≡ key_of r = same_key at (key_of r) e in
        let there : may_change grants name (lower r.name.labels) (type_number (type_of_record r)) ≡ true =
        name_granted ignores name r.name.labels (lower r.name.labels) (type_number (type_of_record r)) (sym (lower_twice r.name.labels)) grants may in
        sym (ap (λ (k : Key). may_change grants name k.0 k.1) same ∙ there) ∙ closed

-- a permitted record leaves a set that may not be changed
kept : IgnoresCase → HaveLower → (grants : List Grant) (name : List ℕ) (origin : DomainName) (rows : Rows) (r : Record) (at : Key)
    → permits_record grants name r ≡ true → may_change grants name at.0 at.1 ≡ false → (c : DNSClass)
    → rows_map.get (change_of_class origin rows c r) at ≡ rows_map.get rows at
kept ignores have grants name origin rows r at permitted closed = by_class
  where
    far_by : (b : Bool) → cond b (may_change_name grants name r.name.labels) (may_change grants name r.name.labels (type_number (type_of_record r))) ≡ true
        → eq_by_cmp key_cmp at (key_of r) ≡ false
    far_by true h = name_far ignores grants name r at h closed
    far_by false h = apart ignores grants name r at h closed

    far : eq_by_cmp key_cmp at (key_of r) ≡ false
    far = far_by (is_of_type types.ANY r) permitted

    any : (b : Bool) → cond b (may_change_name grants name r.name.labels) (may_change grants name r.name.labels (type_number (type_of_record r))) ≡ true
        → rows_map.get (cond b (without_name origin rows r.name) (without_set origin rows r.name (type_of_record r))) at ≡ rows_map.get rows at
    any true h = kept_name origin rows r.name at (name_apart ignores have grants name r.name.labels at h closed)
    any false h = kept_set origin rows r at (apart ignores grants name r at h closed)

    by_class : (c : DNSClass) → rows_map.get (change_of_class origin rows c r) at ≡ rows_map.get rows at
    by_class classes.IN = kept_added rows r at far
    by_class classes.ANY = any (is_of_type types.ANY r) permitted
    by_class classes.NONE = kept_row origin rows r at far
    by_class other = refl

-- ---- updates

both_true : (x y : Bool) → (x && y) ≡ true → (x ≡ true) × (y ≡ true)
both_true true true e = (refl, refl)
both_true true false e = absurd (cc)
both_true false y e = absurd (cc)

-- permitted records leave a set that may not be changed
pub nothing_else : IgnoresCase → HaveLower → (grants : List Grant) (name : List ℕ) (origin : DomainName) (records : List Record) (rows : Rows) (at : Key)
    → list_all (permits_record grants name) records ≡ true → may_change grants name at.0 at.1 ≡ false
    → rows_map.get (fold (change origin) rows records) at ≡ rows_map.get rows at
nothing_else ignores have grants name origin [] rows at permitted closed = refl
nothing_else ignores have grants name origin (r ∷ more) rows at permitted closed =
    let both = both_true (permits_record grants name r) (list_all (permits_record grants name) more) permitted in
    nothing_else ignores have grants name origin more (change origin rows r) at both.1 closed
    ∙ kept ignores have grants name origin rows r at both.0 closed r.dns_class
