-- What each update leaves: no empty set, and aliases alone; and which updates pass.
use Rattle.std.proofs.Common.{◌≡◌, ◌≢◌, ◌==◌, ℕ, Bool, true, false, cond, not, ◌&&◌, ◌||◌, List, [], ◌∷◌, refl, sym, ap, ◌∙◌, subst, is_some, Option, Some, None, unwrap_or}
use Rattle.std.specs.List.{fold, list_any, AllByRecursion}
use Rattle.std.specs.Ordering.{eq_by_cmp}
use Rattle.std.specs.FinMap as rows_map
use Rattle.dns_wire.specs.codes.RecordType.{type_number}
use Rattle.dns_wire.specs.declared.codes.record_type.RecordType.TheVariants as types
use Rattle.dns_wire.specs.declared.codes.dns_class.DNSClass.{DNSClass}
use Rattle.dns_wire.specs.declared.codes.dns_class.DNSClass.TheVariants as classes
use Rattle.dns_names.specs.Name.{DomainName}
use Rattle.dns_names.specs.Compare.{lower, same_labels}
use Rattle.dns_records.specs.declared.row.Row.{Row}
use Rattle.dns_records.specs.Record.{Record}
use Rattle.dns_records.specs.Rows.{Key, Rows, HasNoEmptySet, key, key_cmp, key_of, set_of, type_of_record, with_set}
use Rattle.dns_messages.specs.declared.message.Message.{Message}
use Rattle.dns_messages.specs.declared.response_code.ResponseCode.{ResponseCode}
use Rattle.dns_messages.specs.declared.response_code.ResponseCode.TheVariants.{NoError}
use Rattle.dns_updates.specs.Records.{AreAliasesAlone, alias_key, is_of_type, has_set, has_rows_but}
use Rattle.dns_updates.specs.Code.{first_fault, first_fault_of, prerequisite_code, prescan_code, sets_code, update_code, zone_code}
use Rattle.dns_updates.specs.Change.{added, set_with, is_ignored, is_kept_set, keeps_rows, succeeds_soa, without_data, without_name, without_row, without_set, change, change_of_class, update_change}
use Rattle.dns_updates.proofs.UpdateLaws.Maps.{key_total, key_antisymmetric, same_key, filled, get_with_set, get_other, filled_left, filled_empty}
use Rattle.dns_updates.proofs.UpdateLaws.Sets.{Alike, lower_twice}
use Rattle.dns_updates.proofs.UpdateLaws.Codes.{or_first, or_second, number_same}

true_false : true ≡ false → ⊥
true_false e = cc

-- ---- which updates pass

second_fault : (a b : ResponseCode) → first_fault a b ≡ NoError → (a ≡ NoError) × (b ≡ NoError)
second_fault NoError b e = (refl, e)
second_fault other b e = absurd (cc)

all_pass : {A : Type 0} (code : A → ResponseCode) (xs : List A) → first_fault_of code xs ≡ NoError → AllByRecursion (λ x. code x ≡ NoError) xs
all_pass code [] e = tt
all_pass code (x ∷ xs) e = let h = second_fault (code x) (first_fault_of code xs) e in (h.0, all_pass code xs h.1)

pub accepted_pass : (origin : DomainName) (rows : Rows) (m : Message) → update_code origin rows m ≡ NoError
    → AllByRecursion (λ r. prescan_code origin r ≡ NoError) m.authorities
accepted_pass origin rows m e =
    let updates : ResponseCode = first_fault_of (prescan_code origin) m.authorities in
    let sets : ResponseCode = sets_code rows m.answers in
    let prerequisites : ResponseCode = first_fault_of (prerequisite_code origin rows) m.answers in
    let behind_zone = (second_fault (zone_code origin m.queries) (first_fault prerequisites (first_fault sets updates)) e).1 in
    let behind_prerequisites = (second_fault prerequisites (first_fault sets updates) behind_zone).1 in
    all_pass (prescan_code origin) m.authorities (second_fault sets updates behind_prerequisites).1

-- ---- a property of rows that each update keeps

fold_keeps : (P : Rows → Type 0) (f : Rows → Record → Rows) → ((rows : Rows) (r : Record) → P rows → P (f rows r))
    → (rs : List Record) (rows : Rows) → P rows → P (fold f rows rs)
fold_keeps P f keeps [] rows h = h
fold_keeps P f keeps (r ∷ rs) rows h = fold_keeps P f keeps rs (f rows r) (keeps rows r h)

-- by class, by cases of what each class does
of_class : (P : Rows → Type 0) (origin : DomainName) (rows : Rows) (r : Record) → P rows → P (added rows r) → P (without_name origin rows r.name)
    → P (without_set origin rows r.name (type_of_record r)) → P (without_row origin rows r) → (c : DNSClass) → P (change_of_class origin rows c r)
of_class P origin rows r h a n s w classes.IN = a
of_class P origin rows r h a n s w classes.ANY = elim (is_of_type types.ANY r) as (λ b. P (cond b (without_name origin rows r.name) (without_set origin rows r.name (type_of_record r)))) [ true ↦ n | false ↦ s ]
of_class P origin rows r h a n s w classes.NONE = w
of_class P origin rows r h a n s w other = h

by_test : (P : Rows → Type 0) (b : Bool) (x y : Rows) → (b ≡ true → P x) → (b ≡ false → P y) → P (cond b x y)
by_test P true x y f g = f refl
by_test P false x y f g = g refl

-- ---- no empty set

abbrev Part : Rows → Rows → Type 0
Part old new = (q : Key) → rows_map.get old q ≢ Some [] → rows_map.get new q ≢ Some []

removed_part : (rows : Rows) (k : Key) → Part rows (rows_map.remove rows k)
removed_part rows k q h e = by (eq_by_cmp key_cmp q k) (sym (rows_map.get-remove key_total rows k q) ∙ e)
  where
    by : (b : Bool) → cond b None (rows_map.get rows q) ≡ Some [] → ⊥
    by true f = cc
    by false f = h f

retained_part : (rows : Rows) (p : Key → Bool) → Part rows (rows_map.retain_keys rows p)
retained_part rows p q h e = by (p q) (sym (rows_map.get-retain_keys rows p q (λ x t. ap p (sym (key_antisymmetric q x t)))) ∙ e)
  where
    by : (b : Bool) → cond b (rows_map.get rows q) None ≡ Some [] → ⊥
    by true f = h f
    by false f = cc

one_filled : (origin : DomainName) (rows : Rows) (r : Record) → HasNoEmptySet rows → HasNoEmptySet (change origin rows r)
one_filled origin rows r h =
    of_class (λ new. HasNoEmptySet new) origin rows r h
    (by_test (λ new. HasNoEmptySet new) (is_ignored rows r) rows _ (λ _. h) (λ _. filled_left rows (key_of r) (set_with rows r) h))
    (λ q. retained_part rows (λ k. not (same_labels r.name.labels k.0) || is_kept_set origin r.name k.1) q (h q))
    (by_test (λ new. HasNoEmptySet new) (is_kept_set origin r.name (type_number (type_of_record r))) rows _ (λ _. h) (λ _ q. removed_part rows (key r.name.labels (type_of_record r)) q (h q)))
    (by_test (λ new. HasNoEmptySet new) (keeps_rows origin rows r) rows _ (λ _. h) (λ _. filled_left rows (key_of r) (without_data (set_of rows r) r.rdata) h))
    r.dns_class

pub all_filled : (origin : DomainName) (rows : Rows) (m : Message) → HasNoEmptySet rows → HasNoEmptySet (update_change origin rows m)
all_filled origin rows m h = fold_keeps (λ new. HasNoEmptySet new) (change origin) (one_filled origin) m.authorities rows h

-- ---- aliases alone

-- where nothing was, nothing is
Fewer : Rows → Rows → Type 0
Fewer old new = (q : Key) → rows_map.get old q ≡ None → rows_map.get new q ≡ None

removed_fewer : (rows : Rows) (k : Key) → Fewer rows (rows_map.remove rows k)
unfolding Fewer
removed_fewer rows k q e = rows_map.get-remove key_total rows k q ∙ by (eq_by_cmp key_cmp q k)
  where
    by : (b : Bool) → cond b None (rows_map.get rows q) ≡ None
    by true = refl
    by false = e

retained_fewer : (rows : Rows) (p : Key → Bool) → Fewer rows (rows_map.retain_keys rows p)
unfolding Fewer
retained_fewer rows p q e = rows_map.get-retain_keys rows p q (λ x t. ap p (sym (key_antisymmetric q x t))) ∙ by (p q)
  where
    by : (b : Bool) → cond b (rows_map.get rows q) None ≡ None
    by true = e
    by false = refl

row_fewer : (rows : Rows) (r : Record) → Fewer rows (with_set rows (key_of r) (without_data (set_of rows r) r.rdata))
unfolding Fewer
row_fewer rows r q e =
    get_with_set rows (key_of r) (without_data (set_of rows r) r.rdata) q
    ∙ by (eq_by_cmp key_cmp q (key_of r)) refl
  where
    by : (b : Bool) → eq_by_cmp key_cmp q (key_of r) ≡ b → cond b (filled (without_data (set_of rows r) r.rdata)) (rows_map.get rows q) ≡ None
    by true t =
        let none : rows_map.get rows (key_of r) ≡ None = ap (rows_map.get rows) (sym (same_key q (key_of r) t)) ∙ e in
        ap (λ o. filled (without_data (unwrap_or o []) r.rdata)) none ∙ filled_empty
    by false t = e

none_apart : (o : Option (List Row)) → is_some o ≡ true → o ≡ None → ⊥
none_apart None s e = cc
none_apart (Some x) s e = cc

some_or : (o : Option (List Row)) → (o ≡ None → ⊥) → is_some o ≡ true
some_or None f = absurd (f refl)
some_or (Some x) f = refl

alone_fewer : (old new : Rows) → Fewer old new → AreAliasesAlone old → AreAliasesAlone new
unfolding Fewer
alone_fewer old new fewer alone k some other =
    fewer k (alone k (some_or (rows_map.get old (alias_key k)) (λ none. none_apart (rows_map.get new (alias_key k)) some (fewer (alias_key k) none))) other)

-- keys of different types
types_apart : (a b : Key) → a.1 ≢ b.1 → eq_by_cmp key_cmp a b ≡ false
types_apart a b h = by (eq_by_cmp key_cmp a b) refl
  where
    by : (t : Bool) → eq_by_cmp key_cmp a b ≡ t → t ≡ false
    by true e = absurd (h (ap (λ (k : Key). k.1) (same_key a b e)))
    by false e = refl

-- an alias where the name has no rows of another type
alias_alone : (rows : Rows) (owner : List (List ℕ)) (s : List Row) → AreAliasesAlone rows
    → ((k : Key) → k.0 ≡ owner → k.1 ≢ 5 → rows_map.get rows k ≡ None) → AreAliasesAlone (with_set rows (owner, 5) s)
alias_alone rows owner s alone none k some other =
    get_other rows (owner, 5) s k (types_apart k (owner, 5) other) ∙ by (eq_by_cmp key_cmp (alias_key k) (owner, 5)) refl
  where
    by : (b : Bool) → eq_by_cmp key_cmp (alias_key k) (owner, 5) ≡ b → rows_map.get rows k ≡ None
    by true e = none k (ap (λ (q : Key). q.0) (same_key (alias_key k) (owner, 5) e)) other
    by false e = alone k (sym (ap is_some (get_other rows (owner, 5) s (alias_key k) e)) ∙ some) other

-- rows of another type where the name has no alias
others_alone : (rows : Rows) (p : Key) (s : List Row) → AreAliasesAlone rows → p.1 ≢ 5 → rows_map.contains_key rows (alias_key p) ≡ false → AreAliasesAlone (with_set rows p s)
others_alone rows p s alone plain none k some other =
    let before : rows_map.contains_key rows (alias_key k) ≡ true =
    sym (ap is_some (get_other rows p s (alias_key k) (types_apart (alias_key k) p (λ e. plain (sym e))))) ∙ some in
    by before (eq_by_cmp key_cmp k p) refl
  where
    by : rows_map.contains_key rows (alias_key k) ≡ true → (b : Bool) → eq_by_cmp key_cmp k p ≡ b → rows_map.get (with_set rows p s) k ≡ None
    by before true e = absurd (true_false (sym before ∙ ap (λ (q : Key). rows_map.contains_key rows (alias_key q)) (same_key k p e) ∙ none))
    by before false e = get_other rows p s k e ∙ alone k before other

pub any_weaker : {A : Type 0} (p q : A → Bool) → ((x : A) → q x ≡ true → p x ≡ true) → (xs : List A) → list_any p xs ≡ false → list_any q xs ≡ false
any_weaker p q h [] e = refl
any_weaker p q h (x ∷ xs) e = by (any_weaker p q h xs (or_second (p x) (list_any p xs) e)) (q x) refl
  where
    by : list_any q xs ≡ false → (b : Bool) → q x ≡ b → (b || list_any q xs) ≡ false
    by more true t = absurd (true_false (sym (h x t) ∙ or_first (p x) (list_any p xs) e))
    by more false t = more

not_same_number : (n : ℕ) → n ≢ 5 → not (5 == n) ≡ true
not_same_number n h = by (5 == n) refl
  where
    by : (b : Bool) → (5 == n) ≡ b → not b ≡ true
    by true e = absurd (h (sym (number_same 5 n e)))
    by false e = refl

none_of_type : (o : Option (List Row)) → is_some o ≡ false → o ≡ None
none_of_type None e = refl
none_of_type (Some x) e = absurd (cc)

no_rows_but : Alike → (rows : Rows) (owner : DomainName) → has_rows_but rows owner types.CNAME ≡ false
    → (k : Key) → k.0 ≡ lower owner.labels → k.1 ≢ 5 → rows_map.get rows k ≡ None
no_rows_but alike rows owner none k e other =
    none_of_type (rows_map.get rows k)
    (rows_map.contains_key-keys rows k
    ∙ any_weaker (λ x. same_labels owner.labels x.0 && not (5 == x.1)) (eq_by_cmp key_cmp k) here (rows_map.keys rows) none)
  where
    here : (x : Key) → eq_by_cmp key_cmp k x ≡ true → (same_labels owner.labels x.0 && not (5 == x.1)) ≡ true
    here x t =
        let same : k ≡ x = same_key k x t in
        let lowered : lower owner.labels ≡ lower x.0 = sym (ap lower e ∙ lower_twice owner.labels) ∙ ap (λ (q : Key). lower q.0) same in
        (λ i. (alike owner.labels x.0).1 lowered i && not_same_number x.1 (λ f. other (ap (λ (q : Key). q.1) same ∙ f)) i)

add_alone : Alike → (rows : Rows) (r : Record) → AreAliasesAlone rows → (c : Bool) → is_of_type types.CNAME r ≡ c
    → (cond c (has_rows_but rows r.name types.CNAME) (has_set rows r.name types.CNAME || (is_of_type types.SOA r && not (succeeds_soa (set_of rows r) r)))) ≡ false
    → AreAliasesAlone (with_set rows (key_of r) (set_with rows r))
add_alone alike rows r alone true c ignored =
    let P : Key → Type 0 = λ k. AreAliasesAlone (with_set rows k (set_with rows r)) in
    let here : (lower r.name.labels, 5) ≡ key_of r = λ i. (lower r.name.labels, number_same 5 (type_number (type_of_record r)) c i) in
    subst P here (alias_alone rows (lower r.name.labels) (set_with rows r) alone (no_rows_but alike rows r.name ignored))
add_alone alike rows r alone false c ignored =
    others_alone rows (key_of r) (set_with rows r) alone (λ e. absurd (true_false (sym (ap (λ n. 5 == n) e) ∙ c))) (or_first _ _ ignored)

one_alone : Alike → (origin : DomainName) (rows : Rows) (r : Record) → AreAliasesAlone rows → AreAliasesAlone (change origin rows r)
one_alone alike origin rows r h =
    of_class (λ new. AreAliasesAlone new) origin rows r h
    (by_test (λ new. AreAliasesAlone new) (is_ignored rows r) rows _ (λ _. h) (λ e. add_alone alike rows r h (is_of_type types.CNAME r) refl e))
    (alone_fewer rows _ (retained_fewer rows (λ k. not (same_labels r.name.labels k.0) || is_kept_set origin r.name k.1)) h)
    (by_test (λ new. AreAliasesAlone new) (is_kept_set origin r.name (type_number (type_of_record r))) rows _ (λ _. h) (λ _. alone_fewer rows _ (removed_fewer rows (key r.name.labels (type_of_record r))) h))
    (by_test (λ new. AreAliasesAlone new) (keeps_rows origin rows r) rows _ (λ _. h) (λ _. alone_fewer rows _ (row_fewer rows r) h))
    r.dns_class

pub all_alone : Alike → (origin : DomainName) (rows : Rows) (m : Message) → AreAliasesAlone rows → AreAliasesAlone (update_change origin rows m)
all_alone alike origin rows m h = fold_keeps (λ new. AreAliasesAlone new) (change origin) (one_alone alike origin) m.authorities rows h
