-- Entries by name: what joining a lookup changes, and which names have an address then.
use Rattle.std.proofs.Common.{◌≡◌, ℕ, Bool, true, false, List, [], ◌∷◌, Option, Some, None, Result, Ok, Err, refl, ap, sym, subst, ◌∙◌, map}
use Rattle.std.specs.Prelude.{cond, ◌||◌, OnOk, OnErr}
use Rattle.std.specs.BTreeMap.{insert_entry, is_at}
use Rattle.std.specs.Cmp.{tied_itself}
use Rattle.std.specs.List.{filter, find, AllByRecursion, list_any}
use Rattle.std.specs.List.Sorted.{IsStrictlySortedBy}
use Rattle.std.specs.Map.{keys_of, values_of, lookup, set_value}
use Rattle.std.specs.Ordering.{match_ordering, is_eq}
use Rattle.std.specs.declared.cmp.Ordering.{Ordering}
use Rattle.std.specs.declared.cmp.Ordering.TheVariants.{Less, Equal, Greater}
use Rattle.std.specs.declared.net.ip_addr.IpAddr.{IpAddr}
use Rattle.std.proofs.lemmas.List.Folds.{list_any-append}
use Rattle.std.proofs.lemmas.Map.Keys.{sorted_head, sorted_tail}
use Rattle.dns_names.specs.Name.{DomainName}
use Rattle.dns_names.specs.Compare.{name_cmp, same_labels}
use Rattle.dns_names.specs.internal.Compare.{name_cmp-total, same_labels-equivalence}
use Rattle.stub_lookup.specs.Lookup.{LookupContent, joined}
use Rattle.stub_hosts.specs.Hosts.{entry, with_entry, has_address, is_address_of, pointer}
use Rattle.stub_hosts.specs.internal.HostKeys.{key_cmp, key_cmp-total, labels_key}
use Rattle.stub_hosts.specs.internal.Hosts.{AreKeyed, AreInOrder, names_of, own_name, with_name, AddsName, IsIndexOf, pointer_to}
use Rattle.stub_hosts.specs.declared.hosts.table.HostEntry.{HostEntry}
use Rattle.stub_hosts.proofs.HostKeyLaws.{names_in_order, same_key}

-- ---- the names that have an address

-- the names of the entries that have an address
abbrev pub named : IpAddr → List HostEntry → List DomainName
named a es = names_of (filter (has_address a) es)

abbrev AllAfter : DomainName → List HostEntry → Type 0
AllAfter n es = AllByRecursion (λ m. name_cmp n m ≡ Less) (names_of es)

all_after : (n m : DomainName) (es : List HostEntry) → name_cmp n m ≡ Less → AllAfter m es → AllAfter n es
all_after n m [] less after = tt
all_after n m (e ∷ es) less after = (name_cmp-total.trans n m e.name less after.0, all_after n m es less after.1)

abbrev at_front : Bool → DomainName → List DomainName → List DomainName
at_front h n ns = cond h (n ∷ ns) ns

front_if : (h : Bool) (e : HostEntry) (es : List HostEntry) → names_of (cond h (e ∷ es) es) ≡ at_front h e.name (names_of es)
front_if true e es = refl
front_if false e es = refl

module _ (a : IpAddr) where
  named-cons : (e : HostEntry) (es : List HostEntry) → named a (e ∷ es) ≡ at_front (has_address a e) e.name (named a es)
  named-cons e es = front_if (has_address a e) e (filter (has_address a) es)

  front_here : (n m : DomainName) (h : Bool) (ms : List DomainName) → name_cmp n m ≡ Less → with_name n ms ≡ n ∷ ms → with_name n (at_front h m ms) ≡ n ∷ at_front h m ms
  front_here n m true ms less later = rw less refl
  front_here n m false ms less later = later

  front : (n : DomainName) (es : List HostEntry) → AllAfter n es → with_name n (named a es) ≡ n ∷ named a es
  front n [] after = refl
  front n (e ∷ es) after =
      ap (with_name n) (named-cons e es) ∙ front_here n e.name (has_address a e) (named a es) after.0 (front n es after.1)
      ∙ ap (λ ns. n ∷ ns) (sym (named-cons e es))

  module _ (name : DomainName) (new l : LookupContent) (none : list_any (is_address_of a) new.message.answers ≡ false) where
    abbrev has : Bool
    has = list_any (is_address_of a) l.message.answers

    has_new : has_address a (entry name (joined new l)) ≡ has
    has_new = list_any-append (is_address_of a) new.message.answers l.message.answers ∙ ap (λ (b : Bool). b || has) none

    has_joined : (e : HostEntry) → has_address a (entry e.name (joined e.lookup l)) ≡ (has_address a e || has)
    has_joined e = list_any-append (is_address_of a) e.lookup.message.answers l.message.answers

    own_here : (o : Ordering) (e : HostEntry) (es : List HostEntry) → name_cmp name e.name ≡ o → name_cmp name (own_name name es) ≡ Equal
        → name_cmp name (match_ordering o name e.name (own_name name es)) ≡ Equal
    own_here Less e es is later = tied_itself name_cmp-total name
    own_here Equal e es is later = is
    own_here Greater e es is later = later

    own_tied : (es : List HostEntry) → name_cmp name (own_name name es) ≡ Equal
    own_tied [] = tied_itself name_cmp-total name
    own_tied (e ∷ es) = own_here (name_cmp name e.name) e es refl (own_tied es)

    abbrev Names : DomainName → List HostEntry → List HostEntry → Type 0
    Names own old all = named a all ≡ cond has (with_name own (named a old)) (named a old)

    first : (s : Bool) (ms : List DomainName) → with_name name ms ≡ name ∷ ms → at_front s name ms ≡ cond s (with_name name ms) ms
    first true ms is = sym is
    first false ms is = refl

    merged : (h s : Bool) (n : DomainName) (ms : List DomainName) → with_name n ms ≡ n ∷ ms → at_front (h || s) n ms ≡ cond s (with_name n (at_front h n ms)) (at_front h n ms)
    merged true true n ms is = rw (tied_itself name_cmp-total n) refl
    merged true false n ms is = refl
    merged false true n ms is = sym is
    merged false false n ms is = refl

    later : (h s : Bool) (own m : DomainName) (ms ns : List DomainName) → name_cmp own m ≡ Greater → ns ≡ cond s (with_name own ms) ms
        → at_front h m ns ≡ cond s (with_name own (at_front h m ms)) (at_front h m ms)
    later true true own m ms ns is more = ap (λ xs. m ∷ xs) more ∙ rw is refl
    later true false own m ms ns is more = ap (λ xs. m ∷ xs) more
    later false s own m ms ns is more = more

    names_here : (o : Ordering) (e : HostEntry) (es : List HostEntry) → name_cmp name e.name ≡ o → AllAfter e.name es → Names (own_name name es) es (with_entry name new l es)
        → Names (match_ordering o name e.name (own_name name es)) (e ∷ es)
        (elim o [ Less ↦ entry name (joined new l) ∷ e ∷ es | Equal ↦ entry e.name (joined e.lookup l) ∷ es | Greater ↦ e ∷ with_entry name new l es ])
    names_here Less e es is after more =
        named-cons (entry name (joined new l)) (e ∷ es) ∙ ap (λ (b : Bool). at_front b name (named a (e ∷ es))) has_new
        ∙ first has (named a (e ∷ es)) (front name (e ∷ es) (is, all_after name e.name es is after))
    names_here Equal e es is after more =
        named-cons (entry e.name (joined e.lookup l)) es ∙ ap (λ (b : Bool). at_front b e.name (named a es)) (has_joined e)
        ∙ merged (has_address a e) has e.name (named a es) (front e.name es after)
        ∙ ap (λ ms. cond has (with_name e.name ms) ms) (sym (named-cons e es))
    names_here Greater e es is after more =
        let own_is : name_cmp (own_name name es) e.name ≡ Greater = sym (name_cmp-total.congr name (own_name name es) e.name (own_tied es)) ∙ is in
        named-cons e (with_entry name new l es) ∙ later (has_address a e) has (own_name name es) e.name (named a es) (named a (with_entry name new l es)) own_is more
        ∙ ap (λ ms. cond has (with_name (own_name name es) ms) ms) (sym (named-cons e es))

    pub names_with_entry : (es : List HostEntry) → AreInOrder es → Names (own_name name es) es (with_entry name new l es)
    names_with_entry [] order = named-cons (entry name (joined new l)) [] ∙ ap (λ (b : Bool). at_front b name []) has_new ∙ first has [] refl
    names_with_entry (e ∷ es) order =
        names_here (name_cmp name e.name) e es refl (sorted_head name_cmp e.name (names_of es) order) (names_with_entry es (sorted_tail name_cmp e.name (names_of es) order))

-- a name that is added at the addresses of a lookup that is joined keeps an index
pub index_with_entry : (name own : DomainName) (new l : LookupContent) (es all : List HostEntry) (ps qs : List (List ℕ × DomainName))
    → ((a : IpAddr) → list_any (is_address_of a) new.message.answers ≡ false) → AreInOrder es → own ≡ own_name name es → IsIndexOf es ps
    → AddsName own (λ a. list_any (is_address_of a) l.message.answers) ps qs → all ≡ with_entry name new l es → IsIndexOf all qs
index_with_entry name own new l es all ps qs none order own_is index adds all_is = λ a.
    adds a ∙ (λ i. cond (list_any (is_address_of a) l.message.answers) (with_name (own_is i) (index a i)) (index a i))
    ∙ sym (names_with_entry a name new l (none a) es order) ∙ ap (named a) (sym all_is)

-- the pointers to the names of entries
pub pointers_of_names : (owner : DomainName) (es : List HostEntry) → map (pointer_to owner) (names_of es) ≡ map (pointer owner) es
pointers_of_names owner [] = refl
pointers_of_names owner (e ∷ es) = ap (λ rs. pointer owner e ∷ rs) (pointers_of_names owner es)

-- ---- the table by keys

module _ (key : List ℕ) (name : DomainName) (key_is : key ≡ labels_key name.labels) where
  same_at : (m : DomainName) (k : List ℕ) → k ≡ labels_key m.labels → is_eq (key_cmp key k) ≡ same_labels m.labels name.labels
  same_at m k is =
      (λ i. is_eq (key_cmp (key_is i) (is i))) ∙ same_key name.labels m.labels ∙ same_labels-equivalence.symm name.labels m.labels

  pub found_by_key : (ps : List (List ℕ × HostEntry)) → AreKeyed ps → lookup (is_at (key_cmp key)) ps ≡ find (λ e. same_labels e.name.labels name.labels) (values_of ps)
  found_by_key [] are = refl
  found_by_key (p ∷ ps) are =
      (λ i. cond (same_at p.1.name p.0 are.0 i) (Some p.1) (found_by_key ps are.2 i))

  module _ (nf : name.is_fqdn ≡ true) where
    in_order : (p : List ℕ × HostEntry) → p.0 ≡ labels_key p.1.name.labels → p.1.name.is_fqdn ≡ true → key_cmp key p.0 ≡ name_cmp name p.1.name
    in_order p is pf = (λ i. key_cmp (key_is i) (is i)) ∙ names_in_order name p.1.name nf pf

    abbrev KeysAfter : List ℕ → List (List ℕ × HostEntry) → Type 0
    KeysAfter k ps = AllByRecursion (λ m. key_cmp k m ≡ Less) (keys_of ps)

    none_after : (k : List ℕ) (ps : List (List ℕ × HostEntry)) → key_cmp key k ≡ Less → KeysAfter k ps → lookup (is_at (key_cmp key)) ps ≡ None
    none_after k [] less after = refl
    none_after k (p ∷ ps) less after = rw (key_cmp-total.trans key k p.0 less after.0) (none_after k ps less after.1)

    -- ---- the name of the entry

    own_if_here : (o : Ordering) (p : List ℕ × HostEntry) (ps : List (List ℕ × HostEntry)) (e : HostEntry) → key_cmp key p.0 ≡ o → KeysAfter p.0 ps
        → cond (is_eq o) (Some p.1) (lookup (is_at (key_cmp key)) ps) ≡ Some e → (lookup (is_at (key_cmp key)) ps ≡ Some e → own_name name (values_of ps) ≡ e.name)
        → match_ordering o name p.1.name (own_name name (values_of ps)) ≡ e.name
    own_if_here Less p ps e is after found more = absurd (cc (none_after p.0 ps is after, found))
    own_if_here Equal p ps e is after found more = ap (λ (o : Option HostEntry). elim o [ Some x ↦ x.name | None ↦ name ]) found
    own_if_here Greater p ps e is after found more = more found

    pub own_if_found : (ps : List (List ℕ × HostEntry)) (e : HostEntry) → AreKeyed ps → IsStrictlySortedBy key_cmp (keys_of ps) → lookup (is_at (key_cmp key)) ps ≡ Some e
        → own_name name (values_of ps) ≡ e.name
    own_if_found [] e are sorted found = absurd (cc)
    own_if_found (p ∷ ps) e are sorted found =
        ap (λ (o : Ordering). match_ordering o name p.1.name (own_name name (values_of ps))) (sym (in_order p are.0 are.1))
        ∙ own_if_here (key_cmp key p.0) p ps e refl (sorted_head key_cmp p.0 (keys_of ps) sorted) found
        (own_if_found ps e are.2 (sorted_tail key_cmp p.0 (keys_of ps) sorted))

    own_if_not_here : (o : Ordering) (p : List ℕ × HostEntry) (ps : List (List ℕ × HostEntry))
        → cond (is_eq o) (Some p.1) (lookup (is_at (key_cmp key)) ps) ≡ None → (lookup (is_at (key_cmp key)) ps ≡ None → own_name name (values_of ps) ≡ name)
        → match_ordering o name p.1.name (own_name name (values_of ps)) ≡ name
    own_if_not_here Less p ps absent more = refl
    own_if_not_here Equal p ps absent more = absurd (cc absent)
    own_if_not_here Greater p ps absent more = more absent

    pub own_if_absent : (ps : List (List ℕ × HostEntry)) → AreKeyed ps → lookup (is_at (key_cmp key)) ps ≡ None → own_name name (values_of ps) ≡ name
    own_if_absent [] are absent = refl
    own_if_absent (p ∷ ps) are absent =
        ap (λ (o : Ordering). match_ordering o name p.1.name (own_name name (values_of ps))) (sym (in_order p are.0 are.1))
        ∙ own_if_not_here (key_cmp key p.0) p ps absent (own_if_absent ps are.2)

    -- ---- joining

    module _ (new l : LookupContent) where
      abbrev choose : Ordering → HostEntry → List HostEntry → List HostEntry
      choose o e es = elim o [
        | Less ↦ entry name (joined new l) ∷ e ∷ es
        | Equal ↦ entry e.name (joined e.lookup l) ∷ es
        | Greater ↦ e ∷ with_entry name new l es
      ]

      inserted_here : (o : Ordering) (p : List ℕ × HostEntry) (ps : List (List ℕ × HostEntry)) (v : HostEntry) → v ≡ entry name (joined new l)
          → cond (is_eq o) (Some p.1) (lookup (is_at (key_cmp key)) ps) ≡ None
          → (lookup (is_at (key_cmp key)) ps ≡ None → values_of (insert_entry key_cmp ps key v) ≡ with_entry name new l (values_of ps))
          → values_of (match_ordering o ((key, v) ∷ p ∷ ps) ((p.0, v) ∷ ps) (p ∷ insert_entry key_cmp ps key v)) ≡ choose o p.1 (values_of ps)
      inserted_here Less p ps v is absent more = ap (λ x. x ∷ p.1 ∷ values_of ps) is
      inserted_here Equal p ps v is absent more = absurd (cc absent)
      inserted_here Greater p ps v is absent more = ap (λ es. p.1 ∷ es) (more absent)

      pub entry_inserted : (ps : List (List ℕ × HostEntry)) → AreKeyed ps → lookup (is_at (key_cmp key)) ps ≡ None
          → values_of (insert_entry key_cmp ps key (entry name (joined new l))) ≡ with_entry name new l (values_of ps)
      entry_inserted [] are absent = refl
      entry_inserted (p ∷ ps) are absent =
          inserted_here (key_cmp key p.0) p ps (entry name (joined new l)) refl absent (entry_inserted ps are.2)
          ∙ ap (λ (o : Ordering). choose o p.1 (values_of ps)) (in_order p are.0 are.1)

      abbrev joined_to : HostEntry → HostEntry
      joined_to e = entry e.name (joined e.lookup l)

      abbrev written : HostEntry → List (List ℕ × HostEntry) → List (List ℕ × HostEntry)
      written v ps = set_value (is_at (key_cmp key)) ps v

      joined_here : (o : Ordering) (p : List ℕ × HostEntry) (ps : List (List ℕ × HostEntry)) (e v : HostEntry) → key_cmp key p.0 ≡ o → KeysAfter p.0 ps → v ≡ joined_to e
          → cond (is_eq o) (Some p.1) (lookup (is_at (key_cmp key)) ps) ≡ Some e
          → (lookup (is_at (key_cmp key)) ps ≡ Some e → values_of (written v ps) ≡ with_entry name new l (values_of ps))
          → values_of (cond (is_eq o) ((p.0, v) ∷ ps) (p ∷ written v ps)) ≡ choose o p.1 (values_of ps)
      joined_here Less p ps e v is after v_is found more = absurd (cc (none_after p.0 ps is after, found))
      joined_here Equal p ps e v is after v_is found more =
          ap (λ x. x ∷ values_of ps) (v_is ∙ ap (λ (o : Option HostEntry). elim o [ Some x ↦ joined_to x | None ↦ joined_to e ]) (sym found))
      joined_here Greater p ps e v is after v_is found more = ap (λ es. p.1 ∷ es) (more found)

      pub entry_joined : (ps : List (List ℕ × HostEntry)) (e v : HostEntry) → AreKeyed ps → IsStrictlySortedBy key_cmp (keys_of ps) → v ≡ joined_to e
          → lookup (is_at (key_cmp key)) ps ≡ Some e → values_of (written v ps) ≡ with_entry name new l (values_of ps)
      entry_joined [] e v are sorted v_is found = absurd (cc)
      entry_joined (p ∷ ps) e v are sorted v_is found =
          joined_here (key_cmp key p.0) p ps e v refl (sorted_head key_cmp p.0 (keys_of ps) sorted) v_is found
          (entry_joined ps e v are.2 (sorted_tail key_cmp p.0 (keys_of ps) sorted) v_is)
          ∙ ap (λ (o : Ordering). choose o p.1 (values_of ps)) (in_order p are.0 are.1)

    pub keyed_inserted : (v : HostEntry) (ps : List (List ℕ × HostEntry)) → v.name ≡ name → AreKeyed ps → lookup (is_at (key_cmp key)) ps ≡ None → AreKeyed (insert_entry key_cmp ps key v)
    keyed_inserted v [] v_is are absent = (key_is ∙ ap (λ (n : DomainName). labels_key n.labels) (sym v_is), ap (λ (n : DomainName). n.is_fqdn) v_is ∙ nf, tt)
    keyed_inserted v (p ∷ ps) v_is are absent = here (key_cmp key p.0) absent (keyed_inserted v ps v_is are.2)
      where
        here : (o : Ordering) → cond (is_eq o) (Some p.1) (lookup (is_at (key_cmp key)) ps) ≡ None → (lookup (is_at (key_cmp key)) ps ≡ None → AreKeyed (insert_entry key_cmp ps key v))
            → AreKeyed (match_ordering o ((key, v) ∷ p ∷ ps) ((p.0, v) ∷ ps) (p ∷ insert_entry key_cmp ps key v))
        here Less none more = (key_is ∙ ap (λ (n : DomainName). labels_key n.labels) (sym v_is), ap (λ (n : DomainName). n.is_fqdn) v_is ∙ nf, are)
        here Equal none more = absurd (cc none)
        here Greater none more = (are.0, are.1, more none)

    -- whether or not an entry was inserted, each has its key, and the keys ascend
    pub sound : {E : Type 0} (result : Result (Unit {0}) E) (v : HostEntry) (ps qs : List (List ℕ × HostEntry)) → v.name ≡ name → AreKeyed ps → IsStrictlySortedBy key_cmp (keys_of ps)
        → lookup (is_at (key_cmp key)) ps ≡ None → OnOk result (qs ≡ insert_entry key_cmp ps key v) → OnErr result (qs ≡ ps) → OnOk result (IsStrictlySortedBy key_cmp (keys_of qs))
        → AreKeyed qs × IsStrictlySortedBy key_cmp (keys_of qs)
    sound (Ok u) v ps qs v_is are sorted absent ok err order = (subst AreKeyed (sym ok) (keyed_inserted v ps v_is are absent), order)
    sound (Err e) v ps qs v_is are sorted absent ok err order =
        (subst AreKeyed (sym err) are, subst (λ (rs : List (List ℕ × HostEntry)). IsStrictlySortedBy key_cmp (keys_of rs)) (sym err) sorted)

-- ---- an entry that was found

pub fqdn_if_found : (test : List ℕ → Bool) (ps : List (List ℕ × HostEntry)) (e : HostEntry) → AreKeyed ps → lookup test ps ≡ Some e → e.name.is_fqdn ≡ true
fqdn_if_found test [] e are found = absurd (cc)
fqdn_if_found test (p ∷ ps) e are found = here (test p.0) found (fqdn_if_found test ps e are.2)
  where
    here : (t : Bool) → cond t (Some p.1) (lookup test ps) ≡ Some e → (lookup test ps ≡ Some e → e.name.is_fqdn ≡ true) → e.name.is_fqdn ≡ true
    here true is more = ap (λ (o : Option HostEntry). elim o [ Some x ↦ x.name.is_fqdn | None ↦ true ]) (sym is) ∙ are.1
    here false is more = more is

-- ---- an entry that is written again

module _ (test : List ℕ → Bool) (e : HostEntry) where
  pub keyed_written : (v : HostEntry) (ps : List (List ℕ × HostEntry)) → v.name ≡ e.name → AreKeyed ps → lookup test ps ≡ Some e → AreKeyed (set_value test ps v)
  keyed_written v [] v_is are found = tt
  keyed_written v (p ∷ ps) v_is are found = here (test p.0) found (keyed_written v ps v_is are.2)
    where
      here : (t : Bool) → cond t (Some p.1) (lookup test ps) ≡ Some e → (lookup test ps ≡ Some e → AreKeyed (set_value test ps v)) → AreKeyed (cond t ((p.0, v) ∷ ps) (p ∷ set_value test ps v))
      here true is more =
          let name_is : p.1.name ≡ v.name = ap (λ (o : Option HostEntry). elim o [ Some x ↦ x.name | None ↦ e.name ]) is ∙ sym v_is in
          (are.0 ∙ ap (λ (n : DomainName). labels_key n.labels) name_is, ap (λ (n : DomainName). n.is_fqdn) (sym name_is) ∙ are.1, are.2)
      here false is more = (are.0, are.1, more is)

  pub written_same : (ps : List (List ℕ × HostEntry)) → lookup test ps ≡ Some e → set_value test ps e ≡ ps
  written_same [] found = refl
  written_same (p ∷ ps) found = here (test p.0) found (written_same ps)
    where
      here : (t : Bool) → cond t (Some p.1) (lookup test ps) ≡ Some e → (lookup test ps ≡ Some e → set_value test ps e ≡ ps) → cond t ((p.0, e) ∷ ps) (p ∷ set_value test ps e) ≡ p ∷ ps
      here true is more = ap (λ (o : Option HostEntry). elim o [ Some x ↦ (p.0, x) ∷ ps | None ↦ ps ]) (sym is)
      here false is more = ap (λ qs. p ∷ qs) (more is)

-- ---- the order of the entries

later_names : (p : List ℕ × HostEntry) (ps : List (List ℕ × HostEntry)) → p.0 ≡ labels_key p.1.name.labels → p.1.name.is_fqdn ≡ true → AreKeyed ps
    → AllByRecursion (λ k. key_cmp p.0 k ≡ Less) (keys_of ps) → AllAfter p.1.name (values_of ps)
later_names p [] is pf are after = tt
later_names p (q ∷ ps) is pf are after = (sym (in_order p.0 p.1.name is pf q are.0 are.1) ∙ after.0, later_names p ps is pf are.2 after.1)

pub entries_in_order : (ps : List (List ℕ × HostEntry)) → AreKeyed ps → IsStrictlySortedBy key_cmp (keys_of ps) → AreInOrder (values_of ps)
unfolding IsStrictlySortedBy
entries_in_order [] are sorted = tt
entries_in_order (p ∷ ps) are sorted = (later_names p ps are.0 are.1 are.2 sorted.0, entries_in_order ps are.2 sorted.1)
