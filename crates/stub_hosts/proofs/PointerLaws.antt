-- Names by address: what another pointer adds, and what removing it restores.
use Rattle.std.proofs.Common.{◌≡◌, ℕ, suc, ◌+◌, ◌<◌, length, get_or, drop, drop-cons, add-one, Bool, true, false, List, [], ◌∷◌, ◌++◌, Option, Some, None, Result, Ok, Err, refl, ap, sym, subst, ◌∙◌}
use Rattle.std.specs.Prelude.{cond, ◌||◌, is_some, OnOk, OnErr}
use Rattle.std.specs.BTreeMap.{insert_entry, is_at}
use Rattle.std.specs.Cmp.{tied_itself}
use Rattle.std.specs.Cmp.Lexicographic.{nat_list_eq_equiv}
use Rattle.std.specs.List.{filter, AllByRecursion, list_any}
use Rattle.std.specs.List.Sorted.{IsStrictlySortedBy}
use Rattle.std.specs.Map.{keys_of, values_of, lookup, remove_entry}
use Rattle.std.specs.Net.Addr.{ipv4_octets, ipv6_segments}
use Rattle.std.specs.Ordering.{match_ordering, is_eq}
use Rattle.std.specs.declared.cmp.Ordering.{Ordering}
use Rattle.std.specs.declared.cmp.Ordering.TheVariants.{Less, Equal, Greater}
use Rattle.std.specs.declared.net.ip_addr.IpAddr.{IpAddr}
use Rattle.std.specs.declared.net.ip_addr.IpAddr.TheVariants.{V4, V6}
use Rattle.std.proofs.lemmas.Map.Keys.{sorted_head, sorted_tail}
use Rattle.dns_data.specs.rdata.{data_addr}
use Rattle.dns_names.specs.Name.{DomainName}
use Rattle.dns_names.specs.Compare.{name_cmp}
use Rattle.dns_names.specs.internal.Compare.{name_cmp-total, bytes_equal}
use Rattle.dns_records.specs.Record.{Record}
use Rattle.stub_hosts.specs.Hosts.{same_address, is_address_of}
use Rattle.stub_hosts.specs.internal.HostKeys.{key_cmp, key_cmp-total, pointer_key}
use Rattle.stub_hosts.specs.internal.Hosts.{ArePointers, names_at, with_name, AddsName, without_keys}
use Rattle.stub_hosts.proofs.HostKeyLaws.{is_at_address, at_address, pointers_in_order, names_in_order}

-- the pointers with one that has a key, unless there is one
abbrev pub with_pointer : List ℕ → DomainName → List (List ℕ × DomainName) → List (List ℕ × DomainName)
with_pointer key name [] = (key, name) ∷ []
with_pointer key name (p ∷ ps) = match_ordering (key_cmp key p.0) ((key, name) ∷ p ∷ ps) (p ∷ ps) (p ∷ with_pointer key name ps)

abbrev at_front : Bool → List ℕ × DomainName → List (List ℕ × DomainName) → List DomainName
at_front t p ps = values_of (cond t (p ∷ ps) ps)

same_both : (a b c : IpAddr) → same_address b a ≡ true → same_address c a ≡ true → same_address b c ≡ true
same_both (V4 x) (V4 y) (V4 z) e f = nat_list_eq_equiv.congr (ipv4_octets y) (ipv4_octets x) (ipv4_octets z) e ∙ nat_list_eq_equiv.symm (ipv4_octets x) (ipv4_octets z) ∙ f
same_both (V4 x) (V4 y) (V6 z) e f = f
same_both (V4 x) (V6 y) c e f = absurd (cc)
same_both (V6 x) (V4 y) c e f = absurd (cc)
same_both (V6 x) (V6 y) (V4 z) e f = f
same_both (V6 x) (V6 y) (V6 z) e f = nat_list_eq_equiv.congr (ipv6_segments y) (ipv6_segments x) (ipv6_segments z) e ∙ nat_list_eq_equiv.symm (ipv6_segments x) (ipv6_segments z) ∙ f

abbrev IsPointer : List ℕ × DomainName → Type 0
IsPointer p = (address : IpAddr) × (p.0 ≡ pointer_key address p.1.labels)

abbrev AllAfter : List ℕ → List (List ℕ × DomainName) → Type 0
AllAfter key ps = AllByRecursion (λ k. key_cmp key k ≡ Less) (keys_of ps)

all_after : (key : List ℕ) (p : List ℕ × DomainName) (ps : List (List ℕ × DomainName)) → key_cmp key p.0 ≡ Less → AllAfter p.0 ps → AllAfter key ps
all_after key p [] less after = tt
all_after key p (q ∷ ps) less after = (key_cmp-total.trans key p.0 q.0 less after.0, all_after key p ps less after.1)

module _ (a b : IpAddr) (n : DomainName) (nf : n.is_fqdn ≡ true) where
  abbrev key : List ℕ
  key = pointer_key b n.labels

  key_at : is_at_address a key ≡ same_address b a
  key_at = at_address a b n.labels

  in_order : (p : List ℕ × DomainName) → IsPointer p → p.1.is_fqdn ≡ true → is_at_address a p.0 ≡ true → same_address b a ≡ true → key_cmp key p.0 ≡ name_cmp n p.1
  in_order p is pf at same =
      let here : same_address is.0 a ≡ true = sym (at_address a is.0 p.1.labels) ∙ ap (is_at_address a) (sym is.1) ∙ at in
      ap (key_cmp key) is.1 ∙ pointers_in_order b is.0 n.labels p.1.labels (same_both a b is.0 same here) ∙ names_in_order n p.1 nf pf

  front_here : (p : List ℕ × DomainName) (ps : List (List ℕ × DomainName)) (t : Bool) → (t ≡ true → name_cmp n p.1 ≡ Less) → with_name n (values_of ps) ≡ n ∷ values_of ps
      → with_name n (at_front t p ps) ≡ n ∷ at_front t p ps
  front_here p ps true less rest = ap (λ (o : Ordering). match_ordering o (n ∷ p.1 ∷ values_of ps) (p.1 ∷ values_of ps) (p.1 ∷ with_name n (values_of ps))) (less refl)
  front_here p ps false less rest = rest

  front : (ps : List (List ℕ × DomainName)) → ArePointers ps → AllAfter key ps → same_address b a ≡ true → with_name n (names_at a ps) ≡ n ∷ names_at a ps
  front [] are after same = refl
  front (p ∷ ps) are after same =
      front_here p (filter (λ q. is_at_address a q.0) ps) (is_at_address a p.0) (λ at. sym (in_order p are.0 are.1 at same) ∙ after.0) (front ps are.2 after.1 same)

  abbrev Adds : List (List ℕ × DomainName) → List (List ℕ × DomainName) → Type 0
  Adds old new = names_at a new ≡ cond (same_address b a) (with_name n (names_at a old)) (names_at a old)

  adds_first : (s : Bool) (ps : List (List ℕ × DomainName)) → (s ≡ true → with_name n (values_of ps) ≡ n ∷ values_of ps) → at_front s (key, n) ps ≡ cond s (with_name n (values_of ps)) (values_of ps)
  adds_first true ps first = sym (first refl)
  adds_first false ps first = refl

  adds_none : (s t : Bool) (p : List ℕ × DomainName) (ps : List (List ℕ × DomainName)) → (s ≡ true → t ≡ true) → (s ≡ true → name_cmp n p.1 ≡ Equal)
      → at_front t p ps ≡ cond s (with_name n (at_front t p ps)) (at_front t p ps)
  adds_none false t p ps at equal = refl
  adds_none true true p ps at equal = sym (ap (λ (o : Ordering). match_ordering o (n ∷ p.1 ∷ values_of ps) (p.1 ∷ values_of ps) (p.1 ∷ with_name n (values_of ps))) (equal refl))
  adds_none true false p ps at equal = absurd (cc (at refl))

  adds_later : (s t : Bool) (p : List ℕ × DomainName) (ps qs : List (List ℕ × DomainName)) → (t ≡ true → s ≡ true → name_cmp n p.1 ≡ Greater)
      → values_of qs ≡ cond s (with_name n (values_of ps)) (values_of ps) → at_front t p qs ≡ cond s (with_name n (at_front t p ps)) (at_front t p ps)
  adds_later s false p ps qs greater later = later
  adds_later true true p ps qs greater later =
      ap (λ ns. p.1 ∷ ns) later
      ∙ sym (ap (λ (o : Ordering). match_ordering o (n ∷ p.1 ∷ values_of ps) (p.1 ∷ values_of ps) (p.1 ∷ with_name n (values_of ps))) (greater refl refl))
  adds_later false true p ps qs greater later = ap (λ ns. p.1 ∷ ns) later

  adds_here : (o : Ordering) (p : List ℕ × DomainName) (ps : List (List ℕ × DomainName)) → key_cmp key p.0 ≡ o → ArePointers (p ∷ ps) → AllAfter p.0 ps → Adds ps (with_pointer key n ps)
      → Adds (p ∷ ps) (match_ordering o ((key, n) ∷ p ∷ ps) (p ∷ ps) (p ∷ with_pointer key n ps))
  adds_here Less p ps is are after later =
      ap (λ (t : Bool). at_front t (key, n) (filter (λ q. is_at_address a q.0) (p ∷ ps))) key_at
      ∙ adds_first (same_address b a) (filter (λ q. is_at_address a q.0) (p ∷ ps)) (front (p ∷ ps) are (is, all_after key p ps is after))
  adds_here Equal p ps is are after later =
      let at : same_address b a ≡ true → is_at_address a p.0 ≡ true = λ s. ap (is_at_address a) (sym (bytes_equal key p.0 is)) ∙ key_at ∙ s in
      adds_none (same_address b a) (is_at_address a p.0) p (filter (λ q. is_at_address a q.0) ps) at
      (λ s. sym (in_order p are.0 are.1 (at s) s) ∙ is)
  adds_here Greater p ps is are after later =
      adds_later (same_address b a) (is_at_address a p.0) p (filter (λ q. is_at_address a q.0) ps) (filter (λ q. is_at_address a q.0) (with_pointer key n ps))
      (λ t s. sym (in_order p are.0 are.1 t s) ∙ is) later

  adds : (ps : List (List ℕ × DomainName)) → ArePointers ps → IsStrictlySortedBy key_cmp (keys_of ps) → Adds ps (with_pointer key n ps)
  adds [] are sorted =
      ap (λ (t : Bool). at_front t (key, n) []) key_at ∙ adds_first (same_address b a) [] (λ s. refl)
  adds (p ∷ ps) are sorted =
      adds_here (key_cmp key p.0) p ps refl are (sorted_head key_cmp p.0 (keys_of ps) sorted) (adds ps are.2 (sorted_tail key_cmp p.0 (keys_of ps) sorted))

-- ---- an inserted pointer

module _ (key : List ℕ) (n : DomainName) where
  inserted_here : (o : Ordering) (p : List ℕ × DomainName) (ps : List (List ℕ × DomainName)) → cond (is_eq o) (Some p.1) (lookup (is_at (key_cmp key)) ps) ≡ None
      → (lookup (is_at (key_cmp key)) ps ≡ None → insert_entry key_cmp ps key n ≡ with_pointer key n ps)
      → match_ordering o ((key, n) ∷ p ∷ ps) ((p.0, n) ∷ ps) (p ∷ insert_entry key_cmp ps key n) ≡ match_ordering o ((key, n) ∷ p ∷ ps) (p ∷ ps) (p ∷ with_pointer key n ps)
  inserted_here Less p ps absent later = refl
  inserted_here Equal p ps absent later = absurd (cc absent)
  inserted_here Greater p ps absent later = ap (λ qs. p ∷ qs) (later absent)

  inserted : (ps : List (List ℕ × DomainName)) → lookup (is_at (key_cmp key)) ps ≡ None → insert_entry key_cmp ps key n ≡ with_pointer key n ps
  inserted [] absent = refl
  inserted (p ∷ ps) absent = inserted_here (key_cmp key p.0) p ps absent (inserted ps)

  none_after : (ps : List (List ℕ × DomainName)) → AllAfter key ps → lookup (is_at (key_cmp key)) ps ≡ None
  none_after [] after = refl
  none_after (p ∷ ps) after = rw after.0 (none_after ps after.1)

  present_here : (o : Ordering) (p : List ℕ × DomainName) (ps : List (List ℕ × DomainName)) (m : DomainName) → key_cmp key p.0 ≡ o → AllAfter p.0 ps
      → cond (is_eq o) (Some p.1) (lookup (is_at (key_cmp key)) ps) ≡ Some m
      → (lookup (is_at (key_cmp key)) ps ≡ Some m → ps ≡ with_pointer key n ps)
      → p ∷ ps ≡ match_ordering o ((key, n) ∷ p ∷ ps) (p ∷ ps) (p ∷ with_pointer key n ps)
  present_here Less p ps m is after found later = absurd (cc (none_after ps (all_after key p ps is after), found))
  present_here Equal p ps m is after found later = refl
  present_here Greater p ps m is after found later = ap (λ qs. p ∷ qs) (later found)

  present : (ps : List (List ℕ × DomainName)) (m : DomainName) → IsStrictlySortedBy key_cmp (keys_of ps) → lookup (is_at (key_cmp key)) ps ≡ Some m → ps ≡ with_pointer key n ps
  present [] m sorted found = absurd (cc)
  present (p ∷ ps) m sorted found =
      present_here (key_cmp key p.0) p ps m refl (sorted_head key_cmp p.0 (keys_of ps) sorted) found (present ps m (sorted_tail key_cmp p.0 (keys_of ps) sorted))

-- a pointer that is inserted adds a name at its address
pub adds_inserted : (b : IpAddr) (n : DomainName) (ps : List (List ℕ × DomainName)) → n.is_fqdn ≡ true → ArePointers ps → IsStrictlySortedBy key_cmp (keys_of ps)
    → lookup (is_at (key_cmp (pointer_key b n.labels))) ps ≡ None → AddsName n (λ a. same_address b a) ps (insert_entry key_cmp ps (pointer_key b n.labels) n)
adds_inserted b n ps nf are sorted absent = λ a. ap (names_at a) (inserted (pointer_key b n.labels) n ps absent) ∙ adds a b n nf ps are sorted

-- where there is the pointer, the name is at its address
pub adds_present : (b : IpAddr) (n m : DomainName) (ps : List (List ℕ × DomainName)) → n.is_fqdn ≡ true → ArePointers ps → IsStrictlySortedBy key_cmp (keys_of ps)
    → lookup (is_at (key_cmp (pointer_key b n.labels))) ps ≡ Some m → AddsName n (λ a. same_address b a) ps ps
adds_present b n m ps nf are sorted found = λ a. ap (names_at a) (present (pointer_key b n.labels) n ps m sorted found) ∙ adds a b n nf ps are sorted

pub pointers_inserted : (b : IpAddr) (n : DomainName) (ps : List (List ℕ × DomainName)) → n.is_fqdn ≡ true → ArePointers ps
    → lookup (is_at (key_cmp (pointer_key b n.labels))) ps ≡ None → ArePointers (insert_entry key_cmp ps (pointer_key b n.labels) n)
pointers_inserted b n ps nf are absent = subst ArePointers (sym (inserted (pointer_key b n.labels) n ps absent)) (by ps are)
  where
    here : (o : Ordering) (p : List ℕ × DomainName) (qs : List (List ℕ × DomainName)) → ArePointers (p ∷ qs) → ArePointers (with_pointer (pointer_key b n.labels) n qs)
        → ArePointers (match_ordering o ((pointer_key b n.labels, n) ∷ p ∷ qs) (p ∷ qs) (p ∷ with_pointer (pointer_key b n.labels) n qs))
    here Less p qs all later = ((b, refl), nf, all)
    here Equal p qs all later = all
    here Greater p qs all later = (all.0, all.1, later)

    by : (qs : List (List ℕ × DomainName)) → ArePointers qs → ArePointers (with_pointer (pointer_key b n.labels) n qs)
    by [] all = ((b, refl), nf, tt)
    by (q ∷ qs) all = here (key_cmp (pointer_key b n.labels) q.0) q qs all (by qs all.2)

-- ---- a removed pointer

pub pointers_removed : (test : List ℕ → Bool) (ps : List (List ℕ × DomainName)) → ArePointers ps → ArePointers (remove_entry test ps)
pointers_removed test [] are = tt
pointers_removed test (p ∷ ps) are = here (test p.0) (pointers_removed test ps are.2)
  where
    here : (t : Bool) → ArePointers (remove_entry test ps) → ArePointers (cond t ps (p ∷ remove_entry test ps))
    here true later = are.2
    here false later = (are.0, are.1, later)

-- removing a new pointer restores the others
pub removed_inserted : (key : List ℕ) (n : DomainName) (ps : List (List ℕ × DomainName)) → lookup (is_at (key_cmp key)) ps ≡ None → remove_entry (is_at (key_cmp key)) (insert_entry key_cmp ps key n) ≡ ps
removed_inserted key n [] absent = rw (tied_itself key_cmp-total key) refl
removed_inserted key n (p ∷ ps) absent = here (key_cmp key p.0) refl absent (removed_inserted key n ps)
  where
    here : (o : Ordering) → key_cmp key p.0 ≡ o → cond (is_eq o) (Some p.1) (lookup (is_at (key_cmp key)) ps) ≡ None
        → (lookup (is_at (key_cmp key)) ps ≡ None → remove_entry (is_at (key_cmp key)) (insert_entry key_cmp ps key n) ≡ ps)
        → remove_entry (is_at (key_cmp key)) (match_ordering o ((key, n) ∷ p ∷ ps) ((p.0, n) ∷ ps) (p ∷ insert_entry key_cmp ps key n)) ≡ p ∷ ps
    here Less is none later = rw (tied_itself key_cmp-total key) refl
    here Equal is none later = absurd (cc none)
    here Greater is none later = rw is (ap (λ qs. p ∷ qs) (later none))

pub without_last : (keys : List (List ℕ)) (key : List ℕ) (ps : List (List ℕ × DomainName)) → without_keys (keys ++ key ∷ []) ps ≡ without_keys keys (remove_entry (is_at (key_cmp key)) ps)
without_last [] last ps = refl
without_last (k ∷ keys) last ps = ap (remove_entry (is_at (key_cmp k))) (without_last keys last ps)

-- ---- several addresses

module _ (n : DomainName) where
  again_here : (o : Ordering) (m : DomainName) (ms : List DomainName) → name_cmp n m ≡ o → with_name n (with_name n ms) ≡ with_name n ms
      → with_name n (match_ordering o (n ∷ m ∷ ms) (m ∷ ms) (m ∷ with_name n ms)) ≡ match_ordering o (n ∷ m ∷ ms) (m ∷ ms) (m ∷ with_name n ms)
  again_here Less m ms is later = rw (tied_itself name_cmp-total n) refl
  again_here Equal m ms is later = rw is refl
  again_here Greater m ms is later = rw is (ap (λ ns. m ∷ ns) later)

  with_name_again : (ms : List DomainName) → with_name n (with_name n ms) ≡ with_name n ms
  with_name_again [] = rw (tied_itself name_cmp-total n) refl
  with_name_again (m ∷ ms) = again_here (name_cmp n m) m ms refl (with_name_again ms)

  both_add : (s t : Bool) (ms : List DomainName) → cond t (with_name n (cond s (with_name n ms) ms)) (cond s (with_name n ms) ms) ≡ cond (s || t) (with_name n ms) ms
  both_add true true ms = with_name_again ms
  both_add true false ms = refl
  both_add false t ms = refl

  pub adds_then : (p q : IpAddr → Bool) (old mid new : List (List ℕ × DomainName)) → AddsName n p old mid → AddsName n q mid new → AddsName n (λ a. p a || q a) old new
  adds_then p q old mid new first second = λ a.
      second a ∙ ap (λ ms. cond (q a) (with_name n ms) ms) (first a) ∙ both_add (p a) (q a) (names_at a old)

  pub adds_of_address : (b : IpAddr) (r : Record) (old new : List (List ℕ × DomainName)) → data_addr r.rdata ≡ Some b → AddsName n (same_address b) old new → AddsName n (λ a. is_address_of a r) old new
  adds_of_address b r old new is first = λ a. rw is (first a)

  pub adds_of_other : (r : Record) (old : List (List ℕ × DomainName)) → data_addr r.rdata ≡ None → AddsName n (λ a. is_address_of a r) old old
  adds_of_other r old is = λ a. rw is refl

  -- a name is added at the addresses of some records
  abbrev AddsOf : List Record → List (List ℕ × DomainName) → List (List ℕ × DomainName) → Type 0
  AddsOf rs old new = AddsName n (λ a. list_any (is_address_of a) rs) old new

  pub adds_next : (rs : List Record) (i : ℕ) (r : Record) → i < length rs → r ≡ get_or rs i r → (start old mid : List (List ℕ × DomainName))
      → ((new : List (List ℕ × DomainName)) → AddsOf (drop i rs) old new → AddsOf rs start new) → AddsName n (λ a. is_address_of a r) old mid
      → (new : List (List ℕ × DomainName)) → AddsOf (drop (i + 1) rs) mid new → AddsOf rs start new
  adds_next rs i r within is start old mid before first new second =
      let left : drop i rs ≡ r ∷ drop (i + 1) rs = rw add-one (drop-cons rs i r within ∙ ap (λ x. x ∷ drop (suc i) rs) (sym is)) in
      before new (subst (λ (xs : List Record). AddsOf xs old new) (sym left)
      (adds_then (λ a. is_address_of a r) (λ a. list_any (is_address_of a) (drop (i + 1) rs)) old mid new first second))

some_is : (o : Option DomainName) → is_some o ≡ true → (m : DomainName) × (o ≡ Some m)
some_is (Some m) e = (m, refl)
some_is None e = absurd (cc)

pub absent_is : (o : Option DomainName) → is_some o ≡ false → o ≡ None
absent_is (Some m) e = absurd (cc)
absent_is None e = refl

module _ (b : IpAddr) (n : DomainName) (key : List ℕ) (ps old : List (List ℕ × DomainName)) (nf : n.is_fqdn ≡ true) (are : ArePointers ps)
    (sorted : IsStrictlySortedBy key_cmp (keys_of ps)) (key_is : key ≡ pointer_key b n.labels) (old_is : ps ≡ old) where
  pub adds_known : is_some (lookup (is_at (key_cmp key)) ps) ≡ true → AddsName n (λ a. same_address b a) old old
  adds_known has =
      let found = some_is (lookup (is_at (key_cmp key)) ps) has in
      subst (λ (qs : List (List ℕ × DomainName)). AddsName n (λ a. same_address b a) qs qs) old_is
      (adds_present b n found.0 ps nf are sorted (ap (λ (k : List ℕ). lookup (is_at (key_cmp k)) ps) (sym key_is) ∙ found.1))

  module _ (absent : lookup (is_at (key_cmp key)) ps ≡ None) where
    no_pointer : lookup (is_at (key_cmp (pointer_key b n.labels))) ps ≡ None
    no_pointer = ap (λ (k : List ℕ). lookup (is_at (key_cmp k)) ps) (sym key_is) ∙ absent

    pub adds_new : (new : List (List ℕ × DomainName)) → new ≡ insert_entry key_cmp ps key n → AddsName n (λ a. same_address b a) old new
    adds_new new is =
        let new_is : insert_entry key_cmp ps (pointer_key b n.labels) n ≡ new = ap (λ (k : List ℕ). insert_entry key_cmp ps k n) (sym key_is) ∙ sym is in
        subst (λ (qs : List (List ℕ × DomainName)). AddsName n (λ a. same_address b a) qs new) old_is
        (subst (AddsName n (λ a. same_address b a) ps) new_is (adds_inserted b n ps nf are sorted no_pointer))

    pub pointers_new : (new : List (List ℕ × DomainName)) → new ≡ insert_entry key_cmp ps key n → ArePointers new
    pointers_new new is =
        subst ArePointers (ap (λ (k : List ℕ). insert_entry key_cmp ps k n) (sym key_is) ∙ sym is) (pointers_inserted b n ps nf are no_pointer)

    -- whether or not a pointer was inserted, removing what was added restores the pointers
    pub restored : {E : Type 0} (result : Result (Unit {0}) E) (added more : List (List ℕ)) (new : List (List ℕ × DomainName))
        → OnOk result ((new ≡ insert_entry key_cmp ps key n) × (more ≡ added ++ key ∷ [])) → OnErr result ((new ≡ ps) × (more ≡ added))
        → without_keys more new ≡ without_keys added old
    restored (Ok u) added more new ok err =
        (λ i. without_keys (ok.1 i) (ok.0 i)) ∙ without_last added key (insert_entry key_cmp ps key n)
        ∙ ap (without_keys added) (removed_inserted key n ps absent ∙ old_is)
    restored (Err e) added more new ok err = (λ i. without_keys (err.1 i) (err.0 i)) ∙ ap (without_keys added) old_is

    pub sound : {E : Type 0} (result : Result (Unit {0}) E) (added more : List (List ℕ)) (new : List (List ℕ × DomainName))
        → OnOk result ((new ≡ insert_entry key_cmp ps key n) × (more ≡ added ++ key ∷ [])) → OnErr result ((new ≡ ps) × (more ≡ added))
        → OnOk result (IsStrictlySortedBy key_cmp (keys_of new)) → ArePointers new × IsStrictlySortedBy key_cmp (keys_of new)
    sound (Ok u) added more new ok err order = (pointers_new new ok.0, order)
    sound (Err e) added more new ok err order =
        (subst ArePointers (sym err.0) are, subst (λ (qs : List (List ℕ × DomainName)). IsStrictlySortedBy key_cmp (keys_of qs)) (sym err.0) sorted)
