-- The types of the sets of an owner: taking them, adding to them, and putting them back.
use Rattle.std.proofs.Common.{◌≡◌, ◌==◌, ℕ, Bool, true, false, cond, not, ◌&&◌, ◌||◌, List, [], ◌∷◌, ◌++◌, refl, sym, ap, ◌∙◌, Option, Some, None, is_some, unwrap_or}
use Rattle.std.proofs.lemmas.List.Folds.{list_any-append}
use Rattle.std.proofs.lemmas.Map.Lookups.{exact_bytes}
use Rattle.std.specs.Prelude.{IfSome, IfNone, OnOk, Result, Ok, Err}
use Rattle.std.specs.List.{filter, list_any}
use Rattle.std.specs.Cmp.{Equal-is, eq_by_cmp_equiv}
use Rattle.std.specs.Cmp.Lexicographic.{slice_cmp, nat_list_cmp_total}
use Rattle.std.specs.Ordering.{eq_by_cmp, nat_cmp}
use Rattle.std.specs.FinMap as rows_map
use Rattle.dns_wire.specs.codes.RecordType.{type_number}
use Rattle.dns_wire.specs.declared.codes.record_type.RecordType.{RecordType}
use Rattle.dns_names.specs.Name.{DomainName}
use Rattle.dns_names.specs.Compare.{lower, same_labels}
use Rattle.dns_names.specs.internal.Compare.{same-lower, same_labels-equivalence}
use Rattle.dns_records.specs.declared.row.Row.{Row}
use Rattle.dns_records.specs.Record.{Record}
use Rattle.dns_records.specs.Rows.{Key, Rows, key, key_cmp, key_of, set_of, with_set}
use Rattle.dns_updates.specs.Change.{is_kept_set, keeps_rows, without_data, without_name, without_row, without_set}
use Rattle.dns_updates.specs.Changes.{is_other_set}
use Rattle.dns_updates.specs.Keys.{owner_code}
use Rattle.dns_updates.specs.Records.{has_set, has_rows_but}
use Rattle.dns_updates.specs.Sets.{AreTypesAt, is_key_among}
use Rattle.dns_updates.specs.internal.Indexes.{AreListed, is_code, is_in_listing, listing_at, passes}
use Rattle.dns_updates.specs.declared.changes.owner_types.Listing.{Listing}
use Rattle.dns_updates.specs.declared.changes.owner_types.OwnerTypes.{OwnerTypes}
use Rattle.dns_updates.proofs.ChangeLaws.{others_found}
use Rattle.dns_updates.proofs.OwnerCodeLaws.{owner_apart, owner_of_lower}
use Rattle.dns_updates.proofs.SetLaws.{same_lower}
use Rattle.dns_updates.proofs.UpdateLaws.Codes.{number_same}
use Rattle.dns_updates.proofs.UpdateLaws.Maps.{key_total, key_antisymmetric, same_key, get_other, get_with_set, filled, filled_empty, tied_itself}
use Rattle.dns_updates.proofs.UpdateLaws.Sets.{lower_twice}

true_false : true ≡ false → ⊥
true_false e = cc

-- ---- owners by their bytes

code_same : (a b : List ℕ) → is_code a b ≡ true → a ≡ b
code_same a b e = exact_bytes a b ((Equal-is (slice_cmp nat_cmp a b)).0 e)

code_of_same : (a b : List (List ℕ)) → same_labels a b ≡ true → owner_code b ≡ owner_code a
code_of_same a b e = sym (owner_of_lower a b (same-lower a b e))

same_of_code : (a b : List (List ℕ)) → owner_code a ≡ owner_code b → same_labels a b ≡ true
same_of_code a b e =
    sym (same_lower a b) ∙ ap (same_labels a) (sym (owner_apart a b e)) ∙ same_lower a a ∙ same_labels-equivalence.refl a

-- the types of a key's owner are those of its name
among_same : (owner : List (List ℕ)) (ts : List RecordType) (k : Key) → same_labels owner k.0 ≡ true → is_key_among k.0 ts k ≡ is_key_among owner ts k
among_same owner ts k here = ap (λ (l : List (List ℕ)). list_any (λ t. eq_by_cmp key_cmp k (l, type_number t)) ts) (sym (same-lower owner k.0 here))

-- ---- taking a listing

pub types_taken : (zone : Rows) (old : OwnerTypes) (owner : List (List ℕ)) (found : List RecordType)
    → ((k : Key) → same_labels owner k.0 ≡ true → is_in_listing zone k (listing_at old (owner_code owner)) ≡ true → is_key_among owner found k ≡ true)
    → (rows : Rows) → AreListed zone rows old → AreTypesAt rows owner found
types_taken zone old owner found all rows listed k here there =
    all k here (ap (λ (code : List ℕ). is_in_listing zone k (listing_at old code)) (sym (code_of_same owner k.0 here)) ∙ listed k there)

complete_types : (a b z : Bool) → b ≡ true → (a || (not b && z)) ≡ true → a ≡ true
complete_types true b z e h = refl
complete_types false true z e h = absurd (cc)
complete_types false false z e h = absurd (cc)

pub listing_whole : (zone : Rows) (owner : List (List ℕ)) (l : Listing) → l.is_complete ≡ true → (k : Key) → same_labels owner k.0 ≡ true
    → is_in_listing zone k (Some l) ≡ true → is_key_among owner l.types.items k ≡ true
listing_whole zone owner l whole k here h =
    sym (among_same owner l.types.items k here) ∙ complete_types (is_key_among k.0 l.types.items k) l.is_complete (rows_map.contains_key zone k) whole h

either_types : (a b z m : Bool) → (z ≡ true → m ≡ true) → (a || (not b && z)) ≡ true → (a || m) ≡ true
either_types true b z m more h = refl
either_types false true z m more h = absurd (cc)
either_types false false z m more h = more h

pub listing_completed : (zone : Rows) (owner : List (List ℕ)) (l : Listing) (more : List RecordType) → AreTypesAt zone owner more → (k : Key) → same_labels owner k.0 ≡ true
    → is_in_listing zone k (Some l) ≡ true → is_key_among owner (l.types.items ++ more) k ≡ true
listing_completed zone owner l more all k here h =
    list_any-append (λ t. eq_by_cmp key_cmp k (key owner t)) l.types.items more
    ∙ either_types (is_key_among owner l.types.items k) l.is_complete (rows_map.contains_key zone k) (is_key_among owner more k) (all k here)
    (ap (λ b. b || (not l.is_complete && rows_map.contains_key zone k)) (sym (among_same owner l.types.items k here)) ∙ h)

-- ---- putting a listing

-- rows that are gone need no listing
pub listed_less : (zone rows less : Rows) (types : OwnerTypes) → AreListed zone rows types
    → ((k : Key) → rows_map.contains_key less k ≡ true → rows_map.contains_key rows k ≡ true) → AreListed zone less types
listed_less zone rows less types all fewer k there = all k (fewer k there)

module _ (zone rows : Rows) (old mid new : OwnerTypes) (owner : List (List ℕ)) (l : Listing)
    (takes : (code : List ℕ) → listing_at mid code ≡ cond (is_code (owner_code owner) code) None (listing_at old code))
    (puts : (code : List ℕ) → listing_at new code ≡ cond (is_code (owner_code owner) code) (Some l) (listing_at mid code))
    (listed : AreListed zone rows old) where
  put_here : (k : Key) → is_code (owner_code owner) (owner_code k.0) ≡ true → is_in_listing zone k (Some l) ≡ true
      → is_in_listing zone k (listing_at new (owner_code k.0)) ≡ true
  put_here k e h = ap (is_in_listing zone k) (puts (owner_code k.0) ∙ ap (λ b. cond b (Some l) (listing_at mid (owner_code k.0))) e) ∙ h

  put_elsewhere : (k : Key) → is_code (owner_code owner) (owner_code k.0) ≡ false → rows_map.contains_key rows k ≡ true
      → is_in_listing zone k (listing_at new (owner_code k.0)) ≡ true
  put_elsewhere k e there =
      ap (is_in_listing zone k)
      (puts (owner_code k.0) ∙ ap (λ b. cond b (Some l) (listing_at mid (owner_code k.0))) e
      ∙ takes (owner_code k.0) ∙ ap (λ b. cond b None (listing_at old (owner_code k.0))) e)
      ∙ listed k there

  -- a complete listing of an owner, whose rows may be fewer by now
  pub put_back : (less : Rows) → AreTypesAt less owner l.types.items → ((k : Key) → rows_map.contains_key less k ≡ true → rows_map.contains_key rows k ≡ true)
      → AreListed zone less new
  put_back less types fewer k there = by (is_code (owner_code owner) (owner_code k.0)) refl
    where
      by : (b : Bool) → is_code (owner_code owner) (owner_code k.0) ≡ b → is_in_listing zone k (listing_at new (owner_code k.0)) ≡ true
      by true e =
          let same : same_labels owner k.0 ≡ true = same_of_code owner k.0 (code_same (owner_code owner) (owner_code k.0) e) in
          put_here k e (ap (λ b. b || (not l.is_complete && rows_map.contains_key zone k)) (among_same owner l.types.items k same ∙ types k same there))
      by false e = put_elsewhere k e (fewer k there)

  grown_by : (a b c : Bool) → b ≡ true → ((a || (b || false)) || c) ≡ true
  grown_by true b c e = refl
  grown_by false true c e = refl
  grown_by false false c e = absurd (cc)

  grown : (a b c : Bool) → (a || c) ≡ true → ((a || (b || false)) || c) ≡ true
  grown true b c e = refl
  grown false true c e = refl
  grown false false c e = e

  -- one more type
  pub type_listed : (t : RecordType) (s : List Row) (before : Listing) → ((k : Key) → is_in_listing zone k (Some before) ≡ is_in_listing zone k (listing_at old (owner_code owner)))
      → l.types.items ≡ before.types.items ++ t ∷ [] → l.is_complete ≡ before.is_complete
      → AreListed zone (with_set rows (key owner t) s) new
  type_listed t s before was items complete k there = by (is_code (owner_code owner) (owner_code k.0)) refl (eq_by_cmp key_cmp k (key owner t)) refl
    where
      shape : is_in_listing zone k (Some l) ≡ ((is_key_among k.0 before.types.items k || (eq_by_cmp key_cmp k (key k.0 t) || false)) || (not before.is_complete && rows_map.contains_key zone k))
      shape =
          (λ i. is_key_among k.0 (items i) k || (not (complete i) && rows_map.contains_key zone k))
          ∙ ap (λ b. b || (not before.is_complete && rows_map.contains_key zone k)) (list_any-append (λ u. eq_by_cmp key_cmp k (key k.0 u)) before.types.items (t ∷ []))

      by : (b : Bool) → is_code (owner_code owner) (owner_code k.0) ≡ b → (c : Bool) → eq_by_cmp key_cmp k (key owner t) ≡ c
          → is_in_listing zone k (listing_at new (owner_code k.0)) ≡ true
      by true e true f =
          let same : same_labels owner k.0 ≡ true = same_of_code owner k.0 (code_same (owner_code owner) (owner_code k.0) e) in
          let ties : eq_by_cmp key_cmp k (key k.0 t) ≡ true = ap (λ (o : List (List ℕ)). eq_by_cmp key_cmp k (o, type_number t)) (sym (same-lower owner k.0 same)) ∙ f in
          put_here k e (shape ∙ grown_by (is_key_among k.0 before.types.items k) (eq_by_cmp key_cmp k (key k.0 t)) (not before.is_complete && rows_map.contains_key zone k) ties)
      by true e false f =
          let same : same_labels owner k.0 ≡ true = same_of_code owner k.0 (code_same (owner_code owner) (owner_code k.0) e) in
          let present : rows_map.contains_key rows k ≡ true = ap is_some (sym (get_other rows (key owner t) s k f)) ∙ there in
          let was_in : is_in_listing zone k (Some before) ≡ true =
          was k ∙ ap (λ (code : List ℕ). is_in_listing zone k (listing_at old code)) (sym (code_of_same owner k.0 same)) ∙ listed k present in
          put_here k e (shape ∙ grown (is_key_among k.0 before.types.items k) (eq_by_cmp key_cmp k (key k.0 t)) (not before.is_complete && rows_map.contains_key zone k) was_in)
      by false e true f =
          let keys : k ≡ key owner t = same_key k (key owner t) f in
          let codes : owner_code owner ≡ owner_code k.0 = owner_of_lower owner k.0 (sym (ap lower (ap (λ (q : Key). q.0) keys) ∙ lower_twice owner)) in
          let same : is_code (owner_code owner) (owner_code k.0) ≡ true = ap (is_code (owner_code owner)) (sym codes) ∙ (eq_by_cmp_equiv nat_list_cmp_total).refl (owner_code owner) in
          absurd (true_false (sym same ∙ e))
      by false e false f = put_elsewhere k e (ap is_some (sym (get_other rows (key owner t) s k f)) ∙ there)

-- ---- the last type with rows, other than one

pub counted : (p : RecordType → Bool) (left : List RecordType) (o : Option RecordType) → IfSome o (λ x. p x ≡ true) → IfNone o (left ≡ []) → (list_any p left || passes p o) ≡ is_some o
counted p left None some none = ap (λ (l : List RecordType). list_any p l || false) none
counted p left (Some x) some none = ap (λ b. list_any p left || b) some ∙ or_true (list_any p left)
  where
    or_true : (b : Bool) → (b || true) ≡ true
    or_true true = refl
    or_true false = refl

owner_among : (owner : List (List ℕ)) (k : Key) (ts : List RecordType) → is_key_among owner ts k ≡ true → k.0 ≡ lower owner
owner_among owner k [] e = absurd (true_false (sym e))
owner_among owner k (t ∷ ts) e = by (eq_by_cmp key_cmp k (key owner t)) refl e (owner_among owner k ts)
  where
    by : (b : Bool) → eq_by_cmp key_cmp k (key owner t) ≡ b → (b || is_key_among owner ts k) ≡ true → (is_key_among owner ts k ≡ true → k.0 ≡ lower owner) → k.0 ≡ lower owner
    by true tie h more = ap (λ (q : Key). q.0) (same_key k (key owner t) tie)
    by false tie h more = more h

or_second : (a b : Bool) → b ≡ true → (a || b) ≡ true
or_second true b e = refl
or_second false b e = e

-- the types that are left, with the one itself where it has rows, are all types with rows
pub types_left : (rows : Rows) (owner : DomainName) (t : RecordType) (found whole : List RecordType) (left : (RecordType → Bool) → Bool) → AreTypesAt rows owner.labels found
    → ((p : RecordType → Bool) → ((u : RecordType) → p u ≡ true → is_other_set rows owner t u ≡ true) → list_any p found ≡ left p)
    → ((p : RecordType → Bool) → list_any p whole ≡ (left p || (has_set rows owner t && p t)))
    → AreTypesAt rows owner.labels whole
types_left rows owner t found whole left all others own k here there = by (type_number t == k.1) refl
  where
    by : (b : Bool) → (type_number t == k.1) ≡ b → is_key_among owner.labels whole k ≡ true
    by false e =
        own (λ u. eq_by_cmp key_cmp k (key owner.labels u))
        ∙ ap (λ b. b || (has_set rows owner t && eq_by_cmp key_cmp k (key owner.labels t)))
        (sym (others (λ u. eq_by_cmp key_cmp k (key owner.labels u)) (λ u tie.
        let keys : k ≡ key owner.labels u = same_key k (key owner.labels u) tie in
        λ i. (ap (λ (q : Key). not (type_number t == q.1)) (sym keys) ∙ ap not e) i && (ap (rows_map.contains_key rows) (sym keys) ∙ there) i))
        ∙ all k here there)
    by true e =
        let labels : k.0 ≡ lower owner.labels = owner_among owner.labels k found (all k here there) in
        let number : type_number t ≡ k.1 = number_same (type_number t) k.1 e in
        let keys : k ≡ key owner.labels t = λ i. (labels i, sym number i) in
        own (λ u. eq_by_cmp key_cmp k (key owner.labels u))
        ∙ or_second (left (λ u. eq_by_cmp key_cmp k (key owner.labels u))) (has_set rows owner t && eq_by_cmp key_cmp k (key owner.labels t))
        (λ i. (ap (rows_map.contains_key rows) (sym keys) ∙ there) i && (ap (eq_by_cmp key_cmp k) (sym keys) ∙ tied_itself k) i)

-- whether there is one is whether the name has rows of another type
pub other_found : (rows : Rows) (owner : DomainName) (t : RecordType) (found left : List RecordType) (o : Option RecordType) → AreTypesAt rows owner.labels found
    → ((p : RecordType → Bool) → ((u : RecordType) → p u ≡ true → is_other_set rows owner t u ≡ true) → list_any p found ≡ (list_any p left || passes p o))
    → IfSome o (λ u. is_other_set rows owner t u ≡ true) → IfNone o (left ≡ []) → is_some o ≡ has_rows_but rows owner t
other_found rows owner t found left o all others some none =
    sym (counted (is_other_set rows owner t) left o some none) ∙ sym (others (is_other_set rows owner t) (λ u e. e)) ∙ others_found rows owner t found all

-- ---- the types that deletions of a name keep

any_kept : (p q : RecordType → Bool) → ((t : RecordType) → p t ≡ true → q t ≡ true) → (ts : List RecordType) → list_any p (filter q ts) ≡ list_any p ts
any_kept p q h [] = refl
any_kept p q h (t ∷ ts) = by (p t) refl (q t) refl (any_kept p q h ts)
  where
    by : (a : Bool) → p t ≡ a → (b : Bool) → q t ≡ b → list_any p (filter q ts) ≡ list_any p ts → list_any p (cond b (t ∷ filter q ts) (filter q ts)) ≡ (p t || list_any p ts)
    by a e true f more = ap (λ b. p t || b) more
    by true e false f more = absurd (true_false (sym (h t e) ∙ f))
    by false e false f more = more ∙ ap (λ b. b || list_any p ts) (sym e)

left_by_name : (origin owner : DomainName) (rows : Rows) (k : Key)
    → rows_map.get (without_name origin rows owner) k ≡ cond (not (same_labels owner.labels k.0) || is_kept_set origin owner k.1) (rows_map.get rows k) None
left_by_name origin owner rows k =
    rows_map.get-retain_keys rows (λ q. not (same_labels owner.labels q.0) || is_kept_set origin owner q.1) k
    (λ x e. ap (λ (q : Key). not (same_labels owner.labels q.0) || is_kept_set origin owner q.1) (sym (key_antisymmetric k x e)))

pub name_less : (origin owner : DomainName) (rows : Rows) (k : Key) → rows_map.contains_key (without_name origin rows owner) k ≡ true → rows_map.contains_key rows k ≡ true
name_less origin owner rows k there =
    by (not (same_labels owner.labels k.0) || is_kept_set origin owner k.1) (sym (ap is_some (left_by_name origin owner rows k)) ∙ there)
  where
    by : (b : Bool) → is_some (cond b (rows_map.get rows k) None) ≡ true → is_some (rows_map.get rows k) ≡ true
    by true e = e
    by false e = absurd (cc)

pub types_kept : (origin owner : DomainName) (rows : Rows) (found : List RecordType) → AreTypesAt rows owner.labels found
    → AreTypesAt (without_name origin rows owner) owner.labels (filter (λ t. is_kept_set origin owner (type_number t)) found)
types_kept origin owner rows found all k here there =
    any_kept (λ t. eq_by_cmp key_cmp k (key owner.labels t)) (λ t. is_kept_set origin owner (type_number t))
    (λ t tie. ap (λ (q : Key). is_kept_set origin owner q.1) (sym (same_key k (key owner.labels t) tie)) ∙ kept (is_kept_set origin owner k.1) refl) found
    ∙ all k here (name_less origin owner rows k there)
  where
    kept : (b : Bool) → is_kept_set origin owner k.1 ≡ b → is_kept_set origin owner k.1 ≡ true
    kept true e = e
    kept false e = absurd (true_false (sym there ∙ ap is_some (left_by_name origin owner rows k ∙ (λ i. cond (not (here i) || e i) (rows_map.get rows k) None))))

pub name_listed : (zone rows less : Rows) (old mid new : OwnerTypes) (origin owner : DomainName) (found : List RecordType) (l : Listing)
    → ((code : List ℕ) → listing_at mid code ≡ cond (is_code (owner_code owner.labels) code) None (listing_at old code))
    → ((code : List ℕ) → listing_at new code ≡ cond (is_code (owner_code owner.labels) code) (Some l) (listing_at mid code))
    → AreListed zone rows old → less ≡ without_name origin rows owner → l.types.items ≡ filter (λ t. is_kept_set origin owner (type_number t)) found
    → AreTypesAt rows owner.labels found → AreListed zone less new
name_listed zone rows less old mid new origin owner found l takes puts listed e items all =
    put_back zone rows old mid new owner.labels l takes puts listed less
    (λ k here there. ap (λ (ts : List RecordType). is_key_among owner.labels ts k) items ∙ types_kept origin owner rows found all k here (ap (λ (r : Rows). rows_map.contains_key r k) (sym e) ∙ there))
    (λ k there. name_less origin owner rows k (ap (λ (r : Rows). rows_map.contains_key r k) (sym e) ∙ there))

-- ---- additions

-- rows in place of others
pub placed_less : (rows : Rows) (q : Key) (s : List Row) → rows_map.contains_key rows q ≡ true → (k : Key) → rows_map.contains_key (with_set rows q s) k ≡ true → rows_map.contains_key rows k ≡ true
placed_less rows q s present k there = by (eq_by_cmp key_cmp k q) refl
  where
    by : (b : Bool) → eq_by_cmp key_cmp k q ≡ b → rows_map.contains_key rows k ≡ true
    by true e = ap (rows_map.contains_key rows) (same_key k q e) ∙ present
    by false e = ap is_some (sym (get_other rows q s k e)) ∙ there

-- without listings all rows are those of the zone
pub none_listed : (zone : Rows) (types : OwnerTypes) → ((code : List ℕ) → listing_at types code ≡ None) → AreListed zone zone types
none_listed zone types none k there = ap (is_in_listing zone k) (none (owner_code k.0)) ∙ there

-- rows of which a deletion leaves some
pub row_less : (origin : DomainName) (rows : Rows) (r : Record) (k : Key) → rows_map.contains_key (without_row origin rows r) k ≡ true → rows_map.contains_key rows k ≡ true
row_less origin rows r k there = by (keeps_rows origin rows r) there
  where
    left : (o : Option (List Row)) → is_some (filled (without_data (unwrap_or o []) r.rdata)) ≡ true → is_some o ≡ true
    left None e = sym (ap is_some filled_empty) ∙ e
    left (Some s) e = refl

    at : (b : Bool) → eq_by_cmp key_cmp k (key_of r) ≡ b → is_some (cond b (filled (without_data (set_of rows r) r.rdata)) (rows_map.get rows k)) ≡ true → is_some (rows_map.get rows k) ≡ true
    at true e h = ap (rows_map.contains_key rows) (same_key k (key_of r) e) ∙ left (rows_map.get rows (key_of r)) h
    at false e h = h

    by : (b : Bool) → is_some (rows_map.get (cond b rows (with_set rows (key_of r) (without_data (set_of rows r) r.rdata))) k) ≡ true → is_some (rows_map.get rows k) ≡ true
    by true h = h
    by false h = at (eq_by_cmp key_cmp k (key_of r)) refl (sym (ap is_some (get_with_set rows (key_of r) (without_data (set_of rows r) r.rdata) k)) ∙ h)

-- rows without a set
pub set_less : (origin : DomainName) (rows : Rows) (owner : DomainName) (t : RecordType) (k : Key) → rows_map.contains_key (without_set origin rows owner t) k ≡ true → rows_map.contains_key rows k ≡ true
set_less origin rows owner t k there = by (is_kept_set origin owner (type_number t)) there
  where
    at : (b : Bool) → is_some (cond b None (rows_map.get rows k)) ≡ true → is_some (rows_map.get rows k) ≡ true
    at true h = absurd (cc)
    at false h = h

    by : (b : Bool) → is_some (rows_map.get (cond b rows (rows_map.remove rows (key owner.labels t))) k) ≡ true → is_some (rows_map.get rows k) ≡ true
    by true h = h
    by false h = at (eq_by_cmp key_cmp k (key owner.labels t)) (sym (ap is_some (rows_map.get-remove key_total rows (key owner.labels t) k)) ∙ h)

pub on_ok : {A E : Type 0} {P Q : Type 0} (r : Result A E) → (P → Q) → OnOk r P → OnOk r Q
on_ok (Ok x) f p = f p
on_ok (Err e) f p = tt
