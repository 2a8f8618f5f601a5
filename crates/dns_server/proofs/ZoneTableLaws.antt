-- Zones that are found by their origins.
use Rattle.std.proofs.Common.{◌≡◌, ◌<◌, ◌≤◌, ◌+◌, ◌++◌, zero, suc, Bool, true, false, cond, ℕ, List, [], ◌∷◌, length, max, refl, sym, ap, ◌∙◌, arith, length-append, append_assoc, Option, Some, None}
use Rattle.std.specs.Prelude.{is_some, slice_get, slice_set, IfSome, reverse, flat_map}
use Rattle.std.specs.Option.{option_or}
use Rattle.std.specs.BTreeMap as maps
use Rattle.std.specs.Cmp.{Equal-is, eq_by_cmp_equiv}
use Rattle.std.proofs.lemmas.Grind.{flat_map-append}
use Rattle.std.proofs.lemmas.List.{append-nil, reverse-append}
use Rattle.std.proofs.lemmas.Map.Lookups.{exact_bytes}
use Rattle.dns_names.specs.Compare.{lower, same_labels}
use Rattle.dns_names.specs.internal.Compare.{same-lower, same_labels-equivalence}
use Rattle.dns_names.proofs.ComparisonLaws.{same_labels-length}
use Rattle.dns_updates.specs.Keys.{bytes_cmp, label_code, owner_code}
use Rattle.dns_updates.specs.internal.OwnerKeys.{bytes_cmp-total}
use Rattle.dns_updates.proofs.OwnerCodeLaws.{owner_apart, owner_of_lower}
use Rattle.dns_updates.proofs.PlaceLaws.{tied_both}
use Rattle.dns_updates.proofs.SetLaws.{same_lower}
use Rattle.dns_zone.specs.Rows.{ZoneContent, IsZone}
use Rattle.dns_server.specs.internal.ZoneTable.{place_by_key, ArePlacesOf, HaveLabels, IsTable}
use Rattle.dns_server.specs.Zones.{closest, has_origin, is_at, place_at}
use Rattle.dns_server.proofs.PlaceLaws.{servable-push, servable-set}
use Rattle.dns_server.proofs.PositionLaws.{position_bound, position_last, position_set, position_some}

-- ---- keys

-- the key of a name is that of the name above it and its first label
key_below : (label : List ℕ) (labels : List (List ℕ)) → owner_code labels ++ label_code label ≡ owner_code (label ∷ labels)
key_below label labels =
    ap (λ (l : List ℕ). owner_code labels ++ l) (sym (append-nil (label_code label)))
    ∙ sym (flat_map-append label_code (reverse labels) (label ∷ []))
    ∙ ap (flat_map label_code) (sym (reverse-append (label ∷ []) labels))

-- keys are the same exactly where origins are
keys_tie : (a b : List (List ℕ)) → maps.is_at (bytes_cmp (owner_code a)) (owner_code b) ≡ same_labels a b
keys_tie a b = tied_both (maps.is_at (bytes_cmp (owner_code a)) (owner_code b)) (same_labels a b) there back
  where
    there : maps.is_at (bytes_cmp (owner_code a)) (owner_code b) ≡ true → same_labels a b ≡ true
    there e =
        let same : lower a ≡ lower b = owner_apart a b (exact_bytes (owner_code a) (owner_code b) ((Equal-is (bytes_cmp (owner_code a) (owner_code b))).0 e)) in
        sym (same_lower a b) ∙ ap (same_labels a) (sym same) ∙ same_lower a a ∙ same_labels-equivalence.refl a

    back : same_labels a b ≡ true → maps.is_at (bytes_cmp (owner_code a)) (owner_code b) ≡ true
    back e =
        ap (maps.is_at (bytes_cmp (owner_code a))) (sym (owner_of_lower a b (same-lower a b e)))
        ∙ (eq_by_cmp_equiv bytes_cmp-total).refl (owner_code a)

-- ---- the closest zone

-- a zone at a name has as many labels
at_length : (zones : List ZoneContent) (labels : List (List ℕ)) (most : ℕ) → HaveLabels most zones → most < length labels → has_origin zones labels ≡ false
at_length [] labels most have long = refl
at_length (zone ∷ zones) labels most have long = by (same_labels zone.origin.labels labels) refl (at_length zones labels most have.1 long)
  where
    by : (b : Bool) → same_labels zone.origin.labels labels ≡ b → has_origin zones labels ≡ false → has_origin (zone ∷ zones) labels ≡ false
    by true e none = absurd (omega (arith, have.0, long, same_labels-length zone.origin.labels labels e))
    by false e none = rw e none

absent : (o : Option ℕ) → is_some o ≡ false → o ≡ None
absent None e = refl
absent (Some n) e = absurd (cc)

-- none is at a name with more labels than any origin
none_at : (zones : List ZoneContent) (labels : List (List ℕ)) (most : ℕ) → HaveLabels most zones → most < length labels → place_at zones labels ≡ None
none_at zones labels most have long = absent (place_at zones labels) (position_some (is_at labels) zones ∙ at_length zones labels most have long)

-- so the zone closest to a name is that closest to the name above it
closest_below : (zones : List ZoneContent) (front labels : List (List ℕ)) (most : ℕ) → HaveLabels most zones → most ≤ length labels
    → closest zones labels ≡ closest zones (front ++ labels)
closest_below zones [] labels most have long = refl
closest_below zones (label ∷ front) labels most have long =
    closest_below zones front labels most have long
    ∙ ap (λ (o : Option ℕ). option_or o (closest zones (front ++ labels)))
    (sym (none_at zones (label ∷ front ++ labels) most have (omega (arith, long, length-append front labels))))

-- the closest zone is one of them
pub closest_within : (zones : List ZoneContent) (labels : List (List ℕ)) → IfSome (closest zones labels) (λ place. place < length zones)
closest_within zones [] = position_bound (is_at []) zones
closest_within zones (label ∷ labels) = by (place_at zones (label ∷ labels)) (position_bound (is_at (label ∷ labels)) zones) (closest_within zones labels)
  where
    by : (o : Option ℕ) → IfSome o (λ place. place < length zones) → IfSome (closest zones labels) (λ place. place < length zones)
        → IfSome (option_or o (closest zones labels)) (λ place. place < length zones)
    by None here above = above
    by (Some place) here above = here

-- ---- the search, from the root down

-- So many labels of a name were taken from its end; the rest are left.
pub record IsSearch (zones : List ZoneContent) (name rest : List (List ℕ)) (taken : ℕ) (key : List ℕ) (found : Option ℕ) : Type 0 where
  pub above : List (List ℕ)
  pub split : name ≡ rest ++ above
  pub counted : length above ≡ taken
  pub key_is : key ≡ owner_code above
  pub found_is : found ≡ closest zones above

-- it begins at the root
pub search_begins : (zones : List ZoneContent) (entries : List (List ℕ × ℕ)) (name rest : List (List ℕ)) (key : List ℕ) (found : Option ℕ) → ArePlacesOf entries zones
    → rest ≡ name → key ≡ [] → found ≡ place_by_key entries key → IsSearch zones name rest 0 key found
search_begins zones entries name rest key found are whole root is = record {
  above = [];
  split = sym (append-nil rest ∙ whole);
  counted = refl;
  key_is = root;
  found_is = is ∙ ap (place_by_key entries) root ∙ are [];
}

-- and takes one label more
pub search_on : (zones : List ZoneContent) (entries : List (List ℕ × ℕ)) (name rest left : List (List ℕ)) (label : List ℕ) (taken : ℕ) (key next : List ℕ)
    (found here best : Option ℕ) → ArePlacesOf entries zones → IsSearch zones name rest taken key found → rest ≡ left ++ label ∷ [] → next ≡ key ++ label_code label
    → here ≡ place_by_key entries next → best ≡ option_or here found → IsSearch zones name left (taken + 1) next best
search_on zones entries name rest left label taken key next found here best are s last next_is here_is best_is =
    let code : next ≡ owner_code (label ∷ s.above) = next_is ∙ ap (λ (k : List ℕ). k ++ label_code label) s.key_is ∙ key_below label s.above in
    let at : here ≡ place_at zones (label ∷ s.above) = here_is ∙ ap (place_by_key entries) code ∙ are (label ∷ s.above) in
    record {
      above = label ∷ s.above;
      split = s.split ∙ ap (λ (ls : List (List ℕ)). ls ++ s.above) last ∙ append_assoc left (label ∷ []) s.above;
      counted = omega (arith, s.counted);
      key_is = code;
      found_is = best_is ∙ (λ i. option_or (at i) (s.found_is i));
    }

-- it ends where no label is left
pub search_ends : (zones : List ZoneContent) (name rest : List (List ℕ)) (taken : ℕ) (key : List ℕ) (found : Option ℕ) → IsSearch zones name rest taken key found → rest ≡ []
    → found ≡ closest zones name
search_ends zones name rest taken key found s none =
    s.found_is ∙ ap (closest zones) (sym (s.split ∙ ap (λ (ls : List (List ℕ)). ls ++ s.above) none))

-- or where as many were taken as an origin may have
pub search_stops : (zones : List ZoneContent) (name rest : List (List ℕ)) (taken most : ℕ) (key : List ℕ) (found : Option ℕ) → IsSearch zones name rest taken key found
    → HaveLabels most zones → most ≤ taken → found ≡ closest zones name
search_stops zones name rest taken most key found s have enough =
    s.found_is ∙ closest_below zones rest s.above most have (omega (arith, enough, s.counted)) ∙ ap (closest zones) (sym s.split)

-- ---- further zones

-- whether there is a zone with an origin
pub has_place : (entries : List (List ℕ × ℕ)) (zones : List ZoneContent) (key : List ℕ) (labels : List (List ℕ)) → ArePlacesOf entries zones → key ≡ owner_code labels
    → is_some (place_by_key entries key) ≡ has_origin zones labels
has_place entries zones key labels are is = ap (λ (k : List ℕ). is_some (place_by_key entries k)) is ∙ ap is_some (are labels) ∙ position_some (is_at labels) zones

-- the places of zones and of a further one
place_added : (old new : List (List ℕ × ℕ)) (zones : List ZoneContent) (zone : ZoneContent) (key : List ℕ) (place : ℕ) → ArePlacesOf old zones → has_origin zones zone.origin.labels ≡ false
    → key ≡ owner_code zone.origin.labels → place ≡ length zones
    → ((q : List ℕ) → place_by_key new q ≡ cond (maps.is_at (bytes_cmp key) q) (Some place) (place_by_key old q)) → ArePlacesOf new (zones ++ zone ∷ [])
place_added old new zones zone key place are fresh key_is place_is updates labels =
    updates (owner_code labels)
    ∙ ap (λ (k : List ℕ). cond (maps.is_at (bytes_cmp k) (owner_code labels)) (Some place) (place_by_key old (owner_code labels))) key_is
    ∙ ap (λ (b : Bool). cond b (Some place) (place_by_key old (owner_code labels))) (keys_tie zone.origin.labels labels)
    ∙ ap (λ (o : Option ℕ). cond (is_at labels zone) (Some place) o) (are labels)
    ∙ ap (λ (n : ℕ). cond (is_at labels zone) (Some n) (place_at zones labels)) place_is
    ∙ by (is_at labels zone) refl
    ∙ sym (position_last (is_at labels) zones zone)
  where
    none : same_labels zone.origin.labels labels ≡ true → place_at zones labels ≡ None
    none e =
        sym (are labels)
        ∙ ap (place_by_key old) (sym (owner_of_lower zone.origin.labels labels (same-lower zone.origin.labels labels e)))
        ∙ are zone.origin.labels
        ∙ absent (place_at zones zone.origin.labels) (position_some (is_at zone.origin.labels) zones ∙ fresh)

    by : (b : Bool) → is_at labels zone ≡ b → cond b (Some (length zones)) (place_at zones labels) ≡ option_or (place_at zones labels) (cond b (Some (length zones)) None)
    by true e = sym (ap (λ (o : Option ℕ). option_or o (Some (length zones))) (none e))
    by false e = or_none (place_at zones labels)
      where
        or_none : (o : Option ℕ) → o ≡ option_or o None
        or_none None = refl
        or_none (Some n) = refl

more : (least most : ℕ) (zones : List ZoneContent) → least ≤ most → HaveLabels least zones → HaveLabels most zones
more least most [] le have = tt
more least most (zone ∷ zones) le have = (omega (arith, le, have.0), more least most zones le have.1)

labels_added : (old new : ℕ) (zones : List ZoneContent) (zone : ZoneContent) → HaveLabels old zones → new ≡ max old (length zone.origin.labels) → HaveLabels new (zones ++ zone ∷ [])
labels_added old new [] zone have is = (omega (arith, is), tt)
labels_added old new (y ∷ ys) zone have is = (omega (arith, is, have.0), labels_added old new ys zone have.1 is)

-- a table with a further zone
pub table_added : (old new : List (List ℕ × ℕ)) (zones : List ZoneContent) (zone : ZoneContent) (key : List ℕ) (place most more_labels : ℕ) → IsTable zones old most
    → IsZone zone → has_origin zones zone.origin.labels ≡ false → key ≡ owner_code zone.origin.labels → place ≡ length zones
    → ((q : List ℕ) → place_by_key new q ≡ cond (maps.is_at (bytes_cmp key) q) (Some place) (place_by_key old q)) → more_labels ≡ max most (length zone.origin.labels)
    → IsTable (zones ++ zone ∷ []) new more_labels
table_added old new zones zone key place most more_labels is good fresh key_is place_is updates most_is = record {
  servable = servable-push zones zone is.servable good fresh;
  places = place_added old new zones zone key place is.places fresh key_is place_is updates;
  labels = labels_added most more_labels zones zone is.labels most_is;
}

-- ---- a zone is replaced by one with its origin

places_set : (entries : List (List ℕ × ℕ)) (zones : List ZoneContent) (place : ℕ) (zone new : ZoneContent) → slice_get zones place ≡ Some zone → new.origin ≡ zone.origin
    → ArePlacesOf entries zones → ArePlacesOf entries (slice_set zones place new)
places_set entries zones place zone new is same are labels =
    are labels ∙ sym (position_set (is_at labels) zones place zone new is (ap (λ origin. same_labels origin.labels labels) same))

labels_set : (most : ℕ) (zones : List ZoneContent) (place : ℕ) (zone new : ZoneContent) → slice_get zones place ≡ Some zone → new.origin ≡ zone.origin → HaveLabels most zones
    → HaveLabels most (slice_set zones place new)
labels_set most [] place zone new is same have = absurd (cc)
labels_set most (y ∷ ys) zero zone new is same have =
    let first : y ≡ zone = cc in
    (omega (arith, have.0, ap (λ origin. length origin.labels) same, ap (λ (z : ZoneContent). length z.origin.labels) first), have.1)
labels_set most (y ∷ ys) (suc place) zone new is same have = (have.0, labels_set most ys place zone new is same have.1)

pub table_set : (entries : List (List ℕ × ℕ)) (most : ℕ) (zones : List ZoneContent) (place : ℕ) (zone new : ZoneContent) → slice_get zones place ≡ Some zone
    → new.origin ≡ zone.origin → IsZone new → IsTable zones entries most → IsTable (slice_set zones place new) entries most
table_set entries most zones place zone new is same good table = record {
  servable = servable-set zones place zone new is same good table.servable;
  places = places_set entries zones place zone new is same table.places;
  labels = labels_set most zones place zone new is same table.labels;
}
