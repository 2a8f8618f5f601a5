-- The fields of a type are one field of any kind, or fields of bounded length.
use Rattle.std.proofs.Common.{◌≡◌, ◌≢◌, ℕ, ◌+◌, ◌<◌, ◌≤◌, ◌^◌, ◌&&◌, Bool, true, false, List, [], ◌∷◌, ◌++◌, length, flat_map, refl, ap, subst, arith}
use Rattle.std.specs.Prelude.{nat_lt}
use Rattle.std.specs.List.{AllByRecursion}
use Rattle.std.proofs.lemmas.Bool.{and_parts}
use Rattle.std.proofs.lemmas.Bool.Decides.{nat_tests}
use Rattle.std.proofs.lemmas.List.{append-nil}
use Rattle.dns_wire.specs.Encodable.{Piece, BytesAt, PiecesAt}
use Rattle.dns_wire.specs.declared.name_encoding.NameEncoding.TheVariants.{Uncompressed}
use Rattle.dns_wire.proofs.SectionLaws.{pieces_max_len}
use Rattle.dns_data.specs.Field.{Kind, OptionValue, Strings, Options, Opaque, ValueOf, Values, string_pieces, option_pieces, values_pieces, IsSoundValue, AreSoundValues}
use Rattle.dns_data.specs.Wire.{StringAt, OptionAt, ItemsUpTo, no_more_items, one_more_item, ValueAt, ValuesAt}
use Rattle.dns_data.proofs.ItemLaws.{no_item-ended, items-pieces, pieces-items}
use Rattle.dns_data.proofs.LengthLaws.{items_len, pieces_max_len-append}
use Rattle.dns_data.proofs.DecodingLaws.{string_ahead, option_ahead}
use Rattle.dns_data.proofs.BoundedLaws.{is_bounded, IsBounded, value_ahead, bounded-sound, bounded-len, bounded-at}

pub data IsLayout : List Kind → Type 0 where
  one_kind : {kind : Kind} → IsLayout (kind ∷ [])
  bounded_kinds : {kinds : List Kind} → AllByRecursion IsBounded kinds → length kinds < 256 → IsLayout kinds

abbrev all_bounded : List Kind → Bool
all_bounded [] = true
all_bounded (kind ∷ kinds) = is_bounded kind && all_bounded kinds

abbrev pub is_layout : List Kind → Bool
is_layout (kind ∷ []) = true
is_layout kinds = all_bounded kinds && nat_lt (length kinds) 256

each_bounded : (kinds : List Kind) → all_bounded kinds ≡ true → AllByRecursion IsBounded kinds
each_bounded [] all = tt
each_bounded (kind ∷ kinds) all =
    let both = and_parts (is_bounded kind) (all_bounded kinds) all in (both.0, each_bounded kinds both.1)

few : (n : ℕ) → nat_lt n 256 ≡ true → n < 256
few n is = grind (arith, nat_tests)

pub layout_of : (kinds : List Kind) → is_layout kinds ≡ true → IsLayout kinds
layout_of [] is = bounded_kinds tt (omega arith)
layout_of (kind ∷ []) is = one_kind
layout_of (kind ∷ next ∷ kinds) is =
    let both = and_parts (all_bounded (kind ∷ next ∷ kinds)) (nat_lt (length (kind ∷ next ∷ kinds)) 256) is in
    bounded_kinds (each_bounded (kind ∷ next ∷ kinds) both.0) (few (length (kind ∷ next ∷ kinds)) both.1)

-- ---- strings and options

abbrev IsShortString : List ℕ → Type 0
IsShortString string = length string < 256

abbrev IsShortOption : OptionValue → Type 0
IsShortOption option = (option.code < 2 ^ 16) × (length option.bytes < 2 ^ 16)

string_len : (bytes : List ℕ) (place : ℕ) (string : List ℕ) (end : ℕ) → StringAt bytes place string end → place + pieces_max_len (string_pieces string) ≡ end
string_len bytes place string end h = omega (arith, h.0.1.ends, h.0.2.1.ends, h.0.2.2)

option_len : (bytes : List ℕ) (place : ℕ) (option : OptionValue) (end : ℕ) → OptionAt bytes place option end → place + pieces_max_len (option_pieces option) ≡ end
option_len bytes place option end h = omega (arith, h.0.1.ends, h.0.2.1.ends, h.0.2.2.1.ends, h.0.2.2.2)

some_string : (bytes : List ℕ) (place : ℕ) (string : List ℕ) (end : ℕ) → PiecesAt Uncompressed bytes place (string_pieces string) end → place < end
some_string bytes place string end h = omega (arith, h.1.ends, h.2.1.ends, h.2.2)

some_option : (bytes : List ℕ) (place : ℕ) (option : OptionValue) (end : ℕ) → PiecesAt Uncompressed bytes place (option_pieces option) end → place < end
some_option bytes place option end h = omega (arith, h.1.ends, h.2.1.ends, h.2.2.1.ends, h.2.2.2)

strings_at : (bytes : List ℕ) (place end : ℕ) (strings : List (List ℕ)) → AllByRecursion IsShortString strings → PiecesAt Uncompressed bytes place (flat_map string_pieces strings ++ []) end → ItemsUpTo (StringAt bytes) end place strings end
strings_at bytes place end strings each h =
    pieces-items bytes string_pieces IsShortString (some_string bytes) place end strings (subst (λ (ps : List Piece). PiecesAt Uncompressed bytes place ps end) (append-nil (flat_map string_pieces strings)) h) each

options_at : (bytes : List ℕ) (place end : ℕ) (options : List OptionValue) → AllByRecursion IsShortOption options → PiecesAt Uncompressed bytes place (flat_map option_pieces options ++ []) end → ItemsUpTo (OptionAt bytes) end place options end
options_at bytes place end options each h =
    pieces-items bytes option_pieces IsShortOption (some_option bytes) place end options (subst (λ (ps : List Piece). PiecesAt Uncompressed bytes place ps end) (append-nil (flat_map option_pieces options)) h) each

pub items-ahead : {Item : Type 0} (ItemAt : ℕ → Item → ℕ → Type 0) {data_end place end : ℕ} {x : Item} {xs : List Item} → ItemsUpTo ItemAt data_end place (x ∷ xs) end → place < data_end
items-ahead ItemAt (one_more_item less there more) = less

items-onward : {Item : Type 0} (ItemAt : ℕ → Item → ℕ → Type 0) → ((place : ℕ) (x : Item) (end : ℕ) → ItemAt place x end → place < end) → {data_end place end : ℕ} {xs : List Item} → ItemsUpTo ItemAt data_end place xs end → place ≤ end
items-onward ItemAt ahead (no_more_items stop) = omega arith
items-onward ItemAt ahead {place = place} (one_more_item {middle = m} {item = x} less there more) = omega (arith, ahead place x m there, items-onward ItemAt ahead more)

-- ---- values of any kinds

module _ (bytes : List ℕ) (data_end : ℕ) where
  value_onward : (kind : Kind) (place : ℕ) (value : ValueOf kind) (end : ℕ) → ValueAt bytes data_end kind place value end → place ≤ end
  value_onward Strings place value end h = items-onward (StringAt bytes) (string_ahead bytes) h
  value_onward Options place value end h = items-onward (OptionAt bytes) (option_ahead bytes) h
  value_onward Opaque place value end h = omega (arith, h.0.ends)
  value_onward kind place value end h = omega (arith, value_ahead bytes data_end kind place value end refl h)

  pub values_onward : (kinds : List Kind) (place : ℕ) (values : Values kinds) (end : ℕ) → ValuesAt bytes data_end kinds place values end → place ≤ end
  values_onward [] place values end h = omega (arith, h)
  values_onward (kind ∷ kinds) place values end h = omega (arith, value_onward kind place values.0 h.0 h.1, values_onward kinds h.0 values.1 end h.2)

-- ---- values of a layout

module _ (bytes : List ℕ) (place end : ℕ) where
  one_at : (kind : Kind) (values : Values (kind ∷ [])) → AreSoundValues (kind ∷ []) values → PiecesAt Uncompressed bytes place (values_pieces false (kind ∷ []) values) end → ValuesAt bytes end (kind ∷ []) place values end
  one_at Strings values sound h = (end, strings_at bytes place end values.0 sound.0.1 h, refl)
  one_at Options values sound h = (end, options_at bytes place end values.0 sound.0 h, refl)
  one_at Opaque values sound h = (end, (subst (λ (n : ℕ). BytesAt bytes place values.0 n) h.2 h.1, refl), refl)
  one_at kind values sound h = bounded-at bytes end (kind ∷ []) place values end (refl, tt) sound h

  -- values decode from their pieces
  pub layout_at : {kinds : List Kind} → IsLayout kinds → (values : Values kinds) → AreSoundValues kinds values → PiecesAt Uncompressed bytes place (values_pieces false kinds values) end → ValuesAt bytes end kinds place values end
  layout_at (one_kind {kind}) values sound h = one_at kind values sound h
  layout_at (bounded_kinds {kinds} are few) values sound h = bounded-at bytes end kinds place values end are sound h

module _ (bytes : List ℕ) (place len : ℕ) where
  one_sound : (kind : Kind) (values : Values (kind ∷ [])) (end : ℕ) → 0 < len → ValuesAt bytes (place + len) (kind ∷ []) place values end → AreSoundValues (kind ∷ []) values
  one_sound Strings values end some h =
      let none : values.0 ≢ [] = λ e. let ended = no_item-ended (StringAt bytes) (subst (λ (xs : List (List ℕ)). ItemsUpTo (StringAt bytes) (place + len) place xs h.0) e h.1) in omega (arith, ended, some) in
      ((none, (items-pieces bytes string_pieces IsShortString h.1).1), tt)
  one_sound Options values end some h = ((items-pieces bytes option_pieces IsShortOption h.1).1, tt)
  one_sound Opaque values end some h =
      let none : values.0 ≢ [] = λ e. omega (arith, ap (λ (xs : List ℕ). length xs) e, h.1.0.ends, h.1.1, some) in
      (none, tt)
  one_sound kind values end some h = bounded-sound bytes (place + len) (kind ∷ []) place values end (refl, tt) h

  -- decoded values are sound
  pub layout_sound : {kinds : List Kind} → IsLayout kinds → (values : Values kinds) (end : ℕ) → 0 < len → ValuesAt bytes (place + len) kinds place values end → AreSoundValues kinds values
  layout_sound (one_kind {kind}) values end some h = one_sound kind values end some h
  layout_sound (bounded_kinds {kinds} are few) values end some h = bounded-sound bytes (place + len) kinds place values end are h

  one_fits : (kind : Kind) (values : Values (kind ∷ [])) → len < 2 ^ 16 → ValuesAt bytes (place + len) (kind ∷ []) place values (place + len) → pieces_max_len (values_pieces false (kind ∷ []) values) < 2 ^ 16
  one_fits Strings values small h = omega (arith, items_len (StringAt bytes) string_pieces (string_len bytes) h.1, h.2, pieces_max_len-append (flat_map string_pieces values.0) [])
  one_fits Options values small h = omega (arith, items_len (OptionAt bytes) option_pieces (option_len bytes) h.1, h.2, pieces_max_len-append (flat_map option_pieces values.0) [])
  one_fits Opaque values small h = omega (arith, h.1.0.ends, h.1.1)
  one_fits kind values small h = omega (arith, bounded-len bytes (place + len) (kind ∷ []) place values (place + len) (refl, tt) h)

  -- and short enough
  pub layout_fits : {kinds : List Kind} → IsLayout kinds → (values : Values kinds) → len < 2 ^ 16 → ValuesAt bytes (place + len) kinds place values (place + len) → pieces_max_len (values_pieces false kinds values) < 2 ^ 16
  layout_fits (one_kind {kind}) values small h = one_fits kind values small h
  layout_fits (bounded_kinds {kinds} are few) values small h = omega (arith, few, bounded-len bytes (place + len) kinds place values (place + len) are h)

-- ---- empty data

-- every value but options takes bytes
abbrev is_never_empty : Kind → Bool
is_never_empty Options = false
is_never_empty kind = true

abbrev takes_bytes : List Kind → Bool
takes_bytes [] = false
takes_bytes (kind ∷ kinds) = is_never_empty kind

module _ (bytes : List ℕ) (place : ℕ) where
  some_strings : (strings : List (List ℕ)) (end : ℕ) → strings ≢ [] → ItemsUpTo (StringAt bytes) (place + 0) place strings end → ⊥
  some_strings [] end none h = none refl
  some_strings (x ∷ xs) end none h = omega (arith, items-ahead (StringAt bytes) h)

  some_bytes : (bs : List ℕ) → bs ≢ [] → place + length bs ≤ place → ⊥
  some_bytes [] none e = none refl
  some_bytes (x ∷ xs) none e = omega (arith, e)

  no_value : (kind : Kind) (value : ValueOf kind) (end : ℕ) → is_never_empty kind ≡ true → IsSoundValue kind value → ValueAt bytes (place + 0) kind place value end → end ≤ place → ⊥
  no_value Strings value end takes sound h none = some_strings value end sound.0 h
  no_value Options value end takes sound h none = absurd (cc)
  no_value Opaque value end takes sound h none = some_bytes value sound (omega (arith, h.0.ends, none))
  no_value kind value end takes sound h none = omega (arith, value_ahead bytes (place + 0) kind place value end refl h, none)

  pub no_values : (kinds : List Kind) (values : Values kinds) → takes_bytes kinds ≡ true → AreSoundValues kinds values → ValuesAt bytes (place + 0) kinds place values (place + 0) → ⊥
  no_values [] values takes sound h = absurd (cc)
  no_values (kind ∷ kinds) values takes sound h = no_value kind values.0 h.0 takes sound.0 h.1 (omega (arith, values_onward bytes (place + 0) kinds h.0 values.1 (place + 0) h.2))
