-- How long encodings are.
use Rattle.std.proofs.Common.{◌≡◌, ℕ, ◌+◌, ◌<◌, ◌≤◌, false, suc, List, [], ◌∷◌, ◌++◌, length, drop, get_or, flat_map, refl, sym, ap, ◌∙◌, arith, length-append}
use Rattle.std.proofs.Math.Seq.{drop-cons}
use Rattle.dns_wire.specs.Encodable.{Piece, Plain, Domain, Whole, Position, start_position, piece_form, piece_next, form}
use Rattle.dns_wire.specs.declared.name_encoding.NameEncoding.TheVariants.{Uncompressed}
use Rattle.dns_wire.proofs.NameLaws.{length-whole_form}
use Rattle.dns_wire.proofs.PieceLaws.{form-encoding}
use Rattle.dns_wire.proofs.SectionLaws.{piece_max_len, pieces_max_len, name_form-most}
use Rattle.dns_data.specs.Field.{OptionValue, Kind, Values, option_form, value_pieces, values_pieces, values_len}
use Rattle.dns_data.specs.rdata.OPT.{opt_kinds, opt_values}
use Rattle.dns_data.specs.rdata.TXT.{txt_kinds, txt_values}
use Rattle.dns_data.specs.Wire.{ItemsUpTo, no_more_items, one_more_item}

pub pieces_max_len-append : (ps qs : List Piece) → pieces_max_len (ps ++ qs) ≡ pieces_max_len ps + pieces_max_len qs
pieces_max_len-append [] qs = omega arith
pieces_max_len-append (p ∷ ps) qs = omega (arith, pieces_max_len-append ps qs)

piece_form-most : (s : Position) (p : Piece) → length (piece_form s p) ≤ piece_max_len p
piece_form-most s (Plain bytes) = omega arith
piece_form-most s (Domain labels) = name_form-most s labels
piece_form-most s (Whole labels) = omega (arith, length-whole_form labels)

-- an encoding is no longer than with every name uncompressed
pub form-most : (s : Position) (ps : List Piece) → length (form s ps) ≤ pieces_max_len ps
form-most s [] = omega arith
form-most s (p ∷ ps) = omega (arith, piece_form-most s p, form-most (piece_next s p) ps, length-append (piece_form s p) (form (piece_next s p) ps))

abbrev pub whole_position : Position
whole_position = record start_position { encoding = Uncompressed }

piece_form-whole : (p : Piece) → length (piece_form whole_position p) ≡ piece_max_len p
piece_form-whole (Plain bytes) = refl
piece_form-whole (Domain labels) = length-whole_form labels
piece_form-whole (Whole labels) = length-whole_form labels

-- and as long without compression
pub form-whole : (ps : List Piece) → length (form whole_position ps) ≡ pieces_max_len ps
form-whole [] = refl
form-whole (p ∷ ps) =
    let next : Position = piece_next whole_position p in
    let more = ap (λ (xs : List ℕ). length xs) (form-encoding next whole_position ps refl refl) in
    omega (arith, piece_form-whole p, form-whole ps, more, length-append (piece_form whole_position p) (form next ps))

-- items that are plain bytes take their length
pub items_len : {Item : Type 0} (ItemAt : ℕ → Item → ℕ → Type 0) (pieces : Item → List Piece) → ((place : ℕ) (x : Item) (end : ℕ) → ItemAt place x end → place + pieces_max_len (pieces x) ≡ end)
    → {data_end place end : ℕ} {xs : List Item} → ItemsUpTo ItemAt data_end place xs end → place + pieces_max_len (flat_map pieces xs) ≡ end
items_len ItemAt pieces each (no_more_items stop) = omega arith
items_len ItemAt pieces each {place = place} (one_more_item {middle = m} {item = x} {items = xs} less there more) =
    omega (arith, each place x m there, items_len ItemAt pieces each more, pieces_max_len-append (pieces x) (flat_map pieces xs))

-- ---- values

pub values_len-pieces : (kinds : List Kind) (values : Values kinds) → values_len kinds values ≡ pieces_max_len (values_pieces false kinds values)
values_len-pieces kinds values = form-whole (values_pieces false kinds values)

pub values_len-cons : (kind : Kind) (kinds : List Kind) (values : Values (kind ∷ kinds)) → values_len (kind ∷ kinds) values ≡ values_len (kind ∷ []) (values.0, tt) + values_len kinds values.1
values_len-cons kind kinds values =
    omega (arith, values_len-pieces (kind ∷ kinds) values, values_len-pieces (kind ∷ []) (values.0, tt), values_len-pieces kinds values.1, pieces_max_len-append (value_pieces false kind values.0) (values_pieces false kinds values.1), pieces_max_len-append (value_pieces false kind values.0) [])

string_first : (string : List ℕ) (strings : List (List ℕ)) → values_len txt_kinds (txt_values (string ∷ strings)) ≡ (1 + length string) + values_len txt_kinds (txt_values strings)
string_first string strings = omega (arith, values_len-pieces txt_kinds (txt_values (string ∷ strings)), values_len-pieces txt_kinds (txt_values strings))

pub string_further : (strings : List (List ℕ)) (i len n whole : ℕ) (string d : List ℕ) → string ≡ get_or strings i d → n ≡ length string → i < length strings
    → len + values_len txt_kinds (txt_values (drop i strings)) ≡ whole → (len + (1 + n)) + values_len txt_kinds (txt_values (drop (i + 1) strings)) ≡ whole
string_further strings i len n whole string d is same within e =
    let next : suc i ≡ i + 1 = omega arith in
    let here : drop i strings ≡ string ∷ drop (i + 1) strings = drop-cons strings i d within ∙ ap (λ (k : ℕ). get_or strings i d ∷ drop k strings) next ∙ ap (λ (x : List ℕ). x ∷ drop (i + 1) strings) (sym is) in
    let split : values_len txt_kinds (txt_values (drop i strings)) ≡ (1 + length string) + values_len txt_kinds (txt_values (drop (i + 1) strings)) =
    ap (λ (l : List (List ℕ)). values_len txt_kinds (txt_values l)) here ∙ string_first string (drop (i + 1) strings) in
    omega (arith, split, e, same)

pub options_len : (options : List OptionValue) → length (flat_map option_form options) ≡ values_len opt_kinds (opt_values options)
options_len [] = refl
options_len (o ∷ os) =
    omega (arith, options_len os, length-append (option_form o) (flat_map option_form os), values_len-pieces opt_kinds (opt_values (o ∷ os)), values_len-pieces opt_kinds (opt_values os))
