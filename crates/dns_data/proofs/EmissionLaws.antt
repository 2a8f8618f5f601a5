-- Writing fields one after another.
use Rattle.std.proofs.Common.{◌≡◌, ℕ, ◌+◌, ◌<◌, Bool, List, [], ◌∷◌, ◌++◌, length, get_or, take, drop, flat_map, Result, Ok, Err, sym, ap, subst, ◌∙◌}
use Rattle.std.proofs.lemmas.Grind.{flat_map-append}
use Rattle.std.proofs.lemmas.List.{append-nil, take_more, take-append-drop}
use Rattle.dns_wire.specs.declared.error.EncodeError.{EncodeError}
use Rattle.dns_wire.specs.declared.name_encoding.RDataEncoding.{RDataEncoding}
use Rattle.dns_wire.specs.Encoder.{EncoderState, IsAtEnd}
use Rattle.dns_wire.specs.Encodable.{Piece, name_piece, Emits, AreWritable}
use Rattle.dns_wire.proofs.PieceLaws.{emits_then, emits_stop, append_pieces-end, writable-append}
use Rattle.dns_data.specs.Field.{OptionValue, string_pieces, option_pieces}

pub emits_end : (old new : EncoderState) (ps : List Piece) → IsAtEnd old → Emits old ps (Ok tt) new → IsAtEnd new
emits_end old new ps end e = subst (λ (w : EncoderState). IsAtEnd w) (sym e.ok) (append_pieces-end old ps end)

-- pieces were written, and then more, or a part of them
pub then_emits : (old mid new : EncoderState) (ps qs : List Piece) (r : Result (Unit {0}) EncodeError) → IsAtEnd old → Emits old ps (Ok tt) mid → (IsAtEnd mid → Emits mid qs r new) → Emits old (ps ++ qs) r new
then_emits old mid new ps qs r end a b = emits_then old mid new ps qs r end a (b (emits_end old mid ps end a))

pub same_form : (old new : EncoderState) (ps : List Piece) → Emits old ps (Ok tt) new → new.canonical ≡ old.canonical
same_form old new ps e = ap (λ (w : EncoderState). w.canonical) e.ok

-- a name after other pieces
pub then_name : (old mid new : EncoderState) (ps : List Piece) (kind : RDataEncoding) (labels : List (List ℕ)) (r : Result (Unit {0}) EncodeError) → IsAtEnd old → Emits old ps (Ok tt) mid → Emits mid (name_piece kind mid.canonical labels ∷ []) r new
    → Emits old (ps ++ name_piece kind old.canonical labels ∷ []) r new
then_name old mid new ps kind labels r end a b =
    emits_then old mid new ps (name_piece kind old.canonical labels ∷ []) r end a (subst (λ (f : Bool). Emits mid (name_piece kind f labels ∷ []) r new) (same_form old mid ps a) b)

pub writable_name : (old mid : EncoderState) (ps : List Piece) (kind : RDataEncoding) (labels : List (List ℕ)) → Emits old ps (Ok tt) mid → AreWritable (name_piece kind mid.canonical labels ∷ []) → AreWritable (name_piece kind old.canonical labels ∷ [])
writable_name old mid ps kind labels a are = subst (λ (f : Bool). AreWritable (name_piece kind f labels ∷ [])) (same_form old mid ps a) are

-- ---- items one after another

module _ {X : Type 0} (pieces : X → List Piece) where
  -- the pieces of the first items, and of the next
  pieces_next : (xs : List X) (i : ℕ) (d : X) → i < length xs → flat_map pieces (take (i + 1) xs) ≡ flat_map pieces (take i xs) ++ pieces (get_or xs i d)
  pieces_next xs i d lt = ap (λ (ys : List X). flat_map pieces ys) (take_more xs i d lt) ∙ flat_map-append pieces (take i xs) (get_or xs i d ∷ []) ∙ ap (λ (ps : List Piece). flat_map pieces (take i xs) ++ ps) (append-nil (pieces (get_or xs i d)))

  emits_next : (old mid new : EncoderState) (xs : List X) (i : ℕ) (d : X) → IsAtEnd old → i < length xs → Emits old (flat_map pieces (take i xs)) (Ok tt) mid → Emits mid (pieces (get_or xs i d)) (Ok tt) new → Emits old (flat_map pieces (take (i + 1) xs)) (Ok tt) new
  emits_next old mid new xs i d end lt so_far e =
      subst (λ (ps : List Piece). Emits old ps (Ok tt) new) (sym (pieces_next xs i d lt)) (emits_then old mid new (flat_map pieces (take i xs)) (pieces (get_or xs i d)) (Ok tt) end so_far e)

  emits_fails : (old mid new : EncoderState) (xs : List X) (i : ℕ) (d : X) (error : EncodeError) → IsAtEnd old → i < length xs → Emits old (flat_map pieces (take i xs)) (Ok tt) mid → Emits mid (pieces (get_or xs i d)) (Err error) new → Emits old (flat_map pieces xs) (Err error) new
  emits_fails old mid new xs i d error end lt so_far e =
      let first : List Piece = flat_map pieces (take i xs) ++ pieces (get_or xs i d) in
      let more : List Piece = flat_map pieces (drop (i + 1) xs) in
      let all : first ++ more ≡ flat_map pieces xs = ap (λ (ps : List Piece). ps ++ more) (sym (pieces_next xs i d lt)) ∙ sym (flat_map-append pieces (take (i + 1) xs) (drop (i + 1) xs)) ∙ ap (λ (ys : List X). flat_map pieces ys) (take-append-drop (i + 1) xs) in
      subst (λ (ps : List Piece). Emits old ps (Err error) new) all (emits_stop old new first more error (emits_then old mid new (flat_map pieces (take i xs)) (pieces (get_or xs i d)) (Err error) end so_far e))

  -- the same of an item that is equal to the one at the index
  pub item_emitted : (old mid new : EncoderState) (xs : List X) (i : ℕ) (x d : X) → x ≡ get_or xs i d → IsAtEnd old → i < length xs → Emits old (flat_map pieces (take i xs)) (Ok tt) mid → (IsAtEnd mid → Emits mid (pieces x) (Ok tt) new) → Emits old (flat_map pieces (take (i + 1) xs)) (Ok tt) new
  item_emitted old mid new xs i x d same end lt so_far e =
      emits_next old mid new xs i d end lt so_far (subst (λ (y : X). Emits mid (pieces y) (Ok tt) new) same (e (emits_end old mid (flat_map pieces (take i xs)) end so_far)))

  pub item_refused : (old mid new : EncoderState) (xs : List X) (i : ℕ) (x d : X) (error : EncodeError) → x ≡ get_or xs i d → IsAtEnd old → i < length xs → Emits old (flat_map pieces (take i xs)) (Ok tt) mid → (IsAtEnd mid → Emits mid (pieces x) (Err error) new) → Emits old (flat_map pieces xs) (Err error) new
  item_refused old mid new xs i x d error same end lt so_far e =
      emits_fails old mid new xs i d error end lt so_far (subst (λ (y : X). Emits mid (pieces y) (Err error) new) same (e (emits_end old mid (flat_map pieces (take i xs)) end so_far)))

  pub pieces_writable : ((x : X) → AreWritable (pieces x)) → (xs : List X) → AreWritable (flat_map pieces xs)
  pieces_writable each [] = tt
  pieces_writable each (x ∷ xs) = writable-append (pieces x) (flat_map pieces xs) (each x) (pieces_writable each xs)

pub strings_writable : (strings : List (List ℕ)) → AreWritable (flat_map string_pieces strings ++ [])
strings_writable strings = writable-append (flat_map string_pieces strings) [] (pieces_writable string_pieces (λ x. (tt, (tt, tt))) strings) tt

pub options_writable : (options : List OptionValue) → AreWritable (flat_map option_pieces options ++ [])
options_writable options = writable-append (flat_map option_pieces options) [] (pieces_writable option_pieces (λ x. (tt, (tt, (tt, tt)))) options) tt
