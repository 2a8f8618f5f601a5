-- Writing step by step.
use Rattle.std.proofs.Common.{◌≡◌, ℕ, ◌+◌, refl, List, [], ◌∷◌, ◌++◌, drop, get_or, Result, Ok, Err, sym, ap, subst, ◌∙◌}
use Rattle.std.specs.Prelude.{IfErr}
use Rattle.dns_wire.specs.declared.error.EncodeError.{EncodeError}
use Rattle.dns_wire.specs.declared.error.EncodeError.TheVariants.{MaxBufferSizeExceeded}
use Rattle.dns_wire.specs.Encoder.{EncoderState, IsAtEnd}
use Rattle.dns_wire.specs.Encodable.{Piece, Domain, Position, position_of, piece_next, after, Emits, AreWritable}
use Rattle.dns_wire.specs.declared.codes.record_type.RecordType.{RecordType}
use Rattle.dns_wire.specs.declared.codes.dns_class.DNSClass.{DNSClass}
use Rattle.dns_records.specs.Emit.{pieces_behind_owner}
use Rattle.dns_wire.proofs.PieceLaws.{emits_then, emits_stop, emits_none, append_pieces-end, position_of-append_pieces, writable-append}

pub emits_end : (old new : EncoderState) (ps : List Piece) → IsAtEnd old → Emits old ps (Ok tt) new → IsAtEnd new
emits_end old new ps end e = subst (λ (w : EncoderState). IsAtEnd w) (sym e.ok) (append_pieces-end old ps end)

-- pieces were written, and then more, or a part of them
pub then_emits : (old mid new : EncoderState) (ps qs : List Piece) (r : Result (Unit {0}) EncodeError) → IsAtEnd old → Emits old ps (Ok tt) mid → (IsAtEnd mid → Emits mid qs r new) → Emits old (ps ++ qs) r new
then_emits old mid new ps qs r end a b = emits_then old mid new ps qs r end a (b (emits_end old mid ps end a))

-- ---- item by item

-- what is written now completes what is to be written
pub record Underway (old now : EncoderState) (all left : List Piece) : Type 0 where
  pub at_end : IsAtEnd now
  pub completes : (r : Result (Unit {0}) EncodeError) (new : EncoderState) → Emits now left r new → Emits old all r new
  pub writable : AreWritable left → AreWritable all

pub begins : (w : EncoderState) (all : List Piece) → IsAtEnd w → Underway w w all all
begins w all end = record { at_end = end; completes = λ r new e. e; writable = λ is. is }

pub goes_on : (old now next : EncoderState) (all ps left : List Piece) → Underway old now all (ps ++ left) → Emits now ps (Ok tt) next → AreWritable ps → Underway old next all left
goes_on old now next all ps left u e is = record {
  at_end = emits_end now next ps u.at_end e;
  completes = λ r new more. u.completes r new (emits_then now next new ps left r u.at_end e more);
  writable = λ more. u.writable (writable-append ps left is more);
}

pub stops : (old now new : EncoderState) (all ps left : List Piece) (error : EncodeError) → Underway old now all (ps ++ left) → Emits now ps (Err error) new → Emits old all (Err error) new
stops old now new all ps left error u e = u.completes (Err error) new (emits_stop now new ps left error e)

pub ends : (old now : EncoderState) (all : List Piece) → Underway old now all [] → Emits old all (Ok tt) now
ends old now all u = u.completes (Ok tt) now (emits_none now)

-- how far the writing has come behind what was written
pub sofar-behind : (old new : EncoderState) (ps : List Piece) → Emits old ps (Ok tt) new → position_of new ≡ after (position_of old) ps
sofar-behind old new ps e = ap position_of e.ok ∙ position_of-append_pieces old ps

-- the next item of a list, in front of the others
pub front : {A : Type 0} (xs : List A) (i : ℕ) (x : A) → x ≡ get_or xs i x → drop i xs ≡ get_or xs i x ∷ drop (i + 1) xs → drop i xs ≡ x ∷ drop (i + 1) xs
front xs i x is e = e ∙ ap (λ y. y ∷ drop (i + 1) xs) (sym is)

-- what can be refused for size alone, and isn't, is done
pub never_refused : (P : Type 0) (r : Result (Unit {0}) EncodeError) → IfErr r (λ error. (error ≡ MaxBufferSizeExceeded) × P) → (r ≡ Err MaxBufferSizeExceeded → ⊥) → r ≡ Ok tt
never_refused P (Ok u) e never = refl
never_refused P (Err error) e never = absurd (never (ap (λ (x : EncodeError). Err x) e.0))

-- an owner was written, and then what follows it
pub owner_then : (old mid new : EncoderState) (labels : List (List ℕ)) (kind : RecordType) (class : DNSClass) (ttl : ℕ) (ds : Position → List Piece) (r : Result (Unit {0}) EncodeError) → IsAtEnd old → Emits old (Domain labels ∷ []) (Ok tt) mid → (IsAtEnd mid → Emits mid (pieces_behind_owner (position_of mid) kind class ttl ds) r new) → Emits old (Domain labels ∷ pieces_behind_owner (piece_next (position_of old) (Domain labels)) kind class ttl ds) r new
owner_then old mid new labels kind class ttl ds r end a b = then_emits old mid new (Domain labels ∷ []) (pieces_behind_owner (piece_next (position_of old) (Domain labels)) kind class ttl ds) r end a (λ at_end. subst (λ (s : Position). Emits mid (pieces_behind_owner s kind class ttl ds) r new) (sofar-behind old mid (Domain labels ∷ []) a) (b at_end))
