use Rattle.std.proofs.Common.{◌≡◌, ℕ, List, [], ◌∷◌, ◌++◌, ◌+◌, ◌≤◌, refl, ap, subst, ◌∙◌, arith, Result, Ok}
use Rattle.std.specs.Int.{w16, w32, to_be_bytes}
use Rattle.std.proofs.lemmas.Result.{err_from_is_err_and}
use Rattle.dns_wire.specs.codes.RecordType.{type_number}
use Rattle.dns_wire.specs.declared.codes.record_type.RecordType.{RecordType}
use Rattle.dns_wire.specs.codes.DNSClass.{class_number}
use Rattle.dns_wire.specs.declared.codes.dns_class.DNSClass.{DNSClass}
use Rattle.dns_wire.specs.Encoder.{state_of, EncoderState, IsAtEnd, put_at}
use Rattle.dns_wire.specs.Encodable.{Piece, Plain, Domain, Whole, Position, position_of, piece_next, piece_reach, after, reach, Emits}
use Rattle.dns_wire.specs.declared.error.EncodeError.{EncodeError}
use Rattle.dns_wire.specs.Place.{place_start}
use Rattle.dns_wire.proofs.PieceLaws.{after-place}
use Rattle.dns_wire.proofs.FillLaws.{emits_filled, refused_same_len, place_within}
use Rattle.dns_records.specs.Emit.{fixed_pieces, data_position, len_of}
use Rattle.dns_records.proofs.Steps.{then_emits, never_refused, sofar-behind}
use Rattle.dns_records.proofs.emit.emit_behind_owner.Goals as goal

abbrev zeros : List Piece
zeros = Plain (0 ∷ 0 ∷ []) ∷ []

-- the data after the two zeros, which are filled later
abbrev unfilled : Position → RecordType → DNSClass → ℕ → (Position → List Piece) → List Piece
unfilled s kind class ttl ds = fixed_pieces kind class ttl ++ Plain (0 ∷ 0 ∷ []) ∷ ds (data_position s kind class ttl)

-- the length of the data
abbrev len_bytes : Position → RecordType → DNSClass → ℕ → (Position → List Piece) → List ℕ
len_bytes s kind class ttl ds = to_be_bytes w16 (len_of (data_position s kind class ttl) (ds (data_position s kind class ttl)))

-- fixed fields, zeros and data
all_emits : (old fixed here new : EncoderState) (kind : RecordType) (class : DNSClass) (ttl : ℕ) (ds : Position → List Piece) (r : Result (Unit {0}) EncodeError) → IsAtEnd old → Emits old (fixed_pieces kind class ttl) (Ok tt) fixed → (IsAtEnd fixed → Emits fixed zeros (Ok tt) here) → (IsAtEnd here → Emits here (ds (position_of here)) r new) → Emits old (unfilled (position_of old) kind class ttl ds) r new
all_emits old fixed here new kind class ttl ds r end a b e =
    let head = then_emits old fixed here (fixed_pieces kind class ttl) zeros (Ok tt) end a b in
    then_emits old here new (fixed_pieces kind class ttl ++ zeros) (ds (data_position (position_of old) kind class ttl)) r end head (λ at_end. subst (λ (s : Position). Emits here (ds s) r new) (sofar-behind old here (fixed_pieces kind class ttl ++ zeros) head) (e at_end))

piece-within : (s : Position) (p : Piece) → (piece_next s p).place ≤ piece_reach s p
piece-within s (Plain bytes) = omega arith
piece-within s (Domain labels) = omega arith
piece-within s (Whole labels) = omega arith

-- pieces end within their reach
after-within : (s : Position) (p : Piece) (ps : List Piece) → (after s (p ∷ ps)).place ≤ reach s (p ∷ ps)
after-within s p [] = omega (arith, piece-within s p)
after-within s p (q ∷ qs) = omega (arith, after-within (piece_next s p) q qs)

-- what was written ends within the limit
within_limit : (old mid : EncoderState) (kind : RecordType) (class : DNSClass) (ttl : ℕ) (ds : Position → List Piece) → Emits old (unfilled (position_of old) kind class ttl ds) (Ok tt) mid → mid.offset ≤ mid.limit
within_limit old mid kind class ttl ds all =
    let limit : mid.limit ≡ old.limit = ap (λ (w : EncoderState). w.limit) all.ok in
    let end : mid.offset ≡ (after (position_of old) (unfilled (position_of old) kind class ttl ds)).place = ap (λ (w : EncoderState). w.offset) all.ok in
    let front : List Piece = Plain (to_be_bytes w16 (class_number class)) ∷ Plain (to_be_bytes w32 ttl) ∷ Plain (0 ∷ 0 ∷ []) ∷ ds (data_position (position_of old) kind class ttl) in
    omega (arith, limit, end, all.room, after-within (position_of old) (Plain (to_be_bytes w16 (type_number kind))) front)

-- how far the data reaches, by the place of its length
ends_after : (old fixed here mid : EncoderState) (kind : RecordType) (class : DNSClass) (ttl : ℕ) (ds : Position → List Piece) → IsAtEnd old → Emits old (fixed_pieces kind class ttl) (Ok tt) fixed → (IsAtEnd fixed → Emits fixed zeros (Ok tt) here) → (IsAtEnd here → Emits here (ds (position_of here)) (Ok tt) mid) → mid.offset ≡ fixed.offset + 2 + len_of (data_position (position_of old) kind class ttl) (ds (data_position (position_of old) kind class ttl))
ends_after old fixed here mid kind class ttl ds end a b e =
    let all = all_emits old fixed here mid kind class ttl ds (Ok tt) end a b e in
    let offset : mid.offset ≡ (after (position_of old) (unfilled (position_of old) kind class ttl ds)).place = ap (λ (w : EncoderState). w.offset) all.ok in
    let before : fixed.offset ≡ (after (position_of old) (fixed_pieces kind class ttl)).place = ap (λ (w : EncoderState). w.offset) a.ok in
    omega (arith, offset, before, after-place (data_position (position_of old) kind class ttl) (ds (data_position (position_of old) kind class ttl)))

pub returns-in_err-emit-clause-emits : goal.returns-in_err-emit-clause-emits
returns-in_err-emit-clause-emits g c =
    let p = err_from_is_err_and c.from_residual-in_err-emit.result c.from_residual-in_err-emit.ensures.1 in
    let old = state_of c.args.encoder.now in
    let ds : Position → List Piece = g.D.BinEncodable.pieces c.args.rdata.now in
    let all = all_emits old (state_of c.emit_fixed.new.encoder) (state_of c.place.new.self) (state_of c.emit.new.encoder) c.args.record_type c.args.dns_class c.args.ttl ds _ c.requires c.in_ok-emit_fixed.ensures c.in_ok-place.ensures.zeros.at_end (λ end. c.in_err-emit.ensures.emits) in
    rw (p.1, p.2) (refused_same_len old (state_of c.emit.new.encoder) (fixed_pieces c.args.record_type c.args.dns_class c.args.ttl) (ds (data_position (position_of old) c.args.record_type c.args.dns_class c.args.ttl)) (0 ∷ 0 ∷ []) (len_bytes (position_of old) c.args.record_type c.args.dns_class c.args.ttl ds) _ refl all)

pub len_since_place-len-requires : goal.len_since_place-len-requires
len_since_place-len-requires g c =
    let old = state_of c.args.encoder.now in
    let ds : Position → List Piece = g.D.BinEncodable.pieces c.args.rdata.now in
    omega (arith, c.in_ok-place.ensures.start, ends_after old (state_of c.emit_fixed.new.encoder) (state_of c.place.new.self) (state_of c.emit.new.encoder) c.args.record_type c.args.dns_class c.args.ttl ds c.requires c.in_ok-emit_fixed.ensures c.in_ok-place.ensures.zeros.at_end (λ end. c.in_ok-emit.ensures.emits))

pub overflow_cast-len : goal.overflow_cast-len
overflow_cast-len g c =
    let old = state_of c.args.encoder.now in
    let mid = state_of c.emit.new.encoder in
    let ds : Position → List Piece = g.D.BinEncodable.pieces c.args.rdata.now in
    let all = all_emits old (state_of c.emit_fixed.new.encoder) (state_of c.place.new.self) mid c.args.record_type c.args.dns_class c.args.ttl ds (Ok tt) c.requires c.in_ok-emit_fixed.ensures c.in_ok-place.ensures.zeros.at_end (λ end. c.in_ok-emit.ensures.emits) in
    omega (arith, c.len_since_place-len.ensures.value, c.len_since_place-len.ensures.small, within_limit old mid c.args.record_type c.args.dns_class c.args.ttl ds all)

pub returns-clause-emits : goal.returns-clause-emits
returns-clause-emits g c =
    let old = state_of c.args.encoder.now in
    let mid = state_of c.emit.new.encoder in
    let start = place_start c.in_ok-place.place in
    let kind = c.args.record_type in
    let class = c.args.dns_class in
    let ttl = c.args.ttl in
    let fixed = fixed_pieces kind class ttl in
    let ds : Position → List Piece = g.D.BinEncodable.pieces c.args.rdata.now in
    let there : List Piece = ds (data_position (position_of old) kind class ttl) in
    let all = all_emits old (state_of c.emit_fixed.new.encoder) (state_of c.place.new.self) mid kind class ttl ds (Ok tt) c.requires c.in_ok-emit_fixed.ensures c.in_ok-place.ensures.zeros.at_end (λ end. c.in_ok-emit.ensures.emits) in
    let ends = ends_after old (state_of c.emit_fixed.new.encoder) (state_of c.place.new.self) mid kind class ttl ds c.requires c.in_ok-emit_fixed.ensures c.in_ok-place.ensures.zeros.at_end (λ end. c.in_ok-emit.ensures.emits) in
    let place : start ≡ (after (position_of old) fixed).place = c.in_ok-place.ensures.start ∙ ap (λ (w : EncoderState). w.offset) c.in_ok-emit_fixed.ensures.ok in
    let limit : mid.limit ≡ old.limit = ap (λ (w : EncoderState). w.limit) all.ok in
    let fits = place_within old.limit (position_of old) fixed there (0 ∷ 0 ∷ []) all.room in
    let done : c.replace.result ≡ Ok tt = never_refused _ c.replace.result c.replace.ensures.err (λ e. omega (arith, c.replace.ensures.full.0 e, place, fits, limit)) in
    let len : c.len_since_place-len.result ≡ len_of (data_position (position_of old) kind class ttl) there = omega (arith, c.len_since_place-len.ensures.value, c.in_ok-place.ensures.start, ends) in
    let wrote = rw done at c.replace.ensures.ok in
    let value : state_of c.replace.new.encoder ≡ record mid { bytes = put_at start (len_bytes (position_of old) kind class ttl ds) mid.bytes } =
    wrote ∙ ap (λ (n : ℕ). record mid { bytes = put_at start (to_be_bytes w16 n) mid.bytes }) len in
    rw done (emits_filled old mid (state_of c.replace.new.encoder) fixed there (0 ∷ 0 ∷ []) (len_bytes (position_of old) kind class ttl ds) start c.requires refl place all value)
