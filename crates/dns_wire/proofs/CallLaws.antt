-- What is written over a list of calls.
use Rattle.std.proofs.Common.{◌≡◌, ℕ, ◌+◌, ◌<◌, ◌≤◌, ◌⊎◌, inl, inr, List, [], ◌∷◌, ◌++◌, length, take, drop, refl, sym, ap, subst, ◌∙◌, append_assoc, arith, length-append, length-drop}
use Rattle.std.specs.Borrow.{GName}
use Rattle.std.specs.List.{AllByRecursion}
use Rattle.std.proofs.lemmas.List.{take-append-le, take_all, drop-append-le, append-nil, take-append-drop, length-take-le}
use Rattle.dns_wire.specs.declared.name_encoding.NameEncoding.{NameEncoding}
use Rattle.dns_wire.specs.Encoder.{Suffix, EncoderState, IsAtEnd, put_at, suffixes_before, trim_to_offset}
use Rattle.dns_wire.specs.Writing.{IsPointerTarget, ArePointerTargets}
use Rattle.dns_wire.specs.Encodable.{Piece, Plain, Position, position_of, piece_form, form, append_pieces, PieceAt, IsWritable, AreWritable, AllBehind}
use Rattle.dns_wire.specs.Laws.{Part, Surviving, Lost, begin_piece, append_lost, state_after, IsLost, piece_target, TargetSurvives, TargetsSurvive, push_pieces, Calls, no_call, call_write, call_write_lost, call_roll_back, call_go_back, call_fill, call_set_mode, SurvivorsDecode, ArePointerTargetsUnlessLost}
use Rattle.dns_wire.proofs.SuffixLaws.{suffixes_before-before, all_weaker, all-suffixes_before, all-rejoin, suffixes_before-behind}
use Rattle.dns_wire.proofs.CompressionLaws.{unless_lost-append}
use Rattle.dns_wire.proofs.PieceLaws.{after-place, append_pieces-append, append_pieces-none, append_pieces-end, piece_at-append, suffixes_before-after, piece_target-canonical, append_pieces-canonical, piece_decodes, piece-behind, targets-behind, roll_back-restores, take-shorter}
use Rattle.dns_wire.proofs.FillLaws.{fills}

-- ---- the parts

-- each name is one that leads past what is lost, and what is remembered behind lost bytes began there or was remembered before
abbrev AreSound : EncoderState → List Part → Type 0
AreSound old [] = Unit {0}
AreSound old (Surviving encoding attempts piece ∷ earlier) = IsWritable piece × TargetSurvives (IsLost old earlier) (piece_target (position_of (begin_piece (state_after old earlier) encoding attempts)) piece) × AreSound old earlier
AreSound old (Lost bytes suffixes ∷ earlier) =
    (suffixes_before (state_after old earlier).offset suffixes ≡ suffixes_before (state_after old earlier).offset (state_after old earlier).suffixes)
    × AllByRecursion (λ s. s.start < (state_after old earlier).offset + length bytes) suffixes × AreSound old earlier

parts-end : (old : EncoderState) (parts : List Part) → IsAtEnd old → IsAtEnd (state_after old parts)
parts-end old [] end = end
parts-end old (Surviving encoding attempts piece ∷ earlier) end = append_pieces-end (begin_piece (state_after old earlier) encoding attempts) (piece ∷ []) (parts-end old earlier end)
parts-end old (Lost bytes suffixes ∷ earlier) end = omega (arith, parts-end old earlier end, length-append (state_after old earlier).bytes bytes)

parts-behind : (old : EncoderState) (parts : List Part) → AllBehind (position_of old) → AreSound old parts → AllBehind (position_of (state_after old parts))
parts-behind old [] behind are = behind
parts-behind old (Surviving encoding attempts piece ∷ earlier) behind are = piece-behind (position_of (begin_piece (state_after old earlier) encoding attempts)) piece (parts-behind old earlier behind are.2)
parts-behind old (Lost bytes suffixes ∷ earlier) behind are = are.1

-- a piece is read where it stands, and what is remembered then stands
part-decodes : (lost : ℕ → Type 0) (w : EncoderState) (piece : Piece) → IsAtEnd w → ArePointerTargetsUnlessLost lost w.bytes w.suffixes → AllBehind (position_of w) → IsWritable piece → TargetSurvives lost (piece_target (position_of w) piece)
    → PieceAt w.encoding (append_pieces w (piece ∷ [])).bytes w.offset piece (append_pieces w (piece ∷ [])).offset × ArePointerTargetsUnlessLost lost (append_pieces w (piece ∷ [])).bytes (append_pieces w (piece ∷ [])).suffixes
part-decodes lost w piece end stand behind is clear =
    let one = piece_decodes lost w.bytes (position_of w) piece end stand behind is clear in
    let same : w.bytes ++ piece_form (position_of w) piece ≡ (append_pieces w (piece ∷ [])).bytes = ap (λ (xs : List ℕ). w.bytes ++ xs) (sym (append-nil (piece_form (position_of w) piece))) in (
      subst (λ (xs : List ℕ). PieceAt w.encoding xs w.offset piece (append_pieces w (piece ∷ [])).offset) same one.0,
      subst (λ (xs : List ℕ). ArePointerTargetsUnlessLost lost xs (append_pieces w (piece ∷ [])).suffixes) same one.1,
    )

parts-targets : (old : EncoderState) (parts : List Part) → IsAtEnd old → ArePointerTargets old.bytes old.suffixes → AreSound old parts → ArePointerTargetsUnlessLost (IsLost old parts) (state_after old parts).bytes (state_after old parts).suffixes
parts-targets old [] end stand are = all_weaker {P = IsPointerTarget old.bytes} {Q = λ s. IsLost old [] s.start ⊎ IsPointerTarget old.bytes s} (λ s q. inr q) old.suffixes stand
parts-targets old (Surviving encoding attempts piece ∷ earlier) end stand are =
    (part-decodes (IsLost old earlier) (begin_piece (state_after old earlier) encoding attempts) piece (parts-end old earlier end) (parts-targets old earlier end stand are.2) (parts-behind old earlier (targets-behind old end stand) are.2) are.0 are.1).1
parts-targets old (Lost bytes suffixes ∷ earlier) end stand are =
    let w : EncoderState = state_after old earlier in
    let before_it = all-suffixes_before (λ s. IsLost old earlier s.start ⊎ IsPointerTarget (w.bytes ++ bytes) s) w.offset w.suffixes (unless_lost-append (IsLost old earlier) w.bytes bytes w.suffixes (parts-targets old earlier end stand are.2)) in
    all-rejoin {P = λ s. IsLost old earlier s.start ⊎ IsPointerTarget (w.bytes ++ bytes) s} {Q = λ s. IsLost old (Lost bytes suffixes ∷ earlier) s.start ⊎ IsPointerTarget (w.bytes ++ bytes) s} w.offset (w.offset + length bytes) suffixes
    (subst (λ (ss : List Suffix). AllByRecursion (λ s. IsLost old earlier s.start ⊎ IsPointerTarget (w.bytes ++ bytes) s) ss) (sym are.0) before_it) are.1 front (λ s from to. inl (inl (from, to)))
  where
    front : (s : Suffix) → IsLost old earlier s.start ⊎ IsPointerTarget ((state_after old earlier).bytes ++ bytes) s → IsLost old (Lost bytes suffixes ∷ earlier) s.start ⊎ IsPointerTarget ((state_after old earlier).bytes ++ bytes) s
    front s (inl is_lost) = inl (inr is_lost)
    front s (inr is_target) = inr is_target

read_again-append : (old : EncoderState) (parts : List Part) (bytes more : List ℕ) → SurvivorsDecode old parts bytes → SurvivorsDecode old parts (bytes ++ more)
read_again-append old [] bytes more h = h
read_again-append old (Surviving encoding attempts piece ∷ earlier) bytes more h = (
  piece_at-append encoding bytes more (state_after old earlier).offset piece (state_after old (Surviving encoding attempts piece ∷ earlier)).offset h.0,
  read_again-append old earlier bytes more h.1,
)
read_again-append old (Lost lost suffixes ∷ earlier) bytes more h = read_again-append old earlier bytes more h

parts-read : (old : EncoderState) (parts : List Part) → IsAtEnd old → ArePointerTargets old.bytes old.suffixes → AreSound old parts → SurvivorsDecode old parts (state_after old parts).bytes
parts-read old [] end stand are = tt
parts-read old (Surviving encoding attempts piece ∷ earlier) end stand are =
    let w : EncoderState = begin_piece (state_after old earlier) encoding attempts in (
      (part-decodes (IsLost old earlier) w piece (parts-end old earlier end) (parts-targets old earlier end stand are.2) (parts-behind old earlier (targets-behind old end stand) are.2) are.0 are.1).0,
      read_again-append old earlier w.bytes (form (position_of w) (piece ∷ [])) (parts-read old earlier end stand are.2),
    )
parts-read old (Lost bytes suffixes ∷ earlier) end stand are = read_again-append old earlier (state_after old earlier).bytes bytes (parts-read old earlier end stand are.2)

-- ---- going back

-- what lies before a place is still there, and nothing more is remembered before it
record Keeps (front w : EncoderState) : Type 0 where
  bytes : take front.offset w.bytes ≡ front.bytes
  suffixes : suffixes_before front.offset w.suffixes ≡ suffixes_before front.offset front.suffixes
  on : front.offset ≤ w.offset
  end : IsAtEnd w
  lender : w.lender ≡ front.lender

keeps-more : (front w : EncoderState) (encoding : NameEncoding) (attempts : ℕ) (ps : List Piece) → Keeps front w → Keeps front (append_pieces (begin_piece w encoding attempts) ps)
keeps-more front w encoding attempts ps k =
    let s : Position = position_of (begin_piece w encoding attempts) in
    record {
      bytes = take-append-le front.offset w.bytes (form s ps) (omega (arith, k.on, k.end)) ∙ k.bytes;
      suffixes = suffixes_before-after front.offset s ps k.on ∙ k.suffixes;
      on = omega (arith, k.on, after-place s ps);
      end = append_pieces-end (begin_piece w encoding attempts) ps k.end;
      lender = k.lender;
    }

keeps-lost : (front w : EncoderState) (bytes : List ℕ) (suffixes : List Suffix) → suffixes_before w.offset suffixes ≡ suffixes_before w.offset w.suffixes → Keeps front w → Keeps front (append_lost w bytes suffixes)
keeps-lost front w bytes suffixes same k =
    record {
      bytes = take-append-le front.offset w.bytes bytes (omega (arith, k.on, k.end)) ∙ k.bytes;
      suffixes = sym (suffixes_before-before front.offset w.offset suffixes k.on) ∙ ap (suffixes_before front.offset) same ∙ suffixes_before-before front.offset w.offset w.suffixes k.on ∙ k.suffixes;
      on = omega (arith, k.on);
      end = omega (arith, k.end, length-append w.bytes bytes);
      lender = k.lender;
    }

keeps-self : (w : EncoderState) → IsAtEnd w → Keeps w w
keeps-self w end = record { bytes = take_all w.offset w.bytes (omega (arith, end)); suffixes = refl; on = omega arith; end = end; lender = refl }

keeps-later : (old : EncoderState) (later earlier : List Part) → IsAtEnd old → AreSound old (later ++ earlier) → Keeps (state_after old earlier) (state_after old (later ++ earlier))
keeps-later old [] earlier end are = keeps-self (state_after old earlier) (parts-end old earlier end)
keeps-later old (Surviving encoding attempts piece ∷ later) earlier end are =
    keeps-more (state_after old earlier) (state_after old (later ++ earlier)) encoding attempts (piece ∷ []) (keeps-later old later earlier end are.2)
keeps-later old (Lost bytes suffixes ∷ later) earlier end are =
    keeps-lost (state_after old earlier) (state_after old (later ++ earlier)) bytes suffixes are.0 (keeps-later old later earlier end are.2)

sound-later : (old : EncoderState) (later earlier : List Part) → AreSound old (later ++ earlier) → AreSound old earlier
sound-later old [] earlier are = are
sound-later old (Surviving encoding attempts piece ∷ later) earlier are = sound-later old later earlier are.2
sound-later old (Lost bytes suffixes ∷ later) earlier are = sound-later old later earlier are.2

-- ---- filling a place

put_at-append : (place : ℕ) (b bytes more : List ℕ) → place + length b ≤ length bytes → put_at place b (bytes ++ more) ≡ put_at place b bytes ++ more
put_at-append place b bytes more within =
    let front : take place (bytes ++ more) ≡ take place bytes = take-append-le place bytes more (omega arith) in
    let rest : drop (place + length b) (bytes ++ more) ≡ drop (place + length b) bytes ++ more = drop-append-le (place + length b) bytes more within in
    rw (front, rest) (ap (λ (xs : List ℕ). take place bytes ++ xs) (sym (append_assoc b (drop (place + length b) bytes) more)) ∙ sym (append_assoc (take place bytes) (b ++ drop (place + length b) bytes) more))

-- the place lies within what was written, and what is written now is what was, with these bytes there
record Fills (place : ℕ) (b : List ℕ) (w v : EncoderState) : Type 0 where
  is : v ≡ record w { bytes = put_at place b w.bytes }
  within : place + length b ≤ length w.bytes

fills-more : (place : ℕ) (b : List ℕ) (w v : EncoderState) (encoding : NameEncoding) (attempts : ℕ) (ps : List Piece) → Fills place b w v → Fills place b (append_pieces (begin_piece w encoding attempts) ps) (append_pieces (begin_piece v encoding attempts) ps)
fills-more place b w v encoding attempts ps f =
    let f' : List ℕ = form (position_of (begin_piece w encoding attempts)) ps in
    record {
      is = ap (λ (x : EncoderState). append_pieces (begin_piece x encoding attempts) ps) f.is ∙ ap (λ (xs : List ℕ). record (append_pieces (begin_piece w encoding attempts) ps) { bytes = xs }) (sym (put_at-append place b w.bytes f' f.within));
      within = omega (arith, f.within, length-append w.bytes f');
    }

fills-lost : (place : ℕ) (b : List ℕ) (w v : EncoderState) (bytes : List ℕ) (suffixes : List Suffix) → Fills place b w v → Fills place b (append_lost w bytes suffixes) (append_lost v bytes suffixes)
fills-lost place b w v bytes suffixes f =
    record {
      is = ap (λ (x : EncoderState). append_lost x bytes suffixes) f.is ∙ ap (λ (xs : List ℕ). record (append_lost w bytes suffixes) { bytes = xs }) (sym (put_at-append place b w.bytes bytes f.within));
      within = omega (arith, f.within, length-append w.bytes bytes);
    }

fills-later : (old : EncoderState) (later : List Part) (encoding : NameEncoding) (attempts : ℕ) (a b : List ℕ) (earlier : List Part) → IsAtEnd old → length a ≡ length b
    → Fills (state_after old earlier).offset b (state_after old (later ++ Surviving encoding attempts (Plain a) ∷ earlier)) (state_after old (later ++ Surviving encoding attempts (Plain b) ∷ earlier))
fills-later old [] encoding attempts a b earlier end len =
    let w : EncoderState = begin_piece (state_after old earlier) encoding attempts in
    let ends : IsAtEnd w = parts-end old earlier end in
    record {
      is = sym (fills w [] [] a b w.offset ends len refl);
      within = omega (arith, len, ends, length-append a [], length-append w.bytes (a ++ []));
    }
fills-later old (Surviving e n piece ∷ later) encoding attempts a b earlier end len =
    fills-more (state_after old earlier).offset b _ _ e n (piece ∷ []) (fills-later old later encoding attempts a b earlier end len)
fills-later old (Lost bytes suffixes ∷ later) encoding attempts a b earlier end len =
    fills-lost (state_after old earlier).offset b _ _ bytes suffixes (fills-later old later encoding attempts a b earlier end len)

lost-filled : (old : EncoderState) (later : List Part) (encoding : NameEncoding) (attempts : ℕ) (a b : List ℕ) (earlier : List Part) (place : ℕ) → IsAtEnd old → length a ≡ length b
    → IsLost old (later ++ Surviving encoding attempts (Plain b) ∷ earlier) place → IsLost old (later ++ Surviving encoding attempts (Plain a) ∷ earlier) place
lost-filled old [] encoding attempts a b earlier place end len is_lost = is_lost
lost-filled old (Surviving e n piece ∷ later) encoding attempts a b earlier place end len is_lost = lost-filled old later encoding attempts a b earlier place end len is_lost
lost-filled old (Lost bytes suffixes ∷ later) encoding attempts a b earlier place end len (inl here) =
    inl (subst (λ (x : EncoderState). (x.offset ≤ place) × (place < x.offset + length bytes)) (fills-later old later encoding attempts a b earlier end len).is here)
lost-filled old (Lost bytes suffixes ∷ later) encoding attempts a b earlier place end len (inr is_lost) = inr (lost-filled old later encoding attempts a b earlier place end len is_lost)

sound-filled : (old : EncoderState) (later : List Part) (encoding : NameEncoding) (attempts : ℕ) (a b : List ℕ) (earlier : List Part) → IsAtEnd old → length a ≡ length b
    → AreSound old (later ++ Surviving encoding attempts (Plain a) ∷ earlier) → AreSound old (later ++ Surviving encoding attempts (Plain b) ∷ earlier)
sound-filled old [] encoding attempts a b earlier end len are = are
sound-filled old (Surviving e n piece ∷ later) encoding attempts a b earlier end len are =
    let f = fills-later old later encoding attempts a b earlier end len in
    let clear = subst (λ (x : EncoderState). TargetSurvives (IsLost old (later ++ Surviving encoding attempts (Plain a) ∷ earlier)) (piece_target (position_of (begin_piece x e n)) piece)) (sym f.is) are.1 in
    (are.0, λ target is is_lost. clear target is (lost-filled old later encoding attempts a b earlier target end len is_lost), sound-filled old later encoding attempts a b earlier end len are.2)
sound-filled old (Lost bytes suffixes ∷ later) encoding attempts a b earlier end len are =
    let f = fills-later old later encoding attempts a b earlier end len in (
      subst (λ (x : EncoderState). suffixes_before x.offset suffixes ≡ suffixes_before x.offset x.suffixes) (sym f.is) are.0,
      subst (λ (x : EncoderState). AllByRecursion (λ s. s.start < x.offset + length bytes) suffixes) (sym f.is) are.1,
      sound-filled old later encoding attempts a b earlier end len are.2,
    )

-- ---- what the calls lead to

-- but for the modes, the size and the names begun it is what the parts give
record Agrees (old : EncoderState) (parts : List Part) (w : EncoderState) : Type 0 where
  bytes : w.bytes ≡ (state_after old parts).bytes
  offset : w.offset ≡ (state_after old parts).offset
  suffixes : w.suffixes ≡ (state_after old parts).suffixes
  lender : w.lender ≡ (state_after old parts).lender
  sound : AreSound old parts

agrees-is : {old : EncoderState} {parts : List Part} {w : EncoderState} → Agrees old parts w → w ≡ record (state_after old parts) { limit = w.limit; encoding = w.encoding; canonical = w.canonical; attempts = w.attempts }
agrees-is {old} {parts} {w} g =
    ap (λ (xs : List ℕ). record w { bytes = xs }) g.bytes ∙ ap (λ (n : ℕ). record w { bytes = (state_after old parts).bytes; offset = n }) g.offset
    ∙ ap (λ (ss : List Suffix). record w { bytes = (state_after old parts).bytes; offset = (state_after old parts).offset; suffixes = ss }) g.suffixes
    ∙ ap (λ (l : GName). record (state_after old parts) { limit = w.limit; encoding = w.encoding; canonical = w.canonical; attempts = w.attempts; lender = l }) g.lender

agrees-end : {old : EncoderState} {parts : List Part} {w : EncoderState} → IsAtEnd old → Agrees old parts w → IsAtEnd w
agrees-end {old} {parts} {w} end g = g.offset ∙ parts-end old parts end ∙ ap length (sym g.bytes)

agrees-behind : {old : EncoderState} {parts : List Part} {w : EncoderState} → AllBehind (position_of old) → Agrees old parts w → AllBehind (position_of w)
agrees-behind {old} {parts} {w} behind g =
    subst (λ (n : ℕ). AllByRecursion (λ x. x.start < n) w.suffixes) (sym g.offset)
    (subst (λ (ss : List Suffix). AllByRecursion (λ x. x.start < (state_after old parts).offset) ss) (sym g.suffixes) (parts-behind old parts behind g.sound))

agrees-targets : {old : EncoderState} {parts : List Part} {w : EncoderState} → IsAtEnd old → ArePointerTargets old.bytes old.suffixes → Agrees old parts w → ArePointerTargetsUnlessLost (IsLost old parts) w.bytes w.suffixes
agrees-targets {old} {parts} {w} end stand g =
    subst (λ (xs : List ℕ). ArePointerTargetsUnlessLost (IsLost old parts) xs w.suffixes) (sym g.bytes)
    (subst (λ (ss : List Suffix). ArePointerTargetsUnlessLost (IsLost old parts) (state_after old parts).bytes ss) (sym g.suffixes) (parts-targets old parts end stand g.sound))

agrees-piece : {old : EncoderState} {parts : List Part} {w : EncoderState} (piece : Piece) → Agrees old parts w → IsWritable piece → TargetSurvives (IsLost old parts) (piece_target (position_of w) piece)
    → Agrees old (Surviving w.encoding w.attempts piece ∷ parts) (append_pieces w (piece ∷ []))
agrees-piece {old} {parts} {w} piece g is clear =
    let begun : EncoderState = begin_piece (state_after old parts) w.encoding w.attempts in
    let same : append_pieces w (piece ∷ []) ≡ record (append_pieces (record begun { limit = w.limit }) (piece ∷ [])) { canonical = w.canonical } =
    ap (λ (v : EncoderState). append_pieces v (piece ∷ [])) (agrees-is g) ∙ append_pieces-canonical (record begun { limit = w.limit }) w.canonical piece in
    let clear' : TargetSurvives (IsLost old parts) (piece_target (position_of begun) piece) =
    subst (TargetSurvives (IsLost old parts)) (piece_target-canonical (position_of begun) w.canonical piece) (subst (λ (v : EncoderState). TargetSurvives (IsLost old parts) (piece_target (position_of v) piece)) (agrees-is g) clear) in
    record {
      bytes = ap (λ (v : EncoderState). v.bytes) same;
      offset = ap (λ (v : EncoderState). v.offset) same;
      suffixes = ap (λ (v : EncoderState). v.suffixes) same;
      lender = ap (λ (v : EncoderState). v.lender) same;
      sound = (is, clear', g.sound);
    }

agrees-pieces : {old : EncoderState} {parts : List Part} (w : EncoderState) (pieces : List Piece) → Agrees old parts w → AreWritable pieces → TargetsSurvive (IsLost old parts) w pieces → Agrees old (push_pieces w pieces parts) (append_pieces w pieces)
agrees-pieces {old} {parts} w [] g are clear = subst (Agrees old parts) (sym (append_pieces-none w)) g
agrees-pieces {old} {parts} w (piece ∷ pieces) g are clear =
    let one = agrees-piece piece g are.0 clear.0 in
    subst (Agrees old (push_pieces (append_pieces w (piece ∷ [])) pieces (Surviving w.encoding w.attempts piece ∷ parts))) (append_pieces-append w (piece ∷ []) pieces) (agrees-pieces (append_pieces w (piece ∷ [])) pieces one are.1 clear.1)

agrees-in_vain : {old : EncoderState} {parts : List Part} {w new : EncoderState} (piece : Piece) → AllBehind (position_of old) → Agrees old parts w → new ≡ append_pieces w (piece ∷ []) → Agrees old (Lost (piece_form (position_of w) piece) new.suffixes ∷ parts) new
agrees-in_vain {old} {parts} {w} {new} piece behind g e =
    let bytes : List ℕ = piece_form (position_of w) piece in
    let place : ℕ = (state_after old parts).offset in
    let suffixes : new.suffixes ≡ (append_pieces w (piece ∷ [])).suffixes = ap (λ (v : EncoderState). v.suffixes) e in
    let behind' : AllByRecursion (λ x. x.start < w.offset + length bytes) (append_pieces w (piece ∷ [])).suffixes = piece-behind (position_of w) piece (agrees-behind behind g) in
    record {
      bytes = ap (λ (v : EncoderState). v.bytes) e ∙ ap (λ (xs : List ℕ). w.bytes ++ xs) (append-nil bytes) ∙ ap (λ (xs : List ℕ). xs ++ bytes) g.bytes;
      offset = ap (λ (v : EncoderState). v.offset) e ∙ ap (λ (n : ℕ). n + length bytes) g.offset;
      suffixes = refl;
      lender = ap (λ (v : EncoderState). v.lender) e ∙ g.lender;
      sound = (
        ap (suffixes_before place) suffixes ∙ suffixes_before-after place (position_of w) (piece ∷ []) (omega (arith, g.offset)) ∙ ap (suffixes_before place) g.suffixes,
        subst (λ (n : ℕ). AllByRecursion (λ x. x.start < n + length bytes) new.suffixes) g.offset (subst (λ (ss : List Suffix). AllByRecursion (λ x. x.start < w.offset + length bytes) ss) (sym suffixes) behind'),
        g.sound,
      );
    }

agrees-back : {old : EncoderState} {w new : EncoderState} (place : ℕ) (later earlier : List Part) → IsAtEnd old → Agrees old (later ++ earlier) w → (state_after old earlier).offset ≤ place → place ≤ w.offset
    → new ≡ trim_to_offset (record w { offset = place }) → Agrees old (Lost (drop (state_after old earlier).offset new.bytes) new.suffixes ∷ earlier) new
agrees-back {old} {w} {new} place later earlier end g from to e =
    let front : EncoderState = state_after old earlier in
    let k = keeps-later old later earlier end g.sound in
    let bytes : new.bytes ≡ take place w.bytes = ap (λ (v : EncoderState). v.bytes) e in
    let offset : new.offset ≡ place = ap (λ (v : EncoderState). v.offset) e in
    let suffixes : new.suffixes ≡ suffixes_before place w.suffixes = ap (λ (v : EncoderState). v.suffixes) e in
    let unchanged : take front.offset new.bytes ≡ front.bytes = ap (take front.offset) bytes ∙ take-shorter front.offset place w.bytes from ∙ ap (take front.offset) g.bytes ∙ k.bytes in
    let at_end : IsAtEnd w = agrees-end end g in
    let len : length new.bytes ≡ place = ap length bytes ∙ length-take-le place w.bytes (omega (arith, to, at_end)) in
    let ends : front.offset + length (drop front.offset new.bytes) ≡ place = omega (arith, length-drop front.offset new.bytes, len, from) in
    record {
      bytes = sym (take-append-drop front.offset new.bytes) ∙ ap (λ (xs : List ℕ). xs ++ drop front.offset new.bytes) unchanged;
      offset = offset ∙ sym ends;
      suffixes = refl;
      lender = ap (λ (v : EncoderState). v.lender) e ∙ g.lender ∙ k.lender;
      sound = (
        ap (suffixes_before front.offset) suffixes ∙ suffixes_before-before front.offset place w.suffixes from ∙ ap (suffixes_before front.offset) g.suffixes ∙ k.suffixes,
        subst (λ (n : ℕ). AllByRecursion (λ x. x.start < n) new.suffixes) (sym ends) (subst (λ (ss : List Suffix). AllByRecursion (λ x. x.start < place) ss) (sym suffixes) (suffixes_before-behind place w.suffixes)),
        sound-later old later earlier g.sound,
      );
    }

agrees-filled : {old : EncoderState} {w new : EncoderState} (later : List Part) (encoding : NameEncoding) (attempts : ℕ) (a b : List ℕ) (earlier : List Part) → IsAtEnd old → Agrees old (later ++ Surviving encoding attempts (Plain a) ∷ earlier) w
    → length a ≡ length b → new ≡ record w { bytes = put_at (state_after old earlier).offset b w.bytes } → Agrees old (later ++ Surviving encoding attempts (Plain b) ∷ earlier) new
agrees-filled {old} {w} {new} later encoding attempts a b earlier end g len is =
    let f = fills-later old later encoding attempts a b earlier end len in
    record {
      bytes = ap (λ (v : EncoderState). v.bytes) is ∙ ap (put_at (state_after old earlier).offset b) g.bytes ∙ sym (ap (λ (v : EncoderState). v.bytes) f.is);
      offset = ap (λ (v : EncoderState). v.offset) is ∙ g.offset ∙ sym (ap (λ (v : EncoderState). v.offset) f.is);
      suffixes = ap (λ (v : EncoderState). v.suffixes) is ∙ g.suffixes ∙ sym (ap (λ (v : EncoderState). v.suffixes) f.is);
      lender = ap (λ (v : EncoderState). v.lender) is ∙ g.lender ∙ sym (ap (λ (v : EncoderState). v.lender) f.is);
      sound = sound-filled old later encoding attempts a b earlier end len g.sound;
    }

calls-agree : {old : EncoderState} {parts : List Part} {w : EncoderState} → IsAtEnd old → ArePointerTargets old.bytes old.suffixes → Calls old parts w → Agrees old parts w
calls-agree end stand no_call = record { bytes = refl; offset = refl; suffixes = refl; lender = refl; sound = tt }
calls-agree {old} end stand (call_write {parts} {w} {new} pieces calls e are clear) =
    subst (Agrees old (push_pieces w pieces parts)) (sym e) (agrees-pieces w pieces (calls-agree end stand calls) are clear)
calls-agree {old} end stand (call_write_lost {parts} {w} {new} piece calls e) = agrees-in_vain piece (targets-behind old end stand) (calls-agree end stand calls) e
calls-agree {old} end stand (call_roll_back {parts} {w} {refused} {new} calls back cut) =
    let g = calls-agree end stand calls in
    let at_end : IsAtEnd w = agrees-end end g in
    let is : new ≡ record w { attempts = refused.attempts } = cut ∙ roll_back-restores w refused at_end (agrees-behind (targets-behind old end stand) g) back in
    record {
      bytes = ap (λ (v : EncoderState). v.bytes) is ∙ g.bytes;
      offset = ap (λ (v : EncoderState). v.offset) is ∙ g.offset;
      suffixes = ap (λ (v : EncoderState). v.suffixes) is ∙ g.suffixes;
      lender = ap (λ (v : EncoderState). v.lender) is ∙ g.lender;
      sound = g.sound;
    }
calls-agree {old} end stand (call_go_back {w} {new} place later earlier calls from to e) = agrees-back place later earlier end (calls-agree end stand calls) from to e
calls-agree {old} end stand (call_fill {w} {new} later encoding attempts a b earlier calls len is) = agrees-filled later encoding attempts a b earlier end (calls-agree end stand calls) len is
calls-agree {old} end stand (call_set_mode {parts} {w} {new} encoding canonical limit attempts calls is) =
    let g = calls-agree end stand calls in
    record {
      bytes = ap (λ (v : EncoderState). v.bytes) is ∙ g.bytes;
      offset = ap (λ (v : EncoderState). v.offset) is ∙ g.offset;
      suffixes = ap (λ (v : EncoderState). v.suffixes) is ∙ g.suffixes;
      lender = ap (λ (v : EncoderState). v.lender) is ∙ g.lender;
      sound = g.sound;
    }

pub calls-read : (old w : EncoderState) (parts : List Part) → IsAtEnd old → ArePointerTargets old.bytes old.suffixes → Calls old parts w
    → (w.bytes ≡ (state_after old parts).bytes) × IsAtEnd w × ArePointerTargetsUnlessLost (IsLost old parts) w.bytes w.suffixes × SurvivorsDecode old parts w.bytes
calls-read old w parts end stand calls =
    let g = calls-agree end stand calls in
    (g.bytes, agrees-end end g, agrees-targets end stand g, subst (SurvivorsDecode old parts) (sym g.bytes) (parts-read old parts end stand g.sound))
