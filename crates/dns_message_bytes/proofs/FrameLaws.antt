-- Filling a buffer, and the frames of a stream.
use Rattle.std.proofs.Common.{◌≡◌, ℕ, ◌+◌, ◌*◌, ◌/◌, ◌%◌, ◌-◌, ◌<◌, ◌≤◌, List, [], ◌∷◌, ◌++◌, length, take, get_or, refl, sym, ap, ◌∙◌, subst, arith}
use Rattle.std.proofs.lemmas.List.{append_assoc, length-append, length-drop, length-take, take-append-le}
use Rattle.std.proofs.Math.Seq.{take-append-add}
use borrow.Rule.Slice.PartMut.{put_mid, post_of}
use Rattle.dns_message_bytes.specs.frames.Frame.{frame, stream_of, AreShort, ReadsAll}

-- ---- a buffer

pub put-length : (filled : ℕ) (buffer part : List ℕ) → filled ≤ length buffer → length part ≡ length buffer - filled → length (put_mid filled (length buffer - filled) buffer part) ≡ length buffer
put-length filled buffer part within len = omega (arith, length-append {A = ℕ}, length-take {A = ℕ}, length-drop {A = ℕ})

-- the bytes of a further read follow those before
pub more_filled : (filled count : ℕ) (buffer part old mid new : List ℕ) → filled ≤ length buffer → count ≤ length part → old ≡ take filled buffer ++ mid → mid ≡ take count part ++ new → old ≡ take (filled + count) (put_mid filled (length buffer - filled) buffer part) ++ new
more_filled filled count buffer part old mid new within some e f =
    let k : ℕ = length buffer - filled in
    let len : length (take filled buffer) ≡ filled = omega (arith, length-take {A = ℕ}) in
    let taken : take (filled + count) (put_mid filled k buffer part) ≡ take filled buffer ++ take count part =
    ap (λ (n : ℕ). take (n + count) (put_mid filled k buffer part)) (sym len)
    ∙ take-append-add (take filled buffer) (part ++ post_of filled k buffer) count
    ∙ ap (λ (l : List ℕ). take filled buffer ++ l) (take-append-le count part (post_of filled k buffer) some) in
    e ∙ ap (λ (l : List ℕ). take filled buffer ++ l) f ∙ sym (append_assoc (take filled buffer) (take count part) new) ∙ ap (λ (l : List ℕ). l ++ new) (sym taken)

-- ---- a frame

-- a message of the length that was read is that of the frame
pub whole_frame : (old mid new buffer message : List ℕ) → length buffer ≡ 2 → get_or buffer 1 0 < 256 → old ≡ take 2 buffer ++ mid → length message ≡ get_or buffer 0 0 * 256 + get_or buffer 1 0 → mid ≡ message ++ new → old ≡ frame message ++ new
whole_frame old mid new (a ∷ b ∷ []) message len small front size rest =
    let high : a ≡ length message / 256 = omega (arith, small, size) in
    let low : b ≡ length message % 256 = omega (arith, small, size) in
    cc (front, high, low, rest)
whole_frame old mid new [] message len small front size rest = absurd (omega (arith, len))
whole_frame old mid new (a ∷ []) message len small front size rest = absurd (omega (arith, len))
whole_frame old mid new (a ∷ b ∷ c ∷ more) message len small front size rest = absurd (omega (arith, len))

-- ---- a stream

-- the first byte of a frame and the second tell its length
one_length : (a b : ℕ) → a / 256 ≡ b / 256 → a % 256 ≡ b % 256 → a ≡ b
one_length a b e f = omega arith

same_front : (xs ys more others : List ℕ) → length xs ≡ length ys → xs ++ more ≡ ys ++ others → (xs ≡ ys) × (more ≡ others)
same_front [] [] more others len e = (refl, e)
same_front [] (y ∷ ys) more others len e = absurd (omega (arith, len))
same_front (x ∷ xs) [] more others len e = absurd (omega (arith, len))
same_front (x ∷ xs) (y ∷ ys) more others len e =
    let heads : x ≡ y = cc in
    let tails : xs ++ more ≡ ys ++ others = cc in
    let rest = same_front xs ys more others (omega (arith, len)) tails in
    (cc (heads, rest.0), rest.1)

-- a stream has one first message
pub one_frame : (a b more others : List ℕ) → frame a ++ more ≡ frame b ++ others → (a ≡ b) × (more ≡ others)
one_frame a b more others e =
    let high : length a / 256 ≡ length b / 256 = cc in
    let low : length a % 256 ≡ length b % 256 = cc in
    let rest : a ++ more ≡ b ++ others = cc in
    same_front a b more others (one_length (length a) (length b) high low) rest

-- a stream is read as one list of messages
pub same_messages : (stream : List ℕ) (messages others : List (List ℕ)) → ReadsAll stream messages → ReadsAll stream others → messages ≡ others
same_messages stream [] [] reads reads' = refl
same_messages stream [] (other ∷ others) reads (new, (found, more)) = absurd (let e : [] ≡ frame other ++ new = sym reads.0 ∙ found.1 in cc)
same_messages stream (message ∷ messages) [] (new, (found, more)) reads = absurd (let e : [] ≡ frame message ++ new = sym reads.0 ∙ found.1 in cc)
same_messages stream (message ∷ messages) (other ∷ others) (new, (found, more)) (new', (found', more')) =
    let same = one_frame message other new new' (sym found.1 ∙ found'.1) in
    let rest : messages ≡ others = same_messages new' messages others (subst (λ (l : List ℕ). ReadsAll l messages) same.1 more) more' in
    cc (same.0, rest)

-- written frames are read
sent_reads : (sent : List (List ℕ)) → AreShort sent → ReadsAll (stream_of sent) sent
sent_reads [] short = (refl, refl)
sent_reads (message ∷ more) short = (stream_of more, ((short.0, refl), sent_reads more short.1))

pub read_back : (sent received : List (List ℕ)) → AreShort sent → ReadsAll (stream_of sent) received → received ≡ sent
read_back sent received short reads = same_messages (stream_of sent) received sent reads (sent_reads sent short)
