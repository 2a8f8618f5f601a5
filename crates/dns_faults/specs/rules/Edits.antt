-- Edits of the bytes of a reply (RFC 1035 sections 4.1.1 and 4.1.2).
use Rattle.std.specs.Prelude.{◌==◌, ◌+◌, ◌*◌, ◌/◌, ◌%◌, ◌&&◌, ◌||◌, ◌++◌, not, nat_le, nat_lt, if◌then◌else◌, Bool, List, ℕ, length, take, replicate, slice_index, slice_set}
use Rattle.std.specs.Int.{w16, to_be_bytes}

-- the bytes with the 16-bit number at a place greater by one, modulo 65,536
abbrev pub with_next_number : ℕ → List ℕ → List ℕ
with_next_number place bytes =
    let next = (256 * slice_index bytes place + slice_index bytes (place + 1) + 1) % 65536 in
    slice_set (slice_set bytes place (next / 256)) (place + 1) (next % 256)

-- the id is the number in the first two bytes (RFC 1035 section 4.1.1)
abbrev pub with_wrong_id : List ℕ → List ℕ
with_wrong_id bytes = if nat_le 2 (length bytes) then with_next_number 0 bytes else bytes

-- QDCOUNT, in the fifth and sixth byte, is not 0, and a question of at least five bytes follows the twelve of the header
abbrev pub has_question : List ℕ → Bool
has_question bytes = nat_le 17 (length bytes) && (not (slice_index bytes 4 == 0) || not (slice_index bytes 5 == 0))

-- another octet for a label: `y` for `x` and `X`, and `x` for any other
abbrev pub other_octet : ℕ → ℕ
other_octet c = if c == 120 || c == 88 then 121 else 120

-- The question follows the header (RFC 1035 section 4.1.2). Its first byte is 0 for the root, whose type follows, and otherwise
-- the length of the first label.
abbrev pub with_wrong_question : List ℕ → List ℕ
with_wrong_question bytes =
    if has_question bytes then
    (if slice_index bytes 12 == 0 then with_next_number 13 bytes
    else if nat_lt (slice_index bytes 12) 64 then slice_set bytes 13 (other_octet (slice_index bytes 13))
    else bytes)
    else bytes

-- the id, and then 0xFF, cut to a length
abbrev pub garbage : ℕ → ℕ → List ℕ
garbage id len = take len (to_be_bytes w16 id ++ replicate len 255)
