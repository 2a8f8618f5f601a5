-- Names, questions and records that are skipped (RFC 1035 sections 4.1.2 to 4.1.4).
use Rattle.std.specs.Prelude.{ℕ, zero, suc, ◌==◌, ◌&&◌, nat_le, nat_lt, if◌then◌else◌, Bool, List, [], ◌∷◌, length, drop, Option, Some, None, option_and_then}
use Rattle.dns_tsig.specs.Numbers.{number_at}

-- the bytes from the end of a name's labels on, of whose current label k bytes are left
abbrev pub after_labels : ℕ → List ℕ → List ℕ
after_labels k [] = []
after_labels zero (code ∷ bytes) = if nat_lt 0 code && nat_lt code 64 then after_labels code bytes else code ∷ bytes
after_labels (suc k) (byte ∷ bytes) = after_labels k bytes

-- the bytes after the low byte of a pointer
abbrev pub after_low : List ℕ → Option (List ℕ)
after_low [] = None
after_low (low ∷ bytes) = Some bytes

-- the bytes after the zero byte or the pointer that ends a name
abbrev pub after_end : List ℕ → Option (List ℕ)
after_end [] = None
after_end (code ∷ bytes) = if code == 0 then Some bytes else if nat_lt code 192 then None else after_low bytes

-- the bytes after the zero byte that ends a name
abbrev pub after_closing : List ℕ → Option (List ℕ)
after_closing [] = None
after_closing (code ∷ bytes) = if code == 0 then Some bytes else None

-- the bytes after a name
abbrev pub after_name : List ℕ → Option (List ℕ)
after_name bytes = after_end (after_labels 0 bytes)

-- the bytes after a name without pointers
abbrev pub after_plain_name : List ℕ → Option (List ℕ)
after_plain_name bytes = after_closing (after_labels 0 bytes)

-- the bytes after the first ones
abbrev pub after_bytes : ℕ → List ℕ → Option (List ℕ)
after_bytes len bytes = if nat_lt (length bytes) len then None else Some (drop len bytes)

-- the bytes after a question: a name, and four bytes of its type and class
abbrev pub after_question : List ℕ → Option (List ℕ)
after_question bytes = option_and_then (after_bytes 4) (after_name bytes)

-- the bytes after questions
abbrev pub after_questions : ℕ → List ℕ → Option (List ℕ)
after_questions zero bytes = Some bytes
after_questions (suc count) bytes = option_and_then (after_questions count) (after_question bytes)

-- whether a record is a TSIG record, from the bytes after its owner
abbrev pub is_tsig : List ℕ → Bool
is_tsig fields = nat_le 2 (length fields) && number_at fields 0 == 250

-- the bytes after a record, from those after its owner: ten bytes, of which the last two have the length of its data
abbrev pub after_fields : List ℕ → Option (List ℕ)
after_fields fields = if nat_lt (length fields) 10 then None else after_bytes (number_at fields 8) (drop 10 fields)

-- the bytes after a record that is not a TSIG record, from those after its owner
abbrev pub after_plain_fields : List ℕ → Option (List ℕ)
after_plain_fields fields = if is_tsig fields then None else after_fields fields

-- the bytes after a record that is not a TSIG record
abbrev pub after_plain_record : List ℕ → Option (List ℕ)
after_plain_record bytes = option_and_then after_plain_fields (after_name bytes)

-- the bytes after records of which none is a TSIG record
abbrev pub after_records : ℕ → List ℕ → Option (List ℕ)
after_records zero bytes = Some bytes
after_records (suc count) bytes = option_and_then (after_records count) (after_plain_record bytes)
