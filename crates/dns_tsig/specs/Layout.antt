-- Where the TSIG record of a message is (RFC 8945 section 5.1).
use Rattle.std.specs.Prelude.{ℕ, ◌+◌, ◌-◌, ◌≤◌, ◌==◌, nat_lt, if◌then◌else◌, List, length, drop, Option, Some, None}
use Rattle.dns_tsig.specs.Numbers.{number_at}
use Rattle.dns_tsig.specs.Skip.{after_fields, after_name, after_questions, after_records, is_tsig}
use Rattle.dns_tsig.specs.declared.layout.Layout.{Layout}
use Rattle.dns_tsig.specs.declared.layout.Layout.TheVariants.{Unsigned, Signed, Malformed}

-- a message whose records can be skipped, and are no TSIG records, is unsigned
abbrev pub plain_layout : Option (List ℕ) → Layout
plain_layout (Some rest) = Unsigned
plain_layout None = Malformed

-- the layout of a message, from the bytes after the owner of the last record
abbrev pub fields_layout : List ℕ → List ℕ → Option (List ℕ) → Layout
fields_layout message last None = Malformed
fields_layout message last (Some fields) =
    if is_tsig fields then Signed (12 + (length message - 12 - length last)) else plain_layout (after_fields fields)

-- the layout of a message, from its last record on
abbrev pub last_layout : List ℕ → List ℕ → Layout
last_layout message last = fields_layout message last (after_name last)

-- the layout of a message, from its last record on, if those before it can be skipped
abbrev pub end_layout : List ℕ → Option (List ℕ) → Layout
end_layout message None = Malformed
end_layout message (Some last) = last_layout message last

-- The layout of a message, from its records on. ANCOUNT and NSCOUNT are the numbers of records before the additional section,
-- and ARCOUNT that of the records in it (RFC 1035 section 4.1.1).
abbrev pub records_layout : List ℕ → List ℕ → Layout
records_layout message records =
    if number_at message 10 == 0 then plain_layout (after_records (number_at message 6 + number_at message 8) records)
    else end_layout message (after_records (number_at message 6 + number_at message 8 + (number_at message 10 - 1)) records)

-- the layout of a message, from its records on, if its questions can be skipped
abbrev pub body_layout : List ℕ → Option (List ℕ) → Layout
body_layout message None = Malformed
body_layout message (Some records) = records_layout message records

-- the layout of a message: a header of twelve bytes, the questions, and the records
abbrev pub layout_of : List ℕ → Layout
layout_of message =
    if nat_lt (length message) 12 then Malformed else body_layout message (after_questions (number_at message 4) (drop 12 message))

-- the TSIG record of a message of this length begins after the header
abbrev pub IsPlace : ℕ → Layout → Type 0
IsPlace len (Signed place) = (12 ≤ place) × (place ≤ len)
IsPlace len Unsigned = Unit {0}
IsPlace len Malformed = Unit {0}
