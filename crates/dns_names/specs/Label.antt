-- Labels (RFC 1035 sections 2.3.1 and 2.3.4, RFC 2181 section 11).
use Rattle.std.specs.Prelude.{ℕ, ◌+◌, ◌==◌, ◌≤◌, nat_lt, if◌then◌else◌, List, [], ◌∷◌, length, Option, Some, None, Result, Ok, Err}
use Rattle.dns_names.specs.Parse.{is_plain_octet}
use Rattle.dns_names.specs.declared.error.ParseError.{ParseError}
use Rattle.dns_names.specs.declared.error.ParseError.TheVariants.{LabelBytesTooLong, EmptyLabel, Text}

-- the maximum length of a label in bytes
abbrev pub max_label_len : ℕ
max_label_len = 63

-- any 1 to 63 bytes form a label
abbrev pub label_of_bytes : List ℕ → Result (List ℕ) ParseError
label_of_bytes bytes =
    if length bytes == 0 then Err EmptyLabel
    else if nat_lt max_label_len (length bytes) then Err LabelBytesTooLong
    else Ok bytes

-- the place of the first character that needs an escape, counting from `place`
abbrev pub refused_from : ℕ → List ℕ → Option ℕ
refused_from place [] = None
refused_from place (c ∷ cs) = if is_plain_octet (place == 0) c then refused_from (place + 1) cs else Some place

-- a text in which no character needs an escape is the label of its bytes
abbrev pub label_of_text : List ℕ → Result (List ℕ) ParseError
label_of_text text = elim (label_of_bytes text) [
  | Ok bytes ↦ elim (refused_from 0 text) [ None ↦ Ok bytes | Some place ↦ Err (Text place) ]
  | Err error ↦ Err error
]

-- an outcome that takes no memory: an error, or a label of at most 24 bytes, which are stored inline
abbrev pub IsInlineLabel : Result (List ℕ) ParseError → Type 0
IsInlineLabel (Ok label) = length label ≤ 24
IsInlineLabel (Err error) = Unit {0}
