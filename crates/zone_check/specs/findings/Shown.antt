-- The characters of a file, as a report shows them.
use Rattle.std.specs.Prelude.{◌==◌, ◌&&◌, ◌||◌, ◌/◌, ◌%◌, ◌+◌, nat_lt, not, if◌then◌else◌, ℕ, Bool, length, List, [], ◌∷◌, ◌++◌, take, flat_map, codes}
use Rattle.std.specs.Char.{encode_utf8}
use Rattle.std.specs.Str.{chars}
use Rattle.zone_check.specs.declared.findings.format.ReportFormat.{ReportFormat}
use Rattle.zone_check.specs.declared.findings.format.ReportFormat.TheVariants.{Text, Json}

-- whether a number is from one to another
abbrev pub is_within : ℕ → ℕ → ℕ → Bool
is_within low high n = not (nat_lt n low) && not (nat_lt high n)

-- A character on which a terminal may act: a control character other than a tab (C0, DEL, C1), a mark or an override of the
-- direction of text, a separator of lines, one that is not visible, or a byte-order mark.
abbrev pub is_unsafe : ℕ → Bool
is_unsafe c =
    is_within 0 8 c || is_within 10 31 c || is_within 127 159 c || c == 0x61C || is_within 0x200B 0x200F c
    || is_within 0x2028 0x202E c || is_within 0x2060 0x206F c || c == 0xFEFF

-- the digit of a value below 16
abbrev pub hex_digit : ℕ → ℕ
hex_digit value = if nat_lt value 10 then 48 + value else 87 + value

-- the number of a character with four digits
abbrev pub hex_text : ℕ → List ℕ
hex_text c = hex_digit (c / 4096 % 16) ∷ hex_digit (c / 256 % 16) ∷ hex_digit (c / 16 % 16) ∷ hex_digit (c % 16) ∷ []

-- a character: `\u{001b}` for one on which a terminal may act; in JSON `\u001b`, also for a tab, and `\"` and `\\` (RFC 8259
-- section 7)
abbrev pub shown_char : ReportFormat → ℕ → List ℕ
shown_char Text c = if is_unsafe c then codes "\\u{" ++ hex_text c ++ codes "}" else encode_utf8 c
shown_char Json c =
    if c == 34 then codes "\\\"" else (if c == 92 then codes "\\\\"
    else (if c == 9 || is_unsafe c then codes "\\u" ++ hex_text c else encode_utf8 c))

-- a text of a file
abbrev pub shown : ReportFormat → List ℕ → List ℕ
shown format text = flat_map (shown_char format) (chars text)

-- the first 60 characters of a text of a file, and three dots if there are more
abbrev pub front_shown : ReportFormat → List ℕ → List ℕ
front_shown format text =
    if nat_lt 60 (length (chars text)) then flat_map (shown_char format) (take 60 (chars text)) ++ codes "..."
    else shown format text
