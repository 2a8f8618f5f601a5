-- Templates of `$GENERATE` (BIND's extension), and the text that they make of a number.
use Rattle.std.specs.Prelude.{ℕ, zero, suc, ◌+◌, ◌-◌, ◌==◌, ◌||◌, if◌then◌else◌, Bool, List, [], ◌∷◌, ◌++◌, take, drop, Option, Some, None, option_map, Result, Ok, Err}
use Rattle.std.specs.List.{position, position_or_len}
use Rattle.dns_wire.specs.codes.Decimal.{decimal_up_to}
use Rattle.dns_zone_file.specs.templates.Number.{form_text}
use Rattle.dns_zone_file.specs.templates.Range.{greatest}
use Rattle.dns_zone_file.specs.declared.templates.form.Base.{Base}
use Rattle.dns_zone_file.specs.declared.templates.form.Base.TheVariants.{Decimal, Octal, LowerHex, UpperHex, LowerNibbles, UpperNibbles}
use Rattle.dns_zone_file.specs.declared.templates.form.Offset.{Offset}
use Rattle.dns_zone_file.specs.declared.templates.form.Offset.TheVariants.{Plus, Minus}
use Rattle.dns_zone_file.specs.declared.templates.form.Form.{Form}
use Rattle.dns_zone_file.specs.declared.templates.template.Piece.{Piece}
use Rattle.dns_zone_file.specs.declared.templates.template.Piece.TheVariants.{One, Two, Number}
use Rattle.dns_zone_file.specs.declared.templates.fault.GenerateFault.{GenerateFault}
use Rattle.dns_zone_file.specs.declared.templates.fault.GenerateFault.TheVariants.{InvalidTemplate}

-- ---- the form between braces: OFFSET, or OFFSET,WIDTH, or OFFSET,WIDTH,BASE

-- what separates the parts of a form
abbrev pub is_comma : ℕ → Bool
is_comma c = c == 44

-- what ends a form
abbrev pub is_brace : ℕ → Bool
is_brace c = c == 125

-- how many characters the text of a number may be asked to have
abbrev pub max_width : ℕ
max_width = 127

-- an offset: a decimal number up to 2^31 - 1, after `-` or `+` or without a sign
abbrev pub offset_of : List ℕ → Option Offset
offset_of [] = None
offset_of (c ∷ cs) =
    if c == 45 then option_map (λ n. Minus n) (decimal_up_to greatest cs)
    else if c == 43 then option_map (λ n. Plus n) (decimal_up_to greatest cs)
    else option_map (λ n. Plus n) (decimal_up_to greatest (c ∷ cs))

-- a base: decimal, octal, hexadecimal in two cases, and nibbles in two cases
abbrev pub base_of : List ℕ → Option Base
base_of (c ∷ []) =
    if c == 100 then Some Decimal
    else if c == 111 then Some Octal
    else if c == 120 then Some LowerHex
    else if c == 88 then Some UpperHex
    else if c == 110 then Some LowerNibbles
    else if c == 78 then Some UpperNibbles
    else None
base_of other = None

-- a form, if each part is valid
abbrev pub form_with : Option Offset → Option ℕ → Option Base → Option Form
form_with (Some offset) (Some width) (Some base) = Some (record { offset = offset; width = width; base = base })
form_with _ _ _ = None

-- a form from the text of its offset and from that after the comma
abbrev pub form_from : List ℕ → List ℕ → Option Form
form_from offset text = elim (position is_comma text) [
  | None ↦ form_with (offset_of offset) (decimal_up_to max_width text) (Some Decimal)
  | Some n ↦ form_with (offset_of offset) (decimal_up_to max_width (take n text)) (base_of (drop (n + 1) text))
]

-- the form of the text between braces
abbrev pub form_of : List ℕ → Option Form
form_of text = elim (position is_comma text) [
  | None ↦ form_with (offset_of text) (Some 0) (Some Decimal)
  | Some n ↦ form_from (take n text) (drop (n + 1) text)
]

-- ---- pieces

-- the number itself, in decimal
abbrev pub plain_form : Form
plain_form = record { offset = Plus 0; width = 0; base = Decimal }

-- the piece after `$` and an opening brace
abbrev pub braced_piece : List ℕ → Option Piece
braced_piece text = elim (position is_brace text) [
  | None ↦ None
  | Some n ↦ option_map (λ form. Number form) (form_of (take n text))
]

-- the piece after `$`: `$$` is a dollar sign
abbrev pub number_piece : List ℕ → Option Piece
number_piece [] = Some (Number plain_form)
number_piece (c ∷ cs) =
    if c == 36 then Some (One 36) else if c == 123 then braced_piece cs else Some (Number plain_form)

-- the piece after a backslash, which stays, as does the character after it
abbrev pub escaped_piece : List ℕ → Piece
escaped_piece [] = One 92
escaped_piece (c ∷ cs) = Two 92 c

-- the first piece of a template
abbrev pub piece_of : List ℕ → Option Piece
piece_of [] = None
piece_of (c ∷ cs) = if c == 36 then number_piece cs else if c == 92 then Some (escaped_piece cs) else Some (One c)

-- how many characters a piece takes after `$`
abbrev pub number_more : List ℕ → ℕ
number_more [] = 0
number_more (c ∷ cs) = if c == 36 then 1 else if c == 123 then position_or_len is_brace cs + 2 else 0

-- how many characters a piece takes after a backslash
abbrev pub escaped_more : List ℕ → ℕ
escaped_more [] = 0
escaped_more (c ∷ cs) = 1

-- how many characters the first piece takes after its first one
abbrev pub piece_more : List ℕ → ℕ
piece_more [] = 0
piece_more (c ∷ cs) = if c == 36 then number_more cs else if c == 92 then escaped_more cs else 0

-- ---- the text of a template

-- the text of a piece for a number
abbrev pub piece_text : ℕ → Option Piece → Result (List ℕ) GenerateFault
piece_text n None = Err InvalidTemplate
piece_text n (Some (One c)) = Ok (c ∷ [])
piece_text n (Some (Two c d)) = Ok (c ∷ d ∷ [])
piece_text n (Some (Number form)) = form_text form n

-- a text and the text after it, or the first fault
abbrev pub joined : Result (List ℕ) GenerateFault → Result (List ℕ) GenerateFault → Result (List ℕ) GenerateFault
joined (Err fault) later = Err fault
joined (Ok text) (Ok later) = Ok (text ++ later)
joined (Ok text) (Err fault) = Err fault

-- the text of a template for a number, after `past` more characters of the piece before
abbrev pub expanded_after : ℕ → ℕ → List ℕ → Result (List ℕ) GenerateFault
expanded_after n past [] = Ok []
expanded_after n zero (c ∷ cs) =
    joined (piece_text n (piece_of (c ∷ cs))) (expanded_after n (piece_more (c ∷ cs)) cs)
expanded_after n (suc past) (c ∷ cs) = expanded_after n past cs

-- The text of a template for a number: `$` is the number, `${OFFSET,WIDTH,BASE}` the number in a form, `$$` a dollar sign,
-- and a backslash stays with the character after it.
abbrev pub expanded : ℕ → List ℕ → Result (List ℕ) GenerateFault
expanded n template = expanded_after n 0 template
