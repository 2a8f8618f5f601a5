-- Blanks and comments.
use Rattle.std.specs.Prelude.{ℕ, ◌==◌, ◌||◌, ◌&&◌, nat_le, if◌then◌else◌, Bool, true, false, List, [], ◌∷◌, Option, Some, None}
use Rattle.dns_keys.specs.declared.blanks.Mode.{Mode}
use Rattle.dns_keys.specs.declared.blanks.Mode.TheVariants.{Between, Line, Open, Block, Star}

-- a space, or an octet from tab to carriage return
abbrev pub is_blank : ℕ → Bool
is_blank c = c == 32 || (nat_le 9 c && nat_le c 13)

-- whether a text begins with an octet
abbrev pub begins_with : ℕ → List ℕ → Bool
begins_with c [] = false
begins_with c (d ∷ ds) = d == c

-- What an octet between words leaves open: `#` and `//` begin a comment up to the end of the line, and `/*` one up to `*/`. A word or a
-- symbol begins with any other octet that is not a blank.
abbrev pub begins : ℕ → List ℕ → Option Mode
begins c rest =
    if c == 35 || (c == 47 && begins_with 47 rest) then Some Line
    else if c == 47 && begins_with 42 rest then Some Open
    else if is_blank c then Some Between
    else None

-- what an octet leaves open
abbrev pub step : Mode → ℕ → List ℕ → Option Mode
step Between c rest = begins c rest
step Line c rest = if c == 10 then Some Between else Some Line
step Open c rest = Some Block
step Block c rest = if c == 42 then Some Star else Some Block
step Star c rest = if c == 47 then Some Between else if c == 42 then Some Star else Some Block

-- whether a text may end here
abbrev pub can_end : Mode → Bool
can_end Between = true
can_end Line = true
can_end Open = false
can_end Block = false
can_end Star = false

-- the text after blanks and comments
abbrev pub after_blanks : Mode → List ℕ → Option (List ℕ)
after_blanks mode [] = if can_end mode then Some [] else None
after_blanks mode (c ∷ cs) = elim (step mode c cs) [ None ↦ Some (c ∷ cs) | Some next ↦ after_blanks next cs ]
