-- What the words of `options` set, as resolv.conf(5) lists them.
use Rattle.std.specs.Prelude.{◌+◌, ◌-◌, ◌*◌, min, max, if◌then◌else◌, Bool, true, false, List, [], ◌∷◌, ℕ, codes, take, drop, length, fold}
use Rattle.std.specs.Str.{bytes_eq}
use Rattle.std.specs.Char.{is_ascii_digit}
use Rattle.stub_servers.specs.declared.resolv_conf.options.ConfOptions.{ConfOptions}

-- the options of a file that sets none
abbrev pub default_conf_options : ConfOptions
default_conf_options = record { ndots = 1; timeout = 5; attempts = 2; rotate = false; edns0 = false; use_vc = false }

-- the number that a text continues, up to its first character that is no decimal digit
abbrev pub number_from : ℕ → List ℕ → ℕ
number_from number [] = number
number_from number (c ∷ cs) = if is_ascii_digit c then number_from (10 * number + (c - 48)) cs else number

-- the number of the digits that a text begins with, 0 without any, and at most the greatest
abbrev pub number_up_to : ℕ → List ℕ → ℕ
number_up_to greatest text = min greatest (number_from 0 text)

-- whether a text begins with another
abbrev pub begins_with : List ℕ → List ℕ → Bool
begins_with front text = bytes_eq (take (length front) text) front

-- the options after a word without a number; other words set nothing
abbrev pub with_flag : ConfOptions → List ℕ → ConfOptions
with_flag options word =
    if bytes_eq word (codes "rotate") then record options { rotate = true }
    else if bytes_eq word (codes "edns0") then record options { edns0 = true }
    else if bytes_eq word (codes "use-vc") then record options { use_vc = true }
    else options

-- The options after a word: `ndots:N` with N up to 15, `timeout:N` with N from 1 to 30, `attempts:N` with N from 1 to 5, or a
-- word without a number.
abbrev pub option_after : ConfOptions → List ℕ → ConfOptions
option_after options word =
    if begins_with (codes "ndots:") word then record options { ndots = number_up_to 15 (drop 6 word) }
    else if begins_with (codes "timeout:") word then record options { timeout = max 1 (number_up_to 30 (drop 8 word)) }
    else if begins_with (codes "attempts:") word then record options { attempts = max 1 (number_up_to 5 (drop 9 word)) }
    else with_flag options word

-- the options after words, of which later ones win
abbrev pub options_after : ConfOptions → List (List ℕ) → ConfOptions
options_after options words = fold option_after options words
