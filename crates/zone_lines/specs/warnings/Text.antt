-- What TXT records and the lines of a file say.
use Rattle.std.specs.Prelude.{◌==◌, ◌&&◌, ◌||◌, nat_eq, nat_lt, if◌then◌else◌, ℕ, Bool, true, false, length, List, [], ◌∷◌, take, drop, codes}
use Rattle.std.specs.List.{list_any, starts_with}
use Rattle.std.specs.Str.{str_eq_ignore_ascii_case}
use Rattle.dns_data.specs.declared.rdata.RData.{RData}
use Rattle.dns_data.specs.declared.rdata.RData.TheVariants as of
use Rattle.zone_lines.specs.declared.record_line.RecordLine.{RecordLine}
use Rattle.zone_lines.specs.declared.warnings.text.Spot.{Spot}
use Rattle.zone_lines.specs.declared.warnings.text.Spot.TheVariants.{Between, Word, WordEscape, Quoted, QuotedEscape}

-- ---- policies

-- the first of some strings
abbrev pub string_at_front : List (List ℕ) → List ℕ
string_at_front [] = []
string_at_front (string ∷ strings) = string

-- the first string of TXT data
abbrev pub first_string : RData → List ℕ
first_string (of.TXT strings) = string_at_front strings
first_string other = []

-- whether a blank, a semicolon or nothing follows a version
abbrev pub ends_version : List ℕ → Bool
ends_version [] = true
ends_version (c ∷ cs) = c == 32 || c == 59

-- whether a string begins with a version, in any case
abbrev pub begins_with_version : List ℕ → List ℕ → Bool
begins_with_version version string =
    if nat_lt (length string) (length version) then false
    else (str_eq_ignore_ascii_case (take (length version) string) version && ends_version (drop (length version) string))

-- whether data is a policy of the Sender Policy Framework (RFC 7208 section 4.5)
abbrev pub is_spf : RData → Bool
is_spf rdata = begins_with_version (codes "v=spf1") (first_string rdata)

-- whether the first label of an owner is `_dmarc`, in any case
abbrev pub is_dmarc_owner : List (List ℕ) → Bool
is_dmarc_owner [] = false
is_dmarc_owner (label ∷ labels) = str_eq_ignore_ascii_case label (codes "_dmarc")

-- whether a record is a policy of DMARC at its name (RFC 7489 section 6.3)
abbrev pub is_dmarc : RecordLine → Bool
is_dmarc r = is_dmarc_owner r.owner.labels && begins_with_version (codes "v=DMARC1") (first_string r.rdata)

-- ---- lines

-- where a line is read after a character that does not begin a comment
abbrev pub spot_after : Spot → ℕ → Spot
spot_after Quoted c = if c == 34 then Between else (if c == 92 then QuotedEscape else Quoted)
spot_after QuotedEscape c = Quoted
spot_after WordEscape c = Word
spot_after spot c =
    if c == 92 then WordEscape else (if c == 34 then Quoted
    else (if c == 32 || c == 9 || c == 40 || c == 41 then Between else Word))

-- whether the first `;` of a line from here on that begins a comment directly follows a word that is not quoted
abbrev pub cuts_from : Spot → List ℕ → Bool
cuts_from spot [] = false
cuts_from Between (c ∷ cs) = if c == 59 then false else cuts_from (spot_after Between c) cs
cuts_from Word (c ∷ cs) = if c == 59 then true else cuts_from (spot_after Word c) cs
cuts_from spot (c ∷ cs) = cuts_from (spot_after spot c) cs

-- whether the comment of a line directly follows a word that is not quoted, which a `;` ends (RFC 1035 section 5.1)
abbrev pub cuts_word : List ℕ → Bool
cuts_word line = cuts_from Between line

-- whether the end of a line is inside a quoted string, if it is read so
abbrev pub is_quoted : Spot → Bool
is_quoted Quoted = true
is_quoted QuotedEscape = true
is_quoted spot = false

-- whether a line from here on ends inside a quoted string, and not in a comment
abbrev pub ends_quoted_from : Spot → List ℕ → Bool
ends_quoted_from spot [] = is_quoted spot
ends_quoted_from Between (c ∷ cs) = if c == 59 then false else ends_quoted_from (spot_after Between c) cs
ends_quoted_from Word (c ∷ cs) = if c == 59 then false else ends_quoted_from (spot_after Word c) cs
ends_quoted_from spot (c ∷ cs) = ends_quoted_from (spot_after spot c) cs

-- whether a line ends inside a quoted string, which goes on over the next line (RFC 1035 section 5.1)
abbrev pub ends_quoted : List ℕ → Bool
ends_quoted line = ends_quoted_from Between line

-- whether a line begins with `$ORIGIN`
abbrev pub is_origin_line : List ℕ → Bool
is_origin_line line = starts_with nat_eq line (codes "$ORIGIN")

-- whether some line does
abbrev pub states_origin : List (List ℕ) → Bool
states_origin lines = list_any is_origin_line lines

-- whether some line of some text does
abbrev pub has_directive : List (List (List ℕ)) → Bool
has_directive texts = list_any states_origin texts
