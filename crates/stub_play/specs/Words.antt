-- The arguments of the program.
use Rattle.std.specs.Prelude.{◌≡◌, ◌≢◌, ◌<◌, ◌≤◌, ◌⊎◌, codes, Bool, true, false, length, is_some, fold, option_map, pos, List, [], ◌∷◌, ℕ, Option, Some, None, Result, Ok, Err, ⊤}
use Rattle.std.specs.Str.{bytes_eq}
use Rattle.std.specs.Str.Parse.{digits_value, without_leading_plus}
use Rattle.dns_names.specs.Name.{DomainName}
use Rattle.dns_names.specs.Parse.{name_of_text}
use Rattle.dns_names.specs.declared.error.ParseError.{ParseError}
use Rattle.dns_zone_file.specs.declared.types.Types.{Types}
use Rattle.dns_zone_file.specs.declared.types.Types.TheVariants.{Nine, All}
use Rattle.stub_play.specs.declared.words.WordsFault.{WordsFault}
use Rattle.stub_play.specs.declared.words.WordsFault.TheVariants.{Clap, Bad, Memory}
use Rattle.clap.specs.declared.error.Error.{Error}
use Rattle.clap.specs.declared.error.kind.ErrorKind.TheVariants.{OutOfMemory}
use Rattle.clap.specs.declared.builder.action.ArgAction.TheVariants.{Set, SetTrue}
use Rattle.clap.specs.declared.builder.arg.Arg.{Arg}
use Rattle.clap.specs.declared.builder.value_parser.ValueParser.{ValueParser}
use Rattle.clap.specs.declared.builder.value_parser.ValueParser.TheVariants.{Signed}
use Rattle.clap.specs.declared.builder.value_parser.ValueParser.TheVariants as parsers
use Rattle.clap.specs.Facts.{least_values}
use Rattle.clap.specs.Texts.{items_of}
use Rattle.clap.specs.Words.{App, IsAmong, IsSignedIn, Rule, first_of, fault_of, first_value, found_of, kind_of, matches_of, new_app, new_rule, one_of, one_text, with_rule, without_minus}
use Rattle.clap.specs.declared.parser.matches.ArgMatches.{ArgMatches}

-- ---- the options

-- an option that takes one value, at most once
abbrev pub optional : List ℕ → Rule
optional name = record (new_rule name) { long = Some name; action = Some Set; value_names = 1 }

-- an option that takes one value, exactly once
abbrev pub required : List ℕ → Rule
required name = record (optional name) { required = true }

-- the numbers from one to another
abbrev pub between : ℕ → ℕ → ValueParser
between least most = Signed (pos least) (pos most)

-- an option that takes one number, at most once, and the number that it has if it is not used
abbrev pub number : List ℕ → ValueParser → List ℕ → Rule
number name parser preset = record (optional name) { parser = Some parser; defaults = preset ∷ [] }

-- the greatest UDP payload size
abbrev pub limit_rule : Rule
limit_rule = number (codes "limit") (between 512 65535) (codes "1232")

-- the greatest number of cached responses
abbrev pub cache_rule : Rule
cache_rule = number (codes "cache") (between 0 4294967295) (codes "8192")

-- the greatest TTL, in seconds
abbrev pub max_ttl_rule : Rule
max_ttl_rule = number (codes "max-ttl") (between 0 4294967295) (codes "86400")

-- an option without a value, at most once
abbrev pub flag : List ℕ → Rule
flag name = record (new_rule name) { long = Some name; action = Some SetTrue; parser = Some parsers.Bool }

-- the options of the program
abbrev pub stub_rules : List Rule
stub_rules =
    required (codes "zone") ∷ required (codes "script") ∷ optional (codes "origin") ∷ optional (codes "hosts")
    ∷ limit_rule ∷ cache_rule ∷ max_ttl_rule ∷ flag (codes "udp") ∷ flag (codes "all-types") ∷ []

-- the program, as clap knows it
abbrev pub stub_app : App
stub_app = fold with_rule (new_app (codes "stub")) stub_rules

-- ---- their values

-- the value that the words give an option
abbrev pub value_of : List ℕ → List (List ℕ) → Option (List ℕ)
value_of name words = first_of name (matches_of stub_app words)

-- the number that a text spells: a plus sign may stand first
abbrev pub number_of_text : List ℕ → ℕ
number_of_text text = digits_value 10 (without_leading_plus text)

-- the number that the words give an option
abbrev pub number_of : List ℕ → List (List ℕ) → Option ℕ
number_of name words = option_map number_of_text (one_of name (matches_of stub_app words))

-- clap's text of an option without a value: `true` if it is used
abbrev pub is_set : Option (List ℕ) → Bool
is_set None = false
is_set (Some text) = bytes_eq text (codes "true")

-- the words use an option without a value
abbrev pub flag_of : List ℕ → List (List ℕ) → Bool
flag_of name words = is_set (one_of name (matches_of stub_app words))

-- the types that a zone file may have: all, or those with fields
abbrev pub types_of : Bool → Types
types_of true = All
types_of false = Nine

-- the origin that an option's value spells, if it has one, or why it is not a name
abbrev pub some_name : Result DomainName ParseError → Result (Option DomainName) ParseError
some_name (Ok name) = Ok (Some name)
some_name (Err error) = Err error

-- the origin, if the option is used, or why its value is not a name
abbrev pub origin_of : Option (List ℕ) → Result (Option DomainName) ParseError
origin_of None = Ok None
origin_of (Some text) = some_name (name_of_text text)

-- the value is not a name
abbrev pub IsNoOrigin : Option (List ℕ) → Type 0
IsNoOrigin value = (error : ParseError) × (origin_of value ≡ Err error)

-- the fault of an origin
abbrev pub IsOriginFault : Option (List ℕ) → WordsFault → Type 0
IsOriginFault value (Clap error) = ⊥
IsOriginFault value Bad = IsNoOrigin value
IsOriginFault value Memory = ⊤

-- ---- what clap finds

-- an option that takes one value
pub record TakesOne (arg : Arg) : Type 0 where
  pub optional : arg.required ≡ false
  pub action : arg.action ≡ Some Set
  pub delimiter : arg.val_delim ≡ None
  pub count : 1 ≤ least_values arg
  pub conditions : arg.default_vals_ifs.items ≡ []

-- an option that takes one number, with a default
pub record TakesNumber (numbers : ValueParser) (arg : Arg) : Type 0 where
  pub one : TakesOne arg
  pub parser : arg.value_parser ≡ Some numbers
  pub preset : 0 < length (items_of arg.default_vals)

-- an option without a value
pub record TakesFlag (arg : Arg) : Type 0 where
  pub parser : arg.value_parser ≡ Some parsers.Bool

-- clap's text of an option without a value
abbrev pub IsFlagText : Option (List ℕ) → Type 0
IsFlagText None = ⊤
IsFlagText (Some text) = (text ≡ codes "true") ⊎ (text ≡ codes "false")

-- an option has a number between two
pub record HasNumber (name : List ℕ) (least most : ℕ) (matches : ArgMatches) : Type 0 where
  pub text : List ℕ
  pub is_text : one_text (found_of matches) name ≡ Some (without_minus text)
  pub is_number : IsSignedIn (pos least) (pos most) text

-- the files that are required, the numbers and the flags are found
pub record HasAll (matches : ArgMatches) : Type 0 where
  pub zone : is_some (first_value (found_of matches) (codes "zone")) ≡ true
  pub script : is_some (first_value (found_of matches) (codes "script")) ≡ true
  pub limit : HasNumber (codes "limit") 512 65535 matches
  pub cache : HasNumber (codes "cache") 0 4294967295 matches
  pub max_ttl : HasNumber (codes "max-ttl") 0 4294967295 matches
  pub udp : IsFlagText (one_text (found_of matches) (codes "udp"))
  pub all_types : IsFlagText (one_text (found_of matches) (codes "all-types"))

-- ---- faults

-- clap's want of memory is the program's; any other error stays clap's
abbrev pub BecomesFault : Error → WordsFault → Type 0
BecomesFault error fault =
    ((kind_of error ≡ OutOfMemory) × (fault ≡ Memory))
    ⊎ ((kind_of error ≢ OutOfMemory) × (fault ≡ Clap error))

-- the words want datagrams of more bytes than one over IPv4 carries: 65,535 less headers of 20 and 8 (RFC 791 section 3.1, RFC 768)
abbrev pub WantsTooMuch : List (List ℕ) → Type 0
WantsTooMuch words = (flag_of (codes "udp") words ≡ true) × (limit : ℕ) × (number_of (codes "limit") words ≡ Some limit) × (65507 < limit)

-- clap's error is the fault of these words; where clap finds none, their origin may be no name, or they may want too much
abbrev pub IsWordsFault : List (List ℕ) → WordsFault → Type 0
IsWordsFault words (Clap error) = IsAmong (kind_of error) (fault_of stub_app words)
IsWordsFault words Bad = (fault_of stub_app words ≡ []) × (IsNoOrigin (value_of (codes "origin") words) ⊎ WantsTooMuch words)
IsWordsFault words Memory = ⊤
