-- The arguments that the words state: `found` is what clap has found of them.
use Rattle.std.specs.Prelude.{◌≡◌, ◌<◌, ◌≤◌, ◌⊎◌, ◌&&◌, ◌||◌, ◌==◌, not, nat_eq, if◌then◌else◌, [], ◌∷◌, length, is_some, List, ℕ, Bool, true, false, Option, Some, None, Ok, codes, map, option_map, unwrap_or, string_bytes}
use Rattle.std.specs.List.{AllZip, starts_with}
use Rattle.std.specs.Str.{bytes_eq}
use Rattle.dns_server.specs.AddressList.{is_covered}
use Rattle.clap.specs.Matches.{first_value}
use Rattle.clap.specs.declared.parser.matches.Found.{Found}
use Rattle.dns_authority.specs.declared.asked.AnyAnswer.{AnyAnswer}
use Rattle.dns_authority.specs.declared.asked.AnyAnswer.TheVariants.{AllSets, FirstSet}
use Rattle.dns_authority.specs.declared.service.answering.Answering.{Answering}
use Rattle.dns_authority.specs.declared.service.answering.Answering.TheVariants.{Plain, Whole}
use Rattle.dns_names.specs.Name.{DomainName}
use Rattle.dns_names.specs.Parse.{name_of_text}
use Rattle.dns_zone.specs.declared.zone.serials.Serials.{Serials}
use Rattle.dns_zone.specs.declared.zone.serials.Serials.TheVariants.{Kept, Rising}
use Rattle.dns_zone_file.specs.declared.includes.path.Reach.{Reach}
use Rattle.dns_zone_file.specs.declared.includes.path.Reach.TheVariants.{Folder, Anywhere}
use Rattle.nameserver_cli.specs.declared.arguments.Arguments.{Arguments}
use Rattle.nameserver_cli.specs.declared.arguments.ReplayMode.{ReplayMode}
use Rattle.nameserver_cli.specs.declared.arguments.ReplayMode.TheVariants.{Print, Check, Bless}
use Rattle.nameserver_cli.specs.declared.arguments.Until.{Until}
use Rattle.nameserver_cli.specs.declared.arguments.Until.TheVariants.{Signal, InputEnds}
use Rattle.nameserver_cli.specs.declared.ending.Ending.{Ending}
use Rattle.nameserver_cli.specs.declared.ending.Ending.TheVariants.{Memory}
use Rattle.nameserver_cli.specs.Addresses.{AreListened, AreUpdaters, IsAddress, IsLoopbackAnd}
use Rattle.nameserver_cli.specs.DurableArguments.{AreDurable}
use Rattle.nameserver_cli.specs.Ending.{IsOfInvalidValue}
use Rattle.nameserver_cli.specs.Options.{IsNumber, is_given, values_of}

-- ---- options without a value

-- which files a zone file may include
abbrev pub reach_of : Bool → Reach
reach_of true = Anywhere
reach_of false = Folder

-- whether serial numbers rise by themselves
abbrev pub serials_of : Bool → Serials
serials_of true = Kept
serials_of false = Rising

-- with how many record sets a question for ANY is answered (RFC 8482)
abbrev pub any_of : Bool → AnyAnswer
any_of true = FirstSet
any_of false = AllSets

-- how requests are answered
abbrev pub answering_of : (is_plain is_minimal keeps_serials : Bool) → Answering
answering_of true is_minimal keeps_serials = Plain
answering_of false is_minimal keeps_serials = Whole (any_of is_minimal) (serials_of keeps_serials)

-- what is done with what the events of a script led to
abbrev pub mode_of : (is_check is_bless : Bool) → ReplayMode
mode_of true is_bless = Check
mode_of false true = Bless
mode_of false false = Print

-- what ends the server
abbrev pub until_of : Bool → Until
until_of true = InputEnds
until_of false = Signal

-- ---- numbers

-- how many records of differences are kept: 10,000 if the option is not given
abbrev pub IsDifferences : Option (List ℕ) → ℕ → Type 0
IsDifferences None count = count ≡ 10000
IsDifferences (Some text) count = IsNumber 64 text count

-- the maximum size of datagrams, in bytes
abbrev pub IsLimit : Option (List ℕ) → ℕ → Type 0
IsLimit None limit = ⊥
IsLimit (Some text) limit = IsNumber 16 text limit × (512 ≤ limit)

-- the value is no number of records
abbrev pub IsDifferencesRefusal : Option (List ℕ) → Ending → Type 0
IsDifferencesRefusal None ending = ⊥
IsDifferencesRefusal (Some text) ending = ((count : ℕ) → ¬ (IsNumber 64 text count))
    × IsOfInvalidValue (codes "differences") text (codes "it is not a number") ending

-- the value is no size of at least 512 bytes
abbrev pub IsLimitRefusal : Option (List ℕ) → Ending → Type 0
IsLimitRefusal value ending = ((limit : ℕ) → ¬ (IsLimit value limit))
    × IsOfInvalidValue (codes "limit") (unwrap_or value []) (codes "it is not a number from 512 to 65507") ending

-- ---- names

-- a name, with or without a dot at its end, is fully qualified
abbrev pub absolute : DomainName → DomainName
absolute name = record name { is_fqdn = true }

-- the origin of the zone, if the option is given
abbrev pub IsOrigin : Option (List ℕ) → Option DomainName → Type 0
IsOrigin None origin = origin ≡ None
IsOrigin (Some text) None = ⊥
IsOrigin (Some text) (Some origin) = (name : DomainName) × (name_of_text text ≡ Ok name) × (origin ≡ absolute name)

-- there is more than one zone file, or the value is not a name; or there was no memory
abbrev pub IsOriginRefusal : (file_count : ℕ) → Option (List ℕ) → Ending → Type 0
IsOriginRefusal file_count None ending = ⊥
IsOriginRefusal file_count (Some text) ending = (ending ≡ Memory)
    ⊎ ((1 < file_count) × IsOfInvalidValue (codes "origin") text (codes "there is more than one zone file") ending)
    ⊎ (((name : DomainName) → ¬ (name_of_text text ≡ Ok name))
    × IsOfInvalidValue (codes "origin") text (codes "it is not a domain name") ending)

-- ---- all arguments

-- what the options say, one field after another
pub record AreArguments (found : Found) (arguments : Arguments) : Type 0 where
  pub files : map string_bytes arguments.files.items ≡ values_of found (codes "FILE")
  pub addresses : AreListened (values_of found (codes "listen")) arguments.addresses.items
  pub updaters : AreUpdaters (is_given found (codes "no-updates")) (values_of found (codes "allow-update")) arguments.updaters
  pub answering : arguments.answering ≡ answering_of (is_given found (codes "plain")) (is_given found (codes "minimal-any"))
      (is_given found (codes "keep-serials"))
  pub secondaries : IsLoopbackAnd (values_of found (codes "allow-transfer")) arguments.secondaries
  pub differences : IsDifferences (first_value found (codes "differences")) arguments.differences
  pub notify : AllZip IsAddress (values_of found (codes "notify")) arguments.notify.items
  pub limit : IsLimit (first_value found (codes "limit")) arguments.limit
  pub reach : arguments.reach ≡ reach_of (is_given found (codes "include-anywhere"))
  pub until : arguments.until ≡ until_of (is_given found (codes "until-stdin-closes"))
  pub origin : IsOrigin (first_value found (codes "origin")) arguments.origin
  pub faults : option_map string_bytes arguments.faults ≡ first_value found (codes "faults")
  pub log : option_map string_bytes arguments.log ≡ first_value found (codes "log")
  pub durable : AreDurable found arguments.durable
  pub replay : map string_bytes arguments.replay.items ≡ values_of found (codes "replay")
  pub replay_mode : arguments.replay_mode ≡ mode_of (is_given found (codes "check")) (is_given found (codes "bless"))

-- ---- what follows from them

-- transfers are offered unless each question is answered by its zone alone
abbrev pub offers_transfers : Answering → Bool
offers_transfers Plain = false
offers_transfers (Whole any serials) = true

-- somebody may update the zones: the holder of a key, or whoever may without one, as then the local host
abbrev pub takes_updates : Arguments → Bool
takes_updates arguments = not (length arguments.durable.keys.items == 0) || is_covered arguments.updaters (127 ∷ 0 ∷ 0 ∷ 1 ∷ [])

-- secondaries are notified of updates that a restart loses, since there is no journal
abbrev pub loses_serials : Arguments → Bool
loses_serials arguments = not (length arguments.notify.items == 0) && (not (is_some arguments.durable.journal) && takes_updates arguments)

-- how many records of differences are kept of each zone
abbrev pub kept_differences : Arguments → ℕ
kept_differences arguments = if offers_transfers arguments.answering then arguments.differences else 0

-- a word names a script, which may state the zone files: it is the option, with its value or before it
abbrev pub is_script_option : List ℕ → Bool
is_script_option word = bytes_eq word (codes "--replay") || starts_with nat_eq word (codes "--replay=")
