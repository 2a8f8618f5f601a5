-- The arguments of the program, by what clap finds.
use Rattle.std.specs.Prelude.{◌≡◌, ◌≢◌, ◌<◌, ◌^◌, ◌==◌, codes, not, true, false, Bool, ℕ, List, [], Option, Some, None, Ok, SomeIff, ◌⊎◌, filter, length, option_map, string_bytes, unwrap_or, ⊤}
use Rattle.std.specs.List.{AllZip, Contains, list_any}
use Rattle.std.specs.Str.{bytes_eq}
use Rattle.std.specs.Str.Parse.{IsNumeral, digits_value, without_leading_plus}
use Rattle.std.specs.declared.net.ip_addr.IpAddr.{IpAddr}
use Rattle.clap.specs.Values.{kind_of}
use Rattle.clap.specs.Words.{Row, all_of, first_of, found_of, matches_of, one_of, rows_of}
use Rattle.clap.specs.declared.error.kind.ErrorKind.TheVariants.{OutOfMemory}
use Rattle.clap.specs.declared.parser.matches.ArgMatches.{ArgMatches}
use Rattle.dns_fields.specs.bitmaps.TypeWord.{type_of_word}
use Rattle.dns_text.specs.Address.{IsTextOf}
use Rattle.lookup_cli.specs.Command.{lookup_app}
use Rattle.lookup_cli.specs.Ending.{IsOfInvalidValue, invalid_text}
use Rattle.lookup_cli.specs.Values.{IsLookedUp, IsNameRefusal, IsNoName, IsNoServer, IsNotLookedUp, IsNotLookedUpRefusal, IsServer, SpellsName, no_name, no_server, no_strategy, no_timeout, no_type, strategy_of, timeout_of}
use Rattle.lookup_cli.specs.answers.Item.{Reverses}
use Rattle.lookup_cli.specs.declared.answers.item.Item.{Item}
use Rattle.lookup_cli.specs.declared.answers.item.Question.{Question}
use Rattle.lookup_cli.specs.declared.answers.item.Question.TheVariants.{Addresses, Records}
use Rattle.lookup_cli.specs.declared.arguments.Arguments.{Arguments}
use Rattle.lookup_cli.specs.declared.arguments.KeyArguments.{KeyArguments}
use Rattle.lookup_cli.specs.declared.arguments.Lists.{Lists}
use Rattle.lookup_cli.specs.declared.arguments.Paths.{Paths}
use Rattle.lookup_cli.specs.declared.arguments.Task.{Task}
use Rattle.lookup_cli.specs.declared.arguments.UpdateArguments.{UpdateArguments}
use Rattle.lookup_cli.specs.declared.ending.Ending.{Ending}
use Rattle.lookup_cli.specs.declared.ending.Ending.TheVariants as ending

-- ---- what clap finds

-- what clap found of each argument
abbrev pub found : ArgMatches → List Row
found matches = rows_of (found_of matches)

-- what clap finds of each argument in the words, of which the first is the program's name
abbrev pub found_in : List (List ℕ) → List Row
found_in words = matches_of lookup_app words

-- clap's text of an option without a value is `true` if it is given
abbrev pub is_true : Option (List ℕ) → Bool
is_true None = false
is_true (Some text) = bytes_eq text (codes "true")

-- an option without a value is given
abbrev pub is_given : List ℕ → List Row → Bool
is_given name rows = is_true (first_of name rows)

-- the values of an argument
abbrev pub texts_of : List ℕ → List Row → List (List ℕ)
texts_of name rows = unwrap_or (all_of name rows) []

-- the number of 64 bits that the value of an option spells, if it is given and spells one
abbrev pub IsNumber : Option (List ℕ) → Option ℕ → Type 0
IsNumber None number = number ≡ None
IsNumber (Some text) number =
    SomeIff number (IsNumeral 10 (without_leading_plus text) × (digits_value 10 (without_leading_plus text) < 2 ^ 64))
    (digits_value 10 (without_leading_plus text))

-- an option that is not given has no value, and the value of another one is that of its text
abbrev pub IsOf : {X : Type 0} → (List ℕ → X → Type 0) → Option (List ℕ) → Option X → Type 0
IsOf says None None = ⊤
IsOf says None (Some value) = ⊥
IsOf says (Some text) None = ⊥
IsOf says (Some text) (Some value) = says text value

-- ---- what is looked up

-- what is asked about a name without a type: its records of the type that is given, or its addresses
abbrev pub IsQuestion : Option (List ℕ) → Question → Type 0
IsQuestion None question = question ≡ Addresses
IsQuestion (Some text) question = option_map Records (type_of_word text) ≡ Some question

-- a text stands for the names of standard input
abbrev pub is_input : List ℕ → Bool
is_input text = bytes_eq text (codes "-")

-- an item with a name as it is given
pub record IsPlain (question : Question) (text : List ℕ) (item : Item) : Type 0 where
  pub name_is : string_bytes item.name ≡ text
  pub type_text_is : string_bytes item.type_text ≡ []
  pub question_is : item.question ≡ question

-- an item with the reverse name of the address that its name is, or as it was
abbrev pub IsOfReverse : Item → Item → Type 0
IsOfReverse plain item = (address : Option IpAddr) × IsTextOf (string_bytes plain.name) address × Reverses plain address (Ok item)

-- an item is made one of a reverse name if that is asked for
abbrev pub IsReversedIf : Bool → Item → Item → Type 0
IsReversedIf true plain item = IsOfReverse plain item
IsReversedIf false plain item = item ≡ plain

-- what is looked up for a text, which is alone or beside others
pub record IsItemFor (question : Question) (reverse is_alone : Bool) (text : List ℕ) (item : Item) : Type 0 where
  pub is_name : IsLookedUp is_alone text
  pub plain : Item
  pub is_plain : IsPlain question text plain
  pub is_reversed : IsReversedIf reverse plain item

-- the texts that do not stand for the names of standard input
abbrev pub names_among : List (List ℕ) → List (List ℕ)
names_among texts = filter (λ text. not (is_input text)) texts

-- one item for each name, in their order
abbrev pub AreItems : Question → Bool → List (List ℕ) → List Item → Type 0
AreItems question reverse texts items = AllZip (IsItemFor question reverse (length texts == 1)) (names_among texts) items

-- ---- updates

-- the key that signs an update: its file, and its name if that is given
pub record IsKey (rows : List Row) (path : List ℕ) (key : KeyArguments) : Type 0 where
  pub path_is : string_bytes key.path ≡ path
  pub name_is : IsOf SpellsName (first_of (codes "key-name") rows) key.name

-- an update: its words, its zone, and its key if there is one
pub record IsUpdate (rows : List Row) (zone : List ℕ) (update : UpdateArguments) : Type 0 where
  pub words_are : first_of (codes "update") rows ≡ Some (string_bytes update.words)
  pub zone_is : SpellsName zone update.zone
  pub key_is : IsOf (IsKey rows) (first_of (codes "key") rows) update.key

-- ---- the arguments

-- each argument is what the words give its option
pub record AreArguments (rows : List Row) (a : Arguments) : Type 0 where
  pub items_are : AreItems a.question (is_given (codes "reverse") rows) (texts_of (codes "NAME") rows) a.items.items
  pub reads_input_is : a.reads_input ≡ list_any is_input (texts_of (codes "NAME") rows)
  pub question_is : IsQuestion (first_of (codes "type") rows) a.question
  pub reverse_is : a.reverse ≡ is_given (codes "reverse") rows
  pub servers_are : AllZip IsServer (texts_of (codes "server") rows) a.servers.items
  pub resolv_conf_is : option_map string_bytes a.resolv_conf ≡ first_of (codes "resolv-conf") rows
  pub hosts_is : option_map string_bytes a.hosts ≡ first_of (codes "hosts") rows
  pub search_is : AllZip SpellsName (texts_of (codes "search") rows) a.search.items
  pub ndots_is : IsNumber (one_of (codes "ndots") rows) a.ndots
  pub strategy_is : IsOf (λ text strategy. strategy_of text ≡ Some strategy) (first_of (codes "strategy") rows) a.strategy
  pub timeout_is : IsOf (λ text timeout. timeout_of text ≡ Some timeout) (first_of (codes "timeout") rows) a.timeout
  pub attempts_are : IsNumber (one_of (codes "attempts") rows) a.attempts
  pub update_is : IsOf (IsUpdate rows) (first_of (codes "zone") rows) a.update
  pub tcp_is : a.tcp ≡ is_given (codes "tcp") rows
  pub rotate_is : a.rotate ≡ is_given (codes "rotate") rows
  pub edns_is : a.edns ≡ not (is_given (codes "no-edns") rows)
  pub cache_is : a.cache ≡ not (is_given (codes "no-cache") rows)
  pub json_is : a.json ≡ is_given (codes "json") rows
  pub trace_is : a.trace ≡ is_given (codes "trace") rows

-- ---- parts of them

-- what is looked up, or the update
pub record IsTask (rows : List Row) (question : Question) (task : Task) : Type 0 where
  pub items_are : AreItems question (is_given (codes "reverse") rows) (texts_of (codes "NAME") rows) task.items.items
  pub update_is : IsOf (IsUpdate rows) (first_of (codes "zone") rows) task.update

-- the servers and the search list
pub record AreLists (rows : List Row) (lists : Lists) : Type 0 where
  pub servers_are : AllZip IsServer (texts_of (codes "server") rows) lists.servers.items
  pub search_is : AllZip SpellsName (texts_of (codes "search") rows) lists.search.items

-- the paths
pub record ArePaths (rows : List Row) (paths : Paths) : Type 0 where
  pub resolv_conf_is : option_map string_bytes paths.resolv_conf ≡ first_of (codes "resolv-conf") rows
  pub hosts_is : option_map string_bytes paths.hosts ≡ first_of (codes "hosts") rows

-- ---- refusals

-- an argument, as its usage names it, has a value that is none of its values, and the reason
pub data IsInvalid (rows : List Row) : (argument value reason : List ℕ) → Type 0 where
  of_type : (text : List ℕ) → first_of (codes "type") rows ≡ Some text → type_of_word text ≡ None → IsInvalid rows (codes "-t") text no_type
  of_strategy : (text : List ℕ) → first_of (codes "strategy") rows ≡ Some text → strategy_of text ≡ None
      → IsInvalid rows (codes "--strategy") text no_strategy
  of_timeout : (text : List ℕ) → first_of (codes "timeout") rows ≡ Some text → timeout_of text ≡ None
      → IsInvalid rows (codes "--timeout") text no_timeout
  of_name : (text reason : List ℕ) → Contains (texts_of (codes "NAME") rows) text → is_input text ≡ false
      → IsNotLookedUp (length (texts_of (codes "NAME") rows) == 1) text reason → IsInvalid rows (codes "NAME") text reason
  of_server : (text : List ℕ) → Contains (texts_of (codes "server") rows) text → IsNoServer text
      → IsInvalid rows (codes "--server") text no_server
  of_search : (text : List ℕ) → Contains (texts_of (codes "search") rows) text → IsNoName text
      → IsInvalid rows (codes "--search") text no_name
  of_zone : (text : List ℕ) → first_of (codes "zone") rows ≡ Some text → IsNoName text → IsInvalid rows (codes "--zone") text no_name
  of_key_name : (text : List ℕ) → first_of (codes "key-name") rows ≡ Some text → IsNoName text
      → IsInvalid rows (codes "--key-name") text no_name

-- a line says which value of which argument is invalid, and why
abbrev pub IsInvalidLine : List Row → List ℕ → Type 0
IsInvalidLine rows line =
    (argument : List ℕ) × (value : List ℕ) × (reason : List ℕ) × (line ≡ invalid_text argument value reason) × IsInvalid rows argument value reason

-- why what clap found is refused: an invalid value, or the zone of no update; there may be no memory
abbrev pub IsRefusal : List Row → Ending → Type 0
IsRefusal rows (ending.InvalidValue line) = IsInvalidLine rows (string_bytes line)
IsRefusal rows ending.ZoneWithoutUpdate = (first_of (codes "update") rows ≡ None) × (first_of (codes "zone") rows ≢ None)
IsRefusal rows why = why ≡ ending.Memory

-- why the words are refused: for clap's reason, which is not want of memory, or by what clap found
abbrev pub IsRefusalOf : List Row → Ending → Type 0
IsRefusalOf rows (ending.Arguments error) = kind_of error ≢ OutOfMemory
IsRefusalOf rows why = IsRefusal rows why

-- ---- refusals of parts

-- one of texts is refused, or there is no memory
abbrev pub IsRefusalAmong : (List ℕ → Ending → Type 0) → List (List ℕ) → Ending → Type 0
IsRefusalAmong refuses texts why = (why ≡ ending.Memory) ⊎ ((text : List ℕ) × Contains texts text × refuses text why)

-- a server is refused
abbrev pub IsServerRefusal : List ℕ → Ending → Type 0
IsServerRefusal text why = IsNoServer text × IsOfInvalidValue (codes "--server") text no_server why

-- a name is refused, which does not stand for those of standard input
abbrev pub IsItemRefusal : Bool → List ℕ → Ending → Type 0
IsItemRefusal is_alone text why = (is_input text ≡ false) × IsNotLookedUpRefusal is_alone text why

-- an update is refused, by its zone or otherwise
abbrev pub IsUpdateRefusal : List Row → List ℕ → Ending → Type 0
IsUpdateRefusal rows zone why = IsNameRefusal (codes "--zone") zone why ⊎ IsRefusal rows why
