-- What is given of keys and of a journal.
use Rattle.std.specs.Prelude.{◌≡◌, ◌<◌, ◌≤◌, List, ℕ, Option, Some, None, codes, map, option_map, string_bytes}
use Rattle.clap.specs.Matches.{first_value}
use Rattle.clap.specs.declared.parser.matches.Found.{Found}
use Rattle.nameserver_cli.specs.declared.durable_arguments.DurableArguments.{DurableArguments}
use Rattle.nameserver_cli.specs.declared.ending.Ending.{Ending}
use Rattle.nameserver_cli.specs.Ending.{IsOfInvalidValue}
use Rattle.nameserver_cli.specs.Options.{IsNumber, Refuses, is_given, values_of}

-- the length of a journal, in bytes, from which on it is begun anew: 16 MiB if the option is not given
abbrev pub IsJournalLimit : Option (List ℕ) → ℕ → Type 0
IsJournalLimit None limit = limit ≡ 16777216
IsJournalLimit (Some text) limit = IsNumber 64 text limit × (4096 ≤ limit)

-- the value is no length of at least 4,096 bytes
abbrev pub IsJournalLimitRefusal : Option (List ℕ) → Ending → Type 0
IsJournalLimitRefusal None ending = ⊥
IsJournalLimitRefusal (Some text) ending = ((limit : ℕ) → ¬ (IsJournalLimit (Some text) limit))
    × IsOfInvalidValue (codes "journal-limit") text (codes "it is not a number from 4096 on") ending

-- what the options say of keys and of a journal
pub record AreDurable (found : Found) (durable : DurableArguments) : Type 0 where
  pub journal : option_map string_bytes durable.journal ≡ first_value found (codes "journal")
  pub journal_limit : IsJournalLimit (first_value found (codes "journal-limit")) durable.journal_limit
  pub compact : durable.compact ≡ is_given found (codes "compact")
  pub keys : map string_bytes durable.keys.items ≡ values_of found (codes "key")
  pub grants : map string_bytes durable.grants.items ≡ values_of found (codes "grant")

-- the journal would be of several zone files
abbrev pub IsJournalRefusal : (file_count : ℕ) → Option (List ℕ) → Ending → Type 0
IsJournalRefusal file_count value ending = (1 < file_count)
    × Refuses (codes "journal") (codes "there is more than one zone file") value ending
