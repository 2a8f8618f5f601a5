-- Why the program ends.
use Rattle.std.specs.Prelude.{◌≡◌, ◌≢◌, ◌++◌, [], Bool, true, false, List, ℕ, Option, Some, None, codes, string_bytes}
use Rattle.clap.specs.Values.{kind_of}
use Rattle.clap.specs.declared.error.kind.ErrorKind.TheVariants.{DisplayHelp, DisplayVersion}
use Rattle.nameserver_cli.specs.declared.ending.Ending.{Ending}
use Rattle.nameserver_cli.specs.declared.ending.Ending.TheVariants.{Arguments, InvalidValue, NotUtf8, Refused, Differs, CannotPrint, Memory}

-- the line for an invalid value of an option
abbrev pub invalid_text : (option value reason : List ℕ) → List ℕ
invalid_text option value reason = codes "invalid value '" ++ (value ++ (codes "' for '--" ++ (option ++ (codes "': " ++ reason))))

-- the line says which value of which option is invalid, and why; or there was no memory for it
abbrev pub IsOfInvalidValue : (option value reason : List ℕ) → Ending → Type 0
IsOfInvalidValue option value reason (InvalidValue line) = string_bytes line ≡ invalid_text option value reason
IsOfInvalidValue option value reason ending = ending ≡ Memory

-- the arguments ask for help or for the version
abbrev pub IsAnswer : Ending → Type 0
IsAnswer (Arguments error) = ¬ ((kind_of error ≢ DisplayHelp) × (kind_of error ≢ DisplayVersion))
IsAnswer ending = ⊥

-- the exit status: 2 if the arguments are at fault, otherwise 1; of a comparison, 1 if a script expects something else, otherwise 2
abbrev pub status_of : Bool → Ending → ℕ
status_of is_comparison (Arguments error) = 2
status_of is_comparison (InvalidValue line) = 2
status_of is_comparison NotUtf8 = 2
status_of is_comparison Differs = 1
status_of true ending = 2
status_of false ending = 1

-- what the program says after its name, on a line
abbrev pub said : List ℕ → Option (List ℕ)
said text = Some (codes "nameserver: " ++ (text ++ codes "\n"))

-- What the program says: nothing if a script differs, since standard output has the differences. The texts of the errors of the
-- system and of clap are theirs.
abbrev pub ending_text : Ending → Option (List ℕ)
ending_text (InvalidValue line) = said (string_bytes line)
ending_text (Refused report) = Some (string_bytes report)
ending_text NotUtf8 = said (codes "arguments are not valid UTF-8")
ending_text Differs = Some []
ending_text CannotPrint = said (codes "cannot write to standard output")
ending_text Memory = said (codes "out of memory")
ending_text ending = None
