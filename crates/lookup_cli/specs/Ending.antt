-- Why the program ends.
use Rattle.std.specs.Prelude.{◌≡◌, ◌≢◌, ◌++◌, List, ℕ, Option, Some, None, codes, string_bytes}
use Rattle.std.specs.declared.io.Error.{Error}
use Rattle.std.specs.IoError.{error_kind}
use Rattle.std.specs.declared.io.ErrorKind.TheVariants.{OutOfMemory}
use Rattle.clap.specs.Values.{kind_of}
use Rattle.clap.specs.declared.error.kind.ErrorKind.TheVariants.{DisplayHelp, DisplayVersion}
use Rattle.lookup_cli.specs.declared.ending.Ending.{Ending}
use Rattle.lookup_cli.specs.declared.ending.Ending.TheVariants.{Arguments, InvalidValue, NotUtf8, ZoneWithoutUpdate, CannotRead, HostsNotUtf8, NoKey, CannotPrint, NoEntropy, Memory}

-- the line for an invalid value of an argument
abbrev pub invalid_text : (argument value reason : List ℕ) → List ℕ
invalid_text argument value reason = codes "invalid value '" ++ (value ++ (codes "' for '" ++ (argument ++ (codes "': " ++ reason))))

-- the line says which value of which argument is invalid, and why; or there was no memory for it
abbrev pub IsOfInvalidValue : (argument value reason : List ℕ) → Ending → Type 0
IsOfInvalidValue argument value reason (InvalidValue line) = string_bytes line ≡ invalid_text argument value reason
IsOfInvalidValue argument value reason ending = ending ≡ Memory

-- the path of a file and why it could not be read, if not for want of memory; or there was no memory for one of them
abbrev pub IsOfUnread : (path : List ℕ) → Error → Ending → Type 0
IsOfUnread path error (CannotRead said why) = (string_bytes said ≡ path) × (why ≡ error) × (error_kind error ≢ OutOfMemory)
IsOfUnread path error ending = ending ≡ Memory

-- the arguments ask for help or for the version
abbrev pub IsAnswer : Ending → Type 0
IsAnswer (Arguments error) = ¬ ((kind_of error ≢ DisplayHelp) × (kind_of error ≢ DisplayVersion))
IsAnswer ending = ⊥

-- what the program says after its name
abbrev pub said : List ℕ → Option (List ℕ)
said text = Some (codes "lookup: " ++ text)

-- What the program says. The texts of the errors of other libraries are theirs.
abbrev pub ending_text : Ending → Option (List ℕ)
ending_text (InvalidValue line) = said (string_bytes line ++ codes "\n")
ending_text NotUtf8 = said (codes "arguments are not valid UTF-8\n")
ending_text ZoneWithoutUpdate = said (codes "--zone names the zone of an update, and there is no --update\n")
ending_text (HostsNotUtf8 path) = said (string_bytes path ++ codes ": a line is not valid UTF-8\n")
ending_text (NoKey path) = said (string_bytes path ++ codes ": there is no such key\n")
ending_text CannotPrint = said (codes "cannot write to standard output\n")
ending_text NoEntropy = said (codes "the system has no random bytes\n")
ending_text Memory = said (codes "out of memory\n")
ending_text ending = None
