-- What the program reads, and how it ends: what it writes to standard error, and its exit status.
use Rattle.std.specs.Prelude.{◌≡◌, ℕ, List, [], ◌∷◌, ◌++◌, codes, string_bytes, String, Option, Some, None, ⊤}
use Rattle.std.specs.Global.{Global}
use Rattle.std.specs.Str.{IsUtf8}
use Rattle.std.specs.declared.io.ErrorKind.{ErrorKind}
use Rattle.std.specs.declared.io.ErrorKind.TheVariants.{OutOfMemory}
use Rattle.stub_play.specs.declared.program.FileContents.{FileContents}
use Rattle.stub_play.specs.declared.program.InputFile.{InputFile}
use Rattle.stub_play.specs.declared.program.InputFile.TheVariants as files
use Rattle.stub_play.specs.declared.program.Ending.{Ending}
use Rattle.stub_play.specs.declared.program.Ending.TheVariants.{Arguments, BadWords, NotUtf8, CannotRead, Fault, Memory}
use Rattle.stub_play.specs.declared.plays.input.PlayInput.{PlayInput}
use Rattle.stub_play.specs.declared.report.report.PlayFormat.TheVariants.{Text}
use Rattle.stub_play.specs.declared.words.Words.{Words}
use Rattle.stub_play.specs.declared.words.WordsFault.{WordsFault}
use Rattle.stub_play.specs.declared.words.WordsFault.TheVariants as words
use Rattle.stub_play.specs.PlayFault.{fault_text}

-- ---- files

-- the path of a file, if it was given
abbrev pub path_of : Words → InputFile → Option (String Global)
path_of given files.Zone = Some given.zone
path_of given files.Script = Some given.script
path_of given files.Hosts = given.hosts

-- the zone file and the script are text
abbrev pub IsContent : InputFile → List ℕ → Type 0
IsContent files.Zone bytes = IsUtf8 bytes
IsContent files.Script bytes = IsUtf8 bytes
IsContent files.Hosts bytes = ⊤

-- the new contents have these bytes for the file, and are the old ones otherwise
abbrev pub Sets : FileContents → InputFile → List ℕ → FileContents → Type 0
Sets old files.Zone bytes new = (string_bytes new.zone ≡ bytes) × (new ≡ record old { zone = new.zone })
Sets old files.Script bytes new = (string_bytes new.script ≡ bytes) × (new ≡ record old { script = new.script })
Sets old files.Hosts bytes new = (new.hosts.items ≡ bytes) × (new ≡ record old { hosts = new.hosts })

-- the contents of the files, with the options of the arguments; the report is text
abbrev pub input_of : Words → FileContents → PlayInput
input_of given contents = record {
  zone = contents.zone;
  script = contents.script;
  hosts = contents.hosts;
  origin = given.origin;
  limit = given.limit;
  cache = given.cache;
  max_ttl = given.max_ttl;
  udp = given.udp;
  types = given.types;
  format = Text;
}

-- ---- endings

-- a file that cannot be read: there is no memory for it, or the program names the file
abbrev pub unread_file : Option (String Global) → ErrorKind → Option Ending
unread_file None kind = None
unread_file (Some path) OutOfMemory = Some Memory
unread_file (Some path) kind = Some (CannotRead path)

-- arguments that cannot be read: there is no memory for them, or they are not UTF-8
abbrev pub unread_arguments : ErrorKind → Ending
unread_arguments OutOfMemory = Memory
unread_arguments kind = NotUtf8

-- how a fault of the words ends the program
abbrev pub words_ending : WordsFault → Ending
words_ending (words.Clap error) = Arguments error
words_ending words.Bad = BadWords
words_ending words.Memory = Memory

-- the exit status
abbrev pub status_of : Ending → ℕ
status_of (Arguments error) = 2
status_of BadWords = 2
status_of NotUtf8 = 2
status_of (CannotRead path) = 1
status_of (Fault fault) = 1
status_of Memory = 1

-- what is written to standard error; what clap says is clap's
abbrev pub ending_text : Ending → Option (List ℕ)
ending_text (Arguments error) = None
ending_text BadWords = Some (codes "bad words" ++ 10 ∷ [])
ending_text NotUtf8 = Some (codes "arguments are not valid UTF-8" ++ 10 ∷ [])
ending_text (CannotRead path) = Some (codes "cannot read " ++ (string_bytes path ++ 10 ∷ []))
ending_text (Fault fault) = Some (fault_text fault ++ 10 ∷ [])
ending_text Memory = Some (codes "no memory" ++ 10 ∷ [])
