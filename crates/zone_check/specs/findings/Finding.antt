-- What is said of a file, and the text that says it.
use Rattle.std.specs.Prelude.{ℕ, List, [], ◌∷◌, ◌++◌, codes, Option, Some, None, option_copied}
use Rattle.std.specs.Fmt.{decimal}
use Rattle.zone_lines.specs.Line.{line_numbered}
use Rattle.zone_check.specs.findings.Shown.{front_shown, shown}
use Rattle.zone_check.specs.declared.findings.format.ReportFormat.{ReportFormat}
use Rattle.zone_check.specs.declared.findings.format.ReportFormat.TheVariants.{Text, Json}
use Rattle.zone_check.specs.declared.findings.finding.Advice.{Advice}
use Rattle.zone_check.specs.declared.findings.finding.Finding.{Finding}
use Rattle.zone_check.specs.declared.findings.finding.Severity.{Severity}
use Rattle.zone_check.specs.declared.findings.finding.Severity.TheVariants as severity

-- what is wrong, and what to write instead
pub record Sentences : Type 0 where
  pub reason : List ℕ
  pub hint : List ℕ

-- the sentences of the code
abbrev pub sentences : Advice → Sentences
sentences advice = record { reason = advice.reason.now; hint = advice.hint.now }

-- what is said of a file: of which text and line, if of one, whether the file is refused, the word at fault, if it is known, and
-- the sentences
pub record Said : Type 0 where
  pub source : ℕ
  pub line : Option ℕ
  pub severity : Severity
  pub word : Option (List ℕ)
  pub advice : Sentences

-- what a finding of the code says
abbrev pub said_by : Finding → Said
said_by f =
    record { source = f.source; line = f.line; severity = f.severity; word = option_copied f.word; advice = sentences f.advice }

-- ---- text

-- the word for a severity
abbrev pub severity_name : Severity → List ℕ
severity_name severity.Fault = codes "fault"
severity_name severity.Warning = codes "warning"

-- the number of a line after a colon, if there is one
abbrev pub line_part : Option ℕ → List ℕ
line_part (Some line) = codes ":" ++ decimal line
line_part None = []

-- the number of a line, or `null` if there is none
abbrev pub number_part : Option ℕ → List ℕ
number_part (Some line) = decimal line
number_part None = codes "null"

-- a word that is shown: of one at fault, at most 60 characters
abbrev pub word_shown : ReportFormat → Severity → List ℕ → List ℕ
word_shown format severity.Fault word = front_shown format word
word_shown format severity.Warning word = shown format word

-- the word after a colon and in backquotes, if one is known
abbrev pub word_part : ReportFormat → Severity → Option (List ℕ) → List ℕ
word_part format how (Some word) = codes ": `" ++ word_shown format how word ++ codes "`"
word_part format how None = []

-- a sentence on a line of its own, after four blanks; an empty one has no line
abbrev pub indented : List ℕ → List ℕ
indented [] = []
indented (c ∷ cs) = codes "    " ++ (c ∷ cs) ++ codes "\n"

-- a line of a file, after four blanks; an empty one is not shown
abbrev pub line_shown : List ℕ → List ℕ
line_shown [] = []
line_shown (c ∷ cs) = codes "    " ++ shown Text (c ∷ cs) ++ codes "\n"

-- the text of a line, or nothing if there is none
abbrev pub line_text : List (List ℕ) → Option ℕ → List ℕ
line_text lines None = []
line_text lines (Some number) = elim (line_numbered lines number) [ Some line ↦ line | None ↦ [] ]

-- What is said of a file, for people: `FILE:LINE: SEVERITY: REASON: WORD`, the text of the line, and what to write instead. What
-- is of the file is shown without the characters on which a terminal may act.
abbrev pub text_finding : List ℕ → List ℕ → Said → List ℕ
text_finding file line s =
    shown Text file ++ line_part s.line ++ codes ": " ++ severity_name s.severity ++ codes ": " ++ s.advice.reason
    ++ word_part Text s.severity s.word ++ codes "\n" ++ line_shown line ++ indented s.advice.hint

-- What is said of a file, for programs: an object with the file, the line, the severity, what is wrong with the word at fault,
-- and what to write instead (RFC 8259).
abbrev pub json_finding : List ℕ → Said → List ℕ
json_finding file s =
    codes "{\"file\":\"" ++ shown Json file ++ codes "\",\"line\":" ++ number_part s.line ++ codes ",\"kind\":\""
    ++ severity_name s.severity ++ codes "\",\"message\":\"" ++ shown Json s.advice.reason ++ word_part Json s.severity s.word
    ++ codes "\",\"hint\":\"" ++ shown Json s.advice.hint ++ codes "\"}\n"

-- what is said of a file with these lines, in a format
abbrev pub finding_text : ReportFormat → List ℕ → List (List ℕ) → Said → List ℕ
finding_text Text file lines s = text_finding file (line_text lines s.line) s
finding_text Json file lines s = json_finding file s
