-- What is said of a script.
use Rattle.std.specs.Prelude.{◌≡◌, ◌==◌, ◌&&◌, ℕ, Bool, List, codes, IfSome, Option, Some, None}
use Rattle.std.specs.Str.{bytes_eq}
use Rattle.std.specs.Str.Lines.{lines}
use Rattle.zone_check.specs.Fault.{fault_said}
use Rattle.zone_check.specs.Mark.{has_mark, mark_said}
use Rattle.zone_check.specs.ScriptLine.{IsWordOf}
use Rattle.zone_check.specs.findings.Finding.{Said, Sentences, finding_text, line_text}
use Rattle.zone_check.specs.declared.findings.format.ReportFormat.{ReportFormat}

-- what is said of a moment that is out of order
abbrev pub moment_said : ℕ → Said
moment_said line = fault_said 0 (Some line) None (record {
  reason = codes "a moment before that of an event above, or after 2^62";
  hint = codes "write events in the order of their moments, and none after 2^62";
})

-- whether the reason of a fault is that a byte-order mark begins the file
abbrev pub is_mark_reason : List ℕ → Bool
is_mark_reason reason = bytes_eq reason mark_said.reason

-- whether a byte-order mark begins a line that is the first
abbrev pub is_marked : ℕ → List ℕ → Bool
is_marked line text = line == 1 && has_mark text

-- The report of a line of a script that cannot be read: one fault of that line, which may show a word of the line. Its reason is a
-- byte-order mark exactly if one begins the script and this is its first line.
pub record IsLineReport (format : ReportFormat) (file text : List ℕ) (line : ℕ) (report : List ℕ) : Type 0 where
  pub word : Option (List ℕ)
  pub advice : Sentences
  pub word_of_line : IfSome word (IsWordOf (line_text (lines text) (Some line)))
  pub mark_is : is_mark_reason advice.reason ≡ is_marked line (line_text (lines text) (Some line))
  pub report_is : report ≡ finding_text format file (lines text) (fault_said 0 (Some line) word advice)
