-- The files of a check, as a report shows them.
use Rattle.std.specs.Prelude.{ℕ, List, [], map, flat_map, slice_get, Some, None}
use Rattle.std.specs.Borrow.{Bor}
use Rattle.zone_check.specs.declared.files.Files.{Files}
use Rattle.zone_check.specs.findings.Finding.{Said, finding_text}
use Rattle.zone_check.specs.declared.findings.format.ReportFormat.{ReportFormat}
use Rattle.zone_lines.specs.Line.{lines_view}

-- the names of files, and the lines of their texts
pub record ShownFiles : Type 0 where
  pub names : List (List ℕ)
  pub texts : List (List (List ℕ))

-- names as the code has them, and files
abbrev pub names_view : List (Bor (List ℕ)) → List (List ℕ)
names_view names = map (λ name. name.now) names

-- the files that the code has
abbrev pub files_view : Files → ShownFiles
files_view f = record { names = names_view f.names.now; texts = lines_view f.texts.now }

-- the name of the file of a text; of no text it is empty
abbrev pub file_name : ShownFiles → ℕ → List ℕ
file_name files source = elim (slice_get files.names source) [ Some name ↦ name | None ↦ [] ]

-- the lines of a text; of no text there are none
abbrev pub file_lines : ShownFiles → ℕ → List (List ℕ)
file_lines files source = elim (slice_get files.texts source) [ Some lines ↦ lines | None ↦ [] ]

-- what is said of a file, in a format
abbrev pub finding_in : ReportFormat → ShownFiles → Said → List ℕ
finding_in format files s = finding_text format (file_name files s.source) (file_lines files s.source) s

-- all that is said of files, in order
abbrev pub report_text : ReportFormat → ShownFiles → List Said → List ℕ
report_text format files said = flat_map (finding_in format files) said
