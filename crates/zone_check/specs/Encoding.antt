-- What is said of a file that is not UTF-8.
use Rattle.std.specs.Prelude.{◌≡◌, ◌==◌, ◌+◌, ℕ, List, [], take, count_by, codes, Some, None}
use Rattle.std.specs.Str.{IsUtf8}
use Rattle.std.specs.Str.Lossy.{utf8_valid_len}
use Rattle.zone_check.specs.Fault.{fault_said}
use Rattle.zone_check.specs.findings.Finding.{Said, finding_text}
use Rattle.zone_check.specs.declared.findings.format.ReportFormat.{ReportFormat}

-- what is said of a byte that is not UTF-8, after these: its line, from 1
abbrev pub encoding_said : List ℕ → Said
encoding_said before = fault_said 0 (Some (count_by (λ b. b == 10) before + 1)) None (record {
  reason = codes "a byte that is not UTF-8";
  hint = codes "save the file as UTF-8; it may be in Latin-1";
})

-- the report of a file by its bytes: the line of the first byte that is not UTF-8, without its text, or nothing
pub record IsEncodingReport (format : ReportFormat) (file bytes report : List ℕ) : Type 0 where
  pub accepted : IsUtf8 bytes → report ≡ []
  pub refused : ¬ (IsUtf8 bytes) → report ≡ finding_text format file [] (encoding_said (take (utf8_valid_len bytes) bytes))
