-- The report of a file that is not UTF-8.
use Rattle.std.proofs.Common.{◌≡◌, ℕ, List, [], take, ap, ◌∙◌}
use Rattle.std.specs.Str.{IsUtf8}
use Rattle.std.specs.Str.Lossy.{utf8_valid_len}
use Rattle.zone_check.specs.findings.Finding.{finding_text}
use Rattle.zone_check.specs.declared.findings.format.ReportFormat.{ReportFormat}
use Rattle.zone_check.specs.Encoding.{IsEncodingReport, encoding_said}

pub bytes_refused : (format : ReportFormat) (file bytes report : List ℕ) (n : ℕ) → ¬ (IsUtf8 bytes) → n ≡ utf8_valid_len bytes
    → report ≡ finding_text format file [] (encoding_said (take n bytes)) → IsEncodingReport format file bytes report
bytes_refused format file bytes report n invalid is written = record {
  accepted = λ valid. absurd (invalid valid);
  refused = λ _. written ∙ ap (λ (k : ℕ). finding_text format file [] (encoding_said (take k bytes))) is;
}
