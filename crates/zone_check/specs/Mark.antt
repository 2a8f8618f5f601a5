-- The byte-order mark at the start of a file.
use Rattle.std.specs.Prelude.{nat_eq, if◌then◌else◌, ℕ, Bool, List, [], ◌∷◌, codes, drop}
use Rattle.std.specs.List.{starts_with}
use Rattle.zone_check.specs.findings.Finding.{Sentences}
use Rattle.zone_lines.specs.Source.{FileText}

-- whether a text begins with a byte-order mark, U+FEFF in UTF-8
abbrev pub has_mark : List ℕ → Bool
has_mark text = starts_with nat_eq text (0xEF ∷ 0xBB ∷ 0xBF ∷ [])

-- a text without the byte-order mark at its start
abbrev pub without_mark : List ℕ → List ℕ
without_mark text = if has_mark text then drop 3 text else text

-- a zone file without the byte-order mark at its start
abbrev pub unmarked : FileText → FileText
unmarked file = record file { text = without_mark file.text }

-- the sentences of a byte-order mark
abbrev pub mark_said : Sentences
mark_said = record {
  reason = codes "a byte-order mark at the start of the file";
  hint = codes "save the file as UTF-8 without a byte-order mark";
}
