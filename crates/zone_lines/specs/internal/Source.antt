-- The texts of a zone file, as the code finds them.
use Rattle.zone_lines.specs.Source.{Source}
use Rattle.zone_lines.specs.declared.skip.Section.{Section}

-- the text of a whole section
abbrev pub source_view : Section → Source
source_view s = record { number = s.source; text = s.text.now }
