-- The name from whose rows a name is answered: itself, or the source of synthesis (RFC 4592 section 3.3).
use Rattle.std.specs.Prelude.{◌-◌, if◌then◌else◌, true, drop, length, List, [], ◌∷◌, ℕ, Option, Some, None, option_map}
use Rattle.dns_names.specs.Name.{DomainName}
use Rattle.dns_names.specs.Build.{star}
use Rattle.dns_zone.specs.Rows.{Rows, some_row_below}

-- the closest encloser of a name that does not exist: the longest name above it that exists (RFC 4592 section 3.3.1)
abbrev pub closest_encloser : Rows → List (List ℕ) → Option (List (List ℕ))
closest_encloser rows [] = None
closest_encloser rows (label ∷ labels) =
    if some_row_below rows labels then Some labels else closest_encloser rows labels

-- the last labels of a name, so many of them
abbrev pub suffix : List (List ℕ) → ℕ → List (List ℕ)
suffix labels kept = drop (length labels - kept) labels

-- the label `*` below a name
abbrev pub wildcard_below : List (List ℕ) → DomainName
wildcard_below labels = record { is_fqdn = true; labels = star ∷ labels }

-- the source of synthesis of a name that does not exist: `*` below its closest encloser (RFC 4592 section 3.3.1)
abbrev pub source_of_synthesis : Rows → List (List ℕ) → Option DomainName
source_of_synthesis rows labels = option_map wildcard_below (closest_encloser rows labels)

-- a name, if it exists (RFC 4592 section 2.2.2)
abbrev pub if_exists : Rows → Option DomainName → Option DomainName
if_exists rows None = None
if_exists rows (Some name) = if some_row_below rows name.labels then Some name else None

-- The name from whose rows a name is answered: itself if it exists, or else the source of synthesis if that exists. Without
-- either, there is no such name (RFC 4592 section 3.3.2).
abbrev pub answering_name : Rows → DomainName → Option DomainName
answering_name rows name =
    if some_row_below rows name.labels then Some name
    else if_exists rows (source_of_synthesis rows name.labels)
