-- The names that a lookup attempts (RFC 1123 section 6.1.4.3, RFC 7686 section 2).
use Rattle.std.specs.Prelude.{◌==◌, ◌&&◌, ◌||◌, nat_lt, if◌then◌else◌, Bool, false, List, [], ◌∷◌, ℕ, length, reverse, codes, Option, Some, None, Result, Ok, Err}
use Rattle.std.specs.List.{list_any}
use Rattle.std.specs.Str.{str_eq_ignore_ascii_case}
use Rattle.dns_names.specs.Name.{DomainName}
use Rattle.dns_names.specs.Build.{append_domain}
use Rattle.dns_names.specs.Compare.{same_name}
use Rattle.dns_names.specs.Labels.{num_labels, ends_in_localhost}
use Rattle.dns_names.specs.declared.error.ParseError.{ParseError}
use Rattle.stub_hosts.specs.Hosts.{qualified}

-- Whether labels, from right to left, begin with those of an onion service of version 3: `onion`, ignoring ASCII case, and
-- a label of 56 bytes.
abbrev pub is_onion_path : List (List ℕ) → Bool
is_onion_path (zone ∷ service ∷ labels) = str_eq_ignore_ascii_case zone (codes "onion") && length service == 56
is_onion_path labels = false

-- whether the name is attempted alone: it is fully qualified, or at or below an onion service
abbrev pub is_complete : DomainName → Bool
is_complete name = name.is_fqdn || is_onion_path (reverse name.labels)

-- whether the name as it is comes before those of the domain and the search list: it has more than `ndots` labels (without a
-- leading `*`), or its last one is `localhost`
abbrev pub is_first : ℕ → DomainName → Bool
is_first ndots name = nat_lt ndots (num_labels name.labels) || ends_in_localhost name.labels

-- a joined name before those that are attempted later, unless it is too long or equal to one of them
abbrev pub joined_before : Result DomainName ParseError → List DomainName → List DomainName
joined_before (Err error) later = later
joined_before (Ok name) later = if list_any (λ other. same_name other name) later then later else name ∷ later

-- the name joined with each of the zones, before those that are attempted later
abbrev pub joined_names : DomainName → List DomainName → List DomainName → List DomainName
joined_names name [] later = later
joined_names name (zone ∷ zones) later = joined_before (append_domain name zone) (joined_names name zones later)

-- the domain, if there is one, and the search list
abbrev pub search_zones : Option DomainName → List DomainName → List DomainName
search_zones None search = search
search_zones (Some domain) search = domain ∷ search

-- The names that a lookup attempts, in order: a complete name alone; else the name as it is, first or last, and the name
-- joined with the domain and with each zone of the search list.
abbrev pub attempted_names : ℕ → Option DomainName → List DomainName → DomainName → List DomainName
attempted_names ndots domain search name =
    if is_complete name then qualified name ∷ []
    else if is_first ndots name then qualified name ∷ joined_names name (search_zones domain search) []
    else joined_names name (search_zones domain search) (qualified name ∷ [])
