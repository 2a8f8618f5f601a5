-- Names built from labels and other names (RFC 1035 sections 2.3.4 and 3.1, RFC 4592 section 2.1.1).
use Rattle.std.specs.Prelude.{ℕ, nat_lt, if◌then◌else◌, true, List, [], ◌∷◌, ◌++◌, Option, Some, None, Result, Ok, Err, ◌-◌, length, drop}
use Rattle.dns_wire.specs.Name.{max_name_len, name_len}
use Rattle.dns_names.specs.Name.{DomainName}
use Rattle.dns_names.specs.Parse.{name_of_text}
use Rattle.dns_names.specs.declared.error.ParseError.{ParseError}
use Rattle.dns_names.specs.declared.error.ParseError.TheVariants.{DomainNameTooLong}

-- the name with labels appended, which may be at most 255 bytes long
abbrev pub append_labels : DomainName → List (List ℕ) → Result DomainName ParseError
append_labels name labels =
    if nat_lt max_name_len (name_len (name.labels ++ labels)) then Err DomainNameTooLong
    else Ok (record name { labels = name.labels ++ labels })

-- the name with a label appended, unless the label has an error
abbrev pub append_label : DomainName → Result (List ℕ) ParseError → Result DomainName ParseError
append_label name (Ok label) = append_labels name (label ∷ [])
append_label name (Err error) = Err error

-- the name with a label prepended, unless the label has an error
abbrev pub prepend_label : Result (List ℕ) ParseError → DomainName → Result DomainName ParseError
prepend_label (Ok label) name = append_labels (record name { labels = label ∷ [] }) name.labels
prepend_label (Err error) name = Err error

-- the name with another name's labels and flag appended
abbrev pub append_name : DomainName → DomainName → Result DomainName ParseError
append_name name other = append_labels (record name { is_fqdn = other.is_fqdn }) other.labels

-- the name with a domain appended, fully qualified
abbrev pub append_domain : DomainName → DomainName → Result DomainName ParseError
append_domain name domain = append_labels (record name { is_fqdn = true }) domain.labels

-- the origin, if there is one, is appended to a relative name
abbrev pub complete : DomainName → Option DomainName → Result DomainName ParseError
complete name None = Ok name
complete name (Some origin) = if name.is_fqdn then Ok name else append_domain name origin

-- the name that a text spells, with the origin
abbrev pub parse_name : List ℕ → Option DomainName → Result DomainName ParseError
parse_name text origin = elim (name_of_text text) [ Ok name ↦ complete name origin | Err error ↦ Err error ]

-- the name with labels appended one after another, up to the first error
abbrev pub append_each : {A : Type 0} → (A → Result (List ℕ) ParseError) → DomainName → List A → Result DomainName ParseError
append_each label name [] = Ok name
append_each label name (x ∷ xs) =
    elim (append_label name (label x)) [ Ok next ↦ append_each label next xs | Err error ↦ Err error ]

-- the root
abbrev pub root_name : DomainName
root_name = record { is_fqdn = true; labels = [] }

-- the label `*`
abbrev pub star : List ℕ
star = 42 ∷ []

-- the last labels, fully qualified, or the name itself if it has fewer
abbrev pub trim_to : DomainName → ℕ → DomainName
trim_to name count =
    if nat_lt (length name.labels) count then name
    else record { is_fqdn = true; labels = drop (length name.labels - count) name.labels }

-- the parent name, fully qualified, or the name itself if it has no labels
abbrev pub base_name : DomainName → DomainName
base_name name = elim name.labels [ [] ↦ name | label ∷ labels ↦ record { is_fqdn = true; labels = labels } ]

-- the name with `*` in place of its first label
abbrev pub into_wildcard : DomainName → DomainName
into_wildcard name = elim name.labels [ [] ↦ name | label ∷ labels ↦ record { is_fqdn = name.is_fqdn; labels = star ∷ labels } ]
