-- Redirection by DNAME records (RFC 6672 section 2).
use Rattle.std.specs.Prelude.{false, zero, suc, length, take, drop, nat_lt, if◌then◌else◌, List, [], ◌∷◌, ℕ, Option, Some, None, Result, Ok, Err}
use Rattle.dns_names.specs.Name.{DomainName}
use Rattle.dns_names.specs.Build.{append_label, append_name, root_name}
use Rattle.dns_names.specs.Label.{label_of_bytes}
use Rattle.dns_names.specs.declared.error.ParseError.{ParseError}
use Rattle.dns_data.specs.declared.rdata.RData.{RData}
use Rattle.dns_data.specs.declared.rdata.RData.TheVariants as of

-- the value of an outcome, if it is one
abbrev pub if_made : Result DomainName ParseError → Option DomainName
if_made (Ok name) = Some name
if_made (Err error) = None

-- the label at the front of bytes, after its length, and the bytes after it; the root's label is empty (RFC 1035 section 3.1)
abbrev pub split_label : List ℕ → Option (List ℕ × List ℕ)
split_label [] = None
split_label (len ∷ bytes) = if nat_lt (length bytes) len then None else Some (take len bytes, drop len bytes)

-- the rest of a name, after a label that was appended
abbrev pub after_label : (DomainName → List ℕ → Option DomainName) → List ℕ → Result DomainName ParseError → Option DomainName
after_label rest bytes (Ok longer) = rest longer bytes
after_label rest bytes (Err error) = None

-- the name with a label and the rest after it; the root's label ends it, and is the last of the bytes
abbrev pub with_label : (DomainName → List ℕ → Option DomainName) → DomainName → List ℕ → List ℕ → Option DomainName
with_label rest name [] [] = Some name
with_label rest name [] (byte ∷ bytes) = None
with_label rest name (octet ∷ label) bytes = after_label rest bytes (append_label name (label_of_bytes (octet ∷ label)))

-- the same, if there is a label
abbrev pub with_part : (DomainName → List ℕ → Option DomainName) → DomainName → Option (List ℕ × List ℕ) → Option DomainName
with_part rest name None = None
with_part rest name (Some part) = with_label rest name part.0 part.1

-- The name whose first labels are those of a name, and whose others are all that bytes encode. At most so many labels are read.
unfoldable pub name_along : ℕ → DomainName → List ℕ → Option DomainName
name_along zero name bytes = None
name_along (suc count) name bytes = with_part (name_along count) name (split_label bytes)

-- the most labels that a name has, with the root's: 128
abbrev pub max_labels : ℕ
max_labels = 128

-- the name that all of the bytes encode, without compression (RFC 6672 section 2.1)
abbrev pub name_of_bytes : List ℕ → Option DomainName
name_of_bytes bytes = name_along max_labels root_name bytes

-- the target of a DNAME record, whose data is opaque here
abbrev pub dname_target : RData → Option DomainName
dname_target (of.Unknown code bytes) = name_of_bytes bytes
dname_target other = None

-- The name with a target in place of its last labels, but the first ones of which there are so many. It does not exist if it has
-- more than 255 bytes (RFC 6672 section 2.2).
abbrev pub with_target : DomainName → ℕ → DomainName → Option DomainName
with_target name kept target =
    if_made (append_name (record { is_fqdn = false; labels = take kept name.labels }) target)
