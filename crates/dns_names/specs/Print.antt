-- Names and labels to text (RFC 1035 section 5.1).
use Rattle.std.specs.Prelude.{ℕ, ◌+◌, ◌/◌, ◌%◌, ◌<◌, if◌then◌else◌, Bool, true, false, List, [], ◌∷◌, ◌++◌}
use Rattle.std.specs.List.{AllByRecursion}
use Rattle.dns_names.specs.Name.{DomainName}
use Rattle.dns_names.specs.Parse.{is_plain_octet}

-- a backslash and three decimal digits
abbrev pub escape_sequence : ℕ → List ℕ
escape_sequence c = 92 ∷ (48 + c / 100) ∷ (48 + c / 10 % 10) ∷ (48 + c % 10) ∷ []

-- an octet as itself if it needs no escape, and else as an escape
abbrev pub octet_text : Bool → ℕ → List ℕ
octet_text is_first c = if is_plain_octet is_first c then c ∷ [] else escape_sequence c

-- octets of a label, of which the first may be the label's first
abbrev pub octets_text : Bool → List ℕ → List ℕ
octets_text is_first [] = []
octets_text is_first (c ∷ cs) = octet_text is_first c ++ octets_text false cs

-- the text of a label
abbrev pub label_text : List ℕ → List ℕ
label_text = octets_text true

-- the labels after the first, each after a dot
abbrev pub dotted_labels : List (List ℕ) → List ℕ
dotted_labels [] = []
dotted_labels (label ∷ labels) = (46 ∷ label_text label) ++ dotted_labels labels

-- the labels separated by dots, with a trailing dot if the name is fully qualified; a dot is the root
abbrev pub text_of_labels : Bool → List (List ℕ) → List ℕ
text_of_labels is_fqdn [] = if is_fqdn then 46 ∷ [] else []
text_of_labels is_fqdn (label ∷ labels) = label_text label ++ (dotted_labels labels ++ (if is_fqdn then 46 ∷ [] else []))

-- the text of a name (RFC 1035 section 5.1)
abbrev pub text_of_name : DomainName → List ℕ
text_of_name name = text_of_labels name.is_fqdn name.labels

-- what `{:?}` writes: the type, and the text in parentheses and quotes
abbrev pub debug_text : List ℕ → List ℕ → List ℕ
debug_text type text = type ++ (40 ∷ 34 ∷ text) ++ 34 ∷ 41 ∷ []

-- the bytes of a label are octets
abbrev pub AreOctets : List ℕ → Type 0
AreOctets label = AllByRecursion (λ c. c < 256) label
