-- Keys of questions, which tell the questions that have the same entry.
use Rattle.std.specs.Prelude.{ℕ, ◌/◌, ◌%◌, Bool, List, ◌∷◌, length, if◌then◌else◌}
use Rattle.std.specs.List.{flat_map}
use Rattle.std.specs.Str.{str_to_ascii_lowercase}
use Rattle.dns_wire.specs.codes.RecordType.{type_number}
use Rattle.dns_wire.specs.codes.DNSClass.{class_number}
use Rattle.dns_messages.specs.declared.query.Query.{Query}

-- the length of a label, and its bytes with ASCII letters in lower case
abbrev pub label_key : List ℕ → List ℕ
label_key label = length label ∷ str_to_ascii_lowercase label

-- the labels of a name, one after another
abbrev pub labels_key : List (List ℕ) → List ℕ
labels_key = flat_map label_key

-- 1 for a fully qualified name, or else 0
abbrev pub flag_key : Bool → ℕ
flag_key is_fqdn = if is_fqdn then 1 else 0

-- the two bytes of the type of a question, those of its class, the flag of its name, and the labels
abbrev pub key_of : Query → List ℕ
key_of q =
    type_number q.query_type / 256 ∷ type_number q.query_type % 256
    ∷ class_number q.query_class / 256 ∷ class_number q.query_class % 256
    ∷ flag_key q.name.is_fqdn ∷ labels_key q.name.labels
