-- Questions: how they are encoded and printed, and when two ask for the same (RFC 1035 section 4.1.2).
use Rattle.std.specs.Prelude.{◌==◌, ◌&&◌, Bool, ℕ, List, [], ◌∷◌, ◌++◌}
use Rattle.std.specs.Int.{w16, to_be_bytes}
use Rattle.dns_wire.specs.Encodable.{Piece, Plain, Domain}
use Rattle.dns_wire.specs.codes.RecordType.{type_number}
use Rattle.dns_wire.specs.codes.DNSClass.{class_number}
use Rattle.dns_wire.specs.codes.CodeText.{type_text, class_text}
use Rattle.dns_names.specs.Compare.{same_labels}
use Rattle.dns_names.specs.Print.{text_of_name}
use Rattle.dns_messages.specs.declared.query.Query.{Query}

-- a name, a type and a class
abbrev pub question_pieces : Query → List Piece
question_pieces q =
    Domain q.name.labels ∷ Plain (to_be_bytes w16 (type_number q.query_type))
    ∷ Plain (to_be_bytes w16 (class_number q.query_class)) ∷ []

-- the labels of the name, ignoring ASCII case, and the numbers of type and class
abbrev pub same_question : Query → Query → Bool
same_question a b =
    same_labels a.name.labels b.name.labels
    && ((type_number a.query_type == type_number b.query_type)
    && (class_number a.query_class == class_number b.query_class))

-- a question as text, such as `a.t. IN A`: name, class and type, separated by single spaces
abbrev pub question_text : Query → List ℕ
question_text q = text_of_name q.name ++ 32 ∷ class_text q.query_class ++ 32 ∷ type_text q.query_type
