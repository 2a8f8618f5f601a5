-- Lines that remove entries from the cache: `<at> clear <name> <type>` and `<at> clearall`.
use Rattle.std.specs.Prelude.{List, [], ◌∷◌, ℕ, Option, Some, None}
use Rattle.dns_wire.specs.declared.codes.record_type.RecordType.{RecordType}
use Rattle.dns_names.specs.Name.{DomainName}
use Rattle.dns_zone_file.specs.declared.types.Types.{Types}
use Rattle.stub_script.specs.EventContent.{ActionContent, Clear, ClearAll}
use Rattle.stub_script.specs.ScriptFields.{question_of}

-- the removal of a question's entries, if there is a question
abbrev pub clear_if : Option (DomainName × RecordType) → Option ActionContent
clear_if (Some (name, kind)) = Some (Clear name kind)
clear_if None = None

-- the removal of a question's entries, by the words after its keyword
abbrev pub clear_of : Types → List (List ℕ) → Option ActionContent
clear_of types (name ∷ kind ∷ []) = clear_if (question_of types name kind)
clear_of types arguments = None

-- the removal of all entries; no word follows its keyword
abbrev pub clear_all_of : List (List ℕ) → Option ActionContent
clear_all_of [] = Some ClearAll
clear_all_of arguments = None
