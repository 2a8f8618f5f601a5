-- What is asked about a name.
use Rattle.std.specs.Prelude.{◌≡◌, ◌++◌, codes, [], List, ℕ, Option, Some, None, Result, Ok, IfOk, drop, take, string_bytes}
use Rattle.std.specs.Borrow.{Bor}
use Rattle.std.specs.Char.{is_whitespace}
use Rattle.std.specs.Str.{NoCharPasses, trim}
use Rattle.std.specs.Str.Pattern.{HasPassingCharAt}
use Rattle.std.specs.declared.alloc.AllocError.{AllocError}
use Rattle.std.specs.declared.net.ip_addr.IpAddr.{IpAddr}
use Rattle.dns_fields.specs.bitmaps.TypeWord.{type_of_word, word_of_type}
use Rattle.dns_wire.specs.codes.RecordType.{type_number}
use Rattle.dns_wire.specs.declared.codes.record_type.RecordType.{RecordType}
use Rattle.dns_wire.specs.declared.codes.record_type.RecordType.TheVariants.{PTR}
use Rattle.dns_names.specs.Print.{text_of_name}
use Rattle.dns_names.specs.Reverse.{reverse_name}
use Rattle.lookup_cli.specs.declared.answers.item.Item.{Item}
use Rattle.lookup_cli.specs.declared.answers.item.Question.{Question}
use Rattle.lookup_cli.specs.declared.answers.item.Question.TheVariants.{Addresses, Records, Unknown}

-- the question for the records of a type
abbrev pub question_for : Option RecordType → Question
question_for (Some record_type) = Records record_type
question_for None = Unknown

-- the question for the records of the type that a text spells, which cannot be asked if it spells none
abbrev pub question_of_type : List ℕ → Question
question_of_type text = question_for (type_of_word text)

-- the question about a reverse name: its PTR records, unless a type is given
abbrev pub reversed_question : Question → Question
reversed_question Addresses = Records PTR
reversed_question other = other

-- an item with the reverse name of an address
abbrev pub IsReversed : Item → IpAddr → Item → Type 0
IsReversed item address other =
    (string_bytes other.name ≡ text_of_name (reverse_name address)) × (other.type_text ≡ item.type_text)
    × (other.question ≡ reversed_question item.question)

-- an item is made one with the reverse name of the address that its name is, if memory allows, or stays as it is
abbrev pub Reverses : Item → Option IpAddr → Result Item AllocError → Type 0
Reverses item None result = result ≡ Ok item
Reverses item (Some address) result = IfOk result (IsReversed item address)

-- the first white space of a text is a character that begins at one place and ends at another
abbrev pub HasFirstSpace : List ℕ → ℕ → ℕ → Type 0
HasFirstSpace text start end = NoCharPasses is_whitespace (take start text) × HasPassingCharAt is_whitespace text start end

-- the parts of a text before and after its first white space, if it has any
abbrev pub SplitsAtSpace : List ℕ → Option (Bor (List ℕ) × Bor (List ℕ)) → Type 0
SplitsAtSpace text None = NoCharPasses is_whitespace text
SplitsAtSpace text (Some parts) = (start : ℕ) × (end : ℕ) × HasFirstSpace text start end
    × (parts.0.now ≡ take start text) × (parts.1.now ≡ drop end text)

-- What a line without white space around it asks: a line without white space is a name, with the default question; any other is a name
-- up to the first white space, after which a text spells the type.
pub data IsItemOf (line : List ℕ) (default : Question) (item : Item) : Type 0 where
  alone : NoCharPasses is_whitespace line → string_bytes item.name ≡ line → string_bytes item.type_text ≡ [] → item.question ≡ default
      → IsItemOf line default item
  typed : (start end : ℕ) → HasFirstSpace line start end → string_bytes item.name ≡ take start line
      → string_bytes item.type_text ≡ trim (drop end line) → item.question ≡ question_of_type (trim (drop end line))
      → IsItemOf line default item

-- the type that is asked for, or the word for addresses
abbrev pub question_text : Question → List ℕ
question_text Addresses = codes "ADDRESSES"
question_text (Records record_type) = word_of_type (type_number record_type)
question_text Unknown = codes "?"

-- the type of a question about a name, which is as it was given if it is not a type
abbrev pub shown_type : Question → List ℕ → List ℕ
shown_type Unknown given = given
shown_type question given = question_text question

-- the type of an item
abbrev pub item_type : Item → List ℕ
item_type item = shown_type item.question (string_bytes item.type_text)

-- an item as a heading and a message have it: its name and its type
abbrev pub item_text : Item → List ℕ
item_text item = string_bytes item.name ++ (codes " " ++ item_type item)
