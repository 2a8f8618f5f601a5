-- The statement of a key: `key NAME { algorithm WORD; secret WORD; };`, with its two inner statements in any order.
use Rattle.std.specs.Prelude.{ℕ, if◌then◌else◌, List, length, codes, Option, Some, None, Result, Ok, Err}
use Rattle.dns_keys.specs.Algorithm.{is_same_text}
use Rattle.dns_keys.specs.Blanks.{after_blanks}
use Rattle.dns_keys.specs.Parts.{ClauseParts, StatementParts}
use Rattle.dns_keys.specs.Word.{after_symbol, word_at}
use Rattle.dns_keys.specs.WordParts.{WordParts}
use Rattle.dns_keys.specs.declared.blanks.Mode.TheVariants.{Between}
use Rattle.dns_keys.specs.declared.error.KeyFault.{KeyFault}
use Rattle.dns_keys.specs.declared.error.KeyFault.TheVariants as faults
use Rattle.dns_keys.specs.declared.statement.Failure.{Failure}
use Rattle.dns_keys.specs.declared.statement.Part.{Part}
use Rattle.dns_keys.specs.declared.statement.Part.TheVariants.{Algorithm, Secret}

-- a fault at the front of a text
abbrev pub failure_at : KeyFault → List ℕ → Failure
failure_at fault text = record { fault = fault; left = length text }

-- what there is, or a fault
abbrev pub or_fault : {X : Type 0} → KeyFault → List ℕ → Option X → Result X Failure
or_fault fault text (Some x) = Ok x
or_fault fault text None = Err (failure_at fault text)

-- what follows a success
abbrev pub then_try : {X Y : Type 0} → Result X Failure → (X → Result Y Failure) → Result Y Failure
then_try (Ok x) next = next x
then_try (Err e) next = Err e

-- the text after blanks and comments
abbrev pub skip_blanks : List ℕ → Result (List ℕ) Failure
skip_blanks text = or_fault faults.Comment text (after_blanks Between text)

-- the next word, or a fault
abbrev pub next_word : KeyFault → List ℕ → Result WordParts Failure
next_word fault text = then_try (skip_blanks text) (λ start. or_fault fault start (word_at start))

-- the text after the next symbol, or a fault
abbrev pub next_symbol : ℕ → KeyFault → List ℕ → Result (List ℕ) Failure
next_symbol symbol fault text = then_try (skip_blanks text) (λ start. or_fault fault start (after_symbol symbol start))

-- what a statement within a key is of, by its first word in any case
abbrev pub part_of : List ℕ → Option Part
part_of word =
    if is_same_text word (codes "algorithm") then Some Algorithm
    else if is_same_text word (codes "secret") then Some Secret
    else None

-- a statement within a key, from its value on: `WORD;`
abbrev pub clause_value : Part → List ℕ → Result ClauseParts Failure
clause_value part text =
    then_try (next_word faults.Value text) (λ value.
    then_try (next_symbol 59 faults.Semicolon value.rest) (λ rest.
    Ok (record { part = part; value = value.text; rest = rest })))

-- the next statement within a key: `algorithm WORD;` or `secret WORD;`
abbrev pub clause_at : List ℕ → Result ClauseParts Failure
clause_at text =
    then_try (next_word faults.Statement text) (λ word.
    then_try (or_fault faults.Statement word.rest (part_of word.text)) (λ part. clause_value part word.rest))

-- the name of a key, and the text after its `{`: `key NAME {`
abbrev pub key_name : List ℕ → Result WordParts Failure
key_name text =
    then_try (next_word faults.Key text) (λ key.
    if is_same_text key.text (codes "key") then
    then_try (next_word faults.Name key.rest) (λ name.
    then_try (next_symbol 123 faults.Open name.rest) (λ rest. Ok (record { text = name.text; rest = rest })))
    else Err (failure_at faults.Key key.rest))

-- the words of a key, from its two statements
abbrev pub statement_of : List ℕ → ClauseParts → ClauseParts → List ℕ → Result StatementParts Failure
statement_of name first second rest = by first.part second.part
  where
    by : Part → Part → Result StatementParts Failure
    by Algorithm Secret = Ok (record { name = name; algorithm = first.value; secret = second.value; rest = rest })
    by Secret Algorithm = Ok (record { name = name; algorithm = second.value; secret = first.value; rest = rest })
    by Algorithm Algorithm = Err (failure_at faults.Repeated second.rest)
    by Secret Secret = Err (failure_at faults.Repeated second.rest)

-- the next statement of a key
abbrev pub statement_at : List ℕ → Result StatementParts Failure
statement_at text =
    then_try (key_name text) (λ name.
    then_try (clause_at name.rest) (λ first.
    then_try (clause_at first.rest) (λ second.
    then_try (next_symbol 125 faults.Close second.rest) (λ end.
    then_try (next_symbol 59 faults.Semicolon end) (λ rest.
    statement_of name.text first second rest)))))
