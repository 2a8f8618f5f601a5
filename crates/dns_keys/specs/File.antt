-- The keys of a text.
use Rattle.std.specs.Prelude.{◌≡◌, ℕ, ◌+◌, ◌-◌, ◌==◌, if◌then◌else◌, count_by, List, [], ◌∷◌, length, take, Option, Some, None, Result, Ok, Err}
use Rattle.base64.specs.Engines.{standard}
use Rattle.base64.specs.GeneralPurpose.{decode_of}
use Rattle.dns_tsig.specs.declared.hmac.algorithm.Algorithm.{Algorithm}
use Rattle.dns_tsig.specs.hmac.Algorithm.{code_len}
use Rattle.dns_names.specs.Name.{DomainName}
use Rattle.dns_names.specs.Parse.{name_of_text}
use Rattle.dns_tsig.specs.WireName.{canonical_name}
use Rattle.dns_tsig.specs.declared.key.Key.{Key}
use Rattle.dns_keys.specs.Algorithm.{algorithm_in}
use Rattle.dns_keys.specs.Parts.{StatementParts}
use Rattle.dns_keys.specs.Statement.{skip_blanks, statement_at}
use Rattle.dns_keys.specs.declared.error.KeyFault.TheVariants as faults
use Rattle.dns_keys.specs.declared.error.KeyFileError.{KeyFileError}
use Rattle.dns_keys.specs.declared.error.KeyFileError.TheVariants as errors
use Rattle.dns_keys.specs.declared.file.NextKey.{NextKey}
use Rattle.dns_keys.specs.declared.statement.Failure.{Failure}

-- ---- faults and their lines

-- the line of the place from which so many octets are left
abbrev pub line_of : List ℕ → ℕ → ℕ
line_of text left = 1 + count_by (λ c. c == 10) (take (length text - left) text)

-- a fault with its line
abbrev pub located : List ℕ → Failure → KeyFileError
located whole failure = errors.Line (line_of whole failure.left) failure.fault

-- what there is, or a fault with its line
abbrev pub or_located : {X : Type 0} → List ℕ → Result X Failure → Result X KeyFileError
or_located whole (Ok x) = Ok x
or_located whole (Err failure) = Err (located whole failure)

-- what follows a success
abbrev pub and_then : {X Y : Type 0} → Result X KeyFileError → (X → Result Y KeyFileError) → Result Y KeyFileError
and_then (Ok x) next = next x
and_then (Err e) next = Err e

-- ---- a key

-- a key, by what it is made of
pub record KeyValue : Type 0 where
  pub name : List ℕ
  pub algorithm : Algorithm
  pub secret : List ℕ
  pub least_mac : ℕ

-- what a key is made of
abbrev pub key_value : Key → KeyValue
key_value key = record { name = key.name.items; algorithm = key.algorithm; secret = key.secret.items; least_mac = key.least_mac }

-- the name of a key: a domain name, relative or fully qualified
abbrev pub name_at : ℕ → List ℕ → Result DomainName KeyFileError
name_at line text = elim (name_of_text text) [ Ok name ↦ Ok name | Err error ↦ Err (errors.Line line faults.Name) ]

-- a secret: the octets that Base64 (RFC 4648 section 4) denotes
abbrev pub secret_at : ℕ → List ℕ → Result (List ℕ) KeyFileError
secret_at line text = elim (decode_of standard text) [ Ok secret ↦ Ok secret | Err error ↦ Err (errors.Line line faults.Secret) ]

-- the algorithm of a key
abbrev pub algorithm_at : ℕ → List ℕ → Result Algorithm KeyFileError
algorithm_at line text = elim (algorithm_in text) [ Some algorithm ↦ Ok algorithm | None ↦ Err (errors.Line line faults.Algorithm) ]

-- the key of a statement. Its codes must not be truncated.
abbrev pub key_at : ℕ → StatementParts → Result KeyValue KeyFileError
key_at line s =
    and_then (algorithm_at line s.algorithm) (λ algorithm.
    and_then (name_at line s.name) (λ name.
    and_then (secret_at line s.secret) (λ secret.
    Ok (record { name = canonical_name name.labels; algorithm = algorithm; secret = secret; least_mac = code_len algorithm }))))

-- ---- the keys of a text

-- a key, and the text after its statement
pub record NextValue : Type 0 where
  pub key : KeyValue
  pub rest : List ℕ

-- a key that was parsed, and the text after its statement
abbrev pub next_value : NextKey → NextValue
next_value next = record { key = key_value next.key; rest = next.rest.now }

-- a text from its first word or symbol on
abbrev pub start_in : List ℕ → List ℕ → Result (List ℕ) KeyFileError
start_in whole text = or_located whole (skip_blanks text)

-- the next statement of a key
abbrev pub statement_in : List ℕ → List ℕ → Result StatementParts KeyFileError
statement_in whole text = or_located whole (statement_at text)

-- the key of the statement at the front of a text
abbrev pub key_in : List ℕ → List ℕ → Result (Option NextValue) KeyFileError
key_in whole start =
    and_then (statement_in whole start) (λ s.
    and_then (key_at (line_of whole (length start)) s) (λ key. Ok (Some (record { key = key; rest = s.rest }))))

-- the next key of a text, or none at its end
abbrev pub next_in : List ℕ → List ℕ → Result (Option NextValue) KeyFileError
next_in whole text =
    and_then (start_in whole text) (λ start. if length start == 0 then Ok None else key_in whole start)

-- from a place on, a text has these keys, one after another
pub data KeysFrom (whole : List ℕ) : List ℕ → List KeyValue → Type 0 where
  at_end : {text : List ℕ} → next_in whole text ≡ Ok None → KeysFrom whole text []
  at_key : {text : List ℕ} {next : NextValue} {keys : List KeyValue} → next_in whole text ≡ Ok (Some next)
      → KeysFrom whole next.rest keys → KeysFrom whole text (next.key ∷ keys)

-- from a place on, this is the first fault of a text
pub data FaultFrom (whole : List ℕ) : List ℕ → KeyFileError → Type 0 where
  here : {text : List ℕ} {error : KeyFileError} → next_in whole text ≡ Err error → FaultFrom whole text error
  later : {text : List ℕ} {next : NextValue} {error : KeyFileError} → next_in whole text ≡ Ok (Some next)
      → FaultFrom whole next.rest error → FaultFrom whole text error

-- a text has these keys
abbrev pub IsKeyFile : List ℕ → List KeyValue → Type 0
IsKeyFile text keys = KeysFrom text text keys

-- this is the first fault of a text
abbrev pub IsRefused : List ℕ → KeyFileError → Type 0
IsRefused text error = FaultFrom text text error
