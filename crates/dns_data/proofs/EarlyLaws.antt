-- Outcomes that are decided before memory is taken, field by field.
use Rattle.std.proofs.Common.{◌≡◌, ◌≢◌, ◌+◌, ℕ, Bool, true, false, List, [], ◌∷◌, ◌&&◌, Option, Some, None, refl, sym, ap, subst, ◌∙◌}
use Rattle.std.specs.Prelude.{Result, Ok, Err, IfErr}
use Rattle.std.specs.Result.{result_err}
use Rattle.dns_wire.specs.codes.RecordType.{type_number, type_of}
use Rattle.dns_wire.specs.declared.codes.record_type.RecordType.{RecordType}
use Rattle.dns_wire.specs.Decoder.{Decoder}
use Rattle.dns_wire.specs.declared.error.DecodeError.{DecodeError}
use Rattle.dns_wire.specs.declared.error.DecodeError.TheVariants as decoding
use Rattle.dns_names.specs.Name.{DomainName}
use Rattle.dns_text.specs.Lexer.{Lexeme}
use Rattle.dns_data.specs.Field.{Kind, ValueOf}
use Rattle.dns_data.specs.Wire.{ValueAt, RefusesValue}
use Rattle.dns_data.specs.Text.{Takes, RefusesToken, has_text}
use Rattle.dns_data.specs.rdata.{kinds_of_type, kinds_of_number, RefusesTextEarly, no_text_form, bad_early_tokens}
use Rattle.dns_data.specs.Memory.{is_fixed, are_fixed, RefusesFieldsEarly, early_value, past_early_value, RefusesTokensEarly, missing_token, early_token, past_early_token, IsReadEarly, IsParsedEarly}
use Rattle.dns_data.specs.declared.error.RDataParseError.{RDataParseError}
use Rattle.dns_data.specs.declared.error.RDataParseError.TheVariants as parsing
use Rattle.dns_data.proofs.WireLaws.{value_same, value_not_refused, value_refusal_same}
use Rattle.dns_data.proofs.ParsedLaws.{takes_same, not_refused, refused_same}

both-first : (a b : Bool) → (a && b) ≡ true → a ≡ true
both-first true b h = refl
both-first false b h = h

both-second : (a b : Bool) → (a && b) ≡ true → b ≡ true
both-second true b h = h
both-second false b h = absurd (cc)

some_same : {A : Type 0} (a b : A) → Some a ≡ Some b → a ≡ b
some_same a b e = cc

-- the error of a result is one
pub one_error : {A E : Type 0} {r : Result A E} (a b : E) → r ≡ Err a → r ≡ Err b → a ≡ b
one_error {r = r} a b e f = cc

-- and a value is none
pub no_error : {A E : Type 0} (value : A) (error : E) → Ok value ≡ Err error → ⊥
no_error value error e = absurd (cc)

-- what the error is, is what the result is
pub is_err : {A E : Type 0} (r : Result A E) (error : E) → result_err r ≡ Some error → r ≡ Err error
is_err (Ok a) error e = absurd (cc)
is_err (Err other) error e = ap Err (some_same other error e)

pub that_error : {A E : Type 0} (r : Result A E) (a b : E) → r ≡ Err a → Some a ≡ Some b → r ≡ Err b
that_error r a b e same = e ∙ ap Err (some_same a b same)

pub no_memory : {A E : Type 0} (r : Result A E) (memory : E) → result_err r ≢ Some memory → IfErr r (λ error. error ≢ memory)
no_memory (Ok a) memory h = tt
no_memory (Err error) memory h = λ same. h (ap Some same)

-- ---- decoding

module _ (bytes : List ℕ) (data_end : ℕ) (kind : Kind) (kinds : List Kind) (place : ℕ) where
  -- the first field is refused
  module _ (error : DecodeError) (other : is_fixed kind ≡ true → error ≢ decoding.Memory) (refused : error ≢ decoding.Memory → RefusesValue bytes data_end kind place error) where
    here : (early : DecodeError) → RefusesFieldsEarly bytes data_end (kind ∷ kinds) place early → error ≡ early
    here early (early_value fixed r) = value_refusal_same bytes data_end kind place error early (refused (other fixed)) r
    here early (past_early_value {middle = m} value fixed there more) = absurd (value_not_refused bytes data_end kind place value m error there (refused (other fixed)))

    pub read_stops : IsReadEarly bytes data_end (kind ∷ kinds) place (Some error)
    read_stops = record {
      fixed = λ all same. other (both-first (is_fixed kind) (are_fixed kinds) all) (some_same error decoding.Memory same);
      fault = λ early h. ap Some (here early h);
    }

  -- the first field is read, and the rest are read or refused
  module _ (middle : ℕ) (value : ValueOf kind) (there : ValueAt bytes data_end kind place value middle) (outcome : Option DecodeError) (rest : IsReadEarly bytes data_end kinds middle outcome) where
    later : (early : DecodeError) → RefusesFieldsEarly bytes data_end (kind ∷ kinds) place early → outcome ≡ Some early
    later early (early_value fixed r) = absurd (value_not_refused bytes data_end kind place value middle early there r)
    later early (past_early_value {middle = m} other fixed there' more) =
        rest.fault early (subst (λ (n : ℕ). RefusesFieldsEarly bytes data_end kinds n early) (value_same bytes data_end kind place other value m middle there' there).1 more)

    pub read_goes_on : IsReadEarly bytes data_end (kind ∷ kinds) place outcome
    read_goes_on = record {
      fixed = λ all. rest.fixed (both-second (is_fixed kind) (are_fixed kinds) all);
      fault = later;
    }

-- the rest, as the decoder after the first field reads it
pub read_goes_past : (old new : Decoder) (data_end : ℕ) (kind : Kind) (kinds : List Kind) (value : ValueOf kind) {outcome : Option DecodeError} → ValueAt old.bytes data_end kind old.index value new.index → new.bytes ≡ old.bytes → IsReadEarly new.bytes data_end kinds new.index outcome → IsReadEarly old.bytes data_end (kind ∷ kinds) old.index outcome
read_goes_past old new data_end kind kinds value {outcome} there same h =
    read_goes_on old.bytes data_end kind kinds old.index new.index value there outcome (subst (λ (xs : List ℕ). IsReadEarly xs data_end kinds new.index outcome) same h)

-- A list, a name or opaque bytes come first: nothing is decided before memory is taken.
module _ (bytes : List ℕ) (data_end : ℕ) (kind : Kind) (kinds : List Kind) (place : ℕ) (outcome : Option DecodeError) (slow : is_fixed kind ≡ false) where
  no_early_field : (early : DecodeError) → RefusesFieldsEarly bytes data_end (kind ∷ kinds) place early → outcome ≡ Some early
  no_early_field early (early_value fixed r) = absurd (cc (slow, fixed))
  no_early_field early (past_early_value value fixed there more) = absurd (cc (slow, fixed))

  not_all_fixed : are_fixed (kind ∷ kinds) ≡ true → outcome ≢ Some decoding.Memory
  not_all_fixed all = let fixed = both-first (is_fixed kind) (are_fixed kinds) all in absurd (cc (slow, fixed))

  pub read_slow : IsReadEarly bytes data_end (kind ∷ kinds) place outcome
  read_slow = record { fixed = not_all_fixed; fault = no_early_field }

no_field : (bytes : List ℕ) (data_end place : ℕ) (early : DecodeError) → RefusesFieldsEarly bytes data_end [] place early → None ≡ Some early
no_field bytes data_end place early h = elim h [ ]

pub nothing_read : (bytes : List ℕ) (data_end place : ℕ) → IsReadEarly bytes data_end [] place None
nothing_read bytes data_end place = record { fixed = λ all same. absurd (cc); fault = no_field bytes data_end place }

-- ---- parsing

module _ (origin : Option DomainName) (kind : Kind) (kinds : List Kind) (tokens : List Lexeme) where
  -- the first token is refused
  module _ (error : RDataParseError) (other : is_fixed kind ≡ true → error ≢ parsing.Memory) (missing : tokens ≡ [] → error ≡ parsing.MissingToken) (refused : error ≢ parsing.Memory → RefusesToken origin kind tokens error) where
    stopped : (left : List Lexeme) (early : RDataParseError) → left ≡ tokens → RefusesTokensEarly origin (kind ∷ kinds) left early → error ≡ early
    stopped left early same missing_token = missing (sym same)
    stopped left early same (early_token fixed r) = refused_same origin kind tokens error early (refused (other fixed)) (subst (λ (l : List Lexeme). RefusesToken origin kind l early) same r)
    stopped left early same (past_early_token {rest = rest} value fixed takes more) =
        absurd (not_refused origin kind tokens value rest error (subst (λ (l : List Lexeme). Takes origin kind l value rest) same takes) (refused (other fixed)))

    pub parse_stops : IsParsedEarly origin (kind ∷ kinds) tokens (Some error)
    parse_stops = record {
      fixed = λ all same. other (both-first (is_fixed kind) (are_fixed kinds) all) (some_same error parsing.Memory same);
      fault = λ early h. ap Some (stopped tokens early refl h);
    }

  -- the first token is parsed, and the rest are parsed or refused
  module _ (rest : List Lexeme) (value : ValueOf kind) (takes : Takes origin kind tokens value rest) (some : tokens ≢ []) (outcome : Option RDataParseError) (after : IsParsedEarly origin kinds rest outcome) where
    went_on : (left : List Lexeme) (early : RDataParseError) → left ≡ tokens → RefusesTokensEarly origin (kind ∷ kinds) left early → outcome ≡ Some early
    went_on left early same missing_token = absurd (some (sym same))
    went_on left early same (early_token fixed r) = absurd (not_refused origin kind tokens value rest early takes (subst (λ (l : List Lexeme). RefusesToken origin kind l early) same r))
    went_on left early same (past_early_token {rest = other} v fixed takes' more) =
        after.fault early (subst (λ (l : List Lexeme). RefusesTokensEarly origin kinds l early) (takes_same origin kind tokens v value other rest (subst (λ (l : List Lexeme). Takes origin kind l v other) same takes') takes).1 more)

    pub parse_goes_on : IsParsedEarly origin (kind ∷ kinds) tokens outcome
    parse_goes_on = record {
      fixed = λ all. after.fixed (both-second (is_fixed kind) (are_fixed kinds) all);
      fault = λ early h. went_on tokens early refl h;
    }

no_token : (origin : Option DomainName) (tokens : List Lexeme) (outcome : Option RDataParseError) (early : RDataParseError) → RefusesTokensEarly origin [] tokens early → outcome ≡ Some early
no_token origin tokens outcome early h = elim h [ ]

pub nothing_parsed : (origin : Option DomainName) (tokens : List Lexeme) (outcome : Option RDataParseError) → outcome ≢ Some parsing.Memory → IsParsedEarly origin [] tokens outcome
nothing_parsed origin tokens outcome other = record { fixed = λ all. other; fault = no_token origin tokens outcome }

-- ---- data of a type

-- what a reader decides that begins where the decoder is
pub read_there : (old reader : Decoder) (len : ℕ) (kinds kinds' : List Kind) (outcome : Option DecodeError) → reader ≡ old → kinds ≡ kinds' → IsReadEarly reader.bytes (reader.index + len) kinds reader.index outcome → IsReadEarly old.bytes (old.index + len) kinds' old.index outcome
read_there old reader len kinds kinds' outcome same same_kinds h =
    subst (λ (ks : List Kind). IsReadEarly old.bytes (old.index + len) ks old.index outcome) same_kinds (subst (λ (r : Decoder). IsReadEarly r.bytes (r.index + len) kinds r.index outcome) same h)

parsed_there : (origin : Option DomainName) (record_type t : RecordType) (old tokens : List Lexeme) (outcome : Option RDataParseError) → old ≡ tokens → type_of (type_number record_type) ≡ t → IsParsedEarly origin (kinds_of_type t) old outcome → IsParsedEarly origin (kinds_of_number record_type) tokens outcome
parsed_there origin record_type t old tokens outcome same is h =
    subst (λ (k : RecordType). IsParsedEarly origin (kinds_of_type k) tokens outcome) (sym is) (subst (λ (l : List Lexeme). IsParsedEarly origin (kinds_of_type t) l outcome) same h)

pub fixed_as : (origin : Option DomainName) (record_type t : RecordType) (old tokens : List Lexeme) (outcome : Option RDataParseError) → old ≡ tokens → type_of (type_number record_type) ≡ t → IsParsedEarly origin (kinds_of_type t) old outcome → are_fixed (kinds_of_number record_type) ≡ true → outcome ≢ Some parsing.Memory
fixed_as origin record_type t old tokens outcome same is h = (parsed_there origin record_type t old tokens outcome same is h).fixed

pub decided_as : (origin : Option DomainName) (record_type t : RecordType) (old tokens : List Lexeme) (outcome : Option RDataParseError) → old ≡ tokens → type_of (type_number record_type) ≡ t → has_text (kinds_of_type t) ≡ true → IsParsedEarly origin (kinds_of_type t) old outcome → (error : RDataParseError) → RefusesTextEarly origin record_type tokens error → outcome ≡ Some error
decided_as origin record_type t old tokens outcome same is has h error (no_text_form none) =
    let some : has_text (kinds_of_number record_type) ≡ true = ap (λ (k : RecordType). has_text (kinds_of_type k)) is ∙ has in
    absurd (cc (none, some))
decided_as origin record_type t old tokens outcome same is has h error (bad_early_tokens some early) =
    (parsed_there origin record_type t old tokens outcome same is h).fault error early

-- a type without a text form has one early fault
pub no_form_early : {A : Type 0} {origin : Option DomainName} {record_type : RecordType} {tokens : List Lexeme} (r : Result A RDataParseError) (error : RDataParseError) → r ≡ Err parsing.UnsupportedRecordType → has_text (kinds_of_number record_type) ≡ false → RefusesTextEarly origin record_type tokens error → r ≡ Err error
no_form_early r error is none (no_text_form also) = is
no_form_early r error is none (bad_early_tokens some early) = absurd (cc (none, some))
