-- Tokens parse to one value of record data, and are then not refused.
use Rattle.std.proofs.Common.{◌≡◌, ℕ, true, List, [], ◌∷◌, Option, Some, Result, Ok, Err, refl, sym, ap, subst, ◌∙◌}
use Rattle.std.proofs.NetLemmas.Theorems.{IsIpv4Text_unique, IsIpv6Text_unique}
use Rattle.dns_wire.specs.declared.codes.record_type.RecordType.{RecordType}
use Rattle.dns_wire.specs.declared.codes.record_type.RecordType.TheVariants as types
use Rattle.dns_wire.specs.codes.RecordType.{type_number, type_of}
use Rattle.dns_names.specs.Name.{DomainName}
use Rattle.dns_text.specs.Lexer.{Lexeme, CharData}
use Rattle.dns_data.specs.Field.{Kind, Number16, Number32, Seconds, Address4, Address6, CompressibleName, WholeName, Strings, ValueOf, Values}
use Rattle.dns_data.specs.Text.{IsTokenOf, string_of_token, AreTokensOf, no_string, one_string, Takes, AreParsed, IsNoTokenOf, AreNoTokensOf, bad_string, past_string, RefusesToken, RefusesTokens, refused_token, past_token, tokens_left, has_text}
use Rattle.dns_data.specs.declared.error.RDataParseError.{RDataParseError}
use Rattle.dns_data.specs.declared.rdata.RData.{RData}
use Rattle.dns_data.specs.declared.rdata.RData.TheVariants as of
use Rattle.dns_data.specs.rdata.{data_type, data_kinds, data_values, kinds_of_type, IsParsedData, RefusesText, no_text, bad_tokens}
use Rattle.dns_data.proofs.TypeLaws.{data_of}

-- ---- one value of each kind

some_same : {A : Type 0} (o : Option A) (a b : A) → o ≡ Some a → o ≡ Some b → a ≡ b
some_same o a b e f = cc

ok_same : {A E : Type 0} (r : Result A E) (a b : A) → r ≡ Ok a → r ≡ Ok b → a ≡ b
ok_same r a b e f = cc

err_same : {A E : Type 0} (r : Result A E) (a b : E) → r ≡ Err a → r ≡ Err b → a ≡ b
err_same r a b e f = cc

not_both : {A E : Type 0} (r : Result A E) (a : A) (error : E) → r ≡ Ok a → r ≡ Err error → ⊥
not_both r a error e f = absurd (cc)

both_same : {A B : Type 0} (x y : A × B) → x.0 ≡ y.0 → x.1 ≡ y.1 → x ≡ y
both_same x y e f i = (e i, f i)

strings_same : {a b : List (List ℕ)} {tokens : List Lexeme} → AreTokensOf a tokens → AreTokensOf b tokens → a ≡ b
strings_same no_string no_string = refl
strings_same (one_string {string = s} {token = token} e more) (one_string {string = t} f others) =
    λ i. ok_same (string_of_token token) s t e f i ∷ strings_same more others i

strings_not_refused : {strings : List (List ℕ)} {tokens : List Lexeme} {error : RDataParseError} → AreTokensOf strings tokens → AreNoTokensOf tokens error → ⊥
strings_not_refused {error = error} no_string no_error = elim no_error [ ]
strings_not_refused (one_string {string = s} {token = token} e more) (bad_string {error = error} f) = not_both (string_of_token token) s error e f
strings_not_refused (one_string e more) (past_string f rest) = strings_not_refused more rest

strings_refused_same : {tokens : List Lexeme} {a b : RDataParseError} → AreNoTokensOf tokens a → AreNoTokensOf tokens b → a ≡ b
strings_refused_same (bad_string {token = token} {error = a} e) (bad_string {error = b} f) = err_same (string_of_token token) a b e f
strings_refused_same (bad_string {token = token} {error = a} e) (past_string {string = s} f rest) = absurd (not_both (string_of_token token) s a f e)
strings_refused_same (past_string {string = s} {token = token} e rest) (bad_string {error = b} f) = absurd (not_both (string_of_token token) s b e f)
strings_refused_same (past_string e rest) (past_string f others) = strings_refused_same rest others

module _ (origin : Option DomainName) where
  token_same : (kind : Kind) (token : Lexeme) (a b : ValueOf kind) → IsTokenOf origin kind a token → IsTokenOf origin kind b token → a ≡ b
  token_same Number16 (CharData text) a b h k = some_same _ a b h k
  token_same Number32 (CharData text) a b h k = some_same _ a b h k
  token_same Seconds (CharData text) a b h k = some_same _ a b h k
  token_same Address4 (CharData text) a b h k = IsIpv4Text_unique text a b h k
  token_same Address6 (CharData text) a b h k = IsIpv6Text_unique text a b h k
  token_same CompressibleName token a b h k = ok_same _ a b h k
  token_same WholeName token a b h k = ok_same _ a b h k
  token_same kind token a b h k = absurd h

  -- a kind takes one value from tokens, and leaves one rest
  pub takes_same : (kind : Kind) (tokens : List Lexeme) (a b : ValueOf kind) (r s : List Lexeme) → Takes origin kind tokens a r → Takes origin kind tokens b s → (a ≡ b) × (r ≡ s)
  takes_same Strings tokens a b r s h k = (strings_same h.1 k.1, h.2 ∙ sym k.2)
  takes_same kind [] a b r s h k = absurd h
  takes_same kind (token ∷ tokens) a b r s h k = (token_same kind token a b h.0 k.0, h.1 ∙ sym k.1)

  parsed_same : (kinds : List Kind) (tokens : List Lexeme) (a b : Values kinds) → AreParsed origin kinds tokens a → AreParsed origin kinds tokens b → a ≡ b
  parsed_same [] tokens a b h k = refl
  parsed_same (kind ∷ kinds) tokens a b h k =
      let same = takes_same kind tokens a.0 b.0 h.0 k.0 h.1 k.1 in
      both_same a b same.0 (parsed_same kinds k.0 a.1 b.1 (subst (λ (rest : List Lexeme). AreParsed origin kinds rest a.1) same.1 h.2) k.2)

  -- ---- no refusal

  token_not_refused : (kind : Kind) (token : Lexeme) (a : ValueOf kind) (error : RDataParseError) → IsTokenOf origin kind a token → IsNoTokenOf origin kind token error → ⊥
  token_not_refused CompressibleName token a error h k = not_both _ a error h k
  token_not_refused WholeName token a error h k = not_both _ a error h k
  token_not_refused kind token a error h k = k.0 a h

  pub not_refused : (kind : Kind) (tokens : List Lexeme) (a : ValueOf kind) (rest : List Lexeme) (error : RDataParseError) → Takes origin kind tokens a rest → RefusesToken origin kind tokens error → ⊥
  not_refused Strings [] a rest error h k = h.0 refl
  not_refused Strings (token ∷ tokens) a rest error h k = strings_not_refused h.1 k
  not_refused kind [] a rest error h k = h
  not_refused kind (token ∷ tokens) a rest error h k = token_not_refused kind token a error h.0 k

  parsed_not_refused : (kinds : List Kind) (tokens : List Lexeme) (a : Values kinds) (error : RDataParseError) → AreParsed origin kinds tokens a → RefusesTokens origin kinds tokens error → ⊥
  parsed_not_refused [] tokens a error h (tokens_left some) = some h
  parsed_not_refused (kind ∷ kinds) tokens a error h (refused_token refused) = not_refused kind tokens a.0 h.0 error h.1 refused
  parsed_not_refused (kind ∷ kinds) tokens a error h (past_token {rest = rest} value takes more) =
      parsed_not_refused kinds rest a.1 error (subst (λ (left : List Lexeme). AreParsed origin kinds left a.1) (takes_same kind tokens a.0 value h.0 rest h.1 takes).1 h.2) more

  -- ---- one refusal

  token_refused_same : (kind : Kind) (token : Lexeme) (a b : RDataParseError) → IsNoTokenOf origin kind token a → IsNoTokenOf origin kind token b → a ≡ b
  token_refused_same CompressibleName token a b h k = err_same _ a b h k
  token_refused_same WholeName token a b h k = err_same _ a b h k
  token_refused_same kind token a b h k = h.1 ∙ sym k.1

  pub refused_same : (kind : Kind) (tokens : List Lexeme) (a b : RDataParseError) → RefusesToken origin kind tokens a → RefusesToken origin kind tokens b → a ≡ b
  refused_same Strings [] a b h k = h ∙ sym k
  refused_same Strings (token ∷ tokens) a b h k = strings_refused_same h k
  refused_same kind [] a b h k = h ∙ sym k
  refused_same kind (token ∷ tokens) a b h k = token_refused_same kind token a b h k

  tokens_refused_same : (kinds : List Kind) (tokens : List Lexeme) (a b : RDataParseError) → RefusesTokens origin kinds tokens a → RefusesTokens origin kinds tokens b → a ≡ b
  tokens_refused_same [] tokens a b (tokens_left some) (tokens_left others) = refl
  tokens_refused_same (kind ∷ kinds) tokens a b (refused_token h) (refused_token k) = refused_same kind tokens a b h k
  tokens_refused_same (kind ∷ kinds) tokens a b (refused_token h) (past_token {rest = rest} value takes more) = absurd (not_refused kind tokens value rest a takes h)
  tokens_refused_same (kind ∷ kinds) tokens a b (past_token {rest = rest} value takes more) (refused_token k) = absurd (not_refused kind tokens value rest b takes k)
  tokens_refused_same (kind ∷ kinds) tokens a b (past_token {rest = r} value takes more) (past_token {rest = s} other takes_other others) =
      tokens_refused_same kinds s a b (subst (λ (left : List Lexeme). RefusesTokens origin kinds left a) (takes_same kind tokens value other r s takes takes_other).1 more) others

-- ---- one value of data

pub some_kind : (t : RecordType) → [] ≡ kinds_of_type t → ⊥
some_kind types.A e = absurd (cc)
some_kind other e = absurd (cc)

module _ (origin : Option DomainName) (tokens : List Lexeme) where
  -- data is that of its type with values that are parsed from the tokens
  abbrev HasParsed : RecordType → RData → Type 0
  HasParsed t d = (v : Values (kinds_of_type t)) × (d ≡ data_of t v) × AreParsed origin (kinds_of_type t) tokens v

  has_parsed : (d : RData) → data_kinds d ≡ kinds_of_type (data_type d) → has_text (data_kinds d) ≡ true → AreParsed origin (data_kinds d) tokens (data_values d) → HasParsed (data_type d) d
  has_parsed (of.OPT o) fields text h = absurd (cc)
  has_parsed (of.Update0 t) fields text h = absurd (some_kind t fields)
  has_parsed (of.Unknown code bytes) fields text h = absurd (cc)
  has_parsed d fields text h = (data_values d, refl, h)

  data_parsed : (t : RecordType) (d : RData) → IsParsedData origin t tokens d → HasParsed (type_of (type_number t)) d
  data_parsed t d p =
      let text : has_text (data_kinds d) ≡ true = ap (λ (kinds : List Kind). has_text kinds) p.fields ∙ ap (λ (u : RecordType). has_text (kinds_of_type u)) p.of_type ∙ p.has_text in
      subst (λ (u : RecordType). HasParsed u d) p.of_type (has_parsed d p.fields text p.values)

pub data_same : (origin : Option DomainName) (t : RecordType) (tokens : List Lexeme) (a b : RData) → IsParsedData origin t tokens a → IsParsedData origin t tokens b → a ≡ b
data_same origin t tokens a b p q =
    let x = data_parsed origin tokens t a p in
    let y = data_parsed origin tokens t b q in
    x.1 ∙ ap (data_of (type_of (type_number t))) (parsed_same origin (kinds_of_type (type_of (type_number t))) tokens x.0 y.0 x.2 y.2) ∙ sym y.1

pub data_not_refused : (origin : Option DomainName) (t : RecordType) (tokens : List Lexeme) (d : RData) (error : RDataParseError) → IsParsedData origin t tokens d → RefusesText origin t tokens error → ⊥
data_not_refused origin t tokens d error p (no_text none) = let has = p.has_text in absurd (cc)
data_not_refused origin t tokens d error p (bad_tokens some refused) =
    let x = data_parsed origin tokens t d p in
    parsed_not_refused origin (kinds_of_type (type_of (type_number t))) tokens x.0 error x.2 refused

pub data_refused_same : (origin : Option DomainName) (t : RecordType) (tokens : List Lexeme) (a b : RDataParseError) → RefusesText origin t tokens a → RefusesText origin t tokens b → a ≡ b
data_refused_same origin t tokens a b (no_text none) (no_text none') = refl
data_refused_same origin t tokens a b (no_text none) (bad_tokens some refused) = absurd (cc)
data_refused_same origin t tokens a b (bad_tokens some refused) (no_text none) = absurd (cc)
data_refused_same origin t tokens a b (bad_tokens some refused) (bad_tokens some' others) =
    tokens_refused_same origin (kinds_of_type (type_of (type_number t))) tokens a b refused others
