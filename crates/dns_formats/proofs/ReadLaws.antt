-- Fields, one after another.
use Rattle.std.proofs.Common.{◌≡◌, ℕ, zero, suc, ◌+◌, ◌<◌, ◌≤◌, Bool, true, false, List, [], ◌∷◌, ◌++◌, length, drop, get_or, map, Option, Result, Ok, Err, refl, sym, ap, ◌∙◌, append_assoc, arith}
use Rattle.std.specs.Prelude.{not, nat_lt, if◌then◌else◌}
use Rattle.std.proofs.lemmas.Bool.Decides.{nat_tests}
use Rattle.std.proofs.lemmas.List.{append-nil, drop-drop, drop-map}
use Rattle.dns_names.specs.Name.{DomainName}
use Rattle.dns_text.specs.Lexer.{Lexeme}
use Rattle.dns_text.specs.Token.{lexeme}
use Rattle.dns_text.specs.declared.token.Token.{Token}
use Rattle.dns_formats.specs.Fault.{fault_at}
use Rattle.dns_formats.specs.Rest.{rest_bytes}
use Rattle.dns_formats.specs.Value.{append_to, value_bytes}
use Rattle.dns_formats.specs.Field.{takes_rest, may_be_empty}
use Rattle.dns_formats.specs.Read.{taken, is_missing, first_bytes, field_bytes, located, then_bytes, fields_bytes}
use Rattle.dns_formats.specs.declared.field.Field.{Field}
use Rattle.dns_formats.specs.declared.field.Field.TheVariants as kind
use Rattle.dns_formats.specs.declared.fault.FormatFault.{FormatFault}
use Rattle.dns_formats.specs.declared.fault.FormatFault.TheVariants.{MissingToken, UnexpectedToken, Memory}
use Rattle.dns_formats.specs.declared.fault.TokenFault.{TokenFault}
use Rattle.dns_formats.specs.declared.fault.TokenFault.TheVariants as token
use Rattle.dns_formats.proofs.ValueLaws.{at_place}

-- ---- outcomes

appended_twice : (old bytes : List ℕ) (more : Result (List ℕ) FormatFault) → append_to old (append_to bytes more) ≡ append_to (old ++ bytes) more
appended_twice old bytes (Ok l) = ap (λ (x : List ℕ). Ok x) (sym (append_assoc old bytes l))
appended_twice old bytes (Err fault) = refl

ok_is : (a b : List ℕ) → ◌≡◌ {A = Result (List ℕ) FormatFault} (Ok a) (Ok b) → a ≡ b
ok_is a b e = cc

-- the bytes of a field are appended, and those of the fields after it are left
after_field : (old new : List ℕ) (one more : Result (List ℕ) FormatFault) → append_to old one ≡ Ok new → append_to old (then_bytes one more) ≡ append_to new more
after_field old new (Ok bytes) more e = appended_twice old bytes more ∙ ap (λ (l : List ℕ). append_to l more) (ok_is (old ++ bytes) new e)
after_field old new (Err fault) more e = absurd (cc)

-- ---- tokens

pub tokens_from : (tokens : List Token) (i n : ℕ) → drop n (map lexeme (drop i tokens)) ≡ map lexeme (drop (i + n) tokens)
tokens_from tokens i n = drop-map lexeme n (drop i tokens) ∙ ap (map lexeme) (drop-drop n i tokens)

pub none_left : {A : Type 0} (xs : List A) (i : ℕ) → length xs ≤ i → drop i xs ≡ []
none_left [] zero past = refl
none_left [] (suc i) past = refl
none_left (x ∷ xs) zero past = absurd (omega arith)
none_left (x ∷ xs) (suc i) past = none_left xs i (omega arith)

left_tokens : (tokens : List Token) (place : ℕ) → place < length tokens → 0 < length (map lexeme (drop place tokens))
left_tokens [] place within = absurd (omega arith)
left_tokens (t ∷ ts) zero within = omega arith
left_tokens (t ∷ ts) (suc place) within = left_tokens ts place (omega arith)

pub not_missing : (field : Field) (tokens : List Token) (place : ℕ) → place < length tokens → is_missing field (map lexeme (drop place tokens)) ≡ false
not_missing field [] place within = absurd (omega arith)
not_missing field (t ∷ ts) zero within = refl
not_missing field (t ∷ ts) (suc place) within = not_missing field ts place (omega arith)

-- a field that takes one token has one
pub token_there : (field : Field) (tokens : List Token) (place : ℕ) → may_be_empty field ≡ false → is_missing field (map lexeme (drop place tokens)) ≡ false → place < length tokens
token_there field tokens place needs present = by (nat_lt place (length tokens)) refl
  where
    holds : nat_lt place (length tokens) ≡ true → place < length tokens
    holds q = grind (arith, nat_tests)

    fails : nat_lt place (length tokens) ≡ false → length tokens ≤ place
    fails q = grind (arith, nat_tests)

    by : (b : Bool) → nat_lt place (length tokens) ≡ b → place < length tokens
    by true q = holds q
    by false q =
        let none : is_missing field (map lexeme (drop place tokens)) ≡ true =
        ap (λ (ts : List Token). is_missing field (map lexeme ts)) (none_left tokens place (fails q)) ∙ ap not needs in
        absurd (cc)

pub one_needed : (field : Field) → takes_rest field ≡ false → may_be_empty field ≡ false
one_needed kind.Types e = absurd (cc)
one_needed kind.Parameters e = absurd (cc)
one_needed kind.Location e = refl
one_needed kind.Hex e = refl
one_needed kind.Base64 e = refl
one_needed kind.Number8 e = refl
one_needed kind.Number16 e = refl
one_needed kind.Number32 e = refl
one_needed kind.Name e = refl
one_needed kind.CharacterString e = refl
one_needed kind.Tag e = refl
one_needed kind.Text e = refl
one_needed kind.RecordType e = refl
one_needed kind.Time e = refl
one_needed kind.Salt e = refl
one_needed kind.Algorithm e = refl
one_needed kind.CertificateType e = refl
one_needed kind.Hash e = refl

first_value : (origin : Option DomainName) (field : Field) (tokens : List Token) (place : ℕ) (d : Token) → takes_rest field ≡ false → is_missing field (map lexeme (drop place tokens)) ≡ false
    → field_bytes origin field (map lexeme (drop place tokens)) ≡ value_bytes origin field (lexeme (get_or tokens place d))
first_value origin field tokens place d no_rest present =
    ap (λ (b : Bool). if b then rest_bytes field (map lexeme (drop place tokens)) else first_bytes origin field (map lexeme (drop place tokens))) no_rest
    ∙ ap (λ (ts : List Token). first_bytes origin field (map lexeme ts)) (at_place tokens place d (token_there field tokens place (one_needed field no_rest) present))

located_ok : (old new : List ℕ) (place : ℕ) (one : Result (List ℕ) TokenFault) → append_to old one ≡ Ok new → append_to old (located place one) ≡ Ok new
located_ok old new place (Ok bytes) e = ap (λ (l : List ℕ). Ok l) (token_ok_is (old ++ bytes) new e)
  where
    token_ok_is : (a b : List ℕ) → ◌≡◌ {A = Result (List ℕ) TokenFault} (Ok a) (Ok b) → a ≡ b
    token_ok_is a b q = cc
located_ok old new place (Err fault) e = absurd (cc)

pub value_ok : (origin : Option DomainName) (field : Field) (tokens : List Token) (place : ℕ) (d : Token) (old new : List ℕ) → takes_rest field ≡ false
    → is_missing field (map lexeme (drop place tokens)) ≡ false → append_to old (value_bytes origin field (lexeme (get_or tokens place d))) ≡ Ok new
    → append_to old (located place (field_bytes origin field (map lexeme (drop place tokens)))) ≡ Ok new
value_ok origin field tokens place d old new no_rest present e =
    ap (λ (r : Result (List ℕ) TokenFault). append_to old (located place r)) (first_value origin field tokens place d no_rest present)
    ∙ located_ok old new place (value_bytes origin field (lexeme (get_or tokens place d))) e

pub value_err : (origin : Option DomainName) (field : Field) (tokens : List Token) (place : ℕ) (d : Token) (fault : TokenFault) (at : FormatFault) → takes_rest field ≡ false
    → is_missing field (map lexeme (drop place tokens)) ≡ false → at ≡ fault_at place fault → value_bytes origin field (lexeme (get_or tokens place d)) ≡ Err fault
    → located place (field_bytes origin field (map lexeme (drop place tokens))) ≡ Err at
value_err origin field tokens place d fault at no_rest present is e =
    ap (located place) (first_value origin field tokens place d no_rest present ∙ e) ∙ ap (λ (f : FormatFault). Err f) (sym is)

pub no_memory : (place : ℕ) (fault : TokenFault) (at : FormatFault) → at ≡ fault_at place fault → (at ≡ Memory → ⊥) → fault ≡ token.Memory → ⊥
no_memory place fault at is other e = other (is ∙ ap (fault_at place) e)

-- the bytes of a field and of the fields after it
abbrev with_field : Option DomainName → Field → List Field → ℕ → List Lexeme → Result (List ℕ) FormatFault
with_field origin field fields place tokens =
    then_bytes (located place (field_bytes origin field tokens)) (fields_bytes origin fields (place + taken field tokens) (drop (taken field tokens) tokens))

module _ (origin : Option DomainName) (fields : List Field) (tokens : List Token) (i : ℕ) (d : Field) (here : i < length fields) (place : ℕ)
    (present : is_missing (get_or fields i d) (map lexeme (drop place tokens)) ≡ false) where
  abbrev left : List Lexeme
  left = map lexeme (drop place tokens)

  at_field : fields_bytes origin (drop i fields) place left ≡ with_field origin (get_or fields i d) (drop (i + 1) fields) place left
  at_field =
      ap (λ (l : List Field). fields_bytes origin l place left) (at_place fields i d here)
      ∙ ap (λ (b : Bool). if b then Err (MissingToken place) else with_field origin (get_or fields i d) (drop (i + 1) fields) place left) present

  pub fields_further : (whole : Result (List ℕ) FormatFault) (old new : List ℕ) (next : ℕ) → append_to old (located place (field_bytes origin (get_or fields i d) left)) ≡ Ok new
      → next ≡ place + taken (get_or fields i d) left → append_to old (fields_bytes origin (drop i fields) place left) ≡ whole
      → append_to new (fields_bytes origin (drop (i + 1) fields) next (map lexeme (drop next tokens))) ≡ whole
  fields_further whole old new next one is e =
      ap (λ (n : ℕ). append_to new (fields_bytes origin (drop (i + 1) fields) n (map lexeme (drop n tokens)))) is
      ∙ ap (λ (l : List Lexeme). append_to new (fields_bytes origin (drop (i + 1) fields) (place + taken (get_or fields i d) left) l)) (sym (tokens_from tokens place (taken (get_or fields i d) left)))
      ∙ sym (after_field old new (located place (field_bytes origin (get_or fields i d) left)) _ one)
      ∙ ap (append_to old) (sym at_field) ∙ e

  pub fields_stop : (whole : Result (List ℕ) FormatFault) (old : List ℕ) (fault : FormatFault) → located place (field_bytes origin (get_or fields i d) left) ≡ Err fault
      → append_to old (fields_bytes origin (drop i fields) place left) ≡ whole → whole ≡ Err fault
  fields_stop whole old fault one e =
      sym e ∙ ap (append_to old) at_field
      ∙ ap (λ (r : Result (List ℕ) FormatFault). append_to old (then_bytes r (fields_bytes origin (drop (i + 1) fields) (place + taken (get_or fields i d) left) (drop (taken (get_or fields i d) left) left)))) one

-- the whole is refused where the bytes appended to what was there are
pub refused_alone : (old : List ℕ) (whole : Result (List ℕ) FormatFault) (fault : FormatFault) → append_to old whole ≡ Err fault → whole ≡ Err fault
refused_alone old (Ok bytes) fault e = absurd (cc)
refused_alone old (Err other) fault e = e

-- ---- the end

appended_nothing : (old : List ℕ) (whole : Result (List ℕ) FormatFault) → append_to old (Ok []) ≡ append_to old whole → append_to old whole ≡ Ok old
appended_nothing old whole e = sym e ∙ ap (λ (l : List ℕ). Ok l) (append-nil old)

module _ (origin : Option DomainName) (fields : List Field) (tokens : List Token) (i place : ℕ) where
  pub all_fields : (old done : List ℕ) (whole : Result (List ℕ) FormatFault) → length fields ≤ i → length tokens ≤ place
      → append_to done (fields_bytes origin (drop i fields) place (map lexeme (drop place tokens))) ≡ append_to old whole → append_to old whole ≡ Ok done
  all_fields old done whole past end e =
      sym e ∙ ap (λ (fs : List Field). append_to done (fields_bytes origin fs place (map lexeme (drop place tokens)))) (none_left fields i past)
      ∙ ap (λ (ts : List Token). append_to done (fields_bytes origin [] place (map lexeme ts))) (none_left tokens place end)
      ∙ ap (λ (l : List ℕ). Ok l) (append-nil done)

  no_field : (ts : List Lexeme) → 0 < length ts → fields_bytes origin [] place ts ≡ Err (UnexpectedToken place)
  no_field [] some = absurd (omega arith)
  no_field (t ∷ ts) some = refl

  pub tokens_left : (old done : List ℕ) (whole : Result (List ℕ) FormatFault) → length fields ≤ i → place < length tokens
      → append_to done (fields_bytes origin (drop i fields) place (map lexeme (drop place tokens))) ≡ append_to old whole → whole ≡ Err (UnexpectedToken place)
  tokens_left old done whole past some e =
      refused_alone old whole (UnexpectedToken place)
      (sym e ∙ ap (λ (fs : List Field). append_to done (fields_bytes origin fs place (map lexeme (drop place tokens)))) (none_left fields i past)
      ∙ ap (append_to done) (no_field (map lexeme (drop place tokens)) (left_tokens tokens place some)))

  pub fields_left : (old done : List ℕ) (whole : Result (List ℕ) FormatFault) (d : Field) → i < length fields → is_missing (get_or fields i d) (map lexeme (drop place tokens)) ≡ true
      → append_to done (fields_bytes origin (drop i fields) place (map lexeme (drop place tokens))) ≡ append_to old whole → whole ≡ Err (MissingToken place)
  fields_left old done whole d here missing e =
      refused_alone old whole (MissingToken place)
      (sym e ∙ ap (λ (fs : List Field). append_to done (fields_bytes origin fs place (map lexeme (drop place tokens)))) (at_place fields i d here)
      ∙ ap (λ (b : Bool). append_to done (if b then Err (MissingToken place) else with_field origin (get_or fields i d) (drop (i + 1) fields) place (map lexeme (drop place tokens)))) missing)
