-- Fields, token after token.
use Rattle.std.proofs.Common.{◌≡◌, ◌<◌, ◌+◌, ℕ, suc, true, false, List, ◌∷◌, length, map, drop, get_or, Option, Some, None, is_some, Result, Ok, Err, refl, sym, ap, ◌∙◌, add-one, arith}
use Rattle.std.proofs.lemmas.List.{length-map}
use Rattle.std.proofs.Math.Seq.{drop-cons}
use Rattle.std.proofs.Math.ListN.{get_or-map}
use Rattle.dns_wire.specs.declared.codes.dns_class.DNSClass.{DNSClass}
use Rattle.dns_text.specs.Lexer.{Lexeme}
use Rattle.dns_text.specs.Token.{lexeme}
use Rattle.dns_text.specs.declared.token.Token.{Token}
use Rattle.dns_zone_file.specs.declared.error.EntryFault.{EntryFault}
use Rattle.dns_zone_file.specs.declared.error.EntryFault.TheVariants.{InvalidTtl, RepeatedField, UnknownType}
use Rattle.dns_zone_file.specs.declared.types.Types.{Types}
use Rattle.dns_zone_file.specs.Fields.{Field, ttl_field, bad_ttl, class_field, type_field, no_field, field_in, Fields, fields_from}

-- the fields, where this one is the next
abbrev pub with_field : Types → Option ℕ → Option DNSClass → Field → List Lexeme → Result Fields EntryFault
with_field types ttl class field tokens = elim field [
  | ttl_field seconds ↦ elim ttl [ Some other ↦ Err RepeatedField | None ↦ fields_from types (Some seconds) class tokens ]
  | bad_ttl ↦ Err InvalidTtl
  | class_field found ↦ elim class [ Some other ↦ Err RepeatedField | None ↦ fields_from types ttl (Some found) tokens ]
  | type_field found ↦ Ok (record { ttl = ttl; dns_class = class; record_type = found; rdata = tokens })
  | no_field ↦ Err UnknownType
]

next_token : (tokens : List Token) (i : ℕ) (d : Token) → i < length tokens → drop i (map lexeme tokens) ≡ lexeme (get_or tokens i d) ∷ drop (i + 1) (map lexeme tokens)
next_token tokens i d h =
    let within : i < length (map lexeme tokens) = omega (arith, length-map tokens lexeme) in
    drop-cons (map lexeme tokens) i (lexeme d) within
    ∙ ap (λ (t : Lexeme). t ∷ drop (suc i) (map lexeme tokens)) (get_or-map lexeme tokens i d)
    ∙ ap (λ (n : ℕ). lexeme (get_or tokens i d) ∷ drop n (map lexeme tokens)) (sym (add-one i))

pub at_field : (types : Types) (ttl : Option ℕ) (class : Option DNSClass) (tokens : List Token) (i : ℕ) (d : Token) (field : Field) → i < length tokens → field ≡ field_in types (lexeme (get_or tokens i d)) → fields_from types ttl class (drop i (map lexeme tokens)) ≡ with_field types ttl class field (drop (i + 1) (map lexeme tokens))
at_field types ttl class tokens i d field h e =
    ap (λ (l : List Lexeme). fields_from types ttl class l) (next_token tokens i d h)
    ∙ ap (λ (f : Field). with_field types ttl class f (drop (i + 1) (map lexeme tokens))) (sym e)

pub second_ttl : (types : Types) (ttl : Option ℕ) (class : Option DNSClass) (seconds : ℕ) (tokens : List Lexeme) → is_some ttl ≡ true → with_field types ttl class (ttl_field seconds) tokens ≡ Err RepeatedField
second_ttl types (Some other) class seconds tokens e = refl
second_ttl types None class seconds tokens e = absurd cc

pub first_ttl : (types : Types) (ttl : Option ℕ) (class : Option DNSClass) (seconds : ℕ) (tokens : List Lexeme) → is_some ttl ≡ false → with_field types ttl class (ttl_field seconds) tokens ≡ fields_from types (Some seconds) class tokens
first_ttl types (Some other) class seconds tokens e = absurd cc
first_ttl types None class seconds tokens e = refl

pub second_class : (types : Types) (ttl : Option ℕ) (class : Option DNSClass) (found : DNSClass) (tokens : List Lexeme) → is_some class ≡ true → with_field types ttl class (class_field found) tokens ≡ Err RepeatedField
second_class types ttl (Some other) found tokens e = refl
second_class types ttl None found tokens e = absurd cc

pub first_class : (types : Types) (ttl : Option ℕ) (class : Option DNSClass) (found : DNSClass) (tokens : List Lexeme) → is_some class ≡ false → with_field types ttl class (class_field found) tokens ≡ fields_from types ttl (Some found) tokens
first_class types ttl (Some other) found tokens e = absurd cc
first_class types ttl None found tokens e = refl
