-- The texts of parameters are words that are read as the parameters.
use Rattle.std.proofs.Common.{◌≡◌, ℕ, zero, suc, ◌+◌, ◌≤◌, Bool, true, List, [], ◌∷◌, ◌++◌, length, take, drop, Option, Some, None, Result, Ok, Err, refl, sym, ap, subst, ◌∙◌, append_assoc, arith}
use Rattle.std.specs.Prelude.{if◌then◌else◌, unwrap_or}
use Rattle.std.specs.List.{AllByRecursion}
use Rattle.std.proofs.lemmas.List.{append-nil}
use Rattle.dns_names.specs.Print.{AreOctets}
use Rattle.dns_text.specs.CharacterString.{unescaped}
use Rattle.dns_text.specs.Lexer.{Lexeme}
use Rattle.dns_text.specs.Tokens.{IsDatum}
use Rattle.dns_fields.specs.service.Wire.{are_parameters}
use Rattle.dns_fields.specs.service.Parameter.{with_parameter}
use Rattle.dns_fields.specs.service.Text.{parameter_text, parameter_texts}
use Rattle.dns_fields.proofs.ParameterBackLaws.{Raw, raw_key, raw_bytes, all_bytes, AreLower, IsRaw, lower_up, lower_then, bytes_then, one_more, split}
use Rattle.dns_fields.proofs.ParameterWordLaws.{parameter_datum, text_name, text_value}
use Rattle.dns_fields.proofs.ValueBackLaws.{text_octets}
use Rattle.dns_formats.specs.Print.{word_tokens}
use Rattle.dns_formats.specs.Service.{of_service, key_end, quoted_value, value_text, more_tokens, with_octets, in_order, together, parameters_bytes}
use Rattle.dns_formats.specs.declared.fault.TokenFault.{TokenFault}
use Rattle.dns_formats.specs.declared.fault.TokenFault.TheVariants.{NotParameters}

no_quote : (text : List ℕ) (words : List (List ℕ)) → quoted_value text (word_tokens words) ≡ None
no_quote text [] = refl
no_quote text (word ∷ words) = refl

-- a parameter of one word, before other words
one_read : (all : List ℕ) (ps : List Raw) (p : Raw) (words : List (List ℕ)) → AreLower (raw_key p) ps → IsRaw all p
    → in_order 0 (all_bytes ps) (word_tokens (parameter_text (raw_key p) p.value ∷ words)) ≡ in_order 0 (all_bytes (ps ++ p ∷ [])) (word_tokens words)
one_read all ps p words lower is =
    let key : ℕ = raw_key p in
    let text : List ℕ = parameter_text key p.value in
    let tokens : List Lexeme = word_tokens words in
    let done : List ℕ = all_bytes ps in
    let none : quoted_value text tokens ≡ None = no_quote text words in
    let a = is.a in
    let b = is.b in
    let value : unescaped (value_text text tokens) ≡ Some (text_octets key p.value) =
    ap (λ (o : Option (List ℕ)). unescaped (unwrap_or o (drop (key_end text + 1) text))) none ∙ text_value key p.value (omega arith) is.octets in
    let added : with_octets done (take (key_end text) text) (unescaped (value_text text tokens)) ≡ Ok (all_bytes (ps ++ p ∷ [])) =
    ap (λ (o : Option (List ℕ)). with_octets done (take (key_end text) text) o) value
    ∙ ap (λ (l : List ℕ). of_service (with_parameter done l (text_octets key p.value))) (text_name key p.value (omega arith))
    ∙ ap of_service (one_more all ps p lower is) in
    ap (λ (r : Result (List ℕ) TokenFault). elim r as (λ _. Result (List ℕ) TokenFault) [ Ok more ↦ in_order (more_tokens (quoted_value text tokens)) more tokens | Err fault ↦ Err fault ]) added
    ∙ ap (λ (o : Option (List ℕ)). in_order (more_tokens o) (all_bytes (ps ++ p ∷ [])) tokens) none

all_read : (fuel : ℕ) (all : List ℕ) (least : ℕ) (ps : List Raw) (xs : List ℕ) → length xs ≤ fuel → AreLower least ps → AreOctets xs → are_parameters all least 0 xs ≡ true
    → in_order 0 (all_bytes ps) (word_tokens (parameter_texts 0 xs)) ≡ Ok (all_bytes ps ++ xs)
all_read fuel all least ps [] enough lower are e = ap (λ (l : List ℕ). Ok l) (sym (append-nil (all_bytes ps)))
all_read zero all least ps (x ∷ xs) enough lower are e = absurd (omega arith)
all_read (suc fuel) all least ps (x ∷ xs) enough lower are e =
    let s = split all least (x ∷ xs) are (omega arith) e in
    let p : Raw = s.front in
    let low = lower_up least (raw_key p) ps s.up lower in
    let shorter = s.shorter in
    ap (λ (ts : List (List ℕ)). in_order 0 (all_bytes ps) (word_tokens ts)) s.texts
    ∙ one_read all ps p (parameter_texts 0 s.rest) low s.is
    ∙ all_read fuel all (raw_key p + 1) (ps ++ p ∷ []) s.rest (omega (arith, shorter)) (lower_then (raw_key p + 1) ps p (lower_up (raw_key p) (raw_key p + 1) ps (omega arith) low) (omega arith) s.is.whole) s.octets s.more
    ∙ ap (λ (l : List ℕ). Ok (l ++ s.rest)) (bytes_then ps p)
    ∙ ap (λ (l : List ℕ). Ok l) (append_assoc (all_bytes ps) (raw_bytes p) s.rest ∙ ap (λ (l : List ℕ). all_bytes ps ++ l) s.joined)

pub parameters_back : (bytes : List ℕ) → AreOctets bytes → are_parameters bytes 0 0 bytes ≡ true → parameters_bytes (word_tokens (parameter_texts 0 bytes)) ≡ Ok bytes
parameters_back bytes are e =
    ap together (all_read (length bytes) bytes 0 [] bytes (omega arith) tt are e) ∙ ap (λ (t : Bool). if t then Ok bytes else Err NotParameters) e

texts_are : (fuel : ℕ) (all : List ℕ) (least : ℕ) (xs : List ℕ) → length xs ≤ fuel → AreOctets xs → are_parameters all least 0 xs ≡ true → AllByRecursion IsDatum (word_tokens (parameter_texts 0 xs))
texts_are fuel all least [] enough are e = tt
texts_are zero all least (x ∷ xs) enough are e = absurd (omega arith)
texts_are (suc fuel) all least (x ∷ xs) enough are e =
    let s = split all least (x ∷ xs) are (omega arith) e in
    let p : Raw = s.front in
    let a = s.is.a in
    let b = s.is.b in
    let shorter = s.shorter in
    subst (λ (ts : List (List ℕ)). AllByRecursion IsDatum (word_tokens ts)) (sym s.texts)
    (parameter_datum (raw_key p) p.value (omega arith) s.is.octets, texts_are fuel all (raw_key p + 1) s.rest (omega (arith, shorter)) s.octets s.more)

pub parameters_data : (bytes : List ℕ) → AreOctets bytes → are_parameters bytes 0 0 bytes ≡ true → AllByRecursion IsDatum (word_tokens (parameter_texts 0 bytes))
parameters_data bytes are e = texts_are (length bytes) bytes 0 bytes (omega arith) are e
