use Rattle.std.proofs.Common.{◌≡◌, ◌<◌, ◌∙◌, ℕ, List, length, drop, ap, arith, length-drop}
use Rattle.std.specs.Int.{w16, to_be_bytes}
use Rattle.std.proofs.lemmas.Result.{err_from_is_err_and}
use Rattle.dns_wire.specs.Decodable.{BytesAt}
use Rattle.dns_messages.specs.Grammar.{bad_question_name, short_question}
use Rattle.dns_messages.proofs.query.Query.read_on.Goals as goal

-- no room for the type
no_type : (bytes here : List ℕ) (place : ℕ) → here ≡ bytes → length (drop place here) < 2 → length (drop place bytes) < 4
no_type bytes here place same few = omega (arith, ap (λ (xs : List ℕ). length (drop place xs)) same, few)

-- no room for the class behind the type
no_class : (bytes here : List ℕ) (place behind number : ℕ) → here ≡ bytes → BytesAt bytes place (to_be_bytes w16 number) behind → length (drop behind here) < 2 → length (drop place bytes) < 4
no_class bytes here place behind number same type few =
    omega (arith, ap (λ (xs : List ℕ). length (drop behind xs)) same, few, type.ends, length-drop place bytes, length-drop behind bytes)

pub returns-in_err-name-clause-refused : goal.returns-in_err-name-clause-refused
returns-in_err-name-clause-refused c =
    let p = err_from_is_err_and c.from_residual.result c.from_residual.ensures.1 in
    rw (p.1, p.2) (λ other. bad_question_name (c.in_err-name.ensures.refused other))

pub returns-in_err-read-clause-refused : goal.returns-in_err-read-clause-refused
returns-in_err-read-clause-refused c =
    let p = err_from_is_err_and c.from_residual-in_err-read.result c.from_residual-in_err-read.ensures.1 in
    rw (p.1, p.2) (λ other.
    let few = c.in_err-read.ensures.refused other in
    rw few.0 (short_question c.in_ok-name.ensures.read (no_type _ _ _ c.in_ok-name.ensures.bytes few.1)))

pub returns-in_err-read-2-clause-refused : goal.returns-in_err-read-2-clause-refused
returns-in_err-read-2-clause-refused c =
    let p = err_from_is_err_and c.from_residual-in_err-read-2.result c.from_residual-in_err-read-2.ensures.1 in
    rw (p.1, p.2) (λ other.
    let few = c.in_err-read-2.ensures.refused other in
    let same = c.in_ok-name.ensures.bytes in
    let type = rw same at c.in_ok-read.ensures.read.0 in
    rw few.0 (short_question c.in_ok-name.ensures.read (no_class _ _ _ _ c.in_ok-read.field-0 (c.in_ok-read.ensures.bytes ∙ same) type few.1)))
