use Rattle.std.proofs.Common.{◌≡◌, ◌+◌, ◌-◌, ◌<◌, true, false, ◌∙◌, List, [], ◌∷◌, ℕ, length, take, drop, Ok, refl, sym, ap, subst, length-drop, arith}
use Rattle.std.proofs.lemmas.List.{take_all, drop_all}
use Rattle.std.proofs.lemmas.Result.{err_from_is_err_and}
use Rattle.dns_names.specs.internal.Symbol.{symbol_of}
use Rattle.dns_names.specs.Name.{IsInlineOutcome}
use Rattle.dns_names.specs.Parse.{PartialName, SymbolAt, symbol, more_len, push_symbol, finish, name_of_text, name_of_symbols, symbols_from}
use Rattle.dns_names.proofs.TextLaws.{goes_on, not_broken, symbols-next}
use Rattle.dns_names.proofs.InlineText.{within_step, within_inline, inline_step, refused_step, finish_inline}
use Rattle.dns_names.proofs.name.Name.from_ascii_bytes.Goals as goal
use Rattle.dns_names.proofs.name.Name.from_ascii_bytes.Goals.{In_err-push_symbol}

-- the slice that is handed down
slice_is : (text : List ℕ) (place : ℕ) → take (length text - place) (drop place text) ≡ drop place text
slice_is text place = take_all (length text - place) (drop place text) (omega (arith, length-drop place text))

pub loop-place-preserved : goal.loop-place-preserved
loop-place-preserved c =
    let inv = c.loop-place.invariant in
    let place = c.loop-place.place in
    let slice = slice_is c.args.text.now place in
    let is : symbol_of c.next_symbol-symbol.result.0 ≡ symbol (drop place c.args.text.now) = c.next_symbol-symbol.ensures.symbol ∙ ap symbol slice in
    let accepted = c.in_ok-push_symbol.ensures.ok in
    let valid = not_broken c.loop-place.partial c.push_symbol.new.self place (symbol_of c.next_symbol-symbol.result.0) accepted in
    let len : c.next_symbol-symbol.result.1 ≡ more_len (drop place c.args.text.now) = c.next_symbol-symbol.ensures.more valid ∙ ap more_len slice in
    let within : place < length c.args.text.now = omega arith in
    record {
      completes = inv.completes ∙ goes_on c.loop-place.partial c.push_symbol.new.self place c.args.text.now (symbol_of c.next_symbol-symbol.result.0) c.next_symbol-symbol.result.1 within is len accepted;
      by_place = within_step c.loop-place.partial c.push_symbol.new.self place place (place + (1 + c.next_symbol-symbol.result.1)) (symbol_of c.next_symbol-symbol.result.0) accepted inv.by_place (omega arith);
      by_text = within_step c.loop-place.partial c.push_symbol.new.self place place (length c.args.text.now) (symbol_of c.next_symbol-symbol.result.0) accepted inv.by_place within;
    }

-- ---- a symbol that is refused

abbrev here : (c : In_err-push_symbol) → SymbolAt
here c = record { place = c.loop-place.place; symbol = symbol_of c.next_symbol-symbol.result.0 }

abbrev rest : (c : In_err-push_symbol) → List SymbolAt
rest c =
    let next : ℕ = c.loop-place.place + (1 + more_len (drop c.loop-place.place c.args.text.now)) in
    symbols_from 0 next (drop next c.args.text.now)

-- it is the next symbol of the text
symbol_here : (c : In_err-push_symbol) → symbol_of c.next_symbol-symbol.result.0 ≡ symbol (drop c.loop-place.place c.args.text.now)
symbol_here c = c.next_symbol-symbol.ensures.symbol ∙ ap symbol (slice_is c.args.text.now c.loop-place.place)

whole : (c : In_err-push_symbol) → name_of_text c.args.text.now ≡ name_of_symbols c.loop-place.partial (here c ∷ rest c)
whole c =
    let place = c.loop-place.place in
    let within : place < length c.args.text.now = omega arith in
    let next = symbols-next place c.args.text.now within in
    rw (symbol_here c) (c.loop-place.invariant.completes ∙ ap (name_of_symbols c.loop-place.partial) next)

pub returns-in_err-push_symbol-clause-inline : goal.returns-in_err-push_symbol-clause-inline
returns-in_err-push_symbol-clause-inline c =
    let at = (goal.at.returns-in_err-push_symbol-clause-inline c).In_err-push_symbol in
    λ name e small.
    let step = inline_step c.loop-place.partial (here at) (rest at) name (sym (whole at) ∙ e) small in
    let clash : false ≡ true = c.in_err-push_symbol.ensures.inline step.0 step.1 step.2 in
    absurd (cc)

pub returns-in_err-push_symbol-clause-short : goal.returns-in_err-push_symbol-clause-short
returns-in_err-push_symbol-clause-short c =
    let at = (goal.at.returns-in_err-push_symbol-clause-short c).In_err-push_symbol in
    let p = err_from_is_err_and c.from_residual.result c.from_residual.ensures.1 in
    let text = c.args.text.now in
    let place = c.loop-place.place in
    let within : place < length text = omega arith in
    rw (p.1, p.2) (λ short.
    let taken : (next : PartialName) → push_symbol c.loop-place.partial (here at) ≡ Ok next → ⊥ = λ next f.
    let inline = within_inline next (length text) (within_step c.loop-place.partial next place place (length text) (symbol_of c.next_symbol-symbol.result.0) f c.loop-place.invariant.by_place within) short in
    let clash : false ≡ true = c.in_err-push_symbol.ensures.inline next f inline in
    absurd (cc) in
    let refused = refused_step c.loop-place.partial (here at) (rest at) c.in_err-push_symbol.field-0.0
    (λ error f. let same = c.in_err-push_symbol.ensures.fault error f in cc) taken in
    sym (whole at ∙ refused))

-- ---- the end of the text

pub returns-clause-inline : goal.returns-clause-inline
returns-clause-inline c =
    let text = c.args.text.now in
    let place = c.loop-place.place in
    let done : drop place text ≡ [] = drop_all place text (omega arith) in
    let all : name_of_text text ≡ finish c.loop-place.partial = c.loop-place.invariant.completes ∙ ap (λ (cs : List ℕ). name_of_symbols c.loop-place.partial (symbols_from 0 place cs)) done in
    λ name e small.
    let made : finish c.loop-place.partial ≡ Ok name = sym all ∙ e in
    let same = c.finish.ensures.inline (subst IsInlineOutcome (sym made) small) in
    rw (same ∙ made) refl

pub returns-clause-short : goal.returns-clause-short
returns-clause-short c =
    let text = c.args.text.now in
    let place = c.loop-place.place in
    let done : drop place text ≡ [] = drop_all place text (omega arith) in
    let all : name_of_text text ≡ finish c.loop-place.partial = c.loop-place.invariant.completes ∙ ap (λ (cs : List ℕ). name_of_symbols c.loop-place.partial (symbols_from 0 place cs)) done in
    λ short. c.finish.ensures.inline (finish_inline c.loop-place.partial (length text) c.loop-place.invariant.by_text short) ∙ sym all
