-- Names that are read from text.
use Rattle.std.proofs.Common.{◌≡◌, ◌≢◌, ℕ, zero, suc, ◌+◌, ◌<◌, ◌≤◌, true, false, List, [], ◌∷◌, ◌++◌, length, drop, Ok, Err, refl, ap, ◌∙◌, arith, length-drop}
use Rattle.std.specs.Prelude.{◌==◌, nat_lt}
use Rattle.std.proofs.lemmas.List.{drop-drop}
use Rattle.std.proofs.lemmas.Bool.Decides.{nat_tests}
use Rattle.dns_wire.specs.Name.{name_len}
use Rattle.dns_names.proofs.Underway.{name_len-push}
use Rattle.dns_names.specs.declared.error.ParseError.TheVariants.{DomainNameTooLong, Text}
use Rattle.dns_names.specs.Parse.{Symbol, Broken, PartialName, SymbolAt, end_label, push_symbol, name_of_symbols, symbols_from, symbol, more_len}

pub ends_too_long : (b : PartialName) → 0 < length b.label → 255 < name_len b.labels + (length b.label + 1) → end_label b ≡ Err DomainNameTooLong
ends_too_long b some over =
    let filled : (length b.label == 0) ≡ false = grind (arith, nat_tests) in
    let long : nat_lt 255 (name_len (b.labels ++ b.label ∷ [])) ≡ true = let len = name_len-push b.labels b.label in grind (arith, nat_tests) in
    rw (filled, long) refl

pub ends_well : (b next : PartialName) → 0 < length b.label → name_len b.labels + (length b.label + 1) ≤ 255 → next ≡ record { labels = b.labels ++ b.label ∷ []; label = [] } → end_label b ≡ Ok next
ends_well b next some room is =
    let filled : (length b.label == 0) ≡ false = grind (arith, nat_tests) in
    let short : nat_lt 255 (name_len (b.labels ++ b.label ∷ [])) ≡ false = let len = name_len-push b.labels b.label in grind (arith, nat_tests) in
    rw (filled, short, is) refl

-- ---- symbol by symbol

-- past the characters that belong to the symbol before
symbols-past : (past place : ℕ) (text : List ℕ) → symbols_from past place text ≡ symbols_from 0 (place + past) (drop past text)
symbols-past zero place text = ap (λ (n : ℕ). symbols_from 0 n text) (omega arith)
symbols-past (suc past) place [] = refl
symbols-past (suc past) place (c ∷ cs) = symbols-past past (place + 1) cs ∙ ap (λ (n : ℕ). symbols_from 0 n (drop past cs)) (omega arith)

-- the symbols from a place on: the one that stands there, and those behind it
symbols-at : (place : ℕ) (rest : List ℕ) → 0 < length rest → symbols_from 0 place rest ≡ record { place = place; symbol = symbol rest } ∷ symbols_from 0 (place + 1 + more_len rest) (drop (suc (more_len rest)) rest)
symbols-at place [] some = absurd (omega arith)
symbols-at place (c ∷ cs) some = ap (λ (ps : List SymbolAt). record { place = place; symbol = symbol (c ∷ cs) } ∷ ps) (symbols-past (more_len (c ∷ cs)) (place + 1) cs)

pub symbols-next : (place : ℕ) (text : List ℕ) → place < length text → symbols_from 0 place (drop place text)
    ≡ record { place = place; symbol = symbol (drop place text) } ∷ symbols_from 0 (place + (1 + more_len (drop place text))) (drop (place + (1 + more_len (drop place text))) text)
symbols-next place text within =
    let more : ℕ = more_len (drop place text) in
    let there : place + 1 + more ≡ place + (1 + more) = omega arith in
    let rest : drop (suc more) (drop place text) ≡ drop (place + (1 + more)) text = drop-drop (suc more) place text ∙ ap (λ (n : ℕ). drop n text) (omega arith) in
    symbols-at place (drop place text) (omega (arith, length-drop place text))
    ∙ ap (λ (n : ℕ). record { place = place; symbol = symbol (drop place text) } ∷ symbols_from 0 n (drop (suc more) (drop place text))) there
    ∙ ap (λ (cs : List ℕ). record { place = place; symbol = symbol (drop place text) } ∷ symbols_from 0 (place + (1 + more)) cs) rest

pub taken : (b next : PartialName) (p : SymbolAt) (ps : List SymbolAt) → push_symbol b p ≡ Ok next → name_of_symbols b (p ∷ ps) ≡ name_of_symbols next ps
taken b next p ps e = rw (e, name_of_symbols) refl

-- a symbol that is taken is valid
pub not_broken : (b next : PartialName) (place : ℕ) (s : Symbol) → push_symbol b (record { place = place; symbol = s }) ≡ Ok next → s ≢ Broken
not_broken b next place s accepted broken =
    let refused : push_symbol b (record { place = place; symbol = s }) ≡ Err (Text place) = rw broken refl in cc

-- a symbol that is taken, and the text behind it
pub goes_on : (b next : PartialName) (place : ℕ) (text : List ℕ) (s : Symbol) (more : ℕ) → place < length text → s ≡ symbol (drop place text) → more ≡ more_len (drop place text)
    → push_symbol b (record { place = place; symbol = s }) ≡ Ok next → name_of_symbols b (symbols_from 0 place (drop place text)) ≡ name_of_symbols next (symbols_from 0 (place + (1 + more)) (drop (place + (1 + more)) text))
goes_on b next place text s more within is len accepted =
    let rest : List SymbolAt = symbols_from 0 (place + (1 + more_len (drop place text))) (drop (place + (1 + more_len (drop place text))) text) in
    rw len (ap (name_of_symbols b) (symbols-next place text within) ∙ taken b next (record { place = place; symbol = symbol (drop place text) }) rest (rw is at accepted))
