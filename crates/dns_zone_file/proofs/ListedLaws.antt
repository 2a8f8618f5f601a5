-- The names of included texts, entry by entry.
use Rattle.std.proofs.Common.{◌≡◌, ℕ, List, [], ◌∷◌, ◌++◌, map, Option, Some, None, option_map, Ok, sym, ap, subst, ◌∙◌, append_assoc, Bor}
use Rattle.std.proofs.lemmas.List.{append-nil, map-append}
use Rattle.dns_text.specs.Lexer.{Lexeme, LexerState, NextToken}
use Rattle.dns_text.specs.Token.{lexeme}
use Rattle.dns_text.specs.declared.token.Token.{Token}
use Rattle.dns_zone_file.specs.declared.error.ZoneFileError.{ZoneFileError}
use Rattle.dns_zone_file.specs.declared.error.ZoneFileError.TheVariants as error
use Rattle.dns_zone_file.specs.Entry.{LexesEntry, entry_of}
use Rattle.dns_zone_file.specs.Listed.{name_in, ListsNames, at_end, at_fault, past_other, past_include}
use Rattle.dns_zone_file.specs.internal.Entry.{IsTextFault}

-- the names of the rest come after those that were found
pub record Continues (p : LexerState) (names : List (List ℕ)) (q : LexerState) : Type 0 where
  pub leads : (more : List (List ℕ)) → ListsNames q more → ListsNames p (names ++ more)

pub at_start : (p q : LexerState) → q ≡ p → Continues p [] q
at_start p q same = record { leads = λ more rest. subst (λ (s : LexerState). ListsNames s more) same rest }

pub after_other : {p q next : LexerState} {names : List (List ℕ)} (tokens : List Lexeme) → Continues p names q → LexesEntry q tokens next
    → name_in (entry_of tokens) ≡ None → Continues p names next
after_other tokens so_far lexed none = record { leads = λ more rest. so_far.leads more (past_other lexed none rest) }

pub after_include : {p q next : LexerState} {names : List (List ℕ)} (tokens : List Lexeme) (name : List ℕ) → Continues p names q → LexesEntry q tokens next
    → name_in (entry_of tokens) ≡ Some name → Continues p (names ++ name ∷ []) next
after_include {p} {names = names} tokens name so_far lexed found = record {
  leads = λ more rest. subst (λ (l : List (List ℕ)). ListsNames p l) (sym (append_assoc names (name ∷ []) more)) (so_far.leads (name ∷ more) (past_include lexed found rest));
}

pub ends : {p q end : LexerState} {names : List (List ℕ)} → Continues p names q → NextToken q (Ok None) end → ListsNames p names
ends {p} {names = names} so_far last = subst (λ (l : List (List ℕ)). ListsNames p l) (append-nil names) (so_far.leads [] (at_end last))

pub breaks : {p q : LexerState} {names : List (List ℕ)} (e : ZoneFileError) → Continues p names q → IsTextFault q e → ListsNames p names
breaks {p} {names = names} (error.Lexer fault) so_far refused = subst (λ (l : List (List ℕ)). ListsNames p l) (append-nil names) (so_far.leads [] (at_fault refused))
breaks e so_far refused = absurd refused

pub from_start : {p q : LexerState} {names : List (List ℕ)} → p ≡ q → ListsNames p names → ListsNames q names
from_start {names = names} same lists = subst (λ (s : LexerState). ListsNames s names) same lists

-- ---- what the code finds

abbrev texts : List (Bor (List ℕ)) → List (List ℕ)
texts names = map (λ name. name.now) names

module _ {p q next : LexerState} (items slice : List Token) (names pushed : List (Bor (List ℕ))) (so_far : Continues p (texts names) q)
    (lexed : LexesEntry q (map lexeme items) next) (same : slice ≡ items) where
  lexed_so : LexesEntry q (map lexeme slice) next
  lexed_so = subst (λ (l : List Token). LexesEntry q (map lexeme l) next) (sym same) lexed

  pub takes_name : (found : Option (Bor (List ℕ))) (name : Bor (List ℕ)) → found ≡ Some name → option_map (λ n. n.now) found ≡ name_in (entry_of (map lexeme slice))
      → pushed ≡ names ++ name ∷ [] → Continues p (texts pushed) next
  takes_name found name is in_entry e =
      subst (λ (l : List (List ℕ)). Continues p l next) (sym (ap texts e ∙ map-append (λ n. n.now) names (name ∷ [])))
      (after_include (map lexeme slice) name.now so_far lexed_so (sym in_entry ∙ ap (λ (o : Option (Bor (List ℕ))). option_map (λ n. n.now) o) is))

  pub takes_none : (found : Option (Bor (List ℕ))) → found ≡ None → option_map (λ n. n.now) found ≡ name_in (entry_of (map lexeme slice))
      → pushed ≡ names → Continues p (texts pushed) next
  takes_none found is in_entry e =
      subst (λ (l : List (Bor (List ℕ))). Continues p (texts l) next) (sym e)
      (after_other (map lexeme slice) so_far lexed_so (sym in_entry ∙ ap (λ (o : Option (Bor (List ℕ))). option_map (λ n. n.now) o) is))
