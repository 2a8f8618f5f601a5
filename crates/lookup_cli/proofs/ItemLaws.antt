-- What a line asks.
use denote.Param.Members.{Mut}
use Rattle.std.proofs.Common.{◌≡◌, ◌∙◌, ap, string_bytes, Bool, List, ℕ, Option, Some, None, Bor, MatchOption}
use Rattle.std.specs.Char.{is_whitespace}
use Rattle.std.specs.Fn.{AlwaysReturns}
use Rattle.std.specs.Str.{trim}
use Rattle.std.specs.Str.Pattern.{FindsBy, SplitsAroundMatch}
use Rattle.lookup_cli.specs.answers.Item.{IsItemOf, SplitsAtSpace, question_of_type, typed}
use Rattle.lookup_cli.specs.declared.answers.item.Item.{Item}
use Rattle.lookup_cli.specs.declared.answers.item.Question.{Question}

-- what a search by a closure finds in a text
abbrev Finds : {F : Type 0} → Mut F (ℕ × Unit {0}) Bool → F → List ℕ → Option (ℕ × ℕ) → Type 0
Finds g f text place = (k : ℕ → Bool) → AlwaysReturns g (λ a r. r ≡ k a.0) f → FindsBy k text place

-- a text is divided at its first white space by a closure that tests for it
pub splits-at-space : {F : Type 0} (g : Mut F (ℕ × Unit {0}) Bool) (f : F) (text : List ℕ)
    (result : Option (Bor (List ℕ) × Bor (List ℕ)))
    → MatchOption result (Finds g f text None) (λ x. SplitsAroundMatch (Finds g f) text x.0.now x.1.now)
    → AlwaysReturns g (λ a r. r ≡ is_whitespace a.0) f → SplitsAtSpace text result
splits-at-space g f text None found tests = found is_whitespace tests
splits-at-space g f text (Some x) found tests = (found.0, found.1, found.2 is_whitespace tests, found.3, found.4)

-- a line with white space names a type after it
pub typed-item : (line : List ℕ) (default : Question) (item : Item) (parts : Bor (List ℕ) × Bor (List ℕ))
    → SplitsAtSpace line (Some parts) → string_bytes item.name ≡ parts.0.now → string_bytes item.type_text ≡ trim parts.1.now
    → item.question ≡ question_of_type (trim parts.1.now) → IsItemOf line default item
typed-item line default item parts split name text question =
    typed split.0 split.1 split.2 (name ∙ split.3) (text ∙ ap trim split.4) (question ∙ ap (λ rest. question_of_type (trim rest)) split.4)
