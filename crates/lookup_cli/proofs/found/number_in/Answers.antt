use Rattle.std.proofs.Common.{◌≡◌, sym, refl, ℕ, List, Option, Some, None, Result}
use Rattle.std.specs.Str.Parse.{ParsesUnsigned}
use Rattle.std.specs.contracts.prelude.UsizeFromStr.TheImpl.{from_str_gives-value}
use Rattle.clap.specs.Words.{ReadsOne, found_of, one_text}
use Rattle.clap.proofs.WalkLemmas.{one_text-rows}
use Rattle.lookup_cli.specs.Arguments.{IsNumber}
use Rattle.lookup_cli.proofs.found.number_in.Goals as goal

-- a text is read as a number, or as none
read_number : {E : Type 0} (gives : List ℕ → Result ℕ E → Type 0) → ((bs : List ℕ) (r : Result ℕ E) → gives bs r → ParsesUnsigned 64 10 bs r)
    → (text : Option (List ℕ)) (number : Option ℕ) → (text ≡ None → number ≡ None) → ((t : List ℕ) → text ≡ Some t → ReadsOne gives t number)
    → IsNumber text number
read_number gives parses None number none some = none refl
read_number gives parses (Some t) None none some = let read = some t refl in parses t _ read.1
read_number gives parses (Some t) (Some n) none some = parses t _ (some t refl)

pub returns : goal.returns
returns c =
    rw (sym (one_text-rows (found_of c.args.matches.now) c.args.name.now))
    (read_number from_str_gives-value.it (λ bs r h. h.0) (one_text (found_of c.args.matches.now) c.args.name.now) c.get_one.result c.get_one.ensures.none c.get_one.ensures.value)
