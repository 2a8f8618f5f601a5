-- The words of actions.
use Rattle.std.specs.Prelude.{List, [], ◌∷◌, ℕ, Option, codes}
use Rattle.std.specs.List.{find}
use Rattle.std.specs.Str.{bytes_eq}
use Rattle.dns_faults.specs.declared.table.keyword.Keyword.{Keyword}
use Rattle.dns_faults.specs.declared.table.keyword.Keyword.TheVariants as words

-- the word of a keyword
abbrev pub keyword_text : Keyword → List ℕ
keyword_text words.Drop = codes "drop"
keyword_text words.Delay = codes "delay"
keyword_text words.Code = codes "code"
keyword_text words.Truncate = codes "truncate"
keyword_text words.WrongId = codes "wrong-id"
keyword_text words.WrongQuestion = codes "wrong-question"
keyword_text words.Garbage = codes "garbage"
keyword_text words.Duplicate = codes "duplicate"
keyword_text words.Close = codes "close"
keyword_text words.Stale = codes "stale"
keyword_text words.Times = codes "times"

-- the keywords
abbrev pub all_keywords : List Keyword
all_keywords = words.Drop ∷ words.Delay ∷ words.Code ∷ words.Truncate ∷ words.WrongId ∷ words.WrongQuestion ∷ words.Garbage ∷ words.Duplicate ∷ words.Close ∷ words.Stale ∷ words.Times ∷ []

-- the keyword that is a word
abbrev pub keyword_of : List ℕ → Option Keyword
keyword_of word = find (λ keyword. bytes_eq (keyword_text keyword) word) all_keywords
