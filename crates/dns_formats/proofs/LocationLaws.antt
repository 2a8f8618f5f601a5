-- The words of a location are words of an entry.
use Rattle.std.proofs.Common.{◌≡◌, ℕ, true, List, [], ◌∷◌}
use Rattle.std.specs.List.{AllByRecursion}
use Rattle.dns_names.specs.Print.{AreOctets}
use Rattle.dns_text.specs.Tokens.{IsDatum}
use Rattle.dns_fields.specs.location.Wire.{is_location}
use Rattle.dns_fields.specs.location.Text.{location_words}
use Rattle.dns_fields.proofs.TameLaws.{IsTameWord, words_tame}
use Rattle.dns_formats.specs.Print.{word_tokens}
use Rattle.dns_formats.proofs.WordLaws.{tame_word}

data_are : (words : List (List ℕ)) → AllByRecursion IsTameWord words → AllByRecursion IsDatum (word_tokens words)
data_are [] are = tt
data_are (word ∷ words) are = ((tame_word word are.0.0 are.0.1).datum, data_are words are.1)

pub location_data : (bytes : List ℕ) → AreOctets bytes → is_location bytes ≡ true → AllByRecursion IsDatum (word_tokens (location_words bytes))
location_data bytes are is = data_are (location_words bytes) (words_tame bytes are is)
