-- The line and the sentence that are found of a fault.
use Rattle.std.proofs.Common.{◌≡◌, ℕ, List, [], sym, subst, Option, Some, None}
use Rattle.dns_zone.specs.declared.zone.ZoneFault.{ZoneFault}
use Rattle.api.specs.zones.Faults.{FindsFault, has_a_fault, nothing_is_wrong, IsFaultIn, line_of, sentence_of}

pub finds_fault : (origin text : List ℕ) (found : Option ZoneFault) (fault : ZoneFault) (line : ℕ) (sentence : List ℕ)
    → IsFaultIn origin text found → found ≡ Some fault → line ≡ line_of fault → sentence ≡ sentence_of fault → FindsFault origin text line sentence
finds_fault origin text found fault line sentence is_found is_some is_line is_sentence =
    let finds = has_a_fault fault (subst (IsFaultIn origin text) is_some is_found) in
    subst (λ (n : ℕ). FindsFault origin text n sentence) (sym is_line) (subst (λ (s : List ℕ). FindsFault origin text (line_of fault) s) (sym is_sentence) finds)

pub finds_nothing : (origin text : List ℕ) (found : Option ZoneFault) (sentence : List ℕ)
    → IsFaultIn origin text found → found ≡ None → sentence ≡ [] → FindsFault origin text 0 sentence
finds_nothing origin text found sentence is_found is_none is_empty =
    let whole = subst (IsFaultIn origin text) is_none is_found in
    subst (λ (bytes : List ℕ). FindsFault origin text 0 bytes) (sym is_empty) (nothing_is_wrong whole.0 whole.1)
