-- The names of keys, one after another.
use Rattle.std.proofs.Common.{◌≡◌, ℕ, ◌+◌, ◌<◌, Bool, true, false, List, length, drop, get_or, map, Option, Some, sym, ap, ◌∙◌}
use Rattle.std.specs.Prelude.{if◌then◌else◌}
use Rattle.std.specs.Str.{bytes_eq}
use denote.Ref.{Bor}
use Rattle.dns_fields.specs.service.Key.{key_among}
use Rattle.dns_fields.proofs.LoopLaws.{at_place}

abbrev lines : List (Bor (List ℕ) × ℕ) → List (List ℕ × ℕ)
lines words = map (λ line. (line.0.now, line.1)) words

at_word : (words : List (Bor (List ℕ) × ℕ)) (i : ℕ) (d : Bor (List ℕ) × ℕ) (text : List ℕ) → i < length words
    → key_among (lines (drop i words)) text
    ≡ (if bytes_eq text (get_or words i d).0.now then Some (get_or words i d).1 else key_among (lines (drop (i + 1) words)) text)
at_word words i d text here = ap (λ (l : List (Bor (List ℕ) × ℕ)). key_among (lines l) text) (at_place words i d here)

pub key_further : (words : List (Bor (List ℕ) × ℕ)) (i : ℕ) (d : Bor (List ℕ) × ℕ) (text word : List ℕ) (whole : Option ℕ) → i < length words → word ≡ (get_or words i d).0.now
    → bytes_eq text word ≡ false → key_among (lines (drop i words)) text ≡ whole → key_among (lines (drop (i + 1) words)) text ≡ whole
key_further words i d text word whole here is other e =
    sym (at_word words i d text here ∙ ap (λ (b : Bool). if b then Some (get_or words i d).1 else key_among (lines (drop (i + 1) words)) text) (ap (λ (w : List ℕ). bytes_eq text w) (sym is) ∙ other)) ∙ e

pub key_found : (words : List (Bor (List ℕ) × ℕ)) (i : ℕ) (d : Bor (List ℕ) × ℕ) (text word : List ℕ) (whole : Option ℕ) → i < length words → word ≡ (get_or words i d).0.now
    → bytes_eq text word ≡ true → key_among (lines (drop i words)) text ≡ whole → Some (get_or words i d).1 ≡ whole
key_found words i d text word whole here is same e =
    sym (at_word words i d text here ∙ ap (λ (b : Bool). if b then Some (get_or words i d).1 else key_among (lines (drop (i + 1) words)) text) (ap (λ (w : List ℕ). bytes_eq text w) (sym is) ∙ same)) ∙ e
