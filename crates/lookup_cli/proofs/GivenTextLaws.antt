-- Characters of a JSON string, and the octets that they are in UTF-8.
use Rattle.std.proofs.Common.{◌≡◌, ◌<◌, ◌≤◌, ◌+◌, ◌==◌, ◌++◌, ℕ, List, [], ◌∷◌, ◌⊎◌, inl, inr, false, length, get_or, encode_utf8, refl, sym, ap, ◌∙◌, arith, append_assoc, append-nil}
use Rattle.std.proofs.lemmas.Bool.{cases_lt}
use Rattle.std.proofs.lemmas.Grind.{common_steps}
use Rattle.std.proofs.lemmas.Str.{encode_ascii, inside_one}
use Rattle.lookup_cli.specs.answers.GivenText.{given_octet, given_octets}

octets_append : (xs ys : List ℕ) → given_octets (xs ++ ys) ≡ given_octets xs ++ given_octets ys
octets_append [] ys = refl
octets_append (x ∷ xs) ys = ap (λ (l : List ℕ). given_octet x ++ l) (octets_append xs ys) ∙ sym (append_assoc (given_octet x) (given_octets xs) (given_octets ys))

-- a character continues what is written
pub character_more : (done all text rest old : List ℕ) → old ≡ text ++ rest → done ++ given_octets old ≡ all
    → (done ++ given_octets text) ++ given_octets rest ≡ all
character_more done all text rest old is so_far =
    append_assoc done (given_octets text) (given_octets rest)
    ∙ ap (λ (l : List ℕ). done ++ l) (sym (octets_append text rest) ∙ ap given_octets (sym is)) ∙ so_far

wide_octet : (b : ℕ) → 128 ≤ b → given_octet b ≡ b ∷ []
wide_octet b wide = grind (arith, common_steps)

wide_octets : (bs : List ℕ) → ((k : ℕ) → k < length bs → 128 ≤ get_or bs k 0) → given_octets bs ≡ bs
wide_octets [] wide = refl
wide_octets (b ∷ bs) wide =
    let head : 128 ≤ b = grind (arith, common_steps, wide 0) in
    let tail : (k : ℕ) → k < length bs → 128 ≤ get_or bs k 0 = λ k lt. grind (arith, common_steps, wide (k + 1)) in
    ap (λ (l : List ℕ). l ++ given_octets bs) (wide_octet b head) ∙ ap (λ (l : List ℕ). b ∷ l) (wide_octets bs tail)

wide_bytes : (c k : ℕ) → 128 ≤ c → k < length (encode_utf8 c) → 128 ≤ get_or (encode_utf8 c) k 0
wide_bytes c k wide lt = grind (arith, inside_one c [] (encode_utf8 c) k (sym (append-nil (encode_utf8 c))) lt)

plain_octet : (c : ℕ) → (c == 34) ≡ false → (c == 92) ≡ false → 32 ≤ c → given_octet c ≡ c ∷ []
plain_octet c quote slash printed = grind (arith, common_steps)

-- a character without an escape is written as it is
pub plain_character : (c : ℕ) → (c == 34) ≡ false → (c == 92) ≡ false → 32 ≤ c → given_octets (encode_utf8 c) ≡ encode_utf8 c
plain_character c quote slash printed = by (cases_lt c 128) where
  by : (c < 128) ⊎ (128 ≤ c) → given_octets (encode_utf8 c) ≡ encode_utf8 c
  by (inl ascii) =
      ap given_octets (encode_ascii c ascii) ∙ append-nil (given_octet c) ∙ plain_octet c quote slash printed ∙ sym (encode_ascii c ascii)
  by (inr wide) = wide_octets (encode_utf8 c) (λ k lt. wide_bytes c k wide lt)
