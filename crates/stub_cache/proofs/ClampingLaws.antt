-- TTLs within their bounds.
use Rattle.std.proofs.Common.{◌≡◌, ◌∙◌, ◌+◌, ◌<◌, ◌++◌, ℕ, List, [], ◌∷◌, refl, ap, sym, arith, length, take, drop, set, get_or}
use Rattle.std.proofs.lemmas.List.Edits.{map_over_more}
use Rattle.std.specs.Prelude.{map}
use Rattle.dns_records.specs.Record.{Record}
use Rattle.dns_messages.specs.declared.message.Message.{Message}
use Rattle.stub_cache.specs.Ttl.{TtlConfigContent, TtlRange, clamp, clamped, clamped_record}

-- a loop that writes over an item what a function makes of it
pub write_each : {A : Type 0} (f : A → A) (xs ys : List A) (i : ℕ) (x : A) → i < length xs → ys ≡ map f (take i xs) ++ drop i xs
    → x ≡ get_or ys i x → set ys i (f (get_or ys i x)) ≡ map f (take (i + 1) xs) ++ drop (i + 1) xs
write_each f xs ys i x within written is = ap (λ y. set ys i (f y)) (sym is) ∙ map_over_more f xs ys i x within written is

-- ---- a second time

clamp-twice : (range : TtlRange) (ttl : ℕ) → clamp range (clamp range ttl) ≡ clamp range ttl
clamp-twice range ttl = omega arith

map-twice : {A : Type 0} (f : A → A) → ((x : A) → f (f x) ≡ f x) → (xs : List A) → map f (map f xs) ≡ map f xs
map-twice f twice [] = refl
map-twice f twice (x ∷ xs) = ap (λ y. y ∷ map f (map f xs)) (twice x) ∙ ap (λ ys. f x ∷ ys) (map-twice f twice xs)

abbrev with_sections : Message → List Record → List Record → List Record → Message
with_sections m answers authorities additionals = record m { answers = answers; authorities = authorities; additionals = additionals }

module _ (config : TtlConfigContent) where
  record-twice : (r : Record) → clamped_record config (clamped_record config r) ≡ clamped_record config r
  record-twice r = ap (λ (ttl : ℕ). record r { ttl = ttl }) (clamp-twice _ r.ttl)

  abbrev section : List Record → List Record
  section rs = map (clamped_record config) rs

  section-twice : (rs : List Record) → section (section rs) ≡ section rs
  section-twice rs = map-twice (clamped_record config) record-twice rs

  pub clamped-twice : (m : Message) → clamped config (clamped config m) ≡ clamped config m
  clamped-twice m =
      ap (λ (rs : List Record). with_sections m rs (section (section m.authorities)) (section (section m.additionals))) (section-twice m.answers)
      ∙ ap (λ (rs : List Record). with_sections m (section m.answers) rs (section (section m.additionals))) (section-twice m.authorities)
      ∙ ap (λ (rs : List Record). with_sections m (section m.answers) (section m.authorities) rs) (section-twice m.additionals)
