-- What is written, part by part.
use Rattle.std.proofs.Common.{◌≡◌, ℕ, ◌<◌, List, [], ◌∷◌, ◌++◌, refl, sym, ap, ◌∙◌, append_assoc, length, arith}
use Rattle.dns_fields.specs.location.Text.{angle_words, angles_text, length_words, location_words, spaced_words, joined_words}
use Rattle.dns_fields.specs.location.Wire.{number_at}
use Rattle.dns_fields.specs.declared.location.angle.Axis.TheVariants.{Latitude, Longitude}

spaced_append : (ws us : List (List ℕ)) → spaced_words (ws ++ us) ≡ spaced_words ws ++ spaced_words us
spaced_append [] us = refl
spaced_append (w ∷ ws) us = ap (λ (l : List ℕ). (32 ∷ w) ++ l) (spaced_append ws us) ∙ sym (append_assoc (32 ∷ w) (spaced_words ws) (spaced_words us))

joined_append : (ws us : List (List ℕ)) → 0 < length ws → joined_words (ws ++ us) ≡ joined_words ws ++ spaced_words us
joined_append [] us some = absurd (omega arith)
joined_append (w ∷ ws) us some = ap (λ (l : List ℕ). w ++ l) (spaced_append ws us) ∙ sym (append_assoc w (spaced_words ws) (spaced_words us))

pub location_parts : (latitude longitude : ℕ) (bytes : List ℕ) → latitude ≡ number_at 4 bytes → longitude ≡ number_at 8 bytes
    → angles_text latitude longitude ++ spaced_words (length_words bytes) ≡ joined_words (location_words bytes)
location_parts latitude longitude bytes p q =
    let a : List (List ℕ) = angle_words Latitude latitude in
    let b : List (List ℕ) = angle_words Longitude longitude in
    ap (λ (l : List ℕ). l ++ spaced_words (length_words bytes)) (sym (joined_append a b (omega arith)))
    ∙ sym (joined_append (a ++ b) (length_words bytes) (omega arith))
    ∙ ap (λ (n : ℕ). joined_words (angle_words Latitude n ++ b ++ length_words bytes)) p
    ∙ ap (λ (n : ℕ). joined_words (angle_words Latitude (number_at 4 bytes) ++ angle_words Longitude n ++ length_words bytes)) q
