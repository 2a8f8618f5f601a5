-- The keys of a text.
use Rattle.std.proofs.Common.{◌≡◌, ◌++◌, ◌∷◌, [], List, ℕ, Result, Ok, Err, Option, Some, None, refl, sym, ap, subst, ◌∙◌, map, append_assoc, append-nil}
use Rattle.std.proofs.lemmas.List.{map-append}
use Rattle.dns_tsig.specs.declared.key.Key.{Key}
use Rattle.dns_keys.specs.File.{FaultFrom, KeysFrom, KeyValue, NextValue, key_value, next_in, next_value}
use Rattle.dns_keys.specs.File.FaultFrom.{here, later}
use Rattle.dns_keys.specs.File.KeysFrom.{at_end, at_key}
use Rattle.dns_keys.specs.declared.file.NextKey.{NextKey}
use Rattle.dns_keys.specs.declared.error.KeyFileError.{KeyFileError}

one_next : (a b : NextValue) (r : Result (Option NextValue) KeyFileError) → r ≡ Ok (Some a) → r ≡ Ok (Some b) → b ≡ a
one_next a b r e f = cc

no_end : (a : NextValue) (r : Result (Option NextValue) KeyFileError) → r ≡ Ok (Some a) → r ≡ Ok None → ⊥
no_end a r e f = cc

no_fault_at_key : (a : NextValue) (error : KeyFileError) (r : Result (Option NextValue) KeyFileError) → r ≡ Ok (Some a) → r ≡ Err error → ⊥
no_fault_at_key a error r e f = cc

no_fault_at_end : (error : KeyFileError) (r : Result (Option NextValue) KeyFileError) → r ≡ Ok None → r ≡ Err error → ⊥
no_fault_at_end error r e f = cc

-- a text has one list of keys at most
pub one_list : (whole text : List ℕ) (keys others : List KeyValue) → KeysFrom whole text keys → KeysFrom whole text others → keys ≡ others
one_list whole text keys others (at_end e) (at_end f) = refl
one_list whole text keys others (at_end e) (at_key f rest_is) = absurd (no_end _ (next_in whole text) f e)
one_list whole text keys others (at_key e more_is) (at_end f) = absurd (no_end _ (next_in whole text) e f)
one_list whole text keys others (at_key {next = a} {keys = more} e more_is) (at_key {next = b} {keys = rest} f rest_is) =
    let same : b ≡ a = one_next a b (next_in whole text) e f in
    let again : KeysFrom whole a.rest rest = subst (λ (n : NextValue). KeysFrom whole n.rest rest) same rest_is in
    let tail : more ≡ rest = one_list whole a.rest more rest more_is again in
    ap (λ (ks : List KeyValue). a.key ∷ ks) tail ∙ ap (λ (n : NextValue). n.key ∷ rest) (sym same)

-- a text that has a list of keys has no fault
pub no_fault : (whole text : List ℕ) (keys : List KeyValue) (error : KeyFileError) → KeysFrom whole text keys → FaultFrom whole text error → ⊥
no_fault whole text keys error (at_end e) (here f) = no_fault_at_end error (next_in whole text) e f
no_fault whole text keys error (at_end e) (later f rest_is) = no_end _ (next_in whole text) f e
no_fault whole text keys error (at_key {next = a} e more_is) (here f) = no_fault_at_key a error (next_in whole text) e f
no_fault whole text keys error (at_key {next = a} {keys = more} e more_is) (later {next = b} f rest_is) =
    let same : b ≡ a = one_next a b (next_in whole text) e f in
    no_fault whole a.rest more error more_is (subst (λ (n : NextValue). FaultFrom whole n.rest error) same rest_is)

-- ---- the loop over the keys

-- further keys complete those that were found
abbrev pub Completes : List ℕ → List ℕ → List Key → Type 0
Completes whole rest keys = (more : List KeyValue) → KeysFrom whole rest more → KeysFrom whole whole (map key_value keys ++ more)

-- a further key, and the keys after it
pub completes-more : (whole rest : List ℕ) (next : NextKey) (old new : List Key) → next_in whole rest ≡ Ok (Some (next_value next)) → new ≡ old ++ next.key ∷ []
    → Completes whole rest old → Completes whole next.rest.now new
completes-more whole rest next old new is pushed completes more more_is =
    let all : KeysFrom whole whole (map key_value old ++ (key_value next.key ∷ more)) = completes (key_value next.key ∷ more) (at_key {next = next_value next} is more_is) in
    let here : map key_value new ++ more ≡ map key_value old ++ (key_value next.key ∷ more) =
    ap (λ (ks : List Key). map key_value ks ++ more) pushed
    ∙ ap (λ (ks : List KeyValue). ks ++ more) (map-append key_value old (next.key ∷ []))
    ∙ append_assoc (map key_value old) (key_value next.key ∷ []) more in
    subst (λ (ks : List KeyValue). KeysFrom whole whole ks) (sym here) all

-- the end of the text
pub completes-end : (whole rest : List ℕ) (keys : List Key) → next_in whole rest ≡ Ok None → Completes whole rest keys → KeysFrom whole whole (map key_value keys)
completes-end whole rest keys is completes =
    subst (λ (ks : List KeyValue). KeysFrom whole whole ks) (append-nil (map key_value keys)) (completes [] (at_end is))
