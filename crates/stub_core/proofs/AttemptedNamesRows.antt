-- The definition of attempted names, computed.
use Rattle.std.specs.Prelude.{◌≡◌, true, false, List, [], ◌∷◌, ℕ, codes, replicate, Some, None}
use Rattle.std.proofs.Common.{refl}
use Rattle.dns_names.specs.Name.{DomainName}
use Rattle.stub_core.specs.AttemptedNames.{attempted_names}

abbrev relative : List (List ℕ) → DomainName
relative labels = record { is_fqdn = false; labels = labels }

abbrev full : List (List ℕ) → DomainName
full labels = record { is_fqdn = true; labels = labels }

-- `a.b` with one dot and the root in the search list is attempted twice
twice : attempted_names 1 None (full [] ∷ []) (relative (codes "a" ∷ codes "b" ∷ []))
    ≡ full (codes "a" ∷ codes "b" ∷ []) ∷ full (codes "a" ∷ codes "b" ∷ []) ∷ []
twice = refl

-- `a` has few labels, so it comes last
last : attempted_names 1 None (full (codes "t" ∷ []) ∷ []) (relative (codes "a" ∷ []))
    ≡ full (codes "a" ∷ codes "t" ∷ []) ∷ full (codes "a" ∷ []) ∷ []
last = refl

-- where it comes last, the root adds nothing
root_adds_nothing : attempted_names 1 None (full [] ∷ []) (relative (codes "a" ∷ [])) ≡ full (codes "a" ∷ []) ∷ []
root_adds_nothing = refl

-- the domain comes before the search list, and of equal names the last is attempted
distinct : attempted_names 1 (Some (full (codes "t" ∷ []))) (full (codes "u" ∷ []) ∷ relative (codes "T" ∷ []) ∷ []) (relative (codes "a" ∷ []))
    ≡ full (codes "a" ∷ codes "u" ∷ []) ∷ full (codes "a" ∷ codes "T" ∷ []) ∷ full (codes "a" ∷ []) ∷ []
distinct = refl

-- a leading `*` is not counted
wildcard : attempted_names 1 (Some (full (codes "t" ∷ []))) [] (relative (codes "*" ∷ codes "b" ∷ []))
    ≡ full (codes "*" ∷ codes "b" ∷ codes "t" ∷ []) ∷ full (codes "*" ∷ codes "b" ∷ []) ∷ []
wildcard = refl

-- `LOCALHOST` comes first, whatever its labels
localhost : attempted_names 5 (Some (full (codes "t" ∷ []))) [] (relative (codes "LOCALHOST" ∷ []))
    ≡ full (codes "LOCALHOST" ∷ []) ∷ full (codes "LOCALHOST" ∷ codes "t" ∷ []) ∷ []
localhost = refl

-- a fully qualified name is attempted alone
complete : attempted_names 5 (Some (full (codes "t" ∷ []))) (full [] ∷ []) (full (codes "a" ∷ [])) ≡ full (codes "a" ∷ []) ∷ []
complete = refl

-- so is a name at or below an onion service of version 3, but no other below `onion`
onion : attempted_names 1 (Some (full (codes "t" ∷ []))) [] (relative (codes "w" ∷ replicate 56 97 ∷ codes "Onion" ∷ []))
    ≡ full (codes "w" ∷ replicate 56 97 ∷ codes "Onion" ∷ []) ∷ []
onion = refl

no_onion : attempted_names 5 (Some (full (codes "t" ∷ []))) [] (relative (replicate 55 97 ∷ codes "onion" ∷ []))
    ≡ full (replicate 55 97 ∷ codes "onion" ∷ codes "t" ∷ []) ∷ full (replicate 55 97 ∷ codes "onion" ∷ []) ∷ []
no_onion = refl

-- a joined name may have 255 bytes, and one of 256 is left out
longest : attempted_names 1 None (full (replicate 63 98 ∷ replicate 63 98 ∷ replicate 61 98 ∷ []) ∷ []) (relative (replicate 63 97 ∷ []))
    ≡ full (replicate 63 97 ∷ replicate 63 98 ∷ replicate 63 98 ∷ replicate 61 98 ∷ []) ∷ full (replicate 63 97 ∷ []) ∷ []
longest = refl

too_long : attempted_names 1 None (full (replicate 63 98 ∷ replicate 63 98 ∷ replicate 62 98 ∷ []) ∷ []) (relative (replicate 63 97 ∷ []))
    ≡ full (replicate 63 97 ∷ []) ∷ []
too_long = refl
