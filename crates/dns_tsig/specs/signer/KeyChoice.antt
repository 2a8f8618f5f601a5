-- A key of several.
use Rattle.std.specs.Prelude.{ℕ, List, Option, Some, None, slice_get}
use Rattle.std.specs.Str.{bytes_eq}
use Rattle.std.specs.List.{find}
use Rattle.dns_tsig.specs.WireName.{canonical_name}
use Rattle.dns_tsig.specs.declared.key.Key.{Key}

-- the first key with a name in canonical form (RFC 8945 section 5.2.1)
abbrev pub first_named : List Key → List ℕ → Option Key
first_named keys name = find (λ key. bytes_eq key.name.items name) keys

-- the first key with the name of these labels, or the first of all
abbrev pub chosen : List Key → Option (List (List ℕ)) → Option Key
chosen keys None = slice_get keys 0
chosen keys (Some labels) = first_named keys (canonical_name labels)
