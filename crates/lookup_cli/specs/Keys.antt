-- The key that signs updates.
use Rattle.std.specs.Prelude.{◌≡◌, ℕ, List, map, Option, Some, None, string_bytes}
use Rattle.dns_keys.specs.File.{IsKeyFile, IsRefused, key_value}
use Rattle.dns_tsig.specs.signer.KeyChoice.{chosen}
use Rattle.dns_tsig.specs.declared.key.Key.{Key}
use Rattle.lookup_cli.specs.declared.ending.Ending.{Ending}
use Rattle.lookup_cli.specs.declared.ending.Ending.TheVariants.{InvalidKeys, NoKey, Memory}

-- a key is the first one of a key file with the name of these labels, or the first of all
pub record IsKeyIn (text : List ℕ) (labels : Option (List (List ℕ))) (key : Key) : Type 0 where
  pub keys : List Key
  pub file : IsKeyFile text (map key_value keys)
  pub chosen_is : chosen keys labels ≡ Some key

-- why a text gives no key, with its path: its first fault, or that it has no such key; there may be no memory
abbrev pub IsRefusal : List ℕ → List ℕ → Option (List (List ℕ)) → Ending → Type 0
IsRefusal path text labels (InvalidKeys said fault) = (string_bytes said ≡ path) × IsRefused text fault
IsRefusal path text labels (NoKey said) =
    (string_bytes said ≡ path) × ((keys : List Key) × IsKeyFile text (map key_value keys) × (chosen keys labels ≡ None))
IsRefusal path text labels ending = ending ≡ Memory
