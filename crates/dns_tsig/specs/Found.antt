-- The TSIG record of a message (RFC 8945 section 5.1).
use Rattle.std.specs.Prelude.{◌≡◌, ℕ, ◌≤◌, ◌⊎◌, List, length, drop, Option, Some, None}
use Rattle.dns_wire.specs.Reading.{ReadsName, RefusesName}
use Rattle.dns_wire.specs.declared.error.DecodeError.{DecodeError}
use Rattle.dns_tsig.specs.Layout.{layout_of}
use Rattle.dns_tsig.specs.Tsig.{tsig_of}
use Rattle.dns_tsig.specs.WireName.{canonical_name}
use Rattle.dns_tsig.specs.declared.layout.Layout.TheVariants as layouts
use Rattle.dns_tsig.specs.declared.found.Found.{Found}
use Rattle.dns_tsig.specs.declared.found.Found.TheVariants.{Unsigned, Signed, Malformed}
use Rattle.dns_tsig.specs.declared.found.Owner.{Owner}
use Rattle.dns_tsig.specs.declared.found.Signature.{Signature}

-- a name at a place of a message in canonical form, and the place after it
pub record IsOwner (message : List ℕ) (place : ℕ) (name : List ℕ) (end : ℕ) : Type 0 where
  pub labels : List (List ℕ)
  pub reads : ReadsName message place labels end
  pub canonical : name ≡ canonical_name labels

-- no name is at a place of a message
pub record HasNoOwner (message : List ℕ) (place : ℕ) : Type 0 where
  pub fault : DecodeError
  pub refused : RefusesName message place fault

-- what is at a place of a message
abbrev pub FindsOwner : List ℕ → ℕ → Option Owner → Type 0
FindsOwner message place (Some owner) = IsOwner message place owner.name.items owner.end
FindsOwner message place None = HasNoOwner message place

-- The message ends in its only TSIG record.
pub record IsSignature (message : List ℕ) (found : Signature) : Type 0 where
  pub layout : layout_of message ≡ layouts.Signed found.place
  pub after_header : 12 ≤ found.place
  pub within : found.place ≤ length message
  pub end : ℕ
  pub owner : IsOwner message found.place found.name.items end
  pub fields : tsig_of (drop end message) ≡ Some found.tsig

-- The bytes after the name at a place of a message are not the rest of a TSIG record.
pub record HasNoFields (message : List ℕ) (place : ℕ) : Type 0 where
  pub name : List ℕ
  pub end : ℕ
  pub owner : IsOwner message place name end
  pub refused : tsig_of (drop end message) ≡ None

-- The last record is a TSIG record, but it cannot be read.
pub record IsUnreadable (message : List ℕ) : Type 0 where
  pub place : ℕ
  pub layout : layout_of message ≡ layouts.Signed place
  pub fault : HasNoOwner message place ⊎ HasNoFields message place

-- what a message has of TSIG records
abbrev pub Finds : List ℕ → Found → Type 0
Finds message Unsigned = layout_of message ≡ layouts.Unsigned
Finds message (Signed found) = IsSignature message found
Finds message Malformed = (layout_of message ≡ layouts.Malformed) ⊎ IsUnreadable message
