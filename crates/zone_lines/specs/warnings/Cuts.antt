-- The delegations of a zone, and what is below them (RFC 1034 section 4.2.1). A zone that is served plainly has none.
use Rattle.std.specs.Prelude.{◌&&◌, ◌||◌, nat_lt, not, Bool, true, false, ℕ, length, List, [], ◌∷◌, drop, is_some, Option, Some, None, ◌≡◌}
use Rattle.dns_names.specs.Compare.{at_or_below, same_labels}
use Rattle.dns_names.specs.Labels.{begins_with_star}
use Rattle.dns_names.specs.Name.{DomainName}
use Rattle.zone_lines.specs.declared.record_line.EntryLine.{EntryLine}
use Rattle.zone_lines.specs.declared.record_line.RecordLine.{RecordLine}
use Rattle.zone_lines.specs.warnings.Names.{server_of}
use Rattle.zone_lines.specs.warnings.Places.{first_place, is_address, is_name_server}
use Rattle.zone_lines.specs.warnings.Survey.{Facts}
use Rattle.zone_lines.specs.declared.warnings.cuts.Cuts.{Cuts}
use Rattle.zone_lines.specs.declared.warnings.places.Trait.TheVariants as property

-- ---- which names are delegated

-- whether a record is an NS record of another owner than the origin
abbrev pub refers : Facts → RecordLine → Bool
refers f r = is_name_server r.rdata && not (same_labels f.origin.labels r.owner.labels)

-- whether an owner is no delegation: it is the origin, or has no NS record
abbrev pub lacks_cut : Facts → List EntryLine → DomainName → Bool
lacks_cut f entries owner =
    same_labels f.origin.labels owner.labels || not (is_some (first_place property.NameServer entries owner))

-- Whether a name is delegated: it is below the origin and has an NS record. What one of a wildcard means is undefined (RFC 4592
-- section 4.2).
abbrev pub is_delegated : Facts → List EntryLine → DomainName → Bool
is_delegated f entries name =
    nat_lt (length f.origin.labels) (length name.labels) && not (begins_with_star name.labels)
    && is_some (first_place property.NameServer entries name)

-- whether the name with these labels, or one above it, is delegated
abbrev pub has_cut_from : Facts → List EntryLine → List (List ℕ) → Bool
has_cut_from f entries [] = false
has_cut_from f entries (label ∷ labels) =
    is_delegated f entries (record { is_fqdn = true; labels = label ∷ labels }) || has_cut_from f entries labels

-- ---- what is below them

-- whether a name is below a delegation
abbrev pub is_below_cut : Facts → List EntryLine → DomainName → Bool
is_below_cut f entries name = not f.is_plain && has_cut_from f entries (drop 1 name.labels)

-- whether a server, if there is one, is at or below a delegation: its address is in another zone
abbrev pub is_server_delegated : Facts → List EntryLine → Option DomainName → Bool
is_server_delegated f entries None = false
is_server_delegated f entries (Some server) =
    not f.is_plain && (is_delegated f entries server || is_below_cut f entries server)

-- what a call knows of the delegations above a record
pub record AreCuts (cuts : Cuts) (f : Facts) (entries : List EntryLine) (r : RecordLine) : Type 0 where
  pub owner : cuts.is_above_owner ≡ is_below_cut f entries r.owner
  pub server : cuts.is_above_server ≡ is_server_delegated f entries (server_of r.rdata)

-- ---- addresses of name servers

-- whether a server, if there is one, is at or below an owner and has no address
abbrev pub lacks_address_below : List EntryLine → DomainName → Option DomainName → Bool
lacks_address_below entries owner None = false
lacks_address_below entries owner (Some server) =
    at_or_below owner.labels server.labels && not (is_some (first_place property.Address entries server))

-- whether a record is one of a delegation, of no wildcard, to a server at or below it that has no address here
abbrev pub lacks_glue : Facts → List EntryLine → RecordLine → Bool
lacks_glue f entries r =
    not f.is_plain && not (begins_with_star r.owner.labels) && refers f r
    && lacks_address_below entries r.owner (server_of r.rdata)

-- whether a record is the address of a name server
abbrev pub is_glue : List EntryLine → RecordLine → Bool
is_glue entries r = is_address r.rdata && is_some (first_place property.Target entries r.owner)
