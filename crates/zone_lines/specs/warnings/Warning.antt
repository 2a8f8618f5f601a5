-- What a zone file says and nobody means (RFC 1034 section 3.6.2, RFC 2181 sections 5 and 10).
use Rattle.std.specs.Prelude.{◌==◌, ◌&&◌, ◌+◌, nat_lt, not, Bool, true, false, ℕ, suc, length, List, [], ◌∷◌, ◌++◌, map, is_some, Option, Some, None}
use Rattle.std.specs.List.{filter}
use Rattle.std.specs.Option.{option_map_or}
use Rattle.dns_names.specs.Compare.{at_or_below, same_labels}
use Rattle.dns_names.specs.Labels.{begins_with_star}
use Rattle.dns_names.specs.Name.{DomainName}
use Rattle.dns_data.specs.declared.rdata.RData.{RData}
use Rattle.dns_data.specs.declared.rdata.RData.TheVariants as of
use Rattle.zone_lines.specs.declared.record_line.EntryLine.{EntryLine}
use Rattle.zone_lines.specs.declared.record_line.EntryLine.TheVariants as entry
use Rattle.zone_lines.specs.Line.{line_at}
use Rattle.zone_lines.specs.declared.record_line.Position.{Position}
use Rattle.zone_lines.specs.declared.record_line.RecordLine.{RecordLine}
use Rattle.zone_lines.specs.warnings.Cuts.{is_below_cut, is_glue, is_server_delegated, lacks_cut, lacks_glue, refers}
use Rattle.zone_lines.specs.warnings.Digest.{wrong_digest}
use Rattle.zone_lines.specs.warnings.Names.{doubled_origin, has_address_name, name_lies_below, server_of}
use Rattle.zone_lines.specs.warnings.Places.{first_place, is_alias}
use Rattle.zone_lines.specs.warnings.Signature.{has_expired, is_signature, is_signer}
use Rattle.zone_lines.specs.warnings.Survey.{Facts, lacks_origin, lacks_server}
use Rattle.zone_lines.specs.warnings.Text.{cuts_word, ends_quoted, is_dmarc, is_spf}
use Rattle.zone_lines.specs.declared.warnings.kind.Warning.{Warning}
use Rattle.zone_lines.specs.declared.warnings.kind.WarningKind.{WarningKind}
use Rattle.zone_lines.specs.declared.warnings.kind.WarningKind.TheVariants as about
use Rattle.zone_lines.specs.declared.warnings.places.Trait.TheVariants as property

-- ---- entries by themselves

-- whether a record is the first of its owner and type
abbrev pub is_first : RecordLine → Bool
is_first r = not r.earlier.exists

-- whether data is an SOA
abbrev pub is_soa : RData → Bool
is_soa (of.SOA soa) = true
is_soa other = false

-- whether a record is an SOA record and the first of its owner
abbrev pub is_start : RecordLine → Bool
is_start r = is_soa r.rdata && is_first r

-- whether the origin is the root
abbrev pub is_root : Facts → Bool
is_root f = f.origin.is_fqdn && length f.origin.labels == 0

-- an owner has one CNAME (RFC 2181 section 10.1), and a zone one SOA (RFC 1035 section 5.2)
abbrev pub is_single : RData → Bool
is_single (of.CNAME cname) = true
is_single (of.SOA soa) = true
is_single other = false

-- whether a record is dropped, since one above has its owner and type, and equal data
abbrev pub is_dropped : RecordLine → Bool
is_dropped r = not (is_single r.rdata) && r.earlier.exists && r.earlier.is_no_more

-- whether data is a text
abbrev pub is_text : RData → Bool
is_text (of.TXT strings) = true
is_text other = false

-- ---- entries among others

-- whether a server, if there is one, is in the zone and has no address
abbrev pub lacks_address_if : Facts → List EntryLine → Option DomainName → Bool
lacks_address_if f entries None = false
lacks_address_if f entries (Some server) =
    at_or_below f.origin.labels server.labels && not (is_some (first_place property.Address entries server))

-- whether data names a server in the zone that has no address (RFC 2181 section 10.3)
abbrev pub lacks_address : Facts → List EntryLine → RData → Bool
lacks_address f entries rdata = lacks_address_if f entries (server_of rdata)

-- whether a place comes after the first one
abbrev pub comes_after : Option ℕ → ℕ → Bool
comes_after first place = option_map_or (λ p. nat_lt p place) first false

-- whether the comment of the line at a place directly follows a word
abbrev pub is_cut : Facts → Position → Bool
is_cut f at = option_map_or cuts_word (line_at f.texts at) false

-- whether the line at a place ends inside a quoted string
abbrev pub leaves_string : Facts → Position → Bool
leaves_string f at = option_map_or ends_quoted (line_at f.texts at) false

-- ---- warnings

-- Whether a kind of warning applies to the record at a place among the entries of a zone. A server with a name that ends in the
-- origin twice, or is an address, is not said to lack an address, nor is one at or below a delegation, whose address is in another zone. The TTL of a
-- signature is that of the set that it covers (RFC 4034 section 3).
abbrev pub applies : WarningKind → Facts → List EntryLine → ℕ → RecordLine → Bool
applies about.RootZone f entries place r = is_start r && is_root f && not f.is_given
applies about.NoOrigin f entries place r = is_start r && not (is_root f) && lacks_origin f entries
applies about.NoServer f entries place r =
    is_start r && same_labels f.origin.labels r.owner.labels && lacks_server f entries
applies about.AliasBesideData f entries place r = is_alias r.rdata && is_some (first_place property.NotBesideAlias entries r.owner)
applies about.SecondRecord f entries place r = is_single r.rdata && r.earlier.exists
applies about.DuplicateRecord f entries place r = is_dropped r
applies about.OtherTtl f entries place r =
    r.earlier.has_other_ttl && not r.earlier.is_no_more && not (is_signature r.rdata)
applies about.HighTtl f entries place r = nat_lt 2147483647 r.ttl
applies about.AddressName f entries place r = has_address_name f.origin r.rdata
applies about.NoAddress f entries place r =
    lacks_address f entries r.rdata && not (has_address_name f.origin r.rdata) && not (name_lies_below (doubled_origin f.origin) r)
    && not (is_server_delegated f entries (server_of r.rdata))
applies about.Wildcard f entries place r = f.is_plain && begins_with_star r.owner.labels && is_first r
applies about.Delegation f entries place r = f.is_plain && refers f r && is_first r
applies about.WildcardCut f entries place r = not f.is_plain && refers f r && begins_with_star r.owner.labels && is_first r
applies about.NoGlue f entries place r = lacks_glue f entries r && not (has_address_name f.origin r.rdata)
applies about.Occluded f entries place r = is_below_cut f entries r.owner && not (is_glue entries r)
applies about.SignerWithoutCut f entries place r = is_signer r.rdata && lacks_cut f entries r.owner
applies about.WrongDigest f entries place r = is_some (wrong_digest r.rdata)
applies about.ExpiredSignature f entries place r = option_map_or (λ now. has_expired now r.rdata) f.now false
applies about.SecondSpf f entries place r =
    is_spf r.rdata && not (is_dropped r) && comes_after (first_place property.Spf entries r.owner) place
applies about.SecondDmarc f entries place r =
    is_dmarc r && not (is_dropped r) && comes_after (first_place property.Dmarc entries r.owner) place
applies about.CutText f entries place r = is_text r.rdata && is_cut f r.at
applies about.OpenString f entries place r = leaves_string f r.at
applies about.MissingDot f entries place r = name_lies_below (doubled_origin f.origin) r

-- the kinds, in the order of a record's warnings
abbrev pub kinds : List WarningKind
kinds =
    about.RootZone ∷ about.NoOrigin ∷ about.NoServer ∷ about.AliasBesideData ∷ about.SecondRecord ∷ about.DuplicateRecord
    ∷ about.OtherTtl ∷ about.HighTtl ∷ about.AddressName ∷ about.NoAddress ∷ about.Wildcard ∷ about.Delegation ∷ about.WildcardCut
    ∷ about.NoGlue ∷ about.Occluded ∷ about.SignerWithoutCut ∷ about.WrongDigest ∷ about.ExpiredSignature ∷ about.SecondSpf ∷ about.SecondDmarc ∷ about.CutText ∷ about.OpenString
    ∷ about.MissingDot ∷ []

-- whether a kind of warning is about the origin of the zone: that the root is, or completed a name
abbrev pub is_about_origin : WarningKind → Bool
is_about_origin about.RootZone = true
is_about_origin about.NoOrigin = true
is_about_origin other = false

-- whether a kind of warning is about the name servers of the zone: that it has none
abbrev pub is_about_servers : WarningKind → Bool
is_about_servers about.NoServer = true
is_about_servers other = false

-- the warning of a kind for the record at a place
abbrev pub warning_of : ℕ → RecordLine → WarningKind → Warning
warning_of place r k = record { at = r.at; kind = k; place = place }

-- the warnings of these kinds that apply to the record at a place
abbrev pub warnings_among : List WarningKind → Facts → List EntryLine → ℕ → RecordLine → List Warning
warnings_among those f entries place r = map (warning_of place r) (filter (λ k. applies k f entries place r) those)

-- the warnings that apply to the record at a place
abbrev pub warnings_at : Facts → List EntryLine → ℕ → RecordLine → List Warning
warnings_at = warnings_among kinds

-- the warnings that apply to an entry at a place
abbrev pub warnings_of_entry : Facts → List EntryLine → ℕ → EntryLine → List Warning
warnings_of_entry f entries place (entry.Record r) = warnings_at f entries place r
warnings_of_entry f entries place (entry.Fault fault) = []

-- the warnings that apply to entries of a zone, from a place on
abbrev pub warnings_from : Facts → List EntryLine → ℕ → List EntryLine → List Warning
warnings_from f entries place [] = []
warnings_from f entries place (e ∷ rest) = warnings_of_entry f entries place e ++ warnings_from f entries (suc place) rest

-- the warnings that apply to the entries of a zone, in the order of the entries
abbrev pub warnings_of : Facts → List EntryLine → List Warning
warnings_of f entries = warnings_from f entries 0 entries
