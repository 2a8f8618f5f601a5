-- Updates that a server completes, computed.
use Rattle.std.proofs.Common.{◌≡◌, ℕ, true, false, List, [], ◌∷◌, ◌++◌, Some, None, refl, map}
use Rattle.dns_wire.specs.declared.codes.dns_class.DNSClass.TheVariants.{ANY, IN}
use Rattle.dns_wire.specs.declared.codes.record_type.RecordType.TheVariants as types
use Rattle.dns_data.specs.declared.rdata.RData.TheVariants as of
use Rattle.dns_names.specs.Name.{DomainName}
use Rattle.dns_records.specs.Record.{Record}
use Rattle.dns_records.specs.Rows.{Rows, set_of}
use Rattle.dns_records.specs.declared.row.Row.{Row}
use Rattle.dns_server.specs.SetTtls.{is_addition, last_ttl, restated, restated_rows, with_set_ttl}

-- a name of one label of one letter
abbrev named : ℕ → DomainName
named letter = record { is_fqdn = true; labels = (letter ∷ []) ∷ [] }

abbrev added : ℕ → ℕ → ℕ → Record
added letter ttl text = record { name = named letter; dns_class = IN; ttl = ttl; rdata = of.TXT ((text ∷ []) ∷ []) }

-- the deletion of the TXT records of "a", additions to those of "a" with 60 seconds, of "b" with 10, and of "A" with 300
abbrev updates : List Record
updates =
    record { name = named 97; dns_class = ANY; ttl = 0; rdata = of.Update0 types.TXT }
    ∷ added 97 60 120 ∷ added 98 10 120 ∷ added 65 300 121 ∷ []

set_ttls : map (λ r. (with_set_ttl updates r).ttl) updates ≡ 0 ∷ 300 ∷ 10 ∷ 300 ∷ []
set_ttls = refl

last_ttls : map (last_ttl updates) (added 97 0 0 ∷ added 98 0 0 ∷ added 99 0 0 ∷ []) ≡ Some 300 ∷ Some 10 ∷ None ∷ []
last_ttls = refl

-- an SOA record is alone in its set, and an RRSIG record has the TTL of another set
other_sets : map (λ t. is_addition (record { name = named 97; dns_class = IN; ttl = 1; rdata = of.Update0 t })) (types.SOA ∷ types.CNAME ∷ types.RRSIG ∷ types.A ∷ []) ≡ false ∷ false ∷ false ∷ true ∷ []
other_sets = refl

abbrev row : ℕ → ℕ → Row
row ttl text = record { ttl = ttl; rdata = of.TXT ((text ∷ []) ∷ []) }

-- of the two records that a zone has at "a", the one with 60 seconds is added again with the TTL of the last addition, and once
restated_there : (rows : Rows) → set_of rows (added 98 10 120) ≡ [] → set_of rows (added 65 300 121) ≡ row 60 122 ∷ row 300 121 ∷ [] → restated rows updates ≡ added 65 300 122 ∷ []
restated_there rows e f = λ i. ((restated_rows (added 65 300 121) (f i) ++ restated_rows (added 98 10 120) (e i)) ++ []) ++ []
