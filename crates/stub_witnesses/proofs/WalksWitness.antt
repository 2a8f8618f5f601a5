-- Walks over the zone in which w. is an alias of h.: the addresses of w. are those of h., in any spelling, and no other records.
use Rattle.std.proofs.Common.{◌≡◌, arith, ℕ, true, [], ◌∷◌, length, refl, ap}
use Rattle.dns_wire.specs.declared.codes.record_type.RecordType.TheVariants as types
use Rattle.dns_names.specs.Compare.{same_name}
use Rattle.dns_names.specs.Name.{DomainName}
use Rattle.dns_zone.specs.Answer.{record_of}
use Rattle.stub_client.specs.Conclusions.{Conclusion, Finds, Lacks, Refuses, values}
use Rattle.stub_laws.specs.walk.Walk.{Walk}
use Rattle.stub_laws.specs.walk.Walk.Walk.{at_alias, at_rows}
use Rattle.stub_laws.proofs.WalkLaws.{walk-exists, walk-respelled, walk-same}
use Rattle.stub_witnesses.proofs.AliasWitness.{addresses, alias, alias_row, aliases, is_zone, no_addresses, zone}
use Rattle.stub_witnesses.proofs.VersionsWitness.{full, host, row}

abbrev the_address : Conclusion
the_address = Finds (values (record_of host (row 1) ∷ []))

pub alias_walks : Walk zone types.A 7 alias the_address
alias_walks =
    at_alias 6 alias alias_row [] (record { 0 = host }) the_address
    (record { is_there = record { ordinary = refl; inside = refl }; none = no_addresses alias refl }) (aliases alias refl) refl
    (at_rows 6 host (row 1) [] (record { ordinary = refl; inside = refl }) (addresses host refl))

-- ---- walks_are_functions

pub one_conclusion : (conclusion : Conclusion) → Walk zone types.A 7 alias conclusion → the_address ≡ conclusion
one_conclusion conclusion walk = walk-same zone types.A 7 alias the_address conclusion alias_walks walk

pub each_name_walks : (name : DomainName) → (conclusion : Conclusion) × Walk zone types.A 7 name conclusion
each_name_walks name = walk-exists zone types.A is_zone 7 name

-- ---- walks_ignore_spelling

abbrev capital : DomainName
capital = full ((87 ∷ []) ∷ [])

is_same : same_name alias capital ≡ true
is_same = refl

pub capital_walks : Walk zone types.A 7 capital the_address
capital_walks = walk-respelled zone types.A types.A refl capital refl refl alias_walks

abbrev count_of : Conclusion → ℕ
count_of (Finds records) = length records
count_of (Lacks code) = 0
count_of (Refuses code) = 0

-- no walk finds nothing there
pub nothing_is_excluded : Walk zone types.A 7 capital (Finds []) → ⊥
nothing_is_excluded walk =
    let clash : ◌≡◌ {A = ℕ} 1 0 = ap count_of (walk-same zone types.A 7 capital the_address (Finds []) capital_walks walk) in omega (arith, clash)
