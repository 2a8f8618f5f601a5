-- Removing the records of DNSSEC from messages.
use Rattle.std.proofs.Common.{◌≡◌, ◌∙◌, refl, ap, arith, Bool, true, false, List, [], ◌∷◌}
use Rattle.std.specs.List.{filter}
use Rattle.dns_wire.specs.declared.codes.record_type.RecordType.{RecordType}
use Rattle.dns_records.specs.Record.{Record}
use Rattle.dns_messages.specs.declared.query.Query.{Query}
use Rattle.dns_messages.specs.declared.message.Message.{Message}
use Rattle.dns_messages.specs.Message.{is_without_dnssec, strip_sections, strip_for, stripped}

filter-twice : {X : Type 0} (test : X → Bool) (xs : List X) → filter test (filter test xs) ≡ filter test xs
filter-twice test [] = refl
filter-twice test (x ∷ xs) = grind (arith, filter-twice test xs)

abbrev with_sections : Message → List Record → List Record → List Record → Message
with_sections m answers authorities additionals = record m { answers = answers; authorities = authorities; additionals = additionals }

sections_twice : (kind : RecordType) (m : Message) → strip_sections kind (strip_sections kind m) ≡ strip_sections kind m
sections_twice kind m =
    let strip : List Record → List Record = filter (is_without_dnssec kind) in
    ap (λ (rs : List Record). with_sections m rs (strip (strip m.authorities)) (strip (strip m.additionals))) (filter-twice (is_without_dnssec kind) m.answers)
    ∙ ap (λ (rs : List Record). with_sections m (strip m.answers) rs (strip (strip m.additionals))) (filter-twice (is_without_dnssec kind) m.authorities)
    ∙ ap (λ (rs : List Record). with_sections m (strip m.answers) (strip m.authorities) rs) (filter-twice (is_without_dnssec kind) m.additionals)

for_twice : (qs : List Query) (m : Message) → m.queries ≡ qs → strip_for (strip_for qs m).queries (strip_for qs m) ≡ strip_for qs m
for_twice [] m e = ap (λ (qs : List Query). strip_for qs m) e
for_twice (q ∷ qs) m e = ap (λ (qs : List Query). strip_for qs (strip_sections q.query_type m)) e ∙ sections_twice q.query_type m

pub stripped-twice : (dnssec_ok : Bool) (m : Message) → stripped dnssec_ok (stripped dnssec_ok m) ≡ stripped dnssec_ok m
stripped-twice true m = refl
stripped-twice false m = for_twice m.queries m refl

pub stripped-unasked : (dnssec_ok : Bool) (m : Message) → m.queries ≡ [] → stripped dnssec_ok m ≡ m
stripped-unasked true m e = refl
stripped-unasked false m e = ap (λ (qs : List Query). strip_for qs m) e
