-- A plain zone: its origin has an NS record and an SOA record, `a.` is an alias of `c.`, and `c.` has two TXT records. An authority answers
-- a question at `a.` and one for a name that does not exist as the zone does. From a zone with a wildcard, which is not plain, it answers a
-- question that the zone denies.
use Rattle.std.proofs.Common.{◌≡◌, ◌∙◌, ◌==◌, ◌&&◌, ℕ, Bool, true, false, cond, not, Ordering, Less, Equal, Greater, List, [], ◌∷◌, length, map, refl, sym, ap, Option, Some, None, unwrap_or}
use Rattle.std.specs.Cmp.Lexicographic.{slice_cmp}
use Rattle.std.specs.FinMap as rows_map
use Rattle.std.specs.List.{list_any}
use Rattle.std.specs.Ordering.{is_eq, nat_cmp, ordering_then}
use Rattle.std.specs.Prelude.{nat_lt}
use Rattle.std.specs.Str.{str_to_ascii_lowercase}
use Rattle.dns_wire.specs.declared.codes.dns_class.DNSClass.TheVariants.{IN}
use Rattle.dns_wire.specs.declared.codes.record_type.RecordType.{RecordType}
use Rattle.dns_wire.specs.declared.codes.record_type.RecordType.TheVariants as types
use Rattle.dns_names.specs.Build.{star}
use Rattle.dns_names.specs.Compare.{at_or_below, lower}
use Rattle.dns_names.specs.Labels.{begins_with_star}
use Rattle.dns_names.specs.Name.{DomainName}
use Rattle.dns_data.specs.declared.rdata.RData.{RData}
use Rattle.dns_data.specs.declared.rdata.RData.TheVariants as of
use Rattle.dns_messages.specs.declared.query.Query.{Query}
use Rattle.dns_messages.specs.declared.response_code.ResponseCode.TheVariants.{NoError, NXDomain}
use Rattle.dns_records.specs.Rows.{Key, key, key_cmp}
use Rattle.dns_records.specs.declared.row.Row.{Row}
use Rattle.dns_zone.specs.Answer.{after_records, answer, answer_at, answer_by, authority_row, next_owner, record_of, rest_at}
use Rattle.dns_zone.specs.Rows.{ZoneContent, rows_at, some_row_below}
use Rattle.dns_zone.specs.declared.zone.answer.Answer.{Answer}
use Rattle.dns_authority.specs.declared.answer.AuthorityAnswer.{AuthorityAnswer}
use Rattle.dns_authority.specs.declared.asked.AnyAnswer.{AnyAnswer}
use Rattle.dns_authority.specs.declared.asked.AnyAnswer.TheVariants.{AllSets}
use Rattle.dns_authority.specs.Answer.{authority_answer}
use Rattle.dns_authority.specs.Plain.{IsPlain, zone_answer}
use Rattle.dns_authority.proofs.OriginWitness.{wildcard_answers}
use Rattle.dns_authority.proofs.PlainLaws.{plain_zones}

-- ---- the zone

abbrev name : List (List ℕ) → DomainName
name labels = record { is_fqdn = true; labels = labels }

abbrev row : RData → Row
row rdata = record { ttl = 60; rdata = rdata }

abbrev server : Row
server = row (of.NS (record { 0 = name ((110 ∷ []) ∷ []) }))

abbrev start : Row
start = row (of.SOA (record { mname = name []; rname = name []; serial = 5; refresh = 4; retry = 3; expire = 2; minimum = 1 }))

-- the name `c.`, and the alias of it
abbrev host : DomainName
host = name ((99 ∷ []) ∷ [])

abbrev alias : Row
alias = row (of.CNAME (record { 0 = host }))

abbrev note : ℕ → Row
note letter = row (of.TXT ((letter ∷ []) ∷ []))

abbrev notes : List Row
notes = note 1 ∷ note 2 ∷ []

abbrev stored_rows : List (Key × List Row)
stored_rows =
    (([], 2), server ∷ []) ∷ (([], 6), start ∷ []) ∷ (((97 ∷ []) ∷ [], 5), alias ∷ []) ∷ (((99 ∷ []) ∷ [], 16), notes) ∷ []

abbrev zone : ZoneContent
zone = record { origin = name []; rows = rows_map.from_sorted stored_rows }

entries_are : rows_map.entries zone.rows ≡ stored_rows
entries_are = rows_map.entries-from_sorted key_cmp stored_rows tt

-- the rows of a type at a name
stored_at : (labels : List (List ℕ)) (t : RecordType) → rows_at zone.rows labels t ≡ unwrap_or (rows_map.find key_cmp (key labels t) stored_rows) []
stored_at labels t = ap (λ (o : Option (List Row)). unwrap_or o []) (rows_map.get-from_sorted key_cmp stored_rows (key labels t) tt)

-- whether a name has a row at or below it
below : (labels : List (List ℕ)) → some_row_below zone.rows labels ≡ list_any (λ k. at_or_below labels k.0) (map (λ (e : Key × List Row). e.0) stored_rows)
below labels = ap (λ (l : List (Key × List Row)). list_any (λ k. at_or_below labels k.0) (map (λ (e : Key × List Row). e.0) l)) entries_are

-- ---- it is plain

abbrev order : List (List ℕ) → List (List ℕ) → Ordering
order = slice_cmp (slice_cmp nat_cmp)

-- keys of different types differ
apart : (o p : Ordering) → is_eq p ≡ false → is_eq (ordering_then o p) ≡ false
apart Less p e = refl
apart Equal p e = e
apart Greater p e = refl

no_alias : (labels : List (List ℕ)) → rows_map.find key_cmp (labels, 39) stored_rows ≡ None
no_alias labels =
    λ i. cond (apart (order labels []) Greater refl i) (Some (server ∷ []))
    (cond (apart (order labels []) Greater refl i) (Some (start ∷ []))
    (cond (apart (order labels ((97 ∷ []) ∷ [])) Greater refl i) (Some (alias ∷ []))
    (cond (apart (order labels ((99 ∷ []) ∷ [])) Greater refl i) (Some notes) None)))

-- the NS record is at the origin alone
no_servers : (label : List ℕ) (labels : List (List ℕ)) → rows_map.find key_cmp (label ∷ labels, 2) stored_rows ≡ None
no_servers label labels =
    λ i. cond (apart (order (label ∷ labels) ((97 ∷ []) ∷ [])) Less refl i) (Some (alias ∷ []))
    (cond (apart (order (label ∷ labels) ((99 ∷ []) ∷ [])) Less refl i) (Some notes) None)

and_and_false : (a b : Bool) → (a && (b && false)) ≡ false
and_and_false true true = refl
and_and_false true false = refl
and_and_false false b = refl

cut_by : (labels : List (List ℕ)) → (nat_lt 0 (length labels) && (not (begins_with_star labels) && not (length (rows_at zone.rows labels types.NS) == 0))) ≡ false
cut_by [] = refl
cut_by (label ∷ labels) =
    ap (λ (l : List Row). nat_lt 0 (length (label ∷ labels)) && (not (begins_with_star (label ∷ labels)) && not (length l == 0)))
    (stored_at (label ∷ labels) types.NS ∙ ap (λ (o : Option (List Row)). unwrap_or o []) (no_servers (str_to_ascii_lowercase label) (lower labels)))
    ∙ and_and_false (nat_lt 0 (length (label ∷ labels))) (not (begins_with_star (label ∷ labels)))

pub is_plain : IsPlain zone
is_plain = record {
  no_wildcard = λ labels. below (star ∷ labels);
  no_cut = λ owner. cut_by owner.labels;
  no_dname = λ owner. ap (λ (l : List Row). not (length l == 0)) (stored_at owner.labels types.DNAME ∙ ap (λ (o : Option (List Row)). unwrap_or o []) (no_alias (lower owner.labels)));
}

-- ---- a question at the alias

abbrev question : DomainName → Query
question owner = record { name = owner; query_type = types.TXT; query_class = IN }

abbrev asked : DomainName
asked = name ((97 ∷ []) ∷ [])

-- the alias, and both TXT records of `c.`
abbrev found : Answer
found = record {
  code = NoError;
  answers = record_of asked alias ∷ record_of host (note 1) ∷ record_of host (note 2) ∷ [];
  authorities = [];
}

own_answer : answer zone (question asked) ≡ found
unfolding answer_at
own_answer =
    (λ i. answer_by zone asked (stored_at asked.labels types.TXT i) (stored_at asked.labels types.CNAME i)
    (λ link. after_records (record_of asked link ∷ []) (rest_at (answer_at 6 zone types.TXT) (next_owner (name []) link.rdata))))
    ∙ (λ i. after_records (record_of asked alias ∷ [])
    (answer_by zone host (stored_at host.labels types.TXT i) (stored_at host.labels types.CNAME i)
    (λ link. after_records (record_of host link ∷ []) (rest_at (answer_at 5 zone types.TXT) (next_owner (name []) link.rdata)))))

-- the authority's answer is the zone's own
pub alias_is_answered : (any : AnyAnswer) → zone_answer (authority_answer any (zone ∷ []) (question asked)) ≡ found
alias_is_answered any = plain_zones any zone (question asked) is_plain refl ∙ own_answer

-- ---- a question for a name that does not exist

abbrev missing : DomainName
missing = name ((120 ∷ []) ∷ [])

-- the SOA record, with the TTL of a negative answer
abbrev denied : Answer
denied = record { code = NXDomain; answers = []; authorities = record_of (name []) (authority_row start) ∷ [] }

own_denial : answer zone (question missing) ≡ denied
unfolding answer_at
own_denial =
    (λ i. answer_by zone missing (stored_at missing.labels types.TXT i) (stored_at missing.labels types.CNAME i)
    (λ link. after_records (record_of missing link ∷ []) (rest_at (answer_at 6 zone types.TXT) (next_owner (name []) link.rdata))))
    ∙ (λ i. record {
      code = cond (below missing.labels i) NoError NXDomain;
      answers = [];
      authorities = map (λ (r : Row). record_of (name []) (authority_row r)) (stored_at [] types.SOA i);
    })

pub missing_is_denied : (any : AnyAnswer) → zone_answer (authority_answer any (zone ∷ []) (question missing)) ≡ denied
missing_is_denied any = plain_zones any zone (question missing) is_plain refl ∙ own_denial

-- ---- a zone that is not plain

abbrev wild_rows : List (Key × List Row)
wild_rows = (([], 6), start ∷ []) ∷ ((star ∷ [], 16), note 1 ∷ []) ∷ (((99 ∷ []) ∷ [], 16), note 2 ∷ []) ∷ []

abbrev wild : ZoneContent
wild = record { origin = name []; rows = rows_map.from_sorted wild_rows }

wild_at : (labels : List (List ℕ)) (t : RecordType) → rows_at wild.rows labels t ≡ unwrap_or (rows_map.find key_cmp (key labels t) wild_rows) []
wild_at labels t = ap (λ (o : Option (List Row)). unwrap_or o []) (rows_map.get-from_sorted key_cmp wild_rows (key labels t) tt)

wild_entries : rows_map.entries wild.rows ≡ wild_rows
wild_entries = rows_map.entries-from_sorted key_cmp wild_rows tt

wild_denial : (answer wild (question missing)).code ≡ NXDomain
unfolding answer_at
wild_denial =
    (λ i. (answer_by wild missing (wild_at missing.labels types.TXT i) (wild_at missing.labels types.CNAME i)
    (λ link. after_records (record_of missing link ∷ []) (rest_at (answer_at 6 wild types.TXT) (next_owner (name []) link.rdata)))).code)
    ∙ (λ i. cond (list_any (λ k. at_or_below missing.labels k.0) (map (λ (e : Key × List Row). e.0) (wild_entries i))) NoError NXDomain)

-- the authority answers with the wildcard's row, and the zone does not
pub wild_differs : (any : AnyAnswer) → zone_answer (authority_answer any (wild ∷ []) (question missing)) ≡ answer wild (question missing) → ⊥
wild_differs any same =
    let never : NoError ≡ NXDomain = sym (ap (λ (a : AuthorityAnswer). a.code) (wildcard_answers any)) ∙ ap (λ (a : Answer). a.code) same ∙ wild_denial in
    absurd (cc)

pub wild_is_not_plain : IsPlain wild → ⊥
wild_is_not_plain plain = wild_differs AllSets (plain_zones AllSets wild (question missing) plain refl)
