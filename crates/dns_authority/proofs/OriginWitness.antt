-- A zone with a TXT record at the wildcard `*.` and one at `c.`, and two questions: one that the wildcard answers, and one for a name
-- that does not exist. A record that the zone does not have is in no answer.
use Rattle.std.proofs.Common.{◌≡◌, ◌∙◌, ◌<◌, ◌&&◌, ◌||◌, ◌==◌, arith, ℕ, zero, suc, Bool, true, false, cond, not, List, [], ◌∷◌, length, map, refl, sym, ap, subst, Option, Some, None, unwrap_or}
use Rattle.std.specs.FinMap as rows_map
use Rattle.std.specs.List.{list_any, Contains}
use Rattle.std.specs.Option.{option_or}
use Rattle.std.specs.Prelude.{nat_lt, option_map}
use Rattle.dns_wire.specs.declared.codes.dns_class.DNSClass.TheVariants.{IN}
use Rattle.dns_wire.specs.declared.codes.record_type.RecordType.{RecordType}
use Rattle.dns_wire.specs.declared.codes.record_type.RecordType.TheVariants as types
use Rattle.dns_names.specs.Build.{star}
use Rattle.dns_names.specs.Compare.{at_or_below}
use Rattle.dns_names.specs.Labels.{begins_with_star}
use Rattle.dns_names.specs.Name.{DomainName}
use Rattle.dns_data.specs.declared.rdata.RData.{RData}
use Rattle.dns_data.specs.declared.rdata.RData.TheVariants as of
use Rattle.dns_messages.specs.declared.query.Query.{Query}
use Rattle.dns_messages.specs.declared.response_code.ResponseCode.TheVariants.{NoError, NXDomain}
use Rattle.dns_records.specs.Record.{Record}
use Rattle.dns_records.specs.Rows.{Key, key}
use Rattle.dns_records.specs.declared.row.Row.{Row}
use Rattle.dns_server.specs.Zones.{closest}
use Rattle.dns_zone.specs.Answer.{max_aliases, record_of}
use Rattle.dns_zone.specs.Rows.{ZoneContent, key_cmp, rows_at, some_row_below}
use Rattle.dns_authority.specs.declared.answer.AuthorityAnswer.{AuthorityAnswer}
use Rattle.dns_authority.specs.declared.asked.AnyAnswer.{AnyAnswer}
use Rattle.dns_authority.specs.declared.asked.Asked.{Asked}
use Rattle.dns_authority.specs.declared.step.Step.{Step}
use Rattle.dns_authority.specs.declared.step.Step.TheVariants.{End}
use Rattle.dns_authority.specs.Additional.{with_additionals}
use Rattle.dns_authority.specs.Answer.{after_records, after_step, answer_at, authority_answer, rest_at}
use Rattle.dns_authority.specs.Existence.{LeadsNowhere}
use Rattle.dns_authority.specs.Existence.Leads.{here}
use Rattle.dns_authority.specs.Origin.{AnswersType, ComesFrom, IsAnswerRecord}
use Rattle.dns_authority.specs.Origin.AnswersType.{same_type, alias_type, any_type}
use Rattle.dns_authority.specs.Origin.IsAnswerRecord.{stored, redirects, redirected}
use Rattle.dns_authority.specs.Step.{positive, step, step_at, step_by, step_with, zone_at}
use Rattle.dns_authority.specs.steps.Barrier.{barrier, has_rows, is_barrier, is_cut}
use Rattle.dns_authority.specs.steps.Wildcard.{answering_name, if_exists, wildcard_below}
use Rattle.dns_authority.proofs.ExistenceLaws.{nowhere_fails}
use Rattle.dns_authority.proofs.OriginLaws.{records_come}

-- ---- the zone

abbrev name : List (List ℕ) → DomainName
name labels = record { is_fqdn = true; labels = labels }

abbrev start : Row
start = record {
  ttl = 60;
  rdata = of.SOA (record { mname = name []; rname = name []; serial = 5; refresh = 4; retry = 3; expire = 2; minimum = 1 });
}

abbrev note : ℕ → Row
note letter = record { ttl = 60; rdata = of.TXT ((letter ∷ []) ∷ []) }

abbrev stored_rows : List (Key × List Row)
stored_rows = (([], 6), start ∷ []) ∷ ((star ∷ [], 16), note 1 ∷ []) ∷ (((99 ∷ []) ∷ [], 16), note 2 ∷ []) ∷ []

abbrev zone : ZoneContent
zone = record { origin = name []; rows = rows_map.from_sorted stored_rows }

entries_are : rows_map.entries zone.rows ≡ stored_rows
entries_are = rows_map.entries-from_sorted key_cmp stored_rows tt

got : (k : Key) → rows_map.get zone.rows k ≡ rows_map.find key_cmp k stored_rows
got k = rows_map.get-from_sorted key_cmp stored_rows k tt

-- the rows of a type at a name
stored_at : (labels : List (List ℕ)) (t : RecordType) → rows_at zone.rows labels t ≡ unwrap_or (rows_map.find key_cmp (key labels t) stored_rows) []
stored_at labels t = ap (λ (o : Option (List Row)). unwrap_or o []) (got (key labels t))

-- ---- a name that the wildcard answers

abbrev host : DomainName
host = name ((120 ∷ []) ∷ [])

abbrev wildcard : DomainName
wildcard = wildcard_below []

abbrev asked : AnyAnswer → Asked
asked any = record { record_type = types.TXT; any = any }

abbrev zones : List ZoneContent
zones = zone ∷ []

abbrev question : DomainName → Query
question owner = record { name = owner; query_type = types.TXT; query_class = IN }

and_and_false : (a b : Bool) → (a && (b && false)) ≡ false
and_and_false true true = refl
and_and_false true false = refl
and_and_false false b = refl

-- a name without NS rows is no zone cut
no_cut : (labels : List (List ℕ)) → unwrap_or (rows_map.find key_cmp (key labels types.NS) stored_rows) [] ≡ [] → is_cut zone (name labels) ≡ false
no_cut labels none =
    ap (λ (l : List Row). nat_lt 0 (length labels) && (not (begins_with_star labels) && not (length l == 0))) (stored_at labels types.NS ∙ none)
    ∙ and_and_false (nat_lt 0 (length labels)) (not (begins_with_star labels))

no_barrier : (labels : List (List ℕ)) → unwrap_or (rows_map.find key_cmp (key labels types.NS) stored_rows) [] ≡ []
    → unwrap_or (rows_map.find key_cmp (key labels types.DNAME) stored_rows) [] ≡ [] → is_barrier zone (name labels) ≡ false
no_barrier labels no_servers no_alias =
    let alias : has_rows zone.rows (name labels) types.DNAME ≡ false = ap (λ (l : List Row). not (length l == 0)) (stored_at labels types.DNAME ∙ no_alias) in
    λ i. no_cut labels no_servers i || alias i

-- whether a name has a row at or below it
below : (labels : List (List ℕ)) → some_row_below zone.rows labels ≡ list_any (λ k. at_or_below labels k.0) (map (λ (e : Key × List Row). e.0) stored_rows)
below labels = ap (λ (l : List (Key × List Row)). list_any (λ k. at_or_below labels k.0) (map (λ (e : Key × List Row). e.0) l)) entries_are

host_open : barrier zone types.TXT host ≡ None
host_open = λ i. option_or (cond (no_barrier [] refl refl i) (Some (name [])) None) (cond (no_cut host.labels refl i && true) (Some host) None)

host_source : answering_name zone.rows host ≡ Some wildcard
host_source =
    (λ i. cond (below host.labels i) (Some host) (if_exists zone.rows (option_map wildcard_below (cond (below [] i) (Some []) None))))
    ∙ ap (λ (b : Bool). cond b (Some wildcard) None) (below wildcard.labels)

host_step : (any : AnyAnswer) → step zones (asked any) host ≡ End (positive (record_of host (note 1) ∷ []))
host_step any =
    ap (step_with zones zone (asked any) host) host_open
    ∙ ap (step_at zones zone (asked any) host) host_source
    ∙ (λ i. step_by zones zone host (map (record_of host) (stored_at wildcard.labels types.TXT i)) (stored_at wildcard.labels types.CNAME i))

-- the wildcard's row, at the name in the question
pub wildcard_answers : (any : AnyAnswer) → authority_answer any zones (question host) ≡ positive (record_of host (note 1) ∷ [])
unfolding answer_at
wildcard_answers any =
    ap (λ (s : Step). with_additionals zones (after_step s (λ records next. after_records records (rest_at (answer_at 6 zones (asked any)) next)))) (host_step any)

-- its record comes from the zone
pub comes : (any : AnyAnswer) → ComesFrom zones (question host) (positive (record_of host (note 1) ∷ []))
comes any = subst (ComesFrom zones (question host)) (wildcard_answers any) (records_come any zones (question host))

-- ---- a record that the zone does not have

only_zone : (o : Option ℕ) (z : ZoneContent) → zone_at zones o ≡ Some z → z ≡ zone
only_zone None z e = absurd (cc)
only_zone (Some zero) z e = cc
only_zone (Some (suc k)) z e = absurd (cc)

none_of : (rows : List Row) (row : Row) → rows ≡ [] → Contains rows row → ⊥
none_of rows row none (k, less, is) = absurd (omega (arith, less, ap length none))

one_of : (rows : List Row) (row only : Row) → rows ≡ only ∷ [] → Contains rows row → row ≡ only
one_of rows row only one has = by (subst (λ (l : List Row). Contains l row) one has)
  where
    by : Contains (only ∷ []) row → row ≡ only
    by (zero, less, is) = sym is
    by (suc k, less, is) = absurd (omega (arith, less))

abbrev letter_of : RData → ℕ
letter_of (of.TXT ((letter ∷ []) ∷ [])) = letter
letter_of other = 0

other_letter : (a b : ℕ) → a ≡ b → a < b → ⊥
other_letter a b e less = absurd (omega (arith, e, less))

-- a forged TXT record at the name is in no answer
pub none_forged : (answers : List Record) (r : Record) → IsAnswerRecord zones (question host) answers r → r ≡ record_of host (note 9) → ⊥
none_forged answers r (stored z t owner source row reached zone_is clear source_is of_type has) e =
    let owner_is : owner ≡ host = ap (λ (x : Record). x.name) e in
    let letter : letter_of row.rdata ≡ 9 = ap (λ (x : Record). letter_of x.rdata) e in
    let here : z ≡ zone = only_zone (closest zones owner.labels) z zone_is in
    let found : Some wildcard ≡ Some source = sym host_source ∙ (λ i. answering_name (sym here i).rows (sym owner_is i)) ∙ source_is in
    let from : wildcard ≡ source = cc in
    by of_type (subst (λ (n : DomainName). Contains (rows_at zone.rows n.labels t) row) (sym from) (subst (λ (x : ZoneContent). Contains (rows_at x.rows source.labels t) row) here has)) letter
  where
    by : {t : RecordType} → AnswersType types.TXT t → Contains (rows_at zone.rows wildcard.labels t) row → letter_of row.rdata ≡ 9 → ⊥
    by same_type has letter =
        let is : row ≡ note 1 = one_of (rows_at zone.rows wildcard.labels types.TXT) row (note 1) (stored_at wildcard.labels types.TXT) has in
        other_letter 1 9 (sym (ap (λ (x : Row). letter_of x.rdata) is) ∙ letter) (omega arith)
    by alias_type has letter = none_of (rows_at zone.rows wildcard.labels types.CNAME) row (stored_at wildcard.labels types.CNAME) has
    by (any_type t is_any) has letter = absurd (cc)
none_forged answers r (redirects z owner at row reached zone_is over not_cut has) e =
    let at_is : at ≡ host = ap (λ (x : Record). x.name) e in
    let here : z ≡ zone = only_zone (closest zones owner.labels) z zone_is in
    none_of (rows_at zone.rows host.labels types.DNAME) row (stored_at host.labels types.DNAME)
    (subst (λ (n : DomainName). Contains (rows_at zone.rows n.labels types.DNAME) row) at_is (subst (λ (x : ZoneContent). Contains (rows_at x.rows at.labels types.DNAME) row) here has))
none_forged answers r (redirected z owner at target made row reached zone_is over not_cut has target_is made_is) e =
    other_letter 0 9 (ap (λ (x : Record). letter_of x.rdata) e) (omega arith)

-- ---- a name that does not exist

abbrev missing : DomainName
missing = name ((120 ∷ []) ∷ (99 ∷ []) ∷ [])

missing_open : barrier zone types.TXT missing ≡ None
missing_open = λ i. option_or (cond (no_barrier [] refl refl i) (Some (name [])) (cond (no_barrier ((99 ∷ []) ∷ []) refl refl i) (Some (name ((99 ∷ []) ∷ []))) None))
    (cond (no_cut missing.labels refl i && true) (Some missing) None)

missing_source : answering_name zone.rows missing ≡ None
missing_source =
    (λ i. cond (below missing.labels i) (Some missing) (if_exists zone.rows (option_map wildcard_below (cond (below ((99 ∷ []) ∷ []) i) (Some ((99 ∷ []) ∷ [])) (cond (below [] i) (Some []) None)))))
    ∙ ap (λ (b : Bool). cond b (Some (wildcard_below ((99 ∷ []) ∷ []))) None) (below (star ∷ (99 ∷ []) ∷ []))

nowhere : (any : AnyAnswer) → LeadsNowhere max_aliases zones (asked any) missing
nowhere any = record {
  count = 0;
  end = missing;
  few = omega arith;
  leads = here missing;
  fails = record { zone = zone; zone_is = refl; no_barrier = missing_open; no_name = missing_source };
}

-- the answer is that it does not exist
pub missing_fails : (any : AnyAnswer) → (authority_answer any zones (question missing)).code ≡ NXDomain
missing_fails any = nowhere_fails any zones (question missing) refl refl (nowhere any)

-- the name that the wildcard answers leads somewhere
pub host_leads : (any : AnyAnswer) → LeadsNowhere max_aliases zones (asked any) host → ⊥
host_leads any leads =
    let code : (authority_answer any zones (question host)).code ≡ NXDomain = nowhere_fails any zones (question host) refl refl leads in
    let never : NoError ≡ NXDomain = sym (ap (λ (a : AuthorityAnswer). a.code) (wildcard_answers any)) ∙ code in
    absurd (cc)
