-- Answers from a plain zone are the zone's own.
use Rattle.std.proofs.Common.{◌≡◌, ◌==◌, Bool, true, false, ◌&&◌, ◌||◌, not, cond, ℕ, zero, suc, List, [], ◌∷◌, length, map, refl, sym, ap, ◌∙◌, Option, Some, None}
use Rattle.std.specs.Prelude.{is_some, option_map, position}
use Rattle.std.specs.Option.{option_or}
use Rattle.std.specs.List.{find}
use Rattle.dns_wire.specs.codes.RecordType.{type_number}
use Rattle.dns_wire.specs.codes.DNSClass.{class_number}
use Rattle.dns_wire.specs.declared.codes.record_type.RecordType.{RecordType}
use Rattle.dns_wire.specs.declared.codes.record_type.RecordType.TheVariants as types
use Rattle.dns_names.specs.Name.{DomainName}
use Rattle.dns_names.specs.Build.{base_name}
use Rattle.dns_names.specs.Compare.{at_or_below, same_labels}
use Rattle.dns_text.specs.Usage.{is_loopback, is_nonexistent}
use Rattle.dns_data.specs.declared.rdata.RData.{RData}
use Rattle.dns_data.specs.declared.rdata.RData.TheVariants as of
use Rattle.dns_messages.specs.declared.query.Query.{Query}
use Rattle.dns_messages.specs.declared.response_code.ResponseCode.TheVariants.{NoError, NXDomain, NotImp, Refused}
use Rattle.dns_records.specs.Record.{Record}
use Rattle.dns_records.specs.declared.row.Row.{Row}
use Rattle.dns_zone.specs.declared.zone.answer.Answer.{Answer}
use Rattle.dns_zone.specs.Rows.{ZoneContent, rows_at, some_row_below}
use Rattle.dns_zone.specs.Answer as own
use Rattle.dns_zone.specs.Answer.{answer_at as own_answer_at, authority, is_no_row_type, max_aliases, record_of}
use Rattle.dns_server.specs.Zones.{closest, is_at}
use Rattle.dns_authority.specs.steps.Barrier.{barrier, cut_at, has_rows, is_barrier, is_ds, names_above}
use Rattle.dns_authority.proofs.StepsExistenceLaws.{absent_rows}
use Rattle.dns_authority.specs.steps.Wildcard.{answering_name, closest_encloser, if_exists, source_of_synthesis, wildcard_below}
use Rattle.dns_authority.specs.declared.answer.AuthorityAnswer.{AuthorityAnswer}
use Rattle.dns_authority.specs.declared.asked.AnyAnswer.{AnyAnswer}
use Rattle.dns_authority.specs.declared.asked.Asked.{Asked}
use Rattle.dns_authority.specs.declared.step.Step.{Step}
use Rattle.dns_authority.specs.declared.step.Step.TheVariants.{End}
use Rattle.dns_authority.specs.Asked.{any_rows, asked_rows, is_any}
use Rattle.dns_authority.specs.Step.{alias_target, closest_zone, followed, negative, positive, refusal, step, step_at, step_by, step_in, step_with, zone_at, zone_for}
use Rattle.dns_authority.specs.Answer.{after_records, after_step, answer_at, authority_answer, rest_at}
use Rattle.dns_authority.specs.Plain.{IsPlain, zone_answer}

find_none : {X : Type 0} (p : X → Bool) → ((x : X) → p x ≡ false) → (xs : List X) → find p xs ≡ None
find_none p h [] = refl
find_none p h (x ∷ xs) = ap (λ (b : Bool). cond b (Some x) (find p xs)) (h x) ∙ find_none p h xs

-- ---- the zone of a question where there is one zone

module _ (zone : ZoneContent) where
  either : (a b : Bool) → option_or {T = ℕ} (cond a (Some 0) None) (cond b (Some 0) None) ≡ cond (a || b) (Some 0) None
  either true b = refl
  either false b = refl

  only_place : (p : ZoneContent → Bool) (b : Bool) → p zone ≡ b → position p (zone ∷ []) ≡ cond b (Some 0) None
  only_place p true e = rw e refl
  only_place p false e = rw e refl

  closest_place : (labels : List (List ℕ)) → closest (zone ∷ []) labels ≡ cond (at_or_below zone.origin.labels labels) (Some 0) None
  closest_place [] = only_place (is_at []) (same_labels zone.origin.labels []) refl
  closest_place (l ∷ ls) =
      ap (λ (o : Option ℕ). option_or o (closest (zone ∷ []) ls)) (only_place (is_at (l ∷ ls)) (same_labels zone.origin.labels (l ∷ ls)) refl)
      ∙ ap (option_or (cond (same_labels zone.origin.labels (l ∷ ls)) (Some 0) None)) (closest_place ls)
      ∙ either (same_labels zone.origin.labels (l ∷ ls)) (at_or_below zone.origin.labels ls)

  at_only : (b : Bool) → zone_at (zone ∷ []) (cond b (Some 0) None) ≡ cond b (Some zone) None
  at_only true = refl
  at_only false = refl

  -- the closest zone to a name
  pub closest_of : (labels : List (List ℕ)) → closest_zone (zone ∷ []) labels ≡ cond (at_or_below zone.origin.labels labels) (Some zone) None
  closest_of labels = ap (zone_at (zone ∷ [])) (closest_place labels) ∙ at_only (at_or_below zone.origin.labels labels)

  above_too : (a b : Bool) → option_or (cond b (Some zone) None) (cond (a || b) (Some zone) None) ≡ cond (a || b) (Some zone) None
  above_too true true = refl
  above_too true false = refl
  above_too false true = refl
  above_too false false = refl

  same_twice : (b : Bool) → option_or (cond b (Some zone) None) (cond b (Some zone) None) ≡ cond b (Some zone) None
  same_twice true = refl
  same_twice false = refl

  by_base : (fqdn : Bool) (labels : List (List ℕ))
      → option_or (closest_zone (zone ∷ []) (base_name (record { is_fqdn = fqdn; labels = labels })).labels) (closest_zone (zone ∷ []) labels)
      ≡ cond (at_or_below zone.origin.labels labels) (Some zone) None
  by_base fqdn [] =
      ap (λ (o : Option ZoneContent). option_or o o) (closest_of []) ∙ same_twice (at_or_below zone.origin.labels [])
  by_base fqdn (l ∷ ls) =
      ap (λ (o : Option ZoneContent). option_or o (closest_zone (zone ∷ []) (l ∷ ls))) (closest_of ls)
      ∙ ap (option_or (cond (at_or_below zone.origin.labels ls) (Some zone) None)) (closest_of (l ∷ ls))
      ∙ above_too (same_labels zone.origin.labels (l ∷ ls)) (at_or_below zone.origin.labels ls)

  -- the zone of a question
  pub zone_of_question : (t : RecordType) (owner : DomainName) → zone_for (zone ∷ []) t owner ≡ cond (at_or_below zone.origin.labels owner.labels) (Some zone) None
  zone_of_question t owner = by (is_ds t) refl
    where
      by : (b : Bool) → is_ds t ≡ b → zone_for (zone ∷ []) t owner ≡ cond (at_or_below zone.origin.labels owner.labels) (Some zone) None
      by true e =
          ap (λ (b : Bool). cond b (option_or (closest_zone (zone ∷ []) (base_name owner).labels) (closest_zone (zone ∷ []) owner.labels)) (closest_zone (zone ∷ []) owner.labels)) e
          ∙ by_base owner.is_fqdn owner.labels
      by false e =
          ap (λ (b : Bool). cond b (option_or (closest_zone (zone ∷ []) (base_name owner).labels) (closest_zone (zone ∷ []) owner.labels)) (closest_zone (zone ∷ []) owner.labels)) e
          ∙ closest_of owner.labels

  -- ---- aliases

  some_of : (b : Bool) → is_some (cond b (Some zone) None) ≡ b
  some_of true = refl
  some_of false = refl

  followed_is : (name : DomainName)
      → followed (zone ∷ []) (Some name) ≡ cond (at_or_below zone.origin.labels name.labels && not (is_loopback name || is_nonexistent name)) (Some name) None
  followed_is name =
      ap (λ (b : Bool). cond (b && not (is_loopback name || is_nonexistent name)) (Some name) None)
      (ap (λ (o : Option ZoneContent). is_some o) (closest_of name.labels) ∙ some_of (at_or_below zone.origin.labels name.labels))

  -- an alias is followed as in the zone's own answer
  pub next_is : (rdata : RData) → followed (zone ∷ []) (alias_target rdata) ≡ own.next_owner zone.origin rdata
  next_is (of.CNAME cname) = followed_is cname.0
  next_is (of.A x) = refl
  next_is (of.AAAA x) = refl
  next_is (of.NS x) = refl
  next_is (of.PTR x) = refl
  next_is (of.MX x) = refl
  next_is (of.SOA x) = refl
  next_is (of.SRV x) = refl
  next_is (of.TXT x) = refl
  next_is (of.OPT x) = refl
  next_is (of.Update0 x) = refl
  next_is (of.Unknown c x) = refl

  -- and only to a name in the zone
  pub next_below : (rdata : RData) (name : DomainName) → own.next_owner zone.origin rdata ≡ Some name → at_or_below zone.origin.labels name.labels ≡ true
  next_below (of.CNAME cname) name e = by (at_or_below zone.origin.labels cname.0.labels) (not (is_loopback cname.0 || is_nonexistent cname.0)) refl e
    where
      by : (a b : Bool) → at_or_below zone.origin.labels cname.0.labels ≡ a → cond (a && b) (Some cname.0) None ≡ Some name → at_or_below zone.origin.labels name.labels ≡ true
      by true true f g = let same : cname.0 ≡ name = cc in ap (λ (n : DomainName). at_or_below zone.origin.labels n.labels) (sym same) ∙ f
      by true false f g = absurd (cc)
      by false b f g = absurd (cc)
  next_below (of.A x) name e = absurd (cc)
  next_below (of.AAAA x) name e = absurd (cc)
  next_below (of.NS x) name e = absurd (cc)
  next_below (of.PTR x) name e = absurd (cc)
  next_below (of.MX x) name e = absurd (cc)
  next_below (of.SOA x) name e = absurd (cc)
  next_below (of.SRV x) name e = absurd (cc)
  next_below (of.TXT x) name e = absurd (cc)
  next_below (of.OPT x) name e = absurd (cc)
  next_below (of.Update0 x) name e = absurd (cc)
  next_below (of.Unknown c x) name e = absurd (cc)

-- ---- steps in a plain zone

module _ (zone : ZoneContent) (plain : IsPlain zone) where
  not_barrier : (name : DomainName) → is_barrier zone name ≡ false
  not_barrier name = ap (λ (b : Bool). b || has_rows zone.rows name types.DNAME) (plain.no_cut name) ∙ plain.no_dname name

  no_barrier : (t : RecordType) (name : DomainName) → barrier zone t name ≡ None
  no_barrier t name =
      ap (λ (o : Option DomainName). option_or o (cut_at zone t name)) (find_none (is_barrier zone) not_barrier (names_above name (length zone.origin.labels)))
      ∙ ap (λ (b : Bool). cond (b && not (is_ds t)) (Some name) None) (plain.no_cut name)

  no_source : (o : Option (List (List ℕ))) → if_exists zone.rows (option_map wildcard_below o) ≡ None
  no_source None = refl
  no_source (Some labels) = ap (λ (b : Bool). cond b (Some (wildcard_below labels)) None) (plain.no_wildcard labels)

  answering : (owner : DomainName) (b : Bool) → some_row_below zone.rows owner.labels ≡ b → answering_name zone.rows owner ≡ cond b (Some owner) None
  answering owner true e = ap (λ (b : Bool). cond b (Some owner) (if_exists zone.rows (source_of_synthesis zone.rows owner.labels))) e
  answering owner false e =
      ap (λ (b : Bool). cond b (Some owner) (if_exists zone.rows (source_of_synthesis zone.rows owner.labels))) e
      ∙ no_source (closest_encloser zone.rows owner.labels)

  module _ (asked : Asked) (not_any : is_any asked.record_type ≡ false) where
    outside : (owner : DomainName) → at_or_below zone.origin.labels owner.labels ≡ false → step (zone ∷ []) asked owner ≡ End (refusal Refused)
    outside owner e =
        ap (step_in (zone ∷ []) asked owner) (zone_of_question zone asked.record_type owner ∙ ap (λ (b : Bool). cond b (Some zone) None) e)

    inside : (owner : DomainName) (exists : Bool) → at_or_below zone.origin.labels owner.labels ≡ true → some_row_below zone.rows owner.labels ≡ exists
        → step (zone ∷ []) asked owner ≡ step_at (zone ∷ []) zone asked owner (cond exists (Some owner) None)
    inside owner exists e f =
        ap (step_in (zone ∷ []) asked owner) (zone_of_question zone asked.record_type owner ∙ ap (λ (b : Bool). cond b (Some zone) None) e)
        ∙ ap (step_with (zone ∷ []) zone asked owner) (no_barrier asked.record_type owner)
        ∙ ap (step_at (zone ∷ []) zone asked owner) (answering owner exists f)

    rows_are : (labels : List (List ℕ)) → asked_rows asked zone.rows labels ≡ rows_at zone.rows labels asked.record_type
    rows_are labels = ap (λ (b : Bool). cond b (any_rows asked.any zone.rows labels) (rows_at zone.rows labels asked.record_type)) not_any

    -- what both do with the rest of an answer
    abbrev Rest : Type 0
    Rest = List Record → Option DomainName → AuthorityAnswer

    by_rows : (owner : DomainName) (rest : Rest) (on_alias : Row → Answer) (rows aliases : List Row) → some_row_below zone.rows owner.labels ≡ true
        → ((alias : Row) → zone_answer (rest (record_of owner alias ∷ []) (followed (zone ∷ []) (alias_target alias.rdata))) ≡ on_alias alias)
        → zone_answer (after_step (step_by (zone ∷ []) zone owner (map (record_of owner) rows) aliases) rest) ≡ own.answer_by zone owner rows aliases on_alias
    by_rows owner rest on_alias [] [] exists same =
        ap (λ (b : Bool). record { code = cond b NoError NXDomain; answers = []; authorities = authority zone }) (sym exists)
    by_rows owner rest on_alias [] (alias ∷ more) exists same = same alias
    by_rows owner rest on_alias (row ∷ rows) [] exists same = refl
    by_rows owner rest on_alias (row ∷ rows) (alias ∷ more) exists same = refl

    without_rows : (owner : DomainName) (rest : Rest) (on_alias : Row → Answer) (rows aliases : List Row) → some_row_below zone.rows owner.labels ≡ false
        → rows ≡ [] → aliases ≡ [] → zone_answer (after_step (End (negative zone NXDomain)) rest) ≡ own.answer_by zone owner rows aliases on_alias
    without_rows owner rest on_alias [] [] absent none too = ap (λ (b : Bool). record { code = cond b NoError NXDomain; answers = []; authorities = authority zone }) (sym absent)
    without_rows owner rest on_alias [] (alias ∷ more) absent none too = absurd (cc)
    without_rows owner rest on_alias (row ∷ rows) aliases absent none too = absurd (cc)

    -- a step goes as the zone's own answer does
    by_step : (owner : DomainName) (rest : Rest) (on_alias : Row → Answer) → at_or_below zone.origin.labels owner.labels ≡ true
        → ((alias : Row) → zone_answer (rest (record_of owner alias ∷ []) (followed (zone ∷ []) (alias_target alias.rdata))) ≡ on_alias alias)
        → zone_answer (after_step (step (zone ∷ []) asked owner) rest)
        ≡ own.answer_by zone owner (rows_at zone.rows owner.labels asked.record_type) (rows_at zone.rows owner.labels types.CNAME) on_alias
    by_step owner rest on_alias below same = by (some_row_below zone.rows owner.labels) refl
      where
        by : (exists : Bool) → some_row_below zone.rows owner.labels ≡ exists → zone_answer (after_step (step (zone ∷ []) asked owner) rest)
            ≡ own.answer_by zone owner (rows_at zone.rows owner.labels asked.record_type) (rows_at zone.rows owner.labels types.CNAME) on_alias
        by true e =
            ap (λ (s : Step). zone_answer (after_step s rest)) (inside owner true below e)
            ∙ ap (λ (rows : List Row). zone_answer (after_step (step_by (zone ∷ []) zone owner (map (record_of owner) rows) (rows_at zone.rows owner.labels types.CNAME)) rest)) (rows_are owner.labels)
            ∙ by_rows owner rest on_alias (rows_at zone.rows owner.labels asked.record_type) (rows_at zone.rows owner.labels types.CNAME) e same
        by false e =
            ap (λ (s : Step). zone_answer (after_step s rest)) (inside owner false below e)
            ∙ without_rows owner rest on_alias (rows_at zone.rows owner.labels asked.record_type) (rows_at zone.rows owner.labels types.CNAME) e
            (absent_rows zone.rows owner.labels asked.record_type e) (absent_rows zone.rows owner.labels types.CNAME e)

    -- ---- along aliases

    rest_same : (f : DomainName → AuthorityAnswer) (g : DomainName → Answer) (next : Option DomainName)
        → ((name : DomainName) → next ≡ Some name → zone_answer (f name) ≡ g name) → zone_answer (rest_at f next) ≡ own.rest_at g next
    rest_same f g None same = refl
    rest_same f g (Some name) same = same name refl

    along : (links : ℕ) (owner : DomainName) → at_or_below zone.origin.labels owner.labels ≡ true
        → zone_answer (answer_at links (zone ∷ []) asked owner) ≡ own_answer_at links zone asked.record_type owner
    unfolding answer_at own_answer_at
    along zero owner below = by_step owner (λ records next. positive []) (λ alias. own.bare NoError) below (λ alias. refl)
    along (suc links) owner below =
        by_step owner (λ records next. after_records records (rest_at (answer_at links (zone ∷ []) asked) next))
        (λ alias. own.after_records (record_of owner alias ∷ []) (own.rest_at (own_answer_at links zone asked.record_type) (own.next_owner zone.origin alias.rdata)))
        below
        (λ alias. ap (own.after_records (record_of owner alias ∷ []))
        (ap (λ (next : Option DomainName). zone_answer (rest_at (answer_at links (zone ∷ []) asked) next)) (next_is zone alias.rdata)
        ∙ rest_same (answer_at links (zone ∷ []) asked) (own_answer_at links zone asked.record_type) (own.next_owner zone.origin alias.rdata)
        (λ name is. along links name (next_below zone alias.rdata name is))))

    refused : (links : ℕ) (owner : DomainName) → at_or_below zone.origin.labels owner.labels ≡ false
        → answer_at links (zone ∷ []) asked owner ≡ refusal Refused
    unfolding answer_at
    refused zero owner out = ap (λ (s : Step). after_step s (λ records next. positive [])) (outside owner out)
    refused (suc links) owner out =
        ap (λ (s : Step). after_step s (λ records next. after_records records (rest_at (answer_at links (zone ∷ []) asked) next))) (outside owner out)

-- ---- the answer

pub plain_zones : (any : AnyAnswer) (zone : ZoneContent) (q : Query) → IsPlain zone → is_any q.query_type ≡ false
    → zone_answer (authority_answer any (zone ∷ []) q) ≡ own.answer zone q
plain_zones any zone q plain not_any =
    ap (λ (b : Bool). zone_answer (cond (not b && is_no_row_type (type_number q.query_type)) (refusal NotImp) in_class)) not_any
    ∙ by (is_no_row_type (type_number q.query_type)) (class_number q.query_class == 1) (at_or_below zone.origin.labels q.name.labels) refl
  where
    asked : Asked
    asked = record { record_type = q.query_type; any = any }

    in_class : AuthorityAnswer
    in_class = cond (not (class_number q.query_class == 1)) (refusal Refused) (answer_at max_aliases (zone ∷ []) asked q.name)

    by : (c1 c2 c3 : Bool) → at_or_below zone.origin.labels q.name.labels ≡ c3
        → zone_answer (cond c1 (refusal NotImp) (cond (not c2) (refusal Refused) (answer_at max_aliases (zone ∷ []) asked q.name)))
        ≡ cond c1 (own.bare NotImp) (cond (not c2 || not c3) (own.bare Refused) (own_answer_at max_aliases zone q.query_type q.name))
    by true c2 c3 e = refl
    by false false c3 e = refl
    by false true false e = ap (λ (a : AuthorityAnswer). zone_answer a) (refused zone plain asked not_any max_aliases q.name e)
    by false true true e = along zone plain asked not_any max_aliases q.name e
