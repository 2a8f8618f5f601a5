-- Where the records of an answer come from.
use Rattle.std.proofs.Common.{◌≡◌, ◌==◌, Bool, true, false, ◌||◌, not, cond, ℕ, zero, suc, List, [], ◌∷◌, ◌++◌, map, refl, sym, subst, arith, Option, Some, None}
use Rattle.std.specs.List.{AllByRecursion, Contains, flat_map}
use Rattle.std.proofs.lemmas.List.Elements.{Contains-append_left, Contains-append_right}
use Rattle.std.proofs.lemmas.List.{map-append}
use Rattle.dns_wire.specs.codes.RecordType.{type_of}
use Rattle.dns_wire.specs.codes.DNSClass.{class_number}
use Rattle.dns_wire.specs.declared.codes.record_type.RecordType.{RecordType}
use Rattle.dns_wire.specs.declared.codes.record_type.RecordType.TheVariants as types
use Rattle.dns_names.specs.Name.{DomainName}
use Rattle.dns_messages.specs.declared.query.Query.{Query}
use Rattle.dns_messages.specs.declared.response_code.ResponseCode.{ResponseCode}
use Rattle.dns_messages.specs.declared.response_code.ResponseCode.TheVariants.{NoError, NXDomain, NotImp, Refused}
use Rattle.dns_records.specs.Record.{Record}
use Rattle.dns_records.specs.declared.row.Row.{Row}
use Rattle.dns_zone.specs.Rows.{Rows, ZoneContent, rows_at}
use Rattle.dns_zone.specs.Answer.{authority_row, max_aliases, record_of}
use Rattle.dns_authority.specs.steps.Barrier.{barrier, is_cut}
use Rattle.dns_authority.specs.steps.Redirection.{dname_target}
use Rattle.dns_authority.specs.steps.Wildcard.{answering_name}
use Rattle.dns_authority.specs.declared.answer.AuthorityAnswer.{AuthorityAnswer}
use Rattle.dns_authority.specs.declared.additional.HostKind.{HostKind}
use Rattle.dns_authority.specs.declared.additional.HostKind.TheVariants as kinds
use Rattle.dns_authority.specs.declared.asked.AnyAnswer.{AnyAnswer}
use Rattle.dns_authority.specs.declared.asked.AnyAnswer.TheVariants.{AllSets, FirstSet}
use Rattle.dns_authority.specs.declared.asked.Asked.{Asked}
use Rattle.dns_authority.specs.declared.step.Step.{Step}
use Rattle.dns_authority.specs.declared.step.Step.TheVariants.{End, Links}
use Rattle.dns_authority.specs.Asked.{any_numbers, any_rows, asked_rows, first_filled, is_any, rows_by_number}
use Rattle.dns_authority.specs.Step.{alias_target, closest_zone, followed, followed_for, is_alias_type, is_followed, negative, positive, redirect, redirected, referral, refusal, step, step_at, step_below, step_by, step_in, step_to, step_with, synthesized, zone_for}
use Rattle.dns_authority.specs.Answer.{after_records, after_step, answer_at, authority_answer, is_unanswered, rest_at}
use Rattle.dns_authority.specs.Additional.{has_set, host_of, own_rows, rows_by, rows_in, rows_without, with_additionals, with_host_of, with_hosts, with_set}
use Rattle.dns_authority.specs.Origin.{AnswersType, ComesFrom, IsAdditionalRecord, IsAddressType, IsAnswerRecord, IsAuthorityRecord, IsReached, ipv4, ipv6}
use Rattle.dns_authority.specs.Origin.AnswersType.{alias_type, any_type, same_type}
use Rattle.dns_authority.specs.Origin.IsReached.{by_alias, is_asked}
use Rattle.dns_authority.specs.Origin.IsAnswerRecord.{stored, redirects, redirected as redirected_alias}
use Rattle.dns_authority.specs.Origin.IsAuthorityRecord.{soa, delegates}
use Rattle.dns_authority.specs.Origin.IsAdditionalRecord.{address, glue}

-- ---- lists

module _ {X : Type 0} (P : X → Type 0) where
  all_append : (xs ys : List X) → AllByRecursion P xs → AllByRecursion P ys → AllByRecursion P (xs ++ ys)
  all_append [] ys a b = b
  all_append (x ∷ xs) ys a b = (a.0, all_append xs ys a.1 b)

contains_first : {X : Type 0} (x : X) (xs : List X) → Contains (x ∷ xs) x
contains_first x xs = (0, omega arith, refl)

contains_later : {X : Type 0} (x y : X) (xs : List X) → Contains xs x → Contains (y ∷ xs) x
contains_later x y xs there = (suc there.0, omega (arith, there.1), there.2)

all_mapped : {X : Type 0} (P : X → Type 0) (f : Row → X) (rows : List Row) → ((row : Row) → Contains rows row → P (f row)) → AllByRecursion P (map f rows)
all_mapped P f [] each = tt
all_mapped P f (r ∷ rows) each = (each r (contains_first r rows), all_mapped P f rows (λ row there. each row (contains_later row r rows there)))

-- ---- the rows that are asked for

module _ (P : Record → Type 0) (f : Row → Record) (rows : Rows) (labels : List (List ℕ)) where
  module _ (each : (u : RecordType) (row : Row) → Contains (rows_at rows labels u) row → P (f row)) where
    of_all : (numbers : List ℕ) → AllByRecursion P (map f (flat_map (rows_by_number rows labels) numbers))
    of_all [] = tt
    of_all (n ∷ numbers) =
        subst (AllByRecursion P) (sym (map-append f (rows_by_number rows labels n) (flat_map (rows_by_number rows labels) numbers)))
        (all_append P (map f (rows_by_number rows labels n)) (map f (flat_map (rows_by_number rows labels) numbers))
        (all_mapped P f (rows_by_number rows labels n) (each (type_of n))) (of_all numbers))

    first_of : (here : List Row) (more : List (List Row)) → AllByRecursion P (map f here) → AllByRecursion P (map f (first_filled more)) → AllByRecursion P (map f (first_filled (here ∷ more)))
    first_of [] more a b = b
    first_of (row ∷ here) more a b = a

    of_first : (numbers : List ℕ) → AllByRecursion P (map f (first_filled (map (rows_by_number rows labels) numbers)))
    of_first [] = tt
    of_first (n ∷ numbers) =
        first_of (rows_by_number rows labels n) (map (rows_by_number rows labels) numbers) (all_mapped P f (rows_by_number rows labels n) (each (type_of n))) (of_first numbers)

    of_any : (any : AnyAnswer) → AllByRecursion P (map f (any_rows any rows labels))
    of_any AllSets = of_all any_numbers
    of_any FirstSet = of_first any_numbers

  of_asked : (asked : Asked) → ((u : RecordType) (row : Row) → AnswersType asked.record_type u → Contains (rows_at rows labels u) row → P (f row))
      → AllByRecursion P (map f (asked_rows asked rows labels))
  of_asked asked each = by (is_any asked.record_type) refl
    where
      by : (b : Bool) → is_any asked.record_type ≡ b → AllByRecursion P (map f (cond b (any_rows asked.any rows labels) (rows_at rows labels asked.record_type)))
      by true is = of_any (λ u row there. each u row (any_type u is) there) asked.any
      by false is = all_mapped P f (rows_at rows labels asked.record_type) (λ row there. each asked.record_type row same_type there)

-- ---- steps

module _ (zones : List ZoneContent) (any : AnyAnswer) (q : Query) (all : List Record) where
  -- what is asked for
  abbrev asked : Asked
  asked = record { record_type = q.query_type; any = any }

  -- the records of an answer without its additional section
  abbrev Comes : AuthorityAnswer → Type 0
  Comes a = AllByRecursion (IsAnswerRecord zones q all) a.answers × AllByRecursion (IsAuthorityRecord zones q all) a.authorities

  -- an alias among records leads to a name, if an answer goes on there
  abbrev Leads : DomainName → List Record → Option DomainName → Type 0
  Leads owner records next =
      (target : DomainName) → next ≡ Some target
      → (alias : Record) × Contains records alias × (alias.name ≡ owner) × (alias_target alias.rdata ≡ Some target)

  -- the records of a step
  abbrev StepComes : DomainName → Step → Type 0
  StepComes owner (End a) = Comes a
  StepComes owner (Links records next) = AllByRecursion (IsAnswerRecord zones q all) records × Leads owner records next

  followed_is : (next : Option DomainName) (target : DomainName) → followed zones next ≡ Some target → next ≡ Some target
  followed_is None target e = e
  followed_is (Some name) target e = by (is_followed zones name) e
    where
      by : (b : Bool) → cond b (Some name) None ≡ Some target → Some name ≡ Some target
      by true e = e
      by false e = absurd (cc)

  followed_for_is : (made target : DomainName) → followed_for zones q.query_type made ≡ Some target → Some made ≡ Some target
  followed_for_is made target e = by (is_alias_type q.query_type) e
    where
      by : (b : Bool) → cond b None (followed zones (Some made)) ≡ Some target → Some made ≡ Some target
      by true e = absurd (cc)
      by false e = followed_is (Some made) target e

  module _ (owner : DomainName) (reached : IsReached q all owner) (zone : ZoneContent) (zone_is : zone_for zones q.query_type owner ≡ Some zone) where
    negative_comes : (code : ResponseCode) → Comes (negative zone code)
    negative_comes code = (
      tt,
      all_mapped (IsAuthorityRecord zones q all) (λ row. record_of zone.origin (authority_row row)) (rows_at zone.rows zone.origin.labels types.SOA)
          (λ row there. soa zone owner row reached zone_is there),
    )

    by_comes : (records : List Record) (aliases : List Row) → AllByRecursion (IsAnswerRecord zones q all) records
        → AllByRecursion (IsAnswerRecord zones q all) (map (record_of owner) aliases) → StepComes owner (step_by zones zone owner records aliases)
    by_comes [] [] a b = negative_comes NoError
    by_comes [] (alias ∷ more) a b = (
      (b.0, tt),
      λ target e. (record_of owner alias, contains_first (record_of owner alias) [], refl, followed_is (alias_target alias.rdata) target e),
    )
    by_comes (r ∷ records) aliases a b = (a, tt)

    at_comes : (source : Option DomainName) → barrier zone q.query_type owner ≡ None → answering_name zone.rows owner ≡ source
        → StepComes owner (step_at zones zone asked owner source)
    at_comes None free is = negative_comes NXDomain
    at_comes (Some source) free is =
        by_comes (map (record_of owner) (asked_rows asked zone.rows source.labels)) (rows_at zone.rows source.labels types.CNAME)
        (of_asked (IsAnswerRecord zones q all) (record_of owner) zone.rows source.labels asked
        (λ u row answers there. stored zone u owner source row reached zone_is free is answers there))
        (all_mapped (IsAnswerRecord zones q all) (record_of owner) (rows_at zone.rows source.labels types.CNAME)
        (λ row there. stored zone types.CNAME owner source row reached zone_is free is alias_type there))

    redirected_comes : (at target : DomainName) (dname : Row) (made : Option DomainName) → barrier zone q.query_type owner ≡ Some at → is_cut zone at ≡ false
        → Contains (rows_at zone.rows at.labels types.DNAME) dname → dname_target dname.rdata ≡ Some target → redirect owner at target ≡ made
        → StepComes owner (redirected zones q.query_type owner at dname made)
    redirected_comes at target dname None on no_cut there is makes = ((redirects zone owner at dname reached zone_is on no_cut there, tt), tt)
    redirected_comes at target dname (Some made) on no_cut there is makes = (
      (
        redirects zone owner at dname reached zone_is on no_cut there,
        (redirected_alias zone owner at target made dname reached zone_is on no_cut there is makes, tt),
      ),
      λ next e. (
        synthesized owner dname made,
        contains_later (synthesized owner dname made) (record_of at dname) (synthesized owner dname made ∷ []) (contains_first (synthesized owner dname made) []),
        refl,
        followed_for_is made next e,
      ),
    )

    to_comes : (at : DomainName) (dname : Row) (target : Option DomainName) → barrier zone q.query_type owner ≡ Some at → is_cut zone at ≡ false
        → Contains (rows_at zone.rows at.labels types.DNAME) dname → dname_target dname.rdata ≡ target → StepComes owner (step_to zones q.query_type owner at dname target)
    to_comes at dname None on no_cut there is = (tt, tt)
    to_comes at dname (Some target) on no_cut there is = redirected_comes at target dname (redirect owner at target) on no_cut there is refl

    below_comes : (at : DomainName) (rows : List Row) → barrier zone q.query_type owner ≡ Some at → is_cut zone at ≡ false
        → rows_at zone.rows at.labels types.DNAME ≡ rows → StepComes owner (step_below zones q.query_type owner at rows)
    below_comes at [] on no_cut is = (tt, tt)
    below_comes at (dname ∷ more) on no_cut is =
        to_comes at dname (dname_target dname.rdata) on no_cut
        (subst (λ (rows : List Row). Contains rows dname) (sym is) (contains_first dname more)) refl

    over_comes : (at : DomainName) (b : Bool) → barrier zone q.query_type owner ≡ Some at → is_cut zone at ≡ b
        → StepComes owner (cond b (End (referral zone at)) (step_below zones q.query_type owner at (rows_at zone.rows at.labels types.DNAME)))
    over_comes at true on cut = (
      tt,
      all_mapped (IsAuthorityRecord zones q all) (record_of at) (rows_at zone.rows at.labels types.NS)
          (λ row there. delegates zone owner at row reached zone_is on cut there),
    )
    over_comes at false on cut = below_comes at (rows_at zone.rows at.labels types.DNAME) on cut refl

    with_comes : (at : Option DomainName) → barrier zone q.query_type owner ≡ at → StepComes owner (step_with zones zone asked owner at)
    with_comes None on = at_comes (answering_name zone.rows owner) on refl
    with_comes (Some at) on = over_comes at (is_cut zone at) on refl

  in_comes : (owner : DomainName) (found : Option ZoneContent) → IsReached q all owner → zone_for zones q.query_type owner ≡ found → StepComes owner (step_in zones asked owner found)
  in_comes owner None reached is = (tt, tt)
  in_comes owner (Some zone) reached is = with_comes owner reached zone is (barrier zone q.query_type owner) refl

  step_comes : (owner : DomainName) → IsReached q all owner → StepComes owner (step zones asked owner)
  step_comes owner reached = in_comes owner (zone_for zones q.query_type owner) reached refl

  -- ---- along aliases

  -- records that are among those of the answer section
  abbrev Within : List Record → Type 0
  Within records = (r : Record) → Contains records r → Contains all r

  last_comes : (owner : DomainName) (s : Step) → StepComes owner s → Comes (after_step s (λ records next. positive []))
  last_comes owner (End a) h = h
  last_comes owner (Links records next) h = (tt, tt)

  abbrev ComesAlong : ℕ → DomainName → Type 0
  ComesAlong links owner = IsReached q all owner → Within (answer_at links zones asked owner).answers → Comes (answer_at links zones asked owner)

  rest_comes : (links : ℕ) (owner : DomainName) (records : List Record) (next : Option DomainName) → IsReached q all owner → Leads owner records next → Within records
      → Within (rest_at (answer_at links zones asked) next).answers → ((target : DomainName) → ComesAlong links target)
      → Comes (rest_at (answer_at links zones asked) next)
  rest_comes links owner records None reached leads within rest more = (tt, tt)
  rest_comes links owner records (Some target) reached leads within rest more =
      let alias = leads target refl in
      more target
      (by_alias alias.0 target (subst (λ (name : DomainName). IsReached q all name) (sym alias.2) reached) (within alias.0 alias.1) alias.3) rest

  after_comes : (links : ℕ) (owner : DomainName) (s : Step) → IsReached q all owner → StepComes owner s
      → Within (after_step s (λ records next. after_records records (rest_at (answer_at links zones asked) next))).answers → ((target : DomainName) → ComesAlong links target)
      → Comes (after_step s (λ records next. after_records records (rest_at (answer_at links zones asked) next)))
  after_comes links owner (End a) reached h within more = h
  after_comes links owner (Links records next) reached h within more =
      let following : List Record = (rest_at (answer_at links zones asked) next).answers in
      let rest = rest_comes links owner records next reached h.1
      (λ r there. within r (Contains-append_left records following r there))
      (λ r there. within r (Contains-append_right records following r there)) more in
      (all_append (IsAnswerRecord zones q all) records following h.0 rest.0, rest.1)

  along_comes : (links : ℕ) (owner : DomainName) → ComesAlong links owner
  unfolding answer_at
  along_comes zero owner reached within = last_comes owner (step zones asked owner) (step_comes owner reached)
  along_comes (suc links) owner reached within = after_comes links owner (step zones asked owner) reached (step_comes owner reached) within (along_comes links)

-- ---- additional records

module _ (zones : List ZoneContent) (answers authorities : List Record) where
  abbrev Are : List Record → Type 0
  Are records = AllByRecursion (IsAdditionalRecord zones answers authorities) records

  -- the section whose records name the hosts
  abbrev naming_records : HostKind → List Record
  naming_records kinds.Glue = authorities
  naming_records kinds.Answer = answers

  in_zone : (naming : Record) (host : DomainName) (t : RecordType) → Contains authorities naming → host_of naming.rdata ≡ Some host → IsAddressType t
      → (found : Option ZoneContent) → closest_zone zones host.labels ≡ found
      → (row : Row) → Contains (rows_in found host t) row → IsAdditionalRecord zones answers authorities (record_of host row)
  in_zone naming host t named hosts kind None is row there = absurd (omega (arith, there.1))
  in_zone naming host t named hosts kind (Some zone) is row there = glue zone t naming host row named hosts kind is there

  if_free : (naming : Record) (host : DomainName) (t : RecordType) → Contains answers naming → host_of naming.rdata ≡ Some host → IsAddressType t
      → (zone : ZoneContent) (at : Option DomainName) → closest_zone zones host.labels ≡ Some zone → barrier zone t host ≡ at
      → (row : Row) → Contains (rows_without at zone host t) row → IsAdditionalRecord zones answers authorities (record_of host row)
  if_free naming host t named hosts kind zone None is free row there = address zone t naming host row named hosts kind is free there
  if_free naming host t named hosts kind zone (Some at) is free row there = absurd (omega (arith, there.1))

  if_own : (naming : Record) (host : DomainName) (t : RecordType) → Contains answers naming → host_of naming.rdata ≡ Some host → IsAddressType t
      → (found : Option ZoneContent) → closest_zone zones host.labels ≡ found
      → (row : Row) → Contains (own_rows found host t) row → IsAdditionalRecord zones answers authorities (record_of host row)
  if_own naming host t named hosts kind None is row there = absurd (omega (arith, there.1))
  if_own naming host t named hosts kind (Some zone) is row there = if_free naming host t named hosts kind zone (barrier zone t host) is refl row there

  by_kind : (why : HostKind) (naming : Record) (host : DomainName) (t : RecordType) → Contains (naming_records why) naming → host_of naming.rdata ≡ Some host → IsAddressType t
      → (row : Row) → Contains (rows_by why zones host t) row → IsAdditionalRecord zones answers authorities (record_of host row)
  by_kind kinds.Glue naming host t named hosts kind row there = in_zone naming host t named hosts kind (closest_zone zones host.labels) refl row there
  by_kind kinds.Answer naming host t named hosts kind row there = if_own naming host t named hosts kind (closest_zone zones host.labels) refl row there

  module _ (why : HostKind) where
    set_comes : (naming : Record) (host : DomainName) (t : RecordType) → Contains (naming_records why) naming → host_of naming.rdata ≡ Some host → IsAddressType t
        → (records : List Record) → Are records → Are (with_set answers records host t (rows_by why zones host t))
    set_comes naming host t named hosts kind records h = by (has_set answers host t || has_set records host t)
      where
        by : (b : Bool) → Are (cond b records (records ++ map (record_of host) (rows_by why zones host t)))
        by true = h
        by false =
            all_append (IsAdditionalRecord zones answers authorities) records (map (record_of host) (rows_by why zones host t)) h
            (all_mapped (IsAdditionalRecord zones answers authorities) (record_of host) (rows_by why zones host t) (by_kind why naming host t named hosts kind))

    host_comes : (naming : Record) (host : Option DomainName) → Contains (naming_records why) naming → host_of naming.rdata ≡ host
        → (records : List Record) → Are records → Are (with_host_of (rows_by why zones) answers records host)
    host_comes naming None named hosts records h = h
    host_comes naming (Some host) named hosts records h =
        set_comes naming host types.AAAA named hosts ipv6 (with_set answers records host types.A (rows_by why zones host types.A))
        (set_comes naming host types.A named hosts ipv4 records h)

    hosts_come : (records naming : List Record) → ((r : Record) → Contains naming r → Contains (naming_records why) r) → Are records
        → Are (with_hosts (rows_by why zones) answers records naming)
    hosts_come records [] within h = h
    hosts_come records (r ∷ naming) within h =
        hosts_come (with_host_of (rows_by why zones) answers records (host_of r.rdata)) naming (λ s there. within s (contains_later s r naming there))
        (host_comes r (host_of r.rdata) (within r (contains_first r naming)) refl records h)

  additionals_come : Are (with_hosts (rows_by kinds.Answer zones) answers (with_hosts (rows_by kinds.Glue zones) answers [] authorities) answers)
  additionals_come =
      hosts_come kinds.Answer (with_hosts (rows_by kinds.Glue zones) answers [] authorities) answers (λ r there. there)
      (hosts_come kinds.Glue [] authorities (λ r there. there) tt)

-- ---- answers

refusal_comes : (zones : List ZoneContent) (q : Query) (code : ResponseCode) → ComesFrom zones q (refusal code)
refusal_comes zones q code = record { answers = tt; authorities = tt; additionals = tt }

walk_comes : (zones : List ZoneContent) (any : AnyAnswer) (q : Query) → ComesFrom zones q (with_additionals zones (answer_at max_aliases zones (record { record_type = q.query_type; any = any }) q.name))
walk_comes zones any q =
    let a : AuthorityAnswer = answer_at max_aliases zones (record { record_type = q.query_type; any = any }) q.name in
    let comes : Comes zones any q a.answers a = along_comes zones any q a.answers max_aliases q.name is_asked (λ r there. there) in
    record { answers = comes.0; authorities = comes.1; additionals = additionals_come zones a.answers a.authorities }

pub records_come : (any : AnyAnswer) (zones : List ZoneContent) (q : Query) → ComesFrom zones q (authority_answer any zones q)
records_come any zones q = by (is_unanswered q.query_type) (not (class_number q.query_class == 1))
  where
    by : (a b : Bool)
        → ComesFrom zones q (with_additionals zones (cond a (refusal NotImp) (cond b (refusal Refused) (answer_at max_aliases zones (record { record_type = q.query_type; any = any }) q.name))))
    by true b = refusal_comes zones q NotImp
    by false true = refusal_comes zones q Refused
    by false false = walk_comes zones any q
