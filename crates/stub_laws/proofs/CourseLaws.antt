-- The answer of a zone to a question of a plain type: the aliases that it follows, and where it stops.
use Rattle.std.proofs.Common.{◌≡◌, ℕ, ◌+◌, ◌≤◌, ◌==◌, ◌&&◌, ◌||◌, ◌++◌, zero, suc, nat_le, nat_lt, Bool, true, false, cond, not, List, [], ◌∷◌, Some, None, refl, sym, ap, subst, ◌∙◌, inl, inr, arith}
use Rattle.std.specs.Prelude.{◌⊎◌}
use Rattle.std.proofs.lemmas.Bool.{true≢false}
use Rattle.std.proofs.lemmas.Bool.Decides.{nat_tests}
use Rattle.dns_wire.specs.codes.DNSClass.{class_number}
use Rattle.dns_wire.specs.codes.RecordType.{type_number}
use Rattle.dns_wire.specs.declared.codes.record_type.RecordType.{RecordType}
use Rattle.dns_wire.specs.declared.codes.record_type.RecordType.TheVariants as types
use Rattle.dns_names.specs.Compare.{at_or_below, lower}
use Rattle.dns_names.specs.Name.{DomainName}
use Rattle.dns_data.specs.declared.rdata.RData.{RData}
use Rattle.dns_data.specs.declared.rdata.RData.TheVariants as of
use Rattle.dns_data.specs.declared.rdata.cname.CNAME.{CNAME}
use Rattle.dns_records.specs.Record.{Record}
use Rattle.dns_records.specs.Rows.{Rows, rows_at}
use Rattle.dns_records.specs.declared.row.Row.{Row}
use Rattle.dns_messages.specs.declared.query.Query.{Query}
use Rattle.dns_messages.specs.declared.response_code.ResponseCode.TheVariants.{NoError, NotImp, Refused}
use Rattle.dns_zone.specs.Answer.{after_records, answer, answer_at, answer_by, bare, is_no_row_type, max_aliases, negative, next_owner, positive, record_of, rest_at}
use Rattle.dns_zone.specs.Rows.{IsZone, ZoneContent}
use Rattle.dns_zone.specs.declared.zone.answer.Answer.{Answer}
use Rattle.stub_client.specs.Conclusions.{Conclusion}
use Rattle.stub_laws.specs.history.Answered.{is_plain_number}
use Rattle.stub_laws.specs.history.Stands.{IsLinked}
use Rattle.stub_laws.specs.history.Stands.IsLinked.{no_link, one_link}
use Rattle.stub_laws.proofs.AnswerRowLaws.{alias-there, equal-numbers, not-plain}
use Rattle.stub_laws.proofs.EndLaws.{is_followed}
use Rattle.stub_laws.proofs.StandLaws.{both-true}
use Rattle.stub_laws.specs.walk.Walk.{HasNoRows, HasShortAliasesAt, IsOfZone, Walk}
use Rattle.stub_laws.specs.walk.Walk.Walk.{at_alias}
use Rattle.stub_laws.proofs.WalkLaws.{alias-target, of-zone}

-- ---- courses

-- aliases at names without rows of the type lead from a name to another one, and are the records of an answer
pub data Links (zone : ZoneContent) (t : RecordType) : ℕ → DomainName → List Record → DomainName → Type 0 where
  no_alias : (owner : DomainName) → Links zone t 0 owner [] owner
  one_alias : (n : ℕ) (owner : DomainName) (row : Row) (more : List Row) (target : CNAME) (records : List Record) (end : DomainName)
      → HasNoRows zone t owner → rows_at zone.rows owner.labels types.CNAME ≡ row ∷ more → row.rdata ≡ of.CNAME target
      → Links zone t n target.0 records end → Links zone t (suc n) owner (record_of owner row ∷ records) end

-- what is left of an answer where it stops: the rows of the type, the negative answer, or nothing where the zone follows no further
pub data Ending (zone : ZoneContent) (t : RecordType) (end : DomainName) : Answer → Type 0 where
  ends_found : (row : Row) (more : List Row) → IsOfZone zone t end → rows_at zone.rows end.labels t ≡ row ∷ more
      → Ending zone t end (positive end (row ∷ more))
  ends_negative : HasNoRows zone t end → rows_at zone.rows end.labels types.CNAME ≡ [] → Ending zone t end (negative zone end.labels)
  ends_off : is_followed zone.origin end ≡ false → Ending zone t end (bare NoError)

-- an answer follows aliases from a name, with so many before, and stops
pub record HasCourse (zone : ZoneContent) (t : RecordType) (before : ℕ) (owner : DomainName) (a : Answer) : Type 0 where
  pub count : ℕ
  pub few : before + count ≤ 7
  pub records : List Record
  pub end : DomainName
  pub links : Links zone t count owner records end
  pub last : Answer
  pub ending : Ending zone t end last
  pub code : a.code ≡ last.code
  pub answers : a.answers ≡ records ++ last.answers
  pub authorities : a.authorities ≡ last.authorities

-- an answer follows seven aliases from a name, with so many before, to one that has an alias, too
pub record IsCut (zone : ZoneContent) (t : RecordType) (before : ℕ) (owner : DomainName) (a : Answer) : Type 0 where
  pub count : ℕ
  pub all : before + count ≡ 7
  pub records : List Record
  pub end : DomainName
  pub links : Links zone t count owner records end
  pub of_zone : IsOfZone zone t end
  pub next : DomainName
  pub alias : IsLinked zone.rows end 1 next
  pub answers : a.answers ≡ records

-- an answer stops where aliases end, or after seven of them
abbrev pub GoesAlong : ZoneContent → RecordType → ℕ → DomainName → Answer → Type 0
GoesAlong zone t before owner a = HasCourse zone t before owner a ⊎ IsCut zone t before owner a

module _ (zone : ZoneContent) (good : IsZone zone) (t : RecordType) where
  stops-here : (before : ℕ) (owner : DomainName) (a : Answer) → before ≤ 7 → Ending zone t owner a → HasCourse zone t before owner a
  stops-here before owner a few ending = record {
    count = 0;
    few = omega arith;
    records = [];
    end = owner;
    links = no_alias owner;
    last = a;
    ending = ending;
    code = refl;
    answers = refl;
    authorities = refl;
  }

  course-by : (before : ℕ) (owner : DomainName) (found aliases : List Row) (on_alias : Row → Answer) → before ≤ 7 → IsOfZone zone t owner
      → rows_at zone.rows owner.labels t ≡ found → rows_at zone.rows owner.labels types.CNAME ≡ aliases
      → ((row : Row) (more : List Row) → HasNoRows zone t owner → rows_at zone.rows owner.labels types.CNAME ≡ row ∷ more
      → GoesAlong zone t before owner (on_alias row))
      → GoesAlong zone t before owner (answer_by zone owner found aliases on_alias)
  course-by before owner [] [] on_alias few of_zone e f next =
      inl (stops-here before owner (negative zone owner.labels) few (ends_negative (record { is_there = of_zone; none = e }) f))
  course-by before owner [] (row ∷ more) on_alias few of_zone e f next = next row more (record { is_there = of_zone; none = e }) f
  course-by before owner (row ∷ more) aliases on_alias few of_zone e f next =
      inl (stops-here before owner (positive owner (row ∷ more)) few (ends_found row more of_zone e))

  -- the answer after an alias
  course-after : (before left : ℕ) (answer_of : DomainName → Answer) (owner : DomainName) (row : Row) (more : List Row) (target : CNAME)
      → before + suc left ≡ 7 → HasNoRows zone t owner → rows_at zone.rows owner.labels types.CNAME ≡ row ∷ more → row.rdata ≡ of.CNAME target
      → (is_followed zone.origin target.0 ≡ true → GoesAlong zone t (suc before) target.0 (answer_of target.0))
      → GoesAlong zone t before owner (after_records (record_of owner row ∷ []) (rest_at answer_of (next_owner zone.origin row.rdata)))
  course-after before left answer_of owner row more target sum none e is next =
      subst
      (λ (d : RData). GoesAlong zone t before owner (after_records (record_of owner row ∷ []) (rest_at answer_of (next_owner zone.origin d))))
      (sym is) (by (is_followed zone.origin target.0) refl)
    where
      on : (a : Answer) → GoesAlong zone t (suc before) target.0 a → GoesAlong zone t before owner (after_records (record_of owner row ∷ []) a)
      on a (inl rest) = inl (record {
        count = suc rest.count;
        few = omega (arith, rest.few);
        records = record_of owner row ∷ rest.records;
        end = rest.end;
        links = one_alias rest.count owner row more target rest.records rest.end none e is rest.links;
        last = rest.last;
        ending = rest.ending;
        code = rest.code;
        answers = ap (λ (rs : List Record). record_of owner row ∷ rs) rest.answers;
        authorities = rest.authorities;
      })
      on a (inr rest) = inr (record {
        count = suc rest.count;
        all = omega (arith, rest.all);
        records = record_of owner row ∷ rest.records;
        end = rest.end;
        links = one_alias rest.count owner row more target rest.records rest.end none e is rest.links;
        of_zone = rest.of_zone;
        next = rest.next;
        alias = rest.alias;
        answers = ap (λ (rs : List Record). record_of owner row ∷ rs) rest.answers;
      })

      by : (b : Bool) → is_followed zone.origin target.0 ≡ b
          → GoesAlong zone t before owner (after_records (record_of owner row ∷ []) (rest_at answer_of (cond b (Some target.0) None)))
      by true followed = on (answer_of target.0) (next followed)
      by false off = inl (record {
        count = 1;
        few = omega (arith, sum);
        records = record_of owner row ∷ [];
        end = target.0;
        links = one_alias 0 owner row more target [] target.0 none e is (no_alias target.0);
        last = bare NoError;
        ending = ends_off off;
        code = refl;
        answers = refl;
        authorities = refl;
      })

  course-at : (left before : ℕ) (owner : DomainName) → before + left ≡ 7 → is_followed zone.origin owner ≡ true
      → GoesAlong zone t before owner (answer_at left zone t owner)
  unfolding answer_at
  course-at zero before owner sum followed =
      course-by before owner (rows_at zone.rows owner.labels t) (rows_at zone.rows owner.labels types.CNAME) (λ row. bare NoError)
      (omega (arith, sum)) (of-zone zone t owner followed) refl refl
      (λ row more none e.
      (let to = alias-target zone good owner row more e in
      inr (record {
        count = 0;
        all = sum;
        records = [];
        end = owner;
        links = no_alias owner;
        of_zone = of-zone zone t owner followed;
        next = to.0.0;
        alias = one_link 0 owner row to.0 no_link (alias-there zone good owner row more e) to.1;
        answers = refl;
      })))
  course-at (suc left) before owner sum followed =
      course-by before owner (rows_at zone.rows owner.labels t) (rows_at zone.rows owner.labels types.CNAME)
      (λ row. after_records (record_of owner row ∷ []) (rest_at (answer_at left zone t) (next_owner zone.origin row.rdata))) (omega (arith, sum))
      (of-zone zone t owner followed) refl refl
      (λ row more none e.
      (let to = alias-target zone good owner row more e in
      course-after before left (answer_at left zone t) owner row more to.0 sum none e to.1
      (λ on. course-at left (suc before) to.0.0 (omega (arith, sum)) on)))

-- ---- chains in the rows

-- a name to which at least so many aliases lead
pub record IsLinkedFar (rows : Rows) (from : DomainName) (least : ℕ) (to : DomainName) : Type 0 where
  pub links : ℕ
  pub far : least ≤ links
  pub linked : IsLinked rows from links to

pub linked-through : {rows : Rows} {from mid to : DomainName} {links more : ℕ} → IsLinked rows from links mid → IsLinked rows mid more to
    → IsLinkedFar rows from (links + more) to
linked-through {links = links} first no_link = record { links = links; far = omega arith; linked = first }
linked-through first (one_link more owner row alias rest there is) =
    let r = linked-through first rest in
    record { links = suc r.links; far = omega (arith, r.far); linked = one_link r.links owner row alias r.linked there is }

-- aliases that an answer follows are links in the rows
pub links-linked : (zone : ZoneContent) → IsZone zone → (t : RecordType) {n : ℕ} {owner end : DomainName} {records : List Record}
    → Links zone t n owner records end → IsLinkedFar zone.rows owner n end
links-linked zone good t (no_alias owner) = record { links = 0; far = omega arith; linked = no_link }
links-linked zone good t (one_alias n owner row more target records end none e is rest) =
    let r = links-linked zone good t rest in
    let first : IsLinked zone.rows owner 1 target.0 = one_link 0 owner row target no_link (alias-there zone good owner row more e) is in
    let all = linked-through first r.linked in
    record { links = all.links; far = omega (arith, r.far, all.far); linked = all.linked }

-- where no chain through a name passes seven links, no answer to a question for it is cut off
pub never-cut : (zone : ZoneContent) → IsZone zone → (t : RecordType) (name : DomainName) (a : Answer) → IsCut zone t 0 name a
    → HasShortAliasesAt zone name → ⊥
never-cut zone good t name a cut short =
    let seven = links-linked zone good t cut.links in
    let eight = linked-through seven.linked cut.alias in
    let bound : 0 + eight.links ≤ 7 = short 0 eight.links name name cut.next no_link refl eight.linked in
    omega (arith, cut.all, seven.far, eight.far)

-- nor does a chain through the end of one that is
pub never-cut-at : (zone : ZoneContent) → IsZone zone → (t : RecordType) (name end : DomainName) (a : Answer) → (cut : IsCut zone t 0 name a)
    → end ≡ cut.end → HasShortAliasesAt zone end → ⊥
never-cut-at zone good t name end a cut same short =
    let seven = links-linked zone good t cut.links in
    let on : IsLinked zone.rows end 1 cut.next = subst (λ (x : DomainName). IsLinked zone.rows x 1 cut.next) (sym same) cut.alias in
    let bound : seven.links + 1 ≤ 7 =
    short seven.links 1 name cut.end cut.next seven.linked (ap (λ (x : DomainName). lower x.labels) (sym same)) on in
    omega (arith, cut.all, seven.far)

-- ---- which questions are answered along aliases

range-off : (a b c : Bool) → b ≡ false → c ≡ false → (a && b) || c ≡ true → ⊥
range-off true b c e f h = true≢false (sym h ∙ (λ i. e i || f i))
range-off false b c e f h = true≢false (sym h ∙ f)

above : (n : ℕ) → nat_le 128 n ≡ true → nat_le n 127 ≡ false
above n h = grind (arith, nat_tests)

below : (n : ℕ) → nat_le n 255 ≡ true → nat_lt 255 n ≡ false
below n h = grind (arith, nat_tests)

-- rows may have a plain type
pub plain-rows : (n : ℕ) → is_plain_number n ≡ true → is_no_row_type n ≡ false
plain-rows n plain = by (n == 0) (n == 24) (n == 41) (nat_le 128 n && nat_le n 255) refl refl refl refl
  where
    by : (a b c d : Bool) → (n == 0) ≡ a → (n == 24) ≡ b → (n == 41) ≡ c → nat_le 128 n && nat_le n 255 ≡ d → a || (b || (c || d)) ≡ false
    by true b c d e f g h = absurd (not-plain n 0 plain (equal-numbers n 0 e) refl)
    by false true c d e f g h = absurd (not-plain n 24 plain (equal-numbers n 24 f) refl)
    by false false true d e f g h = absurd (not-plain n 41 plain (equal-numbers n 41 g) refl)
    by false false false true e f g h =
        let parts = both-true (nat_le 128 n) (nat_le n 255) h in
        absurd (range-off (nat_le 1 n) (nat_le n 127) (nat_lt 255 n) (above n parts.0) (below n parts.1)
        (both-true ((nat_le 1 n && nat_le n 127) || nat_lt 255 n) _ plain).0)
    by false false false false e f g h = refl

module _ (zone : ZoneContent) (q : Query) (typed : is_no_row_type (type_number q.query_type) ≡ false) where
  pub refused-answer : not (class_number q.query_class == 1) || not (at_or_below zone.origin.labels q.name.labels) ≡ true → answer zone q ≡ bare Refused
  refused-answer out = λ i. cond (typed i) (bare NotImp) (cond (out i) (bare Refused) (answer_at max_aliases zone q.query_type q.name))

  inside-answer : not (class_number q.query_class == 1) || not (at_or_below zone.origin.labels q.name.labels) ≡ false
      → answer zone q ≡ answer_at max_aliases zone q.query_type q.name
  inside-answer in_zone = λ i. cond (typed i) (bare NotImp) (cond (in_zone i) (bare Refused) (answer_at max_aliases zone q.query_type q.name))

  -- the answer to a question for a name that is followed
  pub answer-course : IsZone zone
      → not (class_number q.query_class == 1) || not (at_or_below zone.origin.labels q.name.labels) ≡ false
      → is_followed zone.origin q.name ≡ true → GoesAlong zone q.query_type 0 q.name (answer zone q)
  answer-course good in_zone followed =
      subst (λ (a : Answer). GoesAlong zone q.query_type 0 q.name a) (sym (inside-answer in_zone))
      (course-at zone good q.query_type 7 0 q.name refl followed)

-- ---- the walk along aliases

-- a walk goes along them, if there are not too many
pub walk-along : {zone : ZoneContent} {t : RecordType} {n : ℕ} {owner end : DomainName} {records : List Record} {conclusion : Conclusion} (budget : ℕ)
    → Links zone t n owner records end → n ≤ budget → ((left : ℕ) → Walk zone t left end conclusion) → Walk zone t budget owner conclusion
walk-along budget (no_alias owner) few walk = walk budget
walk-along zero (one_alias n owner row more target records end none e is rest) few walk = absurd (omega arith)
walk-along {conclusion = conclusion} (suc budget) (one_alias n owner row more target records end none e is rest) few walk =
    at_alias budget owner row more target conclusion none e is (walk-along budget rest (omega arith) walk)
