-- What a client reads from a message that holds the answer of a zone: the end of its aliases, and the records that it finds there.
use Rattle.std.proofs.Common.{◌≡◌, ℕ, ◌==◌, ◌&&◌, ◌||◌, ◌++◌, Bool, true, false, cond, not, List, [], ◌∷◌, map, filter, is_some, All, refl, sym, ap, subst, ◌∙◌, arith}
use Rattle.std.specs.List.{list_any}
use Rattle.std.proofs.lemmas.Bool.{true≢false}
use Rattle.std.proofs.lemmas.Bool.Decides.{nat_tests}
use Rattle.std.proofs.lemmas.List.{append-nil}
use Rattle.std.proofs.lemmas.List.Elements.{All-head, All-map, All-tail, filter-append}
use Rattle.dns_wire.specs.codes.DNSClass.{class_number}
use Rattle.dns_wire.specs.codes.RecordType.{type_number}
use Rattle.dns_wire.specs.declared.codes.record_type.RecordType.{RecordType}
use Rattle.dns_wire.specs.declared.codes.record_type.RecordType.TheVariants as types
use Rattle.dns_names.specs.Compare.{same_name}
use Rattle.dns_names.specs.Name.{DomainName}
use Rattle.dns_names.specs.internal.Compare.{same_name-equivalence}
use Rattle.dns_records.specs.Record.{Record}
use Rattle.dns_records.specs.Rows.{rows_at}
use Rattle.dns_records.specs.declared.row.Row.{Row}
use Rattle.dns_messages.specs.Message.{all_records, is_without_dnssec, strip_for, stripped}
use Rattle.dns_messages.specs.Response.{answers_question, contains_answer, has_type, in_sections, is_answer_of_type, is_at, is_empty, soa_in}
use Rattle.dns_messages.specs.declared.message.Message.{Message}
use Rattle.dns_messages.specs.declared.query.Query.{Query}
use Rattle.dns_zone.specs.Answer.{answer, authority, record_of}
use Rattle.dns_zone.specs.Rows.{IsZone, ZoneContent}
use Rattle.dns_zone.specs.declared.zone.answer.Answer.{Answer}
use Rattle.stub_client.specs.Conclusions.{value_of, values}
use Rattle.stub_client.specs.Step.{asks_for, chain_of, chain_over, chain_start, extended, found, given_answers, given_message, has_class, is_at_either, is_end_found, is_found, is_given, is_kept_alias, is_negative_end, is_selected, lowered, next_name, questions_or, selected_answers}
use Rattle.stub_client.specs.declared.caching_client.chain.Chain.{Chain}
use Rattle.stub_client.specs.declared.caching_client.step.LookupSettings.{LookupSettings}
use Rattle.stub_laws.specs.history.Answered.{HoldsAnswer, is_plain_number}
use Rattle.stub_laws.proofs.AnswerRowLaws.{IsSoaRecord, Typed, alias-typed, equal-numbers, not-plain, number_of, only-soa, typed-at}
use Rattle.stub_laws.proofs.ChainLaws.{alias-stays, follows, next-chain, same-over}
use Rattle.stub_laws.proofs.EndLaws.{has-soa, is_followed}
use Rattle.stub_laws.proofs.CourseLaws.{Ending, HasCourse, Links, ends_found, ends_negative, ends_off, no_alias, one_alias}

-- ---- tests

pub equal-test : (m n : ℕ) → m ≡ n → (m == n) ≡ true
equal-test m n h = grind (arith, nat_tests)

pub other-test : (m n : ℕ) → (m ≡ n → ⊥) → (m == n) ≡ false
other-test m n h = by (m == n) refl
  where
    by : (b : Bool) → (m == n) ≡ b → b ≡ false
    by true e = absurd (h (equal-numbers m n e))
    by false e = refl

pub or-left : (a b : Bool) → a ≡ true → a || b ≡ true
or-left true b h = refl
or-left false b h = absurd (true≢false (sym h))

pub or-right : (a b : Bool) → b ≡ true → a || b ≡ true
or-right true b h = refl
or-right false b h = h

pub all-three : (a b c : Bool) → a ≡ true → b ≡ true → c ≡ true → a && (b && c) ≡ true
all-three a b c e f g = (λ i. e i && (f i && g i))

pub not-second : (a b c : Bool) → b ≡ false → a && (b && c) ≡ false
not-second true b c e = λ i. e i && c
not-second false b c e = refl

-- ---- lists that are filtered

module _ (p : Record → Bool) where
  pub filter-all : (xs : List Record) → All (λ r. p r ≡ true) xs → filter p xs ≡ xs
  filter-all [] h = refl
  filter-all (x ∷ xs) h =
      ap (λ (b : Bool). cond b (x ∷ filter p xs) (filter p xs)) (All-head (λ r. p r ≡ true) x xs h)
      ∙ ap (λ (ys : List Record). x ∷ ys) (filter-all xs (All-tail (λ r. p r ≡ true) x xs h))

  pub filter-none : (xs : List Record) → All (λ r. p r ≡ false) xs → filter p xs ≡ []
  filter-none [] h = refl
  filter-none (x ∷ xs) h =
      ap (λ (b : Bool). cond b (x ∷ filter p xs) (filter p xs)) (All-head (λ r. p r ≡ false) x xs h)
      ∙ filter-none xs (All-tail (λ r. p r ≡ false) x xs h)

some-before : (xs ys : List Record) → is_empty xs ≡ false → is_empty (xs ++ ys) ≡ false
some-before [] ys h = absurd (true≢false h)
some-before (x ∷ xs) ys h = refl

pub some-after : (xs : List Record) (y : Record) (ys : List Record) → is_empty (xs ++ y ∷ ys) ≡ false
some-after [] y ys = refl
some-after (x ∷ xs) y ys = refl

-- ---- chains over an answer

pub over-append : (c : Chain) (xs ys : List Record) → chain_over c (xs ++ ys) ≡ chain_over (chain_over c xs) ys
over-append c [] ys = refl
over-append c (x ∷ xs) ys = over-append (extended c x.ttl (next_name c.name x x.rdata)) xs ys

pub links-end : {zone : ZoneContent} {t : RecordType} {n : ℕ} {owner end : DomainName} {records : List Record} → Links zone t n owner records end
    → (c : Chain) → c.name ≡ owner → (chain_over c records).name ≡ end
links-end (no_alias owner) c at = at
links-end (one_alias n owner row more target records end none e is rest) c at =
    ap (λ (next : Chain). (chain_over next records).name) (follows c owner row target is at) ∙ links-end rest (next-chain c row target) refl

-- aliases lead from a name that is followed to one that is not
pub links-some : {zone : ZoneContent} {t : RecordType} {n : ℕ} {owner end : DomainName} {records : List Record} → Links zone t n owner records end
    → is_followed zone.origin owner ≡ true → is_followed zone.origin end ≡ false
    → (is_empty records ≡ false) × ((c : Chain) → c.name ≡ owner → (chain_over c records).is_alias ≡ true)
links-some (no_alias owner) on off = absurd (true≢false (sym on ∙ off))
links-some (one_alias n owner row more target records end none e is rest) on off = (
  refl,
  λ c at.
      ap (λ (next : Chain). (chain_over next records).is_alias) (follows c owner row target is at) ∙ alias-stays (next-chain c row target) records refl,
)

module _ (zone : ZoneContent) (good : IsZone zone) (t : RecordType) (plain : is_plain_number (type_number t) ≡ true) where
  over-ending : {end : DomainName} {last : Answer} → Ending zone t end last → (c : Chain) → chain_over c last.answers ≡ c
  over-ending {end} (ends_found row more of_zone e) c =
      same-over zone good t plain c end (row ∷ more) (subst (λ (all : List Row). All (Typed (type_number t)) all) e (typed-at zone good end.labels t))
  over-ending (ends_negative none e) c = refl
  over-ending (ends_off off) c = refl

  -- ---- records of other types are not found

  module _ (p : Record → Bool) (other : (r : Record) → (number_of r ≡ type_number t → ⊥) → p r ≡ false) where
    filter-links : {n : ℕ} {owner end : DomainName} {records : List Record} → Links zone t n owner records end → (rest : List Record)
        → filter p (records ++ rest) ≡ filter p rest
    filter-links (no_alias owner) rest = refl
    filter-links (one_alias n owner row more target records end none e is links) rest =
        ap (λ (b : Bool). cond b (record_of owner row ∷ filter p (records ++ rest)) (filter p (records ++ rest)))
        (other (record_of owner row) (λ typed. not-plain (type_number t) 5 plain (sym typed ∙ alias-typed zone good t owner row more e) refl))
        ∙ filter-links links rest

    filter-soa : (xs : List Record) → All IsSoaRecord xs → filter p xs ≡ []
    filter-soa xs all =
        filter-none p xs (λ k d less. other _ (λ typed. not-plain (type_number t) 6 plain (sym typed ∙ all k d less) refl))

-- ---- a message that holds an answer

pub alias-test : (n : ℕ) → is_plain_number n ≡ true → (a b : Bool) → (n == 5) ≡ a → (n == 255) ≡ b → a || b ≡ false
alias-test n plain true b e f = absurd (not-plain n 5 plain (equal-numbers n 5 e) refl)
alias-test n plain false true e f = absurd (not-plain n 255 plain (equal-numbers n 255 f) refl)
alias-test n plain false false e f = refl

module _ (zone : ZoneContent) (good : IsZone zone) (q : Query) (plain : is_plain_number (type_number q.query_type) ≡ true) (m : Message)
    (holds : HoldsAnswer zone q m) (course : HasCourse zone q.query_type 0 q.name (answer zone q)) where
  answers-are : m.answers ≡ course.records ++ course.last.answers
  answers-are = holds.answers ∙ course.answers

  chain-is : chain_of q m ≡ chain_over (chain_start q) course.records
  chain-is =
      ap (λ (b : Bool). cond b (chain_start q) (chain_over (chain_start q) m.answers))
      (alias-test (type_number q.query_type) plain (type_number q.query_type == 5) (type_number q.query_type == 255) refl refl)
      ∙ ap (chain_over (chain_start q)) answers-are
      ∙ over-append (chain_start q) course.records course.last.answers
      ∙ over-ending zone good q.query_type plain course.ending (chain_over (chain_start q) course.records)

  -- the aliases end where the answer stops
  pub chain-end : (chain_of q m).name ≡ course.end
  chain-end = ap (λ (c : Chain). c.name) chain-is ∙ links-end course.links (chain_start q) refl

  module _ (p : Record → Bool) (other : (r : Record) → (number_of r ≡ type_number q.query_type → ⊥) → p r ≡ false) where
    filter-rest : filter p (m.authorities ++ m.additionals) ≡ []
    filter-rest =
        filter-append p m.authorities m.additionals
        ∙ (λ i. filter p (holds.authorities i) ++ filter p (holds.additionals i))
        ∙ append-nil (filter p (answer zone q).authorities)
        ∙ filter-soa zone good q.query_type plain p other (answer zone q).authorities (only-soa zone good q)

    -- only records where the answer stops are found
    pub filter-message : filter p (all_records m) ≡ filter p course.last.answers
    filter-message =
        filter-append p m.answers (m.authorities ++ m.additionals)
        ∙ ap (λ (rs : List Record). filter p m.answers ++ rs) filter-rest
        ∙ append-nil (filter p m.answers)
        ∙ ap (filter p) answers-are
        ∙ filter-links zone good q.query_type plain p other course.links course.last.answers

  -- ---- what is found

  not-asked-for : (r : Record) → (number_of r ≡ type_number q.query_type → ⊥) → asks_for q r ≡ false
  not-asked-for r differs =
      let any : (type_number q.query_type == 255) ≡ false =
      other-test (type_number q.query_type) 255 (λ e. not-plain (type_number q.query_type) 255 plain e refl) in
      let same : has_type q.query_type r ≡ false = other-test (number_of r) (type_number q.query_type) differs in
      λ i. any i || same i

  pub not-found : (r : Record) → (number_of r ≡ type_number q.query_type → ⊥) → is_found q (chain_of q m).name r ≡ false
  not-found r differs =
      not-second (has_class q r) (asks_for q r) (is_at_either (chain_of q m).name q r) (not-asked-for r differs)

  -- with an alias that is left out
  module _ (settings : LookupSettings) (off : settings.preserve_intermediates ≡ false) where
    pub not-found-either : (r : Record) → (number_of r ≡ type_number q.query_type → ⊥)
        → is_found q (chain_of q m).name r || is_kept_alias settings q r ≡ false
    not-found-either r differs = λ i. not-found r differs i || (off i && (has_class q r && has_type types.CNAME r))

  -- ---- where nothing is found

  pub nothing-found : course.last.answers ≡ [] → found q (chain_of q m) m ≡ []
  nothing-found none =
      filter-message (is_found q (chain_of q m).name) not-found ∙ ap (filter (is_found q (chain_of q m).name)) none

  pub not-given : course.last.answers ≡ [] → is_given q (chain_of q m) [] m ≡ false
  not-given none = ap (λ (rs : List Record). not (is_empty rs) && (not (chain_of q m).is_alias || is_empty {X = Record} [])) (nothing-found none)

  -- whether it is a negative answer at the end of aliases
  pub negative-end : course.last.answers ≡ [] → (alias soa : Bool) → (chain_of q m).is_alias ≡ alias → is_some (soa_in m.authorities) ≡ soa
      → is_negative_end q (chain_of q m) m ≡ alias && soa
  negative-end none alias soa e f = λ i. e i && (is_empty (nothing-found none i) && f i)

  -- ---- where rows are found

  module _ (in_internet : class_number q.query_class ≡ 1) (row : Row) (more : List Row)
      (are : rows_at zone.rows course.end.labels q.query_type ≡ row ∷ more) (there : course.last.answers ≡ map (record_of course.end) (row ∷ more)) where
    abbrev Are : Record → Type 0
    Are r = number_of r ≡ type_number q.query_type

    typed : All (Typed (type_number q.query_type)) (row ∷ more)
    typed = subst (λ (all : List Row). All (Typed (type_number q.query_type)) all) are (typed-at zone good course.end.labels q.query_type)

    at-end : same_name course.end (chain_of q m).name ≡ true
    at-end = subst (λ (name : DomainName). same_name course.end name ≡ true) (sym chain-end) (same_name-equivalence.refl course.end)

    row-found : (x : Row) → Typed (type_number q.query_type) x → is_found q (chain_of q m).name (record_of course.end x) ≡ true
    row-found x is =
        all-three (has_class q (record_of course.end x)) (asks_for q (record_of course.end x))
        (is_at_either (chain_of q m).name q (record_of course.end x))
        (equal-test 1 (class_number q.query_class) (sym in_internet))
        (or-right (type_number q.query_type == 255) (has_type q.query_type (record_of course.end x))
        (equal-test (number_of (record_of course.end x)) (type_number q.query_type) is))
        (or-left (same_name course.end (chain_of q m).name) (same_name course.end q.name) at-end)

    -- the rows of the type are found, by each test that they pass
    rows-kept : (p : Record → Bool) → ((r : Record) → (number_of r ≡ type_number q.query_type → ⊥) → p r ≡ false)
        → ((x : Row) → Typed (type_number q.query_type) x → p (record_of course.end x) ≡ true)
        → filter p (all_records m) ≡ map (record_of course.end) (row ∷ more)
    rows-kept p other keeps =
        filter-message p other ∙ ap (filter p) there
        ∙ filter-all p (map (record_of course.end) (row ∷ more))
        (All-map (λ r. p r ≡ true) (record_of course.end) (row ∷ more) (λ k d less. keeps _ (typed k d less)))

    pub rows-found : found q (chain_of q m) m ≡ map (record_of course.end) (row ∷ more)
    rows-found = rows-kept (is_found q (chain_of q m).name) not-found row-found

    pub rows-given : is_given q (chain_of q m) [] m ≡ true
    rows-given =
        ap (λ (rs : List Record). not (is_empty rs) && (not (chain_of q m).is_alias || is_empty {X = Record} [])) rows-found
        ∙ or-right (not (chain_of q m).is_alias) true refl

    end-found : is_end_found q (chain_of q m) m ≡ true
    end-found =
        ap (list_any (λ r. same_name r.name (chain_of q m).name)) rows-found
        ∙ or-left (same_name course.end (chain_of q m).name) (list_any (λ r. same_name r.name (chain_of q m).name) (map (record_of course.end) more)) at-end

    -- ---- what is returned of them

    values-lowered : (most : ℕ) (rs : List Record) → values (map (lowered most) rs) ≡ values rs
    values-lowered most [] = refl
    values-lowered most (r ∷ rs) = ap (λ (vs : List Record). value_of r ∷ vs) (values-lowered most rs)

    -- these are records of the type, and the rows, TTLs aside
    record AreRows (rs : List Record) : Type 0 where
      all_typed : All Are rs
      same : values rs ≡ values (map (record_of course.end) (row ∷ more))

    rows-themselves : AreRows (map (record_of course.end) (row ∷ more))
    rows-themselves = record { all_typed = All-map Are (record_of course.end) (row ∷ more) typed; same = refl }

    rows-lowered : (most : ℕ) → AreRows (map (lowered most) (map (record_of course.end) (row ∷ more)))
    rows-lowered most = record {
      all_typed = All-map Are (lowered most) (map (record_of course.end) (row ∷ more)) rows-themselves.all_typed;
      same = values-lowered most (map (record_of course.end) (row ∷ more));
    }

    module _ (settings : LookupSettings) (off : settings.preserve_intermediates ≡ false) where
      given-by : (alias : Bool) → (chain_of q m).is_alias ≡ alias → (alias ≡ false → course.records ≡ [])
          → AreRows (given_answers settings q (chain_of q m) [] m)
      given-by false e none =
          let chosen : is_selected settings q (chain_of q m) [] m ≡ false = λ i. e i && (is_end_found q (chain_of q m) m && not settings.preserve_intermediates) in
          let same : given_answers settings q (chain_of q m) [] m ≡ map (record_of course.end) (row ∷ more) =
          ap (λ (b : Bool). cond b (selected_answers settings q (chain_of q m) [] m) m.answers) chosen
          ∙ answers-are ∙ ap (λ (rs : List Record). rs ++ course.last.answers) (none refl) ∙ there in
          subst AreRows (sym same) rows-themselves
      given-by true e none =
          let chosen : is_selected settings q (chain_of q m) [] m ≡ true = λ i. e i && (end-found i && not (off i)) in
          let same : given_answers settings q (chain_of q m) [] m ≡ map (lowered (chain_of q m).ttl) (map (record_of course.end) (row ∷ more)) =
          ap (λ (b : Bool). cond b (selected_answers settings q (chain_of q m) [] m) m.answers) chosen
          ∙ ap (map (lowered (chain_of q m).ttl))
          (rows-kept (λ r. is_found q (chain_of q m).name r || is_kept_alias settings q r) (not-found-either settings off)
          (λ x is. or-left (is_found q (chain_of q m).name (record_of course.end x)) (is_kept_alias settings q (record_of course.end x)) (row-found x is))) in
          subst AreRows (sym same) (rows-lowered (chain_of q m).ttl)

      links-none : {n : ℕ} {owner end : DomainName} {records : List Record} → Links zone q.query_type n owner records end → (c : Chain) → c.name ≡ owner
          → (chain_over c records).is_alias ≡ false → records ≡ []
      links-none (no_alias owner) c at e = refl
      links-none (one_alias n owner first others target records end none f is rest) c at e =
          absurd (true≢false (sym (alias-stays (next-chain c first target) records refl)
          ∙ sym (ap (λ (next : Chain). (chain_over next records).is_alias) (follows c owner first target is at)) ∙ e))

      given-rows : AreRows (given_answers settings q (chain_of q m) [] m)
      given-rows =
          given-by (chain_of q m).is_alias refl
          (λ e. links-none course.links (chain_start q) refl (sym (ap (λ (c : Chain). c.is_alias) chain-is) ∙ e))

      -- records of the type are not stripped
      whole : (secure : Bool) (x : Message) → x.queries ≡ q ∷ [] → All Are x.answers → (stripped secure x).answers ≡ x.answers
      whole true x asked all = refl
      whole false x asked all =
          ap (λ (qs : List Query). (strip_for qs x).answers) asked
          ∙ filter-all (is_without_dnssec q.query_type) x.answers
          (λ k d less. or-left _ _ (equal-test _ (type_number q.query_type) (all k d less)))

      -- the message that is returned has the rows of the type, TTLs aside
      pub given-values : m.queries ≡ q ∷ []
          → values (given_message settings q (chain_of q m) [] m).answers ≡ values (map (record_of course.end) (row ∷ more))
      given-values asked =
          ap values (whole settings.dnssec_ok
          (record m { queries = questions_or q m.queries; answers = given_answers settings q (chain_of q m) [] m })
          (ap (questions_or q) asked) given-rows.all_typed)
          ∙ given-rows.same

  -- ---- whether a message contains an answer

  answers-plain : (t : RecordType) → is_plain_number (type_number t) ≡ true → is_empty m.answers ≡ false → is_answer_of_type t q m ≡ true
  answers-plain types.ANY plain some = absurd (true≢false (sym plain))
  answers-plain types.SOA plain some = absurd (true≢false (sym plain))
  answers-plain t plain some = ap (λ (b : Bool). not b || in_sections (λ r. has_type t r && is_at q r) m) some

  pub has-answer : m.queries ≡ q ∷ [] → is_empty m.answers ≡ false → contains_answer m ≡ true
  has-answer asked some =
      ap (list_any (answers_question m)) asked
      ∙ or-left (answers_question m q) (list_any (answers_question m) []) (answers-plain q.query_type plain some)

  -- ---- aliases that lead off

  pub alias-off : is_followed zone.origin q.name ≡ true → is_followed zone.origin course.end ≡ false → (chain_of q m).is_alias ≡ true
  alias-off on off = ap (λ (c : Chain). c.is_alias) chain-is ∙ (links-some course.links on off).1 (chain_start q) refl

  pub answers-off : is_followed zone.origin q.name ≡ true → is_followed zone.origin course.end ≡ false → is_empty m.answers ≡ false
  answers-off on off =
      ap (λ (rs : List Record). is_empty rs) answers-are ∙ some-before course.records course.last.answers (links-some course.links on off).0

  pub answers-found : (row : Row) (more : List Row) → course.last.answers ≡ map (record_of course.end) (row ∷ more) → is_empty m.answers ≡ false
  answers-found row more there =
      ap (λ (rs : List Record). is_empty rs) (answers-are ∙ ap (λ (rs : List Record). course.records ++ rs) there)
      ∙ some-after course.records (record_of course.end row) (map (record_of course.end) more)

  -- ---- authorities

  pub soa-there : course.last.authorities ≡ authority zone → is_some (soa_in m.authorities) ≡ true
  soa-there is = ap (λ (rs : List Record). is_some (soa_in rs)) (holds.authorities ∙ course.authorities ∙ is) ∙ has-soa zone good

  pub soa-missing : course.last.authorities ≡ [] → is_some (soa_in m.authorities) ≡ false
  soa-missing is = ap (λ (rs : List Record). is_some (soa_in rs)) (holds.authorities ∙ course.authorities ∙ is)
