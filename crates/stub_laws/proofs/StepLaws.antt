-- What a client does with the answer of a zone agrees with walks over the zone.
use Rattle.std.proofs.Common.{◌≡◌, ℕ, ◌==◌, ◌&&◌, ◌||◌, suc, nat_lt, Bool, true, false, cond, not, List, [], ◌∷◌, map, Some, None, Ok, refl, sym, ap, subst, ◌∙◌, inl, inr, arith}
use Rattle.std.specs.Prelude.{◌⊎◌, Option}
use Rattle.std.proofs.lemmas.Bool.{cond_both, true≢false}
use Rattle.dns_wire.specs.codes.DNSClass.{class_number, class_of}
use Rattle.dns_wire.specs.codes.RecordType.{type_number, type_of}
use Rattle.dns_names.specs.Compare.{at_or_below}
use Rattle.dns_names.specs.Name.{DomainName}
use Rattle.dns_records.specs.Record.{Record}
use Rattle.dns_records.specs.Rows.{rows_at, some_row_below}
use Rattle.dns_records.specs.declared.row.Row.{Row}
use Rattle.dns_messages.specs.Response.{contains_answer}
use Rattle.dns_messages.specs.declared.message.Message.{Message}
use Rattle.dns_messages.specs.declared.query.Query.{Query}
use Rattle.dns_messages.specs.declared.response.DnsResponse.{DnsResponse}
use Rattle.dns_messages.specs.declared.response_code.ResponseCode.{ResponseCode}
use Rattle.dns_messages.specs.declared.response_code.ResponseCode.TheVariants.{NoError, NXDomain, Refused}
use Rattle.dns_zone.specs.Answer.{answer, bare, is_no_row_type, negative, positive, record_of}
use Rattle.dns_zone.specs.Rows.{IsZone, ZoneContent}
use Rattle.dns_zone.specs.declared.zone.answer.Answer.{Answer}
use Rattle.stub_lookup.specs.Outcome.{error_by_code, error_in, error_without_answer, no_records_in, unless_error}
use Rattle.stub_lookup.specs.declared.error.DnsError.{DnsError}
use Rattle.stub_lookup.specs.declared.error.DnsError.TheVariants as dns
use Rattle.stub_lookup.specs.declared.error.NetError.{NetError}
use Rattle.stub_lookup.specs.declared.error.NetError.TheVariants as errors
use Rattle.stub_hosts.specs.Hosts.{question}
use Rattle.stub_client.specs.Conclusions.{Conclusion, ErrorComesTo, Finds, Lacks, Refuses, StepComesTo}
use Rattle.stub_client.specs.Handle.{Outcome}
use Rattle.stub_client.specs.SpecialNames.{in_class, name_answer, special_answer}
use Rattle.stub_client.specs.Step.{asks_for_aliases, chain_of, chain_over, chain_start, given_message, is_given, is_negative_end, kept_aliases, max_depth, meaning, next_question, nothing_found, step_along, step_of, step_on}
use Rattle.stub_client.specs.declared.caching_client.step.LookupSettings.{LookupSettings}
use Rattle.stub_client.specs.declared.caching_client.step.Step.{Step}
use Rattle.stub_client.specs.declared.caching_client.step.Step.TheVariants.{Gives, Misses, Stops, Follows}
use Rattle.stub_client.specs.declared.special_names.SpecialAnswer.TheVariants.{Ordinary}
use Rattle.stub_client.proofs.StepCases.{outcome-cases, reply-cases}
use Rattle.stub_laws.specs.history.Answered.{is_plain}
use Rattle.stub_laws.proofs.EndLaws.{is_followed}
use Rattle.stub_laws.proofs.StandLaws.{both-true}
use Rattle.stub_laws.specs.walk.Answered.{IsZoneReply}
use Rattle.stub_laws.specs.walk.Walk.{AgreesWithWalk, HasShortAliasesIn, IsOfZone, Walk}
use Rattle.stub_laws.specs.walk.Walk.Walk.{at_foreign_name, at_nothing, at_rows}
use Rattle.stub_laws.proofs.CourseLaws.{Ending, HasCourse, IsCut, ends_found, ends_negative, ends_off, never-cut, never-cut-at, plain-rows, refused-answer, walk-along}
use Rattle.stub_laws.proofs.ReadLaws.{alias-off, alias-test, answers-found, answers-off, chain-end, equal-test, given-values, has-answer, links-end, negative-end, not-given, rows-given, soa-missing, soa-there}
use Rattle.stub_laws.proofs.WalkLaws.{followed-of, of-zone, plain-direct, walk-off}

-- ---- questions

-- a question of the class of the Internet is as special as its name
pub special-question : (q : Query) → class_number q.query_class ≡ 1 → special_answer q ≡ special_answer (question q.name q.query_type)
special-question q in_internet = ap (λ (n : ℕ). in_class (class_of n) (name_answer q.name (type_of (type_number q.query_type)))) in_internet

pub not-inside : (x y : Bool) → x ≡ true → not x || not y ≡ true → y ≡ false
not-inside true true e h = absurd (true≢false (sym h))
not-inside true false e h = refl
not-inside false y e h = absurd (true≢false (sym e))

pub both-inside : (x y : Bool) → not x || not y ≡ false → (x ≡ true) × (y ≡ true)
both-inside true true h = (refl, refl)
both-inside true false h = absurd (true≢false h)
both-inside false y h = absurd (true≢false h)

-- At a depth of aliases a question is the first one, or its name is not followed by the zone, unless a chain through its name passes
-- seven links.
abbrev pub WithinWalk : ZoneContent → ℕ → Query → Type 0
WithinWalk zone depth q =
    is_plain q.query_type ≡ true → class_number q.query_class ≡ 1 → HasShortAliasesIn zone q.query_type q.name → (depth ≡ 0) ⊎ (is_followed zone.origin q.name ≡ false)

-- whether a question is refused because of its class or its name
abbrev pub is_out : ZoneContent → Query → Bool
is_out zone q = not (class_number q.query_class == 1) || not (at_or_below zone.origin.labels q.name.labels)

module _ (zone : ZoneContent) (settings : LookupSettings) (depth : ℕ) (q : Query) where
  abbrev pub Bears : Step → Type 0
  Bears step = StepComesTo (AgreesWithWalk zone) (WithinWalk zone) depth q step

  error-bears : ((conclusion : Conclusion) → AgreesWithWalk zone q conclusion) → (error : NetError) → ErrorComesTo (AgreesWithWalk zone) q error
  error-bears all (errors.Dns (dns.NoRecordsFound answer)) = all (Lacks answer.response_code)
  error-bears all (errors.Dns (dns.ResponseCode code)) = all (Refuses code)
  error-bears all (errors.Proto error) = tt
  error-bears all (errors.Message text) = tt
  error-bears all (errors.Link fault) = tt
  error-bears all errors.Unsupported = tt
  error-bears all errors.Memory = tt

  -- of types that no row has nothing is claimed
  pub nothing-claimed : (is_no_row_type (type_number q.query_type) ≡ false → ⊥) → (out : Outcome) → Bears (step_on settings q [] depth out)
  nothing-claimed never out =
      outcome-cases settings q [] depth Bears out
      (λ response is. reply-cases settings q [] depth Bears response.message
      (λ given. λ typed in_internet direct short. absurd (never typed))
      (λ none ends. λ typed in_internet direct short. absurd (never typed))
      (λ none no_end alias above. (
        (λ plain in_internet short. absurd (never (plain-rows (type_number q.query_type) plain))),
        λ conclusion comes. λ typed in_internet direct short. absurd (never typed),
      ))
      (λ typed in_internet direct short. absurd (never typed)))
      (λ answer. λ typed in_internet direct short. absurd (never typed))
      (λ error failure is. error-bears (λ conclusion typed in_internet direct short. absurd (never typed)) error)

  module _ (typed : is_no_row_type (type_number q.query_type) ≡ false) (response : DnsResponse) (reply : IsZoneReply zone q response.message) where
    abbrev m : Message
    m = response.message

    -- the step after a response, by the error that it means
    step-by : (o : Option DnsError) → error_in m ≡ o → Bears (step_on settings q [] depth (unless_error response o))
        → Bears (step_of settings q [] depth (Ok response))
    step-by o e h = subst (λ (x : Option DnsError). Bears (step_on settings q [] depth (unless_error response x))) (sym e) h

    -- ---- refused

    refused-error : is_out zone q ≡ true → error_in m ≡ Some (dns.ResponseCode Refused)
    refused-error out =
        ap (λ (code : ResponseCode). error_by_code code m) (reply.holds.code ∙ ap (λ (a : Answer). a.code) (refused-answer zone q typed out))

    pub refused-step : is_out zone q ≡ true → step_of settings q [] depth (Ok response) ≡ Stops (errors.Dns (dns.ResponseCode Refused))
    refused-step out = ap (λ (x : Option DnsError). step_on settings q [] depth (unless_error response x)) (refused-error out)

    pub refused-bears : special_answer q ≡ Ordinary → is_out zone q ≡ true → Bears (step_of settings q [] depth (Ok response))
    refused-bears ordinary out =
        step-by (Some (dns.ResponseCode Refused)) (refused-error out)
        (λ typed in_internet direct short.
        at_foreign_name 7 q.name (sym (special-question q in_internet) ∙ ordinary)
        (not-inside (class_number q.query_class == 1) (at_or_below zone.origin.labels q.name.labels)
        (equal-test (class_number q.query_class) 1 in_internet) out))

    -- ---- answered

    no-error : m.metadata.response_code ≡ NoError → contains_answer m ≡ true → error_in m ≡ None
    no-error code some =
        ap (λ (c : ResponseCode). error_by_code c m) code
        ∙ ap (λ (b : Bool). cond (b || m.metadata.truncation) None (Some (dns.NoRecordsFound (no_records_in m)))) some

    error-by-existence : (exists : Bool) → error_by_code (cond exists NoError NXDomain) m ≡ error_without_answer m
    error-by-existence true = refl
    error-by-existence false = refl

    -- an answer that is cut off after seven aliases
    module _ (good : IsZone zone) (followed : is_followed zone.origin q.name ≡ true) (cut : IsCut zone q.query_type 0 q.name (answer zone q)) where
      -- where no chain passes seven links there is none
      nothing-cut : (conclusion : Conclusion) → AgreesWithWalk zone q conclusion
      nothing-cut conclusion = λ typed in_internet direct short.
          absurd (never-cut zone good q.query_type q.name (answer zone q) cut (short (of-zone zone q.query_type q.name followed)))

      same-response : (o : Option DnsError) (other : DnsResponse) → unless_error response o ≡ Ok other → response ≡ other
      same-response None other e = cc
      same-response (Some error) other e = absurd (cc)

      cut-target : (other : DnsResponse) → unless_error response (error_in m) ≡ Ok other → is_plain q.query_type ≡ true
          → (chain_of q other.message).name ≡ cut.end
      cut-target other is plain =
          let same : response ≡ other = same-response (error_in m) other is in
          let not-aliases : asks_for_aliases q ≡ false =
          alias-test (type_number q.query_type) plain (type_number q.query_type == 5) (type_number q.query_type == 255) refl refl in
          ap (λ (r : DnsResponse). (chain_of q r.message).name) (sym same)
          ∙ ap (λ (b : Bool). (cond b (chain_start q) (chain_over (chain_start q) m.answers)).name) not-aliases
          ∙ ap (λ (rs : List Record). (chain_over (chain_start q) rs).name) (reply.holds.answers ∙ cut.answers)
          ∙ links-end cut.links (chain_start q) refl

      -- the next question is for a name in the zone, through which a chain passes seven links
      cut-within : (target : Query) → target.query_type ≡ q.query_type → target.name ≡ cut.end → WithinWalk zone (suc depth) target
      cut-within target kind end plain in_internet short = by (is_followed zone.origin target.name) refl
        where
          by : (b : Bool) → is_followed zone.origin target.name ≡ b → (suc depth ≡ 0) ⊎ (is_followed zone.origin target.name ≡ false)
          by false off = inr off
          by true on =
              absurd (never-cut-at zone good q.query_type q.name target.name (answer zone q) cut end
              (short (of-zone zone target.query_type target.name on)))

      pub cut-bears : is_plain q.query_type ≡ true → Bears (step_of settings q [] depth (Ok response))
      cut-bears plain =
          outcome-cases settings q [] depth Bears (meaning (Ok response))
          (λ other is. reply-cases settings q [] depth Bears other.message
          (λ given. nothing-cut _)
          (λ none ends. nothing-cut _)
          (λ none no_end alias above. (
            cut-within (next_question q (chain_of q other.message)) refl (cut-target other is plain),
            λ conclusion comes. nothing-cut conclusion,
          ))
          (nothing-cut _))
          (λ answer. nothing-cut _)
          (λ error failure is. error-bears nothing-cut error)

    module _ (plain : is_plain q.query_type ≡ true) (good : IsZone zone)
        (off : settings.preserve_intermediates ≡ false) (in_internet : class_number q.query_class ≡ 1)
        (followed : is_followed zone.origin q.name ≡ true) (inside : is_out zone q ≡ false) (within : WithinWalk zone depth q)
        (course : HasCourse zone q.query_type 0 q.name (answer zone q)) where
      walk-through : (conclusion : Conclusion) → ((left : ℕ) → Walk zone q.query_type left course.end conclusion) → AgreesWithWalk zone q conclusion
      walk-through conclusion walk = λ typed in_internet direct short. walk-along 7 course.links (omega (arith, course.few)) walk

      found-bears : (row : Row) (more : List Row) → IsOfZone zone q.query_type course.end
          → rows_at zone.rows course.end.labels q.query_type ≡ row ∷ more → course.last ≡ positive course.end (row ∷ more)
          → Bears (step_of settings q [] depth (Ok response))
      found-bears row more of_zone are is =
          let there : course.last.answers ≡ map (record_of course.end) (row ∷ more) = ap (λ (a : Answer). a.answers) is in
          let code : m.metadata.response_code ≡ NoError = reply.holds.code ∙ course.code ∙ ap (λ (a : Answer). a.code) is in
          let some = answers-found zone good q plain m reply.holds course row more there in
          step-by None (no-error code (has-answer zone good q plain m reply.holds course reply.repeats some))
          (cond_both (is_given q (chain_of q m) [] m) (Gives (given_message settings q (chain_of q m) [] m)) _ Bears
          (λ given. subst (λ (vs : List Record). AgreesWithWalk zone q (Finds vs))
          (sym (given-values zone good q plain m reply.holds course in_internet row more are there settings off reply.repeats))
          (walk-through (Finds _) (λ left. at_rows left course.end row more of_zone are)))
          (λ none. absurd (true≢false (sym (rows-given zone good q plain m reply.holds course in_internet row more are there) ∙ none))))

      lacks-bears : {conclusion : ResponseCode} → m.metadata.response_code ≡ conclusion → AgreesWithWalk zone q (Lacks conclusion)
          → course.last.answers ≡ [] → is_negative_end q (chain_of q m) m ≡ (chain_of q m).is_alias
          → Bears (step_along settings q (chain_of q m) [] depth m)
      lacks-bears code lacks none ends =
          let at : AgreesWithWalk zone q (Lacks m.metadata.response_code) =
          subst (λ (c : ResponseCode). AgreesWithWalk zone q (Lacks c)) (sym code) lacks in
          cond_both (is_given q (chain_of q m) [] m) (Gives (given_message settings q (chain_of q m) [] m)) _ Bears
          (λ given. absurd (true≢false (sym given ∙ not-given zone good q plain m reply.holds course none)))
          (λ not_given. cond_both (is_negative_end q (chain_of q m) m) (Misses (nothing_found q m)) _ Bears (λ end. at)
          (λ no_end. cond_both ((chain_of q m).is_alias && nat_lt depth max_depth)
          (Follows (next_question q (chain_of q m)) (kept_aliases settings q (chain_of q m) [] m))
          (Stops (errors.Dns (dns.NoRecordsFound (nothing_found q m)))) Bears
          (λ both. absurd (true≢false (sym (both-true (chain_of q m).is_alias (nat_lt depth max_depth) both).0 ∙ sym ends ∙ no_end)))
          (λ neither. at)))

      negative-bears : ((left : ℕ) → Walk zone q.query_type left course.end (Lacks (negative zone course.end.labels).code))
          → course.last ≡ negative zone course.end.labels → Bears (step_of settings q [] depth (Ok response))
      negative-bears walk is =
          let none : course.last.answers ≡ [] = ap (λ (a : Answer). a.answers) is in
          let code : m.metadata.response_code ≡ (negative zone course.end.labels).code = reply.holds.code ∙ course.code ∙ ap (λ (a : Answer). a.code) is in
          let lacks : AgreesWithWalk zone q (Lacks (negative zone course.end.labels).code) = walk-through (Lacks (negative zone course.end.labels).code) walk in
          let soa = soa-there zone good q plain m reply.holds course (ap (λ (a : Answer). a.authorities) is) in
          step-by (error_without_answer m)
          (ap (λ (c : ResponseCode). error_by_code c m) code ∙ error-by-existence (some_row_below zone.rows course.end.labels))
          (cond_both (contains_answer m || m.metadata.truncation) None (Some (dns.NoRecordsFound (no_records_in m)))
          (λ (x : Option DnsError). Bears (step_on settings q [] depth (unless_error response x)))
          (λ some. lacks-bears code lacks none
          (negative-end zone good q plain m reply.holds course none (chain_of q m).is_alias true refl soa ∙ and-true (chain_of q m).is_alias))
          (λ missing. subst (λ (c : ResponseCode). AgreesWithWalk zone q (Lacks c)) (sym code) lacks))
        where
          and-true : (b : Bool) → b && true ≡ b
          and-true true = refl
          and-true false = refl

      off-bears : is_followed zone.origin course.end ≡ false → course.last ≡ bare NoError → Bears (step_of settings q [] depth (Ok response))
      off-bears leaves is =
          let none : course.last.answers ≡ [] = ap (λ (a : Answer). a.answers) is in
          let code : m.metadata.response_code ≡ NoError = reply.holds.code ∙ course.code ∙ ap (λ (a : Answer). a.code) is in
          let some = answers-off zone good q plain m reply.holds course followed leaves in
          let alias = alias-off zone good q plain m reply.holds course followed leaves in
          let ends = negative-end zone good q plain m reply.holds course none true false alias
          (soa-missing zone good q plain m reply.holds course (ap (λ (a : Answer). a.authorities) is)) in
          let end-is = chain-end zone good q plain m reply.holds course in
          step-by None (no-error code (has-answer zone good q plain m reply.holds course reply.repeats some))
          (cond_both (is_given q (chain_of q m) [] m) (Gives (given_message settings q (chain_of q m) [] m)) _ Bears
          (λ given. absurd (true≢false (sym given ∙ not-given zone good q plain m reply.holds course none)))
          (λ not_given. cond_both (is_negative_end q (chain_of q m) m) (Misses (nothing_found q m)) _ Bears
          (λ end. absurd (true≢false (sym end ∙ ends)))
          (λ no_end. cond_both ((chain_of q m).is_alias && nat_lt depth max_depth)
          (Follows (next_question q (chain_of q m)) (kept_aliases settings q (chain_of q m) [] m))
          (Stops (errors.Dns (dns.NoRecordsFound (nothing_found q m)))) Bears
          (λ both. (
            (λ plain in_internet short. inr (ap (is_followed zone.origin) end-is ∙ leaves)),
            λ conclusion comes. walk-through conclusion (λ left. walk-off left leaves
                (subst (λ (name : DomainName). Walk zone q.query_type 7 name conclusion) end-is
                (comes typed refl (plain-direct zone q.query_type (chain_of q m).name plain)
                (λ of_zone. absurd (true≢false
                (sym (followed-of zone q.query_type (chain_of q m).name of_zone) ∙ ap (is_followed zone.origin) end-is ∙ leaves)))))),
          ))
          (λ neither typed in_internet direct short. elim (within plain in_internet short) [
            | inl first ↦ absurd (true≢false (sym ((λ i. alias i && nat_lt (first i) max_depth)) ∙ neither))
            | inr foreign ↦ absurd (true≢false (sym followed ∙ foreign))
          ]))))

      pub answered-bears : Bears (step_of settings q [] depth (Ok response))
      answered-bears = by course.ending refl
        where
          by : {last : Answer} → Ending zone q.query_type course.end last → course.last ≡ last → Bears (step_of settings q [] depth (Ok response))
          by (ends_found row more of_zone are) is = found-bears row more of_zone are is
          by (ends_negative none e) is = negative-bears (λ left. at_nothing left course.end none e) is
          by (ends_off leaves) is = off-bears leaves is
