-- The first records of answers and steps.
use Rattle.std.proofs.Common.{◌≡◌, ◌<◌, ◌≤◌, zero, suc, ℕ, Bool, List, [], ◌∷◌, length, map, take, refl, sym, ap, ◌∙◌, arith, Option}
use Rattle.std.specs.Prelude.{IfOk, Result, Ok, Err}
use Rattle.std.proofs.lemmas.List.{take-map}
use Rattle.dns_messages.specs.declared.response_code.ResponseCode.{ResponseCode}
use Rattle.dns_names.specs.Name.{DomainName}
use Rattle.dns_records.specs.Record.{Record}
use Rattle.dns_records.specs.declared.row.Row.{Row}
use Rattle.dns_zone.specs.Answer.{record_of}
use Rattle.dns_zone.specs.Rows.{ZoneContent, rows_of}
use Rattle.dns_authority.specs.declared.answer.AuthorityAnswer.{AuthorityAnswer}
use Rattle.dns_authority.specs.declared.asked.Asked.{Asked}
use Rattle.dns_authority.specs.declared.step.Step.{Step}
use Rattle.dns_authority.specs.declared.step.Step.TheVariants.{End, Links}
use Rattle.dns_authority.specs.Answer.{after_records, answer_at}
use Rattle.dns_authority.specs.Front.{answer_front, first_records, step_front}
use Rattle.dns_authority.specs.Step.{positive, step, step_by}
use Rattle.dns_authority.proofs.AlikeLaws.{followed, left_alike, shorter, twice}
use Rattle.dns_authority.proofs.ChainLaws.{ends}
use Rattle.dns_authority.proofs.CopyLaws.{copies_are, copy_of}

-- ---- outcomes

pub over_front : {A B E : Type 0} (f : A → B) (r : Result A E) (x y : B) → IfOk r (λ a. f a ≡ x) → x ≡ y → IfOk r (λ a. f a ≡ y)
over_front f (Ok a) x y is same = is ∙ same
over_front f (Err e) x y is same = tt

pub of_front : {A B E : Type 0} (f : A → B) (r : Result A E) (x : A) (y : B) → IfOk r (λ a. a ≡ x) → f x ≡ y → IfOk r (λ a. f a ≡ y)
of_front f (Ok a) x y is same = ap f is ∙ same
of_front f (Err e) x y is same = tt

-- ---- copies

-- the first of the copies of the first records
pub first_copied : (most : ℕ) (owner : DomainName) (stored first : List Record) → first ≡ take most stored
    → take most (map (record_of owner) (rows_of first)) ≡ take most (map (record_of owner) (rows_of stored))
first_copied most owner stored first is =
    ap (take most) (sym (copies_are owner first) ∙ ap (map (copy_of owner)) is ∙ sym (take-map (copy_of owner) most stored))
    ∙ twice most (map (copy_of owner) stored) ∙ ap (take most) (copies_are owner stored)

-- ---- steps

-- steps by records that begin alike
pub steps_alike : (most : ℕ) (zones : List ZoneContent) (zone : ZoneContent) (owner : DomainName) (records asked : List Record) (aliases : List Row) → 1 ≤ most
    → take most records ≡ take most asked → step_front most (step_by zones zone owner records aliases) ≡ step_front most (step_by zones zone owner asked aliases)
steps_alike zero zones zone owner records asked aliases some alike = absurd (omega (arith, some))
steps_alike (suc n) zones zone owner [] [] aliases some alike = refl
steps_alike (suc n) zones zone owner [] (r ∷ asked) aliases some alike = absurd (cc)
steps_alike (suc n) zones zone owner (r ∷ records) [] aliases some alike = absurd (cc)
steps_alike (suc n) zones zone owner (r ∷ records) (s ∷ asked) aliases some alike = ap (λ (rs : List Record). End (record (positive []) { answers = rs })) alike

-- ---- answers

-- an answer of its parts
abbrev made : ResponseCode → Bool → List Record → List Record → List Record → AuthorityAnswer
made code authoritative answers authorities additionals = record {
  code = code;
  authoritative = authoritative;
  answers = answers;
  authorities = authorities;
  additionals = additionals;
}

made_alike : {code code' : ResponseCode} {aa aa' : Bool} {an an' ns ns' ar ar' : List Record} → code ≡ code' → aa ≡ aa' → an ≡ an' → ns ≡ ns' → ar ≡ ar'
    → made code aa an ns ar ≡ made code' aa' an' ns' ar'
made_alike a b c d e = rw (a, b, c, d, e) refl

module _ (most : ℕ) (a b : AuthorityAnswer) (alike : answer_front most a ≡ answer_front most b) where
  codes : a.code ≡ b.code
  codes = ap (λ (x : AuthorityAnswer). x.code) alike

  authority : a.authoritative ≡ b.authoritative
  authority = ap (λ (x : AuthorityAnswer). x.authoritative) alike

  first_answers : take most a.answers ≡ take most b.answers
  first_answers = ap (λ (x : AuthorityAnswer). x.answers) alike

  first_authorities : take most a.authorities ≡ take most b.authorities
  first_authorities = ap (λ (x : AuthorityAnswer). x.authorities) alike

  others : a.additionals ≡ b.additionals
  others = ap (λ (x : AuthorityAnswer). x.additionals) alike

  -- answers that begin alike have the same first records
  pub same_first_records : first_records most a ≡ first_records most b
  same_first_records =
      made_alike codes authority first_answers (left_alike most a.answers b.answers a.authorities b.authorities first_answers first_authorities) others

  -- they begin alike after records
  pub alike_after : (records : List Record) → answer_front most (after_records records a) ≡ answer_front most (after_records records b)
  alike_after records = made_alike codes refl (followed most records records a.answers b.answers refl first_answers) first_authorities others

  -- they are the same if one has fewer records in each section
  pub same_answer : length a.answers < most → length a.authorities < most → a ≡ b
  same_answer few few_authorities =
      made_alike codes authority (shorter most a.answers b.answers few first_answers) (shorter most a.authorities b.authorities few_authorities first_authorities) others

-- ---- the answer along aliases

module _ (most : ℕ) (zones : List ZoneContent) (asked : Asked) (owner : DomainName) where
  -- the answer ends here
  pub ends_alike : (links : ℕ) (a : AuthorityAnswer) → step_front most (End a) ≡ step_front most (step zones asked owner)
      → answer_front most a ≡ answer_front most (answer_at links zones asked owner)
  ends_alike links a alike = by (step zones asked owner) refl alike
    where
      by : (s : Step) → s ≡ step zones asked owner → step_front most (End a) ≡ step_front most s → answer_front most a ≡ answer_front most (answer_at links zones asked owner)
      by (End b) is e =
          let same : answer_front most a ≡ answer_front most b = cc in
          same ∙ ap (answer_front most) (ends zones asked owner links b is)
      by (Links records next) is e = absurd (cc)

-- aliases are as they are
pub same_links : (most : ℕ) (records : List Record) (next : Option DomainName) (s : Step) → step_front most (Links records next) ≡ step_front most s → Links records next ≡ s
same_links most records next (End a) e = absurd (cc)
same_links most records next (Links aliases name) e = e
