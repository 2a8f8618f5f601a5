use Rattle.std.proofs.Common.{◌≡◌, ℕ, List, [], ◌∷◌, length, Ok, refl, ap, sym, subst, ◌∙◌, arith, length-append}
use Rattle.std.proofs.lemmas.Result.{err_from_is_err_and}
use Rattle.dns_wire.specs.Decodable.{Follow}
use Rattle.dns_messages.specs.declared.query.Query.{Query}
use Rattle.dns_messages.specs.Grammar.{ReadsQuestion, RefusesQuestion}
use Rattle.dns_messages.proofs.FollowLaws.{follow_push}
use Rattle.dns_messages.proofs.read.read_questions.Goals as goal

pub returns-in_err-query-clause-refused : goal.returns-in_err-query-clause-refused
returns-in_err-query-clause-refused c =
    let p = err_from_is_err_and c.from_residual.result c.from_residual.ensures.1 in
    let inv = c.loop-nth.invariant in
    let now = c.loop-nth.decoder in
    rw (p.1, p.2) (λ other. record {
      front = c.loop-nth.queries;
      middle = now.index;
      queries = inv.so_far;
      counted = omega (arith, inv.count_is, c.loop-nth-test.true);
      next = subst (λ (bs : List ℕ). RefusesQuestion bs now.index c.in_err-query.field-0.0) inv.same_bytes (c.in_err-query.ensures.refused other);
    })

pub loop-nth-preserved : goal.loop-nth-preserved
loop-nth-preserved c =
    let inv = c.loop-nth.invariant in
    let old = c.args.decoder.now in
    let now = c.loop-nth.decoder in
    let new = c.read.new.decoder in
    let pushed = c.in_ok-push_expected.ensures in
    let here : ReadsQuestion old.bytes now.index c.in_ok-query.query new.index = subst (λ (bs : List ℕ). ReadsQuestion bs now.index c.in_ok-query.query new.index) inv.same_bytes c.in_ok-query.ensures.read in
    record {
      so_far = subst (λ (xs : List Query). Follow (ReadsQuestion old.bytes) old.index xs new.index) (sym pushed) (follow_push (ReadsQuestion old.bytes) old.index c.loop-nth.queries c.in_ok-query.query now.index new.index inv.so_far here);
      count_is = omega (arith, ap (λ (xs : List Query). length xs) pushed, length-append c.loop-nth.queries (c.in_ok-query.query ∷ []), inv.count_is);
      same_bytes = c.in_ok-query.ensures.bytes ∙ inv.same_bytes;
    }

-- ---- no questions

pub returns-in_err-query-clause-decided : goal.returns-in_err-query-clause-decided
returns-in_err-query-clause-decided c = λ none. absurd (omega (arith, c.loop-nth-test.true, none))

pub returns-in_err-push_expected-clause-decided : goal.returns-in_err-push_expected-clause-decided
returns-in_err-push_expected-clause-decided c = λ none. absurd (omega (arith, c.loop-nth-test.true, none))

nothing : (xs : List Query) → length xs ≡ 0 → xs ≡ []
nothing [] e = refl
nothing (x ∷ xs) e = absurd (omega (arith, e))

pub returns-clause-decided : goal.returns-clause-decided
returns-clause-decided c = λ none.
    let len : length c.loop-nth.queries ≡ 0 = omega (arith, c.loop-nth.invariant.count_is, none) in
    ap Ok (nothing c.loop-nth.queries len)
