use Rattle.std.proofs.Common.{◌≡◌, ◌-◌, ◌∙◌, ap, sym}
use Rattle.dns_authority.specs.Answer.{after_records, answer_at, rest_at}
use Rattle.dns_authority.specs.Front.{answer_front, step_front}
use Rattle.dns_authority.specs.Step.{step}
use Rattle.dns_authority.specs.declared.step.Step.TheVariants.{Links}
use Rattle.dns_authority.proofs.ChainLaws.{breaks_off, goes_on}
use Rattle.dns_authority.proofs.FrontLaws.{alike_after, ends_alike, of_front, same_links}
use Rattle.dns_authority.proofs.chain.+answer_at.Goals as goal
use Rattle.dns_authority.proofs.chain.+answer_at.Goals.{in-Some+in_ok-rest-in-Some, in-None}

pub returns-in-End : goal.returns-in-End
returns-in-End t c =
    ends_alike c.args.wanted.most c.args.zones.now c.args.wanted.asked c.args.owner.now c.args.links c.in-End.answer
    (sym (ap (step_front c.args.wanted.most) c.in-End.is) ∙ c.in_ok-answer.ensures)

pub returns-then-links-eq0 : goal.returns-then-links-eq0
returns-then-links-eq0 t c =
    let front = answer_front c.args.wanted.most in
    let links : Links c.in-Links.records c.in-Links.next ≡ step c.args.zones.now c.args.wanted.asked c.args.owner.now =
    same_links c.args.wanted.most c.in-Links.records c.in-Links.next _ (sym (ap (step_front c.args.wanted.most) c.in-Links.is) ∙ c.in_ok-answer.ensures) in
    ap front (c.nothing.ensures
    ∙ breaks_off c.args.zones.now c.args.wanted.asked c.args.owner.now c.args.links c.in-Links.records c.in-Links.next c.if-links-eq0.true links)

pub returns : goal.returns
returns t c =
    let most = c.args.wanted.most in
    let front = answer_front most in
    let rest_of = rest_at (answer_at (c.args.links - 1) c.args.zones.now c.args.wanted.asked) in
    let links : Links c.in-Links.records c.in-Links.next ≡ step c.args.zones.now c.args.wanted.asked c.args.owner.now =
    same_links most c.in-Links.records c.in-Links.next _ (sym (ap (step_front most) c.in-Links.is) ∙ c.in_ok-answer.ensures) in
    let rest : front c.match-next-2.rest ≡ front (rest_of c.in-Links.next) =
    elim c.match-next-2.branch [
      | in-Some+in_ok-rest-in-Some w ↦ ap front w.rest-is ∙ w.in_ok-rest-in-Some.ensures ∙ sym (ap (λ next. front (rest_of next)) w.in-Some.is)
      | in-None w ↦ ap front w.rest-is ∙ ap front w.nothing-rest.ensures ∙ sym (ap (λ next. front (rest_of next)) w.in-None.is)
    ] in
    of_front front c.after_records.result (after_records c.in-Links.records c.match-next-2.rest) (front (answer_at c.args.links c.args.zones.now c.args.wanted.asked c.args.owner.now))
    c.after_records.ensures
    (alike_after most c.match-next-2.rest (rest_of c.in-Links.next) rest c.in-Links.records
    ∙ ap front (goes_on c.args.zones.now c.args.wanted.asked c.args.owner.now c.args.links c.in-Links.records c.in-Links.next c.if-links-eq0.false links))
