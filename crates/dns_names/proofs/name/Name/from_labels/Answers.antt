use Rattle.std.proofs.Common.{sym, ◌∙◌, rules}
use Rattle.std.proofs.lemmas.Result.{err_from_is_err_and}
use Rattle.dns_names.specs.Build.{root_name}
use Rattle.dns_names.proofs.EachLaws.{one_more, Yields-push}
use Rattle.dns_names.proofs.name.Name.from_labels.Goals as goal

pub loop-label-preserved : goal.loop-label-preserved
loop-label-preserved g c = (
  search rules,
  search rules,
  one_more g.L.IntoLabel.label root_name c.loop-label.name c.loop-label.yielded c.in-Some.label c.loop-label.invariant.2 ∙ c.in_ok-name.ensures.outcome,
)

pub returns-in_err-name-clause-refused : goal.returns-in_err-name-clause-refused
returns-in_err-name-clause-refused g c =
    let p = err_from_is_err_and c.from_residual.result c.from_residual.ensures.1 in
    rw (p.1, p.2) (λ not_memory. (
      c.into_iter-label-iterator.result,
      c.loop-label.yielded,
      c.in-Some.label,
      c.next.new.self,
      c.loop-label.name,
      c.into_iter-label-iterator.ensures.into_iter_gives,
      Yields-push g.I.IntoIter.Iterator.next_gives c.into_iter-label-iterator.result c.loop-label.yielded c.loop-label.label-iterator c.in-Some.label c.next.new.self c.loop-label.yielded_by c.in-Some.ensures.steps,
      c.loop-label.invariant.2,
      c.in_err-name.ensures.outcome not_memory,
    ))

pub returns-in_err-name-clause-inline : goal.returns-in_err-name-clause-inline
returns-in_err-name-clause-inline g c =
    let p = err_from_is_err_and c.from_residual.result c.from_residual.ensures.1 in
    rw (p.1, p.2) (
      c.into_iter-label-iterator.result,
      c.loop-label.yielded,
      c.in-Some.label,
      c.next.new.self,
      c.loop-label.name,
      c.into_iter-label-iterator.ensures.into_iter_gives,
      Yields-push g.I.IntoIter.Iterator.next_gives c.into_iter-label-iterator.result c.loop-label.yielded c.loop-label.label-iterator c.in-Some.label c.next.new.self c.loop-label.yielded_by c.in-Some.ensures.steps,
      c.loop-label.invariant.2,
      λ short inline. sym (c.in_err-name.ensures.inline short inline),
    )
