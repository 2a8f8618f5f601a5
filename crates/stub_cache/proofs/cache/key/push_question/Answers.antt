use Rattle.std.proofs.Common.{◌≡◌, ◌++◌, ◌∷◌, rules, subst}
use Rattle.stub_cache.specs.internal.Key.{key_of, labels_key}
use Rattle.stub_cache.proofs.KeyLaws.{next_label_fits}
use Rattle.stub_cache.proofs.cache.key.push_question.Goals as goal

pub push_label-requires-clause-fits : goal.push_label-requires-clause-fits
push_label-requires-clause-fits c =
    let next : c.loop-label.label-iterator ≡ c.in-Some.label.now ∷ c.next.new.self = search rules in
    let left : c.loop-label.key.items ++ labels_key (c.in-Some.label.now ∷ c.next.new.self) ≡ key_of c.args.query.now =
    subst (λ ls. c.loop-label.key.items ++ labels_key ls ≡ key_of c.args.query.now) next c.loop-label.invariant.whole in
    next_label_fits c.args.query.now c.loop-label.key.items c.in-Some.label.now c.next.new.self c.encoded_len.ensures.labels left
