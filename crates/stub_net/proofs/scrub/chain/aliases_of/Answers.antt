use Rattle.std.proofs.Common.{◌≡◌, ◌+◌, ◌-◌, ◌++◌, [], ◌∷◌, List, suc, Some, None, sym, ap, ◌∙◌, append_assoc, arith}
use Rattle.std.proofs.lemmas.List.{append-nil}
use Rattle.dns_records.specs.Record.{Record}
use Rattle.stub_net.specs.scrub.Scrub.{alias_in, aliases_from, max_aliases}
use Rattle.stub_net.proofs.ScrubLaws.{aliases-none, aliases-some, aliases-zero}
use Rattle.stub_net.proofs.scrub.chain.aliases_of.Goals as goal

pub returns-in-None : goal.returns-in-None
returns-in-None c =
    let none : alias_in c.args.query.now c.loop-followed.name.now c.args.answers.now ≡ None = sym c.in-None.ensures in
    sym (append-nil c.loop-followed.aliases.items)
    ∙ ap (λ (xs : List Record). c.loop-followed.aliases.items ++ xs) (sym (aliases-none _ c.args.query.now c.args.answers.now c.loop-followed.name.now none))
    ∙ c.loop-followed.invariant

pub loop-followed-preserved : goal.loop-followed-preserved
loop-followed-preserved c =
    let found : alias_in c.args.query.now c.loop-followed.name.now c.args.answers.now ≡ Some (c.in-Some.alias.now, c.in-Some.target.now) = sym c.in-Some.ensures in
    let limit = max_aliases c.args.query.now in
    let more : limit - c.loop-followed._followed ≡ suc (limit - (c.loop-followed._followed + 1)) = omega (arith, c.max_aliases-followed-end.ensures) in
    let rest : List Record = aliases_from (limit - (c.loop-followed._followed + 1)) c.args.query.now c.args.answers.now c.in-Some.target.now in
    let alias : Record = c.in-Some.alias.now in
    let listed = aliases-some (limit - c.loop-followed._followed) (limit - (c.loop-followed._followed + 1)) c.args.query.now c.args.answers.now c.loop-followed.name.now c.in-Some.target.now alias more found in
    ap (λ (xs : List Record). xs ++ rest) (c.in_ok-push-in-Some.ensures.items ∙ ap (λ (r : Record). c.loop-followed.aliases.items ++ r ∷ []) c.in_ok-clone-in-Some.ensures.ok)
    ∙ append_assoc c.loop-followed.aliases.items (alias ∷ []) rest ∙ ap (λ (xs : List Record). c.loop-followed.aliases.items ++ xs) (sym listed) ∙ c.loop-followed.invariant

pub returns : goal.returns
returns c =
    sym (append-nil c.loop-followed.aliases.items)
    ∙ ap (λ (xs : List Record). c.loop-followed.aliases.items ++ xs) (sym (aliases-zero (max_aliases c.args.query.now - c.loop-followed._followed) c.args.query.now c.args.answers.now c.loop-followed.name.now
    (omega (arith, c.max_aliases-followed-end.ensures)))) ∙ c.loop-followed.invariant
