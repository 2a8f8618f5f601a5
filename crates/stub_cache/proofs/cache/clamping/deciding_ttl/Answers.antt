use Rattle.std.proofs.Common.{◌≡◌, ◌∙◌, Bool, true, false, not, List, Option, ℕ, ap, refl, sym}
use Rattle.std.specs.List.{filter}
use Rattle.dns_records.specs.Record.{Record}
use Rattle.stub_cache.specs.Ttl.{least_ttl}
use Rattle.stub_cache.specs.internal.Ttl.{is_deciding_record, lesser_of}
use Rattle.stub_cache.proofs.LifetimeLaws.{least_for_ns}
use Rattle.stub_cache.proofs.cache.clamping.deciding_ttl.Goals as goal

of_negation : (b : Bool) → not b ≡ false → b ≡ true
of_negation true is = refl
of_negation false is = sym is

pub returns : goal.returns
returns c =
    let asked = c.args.query_type in
    let m = c.args.message.now in
    let least : List Record → Option ℕ = λ rs. least_ttl (filter (is_deciding_record asked) rs) in
    c.lesser_of.ensures
    ∙ ap (λ first. lesser_of first c.least_ttl-authorities.result) (c.least_ttl-answers.ensures ∙ ap least c.as_slice.ensures)
    ∙ ap (λ second. lesser_of (least m.answers) second) (c.least_ttl-authorities.ensures ∙ ap least c.as_slice-2.ensures)
    ∙ least_for_ns asked m (of_negation _ (sym c.ne.ensures ∙ c.if-ne.false))
