use Rattle.std.proofs.Common.{◌≡◌, ◌+◌, [], ◌∷◌, ◌++◌, ℕ, List, get_or, drop, length, ap, sym, ◌∙◌, arith, length-append}
use Rattle.std.specs.Prelude.{slice_range, Some}
use Rattle.dns_wire.specs.Writing.{labels_form}
use Rattle.dns_names.proofs.WireLaws.{drop-first, slice_get_or, first_label}
use Rattle.dns_names.proofs.name.Name.label_at.Goals as goal
use Rattle.dns_names.proofs.name.Name.label_at.Goals.{After-wire_from-rest}

-- what is left begins with the label
begins : (c : After-wire_from-rest) → c.wire_from-rest.result.now ≡ length (get_or c.args.self.now.labels c.args.index []) ∷ (get_or c.args.self.now.labels c.args.index [] ++ labels_form (drop (c.args.index + 1) c.args.self.now.labels))
begins c = c.wire_from-rest.ensures ∙ ap labels_form (drop-first c.args.self.now.labels c.args.index c.requires.within)

cut : (c : After-wire_from-rest) → slice_range c.wire_from-rest.result.now 1 (get_or c.wire_from-rest.result.now 0 0 + 1) ≡ get_or c.args.self.now.labels c.args.index []
cut c = first_label _ _ _ (begins c)

pub bounds-rest-0 : goal.bounds-rest-0
bounds-rest-0 c =
    let at = (goal.at.bounds-rest-0 c).After-wire_from-rest in
    omega (arith, ap (λ (xs : List ℕ). length xs) (begins at))

pub slice_bounds-result-end : goal.slice_bounds-result-end
slice_bounds-result-end c =
    let at = (goal.at.slice_bounds-result-end c).After-wire_from-rest in
    let label = get_or c.args.self.now.labels c.args.index [] in
    let first : get_or c.wire_from-rest.result.now 0 0 ≡ length label = ap (λ (xs : List ℕ). get_or xs 0 0) (begins at) in
    omega (arith, first, ap (λ (xs : List ℕ). length xs) (begins at), length-append label (labels_form (drop (c.args.index + 1) c.args.self.now.labels)))

pub returns : goal.returns
returns c =
    let at = (goal.at.returns c).After-wire_from-rest in
    slice_get_or c.args.self.now.labels c.args.index c.requires.within ∙ ap (λ (l : List ℕ). Some l) (sym (cut at))
