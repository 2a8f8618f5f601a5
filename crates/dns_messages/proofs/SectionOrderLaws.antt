-- The iterators over the sections of a message.
use Rattle.std.proofs.Common.{◌≡◌, List, map, map-id, refl, sym, ◌∙◌}
use Rattle.std.specs.Borrow.{Bor}
use Rattle.std.specs.Iterator.{Drains, YieldsFirst, YieldsFirstRef}
use Rattle.std.proofs.lemmas.Iterator.{items_from_drains}
use Rattle.std.proofs.lemmas.Iterator.Consumers.{YieldsList-from_first}
use Rattle.dns_records.specs.Record.{Record}

pub lent_in_order : (it : List Record) (items : List (Bor Record)) → Drains (YieldsFirstRef (λ (rest : List Record). rest)) it items → map (λ (r : Bor Record). r.now) items ≡ it
lent_in_order it items all = items_from_drains {steps = YieldsFirstRef (λ (rest : List Record). rest)} {v = λ (r : Bor Record). r.now} {s = it} items (all.1.0, all.1.1, λ w. (all.0, all.1.2)) (YieldsList-from_first (λ (r : Bor Record). r.now) (λ (rest : List Record). rest) {s = it} it refl)

pub owned_in_order : (it items : List Record) → Drains (YieldsFirst (λ (rest : List Record). rest)) it items → items ≡ it
owned_in_order it items all = sym (map-id items) ∙ items_from_drains {steps = YieldsFirst (λ (rest : List Record). rest)} {v = λ (r : Record). r} {s = it} items (all.1.0, all.1.1, λ w. (all.0, all.1.2)) (YieldsList-from_first (λ (r : Record). r) (λ (rest : List Record). rest) {s = it} it refl)
