use Rattle.std.proofs.Common.{◌≡◌, [], ap, map, sym, rules, ◌∙◌}
use Rattle.std.specs.List.{filter}
use Rattle.stub_hosts.specs.Hosts.{has_address, pointer, pointers}
use Rattle.stub_hosts.specs.internal.Hosts.{pointer_to}
use Rattle.stub_hosts.proofs.EntryLaws.{pointers_of_names}
use Rattle.stub_hosts.proofs.KeptLaws.{map_nil, none_kept, some_kept}
use Rattle.stub_hosts.proofs.hosts.table.HostTable.pointers.Goals as goal

pub returns-in-Ok-clause-records : goal.returns-in-Ok-clause-records
returns-in-Ok-clause-records c =
    let owner = c.args.owner.now in
    let address = c.args.address in
    c.in-Ok.ensures ∙ ap (map (pointer_to owner)) (c.self.invariant address) ∙ pointers_of_names owner (filter (has_address address) c.self.inside.entries)
    ∙ ap (pointers owner address) c.self.view_is

pub returns-then-has_address-clause-decided : goal.returns-then-has_address-clause-decided
returns-then-has_address-clause-decided c = λ none.
    let owner = c.args.owner.now in
    let address = c.args.address in
    let entries = c.self.inside.entries in
    absurd (some_kept (has_address address) entries (sym c.has_address.ensures ∙ c.if-has_address.true)
    (map_nil (pointer owner) (filter (has_address address) entries) (ap (pointers owner address) c.self.view_is ∙ none)))

pub returns-else-has_address-clause-records : goal.returns-else-has_address-clause-records
returns-else-has_address-clause-records c =
    let owner = c.args.owner.now in
    let address = c.args.address in
    let entries = c.self.inside.entries in
    let none : pointers owner address c.args.self.now ≡ [] =
    sym (ap (pointers owner address) c.self.view_is) ∙ ap (map (pointer owner)) (none_kept (has_address address) entries (sym c.has_address.ensures ∙ c.if-has_address.false)) in
    rw none (search rules)
