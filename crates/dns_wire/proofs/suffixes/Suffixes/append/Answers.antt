use Rattle.std.proofs.Common.{◌≡◌, ◌-◌, ◌+◌, [], ◌∷◌, ◌++◌, length, ap, ◌∙◌, arith, length-append}
use Rattle.dns_wire.specs.internal.Suffixes.{suffixes_of}
use Rattle.dns_wire.proofs.SuffixLaws.{all-push, all_weaker}
use Rattle.dns_wire.proofs.StoredLaws.{on_err, stored-push, suffixes_of-append, suffixes_of-push}
use Rattle.dns_wire.proofs.IndexLaws.{store-more, indexed-push, store-linked}
use Rattle.dns_wire.proofs.suffixes.Suffixes.append.Goals as goal

pub invariant_of-self-in_err-push : goal.invariant_of-self-in_err-push
invariant_of-self-in_err-push c =
    rw (c.in_ok-extend_from_slice.ensures.items, c.in_err-push.ensures.items)
    (store-more _ c.args.bytes.now _ _ _ c.self.invariant)

pub returns-in_err-push-clause-err : goal.returns-in_err-push-clause-err
returns-in_err-push-clause-err c =
    let same : suffixes_of c.extend_from_slice.new.self.items c.push.new.self.items ≡ c.args.self.now =
    rw (c.in_ok-extend_from_slice.ensures.items, c.in_err-push.ensures.items, ← c.self.view_is)
    (suffixes_of-append 0 c.self.inside.stored.items c.args.bytes.now c.self.inside.entries.items c.self.invariant.in_order) in
    on_err c.from_residual-in_err-push.result same

pub link-requires-clause-stored : goal.link-requires-clause-stored
link-requires-clause-stored c =
    let start = c.len-start.ensures ∙ c.self.inside.stored.ok.0 in
    let end = c.len-end.ensures ∙ c.extend_from_slice.new.self.ok.0 ∙ ap length c.in_ok-extend_from_slice.ensures.items ∙ length-append c.self.inside.stored.items c.args.bytes.now in
    rw (c.as_slice.ensures.value, c.in_ok-extend_from_slice.ensures.items, c.in_ok-push.ensures.items)
    (stored-push 0 _ _ c.self.inside.entries.items _ c.self.invariant.in_order (omega (arith, start)) (omega (arith, start, end)) (omega (arith, end, length-append c.self.inside.stored.items c.args.bytes.now)))

pub link-requires-clause-indexed : goal.link-requires-clause-indexed
link-requires-clause-indexed c =
    let start = c.len-start.ensures ∙ c.self.inside.stored.ok.0 in
    let end = c.len-end.ensures ∙ c.extend_from_slice.new.self.ok.0 ∙ ap length c.in_ok-extend_from_slice.ensures.items in
    let last : c.len-last.result - 1 ≡ length c.self.inside.entries.items =
    omega (arith, c.len-last.ensures, c.in_ok-push.ensures.len, c.self.inside.entries.ok.0) in
    rw (c.as_slice.ensures.value, c.in_ok-extend_from_slice.ensures.items, c.in_ok-push.ensures.items)
    (indexed-push c.self.inside.stored.items c.args.bytes.now c.self.inside.entries.items _ _ _ _ last c.self.invariant start end)

pub returns-clause-ok : goal.returns-clause-ok
returns-clause-ok c =
    let start = c.len-start.ensures ∙ c.self.inside.stored.ok.0 in
    let end = c.len-end.ensures ∙ c.extend_from_slice.new.self.ok.0 ∙ ap length c.in_ok-extend_from_slice.ensures.items in
    let linked : suffixes_of c.extend_from_slice.new.self.items c.link.new.entries.items ≡ suffixes_of c.extend_from_slice.new.self.items c.push.new.self.items =
    rw c.as_slice.ensures.value at c.link.ensures.same in
    rw (← c.self.view_is)
    (linked ∙ rw (c.in_ok-extend_from_slice.ensures.items, c.in_ok-push.ensures.items)
    (suffixes_of-push 0 c.self.inside.stored.items c.args.bytes.now c.self.inside.entries.items _ c.self.invariant.in_order start end))

pub invariant_of-self-2 : goal.invariant_of-self-2
invariant_of-self-2 c =
    let start = c.len-start.ensures ∙ c.self.inside.stored.ok.0 in
    let end = c.len-end.ensures ∙ c.extend_from_slice.new.self.ok.0 ∙ ap length c.in_ok-extend_from_slice.ensures.items in
    let all : c.len-last.result - 1 + 1 ≡ length c.link.new.entries.items =
    omega (arith, c.len-last.ensures, c.in_ok-push.ensures.len, c.push.new.self.ok.0, c.link.ensures.entries) in
    let pushed : suffixes_of c.extend_from_slice.new.self.items c.push.new.self.items ≡ suffixes_of c.self.inside.stored.items c.self.inside.entries.items ++ record { start = c.args.offset; bytes = c.args.bytes.now } ∷ [] =
    rw (c.in_ok-extend_from_slice.ensures.items, c.in_ok-push.ensures.items)
    (suffixes_of-push 0 c.self.inside.stored.items c.args.bytes.now c.self.inside.entries.items _ c.self.invariant.in_order start end) in
    store-linked c.extend_from_slice.new.self.items c.push.new.self.items c.link.new.entries.items c.link.new.heads _ c.max-self-inside.result
    (rw c.as_slice.ensures.value at c.link.ensures.stored) (rw c.as_slice.ensures.value at c.link.ensures.same) all (rw c.as_slice.ensures.value at c.link.ensures.indexed)
    (rw pushed
    (all-push _ _ _ (all_weaker (λ s lt. omega (arith, lt, c.max-self-inside.ensures)) _ c.self.invariant.below) (omega (arith, c.max-self-inside.ensures, c.from.ensures))))
