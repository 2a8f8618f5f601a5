use Rattle.std.proofs.Common.{◌≡◌, ◌-◌, ◌++◌, List, ℕ, Bool, true, None, length, take, drop, option_map, ap, sym, ◌∙◌, rules}
use Rattle.std.specs.Prelude.{if◌then◌else◌}
use Rattle.dns_fields.specs.bitmaps.Base32.{are_digits, groups, group_bytes}
use Rattle.dns_fields.proofs.BitmapsLoopLaws.{slice_is, some_of}
use Rattle.dns_fields.proofs.Base32Laws.{group_further, no_group}
use Rattle.dns_fields.proofs.bitmaps.base32.decode_base32.Goals as goal

pub returns-in_default-clause-value : goal.returns-in_default-clause-value
returns-in_default-clause-value c =
    let left = c.loop-left.left.now in
    let digits : are_digits c.args.digits.now ≡ true = search rules in
    let none = no_group left c.loop-left.bytes.items _ (some_of (length left) c.loop-left-test.ensures) (search rules) c.loop-left.invariant in
    sym (ap (λ (b : Bool). if b then groups c.args.digits.now else None) digits ∙ none)

pub loop-left-preserved : goal.loop-left-preserved
loop-left-preserved c =
    let left = c.loop-left.left.now in
    let items : c.extend_from_slice.new.self.items ≡ c.loop-left.bytes.items ++ take c.in-Some.count c.group_bytes-group.result = search rules in
    let rest : List ℕ = take (length left - c.min.result) (drop c.min.result left) in
    ap (λ (l : List ℕ). option_map (λ more. l ++ more) (groups rest)) (items ∙ ap (λ (l : List ℕ). c.loop-left.bytes.items ++ take c.in-Some.count l) c.group_bytes-group.ensures)
    ∙ ap (λ (l : List ℕ). option_map (λ more. (c.loop-left.bytes.items ++ take c.in-Some.count (group_bytes left)) ++ more) (groups l)) (slice_is left c.min.result)
    ∙ group_further left c.loop-left.bytes.items c.in-Some.count c.min.result _ (some_of (length left) c.loop-left-test.ensures) (search rules) (search rules) c.loop-left.invariant
