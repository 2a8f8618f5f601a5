use Rattle.std.proofs.Common.{◌∙◌, List, ℕ, Ok, [], ◌∷◌, ◌++◌, ap, append_assoc}
use Rattle.std.specs.Borrow.{Bor}
use Rattle.dns_names.specs.declared.reverse.AddrPrefix.{AddrPrefix}
use Rattle.dns_server.specs.AddressList.{ReadsPrefix}
use Rattle.nameserver_cli.proofs.ValueLaws.{read_more}
use Rattle.nameserver_cli.proofs.arguments.add_prefixes.Goals as goal

pub loop-value-preserved : goal.loop-value-preserved
loop-value-preserved c = record {
  added = c.loop-value.invariant.added ++ c.in_ok-prefix_of.field-0 ∷ [];
  appended = c.in_ok-add.ensures.ok ∙ ap (λ (so_far : List AddrPrefix). so_far ++ c.in_ok-prefix_of.field-0 ∷ []) c.loop-value.invariant.appended
      ∙ append_assoc c.args.addresses.now c.loop-value.invariant.added (c.in_ok-prefix_of.field-0 ∷ []);
  are_read =
      read_more (λ (text : List ℕ) (prefix : AddrPrefix). ReadsPrefix text (Ok prefix)) (λ (value : Bor (List ℕ)). value.now) c.args.values.now
      c.loop-value.value-index _ c.loop-value.invariant.added c.in_ok-prefix_of.field-0 c.loop-value-test.true c.loop-value.invariant.are_read
      c.in_ok-prefix_of.ensures.prefix;
}
