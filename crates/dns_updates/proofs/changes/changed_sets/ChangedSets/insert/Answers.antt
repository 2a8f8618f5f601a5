use Rattle.std.proofs.Common.{◌∙◌, List, Some, ap, cond, subst, sym}
use Rattle.std.specs.Map.{values_of}
use Rattle.dns_updates.specs.Changes.{changed_at}
use Rattle.dns_updates.specs.internal.Indexes.{HaveTheirKeys}
use Rattle.dns_updates.specs.declared.changes.changed_set.ChangedSet.{ChangedSet}
use Rattle.dns_updates.proofs.ChangeLaws.{tied}
use Rattle.dns_updates.proofs.ChangedLaws.{Entries, inserted_at, keys_inserted}
use Rattle.dns_updates.proofs.changes.changed_sets.ChangedSets.insert.Goals as goal

pub invariant_of-self-2 : goal.invariant_of-self-2
invariant_of-self-2 c =
    subst HaveTheirKeys (sym c.in_ok-insert.ensures.entries) (keys_inserted c.self.inside.map.entries c.set_key-key.result c.args.set c.self.invariant (λ i. (c.set_key-key.ensures.owner i, c.set_key-key.ensures.of_type i)))

pub returns : goal.returns
returns c = λ k.
    ap (λ (es : Entries). changed_at (values_of es) k) c.in_ok-insert.ensures.entries
    ∙ inserted_at c.self.inside.map.entries c.set_key-key.result c.args.set k c.self.invariant (λ i. (c.set_key-key.ensures.owner i, c.set_key-key.ensures.of_type i))
    ∙ ap (λ (sets : List ChangedSet). cond (tied k c.args.set) (Some c.args.set) (changed_at sets k)) c.self.view_is
