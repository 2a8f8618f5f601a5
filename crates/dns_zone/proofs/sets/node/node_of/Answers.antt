use Rattle.std.proofs.Common.{◌≡◌, ◌∙◌, ◌∷◌, ℕ, true, false, None, option_copied, ap, refl, subst, sym}
use Rattle.std.specs.Ordering.{is_gt}
use Rattle.std.specs.List.{AllByRecursion}
use Rattle.std.specs.List.Sorted.{IsStrictlySortedBy}
use Rattle.std.specs.Map.{keys_of}
use Rattle.std.specs.Option.{option_or}
use Rattle.dns_wire.specs.declared.codes.record_type.RecordType.TheVariants.{CNAME, DNAME, NS}
use Rattle.dns_updates.specs.Keys.{bytes_cmp, place_cmp, type_code}
use Rattle.dns_zone.specs.internal.Node.{at_place, begins_with, is_first_below, sought}
use Rattle.dns_zone.proofs.NodeLaws.{begins_with_itself, exists_as, exists_by, exists_or, found_whole, none_left, one_sought, owners_differ, owners_same, sorted_left}
use Rattle.dns_zone.proofs.SetLaws.{Entries}
use Rattle.dns_zone.proofs.sets.node.node_of.Goals as goal
use Rattle.dns_zone.proofs.sets.node.node_of.Goals.{After-ne}

-- the sets that are left begin with the next one
first : (c : After-ne) → c.loop-place.sets ≡ (c.in-Some.place.now, c.in-Some.set.now) ∷ c.next.new.self
first c = c.in-Some.ensures.steps

ordered : (c : After-ne) → IsStrictlySortedBy place_cmp (keys_of ((c.in-Some.place.now, c.in-Some.set.now) ∷ c.next.new.self))
ordered c = subst (λ (es : Entries). IsStrictlySortedBy place_cmp (keys_of es)) (first c) c.loop-place.invariant.ordered

reached : (c : After-ne) → AllByRecursion (λ e. is_gt (bytes_cmp c.args.owner.now e.0.0) ≡ false) ((c.in-Some.place.now, c.in-Some.set.now) ∷ c.next.new.self)
reached c = subst (λ (es : Entries). AllByRecursion (λ e. is_gt (bytes_cmp c.args.owner.now e.0.0) ≡ false) es) (first c) c.loop-place.invariant.reached

-- another owner's sets have none of the owner's
none : (c : After-ne) (n : ℕ) → c.ne.result ≡ true → at_place (c.args.owner.now, n) c.loop-place.sets ≡ None
none c n e =
    ap (at_place (c.args.owner.now, n)) (first c)
    ∙ none_left c.args.owner.now n (c.in-Some.place.now, c.in-Some.set.now) c.next.new.self (reached c).0 (owners_differ c.in-Some.place.now.0 c.args.owner.now c.ne.result c.ne.ensures e) (ordered c)

pub returns-then-ne-clause-asked : goal.returns-then-ne-clause-asked
returns-then-ne-clause-asked c =
    ap (λ node. option_copied node.asked) c.beside.ensures
    ∙ found_whole (c.args.owner.now, type_code c.args.record_type) c.loop-place.sets c.args.sets (option_copied c.loop-place.node.asked) c.loop-place.invariant.asked (none (goal.at.returns-then-ne-clause-asked c).After-ne (type_code c.args.record_type) c.if-ne.true)

pub returns-then-ne-clause-aliases : goal.returns-then-ne-clause-aliases
returns-then-ne-clause-aliases c =
    ap (λ node. option_copied node.aliases) c.beside.ensures
    ∙ found_whole (c.args.owner.now, type_code CNAME) c.loop-place.sets c.args.sets (option_copied c.loop-place.node.aliases) c.loop-place.invariant.aliases (none (goal.at.returns-then-ne-clause-aliases c).After-ne (type_code CNAME) c.if-ne.true)

pub returns-then-ne-clause-servers : goal.returns-then-ne-clause-servers
returns-then-ne-clause-servers c =
    ap (λ node. option_copied node.servers) c.beside.ensures
    ∙ found_whole (c.args.owner.now, type_code NS) c.loop-place.sets c.args.sets (option_copied c.loop-place.node.servers) c.loop-place.invariant.servers (none (goal.at.returns-then-ne-clause-servers c).After-ne (type_code NS) c.if-ne.true)

pub returns-then-ne-clause-redirections : goal.returns-then-ne-clause-redirections
returns-then-ne-clause-redirections c =
    ap (λ node. option_copied node.redirections) c.beside.ensures
    ∙ found_whole (c.args.owner.now, type_code DNAME) c.loop-place.sets c.args.sets (option_copied c.loop-place.node.redirections) c.loop-place.invariant.redirections (none (goal.at.returns-then-ne-clause-redirections c).After-ne (type_code DNAME) c.if-ne.true)

pub returns-then-ne-clause-exists : goal.returns-then-ne-clause-exists
returns-then-ne-clause-exists c =
    let at = (goal.at.returns-then-ne-clause-exists c).After-ne in
    ap (λ node. node.exists) c.beside.ensures
    ∙ exists_or c.loop-place.node.exists c.starts_with.result (is_first_below c.args.owner.now c.args.sets) c.loop-place.invariant.exists
    (λ begun.
    c.starts_with.ensures.value ∙ (λ i. begins_with (c.as_slice-then-ne.ensures i) (c.as_slice.ensures i))
    ∙ ap (is_first_below c.args.owner.now) (sym (first at) ∙ c.loop-place.invariant.begun begun))

pub loop-place-init : goal.loop-place-init
loop-place-init c = record {
  code = c.type_code.ensures;
  asked = refl;
  aliases = refl;
  servers = refl;
  redirections = refl;
  ordered = c.requires.ordered;
  reached = c.requires.reached;
  begun = λ e. refl;
  exists = λ e. absurd (cc);
}

pub loop-place-preserved : goal.loop-place-preserved
loop-place-preserved c =
    let at = (goal.at.loop-place-preserved c).After-ne in
    let own = owners_same c.in-Some.place.now.0 c.args.owner.now c.ne.result c.ne.ensures c.if-ne.false in
    let next : (n : ℕ) → at_place (c.args.owner.now, n) ((c.in-Some.place.now, c.in-Some.set.now) ∷ c.next.new.self) ≡ at_place (c.args.owner.now, n) c.loop-place.sets = λ n. ap (at_place (c.args.owner.now, n)) (sym (first at)) in
    record {
      code = c.with-node.ensures.code ∙ c.loop-place.invariant.code;
      asked = one_sought c.args.owner.now (type_code c.args.record_type) (c.in-Some.place.now, c.in-Some.set.now) c.next.new.self (option_copied c.loop-place.node.asked) (option_copied c.with-node.result.asked) own
          (c.with-node.ensures.asked ∙ ap (λ n. sought (option_copied c.loop-place.node.asked) n c.in-Some.place.now.1 c.in-Some.set.now) c.loop-place.invariant.code)
          ∙ ap (option_or (option_copied c.loop-place.node.asked)) (next (type_code c.args.record_type)) ∙ c.loop-place.invariant.asked;
      aliases = one_sought c.args.owner.now (type_code CNAME) (c.in-Some.place.now, c.in-Some.set.now) c.next.new.self (option_copied c.loop-place.node.aliases) (option_copied c.with-node.result.aliases) own c.with-node.ensures.aliases
          ∙ ap (option_or (option_copied c.loop-place.node.aliases)) (next (type_code CNAME)) ∙ c.loop-place.invariant.aliases;
      servers = one_sought c.args.owner.now (type_code NS) (c.in-Some.place.now, c.in-Some.set.now) c.next.new.self (option_copied c.loop-place.node.servers) (option_copied c.with-node.result.servers) own c.with-node.ensures.servers
          ∙ ap (option_or (option_copied c.loop-place.node.servers)) (next (type_code NS)) ∙ c.loop-place.invariant.servers;
      redirections = one_sought c.args.owner.now (type_code DNAME) (c.in-Some.place.now, c.in-Some.set.now) c.next.new.self (option_copied c.loop-place.node.redirections) (option_copied c.with-node.result.redirections) own c.with-node.ensures.redirections
          ∙ ap (option_or (option_copied c.loop-place.node.redirections)) (next (type_code DNAME)) ∙ c.loop-place.invariant.redirections;
      ordered = sorted_left (c.in-Some.place.now, c.in-Some.set.now) c.next.new.self (ordered at);
      reached = (reached at).1;
      begun = λ e. absurd (cc);
      exists = λ e. exists_by c.loop-place.node.exists (is_first_below c.args.owner.now c.args.sets) c.loop-place.invariant.exists
          (λ begun. ap (is_first_below c.args.owner.now) (sym (c.loop-place.invariant.begun begun) ∙ first at) ∙ begins_with_itself c.args.owner.now c.in-Some.place.now.0 own);
    }

pub returns-clause-asked : goal.returns-clause-asked
returns-clause-asked c = found_whole (c.args.owner.now, type_code c.args.record_type) c.loop-place.sets c.args.sets (option_copied c.loop-place.node.asked) c.loop-place.invariant.asked (ap (at_place (c.args.owner.now, type_code c.args.record_type)) c.in_default.ensures.steps.0)

pub returns-clause-aliases : goal.returns-clause-aliases
returns-clause-aliases c = found_whole (c.args.owner.now, type_code CNAME) c.loop-place.sets c.args.sets (option_copied c.loop-place.node.aliases) c.loop-place.invariant.aliases (ap (at_place (c.args.owner.now, type_code CNAME)) c.in_default.ensures.steps.0)

pub returns-clause-servers : goal.returns-clause-servers
returns-clause-servers c = found_whole (c.args.owner.now, type_code NS) c.loop-place.sets c.args.sets (option_copied c.loop-place.node.servers) c.loop-place.invariant.servers (ap (at_place (c.args.owner.now, type_code NS)) c.in_default.ensures.steps.0)

pub returns-clause-redirections : goal.returns-clause-redirections
returns-clause-redirections c = found_whole (c.args.owner.now, type_code DNAME) c.loop-place.sets c.args.sets (option_copied c.loop-place.node.redirections) c.loop-place.invariant.redirections (ap (at_place (c.args.owner.now, type_code DNAME)) c.in_default.ensures.steps.0)

pub returns-clause-exists : goal.returns-clause-exists
returns-clause-exists c =
    exists_as c.loop-place.node.exists (is_first_below c.args.owner.now c.args.sets) c.loop-place.invariant.exists
    (λ begun. ap (is_first_below c.args.owner.now) (sym (c.loop-place.invariant.begun begun) ∙ c.in_default.ensures.steps.0))
