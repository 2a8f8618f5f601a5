use Rattle.std.proofs.Common.{◌≤◌, ℕ, subst, arith}
use Rattle.dns_updates.proofs.OwnerCodeLaws.{further, room}
use Rattle.dns_server.proofs.ZoneTableLaws.{search_begins, search_on, search_ends, search_stops}
use Rattle.dns_server.proofs.zone_table.closest_by.Goals as goal

pub loop-taken-init : goal.loop-taken-init
loop-taken-init c = (
  search,
  λ zones are.
      search_begins zones c.args.places.now.entries c.args.name.now.labels c.iter-labels.result c.root-key.result c.place_of-found.result are
      c.iter-labels.ensures c.root-key.ensures c.place_of-found.ensures,
)

pub push-requires : goal.push-requires
push-requires c =
    room c.args.name.now.labels c.loop-taken.labels c.next_back.new.self c.loop-taken.key c.in-Some.label.now c.loop-taken.invariant.0 c.in-Some.ensures.steps
    (subst (λ (n : ℕ). n ≤ 255) c.encoded_len.ensures.value c.if-prove.false)

pub loop-taken-preserved : goal.loop-taken-preserved
loop-taken-preserved c = (
  further c.args.name.now.labels c.loop-taken.labels c.next_back.new.self c.loop-taken.key c.push.new.self c.in-Some.label.now c.loop-taken.invariant.0 c.in-Some.ensures.steps
      c.push.ensures,
  λ zones are.
      search_on zones c.args.places.now.entries c.args.name.now.labels c.loop-taken.labels c.next_back.new.self c.in-Some.label.now c.loop-taken._taken c.loop-taken.key
      c.push.new.self c.loop-taken.found c.place_of.result c.or-found.result are (c.loop-taken.invariant.1 zones are) c.in-Some.ensures.steps c.push.ensures c.place_of.ensures c.or-found.ensures,
)

pub returns-in_default : goal.returns-in_default
returns-in_default c = λ zones are have.
    search_ends zones c.args.name.now.labels c.loop-taken.labels c.loop-taken._taken c.loop-taken.key c.loop-taken.found (c.loop-taken.invariant.1 zones are) c.in_default.ensures.steps.0

pub returns : goal.returns
returns c = λ zones are have.
    search_stops zones c.args.name.now.labels c.loop-taken.labels c.loop-taken._taken c.args.most_labels c.loop-taken.key c.loop-taken.found (c.loop-taken.invariant.1 zones are) have
    (omega (arith, c.loop-taken-test.false))
