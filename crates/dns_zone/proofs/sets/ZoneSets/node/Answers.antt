use Rattle.std.proofs.Common.{◌∙◌, List, ap}
use Rattle.std.specs.List.{list_any}
use Rattle.dns_wire.specs.declared.codes.record_type.RecordType.TheVariants.{CNAME, DNAME, NS}
use Rattle.dns_names.specs.Compare.{at_or_below}
use Rattle.dns_records.specs.RecordSet.{RecordSetValue}
use Rattle.dns_zone.specs.Rows.{key}
use Rattle.dns_zone.specs.Sets.{set_at}
use Rattle.dns_zone.proofs.NodeLaws.{exists_in, found_in, range_reached, range_sorted}
use Rattle.dns_zone.proofs.sets.ZoneSets.node.Goals as goal

pub node_of-requires-clause-ordered : goal.node_of-requires-clause-ordered
node_of-requires-clause-ordered c = range_sorted c.first_key-start.result c.self.inside.map.entries c.range-sets.result c.range-sets.ensures.ordered (c.range-sets.ensures.between tt)

pub node_of-requires-clause-reached : goal.node_of-requires-clause-reached
node_of-requires-clause-reached c = range_reached c.first_key-start.result c.self.inside.map.entries c.range-sets.result c.first_key-start.ensures.of_type (c.range-sets.ensures.between tt)

pub returns-clause-asked : goal.returns-clause-asked
returns-clause-asked c =
    found_in c.args.name.now.labels c.first_key-start.result c.self.inside.map.entries c.range-sets.result c.args.record_type _ c.self.invariant c.first_key-start.ensures.owner c.first_key-start.ensures.of_type (c.range-sets.ensures.between tt) c.node_of.ensures.asked
    ∙ ap (λ (sets : List RecordSetValue). set_at sets (key c.args.name.now.labels c.args.record_type)) c.self.view_is

pub returns-clause-aliases : goal.returns-clause-aliases
returns-clause-aliases c =
    found_in c.args.name.now.labels c.first_key-start.result c.self.inside.map.entries c.range-sets.result CNAME _ c.self.invariant c.first_key-start.ensures.owner c.first_key-start.ensures.of_type (c.range-sets.ensures.between tt) c.node_of.ensures.aliases
    ∙ ap (λ (sets : List RecordSetValue). set_at sets (key c.args.name.now.labels CNAME)) c.self.view_is

pub returns-clause-servers : goal.returns-clause-servers
returns-clause-servers c =
    found_in c.args.name.now.labels c.first_key-start.result c.self.inside.map.entries c.range-sets.result NS _ c.self.invariant c.first_key-start.ensures.owner c.first_key-start.ensures.of_type (c.range-sets.ensures.between tt) c.node_of.ensures.servers
    ∙ ap (λ (sets : List RecordSetValue). set_at sets (key c.args.name.now.labels NS)) c.self.view_is

pub returns-clause-redirections : goal.returns-clause-redirections
returns-clause-redirections c =
    found_in c.args.name.now.labels c.first_key-start.result c.self.inside.map.entries c.range-sets.result DNAME _ c.self.invariant c.first_key-start.ensures.owner c.first_key-start.ensures.of_type (c.range-sets.ensures.between tt) c.node_of.ensures.redirections
    ∙ ap (λ (sets : List RecordSetValue). set_at sets (key c.args.name.now.labels DNAME)) c.self.view_is

pub returns-clause-exists : goal.returns-clause-exists
returns-clause-exists c =
    exists_in c.args.name.now.labels c.first_key-start.result c.self.inside.map.entries c.range-sets.result _ c.self.invariant c.range-sets.ensures.ordered c.first_key-start.ensures.owner c.first_key-start.ensures.of_type (c.range-sets.ensures.between tt) c.node_of.ensures.exists
    ∙ ap (λ (sets : List RecordSetValue). list_any (λ (s : RecordSetValue). at_or_below c.args.name.now.labels s.name.labels) sets) c.self.view_is
