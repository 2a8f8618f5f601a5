use Rattle.std.proofs.Common.{◌∙◌, ap}
use Rattle.dns_wire.specs.declared.codes.record_type.RecordType.TheVariants.{CNAME, DNAME, NS}
use Rattle.dns_zone.specs.Rows.{ZoneContent, rows_at, some_row_below}
use Rattle.dns_zone.specs.internal.Node.{set_rows}
use Rattle.dns_zone.proofs.NodeLaws.{rows_of_found}
use Rattle.dns_zone.proofs.RowLaws.{row_below}
use Rattle.dns_zone.proofs.zone.Zone.node.Goals as goal

pub returns-clause-records : goal.returns-clause-records
returns-clause-records c =
    c.records_of.ensures ∙ ap set_rows c.node-found.ensures.asked ∙ rows_of_found c.self.inside.sets c.args.name.now.labels c.args.record_type
    ∙ ap (λ (z : ZoneContent). rows_at z.rows c.args.name.now.labels c.args.record_type) c.self.view_is

pub returns-clause-aliases : goal.returns-clause-aliases
returns-clause-aliases c =
    c.records_of-2.ensures ∙ ap set_rows c.node-found.ensures.aliases ∙ rows_of_found c.self.inside.sets c.args.name.now.labels CNAME
    ∙ ap (λ (z : ZoneContent). rows_at z.rows c.args.name.now.labels CNAME) c.self.view_is

pub returns-clause-servers : goal.returns-clause-servers
returns-clause-servers c =
    c.records_of-3.ensures ∙ ap set_rows c.node-found.ensures.servers ∙ rows_of_found c.self.inside.sets c.args.name.now.labels NS
    ∙ ap (λ (z : ZoneContent). rows_at z.rows c.args.name.now.labels NS) c.self.view_is

pub returns-clause-redirections : goal.returns-clause-redirections
returns-clause-redirections c =
    c.records_of-4.ensures ∙ ap set_rows c.node-found.ensures.redirections ∙ rows_of_found c.self.inside.sets c.args.name.now.labels DNAME
    ∙ ap (λ (z : ZoneContent). rows_at z.rows c.args.name.now.labels DNAME) c.self.view_is

pub returns-clause-exists : goal.returns-clause-exists
returns-clause-exists c =
    c.node-found.ensures.exists ∙ row_below c.self.inside.sets c.args.name.now.labels
    ∙ ap (λ (z : ZoneContent). some_row_below z.rows c.args.name.now.labels) c.self.view_is
