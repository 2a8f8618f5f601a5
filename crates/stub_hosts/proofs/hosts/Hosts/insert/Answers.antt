use Rattle.std.proofs.Common.{◌≡◌, ap, ◌∙◌}
use Rattle.std.proofs.lemmas.Result.{on_ok_weaker}
use Rattle.dns_wire.specs.codes.RecordType.{type_of, type_number}
use Rattle.dns_wire.specs.declared.codes.record_type.RecordType.{RecordType}
use Rattle.dns_wire.specs.declared.codes.record_type.RecordType.TheVariants as types
use Rattle.stub_hosts.specs.Hosts.{HostsContent, with_entry, fresh, with_lookup}
use Rattle.stub_hosts.proofs.HostsLaws.{address_type_is, inserted_a, inserted_aaaa}
use Rattle.stub_hosts.proofs.hosts.Hosts.insert.Goals as goal

pub returns-in-AAAA-clause-ok : goal.returns-in-AAAA-clause-ok
returns-in-AAAA-clause-ok c =
    let hosts : HostsContent = record { a = c.self.inside.a; aaaa = c.self.inside.aaaa } in
    let own = c.set_fqdn.new.self in
    let kind : RecordType = type_of (type_number c.args.record_type) in
    let kind_is : kind ≡ types.AAAA = cc in
    on_ok_weaker c.insert.result
    (λ (e : c.insert.new.self ≡ with_entry own (fresh own types.AAAA c.args.now) c.args.lookup c.self.inside.aaaa).
    inserted_aaaa hosts c.args.name own kind c.args.lookup c.args.now c.insert.new.self c.set_fqdn.ensures kind_is e
    ∙ ap (λ (h : HostsContent). with_lookup h c.args.name kind c.args.lookup c.args.now) c.self.view_is)
    c.insert.ensures.ok

pub returns-in_default-clause-ok : goal.returns-in_default-clause-ok
returns-in_default-clause-ok c =
    let hosts : HostsContent = record { a = c.self.inside.a; aaaa = c.self.inside.aaaa } in
    let own = c.set_fqdn.new.self in
    let kind : RecordType = type_of (type_number c.args.record_type) in
    let kind_is : kind ≡ types.A = address_type_is (type_number c.args.record_type) c.requires.address (λ e. c.in_default.not-AAAA (c.canonical.ensures ∙ e)) in
    on_ok_weaker c.insert-in_default.result
    (λ (e : c.insert-in_default.new.self ≡ with_entry own (fresh own types.A c.args.now) c.args.lookup c.self.inside.a).
    inserted_a hosts c.args.name own kind c.args.lookup c.args.now c.insert-in_default.new.self c.set_fqdn.ensures kind_is e
    ∙ ap (λ (h : HostsContent). with_lookup h c.args.name kind c.args.lookup c.args.now) c.self.view_is)
    c.insert-in_default.ensures.ok
