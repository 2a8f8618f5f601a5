use Rattle.std.proofs.Common.{◌≡◌, ap, ◌∙◌}
use Rattle.stub_core.specs.ResolverBuilder.{is_unsupported}
use Rattle.stub_core.specs.declared.resolver.settings.Settings.{Settings}
use Rattle.stub_run.proofs.Beginning.{built, built-handle, built-settings, settings_of}
use Rattle.stub_run.proofs.world.resolver_over.Goals as goal

pub returns-clause-unsupported : goal.returns-clause-unsupported
returns-clause-unsupported g c = λ is.
    let settings : c.with_hosts.result.settings ≡ settings_of c.args.config c.args.options c.args.hosts =
    built-settings c.args.config c.args.options c.args.hosts c.builder_with_config-builder.result c.with_options.result c.with_hosts.result
    c.builder_with_config-builder.ensures.settings c.with_options.ensures c.with_hosts.ensures in
    c.build.ensures.unsupported (ap (λ (s : Settings). is_unsupported s.options) settings ∙ is)

pub returns-clause-supported : goal.returns-clause-supported
returns-clause-supported g c = λ supported.
    let first = c.builder_with_config-builder.result in
    let second = c.with_options.result in
    let builder = c.with_hosts.result in
    let settings : builder.settings ≡ settings_of c.args.config c.args.options c.args.hosts =
    built-settings c.args.config c.args.options c.args.hosts first second builder
    c.builder_with_config-builder.ensures.settings c.with_options.ensures c.with_hosts.ensures in
    built c.args.link c.args.ids.items c.args.config c.args.options c.args.hosts c.new-handle.result builder c.build.result
    c.new-handle.ensures settings
    (built-handle c.args.options c.args.hosts c.new-handle.result first second builder
    c.builder_with_config-builder.ensures.handle c.with_options.ensures c.with_hosts.ensures)
    (c.build.ensures.supported (ap (λ (s : Settings). is_unsupported s.options) settings ∙ supported))
