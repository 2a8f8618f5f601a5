use Rattle.std.proofs.Common.{◌∙◌, ap, sym}
use Rattle.stub_core.specs.ResolverBuilder.{Builds, is_unsupported}
use Rattle.stub_core.specs.declared.resolver.settings.Settings.{Settings}
use Rattle.lookup_cli.proofs.SessionLaws.{built_handle, built_settings, new_session, only_fault, what_is_built}
use Rattle.lookup_cli.proofs.session.Session.new.Goals as goal

pub returns-in-Ok-clause-session : goal.returns-in-Ok-clause-session
returns-in-Ok-clause-session g c =
    let builder = c.with_hosts-builder.result in
    let one = c.builder_with_config.result in
    let two = c.with_options.result in
    new_session c.args.network c.args.ids c.args.config c.args.options c.args.timeout c.args.streams_alone c.args.hosts builder c.new-handle.result c.pool_of-pool.result
    c.in_ok-servers.servers c.in-Ok.resolver
    (built_settings c.args.config c.args.options c.args.hosts one two builder c.with_options.ensures c.with_hosts-builder.ensures c.builder_with_config.ensures.settings)
    (built_handle c.args.config c.args.options c.args.hosts one two builder c.with_options.ensures c.with_hosts-builder.ensures c.new-handle.result c.builder_with_config.ensures.handle)
    c.new-handle.ensures
    c.in_ok-servers.ensures c.pool_of-pool.ensures
    (what_is_built (Builds builder) (is_unsupported builder.settings.options) c.build.result c.in-Ok.resolver c.build.ensures.unsupported c.build.ensures.supported c.in-Ok.is)

pub returns-in-Err-clause-faults : goal.returns-in-Err-clause-faults
returns-in-Err-clause-faults g c =
    λ other.
    let builder = c.with_hosts-builder.result in
    let settings = built_settings c.args.config c.args.options c.args.hosts c.builder_with_config.result c.with_options.result builder c.with_options.ensures c.with_hosts-builder.ensures c.builder_with_config.ensures.settings in
    let fault = only_fault (Builds builder) (is_unsupported builder.settings.options) c.build.result c.in-Err.error c.build.ensures.unsupported c.build.ensures.supported c.in-Err.is in
    (fault.0, ap (λ (s : Settings). is_unsupported s.options) (sym settings) ∙ fault.1)
