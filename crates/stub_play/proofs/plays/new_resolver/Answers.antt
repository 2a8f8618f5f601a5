use Rattle.std.proofs.Common.{◌≡◌, false, ap, ◌∙◌}
use Rattle.stub_core.specs.ResolverBuilder.{is_unsupported}
use Rattle.stub_play.proofs.PlayLaws.{first_of_play, play_options_are_supported}
use Rattle.stub_play.proofs.plays.new_resolver.Goals as goal

pub returns : goal.returns
returns g c =
    let input = c.args.input.now in
    let supported : is_unsupported c.play_options-options.result ≡ false =
    ap is_unsupported c.play_options-options.ensures ∙ play_options_are_supported input in
    first_of_play input c.in_ok-ids.ids.items c.default-config.result c.play_options-options.result c.args.hosts c.args.link c.in-Ok.resolver
    c.default-config.ensures c.play_options-options.ensures c.in_ok-ids.ensures.counted c.in_ok-ids.ensures.all
    (c.in-Ok.ensures.supported supported)
