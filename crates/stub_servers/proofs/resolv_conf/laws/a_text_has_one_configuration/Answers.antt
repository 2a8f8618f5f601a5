use Rattle.std.proofs.Common.{ap, sym, ◌∙◌}
use Rattle.stub_servers.specs.resolv_conf.Conf.{conf_of}
use Rattle.stub_servers.specs.resolv_conf.Line.{lines_of}
use Rattle.stub_servers.specs.resolv_conf.Settings.{no_settings}
use Rattle.stub_servers.proofs.SettingLaws.{sets_all-unique}
use Rattle.stub_servers.proofs.resolv_conf.laws.a_text_has_one_configuration.Goals as goal

pub returns : goal.returns
returns c = λ text one other p q.
    p.2 ∙ (ap conf_of (sets_all-unique (lines_of text) no_settings p.0 q.0 p.1 q.1) ∙ sym q.2)
