use Rattle.std.proofs.Common.{Option, Ok, refl, sym, subst}
use Rattle.std.specs.Prelude.{string_bytes}
use Rattle.std.specs.declared.net.ip_addr.IpAddr.{IpAddr}
use Rattle.dns_names.specs.Parse.{name_of_text}
use Rattle.stub_core.specs.Resolver.{LooksUpHost}
use Rattle.stub_laws.specs.walk.Walk.{ByWalk}
use Rattle.stub_laws.proofs.AgreementLaws.{looks-up-agree, looks-up-host-agree}
use Rattle.stub_run.proofs.RunsAgree.{one-address}
use Rattle.stub_run.proofs.laws.headline.walked_replies_agree.Goals as goal

pub returns-clause-name : goal.returns-clause-name
returns-clause-name c = λ zone settings size at later name kind one two h k every.
    looks-up-agree zone at later settings tt tt one two tt tt (Ok name) kind (h.everywhere every) (k.everywhere every)

pub returns-clause-host : goal.returns-clause-host
returns-clause-host c = λ zone settings size at later host one two h k.
    looks-up-host-agree zone at later settings tt tt one two tt tt h.0 (name_of_text (string_bytes host)) h.2
    (subst (λ (a : Option IpAddr). LooksUpHost settings later (ByWalk zone) a (name_of_text (string_bytes host)) tt two tt)
    (sym (one-address (string_bytes host) h.0 k.0 h.1 k.1)) k.2)

pub returns-clause-settings : goal.returns-clause-settings
returns-clause-settings c = λ content size limit ids. refl
