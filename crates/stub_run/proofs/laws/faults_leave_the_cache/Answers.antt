use Rattle.std.proofs.Common.{ap, refl}
use Rattle.stub_lookup.specs.declared.error.NetError.TheVariants as net
use Rattle.stub_client.specs.Handle.{Outcome}
use Rattle.stub_client.specs.Looks.{lookup_settings}
use Rattle.stub_client.specs.Step.{meaning}
use Rattle.stub_run.proofs.laws.faults_leave_the_cache.Goals as goal

pub returns : goal.returns
returns c = λ options now old new q reply answers earlier last fault asks is.
    c.every_failure_is_returned.ensures (lookup_settings old options) now old.cache q answers.asks reply new.cache answers.looks
    earlier last (net.Link fault) asks (ap (λ (out : Outcome). meaning out) is) refl
