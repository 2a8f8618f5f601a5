use Rattle.std.proofs.Common.{sym, ap}
use Rattle.std.specs.Prelude.{Err}
use Rattle.stub_lookup.specs.declared.error.NetError.{NetError}
use Rattle.stub_client.specs.Step.{step_on}
use Rattle.stub_client.proofs.StepLaws.{is-negative, stops-on}
use Rattle.stub_client.proofs.caching_client.step.step_on_error.Goals as goal

pub returns-in-Ok : goal.returns-in-Ok
returns-in-Ok c settings q kept depth =
    ap (λ (error : NetError). step_on settings q kept depth (Err error)) (sym (is-negative c.args.error c.in-Ok.answer (sym c.in-Ok.ensures)))

pub returns-in-Err : goal.returns-in-Err
returns-in-Err c settings q kept depth = stops-on settings q kept depth c.args.error c.in-Err.error (sym c.in-Err.ensures)
