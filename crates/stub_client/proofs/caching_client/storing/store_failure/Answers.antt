use Rattle.std.proofs.Common.{sym}
use Rattle.stub_client.proofs.StoringLaws.{stores-negative, stores-nothing}
use Rattle.stub_client.proofs.caching_client.storing.store_failure.Goals as goal

pub returns-in-Ok : goal.returns-in-Ok
returns-in-Ok c =
    stores-negative c.args.now c.args.cache.now c.args.query c.args.error c.in-Ok.answer c.store_answer.result c.store_answer.new.cache
    (sym c.in-Ok.ensures) c.store_answer.ensures

pub returns-in-Err : goal.returns-in-Err
returns-in-Err c =
    stores-nothing c.args.now c.args.cache.now c.args.query c.args.error c.in-Err.error (sym c.in-Err.ensures)
