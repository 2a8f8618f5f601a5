use Rattle.std.proofs.Common.{sym, ◌∙◌}
use Rattle.stub_core.proofs.StrategiesLaws.{first-stays, memory-joins}
use Rattle.stub_core.proofs.strategies.one_name.join.Goals as goal

pub returns-then-is_out_of_memory : goal.returns-then-is_out_of_memory
returns-then-is_out_of_memory c = memory-joins c.args.first c.args.second (sym c.is_out_of_memory.ensures ∙ c.if-is_out_of_memory.true)

pub returns-in-Err : goal.returns-in-Err
returns-in-Err c = first-stays c.args.first _ c.in-Err.other c.in-Err.is (sym c.is_out_of_memory.ensures ∙ c.if-is_out_of_memory.false)
