use Rattle.api.proofs.FaultLaws.{finds_fault, finds_nothing}
use Rattle.api.proofs.zones.fault.zone_fault.Goals as goal

pub returns-in_ok-sentence-in-Some-clause-fault : goal.returns-in_ok-sentence-in-Some-clause-fault
returns-in_ok-sentence-in-Some-clause-fault c = finds_fault _ _ c.in_ok-fault.field-0 c.in-Some.fault _ _ c.in_ok-fault.ensures.found c.in-Some.is c.line_of.ensures c.in_ok-sentence-in-Some.ensures

pub returns-in-None-clause-fault : goal.returns-in-None-clause-fault
returns-in-None-clause-fault c = finds_nothing _ _ c.in_ok-fault.field-0 _ c.in_ok-fault.ensures.found c.in-None.is c.new.ensures.items
