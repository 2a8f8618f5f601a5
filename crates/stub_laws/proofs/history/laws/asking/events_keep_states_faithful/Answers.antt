use Rattle.stub_laws.proofs.EventLaws.{begin-faithful, begin-update-faithful, end-faithful, first-faithful}
use Rattle.stub_laws.proofs.OutLaws.{end-out}
use Rattle.stub_laws.proofs.history.laws.asking.events_keep_states_faithful.Goals as goal

pub returns-clause-first : goal.returns-clause-first
returns-clause-first c = first-faithful

pub returns-clause-begins : goal.returns-clause-begins
returns-clause-begins c = begin-faithful

pub returns-clause-begins_update : goal.returns-clause-begins_update
returns-clause-begins_update c = begin-update-faithful

pub returns-clause-ends : goal.returns-clause-ends
returns-clause-ends c = end-faithful c.updates_keep_zones_well_formed.ensures

pub returns-clause-memory : goal.returns-clause-memory
returns-clause-memory c = λ state. end-out state.link
