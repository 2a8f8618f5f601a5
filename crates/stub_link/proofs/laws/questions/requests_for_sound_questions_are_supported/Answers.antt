use Rattle.stub_link.proofs.SoundRequests.{request-asks}
use Rattle.stub_link.proofs.laws.questions.requests_for_sound_questions_are_supported.Goals as goal

pub returns : goal.returns
returns c = request-asks
