use Rattle.dns_tsig.proofs.VerifiedLaws.{accepted-verified}
use Rattle.dns_tsig.proofs.signer.laws.accepted_replies_are_verified.Goals as goal

pub returns : goal.returns
returns c = λ key code reply now accepted e. accepted-verified key code reply now accepted e
