use Rattle.dns_tsig_laws.proofs.VerifyingLaws.{request_verifies}
use Rattle.dns_tsig_laws.proofs.signed_requests_verify.Goals as goal

pub returns : goal.returns
returns c = λ earlier key later request code signed time now f u o w fits s timely finds. request_verifies earlier key later time now o u fits timely request code signed w s f finds
