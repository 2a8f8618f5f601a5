-- What contracts see of the state of a hash function.
use Rattle.std.specs.Prelude.{ℕ, List}
use Rattle.md5.specs.Md5 as M5
use Rattle.sha1.specs.Sha1 as S1
use Rattle.sha2.specs.Hashers.{Holds224, Holds256, Holds384, Holds512}
use Rattle.dns_tsig.specs.declared.hmac.algorithm.Algorithm.{Algorithm}
use Rattle.dns_tsig.specs.declared.hmac.algorithm.Algorithm.TheVariants as algorithms
use Rattle.dns_tsig.specs.declared.hmac.hasher.Hasher.{Hasher}
use Rattle.dns_tsig.specs.declared.hmac.hasher.Hasher.TheVariants as hashers

-- the hash function of a state
abbrev pub algorithm_of : Hasher → Algorithm
algorithm_of (hashers.Md5 _) = algorithms.Md5
algorithm_of (hashers.Sha1 _) = algorithms.Sha1
algorithm_of (hashers.Sha224 _) = algorithms.Sha224
algorithm_of (hashers.Sha256 _) = algorithms.Sha256
algorithm_of (hashers.Sha384 _) = algorithms.Sha384
algorithm_of (hashers.Sha512 _) = algorithms.Sha512

-- the state has taken a message
abbrev pub Holds : Hasher → List ℕ → Type 0
Holds (hashers.Md5 hasher) message = M5.Holds hasher message
Holds (hashers.Sha1 hasher) message = S1.Holds hasher message
Holds (hashers.Sha224 hasher) message = Holds224 hasher message
Holds (hashers.Sha256 hasher) message = Holds256 hasher message
Holds (hashers.Sha384 hasher) message = Holds384 hasher message
Holds (hashers.Sha512 hasher) message = Holds512 hasher message
