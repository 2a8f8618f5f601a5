-- The names of algorithms (RFC 8945 section 6).
use Rattle.std.specs.Prelude.{ℕ, ◌++◌, List, [], ◌∷◌, codes}
use Rattle.dns_tsig.specs.declared.hmac.algorithm.Algorithm.{Algorithm}
use Rattle.dns_tsig.specs.declared.hmac.algorithm.Algorithm.TheVariants as algorithms

-- the names of the algorithms in canonical form: a length before each label, and a zero byte
abbrev pub algorithm_name : Algorithm → List ℕ
algorithm_name algorithms.Md5 =
    8 ∷ codes "hmac-md5" ++ 7 ∷ codes "sig-alg" ++ 3 ∷ codes "reg" ++ 3 ∷ codes "int" ++ 0 ∷ []
algorithm_name algorithms.Sha1 = 9 ∷ codes "hmac-sha1" ++ 0 ∷ []
algorithm_name algorithms.Sha224 = 11 ∷ codes "hmac-sha224" ++ 0 ∷ []
algorithm_name algorithms.Sha256 = 11 ∷ codes "hmac-sha256" ++ 0 ∷ []
algorithm_name algorithms.Sha384 = 11 ∷ codes "hmac-sha384" ++ 0 ∷ []
algorithm_name algorithms.Sha512 = 11 ∷ codes "hmac-sha512" ++ 0 ∷ []
