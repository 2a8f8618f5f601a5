-- The hash functions under HMAC.
use Rattle.std.specs.Prelude.{ℕ, List}
use Rattle.md5.specs.Md5.{md5}
use Rattle.sha1.specs.Sha1.{sha1}
use Rattle.sha2.specs.Sha256.{sha224, sha256}
use Rattle.sha2.specs.Sha512.{sha384, sha512}
use Rattle.dns_tsig.specs.declared.hmac.algorithm.Algorithm.{Algorithm}
use Rattle.dns_tsig.specs.declared.hmac.algorithm.Algorithm.TheVariants as algorithms

-- the digest of a message
abbrev pub hash : Algorithm → List ℕ → List ℕ
hash algorithms.Md5 message = md5 message
hash algorithms.Sha1 message = sha1 message
hash algorithms.Sha224 message = sha224 message
hash algorithms.Sha256 message = sha256 message
hash algorithms.Sha384 message = sha384 message
hash algorithms.Sha512 message = sha512 message

-- the number of bytes in a digest
abbrev pub code_len : Algorithm → ℕ
code_len algorithms.Md5 = 16
code_len algorithms.Sha1 = 20
code_len algorithms.Sha224 = 28
code_len algorithms.Sha256 = 32
code_len algorithms.Sha384 = 48
code_len algorithms.Sha512 = 64

-- the number of bytes in a block
abbrev pub block_len : Algorithm → ℕ
block_len algorithms.Md5 = 64
block_len algorithms.Sha1 = 64
block_len algorithms.Sha224 = 64
block_len algorithms.Sha256 = 64
block_len algorithms.Sha384 = 128
block_len algorithms.Sha512 = 128
