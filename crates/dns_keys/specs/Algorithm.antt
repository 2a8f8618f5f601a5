-- The names of algorithms in key files.
use Rattle.std.specs.Prelude.{ℕ, if◌then◌else◌, Bool, List, codes, Option, Some, None}
use Rattle.std.specs.Str.{bytes_eq, str_to_ascii_lowercase}
use Rattle.dns_tsig.specs.declared.hmac.algorithm.Algorithm.{Algorithm}
use Rattle.dns_tsig.specs.declared.hmac.algorithm.Algorithm.TheVariants.{Md5, Sha1, Sha224, Sha256, Sha384, Sha512}

-- the names of the algorithms
abbrev pub algorithm_text : Algorithm → List ℕ
algorithm_text Md5 = codes "hmac-md5"
algorithm_text Sha1 = codes "hmac-sha1"
algorithm_text Sha224 = codes "hmac-sha224"
algorithm_text Sha256 = codes "hmac-sha256"
algorithm_text Sha384 = codes "hmac-sha384"
algorithm_text Sha512 = codes "hmac-sha512"

-- words that are equal but for ASCII case
abbrev pub is_same_text : List ℕ → List ℕ → Bool
is_same_text word other = bytes_eq (str_to_ascii_lowercase word) (str_to_ascii_lowercase other)

-- the algorithm of a name, if its code has 32 bytes or more
abbrev pub longer_in : List ℕ → Option Algorithm
longer_in word =
    if is_same_text word (algorithm_text Sha256) then Some Sha256
    else if is_same_text word (algorithm_text Sha384) then Some Sha384
    else if is_same_text word (algorithm_text Sha512) then Some Sha512
    else None

-- the algorithm of a name
abbrev pub algorithm_in : List ℕ → Option Algorithm
algorithm_in word =
    if is_same_text word (algorithm_text Md5) then Some Md5
    else if is_same_text word (algorithm_text Sha1) then Some Sha1
    else if is_same_text word (algorithm_text Sha224) then Some Sha224
    else longer_in word
