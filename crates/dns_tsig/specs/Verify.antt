-- By whom a request was signed (RFC 8945 section 5.2).
use Rattle.std.specs.Prelude.{ℕ, ◌+◌, ◌&&◌, if◌then◌else◌, Bool, List, [], ◌∷◌}
use Rattle.std.specs.Str.{bytes_eq, str_to_ascii_lowercase}
use Rattle.dns_tsig.specs.Key.{algorithm_name}
use Rattle.dns_tsig.specs.Judge.{judgement}
use Rattle.dns_tsig.specs.declared.key.Key.{Key}
use Rattle.dns_tsig.specs.declared.covered.Coverage.TheVariants.{Variables}
use Rattle.dns_tsig.specs.declared.found.Signature.{Signature}
use Rattle.dns_tsig.specs.declared.found.Found.{Found}
use Rattle.dns_tsig.specs.declared.found.Found.TheVariants as found
use Rattle.dns_tsig.specs.declared.judge.Judgement.{Judgement}
use Rattle.dns_tsig.specs.declared.judge.Judgement.TheVariants as judgements
use Rattle.dns_tsig.specs.declared.verify.Verdict.{Verdict}
use Rattle.dns_tsig.specs.declared.verify.Verdict.TheVariants as verdicts

-- names of algorithms that are equal but for ASCII case
abbrev pub is_algorithm : List ℕ → List ℕ → Bool
is_algorithm name other = bytes_eq (str_to_ascii_lowercase name) (str_to_ascii_lowercase other)

-- A key is that of a record with its name and its algorithm. Both names of keys are in canonical form.
abbrev pub is_key_of : Key → Signature → Bool
is_key_of key signature =
    bytes_eq key.name.items signature.name.items && is_algorithm (algorithm_name key.algorithm) signature.tsig.algorithm

-- the verdict of a judgement by the key at an index
abbrev pub by_key : ℕ → Judgement → Verdict
by_key index judgements.FormErr = verdicts.FormErr
by_key index judgements.BadSig = verdicts.BadSig index
by_key index judgements.BadTime = verdicts.BadTime index
by_key index judgements.BadTrunc = verdicts.BadTrunc index
by_key index judgements.Verified = verdicts.Verified index

-- the verdict by the first key of a record, among keys of which the first has this index
abbrev pub verdict_from : ℕ → List Key → List ℕ → Signature → ℕ → Verdict
verdict_from index [] request signature now = verdicts.BadKey
verdict_from index (key ∷ keys) request signature now =
    if is_key_of key signature then by_key index (judgement key [] request signature.place signature.tsig Variables now)
    else verdict_from (index + 1) keys request signature now

-- by whom a request was signed
abbrev pub verdict_of : List Key → List ℕ → Found → ℕ → Verdict
verdict_of keys request found.Unsigned now = verdicts.Unsigned
verdict_of keys request found.Malformed now = verdicts.FormErr
verdict_of keys request (found.Signed signature) now = verdict_from 0 keys request signature now
