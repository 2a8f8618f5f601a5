-- The lengths of digests, by their kinds.
use Rattle.std.specs.Prelude.{◌==◌, ◌||◌, ◌-◌, if◌then◌else◌, ℕ, List, length, slice_get, Option, Some, None, option_map, option_and_then}
use Rattle.dns_wire.specs.codes.RecordType.{type_number}
use Rattle.dns_data.specs.declared.rdata.RData.{RData}
use Rattle.dns_data.specs.declared.rdata.RData.TheVariants as of
use Rattle.zone_lines.specs.declared.warnings.digest.DigestLengths.{DigestLengths}

-- a digest of a key, in DS and CDS records: SHA-1, SHA-256, SHA-384 (RFC 4034 section 5.1.4, RFC 4509, RFC 6605)
abbrev pub signer_length : ℕ → Option ℕ
signer_length kind =
    if kind == 1 then Some 20 else (if kind == 2 then Some 32 else (if kind == 4 then Some 48 else None))

-- a fingerprint, in SSHFP records: SHA-1, SHA-256 (RFC 4255 section 3.1.2, RFC 6594)
abbrev pub fingerprint_length : ℕ → Option ℕ
fingerprint_length kind = if kind == 1 then Some 20 else (if kind == 2 then Some 32 else None)

-- a digest of a certificate or its key, in TLSA and SMIMEA records: SHA-256, SHA-512 (RFC 6698 section 2.1.3)
abbrev pub match_length : ℕ → Option ℕ
match_length kind = if kind == 1 then Some 32 else (if kind == 2 then Some 64 else None)

-- a digest of a zone, in ZONEMD records: SHA-384, SHA-512 (RFC 8976 section 2.2.3)
abbrev pub zone_length : ℕ → Option ℕ
zone_length kind = if kind == 1 then Some 48 else (if kind == 2 then Some 64 else None)

-- the length of a kind of digest in data of the type with a number, in bytes, if it is known
abbrev pub digest_length : ℕ → ℕ → Option ℕ
digest_length number kind =
    if number == 43 || number == 59 then signer_length kind
    else (if number == 44 then fingerprint_length kind
    else (if number == 52 || number == 53 then match_length kind
    else (if number == 63 then zone_length kind else None)))

-- where the digest begins in data of the type with a number, after the byte that says of which kind it is
abbrev pub digest_start : ℕ → Option ℕ
digest_start number =
    if number == 43 || number == 59 then Some 4
    else (if number == 44 then Some 2
    else (if number == 52 || number == 53 then Some 3
    else (if number == 63 then Some 6 else None)))

-- the length of a digest that begins there, and the one that its kind has, if that is known
abbrev pub lengths_from : ℕ → List ℕ → ℕ → Option DigestLengths
lengths_from number bytes start =
    option_and_then
    (λ kind. option_map (λ wanted. record { found = length bytes - start; wanted = wanted }) (digest_length number kind))
    (slice_get bytes (start - 1))

-- the same of the digest in data of a type that has one
abbrev pub lengths_in : ℕ → List ℕ → Option DigestLengths
lengths_in number bytes = option_and_then (lengths_from number bytes) (digest_start number)

-- the length of a digest, if it is not that of its kind
abbrev pub if_wrong : DigestLengths → Option DigestLengths
if_wrong lengths = if lengths.found == lengths.wanted then None else Some lengths

-- the length of the digest in data, if it is not that of its kind
abbrev pub wrong_digest : RData → Option DigestLengths
wrong_digest (of.Unknown code bytes) = option_and_then if_wrong (lengths_in (type_number code) bytes)
wrong_digest other = None
