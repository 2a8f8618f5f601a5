-- Refusals.
use Rattle.std.specs.Prelude.{◌≡◌, ◌≢◌, Result, Ok, Err, MatchResult}
use Rattle.dns_wire.specs.declared.error.EncodeError.{EncodeError}
use Rattle.dns_wire.specs.declared.error.EncodeError.TheVariants as encode
use Rattle.dns_wire.specs.declared.error.ProtoError.{ProtoError}
use Rattle.dns_wire.specs.declared.error.ProtoError.TheVariants as proto

-- The call returns what is specified, a value or an error, unless it runs out of memory, which it reports by this error.
abbrev pub IsUnless : {X E : Type 0} → E → Result X E → Result X E → Type 0
IsUnless memory spec result =
    MatchResult result (λ x. spec ≡ Ok x) (λ error. error ≢ memory → spec ≡ Err error)

-- the error of a write, as an error of writing a list or a text
abbrev pub proto_error : EncodeError → ProtoError
proto_error encode.MaxBufferSizeExceeded = proto.MaxBufferSizeExceeded
proto_error encode.Memory = proto.Memory

-- the outcome of a write, with the same change of its error
abbrev pub proto_result : {X : Type 0} → Result X EncodeError → Result X ProtoError
proto_result (Ok x) = Ok x
proto_result (Err error) = Err (proto_error error)
