-- Refusals of a read.
use Rattle.std.proofs.Common.{◌≡◌, ◌≢◌, refl}
use Rattle.dns_wire.specs.declared.error.DecodeError.{DecodeError}
use Rattle.dns_wire.specs.declared.error.DecodeError.TheVariants.{InsufficientBytes, PointerNotPriorToLabel, UnrecognizedLabelCode, DomainNameTooLong, IncorrectRDataLengthRead, InvalidEmptyRecord, RecordNotInAdditionalSection, DuplicateEdns, EdnsNameNotRoot, Memory}

-- An error that cannot be any other than want of memory is that.
pub memory_alone : (error : DecodeError) → (error ≢ Memory → ⊥) → error ≡ Memory
memory_alone InsufficientBytes no_other = absurd (no_other (λ e. cc))
memory_alone PointerNotPriorToLabel no_other = absurd (no_other (λ e. cc))
memory_alone UnrecognizedLabelCode no_other = absurd (no_other (λ e. cc))
memory_alone DomainNameTooLong no_other = absurd (no_other (λ e. cc))
memory_alone IncorrectRDataLengthRead no_other = absurd (no_other (λ e. cc))
memory_alone InvalidEmptyRecord no_other = absurd (no_other (λ e. cc))
memory_alone RecordNotInAdditionalSection no_other = absurd (no_other (λ e. cc))
memory_alone DuplicateEdns no_other = absurd (no_other (λ e. cc))
memory_alone EdnsNameNotRoot no_other = absurd (no_other (λ e. cc))
memory_alone Memory no_other = refl
