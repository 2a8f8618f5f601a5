use Rattle.std.proofs.Common.{◌≡◌, Option, Some, None, Result, Ok, Err, refl, ap}
use Rattle.std.specs.Option.{ok_or}
use Rattle.dns_wire.specs.codes.CodeText.{type_of_text}
use Rattle.dns_wire.specs.declared.codes.record_type.RecordType.{RecordType}
use Rattle.dns_durable.specs.declared.error.GrantError.{GrantError}
use Rattle.dns_durable.specs.declared.error.GrantError.TheVariants as errors
use Rattle.dns_durable.proofs.grant_text.type_in.Goals as goal

or_type : Option RecordType → Result RecordType GrantError
or_type found = elim found [ Some kind ↦ Ok kind | None ↦ Err errors.Type ]

type_found : {E : Type 0} (found : Option RecordType) (error : E) (kind : RecordType) → Ok kind ≡ ok_or found error → Ok kind ≡ or_type found
unfolding or_type
type_found (Some other) error kind is = let same : kind ≡ other = cc in ap (λ (k : RecordType). let r : Result RecordType GrantError = Ok k in r) same
type_found None error kind is = absurd cc

no_type : {E : Type 0} (found : Option RecordType) (error fault : E) → Err fault ≡ ok_or found error → Err errors.Type ≡ or_type found
unfolding or_type
no_type (Some other) error fault is = absurd cc
no_type None error fault is = refl

pub returns-in-Ok : goal.returns-in-Ok
unfolding or_type
returns-in-Ok c = type_found (type_of_text c.args.word.now) _ c.in-Ok.record_type c.in-Ok.ensures.value

pub returns-in-Err : goal.returns-in-Err
unfolding or_type
returns-in-Err c = no_type (type_of_text c.args.word.now) _ c.in-Err.field-0 c.in-Err.ensures.value
