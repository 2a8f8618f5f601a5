-- A text, and then one that may be unstated.
use Rattle.std.proofs.Common.{◌++◌, List, ℕ, Option, Some, None, Result, option_map}
use Rattle.std.proofs.Output.{has_written_append}
use Rattle.std.specs.Fmt.{DisplaysOnOk, HasWritten, IsPlainFormatter}
use Rattle.std.specs.declared.fmt.Error.{Error}
use Rattle.std.specs.declared.fmt.Formatter.{Formatter}

-- a text is written, and then the end that a part determines, if that part is stated
pub text_and_end : {W : Type 0} (took : W → List ℕ → W → Type 0) (f g h : Formatter W) (r : Result (Unit {0}) Error) (text : List ℕ)
    (end : List ℕ → List ℕ) (part : Option (List ℕ)) → (IsPlainFormatter f → HasWritten took f text g)
    → DisplaysOnOk took g r (option_map end part) h → DisplaysOnOk took f r (option_map (λ x. text ++ end x) part) h
text_and_end took f g h r text end None first last = tt
text_and_end took f g h r text end (Some x) first last = λ plain ok.
    let so_far = first plain in
    has_written_append took f text g (end x) h so_far (last so_far.plain ok)
