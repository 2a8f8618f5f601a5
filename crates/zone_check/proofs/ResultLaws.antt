-- What a fact of a success leads to.
use Rattle.std.proofs.Common.{◌≡◌, List, ℕ, Result, Ok, Err}
use Rattle.std.specs.Prelude.{OnOk, IfOk, if◌then◌else◌, is_ok}

pub on_ok : {T E : Type 0} (r : Result T E) (P Q : Type 0) → (P → Q) → OnOk r P → OnOk r Q
on_ok (Ok x) P Q leads p = leads p
on_ok (Err e) P Q leads p = p

pub if_ok : {T E : Type 0} (r : Result T E) (P Q : T → Type 0) → ((x : T) → P x → Q x) → IfOk r P → IfOk r Q
if_ok (Ok x) P Q leads p = leads x p
if_ok (Err e) P Q leads p = p

-- what is there after a call that appends or changes nothing
pub if_pushed : {T E : Type 0} (r : Result T E) (new pushed old : List ℕ) → new ≡ (if is_ok r then pushed else old) → OnOk r (new ≡ pushed)
if_pushed (Ok x) new pushed old is = is
if_pushed (Err e) new pushed old is = tt
