-- Sets that are inserted one after another, the last of a list first.
use Rattle.std.proofs.Common.{◌≡◌, Bool, true, false, cond, List, [], ◌∷◌, ◌++◌, refl, sym, ap, ◌∙◌, Option, Some, None}
use Rattle.dns_records.specs.RecordSet.{RecordSetValue}
use Rattle.dns_zone.specs.Rows.{Key}
use Rattle.dns_zone.specs.Sets.{set_at}
use Rattle.dns_zone.proofs.RowLaws.{tied}

abbrev pub or_set : Option RecordSetValue → Option RecordSetValue → Option RecordSetValue
or_set (Some s) other = Some s
or_set None other = other

last_at : (rest : List RecordSetValue) (s : RecordSetValue) (k : Key) (o : Option RecordSetValue) → or_set (set_at (rest ++ s ∷ []) k) o ≡ or_set (set_at rest k) (cond (tied k s) (Some s) o)
last_at [] s k o = by (tied k s)
  where
    by : (b : Bool) → or_set (cond b (Some s) None) o ≡ cond b (Some s) o
    by true = refl
    by false = refl
last_at (t ∷ rest) s k o = by (tied k t) (last_at rest s k o)
  where
    by : (b : Bool) → or_set (set_at (rest ++ s ∷ []) k) o ≡ or_set (set_at rest k) (cond (tied k s) (Some s) o)
        → or_set (cond b (Some t) (set_at (rest ++ s ∷ []) k)) o ≡ or_set (cond b (Some t) (set_at rest k)) (cond (tied k s) (Some s) o)
    by true more = refl
    by false more = more

pub one_gathered : (sets rest kept new : List RecordSetValue) (s : RecordSetValue) (k : Key) (all : Option RecordSetValue) → sets ≡ rest ++ s ∷ []
    → set_at new k ≡ cond (tied k s) (Some s) (set_at kept k) → or_set (set_at sets k) (set_at kept k) ≡ all → or_set (set_at rest k) (set_at new k) ≡ all
one_gathered sets rest kept new s k all e is so_far =
    ap (or_set (set_at rest k)) is ∙ sym (last_at rest s k (set_at kept k)) ∙ ap (λ (l : List RecordSetValue). or_set (set_at l k) (set_at kept k)) (sym e) ∙ so_far
