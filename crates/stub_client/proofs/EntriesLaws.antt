-- Entries of a cache: what holds of each one before holds of each one after.
use Rattle.std.proofs.Common.{◌≡◌, ℕ, ◌==◌, not, nat_lt, Bool, true, cond, List, [], ◌∷◌, ◌++◌, length, Option, Some, None, All, IfSome, option_map}
use Rattle.std.specs.List.{find, list_any}
use Rattle.std.proofs.lemmas.Bool.{cond_both}
use Rattle.std.proofs.lemmas.List.Elements.{All-nil, All-cons, All-head, All-tail, All-append, All-filter}
use Rattle.stub_cache.specs.Cache.{cleared_of, evicted, inserted, is_about, is_first_due, staying}
use Rattle.stub_cache.specs.declared.cache.entry.Entry.{Entry}

all-evicted : (F : Entry → Type 0) (es : List Entry) → All F es → All F (evicted es)
all-evicted F [] h = h
all-evicted F (e ∷ es) h =
    cond_both (is_first_due e es) es (e ∷ evicted es) (All F) (λ first. All-tail F e es h)
    (λ later. All-cons F e (evicted es) (All-head F e es h) (all-evicted F es (All-tail F e es h)))

-- of the entries that were there, and of a new one
pub all-inserted : (F : Entry → Type 0) (capacity : ℕ) (es : List Entry) (e : Entry) → All F es → F e → All F (inserted capacity es e)
all-inserted F capacity es e h new =
    let stay : All F (staying capacity e.question es) =
    cond_both (list_any (is_about e.question) es) (cleared_of e.question es) (cond (nat_lt (length es) capacity) es (evicted es)) (All F)
    (λ some. All-filter (λ x. not (is_about e.question x)) F es h)
    (λ none. cond_both (nat_lt (length es) capacity) es (evicted es) (All F) (λ room. h) (λ full. all-evicted F es h)) in
    cond_both (capacity == 0) es (staying capacity e.question es ++ e ∷ []) (All F) (λ zero'. h)
    (λ some. All-append F (staying capacity e.question es) (e ∷ []) stay (All-cons F e [] new (All-nil F)))

-- of the entry that is found, which passes the test
pub found-entry : (F : Entry → Type 0) (p : Entry → Bool) (es : List Entry) → All F es → IfSome (find p es) (λ e. F e × (p e ≡ true))
found-entry F p [] h = tt
found-entry F p (e ∷ es) h =
    cond_both (p e) (Some e) (find p es) (λ o. IfSome o (λ e. F e × (p e ≡ true))) (λ passes. (All-head F e es h, passes))
    (λ fails. found-entry F p es (All-tail F e es h))

pub if-some-map : {A B : Type 0} (F : A → Type 0) (G : B → Type 0) (f : A → B) → ((a : A) → F a → G (f a)) → (o : Option A) → IfSome o F
    → IfSome (option_map f o) G
if-some-map F G f g None h = tt
if-some-map F G f g (Some a) h = g a h
