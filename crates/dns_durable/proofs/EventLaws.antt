-- Calls of a storage, one after another.
use Rattle.std.proofs.Common.{◌≡◌, ℕ, List, [], ◌∷◌, ◌++◌, length, sym, subst, ◌∙◌, arith}
use Rattle.std.proofs.lemmas.List.{take_all}
use Rattle.dns_journal.specs.Event.{Event, Files}
use Rattle.dns_journal.specs.Storage.{Always, Disk, Ends, Leaves, Led, at_rest}

pub led_append : {S : Type 0} (performs : S → Event → S → Type 0) (a b c : S) (es fs : List Event) → Led performs a es b → Led performs b fs c → Led performs a (es ++ fs) c
led_append performs a b c [] fs one two = subst (λ (s : _). Led performs s fs c) (sym one) two
led_append performs a b c (e ∷ es) fs one two = (one.0, (one.1.0, led_append performs one.0 b c es fs one.1.1 two))

pub always_weaker : (P Q : Disk → Type 0) → ((d : Disk) → P d → Q d) → (d : Disk) (es : List Event) → Always P d es → Always Q d es
always_weaker P Q weaker d [] holds = weaker d holds
always_weaker P Q weaker d (e ∷ es) holds = (weaker d holds.0, λ f s. always_weaker P Q weaker f es (holds.1 f s))

pub ends_weaker : (P Q : Disk → Type 0) → ((d : Disk) → P d → Q d) → (d : Disk) (es : List Event) → Ends P d es → Ends Q d es
ends_weaker P Q weaker d [] holds = weaker d holds
ends_weaker P Q weaker d (e ∷ es) holds = λ f s. ends_weaker P Q weaker f es (holds f s)

pub always_then : (P : Disk → Type 0) (d : Disk) (es fs : List Event) → Always P d es → Ends (λ e. Always P e fs) d es → Always P d (es ++ fs)
always_then P d [] fs before after = after
always_then P d (e ∷ es) fs before after = (before.0, λ f s. always_then P f es fs (before.1 f s) (after f s))

pub ends_then : (P : Disk → Type 0) (d : Disk) (es fs : List Event) → Ends (λ e. Ends P e fs) d es → Ends P d (es ++ fs)
ends_then P d [] fs after = after
ends_then P d (e ∷ es) fs after = λ f s. ends_then P f es fs (after f s)

-- a crash of a disk at rest leaves what is read of it
pub rest_is : (text journal : List ℕ) (files : Files) → Leaves (at_rest text journal) files → files.journal ≡ journal
rest_is text journal files leaves =
    sym (take_all (length journal) files.journal leaves.no_longer) ∙ leaves.front ∙ take_all (length journal) journal (omega arith)
