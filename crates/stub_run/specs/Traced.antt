-- Events over a link that notes its calls.
use Rattle.std.specs.Prelude.{◌≡◌, false, Bool, List, [], ℕ, Option, Result}
use Rattle.std.specs.declared.alloc.AllocError.{AllocError}
use Rattle.stub_link.specs.declared.link.LinkError.{LinkError}
use Rattle.stub_link.specs.declared.wire_handle.WireHandle.{WireHandle}
use Rattle.stub_link.specs.trace.Trace.{calls_of, traced_count, traced_receives, traced_sends, traced_streams, untraced, with_inner}
use Rattle.stub_link.specs.declared.trace.traced_link.TracedLink.{TracedLink}
use Rattle.stub_run.specs.RunOver.{LinkRules, rules_of}
use Rattle.stub_run.specs.declared.event.Event.{Event}

-- an event begins on the other link, without notes
abbrev pub traced_begins : {L : Type 0} → (L → Event → L → Type 0) → TracedLink L → Event → TracedLink L → Type 0
traced_begins begins old e new = begins old.link e new.link × (calls_of new ≡ []) × (new.is_incomplete ≡ false)

-- it ends there, and the notes stay
abbrev pub traced_ends : {L : Type 0} → (L → Result (Unit {0}) AllocError → L → Type 0) → TracedLink L → Result (Unit {0}) AllocError
    → TracedLink L → Type 0
traced_ends ends old result new = ends old.link result new.link × (new ≡ with_inner old new.link)

-- it has run out of memory if the other link has
abbrev pub traced_is_out : {L : Type 0} → (L → Bool) → TracedLink L → Bool
traced_is_out is_out traced = is_out traced.link

-- what a traced link does, by what the other link does
abbrev pub traced_rules : {L : Type 0} → (L → Event → L → Type 0) → (L → Result (Unit {0}) AllocError → L → Type 0) → (L → Bool)
    → (L → List ℕ → Result (Unit {0}) LinkError → L → Type 0) → (L → Result (Option (List ℕ)) LinkError → L → Type 0)
    → (L → List ℕ → Result (List ℕ) LinkError → L → Type 0) → (L → ℕ) → LinkRules (TracedLink L)
traced_rules begins ends is_out sends receives streams failure_count =
    rules_of (traced_begins begins) (traced_ends ends) (traced_is_out is_out) (traced_sends sends) (traced_receives receives)
    (traced_streams streams) (traced_count failure_count)

-- a handle is a handle over a traced link without the notes
abbrev pub IsUntraced : {L : Type 0} → WireHandle (TracedLink L) → WireHandle L → Type 0
IsUntraced traced handle = handle ≡ untraced traced
