-- An event begins without notes, and its end leaves the notes as they are.
use Rattle.std.proofs.Common.{◌≡◌, false, [], Result, Ok, Err, OnOk, refl, subst, ◌∙◌}
use Rattle.std.specs.declared.alloc.AllocError.{AllocError}
use Rattle.stub_link.specs.trace.Trace.{calls_of, with_inner}
use Rattle.stub_link.specs.declared.trace.traced_link.TracedLink.{TracedLink}
use Rattle.stub_run.specs.Traced.{traced_begins, traced_ends}
use Rattle.stub_run.specs.declared.event.Event.{Event}

pub traced-begun : {L : Type 0} (begins : L → Event → L → Type 0) (old cleared : TracedLink L) (e : Event) (before after : L)
    (result : Result (Unit {0}) AllocError) → cleared.link ≡ old.link → calls_of cleared ≡ [] → cleared.is_incomplete ≡ false
    → before ≡ cleared.link → OnOk result (begins before e after) → OnOk result (traced_begins begins old e (with_inner cleared after))
traced-begun {L} begins old cleared e before after (Ok done) link calls complete same h =
    (subst (λ (l : L). begins l e after) (same ∙ link) h, calls, complete)
traced-begun begins old cleared e before after (Err error) link calls complete same h = tt

pub traced-ended : {L : Type 0} (ends : L → Result (Unit {0}) AllocError → L → Type 0) (old : TracedLink L) (before after : L)
    (result : Result (Unit {0}) AllocError) → before ≡ old.link → ends before result after
    → traced_ends ends old result (with_inner old after)
traced-ended {L} ends old before after result same h = (subst (λ (l : L). ends l result after) same h, refl)
