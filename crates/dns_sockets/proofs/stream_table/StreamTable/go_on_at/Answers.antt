use Rattle.std.proofs.Common.{Bool, ◌≡◌, ◌∙◌, List, Option, Some, None, ap, arith, refl, subst, sym}
use Rattle.std.proofs.lemmas.Option.{slice_get_past}
use Rattle.std.specs.Prelude.{Ok, slice_get, slice_set}
use Rattle.dns_sockets.specs.Connections.{connection_of}
use Rattle.dns_sockets.specs.Rotation.{HasGoneOn, IsAsActive, IsIdleAt}
use Rattle.dns_sockets.specs.Trace.{Traces, moved_in}
use Rattle.std.proofs.Common.{◌<◌, inl}
use Rattle.dns_sockets.proofs.ActivityLaws.{as_gone, as_none, as_same}
use Rattle.dns_sockets.specs.declared.stream.Stream.{Stream}
use Rattle.dns_sockets.proofs.ConnectionLaws.{on_closed, on_kept, on_none, on_stream, set_here, set_kept}
use Rattle.dns_sockets.proofs.RotationLaws.{set_length, set_other, set_same}
use Rattle.dns_sockets.proofs.StreamStepLaws.{GoesOn}
use Rattle.dns_sockets.proofs.StreamTableLaws.{found_at}
use Rattle.dns_sockets.proofs.stream_table.StreamTable.go_on_at.Goals as goal

pub returns-then-index-len-clause-acts : goal.returns-then-index-len-clause-acts
returns-then-index-len-clause-acts g c = on_none g.W.World.performs g.H.Handler.steps c.args.self.now.slots.items c.args.world.now c.args.handler.now

pub returns-in-Some-2-clause-acts : goal.returns-in-Some-2-clause-acts
returns-in-Some-2-clause-acts g c =
    let slots = c.args.self.now.slots.items in
    let found : slice_get slots c.args.index ≡ Some (Some c.in-Some.stream) =
    found_at slots c.args.index c.index_mut.result.now (omega (arith, c.args.self.now.slots.ok, c.len.ensures, c.if-index-len.false)) c.index_mut.ensures.value ∙ ap Some c.in-Some.is in
    on_kept g.W.World.performs g.H.Handler.steps slots slots (slice_set slots c.args.index (Some c.in-Some.stream)) c.args.world.now c.args.world.now c.args.handler.now c.args.handler.now
    (on_none g.W.World.performs g.H.Handler.steps slots c.args.world.now c.args.handler.now) (set_kept slots c.args.index (Some c.in-Some.stream) found)

pub returns-in-None-clause-acts : goal.returns-in-None-clause-acts
returns-in-None-clause-acts g c =
    let slots = c.args.self.now.slots.items in
    let found : slice_get slots c.args.index ≡ Some c.index_mut.result.now =
    found_at slots c.args.index c.index_mut.result.now (omega (arith, c.args.self.now.slots.ok, c.len.ensures, c.if-index-len.false)) c.index_mut.ensures.value in
    on_kept g.W.World.performs g.H.Handler.steps slots slots (slice_set slots c.args.index c.index_mut.result.now) c.args.world.now c.args.world.now c.args.handler.now c.args.handler.now
    (on_none g.W.World.performs g.H.Handler.steps slots c.args.world.now c.args.handler.now) (set_kept slots c.args.index c.index_mut.result.now found)

pub returns-then-closes-clause-acts : goal.returns-then-closes-clause-acts
returns-then-closes-clause-acts g c =
    let slots = c.args.self.now.slots.items in
    let found : slice_get slots c.args.index ≡ Some (Some c.in-Some.stream) =
    found_at slots c.args.index c.index_mut.result.now (omega (arith, c.args.self.now.slots.ok, c.len.ensures, c.if-index-len.false)) c.index_mut.ensures.value ∙ ap Some c.in-Some.is in
    on_closed g.W.World.performs g.H.Handler.steps slots (slice_set slots c.args.index (Some c.go_on.new.self)) c.close.new.self.slots.items c.args.index c.in-Some.stream c.go_on.new.self
    c.args.world.now c.go_on.new.world c.close.new.world c.args.handler.now c.go_on.new.handler found refl (subst (λ (b : Bool). GoesOn g.W.World.performs g.H.Handler.steps b c.args.index (connection_of c.in-Some.stream) (connection_of c.go_on.new.self) c.args.world.now c.go_on.new.world c.args.handler.now c.go_on.new.handler) c.if-closes.true c.in_ok-closes-in-Some.ensures.acts) c.close.ensures.world c.close.ensures.closed

pub returns-else-closes-clause-acts : goal.returns-else-closes-clause-acts
returns-else-closes-clause-acts g c =
    let slots = c.args.self.now.slots.items in
    let found : slice_get slots c.args.index ≡ Some (Some c.in-Some.stream) =
    found_at slots c.args.index c.index_mut.result.now (omega (arith, c.args.self.now.slots.ok, c.len.ensures, c.if-index-len.false)) c.index_mut.ensures.value ∙ ap Some c.in-Some.is in
    on_stream g.W.World.performs g.H.Handler.steps slots (slice_set slots c.args.index (Some c.go_on.new.self)) c.args.index c.in-Some.stream c.go_on.new.self
    c.args.world.now c.go_on.new.world c.args.handler.now c.go_on.new.handler found refl (subst (λ (b : Bool). GoesOn g.W.World.performs g.H.Handler.steps b c.args.index (connection_of c.in-Some.stream) (connection_of c.go_on.new.self) c.args.world.now c.go_on.new.world c.args.handler.now c.go_on.new.handler) c.if-closes.false c.in_ok-closes-in-Some.ensures.acts)

pub returns-in_err-closes-in-Some-clause-acts : goal.returns-in_err-closes-in-Some-clause-acts
returns-in_err-closes-in-Some-clause-acts g c =
    let slots = c.args.self.now.slots.items in
    let found : slice_get slots c.args.index ≡ Some (Some c.in-Some.stream) =
    found_at slots c.args.index c.index_mut.result.now (omega (arith, c.args.self.now.slots.ok, c.len.ensures, c.if-index-len.false)) c.index_mut.ensures.value ∙ ap Some c.in-Some.is in
    on_stream g.W.World.performs g.H.Handler.steps slots (slice_set slots c.args.index (Some c.go_on.new.self)) c.args.index c.in-Some.stream c.go_on.new.self
    c.args.world.now c.go_on.new.world c.args.handler.now c.go_on.new.handler found refl c.in_err-closes-in-Some.ensures.acts

pub returns-then-index-len-clause-idle : goal.returns-then-index-len-clause-idle
returns-then-index-len-clause-idle g c = λ same.
    let slots = c.args.self.now.slots.items in
    subst (IsIdleAt c.args.now.now) (sym (slice_get_past slots c.args.index (omega (arith, c.args.self.now.slots.ok, c.len.ensures, c.if-index-len.true)))) tt

pub returns-in-Some-2-clause-idle : goal.returns-in-Some-2-clause-idle
returns-in-Some-2-clause-idle g c = λ same.
    let slots = c.args.self.now.slots.items in
    let found : slice_get slots c.args.index ≡ Some (Some c.in-Some.stream) =
    found_at slots c.args.index c.index_mut.result.now (omega (arith, c.args.self.now.slots.ok, c.len.ensures, c.if-index-len.false)) c.index_mut.ensures.value ∙ ap Some c.in-Some.is in
    subst (IsIdleAt c.args.now.now) (sym found) (omega (arith, c.deadline.ensures, c.if-deadline-now.false))

pub returns-in-None-clause-idle : goal.returns-in-None-clause-idle
returns-in-None-clause-idle g c = λ same.
    let slots = c.args.self.now.slots.items in
    let found : slice_get slots c.args.index ≡ Some None =
    found_at slots c.args.index c.index_mut.result.now (omega (arith, c.args.self.now.slots.ok, c.len.ensures, c.if-index-len.false)) c.index_mut.ensures.value ∙ ap Some c.in-None.is in
    subst (IsIdleAt c.args.now.now) (sym found) tt

pub returns-then-closes-clause-gone_on : goal.returns-then-closes-clause-gone_on
returns-then-closes-clause-gone_on g c = λ same.
    let slots = c.args.self.now.slots.items in
    let mid = slice_set slots c.args.index (Some c.go_on.new.self) in
    let len = set_length slots c.args.index (Some c.go_on.new.self) in
    let found : slice_get c.close.new.self.slots.items c.args.index ≡ Some None =
    ap (λ (at : List (Option Stream)). slice_get at c.args.index) c.close.ensures.closed
    ∙ set_here mid c.args.index None (omega (arith, c.args.self.now.slots.ok, c.len.ensures, c.if-index-len.false, len)) in
    subst (HasGoneOn c.go_on.new.now) (sym found) tt

pub returns-else-closes-clause-gone_on : goal.returns-else-closes-clause-gone_on
returns-else-closes-clause-gone_on g c = λ same.
    let slots = c.args.self.now.slots.items in
    let found = set_here slots c.args.index (Some c.go_on.new.self) (omega (arith, c.args.self.now.slots.ok, c.len.ensures, c.if-index-len.false)) in
    subst (HasGoneOn c.go_on.new.now) (sym found) (c.in_ok-closes-in-Some.ensures.in_time (ap (λ (b : Bool). Ok b) c.if-closes.false))

pub returns-in-Some-2-clause-others : goal.returns-in-Some-2-clause-others
returns-in-Some-2-clause-others g c = λ other differ. set_other c.args.self.now.slots.items c.args.index other (Some c.in-Some.stream) differ

pub returns-in-None-clause-others : goal.returns-in-None-clause-others
returns-in-None-clause-others g c = λ other differ. set_other c.args.self.now.slots.items c.args.index other c.index_mut.result.now differ

pub returns-then-closes-clause-others : goal.returns-then-closes-clause-others
returns-then-closes-clause-others g c = λ other differ.
    let slots = c.args.self.now.slots.items in
    ap (λ (at : List (Option Stream)). slice_get at other) c.close.ensures.closed
    ∙ (set_other (slice_set slots c.args.index (Some c.go_on.new.self)) c.args.index other None differ ∙ set_other slots c.args.index other (Some c.go_on.new.self) differ)

pub returns-else-closes-clause-others : goal.returns-else-closes-clause-others
returns-else-closes-clause-others g c = λ other differ. set_other c.args.self.now.slots.items c.args.index other (Some c.go_on.new.self) differ

pub returns-in_err-closes-in-Some-clause-others : goal.returns-in_err-closes-in-Some-clause-others
returns-in_err-closes-in-Some-clause-others g c = λ other differ. set_other c.args.self.now.slots.items c.args.index other (Some c.go_on.new.self) differ

pub returns-in-Some-2-clause-stays : goal.returns-in-Some-2-clause-stays
returns-in-Some-2-clause-stays g c = λ same.
    let slots = c.args.self.now.slots.items in
    let found : slice_get slots c.args.index ≡ Some (Some c.in-Some.stream) =
    found_at slots c.args.index c.index_mut.result.now (omega (arith, c.args.self.now.slots.ok, c.len.ensures, c.if-index-len.false)) c.index_mut.ensures.value ∙ ap Some c.in-Some.is in
    set_same slots c.args.index (Some c.in-Some.stream) found

pub returns-in-None-clause-stays : goal.returns-in-None-clause-stays
returns-in-None-clause-stays g c = λ same.
    let slots = c.args.self.now.slots.items in
    let found : slice_get slots c.args.index ≡ Some c.index_mut.result.now =
    found_at slots c.args.index c.index_mut.result.now (omega (arith, c.args.self.now.slots.ok, c.len.ensures, c.if-index-len.false)) c.index_mut.ensures.value in
    set_same slots c.args.index c.index_mut.result.now found

pub returns-then-index-len-clause-active : goal.returns-then-index-len-clause-active
returns-then-index-len-clause-active g c = inl (as_same (slice_get c.args.self.now.slots.items c.args.index))

pub returns-in-Some-2-clause-active : goal.returns-in-Some-2-clause-active
returns-in-Some-2-clause-active g c =
    let slots = c.args.self.now.slots.items in
    let found : slice_get slots c.args.index ≡ Some (Some c.in-Some.stream) =
    found_at slots c.args.index c.index_mut.result.now (omega (arith, c.args.self.now.slots.ok, c.len.ensures, c.if-index-len.false)) c.index_mut.ensures.value ∙ ap Some c.in-Some.is in
    inl (subst (λ (at : List (Option Stream)). IsAsActive (slice_get slots c.args.index) (slice_get at c.args.index)) (sym {A = List (Option Stream)} (set_same slots c.args.index (Some c.in-Some.stream) found)) (as_same (slice_get slots c.args.index)))

pub returns-in-None-clause-active : goal.returns-in-None-clause-active
returns-in-None-clause-active g c =
    let slots = c.args.self.now.slots.items in
    let found : slice_get slots c.args.index ≡ Some c.index_mut.result.now =
    found_at slots c.args.index c.index_mut.result.now (omega (arith, c.args.self.now.slots.ok, c.len.ensures, c.if-index-len.false)) c.index_mut.ensures.value in
    inl (subst (λ (at : List (Option Stream)). IsAsActive (slice_get slots c.args.index) (slice_get at c.args.index)) (sym {A = List (Option Stream)} (set_same slots c.args.index c.index_mut.result.now found)) (as_same (slice_get slots c.args.index)))

pub returns-then-closes-clause-active : goal.returns-then-closes-clause-active
returns-then-closes-clause-active g c =
    let slots = c.args.self.now.slots.items in
    let mid = slice_set slots c.args.index (Some c.go_on.new.self) in
    let len = set_length slots c.args.index (Some c.go_on.new.self) in
    let found : slice_get c.close.new.self.slots.items c.args.index ≡ Some None =
    ap (λ (at : List (Option Stream)). slice_get at c.args.index) c.close.ensures.closed
    ∙ set_here mid c.args.index None (omega (arith, c.args.self.now.slots.ok, c.len.ensures, c.if-index-len.false, len)) in
    inl (subst (IsAsActive (slice_get slots c.args.index)) (sym found) (as_none (slice_get slots c.args.index)))

pub returns-else-closes-clause-active : goal.returns-else-closes-clause-active
returns-else-closes-clause-active g c =
    let slots = c.args.self.now.slots.items in
    let found : slice_get slots c.args.index ≡ Some (Some c.in-Some.stream) =
    found_at slots c.args.index c.index_mut.result.now (omega (arith, c.args.self.now.slots.ok, c.len.ensures, c.if-index-len.false)) c.index_mut.ensures.value ∙ ap Some c.in-Some.is in
    as_gone slots c.args.index c.in-Some.stream c.go_on.new.self (Traces g.W.World.performs g.H.Handler.steps c.args.world.now c.args.handler.now c.go_on.new.world c.go_on.new.handler (λ acts. 0 < moved_in acts)) found (omega (arith, c.args.self.now.slots.ok, c.len.ensures, c.if-index-len.false)) c.in_ok-closes-in-Some.ensures.active

pub returns-in_err-closes-in-Some-clause-active : goal.returns-in_err-closes-in-Some-clause-active
returns-in_err-closes-in-Some-clause-active g c =
    let slots = c.args.self.now.slots.items in
    let found : slice_get slots c.args.index ≡ Some (Some c.in-Some.stream) =
    found_at slots c.args.index c.index_mut.result.now (omega (arith, c.args.self.now.slots.ok, c.len.ensures, c.if-index-len.false)) c.index_mut.ensures.value ∙ ap Some c.in-Some.is in
    as_gone slots c.args.index c.in-Some.stream c.go_on.new.self (Traces g.W.World.performs g.H.Handler.steps c.args.world.now c.args.handler.now c.go_on.new.world c.go_on.new.handler (λ acts. 0 < moved_in acts)) found (omega (arith, c.args.self.now.slots.ok, c.len.ensures, c.if-index-len.false)) c.in_err-closes-in-Some.ensures.active
