use Rattle.std.proofs.Common.{refl, ◌≤◌, arith, ◌∷◌, []}
use Rattle.dns_wire.specs.Encoder.{state_of}
use Rattle.dns_wire.specs.Encodable.{Plain}
use Rattle.dns_wire.proofs.StoredLaws.{on_err}
use Rattle.dns_messages.specs.Cut.{twelve_zeros}
use Rattle.dns_messages.proofs.EmitLaws.{fresh-end, fresh-back, front-back, front-full, front-fits, front-wrote, front-writable, front-count}
use Rattle.dns_messages.proofs.emit.emit_front.Goals as goal

pub returns-then-count-len-clause-full : goal.returns-then-count-len-clause-full
returns-then-count-len-clause-full g c =
    let e = c.in_ok-place.ensures.zeros.at_end (fresh-end _ c.requires.fresh) in
    λ _. front-full c.requires.fresh e (g.Q.EmitAndCount.items c.args.queries.now) c.in_ok-count.count c.len-len.result c.in_ok-count.ensures.count c.len-len.ensures c.if-count-len.true

pub returns-clause-count : goal.returns-clause-count
returns-clause-count g c =
    let e = c.in_ok-place.ensures.zeros.at_end (fresh-end _ c.requires.fresh) in
    let le : c.len-len.result ≤ c.in_ok-count.count = omega (arith, c.if-count-len.false) in
    front-count c.requires.fresh e (g.Q.EmitAndCount.items c.args.queries.now) c.in_ok-count.count c.len-len.result c.in_ok-count.ensures.count c.len-len.ensures le

pub returns-clause-wrote : goal.returns-clause-wrote
returns-clause-wrote g c =
    let e = c.in_ok-place.ensures.zeros.at_end (fresh-end _ c.requires.fresh) in
    let le : c.len-len.result ≤ c.in_ok-count.count = omega (arith, c.if-count-len.false) in
    front-wrote c.requires.fresh e (g.Q.EmitAndCount.items c.args.queries.now) c.in_ok-count.count c.len-len.result c.in_ok-count.ensures.count c.len-len.ensures le (state_of c.emit.new.encoder) (c.in_ok-count.ensures.wrote refl)

pub returns-clause-writable : goal.returns-clause-writable
returns-clause-writable g c =
    let e = c.in_ok-place.ensures.zeros.at_end (fresh-end _ c.requires.fresh) in
    let le : c.len-len.result ≤ c.in_ok-count.count = omega (arith, c.if-count-len.false) in
    front-writable c.requires.fresh e (g.Q.EmitAndCount.items c.args.queries.now) c.in_ok-count.count c.len-len.result c.in_ok-count.ensures.count c.len-len.ensures le (c.in_ok-count.ensures.writable refl)

pub returns-clause-room : goal.returns-clause-room
returns-clause-room g c =
    let e = c.in_ok-place.ensures.zeros.at_end (fresh-end _ c.requires.fresh) in
    let le : c.len-len.result ≤ c.in_ok-count.count = omega (arith, c.if-count-len.false) in
    front-fits c.requires.fresh e (g.Q.EmitAndCount.items c.args.queries.now) c.in_ok-count.count c.len-len.result c.in_ok-count.ensures.count c.len-len.ensures le

pub returns-in_err-count-clause-back : goal.returns-in_err-count-clause-back
returns-in_err-count-clause-back g c =
    let e = c.in_ok-place.ensures.zeros.at_end (fresh-end _ c.requires.fresh) in
    on_err _ (fresh-back (state_of c.args.encoder.now) (state_of c.place.new.self) (state_of c.emit.new.encoder) (Plain twelve_zeros ∷ []) c.requires.fresh e.ok c.in_err-count.ensures.back)

pub returns-then-count-len-clause-back : goal.returns-then-count-len-clause-back
returns-then-count-len-clause-back g c =
    let e = c.in_ok-place.ensures.zeros.at_end (fresh-end _ c.requires.fresh) in
    front-back c.requires.fresh e (g.Q.EmitAndCount.items c.args.queries.now) (state_of c.emit.new.encoder) (c.in_ok-count.ensures.wrote refl)
