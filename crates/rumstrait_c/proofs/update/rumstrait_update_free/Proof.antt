-- `rumstrait_update_free` makes a box of the handle again, and drops it.
use Rattle.std.proofs.Common.{◌≡◌, List, [], ◌∷◌, refl, sym, ap, subst, Option, Some, None, lit<}
use Rattle.std.proofs.raw_atomic.Walks.{proved, leaves}
use base.Fml.{ftrue, flft}
use base.Fraction.{full_share}
use base.Logic.{id⊢, emp}
use contract.BorrowLft.{◌⊑◌}
use contract.Monad.{fact, fact_i}
use contract.Running.{tables}
use denote.Builtin.{unit}
use denote.Exit.{yes}
use denote.Param.NoDrop.{glues}
use denote.RattleType.{owns}
use denote.RawPtr.{Ptr, RawPtr, block_ptr, rawptr_vals, rawptr_Tells, null_ptr, tests_null}
use denote.Signature.{types_at, plain}
use denote.Steps.{nothing, only}
use denote.Triple.Call.{calls_at, calls_at_last}
use denote.Triple.Clauses.{Lasts, lasts}
use denote.Triple.Spec.{triple_of}
use denote.Triple.Table.{framed}
use denote.Triple.Walked.{Stays, walk_of, stay_dropped, Goes-dropped}
use mir.Val.{Val, vptr, vunit}
use prog.Wp.{WpFn}
use types.ByLocal.{alloc_all, pass_all, free_all, look_at, get, sets, lands_as, lands_last, env, is as is_value}
use types.Kit.{‵, raw, ◌⊛◌, some, later, at_ret, ◌$◌, ◌∵◌, !, qed, by, move, keep, drop, use0, use1, use2, split, join, fsplit, fjoin, pick, feq_i, feq_l, await, regoal, prop}
use types.Run.{enter, of_opd, unit_lit, no_more, and_then, first, blocks, exec, returns, bin, lit, branches, skips, returns_within}
use types.Tokens.{lft_new}
use Rattle.std.proofs.BoxSteps.Form as box
use Rattle.std.proofs.boxed.Box.from_raw.Met as make-met
use Rattle.std.proofs.impls.GlobalAllocator.TheImpl.Met.{passed}
use Rattle.std.specs.contracts.boxed.Box.from_raw as make
use Rattle.rumstrait_c.specs.Updates.{handle_at}
use Rattle.rumstrait_c.proofs.HandleSteps.{Global, within_global, global_val, global_Tells, box_val}
use Rattle.rumstrait_c.proofs.UpdateSteps.{boxed, within_update, BoxGood, box_good, box_form}
use Rattle.dns_updates.specs.builder.Parts.{UpdateParts}
use Rattle.rumstrait_c.proofs.NullSteps.{update_cases}
use Rattle.rumstrait_c.specs.contracts.update.rumstrait_update_free as f
use Rattle.rumstrait_c.proofs.update.rumstrait_update_free.Statement.{statement}
use Rattle.rumstrait_c.proofs.update.rumstrait_update_free.Code as code
use Rattle.rumstrait_c.specs.contracts.update.destroy as g
use Rattle.rumstrait_c.proofs.update.destroy.Met.{met}

abbrev stayed : Stays f.ended.signature.params f.ended.kept
stayed = (stay_dropped _ yes, (stay_dropped _ yes, tt))

pub rumstrait_update_free_spec : {M : Type 1} → statement M
unfolding Rattle.rumstrait_c.proofs.Destruct++none.drop.Code.code
rumstrait_update_free_spec {M} 𝓤 𝓛 𝓜 𝓡 wired =
    let c = f.clauses 𝓛 𝓜.mem 𝓡.returns in let W = walk_of 𝓛 f.ended stayed c in let 𝓣 = tables 𝓤 𝓛.H 𝓜 𝓡 𝓡.env in let E = boxed in let al = E.al in
    proved 𝓛 f.ended stayed c 𝓜 𝓡
    (Goes-dropped 𝓛 0 (plain (λ _. Global)) yes (λ κs x w. refl), (Goes-dropped 𝓛 0 (plain (λ _. RawPtr)) yes (λ κs x w. refl), tt))
    f.Key.name code.function (code.unfolded 𝓤 𝓛.H 𝓜 𝓡 wired)
    (λ κs. ((λ _. global_val ∷ []), (rawptr_vals, tt))) (λ κs. (global_Tells, (rawptr_Tells, tt)))
    (λ κs qs bounds a content are.
    let p = a.1.0 in
    let y : Ptr → Option UpdateParts → W.Ghost = λ p' content'. ((κs, qs, bounds, (a.0, (p', tt)), (global_val ∷ [], (rawptr_vals p', tt))), content') in
    qed 𝓛 ((‵ ftrue ⊛ ‵ (owns (types_at f.signature.params κs) a (y p content).0.4)) ∷ ‵ (handle_at a.0 p content) ∷ []) ∵ move ! (1 ∷ []) $ update_cases ! a.0 p content
    (λ is_none e. let z = y null_ptr None in
    regoal ! (λ p'. prop (WpFn 𝓤 𝓛.H 𝓣.C 𝓣.Λ code.function (W.args (y p' content)) (W.post (y p' content)))) e refl $
    regoal ! (λ content'. prop (WpFn 𝓤 𝓛.H 𝓣.C 𝓣.Λ code.function (W.args (y null_ptr content')) (W.post (y null_ptr content')))) is_none refl $
    drop ! $ enter ! _ _ _ _ _ $ alloc_all ! (λ l. pass_all ! refl ((tt, ((tt, tt), tt)), ((tt, record { fits = lit< tt }), tt)) $
    sets ! (of_opd ! (get ! refl)) refl (tt, record { fits = lit< tt }) $ sets ! (bin ! (get ! refl) (lit ! tt) (tests_null null_ptr (lit< tt))) refl (tt, tt) $
    first ! $ branches ! (get ! refl)
    (λ _. sets ! (of_opd ! (unit_lit !)) refl (tt, tt) $ returns_within ! (W.post z) refl (look_at ! 0 refl) $ free_all ! refl $
    nothing ! $ feq_i ! (List Val) (vunit ∷ []) (vunit ∷ []) refl $ nothing ! $ nothing ! $ fjoin ! $ nothing ! $ fjoin ! $ nothing ! $ keep ! (0 ∷ 1 ∷ 2 ∷ 3 ∷ []) $
    by ! (leaves 𝓛 f.ended stayed c z vunit tt (tt, (tt, tt)) (tt, (tt, tt))))
    (λ some. absurd some)))
    (λ held b o is_held e may.
    let z = y (block_ptr b o) (Some held) in
    regoal ! (λ p'. prop (WpFn 𝓤 𝓛.H 𝓣.C 𝓣.Λ code.function (W.args (y p' content)) (W.post (y p' content)))) e refl $
    regoal ! (λ content'. prop (WpFn 𝓤 𝓛.H 𝓣.C 𝓣.Λ code.function (W.args (y (block_ptr b o) content')) (W.post (y (block_ptr b o) content')))) is_held refl $
    fjoin ! $ move ! (1 ∷ []) $ split ! $ drop ! $ fsplit ! $ keep ! (2 ∷ 0 ∷ []) $
    -- [the update with the right to free it; the allocator]
    enter ! _ _ _ _ _ $ alloc_all ! (λ l. pass_all ! refl ((tt, ((tt, tt), tt)), ((tt, tt), tt)) $
    sets ! (of_opd ! (get ! refl)) refl (tt, tt) $ sets ! (bin ! (get ! refl) (lit ! tt) (tests_null (block_ptr b o) may)) refl (tt, tt) $
    first ! $ branches ! (get ! refl) (λ none. absurd none) (λ _. skips ! $ exec ! 𝓣.C 𝓣.Λ (env code.Mir.locals l) code.Mir.t-4 (at_ret (env code.Mir.locals l) (W.post z)) $
    first ! $ blocks ! $ sets ! (of_opd ! (get ! refl)) refl (tt, ((tt, tt), tt)) $ sets ! (of_opd ! (get ! refl)) refl (tt, tt) $ sets ! (of_opd ! (get ! refl)) refl (tt, tt) $
    lft_new ! tt (λ α. lft_new ! tt (λ β.
    let Make = triple_of 𝓛 (make.signature E.row al.row al.g al.d al.drops) (make.spec E.row al.row al.g al.d al.drops 𝓛 𝓜.mem 𝓡.returns) in
    let y₁ : Make.Ghost = (((α ∷ [], (β ∷ [], tt)), (full_share, (full_share, tt)), tt, (a.0, (block_ptr b o, tt)), (global_val ∷ [], (vptr b o ∷ [], tt))), held) in
    -- [β; α; the update with the right to free it; the allocator]
    nothing ! $ move ! (1 ∷ 0 ∷ []) $ join ! $ move ! (1 ∷ 0 ∷ []) $ join ! $
    nothing ! $ feq_i ! (List Val) (vptr b o ∷ []) (vptr b o ∷ []) refl $ fjoin ! $ move ! (3 ∷ 0 ∷ []) $ fjoin ! $ move ! (1 ∷ 0 ∷ []) $ join ! $ move ! (1 ∷ []) $
    use0 𝓛 (raw (fact 𝓤 (β ∷ [] ⊑ al.row.lives))) (fact_i 𝓤 (β ∷ [] ⊑ al.row.lives) (emp 𝓤) (within_global (β ∷ []))) $ join ! $
    use0 𝓛 (raw (fact 𝓤 (α ∷ [] ⊑ E.row.lives))) (fact_i 𝓤 (α ∷ [] ⊑ E.row.lives) (emp 𝓤) (within_update (α ∷ []))) $ join ! $ move ! (1 ∷ 0 ∷ []) $
    use2 𝓛 (raw (Make.pre y₁)) (id⊢ 𝓤 _) $
    calls_at_last ! (framed 𝓤 𝓛.H 𝓜 𝓣) Make
    (make-met.met 𝓤 𝓛 𝓜 𝓡 (code.calls-std_alloc::boxed::Box::from_raw 𝓡.env wired) E.row al.row E.laws al.laws al.g al.d al.drops
    (passed 𝓡.env (code.calls-std_heap::GlobalAllocator::allocate 𝓡.env wired) (code.calls-std_heap::GlobalAllocator::deallocate 𝓡.env wired) (code.calls-std_heap::GlobalAllocator::grow 𝓡.env wired) (code.calls-std_heap::GlobalAllocator::shrink 𝓡.env wired) M 𝓤 𝓛 𝓜 𝓡)
    (glues "rumstrait_c::Destruct++none::drop" 𝓡.env (code.calls-rumstrait_c::Destruct++none::drop 𝓡.env wired) al.row al.laws M 𝓤 𝓛 𝓜 𝓡))
    y₁ (and_then ! (get ! refl) (and_then ! (get ! refl) (no_more !))) (λ u.
    use1 𝓛 (later (some (λ (r : box.D E). ((‵ (flft (α ∷ []) full_share) ⊛ ‵ (flft (β ∷ []) full_share) ⊛ ‵ ftrue) ⊛ ‵ ((box.B E).own_val r (u ∷ []))) ⊛ some (λ (ls : Lasts (make.ended E.row al.row al.g al.d al.drops) y₁.0.0 y₁.0.3).
    ‵ (lasts (make.ended E.row al.row al.g al.d al.drops) y₁.0.0 y₁.0.3 ls) ⊛ raw (fact 𝓤 (r.value ≡ held)) ⊛ raw (fact 𝓤 (r.alloc ≡ a.0)))))) (id⊢ 𝓤 _) $
    await ! tt $ pick ! (λ r. split ! $ split ! $ drop ! $ box_form ! r (u ∷ []) (λ b' o' at is. let same : u ≡ box_val b' o' = ap only is in
    lands_last ! refl (subst BoxGood (sym same) (box_good b' o')) $ exec ! 𝓣.C 𝓣.Λ (env code.Mir.locals l) code.Mir.t-5 (at_ret _ (W.post z)) $
    sets ! (is_value ! (of_opd ! (get ! refl)) same) refl (box_good b' o') $
    let G = triple_of 𝓛 g.signature (g.spec 𝓛 𝓜.mem 𝓡.returns) in
    let z' : G.Ghost = ((tt, tt, tt, (r, tt), (box_val b' o' ∷ [], tt)), tt) in
    nothing ! $ move ! (1 ∷ 0 ∷ []) $ fjoin ! $ nothing ! $ join ! $ nothing ! $ move ! (1 ∷ 0 ∷ []) $ use2 𝓛 (raw (G.pre z')) (id⊢ 𝓤 _) $
    calls_at ! (framed 𝓤 𝓛.H 𝓜 𝓣) G (met 𝓤 𝓛 𝓜 𝓡 (code.calls-rumstrait_c::update::destroy 𝓡.env wired)) z' (and_then ! (get ! refl) (no_more !)) (λ v.
    use1 𝓛 (later (some (λ (r' : Unit {0}). (‵ ftrue ⊛ ‵ (unit.own_val r' (v ∷ []))) ⊛ some (λ (ls : Lasts g.ended tt z'.0.3). ‵ (lasts g.ended tt z'.0.3 ls) ⊛ ‵ ftrue)))) (id⊢ 𝓤 _) $
    await ! tt $ pick ! (λ r'. split ! $ split ! $ drop ! $ feq_l ! (λ is_unit. drop ! $ lands_as ! (ap only is_unit) refl (tt, tt) $
    sets ! (of_opd ! (unit_lit !)) refl (tt, tt) $ returns ! (look_at ! 0 refl) $ free_all ! refl $
    nothing ! $ feq_i ! (List Val) (vunit ∷ []) (vunit ∷ []) refl $ nothing ! $ nothing ! $ fjoin ! $ nothing ! $ fjoin ! $ nothing ! $ keep ! (0 ∷ 1 ∷ 2 ∷ 3 ∷ []) $
    by ! (leaves 𝓛 f.ended stayed c z vunit tt (tt, (tt, tt)) (tt, (tt, tt)))))))))))))))
