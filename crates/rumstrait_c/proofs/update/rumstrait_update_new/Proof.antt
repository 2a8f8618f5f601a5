-- `rumstrait_update_new` hands out the pointer of the box that `begin` returns, or null.
use Rattle.std.proofs.Common.{List, [], ◌∷◌, refl, sym, ap, ◌∙◌, subst, lit<, w32, IfOk, IfErr, pos}
use native.Mathlib.Nat.{suc-ne-zero}
use Rattle.std.proofs.raw_atomic.Walks.{proved, leaves}
use base.Fml.{ftrue, fex, flft}
use base.Fraction.{full_share}
use base.Logic.{id⊢, emp}
use contract.BorrowLft.{◌⊑◌}
use contract.Monad.{fact, fact_i}
use contract.Running.{tables}
use denote.Builtin.{u8, i32}
use denote.Exit.{yes}
use denote.Laws.{Is}
use denote.Memory.{cell_at}
use denote.Param.NoDrop.{glues}
use denote.RattleType.{owns}
use denote.RawPtr.{Ptr, RawPtr, block_ptr, null_ptr, ptr_val}
use denote.Ref.{mut_vals, mut_Tells}
use denote.Signature.{types_at, plain, shr_slice_of}
use denote.Signed.{sint_Lawful, sint_Makes}
use denote.Slice.{shr_slice_vals, shr_slice_Tells}
use denote.Steps.{nothing, only, heard, opens, closes, owned}
use denote.Triple.Call.{calls_at}
use denote.Triple.Clauses.{Lasts, lasts}
use denote.Triple.Spec.{triple_of}
use denote.Triple.Table.{framed}
use denote.Triple.Walked.{Stays, walk_of, stay_dropped, Goes-dropped, stay_ref, Goes-ref}
use mir.Syntax.{named}
use mir.Val.{Val, vptr, vint, vnull, of_z}
use types.ByLocal.{alloc_all, pass_all, free_all, look_at, get, get_in, through, sets, sets_last, lands_as, take_at, give_at, env}
use types.Kit.{‵, raw, ◌⊛◌, some, later, at_ret, ◌$◌, ◌∵◌, !, qed, by, move, keep, drop, use0, use1, use2, split, join, fsplit, fsplit3, fjoin, fjoin3, fpack, pick, feq_i, feq_l, await, rewrite}
use types.Match.{vrt, in_variant, look_tag, by_variants}
use types.Part.{whole}
use types.Run.{enter, of_opd, lit, load, from, fld, stop, store, no_more, and_then, first, assigns, exec, returns}
use types.Tokens.{lft_new}
use Rattle.std.proofs.boxed.Box.into_raw.Met as into-met
use Rattle.std.proofs.impls.GlobalAllocator.TheImpl.Met.{passed}
use Rattle.std.specs.contracts.boxed.Box.into_raw as into
use Rattle.dns_updates.specs.builder.Parts.{UpdateParts}
use Rattle.rumstrait_c.specs.Updates.{IsUnbegun, IsUpdateOf, begun_at, update_at}
use Rattle.rumstrait_c.proofs.HandleSteps.{Global, within_global, global_val, global_Tells, box_val}
use Rattle.rumstrait_c.proofs.UpdateSteps.{Made, boxed, dropped, lets_go, within_update, update_out, box_good, made_cases, begun_null}
use Rattle.rumstrait_c.specs.contracts.update.rumstrait_update_new as f
use Rattle.rumstrait_c.proofs.update.rumstrait_update_new.Statement.{statement}
use Rattle.rumstrait_c.proofs.update.rumstrait_update_new.Code as code
use Rattle.rumstrait_c.specs.contracts.update.begin as g
use Rattle.rumstrait_c.proofs.update.begin.Met.{met}

abbrev stayed : Stays f.ended.signature.params f.ended.kept
stayed = (stay_dropped _ yes, (stay_dropped _ yes, (stay_ref (1 ∷ []) tt (plain (λ _. RawPtr)), tt)))

pub rumstrait_update_new_spec : {M : Type 1} → statement M
unfolding Rattle.rumstrait_c.proofs.Destruct++none.drop.Code.code
rumstrait_update_new_spec {M} 𝓤 𝓛 𝓜 𝓡 wired =
    let c = f.clauses 𝓛 𝓜.mem 𝓡.returns in let W = walk_of 𝓛 f.ended stayed c in let 𝓣 = tables 𝓤 𝓛.H 𝓜 𝓡 𝓡.env in let E = boxed in let al = E.al in
    proved 𝓛 f.ended stayed c 𝓜 𝓡 (
      Goes-dropped 𝓛 2 (plain (λ _. Global)) yes (λ κs x w. refl),
      (
        Goes-dropped 𝓛 2 (shr_slice_of (0 ∷ []) tt (plain (λ _. u8))) yes (λ κs x w. refl),
        (Goes-ref 𝓛 2 1 tt (plain (λ _. RawPtr)), tt),
      ),
    )
    f.Key.name code.function (code.unfolded 𝓤 𝓛.H 𝓜 𝓡 wired)
    (λ κs. ((λ _. global_val ∷ []), (shr_slice_vals, (mut_vals, tt))))
    (λ κs. (global_Tells, (shr_slice_Tells (named 0) κs.0 u8, (mut_Tells (named 1) κs.1.0 RawPtr, tt))))
    (λ κs qs bounds a ghost are.
    let zone = a.1.0 in let out = a.1.1.0 in let ob = out.ref_ptr.0 in let oo = out.ref_ptr.1 in
    let z : W.Ghost = ((κs, qs, bounds, a, (global_val ∷ [], (shr_slice_vals zone, (mut_vals out, tt)))), ghost) in
    qed 𝓛 (((‵ (flft κs.0 qs.0) ⊛ ‵ (flft κs.1.0 qs.1.0) ⊛ ‵ ftrue) ⊛ ‵ (owns (types_at f.signature.params κs) a z.0.4)) ∷ ‵ ftrue ∷ []) ∵
    split ! $ move ! (1 ∷ []) $ fsplit ! $ move ! (1 ∷ []) $ fsplit ! $
    -- [the zone's name; the place for the handle; the allocator; the tokens; nothing]
    enter ! _ _ _ _ _ $ alloc_all ! (λ l. pass_all ! refl
    ((tt, ((tt, tt), tt)), ((tt, (tt, (record { fits = are.1.0.0.1.0 }, tt))), ((tt, tt), tt))) $
    let G = triple_of 𝓛 g.signature (g.spec 𝓛 𝓜.mem 𝓡.returns) in
    let z' : G.Ghost = (((κs.0, tt), (qs.0, tt), tt, (a.0, (zone, tt)), (global_val ∷ [], (shr_slice_vals zone, tt))), tt) in
    nothing ! $ move ! (1 ∷ 0 ∷ []) $ fjoin ! $ move ! (2 ∷ 0 ∷ []) $ fjoin ! $
    -- [the arguments; the place for the handle; the tokens; nothing]
    move ! (2 ∷ []) $ split ! $ nothing ! $ move ! (1 ∷ 0 ∷ []) $ join ! $ move ! (0 ∷ 2 ∷ []) $ join ! $
    nothing ! $ move ! (1 ∷ 0 ∷ []) $ use2 𝓛 (raw (G.pre z')) (id⊢ 𝓤 _) $
    calls_at ! (framed 𝓤 𝓛.H 𝓜 𝓣) G (met 𝓤 𝓛 𝓜 𝓡 (code.calls-rumstrait_c::update::begin 𝓡.env wired)) z' (and_then ! (get ! refl) (and_then ! (get ! refl) (no_more !))) (λ v.
    use1 𝓛 (later (some (λ (r : Made.Denot). ((‵ (flft κs.0 qs.0) ⊛ ‵ ftrue) ⊛ ‵ (Made.own_val r (v ∷ []))) ⊛ some (λ (ls : Lasts g.ended z'.0.0 z'.0.3). ‵ (lasts g.ended z'.0.0 z'.0.3 ls)
    ⊛ raw (fact 𝓤 (IfOk r (λ b. IsUpdateOf zone.now b.value) × IfErr r (IsUnbegun zone.now))))))) (id⊢ 𝓤 _) $
    await ! tt $ pick ! (λ r. split ! $ move ! (1 ∷ []) $ pick ! (λ _. split ! $ drop ! $ heard ! _ (λ facts. let made = facts.0 in let refused = facts.1 in split ! $ move ! (1 ∷ []) $
    -- [what was made; the tokens of `begin`; the second token; the place for the handle; nothing]
    made_cases ! r v
    (λ d b o is_ok is. let told = subst (λ (x : Made.Denot). IfOk x (λ w. IsUpdateOf zone.now w.value)) is_ok made in
    lands_as ! is refl (tt, (record { fits = lit< tt }, ((tt, (((tt, tt), tt), tt)), tt))) $ take_at ! 6 $ first ! $ by_variants ! 0 (whole !) (load ! (from ! (vrt ! refl (fld ! refl (stop !)))) (look_tag ! 0 (whole !))) tt (
      (λ _. give_at ! 6 $ sets ! (of_opd ! (get_in ! (vrt ! refl (fld ! refl (stop !))) (in_variant ! 0 0 refl refl (whole !)))) refl (box_good b o) $ sets ! (of_opd ! (get ! refl)) refl (box_good b o) $
          lft_new ! tt (λ α. lft_new ! tt (λ β.
          let Into = triple_of 𝓛 (into.signature E.row al.row al.g al.d al.drops dropped) (into.spec E.row al.row al.g al.d al.drops dropped 𝓛 𝓜.mem 𝓡.returns) in
          let y : Into.Ghost = (((α ∷ [], (β ∷ [], tt)), (full_share, (full_share, tt)), tt, (d, tt), (box_val b o ∷ [], tt)), tt) in
          -- [β; α; the box; ..]
          nothing ! $ move ! (1 ∷ 0 ∷ []) $ join ! $ move ! (1 ∷ 0 ∷ []) $ join ! $ nothing ! $ move ! (2 ∷ 0 ∷ []) $ fjoin ! $ move ! (1 ∷ 0 ∷ []) $ join ! $ nothing ! $
          use0 𝓛 (raw (fact 𝓤 (β ∷ [] ⊑ al.row.lives))) (fact_i 𝓤 (β ∷ [] ⊑ al.row.lives) (emp 𝓤) (within_global (β ∷ []))) $ join ! $
          use0 𝓛 (raw (fact 𝓤 (α ∷ [] ⊑ E.row.lives))) (fact_i 𝓤 (α ∷ [] ⊑ E.row.lives) (emp 𝓤) (within_update (α ∷ []))) $ join ! $ move ! (1 ∷ 0 ∷ []) $
          use2 𝓛 (raw (Into.pre y)) (id⊢ 𝓤 _) $
          calls_at ! (framed 𝓤 𝓛.H 𝓜 𝓣) Into
          (into-met.met 𝓤 𝓛 𝓜 𝓡 (code.calls-std_alloc::boxed::Box::into_raw 𝓡.env wired) E.row al.row E.laws al.laws al.g al.d al.drops dropped
          (passed 𝓡.env (code.calls-std_heap::GlobalAllocator::allocate 𝓡.env wired) (code.calls-std_heap::GlobalAllocator::deallocate 𝓡.env wired) (code.calls-std_heap::GlobalAllocator::grow 𝓡.env wired) (code.calls-std_heap::GlobalAllocator::shrink 𝓡.env wired) M 𝓤 𝓛 𝓜 𝓡)
          (glues "rumstrait_c::Destruct++none::drop" 𝓡.env (code.calls-rumstrait_c::Destruct++none::drop 𝓡.env wired) al.row al.laws M 𝓤 𝓛 𝓜 𝓡)
          (lets_go 𝓤 𝓛 𝓜 𝓡 (code.calls-rumstrait_c::dns_updates++builder++builder++UpdateBuilder+Destruct::drop 𝓡.env wired)))
          y (and_then ! (get ! refl) (no_more !)) (λ u.
          use1 𝓛 (later (some (λ (p : Ptr). ((‵ (flft (α ∷ []) full_share) ⊛ ‵ (flft (β ∷ []) full_share) ⊛ ‵ ftrue) ⊛ ‵ (RawPtr.own_val p (u ∷ []))) ⊛ some (λ (ls : Lasts (into.ended E.row al.row al.g al.d al.drops dropped) y.0.0 y.0.3).
          ‵ (lasts (into.ended E.row al.row al.g al.d al.drops dropped) y.0.0 y.0.3 ls) ⊛ ‵ (update_at a.0 p d.value))))) (id⊢ 𝓤 _) $
          await ! tt $ pick ! (λ p. split ! $ split ! $ drop ! $ feq_l ! (λ points. pick ! (λ _. split ! $ drop ! $ update_out ! a.0 p d.value (λ b' o' at.
          lands_as ! (ap only (points ∙ ap (λ (q : Ptr). ptr_val q ∷ []) at)) refl (tt, tt) $ fjoin ! $
          sets ! (of_opd ! (get ! refl)) refl (tt, tt) $
          -- [the zone; the tokens of `begin`; the second token; the place for the handle; nothing]
          move ! (3 ∷ []) $ fsplit ! $ fsplit3 ! $ move ! (6 ∷ []) $ split ! $ move ! (3 ∷ 4 ∷ 0 ∷ []) $ opens ! tt RawPtr ob oo (λ us. move ! (1 ∷ []) $ feq_l ! (λ was.
          rewrite ! 0 (λ (ws : List Val). ‵ (cell_at full_share RawPtr.mir ws ob oo)) was refl $ assigns ! (of_opd ! (get ! refl)) (through ! refl (stop !)) (store ! 0 refl (tt, tt)) $
          feq_i ! (List Val) (vptr b' o' ∷ []) (vptr b' o' ∷ []) refl $ move ! (1 ∷ []) $ closes ! tt RawPtr (block_ptr b' o') (vptr b' o' ∷ []) ob oo $ sets_last ! (of_opd ! (lit ! tt)) refl (tt, record { fits = lit< tt }) $
          exec ! 𝓣.C 𝓣.Λ (env code.Mir.locals l) code.Mir.t-3 (at_ret _ (W.post z)) $ sets ! (of_opd ! (get ! refl)) refl (tt, record { fits = lit< tt }) $ returns ! (look_at ! 0 refl) $ free_all ! refl $
          move ! (7 ∷ 2 ∷ 3 ∷ []) $ split ! $ move ! (2 ∷ 3 ∷ []) $ join ! $ move ! (1 ∷ 0 ∷ []) $ join ! $
          move ! (4 ∷ 2 ∷ 3 ∷ 5 ∷ []) $ fjoin3 ! $ fjoin ! $ nothing ! $ fjoin ! $ nothing ! $ fjoin ! $ move ! (3 ∷ []) $
          fpack ! (IsUpdateOf zone.now d.value) (λ _. update_at a.0 (block_ptr b' o') d.value) told $
          fpack ! UpdateParts (λ update. fex (IsUpdateOf zone.now update) (λ _. update_at a.0 (block_ptr b' o') update)) d.value $
          owned ! i32 (Is i32) (sint_Makes 𝓛 w32) (pos 0) (vint w32 0 ∷ []) (refl, lit< tt) $ keep ! (3 ∷ 2 ∷ 0 ∷ 1 ∷ []) $
          by ! (leaves 𝓛 f.ended stayed c z (vint w32 0) (pos 0) (tt, (tt, (block_ptr b' o', tt))) (tt, (tt, (tt, tt)))))))))))))),
      ((λ e. absurd (suc-ne-zero 0 (sym e))), tt),
    ))
    (λ e is_err is fits. let value = ((sint_Lawful 𝓛 w32).typed e (vint w32 (of_z w32 e) ∷ []) fits).0 in let told = subst (λ (x : Made.Denot). IfErr x (IsUnbegun zone.now)) is_err refused in
    lands_as ! is refl (tt, (record { fits = lit< tt }, (value.1, tt))) $ take_at ! 6 $ first ! $ by_variants ! 0 (whole !) (load ! (from ! (vrt ! refl (fld ! refl (stop !)))) (look_tag ! 0 (whole !))) tt (
      (λ no. absurd (suc-ne-zero 0 no)),
      ((
        λ _. give_at ! 6 $ sets ! (of_opd ! (get_in ! (vrt ! refl (fld ! refl (stop !))) (in_variant ! 1 0 refl refl (whole !)))) refl value $
            move ! (3 ∷ []) $ fsplit ! $ fsplit3 ! $ move ! (6 ∷ []) $ split ! $ move ! (3 ∷ 4 ∷ 0 ∷ []) $ opens ! tt RawPtr ob oo (λ us. move ! (1 ∷ []) $ feq_l ! (λ was.
            rewrite ! 0 (λ (ws : List Val). ‵ (cell_at full_share RawPtr.mir ws ob oo)) was refl $ assigns ! (of_opd ! (lit ! tt)) (through ! refl (stop !)) (store ! 0 refl (tt, record { fits = lit< tt })) $
            feq_i ! (List Val) (vnull ∷ []) (vnull ∷ []) refl $ move ! (1 ∷ []) $ closes ! tt RawPtr null_ptr (vnull ∷ []) ob oo $ sets_last ! (of_opd ! (get ! refl)) refl value $
            exec ! 𝓣.C 𝓣.Λ (env code.Mir.locals l) code.Mir.t-3 (at_ret _ (W.post z)) $ sets ! (of_opd ! (get ! refl)) refl value $ returns ! (look_at ! 0 refl) $ free_all ! refl $
            move ! (7 ∷ 2 ∷ 3 ∷ []) $ split ! $ move ! (2 ∷ 3 ∷ []) $ join ! $ move ! (1 ∷ 0 ∷ []) $ join ! $
            move ! (4 ∷ 2 ∷ 3 ∷ 5 ∷ []) $ fjoin3 ! $ fjoin ! $ nothing ! $ fjoin ! $ nothing ! $ fjoin ! $ move ! (3 ∷ []) $
            use0 𝓛 (‵ (begun_at a.0 e null_ptr zone.now)) (begun_null 𝓛 a.0 zone.now e told) $
            keep ! (3 ∷ 2 ∷ 1 ∷ 0 ∷ []) $ by ! (leaves 𝓛 f.ended stayed c z (vint w32 (of_z w32 e)) e (tt, (tt, (null_ptr, tt))) (tt, (tt, (tt, tt)))))),
        tt,
      )),
    ))))))))
