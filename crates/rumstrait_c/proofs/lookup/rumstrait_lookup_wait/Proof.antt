-- `rumstrait_lookup_wait` lends the resolver behind the handle to `write_wait`, and has it back as `write_wait` leaves it.
use Rattle.std.proofs.Common.{ℤ, [], ◌∷◌, refl, w32, w64, MutBor, Option, Some, None, lit<, pos}
use Rattle.std.proofs.raw_atomic.Walks.{proved, leaves}
use base.Fml.{ftrue, fex, flft, flent, GName}
use base.Fraction.{full_share}
use base.Logic.{id⊢}
use contract.Monad.{fact}
use contract.Running.{tables}
use denote.Builtin.{u8, u64, usize, i32}
use denote.Exit.{yes}
use denote.Laws.{Is, shows}
use denote.Lend.{lends_ref, ref_back}
use denote.Memory.{mem}
use denote.Plain.{uint_vals, uint_Tells}
use denote.RattleType.{owns}
use denote.RawPtr.{Ptr, RawPtr, block_ptr, rawptr_vals, rawptr_Tells, null_ptr, tests_null}
use denote.Ref.{MutRef, mut_vals, mut_Tells}
use denote.Signature.{types_at, plain}
use denote.Signed.{sint_Lawful, sint_Makes}
use denote.Slice.{mut_slice_vals, mut_slice_Tells}
use denote.Steps.{nothing, heard, peeks, owned}
use denote.Triple.Call.{calls_at}
use denote.Triple.Clauses.{Lasts, lasts}
use denote.Triple.Spec.{triple_of}
use denote.Triple.Table.{framed}
use denote.Triple.Walked.{Stays, walk_of, stay_dropped, Goes-dropped, gave_slice, Goes-gave_slice, gave_ref, Goes-gave_ref}
use mir.Syntax.{named}
use mir.Val.{vptr, vint}
use prog.Wp.{WpFn}
use types.ByLocal.{alloc_all, pass_all, free_all, look_at, look_in_at, get, get_in, through, sets, sets_last, lands_as, env}
use types.Kit.{‵, raw, ◌⊛◌, some, later, at_ret, ◌$◌, ◌∵◌, !, qed, by, move, keep, drop, use1, use2, use3, split, join, fsplit, fjoin, fpack, pick, feq_l, await, regoal, prop}
use types.Part.{agg, sub, whole}
use types.Run.{enter, of_opd, addr, from, hop, stop, fld, no_more, and_then, first, blocks, exec, returns, bin, lit, branches, skips, returns_within}
use types.SemTy.{Body}
use types.Tokens.{lft_new, lft_end}
use Rattle.api.specs.declared.lookups.table.LookupTable.{LookupTable}
use Rattle.rumstrait_c.specs.Lookups.{Awaited, handle_at, resolver_at, RefusesWait}
use Rattle.rumstrait_c.proofs.HandleSteps.{Global, global_val, global_Tells}
use Rattle.rumstrait_c.proofs.ResolverSteps.{Table}
use Rattle.rumstrait_c.proofs.NullSteps.{resolver_cases, RefKept, ref_kept, SliceKept, slice_kept}
use Rattle.rumstrait_c.specs.contracts.wait.Wait.{the_row as Waiting}
use Rattle.rumstrait_c.specs.contracts.lookup.rumstrait_lookup_wait as f
use Rattle.rumstrait_c.proofs.lookup.rumstrait_lookup_wait.Statement.{statement}
use Rattle.rumstrait_c.proofs.lookup.rumstrait_lookup_wait.Code as code
use Rattle.rumstrait_c.specs.contracts.lookup.write_wait as g
use Rattle.rumstrait_c.proofs.lookup.write_wait.Met.{met}

abbrev stayed : Stays f.ended.signature.params f.ended.kept
stayed = (stay_dropped _ yes, (stay_dropped _ yes, (stay_dropped _ yes, (gave_ref (0 ∷ []) tt (plain (λ _. Waiting)), (gave_slice (1 ∷ []) tt (plain (λ _. u8)), (gave_ref (2 ∷ []) tt (plain (λ _. usize)), tt))))))

pub rumstrait_lookup_wait_spec : {M : Type 1} → statement M
rumstrait_lookup_wait_spec 𝓤 𝓛 𝓜 𝓡 wired =
    let c = f.clauses 𝓛 𝓜.mem 𝓡.returns in let W = walk_of 𝓛 f.ended stayed c in let 𝓣 = tables 𝓤 𝓛.H 𝓜 𝓡 𝓡.env in
    proved 𝓛 f.ended stayed c 𝓜 𝓡 (Goes-dropped 𝓛 3 (plain (λ _. Global)) yes (λ κs x w. refl), (Goes-dropped 𝓛 3 (plain (λ _. RawPtr)) yes (λ κs x w. refl), (Goes-dropped 𝓛 3 (plain (λ _. u64)) yes (λ κs x w. refl), (Goes-gave_ref 𝓛 3 0 tt (plain (λ _. Waiting)), (Goes-gave_slice 𝓛 3 1 tt (plain (λ _. u8)), (Goes-gave_ref 𝓛 3 2 tt (plain (λ _. usize)), tt))))))
    f.Key.name code.function (code.unfolded 𝓤 𝓛.H 𝓜 𝓡 wired)
    (λ κs. ((λ _. global_val ∷ []), (rawptr_vals, (uint_vals w64, (mut_vals, (mut_slice_vals, (mut_vals, tt)))))))
    (λ κs. (global_Tells, (rawptr_Tells, (uint_Tells w64, (mut_Tells (named 0) κs.0 Waiting, (mut_slice_Tells (named 1) κs.1.0 u8, (mut_Tells (named 2) κs.1.1.0 usize, tt)))))))
    (λ κs qs bounds a content are.
    let p = a.1.0 in let number = a.1.1.0 in let wait = a.1.1.1.0 in let bytes = a.1.1.1.1.0 in let len = a.1.1.1.1.1.0 in
    let number_fits = are.1.1.0.1 in let bytes_fits = are.1.1.1.1.0.0.1.0 in
    let y : Ptr → Option LookupTable → W.Ghost = λ p' content'. ((κs, qs, bounds, (a.0, (p', a.1.1)), (global_val ∷ [], (rawptr_vals p', (uint_vals w64 number, (mut_vals wait, (mut_slice_vals bytes, (mut_vals len, tt))))))), content') in
    let toks = ‵ (flft κs.0 qs.0) ⊛ ‵ (flft κs.1.0 qs.1.0) ⊛ ‵ (flft κs.1.1.0 qs.1.1.0) ⊛ ‵ ftrue in
    qed 𝓛 ((toks ⊛ ‵ (owns (types_at f.signature.params κs) a (y p content).0.4)) ∷ ‵ (handle_at a.0 p content) ∷ []) ∵ move ! (1 ∷ []) $ resolver_cases ! a.0 p content
    (λ is_none e. let z = y null_ptr None in
    regoal ! (λ p'. prop (WpFn 𝓤 𝓛.H 𝓣.C 𝓣.Λ code.function (W.args (y p' content)) (W.post (y p' content)))) e refl $
    regoal ! (λ content'. prop (WpFn 𝓤 𝓛.H 𝓣.C 𝓣.Λ code.function (W.args (y null_ptr content')) (W.post (y null_ptr content')))) is_none refl $
    split ! $ move ! (1 ∷ []) $ fsplit ! $ drop ! $ fsplit ! $ drop ! $ fsplit ! $ drop ! $ fsplit ! $ use1 𝓛 (‵ (RefKept κs.0 Waiting wait)) (ref_kept 𝓛 (named 0) κs.0 Waiting wait (mut_vals wait)) $ move ! (1 ∷ []) $
    fsplit ! $ use1 𝓛 (‵ (SliceKept κs.1.0 u8 bytes)) (slice_kept 𝓛 (named 1) κs.1.0 u8 bytes (mut_slice_vals bytes)) $ move ! (1 ∷ []) $
    fsplit ! $ use1 𝓛 (‵ (RefKept κs.1.1.0 usize len)) (ref_kept 𝓛 (named 2) κs.1.1.0 usize len (mut_vals len)) $ move ! (1 ∷ []) $
    move ! (1 ∷ 0 ∷ []) $ fjoin ! $ move ! (1 ∷ 0 ∷ []) $ fjoin ! $ move ! (1 ∷ 0 ∷ []) $ fjoin ! $ nothing ! $ fjoin ! $ nothing ! $ fjoin ! $ nothing ! $ fjoin ! $
    -- [what is left of the parameters; the tokens]
    nothing ! $ fpack ! (RefusesWait (pos 4) wait.now wait.now bytes.now bytes.now len.now len.now) (λ _. ftrue) (record { code_is = refl; same_wait = refl; same_buffer = refl; same_len = refl }) $
    enter ! _ _ _ _ _ $ alloc_all ! (λ l. pass_all ! refl ((tt, ((tt, tt), tt)), ((tt, record { fits = lit< tt }), ((tt, record { fits = number_fits }), ((tt, tt), ((tt, (tt, (record { fits = bytes_fits }, tt))), ((tt, tt), tt)))))) $
    sets ! (of_opd ! (get ! refl)) refl (tt, record { fits = lit< tt }) $ sets ! (bin ! (get ! refl) (lit ! tt) (tests_null null_ptr (lit< tt))) refl (tt, tt) $
    first ! $ branches ! (get ! refl)
    (λ _. sets ! (of_opd ! (lit ! tt)) refl (tt, record { fits = lit< tt }) $ returns_within ! (W.post z) refl (look_at ! 0 refl) $ free_all ! refl $
    owned ! i32 (Is i32) (sint_Makes 𝓛 w32) (pos 4) (vint w32 4 ∷ []) (refl, lit< tt) $ keep ! (3 ∷ 2 ∷ 0 ∷ 1 ∷ []) $
    by ! (leaves 𝓛 f.ended stayed c z (vint w32 4) (pos 4) (tt, (tt, (tt, (wait.now, (bytes.now, (len.now, tt)))))) (tt, (tt, (tt, (tt, (refl, (tt, tt))))))))
    (λ some. absurd some)))
    (λ held b o is_held e may.
    let z = y (block_ptr b o) (Some held) in
    regoal ! (λ p'. prop (WpFn 𝓤 𝓛.H 𝓣.C 𝓣.Λ code.function (W.args (y p' content)) (W.post (y p' content)))) e refl $
    regoal ! (λ content'. prop (WpFn 𝓤 𝓛.H 𝓣.C 𝓣.Λ code.function (W.args (y (block_ptr b o) content')) (W.post (y (block_ptr b o) content')))) is_held refl $
    move ! (2 ∷ []) $ split ! $ move ! (1 ∷ []) $ fsplit ! $ move ! (1 ∷ []) $ fsplit ! $ drop ! $
    -- [the parameters from the third on; the allocator; the tokens; the resolver; the right to free it]
    enter ! _ _ _ _ _ $ alloc_all ! (λ l. pass_all ! refl ((tt, ((tt, tt), tt)), ((tt, tt), ((tt, record { fits = number_fits }), ((tt, tt), ((tt, (tt, (record { fits = bytes_fits }, tt))), ((tt, tt), tt)))))) $
    sets ! (of_opd ! (get ! refl)) refl (tt, tt) $ sets ! (bin ! (get ! refl) (lit ! tt) (tests_null (block_ptr b o) may)) refl (tt, tt) $
    first ! $ branches ! (get ! refl) (λ none. absurd none) (λ _. skips ! $ exec ! 𝓣.C 𝓣.Λ (env code.Mir.locals l) code.Mir.t-4 (at_ret (env code.Mir.locals l) (W.post z)) $
    sets ! (of_opd ! (get ! refl)) refl (tt, ((tt, tt), tt)) $
    first ! $ blocks ! $ sets ! (of_opd ! (get ! refl)) refl (tt, tt) $ sets ! (of_opd ! (get ! refl)) refl (tt, tt) $ sets_last ! (addr ! (through ! refl (stop !))) refl (tt, tt) $
    exec ! 𝓣.C 𝓣.Λ (env code.Mir.locals l) code.Mir.t-6 (at_ret _ (W.post z)) $
    sets ! (of_opd ! (get ! refl)) refl (tt, tt) $
    sets ! (of_opd ! (get ! refl)) refl (tt, record { fits = number_fits }) $
    sets ! (addr ! (through ! refl (stop !))) refl (tt, tt) $
    sets ! (addr ! (from ! (fld ! refl (hop ! (look_in_at ! 5 (sub ! 0 refl (whole !))) (stop !))))) refl (tt, tt) $
    sets ! (agg ! (and_then ! (get ! refl) (and_then ! (get_in ! (fld ! refl (stop !)) (sub ! 1 refl (whole !))) (no_more !)))) refl (tt, (tt, (record { fits = bytes_fits }, tt))) $
    sets ! (addr ! (through ! refl (stop !))) refl (tt, tt) $
    lft_new ! tt (λ α. move ! (4 ∷ []) $
    use1 𝓛 (later (some (λ (δ : GName). ‵ ((MutRef (named 0) (α ∷ []) Table).own_val (record { ref_ptr = (b, o); ghost_name = δ; now = held }) (vptr b o ∷ [])) ⊛ ‵ (flent (α ∷ []) (Body (mem Table) b o δ)))))
    (lends_ref 𝓛 Table (named 0) (α ∷ []) held b o) $ await ! tt $ pick ! (λ δ. split ! $
    -- [the loan; the lender's part; the token of α; the other parameters; the allocator; the tokens; the right to free]
    let G = triple_of 𝓛 g.signature (g.spec 𝓛 𝓜.mem 𝓡.returns) in
    let lent : MutBor LookupTable = record { ref_ptr = (b, o); ghost_name = δ; now = held } in
    let z' : G.Ghost = (((α ∷ [], κs), (full_share, qs), tt, (a.0, (lent, a.1.1)), (global_val ∷ [], (mut_vals lent, (uint_vals w64 number, (mut_vals wait, (mut_slice_vals bytes, (mut_vals len, tt))))))), tt) in
    move ! (0 ∷ 3 ∷ []) $ fjoin ! $ move ! (3 ∷ 0 ∷ []) $ fjoin ! $ move ! (2 ∷ 3 ∷ 0 ∷ []) $ join ! $ join ! $ nothing ! $ move ! (1 ∷ 0 ∷ []) $ use2 𝓛 (raw (G.pre z')) (id⊢ 𝓤 _) $
    calls_at ! (framed 𝓤 𝓛.H 𝓜 𝓣) G (met 𝓤 𝓛 𝓜 𝓡 (code.calls-rumstrait_c::lookup::write_wait 𝓡.env wired)) z'
    (and_then ! (get ! refl) (and_then ! (get ! refl) (and_then ! (get ! refl) (and_then ! (get ! refl) (and_then ! (get ! refl) (and_then ! (get ! refl) (no_more !))))))) (λ v.
    use1 𝓛 (later (some (λ (r : ℤ). ((‵ (flft (α ∷ []) full_share) ⊛ toks) ⊛ ‵ (i32.own_val r (v ∷ []))) ⊛ some (λ (ws : Lasts g.ended z'.0.0 z'.0.3). ‵ (lasts g.ended z'.0.0 z'.0.3 ws)
    ⊛ raw (fact 𝓤 (Awaited held number r wait.now ws.1.1.1.0 bytes.now ws.1.1.1.1.0 len.now ws.1.1.1.1.1.0 ws.1.0)))))) (id⊢ 𝓤 _) $
    await ! tt $ pick ! (λ r. split ! $ move ! (1 ∷ []) $ pick ! (λ ws. split ! $ move ! (1 ∷ []) $ heard ! _ (λ awaited.
    -- [the last values; the tokens with the result; the lender's part; the right to free]
    fsplit ! $ drop ! $ fsplit ! $ fsplit ! $ move ! (1 ∷ []) $ drop ! $ move ! (1 ∷ []) $
    fsplit ! $ drop ! $ fsplit ! $ move ! (1 ∷ []) $ fsplit ! $ fsplit ! $ fsplit ! $ move ! (1 ∷ []) $ feq_l ! (λ same_bytes. fjoin ! $ move ! (1 ∷ []) $ fsplit ! $ move ! (1 ∷ []) $ move ! (1 ∷ 0 ∷ []) $ fjoin ! $ move ! (1 ∷ 0 ∷ []) $ fjoin ! $ move ! (1 ∷ 0 ∷ []) $ fjoin ! $ nothing ! $ fjoin ! $ nothing ! $ fjoin ! $ nothing ! $ fjoin ! $
    -- [what is left of the parameters; the loan's last value; the tokens with the result; the lender's part; the right to free]
    move ! (2 ∷ []) $ split ! $ split ! $ lft_end ! tt $ move ! (0 ∷ 5 ∷ 4 ∷ []) $ use3 𝓛 (later (‵ ((mem Table).own_at ws.1.0 b o))) (ref_back 𝓛 Table (α ∷ []) δ ws.1.0 b o) $ await ! tt $
    -- [the resolver; the tokens; the result; what is left of the parameters; the right to free]
    move ! (0 ∷ 4 ∷ []) $ fjoin ! $
    fpack ! (Awaited held number r wait.now ws.1.1.1.0 bytes.now ws.1.1.1.1.0 len.now ws.1.1.1.1.1.0 ws.1.0) (λ _. resolver_at a.0 (block_ptr b o) ws.1.0) awaited $
    fpack ! LookupTable (λ after. fex (Awaited held number r wait.now ws.1.1.1.0 bytes.now ws.1.1.1.1.0 len.now ws.1.1.1.1.1.0 after) (λ _. resolver_at a.0 (block_ptr b o) after)) ws.1.0 $
    move ! (2 ∷ []) $ peeks ! i32 (Is i32) (shows 𝓛 i32) r (v ∷ []) (λ is. lands_as ! refl refl ((sint_Lawful 𝓛 w32).typed r _ is).0 $
    returns ! (look_at ! 0 refl) $ free_all ! refl $ keep ! (2 ∷ 3 ∷ 0 ∷ 1 ∷ []) $
    by ! (leaves 𝓛 f.ended stayed c z v r (tt, (tt, (tt, (ws.1.1.1.0, (ws.1.1.1.1.0, (ws.1.1.1.1.1.0, tt)))))) (tt, (tt, (tt, (tt, (same_bytes, (tt, tt)))))))))))))))))))
