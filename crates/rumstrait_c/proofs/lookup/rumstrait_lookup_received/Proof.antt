-- `rumstrait_lookup_received` lends the resolver behind the handle to `receive`, and has it back as `receive` leaves it.
use Rattle.std.proofs.Common.{ℤ, [], ◌∷◌, refl, w32, w64, MutBor, Option, Some, None, lit<, pos}
use Rattle.std.proofs.raw_atomic.Walks.{proved, leaves}
use base.Fml.{ftrue, fex, flft, flent, GName}
use base.Fraction.{full_share}
use base.Logic.{id⊢}
use contract.Monad.{fact}
use contract.Running.{tables}
use denote.Builtin.{u8, u64, i32}
use denote.Exit.{yes}
use denote.Laws.{Is, shows}
use denote.Lend.{lends_ref, ref_back}
use denote.Memory.{mem}
use denote.Plain.{uint_vals, uint_Tells}
use denote.RattleType.{owns}
use denote.RawPtr.{Ptr, RawPtr, block_ptr, rawptr_vals, rawptr_Tells, null_ptr, tests_null}
use denote.Ref.{MutRef, mut_vals}
use denote.Signature.{types_at, plain, shr_slice_of}
use denote.Signed.{sint_Lawful, sint_Makes}
use denote.Slice.{shr_slice_vals, shr_slice_Tells}
use denote.Steps.{nothing, heard, peeks, owned}
use denote.Triple.Call.{calls_at}
use denote.Triple.Clauses.{Lasts, lasts}
use denote.Triple.Spec.{triple_of}
use denote.Triple.Table.{framed}
use denote.Triple.Walked.{Stays, walk_of, stay_dropped, Goes-dropped}
use mir.Syntax.{named}
use mir.Val.{vptr, vint}
use prog.Wp.{WpFn}
use types.ByLocal.{alloc_all, pass_all, free_all, look_at, get, through, sets, sets_last, lands_as, env}
use types.Kit.{‵, raw, ◌⊛◌, some, later, at_ret, ◌$◌, ◌∵◌, !, qed, by, move, keep, drop, use1, use2, use3, split, join, fsplit, fjoin, fpack, pick, await, regoal, prop}
use types.Run.{enter, of_opd, addr, stop, no_more, and_then, first, blocks, exec, returns, bin, lit, branches, skips, returns_within}
use types.SemTy.{Body}
use types.Tokens.{lft_new, lft_end}
use Rattle.api.specs.declared.lookups.table.LookupTable.{LookupTable}
use Rattle.rumstrait_c.specs.Lookups.{Received, handle_at, resolver_at}
use Rattle.rumstrait_c.specs.Codes.{IsNullCode}
use Rattle.rumstrait_c.proofs.HandleSteps.{Global, global_val, global_Tells}
use Rattle.rumstrait_c.proofs.ResolverSteps.{Table}
use Rattle.rumstrait_c.proofs.NullSteps.{resolver_cases}
use Rattle.rumstrait_c.specs.contracts.lookup.rumstrait_lookup_received as f
use Rattle.rumstrait_c.proofs.lookup.rumstrait_lookup_received.Statement.{statement}
use Rattle.rumstrait_c.proofs.lookup.rumstrait_lookup_received.Code as code
use Rattle.rumstrait_c.specs.contracts.lookup.receive as g
use Rattle.rumstrait_c.proofs.lookup.receive.Met.{met}

abbrev stayed : Stays f.ended.signature.params f.ended.kept
stayed = (stay_dropped _ yes, (stay_dropped _ yes, (stay_dropped _ yes, (stay_dropped _ yes, (stay_dropped _ yes, (stay_dropped _ yes, tt))))))

pub rumstrait_lookup_received_spec : {M : Type 1} → statement M
rumstrait_lookup_received_spec 𝓤 𝓛 𝓜 𝓡 wired =
    let c = f.clauses 𝓛 𝓜.mem 𝓡.returns in let W = walk_of 𝓛 f.ended stayed c in let 𝓣 = tables 𝓤 𝓛.H 𝓜 𝓡 𝓡.env in
    proved 𝓛 f.ended stayed c 𝓜 𝓡 (Goes-dropped 𝓛 2 (plain (λ _. Global)) yes (λ κs x w. refl), (Goes-dropped 𝓛 2 (plain (λ _. RawPtr)) yes (λ κs x w. refl), (Goes-dropped 𝓛 2 (plain (λ _. u64)) yes (λ κs x w. refl), (Goes-dropped 𝓛 2 (shr_slice_of (0 ∷ []) tt (plain (λ _. u8))) yes (λ κs x w. refl), (Goes-dropped 𝓛 2 (shr_slice_of (1 ∷ []) tt (plain (λ _. u8))) yes (λ κs x w. refl), (Goes-dropped 𝓛 2 (plain (λ _. u64)) yes (λ κs x w. refl), tt))))))
    f.Key.name code.function (code.unfolded 𝓤 𝓛.H 𝓜 𝓡 wired)
    (λ κs. ((λ _. global_val ∷ []), (rawptr_vals, (uint_vals w64, (shr_slice_vals, (shr_slice_vals, (uint_vals w64, tt)))))))
    (λ κs. (global_Tells, (rawptr_Tells, (uint_Tells w64, (shr_slice_Tells (named 0) κs.0 u8, (shr_slice_Tells (named 1) κs.1.0 u8, (uint_Tells w64, tt)))))))
    (λ κs qs bounds a content are.
    let p = a.1.0 in let number = a.1.1.0 in let message = a.1.1.1.0 in let sender = a.1.1.1.1.0 in let clock = a.1.1.1.1.1.0 in
    let number_fits = are.1.1.0.1 in let message_fits = are.1.1.1.0.0.1.0 in let sender_fits = are.1.1.1.1.0.0.1.0 in let clock_fits = are.1.1.1.1.1.0.1 in
    let y : Ptr → Option LookupTable → W.Ghost = λ p' content'. ((κs, qs, bounds, (a.0, (p', a.1.1)), (global_val ∷ [], (rawptr_vals p', (uint_vals w64 number, (shr_slice_vals message, (shr_slice_vals sender, (uint_vals w64 clock, tt))))))), content') in
    let toks = ‵ (flft κs.0 qs.0) ⊛ ‵ (flft κs.1.0 qs.1.0) ⊛ ‵ ftrue in
    qed 𝓛 ((toks ⊛ ‵ (owns (types_at f.signature.params κs) a (y p content).0.4)) ∷ ‵ (handle_at a.0 p content) ∷ []) ∵ move ! (1 ∷ []) $ resolver_cases ! a.0 p content
    (λ is_none e. let z = y null_ptr None in
    regoal ! (λ p'. prop (WpFn 𝓤 𝓛.H 𝓣.C 𝓣.Λ code.function (W.args (y p' content)) (W.post (y p' content)))) e refl $
    regoal ! (λ content'. prop (WpFn 𝓤 𝓛.H 𝓣.C 𝓣.Λ code.function (W.args (y null_ptr content')) (W.post (y null_ptr content')))) is_none refl $
    split ! $ move ! (1 ∷ []) $ drop ! $ nothing ! $ nothing ! $ fjoin ! $ nothing ! $ fjoin ! $ nothing ! $ fjoin ! $ nothing ! $ fjoin ! $ nothing ! $ fjoin ! $ nothing ! $ fjoin ! $
    -- [what is left of the parameters; the tokens]
    nothing ! $ fpack ! (IsNullCode (pos 4)) (λ _. ftrue) refl $
    enter ! _ _ _ _ _ $ alloc_all ! (λ l. pass_all ! refl ((tt, ((tt, tt), tt)), ((tt, record { fits = lit< tt }), ((tt, record { fits = number_fits }), ((tt, (tt, (record { fits = message_fits }, tt))), ((tt, (tt, (record { fits = sender_fits }, tt))), ((tt, record { fits = clock_fits }), tt)))))) $
    sets ! (of_opd ! (get ! refl)) refl (tt, record { fits = lit< tt }) $ sets ! (bin ! (get ! refl) (lit ! tt) (tests_null null_ptr (lit< tt))) refl (tt, tt) $
    first ! $ branches ! (get ! refl)
    (λ _. sets ! (of_opd ! (lit ! tt)) refl (tt, record { fits = lit< tt }) $ returns_within ! (W.post z) refl (look_at ! 0 refl) $ free_all ! refl $
    owned ! i32 (Is i32) (sint_Makes 𝓛 w32) (pos 4) (vint w32 4 ∷ []) (refl, lit< tt) $ keep ! (3 ∷ 2 ∷ 0 ∷ 1 ∷ []) $
    by ! (leaves 𝓛 f.ended stayed c z (vint w32 4) (pos 4) (tt, (tt, (tt, (tt, (tt, (tt, tt)))))) (tt, (tt, (tt, (tt, (tt, (tt, tt))))))))
    (λ some. absurd some)))
    (λ held b o is_held e may.
    let z = y (block_ptr b o) (Some held) in
    regoal ! (λ p'. prop (WpFn 𝓤 𝓛.H 𝓣.C 𝓣.Λ code.function (W.args (y p' content)) (W.post (y p' content)))) e refl $
    regoal ! (λ content'. prop (WpFn 𝓤 𝓛.H 𝓣.C 𝓣.Λ code.function (W.args (y (block_ptr b o) content')) (W.post (y (block_ptr b o) content')))) is_held refl $
    move ! (2 ∷ []) $ split ! $ move ! (1 ∷ []) $ fsplit ! $ move ! (1 ∷ []) $ fsplit ! $ drop ! $
    -- [the parameters from the third on; the allocator; the tokens; the resolver; the right to free it]
    enter ! _ _ _ _ _ $ alloc_all ! (λ l. pass_all ! refl ((tt, ((tt, tt), tt)), ((tt, tt), ((tt, record { fits = number_fits }), ((tt, (tt, (record { fits = message_fits }, tt))), ((tt, (tt, (record { fits = sender_fits }, tt))), ((tt, record { fits = clock_fits }), tt)))))) $
    sets ! (of_opd ! (get ! refl)) refl (tt, tt) $ sets ! (bin ! (get ! refl) (lit ! tt) (tests_null (block_ptr b o) may)) refl (tt, tt) $
    first ! $ branches ! (get ! refl) (λ none. absurd none) (λ _. skips ! $ exec ! 𝓣.C 𝓣.Λ (env code.Mir.locals l) code.Mir.t-4 (at_ret (env code.Mir.locals l) (W.post z)) $
    sets ! (of_opd ! (get ! refl)) refl (tt, ((tt, tt), tt)) $
    first ! $ blocks ! $ sets ! (of_opd ! (get ! refl)) refl (tt, tt) $ sets ! (of_opd ! (get ! refl)) refl (tt, tt) $ sets_last ! (addr ! (through ! refl (stop !))) refl (tt, tt) $
    exec ! 𝓣.C 𝓣.Λ (env code.Mir.locals l) code.Mir.t-6 (at_ret _ (W.post z)) $
    sets ! (of_opd ! (get ! refl)) refl (tt, tt) $
    sets ! (of_opd ! (get ! refl)) refl (tt, record { fits = number_fits }) $
    sets ! (of_opd ! (get ! refl)) refl (tt, (tt, (record { fits = message_fits }, tt))) $
    sets ! (of_opd ! (get ! refl)) refl (tt, (tt, (record { fits = sender_fits }, tt))) $
    sets ! (of_opd ! (get ! refl)) refl (tt, record { fits = clock_fits }) $
    lft_new ! tt (λ α. move ! (4 ∷ []) $
    use1 𝓛 (later (some (λ (δ : GName). ‵ ((MutRef (named 0) (α ∷ []) Table).own_val (record { ref_ptr = (b, o); ghost_name = δ; now = held }) (vptr b o ∷ [])) ⊛ ‵ (flent (α ∷ []) (Body (mem Table) b o δ)))))
    (lends_ref 𝓛 Table (named 0) (α ∷ []) held b o) $ await ! tt $ pick ! (λ δ. split ! $
    -- [the loan; the lender's part; the token of α; the other parameters; the allocator; the tokens; the right to free]
    let G = triple_of 𝓛 g.signature (g.spec 𝓛 𝓜.mem 𝓡.returns) in
    let lent : MutBor LookupTable = record { ref_ptr = (b, o); ghost_name = δ; now = held } in
    let z' : G.Ghost = (((α ∷ [], κs), (full_share, qs), tt, (a.0, (lent, a.1.1)), (global_val ∷ [], (mut_vals lent, (uint_vals w64 number, (shr_slice_vals message, (shr_slice_vals sender, (uint_vals w64 clock, tt))))))), tt) in
    move ! (0 ∷ 3 ∷ []) $ fjoin ! $ move ! (3 ∷ 0 ∷ []) $ fjoin ! $ move ! (2 ∷ 3 ∷ 0 ∷ []) $ join ! $ join ! $ nothing ! $ move ! (1 ∷ 0 ∷ []) $ use2 𝓛 (raw (G.pre z')) (id⊢ 𝓤 _) $
    calls_at ! (framed 𝓤 𝓛.H 𝓜 𝓣) G (met 𝓤 𝓛 𝓜 𝓡 (code.calls-rumstrait_c::lookup::receive 𝓡.env wired)) z'
    (and_then ! (get ! refl) (and_then ! (get ! refl) (and_then ! (get ! refl) (and_then ! (get ! refl) (and_then ! (get ! refl) (and_then ! (get ! refl) (no_more !))))))) (λ v.
    use1 𝓛 (later (some (λ (r : ℤ). ((‵ (flft (α ∷ []) full_share) ⊛ toks) ⊛ ‵ (i32.own_val r (v ∷ []))) ⊛ some (λ (ws : Lasts g.ended z'.0.0 z'.0.3). ‵ (lasts g.ended z'.0.0 z'.0.3 ws)
    ⊛ raw (fact 𝓤 (Received held number message.now sender.now clock r ws.1.0)))))) (id⊢ 𝓤 _) $
    await ! tt $ pick ! (λ r. split ! $ move ! (1 ∷ []) $ pick ! (λ ws. split ! $ move ! (1 ∷ []) $ heard ! _ (λ received.
    -- [the last values; the tokens with the result; the lender's part; the right to free]
    fsplit ! $ drop ! $ fsplit ! $ fsplit ! $ move ! (1 ∷ []) $ drop ! $ move ! (1 ∷ []) $
    drop ! $ nothing ! $ nothing ! $ fjoin ! $ nothing ! $ fjoin ! $ nothing ! $ fjoin ! $ nothing ! $ fjoin ! $ nothing ! $ fjoin ! $ nothing ! $ fjoin ! $
    -- [what is left of the parameters; the loan's last value; the tokens with the result; the lender's part; the right to free]
    move ! (2 ∷ []) $ split ! $ split ! $ lft_end ! tt $ move ! (0 ∷ 5 ∷ 4 ∷ []) $ use3 𝓛 (later (‵ ((mem Table).own_at ws.1.0 b o))) (ref_back 𝓛 Table (α ∷ []) δ ws.1.0 b o) $ await ! tt $
    -- [the resolver; the tokens; the result; what is left of the parameters; the right to free]
    move ! (0 ∷ 4 ∷ []) $ fjoin ! $
    fpack ! (Received held number message.now sender.now clock r ws.1.0) (λ _. resolver_at a.0 (block_ptr b o) ws.1.0) received $
    fpack ! LookupTable (λ after. fex (Received held number message.now sender.now clock r after) (λ _. resolver_at a.0 (block_ptr b o) after)) ws.1.0 $
    move ! (2 ∷ []) $ peeks ! i32 (Is i32) (shows 𝓛 i32) r (v ∷ []) (λ is. lands_as ! refl refl ((sint_Lawful 𝓛 w32).typed r _ is).0 $
    returns ! (look_at ! 0 refl) $ free_all ! refl $ keep ! (2 ∷ 3 ∷ 0 ∷ 1 ∷ []) $
    by ! (leaves 𝓛 f.ended stayed c z v r (tt, (tt, (tt, (tt, (tt, (tt, tt)))))) (tt, (tt, (tt, (tt, (tt, (tt, tt))))))))))))))))))
