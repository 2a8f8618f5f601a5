-- Steps of the walks of exports: a resolver behind a handle. Assumes `Logic`.
use Rattle.std.proofs.Common.{◌≡◌, ℕ, zero, suc, ℤ, pos, negsuc, List, [], ◌∷◌, ◌++◌, refl, sym, ap, ◌∙◌, subst, T, Ok, Err, w32}
use Rattle.std.specs.Prelude.{nat_abs}
use native.Mathlib.Nat.{suc-ne-zero}
use seplogic.Ra.Ura.{Ura}
use mathlib.Core.List.{not-mem-nil}
use base.Fml.{Lft, feq}
use base.Fraction.{full_share}
use base.Logic.{never, fst∗, ent, emp}
use borrow.Fn.Glue.{glue_by, glue_ps}
use borrow.Fn.Impl.{via_longer}
use borrow.Fn.Kinds.{ended_of, stays, r_unit}
use borrow.Fn.Run.{Over}
use borrow.Fn.World.{World}
use contract.BorrowLft.{◌⊑◌}
use contract.Running.{Running, tables_of}
use denote.Builtin.{i32}
use denote.Exit.{no}
use denote.Laws.{Is, shows}
use denote.Memory.{lone, part_at}
use denote.Param.{arg, layouts}
use denote.Param.Glue as glue
use denote.Param.Laws.{arg_laws}
use denote.RattleType.{RattleType}
use denote.RawPtr.{Ptr, block_ptr, null_ptr, in_a_block}
use denote.Signed.{sint_Tells}
use denote.Steps.{only, peeks}
use denote.Triple.Carry.{AllWithin}
use denote.Triple.Clauses.{Lasts, lasts, at_exit}
use denote.Triple.Table.{widened}
use denote.Triple.Walked.{Fit}
use mir.Raw.{raw as bare}
use mir.Syntax.{Dict, impl, method, tnil, dnil}
use mir.Val.{Val, vint, of_list, of_z, has_ty, WT}
use prog.Model.{Model}
use prog.Wired.{Wired}
use types.Kit.{Goal, Seq, Item, ‵, ◌$◌, ◌∵◌, !, qed, done, drop, move, rewrite, fsplit, fpick, fpack, feq_i, feq_l}
use types.Logic.{Logic, sem}
use types.Match.{live}
use Rattle.std.proofs.BoxSteps.Form.{Bx, D, B, word}
use Rattle.std.proofs.BoxSteps.Steps.{box_out, box_in}
use Rattle.std.proofs.alloc.Global.TheLaws as global-laws
use Rattle.std.specs.contracts.boxed.Box.{the_row as box-row}
use Rattle.std.specs.contracts.impls.GlobalAllocator.TheImpl as heap
use Rattle.std.specs.contracts.result.Result as result
use Rattle.api.proofs.lookups.table.LookupTable.TheLaws as table-laws
use Rattle.api.specs.contracts.lookups.table.LookupTable as table
use Rattle.api.specs.declared.lookups.refusal.LookupRefusal.{LookupRefusal}
use Rattle.api.specs.declared.lookups.refusal.LookupRefusal.TheVariants as refusal
use Rattle.api.specs.declared.lookups.table.LookupTable.{LookupTable}
use Rattle.rumstrait_c.specs.Codes.{lookup_code}
use Rattle.rumstrait_c.specs.Lookups.{IsUnresolved, resolver_at, resolves_at}
use Rattle.rumstrait_c.proofs.HandleSteps.{Global, GlobalArg, global_Tells, global_val, no_drop, box_val}
use Rattle.rumstrait_c.proofs.api++lookups++table++LookupTable+Destruct.drop.Kinds as kinds
use Rattle.rumstrait_c.proofs.api++lookups++table++LookupTable+Destruct.drop.Met as drop-met
use Rattle.rumstrait_c.proofs.api++lookups++table++LookupTable+Destruct.drop.Reads as reads
use Rattle.rumstrait_c.proofs.api++lookups++table++LookupTable+Destruct.drop.Symbol as symbol

abbrev pub Table : RattleType
Table = table.the_row

-- ---- resolvers as arguments of generic functions

abbrev pub TableArg : RattleType
TableArg = arg (bare (lone Table.mir)) no Table

-- the type is good at every lifetime
pub within_table : (κ : Lft) → κ ⊑ Table.lives
within_table κ a m = absurd (not-mem-nil m)

-- ---- a resolver in a box

abbrev pub boxed : Bx
boxed = record {
  row = TableArg;
  laws = arg_laws (bare (lone Table.mir)) no Table table-laws.the_row_laws refl;
  al = record { row = GlobalArg; laws = arg_laws (bare (lone Global.mir)) no Global global-laws.the_row_laws refl; g = heap.ghosts; d = heap.dict; drops = no_drop };
}

abbrev pub BoxGood : Val → Type 0
BoxGood v = T (has_ty (lone (box-row Table Global heap.ghosts).mir) v) × WT v

pub box_good : (b o : ℕ) → BoxGood (box_val b o)
box_good b o = (tt, (tt, (((tt, tt), tt), tt)))

module _ {M : Type 1} {𝓤 : Ura M} {𝓛 : Logic 𝓤} {K : Type 0} {Γ : List (Item 𝓤)} {G : Goal 𝓤 𝓛.H} where
  -- a handle points to a block, where the resolver lies, and which may be freed
  pub resolver_out : K → (alloc : Global.Denot) (p : Ptr) (z : LookupTable) → ((b o : ℕ) → p ≡ block_ptr b o
      → Seq K 𝓛 (‵ (part_at Table full_share z b o) ∷ ‵ (heap.ghosts.dealloc_token alloc (bare (lone Table.mir)) (block_ptr b o)) ∷ Γ) G)
      → Seq K 𝓛 (‵ (resolver_at alloc p z) ∷ Γ) G
  resolver_out t alloc p z k =
      in_a_block t p (λ q. resolver_at alloc q z) (fst∗ 𝓤 (never 𝓤) (sem 𝓛 (heap.ghosts.dealloc_token alloc (bare (lone Table.mir)) null_ptr))) (λ b o e. fsplit t $ k b o e)

  -- what a box of a resolver owns, at the value by which the machine stores the box
  pub box_form : K → (d : D boxed) (vs : List Val) → ((b o : ℕ) → d.ptr ≡ block_ptr b o → vs ≡ box_val b o ∷ [] → Seq K 𝓛 (‵ ((B boxed).own_val d (box_val b o ∷ [])) ∷ Γ) G)
      → Seq K 𝓛 (‵ ((B boxed).own_val d vs) ∷ Γ) G
  box_form t d vs k =
      box_out boxed t d vs (λ b o h e us fits. move t (2 ∷ []) $ peeks t Global (Is Global) (shows 𝓛 Global) d.alloc (h ∷ []) (λ is. let eh = ap only (global_Tells d.alloc (h ∷ []) is) in
      rewrite t 0 (λ (w : Val). ‵ (Global.own_val d.alloc (w ∷ []))) eh refl $ move t (1 ∷ 2 ∷ []) $ box_in boxed t {hv = global_val} d b o d.value e refl $ k b o e (us ∙ ap (λ (w : Val). word boxed w b o ∷ []) eh)))

-- ---- what `resolve` returns: a resolver in a box, or a code

-- the drop of a resolver, as Rattle compiles it here
abbrev pub dropped : Dict
dropped = impl ("rumstrait_c::api++lookups++table++LookupTable+Destruct::drop" ∷ []) tnil dnil

-- that drop is good for a resolver in a box
pub lets_go : {M : Type 1} (𝓤 : Ura M) (𝓛 : Logic 𝓤) (𝓜 : Model 𝓤 𝓛.H) (𝓡 : Running 𝓤 𝓛.H 𝓜) → Wired 𝓡.env symbol.code → glue.Met 𝓛 𝓜 𝓡 𝓡.env TableArg dropped
unfolding tables_of
lets_go {M} 𝓤 𝓛 𝓜 𝓡 wired =
    let w : World = record { M = M; 𝓤 = 𝓤; 𝓛 = 𝓛; 𝓜 = 𝓜; 𝓡 = 𝓡 } in let R = TableArg in let L = boxed.laws in let E = ended_of 1 kinds.ps kinds.r in let m = method dropped 0 (layouts [] tt) in
    glue_by R L w dropped 𝓡.env (λ κs a. Lasts E ([], tt) a) (λ κs a. lasts E ([], tt) a) (λ κs a x ws. Fit E (stays kinds.ps) ([], tt) a ws × reads.Learnt ([], tt) a x (at_exit E ([], tt) a ws)) (λ κs a. AllWithin 1 (κs.0, tt) ([], tt) × Unit {0}) 1 ((0, tt), tt) (λ κs a h. ((h, tt), tt))
    (via_longer 𝓛 (Over 𝓛 𝓜 𝓡 𝓡.env) 1 (glue_ps R L) r_unit (λ κs a. Lasts E ([], tt) a) (λ κs a. lasts E ([], tt) a) (λ κs a x ws. Fit E (stays kinds.ps) ([], tt) a ws × reads.Learnt ([], tt) a x (at_exit E ([], tt) a ws)) (λ κs a. AllWithin 1 (κs.0, tt) ([], tt) × Unit {0}) m 1 ((0, tt), tt)
    (λ κs. ([], tt)) (λ κs a. reads.Asked ([], tt) a) (λ κs a p. (p.0, tt))
    (λ κs bd within a vss qs.
    reads.known w 𝓡.env m (𝓡.env m) refl (widened 𝓤 𝓛.H _ 𝓜 𝓡 𝓡.env (𝓡.env symbol.name) (𝓡.env m) (symbol.as_method 𝓡.env wired m refl) (drop-met.met 𝓤 𝓛 𝓜 𝓡 wired))
    ((([], tt), qs, ((λ x i. i), tt), a, vss), tt)))

abbrev pub Made : RattleType
Made = result.the_row (box-row Table Global heap.ghosts) i32

module _ {M : Type 1} {𝓤 : Ura M} {𝓛 : Logic 𝓤} {K : Type 0} {Γ : List (Item 𝓤)} {G : Goal 𝓤 𝓛.H} where
  -- its cases, with the values by which the machine stores them
  pub made_cases : K → (r : Made.Denot) (v : Val)
      → ((d : D boxed) (b o : ℕ) → r ≡ Ok d → v ≡ live 0 (of_list (box_val b o ∷ [])) → Seq K 𝓛 (‵ ((B boxed).own_val d (box_val b o ∷ [])) ∷ Γ) G)
      → ((c : ℤ) → r ≡ Err c → v ≡ live 1 (of_list (vint w32 (of_z w32 c) ∷ [])) → Is i32 c (vint w32 (of_z w32 c) ∷ []) → Seq K 𝓛 (‵ (i32.own_val c (vint w32 (of_z w32 c) ∷ [])) ∷ Γ) G)
      → Seq K 𝓛 (‵ (Made.own_val r (v ∷ [])) ∷ Γ) G
  made_cases t (Ok d) v ok err =
      fpick t (λ us. fsplit t $ feq_l t (λ ev. fpick t (λ vss. fsplit t $ feq_l t (λ eu. fsplit t $ move t (1 ∷ []) $ drop t $ box_form t d vss.0 (λ b o at is.
      ok d b o refl (ap only ev ∙ ap (λ (ws : List Val). live 0 (of_list ws)) (eu ∙ ap (λ (ws : List Val). ws ++ []) is)))))))
  made_cases t (Err c) v ok err =
      fpick t (λ us. fsplit t $ feq_l t (λ ev. fpick t (λ vss. fsplit t $ feq_l t (λ eu. fsplit t $ move t (1 ∷ []) $ drop t $ peeks t i32 (Is i32) (shows 𝓛 i32) c vss.0 (λ is. let e = sint_Tells w32 c vss.0 is in
      rewrite t 0 (λ (ws : List Val). ‵ (i32.own_val c ws)) e refl $
      err c refl (ap only ev ∙ ap (λ (ws : List Val). live 1 (of_list ws)) (eu ∙ ap (λ (ws : List Val). ws ++ []) e)) (subst (Is i32 c) e is))))))

-- the code of a refusal is not 0
not_zero : (reason : LookupRefusal) → pos 0 ≡ lookup_code reason → ⊥
not_zero refusal.Memory e = suc-ne-zero 2 (sym (ap nat_abs e))
not_zero refusal.Name e = suc-ne-zero 7 (sym (ap nat_abs e))
not_zero refusal.Endpoint e = suc-ne-zero 14 (sym (ap nat_abs e))
not_zero refusal.NoLookup e = suc-ne-zero 15 (sym (ap nat_abs e))
not_zero refusal.Waiting e = suc-ne-zero 16 (sym (ap nat_abs e))
not_zero refusal.Ended e = suc-ne-zero 17 (sym (ap nat_abs e))
not_zero refusal.NoName e = suc-ne-zero 18 (sym (ap nat_abs e))
not_zero refusal.NoRecords e = suc-ne-zero 19 (sym (ap nat_abs e))
not_zero refusal.ServerError e = suc-ne-zero 20 (sym (ap nat_abs e))
not_zero refusal.NoReply e = suc-ne-zero 21 (sym (ap nat_abs e))
not_zero refusal.NoId e = suc-ne-zero 22 (sym (ap nat_abs e))
not_zero refusal.Unsupported e = suc-ne-zero 23 (sym (ap nat_abs e))
not_zero refusal.NoNumber e = suc-ne-zero 24 (sym (ap nat_abs e))

module _ {M : Type 1} {𝓤 : Ura M} (𝓛 : Logic 𝓤) (alloc : Global.Denot) (servers : List ℕ) (timeout attempts size : ℕ) where
  -- after a refusal the handle is null
  pub resolves_null : (code : ℤ) → IsUnresolved servers code → ent 𝓤 (emp 𝓤) (sem 𝓛 (resolves_at alloc code null_ptr servers timeout attempts size))
  resolves_null (pos zero) is = absurd (not_zero is.reason is.code_is)
  resolves_null (pos (suc n)) is = qed 𝓛 [] ∵ feq_i ! Ptr null_ptr null_ptr refl $ fpack ! (IsUnresolved servers (pos (suc n))) (λ _. feq Ptr null_ptr null_ptr) is $ done !
  resolves_null (negsuc n) is = qed 𝓛 [] ∵ feq_i ! Ptr null_ptr null_ptr refl $ fpack ! (IsUnresolved servers (negsuc n)) (λ _. feq Ptr null_ptr null_ptr) is $ done !
