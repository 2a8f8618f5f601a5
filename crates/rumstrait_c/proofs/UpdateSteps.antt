-- Steps of the walks of exports: an update behind a handle. Assumes `Logic`.
use Rattle.std.proofs.Common.{◌≡◌, ℕ, zero, suc, ℤ, pos, negsuc, List, [], ◌∷◌, ◌++◌, refl, ap, ◌∙◌, subst, T, Ok, Err, w32}
use seplogic.Ra.Ura.{Ura}
use mathlib.Core.List.{not-mem-nil}
use base.Fml.{Lft, feq}
use base.Fraction.{full_share}
use base.Logic.{never, fst∗, ent, emp}
use borrow.Fn.Glue.{glue_by, glue_ps}
use borrow.Fn.Impl.{via_longer, method_Known}
use borrow.Fn.Kinds.{ended_of, stays, r_unit}
use borrow.Fn.Run.{Over}
use borrow.Fn.World.{World}
use contract.BorrowLft.{◌⊑◌}
use contract.Running.{Running, tables_of}
use denote.Builtin.{i32}
use denote.Exit.{no}
use denote.Laws.{Is, shows}
use denote.Memory.{lone, part_at}
use denote.Param.{arg, layouts}
use denote.Param.Glue as glue
use denote.Param.Laws.{arg_laws}
use denote.RattleType.{RattleType}
use denote.RawPtr.{Ptr, block_ptr, null_ptr, in_a_block}
use denote.Signed.{sint_Tells}
use denote.Steps.{only, peeks}
use denote.Triple.Carry.{AllWithin}
use denote.Triple.Clauses.{Lasts, lasts, at_exit}
use denote.Triple.Walked.{Fit}
use mir.Raw.{raw as bare}
use mir.Syntax.{Dict, impl, method, tnil, dnil}
use mir.Val.{Val, vint, of_list, of_z, has_ty, WT}
use prog.Model.{Model}
use prog.Wired.{Wired}
use types.Kit.{Goal, Seq, Item, ‵, ◌$◌, ◌∵◌, !, qed, done, drop, move, rewrite, fsplit, fpick, fpack, feq_i, feq_l}
use types.Logic.{Logic, sem}
use types.Match.{live}
use Rattle.std.proofs.BoxSteps.Form.{Bx, D, B, word}
use Rattle.std.proofs.BoxSteps.Steps.{box_out, box_in}
use Rattle.std.proofs.alloc.Global.TheLaws as global-laws
use Rattle.std.specs.contracts.boxed.Box.{the_row as box-row}
use Rattle.std.specs.contracts.impls.GlobalAllocator.TheImpl as heap
use Rattle.std.specs.contracts.result.Result as result
use Rattle.dns_updates.proofs.builder.builder.UpdateBuilder.TheLaws as update-laws
use Rattle.dns_updates.specs.contracts.builder.builder.UpdateBuilder as update
use Rattle.dns_updates.specs.builder.Parts.{UpdateParts}
use Rattle.rumstrait_c.specs.Updates.{IsUnbegun, begun_at, update_at}
use Rattle.rumstrait_c.proofs.HandleSteps.{Global, GlobalArg, global_Tells, global_val, no_drop, box_val, not_zero}
use Rattle.rumstrait_c.proofs.dns_updates++builder++builder++UpdateBuilder+Destruct.drop.Kinds as kinds
use Rattle.rumstrait_c.proofs.dns_updates++builder++builder++UpdateBuilder+Destruct.drop.Met as drop-met
use Rattle.rumstrait_c.proofs.dns_updates++builder++builder++UpdateBuilder+Destruct.drop.Reads as reads
use Rattle.rumstrait_c.proofs.dns_updates++builder++builder++UpdateBuilder+Destruct.drop.Symbol as symbol

abbrev pub Update : RattleType
Update = update.the_row

-- ---- updates as arguments of generic functions

abbrev pub UpdateArg : RattleType
UpdateArg = arg (bare (lone Update.mir)) no Update

-- the type is good at every lifetime
pub within_update : (κ : Lft) → κ ⊑ Update.lives
within_update κ a m = absurd (not-mem-nil m)

-- ---- an update in a box

abbrev pub boxed : Bx
boxed = record {
  row = UpdateArg;
  laws = arg_laws (bare (lone Update.mir)) no Update update-laws.the_row_laws refl;
  al = record { row = GlobalArg; laws = arg_laws (bare (lone Global.mir)) no Global global-laws.the_row_laws refl; g = heap.ghosts; d = heap.dict; drops = no_drop };
}

abbrev pub BoxGood : Val → Type 0
BoxGood v = T (has_ty (lone (box-row Update Global heap.ghosts).mir) v) × WT v

pub box_good : (b o : ℕ) → BoxGood (box_val b o)
box_good b o = (tt, (tt, (((tt, tt), tt), tt)))

module _ {M : Type 1} {𝓤 : Ura M} {𝓛 : Logic 𝓤} {K : Type 0} {Γ : List (Item 𝓤)} {G : Goal 𝓤 𝓛.H} where
  -- a handle points to a block, where the update lies, and which may be freed
  pub update_out : K → (alloc : Global.Denot) (p : Ptr) (z : UpdateParts) → ((b o : ℕ) → p ≡ block_ptr b o
      → Seq K 𝓛 (‵ (part_at Update full_share z b o) ∷ ‵ (heap.ghosts.dealloc_token alloc (bare (lone Update.mir)) (block_ptr b o)) ∷ Γ) G)
      → Seq K 𝓛 (‵ (update_at alloc p z) ∷ Γ) G
  update_out t alloc p z k =
      in_a_block t p (λ q. update_at alloc q z) (fst∗ 𝓤 (never 𝓤) (sem 𝓛 (heap.ghosts.dealloc_token alloc (bare (lone Update.mir)) null_ptr))) (λ b o e. fsplit t $ k b o e)

  -- what a box of an update owns, at the value by which the machine stores the box
  pub box_form : K → (d : D boxed) (vs : List Val) → ((b o : ℕ) → d.ptr ≡ block_ptr b o → vs ≡ box_val b o ∷ [] → Seq K 𝓛 (‵ ((B boxed).own_val d (box_val b o ∷ [])) ∷ Γ) G)
      → Seq K 𝓛 (‵ ((B boxed).own_val d vs) ∷ Γ) G
  box_form t d vs k =
      box_out boxed t d vs (λ b o h e us fits. move t (2 ∷ []) $ peeks t Global (Is Global) (shows 𝓛 Global) d.alloc (h ∷ []) (λ is. let eh = ap only (global_Tells d.alloc (h ∷ []) is) in
      rewrite t 0 (λ (w : Val). ‵ (Global.own_val d.alloc (w ∷ []))) eh refl $ move t (1 ∷ 2 ∷ []) $ box_in boxed t {hv = global_val} d b o d.value e refl $ k b o e (us ∙ ap (λ (w : Val). word boxed w b o ∷ []) eh)))

-- ---- what `make` returns: an update in a box, or a code

-- the drop of an update, as Rattle compiles it here
abbrev pub dropped : Dict
dropped = impl ("rumstrait_c::dns_updates++builder++builder++UpdateBuilder+Destruct::drop" ∷ []) tnil dnil

-- that drop is good for an update in a box
pub lets_go : {M : Type 1} (𝓤 : Ura M) (𝓛 : Logic 𝓤) (𝓜 : Model 𝓤 𝓛.H) (𝓡 : Running 𝓤 𝓛.H 𝓜) → Wired 𝓡.env symbol.code → glue.Met 𝓛 𝓜 𝓡 𝓡.env UpdateArg dropped
unfolding tables_of
lets_go {M} 𝓤 𝓛 𝓜 𝓡 wired =
    let w : World = record { M = M; 𝓤 = 𝓤; 𝓛 = 𝓛; 𝓜 = 𝓜; 𝓡 = 𝓡 } in let R = UpdateArg in let L = boxed.laws in let E = ended_of 0 kinds.ps kinds.r in let m = method dropped 0 (layouts [] tt) in
    glue_by R L w dropped 𝓡.env (λ κs a. Lasts E tt a) (λ κs a. lasts E tt a) (λ κs a x ws. Fit E (stays kinds.ps) tt a ws × reads.Learnt tt a x (at_exit E tt a ws)) (λ κs a. AllWithin 1 (κs.0, tt) (R.lives, tt) × Unit {0}) 0 tt (λ κs a h. ((h, tt), tt))
    (via_longer 𝓛 (Over 𝓛 𝓜 𝓡 𝓡.env) 1 (glue_ps R L) r_unit (λ κs a. Lasts E tt a) (λ κs a. lasts E tt a) (λ κs a x ws. Fit E (stays kinds.ps) tt a ws × reads.Learnt tt a x (at_exit E tt a ws)) (λ κs a. AllWithin 1 (κs.0, tt) (R.lives, tt) × Unit {0}) m 0 tt
    (λ κs. tt) (λ κs a. reads.Asked tt a) (λ κs a p. (tt, tt))
    (λ κs bd within a vss qs. method_Known 0 kinds.ps kinds.r reads.requires reads.ensures reads.Asked reads.Learnt reads.known w symbol.name m (symbol.as_method 𝓡.env wired m refl) (drop-met.met 𝓤 𝓛 𝓜 𝓡 wired) ((tt, qs, tt, a, vss), tt)))

abbrev pub Made : RattleType
Made = result.the_row (box-row Update Global heap.ghosts) i32

module _ {M : Type 1} {𝓤 : Ura M} {𝓛 : Logic 𝓤} {K : Type 0} {Γ : List (Item 𝓤)} {G : Goal 𝓤 𝓛.H} where
  -- its cases, with the values by which the machine stores them
  pub made_cases : K → (r : Made.Denot) (v : Val)
      → ((d : D boxed) (b o : ℕ) → r ≡ Ok d → v ≡ live 0 (of_list (box_val b o ∷ [])) → Seq K 𝓛 (‵ ((B boxed).own_val d (box_val b o ∷ [])) ∷ Γ) G)
      → ((c : ℤ) → r ≡ Err c → v ≡ live 1 (of_list (vint w32 (of_z w32 c) ∷ [])) → Is i32 c (vint w32 (of_z w32 c) ∷ []) → Seq K 𝓛 (‵ (i32.own_val c (vint w32 (of_z w32 c) ∷ [])) ∷ Γ) G)
      → Seq K 𝓛 (‵ (Made.own_val r (v ∷ [])) ∷ Γ) G
  made_cases t (Ok d) v ok err =
      fpick t (λ us. fsplit t $ feq_l t (λ ev. fpick t (λ vss. fsplit t $ feq_l t (λ eu. fsplit t $ move t (1 ∷ []) $ drop t $ box_form t d vss.0 (λ b o at is.
      ok d b o refl (ap only ev ∙ ap (λ (ws : List Val). live 0 (of_list ws)) (eu ∙ ap (λ (ws : List Val). ws ++ []) is)))))))
  made_cases t (Err c) v ok err =
      fpick t (λ us. fsplit t $ feq_l t (λ ev. fpick t (λ vss. fsplit t $ feq_l t (λ eu. fsplit t $ move t (1 ∷ []) $ drop t $ peeks t i32 (Is i32) (shows 𝓛 i32) c vss.0 (λ is. let e = sint_Tells w32 c vss.0 is in
      rewrite t 0 (λ (ws : List Val). ‵ (i32.own_val c ws)) e refl $
      err c refl (ap only ev ∙ ap (λ (ws : List Val). live 1 (of_list ws)) (eu ∙ ap (λ (ws : List Val). ws ++ []) e)) (subst (Is i32 c) e is))))))

module _ {M : Type 1} {𝓤 : Ura M} (𝓛 : Logic 𝓤) (alloc : Global.Denot) (zone : List ℕ) where
  -- after a refusal the handle is null
  pub begun_null : (code : ℤ) → IsUnbegun zone code → ent 𝓤 (emp 𝓤) (sem 𝓛 (begun_at alloc code null_ptr zone))
  begun_null (pos zero) is = absurd (not_zero is.reason is.code_is)
  begun_null (pos (suc n)) is = qed 𝓛 [] ∵ feq_i ! Ptr null_ptr null_ptr refl $ fpack ! (IsUnbegun zone (pos (suc n))) (λ _. feq Ptr null_ptr null_ptr) is $ done !
  begun_null (negsuc n) is = qed 𝓛 [] ∵ feq_i ! Ptr null_ptr null_ptr refl $ fpack ! (IsUnbegun zone (negsuc n)) (λ _. feq Ptr null_ptr null_ptr) is $ done !
