-- Steps of the walks of exports: a zone behind a handle. Assumes `Logic`.
use Rattle.std.proofs.Common.{◌≡◌, ℕ, zero, suc, ℤ, pos, negsuc, List, [], ◌∷◌, ◌++◌, refl, sym, ap, ◌∙◌, subst, T, Ok, Err, w32}
use Rattle.std.specs.Prelude.{nat_abs}
use native.Mathlib.Nat.{suc-ne-zero}
use seplogic.Ra.Ura.{Ura}
use mathlib.Core.List.{not-mem-nil}
use base.Fml.{Lft, feq}
use base.Fraction.{full_share}
use base.Logic.{never, fst∗, ent, emp}
use borrow.Fn.Glue.{glue_by, glue_ps}
use borrow.Fn.Impl.{via_longer, method_Known}
use borrow.Fn.Kinds.{ended_of, stays, r_unit}
use borrow.Fn.Run.{Over}
use borrow.Fn.World.{World}
use contract.BorrowLft.{◌⊑◌}
use contract.Running.{Running, tables_of}
use denote.Builtin.{i32}
use denote.Exit.{no}
use denote.Laws.{Is, Tells, shows}
use denote.Memory.{lone, part_at}
use denote.Param.{arg, layouts}
use denote.Param.Glue as glue
use denote.Param.Laws.{arg_laws}
use denote.RattleType.{RattleType}
use denote.RawPtr.{Ptr, block_ptr, null_ptr, in_a_block}
use denote.Signed.{sint_Tells}
use denote.Steps.{only, peeks}
use denote.Struct.Laws as struct
use denote.Triple.Carry.{AllWithin}
use denote.Triple.Clauses.{Lasts, lasts, at_exit}
use denote.Triple.Walked.{Fit}
use mir.Raw.{raw as bare}
use mir.Syntax.{Dict, impl, method, tnil, tcons, dnil}
use mir.Val.{Val, vunit, vptr, vint, vstruct, vcons, vnil, of_list, of_z, has_ty, WT}
use prog.Model.{Model}
use prog.Wired.{Wired}
use types.Kit.{Goal, Seq, Item, ‵, ◌$◌, ◌∵◌, !, qed, done, drop, move, rewrite, fsplit, fpick, fpack, feq_i, feq_l}
use types.Logic.{Logic, sem}
use types.Match.{live}
use Rattle.std.proofs.BoxSteps.Form.{Bx, D, B, word}
use Rattle.std.proofs.BoxSteps.Steps.{box_out, box_in}
use Rattle.std.proofs.alloc.Global.TheLaws as global-laws
use Rattle.std.specs.contracts.alloc.Global as global
use Rattle.std.specs.contracts.boxed.Box.{the_row as box-row}
use Rattle.std.specs.contracts.impls.GlobalAllocator.TheImpl as heap
use Rattle.std.specs.contracts.result.Result as result
use Rattle.api.specs.declared.buffer.refusal.Refusal.{Refusal}
use Rattle.api.specs.declared.buffer.refusal.Refusal.TheVariants as refusal
use Rattle.dns_zone.proofs.zone.Zone.TheLaws as zone-laws
use Rattle.dns_zone.specs.contracts.zone.Zone as zone
use Rattle.dns_zone.specs.Rows.{ZoneContent}
use Rattle.rumstrait_c.specs.Codes.{code_of}
use Rattle.rumstrait_c.specs.Zones.{IsRefused, made_at, zone_at}
use Rattle.rumstrait_c.proofs.dns_zone++zone++Zone+Destruct.drop.Kinds as kinds
use Rattle.rumstrait_c.proofs.dns_zone++zone++Zone+Destruct.drop.Met as drop-met
use Rattle.rumstrait_c.proofs.dns_zone++zone++Zone+Destruct.drop.Reads as reads
use Rattle.rumstrait_c.proofs.dns_zone++zone++Zone+Destruct.drop.Symbol as symbol

abbrev pub Zone : RattleType
Zone = zone.the_row

abbrev pub Global : RattleType
Global = global.the_row

-- ---- how the machine stores an allocator, which has no bytes of its own

abbrev pub global_val : Val
global_val = vstruct (vcons (vstruct (vcons vunit vnil)) vnil)

pub global_Tells : Tells Global (Is Global) (λ _. global_val ∷ [])
global_Tells = struct.tells global.the_type global-laws.the_laws

-- ---- zones and allocators as arguments of generic functions

abbrev pub ZoneArg : RattleType
ZoneArg = arg (bare (lone Zone.mir)) no Zone

abbrev pub GlobalArg : RattleType
GlobalArg = arg (bare (lone Global.mir)) no Global

-- the drop of an allocator, which does nothing
abbrev pub no_drop : Dict
no_drop = impl ("rumstrait_c::Destruct++none::drop" ∷ []) (tcons (bare (lone Global.mir)) tnil) dnil

-- both types are good at every lifetime
pub within_zone : (κ : Lft) → κ ⊑ Zone.lives
within_zone κ a m = absurd (not-mem-nil m)

pub within_global : (κ : Lft) → κ ⊑ Global.lives
within_global κ a m = absurd (not-mem-nil m)

-- ---- a zone in a box

abbrev pub boxed : Bx
boxed = record {
  row = ZoneArg;
  laws = arg_laws (bare (lone Zone.mir)) no Zone zone-laws.the_row_laws refl;
  al = record { row = GlobalArg; laws = arg_laws (bare (lone Global.mir)) no Global global-laws.the_row_laws refl; g = heap.ghosts; d = heap.dict; drops = no_drop };
}

abbrev pub box_val : ℕ → ℕ → Val
box_val b o = vstruct (vcons (vptr b o) (vcons global_val vnil))

abbrev pub BoxGood : Val → Type 0
BoxGood v = T (has_ty (lone (box-row Zone Global heap.ghosts).mir) v) × WT v

pub box_good : (b o : ℕ) → BoxGood (box_val b o)
box_good b o = (tt, (tt, (((tt, tt), tt), tt)))

module _ {M : Type 1} {𝓤 : Ura M} {𝓛 : Logic 𝓤} {K : Type 0} {Γ : List (Item 𝓤)} {G : Goal 𝓤 𝓛.H} where
  -- a handle points to a block, where the zone lies, and which may be freed
  pub zone_out : K → (alloc : Global.Denot) (p : Ptr) (z : ZoneContent) → ((b o : ℕ) → p ≡ block_ptr b o
      → Seq K 𝓛 (‵ (part_at Zone full_share z b o) ∷ ‵ (heap.ghosts.dealloc_token alloc (bare (lone Zone.mir)) (block_ptr b o)) ∷ Γ) G)
      → Seq K 𝓛 (‵ (zone_at alloc p z) ∷ Γ) G
  zone_out t alloc p z k =
      in_a_block t p (λ q. zone_at alloc q z) (fst∗ 𝓤 (never 𝓤) (sem 𝓛 (heap.ghosts.dealloc_token alloc (bare (lone Zone.mir)) null_ptr))) (λ b o e. fsplit t $ k b o e)

  -- what a box of a zone owns, at the value by which the machine stores the box
  pub box_form : K → (d : D boxed) (vs : List Val) → ((b o : ℕ) → d.ptr ≡ block_ptr b o → vs ≡ box_val b o ∷ [] → Seq K 𝓛 (‵ ((B boxed).own_val d (box_val b o ∷ [])) ∷ Γ) G)
      → Seq K 𝓛 (‵ ((B boxed).own_val d vs) ∷ Γ) G
  box_form t d vs k =
      box_out boxed t d vs (λ b o h e us fits. move t (2 ∷ []) $ peeks t Global (Is Global) (shows 𝓛 Global) d.alloc (h ∷ []) (λ is. let eh = ap only (global_Tells d.alloc (h ∷ []) is) in
      rewrite t 0 (λ (w : Val). ‵ (Global.own_val d.alloc (w ∷ []))) eh refl $ move t (1 ∷ 2 ∷ []) $ box_in boxed t {hv = global_val} d b o d.value e refl $ k b o e (us ∙ ap (λ (w : Val). word boxed w b o ∷ []) eh)))

-- ---- what `make` returns: a zone in a box, or a code

-- the drop of a zone, as Rattle compiles it here
abbrev pub dropped : Dict
dropped = impl ("rumstrait_c::dns_zone++zone++Zone+Destruct::drop" ∷ []) tnil dnil

-- that drop is good for a zone in a box
pub lets_go : {M : Type 1} (𝓤 : Ura M) (𝓛 : Logic 𝓤) (𝓜 : Model 𝓤 𝓛.H) (𝓡 : Running 𝓤 𝓛.H 𝓜) → Wired 𝓡.env symbol.code → glue.Met 𝓛 𝓜 𝓡 𝓡.env ZoneArg dropped
unfolding tables_of
lets_go {M} 𝓤 𝓛 𝓜 𝓡 wired =
    let w : World = record { M = M; 𝓤 = 𝓤; 𝓛 = 𝓛; 𝓜 = 𝓜; 𝓡 = 𝓡 } in let R = ZoneArg in let L = boxed.laws in let E = ended_of 0 kinds.ps kinds.r in let m = method dropped 0 (layouts [] tt) in
    glue_by R L w dropped 𝓡.env (λ κs a. Lasts E tt a) (λ κs a. lasts E tt a) (λ κs a x ws. Fit E (stays kinds.ps) tt a ws × reads.Learnt tt a x (at_exit E tt a ws)) (λ κs a. AllWithin 1 (κs.0, tt) (R.lives, tt) × Unit {0}) 0 tt (λ κs a h. ((h, tt), tt))
    (via_longer 𝓛 (Over 𝓛 𝓜 𝓡 𝓡.env) 1 (glue_ps R L) r_unit (λ κs a. Lasts E tt a) (λ κs a. lasts E tt a) (λ κs a x ws. Fit E (stays kinds.ps) tt a ws × reads.Learnt tt a x (at_exit E tt a ws)) (λ κs a. AllWithin 1 (κs.0, tt) (R.lives, tt) × Unit {0}) m 0 tt
    (λ κs. tt) (λ κs a. reads.Asked tt a) (λ κs a p. (tt, tt))
    (λ κs bd within a vss qs. method_Known 0 kinds.ps kinds.r reads.requires reads.ensures reads.Asked reads.Learnt reads.known w symbol.name m (symbol.as_method 𝓡.env wired m refl) (drop-met.met 𝓤 𝓛 𝓜 𝓡 wired) ((tt, qs, tt, a, vss), tt)))

abbrev pub Made : RattleType
Made = result.the_row (box-row Zone Global heap.ghosts) i32

module _ {M : Type 1} {𝓤 : Ura M} {𝓛 : Logic 𝓤} {K : Type 0} {Γ : List (Item 𝓤)} {G : Goal 𝓤 𝓛.H} where
  -- its cases, with the values by which the machine stores them
  pub made_cases : K → (r : Made.Denot) (v : Val)
      → ((d : D boxed) (b o : ℕ) → r ≡ Ok d → v ≡ live 0 (of_list (box_val b o ∷ [])) → Seq K 𝓛 (‵ ((B boxed).own_val d (box_val b o ∷ [])) ∷ Γ) G)
      → ((c : ℤ) → r ≡ Err c → v ≡ live 1 (of_list (vint w32 (of_z w32 c) ∷ [])) → Is i32 c (vint w32 (of_z w32 c) ∷ []) → Seq K 𝓛 (‵ (i32.own_val c (vint w32 (of_z w32 c) ∷ [])) ∷ Γ) G)
      → Seq K 𝓛 (‵ (Made.own_val r (v ∷ [])) ∷ Γ) G
  made_cases t (Ok d) v ok err =
      fpick t (λ us. fsplit t $ feq_l t (λ ev. fpick t (λ vss. fsplit t $ feq_l t (λ eu. fsplit t $ move t (1 ∷ []) $ drop t $ box_form t d vss.0 (λ b o at is.
      ok d b o refl (ap only ev ∙ ap (λ (ws : List Val). live 0 (of_list ws)) (eu ∙ ap (λ (ws : List Val). ws ++ []) is)))))))
  made_cases t (Err c) v ok err =
      fpick t (λ us. fsplit t $ feq_l t (λ ev. fpick t (λ vss. fsplit t $ feq_l t (λ eu. fsplit t $ move t (1 ∷ []) $ drop t $ peeks t i32 (Is i32) (shows 𝓛 i32) c vss.0 (λ is. let e = sint_Tells w32 c vss.0 is in
      rewrite t 0 (λ (ws : List Val). ‵ (i32.own_val c ws)) e refl $
      err c refl (ap only ev ∙ ap (λ (ws : List Val). live 1 (of_list ws)) (eu ∙ ap (λ (ws : List Val). ws ++ []) e)) (subst (Is i32 c) e is))))))

-- the code of a refusal is not 0
pub not_zero : (reason : Refusal) → pos 0 ≡ code_of reason → ⊥
not_zero refusal.NoReply e = suc-ne-zero 0 (sym (ap nat_abs e))
not_zero refusal.TooSmall e = suc-ne-zero 1 (sym (ap nat_abs e))
not_zero refusal.Memory e = suc-ne-zero 2 (sym (ap nat_abs e))
not_zero refusal.NullHandle e = suc-ne-zero 3 (sym (ap nat_abs e))
not_zero refusal.Transport e = suc-ne-zero 4 (sym (ap nat_abs e))
not_zero refusal.Limit e = suc-ne-zero 5 (sym (ap nat_abs e))
not_zero refusal.Encoding e = suc-ne-zero 6 (sym (ap nat_abs e))
not_zero refusal.Name e = suc-ne-zero 7 (sym (ap nat_abs e))
not_zero refusal.Zone e = suc-ne-zero 8 (sym (ap nat_abs e))
not_zero refusal.Message e = suc-ne-zero 9 (sym (ap nat_abs e))
not_zero refusal.TooLong e = suc-ne-zero 10 (sym (ap nat_abs e))
not_zero refusal.Update e = suc-ne-zero 11 (sym (ap nat_abs e))
not_zero refusal.Item e = suc-ne-zero 12 (sym (ap nat_abs e))
not_zero refusal.Data e = suc-ne-zero 13 (sym (ap nat_abs e))

module _ {M : Type 1} {𝓤 : Ura M} (𝓛 : Logic 𝓤) (alloc : Global.Denot) (origin text : List ℕ) where
  -- after a refusal the handle is null
  pub made_null : (code : ℤ) → IsRefused origin text code → ent 𝓤 (emp 𝓤) (sem 𝓛 (made_at alloc code null_ptr origin text))
  made_null (pos zero) is = absurd (not_zero is.reason is.code_is)
  made_null (pos (suc n)) is = qed 𝓛 [] ∵ feq_i ! Ptr null_ptr null_ptr refl $ fpack ! (IsRefused origin text (pos (suc n))) (λ _. feq Ptr null_ptr null_ptr) is $ done !
  made_null (negsuc n) is = qed 𝓛 [] ∵ feq_i ! Ptr null_ptr null_ptr refl $ fpack ! (IsRefused origin text (negsuc n)) (λ _. feq Ptr null_ptr null_ptr) is $ done !
