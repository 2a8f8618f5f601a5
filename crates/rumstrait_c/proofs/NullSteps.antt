-- Steps of the walks of exports: a handle that may be null. Assumes `Logic`.
use Rattle.std.proofs.Common.{◌≡◌, ℕ, List, [], ◌∷◌, refl, length, Option, Some, None, MutBor}
use seplogic.Ra.Ura.{Ura}
use base.Fml.{Fml, Lft, fsep, fres, fbor}
use base.Fraction.{full_share}
use base.Logic.{ent, guard, guard_i}
use contract.Monad.{fact_use}
use denote.Memory.{lone, mem, part_at}
use denote.RattleType.{RattleType}
use denote.RawPtr.{Ptr, block_ptr, null_ptr, Testable}
use denote.Ref.{MutRef}
use denote.Slice.{MutSlice, coded_holeys, heres, finally, res-finally}
use mir.Raw.{raw as bare}
use mir.Syntax.{Lifetime}
use mir.Val.{Val}
use types.Kit.{Goal, Seq, Item, ‵, given, ◌$◌, ◌∵◌, !, qed, done, keep, move, use1, learn, fsplit, fsplit3, fjoin, feq_l}
use types.Logic.{Logic, sem}
use types.Hole.{Holey}
use types.SemTy.{Arr, Body}
use Rattle.std.proofs.GlobalToken.{dealloc_token-Testable}
use Rattle.std.specs.contracts.impls.GlobalAllocator.TheImpl as heap
use Rattle.api.specs.declared.lookups.table.LookupTable.{LookupTable}
use Rattle.dns_updates.specs.builder.Parts.{UpdateParts}
use Rattle.dns_zone.specs.Rows.{ZoneContent}
use Rattle.rumstrait_c.specs.Lookups as lookups
use Rattle.rumstrait_c.specs.Updates as updates
use Rattle.rumstrait_c.specs.Zones as zones
use Rattle.rumstrait_c.proofs.HandleSteps.{Global, Zone, zone_out}
use Rattle.rumstrait_c.proofs.ResolverSteps.{Table, resolver_out}
use Rattle.rumstrait_c.proofs.UpdateSteps.{Update, update_out}

-- ---- references that a function has to its end, at the values that they were passed at

abbrev pub RefKept : Lft → (R : RattleType) → MutBor R.Denot → Fml
RefKept κ R x = fsep (fres x.ghost_name (R.coded.code x.now)) (fbor κ (Body (mem R) x.ref_ptr.0 x.ref_ptr.1 x.ghost_name))

abbrev pub SliceKept : Lft → (R : RattleType) → MutBor (List R.Denot) → Fml
SliceKept κ R x = fsep (finally R x.ghost_name x.now) (fbor κ (Body (Arr (Holey (mem R)) (length x.now)) x.ref_ptr.0 x.ref_ptr.1 x.ghost_name))

module _ {M : Type 1} {𝓤 : Ura M} (𝓛 : Logic 𝓤) (ℓ : Lifetime) (κ : Lft) (R : RattleType) where
  pub ref_kept : (x : MutBor R.Denot) (vs : List Val) → ent 𝓤 (sem 𝓛 ((MutRef ℓ κ R).own_val x vs)) (sem 𝓛 (RefKept κ R x))
  ref_kept x vs =
      qed 𝓛 (‵ ((MutRef ℓ κ R).own_val x vs) ∷ []) ∵ fsplit3 ! $ move ! (1 ∷ []) $
      use1 𝓛 (‵ (fres x.ghost_name (R.coded.code x.now))) (𝓛.names.obs-res x.ghost_name (R.coded.code x.now)) $ keep ! (0 ∷ 2 ∷ []) $ fjoin ! $ done !

  pub slice_kept : (x : MutBor (List R.Denot)) (vs : List Val) → ent 𝓤 (sem 𝓛 ((MutSlice ℓ κ R).own_val x vs)) (sem 𝓛 (SliceKept κ R x))
  slice_kept x vs =
      qed 𝓛 (‵ ((MutSlice ℓ κ R).own_val x vs) ∷ []) ∵ fsplit ! $ move ! (1 ∷ []) $ fsplit ! $
      use1 𝓛 (‵ (fres x.ghost_name ((coded_holeys R).code (heres R x.now)))) (𝓛.names.obs-res x.ghost_name ((coded_holeys R).code (heres R x.now))) $
      use1 𝓛 (‵ (finally R x.ghost_name x.now)) (res-finally 𝓛 ℓ κ R x.ghost_name x.now) $ keep ! (0 ∷ 1 ∷ []) $ fjoin ! $ done !

-- ---- handles

module _ {M : Type 1} {𝓤 : Ura M} (𝓛 : Logic 𝓤) (alloc : Global.Denot) (R : RattleType) (p : Ptr) where
  abbrev pub Token : Fml
  Token = heap.ghosts.dealloc_token alloc (bare (lone R.mir)) p

  -- what may be freed may be compared with null
  tested : ent 𝓤 (sem 𝓛 Token) (guard 𝓤 (Testable p) (sem 𝓛 Token))
  tested = fact_use 𝓤 (Testable p) (dealloc_token-Testable 𝓛 alloc (bare (lone R.mir)) p) (guard_i 𝓤 (Testable p) (sem 𝓛 Token))

module _ {M : Type 1} {𝓤 : Ura M} {𝓛 : Logic 𝓤} {K : Type 0} {Γ : List (Item 𝓤)} {G : Goal 𝓤 𝓛.H} where
  -- a handle is null, or points to a block, where the zone lies, and which may be freed
  pub zone_cases : K → (alloc : Global.Denot) (p : Ptr) (content : Option ZoneContent) → (content ≡ None → p ≡ null_ptr → Seq K 𝓛 Γ G)
      → ((z : ZoneContent) (b o : ℕ) → content ≡ Some z → p ≡ block_ptr b o → Testable (block_ptr b o)
      → Seq K 𝓛 (‵ (part_at Zone full_share z b o) ∷ ‵ (Token 𝓛 alloc Zone (block_ptr b o)) ∷ Γ) G)
      → Seq K 𝓛 (‵ (zones.handle_at alloc p content) ∷ Γ) G
  zone_cases t alloc p None null points = feq_l t (λ e. null refl e)
  zone_cases t alloc p (Some z) null points = zone_out t alloc p z (λ b o e. move t (1 ∷ []) $
      use1 𝓛 (given (Testable (block_ptr b o)) (‵ (Token 𝓛 alloc Zone (block_ptr b o)))) (tested 𝓛 alloc Zone (block_ptr b o)) $ learn t (λ may. move t (1 ∷ []) $ points z b o refl e may))

  -- the same of an update
  pub update_cases : K → (alloc : Global.Denot) (p : Ptr) (content : Option UpdateParts) → (content ≡ None → p ≡ null_ptr → Seq K 𝓛 Γ G)
      → ((z : UpdateParts) (b o : ℕ) → content ≡ Some z → p ≡ block_ptr b o → Testable (block_ptr b o)
      → Seq K 𝓛 (‵ (part_at Update full_share z b o) ∷ ‵ (Token 𝓛 alloc Update (block_ptr b o)) ∷ Γ) G)
      → Seq K 𝓛 (‵ (updates.handle_at alloc p content) ∷ Γ) G
  update_cases t alloc p None null points = feq_l t (λ e. null refl e)
  update_cases t alloc p (Some z) null points = update_out t alloc p z (λ b o e. move t (1 ∷ []) $
      use1 𝓛 (given (Testable (block_ptr b o)) (‵ (Token 𝓛 alloc Update (block_ptr b o)))) (tested 𝓛 alloc Update (block_ptr b o)) $ learn t (λ may. move t (1 ∷ []) $ points z b o refl e may))

  -- the same of a resolver
  pub resolver_cases : K → (alloc : Global.Denot) (p : Ptr) (content : Option LookupTable) → (content ≡ None → p ≡ null_ptr → Seq K 𝓛 Γ G)
      → ((z : LookupTable) (b o : ℕ) → content ≡ Some z → p ≡ block_ptr b o → Testable (block_ptr b o)
      → Seq K 𝓛 (‵ (part_at Table full_share z b o) ∷ ‵ (Token 𝓛 alloc Table (block_ptr b o)) ∷ Γ) G)
      → Seq K 𝓛 (‵ (lookups.handle_at alloc p content) ∷ Γ) G
  resolver_cases t alloc p None null points = feq_l t (λ e. null refl e)
  resolver_cases t alloc p (Some z) null points = resolver_out t alloc p z (λ b o e. move t (1 ∷ []) $
      use1 𝓛 (given (Testable (block_ptr b o)) (‵ (Token 𝓛 alloc Table (block_ptr b o)))) (tested 𝓛 alloc Table (block_ptr b o)) $ learn t (λ may. move t (1 ∷ []) $ points z b o refl e may))
