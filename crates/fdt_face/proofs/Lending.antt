-- Parameters that a function passes on to a call: a `&mut` is lent again through locals of its own, anything else is copied.
use mathlib.Core.Path.{refl}
use Prim.Native.Nat.{ℕ, suc}
use mathlib.Core.List.{List, [], ◌∷◌}
use seplogic.Ra.Ura.{Ura}
use mir.Syntax.{Ty, ty_ref, ty_int, Width, mut, imm, Lifetime, erased, deref, field, place, Opd as Operand, copy, addr_of, aggregate, Body, seq, assign}
use mir.Val.{Val, vptr, vint, WT, has_ty}
use lib.Dec.{T as Holds}
use base.Fml.{Lft}
use prog.Wp.{Env, Calls, Loops}
use types.Logic.{Logic}
use types.Kit.{Item, ‵, Post, runs, Step, step, ◌$◌, move, fsplit3, fjoin3}
use types.Run.{Opds, stop, hop, fld, load, addr, and_then, no_more, assigns, init, look}
use types.Part.{agg, whole, sub, look_in}
use lib.ListN.{length}
use denote.RattleType.{RattleType}
use denote.Memory.{pointee}
use denote.Laws.{Is}
use denote.Plain.{UInt, uint_Lawful}
use denote.Ref.{Bor, MutBor}
use denote.Slice.{slice_ty, slice_val, shr_slice_vals, mut_slice_vals, MutSlice, mut_slice_Lawful, ShrSlice, shr_slice_Lawful}
use denote.Struct.Declared.{Declared, row, shape}
use denote.Struct.Struct.{layout}
use denote.Struct.Laws as LL
use Rattle.fdt_face.proofs.Locals.{Group, Blocks, Typeds, Spots, values, rooms, cells, at_spot, Has, first, second, reads}

-- a parameter: one that is copied, with its type and value; a `&mut` slice, with its pointer and length; or a `&mut`
pub data Param : Type 0 where
  copied : Ty → Val → Param
  slice : Lifetime → Ty → ℕ × ℕ → ℕ → Param
  ref : Lifetime → Ty → ℕ × ℕ → Param

-- the parameters as locals
abbrev pub own : Param → Ty × Val
own (copied τ v) = (τ, v)
own (slice ℓ τ p n) = (slice_ty (ty_ref ℓ mut τ), slice_val p n)
own (ref ℓ τ p) = (ty_ref ℓ mut τ, vptr p.0 p.1)

abbrev pub owns : List Param → Group
owns [] = []
owns (p ∷ ps) = own p ∷ owns ps

-- the locals through which they are lent
abbrev pub lents : List Param → Group
lents [] = []
lents (copied τ v ∷ ps) = lents ps
lents (slice ℓ τ p n ∷ ps) = (ty_ref erased mut τ, vptr p.0 p.1) ∷ (slice_ty (ty_ref erased mut τ), slice_val p n) ∷ lents ps
lents (ref ℓ τ p ∷ ps) = (ty_ref erased mut τ, vptr p.0 p.1) ∷ lents ps

-- lending the parameters from number i on, through the locals from number j on
abbrev pub lending : List Param → ℕ → ℕ → Body → Body
lending [] i j rest = rest
lending (copied τ v ∷ ps) i j rest = lending ps (suc i) j rest
lending (slice ℓ τ p n ∷ ps) i j rest =
    seq (assign (place j []) (addr_of (place i (field 0 ∷ deref τ ∷ []))))
    (seq (assign (place (suc j) []) (aggregate (copy (place j []) ∷ copy (place i (field 1 ∷ [])) ∷ [])))
    (lending ps (suc i) (suc (suc j)) rest))
lending (ref ℓ τ p ∷ ps) i j rest = seq (assign (place j []) (addr_of (place i (deref τ ∷ [])))) (lending ps (suc i) (suc j) rest)

-- what is passed on
abbrev pub passed : List Param → ℕ → ℕ → List Operand
passed [] i j = []
passed (copied τ v ∷ ps) i j = copy (place i []) ∷ passed ps (suc i) j
passed (slice ℓ τ p n ∷ ps) i j = copy (place (suc j) []) ∷ passed ps (suc i) (suc (suc j))
passed (ref ℓ τ p ∷ ps) i j = copy (place j []) ∷ passed ps (suc i) (suc j)

module _ {M : Type 1} {𝓤 : Ura M} {𝓛 : Logic 𝓤} {K : Type 0} (E : Env 𝓤 𝓛.H) where
  open 𝓛 use {H}

  -- the parameters that are lent are in the locals that lend them
  pub lend_all : K → (ps : List Param) (bs : Blocks (owns ps)) (cs : Blocks (lents ps)) → Typeds (lents ps) → (i j : ℕ) → Spots 𝓤 H E i (owns ps) bs → Spots 𝓤 H E j (lents ps) cs
      → (C : Calls 𝓤 H) (Λ : Loops 𝓤 H) (q : Post 𝓤 H) (rest : Body) {Γ : List (Item 𝓤)}
      → Step K 𝓛 (‵ (cells (owns ps) bs) ∷ ‵ (cells (lents ps) cs) ∷ Γ) (runs C Λ E rest q) (‵ (cells (owns ps) bs) ∷ ‵ (rooms (lents ps) cs) ∷ Γ) (runs C Λ E (lending ps i j rest) q)
  lend_all t [] bs cs ty i j si sj C Λ q rest = step (λ s. s)
  lend_all t (copied τ v ∷ ps) bs cs ty i j si sj C Λ q rest = step (λ s.
      fsplit3 t $ move t (2 ∷ 3 ∷ 0 ∷ 1 ∷ []) $ lend_all t ps bs.1 cs ty (suc i) j si.1 sj C Λ q rest $ move t (2 ∷ 3 ∷ 0 ∷ 1 ∷ []) $ fjoin3 t $ s)
  lend_all t (slice ℓ τ p n ∷ ps) bs cs ty i j si sj C Λ q rest = step (λ s.
      fsplit3 t $ move t (3 ∷ []) $ fsplit3 t $ move t (2 ∷ []) $ fsplit3 t $
      -- [the second local; _; the locals left; the first local; _; the parameter; _; the parameters left]
      assigns t (addr t (at_spot t si.0 (fld t refl (hop t (look_in t 5 (sub t 0 refl (whole t))) (stop t))))) (at_spot t sj.0 (stop t)) (init t 3 refl ty.0) $
      assigns t (agg t (and_then t (load t (at_spot t sj.0 (stop t)) (look t 3 refl)) (and_then t (load t (at_spot t si.0 (fld t refl (stop t))) (look_in t 5 (sub t 1 refl (whole t)))) (no_more t)))) (at_spot t sj.1.0 (stop t)) (init t 0 refl ty.1.0) $
      move t (7 ∷ 2 ∷ []) $ lend_all t ps bs.1 cs.1.1 ty.1.1 (suc i) (suc (suc j)) si.1 sj.1.1 C Λ q rest $
      move t (2 ∷ 3 ∷ 1 ∷ []) $ fjoin3 t $ move t (2 ∷ 3 ∷ 0 ∷ []) $ fjoin3 t $ move t (2 ∷ 3 ∷ 1 ∷ 0 ∷ []) $ fjoin3 t $ s)
  lend_all t (ref ℓ τ p ∷ ps) bs cs ty i j si sj C Λ q rest = step (λ s.
      fsplit3 t $ move t (3 ∷ []) $ fsplit3 t $
      -- [the local; _; the locals left; the parameter; _; the parameters left]
      assigns t (addr t (at_spot t si.0 (hop t (look t 3 refl) (stop t)))) (at_spot t sj.0 (stop t)) (init t 0 refl ty.0) $
      move t (5 ∷ 2 ∷ []) $ lend_all t ps bs.1 cs.1 ty.1 (suc i) (suc j) si.1 sj.1 C Λ q rest $
      move t (2 ∷ 3 ∷ 1 ∷ []) $ fjoin3 t $ move t (2 ∷ 3 ∷ 1 ∷ 0 ∷ []) $ fjoin3 t $ s)

  -- and what is passed on is their values
  pub pass_on : K → {Γ : List (Item 𝓤)} (ps : List Param) (bs : Blocks (owns ps)) (cs : Blocks (lents ps)) (i j : ℕ) → Spots 𝓤 H E i (owns ps) bs → Spots 𝓤 H E j (lents ps) cs
      → Has 𝓛 Γ (cells (owns ps) bs) → Has 𝓛 Γ (cells (lents ps) cs) → Opds K 𝓛 Γ E (passed ps i j) (values (owns ps))
  pass_on t [] bs cs i j si sj ho hl = no_more t
  pass_on t (copied τ v ∷ ps) bs cs i j si sj ho hl =
      and_then t (load t (at_spot t si.0 (stop t)) (reads t (first ho))) (pass_on t ps bs.1 cs (suc i) j si.1 sj (second (second ho)) hl)
  pass_on t (slice ℓ τ p n ∷ ps) bs cs i j si sj ho hl =
      and_then t (load t (at_spot t sj.1.0 (stop t)) (reads t (first (second (second hl)))))
      (pass_on t ps bs.1 cs.1.1 (suc i) (suc (suc j)) si.1 sj.1.1 (second (second ho)) (second (second (second (second hl)))))
  pass_on t (ref ℓ τ p ∷ ps) bs cs i j si sj ho hl =
      and_then t (load t (at_spot t sj.0 (stop t)) (reads t (first hl))) (pass_on t ps bs.1 cs.1 (suc i) (suc j) si.1 sj.1 (second (second ho)) (second (second hl)))

-- a parameter as Rattle has it, with its value and what is known of it: a `&[R]`, a number, a struct, a `&mut [R]` and a `&mut R`
pub data Arg : Type 2 where
  shared_slice : (ℓ : Lifetime) (κ : Lft) (R : RattleType) (x : Bor (List R.Denot)) → Is (ShrSlice ℓ κ R) x (shr_slice_vals x) → Arg
  number : (w : Width) (n : ℕ) → Is (UInt w) n (vint w n ∷ []) → Arg
  struct : (T : Declared) (L : LL.Laws T) (x : T.D) → Is (row T) x (LL.vals T L x) → Arg
  lent_slice : (ℓ : Lifetime) (κ : Lft) (R : RattleType) (x : MutBor (List R.Denot)) → Is (MutSlice ℓ κ R) x (mut_slice_vals x) → Arg
  lent_ref : (ℓ : Lifetime) (R : RattleType) (x : MutBor R.Denot) → Arg

abbrev pub param : Arg → Param
param (shared_slice ℓ κ R x is) = copied (slice_ty (ty_ref ℓ imm (pointee R.written))) (slice_val x.ref_ptr (length x.now))
param (number w n is) = copied (ty_int w) (vint w n)
param (struct T L x is) = copied (layout (shape T)) (LL.val T L x)
param (lent_slice ℓ κ R x is) = slice ℓ (pointee R.written) x.ref_ptr (length x.now)
param (lent_ref ℓ R x) = ref ℓ (pointee R.written) x.ref_ptr

abbrev pub params : List Arg → List Param
params [] = []
params (a ∷ rest) = param a ∷ params rest

module _ {M : Type 1} {𝓤 : Ura M} (𝓛 : Logic 𝓤) where
  own_typed : (a : Arg) → Holds (has_ty (own (param a)).0 (own (param a)).1) × WT (own (param a)).1
  own_typed (shared_slice ℓ κ R x is) = ((shr_slice_Lawful 𝓛 ℓ κ R).typed x _ is).0
  own_typed (number w n is) = ((uint_Lawful 𝓛 w).typed n _ is).0
  own_typed (struct T L x is) = ((LL.lawful T L 𝓛).typed x _ is).0
  own_typed (lent_slice ℓ κ R x is) = ((mut_slice_Lawful 𝓛 ℓ κ R).typed x _ is).0
  own_typed (lent_ref ℓ R x) = (tt, tt)

  -- the values of the parameters, and of the locals that lend them, are of their types
  pub owns_typed : (args : List Arg) → Typeds (owns (params args))
  owns_typed [] = tt
  owns_typed (a ∷ rest) = (own_typed a, owns_typed rest)

  pub lents_typed : (args : List Arg) → Typeds (lents (params args))
  lents_typed [] = tt
  lents_typed (shared_slice ℓ κ R x is ∷ rest) = lents_typed rest
  lents_typed (number w n is ∷ rest) = lents_typed rest
  lents_typed (struct T L x is ∷ rest) = lents_typed rest
  lents_typed (lent_slice ℓ κ R x is ∷ rest) = ((tt, tt), (((mut_slice_Lawful 𝓛 erased κ R).typed x _ is).0, lents_typed rest))
  lents_typed (lent_ref ℓ R x ∷ rest) = ((tt, tt), lents_typed rest)
