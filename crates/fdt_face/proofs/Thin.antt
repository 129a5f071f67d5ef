-- A thin call in place: `let r = core(*w, ..); *w = r.writer; r.answer`, whatever its other parameters are.
-- It reads the lent writer, lends its other parameters on to the core, stores the writer that the core returns, and returns the rest of the result.
use mathlib.Core.Path.{◌≡◌, refl, ap, subst}
use Prim.Native.Nat.{ℕ, zero, suc, ◌+◌}
use mathlib.Core.List.{List, [], ◌∷◌}
use mathlib.Core.Option.{some as found}
use seplogic.Ra.Ura.{Ura}
use base.Fraction.{full_share}
use lib.Dec.{T as Holds}
use mir.Syntax.{Callee, Kind, Ty, ty_ref, mut, named, Fn, local, value_local, deref, field, place, copy, rv_opd, Body, seq, assign, call, return}
use mir.Val.{Val, vptr, vunit, Vals, of_list, WT, has_ty}
use mir.Fields.{get_v}
use base.Logic.{SProp, ent, sep, ex}
use base.Fml.{Lft, Share, Fml, ftrue, fsep, fat, flft, fdies, fobs, fbor}
use prog.Memory.{field_of}
use prog.Wp.{Heap, Env, Calls, Loops, WpFn, spot_of}
use sound.WpLaws.{FmC}
use types.Logic.{Logic, sem}
use types.Kit.{Item, ‵, raw, some, later, ◌⊛◌, ⋆, nth, Goal, Post, runs, frees, Step, step, ◌$◌, ◌∵◌, !, qed, by, move, drop, fsplit3, fjoin3, use1, split, pick, await, rewrite}
use types.Run.{Reads, from, stop, hop, fld, load, look, look_raw, store_raw, init, of_opd, and_then, assigns, land, returns, enter, alloc1, alloc0, params1, pass1, free0}
use types.Part.{Part, whole, sub, look_in}
use types.SemTy.{Body as Content}
use denote.RattleType.{RattleType, flat}
use denote.Laws.{Is, shows, Makes, valss}
use denote.Memory.{mem as memory, cell_at, pointee}
use denote.Ref.{MutBor, MutRef}
use denote.Steps.{only, owned, facts}
use denote.Struct.Declared.{Declared, row, shape, fields}
use denote.Struct.Struct.{layout}
use denote.Struct.Laws as LL
use denote.Triple.Call.{calls_from}
use Rattle.fdt_writer.specs.declared.FdtWriter.{FdtWriter}
use Rattle.fdt_writer.specs.contracts.FdtWriter as T
use Rattle.fdt_writer.proofs.FdtWriter.TheLaws as T'
use Rattle.fdt_face.proofs.Locals.{Group, Blocks, Typeds, Spots, values, declared, laid, rooms, past, front, below, behind, at_spot, ends, alloc_all, pass_all, free_all, has}
use Rattle.fdt_face.proofs.Lending.{Param, owns, lents, lending, passed, lend_all, pass_on}
use Rattle.fdt_face.proofs.InPlace.{lends, closed}

-- the machine value of a writer
abbrev pub val_of : FdtWriter → Val
val_of h = LL.val T.the_type T'.the_laws h

-- the machine values of a struct's fields
abbrev pub parts : (B : Declared) → LL.Laws B → B.D → Vals
parts B L r = of_list (flat (fields B) (valss (fields B) (LL.spells B.parts L) (B.to r)))

-- what a core returns: a struct B of what the thin call returns, of type R, and the new writer
pub record Results : Type 2 where
  pub B : Declared
  pub laws : LL.Laws B
  pub R : RattleType
  pub answer : B.D → R.Denot
  pub writer : B.D → FdtWriter
  -- how R is laid out, and what is known of it
  pub τ : Ty
  pub spelled : R.Denot → Val
  pub typed : {M : Type 1} {𝓤 : Ura M} (𝓛 : Logic 𝓤) → (x : R.Denot) → Is R x (spelled x ∷ []) → Holds (has_ty τ (spelled x)) × WT (spelled x)
  pub makes : {M : Type 1} {𝓤 : Ura M} (𝓛 : Logic 𝓤) → Makes 𝓛 R (Is R)
  -- where the two are in B
  pub past_answer : ℕ
  pub answer_at : field_of (layout (shape B)) 0 ≡ found (τ, 0)
  pub writer_at : field_of (layout (shape B)) 1 ≡ found (T'.mir, past_answer)
  pub answer_val : (r : B.D) → get_v (parts B laws r) 0 ≡ spelled (answer r)
  pub writer_val : (r : B.D) → get_v (parts B laws r) 1 ≡ val_of (writer r)
  pub answer_is : (r : B.D) (u : Val) → Is (row B) r (u ∷ []) → Is R (answer r) (spelled (answer r) ∷ [])
  pub writer_is : (r : B.D) (u : Val) → Is (row B) r (u ∷ []) → Is T.the_row (writer r) (val_of (writer r) ∷ [])

-- a value that is read, written another way
value_is : {M : Type 1} {𝓤 : Ura M} {𝓛 : Logic 𝓤} {K : Type 0} {Γ : List (Item 𝓤)} → K → {τ : Ty} {b o : ℕ} {v u : Val} → v ≡ u → Reads K 𝓛 Γ τ b o v → Reads K 𝓛 Γ τ b o u
value_is {𝓛 = 𝓛} {K = K} {Γ = Γ} t {τ} {b} {o} e r = subst (λ (x : Val). Reads K 𝓛 Γ τ b o x) e r

-- the type of a local that holds the lent writer
abbrev lent_type : Ty
lent_type = ty_ref (named 0) mut (pointee (T.the_row).written)

-- how the writer that the core returns is stored: from the core's result at once, or through a local of its own
pub data Store : Type 0 where
  at_once : Store
  by_local : Store

-- that local, and what it holds at last
abbrev pub spares : Store → Group
spares at_once = []
spares by_local = (T'.mir, vunit) ∷ []

abbrev spared : (st : Store) → Blocks (spares st) → Val → Fml
spared at_once ds v = ftrue
spared by_local ds v = fsep (fat full_share T'.mir ds.0 zero v) (fsep (fdies T'.mir ds.0) ftrue)

-- storing the writer of the result in local r, through the local s where it has one
abbrev storing : Store → ℕ → ℕ → Body → Body
storing at_once r s rest = seq (assign (place 1 (deref T'.mir ∷ [])) (rv_opd (copy (place r (field 1 ∷ []))))) rest
storing by_local r s rest = seq (assign (place s []) (rv_opd (copy (place r (field 1 ∷ []))))) (seq (assign (place 1 (deref T'.mir ∷ [])) (rv_opd (copy (place s [])))) rest)

module _ {M : Type 1} {𝓤 : Ura M} {𝓛 : Logic 𝓤} {K : Type 0} where
  open 𝓛 use {H}

  -- the writer that is stored is the one in the result
  stores : K → (S : Results) (st : Store) (E : Env 𝓤 H) (l₁ lr : ℕ) (ds : Blocks (spares st)) (r s : ℕ)
      → spot_of 𝓤 H E 1 ≡ (lent_type, l₁, zero) → spot_of 𝓤 H E r ≡ (layout (shape S.B), lr, zero) → Spots 𝓤 H E s (spares st) ds
      → (C : Calls 𝓤 H) (Λ : Loops 𝓤 H) (q : Post 𝓤 H) (rest : Body) {Γ : List (Item 𝓤)} (n m : ℕ) {b o : ℕ} {h h' : FdtWriter} {v : Val} {back : Val → Item 𝓤}
      → nth 𝓛 m Γ ≡ ‵ (fat full_share lent_type l₁ zero (vptr b o)) → Part K 𝓛 (nth 𝓛 n Γ) full_share T'.mir lr (zero + S.past_answer) v back → v ≡ val_of h' → Holds (has_ty T'.mir (val_of h')) × WT (val_of h')
      → Step K 𝓛 (‵ (spared st ds (val_of h')) ∷ ‵ (cell_at full_share (T.the_row).mir (val_of h' ∷ []) b o) ∷ Γ) (runs C Λ E rest q)
      (‵ (rooms (spares st) ds) ∷ ‵ (cell_at full_share (T.the_row).mir (val_of h ∷ []) b o) ∷ Γ) (runs C Λ E (storing st r s rest) q)
  stores t S at_once E l₁ lr ds r s e₁ er es C Λ q rest n m em p e wt = step (λ k.
      assigns t (of_opd t (load t (at_spot t er (fld t S.writer_at (stop t))) (value_is t e (look_in t (suc (suc n)) p)))) (at_spot t e₁ (hop t (look t (suc (suc m)) em) (stop t))) (store_raw t 1 refl wt) $ k)
  stores t S by_local E l₁ lr ds r s e₁ er es C Λ q rest n m em p e wt = step (λ k.
      fsplit3 t $
      -- [the local; _; _; the writer's cell; the rest]
      assigns t (of_opd t (load t (at_spot t er (fld t S.writer_at (stop t))) (value_is t e (look_in t (suc (suc (suc (suc n)))) p)))) (at_spot t es.0 (stop t)) (init t 0 refl wt) $
      assigns t (of_opd t (load t (at_spot t es.0 (stop t)) (look t 0 refl))) (at_spot t e₁ (hop t (look t (suc (suc (suc (suc m)))) em) (stop t))) (store_raw t 3 refl wt) $ fjoin3 t $ k)

  -- and its local is freed
  free_spares : K → (st : Store) (ds : Blocks (spares st)) (v : Val) (E : Env 𝓤 H) {Γ : List (Item 𝓤)} {g : Goal 𝓤 H} → Step K 𝓛 Γ (frees E g) (‵ (spared st ds v) ∷ Γ) (frees (laid (spares st) ds E) g)
  free_spares t at_once ds v E = drop t
  free_spares t by_local ds v E = step (λ k. fsplit3 t $ ends t $ drop t $ k)

module _ (S : Results) (core : Callee) (st : Store) (ps : List Param) where
  -- the numbers of the locals after the parameters: the core's result, the copy of the writer, those that lend, and the one through which the writer is stored
  abbrev result_at : ℕ
  result_at = suc (suc (past (owns ps) zero))

  abbrev copy_at : ℕ
  copy_at = suc result_at

  abbrev lent_at : ℕ
  lent_at = suc copy_at

  abbrev spare_at : ℕ
  spare_at = suc (suc (past (owns ps) (suc (suc (past (lents ps) zero)))))

  abbrev stored : Body
  stored = storing st result_at spare_at (seq (assign (place 0 []) (rv_opd (copy (place result_at (field 0 ∷ []))))) return)

  -- the thin function over this core
  abbrev pub thin_fn : ℕ → List (ℕ × ℕ) → List Kind → ℕ → ℕ → Fn
  thin_fn lifetimes outlives ty_params givens params = record {
    lifetimes = lifetimes;
    outlives = outlives;
    ty_params = ty_params;
    givens = givens;
    params = params;
    locals = local S.τ value_local ∷ local lent_type value_local ∷ declared (owns ps) (local (layout (shape S.B)) value_local ∷ local T'.mir value_local ∷ declared (lents ps) (declared (spares st) []));
    body =
        seq (assign (place copy_at []) (rv_opd (copy (place 1 (deref T'.mir ∷ [])))))
        (lending ps 2 lent_at (seq (call core (copy (place copy_at []) ∷ passed ps 2 lent_at) (place result_at [])) stored));
  }

  -- the locals after the parameters
  abbrev others : Group
  others = (layout (shape S.B), vunit) ∷ (T'.mir, vunit) ∷ lents ps

  module _ {M : Type 1} (𝓤 : Ura M) (H : Heap 𝓤) (l₀ l₁ : ℕ) (bs : Blocks (owns ps)) (cs : Blocks others) (ds : Blocks (spares st)) where
    abbrev spare_of : Env 𝓤 H
    spare_of = laid (spares st) ds []

    abbrev rest_of : Env 𝓤 H
    rest_of = (lent_type, l₁) ∷ laid (owns ps) bs (laid others cs spare_of)

    abbrev all_of : Env 𝓤 H
    all_of = (S.τ, l₀) ∷ rest_of

    own_at : Spots 𝓤 H all_of 2 (owns ps) bs
    own_at = below 𝓤 H rest_of (S.τ, l₀) 1 (owns ps) bs (below 𝓤 H (laid (owns ps) bs (laid others cs spare_of)) (lent_type, l₁) 0 (owns ps) bs (front 𝓤 H (laid others cs spare_of) (owns ps) bs))

    other_at : Spots 𝓤 H all_of result_at others cs
    other_at = below 𝓤 H rest_of (S.τ, l₀) (suc (past (owns ps) 0)) others cs (below 𝓤 H (laid (owns ps) bs (laid others cs spare_of)) (lent_type, l₁) (past (owns ps) 0) others cs (behind 𝓤 H (laid others cs spare_of) 0 (owns ps) bs others cs (front 𝓤 H spare_of others cs)))

    spares_at : Spots 𝓤 H all_of spare_at (spares st) ds
    spares_at = below 𝓤 H rest_of (S.τ, l₀) (suc (past (owns ps) (past others 0))) (spares st) ds (below 𝓤 H (laid (owns ps) bs (laid others cs spare_of)) (lent_type, l₁) (past (owns ps) (past others 0)) (spares st) ds (behind 𝓤 H (laid others cs spare_of) (past others 0) (owns ps) bs (spares st) ds (behind 𝓤 H spare_of 0 others cs (spares st) ds (front 𝓤 H [] (spares st) ds))))

  module _ {M : Type 1} {𝓤 : Ura M} (𝓛 : Logic 𝓤) (C : Calls 𝓤 𝓛.H) (Λ : Loops 𝓤 𝓛.H) (fm : FmC 𝓤 𝓛.H 𝓛.laws C) (κ : Lft) (q : Share) (w : MutBor FdtWriter) where
    open 𝓛 use {H}

    -- what is left of the borrow once it is closed at a writer
    abbrev pub closed_at : FdtWriter → List (Item 𝓤) → List (Item 𝓤)
    closed_at h Γ = ‵ (fobs w.ghost_name ((T.the_row).coded.code h)) ∷ ‵ (fbor κ (Content (memory T.the_row) w.ref_ptr.0 w.ref_ptr.1 w.ghost_name)) ∷ ‵ (flft κ q) ∷ Γ

    -- If the core asks for no more than what is passed in (Pre), meets its contract (met), returns a result and Left (told), and the walk may end with
    -- that (exit), then the thin function runs from its entry to Kf.
    pub thin : (lifetimes : ℕ) (outlives : List (ℕ × ℕ)) (ty_params : List Kind) (givens params : ℕ) → Typeds (owns ps) → Typeds (lents ps)
        → (Alive Pre : SProp 𝓤) (Tail : Fml) → ent 𝓤 (sep 𝓤 Alive (sem 𝓛 (fsep ((T.the_row).own_val w.now (val_of w.now ∷ [])) Tail))) Pre
        → (Q : Val → SProp 𝓤) → ent 𝓤 Pre (C core (val_of w.now ∷ values (owns ps)) Q)
        → (X : Type 0) (result : X → S.B.D) (Left : X → SProp 𝓤) → ((u : Val) → ent 𝓤 (Q u) (H.⇛ (ex 𝓤 (λ (x : X). sep 𝓤 (sem 𝓛 ((row S.B).own_val (result x) (u ∷ []))) (Left x)))))
        → (Kf : Val → SProp 𝓤) → ((x : X) → ent 𝓤 (⋆ 𝓛 (closed_at (S.writer (result x)) (raw (Left x) ∷ ‵ (S.R.own_val (S.answer (result x)) (S.spelled (S.answer (result x)) ∷ [])) ∷ []))) (Kf (S.spelled (S.answer (result x)))))
        → ent 𝓤 (⋆ 𝓛 ((‵ (flft κ q) ⊛ raw Alive) ∷ ‵ (fsep ((MutRef (named 0) κ T.the_row).own_val w (vptr w.ref_ptr.0 w.ref_ptr.1 ∷ [])) Tail) ∷ []))
        (WpFn 𝓤 H C Λ (thin_fn lifetimes outlives ty_params givens params) (vptr w.ref_ptr.0 w.ref_ptr.1 ∷ values (owns ps)) Kf)
    thin lifetimes outlives ty_params givens params ty-own ty-lent Alive Pre Tail goes Q met X result Left told Kf exit =
        qed 𝓛 ((‵ (flft κ q) ⊛ raw Alive) ∷ ‵ (fsep ((MutRef (named 0) κ T.the_row).own_val w (vptr w.ref_ptr.0 w.ref_ptr.1 ∷ [])) Tail) ∷ []) ∵ enter ! C Λ (thin_fn lifetimes outlives ty_params givens params) _ _ $
        alloc1 ! (λ l₀. alloc1 ! (λ l₁. alloc_all ! (owns ps) (λ bs. alloc1 ! (λ lr. alloc1 ! (λ lv. alloc_all ! (lents ps) (λ cs. alloc_all ! (spares st) (λ ds. alloc0 ! $ params1 ! $
        move ! (1 ∷ 2 ∷ 3 ∷ 4 ∷ 5 ∷ 6 ∷ 7 ∷ 8 ∷ 9 ∷ 10 ∷ 11 ∷ 12 ∷ []) $
        -- [the locals that lend; the copy; _; the result; _; the parameters; w; _; what is returned; _; the tokens; what was passed in; the local through which the writer is stored, which stays last]
        pass1 ! (init ! 6 refl (tt, tt)) $ move ! (5 ∷ []) $ pass_all ! (owns ps) bs ty-own _ $
        move ! (10 ∷ 11 ∷ 6 ∷ 7 ∷ 4 ∷ 5 ∷ 2 ∷ []) $ lends ! tt T.the_type T'.the_laws κ q w.ref_ptr.0 w.ref_ptr.1 w.ghost_name w.now Alive Pre Tail goes (λ is.
        -- [what the core asks; the writer's cell; the open borrow; obs; auth; w; _; the result; _; the copy; the parameters; the locals that lend; _; what is returned; _]
        assigns ! (of_opd ! (load ! (from ! (hop ! (look ! 5 refl) (stop !))) (look_raw ! 1 refl))) (at_spot ! (other_at 𝓤 H l₀ l₁ bs (lr, (lv, cs)) ds).1.0 (stop !)) (init ! 9 refl ((LL.lawful T.the_type T'.the_laws 𝓛).typed w.now _ is).0) $
        move ! (10 ∷ 11 ∷ []) $ lend_all (all_of 𝓤 H l₀ l₁ bs (lr, (lv, cs)) ds) ! ps bs cs ty-lent 2 lent_at (own_at 𝓤 H l₀ l₁ bs (lr, (lv, cs)) ds) (other_at 𝓤 H l₀ l₁ bs (lr, (lv, cs)) ds).1.1 C Λ _ _ $
        move ! (2 ∷ 3 ∷ 4 ∷ 5 ∷ 6 ∷ 0 ∷ 1 ∷ []) $
        -- [what the core asks; the writer's cell; the open borrow; obs; auth; the parameters; the locals that lend; w; _; the result; _; the copy; _; what is returned; _]
        calls_from ! fm (raw Pre) (val_of w.now ∷ values (owns ps)) Q met
        (and_then ! (load ! (at_spot ! (other_at 𝓤 H l₀ l₁ bs (lr, (lv, cs)) ds).1.0 (stop !)) (look ! 11 refl))
        (pass_on (all_of 𝓤 H l₀ l₁ bs (lr, (lv, cs)) ds) ! ps bs cs 2 lent_at (own_at 𝓤 H l₀ l₁ bs (lr, (lv, cs)) ds) (other_at 𝓤 H l₀ l₁ bs (lr, (lv, cs)) ds).1.1 (has 5 refl) (has 6 refl))) (λ u.
        use1 𝓛 (later (some (λ (x : X). ‵ ((row S.B).own_val (result x) (u ∷ [])) ⊛ raw (Left x)))) (told u) $ await ! tt $ pick ! (λ x. split ! $
        facts ! (row S.B) (Is (row S.B)) (shows 𝓛 (row S.B)) (result x) (u ∷ []) (λ isb.
        -- [what the core leaves; the writer's cell; the open borrow; obs; auth; the parameters; the locals that lend; w; _; the result; _; the copy; _; what is returned; _]
        land ! (at_spot ! (other_at 𝓤 H l₀ l₁ bs (lr, (lv, cs)) ds).0 (stop !)) (init ! 9 refl ((LL.lawful S.B S.laws 𝓛).typed (result x) _ isb).0) $
        rewrite ! 9 (λ (v : Val). ‵ (fat full_share (layout (shape S.B)) lr 0 v)) (ap only (LL.tells S.B S.laws (result x) _ isb)) refl $
        move ! (15 ∷ 1 ∷ []) $
        stores ! S st (all_of 𝓤 H l₀ l₁ bs (lr, (lv, cs)) ds) l₁ lr ds result_at spare_at refl (other_at 𝓤 H l₀ l₁ bs (lr, (lv, cs)) ds).0 (spares_at 𝓤 H l₀ l₁ bs (lr, (lv, cs)) ds) C Λ _ _ 8 6 refl (sub ! 1 S.writer_at (whole !)) (S.writer_val (result x))
        ((LL.lawful T.the_type T'.the_laws 𝓛).typed (S.writer (result x)) _ (S.writer_is (result x) u isb)).0 $
        -- [the local through which the writer is stored; the writer's cell; what the core leaves; the open borrow; obs; auth; the parameters; the locals that lend; w; _; the result; _; the copy; _; what is returned; _]
        assigns ! (of_opd ! (load ! (at_spot ! (other_at 𝓤 H l₀ l₁ bs (lr, (lv, cs)) ds).0 (fld ! S.answer_at (stop !))) (value_is ! (S.answer_val (result x)) (look_in ! 10 (sub ! 0 S.answer_at (whole !))))))
        (from ! (stop !)) (init ! 14 refl (S.typed 𝓛 (S.answer (result x)) (S.answer_is (result x) u isb))) $
        move ! (1 ∷ 3 ∷ 4 ∷ 5 ∷ []) $ closed ! tt T.the_type T'.the_laws T'.the_plain w.now (S.writer (result x)) w.ref_ptr.0 w.ref_ptr.1 (S.writer_is (result x) u isb) $
        -- [obs; the borrow; its token; the local through which the writer is stored; what the core leaves; the parameters; the locals that lend; w; _; the result; _; the copy; _; what is returned; _]
        returns ! (look ! 13 refl) $ move ! (13 ∷ 14 ∷ 7 ∷ 8 ∷ 5 ∷ 9 ∷ 10 ∷ 11 ∷ 12 ∷ 6 ∷ 3 ∷ []) $ ends ! $ ends ! $ free_all ! (owns ps) bs _ $ ends ! $ ends ! $ free_all ! (lents ps) cs _ $ free_spares ! st ds _ [] $ free0 ! $
        owned ! S.R (Is S.R) (S.makes 𝓛) (S.answer (result x)) _ (S.answer_is (result x) u isb) $ move ! (1 ∷ 2 ∷ 3 ∷ 4 ∷ 0 ∷ []) $ by ! (exit x))))))))))))
