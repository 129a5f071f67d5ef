-- A thin function in place meets its contract where its contract says of the stored writer what the core's says of the returned one.
use mathlib.Core.Path.{◌≡◌, subst}
use Prim.Native.Nat.{ℕ, suc}
use mathlib.Core.List.{List, [], ◌∷◌}
use seplogic.Ra.Ura.{Ura}
use mir.Syntax.{Callee, Fn}
use mir.Val.{Val, vptr}
use base.Logic.{SProp, ent, sep, ex}
use base.Fml.{fsep, ftrue}
use prog.Model.{Model}
use prog.Routine.{Routine, Env}
use prog.Wp.{WpFn, Tables, Closed}
use contract.Running.{Running, tables, tables_of}
use sound.WpLaws.{fm_of}
use types.Logic.{Logic, sem}
use contract.Lifetimes.{Lfts, Shares, AllOutlive, Outlives, toks}
use types.Kit.{raw, ‵, some, later, ◌⊛◌, ◌$◌, ◌∵◌, !, qed, by, move, use1, split, pick, await, updating, now, show, done}
use denote.RattleType.{Denots, Valss, owns as owned_by, flat}
use denote.Laws.{Ises, Are, Spells, Tellss, valss}
use denote.Ref.{MutBor}
use denote.Signature.{Slot, type_at, types_at}
use denote.Struct.Declared.{row}
use denote.Triple.End.{Kepts, Fins, lasts_of}
use denote.Triple.Entry.{on_entry}
use denote.Triple.Spec.{triple_of, Meets}
use denote.Triple.Statement.{Contract, Triple}
use denote.Triple.Table.{entered, cited}
use denote.Triple.Clauses.{Ended, Clauses, at_exit, closing}
use Rattle.fdt_writer.specs.declared.FdtWriter.{FdtWriter}
use Rattle.fdt_writer.specs.contracts.FdtWriter as T
use Rattle.fdt_face.proofs.Locals.{values}
use Rattle.fdt_face.proofs.Lending.{Arg, params, owns, owns_typed, lents_typed}
use Rattle.fdt_face.proofs.Thin.{Store, Results, thin_fn, closed_at, thin, val_of}
use Rattle.fdt_face.proofs.InPlace.{face, Post, exits, meets, told, Given-back, Beside}

module _ (n : ℕ) (os : List (Outlives (suc n))) (ss : List (Slot (suc n))) (ks : Kepts ss) (ρ : Slot (suc n)) where
  module _ {M : Type 1} {𝓤 : Ura M} (𝓛 : Logic 𝓤) (c : Clauses 𝓤 (face n os T.the_type ss ks ρ)) (sp : (κs : Lfts (suc n)) → Spells (types_at ss κs)) (fn : Fn) (S : Results) (core : Callee) (st : Store) (K : Ended) (k : Clauses 𝓤 K) where
    open 𝓛 use {H}

    abbrev Core : Contract 𝓤
    Core = triple_of 𝓛 K.signature (closing 𝓛 K k)

    -- what the function's contract says where it leaves the writer h' and returns r, with the tokens and the last values of its other parameters
    abbrev Stored : (κs : Lfts (suc n)) → Shares (suc n) → (w : MutBor FdtWriter) (a : Denots (types_at ss κs)) → (c κs (w, a)).ghost → FdtWriter → (type_at ρ κs).Denot → Fins κs ss ks a → SProp 𝓤
    Stored κs qs w a g h' r ws =
        sep 𝓤 ((c κs (w, a)).ensures g r (at_exit (face n os T.the_type ss ks ρ) κs (w, a) (h', ws))) (sep 𝓤 (toks 𝓛 n κs.1 qs.1) (sem 𝓛 (fsep ftrue (lasts_of κs ss ks a ws))))

    -- a call of the thin function, and the call of the core that it makes. At a function that is written out, all but the first two are there by computation
    abbrev pub Passes : (κs : Lfts (suc n)) → Shares (suc n) → (w : MutBor FdtWriter) (a : Denots (types_at ss κs)) → (c κs (w, a)).ghost → Type 2
    Passes κs qs w a g =
        -- the parameters after the writer, and what the core is given
        (args : List Arg)
        × (to-core : Core.Ghost)
        -- the function is the thin one, and passes on what it is given
        × (is-thin : thin_fn S core st (params args) fn.lifetimes fn.outlives fn.ty_params fn.givens fn.params ≡ fn)
        × (is-passed : values (owns (params args)) ≡ flat (types_at ss κs) (valss (types_at ss κs) (sp κs) a))
        × (is-asked : Core.args to-core ≡ val_of w.now ∷ values (owns (params args)))
        × (asks : ent 𝓤 (sep 𝓤 (toks 𝓛 n κs.1 qs.1) (sem 𝓛 (fsep ((T.the_row).own_val w.now (val_of w.now ∷ [])) (owned_by (types_at ss κs) a (valss (types_at ss κs) (sp κs) a))))) (Core.pre to-core))
        -- of what the core returns: its result, what the function returns of it, and what the parameters are at last
        × (result : Given-back 𝓛 K k to-core → S.B.D)
        × (returned : Given-back 𝓛 K k to-core → (type_at ρ κs).Denot)
        × (last : Given-back 𝓛 K k to-core → Fins κs ss ks a)
        × (is-result : (x : Given-back 𝓛 K k to-core) (u : Val) → ent 𝓤 (sem 𝓛 ((type_at K.signature.result to-core.0.0).own_val x.0 (u ∷ []))) (sem 𝓛 ((row S.B).own_val (result x) (u ∷ []))))
        × (is-returned : (x : Given-back 𝓛 K k to-core) (v : Val) → ent 𝓤 (sem 𝓛 (S.R.own_val (S.answer (result x)) (v ∷ []))) (sem 𝓛 ((type_at ρ κs).own_val (returned x) (v ∷ []))))
        -- what the core's contract says, with the writer that it returns, is what the function's says, with the writer that it stores
        × ((x : Given-back 𝓛 K k to-core) → ent 𝓤 (Beside 𝓛 K k to-core x) (Stored κs qs w a g (S.writer (result x)) (returned x) (last x)))

    module _ (𝓣 : Tables 𝓤 H) (known : Triple 𝓤 (𝓣.C core) (Core)) (κs : Lfts (suc n)) (qs : Shares (suc n)) (bounds : AllOutlive (suc n) os κs) (w : MutBor FdtWriter) (a : Denots (types_at ss κs)) (g : (c κs (w, a)).ghost) where
      abbrev vss : Valss (types_at ss κs)
      vss = valss (types_at ss κs) (sp κs) a

      abbrev Entry : SProp 𝓤
      Entry = on_entry 𝓛 (face n os T.the_type ss ks ρ).signature κs qs (w, a) (vptr w.ref_ptr.0 w.ref_ptr.1 ∷ [], vss)

      abbrev Exit : Val → SProp 𝓤
      Exit = Post n os T.the_type ss ks ρ 𝓛 c κs qs bounds w a vss g

      abbrev Got : (p : Passes κs qs w a g) → Val → Given-back 𝓛 K k p.1 → SProp 𝓤
      Got p u x = sep 𝓤 (sem 𝓛 ((row S.B).own_val (p.6 x) (u ∷ []))) (Beside 𝓛 K k p.1 x)

      -- what the core leaves, with its result
      says : (p : Passes κs qs w a g) (u : Val) → ent 𝓤 (Core.post p.1 u) (H.⇛ (ex 𝓤 (Got p u)))
      says p u =
          qed 𝓛 (raw (Core.post p.1 u) ∷ []) ∵ updating ! $
          use1 𝓛 (later (some (λ (x : Given-back 𝓛 K k p.1). ‵ ((type_at K.signature.result p.1.0.0).own_val x.0 (u ∷ [])) ⊛ raw (Beside 𝓛 K k p.1 x)))) (told 𝓛 K k p.1 u) $ await ! tt $ pick ! (λ x.
          split ! $ use1 𝓛 (‵ ((row S.B).own_val (p.6 x) (u ∷ []))) (p.9 x u) $ now ! $ show ! (Got p u) x $ done !)

      -- the walk of the thin function, for one call
      walk : Passes κs qs w a g → ent 𝓤 Entry (WpFn 𝓤 H 𝓣.C 𝓣.Λ fn (vptr w.ref_ptr.0 w.ref_ptr.1 ∷ flat (types_at ss κs) vss) Exit)
      walk p =
          subst (λ (F : Fn). ent 𝓤 Entry (WpFn 𝓤 H 𝓣.C 𝓣.Λ F (vptr w.ref_ptr.0 w.ref_ptr.1 ∷ flat (types_at ss κs) vss) Exit)) p.2
          (subst (λ (vs : List Val). ent 𝓤 Entry (WpFn 𝓤 H 𝓣.C 𝓣.Λ (thin_fn S core st (params p.0) fn.lifetimes fn.outlives fn.ty_params fn.givens fn.params) (vptr w.ref_ptr.0 w.ref_ptr.1 ∷ vs) Exit)) p.3
          (thin S core st (params p.0) 𝓛 𝓣.C 𝓣.Λ (fm_of 𝓤 H 𝓛.laws 𝓣) κs.0 qs.0 w fn.lifetimes fn.outlives fn.ty_params fn.givens fn.params (owns_typed 𝓛 p.0) (lents_typed 𝓛 p.0)
          (toks 𝓛 n κs.1 qs.1) (Core.pre p.1) (owned_by (types_at ss κs) a vss) p.5
          (Core.post p.1) (subst (λ (vs : List Val). ent 𝓤 (Core.pre p.1) (𝓣.C core vs (Core.post p.1))) p.4 (known p.1))
          (Given-back 𝓛 K k p.1) p.6 (Beside 𝓛 K k p.1) (says p) Exit (λ x.
          qed 𝓛 (closed_at S core st (params p.0) 𝓛 𝓣.C 𝓣.Λ (fm_of 𝓤 H 𝓛.laws 𝓣) κs.0 qs.0 w (S.writer (p.6 x)) (raw (Beside 𝓛 K k p.1 x) ∷ ‵ (S.R.own_val (S.answer (p.6 x)) (S.spelled (S.answer (p.6 x)) ∷ [])) ∷ [])) ∵
          move ! (3 ∷ []) $ use1 𝓛 (raw (Stored κs qs w a g (S.writer (p.6 x)) (p.7 x) (p.8 x))) (p.11 x) $
          move ! (4 ∷ []) $ use1 𝓛 (‵ ((type_at ρ κs).own_val (p.7 x) (S.spelled (S.answer (p.6 x)) ∷ []))) (p.10 x (S.spelled (S.answer (p.6 x)))) $ move ! (2 ∷ 3 ∷ 4 ∷ 1 ∷ 0 ∷ []) $
          by ! (exits n os T.the_type ss ks ρ 𝓛 c κs qs bounds w a vss g (S.spelled (S.answer (p.6 x))) (p.7 x) (S.writer (p.6 x)) (p.8 x)))))

    -- and for all calls
    meets_all : ((κs : Lfts (suc n)) → Tellss (types_at ss κs) (Ises (types_at ss κs)) (sp κs)) → (𝓣 : Tables 𝓤 H) → Triple 𝓤 (𝓣.C core) (Core)
        → ((κs : Lfts (suc n)) (qs : Shares (suc n)) (w : MutBor FdtWriter) (a : Denots (types_at ss κs)) (g : (c κs (w, a)).ghost) → Are (types_at ss κs) (Ises (types_at ss κs)) a (valss (types_at ss κs) (sp κs) a) → Passes κs qs w a g)
        → Meets 𝓛 (face n os T.the_type ss ks ρ).signature (WpFn 𝓤 H 𝓣.C 𝓣.Λ fn) (closing 𝓛 (face n os T.the_type ss ks ρ) c)
    meets_all tl 𝓣 known passes = meets n os T.the_type ss ks ρ 𝓛 c fn 𝓣 sp tl (λ κs qs bounds w a g are. walk 𝓣 known κs qs bounds w a g (passes κs qs w a g are))

  -- the law of calls in place, for a function that is named self and calls the core
  module _ {M : Type 1} {𝓤 : Ura M} (𝓛 : Logic 𝓤) (𝓜 : Model 𝓤 𝓛.H) (𝓡 : Running 𝓤 𝓛.H 𝓜) (c : Clauses 𝓤 (face n os T.the_type ss ks ρ)) (sp : (κs : Lfts (suc n)) → Spells (types_at ss κs)) (fn : Fn) (S : Results) (core : Callee) (st : Store) (K : Ended) (k : Clauses 𝓤 K) where
    open 𝓛 use {H}

    pub in_place : (env : Env) (self : Callee) (routine : Routine) → Closed 𝓤 H (tables 𝓤 H 𝓜 𝓡 env).C (tables 𝓤 H 𝓜 𝓡 env).Λ self fn → env core ≡ routine → Triple 𝓤 (𝓡.run routine) (triple_of 𝓛 K.signature (closing 𝓛 K k))
        → ((κs : Lfts (suc n)) → Tellss (types_at ss κs) (Ises (types_at ss κs)) (sp κs))
        → ((κs : Lfts (suc n)) (qs : Shares (suc n)) (w : MutBor FdtWriter) (a : Denots (types_at ss κs)) (g : (c κs (w, a)).ghost) → Are (types_at ss κs) (Ises (types_at ss κs)) a (valss (types_at ss κs) (sp κs) a) → Passes 𝓛 c sp fn S core st K k κs qs w a g)
        → Triple 𝓤 ((tables 𝓤 H 𝓜 𝓡 env).C self) (triple_of 𝓛 (face n os T.the_type ss ks ρ).signature (closing 𝓛 (face n os T.the_type ss ks ρ) c))
    unfolding tables_of
    in_place env self routine unfolded calls met tl passes =
        entered 𝓤 H _ (tables 𝓤 H 𝓜 𝓡 env).C (tables 𝓤 H 𝓜 𝓡 env).Λ self fn unfolded
        (meets_all 𝓛 c sp fn S core st K k tl (tables_of 𝓤 H 𝓜 (tables 𝓤 H 𝓜 𝓡 env)) (cited 𝓤 H _ 𝓜 𝓡 env core routine calls met) passes)
