-- A struct that is lent by `&mut`, and a core that takes it by value: what holds at entry, at exit and of the core's result, whatever the struct and the other parameters are.
-- The function has nothing more of a parameter that it passed on than what the core's contract says of its last value.
use mathlib.Core.Path.{◌≡◌, refl, ap}
use Prim.Native.Nat.{ℕ, suc}
use mathlib.Core.List.{List, [], ◌∷◌}
use seplogic.Ra.Ura.{Ura}
use base.Fraction.{full_share}
use mir.Syntax.{Fn, named}
use mir.Val.{Val, vptr}
use base.Logic.{SProp, ent, sep, ex, emp, via, fst∗, id⊢, comm∗, emp∗, mono_l}
use base.Fml.{Lft, Share, GName, Fml, ftrue, fsep, flft, fobs, fauth, fbor, fobor}
use prog.Wp.{WpFn, Tables}
use sound.WpLaws.{WpFn-mono}
use types.Logic.{Logic, sem}
use contract.Lifetimes.{Lfts, Shares, AllOutlive, Outlives, toks}
use types.Kit.{pop, updating, now, show, Item, Goal, Soaks, Seq, Step, step, prop, ‵, raw, some, later, ◌⊛◌, ⋆, ◌$◌, ◌∵◌, !, qed, move, drop, use1, use2, split, join, pick, rewrite, fsplit, fsplit3, fjoin, fjoin3, feq_i, suffices, frame, await, done}
use types.SemTy.{Body}
use denote.RattleType.{Denots, Valss, flat}
use denote.Memory.{mem, cell_at}
use denote.Laws.{Is, Ises, Are, Spells, Tellss, valss, shows}
use denote.Exit.{Kept, yes, left}
use denote.Ref.{MutBor, MutRef, mut_vals, mut_Tells}
use denote.Signature.{Slot, plain, mut_ref_to, type_at, types_at}
use denote.Steps.{opens, closes, owned, peeks}
use denote.Struct.Steps.{spelt}
use denote.Struct.Struct.{Plains}
use denote.Struct.Declared.{Declared, row, fields}
use denote.Struct.Laws as LL
use denote.Triple.End.{Kepts, Fins, lasts_of}
use denote.Triple.Entry.{Res, alive, on_entry}
use denote.Triple.Spec.{triple_of, Meets}
use denote.Triple.Clauses.{Ended, Clauses, Lasts, lasts, at_exit, ensured, closing}
use denote.Triple.Walked.{Stay, Stays, stay_ref, Goes, AllGo, Goes-ref, has_of, fits_of, walk_of, ends_at, walked, walk_Meets}

-- ---- parameters that were passed on
abbrev stay_left : {n : ℕ} (s : Slot n) (k : Kept) → Stay s k
stay_left s k = record { fit = λ κs x f. Unit {0}; has = λ κs x f vs. left ((s.row κs).exit k) x f }

abbrev pub lefts : {n : ℕ} (ss : List (Slot n)) (ks : Kepts ss) → Stays ss ks
lefts [] ks = tt
lefts (s ∷ ss) ks = (stay_left s ks.0, lefts ss ks.1)

has_lefts : {n : ℕ} (κs : Lfts n) (ss : List (Slot n)) (ks : Kepts ss) (a : Denots (types_at ss κs)) (ws : Fins κs ss ks a) (vss : Valss (types_at ss κs)) → lasts_of κs ss ks a ws ≡ has_of κs ss ks (lefts ss ks) a ws vss
has_lefts κs [] ks a ws vss = refl
has_lefts κs (s ∷ ss) ks a ws vss = ap (fsep (left ((s.row κs).exit ks.0) a.0 ws.0)) (has_lefts κs ss ks.1 a.1 ws.1 vss.1)

fit_lefts : {n : ℕ} (κs : Lfts n) (ss : List (Slot n)) (ks : Kepts ss) (a : Denots (types_at ss κs)) (ws : Fins κs ss ks a) → fits_of κs ss ks (lefts ss ks) a ws
fit_lefts κs [] ks a ws = tt
fit_lefts κs (s ∷ ss) ks a ws = (tt, fit_lefts κs ss ks.1 a.1 ws.1)

goes_left : {M : Type 1} {𝓤 : Ura M} (𝓛 : Logic 𝓤) (n : ℕ) (s : Slot n) (k : Kept) → Goes 𝓛 n s k (stay_left s k)
goes_left 𝓛 n s k κs x f vs fits = 𝓛.laws.⇛_intro (sem 𝓛 (left ((s.row κs).exit k) x f))

pub go_lefts : {M : Type 1} {𝓤 : Ura M} (𝓛 : Logic 𝓤) (n : ℕ) (ss : List (Slot n)) (ks : Kepts ss) → AllGo 𝓛 n ss ks (lefts ss ks)
go_lefts 𝓛 n [] ks = tt
go_lefts 𝓛 n (s ∷ ss) ks = (goes_left 𝓛 n s ks.0, go_lefts 𝓛 n ss ks.1)

-- where the core has no `requires`
pub unasked : {M : Type 1} (𝓤 : Ura M) (P : SProp 𝓤) → ent 𝓤 P (sep 𝓤 P (emp 𝓤))
unasked 𝓤 P = via 𝓤 (sep 𝓤 (emp 𝓤) P) (emp∗ 𝓤 P) (comm∗ 𝓤 (emp 𝓤) P)

-- ---- the steps
module _ {M : Type 1} {𝓤 : Ura M} {𝓛 : Logic 𝓤} {K : Type 0} {Γ : List (Item 𝓤)} {G : Goal 𝓤 𝓛.H} where
  -- at entry: the borrow is opened, and what the core asks is made of the record, the other parameters and their tokens
  pub lends : K → Soaks G → (T : Declared) (L : LL.Laws T) (κ : Lft) (q : Share) (b o : ℕ) (γ : GName) (h : T.D) (Alive Pre : SProp 𝓤) (Tail : Fml)
      → ent 𝓤 (sep 𝓤 Alive (sem 𝓛 (fsep ((row T).own_val h (LL.vals T L h)) Tail))) Pre
      → (Is (row T) h (LL.vals T L h) → Seq K 𝓛 (raw Pre ∷ ‵ (cell_at full_share (row T).mir (LL.vals T L h) b o) ∷ ‵ (fobor κ q (Body (mem (row T)) b o γ)) ∷ ‵ (fobs γ ((row T).coded.code h)) ∷ ‵ (fauth γ ((row T).coded.code h)) ∷ Γ) G)
      → Seq K 𝓛 ((‵ (flft κ q) ⊛ raw Alive) ∷ ‵ (fsep ((MutRef (named 0) κ (row T)).own_val (record { ref_ptr = (b, o); ghost_name = γ; now = h }) (vptr b o ∷ [])) Tail) ∷ Γ) G
  lends t z T L κ q b o γ h Alive Pre Tail goes k =
      split t $ move t (2 ∷ []) $ fsplit t $ fsplit3 t $ drop t $ move t (0 ∷ 1 ∷ 3 ∷ []) $
      opens t z (row T) {h = h} b o (λ vs. spelt t (row T) (Is (row T)) (shows 𝓛 (row T)) (LL.vals T L) (LL.tells T L) full_share h vs b o $
      move t (1 ∷ []) $ peeks t (row T) (Is (row T)) (shows 𝓛 (row T)) h (LL.vals T L h) (λ is.
      move t (0 ∷ 5 ∷ []) $ fjoin t $ move t (5 ∷ 0 ∷ []) $ use2 𝓛 (raw Pre) goes $ k is))

  -- the borrow is closed at the record that was stored
  pub closed : K → Soaks G → (T : Declared) (L : LL.Laws T) → Plains (fields T) → {κ : Lft} {q : Share} {γ : GName} (h h' : T.D) (b o : ℕ) → Is (row T) h' (LL.vals T L h')
      → Step K 𝓛 (‵ (fobs γ ((row T).coded.code h')) ∷ ‵ (fbor κ (Body (mem (row T)) b o γ)) ∷ ‵ (flft κ q) ∷ Γ) G
      (‵ (cell_at full_share (row T).mir (LL.vals T L h') b o) ∷ ‵ (fobor κ q (Body (mem (row T)) b o γ)) ∷ ‵ (fobs γ ((row T).coded.code h)) ∷ ‵ (fauth γ ((row T).coded.code h)) ∷ Γ) G
  closed t z T L pl h h' b o is = step (λ s. owned t (row T) (Is (row T)) (LL.makes T pl 𝓛) h' (LL.vals T L h') is $ move t (1 ∷ 0 ∷ []) $ closes t z (row T) h' (LL.vals T L h') b o $ s)

-- the head is the goal's last part
last : {M : Type 1} {𝓤 : Ura M} {𝓛 : Logic 𝓤} {K : Type 0} {Γ : List (Item 𝓤)} → K → {P E : SProp 𝓤} → Step K 𝓛 Γ (prop P) (raw E ∷ Γ) (prop (sep 𝓤 P E))
last {𝓤 = 𝓤} {𝓛 = 𝓛} {Γ = Γ} t {P} {E} = step (λ s. record { prf = via 𝓤 _ (pop 𝓛 (raw E) Γ) (via 𝓤 _ (comm∗ 𝓤 E (⋆ 𝓛 Γ)) (mono_l 𝓤 E s.prf)) })

-- ---- what a core returns
module _ {M : Type 1} {𝓤 : Ura M} (𝓛 : Logic 𝓤) (S : Ended) (c : Clauses 𝓤 S) (y : (triple_of 𝓛 S.signature (closing 𝓛 S c)).Ghost) where
  open 𝓛 use {H}

  -- a result, and the last values of the parameters
  abbrev pub Given-back : Type 0
  Given-back = Res S.signature y.0.0 × Lasts S y.0.0 y.0.3

  -- what is had beside the result: what the contract ensures, the tokens and the last values
  abbrev pub Beside : Given-back → SProp 𝓤
  Beside x =
      sep 𝓤 ((c y.0.0 y.0.3).ensures y.1 x.0 (at_exit S y.0.0 y.0.3 x.1))
      (sep 𝓤 (alive 𝓛 S.signature y.0.0 y.0.1) (sem 𝓛 (lasts S y.0.0 y.0.3 x.1)))

  -- the core's post: a result, with what is had beside it
  pub told : (u : Val) → ent 𝓤 ((triple_of 𝓛 S.signature (closing 𝓛 S c)).post y u) (H.⇛ (ex 𝓤 (λ (x : Given-back). sep 𝓤 (sem 𝓛 ((type_at S.signature.result y.0.0).own_val x.0 (u ∷ []))) (Beside x))))
  told u =
      qed 𝓛 (raw ((triple_of 𝓛 S.signature (closing 𝓛 S c)).post y u) ∷ []) ∵ updating ! $
      use1 𝓛 (later (some (λ (r : Res S.signature y.0.0). (raw (alive 𝓛 S.signature y.0.0 y.0.1) ⊛ ‵ ((type_at S.signature.result y.0.0).own_val r (u ∷ []))) ⊛ raw (ensured 𝓛 S c y.0.0 y.0.3 y.1 r)))) (id⊢ 𝓤 _) $ await ! tt $ pick ! (λ r.
      split ! $ split ! $ move ! (2 ∷ []) $
      use1 𝓛 (some (λ (ws : Lasts S y.0.0 y.0.3). ‵ (lasts S y.0.0 y.0.3 ws) ⊛ raw ((c y.0.0 y.0.3).ensures y.1 r (at_exit S y.0.0 y.0.3 ws)))) (id⊢ 𝓤 _) $ pick ! (λ ws.
      split ! $ now ! $ show ! (λ (x : Given-back). sep 𝓤 (sem 𝓛 ((type_at S.signature.result y.0.0).own_val x.0 (u ∷ []))) (Beside x)) (r, ws) $ move ! (3 ∷ 1 ∷ 2 ∷ 0 ∷ []) $ done !))

-- ---- a thin function's signature, and how its walk ends
module _ (n : ℕ) (os : List (Outlives (suc n))) (T : Declared) (ss : List (Slot (suc n))) (ks : Kepts ss) (ρ : Slot (suc n)) where
  abbrev pub face : Ended
  face = record { signature = record { lifetimes = suc n; outlives = os; params = mut_ref_to (0 ∷ []) tt (plain (λ _. row T)) ∷ ss; result = ρ }; kept = (yes, ks) }

  abbrev pub stayed : Stays face.signature.params face.kept
  stayed = (stay_ref (0 ∷ []) tt (plain (λ _. row T)), lefts ss ks)

  all_go : {M : Type 1} {𝓤 : Ura M} (𝓛 : Logic 𝓤) → AllGo 𝓛 (suc n) face.signature.params face.kept stayed
  all_go 𝓛 = (Goes-ref 𝓛 (suc n) 0 tt (plain (λ _. row T)), go_lefts 𝓛 (suc n) ss ks)

  module _ {M : Type 1} {𝓤 : Ura M} (𝓛 : Logic 𝓤) (c : Clauses 𝓤 face) (κs : Lfts (suc n)) (qs : Shares (suc n)) (bounds : AllOutlive (suc n) os κs) (x : MutBor T.D) (a : Denots (types_at ss κs)) (vss : Valss (types_at ss κs)) (g : (c κs (x, a)).ghost) where
    -- the walk ends with the borrow closed at the record h', and with what the core left
    pub exits : (v : Val) (r : Res face.signature κs) (h' : T.D) (ws : Fins κs ss ks a)
        → ent 𝓤 (⋆ 𝓛 (‵ (fobs x.ghost_name ((row T).coded.code h')) ∷ ‵ (fbor κs.0 (Body (mem (row T)) x.ref_ptr.0 x.ref_ptr.1 x.ghost_name)) ∷ ‵ (flft κs.0 qs.0)
        ∷ raw (sep 𝓤 ((c κs (x, a)).ensures g r (at_exit face κs (x, a) (h', ws))) (sep 𝓤 (toks 𝓛 n κs.1 qs.1) (sem 𝓛 (fsep ftrue (lasts_of κs ss ks a ws))))) ∷ ‵ ((type_at ρ κs).own_val r (v ∷ [])) ∷ []))
        ((walk_of 𝓛 face stayed c).post ((κs, qs, bounds, (x, a), (vptr x.ref_ptr.0 x.ref_ptr.1 ∷ [], vss)), g) v)
    exits v r h' ws =
        qed 𝓛 (‵ (fobs x.ghost_name ((row T).coded.code h')) ∷ ‵ (fbor κs.0 (Body (mem (row T)) x.ref_ptr.0 x.ref_ptr.1 x.ghost_name)) ∷ ‵ (flft κs.0 qs.0)
        ∷ (raw ((c κs (x, a)).ensures g r (at_exit face κs (x, a) (h', ws))) ⊛ (raw (toks 𝓛 n κs.1 qs.1) ⊛ ‵ (fsep ftrue (lasts_of κs ss ks a ws)))) ∷ ‵ ((type_at ρ κs).own_val r (v ∷ [])) ∷ []) ∵
        suffices ! _ (ends_at 𝓛 face stayed c ((κs, qs, bounds, (x, a), (vptr x.ref_ptr.0 x.ref_ptr.1 ∷ [], vss)), g) v r (h', ws) (tt, fit_lefts κs ss ks a ws)) $
        move ! (3 ∷ []) $ split ! $ last ! $ split ! $ move ! (1 ∷ []) $ fsplit ! $ drop ! $ rewrite ! 0 (λ (P : Fml). ‵ P) (has_lefts κs ss ks a ws vss) refl $
        move ! (4 ∷ 1 ∷ []) $ join ! $ frame ! $ move ! (1 ∷ 2 ∷ 0 ∷ []) $ feq_i ! (List Val) (vptr x.ref_ptr.0 x.ref_ptr.1 ∷ []) (vptr x.ref_ptr.0 x.ref_ptr.1 ∷ []) refl $ fjoin3 ! $ fjoin ! $ frame ! $ done !

    -- what a walk goes to
    abbrev pub Post : Val → SProp 𝓤
    Post = (walk_of 𝓛 face stayed c).post ((κs, qs, bounds, (x, a), (vptr x.ref_ptr.0 x.ref_ptr.1 ∷ [], vss)), g)

  -- the walk is taken to the contract. A `requires` is not used
  pub meets : {M : Type 1} {𝓤 : Ura M} (𝓛 : Logic 𝓤) (c : Clauses 𝓤 face) (fn : Fn) (𝓣 : Tables 𝓤 𝓛.H)
      (sp : (κs : Lfts (suc n)) → Spells (types_at ss κs)) → ((κs : Lfts (suc n)) → Tellss (types_at ss κs) (Ises (types_at ss κs)) (sp κs))
      → ((κs : Lfts (suc n)) (qs : Shares (suc n)) (bounds : AllOutlive (suc n) os κs) (x : MutBor T.D) (a : Denots (types_at ss κs)) (g : (c κs (x, a)).ghost)
      → Are (types_at ss κs) (Ises (types_at ss κs)) a (valss (types_at ss κs) (sp κs) a)
      → ent 𝓤 (on_entry 𝓛 face.signature κs qs (x, a) (vptr x.ref_ptr.0 x.ref_ptr.1 ∷ [], valss (types_at ss κs) (sp κs) a))
      (WpFn 𝓤 𝓛.H 𝓣.C 𝓣.Λ fn (vptr x.ref_ptr.0 x.ref_ptr.1 ∷ flat (types_at ss κs) (valss (types_at ss κs) (sp κs) a)) (Post 𝓛 c κs qs bounds x a (valss (types_at ss κs) (sp κs) a) g)))
      → Meets 𝓛 face.signature (WpFn 𝓤 𝓛.H 𝓣.C 𝓣.Λ fn) (closing 𝓛 face c)
  meets {𝓤 = 𝓤} 𝓛 c fn 𝓣 sp tl walk =
      walk_Meets 𝓛 face stayed (all_go 𝓛) c (WpFn 𝓤 𝓛.H 𝓣.C 𝓣.Λ fn) (WpFn-mono 𝓤 𝓛.H 𝓛.laws 𝓣 fn)
      (walked 𝓛 face stayed c (WpFn 𝓤 𝓛.H 𝓣.C 𝓣.Λ fn) (λ κs. (mut_vals, sp κs)) (λ κs. (mut_Tells (named 0) κs.0 (row T), tl κs))
      (λ κs qs bounds a g are. via 𝓤 _ (fst∗ 𝓤 _ ((c κs a).requires g)) (walk κs qs bounds a.0 a.1 g are.1)))
