-- Locals by groups: any number of them is allocated, filled, read and freed as one entry of the context.
use mathlib.Core.Path.{◌≡◌, refl, sym, subst}
use Prim.Native.Nat.{ℕ, zero, suc}
use mathlib.Core.List.{List, [], ◌∷◌}
use seplogic.Ra.Ura.{Ura}
use base.Fraction.{full_share}
use lib.Dec.{T}
use mir.Syntax.{Ty, Step as PStep, Local, local, value_local, place}
use mir.Val.{Val, WT, has_ty}
use base.Logic.{SProp, ent, sep, wand, ex, via, comm∗, assoc∗, assoc', mono_l, mono_r, wand_i, ex_i}
use base.Fml.{Share, Fml, ftrue, fsep, fat, froom, fdies}
use prog.Wp.{Heap, Env, Spot, spot_of}
use types.Logic.{Logic, sem}
use types.Kit.{Item, ‵, mean, ⋆, nth, del, pull, unpull, Goal, allocs, passes, frees, Seq, Step, step, ◌$◌, move, drop, fsplit3, fjoin3}
use types.Run.{Reads, Walks, Finds, from, init, alloc1, pass1, pass0, forget, free1}
use denote.Steps.{nothing}

-- the locals of a group: the type of each, and the value that it is given
abbrev pub Group : Type 0
Group = List (Ty × Val)

-- where each of them lies
abbrev pub Blocks : Group → Type 0
Blocks [] = Unit {0}
Blocks (x ∷ xs) = ℕ × Blocks xs

-- each value is one of its local's type
abbrev pub Typeds : Group → Type 0
Typeds [] = Unit {0}
Typeds (x ∷ xs) = (T (has_ty x.0 x.1) × WT x.1) × Typeds xs

abbrev pub values : Group → List Val
values [] = []
values (x ∷ xs) = x.1 ∷ values xs

-- a group in front of a function's other locals, as they are declared and as they lie in memory
abbrev pub declared : Group → List Local → List Local
declared [] ls = ls
declared (x ∷ xs) ls = local x.0 value_local ∷ declared xs ls

abbrev pub laid : (xs : Group) → Blocks xs → List (Ty × ℕ) → List (Ty × ℕ)
laid [] bs E = E
laid (x ∷ xs) bs E = (x.0, bs.0) ∷ laid xs bs.1 E

-- the group while it holds nothing, and once it holds its values
abbrev pub rooms : (xs : Group) → Blocks xs → Fml
rooms [] bs = ftrue
rooms (x ∷ xs) bs = fsep (froom x.0 bs.0 zero) (fsep (fdies x.0 bs.0) (rooms xs bs.1))

abbrev pub cells : (xs : Group) → Blocks xs → Fml
cells [] bs = ftrue
cells (x ∷ xs) bs = fsep (fat full_share x.0 bs.0 zero x.1) (fsep (fdies x.0 bs.0) (cells xs bs.1))

-- the number of a local that comes after a group
abbrev pub past : Group → ℕ → ℕ
past [] i = i
past (x ∷ xs) i = suc (past xs i)

module _ {M : Type 1} (𝓤 : Ura M) (H : Heap 𝓤) where
  -- the locals from number i on are the group
  abbrev pub Spots : Env 𝓤 H → ℕ → (xs : Group) → Blocks xs → Type 0
  Spots E i [] bs = Unit {0}
  Spots E i (x ∷ xs) bs = (spot_of 𝓤 H E i ≡ (x.0, bs.0, zero)) × Spots E (suc i) xs bs.1

  pub below : (E : Env 𝓤 H) (e : Ty × ℕ) (i : ℕ) (xs : Group) (bs : Blocks xs) → Spots E i xs bs → Spots (e ∷ E) (suc i) xs bs
  below E e i [] bs s = tt
  below E e i (x ∷ xs) bs s = (s.0, below E e (suc i) xs bs.1 s.1)

  pub front : (E : Env 𝓤 H) (xs : Group) (bs : Blocks xs) → Spots (laid xs bs E) zero xs bs
  front E [] bs = tt
  front E (x ∷ xs) bs = (refl, below _ _ _ xs bs.1 (front E xs bs.1))

  pub behind : (E : Env 𝓤 H) (i : ℕ) (xs : Group) (bs : Blocks xs) (ys : Group) (cs : Blocks ys) → Spots E i ys cs → Spots (laid xs bs E) (past xs i) ys cs
  behind E i [] bs ys cs s = s
  behind E i (x ∷ xs) bs ys cs s = below _ _ _ ys cs (behind E i xs bs.1 ys cs s)

module _ {M : Type 1} {𝓤 : Ura M} {𝓛 : Logic 𝓤} {K : Type 0} where
  open 𝓛 use {H}

  -- a local that holds something is freed
  pub ends : K → {Γ : List (Item 𝓤)} {τ : Ty} {b : ℕ} {v : Val} {E : Env 𝓤 H} {g : Goal 𝓤 H} → Step K 𝓛 Γ (frees E g) (‵ (fat full_share τ b zero v) ∷ ‵ (fdies τ b) ∷ Γ) (frees ((τ, b) ∷ E) g)
  ends t = step (λ s. forget t 0 refl $ free1 t $ s)

  -- a group is allocated, filled with the values that are passed, and freed
  pub alloc_all : K → (xs : Group) {Γ : List (Item 𝓤)} {ls : List Local} {Kt : Env 𝓤 H → Goal 𝓤 H}
      → ((bs : Blocks xs) → Seq K 𝓛 (‵ (rooms xs bs) ∷ Γ) (allocs ls (λ E. Kt (laid xs bs E)))) → Seq K 𝓛 Γ (allocs (declared xs ls) Kt)
  alloc_all t [] k = nothing t $ k tt
  alloc_all t (x ∷ xs) k = alloc1 t (λ b. alloc_all t xs (λ bs. move t (1 ∷ 2 ∷ 0 ∷ []) $ fjoin3 t $ k (b, bs)))

  pub pass_all : K → (xs : Group) (bs : Blocks xs) → Typeds xs → (E : Env 𝓤 H) → {Γ : List (Item 𝓤)} {g : Goal 𝓤 H}
      → Step K 𝓛 (‵ (cells xs bs) ∷ Γ) g (‵ (rooms xs bs) ∷ Γ) (passes (laid xs bs E) (values xs) g)
  pass_all t [] bs ty E = pass0 t
  pass_all t (x ∷ xs) bs ty E = step (λ s.
      fsplit3 t $ pass1 t (init t 0 refl ty.0) $ move t (2 ∷ 0 ∷ 1 ∷ []) $ pass_all t xs bs.1 ty.1 E $ move t (1 ∷ 2 ∷ 0 ∷ []) $ fjoin3 t $ s)

  pub free_all : K → (xs : Group) (bs : Blocks xs) (E : Env 𝓤 H) {Γ : List (Item 𝓤)} {g : Goal 𝓤 H} → Step K 𝓛 Γ (frees E g) (‵ (cells xs bs) ∷ Γ) (frees (laid xs bs E) g)
  free_all t [] bs E = drop t
  free_all t (x ∷ xs) bs E = step (λ s. fsplit3 t $ ends t $ free_all t xs bs.1 E $ s)

  -- a place that starts at a local whose spot is known
  pub at_spot : K → {Γ : List (Item 𝓤)} {E : Env 𝓤 H} {i : ℕ} {st : List PStep} {sp sp' : Spot 𝓤 H} → spot_of 𝓤 H E i ≡ sp → Walks K 𝓛 Γ E sp st sp' → Finds K 𝓛 Γ E (place i st) sp'
  at_spot t {Γ} {E} {i} {st} {sp} {sp'} e w = from t (subst (λ (s : Spot 𝓤 H). Walks K 𝓛 Γ E s st sp') (sym e) w)

-- the context has a formula within it: it can be taken out, and put back
pub record Has {M : Type 1} {𝓤 : Ura M} (𝓛 : Logic 𝓤) (Γ : List (Item 𝓤)) (F : Fml) : Type 2 where
  pub rest : SProp 𝓤
  pub out : ent 𝓤 (⋆ 𝓛 Γ) (sep 𝓤 (sem 𝓛 F) rest)
  pub back : ent 𝓤 (sep 𝓤 (sem 𝓛 F) rest) (⋆ 𝓛 Γ)

module _ {M : Type 1} {𝓤 : Ura M} {𝓛 : Logic 𝓤} {Γ : List (Item 𝓤)} where
  open 𝓛 use {H}

  pub has : (n : ℕ) {F : Fml} → nth 𝓛 n Γ ≡ ‵ F → Has 𝓛 Γ F
  has n {F} e = record {
    rest = ⋆ 𝓛 (del 𝓛 n Γ);
    out = subst (λ (j : Item 𝓤). ent 𝓤 (⋆ 𝓛 Γ) (sep 𝓤 (mean 𝓛 j) (⋆ 𝓛 (del 𝓛 n Γ)))) e (pull 𝓛 n Γ);
    back = subst (λ (j : Item 𝓤). ent 𝓤 (sep 𝓤 (mean 𝓛 j) (⋆ 𝓛 (del 𝓛 n Γ))) (⋆ 𝓛 Γ)) e (unpull 𝓛 n Γ);
  }

  pub first : {F G : Fml} → Has 𝓛 Γ (fsep F G) → Has 𝓛 Γ F
  first {F} {G} h = record {
    rest = sep 𝓤 (sem 𝓛 G) h.rest;
    out = via 𝓤 _ h.out (assoc∗ 𝓤 (sem 𝓛 F) (sem 𝓛 G) h.rest);
    back = via 𝓤 _ (assoc' 𝓤 (sem 𝓛 F) (sem 𝓛 G) h.rest) h.back;
  }

  pub second : {F G : Fml} → Has 𝓛 Γ (fsep F G) → Has 𝓛 Γ G
  second {F} {G} h = first {G = F} (record {
    rest = h.rest;
    out = via 𝓤 _ h.out (mono_l 𝓤 h.rest (comm∗ 𝓤 (sem 𝓛 F) (sem 𝓛 G)));
    back = via 𝓤 _ (mono_l 𝓤 h.rest (comm∗ 𝓤 (sem 𝓛 G) (sem 𝓛 F))) h.back;
  })

  -- a cell that the context has can be read
  pub reads : {K : Type 0} → K → {q : Share} {τ : Ty} {b o : ℕ} {v : Val} → Has 𝓛 Γ (fat q τ b o v) → Reads K 𝓛 Γ τ b o v
  reads t {q} {τ} {b} {o} {v} h = record {
    go = λ Kt k.
        via 𝓤 _ h.out
        (via 𝓤 _ (mono_r 𝓤 (H.at q τ b o v) (wand_i 𝓤 h.rest (H.at q τ b o v) (Kt v) (via 𝓤 _ (comm∗ 𝓤 h.rest (H.at q τ b o v)) (via 𝓤 _ h.back k))))
        (via 𝓤 _ (ex_i 𝓤 (λ (u : Val). sep 𝓤 (H.at q τ b o u) (wand 𝓤 (H.at q τ b o u) (Kt u))) v)
        (ex_i 𝓤 (λ (s : Share). ex 𝓤 (λ (u : Val). sep 𝓤 (H.at s τ b o u) (wand 𝓤 (H.at s τ b o u) (Kt u)))) q)));
  }
