-- The token at a state moves the place on inside the structure, and begins a node, is a property, ends a node or is skipped.
use mathlib.Core.Path.{◌≡◌, refl, subst}
use mathlib.Core.Bool.{Bool, true, false, ◌&&◌, cond, false≢true}
use mathlib.Core.List.{List}
use mathlib.Core.Logic.{◌⊎◌, inl, inr}
use Prim.Native.Nat.{ℕ, zero, suc, ◌+◌, ◌-◌, ◌≤◌, ◌<◌}
use native.Mathlib.Omega.{arith}
use native.Mathlib.Numerals.{add-one}
use borrow.Author.Tests.{ltb-false, le-ltb, leb-true, le-leb, eqb-true, eqb-false, eq-eqb, ne_eqb}
use lib.Dec.{eqb, leb, ltb}
use lib.ListN.{get_or, take, drop}
use Rattle.std.specs.declared.option.Option.{Option}
use Rattle.std.specs.declared.option.Option.TheVariants.{None, Some}
use Rattle.fdt_bytes.specs.BigEndian.{word_at}
use Rattle.fdt_bytes.specs.Padding.{round_up}
use Rattle.fdt_format.specs.declared.Areas.{Areas}
use Rattle.fdt_format.specs.declared.Entry.{Entry}
use Rattle.fdt_format.specs.declared.State.{State}
use Rattle.fdt_format.specs.declared.Step.{Step}
use Rattle.fdt_format.specs.declared.Step.TheVariants as step
use Rattle.fdt_format.specs.declared.Unreadable.TheVariants.{Structure, NameOffset}
use Rattle.fdt_format.specs.Description.{◌≔◌}
use Rattle.fdt_format.specs.Events.{begins, has, ends}
use Rattle.fdt_format.specs.Moves.{Moved, Kind, opens, adds, closes}
use Rattle.fdt_format.specs.Reading.{name_at, event_at}
use Rattle.fdt_format.specs.Step.{zero_from, whole_at, size_at, begin_at, property_at, end_at, past, final_at, step_at}
use Rattle.fdt_format.specs.Tokens.{begin_token, end_token, property_token, property_size, skip_token, final_token}

-- what holds of both answers of a test
pub by_test : {A : Type 0} (P : A → Type 0) (t : Bool) (a b : A) → (t ≡ true → P a) → (t ≡ false → P b) → P (cond t a b)
by_test P true a b f g = f refl
by_test P false a b f g = g refl

-- ---- the first 0 from a place i on, before a place e

module _ (b : List ℕ) (e i : ℕ) where
  -- there is nothing to search
  pub zero_none : e ≤ i → zero_from b (e - i) i ≡ i
  unfolding zero_from
  zero_none h = let z : e - i ≡ 0 = omega arith in rw z

  one_more : i < e → zero_from b (e - i) i ≡ cond (eqb (get_or b i 0) 0) i (zero_from b (e - (i + 1)) (i + 1))
  unfolding zero_from
  one_more h =
      let z : e - i ≡ suc (e - (i + 1)) = omega arith in
      rw (z, add-one i)

  -- it is here
  pub zero_here : i < e → get_or b i 0 ≡ 0 → zero_from b (e - i) i ≡ i
  zero_here h z = rw (one_more h, eq-eqb _ _ z)

  -- it is further on
  pub zero_on : i < e → (get_or b i 0 ≡ 0 → ⊥) → zero_from b (e - i) i ≡ zero_from b (e - (i + 1)) (i + 1)
  zero_on h n = rw (one_more h, ne_eqb _ _ n)

-- it is at the place or after it
pub zero_ge : (b : List ℕ) (k at : ℕ) → at ≤ zero_from b k at
unfolding zero_from
zero_ge b zero at = omega arith
zero_ge b (suc k) at =
    by_test (λ (n : ℕ). at ≤ n) (eqb (get_or b at 0) 0) at (zero_from b k (suc at)) (λ _. omega arith) (λ _. omega (arith, zero_ge b k (suc at)))

-- ---- a whole property at a place

module _ (b : List ℕ) (end at : ℕ) where
  pub record WholeProperty : Type 0 where
    pub words : 12 ≤ end - at
    pub token : word_at b at ≡ property_token
    pub ends : property_size (word_at b (at + 4)) ≤ end - at

  pub whole_is : whole_at b end at ≡ true → WholeProperty
  unfolding whole_at
  whole_is e = go (leb 12 (end - at)) (eqb (word_at b at) property_token) (leb (property_size (word_at b (at + 4))) (end - at)) refl refl refl e
    where
      go : (x y z : Bool) → leb 12 (end - at) ≡ x → eqb (word_at b at) property_token ≡ y → leb (property_size (word_at b (at + 4))) (end - at) ≡ z → (x && y && z) ≡ true → WholeProperty
      go true true true p q r e = record { words = leb-true _ _ p; token = eqb-true _ _ q; ends = leb-true _ _ r }
      go true true false p q r e = absurd (false≢true e)
      go true false z p q r e = absurd (false≢true e)
      go false y z p q r e = absurd (false≢true e)

  pub is_whole : WholeProperty → whole_at b end at ≡ true
  unfolding whole_at
  is_whole w = rw (le-leb _ _ w.words, eq-eqb _ _ w.token, le-leb _ _ w.ends)

  -- no size means that no whole property is there, and a size that one is
  by_size : (t : Bool) → whole_at b end at ≡ t → {found : Option ℕ} → found ≡ cond t (Some (property_size (word_at b (at + 4)))) None
      → (found ≡ None → whole_at b end at ≡ false) × ((size : ℕ) → found ≡ Some size → WholeProperty × (size ≡ property_size (word_at b (at + 4))))
  by_size true e s = (λ z. absurd (let z : ◌≡◌ {A = ℕ} 0 1 = cc in omega arith), λ size q. (whole_is e, cc))
  by_size false e s = (λ z. e, λ size q. absurd (let z : ◌≡◌ {A = ℕ} 0 1 = cc in omega arith))

  module _ {found : Option ℕ} (s : found ≡ size_at b end at) where
    pub size_none : found ≡ None → whole_at b end at ≡ false
    unfolding size_at
    size_none = (by_size (whole_at b end at) refl s).0

    pub size-whole : {size : ℕ} → found ≡ Some size → WholeProperty × (size ≡ property_size (word_at b (at + 4)))
    unfolding size_at
    size-whole {size} = (by_size (whole_at b end at) refl s).1 size

-- ---- the event of an entry, by its token

module _ (b : List ℕ) (t : Entry) where
  pub event_begins : t.token ≡ begin_token → event_at b t ≡ begins (name_at b t.name)
  unfolding event_at
  event_begins e = rw e

  pub event_ends : t.token ≡ end_token → event_at b t ≡ ends
  unfolding event_at
  event_ends e = rw e

  pub event_has : t.token ≡ property_token → event_at b t ≡ has (name_at b t.name ≔ take t.size (drop (t.place + 12) b))
  unfolding event_at
  event_has e = rw e

-- ---- how a token moves the state

-- an entry moves the place on, begins a node, is a property or ends a node, and has its token at its place; a word 4 is whole; the final word comes where no node is open; a token is refused only for its structure or its name offset
unfoldable pub Stepped : List ℕ → Areas → State → Step → Type 0
Stepped b a s (step.Entry t s') = Moved a s s' × Kind b s t s' × (word_at b t.place ≡ t.token)
Stepped b a s step.Skip = s.at + 4 ≤ a.structure_end
Stepped b a s step.Final = s.depth ≡ 0
Stepped b a s (step.Bad r) = (r ≡ Structure) ⊎ (r ≡ NameOffset)

round_up_ge : (m n : ℕ) → n ≤ round_up m n
unfolding round_up
round_up_ge m n = omega arith

module _ (b : List ℕ) (a : Areas) (s : State) where
  begin_stepped : word_at b s.at ≡ begin_token → Stepped b a s (begin_at b a s)
  unfolding begin_at Stepped
  begin_stepped word =
      let from : ℕ = s.at + 4 in
      let zero : ℕ = zero_from b (a.structure_end - from) from in
      by_test (Stepped b a s) (leb a.structure_end zero) _ _ (λ _. inl refl)
      λ _. by_test (Stepped b a s) (ltb a.structure_end (round_up 4 (zero + 1))) _ _ (λ _. inl refl)
      λ h. (
        record {
          on = omega (arith, round_up_ge 4 (zero + 1), zero_ge b (a.structure_end - from) from);
          within = ltb-false _ _ h;
        },
        opens _ (event_begins b _ refl) (omega arith) refl,
        word,
      )

  property_stepped : word_at b s.at ≡ property_token → s.takes_property ≡ true → Stepped b a s (property_at b a s)
  unfolding property_at Stepped
  property_stepped word r =
      let name : ℕ = a.strings + word_at b (s.at + 8) in
      by_test (Stepped b a s) (whole_at b a.structure_end s.at) _ _
      (λ h. let w = whole_is b a.structure_end s.at h in
      by_test (Stepped b a s) (leb a.strings_end (zero_from b (a.strings_end - name) name)) _ _ (λ _. inr refl)
      λ _. (record { on = omega arith; within = omega (arith, w.words, w.ends) }, adds _ (event_has b _ refl) refl r refl, word))
      (λ _. inl refl)

  end_stepped : ltb (a.structure_end - s.at) 4 ≡ false → word_at b s.at ≡ end_token → Stepped b a s (end_at s)
  unfolding end_at Stepped
  end_stepped k word =
      by_test (Stepped b a s) (eqb s.depth 0) _ _ (λ _. inl refl)
      λ h. let n : s.depth ≡ 0 → ⊥ = eqb-false _ _ h in (
        record { on = omega arith; within = omega (arith, ltb-false (a.structure_end - s.at) 4 k) },
        closes (event_ends b _ refl) (omega (arith, n)) refl,
        word,
      )

  final_stepped : Stepped b a s (final_at a s)
  unfolding final_at Stepped
  final_stepped =
      by_test (Stepped b a s) (eqb s.depth 0) _ _
      (λ h. by_test (Stepped b a s) (eqb (s.at + 4) a.structure_end) _ _ (λ _. eqb-true _ _ h) (λ _. inl refl)) (λ _. inl refl)

  pub step_stepped : Stepped b a s (step_at b a s)
  unfolding step_at Stepped
  step_stepped =
      let word : ℕ = word_at b s.at in
      by_test (Stepped b a s) (ltb (a.structure_end - s.at) 4) _ _ (λ _. inl refl)
      λ k. by_test (Stepped b a s) (eqb word begin_token) _ _ (λ e. begin_stepped (eqb-true word begin_token e))
      λ _. by_test (Stepped b a s) (eqb word end_token) _ _ (λ e. end_stepped k (eqb-true word end_token e))
      λ _. by_test (Stepped b a s) (eqb word property_token) _ _ (λ e. by_test (Stepped b a s) s.takes_property _ _ (property_stepped (eqb-true word property_token e)) (λ _. inl refl))
      λ _. by_test (Stepped b a s) (eqb word skip_token) _ _ (λ _. omega (arith, ltb-false (a.structure_end - s.at) 4 k))
      λ _. by_test (Stepped b a s) (eqb word final_token) _ _ (λ _. final_stepped) (λ _. inl refl)

  -- a whole word 4 inside the structure is skipped
  pub step_skip : s.at + 4 ≤ a.structure_end → word_at b s.at ≡ skip_token → step_at b a s ≡ step.Skip
  unfolding step_at
  step_skip h w = let whole : 4 ≤ a.structure_end - s.at = omega arith in rw (le-ltb _ _ whole, w)

  -- a word 4 moves the place on
  pub skip_moved : s.at + 4 ≤ a.structure_end → Moved a s (past s)
  skip_moved h = record { on = omega arith; within = h }

  pub moved : {t : Entry} {s' : State} → step_at b a s ≡ step.Entry t s' → Moved a s s'
  unfolding Stepped
  moved q = (subst (Stepped b a s) q step_stepped).0
