-- A name offset meets a 0 inside the strings exactly if it is before the place after their last 0: one search for that 0 serves every property.
use mathlib.Core.Path.{◌≡◌, refl, sym, ap, ◌∙◌}
use mathlib.Core.Bool.{Bool, true, false}
use mathlib.Core.List.{List}
use Prim.Native.Nat.{ℕ, zero, suc, ◌+◌, ◌-◌, ◌≤◌, ◌<◌}
use native.Mathlib.Omega.{arith}
use borrow.Author.Tests.{eqb-true, eqb-false, eq-eqb, ne_eqb, leb-true, leb-false, lt-leb}
use lib.Dec.{eqb, leb}
use lib.ListN.{get_or}
use Rattle.fdt_bytes.specs.BigEndian.{word_at}
use Rattle.fdt_format.specs.declared.Areas.{Areas}
use Rattle.fdt_format.specs.declared.State.{State}
use Rattle.fdt_format.specs.Step.{zero_from, begin_at, property_at, final_at, step_at}
use Rattle.fdt_format.proofs.Steps.{by_test, zero_ge}
use Rattle.fdt_read_token.specs.Inside.{Inside}
use Rattle.fdt_read_token.specs.Trimmed.{after_last_zero, trimmed_end, trimmed, Trimmed}

module _ (b : List ℕ) where
  -- ---- the first 0

  -- a 0 on the way is met
  met : (k at i : ℕ) → at ≤ i → i < at + k → get_or b i 0 ≡ 0 → zero_from b k at < at + k
  unfolding zero_from
  met zero at i l h z = absurd (omega arith)
  met (suc k) at i l h z =
      by_test (λ (n : ℕ). n < at + suc k) (eqb (get_or b at 0) 0) at (zero_from b k (suc at))
      (λ _. omega arith)
      λ n. let other : at ≡ i → ⊥ = λ q. eqb-false (get_or b at 0) 0 n (rw q z) in omega (arith, met k (suc at) i (omega (arith, other)) (omega arith) z)

  -- what is met is a 0
  is_zero : (k at : ℕ) → zero_from b k at < at + k → get_or b (zero_from b k at) 0 ≡ 0
  unfolding zero_from
  is_zero zero at = λ h. absurd (omega arith)
  is_zero (suc k) at =
      by_test (λ (n : ℕ). n < at + suc k → get_or b n 0 ≡ 0) (eqb (get_or b at 0) 0) at (zero_from b k (suc at))
      (λ z _. eqb-true _ _ z)
      λ _ h. is_zero k (suc at) (omega arith)

  -- ---- the place after the last 0

  module _ (from : ℕ) where
    -- without a place there is none
    pub last_none : (end : ℕ) → end ≤ from → after_last_zero b from (end - from) ≡ from
    unfolding after_last_zero
    last_none end h = let e : end - from ≡ 0 = omega arith in rw e

    -- the last place holds a 0
    pub last-here : (end : ℕ) → from < end → get_or b (end - 1) 0 ≡ 0 → after_last_zero b from (end - from) ≡ end
    unfolding after_last_zero
    last-here end h z =
        let e : end - from ≡ suc (end - 1 - from) = omega arith in
        let p : from + (end - 1 - from) ≡ end - 1 = omega arith in
        rw (e, p, eq-eqb _ _ z) (omega arith)

    -- the last place holds none
    pub last-before : (end : ℕ) → from < end → (get_or b (end - 1) 0 ≡ 0 → ⊥) → after_last_zero b from (end - from) ≡ after_last_zero b from (end - 1 - from)
    unfolding after_last_zero
    last-before end h n =
        let e : end - from ≡ suc (end - 1 - from) = omega arith in
        let p : from + (end - 1 - from) ≡ end - 1 = omega arith in
        rw (e, p, ne_eqb _ _ n)

    -- it is in the range
    last_range : (k : ℕ) → (from ≤ after_last_zero b from k) × (after_last_zero b from k ≤ from + k)
    unfolding after_last_zero
    last_range zero = (omega arith, omega arith)
    last_range (suc k) =
        by_test (λ (n : ℕ). (from ≤ n) × (n ≤ from + suc k)) (eqb (get_or b (from + k) 0) 0) (from + suc k) (after_last_zero b from k)
        (λ _. (omega arith, omega arith))
        λ _. let r = last_range k in (r.0, omega (arith, r.1))

    -- a 0 is before it
    last_zero : (k : ℕ) → from < after_last_zero b from k → get_or b (after_last_zero b from k - 1) 0 ≡ 0
    unfolding after_last_zero
    last_zero zero = λ h. absurd (omega arith)
    last_zero (suc k) =
        by_test (λ (n : ℕ). from < n → get_or b (n - 1) 0 ≡ 0) (eqb (get_or b (from + k) 0) 0) (from + suc k) (after_last_zero b from k)
        (λ z _. let e : from + suc k - 1 ≡ from + k = omega arith in rw e (eqb-true _ _ z))
        λ _ h. last_zero k h

    -- no 0 is after it
    last-all : (k i : ℕ) → from ≤ i → i < from + k → get_or b i 0 ≡ 0 → i < after_last_zero b from k
    unfolding after_last_zero
    last-all zero i l h z = absurd (omega arith)
    last-all (suc k) i l h z =
        by_test (λ (n : ℕ). i < n) (eqb (get_or b (from + k) 0) 0) (from + suc k) (after_last_zero b from k)
        (λ _. h)
        λ n. let other : from + k ≡ i → ⊥ = λ q. eqb-false (get_or b (from + k) 0) 0 n (rw q z) in last-all k i l (omega (arith, other)) z

    -- a cut leaves nothing to cut
    last_stays : (k : ℕ) → after_last_zero b from (after_last_zero b from k - from) ≡ after_last_zero b from k
    last_stays k = go (leb (after_last_zero b from k) from) refl
      where
        go : (t : Bool) → leb (after_last_zero b from k) from ≡ t → after_last_zero b from (after_last_zero b from k - from) ≡ after_last_zero b from k
        go true e = last_none _ (leb-true _ _ e) ∙ omega (arith, (last_range k).0, leb-true (after_last_zero b from k) from e)
        go false e = last-here _ (leb-false _ _ e) (last_zero k (leb-false _ _ e))

    -- a name offset meets a 0 before the end exactly if it is before the place after the last 0
    last_decides : (end name : ℕ) → from ≤ end → from ≤ name → leb end (zero_from b (end - name) name) ≡ leb (after_last_zero b from (end - from)) name
    last_decides end name f l = go (leb last name) refl
      where
        first : ℕ
        first = zero_from b (end - name) name

        last : ℕ
        last = after_last_zero b from (end - from)

        range : (from ≤ last) × (last ≤ from + (end - from))
        range = last_range (end - from)

        go : (t : Bool) → leb last name ≡ t → leb end first ≡ t
        go true e = none (leb end first) refl
          where
            none : (t : Bool) → leb end first ≡ t → leb end first ≡ true
            none true q = q
            none false q =
                let found : first < end = leb-false end first q in
                let on : name ≤ first = zero_ge b (end - name) name in
                let zero : get_or b first 0 ≡ 0 = is_zero (end - name) name (omega arith) in
                absurd (omega (arith, leb-true last name e, last-all (end - from) first (omega arith) (omega arith) zero))
        go false e =
            let before : name < last = leb-false last name e in
            lt-leb end first (omega (arith, range.1, met (end - name) name (last - 1) (omega arith) (omega (arith, range.1)) (last_zero (end - from) (omega arith))))

-- ---- areas

module _ (b : List ℕ) (a : Areas) where
  -- trimmed areas are inside, and their strings are cut
  pub trimmed_is : Inside b a → Trimmed b (trimmed b a)
  unfolding trimmed trimmed_end
  trimmed_is i =
      let range = last_range b a.strings (a.strings_end - a.strings) in
      record {
        inside = record { structure = i.structure; order = range.0; strings = omega (arith, range.1, i.order, i.strings); small = i.small };
        cut = last_stays b a.strings (a.strings_end - a.strings);
      }

  -- in such areas the test of a name offset is one comparison
  pub trimmed_decides : Trimmed b a → (offset : ℕ)
      → leb a.strings_end (zero_from b (a.strings_end - (a.strings + offset)) (a.strings + offset)) ≡ leb a.strings_end (a.strings + offset)
  unfolding trimmed_end
  trimmed_decides t offset =
      let name : ℕ = a.strings + offset in
      last_decides b a.strings a.strings_end name t.inside.order (omega arith) ∙ ap (λ (n : ℕ). leb n name) t.cut

  module _ (o : a.strings ≤ a.strings_end) (s : State) where
    name_same : (name : ℕ) → a.strings ≤ name → leb (trimmed_end b a) (zero_from b (trimmed_end b a - name) name) ≡ leb a.strings_end (zero_from b (a.strings_end - name) name)
    unfolding trimmed_end
    name_same name l =
        let k : ℕ = a.strings_end - a.strings in
        last_decides b a.strings (after_last_zero b a.strings k) name (last_range b a.strings k).0 l
        ∙ ap (λ (n : ℕ). leb n name) (last_stays b a.strings k)
        ∙ sym (last_decides b a.strings a.strings_end name o l)

    property-same : property_at b (trimmed b a) s ≡ property_at b a s
    unfolding property_at trimmed
    property-same = rw (name_same (a.strings + word_at b (s.at + 8)) (omega arith))

    -- and the tokens are the same
    pub step_trimmed : step_at b (trimmed b a) s ≡ step_at b a s
    unfolding step_at begin_at final_at trimmed
    step_trimmed = rw property-same
