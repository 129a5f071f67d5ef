-- Laws of the search for a name: what its tests say of the bytes, and how far it has come.
use mathlib.Core.Path.{◌≡◌, refl, sym, ◌∙◌}
use mathlib.Core.Bool.{Bool, true, false}
use mathlib.Core.List.{List, ◌∷◌}
use Prim.Native.Nat.{ℕ, zero, suc, ◌+◌, ◌-◌, ◌≤◌, ◌<◌}
use native.Mathlib.Omega.{arith}
use borrow.Author.Tests.{ltb-true, ltb-false}
use lib.Dec.{ltb}
use lib.ListN.{length, get_or, get_or-eq_default}
use Rattle.fdt_search.specs.Clues.{ClueOf, CluesOf, HasClues, Nowhere}
use Rattle.fdt_search.specs.FirstEntry.{EntryAt, NoEntry}
use Rattle.fdt_search.specs.declared.Clue.{Clue}
use Rattle.fdt_search.specs.declared.Clues.{Clues}

-- what holds below mid, and from mid on below `to`, holds below `to`
below_join : (P : ℕ → Type 0) (mid to : ℕ) → ((k : ℕ) → k < mid → P k) → ((k : ℕ) → mid ≤ k → k < to → P k) → (k : ℕ) → k < to → P k
below_join P mid to low high k h = go (ltb k mid) refl
  where
    go : (t : Bool) → ltb k mid ≡ t → P k
    go true e = low k (ltb-true k mid e)
    go false e = high k (ltb-false k mid e) h

-- ---- entries

module _ (s name : List ℕ) where
  -- an entry after a gap has there the 0 before it, its bytes and the 0 after it
  entry_byte : (gap : ℕ) → EntryAt s name (gap + 1) → (k : ℕ) → k ≤ length name + 1 → get_or s (gap + k) 0 ≡ get_or (0 ∷ name) k 0
  entry_byte gap w zero l = let e : gap + 1 - 1 ≡ gap + 0 = omega arith in rw (← e) (w.begun (omega arith))
  entry_byte gap w (suc k) l = go (ltb k (length name)) refl
    where
      e : gap + suc k ≡ gap + 1 + k
      e = omega arith

      go : (t : Bool) → ltb k (length name) ≡ t → get_or s (gap + suc k) 0 ≡ get_or name k 0
      go true h = rw e (w.bytes k (ltb-true k (length name) h)).same
      go false h =
          let n : k ≡ length name = omega (arith, ltb-false k (length name) h) in
          rw (e, n) (w.ended ∙ sym (get_or-eq_default name 0 (omega arith)))

  entry_clues : (c : Clues) (gap : ℕ) → CluesOf name c → EntryAt s name (gap + 1) → HasClues s c gap
  entry_clues c gap own w =
      let clue : (d : Clue) → ClueOf name d → get_or s (gap + d.at) 0 ≡ d.byte = λ d o. entry_byte gap w d.at o.inside ∙ sym o.right in
      record { first = clue _ own.first; second = clue _ own.second; third = clue _ own.third }

  -- no entry is after gaps that do not have the clues
  pub no_entry_nowhere :
      (c : Clues) (from to : ℕ) → CluesOf name c → NoEntry s name (from + 1) → Nowhere s c from to → NoEntry s name (to + 1)
  no_entry_nowhere c from to own before none = below_join _ (from + 1) (to + 1) before later
    where
      later : (place : ℕ) → from + 1 ≤ place → place < to + 1 → EntryAt s name place → ⊥
      later zero l h w = omega arith
      later (suc gap) l h w = let e : suc gap ≡ gap + 1 = omega arith in none gap (omega arith) (omega arith) (entry_clues c gap own (rw e at w))
