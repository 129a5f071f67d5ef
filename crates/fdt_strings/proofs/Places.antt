-- Laws of interning: a name is known, it is new and fits, or there is no room; and the strings after it is stored.
use mathlib.Core.Path.{◌≡◌, refl, ap, ◌∙◌}
use mathlib.Core.Bool.{Bool, true, false, cond}
use mathlib.Core.List.{List, [], ◌∷◌}
use Prim.Native.Nat.{ℕ, ◌+◌, ◌-◌, ◌≤◌, ◌<◌}
use native.Mathlib.Omega.{arith}
use borrow.Author.Tests.{le-leb, lt-leb, leb-true}
use borrow.Rule.Slice.PartMut.{put_mid}
use lib.ListN.{length, take, drop, set}
use lib.Dec.{leb}
use Rattle.fdt_bytes.specs.Splice.{over, splice}
use Rattle.fdt_bytes.proofs.Splice.{length-splice, splice-splice, lent, set-splice}
use Rattle.fdt_strings.specs.Entries.{entry, find_string}
use Rattle.fdt_strings.specs.Interned.{new_name, or_else, interned, string_room}
use Rattle.std.specs.Prelude.{Option, Some, None, Ok, Err}
use Rattle.fdt_strings.specs.declared.Interned.TheVariants.{Known, New}
use Rattle.fdt_strings.proofs.Entries.{length-entry}

module _ (used name : List ℕ) (room : ℕ) where
  pub interned_known : (offset : ℕ) → find_string used name ≡ Some offset → interned used room name ≡ Ok (Known offset)
  unfolding interned or_else
  interned_known offset h = simp h

  module _ (h : find_string used name ≡ None) where
    pub interned-new : length used + length name < room → interned used room name ≡ Ok (New (length used))
    unfolding interned or_else new_name
    interned-new k = simp (h, le-leb (length used + length (entry name)) room (omega (arith, length-entry name)))

    pub interned_full : room ≤ length used + length name → interned used room name ≡ Err string_room
    unfolding interned or_else new_name
    interned_full k = simp (h, lt-leb (length used + length (entry name)) room (omega (arith, length-entry name)))

-- what `New` says: the name is not found, and it fits with its 0 at the end of the used strings
pub record NewPlace (used : List ℕ) (room : ℕ) (name : List ℕ) (offset : ℕ) : Type 0 where
  pub absent : find_string used name ≡ None
  pub place : length used ≡ offset
  pub fits : offset + length (entry name) ≤ room

module _ (used name : List ℕ) (room offset : ℕ) where
  pub known_found : interned used room name ≡ Ok (Known offset) → find_string used name ≡ Some offset
  unfolding interned or_else new_name
  known_found h = go (find_string used name) (leb (length used + length (entry name)) room) h
    where
      go : (f : Option ℕ) (z : Bool) → or_else f (cond z (Ok (New (length used))) (Err string_room)) ≡ Ok (Known offset) → f ≡ Some offset
      go (Some i) z h = cc
      go None true h = cc
      go None false h = cc

  pub new-placed : interned used room name ≡ Ok (New offset) → NewPlace used room name offset
  unfolding interned or_else new_name
  new-placed h = go (find_string used name) refl (leb (length used + length (entry name)) room) refl h
    where
      go :
          (f : Option ℕ) → find_string used name ≡ f → (z : Bool) → leb (length used + length (entry name)) room ≡ z →
          or_else f (cond z (Ok (New (length used))) (Err string_room)) ≡ Ok (New offset) → NewPlace used room name offset
      go (Some i) e z k h = let n : ◌≡◌ {A = ℕ} 0 1 = cc in absurd (omega arith)
      go None e true k h =
          let p : length used ≡ offset = cc in
          record { absent = e; place = p; fits = omega (arith, leb-true (length used + length (entry name)) room k) }
      go None e false k h = let n : ◌≡◌ {A = ℕ} 0 1 = cc in absurd (omega arith)

-- the strings after the name was written into the part that was lent, and then its 0
pub stored :
    (offset : ℕ) (name strings part : List ℕ) → offset + length (entry name) ≤ length strings →
    part ≡ over name (take (length strings - offset) (drop offset strings)) →
    set (put_mid offset (length strings - offset) strings part) (offset + length name) 0 ≡ splice offset (entry name) strings
unfolding entry
stored offset name strings part h e =
    let to = offset + length name in
    let k : to < length strings = omega (arith, length-entry name) in
    let inside : to < length (splice offset name strings) = rw (length-splice offset name strings (omega arith)) k in
    ap (λ (l : List ℕ). set l to 0) (lent offset name strings part (omega arith) e) ∙ set-splice to 0 (splice offset name strings) inside
    ∙ splice-splice offset to name (0 ∷ []) strings refl (omega arith)
