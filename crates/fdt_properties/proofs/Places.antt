-- Laws of a name's place: what the tests of it find, where a new name is stored, and that it fits.
use mathlib.Core.Path.{◌≡◌, refl, ap}
use mathlib.Core.Bool.{Bool, true, false, cond}
use mathlib.Core.List.{List, ◌∷◌}
use Prim.Native.Nat.{ℕ, ◌+◌, ◌≤◌}
use native.Mathlib.Omega.{arith}
use lib.ListN.{length, take}
use lib.Seq.{length-take-le}
use Rattle.std.specs.Prelude.{Result, Ok, Err}
use Rattle.std.specs.Result.{result_or}
use Rattle.fdt_strings.specs.declared.Interned.{Interned}
use Rattle.fdt_strings.specs.declared.Interned.TheVariants.{Known, New}
use Rattle.fdt_strings.specs.declared.StringRoom.{StringRoom}
use Rattle.fdt_strings.specs.Interned.{interned, number_of, values_of}
use Rattle.fdt_strings.proofs.Entries.{found-stands, stands-fits}
use Rattle.fdt_strings.proofs.Places.{known_found, new-placed}
use Rattle.fdt_format.specs.LookBack.{look_back}
use Rattle.fdt_record.specs.declared.Error.{Error}
use Rattle.fdt_record.specs.declared.Error.TheVariants as error
use Rattle.fdt_record.specs.declared.Record.{Record}
use Rattle.fdt_record.specs.Limits.{strings_ceiling}
use Rattle.fdt_record.specs.Rows.{Row, ◌⇒◌, first}
use Rattle.fdt_record.proofs.Fits.{FitStrings}
use Rattle.fdt_properties.specs.Placeholder.{tested_place, NameFits}
use Rattle.fdt_properties.specs.Property.{place_of, is_known, is_full, place_offset, is_repeated, added}

-- what the passed tests of a name's place show
pub record PlacePassed (w : Record) (blob : List ℕ) (p : Result Interned StringRoom) (rows : List Row) (place : Interned) : Type 0 where
  pub place_is : p ≡ Ok place
  pub first_is : first ((is_repeated w blob p ⇒ error.DuplicateProperty) ∷ (is_full p ⇒ error.StringRoom) ∷ rows) ≡ first rows

-- what the tests of a name's place find: a name that has no room is in no property, so 20 and 15 exclude each other
module _ (w : Record) (blob : List ℕ) (rows : List Row) where
  pub place_passed : (p : Result Interned StringRoom) (place : Interned) → tested_place p (is_repeated w blob p) ≡ Ok place → PlacePassed w blob p rows place
  unfolding first is_full number_of
  place_passed (Err full) place h = cc
  place_passed (Ok q) place h = go (is_repeated w blob (Ok q)) refl h
    where
      go : (b : Bool) → is_repeated w blob (Ok q) ≡ b → tested_place (Ok q) b ≡ Ok place → PlacePassed w blob (Ok q) rows place
      go true e h = cc
      go false e h = record { place_is = ap Ok cc; first_is = simp e }

  pub place_refused : (p : Result Interned StringRoom) (e : Error) → tested_place p (is_repeated w blob p) ≡ Err e → first ((is_repeated w blob p ⇒ error.DuplicateProperty) ∷ (is_full p ⇒ error.StringRoom) ∷ rows) ≡ Err e
  unfolding first is_full number_of is_repeated is_known
  place_refused (Err full) e h = cc
  place_refused (Ok q) e h = go (is_repeated w blob (Ok q)) refl h
    where
      go : (b : Bool) → is_repeated w blob (Ok q) ≡ b → tested_place (Ok q) b ≡ Err e → first ((is_repeated w blob (Ok q) ⇒ error.DuplicateProperty) ∷ (false ⇒ error.StringRoom) ∷ rows) ≡ Err e
      go true f h = simp f (cc)
      go false f h = cc

-- where there is no room, the offset is 0
pub offset_none : (full : StringRoom) → place_offset (Err full) ≡ 0
unfolding place_offset values_of
offset_none full = refl

-- a place that has no refusal is the one that was found
pub found_place : (e : Error) {place : Interned} (p : Result Interned StringRoom) → result_or p (Err e) ≡ Ok place → p ≡ Ok place
found_place e (Ok q) h = cc
found_place e (Err full) h = cc

-- a name that is known is in a property if the look back meets its offset
pub known_place : (w : Record) (blob : List ℕ) {p : Result Interned StringRoom} {offset : ℕ} {b : Bool} → p ≡ Ok (Known offset) → b ≡ look_back blob w.blob_used offset w.node_start → tested_place p (is_repeated w blob p) ≡ cond b (Err error.DuplicateProperty) (Ok (Known offset))
unfolding is_repeated is_known place_offset values_of
known_place w blob e f = simp (e, f)

-- the place of a name, known or new, in strings that the record fits
pub record Settled (w : Record) (strings name : List ℕ) (place : Result Interned StringRoom) : Type 0 where
  pub fits : NameFits place name strings
  pub offset : place_offset place ≤ strings_ceiling
  pub used : w.strings_used + added place name ≤ w.strings_room

pub settled : (w : Record) (strings name : List ℕ) → FitStrings w strings → Settled w strings name (place_of w strings name)
unfolding place_of place_offset values_of added
settled w strings name f = go (interned (take w.strings_used strings) w.strings_room name) refl
  where
    n : length (take w.strings_used strings) ≡ w.strings_used
    n = length-take-le w.strings_used strings (omega (arith, f.used, f.within))

    go : (p : Result Interned StringRoom) → interned (take w.strings_used strings) w.strings_room name ≡ p → Settled w strings name p
    go (Ok (Known offset)) q =
        let s = stands-fits (found-stands (take w.strings_used strings) name offset (known_found (take w.strings_used strings) name w.strings_room offset q)) in
        record {
          fits = λ h. absurd (h refl);
          offset = omega (arith, s, n, f.used, f.small);
          used = omega (arith, f.used);
        }
    go (Ok (New offset)) q =
        let s = new-placed (take w.strings_used strings) name w.strings_room offset q in
        record {
          fits = λ h. omega (arith, s.fits, f.within);
          offset = omega (arith, s.fits, f.small);
          used = omega (arith, s.fits, s.place, n);
        }
    go (Err full) q = record { fits = λ h. absurd (h refl); offset = omega arith; used = omega (arith, f.used) }
