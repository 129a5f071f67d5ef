-- What follows where a test of misfit 17 fails: the figures are in their bounds.
use mathlib.Core.Path.{◌≡◌, refl}
use mathlib.Core.Bool.{Bool, true, false, not, ◌&&◌, true≢false}
use mathlib.Core.List.{List}
use mathlib.Core.Logic.{◌⊎◌, inl, inr}
use Prim.Native.Nat.{ℕ, ◌-◌, ◌%◌, ◌≤◌}
use native.Mathlib.Omega.{arith}
use borrow.Author.Tests.{eqb-true, ltb-false, not-false}
use lib.Dec.{eqb, ltb}
use lib.ListN.{length, get_or}
use Rattle.fdt_bytes.proofs.Tests.{neither}
use Rattle.fdt_header.specs.Header.{structure_start}
use Rattle.fdt_record.specs.declared.Record.{Record}
use Rattle.fdt_record.specs.Limits.{blob_ceiling, strings_ceiling, phandles_ceiling, most_reservations, most_depth, usable}
use Rattle.fdt_record.specs.Misfits.{misfit_record, misfit_room, off_structure, misfit_blob, misfit_strings, misfit_phandles, overfull}

-- the usable length is within both
pub usable-within : (ceiling lent : ℕ) → (usable ceiling lent ≤ lent) × (usable ceiling lent ≤ ceiling)
unfolding usable
usable-within ceiling lent = (omega arith, omega arith)

pub record FitRecord (w : Record) : Type 0 where
  pub depth : w.node_depth ≤ most_depth
  pub reservations : w.reservations ≤ most_reservations

pub fit_record : (w : Record) → misfit_record w ≡ false → FitRecord w
unfolding misfit_record
fit_record w e =
    let n = neither (ltb most_depth w.node_depth) (ltb most_reservations w.reservations) e in
    record {
      depth = ltb-false most_depth w.node_depth n.0;
      reservations = ltb-false most_reservations w.reservations n.1;
    }

-- of any buffer
pub record FitRoom (ceiling lent opened count : ℕ) : Type 0 where
  pub room : usable ceiling lent ≡ opened
  pub within : opened ≤ lent
  pub small : opened ≤ ceiling
  pub used : count ≤ opened

pub fit_room : (ceiling lent opened count : ℕ) → misfit_room ceiling lent opened count ≡ false → FitRoom ceiling lent opened count
unfolding misfit_room
fit_room ceiling lent opened count e =
    let n = neither (not (eqb (usable ceiling lent) opened)) (ltb opened count) e in
    let r = eqb-true (usable ceiling lent) opened (not-false _ n.0) in
    let u = usable-within ceiling lent in
    record {
      room = r;
      within = omega (arith, r, u.0);
      small = omega (arith, r, u.1);
      used = ltb-false opened count n.1;
    }

pub record FitBlob (w : Record) (lent : ℕ) : Type 0 where
  pub room : usable blob_ceiling lent ≡ w.blob_room
  pub within : w.blob_room ≤ lent
  pub small : w.blob_room ≤ blob_ceiling
  pub used : w.blob_used ≤ w.blob_room
  pub aligned : w.blob_used % 4 ≡ 0
  pub started : structure_start w.reservations ≤ w.blob_used
  pub start : w.node_start ≤ w.blob_used

pub fit_blob : (w : Record) (lent : ℕ) → misfit_blob w lent ≡ false → FitBlob w lent
unfolding misfit_blob off_structure
fit_blob w lent e =
    let n = neither (misfit_room blob_ceiling lent w.blob_room w.blob_used) _ e in
    let k = neither (off_structure w.reservations w.blob_used) _ n.1 in
    let m = neither (not (eqb (w.blob_used % 4) 0)) _ k.0 in
    let l = neither (off_structure w.reservations w.node_start) _ k.1 in
    let r = fit_room blob_ceiling lent w.blob_room w.blob_used n.0 in
    record {
      room = r.room;
      within = r.within;
      small = r.small;
      used = r.used;
      aligned = eqb-true (w.blob_used % 4) 0 (not-false _ m.0);
      started = ltb-false w.blob_used (structure_start w.reservations) m.1;
      start = ltb-false w.blob_used w.node_start l.1;
    }

pub record FitStrings (w : Record) (strings : List ℕ) : Type 0 where
  pub room : usable strings_ceiling (length strings) ≡ w.strings_room
  pub within : w.strings_room ≤ length strings
  pub small : w.strings_room ≤ strings_ceiling
  pub used : w.strings_used ≤ w.strings_room
  pub ended : (w.strings_used ≡ 0) ⊎ (get_or strings (w.strings_used - 1) 0 ≡ 0)

pub fit_strings : (w : Record) (strings : List ℕ) → misfit_strings w strings ≡ false → FitStrings w strings
unfolding misfit_strings
fit_strings w strings e =
    let n = neither (misfit_room strings_ceiling (length strings) w.strings_room w.strings_used) _ e in
    let r = fit_room strings_ceiling (length strings) w.strings_room w.strings_used n.0 in
    record {
      room = r.room;
      within = r.within;
      small = r.small;
      used = r.used;
      ended = go (eqb w.strings_used 0) (eqb (get_or strings (w.strings_used - 1) 0) 0) refl refl n.1;
    }
  where
    go : (a b : Bool) → eqb w.strings_used 0 ≡ a → eqb (get_or strings (w.strings_used - 1) 0) 0 ≡ b → (not a && not b) ≡ false → (w.strings_used ≡ 0) ⊎ (get_or strings (w.strings_used - 1) 0 ≡ 0)
    go true b p q h = inl (eqb-true w.strings_used 0 p)
    go false true p q h = inr (eqb-true (get_or strings (w.strings_used - 1) 0) 0 q)
    go false false p q h = absurd (true≢false h)

abbrev pub FitPhandles : Record → ℕ → Type 0
FitPhandles w lent = FitRoom phandles_ceiling lent w.phandles_room w.phandles_used

pub fit_phandles : (w : Record) (lent : ℕ) → misfit_phandles w lent ≡ false → FitPhandles w lent
unfolding misfit_phandles
fit_phandles w lent = fit_room phandles_ceiling lent w.phandles_room w.phandles_used

-- a record that is not overfull is within its room
pub not_overfull : (w : Record) → overfull w ≡ false → w.blob_used ≤ w.blob_room
unfolding overfull
not_overfull w e = ltb-false w.blob_room w.blob_used e
