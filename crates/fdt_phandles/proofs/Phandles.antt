-- Laws of recording a phandle: one turn of the search, exactly when each answer is given, what passing shows, and where the table changes.
use mathlib.Core.Path.{◌≡◌, refl, ap, ◌∙◌}
use mathlib.Core.Bool.{◌||◌}
use mathlib.Core.List.{List, [], ◌∷◌}
use mathlib.Core.Logic.{◌≢◌}
use Prim.Native.Nat.{ℕ, ◌<◌}
use native.Mathlib.Omega.{arith}
use borrow.Author.Tests.{leb-false}
use lib.Dec.{eqb}
use lib.ListN.{length, get_or, set, length-set}
use lib.Seq.{get_or-set_same, get_or-set_other}
use Rattle.fdt_names.specs.Names.{one_of}
use Rattle.std.proofs.lemmas.Bool.{cond_both}
use Rattle.std.specs.Prelude.{nat_eq}
use Rattle.std.specs.List.{list_any}
use Rattle.fdt_record.specs.declared.Record.{Record}
use Rattle.fdt_record.specs.Answers.{Done, accepts}
use Rattle.fdt_record.specs.Tests.{alone_rows, blob_rows, strings_rows}
use Rattle.fdt_record.proofs.Answers.{upon-done}
use Rattle.fdt_record.proofs.Fits.{FitPhandles, fit_phandles}
use Rattle.fdt_record.proofs.Rows.{ByName, by_name, Exactly, exactly}
use Rattle.fdt_phandles.specs.Phandle.{record_rows, record_answer, phandle_table}

-- the search in the library's words
pub one_of_any : (values : List ℕ) (value : ℕ) → one_of values value ≡ list_any (λ y. nat_eq y value) values
unfolding one_of
one_of_any [] value = refl
one_of_any (one ∷ more) value = ap (λ b. nat_eq one value || b) (one_of_any more value)

-- what holds if a value may be recorded, in a table of this length
pub record RecordFits (w : Record) (entries : ℕ) : Type 0 where
  pub phandles : FitPhandles w entries
  pub room : w.phandles_used < w.phandles_room

module _ (w : Record) (lent : ℕ) (strings table : List ℕ) (value : ℕ) where
  pub record_exactly : Exactly (record_rows w lent strings table value) (record_answer w lent strings table value)
  unfolding record_answer
  record_exactly = exactly (record_rows w lent strings table value)

  pub record_fits : record_answer w lent strings table value ≡ Done → RecordFits w (length table)
  unfolding record_rows strings_rows blob_rows alone_rows ByName
  record_fits e =
      by_name (record_rows w lent strings table value) (record_exactly.accepted.0 e)
      (λ unfinished figures blob stored misfit known full.
      record { phandles = fit_phandles w (length table) misfit; room = leb-false w.phandles_room w.phandles_used full })

  -- a value that was recorded is at the count
  pub table_at_count : record_answer w lent strings table value ≡ Done → get_or (phandle_table w lent strings table value) w.phandles_used 0 ≡ value
  unfolding phandle_table
  table_at_count e =
      let f = record_fits e in
      let n : w.phandles_used < length table = omega (arith, f.room, f.phandles.within) in
      ap (λ (l : List ℕ). get_or l w.phandles_used 0) (upon-done (record_answer w lent strings table value) (set table w.phandles_used value) table e)
      ∙ get_or-set_same table w.phandles_used value 0 n

  -- the table changes only at the count
  pub table_elsewhere : (i : ℕ) → i ≢ w.phandles_used → get_or (phandle_table w lent strings table value) i 0 ≡ get_or table i 0
  unfolding phandle_table
  table_elsewhere i h =
      cond_both (accepts (record_answer w lent strings table value)) (set table w.phandles_used value) table (λ (l : List ℕ). get_or l i 0 ≡ get_or table i 0) (λ t. get_or-set_other table w.phandles_used i value 0 h) (λ t. refl)

  -- its length stays
  pub table_length : length (phandle_table w lent strings table value) ≡ length table
  unfolding phandle_table
  table_length =
      cond_both (accepts (record_answer w lent strings table value)) (set table w.phandles_used value) table (λ (l : List ℕ). length l ≡ length table) (λ t. length-set table w.phandles_used value) (λ t. refl)
