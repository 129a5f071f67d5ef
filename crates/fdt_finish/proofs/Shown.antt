-- Laws of showing: the front where each test holds, and an empty part where one fails.
use mathlib.Core.Path.{◌≡◌, ◌∙◌}
use mathlib.Core.Bool.{true, false}
use mathlib.Core.List.{List, []}
use Prim.Native.Nat.{ℕ, ◌≤◌, ◌<◌}
use borrow.Author.Tests.{le-leb, lt-leb, ne_eqb}
use lib.ListN.{length, take}
use Rattle.fdt_record.specs.declared.Record.{Record}
use Rattle.fdt_record.specs.Limits.{blob_ceiling, usable}
use Rattle.fdt_record.proofs.Tests.{usable_is}
use Rattle.fdt_finish.specs.Shown.{showable, shown}

module _ (w : Record) (blob : List ℕ) where
  pub shown-unfinished : w.finished ≡ false → shown w blob ≡ []
  unfolding shown showable
  shown-unfinished f = simp f

  -- the record is marked finished, and r is the usable length
  module _ {r : ℕ} (f : w.finished ≡ true) (e : r ≡ usable blob_ceiling (length blob)) where
    pub shown_misfit : (r ≡ w.blob_room → ⊥) → shown w blob ≡ []
    unfolding shown showable
    shown_misfit n = simp (f, ne_eqb (usable blob_ceiling (length blob)) w.blob_room (λ q. n (e ∙ q)))

    pub shown_above : r ≡ w.blob_room → w.blob_room < w.blob_used → shown w blob ≡ []
    unfolding shown showable
    shown_above i l = simp (f, usable_is blob_ceiling (length blob) w.blob_room e i, lt-leb w.blob_used w.blob_room l)

    pub shown-whole : r ≡ w.blob_room → w.blob_used ≤ w.blob_room → shown w blob ≡ take w.blob_used blob
    unfolding shown showable
    shown-whole i l = simp (f, usable_is blob_ceiling (length blob) w.blob_room e i, le-leb w.blob_used w.blob_room l)
