-- Misfit 17 and room 14 (document 01, "When the desk says no"): a record's figures against what is lent.
use Rattle.std.specs.Prelude.{ℕ, ◌-◌, ◌%◌, Bool, not, ◌&&◌, ◌||◌, List, eqb, ltb, length, get_or}
use Rattle.fdt_header.specs.Header.{structure_start}
use Rattle.fdt_record.specs.declared.Record.{Record}
use Rattle.fdt_record.specs.Limits.{blob_ceiling, strings_ceiling, phandles_ceiling, most_reservations, most_depth, usable}

-- recorded depth above 64 or reservations above 64
unfoldable pub misfit_record : Record → Bool
misfit_record w = ltb most_depth w.node_depth || ltb most_reservations w.reservations

-- of any buffer: usable length differs from that at opening, or used is above it
unfoldable pub misfit_room : (ceiling lent room used : ℕ) → Bool
misfit_room ceiling lent room used = not (eqb (usable ceiling lent) room) || ltb room used

-- a place outside the structure: not a multiple of 4, or below 56 + 16 × reservations
unfoldable pub off_structure : (reservations place : ℕ) → Bool
off_structure reservations place = not (eqb (place % 4) 0) || ltb place (structure_start reservations)

-- of the blob: either of these, or used is outside the structure, or where the open node's properties start is outside it or above used
-- (document 02, request 4/14)
unfoldable pub misfit_blob : Record → ℕ → Bool
misfit_blob w lent =
    misfit_room blob_ceiling lent w.blob_room w.blob_used
    || (off_structure w.reservations w.blob_used
    || (off_structure w.reservations w.node_start
    || ltb w.blob_used w.node_start))

-- of the strings: either of these, or used is non-zero with a last used byte other than 0
unfoldable pub misfit_strings : Record → List ℕ → Bool
misfit_strings w strings =
    misfit_room strings_ceiling (length strings) w.strings_room w.strings_used
    || (not (eqb w.strings_used 0) && not (eqb (get_or strings (w.strings_used - 1) 0) 0))

-- of the phandles: either of these
unfoldable pub misfit_phandles : Record → ℕ → Bool
misfit_phandles w lent = misfit_room phandles_ceiling lent w.phandles_room w.phandles_used

-- the used length exceeds the usable length: refusal 14, asked of the record that a call would leave
unfoldable pub overfull : Record → Bool
overfull w = ltb w.blob_room w.blob_used
