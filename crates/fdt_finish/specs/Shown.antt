-- What the showing call shows (document 01, "The bytes"); it is never refused.
use Rattle.std.specs.Prelude.{Bool, ◌&&◌, cond, List, [], ℕ, eqb, leb, length, take}
use Rattle.fdt_record.specs.declared.Record.{Record}
use Rattle.fdt_record.specs.Limits.{blob_ceiling, usable}

-- the record is marked finished, usable length is that at opening and used is not above it
unfoldable pub showable : Record → ℕ → Bool
showable w lent =
    w.finished && (eqb (usable blob_ceiling lent) w.blob_room && leb w.blob_used w.blob_room)

-- the front of the lent buffer, used length long, if it can be shown; otherwise an empty part
unfoldable pub shown : Record → List ℕ → List ℕ
shown w blob = cond (showable w (length blob)) (take w.blob_used blob) []
