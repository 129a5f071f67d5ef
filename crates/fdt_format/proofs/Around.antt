-- A blob has each part where its header says, and is read as its reservations, its boot number and what its structure is read as.
use mathlib.Core.Path.{◌≡◌, refl, sym, ap, ◌∙◌}
use mathlib.Core.List.{List, [], ◌++◌, append-nil, append_assoc}
use mathlib.Core.Option.{Option, some}
use Prim.Native.Nat.{ℕ, ◌+◌, ◌-◌, ◌/◌, ◌<◌, ◌^◌}
use native.Mathlib.Omega.{arith}
use lib.ListN.{length, length-append}
use lib.Seq.{take_at, drop_at}
use Rattle.fdt_bytes.specs.Splice.{over, splice}
use Rattle.fdt_format.specs.declared.Areas.{Areas}
use Rattle.fdt_format.specs.Description.{Reservation}
use Rattle.fdt_header.specs.Header.{header_size, structure_start, reservation_bytes, header_bytes}
use Rattle.fdt_format.specs.Tokens.{final_bytes}
use Rattle.fdt_format.specs.Reading.{areas_of, described, read_reservations, read_nodes, reading}
use Rattle.fdt_format.specs.Blob.{numbers_of, blob_around, AllReservable}
use Rattle.fdt_header.proofs.HeaderBytes.{length-header}
use Rattle.fdt_format.proofs.HeaderRead.{areas_from, areas_read, header-good}
use Rattle.fdt_format.proofs.ReservationsRead.{length-reservations, reservations-read}
use Rattle.fdt_format.proofs.Tokens.{length_final}
use Rattle.fdt_format.proofs.Words.{BytesAt, bytes_left, bytes-right}

module _ (rs : List Reservation) (boot : ℕ) (structure strings : List ℕ) where
  -- the blob
  abbrev blob : List ℕ
  blob = blob_around rs boot structure strings

  -- where the structure ends and the strings begin
  abbrev strings_start : ℕ
  strings_start = structure_start (length rs) + length structure + 4

  -- the header
  abbrev header : List ℕ
  header = header_bytes (length rs) strings_start (length strings) boot

  -- what follows the reservations
  abbrev behind : List ℕ
  behind = structure ++ final_bytes strings

  -- each part is where the header says
  whole_held : BytesAt blob 0 (header ++ (reservation_bytes (numbers_of rs) ++ behind))
  whole_held = record { before = []; behind = []; split = sym (append-nil _); place = refl }

  rest_held : BytesAt blob header_size (reservation_bytes (numbers_of rs) ++ behind)
  rest_held = bytes-right header (reservation_bytes (numbers_of rs) ++ behind) whole_held header_size (omega (arith, length-header (length rs) strings_start (length strings) boot))

  pub structure_held : BytesAt blob (structure_start (length rs)) behind
  structure_held = bytes-right (reservation_bytes (numbers_of rs)) behind rest_held (structure_start (length rs)) (omega (arith, length-reservations rs))

  -- how long it is
  pub length-around : length blob ≡ strings_start + length strings
  length-around =
      simp length-append
      (omega (arith, length-header (length rs) strings_start (length strings) boot, length-reservations rs, length_final strings))

  -- the areas that its header names
  unfoldable pub areas_around : Areas
  areas_around = areas_from (length rs) strings_start (length strings) boot

  module _ (boots : boot < 2 ^ 32) (small : length blob < 2 ^ 32) where
    header_held : BytesAt blob 0 header
    header_held = bytes_left header (reservation_bytes (numbers_of rs) ++ behind) whole_held

    reserved-read : AllReservable rs → read_reservations blob areas_around ≡ some rs
    unfolding read_reservations areas_from areas_around
    reserved-read t =
        reservations-read blob rs ((length blob - header_size) / 16) header_size t (omega (arith, length-around))
        (bytes_left (reservation_bytes (numbers_of rs)) behind rest_held)

    -- its header names them
    pub areas_around_lem : areas_of blob ≡ areas_around
    unfolding areas_around
    areas_around_lem = areas_read blob (length rs) strings_start (length strings) boot header_held (omega arith) length-around small boots

    -- it is read as its reservations, its boot number and the nodes of its structure
    pub read-around : AllReservable rs → reading blob ≡ described boot (some rs) (read_nodes blob areas_around)
    unfolding reading areas_from areas_around
    read-around t =
        let good = header-good blob (length rs) strings_start (length strings) boot header_held (omega arith) length-around small boots in
        rw good
        (ap (λ (a : Areas). described a.boot (read_reservations blob a) (read_nodes blob a)) areas_around_lem
        ∙ ap (λ (r : Option (List Reservation)). described boot r (read_nodes blob areas_around)) (reserved-read t))

-- ---- bytes over a part of the structure

splice_mid : (at : ℕ) (x m y w : List ℕ) → length x ≡ at → length w ≡ length m → splice at w (x ++ (m ++ y)) ≡ x ++ (w ++ y)
unfolding splice over
splice_mid at x m y w p e = rw (take_at x (m ++ y) at p, drop_at x (m ++ y) at p, drop_at m y (length w) (sym e))

-- overwriting a part of the structure with as many bytes changes that part alone
pub splice-around : (rs : List Reservation) (boot : ℕ) (strings : List ℕ) (at : ℕ) (x m y w : List ℕ) → structure_start (length rs) + length x ≡ at → length w ≡ length m
    → splice at w (blob_around rs boot (x ++ (m ++ y)) strings) ≡ blob_around rs boot (x ++ (w ++ y)) strings
splice-around rs boot strings at x m y w p e =
    let size : length (x ++ (m ++ y)) ≡ length (x ++ (w ++ y)) = simp length-append (omega (arith, e)) in
    let h : List ℕ = header rs boot (x ++ (w ++ y)) strings in
    let front : List ℕ = h ++ (reservation_bytes (numbers_of rs) ++ x) in
    let place : length front ≡ at =
    length-append h (reservation_bytes (numbers_of rs) ++ x)
    ∙ omega (arith, p, length-append (reservation_bytes (numbers_of rs)) x, length-header (length rs) (strings_start rs boot (x ++ (w ++ y)) strings) (length strings) boot, length-reservations rs)
    in
    rw size
    (ap (splice at w) (simp append_assoc)
    ∙ splice_mid at front m (y ++ final_bytes strings) w place e
    ∙ simp append_assoc)
