-- How a blob is read (document 01; document 02, request 3/14; Devicetree Specification v0.4, chapter 5): from any bytes to a description, or none.
use Rattle.std.specs.Prelude.{Bool, ◌&&◌, cond, List, [], ◌∷◌, map, ℕ, zero, suc, ◌+◌, ◌-◌, ◌/◌, ◌%◌, eqb, leb, length, take, drop}
use Rattle.std.proofs.Math.Option.{Option, none, some}
use Rattle.fdt_bytes.specs.BigEndian.{word_at, wide_at}
use Rattle.fdt_format.specs.declared.Areas.{Areas}
use Rattle.fdt_format.specs.declared.Entry.{Entry}
use Rattle.fdt_format.specs.Description.{◌≔◌, Nodes, Reservation, reservation, Description}
use Rattle.fdt_format.specs.Events.{Event, begins, has, ends, nodes_of}
use Rattle.fdt_header.specs.Header.{magic, version, last_compatible, header_size}
use Rattle.fdt_format.specs.Tokens.{begin_token, end_token}
use Rattle.fdt_format.specs.Walk.{Walk, bad, good, walk, walk_start}

-- the areas that the header names, and the boot number
unfoldable pub areas_of : List ℕ → Areas
areas_of b = record {
  reservations = word_at b 16;
  structure = word_at b 8;
  structure_end = word_at b 8 + word_at b 36;
  strings = word_at b 12;
  strings_end = word_at b 12 + word_at b 32;
  boot = word_at b 28;
}

-- length equals total size and is at least 40; magic and versions match
unfoldable pub good_words : List ℕ → Bool
good_words b =
    leb header_size (length b)
    && eqb (word_at b 0) magic
    && eqb (word_at b 4) (length b)
    && eqb (word_at b 20) version
    && eqb (word_at b 24) last_compatible

-- reservations start at a multiple of 8 and the structure at a multiple of 4; structure and strings lie inside a blob of
-- this length (the all-zero pair must do so too, see `read_reservations`)
unfoldable pub good_areas : Areas → ℕ → Bool
good_areas a n =
    eqb (a.reservations % 8) 0
    && eqb (a.structure % 4) 0
    && leb a.structure_end n
    && leb a.strings_end n

-- both the words and the areas are good
unfoldable pub good_header : List ℕ → Bool
good_header b = good_words b && good_areas (areas_of b) (length b)

-- a reservation in front of others
unfoldable pub with_reservation : ℕ → ℕ → Option (List Reservation) → Option (List Reservation)
with_reservation address size none = none
with_reservation address size (some rs) = some (reservation address size ∷ rs)

-- the reservations from a place on, up to the first all-zero pair, which must be one of the next k pairs
unfoldable pub reservations_at : List ℕ → ℕ → ℕ → Option (List Reservation)
reservations_at b zero at = none
reservations_at b (suc k) at =
    cond (eqb (wide_at b at) 0 && eqb (wide_at b (at + 8)) 0) (some [])
    (with_reservation (wide_at b at) (wide_at b (at + 8)) (reservations_at b k (at + 16)))

-- the bytes before the first 0
unfoldable pub until_zero : List ℕ → List ℕ
until_zero [] = []
until_zero (x ∷ xs) = cond (eqb x 0) [] (x ∷ until_zero xs)

-- the name at a place
unfoldable pub name_at : List ℕ → ℕ → List ℕ
name_at b at = until_zero (drop at b)

-- the event of an entry; a value comes after the three words of its property
unfoldable pub event_at : List ℕ → Entry → Event
event_at b t =
    cond (eqb t.token begin_token) (begins (name_at b t.name))
    (cond (eqb t.token end_token) ends
    (has (name_at b t.name ≔ take t.size (drop (t.place + 12) b))))

-- the nodes of a walk
unfoldable pub walk_nodes : List ℕ → Walk → Option Nodes
walk_nodes b (bad r) = none
walk_nodes b (good ts) = nodes_of (map (event_at b) ts)

-- a description, if its reservations and its nodes were read
unfoldable pub described : ℕ → Option (List Reservation) → Option Nodes → Option Description
described boot none nodes = none
described boot (some rs) none = none
described boot (some rs) (some nodes) = some (record { reservations = rs; boot = boot; nodes = nodes })

-- the reservations of a blob: pairs of 16 bytes inside it
unfoldable pub read_reservations : List ℕ → Areas → Option (List Reservation)
read_reservations b a = reservations_at b ((length b - a.reservations) / 16) a.reservations

-- the nodes of a blob
unfoldable pub read_nodes : List ℕ → Areas → Option Nodes
read_nodes b a = walk_nodes b (walk b a (walk_start a))

-- the reading
unfoldable pub reading : List ℕ → Option Description
reading b =
    cond (good_header b) (described (areas_of b).boot (read_reservations b (areas_of b)) (read_nodes b (areas_of b))) none
