-- The blob of a description is read as that description: each piece of its structure is read, where the header says.
use mathlib.Core.Path.{◌≡◌, refl, sym, ap, subst, ◌∙◌}
use mathlib.Core.Logic.{◌↔◌}
use mathlib.Core.List.{List, [], ◌∷◌, ◌++◌, map}
use mathlib.Core.Option.{some, some-injective}
use Prim.Native.Nat.{ℕ, ◌+◌, ◌<◌, ◌^◌}
use native.Mathlib.Omega.{arith}
use lib.ListN.{length}
use Rattle.fdt_strings.specs.Entries.{joined}
use Rattle.fdt_strings.proofs.Entries.{no_entry, PlainNames}
use Rattle.fdt_format.specs.declared.Areas.{Areas}
use Rattle.fdt_format.specs.Description.{Nodes, Reservation, Description}
use Rattle.fdt_format.specs.Events.{Event, events, nodes_of}
use Rattle.fdt_header.specs.Header.{structure_start}
use Rattle.fdt_format.specs.Reading.{areas_of, described, reading}
use Rattle.fdt_format.specs.Walk.{walk_start}
use Rattle.fdt_format.specs.Blob.{names_of, event_bytes, structure_bytes, events_size, blob_around, blob_from, blob_of, AllPlain, AllReservable, WellFormed}
use Rattle.fdt_format.specs.Blanks.{Piece, token, events_of, piece_bytes, pieces_bytes}
use Rattle.fdt_format.proofs.Around.{structure_held, length-around, areas_around, areas_around_lem, read-around}
use Rattle.fdt_format.proofs.HeaderRead.{areas_from}
use Rattle.fdt_format.proofs.Nodes.{nodes-events, accepted-events}
use Rattle.fdt_format.proofs.Strings.{AllHas, names-plain, names_have}
use Rattle.fdt_format.proofs.Structure.{structure-size}
use Rattle.fdt_format.proofs.Written.{Chain, Laid, laid_read, nodes-read}

-- ---- a blob with pieces that describe nodes, and the strings of names

module _
    (rs : List Reservation) (boot : ℕ) (names : List (List ℕ)) (ps : List Piece) (f : Nodes) (describe : events_of ps ≡ events f [])
    (structure : List ℕ) (bytes : pieces_bytes names ps ≡ structure) (small : length (blob_around rs boot structure (joined names)) < 2 ^ 32)
    (boots : boot < 2 ^ 32) (plain : PlainNames names) (p : AllPlain (events_of ps)) (h : AllHas names (events_of ps))
  where
    -- the blob
    abbrev blob : List ℕ
    blob = blob_around rs boot structure (joined names)

    -- its areas
    abbrev areas : Areas
    areas = areas_around rs boot structure (joined names)

    chain : Chain blob areas names (walk_start areas) ps
    unfolding areas_around areas_from
    chain =
        let laid : Laid blob areas names ps = record {
          small = small;
          multiple = omega arith;
          structure_ends = rw bytes;
          strings_begin = refl;
          strings_end = refl;
          held = rw bytes (structure_held rs boot structure (joined names));
        }
        in laid_read blob areas names ps laid plain (rw describe (accepted-events f)) p h

    -- each piece is read, in the areas that the header names
    pieces_read : Chain blob (areas_of blob) names (walk_start (areas_of blob)) ps
    pieces_read = subst (λ (a : Areas). Chain blob a names (walk_start a) ps) (sym (areas_around_lem rs boot structure (joined names) boots small)) chain

    -- and the blob is read as the nodes
    pub pieces_described : AllReservable rs → reading blob ≡ some (record { reservations = rs; boot = boot; nodes = f })
    unfolding described
    pieces_described t =
        read-around rs boot structure (joined names) boots small t
        ∙ ap (described boot (some rs)) (nodes-read blob areas names ps chain ∙ ap nodes_of describe ∙ nodes-events f)

-- ---- events alone

pub tokens_events : (es : List Event) → events_of (map token es) ≡ es
unfolding events_of
tokens_events [] = refl
tokens_events (e ∷ es) = ap (λ (l : List Event). e ∷ l) (tokens_events es)

pub tokens_bytes : (names : List (List ℕ)) (es : List Event) → pieces_bytes names (map token es) ≡ structure_bytes names es
unfolding pieces_bytes piece_bytes structure_bytes
tokens_bytes names [] = refl
tokens_bytes names (e ∷ es) = ap (λ (l : List ℕ). event_bytes names e ++ l) (tokens_bytes names es)

-- how long the blob of events is
pub length_from : (rs : List Reservation) (boot : ℕ) (es : List Event) → length (blob_from rs boot es) ≡ structure_start (length rs) + length (structure_bytes (names_of es) es) + 4 + length (joined (names_of es))
unfolding blob_from
length_from rs boot es = length-around rs boot (structure_bytes (names_of es) es) (joined (names_of es))

module _ (d : Description) (w : WellFormed d) where
  -- the events of the description
  abbrev es : List Event
  es = events d.nodes []

  -- where the structure and the strings of its blob begin
  pub structure-from : (areas_of (blob_of d)).structure ≡ structure_start (length d.reservations)
  unfolding blob_of blob_from areas_around areas_from
  structure-from = ap (λ (a : Areas). a.structure) (areas_around_lem d.reservations d.boot (structure_bytes (names_of es) es) (joined (names_of es)) w.boot w.size)

  pub strings-from : (areas_of (blob_of d)).strings ≡ structure_start (length d.reservations) + events_size es + 4
  unfolding blob_of blob_from areas_around areas_from
  strings-from =
      ap (λ (a : Areas). a.strings) (areas_around_lem d.reservations d.boot (structure_bytes (names_of es) es) (joined (names_of es)) w.boot w.size)
      ∙ ap (λ (n : ℕ). structure_start (length d.reservations) + n + 4) (structure-size (names_of es) es)

  -- each event is read
  pub events-read : let a : Areas = areas_of (blob_of d) in Chain (blob_of d) a (names_of es) (walk_start a) (map token es)
  unfolding blob_of blob_from names_of
  events-read =
      let is = tokens_events es in
      pieces_read d.reservations d.boot (names_of es) (map token es) d.nodes is _ (tokens_bytes (names_of es) es) w.size w.boot
      (names-plain es w.names no_entry) (rw is w.names) (rw is (names_have [] es))

-- the blob of a description is read as the description
pub read-blob : (d : Description) → WellFormed d → reading (blob_of d) ≡ some d
unfolding blob_of blob_from names_of
read-blob d w =
    let is = tokens_events (es d w) in
    pieces_described d.reservations d.boot (names_of (es d w)) (map token (es d w)) d.nodes is _ (tokens_bytes (names_of (es d w)) (es d w)) w.size w.boot
    (names-plain (es d w) w.names no_entry) (rw is w.names) (rw is (names_have [] (es d w))) w.reservable

-- two descriptions have the same blob exactly when they are the same
pub same-blob : (d e : Description) → WellFormed d → WellFormed e → (blob_of d ≡ blob_of e) ↔ (d ≡ e)
same-blob d e v w = (λ h. some-injective d e (sym (read-blob d v) ∙ ap reading h ∙ read-blob e w), ap blob_of)
