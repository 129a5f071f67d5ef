-- Words 4 describe nothing. Put before tokens they leave the description as it is; put over tokens they leave what the others describe.
use mathlib.Core.Path.{◌≡◌, refl, sym, ap, ◌∙◌}
use mathlib.Core.List.{List, [], ◌∷◌, ◌++◌, append_assoc, map}
use mathlib.Core.Option.{some}
use Prim.Native.Nat.{ℕ, zero, suc, ◌+◌, ◌*◌, ◌/◌, ◌%◌, ◌<◌, ◌^◌}
use native.Mathlib.Omega.{arith}
use lib.ListN.{length, length-append, replicate, length-replicate}
use Rattle.fdt_bytes.specs.BigEndian.{big_endian, cell_bytes}
use Rattle.fdt_bytes.specs.Splice.{splice}
use Rattle.fdt_bytes.proofs.BigEndian.{length-cells}
use Rattle.fdt_strings.specs.Entries.{joined}
use Rattle.fdt_strings.proofs.Entries.{no_entry, PlainNames}
use Rattle.fdt_header.specs.Header.{structure_start}
use Rattle.fdt_format.specs.Blanks.{Piece, token, blank, events_of, piece_bytes, pieces_bytes, spaced_blob, words_four}
use Rattle.fdt_format.specs.Blob.{names_of, structure_bytes, events_size, blob_around, blob_from, blob_of, AllPlain, WellFormed}
use Rattle.fdt_format.specs.Description.{◌≔◌, Nodes, Description}
use Rattle.fdt_format.specs.Events.{Event, begins, has, ends, events}
use Rattle.fdt_format.specs.Reading.{reading}
use Rattle.fdt_format.specs.Tokens.{skip_token}
use Rattle.fdt_format.proofs.Around.{length-around, splice-around}
use Rattle.fdt_format.proofs.ReadBack.{length_from, pieces_described, tokens_events, tokens_bytes}
use Rattle.fdt_format.proofs.Strings.{AllHas, names-plain, names_have}
use Rattle.fdt_format.proofs.Structure.{structure-size, structure-append}
use Rattle.fdt_format.proofs.TokensRead.{size_multiple}

-- ---- words 4 between tokens

-- a description is read, wherever words 4 are among its tokens, and whatever other names the strings have
pub read_spaced : (d : Description) (names : List (List ℕ)) (ps : List Piece) → WellFormed d → events_of ps ≡ events d.nodes [] → PlainNames names → AllHas names (events_of ps)
    → length (spaced_blob d names ps) < 2 ^ 32 → reading (spaced_blob d names ps) ≡ some d
unfolding spaced_blob
read_spaced d names ps w is plain h size = pieces_described d.reservations d.boot names ps d.nodes is _ refl size w.boot plain (rw is w.names) h w.reservable

-- ---- what holds of events holds without some in the middle

plain_out : (before out after : List Event) → AllPlain (before ++ (out ++ after)) → AllPlain (before ++ after)
unfolding AllPlain
plain_out [] [] after p = p
plain_out [] (e ∷ out) after p = plain_out [] out after p.1
plain_out (e ∷ before) out after p = (p.0, plain_out before out after p.1)

pub has_out : (names : List (List ℕ)) (before out after : List Event) → AllHas names (before ++ (out ++ after)) → AllHas names (before ++ after)
unfolding AllHas
has_out names [] [] after h = h
has_out names [] (begins name ∷ out) after h = has_out names [] out after h
has_out names [] (has (name ≔ value) ∷ out) after h = has_out names [] out after h.1
has_out names [] (ends ∷ out) after h = has_out names [] out after h
has_out names (begins name ∷ before) out after h = has_out names before out after h
has_out names (has (name ≔ value) ∷ before) out after h = (h.0, has_out names before out after h.1)
has_out names (ends ∷ before) out after h = has_out names before out after h

-- ---- words 4 over tokens

pieces_append : (names : List (List ℕ)) (ps qs : List Piece) → pieces_bytes names (ps ++ qs) ≡ pieces_bytes names ps ++ pieces_bytes names qs
unfolding pieces_bytes
pieces_append names [] qs = refl
pieces_append names (p ∷ ps) qs = rw (pieces_append names ps qs) (sym (append_assoc (piece_bytes names p) (pieces_bytes names ps) (pieces_bytes names qs)))

tokens_front : (es : List Event) (ps : List Piece) → events_of (map token es ++ ps) ≡ es ++ events_of ps
unfolding events_of
tokens_front [] ps = refl
tokens_front (e ∷ es) ps = ap (λ (l : List Event). e ∷ l) (tokens_front es ps)

blanks_bytes : (names : List (List ℕ)) (n : ℕ) → pieces_bytes names (replicate n blank) ≡ words_four n
unfolding pieces_bytes piece_bytes words_four cell_bytes
blanks_bytes names zero = refl
blanks_bytes names (suc n) = ap (λ (l : List ℕ). big_endian 4 skip_token ++ l) (blanks_bytes names n)

blanks_front : (n : ℕ) (ps : List Piece) → events_of (replicate n blank ++ ps) ≡ events_of ps
unfolding events_of
blanks_front zero ps = refl
blanks_front (suc n) ps = blanks_front n ps

length_words : (n : ℕ) → length (words_four n) ≡ 4 * n
unfolding words_four
length_words n = length-cells 4 (replicate n skip_token) ∙ ap (λ (k : ℕ). 4 * k) (length-replicate n skip_token)

sizes_multiple : (es : List Event) → events_size es % 4 ≡ 0
unfolding events_size
sizes_multiple [] = refl
sizes_multiple (e ∷ es) = omega (arith, size_multiple e, sizes_multiple es)

module _
    (d : Description) (w : WellFormed d) (left : Nodes) (before out after : List Event)
    (all : events d.nodes [] ≡ before ++ (out ++ after)) (rest : events left [] ≡ before ++ after)
  where
    -- all events, their names, and the words over those that are out
    abbrev es : List Event
    es = before ++ (out ++ after)

    abbrev names : List (List ℕ)
    names = names_of es

    abbrev words : List ℕ
    words = words_four (events_size out / 4)

    abbrev pieces : List Piece
    pieces = map token before ++ (replicate (events_size out / 4) blank ++ map token after)

    words_fit : length words ≡ length (structure_bytes names out)
    words_fit = omega (arith, length_words (events_size out / 4), structure-size names out, sizes_multiple out)

    structure_is : structure_bytes names es ≡ structure_bytes names before ++ (structure_bytes names out ++ structure_bytes names after)
    structure_is = structure-append names before (out ++ after) ∙ ap (λ (l : List ℕ). structure_bytes names before ++ l) (structure-append names out after)

    pieces_are : pieces_bytes names pieces ≡ structure_bytes names before ++ (words ++ structure_bytes names after)
    pieces_are =
        pieces_append names (map token before) (replicate (events_size out / 4) blank ++ map token after)
        ∙ rw (pieces_append names (replicate (events_size out / 4) blank) (map token after), tokens_bytes names before, tokens_bytes names after, blanks_bytes names (events_size out / 4))

    overwritten : splice (structure_start (length d.reservations) + events_size before) words (blob_of d) ≡ blob_around d.reservations d.boot (pieces_bytes names pieces) (joined names)
    unfolding blob_of blob_from
    overwritten =
        let at = structure_start (length d.reservations) + events_size before in
        let blob : List ℕ → List ℕ = λ structure. blob_around d.reservations d.boot structure (joined names) in
        ap (λ (l : List Event). splice at words (blob_from d.reservations d.boot l)) all
        ∙ ap (λ (l : List ℕ). splice at words (blob l)) structure_is
        ∙ splice-around d.reservations d.boot (joined names) at (structure_bytes names before) (structure_bytes names out) (structure_bytes names after) words
        (ap (λ (n : ℕ). structure_start (length d.reservations) + n) (structure-size names before)) words_fit
        ∙ ap blob (sym pieces_are)

    describes : events_of pieces ≡ before ++ after
    describes =
        tokens_front before _
        ∙ ap (λ (l : List Event). before ++ l) (blanks_front (events_size out / 4) (map token after) ∙ tokens_events after)

    fits : length (blob_around d.reservations d.boot (pieces_bytes names pieces) (joined names)) < 2 ^ 32
    unfolding blob_of
    fits =
        let now = length-around d.reservations d.boot (pieces_bytes names pieces) (joined names) in
        let size : length (pieces_bytes names pieces) ≡ length (structure_bytes names es) = rw (pieces_are, structure_is) (simp length-append (omega (arith, words_fit))) in
        let small : length (blob_from d.reservations d.boot es) < 2 ^ 32 = rw (← all) w.size in
        omega (arith, now, size, small, length_from d.reservations d.boot es)

    -- what is left is read, if it is the events of nodes
    pub read_overwritten : reading (splice (structure_start (length d.reservations) + events_size before) words (blob_of d)) ≡ some (record { reservations = d.reservations; boot = d.boot; nodes = left })
    unfolding names_of
    read_overwritten =
        let plain : AllPlain es = rw (← all) w.names in
        rw overwritten
        (pieces_described d.reservations d.boot names pieces left (describes ∙ sym rest) _ refl fits w.boot
        (names-plain es plain no_entry) (rw describes (plain_out before out after plain)) (rw describes (has_out names before out after (names_have [] es))) w.reservable)
