-- The reader reads a finished run: the walk finds an entry for each event, and at most 64 nodes were open at once.
use mathlib.Core.Path.{◌≡◌, refl, sym, ap, subst, ◌∙◌}
use mathlib.Core.List.{List, [], ◌∷◌, append-nil, map}
use Prim.Native.Nat.{ℕ, ◌+◌, ◌/◌, ◌≤◌, ◌<◌}
use native.Mathlib.Omega.{arith}
use lib.ListN.{length}
use Rattle.fdt_bytes.specs.BigEndian.{word_at}
use Rattle.fdt_header.specs.Header.{structure_start}
use Rattle.fdt_format.specs.declared.Areas.{Areas}
use Rattle.fdt_format.specs.declared.Entry.{Entry}
use Rattle.fdt_format.specs.declared.State.{State}
use Rattle.fdt_format.specs.Blob.{names_of, events_size, blob_of}
use Rattle.fdt_format.specs.Blanks.{token}
use Rattle.fdt_format.specs.Description.{◌≔◌}
use Rattle.fdt_format.specs.Events.{Event, begins, has, ends, events}
use Rattle.fdt_format.specs.Reading.{areas_of, event_at}
use Rattle.fdt_format.specs.Tokens.{skip_token}
use Rattle.fdt_format.specs.Walk.{good, walk, walk_start}
use Rattle.fdt_format.proofs.ReadBack.{structure-from, strings-from, tokens_events, events-read}
use Rattle.fdt_format.proofs.TokensRead.{state_after, entry_of, entries_of}
use Rattle.fdt_format.proofs.Written.{Chain, chain_walked, chain_events, chain_plain}
use Rattle.fdt_walk.specs.Depth.{most_open}
use Rattle.fdt_walk.specs.Reached.{Reached}
use Rattle.fdt_walk.proofs.Capped.{Shallow, shallow-nodes}
use Rattle.fdt_walk.proofs.Reached.{none_at_4}
use Rattle.fdt_reader.specs.Reader.{ReadAnswer}
use Rattle.fdt_reader.specs.Numbers.{Describes, short_list}
use Rattle.fdt_reader.specs.Reader.{number_of, filled, Read}
use Rattle.fdt_reader.proofs.Exactly.{number_exactly, accepted-tells, refused-unaltered, refused_valueless}
use Rattle.fdt_record.specs.Limits.{most_depth}
use Rattle.fdt_opening.specs.Opening.{count}
use Rattle.fdt_promises.specs.Run.{Run, events_in, Finishes, blob}
use Rattle.fdt_promises.specs.ReadBack.{entry_at, entries_from, strings_in, entries_in, ReadWhole, RefusedShort, ReadBack}
use Rattle.fdt_promises.proofs.Described.{told_by, run_count, at_end, run_told, run_read}

-- ---- the entries

entry_at_lem : (a : Areas) (names : List (List ℕ)) (s : State) (e : Event) → entry_of a names s e ≡ entry_at names a.strings s.at e
unfolding entry_of entry_at
entry_at_lem a names s (begins name) = refl
entry_at_lem a names s (has (name ≔ value)) = refl
entry_at_lem a names s ends = refl

-- the entries that a walk finds depend only on where it begins and where the strings do
entries_from_lem : (a : Areas) (names : List (List ℕ)) (es : List Event) (s : State) → entries_of a names s (map token es) ≡ entries_from names a.strings s.at es
unfolding entries_of entries_from state_after
entries_from_lem a names [] s = refl
entries_from_lem a names (e ∷ es) s = rw (entry_at_lem a names s e, entries_from_lem a names es (state_after s e))

-- ---- the blob

-- the writer lets as many nodes be open as the reader does
same-depth : most_depth ≡ most_open
same-depth = refl

-- what a walk finds in a blob with n reservations and these events
record Found (n : ℕ) (es : List Event) (b : List ℕ) : Type 0 where
  structure : (areas_of b).structure ≡ structure_start n
  strings : (areas_of b).strings ≡ structure_start n + events_size es + 4
  read : Chain b (areas_of b) (names_of es) (walk_start (areas_of b)) (map token es)

-- a walk finds one list of entries
good-same : {ts us : List Entry} → good ts ≡ good us → ts ≡ us
good-same q = cc

module _ (r : Run) (f : Finishes r) where
  found : Found (count r.numbers) (events_in r) (blob r)
  found =
      let t = run_told r f in
      let d = told_by r t.nodes in
      let x : Found (length d.reservations) (events t.nodes []) (blob_of d) = record {
        structure = structure-from d t.fits;
        strings = strings-from d t.fits;
        read = events-read d t.fits;
      }
      in rw (← run_count r, ← t.events_are, t.bytes) x

  -- the entries that the walk finds are the run's
  entries_are : entries_of (areas_of (blob r)) (names_of (events_in r)) (walk_start (areas_of (blob r))) (map token (events_in r)) ≡ entries_in r
  unfolding walk_start strings_in entries_in
  entries_are = entries_from_lem (areas_of (blob r)) (names_of (events_in r)) (events_in r) (walk_start (areas_of (blob r))) ∙ rw (found.structure, found.strings)

  -- they mean the events
  entries_mean : map (event_at (blob r)) (entries_in r) ≡ events_in r
  entries_mean =
      ap (map (event_at (blob r))) (sym entries_are)
      ∙ chain_events (blob r) (areas_of (blob r)) (names_of (events_in r)) (map token (events_in r)) (walk_start (areas_of (blob r))) found.read
      ∙ tokens_events (events_in r)

  -- no state is at a word 4
  pub none_written : {s : State} → Reached (blob r) (areas_of (blob r)) s → s.at + 4 ≤ (areas_of (blob r)).structure_end → word_at (blob r) s.at ≡ skip_token → ⊥
  none_written = none_at_4 _ _ (chain_plain (blob r) (areas_of (blob r)) (names_of (events_in r)) (events_in r) (walk_start (areas_of (blob r))) found.read)

  -- the walk finds the run's entries
  walked : walk (blob r) (areas_of (blob r)) (walk_start (areas_of (blob r))) ≡ good (entries_in r)
  walked =
      chain_walked (blob r) (areas_of (blob r)) (names_of (events_in r)) (map token (events_in r)) (walk_start (areas_of (blob r))) found.read
      ∙ ap good entries_are

  -- no more nodes are open at once than the reader takes
  shallow : Shallow most_open (events_in r)
  unfolding Shallow
  shallow = subst (λ (k : ℕ). Shallow k (events_in r)) same-depth (subst (Shallow most_depth) (append-nil (events_in r)) ((at_end r f).nests [] tt))

  -- so the reader takes the blob as the run's description
  describes : Describes (blob r) (told_by r (run_told r f).nodes)
  describes =
      let t = run_told r f in
      record { read = run_read r f ∙ t.is; shallow = (shallow-nodes most_open t.nodes).0 (subst (Shallow most_open) (sym t.events_are) shallow) }

  -- ---- a call of the reader

  module _ {before after : List ℕ} {a : ReadAnswer} (call : Read (blob r) before after a) where
    whole-read : length (events_in r) ≤ length before / 4 → ReadWhole r before after a
    whole-read room =
        let n = (run_told r f).events_are in
        let t = accepted-tells call _ describes (rw n room) in
        let same : t.entries ≡ entries_in r = good-same (sym t.walked ∙ walked) in
        record { number = t.number; values = t.values ∙ rw (run_count r, n); list = t.list ∙ ap (filled before) same }

    short-refused : length before / 4 < length (events_in r) → RefusedShort before after a
    short-refused less =
        let e : number_of a ≡ 30 = (number_exactly call 30).1 (short_list describes (rw (run_told r f).events_are less)) in
        let n : number_of a ≡ 0 → ⊥ = λ z. omega arith in
        record { number = e; values = refused_valueless a n; list = refused-unaltered call n }

    pub read_back : ReadBack r before after a
    read_back = record { events_are = entries_mean; with_room = whole-read; too_short = short-refused }
