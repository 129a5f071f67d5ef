-- A written structure is read back: the walk over the bytes of pieces finds an entry for each event, and skips the words 4; the entries mean the events.
use mathlib.Core.Path.{◌≡◌, refl, sym, ap, subst, ◌∙◌}
use mathlib.Core.Bool.{Bool, true, false, true≢false}
use mathlib.Core.List.{List, [], ◌∷◌, ◌++◌, append_assoc, map}
use Prim.Native.Nat.{ℕ, zero, suc, ◌+◌, ◌%◌, ◌≤◌, ◌<◌, ◌^◌}
use native.Mathlib.Omega.{arith}
use lib.ListN.{length, length-append}
use Rattle.fdt_bytes.specs.BigEndian.{big_endian}
use Rattle.fdt_bytes.proofs.BigEndian.{length-big_endian}
use Rattle.fdt_strings.specs.Entries.{entry, joined}
use Rattle.fdt_strings.proofs.Entries.{Stands, stands-fits, length-entry, PlainNames}
use Rattle.fdt_format.specs.declared.Areas.{Areas}
use Rattle.fdt_format.specs.declared.Entry.{Entry}
use Rattle.fdt_format.specs.declared.State.{State}
use Rattle.fdt_format.specs.declared.Step.TheVariants as step
use Rattle.fdt_format.specs.Description.{◌≔◌}
use Rattle.fdt_format.specs.Events.{Event, begins, has, ends, nodes_of}
use Rattle.fdt_format.specs.Tokens.{skip_token, final_token, final_bytes}
use Rattle.fdt_format.specs.Step.{past, step_at}
use Rattle.fdt_format.specs.Walk.{good, walk, walk_start}
use Rattle.fdt_format.specs.Reading.{event_at, walk_nodes, read_nodes}
use Rattle.fdt_format.specs.Blob.{offset_of, event_bytes, Plain, AllPlain, event_size}
use Rattle.fdt_format.specs.Blanks.{Piece, token, blank, events_of, piece_bytes, pieces_bytes}
use Rattle.fdt_format.proofs.Nodes.{Accepted}
use Rattle.fdt_format.proofs.Strings.{Has, AllHas, has-stands}
use Rattle.fdt_format.proofs.Structure.{event_size_lem}
use Rattle.fdt_format.proofs.TokensRead.{depth_after, takes_after, state_after, size_multiple, entries_of, Read, Named, begin-read, end_read, property-read, skip_read, final_read}
use Rattle.fdt_format.proofs.Walks.{walk_step}
use Rattle.fdt_format.proofs.Words.{BytesAt, bytes_left, bytes-right}

-- names that are found are in the strings of a blob that holds them
module _ (b : List ℕ) (a : Areas) (names : List (List ℕ)) (p : PlainNames names) (h : BytesAt b a.strings (joined names)) (l : a.strings + length (joined names) ≡ a.strings_end) where
  named : (name : List ℕ) → Has names name → Named b a names name
  unfolding entry
  named name f =
      let w : Stands (joined names) name (offset_of names name) = has-stands p name f in
      let q : joined names ≡ w.before ++ (entry name ++ w.behind) = w.split ∙ ap (λ (x : List ℕ). w.before ++ x) (sym (append_assoc name (0 ∷ []) w.behind)) in
      let g : BytesAt b a.strings (w.before ++ (entry name ++ w.behind)) = subst (BytesAt b a.strings) q h in
      record {
        plain = w.plain;
        held = bytes_left (entry name) w.behind (bytes-right w.before (entry name ++ w.behind) g (a.strings + offset_of names name) (ap (λ (k : ℕ). a.strings + k) w.place));
        within = omega (arith, stands-fits w, length-entry name);
      }

-- pieces are at a state: their bytes and the final word are there, and the structure ends after them
pub record Stood (b : List ℕ) (a : Areas) (names : List (List ℕ)) (strings : List ℕ) (s : State) (ps : List Piece) : Type 0 where
  pub multiple : s.at % 4 ≡ 0
  pub ended : s.at + length (pieces_bytes names ps) + 4 ≡ a.structure_end
  pub held : BytesAt b s.at (pieces_bytes names ps ++ final_bytes strings)

module _ {b : List ℕ} {a : Areas} {names : List (List ℕ)} {strings : List ℕ} {s : State} {p : Piece} {ps : List Piece} (h : Stood b a names strings s (p ∷ ps)) where
  rest : BytesAt b s.at (piece_bytes names p ++ (pieces_bytes names ps ++ final_bytes strings))
  unfolding pieces_bytes
  rest = subst (BytesAt b s.at) (append_assoc (piece_bytes names p) (pieces_bytes names ps) (final_bytes strings)) h.held

  first_held : BytesAt b s.at (piece_bytes names p)
  first_held = bytes_left (piece_bytes names p) (pieces_bytes names ps ++ final_bytes strings) rest

  -- with its size, n bytes
  module _ (n : ℕ) (size : length (piece_bytes names p) ≡ n) where
    ended_on : s.at + n + length (pieces_bytes names ps) + 4 ≡ a.structure_end
    unfolding pieces_bytes
    ended_on = omega (arith, size, h.ended, length-append (piece_bytes names p) (pieces_bytes names ps))

    first_fits : s.at + n ≤ a.structure_end
    first_fits = omega (arith, ended_on)

    stood_on : n % 4 ≡ 0 → {s' : State} → s'.at ≡ s.at + n → Stood b a names strings s' ps
    stood_on m e = record {
      multiple = omega (arith, h.multiple, m, e);
      ended = rw e ended_on;
      held = bytes-right (piece_bytes names p) (pieces_bytes names ps ++ final_bytes strings) rest _ (rw size (sym e));
    }

-- the walk from a state on skips no word: entry follows entry, up to the final word
pub data SkipsNone (b : List ℕ) (a : Areas) : State → Type 0 where
  at_final : {s : State} → step_at b a s ≡ step.Final → SkipsNone b a s
  at_entry : {s : State} {t : Entry} {s' : State} → step_at b a s ≡ step.Entry t s' → SkipsNone b a s' → SkipsNone b a s

-- the steps from a state on, piece by piece
module _ (b : List ℕ) (a : Areas) (names : List (List ℕ)) where
  unfoldable pub Chain : State → List Piece → Type 0
  Chain s [] = step_at b a s ≡ step.Final
  Chain s (token e ∷ ps) = Read b a names s e × Chain (state_after s e) ps
  Chain s (blank ∷ ps) = (step_at b a s ≡ step.Skip) × Chain (past s) ps

  -- the walk finds the entries of the pieces
  pub chain_walked : (ps : List Piece) (s : State) → Chain s ps → walk b a s ≡ good (entries_of a names s ps)
  unfolding Chain entries_of
  chain_walked [] s c = walk_step b a s ∙ rw c
  chain_walked (token e ∷ ps) s c = walk_step b a s ∙ rw (c.0.step, chain_walked ps (state_after s e) c.1)
  chain_walked (blank ∷ ps) s c = walk_step b a s ∙ rw (c.0, chain_walked ps (past s) c.1)

  -- the entries mean the events
  pub chain_events : (ps : List Piece) (s : State) → Chain s ps → map (event_at b) (entries_of a names s ps) ≡ events_of ps
  unfolding Chain entries_of events_of
  chain_events [] s c = refl
  chain_events (token e ∷ ps) s c = rw (c.0.event_is, chain_events ps (state_after s e) c.1)
  chain_events (blank ∷ ps) s c = chain_events ps (past s) c.1

  -- without words 4 none is skipped
  pub chain_plain : (es : List Event) (s : State) → Chain s (map token es) → SkipsNone b a s
  unfolding Chain
  chain_plain [] s c = at_final c
  chain_plain (e ∷ es) s c = at_entry c.0.step (chain_plain es (state_after s e) c.1)

-- If a blob holds the strings of plain names, each piece that uses them is read.
module _ (b : List ℕ) (a : Areas) (names : List (List ℕ)) (strings : List ℕ) (small : length b < 2 ^ 32) (every : (name : List ℕ) → Has names name → Named b a names name) where
  -- after an event
  event_on : {s : State} (e : Event) {ps : List Piece} → Stood b a names strings s (token e ∷ ps) → Stood b a names strings (state_after s e) ps
  unfolding state_after piece_bytes
  event_on {s} e h = stood_on h (event_size e) (event_size_lem names e) (size_multiple e) refl

  pub pieces_read :
      (ps : List Piece) (depth : ℕ) (ended : Bool) (s : State) → Accepted depth ended (events_of ps) → s.depth ≡ depth → (ended ≡ false → 0 < depth → s.takes_property ≡ true) →
      AllPlain (events_of ps) → AllHas names (events_of ps) → Stood b a names strings s ps → Chain b a names s ps
  unfolding Accepted AllPlain Plain AllHas event_bytes piece_bytes pieces_bytes events_of state_after depth_after takes_after Chain
  pieces_read [] depth ended s c d r p f h = final_read b a names s strings h.held (omega (arith, h.ended)) (d ∙ c)
  pieces_read (blank ∷ ps) depth ended s c d r p f h =
      (skip_read b a names s (first_held h) (first_fits h 4 (length-big_endian 4 skip_token)), pieces_read ps depth ended (past s) c d r p f (stood_on h 4 (length-big_endian 4 skip_token) refl refl))
  pieces_read (token (begins name) ∷ ps) depth ended s c d r p f h =
      let e = begins name in (
        begin-read b a names s name h.multiple (first_held h) (first_fits h _ (event_size_lem names e)) p.0,
        pieces_read ps (suc depth) false (state_after s e) c (omega arith) (λ _ _. refl) p.1 f (event_on e h),
      )
  pieces_read (token ends ∷ ps) zero ended s c d r p f h = absurd c
  pieces_read (token ends ∷ ps) (suc depth) ended s c d r p f h = (
    end_read b a names s (first_held h) (first_fits h _ (event_size_lem names ends)) (omega arith),
    pieces_read ps depth true (state_after s ends) c (omega arith) (λ q _. absurd (true≢false q)) p.1 f (event_on ends h),
  )
  pieces_read (token (has (name ≔ value)) ∷ ps) zero ended s c d r p f h = absurd c
  pieces_read (token (has (name ≔ value)) ∷ ps) (suc depth) true s c d r p f h = absurd c
  pieces_read (token (has (name ≔ value)) ∷ ps) (suc depth) false s c d r p f h =
      let e = has (name ≔ value) in (
        property-read b a names s name value small (first_held h) (first_fits h _ (event_size_lem names e)) (r refl (omega arith)) (every name f.0),
        pieces_read ps (suc depth) false (state_after s e) c d (λ _ _. refl) p.1 f.1 (event_on e h),
      )

-- a blob with these areas holds the structure of pieces, and then the strings of names
pub record Laid (b : List ℕ) (a : Areas) (names : List (List ℕ)) (ps : List Piece) : Type 0 where
  pub small : length b < 2 ^ 32
  pub multiple : a.structure % 4 ≡ 0
  pub structure_ends : a.structure + length (pieces_bytes names ps) + 4 ≡ a.structure_end
  pub strings_begin : a.strings ≡ a.structure_end
  pub strings_end : a.strings + length (joined names) ≡ a.strings_end
  pub held : BytesAt b a.structure (pieces_bytes names ps ++ final_bytes (joined names))

module _ (b : List ℕ) (a : Areas) (names : List (List ℕ)) (ps : List Piece) (l : Laid b a names ps) where
  strings_held : BytesAt b a.strings (joined names)
  unfolding final_bytes
  strings_held =
      let final = bytes-right (pieces_bytes names ps) (final_bytes (joined names)) l.held (a.structure + length (pieces_bytes names ps)) refl in
      bytes-right (big_endian 4 final_token) (joined names) final a.strings (omega (arith, length-big_endian 4 final_token, l.structure_ends, l.strings_begin))

  -- each piece is read
  pub laid_read : PlainNames names → Accepted 0 false (events_of ps) → AllPlain (events_of ps) → AllHas names (events_of ps) → Chain b a names (walk_start a) ps
  unfolding walk_start
  laid_read plain c p f =
      let every = named b a names plain strings_held l.strings_end in
      let stood : Stood b a names (joined names) (walk_start a) ps = record { multiple = l.multiple; ended = l.structure_ends; held = l.held } in
      pieces_read b a names (joined names) l.small every ps 0 false (walk_start a) c refl (λ _ z. absurd (omega arith)) p f stood

-- the nodes that are read are those of the events
pub nodes-read : (b : List ℕ) (a : Areas) (names : List (List ℕ)) (ps : List Piece) → Chain b a names (walk_start a) ps → read_nodes b a ≡ nodes_of (events_of ps)
unfolding read_nodes walk_nodes
nodes-read b a names ps c = ap (walk_nodes b) (chain_walked b a names ps (walk_start a) c) ∙ ap nodes_of (chain_events b a names ps (walk_start a) c)
