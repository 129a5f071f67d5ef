-- The bytes of an event are read back: the step at its state is its entry, the entry means the event, and the state after it is known.
use mathlib.Core.Path.{◌≡◌, refl, ap, ◌∙◌}
use mathlib.Core.Bool.{Bool, true, false}
use mathlib.Core.List.{List, [], ◌∷◌}
use Prim.Native.Nat.{ℕ, ◌+◌, ◌-◌, ◌%◌, ◌≤◌, ◌<◌, ◌^◌}
use native.Mathlib.Omega.{arith}
use borrow.Author.Tests.{lt-leb, le-ltb, eq-eqb, ne_eqb}
use lib.ListN.{length}
use Rattle.fdt_bytes.specs.BigEndian.{big_endian, word_at, cell_bytes}
use Rattle.fdt_bytes.specs.Padding.{padding, round_up, zeros, padded}
use Rattle.fdt_bytes.proofs.BigEndian.{length-big_endian, length-cells}
use Rattle.fdt_strings.specs.Entries.{entry, NoZero}
use Rattle.fdt_format.specs.declared.Areas.{Areas}
use Rattle.fdt_format.specs.declared.Entry.{Entry}
use Rattle.fdt_format.specs.declared.State.{State}
use Rattle.fdt_format.specs.declared.Step.TheVariants as step
use Rattle.fdt_format.specs.Description.{◌≔◌}
use Rattle.fdt_format.specs.Events.{Event, begins, has, ends}
use Rattle.fdt_format.specs.Tokens.{begin_token, end_token, property_token, skip_token, final_token, begin_bytes, property_bytes, end_bytes, final_bytes}
use Rattle.fdt_format.specs.Step.{zero_from, begin_at, property_at, end_at, past, final_at, step_at}
use Rattle.fdt_format.specs.Reading.{event_at}
use Rattle.fdt_format.specs.Blob.{offset_of, event_size}
use Rattle.fdt_format.specs.Blanks.{Piece, token, blank}
use Rattle.fdt_format.proofs.Named.{zero_found, name_read}
use Rattle.fdt_format.proofs.Steps.{is_whole, event_begins, event_ends, event_has, step_skip}
use Rattle.fdt_format.proofs.Words.{BytesAt, bytes_left, bytes-right, bytes_take, bytes-fits, number_at_lem, cell_at}

-- ---- what each event makes of a state

-- how many nodes are open after it
unfoldable pub depth_after : ℕ → Event → ℕ
depth_after depth (begins name) = depth + 1
depth_after depth (has p) = depth
depth_after depth ends = depth - 1

-- whether a property may come after it
unfoldable pub takes_after : Event → Bool
takes_after (begins name) = true
takes_after (has p) = true
takes_after ends = false

-- the state after it
unfoldable pub state_after : State → Event → State
state_after s e = record { at = s.at + event_size e; depth = depth_after s.depth e; takes_property = takes_after e }

-- every event takes a multiple of 4 bytes
pub size_multiple : (e : Event) → event_size e % 4 ≡ 0
unfolding event_size round_up padding
size_multiple (begins name) = omega arith
size_multiple (has (name ≔ value)) = omega arith
size_multiple ends = refl

-- rounding up from a multiple of 4
round_from : (at n : ℕ) → at % 4 ≡ 0 → round_up 4 (at + 4 + n + 1) ≡ at + (4 + round_up 4 (n + 1))
unfolding round_up padding
round_from at n m = omega arith

-- a word that was written is read
pub word_at_lem : {b : List ℕ} {at : ℕ} (v : ℕ) → BytesAt b at (big_endian 4 v) → v < 2 ^ 32 → word_at b at ≡ v
word_at_lem v h l = number_at_lem 4 v h (omega arith)

-- ---- the entries of pieces

module _ (a : Areas) (names : List (List ℕ)) where
  -- the entry of an event at a state
  unfoldable pub entry_of : State → Event → Entry
  entry_of s (begins name) = record { token = begin_token; place = s.at; name = s.at + 4; size = 0 }
  entry_of s (has (name ≔ value)) = record { token = property_token; place = s.at; name = a.strings + offset_of names name; size = length value }
  entry_of s ends = record { token = end_token; place = s.at; name = 0; size = 0 }

  -- the entries of pieces from a state on
  unfoldable pub entries_of : State → List Piece → List Entry
  entries_of s [] = []
  entries_of s (token e ∷ ps) = entry_of s e ∷ entries_of (state_after s e) ps
  entries_of s (blank ∷ ps) = entries_of (past s) ps

-- ---- a token is read as its event

-- an event is read at a state: the step is its entry, and the entry means the event
pub record Read (b : List ℕ) (a : Areas) (names : List (List ℕ)) (s : State) (e : Event) : Type 0 where
  pub step : step_at b a s ≡ step.Entry (entry_of a names s e) (state_after s e)
  pub event_is : event_at b (entry_of a names s e) ≡ e

-- states at the same place
same_place : {t : Entry} {depth : ℕ} {room : Bool} {i j : ℕ} → i ≡ j → step.Entry t (record { at = i; depth = depth; takes_property = room }) ≡ step.Entry t (record { at = j; depth = depth; takes_property = room })
same_place e = rw e

-- a name is in the strings of a blob
pub record Named (b : List ℕ) (a : Areas) (names : List (List ℕ)) (name : List ℕ) : Type 0 where
  pub plain : NoZero name
  pub held : BytesAt b (a.strings + offset_of names name) (entry name)
  pub within : offset_of names name + length name + 1 ≤ a.strings_end - a.strings

module _ (b : List ℕ) (a : Areas) (names : List (List ℕ)) (s : State) where
  pub begin-read : (name : List ℕ) → s.at % 4 ≡ 0 → BytesAt b s.at (begin_bytes name) → s.at + event_size (begins name) ≤ a.structure_end → NoZero name → Read b a names s (begins name)
  unfolding begin_bytes padded entry step_at begin_at entry_of state_after depth_after takes_after event_size round_up
  begin-read name m h le z =
      let w : word_at b s.at ≡ begin_token = word_at_lem 1 (bytes_left (big_endian 4 1) (padded 4 (entry name)) h) (omega arith) in
      let n : BytesAt b (s.at + 4) (entry name) =
      bytes_left (entry name) (zeros (padding 4 (length (entry name)))) (bytes-right (big_endian 4 1) (padded 4 (entry name)) h (s.at + 4) (ap (λ (k : ℕ). s.at + k) (length-big_endian 4 1)))
      in
      let f : zero_from b (a.structure_end - (s.at + 4)) (s.at + 4) ≡ s.at + 4 + length name = zero_found a.structure_end z n (omega arith) in
      let t₁ : 4 ≤ a.structure_end - s.at = omega arith in
      let t₂ : s.at + 4 + length name < a.structure_end = omega arith in
      let t₃ : round_up 4 (s.at + 4 + length name + 1) ≤ a.structure_end = omega (arith, round_from s.at (length name) m) in
      record {
        step =
            rw (le-ltb _ _ t₁, w, f, lt-leb _ _ t₂, le-ltb _ _ t₃)
            (same_place (round_from s.at (length name) m));
        event_is = event_begins b (entry_of a names s (begins name)) refl ∙ ap begins (name_read z n);
      }

  pub end_read : BytesAt b s.at end_bytes → s.at + event_size ends ≤ a.structure_end → 0 < s.depth → Read b a names s ends
  unfolding end_bytes step_at end_at entry_of state_after depth_after takes_after event_size
  end_read h le d =
      let w : word_at b s.at ≡ end_token = word_at_lem 2 h (omega arith) in
      let t₁ : 4 ≤ a.structure_end - s.at = omega arith in
      record {
        step = rw (le-ltb _ _ t₁, w, ne_eqb s.depth 0 (λ z. omega arith));
        event_is = event_ends b (entry_of a names s ends) refl;
      }

  pub property-read : (name value : List ℕ) → length b < 2 ^ 32 → BytesAt b s.at (property_bytes (offset_of names name) value) → s.at + event_size (has (name ≔ value)) ≤ a.structure_end → s.takes_property ≡ true → Named b a names name → Read b a names s (has (name ≔ value))
  unfolding property_bytes padded entry step_at property_at entry_of state_after depth_after takes_after event_size
  property-read name value small h le room n =
      let offset = offset_of names name in
      let words : List ℕ = property_token ∷ length value ∷ offset ∷ [] in
      let c : BytesAt b s.at (cell_bytes 4 words) = bytes_left (cell_bytes 4 words) (padded 4 value) h in
      let v : BytesAt b (s.at + 12) value =
      bytes_left value (zeros (padding 4 (length value))) (bytes-right (cell_bytes 4 words) (padded 4 value) h (s.at + 12) (ap (λ (k : ℕ). s.at + k) (length-cells 4 words)))
      in
      let i : length value < 256 ^ 4 = omega (arith, bytes-fits v) in
      let j : offset < 256 ^ 4 = omega (arith, bytes-fits n.held) in
      let w : word_at b s.at ≡ property_token = cell_at 4 words 0 s.at c (omega arith) (omega arith) (omega arith) in
      let w₁ : word_at b (s.at + 4) ≡ length value = cell_at 4 words 1 (s.at + 4) c (omega arith) i (omega arith) in
      let w₂ : word_at b (s.at + 8) ≡ offset = cell_at 4 words 2 (s.at + 8) c (omega arith) j (omega arith) in
      let end = a.strings_end in
      let k : a.strings + offset + length name < end = omega (arith, n.within) in
      let f : zero_from b (end - (a.strings + offset)) (a.strings + offset) ≡ a.strings + offset + length name = zero_found end n.plain n.held k in
      let t₁ : 4 ≤ a.structure_end - s.at = omega arith in
      let whole = is_whole b a.structure_end s.at (record { words = omega arith; token = w; ends = rw w₁ (omega arith) }) in
      record {
        step =
            rw (le-ltb _ _ t₁, w, room, whole, w₁, w₂, f, lt-leb _ _ k);
        event_is = event_has b (entry_of a names s (has (name ≔ value))) refl ∙ rw (name_read n.plain n.held, bytes_take v (length value) refl);
      }

  pub skip_read : BytesAt b s.at (big_endian 4 skip_token) → s.at + 4 ≤ a.structure_end → step_at b a s ≡ step.Skip
  skip_read h le = step_skip b a s le (word_at_lem skip_token h (omega arith))

  pub final_read : (strings : List ℕ) → BytesAt b s.at (final_bytes strings) → s.at + 4 ≡ a.structure_end → s.depth ≡ 0 → step_at b a s ≡ step.Final
  unfolding final_bytes step_at final_at
  final_read strings h le d =
      let w : word_at b s.at ≡ final_token = word_at_lem 9 (bytes_left (big_endian 4 9) strings h) (omega arith) in
      let t₁ : 4 ≤ a.structure_end - s.at = omega arith in
      rw (le-ltb _ _ t₁, w, eq-eqb _ _ d, eq-eqb _ _ le)
