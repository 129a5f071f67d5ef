-- What a desk holds while a run is open, after one more call: an accepted call adds its event, a refused call adds nothing.
use mathlib.Core.Path.{◌≡◌, refl, sym, ap, subst, ◌∙◌}
use mathlib.Core.Bool.{Bool, true, false, true≢false}
use mathlib.Core.List.{List, [], ◌∷◌, ◌++◌, append_assoc, append-nil}
use Prim.Native.Nat.{ℕ, ◌+◌, ◌-◌, ◌≤◌, ◌<◌, ◌^◌}
use native.Mathlib.Omega.{arith}
use lib.ListN.{length}
use Rattle.fdt_bytes.specs.Padding.{zeros}
use Rattle.fdt_bytes.specs.Splice.{splice}
use Rattle.fdt_strings.specs.Entries.{joined}
use Rattle.fdt_strings.proofs.Entries.{no_entry}
use Rattle.fdt_values.specs.Value.{Value, value_bytes}
use Rattle.fdt_format.specs.Blob.{names_from, names_of, with_name, offset_of, event_bytes, structure_bytes, event_size, Plain, AllPlain}
use Rattle.fdt_format.specs.Description.{◌≔◌}
use Rattle.fdt_format.specs.Events.{Event, begins, has, ends}
use Rattle.fdt_header.specs.Header.{header_size, reservation_bytes}
use Rattle.fdt_format.specs.Tokens.{begin_bytes, property_bytes, end_bytes}
use Rattle.fdt_format.proofs.Nodes.{Accepted}
use Rattle.fdt_format.proofs.Strings.{names-snoc, names-plain}
use Rattle.fdt_format.proofs.Structure.{structure-snoc, event_size_lem}
use Rattle.fdt_walk.proofs.Capped.{Shallow}
use Rattle.fdt_record.specs.Answers.{Done, accepts, upon}
use Rattle.fdt_record.specs.Limits.{blob_ceiling, strings_ceiling, phandles_ceiling, most_reservations, most_depth}
use Rattle.fdt_record.specs.Fields.{with_used_phandles, with_boot}
use Rattle.fdt_record.proofs.Answers.{accepts-done, upon-done, upon-refused}
use Rattle.fdt_opening.specs.Opening.{count}
use Rattle.fdt_nodes.proofs.Begin.{begin-fits}
use Rattle.fdt_nodes.proofs.End.{end_fits}
use Rattle.fdt_properties.specs.Property.{place_of, written, stored, added}
use Rattle.fdt_properties.proofs.Property.{property-fits}
use Rattle.fdt_phandles.specs.Phandle.{phandle_name, phandle_value, recorded}
use Rattle.fdt_phandles.proofs.Phandles.{record_fits}
use Rattle.fdt_finish.specs.Finish.{finished_record}
use Rattle.fdt_calls.specs.Calls.{Request, to_open, to_boot, to_begin, to_end, to_have, to_mark, to_finish, to_show, Effect, opens, sets_boot, adds, records, no_effect, effect, Desk, with_writer, with_phandles, answer, after, mark_answer, marked, left_by}
use Rattle.fdt_calls.proofs.Refused.{marked-answer, marked-after, refused_mark, refused-after}
use Rattle.fdt_promises.specs.Run.{Filled, Holds, added_by, tells, boot_after, boots, recorded_by, deepens, closes, InRun}
use Rattle.fdt_promises.specs.OpenNode.{none_open, open_in}
use Rattle.fdt_promises.proofs.Desks.{grown, booted_after, begun-after, ended-after, had_after, finished_after}
use Rattle.fdt_promises.proofs.Growth.{more-filled, one-filled, no_zero, named, plain-snoc, size-snoc, depth-snoc, ended-snoc, Follows, still_shallow, still_accepted, still_nested}
use Rattle.fdt_promises.proofs.OpenNode.{start-snoc, Fresh, Once, once_snoc}
use Rattle.fdt_promises.proofs.Repeated.{repeated_exactly}

-- what an open run holds, with what only the proofs need: at most 64 reservations, a boot number of 32 bits, at most 64 open nodes,
-- names without a byte 0, none of them twice in a node, and events that nodes can go on from, with at most 64 of them open at once
pub record Open (numbers : List ℕ) (es : List Event) (boot : ℕ) (marks : List ℕ) (s : Desk) : Type 0 where
  pub holds : Holds numbers es boot marks s
  pub few : count numbers ≤ most_reservations
  pub small : boot < 2 ^ 32
  pub shallow : s.writer.node_depth ≤ most_depth
  pub plain : AllPlain es
  pub once : Once none_open es
  pub leads : (rest : List Event) → Accepted s.writer.node_depth s.writer.node_ended rest → Accepted 0 false (es ++ rest)
  pub nests : (rest : List Event) → Shallow (most_depth - s.writer.node_depth) rest → Shallow most_depth (es ++ rest)

-- ---- one more event

-- what an accepted call shows of its event, its bytes and the strings afterwards
record Growing (es : List Event) (s : Desk) (e : Event) (bytes strings : List ℕ) (names : ℕ) : Type 0 where
  are : bytes ≡ event_bytes (names_of (es ++ (e ∷ []))) e
  room : s.writer.blob_used + length bytes ≤ s.writer.blob_room
  filled : Filled strings_ceiling (joined (names_of (es ++ (e ∷ [])))) s.writer.strings_room names strings
  plain : Plain e
  fresh : Fresh (open_in es) e
  follows : Follows s.writer.node_depth s.writer.node_ended e

module _ {numbers : List ℕ} {es : List Event} {boot : ℕ} {marks : List ℕ} {s : Desk} (o : Open numbers es boot marks s) where
  grown_open : (e : Event) (bytes strings : List ℕ) (names : ℕ) → Growing es s e bytes strings names → Open numbers (es ++ (e ∷ [])) boot marks (grown s e bytes strings names)
  grown_open e bytes strings names a =
      let h = o.holds in
      let w = s.writer in
      let before = structure_bytes (names_of es) es in
      let size : length bytes ≡ event_size e = ap length a.are ∙ event_size_lem (names_of (es ++ (e ∷ []))) e in
      let contents : (zeros header_size ++ (reservation_bytes numbers ++ before)) ++ bytes ≡ zeros header_size ++ (reservation_bytes numbers ++ structure_bytes (names_of (es ++ (e ∷ []))) (es ++ (e ∷ []))) =
      append_assoc (zeros header_size) (reservation_bytes numbers ++ before) bytes
      ∙ ap (λ (l : List ℕ). zeros header_size ++ l)
      (append_assoc (reservation_bytes numbers) before bytes
      ∙ ap (λ (l : List ℕ). reservation_bytes numbers ++ l) (ap (λ (l : List ℕ). before ++ l) a.are ∙ sym (structure-snoc es e)))
      in
      record {
        holds = record {
          unfinished = h.unfinished;
          blob = subst (λ (l : List ℕ). Filled blob_ceiling l w.blob_room (w.blob_used + length bytes) (splice w.blob_used bytes s.blob)) contents (more-filled h.blob bytes a.room);
          used = omega (arith, h.used, size-snoc es e, size);
          strings = a.filled;
          marks = h.marks;
          depth = ap (λ (d : ℕ). deepens d e) h.depth ∙ sym (depth-snoc es e);
          ended = ap (λ (b : Bool). closes b e) h.ended ∙ sym (ended-snoc es e);
          start = start-snoc es e w.blob_used w.node_start (length bytes) h.start size;
          boot_number = h.boot_number;
          reservations = h.reservations;
        };
        few = o.few;
        small = o.small;
        shallow = still_shallow w.node_depth w.node_ended e a.follows o.shallow;
        plain = plain-snoc es e o.plain a.plain;
        once = once_snoc es e o.once a.fresh;
        leads = λ rest r. subst (Accepted 0 false) (sym (append_assoc es (e ∷ []) rest)) (o.leads (e ∷ rest) (still_accepted w.node_depth w.node_ended e rest a.follows r));
        nests = λ rest r. subst (Shallow most_depth) (sym (append_assoc es (e ∷ []) rest)) (o.nests (e ∷ rest) (still_nested w.node_depth w.node_ended e rest a.follows o.shallow r));
      }

  -- an event without a new name leaves the strings as they are
  same_names : (e : Event) → names_from (names_of es) (e ∷ []) ≡ names_of es → Filled strings_ceiling (joined (names_of (es ++ (e ∷ [])))) s.writer.strings_room s.writer.strings_used s.strings
  same_names e q = subst (λ (l : List (List ℕ)). Filled strings_ceiling (joined l) s.writer.strings_room s.writer.strings_used s.strings) (sym (names-snoc es e ∙ q)) o.holds.strings

  begun_open : (name : List ℕ) → answer (to_begin name) s ≡ Done → Open numbers (es ++ (begins name ∷ [])) boot marks (after (to_begin name) s)
  unfolding answer names_from event_bytes Plain Fresh Follows
  begun_open name e =
      let f = begin-fits s.writer (length s.blob) name e in
      subst (Open numbers (es ++ (begins name ∷ [])) boot marks) (sym (begun-after s name e))
      (grown_open (begins name) (begin_bytes name) s.strings s.writer.strings_used (record {
        are = refl;
        room = f.room;
        filled = same_names (begins name) refl;
        plain = no_zero name f.plain;
        fresh = tt;
        follows = f.depth;
      }))

  ended_open : (handle : ℕ) → answer (to_end handle) s ≡ Done → Open numbers (es ++ (ends ∷ [])) boot marks (after (to_end handle) s)
  unfolding answer names_from event_bytes event_size Plain Fresh Follows
  ended_open handle e =
      let f = end_fits s.writer (length s.blob) handle e in
      let size : length end_bytes ≡ 4 = event_size_lem [] ends in
      subst (Open numbers (es ++ (ends ∷ [])) boot marks) (sym (ended-after s handle e))
      (grown_open ends end_bytes s.strings s.writer.strings_used (record {
        are = refl;
        room = omega (arith, f.room, size);
        filled = same_names ends refl;
        plain = tt;
        fresh = tt;
        follows = f.depth;
      }))

  had_open : (name : List ℕ) (v : Value) → answer (to_have name v) s ≡ Done → Open numbers (es ++ (has (name ≔ value_bytes v) ∷ [])) boot marks (after (to_have name v) s)
  unfolding answer written place_of names_from names_of event_bytes event_size Plain Fresh Follows
  had_open name v e =
      let f = property-fits s.writer s.blob s.strings name v e in
      let event = has (name ≔ value_bytes v) in
      let g = named name (names-plain es o.plain no_entry) o.holds.strings f.placed in
      let p = place_of s.writer s.strings name in
      let n : names_of (es ++ (event ∷ [])) ≡ with_name (names_of es) name = names-snoc es event in
      let are : written s.writer s.strings name v ≡ event_bytes (names_of (es ++ (event ∷ []))) event =
      ap (λ (i : ℕ). property_bytes i (value_bytes v)) (g.offset ∙ ap (λ (l : List (List ℕ)). offset_of l name) (sym n)) in
      subst (Open numbers (es ++ (event ∷ [])) boot marks) (sym (had_after s name v e))
      (grown_open event (written s.writer s.strings name v) (stored p name s.strings) (s.writer.strings_used + added p name) (record {
        are = are;
        room = f.room;
        filled = subst (λ (l : List (List ℕ)). Filled strings_ceiling (joined l) s.writer.strings_room (s.writer.strings_used + added p name) (stored p name s.strings)) (sym n) g.filled;
        plain = no_zero name f.plain;
        fresh = λ m. true≢false (sym ((repeated_exactly o.holds o.plain f.unended name).1 m) ∙ f.once);
        follows = (f.inside, f.unended);
      }))

  -- ---- no event

  -- another boot number and other phandles; everything else is as it was
  carried_open : (n count : ℕ) {m : ℕ} {values phandles : List ℕ} → n ≡ m → m < 2 ^ 32 → Filled phandles_ceiling values s.writer.phandles_room count phandles → Open numbers es m values (with_writer (with_boot n (with_used_phandles count s.writer)) (with_phandles phandles s))
  carried_open n count q l f =
      let h = o.holds in
      record {
        holds = record {
          unfinished = h.unfinished;
          blob = h.blob;
          used = h.used;
          strings = h.strings;
          marks = f;
          depth = h.depth;
          ended = h.ended;
          start = h.start;
          boot_number = q;
          reservations = h.reservations;
        };
        few = o.few;
        small = l;
        shallow = o.shallow;
        plain = o.plain;
        once = o.once;
        leads = o.leads;
        nests = o.nests;
      }

  booted_open : (n : ℕ) → n < 2 ^ 32 → answer (to_boot n) s ≡ Done → Open numbers es n marks (after (to_boot n) s)
  booted_open n l e = subst (Open numbers es n marks) (sym (booted_after s n e)) (carried_open n s.writer.phandles_used refl l o.holds.marks)

  -- a phandle's value is recorded
  pub marked_open : (value : ℕ) → mark_answer value s ≡ Done → Open numbers es boot (marks ++ (value ∷ [])) (marked s value)
  unfolding recorded
  marked_open value e =
      let f = record_fits s.writer (length s.blob) s.strings s.phandles value e in
      carried_open s.writer.boot_cpuid_phys (s.writer.phandles_used + 1) o.holds.boot_number o.small (one-filled o.holds.marks value f.room)

-- ---- one more call

-- nothing is recorded
unmarked : {numbers : List ℕ} {es : List Event} {boot : ℕ} {marks : List ℕ} {d : Desk} → Open numbers es boot marks d → Open numbers es boot (marks ++ []) d
unmarked {marks = marks} o = rw (append-nil marks) o

-- no event is added
silent : {numbers : List ℕ} {es : List Event} {boot : ℕ} {marks : List ℕ} {d : Desk} → Open numbers es boot marks d → Open numbers (es ++ []) boot marks d
silent {es = es} o = rw (append-nil es) o

module _ {numbers : List ℕ} {es : List Event} {boot : ℕ} {marks : List ℕ} {s : Desk} (o : Open numbers es boot marks s) where
  -- an accepted phandle: its value is recorded, and then it is a property
  phandle_open : (value : ℕ) → answer (to_mark value) s ≡ Done → Open numbers (es ++ added_by (records value)) boot (marks ++ recorded_by (records value) s) (after (to_mark value) s)
  unfolding added_by recorded_by accepts
  phandle_open value e = go (accepts (mark_answer value s)) refl
    where
      go : (b : Bool) → accepts (mark_answer value s) ≡ b → Open numbers (es ++ added_by (records value)) boot (marks ++ recorded_by (records value) s) (after (to_mark value) s)
      go true t =
          let d = accepts-done (mark_answer value s) t in
          rw (marked-after s value d, upon-done (mark_answer value s) _ _ d)
          (had_open (marked_open o value d) phandle_name (phandle_value value) (sym (marked-answer s value d) ∙ e))
      go false t = absurd (true≢false (ap accepts (sym e) ∙ refused_mark s value t))

  -- what a refused call leaves, by its effect
  left_open : (x : Effect) → InRun x → Open numbers es boot (marks ++ recorded_by x s) (left_by x s)
  unfolding InRun left_by recorded_by
  left_open opens i = absurd i
  left_open (sets_boot n) i = unmarked o
  left_open (adds e) i = unmarked o
  left_open (records value) i = go (accepts (mark_answer value s)) refl
    where
      go : (b : Bool) → accepts (mark_answer value s) ≡ b → Open numbers es boot (marks ++ upon (mark_answer value s) (value ∷ []) []) (upon (mark_answer value s) (marked s value) s)
      go true t = let d = accepts-done (mark_answer value s) t in rw (upon-done (mark_answer value s) (value ∷ []) [] d, upon-done (mark_answer value s) (marked s value) s d) (marked_open o value d)
      go false t = rw (upon-refused (mark_answer value s) (value ∷ []) [] t, upon-refused (mark_answer value s) (marked s value) s t) (unmarked o)
  left_open no_effect i = unmarked o

  pub accepted_open : (c : Request) → InRun (effect c) → answer c s ≡ Done → (after c s).writer.finished ≡ false → Open numbers (es ++ tells c) (boots boot c) (marks ++ recorded_by (effect c) s) (after c s)
  unfolding InRun effect added_by boot_after recorded_by finished_record after
  accepted_open (to_open ns) i e u = absurd i
  accepted_open (to_boot n) i e u = unmarked (silent (booted_open o n i e))
  accepted_open (to_begin name) i e u = unmarked (begun_open o name e)
  accepted_open (to_end handle) i e u = unmarked (ended_open o handle e)
  accepted_open (to_have name v) i e u = unmarked (had_open o name v e)
  accepted_open (to_mark value) i e u = phandle_open value e
  accepted_open to_finish i e u = absurd (true≢false (sym (ap (λ (d : Desk). d.writer.finished) (finished_after s e)) ∙ u))
  accepted_open to_show i e u = unmarked (silent o)

  pub refused_open : (c : Request) → InRun (effect c) → accepts (answer c s) ≡ false → Open numbers es boot (marks ++ recorded_by (effect c) s) (after c s)
  refused_open c i e = subst (Open numbers es boot (marks ++ recorded_by (effect c) s)) (sym (refused-after s c e)) (left_open (effect c) i)
