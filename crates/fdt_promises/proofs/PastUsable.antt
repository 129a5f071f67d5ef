-- No call reads past the usable length: with the same usable parts it answers the same and leaves the same usable parts.
use mathlib.Core.Path.{◌≡◌, refl, ap, subst, ◌∙◌}
use mathlib.Core.Bool.{Bool, true, false, cond, ◌&&◌}
use mathlib.Core.List.{List, [], ◌∷◌, ◌++◌}
use Prim.Native.Nat.{ℕ, ◌+◌, ◌≤◌}
use native.Mathlib.Omega.{arith}
use borrow.Author.Tests.{eqb-true, leb-true}
use lib.Dec.{eqb, leb}
use lib.ListN.{length, take}
use lib.Seq.{length-take-le}
use Rattle.fdt_bytes.specs.Splice.{splice}
use Rattle.fdt_bytes.proofs.Splice.{length-splice}
use Rattle.std.specs.Prelude.{Result, Ok, Err}
use Rattle.fdt_strings.specs.declared.Interned.{Interned}
use Rattle.fdt_strings.specs.declared.StringRoom.{StringRoom}
use Rattle.fdt_strings.specs.declared.Interned.TheVariants as place
use Rattle.fdt_strings.specs.Entries.{entry}
use Rattle.fdt_strings.specs.Interned.{interned}
use Rattle.fdt_strings.proofs.Places.{new-placed}
use Rattle.fdt_values.specs.Value.{Value, value_bytes, misfit_value, zero_value}
use Rattle.fdt_names.specs.Names.{one_of}
use Rattle.fdt_record.specs.declared.Error.TheVariants.{Misfit, DuplicatePhandle, PhandleRoom}
use Rattle.fdt_record.specs.declared.Outcome.{Outcome}
use Rattle.fdt_record.specs.declared.Record.{Record}
use Rattle.fdt_record.specs.Answers.{Answer, accepts, upon}
use Rattle.fdt_record.specs.Limits.{blob_ceiling, strings_ceiling, phandles_ceiling, usable}
use Rattle.fdt_record.specs.Misfits.{misfit_room, misfit_phandles}
use Rattle.fdt_record.specs.Rows.{Row, ◌⇒◌, first}
use Rattle.fdt_record.specs.Tests.{alone_rows, blob_rows, strings_rows}
use Rattle.fdt_record.proofs.Answers.{accepts-done, upon-same}
use Rattle.fdt_record.proofs.Fits.{usable-within, FitBlob, FitStrings, fit_phandles}
use Rattle.fdt_record.proofs.Rows.{ByName, by_name, exactly, append-same}
use Rattle.fdt_properties.specs.Property.{place_of, is_known, place_offset, is_repeated, stored, written, state_rows, name_rows, place_rows, property_rows, property_answer, property_record, property, property_blob, property_strings}
use Rattle.fdt_properties.proofs.Property.{first_fits, PropertyFits, property-fits}
use Rattle.fdt_header.specs.Header.{header_size, header_bytes}
use Rattle.fdt_format.specs.Tokens.{begin_bytes, property_bytes, end_bytes, final_bytes}
use Rattle.fdt_header.proofs.HeaderBytes.{length-header}
use Rattle.fdt_format.proofs.LookBack.{look_same}
use Rattle.fdt_format.proofs.Tokens.{length-end, length_final}
use Rattle.fdt_opening.specs.Opening.{opening_rows, opening_answer, opened_record, opening_bytes, opening, opening_blob}
use Rattle.fdt_opening.proofs.Opening.{opened-fits, length-opening_bytes}
use Rattle.fdt_nodes.specs.declared.FdtWriterNode.{FdtWriterNode}
use Rattle.fdt_nodes.specs.Begin.{begin_rows, begin_answer, begin, begin_blob}
use Rattle.fdt_nodes.specs.End.{end_rows, end_answer, end, end_blob}
use Rattle.fdt_nodes.proofs.Begin.{begin-fits}
use Rattle.fdt_nodes.proofs.End.{end_fits}
use Rattle.fdt_phandles.specs.Phandle.{phandle_name, phandle_value, record_rows, record_answer, recorded, phandle, phandle_blob, phandle_strings, phandle_table}
use Rattle.fdt_phandles.proofs.Phandles.{record_fits}
use Rattle.fdt_finish.specs.Finish.{used_strings, finish_rows, finish_answer, finished_blob, finish, finish_blob}
use Rattle.fdt_finish.proofs.Finishing.{finish-fits}
use Rattle.fdt_finish.specs.Boot.{boot}
use Rattle.fdt_finish.specs.Shown.{showable, shown}
use Rattle.fdt_calls.specs.Calls.{Request, to_open, to_boot, to_begin, to_end, to_have, to_mark, to_finish, to_show, Desk, answer, after}
use Rattle.fdt_calls.specs.Called.{shown_part}
use Rattle.fdt_promises.specs.Effects.{SameUsable, Alike}
use Rattle.fdt_promises.proofs.Usable.{same_length, same_front, same-splice, same_set, same_misfit_blob, same_misfit_strings, same-upon}

-- A blob with the same usable part.
module _ (xs ys : List ℕ) (same : SameUsable blob_ceiling xs ys) where
  -- opening, over strings and phandles of the same usable lengths
  module _ (s t p q : ℕ) (numbers : List ℕ) (h : usable strings_ceiling s ≡ usable strings_ceiling t) (k : usable phandles_ceiling p ≡ usable phandles_ceiling q) where
    same-opening : opening_answer (length xs) s p numbers ≡ opening_answer (length ys) t q numbers
    unfolding opening_answer opening_rows opened_record
    same-opening = simp (same_length blob_ceiling xs ys same, h, k)

    usable-opening : (opening (length xs) s p numbers ≡ opening (length ys) t q numbers) × SameUsable blob_ceiling (opening_blob xs s p numbers) (opening_blob ys t q numbers)
    unfolding opening opening_blob opened_record
    usable-opening = (
      simp (same-opening, same_length blob_ceiling xs ys same, h, k),
      same-upon blob_ceiling same-opening xs ys _ _ same
          (λ e.
          let f = opened-fits (length xs) s p numbers (accepts-done (opening_answer (length xs) s p numbers) e) in
          same-splice blob_ceiling 0 (opening_bytes numbers) xs ys same (omega (arith, f.even, f.started, length-opening_bytes numbers))),
    )

  same-begin : (w : Record) (name : List ℕ) → begin_answer w (length xs) name ≡ begin_answer w (length ys) name
  unfolding begin_answer begin_rows blob_rows
  same-begin w name = simp (same_misfit_blob w xs ys same)

  usable-begin : (w : Record) (name : List ℕ) → (begin w xs name ≡ begin w ys name) × SameUsable blob_ceiling (begin_blob w xs name) (begin_blob w ys name)
  unfolding begin begin_blob
  usable-begin w name = (
    simp (same-begin w name),
    same-upon blob_ceiling (same-begin w name) xs ys _ _ same
        (λ e.
        let f = begin-fits w (length xs) name (accepts-done (begin_answer w (length xs) name) e) in
        same-splice blob_ceiling w.blob_used (begin_bytes name) xs ys same (omega (arith, f.blob.room, f.room))),
  )

  same_end : (w : Record) (handle : ℕ) → end_answer w (length xs) handle ≡ end_answer w (length ys) handle
  unfolding end_answer end_rows blob_rows
  same_end w handle = simp (same_misfit_blob w xs ys same)

  usable-end : (w : Record) (handle : ℕ) → (end w xs handle ≡ end w ys handle) × SameUsable blob_ceiling (end_blob w xs handle) (end_blob w ys handle)
  unfolding end end_blob
  usable-end w handle = (
    simp (same_end w handle),
    same-upon blob_ceiling (same_end w handle) xs ys _ _ same
        (λ e.
        let f = end_fits w (length xs) handle (accepts-done (end_answer w (length xs) handle) e) in
        same-splice blob_ceiling w.blob_used end_bytes xs ys same (omega (arith, f.blob.room, f.room, length-end))),
  )

  -- what is shown
  usable-show : (w : Record) → shown w xs ≡ shown w ys
  unfolding shown showable
  usable-show w =
      let u = usable blob_ceiling (length xs) in
      let n = same_length blob_ceiling xs ys same in
      go w.finished (eqb u w.blob_room) (leb w.blob_used w.blob_room) refl refl
      ∙ ap (λ (k : ℕ). cond (w.finished && (eqb k w.blob_room && leb w.blob_used w.blob_room)) (take w.blob_used ys) []) n
    where
      go : (a b c : Bool) → eqb (usable blob_ceiling (length xs)) w.blob_room ≡ b → leb w.blob_used w.blob_room ≡ c → cond (a && (b && c)) (take w.blob_used xs) [] ≡ cond (a && (b && c)) (take w.blob_used ys) []
      go true true true e f =
          same_front blob_ceiling w.blob_used xs ys same (omega (arith, eqb-true (usable blob_ceiling (length xs)) w.blob_room e, leb-true w.blob_used w.blob_room f))
      go true true false e f = refl
      go true false c e f = refl
      go false b c e f = refl

  -- Strings with the same usable part.
  module _ (ss ts : List ℕ) (alike : SameUsable strings_ceiling ss ts) where
    same-finish : (w : Record) → finish_answer w (length xs) ss ≡ finish_answer w (length ys) ts
    unfolding finish_answer finish_rows strings_rows blob_rows
    same-finish w = simp (same_misfit_blob w xs ys same, same_misfit_strings w ss ts alike)

    -- the used strings are the same, if the record fits them
    same-used : (w : Record) → FitStrings w ss → take w.strings_used ss ≡ take w.strings_used ts
    same-used w f = same_front strings_ceiling w.strings_used ss ts alike (omega (arith, f.room, f.used))

    usable-finish : (w : Record) → (finish w (length xs) ss ≡ finish w (length ys) ts) × SameUsable blob_ceiling (finish_blob w xs ss) (finish_blob w ys ts)
    unfolding finish finish_blob finished_blob used_strings finish_rows strings_rows blob_rows alone_rows
    usable-finish w = (
      simp (same-finish w),
      same-upon blob_ceiling (same-finish w) xs ys _ _ same
          (λ e.
          let done = accepts-done (finish_answer w (length xs) ss) e in
          let f = finish-fits w (length xs) ss done in
          let used = w.blob_used in
          let final = final_bytes (take w.strings_used ss) in
          let l : length final ≡ 4 + w.strings_used = length_final (take w.strings_used ss) ∙ ap (λ (k : ℕ). 4 + k) (length-take-le w.strings_used ss f.stored) in
          let middle : SameUsable blob_ceiling (splice used final xs) (splice used (final_bytes (take w.strings_used ts)) ys) =
          subst (λ (s : List ℕ). SameUsable blob_ceiling (splice used final xs) (splice used (final_bytes s) ys)) (same-used w f.names)
          (same-splice blob_ceiling used final xs ys same (omega (arith, l, f.blob.room, f.room)))
          in
          let k : usable blob_ceiling (length (splice used final xs)) ≡ usable blob_ceiling (length xs) = ap (usable blob_ceiling) (length-splice used final xs (omega (arith, l, f.room, f.within))) in
          let h : length (header_bytes w.reservations (used + 4) w.strings_used w.boot_cpuid_phys) ≡ header_size = length-header w.reservations (used + 4) w.strings_used w.boot_cpuid_phys in
          same-splice blob_ceiling 0 (header_bytes w.reservations (used + 4) w.strings_used w.boot_cpuid_phys) (splice used final xs) (splice used (final_bytes (take w.strings_used ts)) ys) middle
          (omega (arith, k, h, f.blob.room, f.started, f.room))),
    )

    module _ (w : Record) (name : List ℕ) (v : Value) where
      first_rows : (lent : ℕ) (strings : List ℕ) → List Row
      first_rows lent strings = state_rows w lent strings (misfit_value v) (zero_value v) ++ name_rows name

      same-state : first (first_rows (length xs) ss) ≡ first (first_rows (length ys) ts)
      unfolding state_rows strings_rows blob_rows first_rows
      same-state = simp (same_misfit_blob w xs ys same, same_misfit_strings w ss ts alike)

      same_place : FitStrings w ss → place_of w ss name ≡ place_of w ts name
      unfolding place_of
      same_place f = ap (λ (s : List ℕ). interned s w.strings_room name) (same-used w f)

      -- the look back reads within the used blob
      same_repeated : FitBlob w (length xs) → FitStrings w ss → is_repeated w xs (place_of w ss name) ≡ is_repeated w ys (place_of w ts name)
      unfolding is_repeated
      same_repeated f g =
          let front = same_front blob_ceiling w.blob_used xs ys same (omega (arith, f.room, f.used)) in
          let room : w.blob_used ≤ length ys = omega (arith, (usable-within blob_ceiling (length ys)).0, same_length blob_ceiling xs ys same, f.room, f.used) in
          let p = place_of w ss name in
          ap (λ (t : Bool). is_known p && t) (look_same xs ys w.blob_used front (omega (arith, f.used, f.within)) room (place_offset p) w.node_start)
          ∙ ap (is_repeated w ys) (same_place g)

      same_places : FitBlob w (length xs) → FitStrings w ss → first (place_rows w xs ss name v) ≡ first (place_rows w ys ts name v)
      unfolding place_rows property_record written
      same_places f g = rw (same_repeated f g, same_place g)

      same-property : property_answer w xs ss name v ≡ property_answer w ys ts name v
      unfolding property_answer property_rows first_rows
      same-property =
          append-same (first_rows (length xs) ss) (first_rows (length ys) ts) (place_rows w xs ss name v) (place_rows w ys ts name v)
          same-state
          (λ e. let f = first_fits w (length xs) ss name (misfit_value v) (zero_value v) (accepts-done _ e) in same_places f.blob_fits f.names)

      -- equal if the call is accepted, so equal
      accepted-same : {A : Type 0} (x x' y : A) → (accepts (property_answer w xs ss name v) ≡ true → x ≡ x') → upon (property_answer w xs ss name v) x y ≡ upon (property_answer w ys ts name v) x' y
      accepted-same {A} x x' y f = upon-same (property_answer w xs ss name v) x x' y f ∙ ap (λ (a : Answer). upon a x' y) same-property

      fits : accepts (property_answer w xs ss name v) ≡ true → PropertyFits w xs ss name v
      fits e = property-fits w xs ss name v (accepts-done (property_answer w xs ss name v) e)

      -- a new name goes within the usable strings
      within : FitStrings w ss → (p : Result Interned StringRoom) → place_of w ss name ≡ p → SameUsable strings_ceiling (stored p name ss) (stored p name ts)
      unfolding stored place_of
      within f (Ok (place.Known offset)) e = alike
      within f (Ok (place.New offset)) e =
          let s = new-placed (take w.strings_used ss) name w.strings_room offset e in
          same-splice strings_ceiling offset (entry name) ss ts alike (omega (arith, s.fits, f.room))
      within f (Err full) e = alike

      usable-property :
          (property w xs ss name v ≡ property w ys ts name v)
          × SameUsable blob_ceiling (property_blob w xs ss name v) (property_blob w ys ts name v)
          × SameUsable strings_ceiling (property_strings w xs ss name v) (property_strings w ys ts name v)
      unfolding property property_blob property_strings property_record written
      usable-property = (
        ap (λ (r : Record). record { answer = property_answer w xs ss name v; after = r })
            (accepted-same (property_record w ss name v) (property_record w ts name v) w (λ e. simp (same_place (fits e).names)))
            ∙ ap (λ (a : Answer). record { answer = a; after = upon (property_answer w ys ts name v) (property_record w ts name v) w }) same-property,
        same-upon blob_ceiling same-property xs ys _ _ same
            (λ e.
            let f = fits e in
            subst (λ (p : Result Interned StringRoom). SameUsable blob_ceiling (splice w.blob_used (property_bytes (place_offset (place_of w ss name)) (value_bytes v)) xs) (splice w.blob_used (property_bytes (place_offset p) (value_bytes v)) ys)) (same_place f.names)
            (same-splice blob_ceiling w.blob_used (property_bytes (place_offset (place_of w ss name)) (value_bytes v)) xs ys same (omega (arith, f.blob_fits.room, f.room)))),
        same-upon strings_ceiling same-property ss ts _ _ alike
            (λ e.
            let f = fits e in
            subst (λ (p : Result Interned StringRoom). SameUsable strings_ceiling (stored (place_of w ss name) name ss) (stored p name ts)) (same_place f.names)
            (within f.names (place_of w ss name) refl)),
      )

    -- Phandles with the same usable part.
    module _ (ps qs : List ℕ) (akin : SameUsable phandles_ceiling ps qs) (w : Record) (value : ℕ) where
      same-phandles : misfit_phandles w (length ps) ≡ misfit_phandles w (length qs)
      unfolding misfit_phandles misfit_room
      same-phandles = simp (same_length phandles_ceiling ps qs akin)

      same_known : misfit_phandles w (length ps) ≡ false → one_of (take w.phandles_used ps) value ≡ one_of (take w.phandles_used qs) value
      same_known e =
          let f = fit_phandles w (length ps) e in
          ap (λ (l : List ℕ). one_of l value) (same_front phandles_ceiling w.phandles_used ps qs akin (omega (arith, f.room, f.used)))

      -- the first tests, with the table's misfit
      first_tests : (lent : ℕ) (strings table : List ℕ) → List Row
      first_tests lent strings table = strings_rows w lent strings ++ (misfit_phandles w (length table) ⇒ Misfit) ∷ []

      same_first : first (first_tests (length xs) ss ps) ≡ first (first_tests (length ys) ts qs)
      unfolding first_tests strings_rows blob_rows
      same_first = simp (same_misfit_blob w xs ys same, same_misfit_strings w ss ts alike, same-phandles)

      phandles_fit : accepts (first (first_tests (length xs) ss ps)) ≡ true → misfit_phandles w (length ps) ≡ false
      unfolding first_tests strings_rows blob_rows alone_rows ByName
      phandles_fit e =
          let rows = first_tests (length xs) ss ps in
          by_name rows ((exactly rows).accepted.0 (accepts-done (first rows) e)) (λ unfinished figures blob stored misfit. misfit)

      -- the tests of the table
      table_tests : List ℕ → List Row
      table_tests table =
          (one_of (take w.phandles_used table) value ⇒ DuplicatePhandle) ∷ (leb w.phandles_room w.phandles_used ⇒ PhandleRoom) ∷ []

      same_table : misfit_phandles w (length ps) ≡ false → first (table_tests ps) ≡ first (table_tests qs)
      unfolding table_tests
      same_table e = simp (same_known e)

      same_record : record_answer w (length xs) ss ps value ≡ record_answer w (length ys) ts qs value
      unfolding record_answer record_rows first_tests table_tests strings_rows blob_rows alone_rows
      same_record =
          append-same (first_tests (length xs) ss ps) (first_tests (length ys) ts qs) (table_tests ps) (table_tests qs)
          same_first (λ e. same_table (phandles_fit e))

      usable-phandle :
          (phandle w xs ss ps value ≡ phandle w ys ts qs value)
          × SameUsable blob_ceiling (phandle_blob w xs ss ps value) (phandle_blob w ys ts qs value)
          × SameUsable strings_ceiling (phandle_strings w xs ss ps value) (phandle_strings w ys ts qs value)
          × SameUsable phandles_ceiling (phandle_table w (length xs) ss ps value) (phandle_table w (length ys) ts qs value)
      unfolding phandle phandle_blob phandle_strings phandle_table
      usable-phandle =
          let u = usable-property (recorded w) phandle_name (phandle_value value) in (
            simp (same_record, u.0),
            same-upon blob_ceiling same_record xs ys _ _ same (λ e. u.1),
            same-upon strings_ceiling same_record ss ts _ _ alike (λ e. u.2),
            same-upon phandles_ceiling same_record ps qs _ _ akin
                (λ e.
                let f = record_fits w (length xs) ss ps value (accepts-done (record_answer w (length xs) ss ps value) e) in
                same_set phandles_ceiling w.phandles_used value ps qs akin (omega (arith, f.phandles.room, f.room))),
          )

-- ---- every call

-- desks that are alike, with one record
module _ (w : Record) (xs ys ss ts ps qs : List ℕ) (b : SameUsable blob_ceiling xs ys) (n : SameUsable strings_ceiling ss ts) (p : SameUsable phandles_ceiling ps qs) where
  one : Desk
  one = record { writer = w; blob = xs; strings = ss; phandles = ps }

  other : Desk
  other = record { writer = w; blob = ys; strings = ts; phandles = qs }

  alike_after : (c : Request) → (answer c one ≡ answer c other) × Alike (after c one) (after c other)
  unfolding answer after one other opening boot begin end property finish
  alike_after (to_open numbers) =
      let u = usable-opening xs ys b (length ss) (length ts) (length ps) (length qs) numbers (same_length strings_ceiling ss ts n) (same_length phandles_ceiling ps qs p) in
      (ap (λ (o : Outcome (Unit {0})). o.answer) u.0, record { writer = ap (λ (o : Outcome (Unit {0})). o.after) u.0; blob = u.1; strings = n; phandles = p })
  alike_after (to_boot m) = (refl, record { writer = refl; blob = b; strings = n; phandles = p })
  alike_after (to_begin name) =
      let u = usable-begin xs ys b w name in
      (same-begin xs ys b w name, record { writer = ap (λ (o : Outcome FdtWriterNode). o.after) u.0; blob = u.1; strings = n; phandles = p })
  alike_after (to_end handle) =
      let u = usable-end xs ys b w handle in
      (ap (λ (o : Outcome (Unit {0})). o.answer) u.0, record { writer = ap (λ (o : Outcome (Unit {0})). o.after) u.0; blob = u.1; strings = n; phandles = p })
  alike_after (to_have name v) =
      let u = usable-property xs ys b ss ts n w name v in
      (ap (λ (o : Outcome (Unit {0})). o.answer) u.0, record { writer = ap (λ (o : Outcome (Unit {0})). o.after) u.0; blob = u.1; strings = u.2; phandles = p })
  alike_after (to_mark value) =
      let u = usable-phandle xs ys b ss ts n ps qs p w value in
      (ap (λ (o : Outcome (Unit {0})). o.answer) u.0, record { writer = ap (λ (o : Outcome (Unit {0})). o.after) u.0; blob = u.1; strings = u.2; phandles = u.3 })
  alike_after to_finish =
      let u = usable-finish xs ys b ss ts n w in
      (ap (λ (o : Outcome (Unit {0})). o.answer) u.0, record { writer = ap (λ (o : Outcome (Unit {0})). o.after) u.0; blob = u.1; strings = n; phandles = p })
  alike_after to_show = (refl, record { writer = refl; blob = b; strings = n; phandles = p })

module _ (s t : Desk) (a : Alike s t) where
  -- the second desk, with the first one's record
  near : Desk
  near = record { writer = s.writer; blob = t.blob; strings = t.strings; phandles = t.phandles }

  same_writer : near ≡ t
  unfolding near
  same_writer = ap (λ (w : Record). record { writer = w; blob = t.blob; strings = t.strings; phandles = t.phandles }) a.writer

  pub past-usable : (c : Request) → (answer c s ≡ answer c t) × Alike (after c s) (after c t)
  unfolding near one other
  past-usable c =
      subst (λ (d : Desk). (answer c s ≡ answer c d) × Alike (after c s) (after c d)) same_writer
      (alike_after s.writer s.blob t.blob s.strings t.strings s.phandles t.phandles a.blob a.strings a.phandles c)

  pub shown-usable : shown_part s ≡ shown_part t
  shown-usable = usable-show s.blob t.blob a.blob s.writer ∙ ap (λ (w : Record). shown w t.blob) a.writer
