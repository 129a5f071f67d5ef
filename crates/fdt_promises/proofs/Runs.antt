-- What holds after every call of a run, by induction on the calls; after an accepted finish every call is refused.
use mathlib.Core.Path.{◌≡◌, refl, sym, ap, subst, ◌∙◌}
use mathlib.Core.Bool.{Bool, true, false}
use mathlib.Core.List.{List, [], ◌∷◌, ◌++◌, append_assoc, append-nil, foldl}
use Prim.Native.Nat.{ℕ, ◌+◌}
use native.Mathlib.Omega.{arith}
use lib.Dec.{lit<}
use lib.ListN.{length}
use Rattle.fdt_bytes.specs.Padding.{zeros}
use Rattle.fdt_strings.specs.Entries.{joined}
use Rattle.fdt_format.specs.Blob.{names_from, names_of, structure_bytes, events_size, AllPlain}
use Rattle.fdt_format.specs.Events.{Event}
use Rattle.fdt_header.specs.Header.{header_size, structure_start, reservation_bytes}
use Rattle.fdt_record.specs.Answers.{Done, accepts, upon}
use Rattle.fdt_record.specs.Limits.{blob_ceiling, strings_ceiling, phandles_ceiling}
use Rattle.fdt_record.specs.Rows.{first}
use Rattle.fdt_record.specs.Tests.{alone_rows, blob_rows, strings_rows}
use Rattle.fdt_record.proofs.Answers.{accepts-done, upon-done, upon-refused}
use Rattle.fdt_opening.specs.Opening.{count, opening_bytes, opened_record}
use Rattle.fdt_opening.proofs.Opening.{opened-fits, length-opening_bytes}
use Rattle.fdt_nodes.specs.Begin.{begin_rows, begin_answer}
use Rattle.fdt_nodes.specs.End.{end_rows, end_answer}
use Rattle.fdt_properties.specs.Property.{state_rows, property_rows, property_answer}
use Rattle.fdt_phandles.specs.Phandle.{record_rows, record_answer}
use Rattle.fdt_finish.specs.Boot.{boot_answer}
use Rattle.fdt_finish.specs.Finish.{finish_rows, finish_answer}
use Rattle.fdt_calls.specs.Calls.{Request, to_open, to_boot, to_begin, to_end, to_have, to_mark, to_finish, to_show, effect, Desk, answer, after, mark_answer, marked, left_by}
use Rattle.fdt_calls.proofs.Refused.{refused_mark, refused-after}
use Rattle.fdt_promises.specs.Run.{runs, accepted_calls, recorded_by, phandles_of, tells, events_of, boots, depth_of, ended_of, InRun, AllInRun}
use Rattle.fdt_promises.specs.OpenNode.{since_begin}
use Rattle.fdt_promises.proofs.Desks.{opened_after}
use Rattle.fdt_promises.proofs.Growth.{none_filled, more-filled}
use Rattle.fdt_promises.proofs.Held.{Open, accepted_open, refused_open}
use Rattle.fdt_promises.proofs.OpenNode.{Once}

-- ---- the opening

pub opened_open : (s : Desk) (numbers : List ℕ) → answer (to_open numbers) s ≡ Done → Open numbers [] 0 [] (after (to_open numbers) s)
unfolding answer opened_record opening_bytes names_of names_from structure_bytes events_size joined depth_of ended_of since_begin AllPlain Once
opened_open s numbers e =
    let f = opened-fits (length s.blob) _ _ numbers e in
    let bytes = zeros header_size ++ reservation_bytes numbers in
    let start : 0 + length bytes ≡ structure_start (count numbers) = omega (arith, length-opening_bytes numbers, f.even) in
    subst (Open numbers [] 0 []) (sym (opened_after s numbers e)) (record {
      holds = record {
        unfinished = refl;
        blob =
            rw (append-nil (reservation_bytes numbers), ← start)
            (more-filled (none_filled blob_ceiling s.blob) bytes (omega (arith, f.started, start)));
        used = omega arith;
        strings = none_filled strings_ceiling s.strings;
        marks = none_filled phandles_ceiling s.phandles;
        depth = refl;
        ended = refl;
        start = omega arith;
        boot_number = refl;
        reservations = refl;
      };
      few = f.few;
      small = lit< tt;
      shallow = omega arith;
      plain = tt;
      once = tt;
      leads = λ rest a. a;
      nests = λ rest a. a;
    })

-- ---- after a finish

module _ (s : Desk) (f : s.writer.finished ≡ true) where
  -- every call is refused 18, and showing changes nothing
  closed_stays : (c : Request) → InRun (effect c) → after c s ≡ s
  unfolding InRun effect answer left_by after alone_rows blob_rows strings_rows boot_answer begin_answer begin_rows end_answer end_rows property_answer property_rows state_rows record_answer record_rows finish_answer finish_rows first accepts
  closed_stays (to_open numbers) i = absurd i
  closed_stays (to_boot n) i = refused-after s (to_boot n) (simp f)
  closed_stays (to_begin name) i = refused-after s (to_begin name) (simp f)
  closed_stays (to_end handle) i = refused-after s (to_end handle) (simp f)
  closed_stays (to_have name v) i = refused-after s (to_have name v) (simp f)
  closed_stays (to_mark value) i =
      let r : accepts (mark_answer value s) ≡ false = simp f in
      refused-after s (to_mark value) (refused_mark s value r) ∙ upon-refused (mark_answer value s) (marked s value) s r
  closed_stays to_finish i = refused-after s to_finish (simp f)
  closed_stays to_show i = refl

  runs_stay : (cs : List Request) → AllInRun cs → runs cs s ≡ s
  unfolding runs AllInRun
  runs_stay [] i = refl
  runs_stay (c ∷ cs) i = ap (runs cs) (closed_stays c i.0) ∙ runs_stay cs i.1

-- a run that is open after some calls was open before them
open_before : (cs : List Request) → AllInRun cs → (s : Desk) → (runs cs s).writer.finished ≡ false → s.writer.finished ≡ false
open_before cs i s u = go s.writer.finished refl
  where
    go : (b : Bool) → s.writer.finished ≡ b → b ≡ false
    go true f = sym f ∙ ap (λ (d : Desk). d.writer.finished) (sym (runs_stay s f cs i)) ∙ u
    go false f = refl

-- ---- all calls

module _ {numbers : List ℕ} where
  pub runs_open : (cs : List Request) → AllInRun cs → {es : List Event} {boot : ℕ} {marks : List ℕ} {s : Desk} → Open numbers es boot marks s → (runs cs s).writer.finished ≡ false → Open numbers (es ++ events_of (accepted_calls cs s)) (foldl boots boot (accepted_calls cs s)) (marks ++ phandles_of cs s) (runs cs s)
  unfolding runs accepted_calls phandles_of events_of AllInRun
  runs_open [] i {es} {boot} {marks} {s} o u =
      rw (append-nil es, append-nil marks) o
  runs_open (c ∷ cs) i {es} {boot} {marks} {s} o u = go (accepts (answer c s)) refl (λ o'. runs_open cs i.1 o' u) (λ o'. runs_open cs i.1 o' u)
    where
      later : List Request
      later = accepted_calls cs (after c s)

      marked-later : List ℕ
      marked-later = phandles_of cs (after c s)

      go :
          (b : Bool) → accepts (answer c s) ≡ b →
          (Open numbers (es ++ tells c) (boots boot c) (marks ++ recorded_by (effect c) s) (after c s) → Open numbers ((es ++ tells c) ++ events_of later) (foldl boots (boots boot c) later) ((marks ++ recorded_by (effect c) s) ++ marked-later) (runs cs (after c s))) →
          (Open numbers es boot (marks ++ recorded_by (effect c) s) (after c s) → Open numbers (es ++ events_of later) (foldl boots boot later) ((marks ++ recorded_by (effect c) s) ++ marked-later) (runs cs (after c s))) →
          Open numbers (es ++ events_of (upon (answer c s) (c ∷ later) later)) (foldl boots boot (upon (answer c s) (c ∷ later) later)) (marks ++ (recorded_by (effect c) s ++ marked-later)) (runs cs (after c s))
      go true t taken left =
          let d = accepts-done (answer c s) t in
          rw (upon-done (answer c s) (c ∷ later) later d, ← append_assoc es (tells c) (events_of later), ← append_assoc marks (recorded_by (effect c) s) marked-later)
          (taken (accepted_open o c i.0 d (open_before cs i.1 (after c s) u)))
      go false t taken left =
          rw (upon-refused (answer c s) (c ∷ later) later t, ← append_assoc marks (recorded_by (effect c) s) marked-later)
          (left (refused_open o c i.0 t))
