-- Strings written one after the other: what each turn of such a loop leaves.
use mathlib.Core.Path.{◌≡◌, refl, sym, ap, ◌∙◌}
use mathlib.Core.List.{List, ◌++◌}
use Prim.Native.Nat.{ℕ, ◌+◌, ◌-◌, ◌≤◌, ◌<◌}
use native.Mathlib.Omega.{arith}
use lib.ListN.{length, take, drop, get_or, length-take, length-drop, take-append-drop}
use lib.Seq.{length-take-le}
use Rattle.fdt_bytes.specs.Splice.{over, splice}
use Rattle.fdt_bytes.proofs.Splice.{length-splice, splice-splice}
use Rattle.fdt_strings.specs.Entries.{entry}
use Rattle.fdt_strings.proofs.Entries.{length-entry}
use Rattle.fdt_values.specs.Value.{text_bytes, sum}
use Rattle.fdt_values.proofs.Values.{sum_more, sum-within, texts-more, length-texts-within}

-- the first i strings have been written: the next one starts at `start` among the joined bytes, and goes to `to`
pub record TextsWritten (at : ℕ) (joined lengths before now : List ℕ) (to start i : ℕ) : Type 0 where
  pub within : i ≤ length lengths
  pub starts : start ≡ sum (take i lengths)
  pub goes : to ≡ at + (start + i)
  pub kept : length now ≡ length before
  pub blob_is : now ≡ splice at (text_bytes joined (take i lengths)) before

pub texts-written_none : {at : ℕ} {joined lengths before : List ℕ} → TextsWritten at joined lengths before before at 0 0
unfolding splice over text_bytes sum
texts-written_none {at} {before = before} =
    record { within = omega arith; starts = refl; goes = omega arith; kept = refl; blob_is = sym (take-append-drop at before) }

-- the string at i, from `start` to where the next one starts, with its 0
abbrev pub cut : (joined lengths : List ℕ) (start i : ℕ) → List ℕ
cut joined lengths start i = entry (take (start + get_or lengths i 0 - start) (drop start joined))

module _ {at : ℕ} {joined lengths before now : List ℕ} {to start i : ℕ} (sums : sum lengths ≡ length joined) (room : at + (length joined + length lengths) ≤ length before) (w : TextsWritten at joined lengths before now to start i) (next : i < length lengths) where
  -- the next string ends within the joined bytes
  pub next-within : start + get_or lengths i 0 ≤ length joined
  next-within = omega (arith, sum_more lengths i next, sum-within (i + 1) lengths)

  -- with its 0 it fits
  pub next_fits : to + (get_or lengths i 0 + 1) ≤ length before
  next_fits = omega (arith, next-within)

  pub length-next : length (cut joined lengths start i) ≡ get_or lengths i 0 + 1
  length-next =
      length-entry (take (start + get_or lengths i 0 - start) (drop start joined))
      ∙ simp (length-take, length-drop) (omega (arith, next-within))

  -- how many bytes those before it take
  length-written : length (text_bytes joined (take i lengths)) ≡ start + i
  length-written =
      omega (arith, length-texts-within joined (take i lengths) (omega (arith, sum-within i lengths)), length-take-le i lengths w.within)

  -- the turn that stores it
  pub texts-written-more : {after : List ℕ} → after ≡ splice to (cut joined lengths start i) now → TextsWritten at joined lengths before after (to + (get_or lengths i 0 + 1)) (start + get_or lengths i 0) (i + 1)
  texts-written-more {after} e =
      let n = get_or lengths i 0 in
      let first = text_bytes joined (take i lengths) in
      let one = entry (take n (drop start joined)) in
      let whole : start + n - start ≡ n = omega arith in
      record {
        within = omega arith;
        starts = omega (arith, sum_more lengths i next);
        goes = omega arith;
        kept = ap length e ∙ length-splice to (cut joined lengths start i) now (omega (arith, length-next, next_fits)) ∙ w.kept;
        blob_is =
            e
            ∙ ap (λ (k : ℕ). splice to (entry (take k (drop start joined))) now) whole
            ∙ ap (splice to one) w.blob_is
            ∙ splice-splice at to first one before (omega (arith, length-written)) (omega (arith, next_fits))
            ∙ ap (λ (k : ℕ). splice at (first ++ entry (take n (drop k joined))) before) w.starts
            ∙ ap (λ (l : List ℕ). splice at l before) (texts-more joined lengths i next);
      }
