-- Laws of values: sums of lengths, how strings with their zeros join, and how many bytes they take.
use mathlib.Core.Path.{◌≡◌, refl, sym, ap, ◌∙◌}
use mathlib.Core.Bool.{false}
use mathlib.Core.List.{List, [], ◌∷◌, ◌++◌, append_assoc, append-nil}
use Prim.Native.Nat.{ℕ, ◌+◌, ◌≤◌, ◌<◌}
use native.Mathlib.Numerals.{add-one}
use native.Mathlib.Omega.{arith}
use borrow.Author.Tests.{ne_eqb, eqb-true, not-false}
use lib.Dec.{eqb}
use lib.ListN.{length, take, drop, get_or, length-append, length-drop, take-append-drop}
use lib.Seq.{length-take-le, take-length, take-suc, drop-drop}
use Rattle.fdt_strings.specs.Entries.{entry}
use Rattle.fdt_strings.proofs.Entries.{length-entry}
use Rattle.fdt_values.specs.Value.{texts, text_bytes, sum, misfit_value}

-- ---- sums

pub sum-append : (ms ns : List ℕ) → sum (ms ++ ns) ≡ sum ms + sum ns
unfolding sum
sum-append [] ns = omega arith
sum-append (m ∷ ms) ns = omega (arith, sum-append ms ns)

-- one number more, at i
pub sum_more : (ns : List ℕ) (i : ℕ) → i < length ns → sum (take (i + 1) ns) ≡ sum (take i ns) + get_or ns i 0
unfolding sum
sum_more ns i h = rw (add-one i, take-suc ns i 0 h) (omega (arith, sum-append (take i ns) (get_or ns i 0 ∷ [])))

-- the first numbers are no more than all of them
pub sum-within : (i : ℕ) (ns : List ℕ) → sum (take i ns) ≤ sum ns
sum-within i ns = omega (arith, sum-append (take i ns) (drop i ns), ap sum (take-append-drop i ns))

-- if it is less than the next number, the total is not the sum
pub too_little : (ns : List ℕ) (i left total : ℕ) → i < length ns → left + sum (take i ns) ≡ total → left < get_or ns i 0 → false ≡ eqb (sum ns) total
too_little ns i left total h e l = sym (ne_eqb (sum ns) total (λ z. omega (arith, sum_more ns i h, sum-within (i + 1) ns)))

-- ---- strings

-- strings, and then more: those start where the first end
pub texts-append : (joined ms ns : List ℕ) → text_bytes joined (ms ++ ns) ≡ text_bytes joined ms ++ text_bytes (drop (sum ms) joined) ns
unfolding text_bytes sum
texts-append joined [] ns = refl
texts-append joined (m ∷ ms) ns = simp (texts-append (drop m joined) ms ns, drop-drop, append_assoc)

-- one string more, at i
pub texts-more : (joined ns : List ℕ) (i : ℕ) → i < length ns → text_bytes joined (take i ns) ++ entry (take (get_or ns i 0) (drop (sum (take i ns)) joined)) ≡ text_bytes joined (take (i + 1) ns)
unfolding text_bytes
texts-more joined ns i h = sym (rw (add-one i, take-suc ns i 0 h) (texts-append joined (take i ns) (get_or ns i 0 ∷ []) ∙ simp append-nil))

-- one string
pub texts-one : (s : List ℕ) → text_bytes s (length s ∷ []) ≡ entry s
unfolding text_bytes
texts-one s = simp (append-nil, take-length)

-- how many bytes strings take that lie within the joined bytes
pub length-texts-within : (joined ns : List ℕ) → sum ns ≤ length joined → length (text_bytes joined ns) ≡ sum ns + length ns
unfolding text_bytes sum
length-texts-within joined [] h = refl
length-texts-within joined (n ∷ ns) h =
    let later = length-texts-within (drop n joined) ns (omega (arith, length-drop n joined)) in
    simp (length-append, length-entry) (omega (arith, length-take-le n joined (omega arith), later))

pub length-texts : (joined ns : List ℕ) → sum ns ≡ length joined → length (text_bytes joined ns) ≡ length joined + length ns
length-texts joined ns e = omega (arith, length-texts-within joined ns (omega arith))

-- ---- values

-- lengths in order sum to their bytes
pub fits-texts : (joined ns : List ℕ) → misfit_value (texts joined ns) ≡ false → sum ns ≡ length joined
unfolding misfit_value
fits-texts joined ns h = eqb-true (sum ns) (length joined) (not-false (eqb (sum ns) (length joined)) h)
