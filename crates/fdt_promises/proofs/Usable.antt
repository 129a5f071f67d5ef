-- Laws of usable parts: the tests of a buffer read only its usable part, and the same splice keeps two usable parts the same.
use mathlib.Core.Path.{◌≡◌, refl, sym, ap, subst, ◌∙◌}
use mathlib.Core.Bool.{Bool, true, false, not, cond, ◌&&◌, ◌||◌}
use mathlib.Core.List.{List, ◌++◌}
use Prim.Native.Nat.{ℕ, ◌+◌, ◌-◌, ◌≤◌, ◌<◌, min}
use native.Mathlib.Decide.{dec_lt}
use native.Mathlib.Omega.{arith}
use borrow.Author.Tests.{lt-ltb, eqb-true, eq-eqb}
use lib.Dec.{eqb, ltb}
use lib.ListN.{length, take, drop, get_or, set, length-drop, length-set}
use lib.Seq.{length-take-le, take-take, take-append-add, get_or-take, take-set-lt}
use Rattle.fdt_bytes.proofs.Splice.{length-splice, drop-take}
use Rattle.fdt_bytes.specs.Splice.{over, splice}
use Rattle.fdt_record.specs.declared.Record.{Record}
use Rattle.fdt_record.specs.Answers.{Answer, accepts, upon}
use Rattle.fdt_record.specs.Limits.{blob_ceiling, strings_ceiling, usable}
use Rattle.fdt_record.specs.Misfits.{misfit_room, misfit_blob, misfit_strings}
use Rattle.fdt_promises.specs.Effects.{SameUsable}

-- the usable part's length
usable-length : (ceiling : ℕ) (xs : List ℕ) → length (take (usable ceiling (length xs)) xs) ≡ usable ceiling (length xs)
unfolding usable
usable-length ceiling xs = length-take-le (min (length xs) ceiling) xs (omega arith)

-- the same usable parts have the same usable length
pub same_length : (ceiling : ℕ) (xs ys : List ℕ) → SameUsable ceiling xs ys → usable ceiling (length xs) ≡ usable ceiling (length ys)
unfolding SameUsable
same_length ceiling xs ys e = sym (usable-length ceiling xs) ∙ ap length e ∙ usable-length ceiling ys

-- and the same bytes up to it
pub same_front : (ceiling n : ℕ) (xs ys : List ℕ) → SameUsable ceiling xs ys → n ≤ usable ceiling (length xs) → take n xs ≡ take n ys
unfolding SameUsable
same_front ceiling n xs ys e h =
    sym (take-take n (usable ceiling (length xs)) xs h) ∙ ap (take n) e
    ∙ take-take n (usable ceiling (length ys)) ys (omega (arith, h, same_length ceiling xs ys e))

-- a splice within the front
pub take-splice : (n at : ℕ) (bs xs : List ℕ) → at + length bs ≤ n → n ≤ length xs → take n (splice at bs xs) ≡ splice at bs (take n xs)
unfolding splice over
take-splice n at bs xs h k =
    let m = n - (at + length bs) in
    let a : length (take at xs) ≡ at = length-take-le at xs (omega arith) in
    let d = drop (length bs) (drop at xs) in
    let e : n ≡ length (take at xs) + (length bs + m) = omega arith in
    let f : n ≡ at + (length bs + m) = omega arith in
    let after : drop (length bs) (drop at (take n xs)) ≡ take m d =
    ap (λ (j : ℕ). drop (length bs) (drop at (take j xs))) f
    ∙ ap (drop (length bs)) (drop-take at (length bs + m) xs (omega arith))
    ∙ drop-take (length bs) m (drop at xs) (omega (arith, length-drop at xs))
    in
    ap (λ (j : ℕ). take j (take at xs ++ (bs ++ d))) e
    ∙ take-append-add (take at xs) (bs ++ d) (length bs + m)
    ∙ ap (λ (l : List ℕ). take at xs ++ l) (take-append-add bs d m)
    ∙ sym
    (ap (λ (l : List ℕ). l ++ (bs ++ drop (length bs) (drop at (take n xs)))) (take-take at n xs (omega arith))
    ∙ ap (λ (l : List ℕ). take at xs ++ (bs ++ l)) after)

-- the same splice within the usable parts leaves the same usable parts
pub same-splice : (ceiling at : ℕ) (bs xs ys : List ℕ) → SameUsable ceiling xs ys → at + length bs ≤ usable ceiling (length xs) → SameUsable ceiling (splice at bs xs) (splice at bs ys)
unfolding SameUsable usable
same-splice ceiling at bs xs ys e h =
    let s = same_length ceiling xs ys e in
    let lx : length (splice at bs xs) ≡ length xs = length-splice at bs xs (omega arith) in
    let ly : length (splice at bs ys) ≡ length ys = length-splice at bs ys (omega (arith, s)) in
    ap (λ (k : ℕ). take (min k ceiling) (splice at bs xs)) lx
    ∙ take-splice (min (length xs) ceiling) at bs xs h (omega arith)
    ∙ ap (splice at bs) e
    ∙ sym (ap (λ (k : ℕ). take (min k ceiling) (splice at bs ys)) ly ∙ take-splice (min (length ys) ceiling) at bs ys (omega (arith, s)) (omega arith))

-- the same entry set within the usable parts leaves the same usable parts
pub same_set : (ceiling i v : ℕ) (xs ys : List ℕ) → SameUsable ceiling xs ys → i < usable ceiling (length xs) → SameUsable ceiling (set xs i v) (set ys i v)
unfolding SameUsable
same_set ceiling i v xs ys e h =
    ap (λ (n : ℕ). take (usable ceiling n) (set xs i v)) (length-set xs i v)
    ∙ take-set-lt (usable ceiling (length xs)) xs i v h
    ∙ ap (λ (l : List ℕ). set l i v) e
    ∙ sym (ap (λ (n : ℕ). take (usable ceiling n) (set ys i v)) (length-set ys i v) ∙ take-set-lt (usable ceiling (length ys)) ys i v (omega (arith, h, same_length ceiling xs ys e)))

-- a blob is judged by its usable length alone
pub same_misfit_blob : (w : Record) (xs ys : List ℕ) → SameUsable blob_ceiling xs ys → misfit_blob w (length xs) ≡ misfit_blob w (length ys)
unfolding misfit_blob misfit_room
same_misfit_blob w xs ys e = rw (same_length blob_ceiling xs ys e)

-- strings are judged by their usable part alone
pub same_misfit_strings : (w : Record) (xs ys : List ℕ) → SameUsable strings_ceiling xs ys → misfit_strings w xs ≡ misfit_strings w ys
unfolding misfit_strings misfit_room SameUsable
same_misfit_strings w xs ys e = go (dec_lt u used) (dec_lt 0 used)
  where
    u : ℕ
    u = usable strings_ceiling (length xs)

    used : ℕ
    used = w.strings_used

    same : u ≡ usable strings_ceiling (length ys)
    same = same_length strings_ceiling xs ys e

    judged : ℕ → ℕ → Bool
    judged n last = (not (eqb n w.strings_room) || ltb w.strings_room used) || (not (eqb used 0) && not (eqb last 0))

    above : (n last : ℕ) → n < used → judged n last ≡ true
    above n last h = by (eqb n w.strings_room) refl
      where
        by : (b : Bool) → eqb n w.strings_room ≡ b → judged n last ≡ true
        by true q = simp (q, lt-ltb w.strings_room used (omega (arith, h, eqb-true n w.strings_room q)))
        by false q = simp q

    go : Dec (u < used) → Dec (0 < used) → judged u (get_or xs (used - 1) 0) ≡ judged (usable strings_ceiling (length ys)) (get_or ys (used - 1) 0)
    go (yes l) d =
        above u (get_or xs (used - 1) 0) l
        ∙ sym (above (usable strings_ceiling (length ys)) (get_or ys (used - 1) 0) (omega (arith, l, same)))
    go (no n) (yes l) =
        let m : used ≤ u = omega arith in
        let b : get_or xs (used - 1) 0 ≡ get_or ys (used - 1) 0 =
        sym (get_or-take u xs (used - 1) 0 (omega arith)) ∙ ap (λ (s : List ℕ). get_or s (used - 1) 0) e
        ∙ get_or-take (usable strings_ceiling (length ys)) ys (used - 1) 0 (omega (arith, same))
        in
        ap (λ (k : ℕ). judged k (get_or xs (used - 1) 0)) same ∙ ap (judged (usable strings_ceiling (length ys))) b
    go (no n) (no m) =
        let z : eqb used 0 ≡ true = eq-eqb used 0 (omega arith) in
        ap (λ (k : ℕ). judged k (get_or xs (used - 1) 0)) same ∙ simp z

-- buffers with the same usable parts, changed or not by the same answer
pub same-upon : (ceiling : ℕ) {a b : Answer} → a ≡ b → (xs ys xs' ys' : List ℕ) → SameUsable ceiling xs ys → (accepts a ≡ true → SameUsable ceiling xs' ys') → SameUsable ceiling (upon a xs' xs) (upon b ys' ys)
same-upon ceiling {a} q xs ys xs' ys' e f = subst (λ (c : Answer). SameUsable ceiling (upon a xs' xs) (upon c ys' ys)) q (by (accepts a) f)
  where
    by : (b : Bool) → (b ≡ true → SameUsable ceiling xs' ys') → SameUsable ceiling (cond b xs' xs) (cond b ys' ys)
    by true f = f refl
    by false f = e
