-- Laws of bytes written into a buffer: its length stays, writing to a lent part is a splice of the whole, and adjacent splices join.
use mathlib.Core.Path.{◌≡◌, sym, ap, ◌∙◌}
use mathlib.Core.List.{List, [], ◌∷◌, ◌++◌, append_assoc, append-nil}
use Prim.Native.Nat.{ℕ, ◌+◌, ◌-◌, ◌≤◌, ◌<◌}
use native.Mathlib.Numerals.{add-one}
use native.Mathlib.Omega.{arith}
use lib.ListN.{length, take, drop, set, get_or, get_or-append, length-append, length-take, length-drop, drop_of_length-le}
use lib.Seq.{set_split, take_all, take-take, take-add, take-append-le, take_at, drop_at, drop-drop, length-take-le, get_or-append-add, get_or-take, get_or-drop}
use borrow.Rule.Slice.PartMut.{put_mid}
use Rattle.fdt_bytes.specs.Splice.{over, splice}

pub length-splice : (at : ℕ) (bs xs : List ℕ) → at + length bs ≤ length xs → length (splice at bs xs) ≡ length xs
unfolding splice over
length-splice at bs xs h = simp (length-append, length-take, length-drop) (omega arith)

-- what follows k elements of the first k + j
pub drop-take : (k j : ℕ) (xs : List ℕ) → k ≤ length xs → drop k (take (k + j) xs) ≡ take j (drop k xs)
drop-take k j xs h = ap (drop k) (take-add k j xs) ∙ drop_at (take k xs) (take j (drop k xs)) k (length-take-le k xs h)

-- a splice that begins where another ends
pub splice-splice : (at to : ℕ) (bs cs xs : List ℕ) → at + length bs ≡ to → to ≤ length xs → splice to cs (splice at bs xs) ≡ splice at (bs ++ cs) xs
unfolding splice over
splice-splice at to bs cs xs e h =
    let p = take at xs ++ bs in
    let d = drop (length bs) (drop at xs) in
    let l : length p ≡ to = length-append (take at xs) bs ∙ simp length-take (omega arith) in
    let s : take at xs ++ (bs ++ d) ≡ p ++ d = sym (append_assoc (take at xs) bs d) in
    let n : drop (length cs) d ≡ drop (length (bs ++ cs)) (drop at xs) =
    drop-drop (length cs) (length bs) (drop at xs) ∙ ap (λ (k : ℕ). drop k (drop at xs)) (sym (length-append bs cs))
    in
    ap (λ (x : List ℕ). take to x ++ (cs ++ drop (length cs) (drop to x))) s
    ∙ ap (λ (x : List ℕ). x ++ (cs ++ drop (length cs) (drop to (p ++ d)))) (take_at p d to l)
    ∙ ap (λ (x : List ℕ). p ++ (cs ++ drop (length cs) x)) (drop_at p d to l)
    ∙ ap (λ (x : List ℕ). p ++ (cs ++ x)) n
    ∙ simp append_assoc

-- a splice that ends where one made before it begins
pub splice_under : (at to : ℕ) (bs cs xs : List ℕ) → at + length bs ≡ to → to ≤ length xs → splice at bs (splice to cs xs) ≡ splice at (bs ++ cs) xs
unfolding splice over
splice_under at to bs cs xs e h =
    let d = cs ++ drop (length cs) (drop to xs) in
    let l : length (take to xs) ≡ to = length-take-le to xs h in
    let behind : drop (length bs) (drop at (take to xs ++ d)) ≡ d =
    drop-drop (length bs) at (take to xs ++ d) ∙ ap (λ (n : ℕ). drop n (take to xs ++ d)) e ∙ drop_at (take to xs) d to l
    in
    let rest : drop (length cs) (drop to xs) ≡ drop (length (bs ++ cs)) (drop at xs) =
    ap (λ (n : ℕ). drop (length cs) (drop n xs)) (sym e)
    ∙ ap (drop (length cs)) (sym (drop-drop (length bs) at xs))
    ∙ drop-drop (length cs) (length bs) (drop at xs)
    ∙ ap (λ (n : ℕ). drop n (drop at xs)) (sym (length-append bs cs))
    in
    ap (λ (l : List ℕ). l ++ (bs ++ drop (length bs) (drop at (take to xs ++ d)))) (take-append-le at (take to xs) d (omega arith) ∙ take-take at to xs (omega arith))
    ∙ ap (λ (l : List ℕ). take at xs ++ (bs ++ l)) (behind ∙ ap (λ (l : List ℕ). cs ++ l) rest)
    ∙ ap (λ (l : List ℕ). take at xs ++ l) (sym (append_assoc bs cs (drop (length (bs ++ cs)) (drop at xs))))

-- the part from `at` on was lent, and its front was overwritten with bs
pub lent : (at : ℕ) (bs xs ys : List ℕ) → at ≤ length xs → ys ≡ over bs (take (length xs - at) (drop at xs)) → put_mid at (length xs - at) xs ys ≡ splice at bs xs
unfolding splice
lent at bs xs ys h e =
    let n : length (drop at xs) ≤ length xs - at = omega (arith, length-drop at xs) in
    ap (λ (l : List ℕ). take at xs ++ (ys ++ l)) (drop_of_length-le (drop at xs) n)
    ∙ ap (λ (l : List ℕ). take at xs ++ l) (append-nil ys ∙ e ∙ ap (over bs) (take_all (length xs - at) (drop at xs) n))

-- storing one byte is a splice
pub set-splice : (at b : ℕ) (xs : List ℕ) → at < length xs → set xs at b ≡ splice at (b ∷ []) xs
unfolding splice over
set-splice at b xs h = set_split xs at b h ∙ ap (λ (l : List ℕ). take at xs ++ (b ∷ l)) (sym (drop-drop 1 at xs ∙ ap (λ (n : ℕ). drop n xs) (add-one at)))

-- three splices, each begins where the one before ends
pub splice-three : (at to then : ℕ) (bs cs ds xs : List ℕ) → at + length bs ≡ to → to + length cs ≡ then → then ≤ length xs → splice then ds (splice to cs (splice at bs xs)) ≡ splice at (bs ++ (cs ++ ds)) xs
splice-three at to then bs cs ds xs e f h =
    ap (splice then ds) (splice-splice at to bs cs xs e (omega arith))
    ∙ splice-splice at then (bs ++ cs) ds xs (omega (arith, length-append bs cs)) h
    ∙ ap (λ (l : List ℕ). splice at l xs) (append_assoc bs cs ds)

-- Bytes outside a splice stay as they were.
module _ (at i : ℕ) (bs xs : List ℕ) (room : at + length bs ≤ length xs) where
  pub splice-before : i < at → get_or (splice at bs xs) i 0 ≡ get_or xs i 0
  unfolding splice over
  splice-before h =
      let n : length (take at xs) ≡ at = length-take-le at xs (omega arith) in
      get_or-append (take at xs) (bs ++ drop (length bs) (drop at xs)) 0 i (omega arith) ∙ get_or-take at xs i 0 h

  pub splice_behind : at + length bs ≤ i → get_or (splice at bs xs) i 0 ≡ get_or xs i 0
  unfolding splice over
  splice_behind h =
      let n : length (take at xs) ≡ at = length-take-le at xs (omega arith) in
      let k = i - (at + length bs) in
      let e : i ≡ length (take at xs) + (length bs + k) = omega arith in
      let d = drop (length bs) (drop at xs) in
      ap (λ (j : ℕ). get_or (take at xs ++ (bs ++ d)) j 0) e
      ∙ get_or-append-add (take at xs) (bs ++ d) (length bs + k) 0
      ∙ get_or-append-add bs d k 0
      ∙ get_or-drop (length bs) (drop at xs) k 0
      ∙ get_or-drop at xs (length bs + k) 0
      ∙ ap (λ (j : ℕ). get_or xs j 0) (let f : at + (length bs + k) ≡ i = omega arith in f)
