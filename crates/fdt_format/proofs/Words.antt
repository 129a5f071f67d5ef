-- Numbers read where they were written: one law over the width, and the k-th of several.
use mathlib.Core.Path.{◌≡◌, ap, ◌∙◌}
use mathlib.Core.List.{List, [], ◌∷◌, ◌++◌, append_assoc}
use Prim.Native.Nat.{ℕ, zero, suc, ◌+◌, ◌*◌, ◌≤◌, ◌<◌, ◌^◌}
use native.Mathlib.Nat.{mul-suc, mul-zero}
use native.Mathlib.Omega.{arith}
use lib.ListN.{length, take, drop, get_or, length-append}
use lib.Seq.{take_at, drop_at}
use Rattle.fdt_bytes.specs.BigEndian.{big_endian, from_big_endian, number_at, cell_bytes}
use Rattle.fdt_bytes.proofs.BigEndian.{length-big_endian, round_trip}

-- these bytes are at a place of b
pub record BytesAt (b : List ℕ) (at : ℕ) (bs : List ℕ) : Type 0 where
  pub before : List ℕ
  pub behind : List ℕ
  pub split : b ≡ before ++ (bs ++ behind)
  pub place : length before ≡ at

module _ {b : List ℕ} {at : ℕ} {bs : List ℕ} (h : BytesAt b at bs) where
  pub bytes_drop : drop at b ≡ bs ++ h.behind
  bytes_drop = ap (drop at) h.split ∙ drop_at h.before (bs ++ h.behind) at h.place

  pub bytes-fits : at + length bs ≤ length b
  bytes-fits = omega (arith, h.place, simp length-append at (ap length h.split))

  pub bytes_take : (n : ℕ) → length bs ≡ n → take n (drop at b) ≡ bs
  bytes_take n e = ap (take n) bytes_drop ∙ take_at bs h.behind n e

-- the first part of them, and the second
module _ {b : List ℕ} {at : ℕ} (bs cs : List ℕ) (h : BytesAt b at (bs ++ cs)) where
  pub bytes_left : BytesAt b at bs
  bytes_left = record { before = h.before; behind = cs ++ h.behind; split = h.split ∙ simp append_assoc; place = h.place }

  pub bytes-right : (to : ℕ) → at + length bs ≡ to → BytesAt b to cs
  bytes-right to e = record {
    before = h.before ++ bs;
    behind = h.behind;
    split = h.split ∙ simp append_assoc;
    place = length-append h.before bs ∙ omega (arith, h.place);
  }

-- a number of any width
pub number_at_lem : {b : List ℕ} {at : ℕ} (width v : ℕ) → BytesAt b at (big_endian width v) → v < 256 ^ width → number_at width b at ≡ v
unfolding number_at
number_at_lem width v h l = ap from_big_endian (bytes_take h width (length-big_endian width v)) ∙ round_trip width v l

-- the k-th number of several
pub cell_at : {b : List ℕ} {at : ℕ} (width : ℕ) (vs : List ℕ) (k to : ℕ) → BytesAt b at (cell_bytes width vs) → k < length vs → get_or vs k 0 < 256 ^ width → at + width * k ≡ to → number_at width b to ≡ get_or vs k 0
unfolding cell_bytes
cell_at width [] k to h i l e = absurd (omega arith)
cell_at {b} {at} width (v ∷ vs) zero to h i l e =
    let f : to ≡ at = omega (arith, mul-zero width) in
    ap (number_at width b) f ∙ number_at_lem width v (bytes_left (big_endian width v) (cell_bytes width vs) h) l
cell_at {b} {at} width (v ∷ vs) (suc k) to h i l e =
    let rest = bytes-right (big_endian width v) (cell_bytes width vs) h (at + width) (ap (λ (n : ℕ). at + n) (length-big_endian width v)) in
    cell_at {at = at + width} width vs k to rest (omega arith) l (omega (arith, mul-suc width k))
