-- Laws of big-endian numbers, over the width: length, round trips, bytes, and a number in two parts, written and read.
use mathlib.Core.Path.{◌≡◌, refl, sym, ap, ◌∙◌}
use mathlib.Core.Bool.{Bool, true, false, ◌&&◌}
use mathlib.Core.List.{List, [], ◌∷◌, ◌++◌, append_assoc, append-nil}
use Prim.Native.Nat.{ℕ, zero, suc, ◌+◌, ◌-◌, ◌*◌, ◌/◌, ◌%◌, ◌^◌, ◌≤◌, ◌<◌}
use native.Mathlib.Nat.{add-zero, add-suc, mul-suc, mul-zero, div-one, div-div-eq-div-mul, mod-one, mod-lt, mod-eq_of_lt, add-mul, mul_assoc, one-le-pow, pow-suc, pow-succ'}
use native.Mathlib.Numerals.{add-one}
use native.Mathlib.Omega.{arith}
use borrow.Author.Tests.{ltb-true, lt-ltb}
use lib.Arith.{mod-mul, digits_div, digits_mod, digits_lt}
use lib.Dec.{T, ltb, lit<}
use lib.ListN.{length, take, drop, get_or, length-append, length-drop}
use lib.Seq.{take-suc, take-add, take_all, drop-cons, drop-drop, length-take-le}
use lib.Pow.{are_bytes, pow-add}
use Rattle.std.specs.Int.{byte_at, byte_worth, bytes_high_first, sum_through}
use Rattle.std.specs.List.{flat_map}
use Rattle.std.proofs.lemmas.Grind.{flat_map-append}
use Rattle.fdt_bytes.specs.BigEndian.{big_endian, from_big_endian, number_at, word_at, cell_bytes}

pub length-big_endian : (width v : ℕ) → length (big_endian width v) ≡ width
unfolding big_endian
length-big_endian zero v = refl
length-big_endian (suc k) v =
    length-append (big_endian k (v / 256)) (v % 256 ∷ []) ∙ ap (λ (n : ℕ). n + 1) (length-big_endian k (v / 256)) ∙ add-one k

-- bytes in two parts: the first part counts 256 times for each byte of the second
pub from-append : (bs cs : List ℕ) → from_big_endian (bs ++ cs) ≡ from_big_endian bs * 256 ^ length cs + from_big_endian cs
unfolding from_big_endian
from-append [] cs = omega arith
from-append (x ∷ bs) cs =
    let p = 256 ^ length bs in
    let q = 256 ^ length cs in
    let e : x * 256 ^ length (bs ++ cs) ≡ x * p * q =
    ap (λ (n : ℕ). x * 256 ^ n) (length-append bs cs) ∙ ap (λ (n : ℕ). x * n) (pow-add 256 (length bs) (length cs)) ∙ sym (mul_assoc x p q)
    in
    omega (arith, from-append bs cs, add-mul (x * p) (from_big_endian bs) q)

-- one byte more at the end
from-snoc : (bs : List ℕ) (b : ℕ) → from_big_endian (bs ++ (b ∷ [])) ≡ from_big_endian bs * 256 + b
unfolding from_big_endian
from-snoc bs b = from-append bs (b ∷ []) ∙ omega arith

-- reading back gives the low digits that the width holds
pub from-big_endian : (width v : ℕ) → from_big_endian (big_endian width v) ≡ v % 256 ^ width
unfolding big_endian from_big_endian
from-big_endian zero v = sym (mod-one v)
from-big_endian (suc k) v =
    from-snoc (big_endian k (v / 256)) (v % 256)
    ∙ ap (λ (n : ℕ). n * 256 + v % 256) (from-big_endian k (v / 256))
    ∙ sym (ap (λ (n : ℕ). v % n) (pow-suc 256 k) ∙ mod-mul v (one-le-pow k 256 (lit< tt)) (lit< tt))

-- reading back gives the number, if it fits the width
pub round_trip : (width v : ℕ) → v < 256 ^ width → from_big_endian (big_endian width v) ≡ v
round_trip width v h = from-big_endian width v ∙ mod-eq_of_lt h

-- a number in two parts: the high digits, then the low ones
pub in_two_lem : (j k v : ℕ) → big_endian (j + k) v ≡ big_endian j (v / 256 ^ k) ++ big_endian k v
unfolding big_endian
in_two_lem j zero v =
    ap (λ (n : ℕ). big_endian n v) (add-zero j) ∙ sym (append-nil (big_endian j v)) ∙ ap (λ (n : ℕ). big_endian j n ++ []) (sym (div-one v))
in_two_lem j (suc k) v =
    let q : v / 256 / 256 ^ k ≡ v / 256 ^ suc k = div-div-eq-div-mul v 256 (256 ^ k) ∙ ap (λ (n : ℕ). v / n) (sym (pow-succ' 256 k)) in
    ap (λ (n : ℕ). big_endian n v) (add-suc j k)
    ∙ ap (λ (l : List ℕ). l ++ (v % 256 ∷ [])) (in_two_lem j k (v / 256))
    ∙ append_assoc (big_endian j (v / 256 / 256 ^ k)) (big_endian k (v / 256)) (v % 256 ∷ [])
    ∙ ap (λ (n : ℕ). big_endian j n ++ big_endian (suc k) v) q

byte_at_lem : (k v : ℕ) → byte_at k v ≡ v / 256 ^ k % 256
byte_at_lem zero v = sym (ap (λ (n : ℕ). n % 256) (div-one v))
byte_at_lem (suc k) v = refl

-- the standard library's bytes of a number, highest first
pub high_first : (width v : ℕ) → bytes_high_first width v ≡ big_endian width v
unfolding big_endian
high_first zero v = refl
high_first (suc k) v =
    let s : suc k ≡ 1 + k = omega arith in
    ap (λ (n : ℕ). n ∷ bytes_high_first k v) (byte_at_lem k v)
    ∙ ap (λ (l : List ℕ). v / 256 ^ k % 256 ∷ l) (high_first k v)
    ∙ sym (ap (λ (n : ℕ). big_endian n v) s ∙ in_two_lem 1 k v)

-- digits above the width make no difference
pub low_digits : (width v : ℕ) → big_endian width (v % 256 ^ width) ≡ big_endian width v
unfolding big_endian
low_digits zero v = refl
low_digits (suc k) v =
    let d : v % 256 ^ suc k ≡ v / 256 % 256 ^ k * 256 + v % 256 =
    ap (λ (n : ℕ). v % n) (pow-suc 256 k) ∙ mod-mul v (one-le-pow k 256 (lit< tt)) (lit< tt)
    in
    let r : v % 256 < 256 = mod-lt v (lit< tt) in
    ap (λ (n : ℕ). big_endian k (n / 256) ++ (n % 256 ∷ [])) d
    ∙ ap (λ (n : ℕ). big_endian k n ++ ((v / 256 % 256 ^ k * 256 + v % 256) % 256 ∷ [])) (digits_div (v / 256 % 256 ^ k) r)
    ∙ ap (λ (n : ℕ). big_endian k (v / 256 % 256 ^ k) ++ (n ∷ [])) (digits_mod (v / 256 % 256 ^ k) r)
    ∙ ap (λ (l : List ℕ). l ++ (v % 256 ∷ [])) (low_digits k (v / 256))

-- a byte, and then bytes
bytes-cons : (b : ℕ) (bs : List ℕ) → T (are_bytes (b ∷ bs)) → (b < 256) × T (are_bytes bs)
bytes-cons b bs h = go (ltb b 256) refl h
  where
    go : (t : Bool) → ltb b 256 ≡ t → T (t && are_bytes bs) → (b < 256) × T (are_bytes bs)
    go true e h = (ltb-true b 256 e, h)
    go false e h = absurd h

-- n bytes encode a number below 256 ^ n
pub from_lt : (bs : List ℕ) → T (are_bytes bs) → from_big_endian bs < 256 ^ length bs
unfolding from_big_endian
from_lt [] h = lit< tt
from_lt (b ∷ bs) h =
    let p = bytes-cons b bs h in
    rw (pow-succ' 256 (length bs)) (digits_lt p.0 (from_lt bs p.1))

-- writing the number that bytes encode gives the bytes
pub round_trip_back : (bs : List ℕ) → T (are_bytes bs) → big_endian (length bs) (from_big_endian bs) ≡ bs
unfolding from_big_endian big_endian
round_trip_back [] h = refl
round_trip_back (b ∷ bs) h =
    let p = bytes-cons b bs h in
    let k = length bs in
    let v = from_big_endian bs in
    let s : suc k ≡ 1 + k = omega arith in
    let low : big_endian k (b * 256 ^ k + v) ≡ bs =
    sym (low_digits k (b * 256 ^ k + v)) ∙ ap (big_endian k) (digits_mod b (from_lt bs p.1)) ∙ round_trip_back bs p.1
    in
    ap (λ (n : ℕ). big_endian n (b * 256 ^ k + v)) s
    ∙ in_two_lem 1 k (b * 256 ^ k + v)
    ∙ ap (λ (n : ℕ). (n % 256 ∷ []) ++ big_endian k (b * 256 ^ k + v)) (digits_div b (from_lt bs p.1))
    ∙ ap (λ (n : ℕ). n ∷ big_endian k (b * 256 ^ k + v)) (mod-eq_of_lt p.0)
    ∙ ap (λ (l : List ℕ). b ∷ l) low

-- bytes after bytes
bytes-append : (ds bs : List ℕ) → T (are_bytes ds) → T (are_bytes bs) → T (are_bytes (ds ++ bs))
bytes-append [] bs g h = h
bytes-append (d ∷ ds) bs g h = let p = bytes-cons d ds g in simp (lt-ltb d 256 p.0) (bytes-append ds bs p.1 h)

-- written numbers are bytes
pub big_endian-bytes : (width v : ℕ) → T (are_bytes (big_endian width v))
unfolding big_endian
big_endian-bytes zero v = tt
big_endian-bytes (suc k) v =
    bytes-append (big_endian k (v / 256)) (v % 256 ∷ []) (big_endian-bytes k (v / 256)) (simp (lt-ltb (v % 256) 256 (mod-lt v (lit< tt))) tt)

-- the length of pieces of one size
pub length-pieces : {A : Type 0} (bytes : A → List ℕ) (size : ℕ) → ((x : A) → length (bytes x) ≡ size) → (vs : List A) → length (flat_map bytes vs) ≡ size * length vs
length-pieces bytes size sized [] = sym (mul-zero size)
length-pieces bytes size sized (v ∷ vs) =
    length-append (bytes v) (flat_map bytes vs) ∙ omega (arith, sized v, length-pieces bytes size sized vs, mul-suc size (length vs))

pub length-cells : (width : ℕ) (vs : List ℕ) → length (cell_bytes width vs) ≡ width * length vs
unfolding cell_bytes
length-cells width vs = length-pieces (big_endian width) width (length-big_endian width) vs

pub cells-append : (width : ℕ) (us vs : List ℕ) → cell_bytes width (us ++ vs) ≡ cell_bytes width us ++ cell_bytes width vs
unfolding cell_bytes
cells-append width us vs = flat_map-append (big_endian width) us vs

-- ---- numbers at a place of bytes

module _ (b : List ℕ) (at : ℕ) where
  -- a number in two parts: the high digits come first
  pub read_in_two : (j k : ℕ) → at + (j + k) ≤ length b → number_at (j + k) b at ≡ number_at j b at * 256 ^ k + number_at k b (at + j)
  unfolding number_at
  read_in_two j k h =
      let high = take j (drop at b) in
      let low = take k (drop (at + j) b) in
      let e : take (j + k) (drop at b) ≡ high ++ low = take-add j k (drop at b) ∙ ap (λ (l : List ℕ). high ++ take k l) (drop-drop j at b) in
      let n : length low ≡ k = length-take-le k (drop (at + j) b) (omega (arith, length-drop (at + j) b)) in
      ap from_big_endian e ∙ from-append high low ∙ ap (λ (i : ℕ). from_big_endian high * 256 ^ i + from_big_endian low) n

  -- a number of one byte
  pub read_one : at < length b → number_at 1 b at ≡ get_or b at 0
  unfolding number_at from_big_endian
  read_one h = rw (drop-cons b at 0 h) (omega arith)

-- ---- the standard library's reading of bytes, highest first

worth : (j b : ℕ) → byte_worth (suc j) b ≡ byte_worth j b * 256
worth zero b = refl
worth (suc j) b = ap (λ (n : ℕ). b * n) (pow-suc 256 (suc j)) ∙ sym (mul_assoc b (256 ^ suc j) 256)

times : (f g : ℕ → ℕ) (k : ℕ) → ((i : ℕ) → i ≤ k → g i ≡ f i * 256) → sum_through g k ≡ sum_through f k * 256
times f g zero h = h 0 (omega arith)
times f g (suc k) h = omega (arith, times f g k (λ i l. h i (omega arith)), h (suc k) (omega arith))

sum_from : (bs : List ℕ) (k : ℕ) → k < length bs → sum_through (λ i. byte_worth (k - i) (get_or bs i 0)) k ≡ from_big_endian (take (suc k) bs)
unfolding from_big_endian
sum_from bs zero h = rw (take-suc bs 0 0 h) (omega arith)
sum_from bs (suc k) h =
    let before = λ (i : ℕ). byte_worth (k - i) (get_or bs i 0) in
    let now = λ (i : ℕ). byte_worth (suc k - i) (get_or bs i 0) in
    let turn : (i : ℕ) → i ≤ k → now i ≡ before i * 256 =
    λ i l. let e : suc k - i ≡ suc (k - i) = omega arith in ap (λ (n : ℕ). byte_worth n (get_or bs i 0)) e ∙ worth (k - i) (get_or bs i 0)
    in
    let last : now (suc k) ≡ get_or bs (suc k) 0 = let e : suc k - suc k ≡ 0 = omega arith in ap (λ (n : ℕ). byte_worth n (get_or bs (suc k) 0)) e in
    let step : sum_through now (suc k) ≡ from_big_endian (take (suc k) bs) * 256 + get_or bs (suc k) 0 =
    omega (arith, times before now k turn, sum_from bs k (omega arith), last)
    in
    step ∙ sym (from-snoc (take (suc k) bs) (get_or bs (suc k) 0)) ∙ ap from_big_endian (sym (take-suc bs (suc k) 0 h))

-- the number of k + 1 bytes at a place
pub read_high_first : (k : ℕ) (b : List ℕ) (at : ℕ) → at + suc k ≤ length b → sum_through (λ i. byte_worth (k - i) (get_or (take (suc k) (drop at b)) i 0)) k ≡ number_at (suc k) b at
unfolding number_at
read_high_first k b at h =
    let front = take (suc k) (drop at b) in
    let n : length front ≡ suc k = length-take-le (suc k) (drop at b) (omega (arith, length-drop at b)) in
    sum_from front k (omega arith) ∙ ap from_big_endian (take_all (suc k) front (omega arith))

module _ (b : List ℕ) (at : ℕ) where
  -- a word is its four bytes
  pub word_bytes : at + 4 ≤ length b → word_at b at ≡ get_or b at 0 * 0x100_0000 + get_or b (at + 1) 0 * 0x1_0000 + get_or b (at + 2) 0 * 0x100 + get_or b (at + 3) 0
  word_bytes h =
      let byte : (i : ℕ) → i < 4 → number_at 1 b (at + i) ≡ get_or b (at + i) 0 = λ i l. read_one b (at + i) (omega arith) in
      omega (
        arith,
        read_in_two b at 3 1 h,
        read_in_two b at 2 1 (omega arith),
        read_in_two b at 1 1 (omega arith),
        read_one b at (omega arith),
        byte 1 (lit< tt),
        byte 2 (lit< tt),
        byte 3 (lit< tt),
      )

  module _ (h : at + 4 ≤ length b) (bytes : (i : ℕ) → get_or b i 0 < 256) where
    -- the last byte of a word
    pub word_last : get_or b (at + 3) 0 ≡ word_at b at % 256
    word_last = omega (arith, word_bytes h, bytes (at + 3))

    -- the byte before it
    pub word_third : get_or b (at + 2) 0 ≡ word_at b at / 256 % 256
    word_third = omega (arith, word_bytes h, bytes (at + 2), bytes (at + 3))
