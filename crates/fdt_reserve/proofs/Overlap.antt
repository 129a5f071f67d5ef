-- Laws of overlap: two reservations that share an address share the greater of their starts, so testing each pair finds every overlap.
use mathlib.Core.Path.{◌≡◌, refl, sym, ap, ◌∙◌}
use mathlib.Core.Bool.{Bool, true, false, ◌&&◌, ◌||◌, and_comm, and-false, and-true, or-true, and-eq-true_iff, true≢false}
use mathlib.Core.Logic.{◌↔◌}
use mathlib.Core.List.{List}
use Prim.Native.Nat.{ℕ, zero, suc, ◌+◌, ◌-◌, ◌*◌, ◌/◌, ◌≤◌, ◌<◌, max}
use native.Mathlib.Nat.{not-suc-le-zero}
use native.Mathlib.Decide.{dec_lt}
use native.Mathlib.Numerals.{add-one}
use native.Mathlib.Omega.{arith}
use borrow.Author.Count.{below_more}
use borrow.Author.Tests.{lt-ltb, le-ltb, ltb-true}
use lib.Arith.{lt_of_le-ne}
use lib.Dec.{ltb}
use lib.ListN.{length, get_or-eq_default}
use Rattle.fdt_bytes.proofs.Tests.{same_test}
use Rattle.fdt_reserve.specs.declared.FdtReserveEntry.{FdtReserveEntry}
use Rattle.fdt_reserve.specs.Overlap.{start, size, entry_at, LiesIn, Overlap, some_below, share, overlapping}

module _ (a s b t : ℕ) where
  -- ranges that share an address
  pub share_at : (x : ℕ) → a ≤ x → x < a + s → b ≤ x → x < b + t → share a s b t ≡ true
  unfolding share
  share_at x p q r u =
      let h : max a b < a + s = omega arith in
      let k : max a b < b + t = omega arith in
      simp (lt-ltb (max a b) (a + s) h, lt-ltb (max a b) (b + t) k)

  -- the address that they share: the greater start
  pub shared : share a s b t ≡ true → (max a b < a + s) × (max a b < b + t)
  unfolding share
  shared e =
      let p = (and-eq-true_iff (ltb (max a b) (a + s)) (ltb (max a b) (b + t))).0 e in
      (ltb-true (max a b) (a + s) p.0, ltb-true (max a b) (b + t) p.1)

pub share_comm : (a s b t : ℕ) → share a s b t ≡ share b t a s
unfolding share
share_comm a s b t =
    and_comm (ltb (max a b) (a + s)) (ltb (max a b) (b + t))
    ∙ ap (λ (m : ℕ). ltb m (b + t) && ltb m (a + s)) (let e : max a b ≡ max b a = omega arith in e)

-- The second range starts no earlier than the first: its start decides.
module _ (a s b t : ℕ) (later : a ≤ b) where
  share-start : share a s b t ≡ (ltb (b - a) s && ltb 0 t)
  unfolding share
  share-start =
      let e : max a b ≡ b = omega arith in
      ap (λ (m : ℕ). ltb m (a + s) && ltb m (b + t)) e
      ∙ ap (λ (x : Bool). x && ltb b (b + t)) (same_test b (a + s) (b - a) s (λ l. omega arith) (λ l. omega arith))
      ∙ ap (λ (x : Bool). ltb (b - a) s && x) (same_test b (b + t) 0 t (λ l. omega arith) (λ l. omega arith))

  pub share-empty : t ≡ 0 → share a s b t ≡ false
  share-empty e = share-start ∙ simp (le-ltb 0 t (omega arith), and-false)

  pub share-later : (t ≡ 0 → ⊥) → share a s b t ≡ ltb (b - a) s
  share-later n = share-start ∙ simp (lt-ltb 0 t (omega arith), and-true)

-- A test that is true of some number below n.
module _ (test : ℕ → Bool) where
  pub some_at : (n k : ℕ) → k < n → test k ≡ true → some_below n test ≡ true
  unfolding some_below
  some_at zero k h e = absurd (not-suc-le-zero h)
  some_at (suc n) k h e = go (dec_lt k n) (λ l. some_at n k l e)
    where
      go : Dec (k < n) → (k < n → some_below n test ≡ true) → (test n || some_below n test) ≡ true
      go (yes l) f = simp (f l, or-true)
      go (no m) f = let q : k ≡ n = omega arith in simp (ap test (sym q) ∙ e)

  -- one more number for which it is false
  pub some_more : (n : ℕ) → some_below n test ≡ false → test n ≡ false → some_below (n + 1) test ≡ false
  unfolding some_below
  some_more n h e = rw (add-one n) (simp (e, h))

  pub where_some : (n : ℕ) → some_below n test ≡ true → (k : ℕ) × (k < n) × (test k ≡ true)
  unfolding some_below
  where_some zero e = absurd (true≢false (sym e))
  where_some (suc n) e = go (test n) refl (where_some n) e
    where
      go : (t : Bool) → test n ≡ t → (some_below n test ≡ true → (k : ℕ) × (k < n) × (test k ≡ true)) → (t || some_below n test) ≡ true
          → (k : ℕ) × (k < suc n) × (test k ≡ true)
      go true q f e = (n, omega arith, q)
      go false q f e = let w = f e in (w.0, omega (arith, w.1), w.2)

module _ (numbers : List ℕ) where
  -- two of the reservations share an address
  abbrev pub meets : ℕ → ℕ → Bool
  meets j k = share (start numbers j) (size numbers j) (start numbers k) (size numbers k)

  -- a test of the entries read from the list
  pub meets_entries : (r : Bool) (e f : FdtReserveEntry) (j k : ℕ) → r ≡ share e.address e.size f.address f.size → e ≡ entry_at numbers j → f ≡ entry_at numbers k → r ≡ meets j k
  unfolding entry_at
  meets_entries r e f j k h p q =
      h ∙ ap (λ (x : FdtReserveEntry). share x.address x.size f.address f.size) p
      ∙ ap (λ (x : FdtReserveEntry). share (start numbers j) (size numbers j) x.address x.size) q

  -- a reservation that holds an address is a whole pair of the list
  within : {k x : ℕ} → LiesIn numbers k x → k < length numbers / 2
  unfolding size
  within {k} {x} h = go (dec_lt (2 * k + 1) (length numbers))
    where
      go : Dec (2 * k + 1 < length numbers) → k < length numbers / 2
      go (yes l) = omega arith
      go (no n) =
          let z : size numbers k ≡ 0 = get_or-eq_default numbers 0 (omega arith) in
          absurd (omega (arith, h.from, h.below, z))

  -- reservations that share an address meet
  pub met : {j k x : ℕ} → LiesIn numbers j x → LiesIn numbers k x → meets j k ≡ true
  met {j} {k} {x} p q =
      share_at (start numbers j) (size numbers j) (start numbers k) (size numbers k) x p.from p.below q.from q.below

  -- two different reservations that share an address are an overlap
  pub clash : (j k : ℕ) → (j ≡ k → ⊥) → meets j k ≡ true → Overlap numbers
  clash j k d e =
      let s = shared (start numbers j) (size numbers j) (start numbers k) (size numbers k) e in
      record {
        address = max (start numbers j) (start numbers k);
        one = j;
        other = k;
        different = d;
        in_one = record { from = omega arith; below = s.0 };
        in_other = record { from = omega arith; below = s.1 };
      }

  -- an overlap is two reservations that share an address, one before the other in the list
  pub ordered : Overlap numbers → (j : ℕ) × (k : ℕ) × (j < k) × (k < length numbers / 2) × (meets j k ≡ true)
  ordered o = go (dec_lt o.one o.other)
    where
      go : Dec (o.one < o.other) → (j : ℕ) × (k : ℕ) × (j < k) × (k < length numbers / 2) × (meets j k ≡ true)
      go (yes l) = (o.one, o.other, l, within o.in_other, met o.in_one o.in_other)
      go (no n) = (o.other, o.one, lt_of_le-ne (omega arith) (λ e. o.different (sym e)), within o.in_one, met o.in_other o.in_one)

  -- reservation k shares no address with any after it and before m
  abbrev pub Clear : ℕ → ℕ → Type 0
  Clear k m = (l : ℕ) → k < l → l < m → meets k l ≡ false

  pub clear_none : (k : ℕ) → Clear k (k + 1)
  clear_none k l p q = absurd (omega arith)

  pub clear_more : (k m : ℕ) → Clear k m → meets k m ≡ false → Clear k (m + 1)
  clear_more k m h e l p q = below_more (λ (n : ℕ). k < n → meets k n ≡ false) m (λ n u v. h n v u) (λ v. e) l q p

  -- if every reservation is clear of those after it, none overlap
  pub apart : ((k : ℕ) → k < length numbers / 2 → Clear k (length numbers / 2)) → Overlap numbers → ⊥
  apart h o =
      let w = ordered o in
      true≢false (sym w.4 ∙ h w.0 (omega (arith, w.2, w.3)) w.1 w.2 w.3)

  -- the computed test is true exactly when some address lies in two reservations
  pub overlapping_exact : (overlapping numbers ≡ true) ↔ Overlap numbers
  unfolding overlapping
  overlapping_exact = (told, holds)
    where
      told : overlapping numbers ≡ true → Overlap numbers
      told e =
          let w = where_some (λ k. some_below k (λ j. meets j k)) (length numbers / 2) e in
          let v = where_some (λ j. meets j w.0) w.0 w.2 in
          clash v.0 w.0 (λ q. omega (arith, v.1, q)) v.2

      holds : Overlap numbers → overlapping numbers ≡ true
      holds o =
          let w = ordered o in
          some_at (λ k. some_below k (λ j. meets j k)) (length numbers / 2) w.1 w.3
          (some_at (λ j. meets j w.1) w.1 w.0 w.2 w.4)

  -- an exact test of overlap is the computed one
  pub overlap_told : (r : Bool) → (r ≡ true) ↔ Overlap numbers → r ≡ overlapping numbers
  overlap_told r h = go r (overlapping numbers) refl refl
    where
      go : (a b : Bool) → r ≡ a → overlapping numbers ≡ b → r ≡ overlapping numbers
      go true b p q = p ∙ sym (overlapping_exact.1 (h.0 p))
      go false true p q = h.1 (overlapping_exact.0 q) ∙ sym q
      go false false p q = p ∙ sym q
