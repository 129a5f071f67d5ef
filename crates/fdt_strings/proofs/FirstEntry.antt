-- A name is found at the first place where it is an entry, as bytes say it (`EntryAt` of fdt_search).
use mathlib.Core.Path.{◌≡◌, refl, sym, ap, ◌∙◌}
use mathlib.Core.List.{List, [], ◌∷◌, ◌++◌}
use Prim.Native.Nat.{ℕ, zero, suc, ◌+◌, ◌-◌, ◌≤◌, ◌<◌}
use native.Mathlib.Omega.{arith}
use lib.ListN.{length, take, drop, get_or, get_or-append, take-append-drop, length-drop}
use lib.Seq.{take-suc, drop_at, drop-cons, drop-drop, get_or_at, get_or-take, get_or-drop, length-take-le, ext_get_or}
use Rattle.fdt_search.specs.FirstEntry.{EntryAt, NoEntry, FirstEntry}
use Rattle.fdt_strings.specs.Entries.{entry, find_string, NoZero, no_byte, next_byte}
use Rattle.std.specs.Prelude.{Option, Some, None}
use Rattle.fdt_strings.proofs.Entries.{length-entry, Whole, empty, ended, whole-last, found-stands, stands-found, stands-fits, found-append}

zero_free : {s : List ℕ} → NoZero s → (k : ℕ) → k < length s → get_or s k 0 ≡ 0 → ⊥
zero_free no_byte k l e = absurd (omega arith)
zero_free (next_byte h n) zero l e = omega arith
zero_free (next_byte h n) (suc k) l e = zero_free n k (omega arith) e

no_zero : (s : List ℕ) → ((k : ℕ) → k < length s → get_or s k 0 ≡ 0 → ⊥) → NoZero s
no_zero [] h = no_byte
no_zero (b ∷ s) h = let n : 0 < b = omega (arith, h 0 (omega arith)) in next_byte n (no_zero s (λ k l. h (suc k) (omega arith)))

whole_take : (s : List ℕ) (i : ℕ) → i ≤ length s → (0 < i → get_or s (i - 1) 0 ≡ 0) → Whole (take i s)
unfolding entry
whole_take s zero h z = empty
whole_take s (suc m) h z = let k : suc m - 1 ≡ m = omega arith in rw (take-suc s m 0 h, rw k at (z (omega arith))) (ended (take m s))

module _ (s name : List ℕ) where
  pub found-entry : (i : ℕ) → find_string s name ≡ Some i → EntryAt s name i
  found-entry i h =
      let w = found-stands s name i h in
      let rest : drop i s ≡ name ++ 0 ∷ w.behind = ap (drop i) w.split ∙ drop_at w.before _ i w.place in
      let byte : (k : ℕ) → get_or s (i + k) 0 ≡ get_or (name ++ 0 ∷ w.behind) k 0 = λ k. sym (get_or-drop i s k 0) ∙ ap (λ (l : List ℕ). get_or l k 0) rest in
      record {
        fits = omega (arith, length-entry name, stands-fits w);
        bytes = λ k l. record { same = byte k ∙ get_or-append name _ 0 k l; plain = zero_free w.plain k l };
        ended = byte (length name) ∙ get_or_at name 0 w.behind 0 (length name) refl;
        begun = λ k. ap (λ (l : List ℕ). get_or l (i - 1) 0) w.split ∙ get_or-append w.before _ 0 (i - 1) (omega (arith, w.place)) ∙ whole-last w.starts w.place k;
      }

  -- the strings, cut at an entry
  entry_split : (i : ℕ) → EntryAt s name i → s ≡ take i s ++ (name ++ 0 ∷ drop (suc (i + length name)) s)
  entry_split i w =
      let long : length (take (length name) (drop i s)) ≡ length name = length-take-le (length name) (drop i s) (omega (arith, w.fits, length-drop i s)) in
      let same : take (length name) (drop i s) ≡ name =
      ext_get_or 0 _ name long
      (λ k l. get_or-take (length name) (drop i s) k 0 (omega (arith, long)) ∙ get_or-drop i s k 0 ∙ (w.bytes k (omega (arith, long))).same)
      in
      sym (take-append-drop i s)
      ∙ ap (λ (l : List ℕ). take i s ++ l)
      (sym (take-append-drop (length name) (drop i s)) ∙ rw (same, drop-drop, drop-cons s (i + length name) 0 w.fits, w.ended) refl)

  pub entry_found : (i : ℕ) → EntryAt s name i → NoEntry s name i → find_string s name ≡ Some i
  entry_found i w none = go (find_string (take i s) name) refl
    where
      front : length (take i s) ≡ i
      front = length-take-le i s (omega (arith, w.fits))

      go : (f : Option ℕ) → find_string (take i s) name ≡ f → find_string s name ≡ Some i
      go (Some j) e =
          let earlier : find_string s name ≡ Some j = ap (λ (l : List ℕ). find_string l name) (entry_split i w) ∙ found-append (take i s) _ name j e in
          absurd (none j (omega (arith, front, length-entry name, stands-fits (found-stands (take i s) name j e))) (found-entry j earlier))
      go None e =
          stands-found s name i
          (record {
            before = take i s;
            behind = _;
            split = entry_split i w;
            place = front;
            starts = whole_take s i (omega (arith, w.fits)) w.begun;
            plain = no_zero name (λ k l. (w.bytes k l).plain);
            first = e;
          })

  pub entry_nowhere : ((i : ℕ) → EntryAt s name i → ⊥) → find_string s name ≡ None
  entry_nowhere none = go (find_string s name) refl
    where
      go : (f : Option ℕ) → find_string s name ≡ f → f ≡ None
      go (Some i) e = absurd (none i (found-entry i e))
      go None e = refl

  -- the first place where the name is an entry is where it is found
  pub first_found : (r : Option ℕ) → FirstEntry s name r → r ≡ find_string s name
  first_found (Some i) w = sym (entry_found i w.0 w.1)
  first_found None none = sym (entry_nowhere (λ i w. none i (omega (arith, w.fits)) w))
