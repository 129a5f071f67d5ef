-- A loop that writes pieces of one size one after the other: what holds after each turn, at any size.
use mathlib.Core.Path.{◌≡◌, refl, sym, ap, ◌∙◌}
use mathlib.Core.List.{List, ◌∷◌, [], ◌++◌}
use Prim.Native.Nat.{ℕ, ◌+◌, ◌-◌, ◌*◌, ◌≤◌, ◌<◌}
use native.Mathlib.Nat.{mul-suc, mul-le-mul_left}
use native.Mathlib.Numerals.{add-one}
use native.Mathlib.Omega.{arith}
use lib.ListN.{length, take, drop, get_or, take-append-drop}
use lib.Seq.{length-take-le, take_all}
use borrow.Rule.Slice.PartMut.{put_mid}
use Rattle.std.specs.List.{flat_map}
use Rattle.std.proofs.lemmas.List.{take_more, flat_map_more}
use Rattle.fdt_bytes.specs.Splice.{over, splice}
use Rattle.fdt_bytes.proofs.BigEndian.{length-pieces}
use Rattle.fdt_bytes.proofs.Splice.{length-splice, lent, splice-splice}

-- the first i pieces are written, and the blob keeps its length
pub record Written {A : Type 0} (bytes : A → List ℕ) (size at : ℕ) (vs : List A) (before now : List ℕ) (i : ℕ) : Type 0 where
  pub within : i ≤ length vs
  pub kept : length now ≡ length before
  pub blob_is : now ≡ splice at (flat_map bytes (take i vs)) before

module _ {A : Type 0} {bytes : A → List ℕ} {size at : ℕ} {vs : List A} where
  pub written_none : {before : List ℕ} → Written bytes size at vs before before 0
  unfolding splice over
  written_none {before} =
      record { within = omega arith; kept = refl; blob_is = sym (take-append-drop at before) }

  pub written_all : {before now : List ℕ} {i : ℕ} → Written bytes size at vs before now i → length vs ≤ i → now ≡ splice at (flat_map bytes vs) before
  written_all {before} {i = i} w h =
      w.blob_is ∙ ap (λ (l : List A). splice at (flat_map bytes l) before) (take_all i vs h)

  -- the turn that writes one, the piece at i, to the front of the part that follows the pieces before it
  pub written-more : {before now part : List ℕ} {i to : ℕ} {one : A} → ((x : A) → length (bytes x) ≡ size) → at + size * length vs ≤ length before → Written bytes size at vs before now i → i < length vs → to ≡ at + size * i → one ≡ get_or vs i one → part ≡ over (bytes one) (take (length now - to) (drop to now)) → Written bytes size at vs before (put_mid to (length now - to) now part) (i + 1)
  written-more {before} {now} {part} {i} {to} {one} sized room w h e is p =
      let first = flat_map bytes (take i vs) in
      let next : size * (i + 1) ≡ size * i + size = rw (add-one i) (mul-suc size i) in
      let more : i + 1 ≤ length vs = omega arith in
      let fits : to + size ≤ length before = omega (arith, mul-le-mul_left size more) in
      let ends : length first ≡ size * i = length-pieces bytes size sized (take i vs) ∙ ap (λ (n : ℕ). size * n) (length-take-le i vs w.within) in
      let grown : take i vs ++ one ∷ [] ≡ take (i + 1) vs = ap (λ (x : A). take i vs ++ x ∷ []) is ∙ sym (take_more vs i one h) in
      let put : put_mid to (length now - to) now part ≡ splice to (bytes one) now = lent to (bytes one) now part (omega (arith, w.kept)) p in
      record {
        within = omega arith;
        kept = ap length put ∙ length-splice to (bytes one) now (omega (arith, sized one, w.kept)) ∙ w.kept;
        blob_is =
            put
            ∙ ap (splice to (bytes one)) w.blob_is
            ∙ splice-splice at to first (bytes one) before (ap (λ (n : ℕ). at + n) ends ∙ sym e) (omega arith)
            ∙ ap (λ (l : List ℕ). splice at l before) (flat_map_more bytes [] (take i vs) one ∙ ap (flat_map bytes) grown);
      }
