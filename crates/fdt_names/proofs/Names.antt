-- Laws of `specs/Names.antt`: a loop decides `one_of`, and a node name is tested by the parts before and after its first @.
use Prim.Native.Nat.{ℕ, zero, suc, ◌+◌, ◌-◌, ◌<◌}
use native.Mathlib.Numerals.{add-one, one-add}
use native.Mathlib.Omega.{arith}
use mathlib.Core.Path.{◌≡◌, refl, sym, ◌∙◌}
use mathlib.Core.Bool.{Bool, true, false, not, cond, ◌&&◌, ◌||◌, or-false, and_assoc}
use mathlib.Core.List.{List, [], ◌∷◌}
use lib.Dec.{eqb, leb, ltb, leb-zero, leb-suc-zero, leb-suc-suc}
use lib.ListN.{length, get_or, take, drop}
use borrow.Author.Tests.{eqb-true, ltb-false}
use Rattle.std.specs.Char.{is_ascii_alphanumeric}
use Rattle.std.specs.List.{position_or_len, position}
use Rattle.std.specs.Option.{unwrap_or}
use Rattle.std.specs.Prelude.{Option, Some, None}
use Rattle.std.proofs.lemmas.List.Sums.{prefix_len-le-length}
use Rattle.std.proofs.lemmas.List.Recursion.{is_position_or_len}
use Rattle.fdt_names.specs.Grammar.{Grammar, empty, from_to, any, ◌then◌, ◌or◌, all, in_two, matches}
use Rattle.fdt_names.specs.Index.{index_after, index_of}
use Rattle.fdt_names.specs.Names.{is, one_of, letter, digit, name_byte, node_byte, node_name, unit_address, has_zero}
use Rattle.fdt_names.proofs.Grammar.{and_swap, none_then, more_then, one_then}

-- letters and digits as the standard library orders them, then a mark
pub letter_or_digit : (b : ℕ) (mark : Bool) → (is_ascii_alphanumeric b || mark) ≡ (letter b || (digit b || mark))
unfolding letter digit
letter_or_digit b mark = swap (leb 48 b && leb b 57) (leb 65 b && leb b 90) (leb 97 b && leb b 122) mark
  where
    swap : (d u l m : Bool) → (((d || u) || l) || m) ≡ ((u || l) || (d || m))
    swap true true l m = refl
    swap true false true m = refl
    swap true false false m = refl
    swap false u l m = refl

not_and : (a b : Bool) → not (not a && b) ≡ (a || not b)
not_and true b = refl
not_and false b = refl

pub has_zero_lem : (s : List ℕ) → one_of s 0 ≡ has_zero s
unfolding one_of has_zero all
has_zero_lem [] = refl
has_zero_lem (b ∷ s) = sym (not_and (eqb b 0) _ ∙ rw (← has_zero_lem s))

-- what may follow the first byte of a node name, with room for m bytes before the @
unfoldable rest : ℕ → Grammar
rest m = from_to 0 m node_byte then (empty or unit_address)

-- such a rest, with k bytes before its first @ or its end
unfoldable parts : ℕ → ℕ → List ℕ → Bool
parts m k s = leb k m && (all node_byte (take k s) && all node_byte (drop (suc k) s))

address : (b : ℕ) (s : List ℕ) → matches (empty or unit_address) (b ∷ s) ≡ (is 64 b && all node_byte s)
unfolding unit_address matches
address b s = one_then (is 64) (any node_byte) b s

rest_full : (b : ℕ) (s : List ℕ) → matches (rest 0) (b ∷ s) ≡ (is 64 b && all node_byte s)
unfolding rest
rest_full b s = none_then node_byte (empty or unit_address) (b ∷ s) ∙ address b s

rest_room : (m b : ℕ) (s : List ℕ) → matches (rest (suc m)) (b ∷ s) ≡ (is 64 b && all node_byte s || node_byte b && matches (rest m) s)
unfolding rest
rest_room m b s = more_then node_byte (empty or unit_address) m b s ∙ rw address

rest_at : (m : ℕ) (s : List ℕ) → matches (rest m) (64 ∷ s) ≡ parts m 0 (64 ∷ s)
unfolding parts all is node_byte name_byte letter digit one_of
rest_at zero s = rest_full 64 s
rest_at (suc m) s = rest_room m 64 s ∙ simp (or-false, leb-zero)

module _ (b : ℕ) (s : List ℕ) (by_parts : (m : ℕ) → matches (rest m) s ≡ parts m (index_of 64 s) s) where
  at_first : (t : Bool) → eqb b 64 ≡ t → (m : ℕ) → matches (rest m) (b ∷ s) ≡ parts m (index_after t (index_of 64 s)) (b ∷ s)
  unfolding index_after parts all is
  at_first true e m = rw (eqb-true b 64 e) (rest_at m s)
  at_first false e zero = rest_full b s ∙ simp (e, leb-suc-zero)
  at_first false e (suc m) =
      rest_room m b s ∙ simp (e, by_parts m, leb-suc-suc, and_assoc, and_swap (leb (index_of 64 s) m))

rest_parts : (s : List ℕ) (m : ℕ) → matches (rest m) s ≡ parts m (index_of 64 s) s
unfolding index_of parts rest matches in_two all
rest_parts [] m = simp leb-zero
rest_parts (b ∷ s) m = at_first b s (rest_parts s) (eqb b 64) refl m

-- the place of the first byte that is b, as the standard library has it
pub index_of-first : (b : ℕ) (s : List ℕ) → index_of b s ≡ position_or_len (λ c. eqb c b) s
unfolding index_of index_after
index_of-first b = is_position_or_len (index_of b) (λ c. eqb c b) refl (λ c s. step (eqb c b) (index_of b s))
  where
    step : (t : Bool) (k : ℕ) → index_after t k ≡ cond t 0 (1 + k)
    step true k = refl
    step false k = sym (one-add k)

-- where it is found, or the length
pub index_of-position : (b : ℕ) (s : List ℕ) {o : Option ℕ} → o ≡ position (λ c. eqb c b) s → unwrap_or o (length s) ≡ index_of b s
index_of-position b s e = rw e (at (ltb k (length s)) refl ∙ sym (index_of-first b s))
  where
    k : ℕ
    k = position_or_len (λ c. eqb c b) s

    at : (t : Bool) → ltb k (length s) ≡ t → unwrap_or (cond t (Some k) None) (length s) ≡ k
    at true e = refl
    at false e = omega (arith, ltb-false k (length s) e, prefix_len-le-length (λ c. not (eqb c b)) s)

-- a node name, cut at its first @ after the first byte or at its end
pub name_parts :
    (s : List ℕ) {at : ℕ} →
    0 < length s →
    at ≡ 1 + index_of 64 (drop 1 s) →
    matches node_name s ≡ (letter (get_or s 0 0) && (leb at 31 && (all node_byte (take (at - 1) (drop 1 s)) && all node_byte (drop (at + 1) s))))
unfolding node_name rest parts
name_parts [] h e = absurd (omega arith)
name_parts (b ∷ s) {at} h e =
    let k = index_of 64 s in
    let found : at ≡ suc k = e ∙ rw one-add in
    let before : suc k - 1 ≡ k = omega arith in
    one_then letter (rest 30) b s ∙ simp (rest_parts, found, before, add-one, leb-suc-suc k 30)
