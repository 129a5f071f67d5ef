-- Laws of `specs/Grammar.antt`: what `in_two` means, a loop over every byte, and a match by its first byte.
use Prim.Native.Nat.{ℕ, suc}
use mathlib.Core.Path.{◌≡◌, refl, ap, ◌∙◌}
use mathlib.Core.Bool.{Bool, true, false, ◌&&◌, ◌||◌, and-eq-true_iff, and-false, or-false, or-true}
use mathlib.Core.List.{List, [], ◌∷◌, ◌++◌}
use mathlib.Core.Logic.{◌⊎◌, inl, inr, ◌↔◌}
use lib.Dec.{leb, leb-zero, leb-suc-zero, leb-suc-suc, eqb-suc-zero}
use lib.ListN.{length}
use Rattle.fdt_names.specs.Grammar.{Grammar, empty, from_to, ◌then◌, ◌or◌, all, in_two, matches}

-- s in two parts: the first passes p, and the rest passes q
pub record Cut (p q : List ℕ → Bool) (s : List ℕ) : Type 0 where
  pub front : List ℕ
  pub back : List ℕ
  pub joined : s ≡ front ++ back
  pub passes_p : p front ≡ true
  pub passes_q : q back ≡ true

either : (a b : Bool) → (a || b) ≡ true → (a ≡ true) ⊎ (b ≡ true)
either true b h = inl refl
either false b h = inr h

cut : (p q : List ℕ → Bool) (s : List ℕ) → in_two p q s ≡ true → Cut p q s
unfolding in_two
cut p q [] h =
    let w = (and-eq-true_iff (p []) (q [])).0 h in
    record { front = []; back = []; joined = refl; passes_p = w.0; passes_q = w.1 }
cut p q (b ∷ s) h = elim (either (p [] && q (b ∷ s)) (in_two (λ front. p (b ∷ front)) q s) h) [
  | inl here ↦
      let w = (and-eq-true_iff (p []) (q (b ∷ s))).0 here in
      record { front = []; back = b ∷ s; joined = refl; passes_p = w.0; passes_q = w.1 }
  | inr later ↦
      let w = cut (λ front. p (b ∷ front)) q s later in
      record { front = b ∷ w.front; back = w.back; joined = ap (λ l. b ∷ l) w.joined; passes_p = w.passes_p; passes_q = w.passes_q }
]

uncut : (p q : List ℕ → Bool) (a b : List ℕ) → p a ≡ true → q b ≡ true → in_two p q (a ++ b) ≡ true
unfolding in_two
uncut p q [] [] e f = simp (e, f)
uncut p q [] (x ∷ b) e f = simp (e, f)
uncut p q (x ∷ a) b e f = simp (uncut (λ front. p (x ∷ front)) q a b e f, or-true)

-- `in_two` is true exactly when there is such a cut
pub in_two-means : (p q : List ℕ → Bool) (s : List ℕ) → in_two p q s ≡ true ↔ Cut p q s
in_two-means p q s = (
  cut p q s,
  λ c. rw c.joined (uncut p q c.front c.back c.passes_p c.passes_q),
)

in_two_none : (q : List ℕ → Bool) (s : List ℕ) → in_two (λ front. false) q s ≡ false
unfolding in_two
in_two_none q [] = refl
in_two_none q (b ∷ s) = in_two_none q s

-- a test that does not depend on the front can be made first
in_two_and : (t : Bool) (p q : List ℕ → Bool) (s : List ℕ) → in_two (λ front. t && p front) q s ≡ (t && in_two p q s)
in_two_and true p q s = refl
in_two_and false p q s = in_two_none q s

pub and_swap : (c a d : Bool) → (a && (c && d)) ≡ (c && (a && d))
and_swap true a d = refl
and_swap false a d = and-false a

-- bytes of a class and then g
module _ (class : ℕ → Bool) (g : Grammar) where
  pub none_then : (s : List ℕ) → matches (from_to 0 0 class then g) s ≡ matches g s
  unfolding matches in_two all
  none_then [] = refl
  none_then (b ∷ s) = simp (leb-zero, leb-suc-zero) (ap (λ t. matches g (b ∷ s) || t) (in_two_none (matches g) s) ∙ or-false _)

  first_then :
      (l m b : ℕ) (s : List ℕ) →
      matches (from_to (suc l) (suc m) class then g) (b ∷ s) ≡ (class b && matches (from_to l m class then g) s)
  unfolding matches in_two all
  first_then l m b s =
      simp (leb-suc-zero, leb-suc-suc, and_swap (class b)) (in_two_and (class b) (matches (from_to l m class)) (matches g) s)

  pub more_then :
      (m b : ℕ) (s : List ℕ) →
      matches (from_to 0 (suc m) class then g) (b ∷ s) ≡ (matches g (b ∷ s) || (class b && matches (from_to 0 m class then g) s))
  unfolding matches in_two all
  more_then m b s =
      simp (leb-zero, leb-suc-suc, and_swap (class b))
      (ap (λ t. matches g (b ∷ s) || t) (in_two_and (class b) (λ front. leb (length front) m && all class front) (matches g) s))

  pub one_then : (b : ℕ) (s : List ℕ) → matches (empty or from_to 1 1 class then g) (b ∷ s) ≡ (class b && matches g s)
  unfolding matches
  one_then b s = simp eqb-suc-zero (first_then 0 0 b s ∙ ap (λ t. class b && t) (none_then s))
