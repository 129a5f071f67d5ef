-- Grammars of bytes, and when bytes match a grammar.
use Rattle.std.specs.Prelude.{ℕ, Bool, ◌&&◌, ◌||◌, List, [], ◌∷◌, length, eqb, leb}
use Rattle.std.specs.List.{list_all}

infixr 30 ◌then◌
infixr 20 ◌or◌
-- a grammar; a class of bytes is a test of one byte
pub data Grammar : Type 0 where
  -- no byte at all
  empty : Grammar
  -- from a least to a greatest number of bytes of a class
  from_to : ℕ → ℕ → (ℕ → Bool) → Grammar
  -- any number of bytes of a class
  any : (ℕ → Bool) → Grammar
  -- one grammar and then another
  ◌then◌ : Grammar → Grammar → Grammar
  -- one grammar or another
  ◌or◌ : Grammar → Grammar → Grammar

-- every byte is of the class
unfoldable pub all : (ℕ → Bool) → List ℕ → Bool
all class s = list_all class s

-- s can be cut in two so that the first part passes p and the rest passes q
unfoldable pub in_two : (List ℕ → Bool) → (List ℕ → Bool) → List ℕ → Bool
in_two p q [] = p [] && q []
in_two p q (b ∷ s) = (p [] && q (b ∷ s)) || in_two (λ front. p (b ∷ front)) q s

-- the bytes match the grammar
unfoldable pub matches : Grammar → List ℕ → Bool
matches empty s = eqb (length s) 0
matches (from_to least most class) s = leb least (length s) && (leb (length s) most && all class s)
matches (any class) s = all class s
matches (g then h) s = in_two (matches g) (matches h) s
matches (g or h) s = matches g s || matches h s
