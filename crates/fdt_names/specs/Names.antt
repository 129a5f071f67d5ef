-- The names of nodes and properties (document 01, "Names").
use Rattle.std.specs.Prelude.{ℕ, Bool, not, ◌&&◌, ◌||◌, List, [], ◌∷◌, eqb, leb}
use Rattle.std.specs.List.{list_any}
use Rattle.fdt_names.specs.Grammar.{Grammar, empty, from_to, any, ◌then◌, ◌or◌, all}

-- the byte is the given one
unfoldable pub is : ℕ → ℕ → Bool
is one b = eqb b one

-- the byte is one of the list
unfoldable pub one_of : List ℕ → ℕ → Bool
one_of s b = list_any (λ one. eqb one b) s

-- A to Z and a to z
unfoldable pub letter : ℕ → Bool
letter b = (leb 65 b && leb b 90) || (leb 97 b && leb b 122)

-- 0 to 9
unfoldable pub digit : ℕ → Bool
digit b = leb 48 b && leb b 57

-- letters, digits and the marks of a list
unfoldable pub name_byte : List ℕ → ℕ → Bool
name_byte marks b = letter b || (digit b || one_of marks b)

-- letters, digits and , . _ + -
unfoldable pub node_byte : ℕ → Bool
node_byte = name_byte (44 ∷ 46 ∷ 95 ∷ 43 ∷ 45 ∷ [])

-- letters, digits and , . _ + ? # -
unfoldable pub property_byte : ℕ → Bool
property_byte = name_byte (44 ∷ 46 ∷ 95 ∷ 43 ∷ 63 ∷ 35 ∷ 45 ∷ [])

-- one @ and any number of a node name's bytes
unfoldable pub unit_address : Grammar
unit_address = from_to 1 1 (is 64) then any node_byte

-- Node: empty, or a letter, then at most 30 of letters, digits and ,._+- , then optionally one @ and any number of those same bytes
unfoldable pub node_name : Grammar
node_name = empty or from_to 1 1 letter then from_to 0 30 node_byte then (empty or unit_address)

-- Property: 1 to 31 of letters, digits and ,._+?#-
unfoldable pub property_name : Grammar
property_name = from_to 1 31 property_byte

-- one of the bytes is 0
unfoldable pub has_zero : List ℕ → Bool
has_zero s = not (all (λ b. not (eqb b 0)) s)
