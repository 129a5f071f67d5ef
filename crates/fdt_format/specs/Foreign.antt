-- Blobs that our writer does not make, and what the reading says of each: made by hand from document 01, "How a blob is read", and
-- document 02, request 3/14.
-- A blob that is refused breaks one rule. Without that rule it would be read, or at least its walk would not stop.
use Rattle.std.specs.Prelude.{◌≡◌, Bool, true, false, List, [], ◌∷◌, ◌++◌, ℕ, zero, suc, ◌+◌, ◌*◌, length, set}
use Rattle.std.proofs.Math.Option.{Option, none, some}
use Rattle.fdt_bytes.specs.BigEndian.{cell_bytes}
use Rattle.fdt_format.specs.declared.Step.{Step}
use Rattle.fdt_format.specs.declared.Step.TheVariants as step
use Rattle.fdt_format.specs.declared.Unreadable.{Unreadable}
use Rattle.fdt_format.specs.declared.Unreadable.TheVariants.{Structure, NameOffset}
use Rattle.fdt_format.specs.Description.{◌≔◌, Nodes, no_more, node, reservation, Description}
use Rattle.fdt_format.specs.Step.{step_at}
use Rattle.fdt_format.specs.Walk.{bad, walk, walk_start}
use Rattle.fdt_format.specs.Reading.{areas_of, good_words, reading}

infix 20 ◌reads◌ ◌stops◌ ◌good-words◌
pub data ForeignCase : Type 0 where
  -- a blob, and what it is read as
  ◌reads◌ : List ℕ → Option Description → ForeignCase
  -- a blob that is not read, and the refusal that stops the walk through its structure
  ◌stops◌ : List ℕ → Unreadable → ForeignCase
  -- a blob, and whether its length, magic, total size and versions are right
  ◌good-words◌ : List ℕ → Bool → ForeignCase
  -- the words of a structure, the place where it ends, and its first token
  token : List ℕ → ℕ → Step → ForeignCase

-- the first token of a structure that ends at a place; one node is open, and the strings are the same words
unfoldable pub first_token : List ℕ → ℕ → Step
first_token words end =
    step_at (cell_bytes 4 words)
    (record { reservations = 0; structure = 0; structure_end = end; strings = 0; strings_end = 4 * length words; boot = 0 })
    (record { at = 0; depth = 1; takes_property = true })

-- every case of the table holds
unfoldable pub AllRead : List ForeignCase → Type 0
AllRead [] = Unit {0}
AllRead ((bytes reads said) ∷ cases) = (reading bytes ≡ said) × AllRead cases
AllRead ((bytes stops refusal) ∷ cases) = (reading bytes ≡ none) × (walk bytes (areas_of bytes) (walk_start (areas_of bytes)) ≡ bad refusal) × AllRead cases
AllRead ((bytes good-words right) ∷ cases) = (good_words bytes ≡ right) × AllRead cases
AllRead (token words end said ∷ cases) = (first_token words end ≡ said) × AllRead cases

-- nodes alone, without reservations and with boot number 0
unfoldable pub just_nodes : Nodes → Option Description
just_nodes nodes = some (record { reservations = []; boot = 0; nodes = nodes })

-- document 01's empty blob with one of its 15 words altered
unfoldable pub altered : ℕ → ℕ → List ℕ
altered k word =
    cell_bytes 4 (set (0xd00dfeed ∷ 0x3c ∷ 0x38 ∷ 0x3c ∷ 0x28 ∷ 0x11 ∷ 0x10 ∷ 0 ∷ 0 ∷ 4 ∷ 0 ∷ 0 ∷ 0 ∷ 0 ∷ 9 ∷ []) k word)

-- a blob without reservations, whose structure and whose strings are these words
unfoldable pub only : List ℕ → List ℕ → List ℕ
only words strings =
    let size : ℕ = 4 * length words in
    let names : ℕ = 4 * length strings in
    cell_bytes 4
    (0xd00dfeed ∷ (56 + size + names) ∷ 56 ∷ (56 + size) ∷ 40 ∷ 17 ∷ 16 ∷ 0 ∷ names ∷ size
    ∷ 0 ∷ 0 ∷ 0 ∷ 0 ∷ (words ++ strings))

-- strings with the name `a` at offset 0
unfoldable pub string_a : List ℕ
string_a = 0x61000000 ∷ []

-- words of n nodes with empty names, each inside the one before, and then these words
unfoldable pub nested : ℕ → List ℕ → List ℕ
nested zero words = words
nested (suc n) words = 1 ∷ 0 ∷ nested n (2 ∷ words)

-- the nodes that those words describe
unfoldable pub nest : ℕ → Nodes
nest zero = no_more
nest (suc n) = node [] [] (nest n) no_more

-- document 01's blob of 92 bytes: a node with an empty name and `reg` = 1
unfoldable pub ninety_two : List ℕ
ninety_two =
    cell_bytes 4 (0xd00dfeed ∷ 0x5c ∷ 0x38 ∷ 0x58 ∷ 0x28 ∷ 0x11 ∷ 0x10 ∷ 0 ∷ 4 ∷ 0x20 ∷ 0 ∷ 0 ∷ 0 ∷ 0 ∷ 1 ∷ 0 ∷ 3 ∷ 4 ∷ 0 ∷ 1 ∷ 2 ∷ 9 ∷ 0x72656700 ∷ [])

-- the strings before the structure, three names in one entry `#size-cells` (its tails `size-cells` and `cells`), padding of any
-- bytes, two reservations, boot number 3
unfoldable pub tails : List ℕ
tails =
    cell_bytes 4
    (0xd00dfeed ∷ 0xb8 ∷ 0x64 ∷ 0x58 ∷ 0x28 ∷ 0x11 ∷ 0x10 ∷ 3 ∷ 0xc ∷ 0x54
    ∷ 0 ∷ 0x1000 ∷ 0 ∷ 0x1000 ∷ 0 ∷ 0 ∷ 0 ∷ 1 ∷ 0 ∷ 0 ∷ 0 ∷ 0
    ∷ 0x2373697a ∷ 0x652d6365 ∷ 0x6c6c7300
    ∷ 1 ∷ 0xaabbcc ∷ 3 ∷ 1 ∷ 0 ∷ 0x7deadbe ∷ 3 ∷ 4 ∷ 1 ∷ 5 ∷ 1 ∷ 0x6100ffff ∷ 3 ∷ 0 ∷ 6 ∷ 2 ∷ 1 ∷ 0x62403100 ∷ 2 ∷ 2 ∷ 9
    ∷ [])

-- what it describes
unfoldable pub tails_say : Description
tails_say = record {
  reservations = reservation 4096 4096 ∷ reservation 0 1 ∷ [];
  boot = 3;
  nodes =
      node []
      (((35 ∷ 115 ∷ 105 ∷ 122 ∷ 101 ∷ 45 ∷ 99 ∷ 101 ∷ 108 ∷ 108 ∷ 115 ∷ []) ≔ (7 ∷ []))
      ∷ ((115 ∷ 105 ∷ 122 ∷ 101 ∷ 45 ∷ 99 ∷ 101 ∷ 108 ∷ 108 ∷ 115 ∷ []) ≔ (0 ∷ 0 ∷ 0 ∷ 5 ∷ []))
      ∷ [])
      (node (97 ∷ []) (((99 ∷ 101 ∷ 108 ∷ 108 ∷ 115 ∷ []) ≔ []) ∷ []) no_more (node (98 ∷ 64 ∷ 49 ∷ []) [] no_more no_more))
      no_more;
}

-- areas that overlap: the strings are the whole blob, and the property's name is its node's
unfoldable pub overlap : List ℕ
overlap =
    cell_bytes 4 (0xd00dfeed ∷ 0x54 ∷ 0x38 ∷ 0 ∷ 0x28 ∷ 0x11 ∷ 0x10 ∷ 0 ∷ 0x54 ∷ 0x1c ∷ 0 ∷ 0 ∷ 0 ∷ 0 ∷ 1 ∷ 0x72656700 ∷ 3 ∷ 0 ∷ 0x3c ∷ 2 ∷ 9 ∷ [])

-- words 4 before every kind of token, and one as the value of a property
unfoldable pub fours : List ℕ
fours = only (4 ∷ 1 ∷ 0 ∷ 4 ∷ 4 ∷ 3 ∷ 4 ∷ 0 ∷ 4 ∷ 4 ∷ 1 ∷ 0x62000000 ∷ 4 ∷ 2 ∷ 4 ∷ 2 ∷ 4 ∷ 1 ∷ 0 ∷ 2 ∷ 4 ∷ 9 ∷ []) string_a

-- the table
unfoldable pub foreign : List ForeignCase
foreign =
    -- what is read
    (altered 14 9 reads just_nodes no_more)
    ∷ (ninety_two reads just_nodes (node [] (((114 ∷ 101 ∷ 103 ∷ []) ≔ (0 ∷ 0 ∷ 0 ∷ 1 ∷ [])) ∷ []) no_more no_more))
    ∷ (tails reads some tails_say)
    ∷ (overlap reads just_nodes (node (114 ∷ 101 ∷ 103 ∷ []) (((114 ∷ 101 ∷ 103 ∷ []) ≔ []) ∷ []) no_more no_more))
    ∷ (only (1 ∷ 0 ∷ 2 ∷ 1 ∷ 0x62000000 ∷ 2 ∷ 9 ∷ []) [] reads just_nodes (node [] [] no_more (node (98 ∷ []) [] no_more no_more)))
    ∷ (only (nested 65 (9 ∷ [])) [] reads just_nodes (nest 65))
    ∷ (only (1 ∷ 0 ∷ 3 ∷ 0 ∷ 0 ∷ 1 ∷ 0 ∷ 2 ∷ 2 ∷ 9 ∷ []) string_a reads just_nodes (node [] (((97 ∷ []) ≔ []) ∷ []) (node [] [] no_more no_more) no_more))
    ∷ (fours reads just_nodes (node [] (((97 ∷ []) ≔ (0 ∷ 0 ∷ 0 ∷ 4 ∷ [])) ∷ []) (node (98 ∷ []) [] no_more no_more) (node [] [] no_more no_more)))
    ∷ (only (4 ∷ 9 ∷ []) [] reads just_nodes no_more)
    -- a name twice in a node, which our writer refuses: both properties are read
    ∷ (only (1 ∷ 0 ∷ 3 ∷ 0 ∷ 0 ∷ 3 ∷ 4 ∷ 0 ∷ 1 ∷ 2 ∷ 9 ∷ []) string_a reads just_nodes (node [] (((97 ∷ []) ≔ []) ∷ ((97 ∷ []) ≔ (0 ∷ 0 ∷ 0 ∷ 1 ∷ [])) ∷ []) no_more no_more))
    -- at least 40 bytes (a shorter blob would not be read anyway: these words leave no room for an all-zero pair)
    ∷ (cell_bytes 4 (0xd00dfeed ∷ 0x1c ∷ 0 ∷ 0 ∷ 0 ∷ 0x11 ∷ 0x10 ∷ []) good-words false)
    -- magic, total size, versions
    ∷ (altered 0 0xd00dfeee reads none)
    ∷ (altered 1 0x3d reads none)
    ∷ (altered 1 0x3b reads none)
    ∷ (altered 5 16 reads none)
    ∷ (altered 5 18 reads none)
    ∷ (altered 6 15 reads none)
    ∷ (altered 6 17 reads none)
    -- reservations at a multiple of 8, structure at a multiple of 4, structure inside, strings inside
    ∷ (cell_bytes 4 (0xd00dfeed ∷ 0x40 ∷ 0x3c ∷ 0x40 ∷ 0x2c ∷ 0x11 ∷ 0x10 ∷ 0 ∷ 0 ∷ 4 ∷ 0 ∷ 0 ∷ 0 ∷ 0 ∷ 0 ∷ 9 ∷ []) reads none)
    ∷ (cell_bytes 4 (0xd00dfeed ∷ 0x40 ∷ 0x39 ∷ 0x40 ∷ 0x28 ∷ 0x11 ∷ 0x10 ∷ 0 ∷ 0 ∷ 4 ∷ 0 ∷ 0 ∷ 0 ∷ 0 ∷ 0 ∷ 0x09000000 ∷ []) reads none)
    ∷ (cell_bytes 4 (0xd00dfeed ∷ 0x3d ∷ 0x3c ∷ 0x3c ∷ 0x28 ∷ 0x11 ∷ 0x10 ∷ 0 ∷ 0 ∷ 4 ∷ 0 ∷ 0 ∷ 0 ∷ 0 ∷ 0 ∷ []) ++ (9 ∷ []) reads none)
    ∷ (altered 8 1 reads none)
    -- an all-zero pair ends the reservations and lies inside: not zero; past the end; cut off by the end
    ∷ (altered 13 1 reads none)
    ∷ (altered 4 64 reads none)
    ∷ (cell_bytes 4 (0xd00dfeed ∷ 0x3c ∷ 0x28 ∷ 0x3c ∷ 0x30 ∷ 0x11 ∷ 0x10 ∷ 0 ∷ 0 ∷ 4 ∷ 9 ∷ 0 ∷ 0 ∷ 0 ∷ 0 ∷ []) reads none)
    -- word 9 comes last, at the structure's end, with no node open; word 2 ends an open node; no word except 1, 2, 3, 4 and 9
    ∷ (only (1 ∷ 0 ∷ 2 ∷ []) [] stops Structure)
    ∷ (only (9 ∷ 9 ∷ []) [] stops Structure)
    ∷ (only (1 ∷ 0 ∷ 9 ∷ []) [] stops Structure)
    ∷ (only (2 ∷ 9 ∷ []) [] stops Structure)
    ∷ (only (0 ∷ 0 ∷ 2 ∷ 9 ∷ []) [] stops Structure)
    ∷ (only (1 ∷ 0 ∷ 0 ∷ 9 ∷ []) [] stops Structure)
    ∷ (only (4 ∷ []) [] stops Structure)
    ∷ (only (1 ∷ 0 ∷ 2 ∷ 4 ∷ []) [] stops Structure)
    ∷ (only (0 ∷ 9 ∷ []) [] stops Structure)
    ∷ (only (5 ∷ 9 ∷ []) [] stops Structure)
    ∷ (only (10 ∷ []) [] stops Structure)
    -- a property inside a node and before its children; an offset inside the strings, and a 0 from there on
    ∷ (only (3 ∷ 0 ∷ 0 ∷ 9 ∷ []) string_a stops Structure)
    ∷ (only (1 ∷ 0 ∷ 1 ∷ 0 ∷ 2 ∷ 3 ∷ 0 ∷ 0 ∷ 2 ∷ 9 ∷ []) string_a stops Structure)
    ∷ (only (1 ∷ 0 ∷ 1 ∷ 0 ∷ 2 ∷ 4 ∷ 3 ∷ 0 ∷ 0 ∷ 2 ∷ 9 ∷ []) string_a stops Structure)
    ∷ (only (1 ∷ 0 ∷ 3 ∷ 0 ∷ 4 ∷ 2 ∷ 9 ∷ []) string_a stops NameOffset)
    ∷ (only (1 ∷ 0 ∷ 3 ∷ 0 ∷ 0 ∷ 2 ∷ 9 ∷ []) (0x61616161 ∷ []) stops NameOffset)
    -- a token ends inside the structure, with its name or value and the padding (in a whole blob, the next token would be refused too)
    ∷ token (2 ∷ []) 4 (step.Entry (record { token = 2; place = 0; name = 0; size = 0 }) (record { at = 4; depth = 0; takes_property = false }))
    ∷ token (2 ∷ []) 3 (step.Bad Structure)
    ∷ token (4 ∷ []) 4 step.Skip
    ∷ token (4 ∷ []) 3 (step.Bad Structure)
    ∷ token (1 ∷ 0x61000000 ∷ []) 8 (step.Entry (record { token = 1; place = 0; name = 4; size = 0 }) (record { at = 8; depth = 2; takes_property = true }))
    ∷ token (1 ∷ 0x61000000 ∷ []) 7 (step.Bad Structure)
    ∷ token (1 ∷ 0x61000000 ∷ []) 5 (step.Bad Structure)
    ∷ token (3 ∷ 1 ∷ 0 ∷ 0x07000000 ∷ []) 16 (step.Entry (record { token = 3; place = 0; name = 0; size = 1 }) (record { at = 16; depth = 1; takes_property = true }))
    ∷ token (3 ∷ 1 ∷ 0 ∷ 0x07000000 ∷ []) 15 (step.Bad Structure)
    ∷ token (3 ∷ 1 ∷ 0 ∷ 0x07000000 ∷ []) 12 (step.Bad Structure)
    ∷ []
