-- Runs of document 01, "Cases at the edges", with the whole blob of each, in words.
use Rattle.std.specs.Prelude.{List, [], ◌∷◌, ℕ, replicate}
use Rattle.fdt_opening.specs.Opening.{closed_record}
use Rattle.fdt_calls.specs.Calls.{Call, begin_node, end_node, property_u32, Desk}

-- a buffer with earlier contents
unfoldable pub dirty : ℕ → List ℕ
dirty n = replicate n 238

-- a closed record, and buffers of 128 bytes, 32 bytes and 4 entries with earlier contents
unfoldable pub lent_desk : Desk
lent_desk = record { writer = closed_record; blob = dirty 128; strings = dirty 32; phandles = dirty 4 }

-- the calls of the empty run, between opening and finish
unfoldable pub empty_calls : List Call
empty_calls = []

-- its blob of 60 bytes
unfoldable pub empty_words : List ℕ
empty_words = 0xd00dfeed ∷ 0x3c ∷ 0x38 ∷ 0x3c ∷ 0x28 ∷ 0x11 ∷ 0x10 ∷ 0 ∷ 0 ∷ 4 ∷ 0 ∷ 0 ∷ 0 ∷ 0 ∷ 9 ∷ []

-- the calls of the run with one node, with an empty name and `reg` = u32 1
unfoldable pub node_calls : List Call
node_calls = begin_node [] ∷ property_u32 (114 ∷ 101 ∷ 103 ∷ []) 1 ∷ end_node 1 ∷ []

-- its blob of 92 bytes; the last word is the bytes 72 65 67 00
unfoldable pub node_words : List ℕ
node_words =
    0xd00dfeed ∷ 0x5c ∷ 0x38 ∷ 0x58 ∷ 0x28 ∷ 0x11 ∷ 0x10 ∷ 0 ∷ 4 ∷ 0x20
    ∷ 0 ∷ 0 ∷ 0 ∷ 0
    ∷ 1 ∷ 0 ∷ 3 ∷ 4 ∷ 0 ∷ 1 ∷ 2 ∷ 9
    ∷ 0x72656700
    ∷ []
