-- The cases of document 02's request 4/14, in one table: what each call of a list answers, one after the other.
use Rattle.std.specs.Prelude.{List, [], ◌∷◌, ℕ, ◌+◌, ◌*◌, length, replicate}
use Rattle.fdt_bytes.specs.BigEndian.{cell_bytes}
use Rattle.fdt_bytes.specs.Splice.{splice}
use Rattle.fdt_record.specs.Answers.{number_of}
use Rattle.fdt_record.specs.Fields.{with_used_blob, with_used_strings, with_start}
use Rattle.fdt_opening.specs.Opening.{closed_record}
use Rattle.fdt_calls.specs.Calls.{Call, new, set_boot_cpuid_phys, begin_node, end_node, property, property_null, property_string, property_phandle, finish, asks, Desk, with_writer, answer, after}
use Rattle.fdt_promises.specs.Examples.{dirty}
use Rattle.fdt_promises.specs.Starred.{StarredCase, answers, leaves}

-- the names `a` and `b`
unfoldable pub a : List ℕ
a = 97 ∷ []

unfoldable pub b : List ℕ
b = 98 ∷ []

-- what calls answer, one after the other
unfoldable pub numbers : List Call → Desk → List ℕ
numbers [] s = []
numbers (c ∷ cs) s = number_of (answer (asks c) s) ∷ numbers cs (after (asks c) s)

-- a writer with one node begun, over buffers of 128 bytes, so many bytes and 4 entries; 64 bytes of the blob are used
unfoldable pub in_node : ℕ → Desk
in_node room =
    after (asks (begin_node [])) (after (asks new) (record { writer = closed_record; blob = dirty 128; strings = dirty room; phandles = dirty 4 }))

-- what calls answer there
unfoldable pub answers_in_node : List Call → List ℕ
answers_in_node calls = numbers calls (in_node 16)

-- what a call answers if the record says that the node's properties start here
unfoldable pub started_at : ℕ → Call → ℕ
started_at start c = number_of (answer (asks c) (with_writer (with_start start (in_node 16).writer) (in_node 16)))

-- what a property `a` answers if these words are used after the node's begin, and these strings
unfoldable pub over_words : (words strings : List ℕ) → ℕ
over_words words strings =
    let s : Desk = in_node 16 in
    number_of (answer (asks (property_null a)) (record {
      writer = with_used_strings (length strings) (with_used_blob (64 + 4 * length words) s.writer);
      blob = splice 64 (cell_bytes 4 words) s.blob;
      strings = splice 0 strings s.strings;
      phandles = s.phandles;
    }))

-- the cases
unfoldable pub cases20 : List StarredCase
cases20 =
    -- the same name twice: 20, also after another
    leaves (answers_in_node (property_null a ∷ property_null a ∷ [])) (0 ∷ 20 ∷ [])
    ∷ leaves (answers_in_node (property_null a ∷ property_null b ∷ property_null a ∷ property_null b ∷ [])) (0 ∷ 0 ∷ 20 ∷ 20 ∷ [])
    -- in a child and in the next sibling: taken
    ∷ leaves (answers_in_node (property_null a ∷ begin_node a ∷ property_null a ∷ end_node 2 ∷ begin_node b ∷ property_null a ∷ [])) (0 ∷ 0 ∷ 0 ∷ 0 ∷ 0 ∷ 0 ∷ [])
    -- after a refused attempt: taken
    ∷ leaves (answers_in_node (property_string a (0 ∷ []) ∷ property a (replicate 64 1) ∷ property_null a ∷ [])) (5 ∷ 14 ∷ 0 ∷ [])
    -- full strings and a duplicate: 20, not 15; full strings and a new name: 15
    ∷ leaves (numbers (property_null a ∷ property_null a ∷ property_null b ∷ []) (in_node 2)) (0 ∷ 20 ∷ 15 ∷ [])
    -- no room in the blob and a duplicate: 20, not 14; after an end: 2
    ∷ leaves (answers_in_node (property_null a ∷ property a (replicate 64 1) ∷ end_node 1 ∷ property_null a ∷ [])) (0 ∷ 20 ∷ 0 ∷ 2 ∷ [])
    -- a second phandle: 20, and its value is recorded
    ∷ leaves (answers_in_node (property_phandle 7 ∷ property_phandle 8 ∷ begin_node a ∷ property_phandle 8 ∷ property_phandle 9 ∷ [])) (0 ∷ 20 ∷ 0 ∷ 13 ∷ 0 ∷ [])
    -- where properties start: no multiple of 4, before the structure, above the used length: 17; either bound: taken
    ∷ answers (started_at 62 (property_null a)) 17
    ∷ answers (started_at 52 (property_null a)) 17
    ∷ answers (started_at 68 (property_null a)) 17
    ∷ answers (started_at 56 (property_null a)) 0
    ∷ answers (started_at 64 (property_null a)) 0
    -- it is tested by the calls that are lent the blob
    ∷ answers (started_at 62 (begin_node a)) 17
    ∷ answers (started_at 62 (end_node 1)) 17
    ∷ answers (started_at 62 (property_phandle 1)) 17
    ∷ answers (started_at 62 finish) 17
    ∷ answers (started_at 62 (set_boot_cpuid_phys 1)) 0
    -- a property with the name's offset: 20; after a word 4, or if it is cut off, or no property: taken
    ∷ answers (over_words (3 ∷ 0 ∷ 0 ∷ []) (97 ∷ 0 ∷ [])) 20
    ∷ answers (over_words (4 ∷ 3 ∷ 0 ∷ 0 ∷ []) (97 ∷ 0 ∷ [])) 0
    ∷ answers (over_words (3 ∷ 1 ∷ 0 ∷ []) (97 ∷ 0 ∷ [])) 0
    ∷ answers (over_words (3 ∷ 0xffffffff ∷ 0 ∷ []) (97 ∷ 0 ∷ [])) 0
    ∷ answers (over_words (2 ∷ 0 ∷ 0 ∷ []) (97 ∷ 0 ∷ [])) 0
    -- after a property with a padded value: 20
    ∷ answers (over_words (3 ∷ 1 ∷ 9 ∷ 0x01000000 ∷ 3 ∷ 0 ∷ 0 ∷ []) (97 ∷ 0 ∷ [])) 20
    -- a name that is not stored: taken, whatever offset is recorded
    ∷ answers (over_words (3 ∷ 0 ∷ 0 ∷ []) []) 0
    -- of two entries that are the name, the first one's offset counts
    ∷ answers (over_words (3 ∷ 0 ∷ 0 ∷ []) (97 ∷ 0 ∷ 97 ∷ 0 ∷ [])) 20
    ∷ answers (over_words (3 ∷ 0 ∷ 2 ∷ []) (97 ∷ 0 ∷ 97 ∷ 0 ∷ [])) 0
    ∷ []
