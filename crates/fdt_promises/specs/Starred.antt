-- The starred cases of document 01, "Cases at the edges": one table over the definitions of the calls' outcomes.
use Rattle.std.specs.Prelude.{Bool, true, ◌&&◌, List, [], ◌∷◌, ℕ, ◌-◌, ◌^◌, eqb, take, drop, replicate}
use Rattle.fdt_bytes.specs.BigEndian.{cell_bytes}
use Rattle.fdt_strings.specs.Entries.{same}
use Rattle.fdt_values.specs.Value.{raw}
use Rattle.fdt_record.specs.declared.Record.{Record}
use Rattle.fdt_record.specs.Answers.{number_of}
use Rattle.fdt_record.specs.Fields.{with_depth}
use Rattle.fdt_opening.specs.Opening.{opening, opening_blob, opened_record}
use Rattle.fdt_nodes.specs.Begin.{begin, begun_record}
use Rattle.fdt_properties.specs.Property.{property}
use Rattle.fdt_finish.specs.Finish.{finish, finish_blob}
use Rattle.fdt_finish.specs.Shown.{shown}
use Rattle.fdt_promises.specs.Examples.{dirty, empty_words}

-- a case: a number that a call answers, or a list, of bytes that it leaves or of what calls answer one after the other; and what it
-- must be
pub data StarredCase : Type 0 where
  answers : ℕ → ℕ → StarredCase
  leaves : List ℕ → List ℕ → StarredCase

-- the two are the same
unfoldable pub holds : StarredCase → Bool
holds (answers given expected) = eqb given expected
holds (leaves given expected) = same given expected

-- every case of the table holds
unfoldable pub all_hold : List StarredCase → Bool
all_hold [] = true
all_hold (c ∷ cs) = holds c && all_hold cs

-- the record of a fresh writer over buffers of 256 bytes, 64 bytes and 4 entries
unfoldable pub fresh : Record
fresh = opened_record 256 64 4 []

-- the number that begin answers for a name, at a depth
unfoldable pub begin_gives : ℕ → List ℕ → ℕ
begin_gives depth name = number_of (begin (with_depth depth fresh) (dirty 256) name).answer

-- the number that property answers for a name, in a node with an empty name
unfoldable pub property_in : List ℕ → ℕ
property_in name = number_of (property (begun_record fresh []) (dirty 256) (dirty 64) name (raw [])).answer

-- the number that opening answers for reservations, address and size in turn
unfoldable pub open_with : List ℕ → ℕ
open_with numbers = number_of (opening 256 64 4 numbers).answer

-- the record after opening with no reservations over n bytes
unfoldable pub opened_over : ℕ → Record
opened_over n = (opening n 0 0 []).after

-- the blob then
unfoldable pub opened_blob : ℕ → List ℕ
opened_blob n = opening_blob (dirty n) 0 0 []

-- the number that finish answers after an empty run over n bytes
unfoldable pub empty_run : ℕ → ℕ
empty_run n = number_of (finish (opened_over n) n []).answer

-- the blob that is shown then
unfoldable pub empty_blob : ℕ → List ℕ
empty_blob n = shown (finish (opened_over n) n []).after (finish_blob (opened_over n) (opened_blob n) [])

-- the name `a` followed by n times `b`
unfoldable pub long : ℕ → List ℕ
long n = 97 ∷ replicate n 98

-- the largest number of 64 bits
unfoldable pub last : ℕ
last = 2 ^ 64 - 1

-- the starred cases, in document 01's order, with the two that continue one: begin at depth 64, and 59 bytes lent
unfoldable pub starred : List StarredCase
starred =
    -- base name of 31 bytes taken, 32 refused 10; a@ taken; @1 and 1a refused 10
    answers (begin_gives 0 (long 30)) 0
    ∷ answers (begin_gives 0 (long 31)) 10
    ∷ answers (begin_gives 0 (97 ∷ 64 ∷ [])) 0
    ∷ answers (begin_gives 0 (64 ∷ 49 ∷ [])) 10
    ∷ answers (begin_gives 0 (49 ∷ 97 ∷ [])) 10
    -- node name a with a byte 0: 5; at depth 64 the same: 12
    ∷ answers (begin_gives 0 (97 ∷ 0 ∷ [])) 5
    ∷ answers (begin_gives 64 (97 ∷ 0 ∷ [])) 12
    -- property name ? taken; a@ refused 11
    ∷ answers (property_in (63 ∷ [])) 0
    ∷ answers (property_in (97 ∷ 64 ∷ [])) 11
    -- reservation (2^64 - 1, 1): 8; (2^64 - 2, 1) taken
    ∷ answers (open_with (last ∷ 1 ∷ [])) 8
    ∷ answers (open_with ((last - 1) ∷ 1 ∷ [])) 0
    -- (4096, 4096) then (0, 4096): taken, order kept; (4096, 4096) then (0, 4097): 9
    ∷ answers (open_with (4096 ∷ 4096 ∷ 0 ∷ 4096 ∷ [])) 0
    ∷ leaves (take 32 (drop 40 (opening_blob (dirty 88) 0 0 (4096 ∷ 4096 ∷ 0 ∷ 4096 ∷ [])))) (cell_bytes 8 (4096 ∷ 4096 ∷ 0 ∷ 4096 ∷ []))
    ∷ answers (open_with (4096 ∷ 4096 ∷ 0 ∷ 4097 ∷ [])) 9
    -- empty run, whole blob of 60 bytes, in words; with 59 bytes lent, opening is taken and finish refused 14
    ∷ answers (empty_run 60) 0
    ∷ leaves (empty_blob 60) (cell_bytes 4 empty_words)
    ∷ answers (number_of (opening 59 0 0 []).answer) 0
    ∷ answers (empty_run 59) 14
    ∷ []
