-- What `property` and the calls of its kinds answer and leave (document 01: property tests 18, 17, 2, 1, 5, 11, 15, 14;
-- string and string list 18, 17, 5 for a value, then as property; document 02, request 4/14: 20 after 11 and before 15).
use Rattle.std.specs.Prelude.{◌≡◌, Bool, true, false, not, ◌&&◌, List, [], ◌∷◌, ◌++◌, ℕ, ◌+◌, eqb, length, take, get_or, Result, Ok, Err}
use Rattle.fdt_bytes.specs.Splice.{splice}
use Rattle.fdt_names.specs.Grammar.{matches}
use Rattle.fdt_names.specs.Names.{property_name, has_zero}
use Rattle.fdt_strings.specs.declared.Interned.{Interned}
use Rattle.fdt_strings.specs.declared.Interned.TheVariants.{Known, New}
use Rattle.fdt_strings.specs.declared.StringRoom as no_room
use Rattle.fdt_strings.specs.Entries.{entry}
use Rattle.fdt_strings.specs.Interned.{interned, number_of, values_of}
use Rattle.fdt_format.specs.LookBack.{look_back}
use Rattle.fdt_format.specs.Tokens.{property_bytes}
use Rattle.fdt_values.specs.Value.{Value, value_bytes, misfit_value, zero_value}
use Rattle.fdt_record.specs.declared.Error.TheVariants.{Misfit, PropertyAfterEndNode, PropertyBeforeBeginNode, InvalidString, InvalidPropertyName, DuplicateProperty, StringRoom, BlobRoom}
use Rattle.fdt_record.specs.declared.Outcome.{Outcome}
use Rattle.fdt_record.specs.declared.Record.{Record}
use Rattle.fdt_record.specs.Answers.{Answer, upon}
use Rattle.fdt_record.specs.Fields.{with_used_blob, with_used_strings}
use Rattle.fdt_record.specs.Misfits.{overfull}
use Rattle.fdt_record.specs.Rows.{Row, ◌⇒◌, first}
use Rattle.fdt_record.specs.Tests.{strings_rows}

-- a name's place, or none: a new name and its 0 don't fit
abbrev pub Place : Type 0
Place = Result Interned no_room.StringRoom

-- the name's place: its offset in the used strings, the offset for a new name, or no room
unfoldable pub place_of : Record → List ℕ → List ℕ → Place
place_of w strings name = interned (take w.strings_used strings) w.strings_room name

-- the name is stored
unfoldable pub is_known : Place → Bool
is_known (Ok (Known offset)) = true
is_known (Ok (New offset)) = false
is_known (Err full) = false

-- a new name and its 0 don't fit
unfoldable pub is_full : Place → Bool
is_full p = eqb (number_of p) 15

-- the name's offset: the value that its place has
unfoldable pub place_offset : Place → ℕ
place_offset p = get_or (values_of p) 0 0

-- the open node already has a property of the name: the name is stored, and the look back from where the node's properties start to the
-- used length meets its offset
unfoldable pub is_repeated : Record → List ℕ → Place → Bool
is_repeated w blob p = is_known p && look_back blob w.blob_used (place_offset p) w.node_start

-- how many bytes a new name adds to the used strings
unfoldable pub added : Place → List ℕ → ℕ
added (Ok (Known offset)) name = 0
added (Ok (New offset)) name = length (entry name)
added (Err full) name = 0

-- the strings with a new name stored, with its 0
unfoldable pub stored : Place → List ℕ → List ℕ → List ℕ
stored (Ok (Known offset)) name strings = strings
stored (Ok (New offset)) name strings = splice offset (entry name) strings
stored (Err full) name strings = strings

-- the bytes of the property
unfoldable pub written : Record → List ℕ → List ℕ → Value → List ℕ
written w strings name v = property_bytes (place_offset (place_of w strings name)) (value_bytes v)

-- the record after an accepted property: its bytes are used, and those of a new name
unfoldable pub property_record : Record → List ℕ → List ℕ → Value → Record
property_record w strings name v =
    with_used_strings (w.strings_used + added (place_of w strings name) name)
    (with_used_blob (w.blob_used + length (written w strings name v)) w)

-- the tests of the record and of the value, in their order; `misfit` and `zero` are what the tests of the value find
unfoldable pub state_rows : Record → ℕ → List ℕ → Bool → Bool → List Row
state_rows w lent strings misfit zero =
    strings_rows w lent strings
    ++ (misfit ⇒ Misfit)
    ∷ (zero ⇒ InvalidString)
    ∷ (w.node_ended ⇒ PropertyAfterEndNode)
    ∷ (eqb w.node_depth 0 ⇒ PropertyBeforeBeginNode)
    ∷ []

-- the tests of the name, in their order
unfoldable pub name_rows : List ℕ → List Row
name_rows name = (has_zero name ⇒ InvalidString) ∷ (not (matches property_name name) ⇒ InvalidPropertyName) ∷ []

-- the tests of the name's place, and of the record that the call would leave, in their order
unfoldable pub place_rows : Record → List ℕ → List ℕ → List ℕ → Value → List Row
place_rows w blob strings name v =
    (is_repeated w blob (place_of w strings name) ⇒ DuplicateProperty)
    ∷ (is_full (place_of w strings name) ⇒ StringRoom)
    ∷ (overfull (property_record w strings name v) ⇒ BlobRoom)
    ∷ []

-- all tests, in their order
unfoldable pub property_rows : Record → List ℕ → List ℕ → List ℕ → Value → List Row
property_rows w blob strings name v =
    (state_rows w (length blob) strings (misfit_value v) (zero_value v) ++ name_rows name) ++ place_rows w blob strings name v

-- the answer
unfoldable pub property_answer : Record → List ℕ → List ℕ → List ℕ → Value → Answer
property_answer w blob strings name v = first (property_rows w blob strings name v)

-- the answer and the record
unfoldable pub property : Record → List ℕ → List ℕ → List ℕ → Value → Outcome (Unit {0})
property w blob strings name v = record {
  answer = property_answer w blob strings name v;
  after = upon (property_answer w blob strings name v) (property_record w strings name v) w;
}

-- the blob afterwards: an accepted property's bytes at the used length, and nothing else changed
unfoldable pub property_blob : Record → List ℕ → List ℕ → List ℕ → Value → List ℕ
property_blob w blob strings name v =
    upon (property_answer w blob strings name v) (splice w.blob_used (written w strings name v) blob) blob

-- the strings afterwards: a new name of an accepted property, and nothing else changed
unfoldable pub property_strings : Record → List ℕ → List ℕ → List ℕ → Value → List ℕ
property_strings w blob strings name v =
    upon (property_answer w blob strings name v) (stored (place_of w strings name) name strings) strings

-- the outcome of a call
pub record PropertyOutcome (w : Record) (blob strings name : List ℕ) (v : Value) (r : Outcome (Unit {0})) (blobAfter stringsAfter : List ℕ) : Type 0 where
  pub result : r ≡ property w blob strings name v
  pub bytes : blobAfter ≡ property_blob w blob strings name v
  pub names : stringsAfter ≡ property_strings w blob strings name v
