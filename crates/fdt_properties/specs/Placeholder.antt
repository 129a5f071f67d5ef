-- A property is written in two steps, a placeholder and then its value. What the functions of these steps promise each other;
-- no statement of a public call uses it.
use Rattle.std.specs.Prelude.{◌≡◌, Bool, false, cond, List, [], ◌∷◌, ℕ, ◌+◌, ◌-◌, ◌≤◌, ◌<◌, ◌^◌, length, Result, Ok, Err}
use Rattle.fdt_bytes.specs.BigEndian.{cell_bytes}
use Rattle.fdt_bytes.specs.Padding.{round_up, zeros}
use Rattle.fdt_bytes.specs.Splice.{splice}
use Rattle.fdt_strings.specs.declared.Interned.{Interned}
use Rattle.fdt_strings.specs.Entries.{entry}
use Rattle.fdt_format.specs.Tokens.{property_token}
use Rattle.fdt_values.specs.Value.{Value, value_bytes, misfit_value, zero_value}
use Rattle.fdt_record.specs.declared.Error.{Error}
use Rattle.fdt_record.specs.declared.Error.TheVariants as error
use Rattle.fdt_record.specs.declared.Record.{Record}
use Rattle.fdt_record.specs.Answers.{Done}
use Rattle.fdt_properties.specs.declared.Tested.{Tested}
use Rattle.fdt_properties.specs.declared.Placed.{Placed}
use Rattle.fdt_properties.specs.Property.{Place, place_of, place_offset, added, property_record, property_answer, PropertyOutcome}

-- what the tests of a value find: 17 or 5, or how many bytes it takes
unfoldable pub measure : Value → Result ℕ Error
measure v = cond (misfit_value v) (Err error.Misfit) (cond (zero_value v) (Err error.InvalidString) (Ok (length (value_bytes v))))

-- the name's place once 15 and 20 are passed
abbrev pub tested_place : Place → Bool → Result Interned Error
tested_place (Ok place) repeated = cond repeated (Err error.DuplicateProperty) (Ok place)
tested_place (Err full) repeated = Err error.StringRoom

-- a name that adds bytes fits at its offset
abbrev pub NameFits : (place : Place) (name strings : List ℕ) → Type 0
NameFits place name strings = (added place name ≡ 0 → ⊥) → place_offset place + length (entry name) ≤ length strings

-- a property with `len` bytes of value ends within the blob, and its figures fit into words
pub record FrameFits (used offset len end lent : ℕ) : Type 0 where
  pub ends : end ≡ used + (12 + round_up 4 len)
  pub within : end ≤ lent
  pub small : len < 2 ^ 32
  pub near : offset < 2 ^ 32

-- the blob with a property's words from `used` on, and zeros from the end of its value to `end`
unfoldable pub framed : (used offset len end : ℕ) → List ℕ → List ℕ
framed used offset len end blob =
    splice (used + 12 + len) (zeros (end - (used + 12 + len)))
    (splice used (cell_bytes 4 (property_token ∷ len ∷ offset ∷ [])) blob)

-- what the passed tests say of every value that takes so many bytes
pub record Accepted (w : Record) (blob strings name : List ℕ) (after : Record) (v : Value) : Type 0 where
  pub answered : property_answer w blob strings name v ≡ Done
  pub after_is : after ≡ property_record w strings name v

-- what holds once the tests are passed
pub record Passed (w : Record) (blob strings name : List ℕ) (value : Result ℕ Error) (r : Tested) : Type 0 where
  pub len_is : value ≡ Ok r.len
  pub place_is : place_of w strings name ≡ Ok r.place
  pub name_fits : NameFits (Ok r.place) name strings
  pub frame_fits : FrameFits w.blob_used (place_offset (Ok r.place)) r.len r.after.blob_used (length blob)
  pub accepted : (v : Value) → value ≡ measure v → Accepted w blob strings name r.after v

-- the tests of a property: passed, or refused with the error that every value of which its own tests find this gets
abbrev pub PropertyTested : Record → (blob strings name : List ℕ) → Result ℕ Error → Result Tested Error → Type 0
PropertyTested w blob strings name value (Ok r) = Passed w blob strings name value r
PropertyTested w blob strings name value (Err e) = (v : Value) → value ≡ measure v → property_answer w blob strings name v ≡ Err e

-- an accepted property whose value is missing: with the value at its place it is the whole property
pub record Unfilled (w : Record) (blob strings name : List ℕ) (v : Value) (r : Placed) (blobAfter stringsAfter : List ℕ) : Type 0 where
  pub in_order : misfit_value v ≡ false
  pub fits : r.at + length (value_bytes v) ≤ length blobAfter
  pub filled : PropertyOutcome w blob strings name v (record { answer = Done; after = r.after }) (splice r.at (value_bytes v) blobAfter) stringsAfter

-- a property without its value, or its refusal
abbrev pub Placeholder : Record → (blob strings name : List ℕ) → Value → Result Placed Error → (blobAfter stringsAfter : List ℕ) → Type 0
Placeholder w blob strings name v (Ok r) blobAfter stringsAfter = Unfilled w blob strings name v r blobAfter stringsAfter
Placeholder w blob strings name v (Err e) blobAfter stringsAfter =
    PropertyOutcome w blob strings name v (record { answer = Err e; after = w }) blobAfter stringsAfter
