-- The offset of a name, old or new: refusal 15, "a new name and its 0 don't fit" (document 01, "When the desk says no").
use Rattle.std.specs.Prelude.{ℕ, ◌+◌, cond, List, [], ◌∷◌, length, leb, Option, Some, None, Result, Ok, Err}
use Rattle.fdt_strings.specs.declared.Interned.{Interned}
use Rattle.fdt_strings.specs.declared.Interned.TheVariants.{Known, New}
use Rattle.fdt_strings.specs.declared.StringRoom.{StringRoom}
use Rattle.fdt_strings.specs.Entries.{entry, find_string}

-- the refusal
abbrev pub string_room : StringRoom
string_room = record {}

-- the offset for a new name: the end of the used strings, if the name and its 0 fit within the room
unfoldable pub new_name : List ℕ → ℕ → List ℕ → Result Interned StringRoom
new_name used room name = cond (leb (length used + length (entry name)) room) (Ok (New (length used))) (Err string_room)

-- a name that was found is known; otherwise the other result
unfoldable pub or_else : Option ℕ → Result Interned StringRoom → Result Interned StringRoom
or_else (Some offset) other = Ok (Known offset)
or_else None other = other

-- what `intern_string` returns: the name is found in the used strings, or is placed after them
unfoldable pub interned : List ℕ → ℕ → List ℕ → Result Interned StringRoom
interned used room name = or_else (find_string used name) (new_name used room name)

-- document 01's number of a result
unfoldable pub number_of : Result Interned StringRoom → ℕ
number_of (Ok place) = 0
number_of (Err refusal) = 15

-- the values of a result
unfoldable pub values_of : Result Interned StringRoom → List ℕ
values_of (Ok (Known offset)) = offset ∷ []
values_of (Ok (New offset)) = offset ∷ []
values_of (Err refusal) = []
