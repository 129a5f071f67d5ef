-- Looking back over the properties that the open node has so far (document 02, request 4/14).
use Rattle.std.specs.Prelude.{Bool, false, ◌&&◌, ◌||◌, List, ℕ, zero, suc, ◌+◌, ◌-◌, eqb}
use Rattle.fdt_bytes.specs.BigEndian.{word_at}
use Rattle.fdt_format.specs.Step.{whole_at}
use Rattle.fdt_format.specs.Tokens.{property_size}

-- among at most k properties, one after the other from a place on, one has this name offset; `end` and anything that is no whole
-- property stop the look back
unfoldable pub looks_back : List ℕ → (end offset k at : ℕ) → Bool
looks_back b end offset zero at = false
looks_back b end offset (suc k) at =
    whole_at b end at
    && (eqb (word_at b (at + 8)) offset || looks_back b end offset k (at + property_size (word_at b (at + 4))))

-- the whole look back: a property takes at least 12 bytes, so this bound stops nothing (`look_step`)
unfoldable pub look_back : List ℕ → (end offset at : ℕ) → Bool
look_back b end offset at = looks_back b end offset (end - at) at
