-- Where tokens may be read: areas inside a blob, and a state inside its structure.
use Rattle.std.specs.Prelude.{List, ℕ, ◌≤◌, ◌<◌, ◌^◌, length}
use Rattle.fdt_format.specs.declared.Areas.{Areas}
use Rattle.fdt_format.specs.declared.State.{State}

-- structure and strings end inside a blob, whose length fits 32 bits
pub record Inside (b : List ℕ) (a : Areas) : Type 0 where
  pub structure : a.structure_end ≤ length b
  pub order : a.strings ≤ a.strings_end
  pub strings : a.strings_end ≤ length b
  pub small : length b < 2 ^ 32

-- a state inside the structure, with a depth of 32 bits
pub record InStructure (a : Areas) (s : State) : Type 0 where
  pub within : s.at ≤ a.structure_end
  pub few : s.depth < 2 ^ 32
