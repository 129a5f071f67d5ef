-- What readers rely on of a token: how the walk goes on from it, that it moves on, and what kind of entry it is.
-- Only contracts of inner functions cite this.
use Rattle.std.specs.Prelude.{◌≡◌, List, [], ℕ, ◌≤◌}
use Rattle.fdt_format.specs.declared.Areas.{Areas}
use Rattle.fdt_format.specs.declared.Entry.{Entry}
use Rattle.fdt_format.specs.declared.State.{State}
use Rattle.fdt_format.specs.Moves.{Moved, Kind}
use Rattle.fdt_walk.specs.declared.Token.{Token}
use Rattle.fdt_walk.specs.declared.Token.TheVariants as token
use Rattle.fdt_walk.specs.Depth.{most_open}
use Rattle.fdt_walk.specs.ReaderWalk.{ReaderWalk, stops, reads, more, reader_walk}

-- a state inside the structure, with at most 64 nodes open
pub record Stands (a : Areas) (s : State) : Type 0 where
  pub within : s.at ≤ a.structure_end
  pub shallow : s.depth ≤ most_open

-- a token, and the walk after it
abbrev pub follow : Token → (State → ReaderWalk) → ReaderWalk
follow (token.Entry t s) on = more t (on s)
follow token.Final on = reads []
follow (token.Refused fault) on = stops fault

-- how an entry changes the state: the place moves on inside the structure, and a node begins, has a property or ends
pub record Next (b : List ℕ) (a : Areas) (s : State) (t : Entry) (s' : State) : Type 0 where
  pub moved : Moved a s s'
  pub shallow : s'.depth ≤ most_open
  pub kind : Kind b s t s'

-- of any token; the final word comes where no node is open
unfoldable pub Goes : List ℕ → Areas → State → Token → Type 0
Goes b a s (token.Entry t s') = Next b a s t s'
Goes b a s token.Final = s.depth ≡ 0
Goes b a s (token.Refused fault) = Unit {0}

-- a token of the walk
pub record Takes (b : List ℕ) (a : Areas) (s : State) (r : Token) : Type 0 where
  pub tells : reader_walk b a s ≡ follow r (reader_walk b a)
  pub goes : Goes b a s r
