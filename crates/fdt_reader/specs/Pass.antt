-- A pass over a structure: what is still to come of it, which stays the same from call to call.
-- Only contracts of inner functions cite this.
use Rattle.std.specs.Prelude.{◌≡◌, cond, List, [], ◌∷◌, ℕ, suc, ◌+◌, ◌*◌, ◌/◌, ◌≤◌, ◌<◌, ltb, length, set, Result, Ok, Err}
use Rattle.fdt_format.specs.declared.Areas.{Areas}
use Rattle.fdt_format.specs.declared.Entry.{Entry}
use Rattle.fdt_format.specs.declared.State.{State}
use Rattle.fdt_format.specs.Walk.{walk_start}
use Rattle.fdt_walk.specs.declared.Fault.{Fault}
use Rattle.fdt_walk.specs.ReaderWalk.{ReaderWalk, stops, reads, reader_walk}
use Rattle.fdt_walk.specs.Token.{Stands}
use Rattle.fdt_reader.specs.declared.Cursor.{Cursor}
use Rattle.fdt_reader.specs.declared.Progress.{Progress}
use Rattle.fdt_reader.specs.declared.Progress.TheVariants as progress

-- a list with an entry as its n-th, if it has room for it
unfoldable pub put : List ℕ → ℕ → Entry → List ℕ
put list n t =
    cond (ltb n (length list / 4))
    (set (set (set (set list (n * 4) t.token) (n * 4 + 1) t.place) (n * 4 + 2) t.name) (n * 4 + 3) t.size)
    list

-- what a pass comes to: the first fault; or how many entries there are, and the list with those that have room
pub data Passed : Type 0 where
  faulty : Fault → Passed
  complete : ℕ → List ℕ → Passed

-- entries put one after the other, from the n-th on
unfoldable pub put_all : List ℕ → ℕ → List Entry → Passed
put_all list n [] = complete n list
put_all list n (t ∷ ts) = put_all (put list n t) (n + 1) ts

-- the same of a walk, with n entries before it
unfoldable pub result : List ℕ → ℕ → ReaderWalk → Passed
result list n (stops fault) = faulty fault
result list n (reads ts) = put_all list n ts

-- what a pass comes to from a cursor on
abbrev pub result_from : List ℕ → Areas → List ℕ → Cursor → Passed
result_from b a list c = result list c.count (reader_walk b a c.state)

-- what a pass comes to, by where it stopped
unfoldable pub result_at : List ℕ → Areas → List ℕ → Progress → Passed
result_at b a list (progress.Ended c) = result_from b a list c
result_at b a list (progress.Complete n) = complete n list
result_at b a list (progress.Refused fault) = faulty fault

-- a cursor inside the structure, with no more entries than bytes before it
pub record Placed (a : Areas) (c : Cursor) : Type 0 where
  pub stands : Stands a c.state
  pub few : c.count ≤ c.state.at

-- the cursor after an entry that was the n-th
abbrev pub after : State → ℕ → Cursor
after s n = record { state = s; count = n + 1 }

-- a cursor further on, after the end of the node that was open
pub record Leaves (a : Areas) (c c' : Cursor) : Type 0 where
  pub on : c.state.at < c'.state.at
  pub placed : Placed a c'
  pub depth : suc c'.state.depth ≡ c.state.depth

-- where a pass from a cursor may stop
unfoldable pub Stops : Areas → Cursor → Progress → Type 0
Stops a c (progress.Ended c') = Leaves a c c'
Stops a c (progress.Complete n) = Unit {0}
Stops a c (progress.Refused fault) = Unit {0}

-- what a part of a pass promises: what the whole comes to is the same, before it and by where it stopped
pub record Continues (b : List ℕ) (a : Areas) (list : List ℕ) (c : Cursor) (list' : List ℕ) (r : Progress) : Type 0 where
  pub same : result_from b a list c ≡ result_at b a list' r
  pub stops : Stops a c r

-- where a pass begins
abbrev pub first : Areas → Cursor
first a = record { state = walk_start a; count = 0 }

-- how many entries a walk has, or the first fault
unfoldable pub counted_walk : ReaderWalk → Result ℕ Fault
counted_walk (stops fault) = Err fault
counted_walk (reads ts) = Ok (length ts)
