-- A pass over a whole structure: with no room it counts the entries, with room for them it fills the list.
use mathlib.Core.Path.{◌≡◌, refl, ap, ◌∙◌}
use mathlib.Core.List.{List, [], ◌∷◌, ◌++◌, append_assoc}
use Prim.Native.Nat.{ℕ, zero, suc, ◌+◌, ◌*◌, ◌/◌, ◌≤◌, ◌<◌}
use native.Mathlib.Omega.{arith}
use borrow.Author.Tests.{lt-ltb, le-ltb}
use lib.ListN.{length, set, length-append}
use Rattle.std.specs.declared.result.Result.{Result}
use Rattle.std.specs.declared.result.Result.TheVariants.{Ok, Err}
use Rattle.fdt_format.specs.declared.Areas.{Areas}
use Rattle.fdt_format.specs.declared.Entry.{Entry}
use Rattle.fdt_format.specs.Walk.{walk_start}
use Rattle.fdt_walk.specs.declared.Fault.{Fault}
use Rattle.fdt_walk.specs.ReaderWalk.{ReaderWalk, stops, reads, reader_walk}
use Rattle.fdt_reader.specs.declared.Cursor.{Cursor}
use Rattle.fdt_reader.specs.declared.Progress.{Progress}
use Rattle.fdt_reader.specs.declared.Progress.TheVariants as progress
use Rattle.fdt_reader.specs.Pass.{put, faulty, complete, put_all, result, result_at, Placed, Stops, Continues, first, counted_walk}
use Rattle.fdt_reader.specs.Reader.{listed, filled}

-- where a pass begins
pub first-placed : {a : Areas} → a.structure ≤ a.structure_end → Placed a (first a)
unfolding walk_start
first-placed h = record { stands = record { within = h; shallow = omega arith }; few = omega arith }

-- no node is open there, so none ends
pub never_ended : {b : List ℕ} {a : Areas} {list list' : List ℕ} {d : Cursor} {A : Type 0} → Continues b a list (first a) list' (progress.Ended d) → A
unfolding Stops walk_start
never_ended h = absurd (omega (arith, h.stops.depth))

-- ---- without room

counts : (ts : List Entry) (n : ℕ) → put_all [] n ts ≡ complete (n + length ts) []
unfolding put_all put
counts [] n = let e : n ≡ n + 0 = omega arith in ap (λ (k : ℕ). complete k []) e
counts (t ∷ ts) n =
    let e : n + 1 + length ts ≡ n + suc (length ts) = omega arith in
    rw (le-ltb n (0 / 4) (omega arith)) (counts ts (n + 1) ∙ ap (λ (k : ℕ). complete k []) e)

walk-counted : (n : ℕ) (list' : List ℕ) (w : ReaderWalk) → result [] 0 w ≡ complete n list' → Ok n ≡ counted_walk w
unfolding result counted_walk
walk-counted n list' (stops fault) q = absurd (let z : ◌≡◌ {A = ℕ} 0 1 = cc in omega arith)
walk-counted n list' (reads ts) q =
    let k : n ≡ 0 + length ts = cc (counts ts 0) in
    let e : n ≡ length ts = omega arith in
    ap Ok e

walk_faulty : (fault : Fault) (w : ReaderWalk) → result [] 0 w ≡ faulty fault → Err fault ≡ counted_walk w
unfolding result counted_walk
walk_faulty fault (stops g) q = let e : fault ≡ g = cc in ap Err e
walk_faulty fault (reads ts) q = absurd (let z : ◌≡◌ {A = ℕ} 0 1 = cc (counts ts 0) in omega arith)

-- what a pass without room comes to is the count of the walk
module _ {a : Areas} {b : List ℕ} {list' : List ℕ} where
  pub count_complete : {n : ℕ} → Continues b a [] (first a) list' (progress.Complete n) → Ok n ≡ counted_walk (reader_walk b a (walk_start a))
  unfolding result_at
  count_complete h = walk-counted _ list' (reader_walk b a (walk_start a)) h.same

  pub count_faulty : {fault : Fault} → Continues b a [] (first a) list' (progress.Refused fault) → Err fault ≡ counted_walk (reader_walk b a (walk_start a))
  unfolding result_at
  count_faulty h = walk_faulty _ (reader_walk b a (walk_start a)) h.same

-- ---- with room

-- in the list behind the first numbers
set_in : (pre r : List ℕ) (k i v : ℕ) → i ≡ length pre + k → set (pre ++ r) i v ≡ pre ++ set r k v
set_in [] r k i v q = let j : i ≡ k = omega arith in rw j
set_in (x ∷ pre) r k zero v q = absurd (omega arith)
set_in (x ∷ pre) r k (suc i) v q = ap (λ (l : List ℕ). x ∷ l) (set_in pre r k i v (omega arith))

four : Entry → List ℕ
four t = t.token ∷ t.place ∷ t.name ∷ t.size ∷ []

put_in : (pre r : List ℕ) (a b c d n : ℕ) (t : Entry) → length pre ≡ n * 4 → put (pre ++ (a ∷ b ∷ c ∷ d ∷ r)) n t ≡ (pre ++ four t) ++ r
unfolding put four
put_in pre r a b c d n t h =
    let room : n < length (pre ++ (a ∷ b ∷ c ∷ d ∷ r)) / 4 = omega (arith, length-append pre (a ∷ b ∷ c ∷ d ∷ r)) in
    rw (
      lt-ltb _ _ room,
      set_in pre (a ∷ b ∷ c ∷ d ∷ r) 0 (n * 4) t.token (omega arith),
      set_in pre (t.token ∷ b ∷ c ∷ d ∷ r) 1 (n * 4 + 1) t.place (omega arith),
      set_in pre (t.token ∷ t.place ∷ c ∷ d ∷ r) 2 (n * 4 + 2) t.name (omega arith),
      set_in pre (t.token ∷ t.place ∷ t.name ∷ d ∷ r) 3 (n * 4 + 3) t.size (omega arith),
      append_assoc,
    )

-- entries fill a list that has room for them
fills : (ts : List Entry) (pre list : List ℕ) (n : ℕ) → length pre ≡ n * 4 → length ts * 4 ≤ length list → put_all (pre ++ list) n ts ≡ complete (n + length ts) (pre ++ filled list ts)
unfolding put_all filled listed four
fills [] pre list n h le = let z : n ≡ n + 0 = omega arith in ap (λ (k : ℕ). complete k (pre ++ list)) z
fills (t ∷ ts) pre [] n h le = absurd (omega arith)
fills (t ∷ ts) pre (a ∷ []) n h le = absurd (omega arith)
fills (t ∷ ts) pre (a ∷ b ∷ []) n h le = absurd (omega arith)
fills (t ∷ ts) pre (a ∷ b ∷ c ∷ []) n h le = absurd (omega arith)
fills (t ∷ ts) pre (a ∷ b ∷ c ∷ d ∷ r) n h le =
    let size : length (pre ++ four t) ≡ (n + 1) * 4 = omega (arith, length-append pre (four t)) in
    let more : n + 1 + length ts ≡ n + suc (length ts) = omega arith in
    let less : suc (length ts) * 4 ≡ suc (suc (suc (suc (length ts * 4)))) = omega arith in
    rw (put_in pre r a b c d n t h, fills ts (pre ++ four t) r (n + 1) size (omega arith), more, append_assoc, less)

walk-filled : (list list' : List ℕ) (ts : List Entry) (w : ReaderWalk) (n : ℕ) → w ≡ reads ts → length ts ≤ length list / 4 → result list 0 w ≡ complete n list' → list' ≡ filled list ts
unfolding result
walk-filled list list' ts w n e room q = let f : put_all list 0 ts ≡ complete (0 + length ts) (filled list ts) = fills ts [] list 0 refl (omega arith) in cc

-- a pass over a good structure fills a list that has room
pub fills_list : {b : List ℕ} {a : Areas} (list : List ℕ) {list' : List ℕ} (r : Progress) (ts : List Entry) → reader_walk b a (walk_start a) ≡ reads ts → length ts ≤ length list / 4
    → Continues b a list (first a) list' r → list' ≡ filled list ts
unfolding result_at result
fills_list list (progress.Ended d) ts e room h = never_ended h
fills_list {b} {a} list {list'} (progress.Complete n) ts e room h = walk-filled list list' ts (reader_walk b a (walk_start a)) n e room h.same
fills_list {b} {a} list (progress.Refused fault) ts e room h =
    let f : put_all list 0 ts ≡ complete (0 + length ts) (filled list ts) = fills ts [] list 0 refl (omega arith) in
    absurd (let z : ◌≡◌ {A = ℕ} 0 1 = cc (rw e at h.same) in omega arith)
