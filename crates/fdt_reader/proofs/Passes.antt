-- Laws of a pass: a token takes its part of what is still to come.
use mathlib.Core.Path.{◌≡◌, refl, ap, subst, ◌∙◌}
use mathlib.Core.List.{List}
use Prim.Native.Nat.{ℕ, suc, ◌+◌, ◌-◌, ◌*◌, ◌≤◌, ◌<◌, ◌^◌}
use native.Mathlib.Omega.{arith}
use Rattle.fdt_format.specs.declared.Areas.{Areas}
use Rattle.fdt_format.specs.declared.Entry.{Entry}
use Rattle.fdt_format.specs.declared.State.{State}
use Rattle.fdt_format.specs.Tokens.{begin_token, end_token}
use Rattle.fdt_format.specs.Walk.{walk_start}
use Rattle.fdt_read_token.specs.Trimmed.{Trimmed}
use Rattle.fdt_walk.specs.declared.Fault.{Fault}
use Rattle.fdt_walk.specs.declared.Token.{Token}
use Rattle.fdt_walk.specs.declared.Token.TheVariants as token
use Rattle.fdt_walk.specs.Depth.{most_open}
use Rattle.fdt_walk.specs.ReaderWalk.{ReaderWalk, stops, reads, more, reader_walk}
use Rattle.fdt_walk.specs.Token.{Stands, follow, Next, Goes, Takes}
use Rattle.fdt_walk.proofs.Walked.{begin-opens, end-closes, property_stays}
use Rattle.fdt_reader.specs.declared.Cursor.{Cursor}
use Rattle.fdt_reader.specs.declared.Progress.{Progress}
use Rattle.fdt_reader.specs.declared.Progress.TheVariants as progress
use Rattle.fdt_reader.specs.Pass.{put, put_all, result, result_from, result_at, Placed, after, Stops, Continues}

-- the measure of a call of `children` at a state: how many calls of `node` and `children` can be nested below it
abbrev pub calls_below : State → ℕ
calls_below s = 2 * (most_open - s.depth)

-- the first call's measure: 128 calls can be nested below it, because each call has a smaller measure than the one around it
-- (`fewer_calls`)
pub calls_bounded : (a : Areas) → calls_below (walk_start a) ≡ 128
unfolding walk_start
calls_bounded a = refl

-- a place inside a blob, and so a count of entries before it, has 32 bits
pub place-small : {b : List ℕ} {a : Areas} {s : State} → Trimmed b a → Stands a s → s.at < 2 ^ 32
place-small t h = omega (arith, t.inside.small, t.inside.structure, h.within)

pub count_small : {b : List ℕ} {a : Areas} {c : Cursor} → Trimmed b a → Placed a c → c.count < 2 ^ 32
count_small t h = omega (arith, place-small t h.stands, h.few)

result-more : (list : List ℕ) (n : ℕ) (t : Entry) (w : ReaderWalk) → result list n (more t w) ≡ result (put list n t) (n + 1) w
unfolding result put_all
result-more list n t (stops fault) = refl
result-more list n t (reads ts) = refl

-- from a cursor to one further on, in the same node: what is to come is the same
pub record Onward (b : List ℕ) (a : Areas) (list : List ℕ) (c : Cursor) (list' : List ℕ) (c' : Cursor) : Type 0 where
  pub same : result_from b a list c ≡ result_from b a list' c'
  pub on : c.state.at ≤ c'.state.at
  pub placed : Placed a c'
  pub depth : c'.state.depth ≡ c.state.depth

-- an entry is taken at the cursor, and the state after it is s
pub record Entered (b : List ℕ) (a : Areas) (list₀ : List ℕ) (c₀ : Cursor) (list : List ℕ) (c : Cursor) (t : Entry) (s : State) : Type 0 where
  pub turn : Onward b a list₀ c₀ list c
  pub next : Next b a c.state t s
  pub same : result_from b a list₀ c₀ ≡ result_from b a (put list c.count t) (after s c.count)
  pub placed : Placed a (after s c.count)

module _ (b : List ℕ) (a : Areas) where
  -- at first the cursor is where it was
  pub onward_none : (c : Cursor) (list : List ℕ) → Placed a c → Onward b a list c list c
  onward_none c list h = record { same = refl; on = omega arith; placed = h; depth = refl }

  -- a token is taken at the cursor
  module _ {c₀ c : Cursor} {list₀ list : List ℕ} (o : Onward b a list₀ c₀ list c) {x : Token} (k : Takes b a c.state x) where
    told : {y : Token} → x ≡ y → result_from b a list₀ c₀ ≡ result list c.count (follow y (reader_walk b a))
    told q = o.same ∙ ap (result list c.count) (k.tells ∙ ap (λ (r : Token). follow r (reader_walk b a)) q)

    pub at_fault : {fault : Fault} → x ≡ token.Refused fault → Continues b a list₀ c₀ list (progress.Refused fault)
    unfolding result_at Stops result
    at_fault q = record { same = told q; stops = tt }

    pub at_final : x ≡ token.Final → Continues b a list₀ c₀ list (progress.Complete c.count)
    unfolding result_at Stops result put_all
    at_final q = record { same = told q; stops = tt }

    -- it is an entry
    pub entered : {t : Entry} {s : State} → x ≡ token.Entry t s → Entered b a list₀ c₀ list c t s
    unfolding Goes
    entered {t} {s} q =
        let n : Next b a c.state t s = subst (Goes b a c.state) q k.goes in
        record {
          turn = o;
          next = n;
          same = told q ∙ result-more list c.count t (reader_walk b a s);
          placed = record { stands = record { within = n.moved.within; shallow = n.shallow }; few = omega (arith, o.placed.few, n.moved.on) };
        }

  -- an entry was taken at the cursor
  module _ {c₀ c : Cursor} {list₀ list : List ℕ} {t : Entry} {s : State} (e : Entered b a list₀ c₀ list c t s) where
    -- less of the structure is to come
    pub less : a.structure_end - s.at < a.structure_end - c.state.at
    less = omega (arith, e.next.moved.on, e.next.moved.within)

    -- it is a property
    pub after-property : (list' : List ℕ) → list' ≡ put list c.count t → (t.token ≡ begin_token → ⊥) → (t.token ≡ end_token → ⊥)
        → Onward b a list₀ c₀ list' (after s c.count)
    after-property list' w m n =
        rw w
        record { same = e.same; on = omega (arith, e.turn.on, e.next.moved.on); placed = e.placed; depth = property_stays e.next.kind m n ∙ e.turn.depth }

    -- it is the end of the node
    pub at_end : (list' : List ℕ) → list' ≡ put list c.count t → t.token ≡ end_token → Continues b a list₀ c₀ list' (progress.Ended (after s c.count))
    unfolding result_at Stops
    at_end list' w n =
        rw w
        record {
          same = e.same;
          stops = record { on = omega (arith, e.turn.on, e.next.moved.on); placed = e.placed; depth = end-closes e.next.kind n ∙ e.turn.depth };
        }

    -- it begins a child: fewer calls can be nested below
    pub fewer_calls : t.token ≡ begin_token → suc (calls_below s) < calls_below c₀.state
    fewer_calls m = omega (arith, begin-opens e.next.kind m, e.turn.depth, e.next.shallow)

    -- and the child was read
    module _ (list' : List ℕ) (d : Cursor) (h : Continues b a (put list c.count t) (after s c.count) list' (progress.Ended d)) where
      pub child_ended : t.token ≡ begin_token → Onward b a list₀ c₀ list' d
      unfolding result_at Stops
      child_ended m =
          record {
            same = e.same ∙ h.same;
            on = omega (arith, e.turn.on, e.next.moved.on, h.stops.on);
            placed = h.stops.placed;
            depth = omega (arith, h.stops.depth, begin-opens e.next.kind m, e.turn.depth);
          }

      pub child_less : a.structure_end - d.state.at < a.structure_end - c.state.at
      unfolding Stops
      child_less = omega (arith, e.next.moved.on, h.stops.on, h.stops.placed.stands.within)

    -- or the pass stopped in the child
    pub child_stopped : (list' : List ℕ) (r : Progress) → ((d : Cursor) → r ≡ progress.Ended d → ⊥) → Continues b a (put list c.count t) (after s c.count) list' r
        → Continues b a list₀ c₀ list' r
    unfolding result_at Stops
    child_stopped list' (progress.Ended d) n h = absurd (n d refl)
    child_stopped list' (progress.Complete m) n h = record { same = e.same ∙ h.same; stops = tt }
    child_stopped list' (progress.Refused fault) n h = record { same = e.same ∙ h.same; stops = tt }
