-- A reader's walk is its first step and the walk after it, so a word 4 makes no difference; the strings may be cut after their last 0.
use mathlib.Core.Path.{◌≡◌, refl, sym, subst, ◌∙◌}
use mathlib.Core.List.{List}
use Prim.Native.Nat.{ℕ, zero, suc, ◌+◌, ◌-◌, ◌≤◌, ◌<◌}
use native.Mathlib.Omega.{arith}
use borrow.Author.Tests.{lt-ltb, le-ltb, ne_eqb}
use Rattle.fdt_format.specs.declared.Areas.{Areas}
use Rattle.fdt_format.specs.declared.Entry.{Entry}
use Rattle.fdt_format.specs.declared.State.{State}
use Rattle.fdt_format.specs.declared.Step.{Step}
use Rattle.fdt_format.specs.declared.Step.TheVariants as step
use Rattle.fdt_format.specs.declared.Unreadable.{Unreadable as Reason}
use Rattle.fdt_format.specs.Moves.{Moved, Kind, opens, adds, closes}
use Rattle.fdt_format.specs.Reading.{event_at}
use Rattle.fdt_bytes.specs.BigEndian.{word_at}
use Rattle.fdt_format.specs.Step.{past, step_at}
use Rattle.fdt_format.specs.Tokens.{begin_token, end_token, skip_token}
use Rattle.fdt_format.proofs.Steps.{event_begins, event_ends, Stepped, step_stepped, step_skip, skip_moved}
use Rattle.fdt_format.proofs.Walks.{first_step}
use Rattle.fdt_read_token.specs.Trimmed.{trimmed}
use Rattle.fdt_read_token.proofs.Trimmed.{step_trimmed}
use Rattle.fdt_walk.specs.declared.Refusal.TheVariants.{Unreadable, Depth}
use Rattle.fdt_walk.specs.declared.Token.{Token}
use Rattle.fdt_walk.specs.declared.Token.TheVariants as token
use Rattle.fdt_walk.specs.Depth.{most_open}
use Rattle.fdt_walk.specs.ReaderWalk.{ReaderWalk, capped, reader_steps, reader_walk}
use Rattle.fdt_walk.specs.Token.{Goes, Takes}

-- ---- the first token

-- what follows a token is the same for two walks that agree after it
capped_same : (b : List ℕ) (a : Areas) (s : State) (x : Step) → Stepped b a s x → (g h : State → ReaderWalk) → ((s' : State) → Moved a s s' → g s' ≡ h s')
    → capped s x g ≡ capped s x h
unfolding Stepped capped
capped_same b a s (step.Entry t s') m g h same = rw (same s' m.0)
capped_same b a s step.Skip m g h same = same (past s) (skip_moved b a s m)
capped_same b a s step.Final m g h same = refl
capped_same b a s (step.Bad reason) m g h same = refl

-- a walk is its first token and the walk after it
pub reader_step : (b : List ℕ) (a : Areas) (s : State) → reader_walk b a s ≡ capped s (step_at b a s) (reader_walk b a)
unfolding reader_walk reader_steps
reader_step b a s =
    first_step a (λ (s : State). capped s (step_at b a s)) (λ s. capped_same b a s (step_at b a s) (step_stepped b a s)) (reader_steps b a) (λ _ _. refl) s

-- a word 4 at any state describes nothing to a reader either
pub reader_skip : (b : List ℕ) (a : Areas) (s : State) → s.at + 4 ≤ a.structure_end → word_at b s.at ≡ skip_token → reader_walk b a s ≡ reader_walk b a (past s)
unfolding capped
reader_skip b a s h w = reader_step b a s ∙ rw (step_skip b a s h w)

-- ---- the token that a reader takes

kind-past : {b : List ℕ} {s : State} {t : Entry} {s' : State} → Kind b (past s) t s' → Kind b s t s'
kind-past (opens name e d r) = opens name e d r
kind-past (adds p e d r r') = adds p e d r r'
kind-past (closes e d r) = closes e d r

-- what a token after a word 4 does, it does from the word on
goes-past : (b : List ℕ) (a : Areas) (s : State) (r : Token) → Goes b a (past s) r → Goes b a s r
unfolding Goes
goes-past b a s (token.Entry t s') n = record {
  moved = record { on = omega (arith, n.moved.on); within = n.moved.within };
  shallow = n.shallow;
  kind = kind-past n.kind;
}
goes-past b a s token.Final n = n
goes-past b a s (token.Refused fault) n = tt

-- a step that is read, and how it moves the state
known : (b : List ℕ) (a : Areas) (s : State) {x y : Step} → x ≡ step_at b a s → x ≡ y → (step_at b a s ≡ y) × Stepped b a s y
known b a s q e = let r = sym q ∙ e in (r, subst (Stepped b a s) r (step_stepped b a s))

-- each step that is read, as a reader takes it
module _ {b : List ℕ} {a : Areas} {s : State} {x : Step} (q : x ≡ step_at b a s) where
  pub takes_final : x ≡ step.Final → Takes b a s token.Final
  unfolding capped Stepped Goes
  takes_final e = let k = known b a s q e in record { tells = reader_step b a s ∙ rw k.0; goes = k.1 }

  pub takes_bad : {reason : Reason} → x ≡ step.Bad reason → Takes b a s (token.Refused (record { refusal = Unreadable reason; place = s.at }))
  unfolding capped Goes
  takes_bad e = let k = known b a s q e in record { tells = reader_step b a s ∙ rw k.0; goes = tt }

  module _ {t : Entry} {s' : State} (e : x ≡ step.Entry t s') where
    pub takes_deep : most_open < s'.depth → Takes b a s (token.Refused (record { refusal = Depth; place = s.at }))
    unfolding capped Goes
    takes_deep deep = let k = known b a s q e in record { tells = reader_step b a s ∙ rw (k.0, lt-ltb _ _ deep); goes = tt }

    pub takes_entry : s'.depth ≤ most_open → Takes b a s (token.Entry t s')
    unfolding capped Stepped Goes
    takes_entry few =
        let k = known b a s q e in
        record {
          tells = reader_step b a s ∙ rw (k.0, le-ltb _ _ few);
          goes = record { moved = k.1.0; shallow = few; kind = k.1.1 };
        }

  -- the token after a word 4 is the one that is taken
  pub takes_skip : x ≡ step.Skip → Moved a s (past s) × ((r : Token) → Takes b a (past s) r → Takes b a s r)
  unfolding capped Stepped
  takes_skip e =
      let k = known b a s q e in
      (skip_moved b a s k.1, λ r h. record { tells = reader_step b a s ∙ rw k.0 h.tells; goes = goes-past b a s r h.goes })

-- ---- the kind of an entry, by its token

module _ {b : List ℕ} {s s' : State} {t : Entry} where
  -- after a begin one more node is open
  pub begin-opens : Kind b s t s' → t.token ≡ begin_token → s'.depth ≡ suc s.depth
  begin-opens (opens name e d r) q = d
  begin-opens (adds p e d r r') q = absurd (let z : ◌≡◌ {A = ℕ} 0 1 = cc (event_begins b t q) in omega arith)
  begin-opens (closes e d r) q = absurd (let z : ◌≡◌ {A = ℕ} 0 1 = cc (event_begins b t q) in omega arith)

  -- after an end one fewer
  pub end-closes : Kind b s t s' → t.token ≡ end_token → suc s'.depth ≡ s.depth
  end-closes (opens name e d r) q = absurd (let z : ◌≡◌ {A = ℕ} 0 1 = cc (event_ends b t q) in omega arith)
  end-closes (adds p e d r r') q = absurd (let z : ◌≡◌ {A = ℕ} 0 1 = cc (event_ends b t q) in omega arith)
  end-closes (closes e d r) q = d

  -- after a property as many
  pub property_stays : Kind b s t s' → (t.token ≡ begin_token → ⊥) → (t.token ≡ end_token → ⊥) → s'.depth ≡ s.depth
  unfolding event_at
  property_stays (opens name e d r) m n = absurd (let z : ◌≡◌ {A = ℕ} 0 1 = cc (rw (ne_eqb _ _ m, ne_eqb _ _ n) at e) in omega arith)
  property_stays (adds p e d r r') m n = d
  property_stays (closes e d r) m n = absurd (let z : ◌≡◌ {A = ℕ} 0 1 = cc (rw (ne_eqb _ _ m, ne_eqb _ _ n) at e) in omega arith)

-- ---- with the strings cut

-- the walk is the same
pub walk-trimmed : (b : List ℕ) (a : Areas) → a.strings ≤ a.strings_end → (s : State) → reader_walk b (trimmed b a) s ≡ reader_walk b a s
unfolding reader_walk reader_steps trimmed
walk-trimmed b a o s = go (suc (a.structure_end - s.at)) s
  where
    go : (k : ℕ) (s : State) → reader_steps b (trimmed b a) k s ≡ reader_steps b a k s
    go zero s = refl
    go (suc k) s = rw (step_trimmed b a o s) (capped_same b a s (step_at b a s) (step_stepped b a s) _ _ (λ s' _. go k s'))
