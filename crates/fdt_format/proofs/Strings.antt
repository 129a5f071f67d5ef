-- Laws of the names in the strings: each is there once, in order of first use, and keeps its offset as names are added at the end.
use mathlib.Core.Logic.{◌⊎◌, inl, inr}
use mathlib.Core.Path.{◌≡◌, refl, sym, ap, ◌∙◌}
use mathlib.Core.Bool.{Bool, true, false, cond}
use mathlib.Core.List.Memᴰ
use mathlib.Core.List.{List, [], ◌∷◌, ◌++◌, append_assoc, append-nil, Memᴰ}
use Prim.Native.Nat.{ℕ, ◌+◌}
use native.Mathlib.Omega.{arith}
use lib.ListN.{length}
use Rattle.std.specs.declared.option.Option.{Option}
use Rattle.std.specs.declared.option.Option.TheVariants.{None, Some}
use Rattle.fdt_strings.specs.Entries.{found_values, entries, first_from, find_string, same, joined, NoZero}
use Rattle.fdt_strings.proofs.Entries.{eq_same, entries-joined, first-after, found-stands, Stands, no_entry, next_entry, PlainNames as PlainNames}
use Rattle.fdt_format.specs.Description.{◌≔◌}
use Rattle.fdt_format.specs.Distinct.{Distinct}
use Rattle.fdt_format.specs.Events.{Event, begins, has, ends}
use Rattle.fdt_format.specs.Blob.{or_at_end, with_name, names_from, names_of, found_at, offset_of, Plain, AllPlain}

-- ---- a name that is found stays where it is

-- the name is found among names
unfoldable pub Has : List (List ℕ) → List ℕ → Type 0
Has names name = (i : ℕ) × (first_from 0 names name ≡ Some i)

pub first_stays : (name : List ℕ) (k i : ℕ) (names more : List (List ℕ)) → first_from k names name ≡ Some i → first_from k (names ++ more) name ≡ Some i
unfolding first_from
first_stays name k i [] more h = let n : ◌≡◌ {A = ℕ} 0 1 = cc in absurd (omega arith)
first_stays name k i (e ∷ es) more h = go (same e name) (λ r. first_stays name (k + (length e + 1)) i es more r) h
  where
    go : {x y : Option ℕ} (z : Bool) → (x ≡ Some i → y ≡ Some i) → cond z (Some k) x ≡ Some i → cond z (Some k) y ≡ Some i
    go true f h = h
    go false f h = f h

module _ (names more : List (List ℕ)) (name : List ℕ) (h : Has names name) where
  pub has_stays : Has (names ++ more) name
  unfolding Has
  has_stays = (h.0, first_stays name 0 h.0 names more h.1)

  pub offset_stays : offset_of (names ++ more) name ≡ offset_of names name
  unfolding Has offset_of
  offset_stays = ap found_at (first_stays name 0 h.0 names more h.1 ∙ sym h.1)

-- ---- one more name

module _ (names : List (List ℕ)) (name : List ℕ) where
  pub with_grows : (more : List (List ℕ)) × (with_name names name ≡ names ++ more)
  unfolding with_name or_at_end
  with_grows = go (first_from 0 names name)
    where
      go : (f : Option ℕ) → (more : List (List ℕ)) × (or_at_end f names name ≡ names ++ more)
      go (Some i) = ([], sym (append-nil names))
      go None = (name ∷ [], refl)

  pub with_has : Has (with_name names name) name
  unfolding with_name or_at_end Has first_from
  with_has = go (first_from 0 names name) refl
    where
      go : (f : Option ℕ) → first_from 0 names name ≡ f → (i : ℕ) × (first_from 0 (or_at_end f names name) name ≡ Some i)
      go (Some i) e = (i, e)
      go None e = (0 + length (joined names), first-after name 0 names (name ∷ []) e ∙ simp (eq_same name name refl))

-- ---- the names of events

-- names only grow at their end
pub names_grow : (names : List (List ℕ)) (es : List Event) → (more : List (List ℕ)) × (names_from names es ≡ names ++ more)
unfolding names_from
names_grow names [] = ([], sym (append-nil names))
names_grow names (begins name ∷ es) = names_grow names es
names_grow names (has (name ≔ value) ∷ es) =
    let g = with_grows names name in
    let r = names_grow (with_name names name) es in
    (g.0 ++ r.0, r.1 ∙ ap (λ (l : List (List ℕ)). l ++ r.0) g.1 ∙ append_assoc names g.0 r.0)
names_grow names (ends ∷ es) = names_grow names es

pub names-append : (names : List (List ℕ)) (es fs : List Event) → names_from names (es ++ fs) ≡ names_from (names_from names es) fs
unfolding names_from
names-append names [] fs = refl
names-append names (begins name ∷ es) fs = names-append names es fs
names-append names (has (name ≔ value) ∷ es) fs = names-append (with_name names name) es fs
names-append names (ends ∷ es) fs = names-append names es fs

-- one more event at the end
pub names-snoc : (es : List Event) (e : Event) → names_of (es ++ (e ∷ [])) ≡ names_from (names_of es) (e ∷ [])
unfolding names_of
names-snoc es e = names-append [] es (e ∷ [])

-- the names of all properties in events are found
unfoldable pub AllHas : List (List ℕ) → List Event → Type 0
AllHas names [] = Unit {0}
AllHas names (begins name ∷ es) = AllHas names es
AllHas names (has (name ≔ value) ∷ es) = Has names name × AllHas names es
AllHas names (ends ∷ es) = AllHas names es

pub names_have : (names : List (List ℕ)) (es : List Event) → AllHas (names_from names es) es
unfolding AllHas names_from
names_have names [] = tt
names_have names (begins name ∷ es) = names_have names es
names_have names (has (name ≔ value) ∷ es) =
    let g = names_grow (with_name names name) es in
    (rw g.1 (has_stays (with_name names name) g.0 name (with_has names name)), names_have (with_name names name) es)
names_have names (ends ∷ es) = names_have names es

-- ---- plain names

plain-snoc : {names : List (List ℕ)} {name : List ℕ} → PlainNames names → NoZero name → PlainNames (names ++ (name ∷ []))
plain-snoc no_entry n = next_entry n no_entry
plain-snoc (next_entry m p) n = next_entry m (plain-snoc p n)

with_plain : {names : List (List ℕ)} (name : List ℕ) → PlainNames names → NoZero name → PlainNames (with_name names name)
unfolding with_name or_at_end
with_plain {names} name p n = go (first_from 0 names name)
  where
    go : (f : Option ℕ) → PlainNames (or_at_end f names name)
    go (Some i) = p
    go None = plain-snoc p n

pub names-plain : {names : List (List ℕ)} (es : List Event) → AllPlain es → PlainNames names → PlainNames (names_from names es)
unfolding AllPlain Plain names_from
names-plain [] a p = p
names-plain (begins name ∷ es) a p = names-plain es a.1 p
names-plain {names = names} (has (name ≔ value) ∷ es) a p = names-plain {names = with_name names name} es a.1 (with_plain name p a.0)
names-plain (ends ∷ es) a p = names-plain es a.1 p

module _ {names : List (List ℕ)} (p : PlainNames names) where
  -- a name that is found is in the strings, at its offset
  pub has-stands : (name : List ℕ) → Has names name → Stands (joined names) name (offset_of names name)
  unfolding Has offset_of found_at found_values find_string
  has-stands name h =
      let f : first_from 0 (entries (joined names)) name ≡ Some h.0 = ap (λ (l : List (List ℕ)). first_from 0 l name) (entries-joined p) ∙ h.1 in
      rw h.1 (found-stands (joined names) name h.0 f)

-- the strings of events split into their names again
pub names-entries : (es : List Event) → AllPlain es → entries (joined (names_of es)) ≡ names_of es
unfolding names_of
names-entries es a = entries-joined (names-plain es a no_entry)

-- ---- each name once

-- a name that occurs among names is found
pub mem_found : {name : List ℕ} {names : List (List ℕ)} (k : ℕ) → Memᴰ name names → (i : ℕ) × (first_from k names name ≡ Some i)
unfolding first_from
mem_found k (Memᴰ.head {x = e} q) = (k, simp (eq_same e _ (sym q)))
mem_found {name} k (Memᴰ.tail {x = e} m) = go (same e name) (mem_found (k + (length e + 1)) m)
  where
    go : {x : Option ℕ} (z : Bool) → (i : ℕ) × (x ≡ Some i) → (i : ℕ) × (cond z (Some k) x ≡ Some i)
    go true f = (k, refl)
    go false f = f

pub distinct_snoc : (names : List (List ℕ)) (name : List ℕ) → Distinct names → (Memᴰ name names → ⊥) → Distinct (names ++ (name ∷ []))
unfolding Distinct
distinct_snoc [] name d n = (λ m. Memᴰ.not-nil m, tt)
distinct_snoc (e ∷ es) name d n = (λ m. go (Memᴰ.append_cases es m), distinct_snoc es name d.1 (λ m. n (Memᴰ.tail m)))
  where
    go : Memᴰ e es ⊎ Memᴰ e (name ∷ []) → ⊥
    go (inl m) = d.0 m
    go (inr m) = n (Memᴰ.head (sym (Memᴰ.eq_of_singleton m)))

with_distinct : (names : List (List ℕ)) (name : List ℕ) → Distinct names → Distinct (with_name names name)
unfolding with_name or_at_end
with_distinct names name d = go (first_from 0 names name) refl
  where
    go : (f : Option ℕ) → first_from 0 names name ≡ f → Distinct (or_at_end f names name)
    go (Some i) e = d
    go None e = distinct_snoc names name d λ m. let f = mem_found 0 m in let g = f.1 in let n : ◌≡◌ {A = ℕ} 0 1 = cc in omega arith

pub names-distinct : (names : List (List ℕ)) (es : List Event) → Distinct names → Distinct (names_from names es)
unfolding names_from
names-distinct names [] d = d
names-distinct names (begins name ∷ es) d = names-distinct names es d
names-distinct names (has (name ≔ value) ∷ es) d = names-distinct (with_name names name) es (with_distinct names name d)
names-distinct names (ends ∷ es) d = names-distinct names es d

-- each name of events occurs once
pub names_once : (es : List Event) → Distinct (names_of es)
unfolding names_of Distinct
names_once es = names-distinct [] es tt
