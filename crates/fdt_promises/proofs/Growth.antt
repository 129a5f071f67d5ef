-- What grows by one: bytes after the used part of a buffer, a name after the names, an event after the events.
use mathlib.Core.Path.{◌≡◌, refl, sym, ap, subst, ◌∙◌}
use mathlib.Core.Bool.{Bool, true, false, not, ◌&&◌, true≢false}
use mathlib.Core.List.{List, [], ◌∷◌, ◌++◌, append-nil, foldl-append}
use Prim.Native.Nat.{ℕ, zero, suc, ◌+◌, ◌-◌, ◌≤◌, ◌<◌}
use native.Mathlib.Omega.{arith}
use native.Mathlib.Numerals.{add-one}
use borrow.Author.Tests.{eqb-false}
use lib.Dec.{eqb}
use lib.ListN.{length, take, drop, set, length-append}
use lib.Seq.{length-take-le, take-append-add, take_at}
use Rattle.fdt_bytes.specs.Splice.{over, splice}
use Rattle.fdt_bytes.proofs.Splice.{length-splice, set-splice}
use Rattle.fdt_names.specs.Grammar.{all}
use Rattle.fdt_names.specs.Names.{has_zero}
use Rattle.std.specs.Prelude.{Option, Some, None, Result, Ok, Err}
use Rattle.fdt_strings.specs.declared.Interned.{Interned}
use Rattle.fdt_strings.specs.declared.StringRoom.{StringRoom}
use Rattle.fdt_strings.specs.declared.Interned.TheVariants as place
use Rattle.fdt_strings.specs.Entries.{found_values, entry, entries, first_from, find_string, joined, NoZero, no_byte, next_byte}
use Rattle.fdt_strings.specs.Interned.{interned, number_of, values_of}
use Rattle.fdt_strings.proofs.Entries.{PlainNames as PlainNames, entries-joined, joined-append, first-after, eq_same}
use Rattle.fdt_strings.proofs.Places.{known_found, new-placed}
use Rattle.fdt_format.specs.Events.{Event, begins, has, ends}
use Rattle.fdt_format.specs.Blob.{or_at_end, with_name, found_at, offset_of, event_size, events_size, Plain, AllPlain}
use Rattle.fdt_format.proofs.Nodes.{Accepted}
use Rattle.fdt_walk.proofs.Capped.{Shallow}
use Rattle.fdt_record.specs.Limits.{strings_ceiling, most_depth, usable}
use Rattle.fdt_record.proofs.Fits.{usable-within}
use Rattle.fdt_properties.specs.Property.{is_full, added, stored, place_offset}
use Rattle.fdt_promises.specs.Run.{deepens, closes, depth_of, ended_of, Filled}

-- ---- bytes after the used part

pub take_spliced : (at : ℕ) (bs xs : List ℕ) → at + length bs ≤ length xs → take (at + length bs) (splice at bs xs) ≡ take at xs ++ bs
unfolding splice over
take_spliced at bs xs h =
    let rest = drop (length bs) (drop at xs) in
    ap (λ (k : ℕ). take (k + length bs) (take at xs ++ (bs ++ rest))) (sym (length-take-le at xs (omega arith)))
    ∙ take-append-add (take at xs) (bs ++ rest) (length bs)
    ∙ ap (λ (l : List ℕ). take at xs ++ l) (take_at bs rest (length bs) refl)

-- a buffer with nothing used
pub none_filled : (ceiling : ℕ) (buffer : List ℕ) → Filled ceiling [] (usable ceiling (length buffer)) 0 buffer
none_filled ceiling buffer = record { part = refl; counted = refl; opened = refl; within = omega arith }

-- more bytes after the used part
pub more-filled : {ceiling room used : ℕ} {contents buffer : List ℕ} → Filled ceiling contents room used buffer → (bs : List ℕ) → used + length bs ≤ room → Filled ceiling (contents ++ bs) room (used + length bs) (splice used bs buffer)
more-filled {ceiling} {room} {used} {contents} {buffer} f bs h =
    let l : used + length bs ≤ length buffer = omega (arith, (usable-within ceiling (length buffer)).0, f.opened) in
    record {
      part = take_spliced used bs buffer l ∙ ap (λ (x : List ℕ). x ++ bs) f.part;
      counted = omega (arith, f.counted, length-append contents bs);
      opened = f.opened ∙ ap (usable ceiling) (sym (length-splice used bs buffer l));
      within = h;
    }

-- one entry more
pub one-filled : {ceiling room used : ℕ} {contents buffer : List ℕ} → Filled ceiling contents room used buffer → (b : ℕ) → used < room → Filled ceiling (contents ++ (b ∷ [])) room (used + 1) (set buffer used b)
one-filled {ceiling} {room} {used} {contents} {buffer} f b h =
    subst (Filled ceiling (contents ++ (b ∷ [])) room (used + 1)) (sym (set-splice used b buffer (omega (arith, (usable-within ceiling (length buffer)).0, f.opened))))
    (more-filled f (b ∷ []) (omega arith))

-- ---- a name after the names

-- a name without a byte 0, as entries have it
pub no_zero : (s : List ℕ) → has_zero s ≡ false → NoZero s
unfolding has_zero all
no_zero [] h = no_byte
no_zero (b ∷ s) h = go (eqb b 0) refl (λ t. no_zero s t) h
  where
    go : (z : Bool) → eqb b 0 ≡ z → (not (all (λ b. not (eqb b 0)) s) ≡ false → NoZero s) → not (not z && all (λ b. not (eqb b 0)) s) ≡ false → NoZero (b ∷ s)
    go true e more h = absurd (true≢false h)
    go false e more h = let n : b ≡ 0 → ⊥ = eqb-false b 0 e in let p : 0 < b = omega (arith, n) in next_byte p (more h)

-- the strings of names, with a name at its place
pub record NameStored (room used : ℕ) (strings name : List ℕ) (names : List (List ℕ)) (p : Result Interned StringRoom) : Type 0 where
  pub offset : place_offset p ≡ offset_of (with_name names name) name
  pub filled : Filled strings_ceiling (joined (with_name names name)) room (used + added p name) (stored p name strings)

module _ {room used : ℕ} {strings : List ℕ} (name : List ℕ) {names : List (List ℕ)} (plain : PlainNames names) (f : Filled strings_ceiling (joined names) room used strings) where
  -- the name is found among the names exactly where it is found in the strings
  pub among : (g : Option ℕ) → find_string (take used strings) name ≡ g → first_from 0 names name ≡ g
  unfolding find_string
  among g e = ap (λ (l : List (List ℕ)). first_from 0 l name) (sym (entries-joined plain) ∙ ap entries (sym f.part)) ∙ e

  pub named : is_full (interned (take used strings) room name) ≡ false → NameStored room used strings name names (interned (take used strings) room name)
  unfolding is_full number_of place_offset values_of offset_of found_at found_values with_name or_at_end added stored first_from joined
  named h = go (interned (take used strings) room name) refl h
    where
      known : (i : ℕ) → first_from 0 names name ≡ Some i → NameStored room used strings name names (Ok (place.Known i))
      known i g =
          let w : with_name names name ≡ names = simp g in
          let z : used + 0 ≡ used = omega arith in
          record {
            offset = sym (ap (λ (l : List (List ℕ)). found_at (first_from 0 l name)) w ∙ ap found_at g);
            filled = subst (λ (n : ℕ). Filled strings_ceiling (joined (with_name names name)) room n strings) (sym z)
                (subst (λ (l : List (List ℕ)). Filled strings_ceiling (joined l) room used strings) (sym w) f);
          }

      new : (i : ℕ) → first_from 0 names name ≡ None → i ≡ used → used + length (entry name) ≤ room → NameStored room used strings name names (Ok (place.New i))
      new i g e fits =
          let w : with_name names name ≡ names ++ (name ∷ []) = simp g in
          let j : joined (names ++ (name ∷ [])) ≡ joined names ++ entry name =
          joined-append names (name ∷ []) ∙ ap (λ (l : List ℕ). joined names ++ l) (append-nil (entry name))
          in
          let o : first_from 0 (names ++ (name ∷ [])) name ≡ Some (0 + length (joined names)) =
          first-after name 0 names (name ∷ []) g ∙ simp (eq_same name name refl)
          in
          record {
            offset = e ∙ f.counted ∙ sym (ap (λ (l : List (List ℕ)). found_at (first_from 0 l name)) w ∙ ap found_at o ∙ omega arith);
            filled = subst (λ (k : ℕ). Filled strings_ceiling (joined (with_name names name)) room (used + length (entry name)) (splice k (entry name) strings)) (sym e)
                (subst (λ (l : List ℕ). Filled strings_ceiling l room (used + length (entry name)) (splice used (entry name) strings)) (sym (ap joined w ∙ j)) (more-filled f (entry name) fits));
          }

      go : (p : Result Interned StringRoom) → interned (take used strings) room name ≡ p → is_full p ≡ false → NameStored room used strings name names p
      go (Ok (place.Known i)) e h = known i (among (Some i) (known_found (take used strings) name room i e))
      go (Ok (place.New i)) e h =
          let s = new-placed (take used strings) name room i e in
          let n : length (take used strings) ≡ used = ap length f.part ∙ sym f.counted in
          new i (among None s.absent) (sym s.place ∙ n) (omega (arith, s.fits, s.place, n))
      go (Err full) e h = absurd (true≢false h)

-- ---- an event after the events

pub plain-snoc : (es : List Event) (e : Event) → AllPlain es → Plain e → AllPlain (es ++ (e ∷ []))
unfolding AllPlain
plain-snoc [] e a p = (p, tt)
plain-snoc (x ∷ es) e a p = (a.0, plain-snoc es e a.1 p)

pub sizes_append : (es fs : List Event) → events_size (es ++ fs) ≡ events_size es + events_size fs
unfolding events_size
sizes_append [] fs = omega arith
sizes_append (e ∷ es) fs = omega (arith, sizes_append es fs)

pub size-snoc : (es : List Event) (e : Event) → events_size (es ++ (e ∷ [])) ≡ events_size es + event_size e
unfolding events_size
size-snoc es e = omega (arith, sizes_append es (e ∷ []))

pub depth-snoc : (es : List Event) (e : Event) → depth_of (es ++ (e ∷ [])) ≡ deepens (depth_of es) e
unfolding depth_of
depth-snoc es e = foldl-append deepens 0 es (e ∷ [])

pub ended-snoc : (es : List Event) (e : Event) → ended_of (es ++ (e ∷ [])) ≡ closes (ended_of es) e
unfolding ended_of
ended-snoc es e = foldl-append closes false es (e ∷ [])

-- what is known of an accepted call's event, from the depth and whether a node was ended last
unfoldable pub Follows : ℕ → Bool → Event → Type 0
Follows depth ended (begins name) = depth < most_depth
Follows depth ended (has p) = (0 < depth) × (ended ≡ false)
Follows depth ended ends = 0 < depth

pub still_shallow : (depth : ℕ) (ended : Bool) (e : Event) → Follows depth ended e → depth ≤ most_depth → deepens depth e ≤ most_depth
unfolding Follows deepens
still_shallow depth ended (begins name) f h = omega arith
still_shallow depth ended (has p) f h = h
still_shallow depth ended ends f h = omega arith

pub still_accepted : (depth : ℕ) (ended : Bool) (e : Event) (rest : List Event) → Follows depth ended e → Accepted (deepens depth e) (closes ended e) rest → Accepted depth ended (e ∷ rest)
unfolding Follows deepens closes Accepted
still_accepted depth ended (begins name) rest f a = subst (λ (d : ℕ). Accepted d false rest) (add-one depth) a
still_accepted zero ended (has p) rest f a = absurd (let l = f.0 in omega (arith, l))
still_accepted (suc depth) true (has p) rest f a = absurd (true≢false f.1)
still_accepted (suc depth) false (has p) rest f a = a
still_accepted zero ended ends rest f a = absurd (omega arith)
still_accepted (suc depth) ended ends rest f a = subst (λ (n : ℕ). Accepted n true rest) (let z : suc depth - 1 ≡ depth = omega arith in z) a

pub still_nested : (depth : ℕ) (ended : Bool) (e : Event) (rest : List Event) → Follows depth ended e → depth ≤ most_depth → Shallow (most_depth - deepens depth e) rest → Shallow (most_depth - depth) (e ∷ rest)
unfolding Follows deepens Shallow
still_nested depth ended (begins name) rest f h s = let q : most_depth - depth ≡ suc (most_depth - (depth + 1)) = omega arith in rw q s
still_nested depth ended (has p) rest f h s = s
still_nested depth ended ends rest f h s = let q : most_depth - (depth - 1) ≡ suc (most_depth - depth) = omega arith in subst (λ (k : ℕ). Shallow k rest) q s
