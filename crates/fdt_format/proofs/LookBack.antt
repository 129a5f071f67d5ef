-- Laws of the look back: its bound stops nothing, what it finds is at a place, it reads nothing past its end, and over the properties
-- of a node it finds exactly the names that they have.
use mathlib.Core.Path.{◌≡◌, refl, sym, ap, ◌∙◌}
use mathlib.Core.Bool.{Bool, true, false, ◌&&◌, ◌||◌, true≢false}
use mathlib.Core.List.Memᴰ
use mathlib.Core.List.{List, [], ◌∷◌, append_assoc, Memᴰ}
use mathlib.Core.Logic.{◌↔◌}
use Prim.Native.Nat.{ℕ, zero, suc, ◌+◌, ◌-◌, ◌≤◌, ◌<◌, ◌^◌}
use native.Mathlib.Omega.{arith}
use borrow.Author.Tests.{leb-true, lt-leb, eqb-true, eq-eqb, ne_eqb}
use lib.Dec.{eqb, leb}
use lib.ListN.{length, take, drop}
use lib.Seq.{take-take}
use Rattle.std.specs.declared.option.Option.{Option}
use Rattle.std.specs.declared.option.Option.TheVariants.{None, Some}
use Rattle.fdt_bytes.specs.BigEndian.{from_big_endian, number_at, word_at, cell_bytes}
use Rattle.fdt_bytes.specs.Padding.{round_up, padded}
use Rattle.fdt_bytes.proofs.Splice.{drop-take}
use Rattle.fdt_bytes.proofs.Tests.{both}
use Rattle.fdt_strings.specs.Entries.{joined}
use Rattle.fdt_strings.proofs.Entries.{PlainNames, stands-fits}
use Rattle.fdt_format.specs.Blob.{offset_of, event_bytes, structure_bytes, event_size, events_size}
use Rattle.fdt_format.specs.Description.{Property, ◌≔◌}
use Rattle.fdt_format.specs.Distinct.{property_names}
use Rattle.fdt_format.specs.Events.{has, property_events}
use Rattle.fdt_format.specs.LookBack.{looks_back, look_back}
use Rattle.fdt_format.specs.Reading.{name_at}
use Rattle.fdt_format.specs.Step.{whole_at, size_at}
use Rattle.fdt_format.specs.Tokens.{property_token, property_bytes, property_size}
use Rattle.fdt_format.proofs.Named.{name_read}
use Rattle.fdt_format.proofs.Steps.{WholeProperty, whole_is, is_whole, size_none, size-whole}
use Rattle.fdt_format.proofs.Strings.{Has, AllHas, has-stands}
use Rattle.fdt_format.proofs.Structure.{event_size_lem}
use Rattle.fdt_format.proofs.Words.{BytesAt, bytes_left, bytes-right, cell_at}

-- what follows a test that must hold
when_true : (t : Bool) {x y : Bool} → (t ≡ true → x ≡ y) → (t && x) ≡ (t && y)
when_true true f = f refl
when_true false f = refl

-- ---- the bound

module _ (b : List ℕ) (end offset : ℕ) where
  none : (k at : ℕ) → end - at < 12 → looks_back b end offset k at ≡ false
  unfolding looks_back whole_at
  none zero at l = refl
  none (suc k) at l = rw (lt-leb _ _ l)

  -- any bound that is at least what is left gives the same
  fuel : (k l at : ℕ) → end - at ≤ k → end - at ≤ l → looks_back b end offset k at ≡ looks_back b end offset l at
  unfolding looks_back
  fuel zero l at p q = sym (none l at (omega arith))
  fuel (suc k) zero at p q = none (suc k) at (omega arith)
  fuel (suc k) (suc l) at p q = when_true (whole_at b end at) λ e.
      let w = whole_is b end at e in
      ap (λ (t : Bool). eqb (word_at b (at + 8)) offset || t) (fuel k l (at + property_size (word_at b (at + 4))) (omega (arith, w.words)) (omega (arith, w.words)))

  module _ (at : ℕ) where
    -- the look back is its first property and the look back after it
    pub look_step : look_back b end offset at ≡ (whole_at b end at && (eqb (word_at b (at + 8)) offset || look_back b end offset (at + property_size (word_at b (at + 4)))))
    unfolding look_back looks_back
    look_step =
        let next : ℕ = at + property_size (word_at b (at + 4)) in
        fuel (end - at) (suc (end - at)) at (omega arith) (omega arith)
        ∙ when_true (whole_at b end at) λ e. ap (λ (t : Bool). eqb (word_at b (at + 8)) offset || t) (fuel (end - at) (end - next) next (omega arith) (omega arith))

    pub look_end : end ≤ at → look_back b end offset at ≡ false
    unfolding look_back
    look_end l = none (end - at) at (omega arith)

    here : WholeProperty b end at → look_back b end offset at ≡ (eqb (word_at b (at + 8)) offset || look_back b end offset (at + property_size (word_at b (at + 4))))
    here w = look_step ∙ rw (is_whole b end at w)

    -- by the size of the property here, as the code asks for it
    module _ {found : Option ℕ} (s : found ≡ size_at b end at) where
      pub look_none : found ≡ None → look_back b end offset at ≡ false
      look_none z = look_step ∙ rw (size_none b end at s z)

      module _ {size : ℕ} (n : found ≡ Some size) where
        pub look_found : word_at b (at + 8) ≡ offset → look_back b end offset at ≡ true
        look_found e = here (size-whole b end at s n).0 ∙ rw (eq-eqb _ _ e)

        pub look_on : (word_at b (at + 8) ≡ offset → ⊥) → look_back b end offset at ≡ look_back b end offset (at + size)
        look_on e =
            let w = size-whole b end at s n in
            here w.0 ∙ rw (ne_eqb _ _ e, w.1)

-- ---- where it finds a property

module _ (b : List ℕ) (end offset : ℕ) where
  -- the words of a property with the offset, at a place from `at` on
  pub record FoundFrom (at : ℕ) : Type 0 where
    pub place : ℕ
    pub on : at ≤ place
    pub words : place + 12 ≤ end
    pub token : word_at b place ≡ property_token
    pub named : word_at b (place + 8) ≡ offset

  looks_place : (k at : ℕ) → looks_back b end offset k at ≡ true → FoundFrom at
  unfolding looks_back
  looks_place zero at e = absurd (true≢false (sym e))
  looks_place (suc k) at e =
      let found = both (whole_at b end at) _ e in
      go (eqb (word_at b (at + 8)) offset) refl (whole_is b end at found.0) found.1 (looks_place k next)
    where
      next : ℕ
      next = at + property_size (word_at b (at + 4))

      go : (t : Bool) → eqb (word_at b (at + 8)) offset ≡ t → WholeProperty b end at → (t || looks_back b end offset k next) ≡ true → (looks_back b end offset k next ≡ true → FoundFrom next) → FoundFrom at
      go true q w _ _ = record { place = at; on = omega arith; words = omega (arith, w.words); token = w.token; named = eqb-true _ _ q }
      go false q w f later = let p = later f in record { place = p.place; on = omega (arith, p.on); words = p.words; token = p.token; named = p.named }

  pub look_place : (at : ℕ) → look_back b end offset at ≡ true → FoundFrom at
  unfolding look_back
  look_place at = looks_place (end - at) at

-- ---- nothing past the end is read

module _ (b c : List ℕ) (end : ℕ) (same : take end b ≡ take end c) (l : end ≤ length b) (m : end ≤ length c) where
  word_same : (at : ℕ) → at + 4 ≤ end → word_at b at ≡ word_at c at
  unfolding number_at
  word_same at h =
      ap from_big_endian
      (sym (drop-take at 4 b (omega arith))
      ∙ ap (drop at) (sym (take-take (at + 4) end b h) ∙ ap (take (at + 4)) same ∙ take-take (at + 4) end c h)
      ∙ drop-take at 4 c (omega arith))

  whole_same : (at : ℕ) → whole_at b end at ≡ whole_at c end at
  unfolding whole_at
  whole_same at = go (leb 12 (end - at)) refl
    where
      go : (t : Bool) → leb 12 (end - at) ≡ t → (t && eqb (word_at b at) property_token && leb (property_size (word_at b (at + 4))) (end - at)) ≡ (t && eqb (word_at c at) property_token && leb (property_size (word_at c (at + 4))) (end - at))
      go true e = let k = leb-true 12 (end - at) e in rw (word_same at (omega arith), word_same (at + 4) (omega arith))
      go false e = refl

  looks_same : (offset k at : ℕ) → looks_back b end offset k at ≡ looks_back c end offset k at
  unfolding looks_back
  looks_same offset zero at = refl
  looks_same offset (suc k) at =
      ap (λ (t : Bool). t && (eqb (word_at b (at + 8)) offset || looks_back b end offset k (at + property_size (word_at b (at + 4))))) (whole_same at)
      ∙ when_true (whole_at c end at) λ e.
      let w = whole_is c end at e in
      rw (word_same (at + 8) (omega (arith, w.words)), word_same (at + 4) (omega (arith, w.words)))
      (ap (λ (t : Bool). eqb (word_at c (at + 8)) offset || t) (looks_same offset k (at + property_size (word_at c (at + 4)))))

  pub look_same : (offset at : ℕ) → look_back b end offset at ≡ look_back c end offset at
  unfolding look_back
  look_same offset at = looks_same offset (end - at) at

-- ---- over the properties of a node

-- names with one offset are one name
one_name : {names : List (List ℕ)} → PlainNames names → (x y : List ℕ) → Has names x → Has names y → offset_of names x ≡ offset_of names y → x ≡ y
one_name {names} plain x y h k e = sym (read x h) ∙ ap (name_at (joined names)) e ∙ read y k
  where
    read : (name : List ℕ) → Has names name → name_at (joined names) (offset_of names name) ≡ name
    read name h =
        let s = has-stands plain name h in
        name_read s.plain (record { before = s.before; behind = s.behind; split = s.split ∙ simp append_assoc; place = s.place })

module _ (b : List ℕ) {names : List (List ℕ)} (plain : PlainNames names) (near : length (joined names) < 2 ^ 32) {end : ℕ} (small : end < 2 ^ 32) (name : List ℕ) (known : Has names name) where
  -- from where properties are, and nothing after them, the look back meets the name's offset exactly if one of them has the name
  pub look_properties :
      (ps : List Property) (at : ℕ) → BytesAt b at (structure_bytes names (property_events ps [])) → at + events_size (property_events ps []) ≡ end → AllHas names (property_events ps []) →
      (look_back b end (offset_of names name) at ≡ true) ↔ Memᴰ name (property_names ps)
  unfolding property_events property_names structure_bytes event_bytes event_size events_size AllHas property_bytes round_up
  look_properties [] at h e a = (λ t. absurd (true≢false (sym t ∙ look_end b end (offset_of names name) at (omega arith))), λ m. absurd (Memᴰ.not-nil m))
  look_properties ((n ≔ value) ∷ ps) at h e a =
      go (eqb (offset_of names n) offset) refl (look_properties ps (at + size) after (omega (arith, e)) a.1)
    where
      offset : ℕ
      offset = offset_of names name

      size : ℕ
      size = property_size (length value)

      words : List ℕ
      words = property_token ∷ length value ∷ offset_of names n ∷ []

      cells : BytesAt b at (cell_bytes 4 words)
      cells = bytes_left (cell_bytes 4 words) (padded 4 value) (bytes_left (event_bytes names (has (n ≔ value))) (structure_bytes names (property_events ps [])) h)

      after : BytesAt b (at + size) (structure_bytes names (property_events ps []))
      after = bytes-right (event_bytes names (has (n ≔ value))) (structure_bytes names (property_events ps [])) h (at + size) (ap (λ (k : ℕ). at + k) (event_size_lem names (has (n ≔ value))))

      sized : word_at b (at + 4) ≡ length value
      sized = cell_at 4 words 1 (at + 4) cells (omega arith) (omega (arith, e, small)) (omega arith)

      named : word_at b (at + 8) ≡ offset_of names n
      named = cell_at 4 words 2 (at + 8) cells (omega arith) (omega (arith, near, stands-fits (has-stands plain n a.0))) (omega arith)

      whole : WholeProperty b end at
      whole = record {
        words = omega (arith, e);
        token = cell_at 4 words 0 at cells (omega arith) (omega arith) (omega arith);
        ends = rw sized (omega (arith, e));
      }

      here_on : look_back b end offset at ≡ (eqb (offset_of names n) offset || look_back b end offset (at + size))
      here_on = here b end offset at whole ∙ rw (sized, named)

      go : (t : Bool) → eqb (offset_of names n) offset ≡ t → (look_back b end offset (at + size) ≡ true) ↔ Memᴰ name (property_names ps) → (look_back b end offset at ≡ true) ↔ Memᴰ name (n ∷ property_names ps)
      go true q more = (
        λ _. Memᴰ.head (sym (one_name plain n name a.0 known (eqb-true _ _ q))),
        λ _. here_on ∙ rw q,
      )
      go false q more = (λ t. Memᴰ.tail (more.0 (sym (here_on ∙ rw q) ∙ t)), λ m. here_on ∙ rw q (later m))
        where
          later : Memᴰ name (n ∷ property_names ps) → look_back b end offset (at + size) ≡ true
          later (Memᴰ.head z) = absurd (true≢false (sym (eq-eqb _ _ (ap (offset_of names) (sym z))) ∙ q))
          later (Memᴰ.tail m) = more.1 m
