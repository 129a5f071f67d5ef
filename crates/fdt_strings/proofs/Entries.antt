-- Laws of the strings area: strings split into entries, entries join to strings again, and the offset at which a name is found.
use mathlib.Core.Path.{◌≡◌, refl, sym, ap, ◌∙◌}
use mathlib.Core.Bool.{Bool, true, false, cond, and-eq-true_iff, false≢true, true≢false}
use mathlib.Core.List.{List, [], ◌∷◌, ◌++◌, append_assoc, append-nil, Memᴰ}
use mathlib.Core.Logic.{◌↔◌}
use Prim.Native.Nat.{ℕ, ◌+◌, ◌-◌, ◌≤◌, ◌<◌}
use native.Mathlib.Omega.{arith}
use borrow.Author.Tests.{eq-eqb, ne_eqb, eqb-true, eqb-false}
use lib.ListN.{length, get_or, length-append}
use lib.Seq.{append_snoc, get_or_at}
use lib.Dec.{eqb}
use Rattle.fdt_strings.specs.Entries.{found_values, entry, with_byte, entries, same, first_from, find_string, joined, NoZero, no_byte, next_byte}
use Rattle.std.specs.Prelude.{Option, Some, None}

-- ---- the same bytes

pub same_eq : (s t : List ℕ) → same s t ≡ true → s ≡ t
unfolding same
same_eq [] [] h = refl
same_eq [] (c ∷ t) h = absurd (false≢true h)
same_eq (b ∷ s) [] h = absurd (false≢true h)
same_eq (b ∷ s) (c ∷ t) h =
    let p = (and-eq-true_iff (eqb b c) (same s t)).0 h in
    let e = eqb-true b c p.0 in
    let f = same_eq s t p.1 in
    cc

pub eq_same : (s t : List ℕ) → s ≡ t → same s t ≡ true
unfolding same
eq_same s t e = rw (← e) (self s)
  where
    self : (s : List ℕ) → same s s ≡ true
    self [] = refl
    self (b ∷ s) = simp (eq-eqb b b refl, self s)

-- ---- strings split into entries

-- no entry has a byte 0
pub data PlainNames : List (List ℕ) → Type 0 where
  no_entry : PlainNames []
  next_entry : {e : List ℕ} {es : List (List ℕ)} → NoZero e → PlainNames es → PlainNames (e ∷ es)

pub length-entry : (name : List ℕ) → length (entry name) ≡ length name + 1
unfolding entry
length-entry name = length-append name (0 ∷ [])

-- bytes and then a 0 are an entry
pub entries_front : {e : List ℕ} (rest : List ℕ) → NoZero e → entries (e ++ 0 ∷ rest) ≡ e ∷ entries rest
unfolding entries with_byte
entries_front rest no_byte = refl
entries_front rest (next_byte {b = b} h n) = simp (ne_eqb b 0 (omega arith), entries_front rest n)

pub entries-plain : (s : List ℕ) → PlainNames (entries s)
unfolding entries with_byte
entries-plain [] = no_entry
entries-plain (b ∷ s) = go (eqb b 0) refl (entries s) (entries-plain s)
  where
    go : (z : Bool) → eqb b 0 ≡ z → (es : List (List ℕ)) → PlainNames es → PlainNames (cond z ([] ∷ es) (with_byte b es))
    go true e es p = next_entry no_byte p
    go false e [] p = no_entry
    go false e (x ∷ es) (next_entry n p) = let h : 0 < b = omega (arith, eqb-false b 0 e) in next_entry (next_byte h n) p

-- ---- entries join to strings again

pub joined-append : (es fs : List (List ℕ)) → joined (es ++ fs) ≡ joined es ++ joined fs
unfolding joined
joined-append [] fs = refl
joined-append (e ∷ es) fs = simp (joined-append es fs, append_assoc)

pub entries-joined : {es : List (List ℕ)} → PlainNames es → entries (joined es) ≡ es
unfolding joined entry entries
entries-joined no_entry = refl
entries-joined (next_entry {e = e} {es = es} n p) =
    ap entries (append_snoc e 0 (joined es)) ∙ entries_front (joined es) n ∙ ap (λ (l : List (List ℕ)). e ∷ l) (entries-joined p)

-- strings are their entries and then the bytes after the last 0
pub joined-entries : (s : List ℕ) → (t : List ℕ) × (s ≡ joined (entries s) ++ t)
unfolding entries with_byte joined entry
joined-entries [] = ([], refl)
joined-entries (b ∷ s) = go (eqb b 0) refl (entries s) (joined-entries s)
  where
    go : (z : Bool) → eqb b 0 ≡ z → (es : List (List ℕ)) → (t : List ℕ) × (s ≡ joined es ++ t) → (t : List ℕ) × (b ∷ s ≡ joined (cond z ([] ∷ es) (with_byte b es)) ++ t)
    go true e es p = (p.0, let n = eqb-true b 0 e in let q = p.1 in cc)
    go false e [] p = (b ∷ s, refl)
    go false e (x ∷ es) p = (p.0, ap (λ (l : List ℕ). b ∷ l) p.1)

-- ---- strings that are empty or end in 0

pub data Whole : List ℕ → Type 0 where
  empty : Whole []
  ended : (s : List ℕ) → Whole (entry s)

pub whole_append : {s t : List ℕ} → Whole s → Whole t → Whole (s ++ t)
unfolding entry
whole_append w empty = rw append-nil w
whole_append {s} w (ended t) = rw (← append_assoc) (ended (s ++ t))

pub whole-joined : (es : List (List ℕ)) → Whole (joined es)
unfolding joined
whole-joined [] = empty
whole-joined (e ∷ es) = whole_append (ended e) (whole-joined es)

pub whole-last : {s : List ℕ} {n : ℕ} → Whole s → length s ≡ n → 0 < n → get_or s (n - 1) 0 ≡ 0
unfolding entry
whole-last empty e h = absurd (omega arith)
whole-last (ended s) e h = get_or_at s 0 [] 0 _ (omega (arith, length-append s (0 ∷ [])))

-- strings that end in 0 have an entry
some_entry : (s : List ℕ) → (e : List ℕ) × (es : List (List ℕ)) × (entries (entry s) ≡ e ∷ es)
unfolding entries with_byte entry
some_entry [] = ([], [], refl)
some_entry (b ∷ s) = go (eqb b 0) (entries (entry s)) (some_entry s)
  where
    go :
        (z : Bool) (fs : List (List ℕ)) → (e : List ℕ) × (es : List (List ℕ)) × (fs ≡ e ∷ es) →
        (e : List ℕ) × (es : List (List ℕ)) × (cond z ([] ∷ fs) (with_byte b fs) ≡ e ∷ es)
    go true fs p = ([], fs, refl)
    go false fs p = (b ∷ p.0, p.1, ap (with_byte b) p.2)

pub entries-append : {s : List ℕ} (t : List ℕ) → Whole s → entries (s ++ t) ≡ entries s ++ entries t
unfolding entries with_byte entry
entries-append t empty = refl
entries-append t (ended []) = refl
entries-append t (ended (b ∷ s)) = go (eqb b 0) (some_entry s).2 (entries-append t (ended s))
  where
    go :
        {e : List ℕ} {es fs gs : List (List ℕ)} (z : Bool) → gs ≡ e ∷ es → fs ≡ gs ++ entries t →
        cond z ([] ∷ fs) (with_byte b fs) ≡ cond z ([] ∷ gs) (with_byte b gs) ++ entries t
    go true p q = ap (λ (l : List (List ℕ)). [] ∷ l) q
    go false p q = rw (q, p)

pub joined-whole : {s : List ℕ} → Whole s → joined (entries s) ≡ s
unfolding entries with_byte joined entry
joined-whole empty = refl
joined-whole (ended []) = refl
joined-whole (ended (b ∷ s)) = go (eqb b 0) refl (some_entry s).2 (joined-whole (ended s))
  where
    go : {e : List ℕ} {es gs : List (List ℕ)} (z : Bool) → eqb b 0 ≡ z → gs ≡ e ∷ es → joined gs ≡ entry s → joined (cond z ([] ∷ gs) (with_byte b gs)) ≡ b ∷ entry s
    go true f p q = let n = eqb-true b 0 f in cc
    go false f p q = rw p (ap (λ (l : List ℕ). b ∷ l) (rw p at q))

-- ---- where a name is found

-- if nothing is found, the first entry is not the name and nothing is found among the others
missed : (k : ℕ) {x : Option ℕ} (z : Bool) → cond z (Some k) x ≡ None → (z ≡ false) × (x ≡ None)
missed k true h = let n : ◌≡◌ {A = ℕ} 0 1 = cc in absurd (omega arith)
missed k false h = (refl, h)

-- entries that are not the name are passed over
pub first-after : (name : List ℕ) (k : ℕ) (es fs : List (List ℕ)) → first_from k es name ≡ None → first_from k (es ++ fs) name ≡ first_from (k + length (joined es)) fs name
unfolding first_from joined
first-after name k [] fs h = ap (λ (n : ℕ). first_from n fs name) (omega arith)
first-after name k (e ∷ es) fs h =
    let m = missed k (same e name) h in
    let n : k + (length e + 1) + length (joined es) ≡ k + length (entry e ++ joined es) = simp length-append (omega (arith, length-entry e)) in
    simp m.0 (first-after name (k + (length e + 1)) es fs m.1 ∙ ap (λ (j : ℕ). first_from j fs name) n)

-- the name is found at i among entries whose first is at k
record Among (k : ℕ) (es : List (List ℕ)) (name : List ℕ) (i : ℕ) : Type 0 where
  before : List (List ℕ)
  behind : List (List ℕ)
  split : es ≡ before ++ name ∷ behind
  place : k + length (joined before) ≡ i
  first : first_from k before name ≡ None

among : (k : ℕ) (es : List (List ℕ)) (name : List ℕ) (i : ℕ) → first_from k es name ≡ Some i → Among k es name i
unfolding first_from joined
among k [] name i h = let n : ◌≡◌ {A = ℕ} 0 1 = cc in absurd (omega arith)
among k (e ∷ es) name i h = go (same e name) refl (λ r. among (k + (length e + 1)) es name i r) h
  where
    go :
        {x : Option ℕ} (z : Bool) → same e name ≡ z → (x ≡ Some i → Among (k + (length e + 1)) es name i) → cond z (Some k) x ≡ Some i →
        Among k (e ∷ es) name i
    go true f more h =
        let n : k ≡ i = cc in
        record { before = []; behind = es; split = ap (λ (l : List ℕ). l ∷ es) (same_eq e name f); place = omega arith; first = refl }
    go false f more h =
        let a = more h in
        record {
          before = e ∷ a.before;
          behind = a.behind;
          split = ap (λ (l : List (List ℕ)). e ∷ l) a.split;
          place = simp length-append (omega (arith, a.place, length-entry e));
          first = simp f a.first;
        }

plain_at : (es fs : List (List ℕ)) (e : List ℕ) → PlainNames (es ++ e ∷ fs) → PlainNames es × NoZero e
plain_at [] fs e (next_entry n p) = (no_entry, n)
plain_at (x ∷ es) fs e (next_entry n p) = let q = plain_at es fs e p in (next_entry n q.0, q.1)

-- the name is in the strings at i: as a whole entry, and the first that is the name
pub record Stands (s name : List ℕ) (i : ℕ) : Type 0 where
  pub before : List ℕ
  pub behind : List ℕ
  pub split : s ≡ before ++ (name ++ 0 ∷ behind)
  pub place : length before ≡ i
  pub starts : Whole before
  pub plain : NoZero name
  pub first : find_string before name ≡ None

-- a name that is found is there
pub found-stands : (s name : List ℕ) (i : ℕ) → find_string s name ≡ Some i → Stands s name i
unfolding find_string joined entry
found-stands s name i h =
    let a = among 0 (entries s) name i h in
    let t = joined-entries s in
    let p = plain_at a.before a.behind name (rw a.split at (entries-plain s)) in
    record {
      before = joined a.before;
      behind = joined a.behind ++ t.0;
      split = t.1 ∙ ap (λ (l : List (List ℕ)). joined l ++ t.0) a.split ∙ simp (joined-append, append_assoc);
      place = omega (arith, a.place);
      starts = whole-joined a.before;
      plain = p.1;
      first = ap (λ (l : List (List ℕ)). first_from 0 l name) (entries-joined p.0) ∙ a.first;
    }

-- a name that is there is found
pub stands-found : (s name : List ℕ) (i : ℕ) → Stands s name i → find_string s name ≡ Some i
unfolding find_string first_from
stands-found s name i w =
    let e : entries s ≡ entries w.before ++ name ∷ entries w.behind =
    ap entries w.split ∙ entries-append _ w.starts ∙ ap (λ (l : List (List ℕ)). entries w.before ++ l) (entries_front w.behind w.plain)
    in
    let n : 0 + length (joined (entries w.before)) ≡ i = simp (joined-whole w.starts) (omega (arith, w.place)) in
    ap (λ (l : List (List ℕ)). first_from 0 l name) e ∙ first-after name 0 (entries w.before) (name ∷ entries w.behind) w.first
    ∙ simp (eq_same name name refl) (ap Some n)

-- a name that is in the strings fits in them
pub stands-fits : {s name : List ℕ} {i : ℕ} → Stands s name i → i + length (entry name) ≤ length s
stands-fits {name = name} w = omega (arith, length-entry name, simp length-append at (ap length w.split))

-- a name that is found stays where it is, whatever follows
pub found-append : (s t name : List ℕ) (i : ℕ) → find_string s name ≡ Some i → find_string (s ++ t) name ≡ Some i
found-append s t name i h =
    let w = found-stands s name i h in
    stands-found (s ++ t) name i (record {
      before = w.before;
      behind = w.behind ++ t;
      split = ap (λ (l : List ℕ). l ++ t) w.split ∙ simp append_assoc;
      place = w.place;
      starts = w.starts;
      plain = w.plain;
      first = w.first;
    })

-- a new name that is stored after whole strings is found there
pub found-stored : {s name : List ℕ} → Whole s → NoZero name → find_string s name ≡ None → find_string (s ++ entry name) name ≡ Some (length s)
unfolding entry
found-stored {s} {name} w n h =
    stands-found (s ++ entry name) name (length s) (record { before = s; behind = []; split = refl; place = refl; starts = w; plain = n; first = h })

-- a name that is not found is not an entry
pub not_found : (s name : List ℕ) → find_string s name ≡ None → Memᴰ name (entries s) → ⊥
unfolding find_string first_from
not_found s name h m = go 0 m h
  where
    go : (k : ℕ) {es : List (List ℕ)} → Memᴰ name es → first_from k es name ≡ None → ⊥
    go k (Memᴰ.head {x = e} q) h = true≢false (sym (eq_same e name (sym q)) ∙ (missed k (same e name) h).0)
    go k (Memᴰ.tail {x = e} m) h = go (k + (length e + 1)) m (missed k (same e name) h).1

-- a result has an offset as its value exactly when the name is found there
pub found-values : (f : Option ℕ) (i : ℕ) → (found_values f ≡ i ∷ []) ↔ (f ≡ Some i)
unfolding found_values
found-values (Some j) i = (λ h. cc, λ h. cc)
found-values None i = (λ h. cc, λ h. cc)
