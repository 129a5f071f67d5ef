-- Laws of the bytes of events: how many they are, and that events added at the end leave those before as they are.
use mathlib.Core.Path.{◌≡◌, refl, sym, ap, ◌∙◌}
use mathlib.Core.List.{List, [], ◌∷◌, ◌++◌, append_assoc, append-nil}
use Prim.Native.Nat.{ℕ, ◌+◌}
use lib.ListN.{length, length-append}
use Rattle.fdt_format.specs.Description.{◌≔◌}
use Rattle.fdt_format.specs.Events.{Event, begins, has, ends}
use Rattle.fdt_format.specs.Tokens.{property_bytes}
use Rattle.fdt_format.specs.Blob.{names_from, names_of, offset_of, event_bytes, structure_bytes, event_size, events_size}
use Rattle.fdt_format.proofs.Strings.{AllHas, offset_stays, names_grow, names-append, names_have}
use Rattle.fdt_format.proofs.Tokens.{length-begin, length-property, length-end}

-- ---- sizes

module _ (names : List (List ℕ)) where
  pub event_size_lem : (e : Event) → length (event_bytes names e) ≡ event_size e
  unfolding event_bytes event_size
  event_size_lem (begins name) = length-begin name
  event_size_lem (has (name ≔ value)) = length-property (offset_of names name) value
  event_size_lem ends = length-end

  pub structure-size : (es : List Event) → length (structure_bytes names es) ≡ events_size es
  unfolding structure_bytes events_size
  structure-size [] = refl
  structure-size (e ∷ es) =
      length-append (event_bytes names e) (structure_bytes names es)
      ∙ ap (λ (n : ℕ). n + length (structure_bytes names es)) (event_size_lem e)
      ∙ ap (λ (n : ℕ). event_size e + n) (structure-size es)

  -- ---- events after events

  pub structure-append : (es fs : List Event) → structure_bytes names (es ++ fs) ≡ structure_bytes names es ++ structure_bytes names fs
  unfolding structure_bytes
  structure-append [] fs = refl
  structure-append (e ∷ es) fs =
      ap (λ (l : List ℕ). event_bytes names e ++ l) (structure-append es fs)
      ∙ sym (append_assoc (event_bytes names e) (structure_bytes names es) (structure_bytes names fs))

  -- ---- names added at the end change no bytes

  pub structure_stays : (more : List (List ℕ)) (es : List Event) → AllHas names es → structure_bytes (names ++ more) es ≡ structure_bytes names es
  unfolding structure_bytes event_bytes AllHas
  structure_stays more [] h = refl
  structure_stays more (begins name ∷ es) h = ap (λ (l : List ℕ). event_bytes names (begins name) ++ l) (structure_stays more es h)
  structure_stays more (has (name ≔ value) ∷ es) h =
      ap (λ (n : ℕ). property_bytes n value ++ structure_bytes (names ++ more) es) (offset_stays names more name h.0)
      ∙ ap (λ (l : List ℕ). event_bytes names (has (name ≔ value)) ++ l) (structure_stays more es h.1)
  structure_stays more (ends ∷ es) h = ap (λ (l : List ℕ). event_bytes names ends ++ l) (structure_stays more es h)

-- events whose names are those of the events before and their own
pub structure-more : (es fs : List Event) → structure_bytes (names_of (es ++ fs)) (es ++ fs) ≡ structure_bytes (names_of es) es ++ structure_bytes (names_of (es ++ fs)) fs
unfolding names_of
structure-more es fs =
    let g = names_grow (names_from [] es) fs in
    let n : names_from [] (es ++ fs) ≡ names_from [] es ++ g.0 = names-append [] es fs ∙ g.1 in
    structure-append (names_from [] (es ++ fs)) es fs
    ∙ ap (λ (l : List ℕ). l ++ structure_bytes (names_from [] (es ++ fs)) fs)
    (ap (λ (ns : List (List ℕ)). structure_bytes ns es) n ∙ structure_stays (names_from [] es) g.0 es (names_have [] es))

-- one more event at the end
pub structure-snoc : (es : List Event) (e : Event) → structure_bytes (names_of (es ++ (e ∷ []))) (es ++ (e ∷ [])) ≡ structure_bytes (names_of es) es ++ event_bytes (names_of (es ++ (e ∷ []))) e
unfolding structure_bytes
structure-snoc es e =
    structure-more es (e ∷ [])
    ∙ ap (λ (l : List ℕ). structure_bytes (names_of es) es ++ l) (append-nil (event_bytes (names_of (es ++ (e ∷ []))) e))
