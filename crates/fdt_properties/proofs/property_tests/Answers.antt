-- `property_tests` meets its contract: each step refuses with the answer, or goes on to the next.
use mathlib.Core.Path.{sym, ◌∙◌}
use native.Mathlib.Omega.{arith}
use lib.Dec.{lit<}
use Rattle.fdt_bytes.specs.Padding.{round_up}
use Rattle.fdt_bytes.proofs.Padding.{padding-small}
use Rattle.fdt_properties.proofs.Steps.{exits, record_fits, refused-record, refused-value, refused-name, refused-place, added_fits, refused-room, tests-passed}
use Rattle.fdt_properties.proofs.property_tests.Goals as goal

pub returns-in_err-strings_tests : goal.returns-in_err-strings_tests
returns-in_err-strings_tests c = rw (exits _ c.from_residual.ensures) (λ v k. refused-record _ _ _ _ (sym c.strings_tests.ensures ∙ c.in_err-strings_tests.was) v)

pub returns-in_err-len : goal.returns-in_err-len
returns-in_err-len c =
    let told = sym c.strings_tests.ensures ∙ c.in_ok-strings_tests.was in
    rw (exits _ c.from_residual-in_err-len.ensures) (λ v k. refused-value _ _ _ _ told v (sym k ∙ c.in_err-len.was))

pub returns-in_err-name_tests : goal.returns-in_err-name_tests
returns-in_err-name_tests c =
    let told = sym c.strings_tests.ensures ∙ c.in_ok-strings_tests.was in
    rw (exits _ c.from_residual-in_err-name_tests.ensures) (λ v k. refused-name _ _ _ _ told (sym c.name_tests.ensures ∙ c.in_err-name_tests.was) v (sym k ∙ c.in_ok-len.was))

pub place_of-requires : goal.place_of-requires
place_of-requires c =
    let a = c.args in
    let f = record_fits a.w a.blob.now a.strings.now a.name.now (sym c.strings_tests.ensures ∙ c.in_ok-strings_tests.was) in
    record { start = f.blob.start; within = omega (arith, f.blob.used, f.blob.within); stored = omega (arith, f.strings.used, f.strings.within) }

pub returns-in_err-place : goal.returns-in_err-place
returns-in_err-place c =
    let told = sym c.strings_tests.ensures ∙ c.in_ok-strings_tests.was in
    rw (exits _ c.from_residual-in_err-place.ensures)
    (λ v k. refused-place _ _ _ _ told (sym c.name_tests.ensures ∙ c.in_ok-name_tests.was) (sym c.place_of.ensures ∙ c.in_err-place.was) v (sym k ∙ c.in_ok-len.was))

pub after_property-after-requires : goal.after_property-after-requires
unfolding round_up
after_property-after-requires c =
    let a = c.args in
    let told = sym c.strings_tests.ensures ∙ c.in_ok-strings_tests.was in
    let f = record_fits a.w a.blob.now a.strings.now a.name.now told in
    let small = rw c.in_ok-len.was at c.requires in
    record {
      len_bound = omega (arith, padding-small 4 c.in_ok-len.len (lit< tt), f.blob.used, f.blob.small, small);
      added_bound = omega (arith, c.added_by.ensures, added_fits a.w a.blob.now a.strings.now a.name.now told (sym c.place_of.ensures ∙ c.in_ok-place.was), f.strings.small);
    }

pub returns-then-overfull : goal.returns-then-overfull
returns-then-overfull c = λ v k.
    refused-room _ _ _ _ (sym c.strings_tests.ensures ∙ c.in_ok-strings_tests.was) (sym c.name_tests.ensures ∙ c.in_ok-name_tests.was) (sym c.place_of.ensures ∙ c.in_ok-place.was) c.added_by.ensures c.after_property-after.ensures (sym c.overfull.ensures ∙ c.if-overfull.true) v (sym k ∙ c.in_ok-len.was)

pub returns : goal.returns
returns c =
    tests-passed _ _ _ _ (sym c.strings_tests.ensures ∙ c.in_ok-strings_tests.was) (sym c.name_tests.ensures ∙ c.in_ok-name_tests.was) (sym c.place_of.ensures ∙ c.in_ok-place.was) c.added_by.ensures c.after_property-after.ensures c.in_ok-len.was (sym c.overfull.ensures ∙ c.if-overfull.false)
