-- `survey` makes the tests of `outcome` in their order, and counts the entries with the strings cut.
use mathlib.Core.Path.{sym, ◌∙◌}
use Rattle.std.proofs.lemmas.Result.{err_from_is_err_and}
use Rattle.fdt_reader.proofs.Header.{long, areas_inside, cut_ready, bad_words, bad_areas, header-good, no_pair, structure-surveyed}
use Rattle.fdt_reader.proofs.survey.Goals as goal

pub returns-then-not-good_words : goal.returns-then-not-good_words
returns-then-not-good_words c = bad_words _ (sym c.good_words.ensures ∙ c.if-not-good_words.true)

pub areas_of-a-requires : goal.areas_of-a-requires
areas_of-a-requires c = long _ (sym c.good_words.ensures ∙ c.if-not-good_words.false)

pub returns-then-not-good_areas : goal.returns-then-not-good_areas
returns-then-not-good_areas c = bad_areas _ c.areas_of-a.ensures (sym c.good_areas.ensures ∙ c.if-not-good_areas.true)

pub returns-in_err-reservations : goal.returns-in_err-reservations
returns-in_err-reservations c =
    let good = header-good _ c.areas_of-a.ensures (sym c.good_words.ensures ∙ c.if-not-good_words.false) (sym c.good_areas.ensures ∙ c.if-not-good_areas.false) in
    let p = err_from_is_err_and c.from_residual.result c.from_residual.ensures.1 in
    rw (p.1, p.2) (no_pair _ c.areas_of-a.ensures good c.in_err-reservations.ensures)

pub trim-areas-requires : goal.trim-areas-requires
trim-areas-requires c =
    let good = header-good _ c.areas_of-a.ensures (sym c.good_words.ensures ∙ c.if-not-good_words.false) (sym c.good_areas.ensures ∙ c.if-not-good_areas.false) in
    areas_inside _ good c.type_inv.blob c.areas_of-a.ensures

pub count_entries-requires : goal.count_entries-requires
count_entries-requires c =
    let good = header-good _ c.areas_of-a.ensures (sym c.good_words.ensures ∙ c.if-not-good_words.false) (sym c.good_areas.ensures ∙ c.if-not-good_areas.false) in
    cut_ready _ good c.type_inv.blob c.areas_of-a.ensures c.trim-areas.ensures

pub returns-in_err-entries : goal.returns-in_err-entries
returns-in_err-entries c =
    let good = header-good _ c.areas_of-a.ensures (sym c.good_words.ensures ∙ c.if-not-good_words.false) (sym c.good_areas.ensures ∙ c.if-not-good_areas.false) in
    let p = err_from_is_err_and c.from_residual-in_err-entries.result c.from_residual-in_err-entries.ensures.1 in
    rw (p.1, p.2) (structure-surveyed _ c.areas_of-a.ensures good c.in_ok-reservations.ensures c.trim-areas.ensures c.in_err-entries.ensures)

pub returns : goal.returns
returns c =
    let good = header-good _ c.areas_of-a.ensures (sym c.good_words.ensures ∙ c.if-not-good_words.false) (sym c.good_areas.ensures ∙ c.if-not-good_areas.false) in
    structure-surveyed _ c.areas_of-a.ensures good c.in_ok-reservations.ensures c.trim-areas.ensures c.in_ok-entries.ensures
