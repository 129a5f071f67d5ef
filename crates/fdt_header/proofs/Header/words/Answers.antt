-- `words` meets its contract: the words are those of the definition.
use mathlib.Core.Path.{refl}
use Rattle.fdt_header.specs.Header.{words_from}
use Rattle.fdt_header.proofs.Header.words.Goals as goal

pub returns : goal.returns
unfolding words_from
returns c = refl
