-- How many bytes each kind of value takes.
use Rattle.fdt_bytes.proofs.BigEndian.{length-cells}
use Rattle.fdt_values.proofs.Values.{fits-texts, length-texts}

pub ruleset lengths = (length-cells, fits-texts, length-texts)
