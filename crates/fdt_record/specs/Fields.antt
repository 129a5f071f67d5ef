-- A record with one of its fields set, and the rest as it was. The rooms and the reservations stay as opening set them.
use Rattle.std.specs.Prelude.{ℕ, Bool, cond, eqb}
use Rattle.fdt_record.specs.declared.Record.{Record}

-- the numbers that calls set
pub data Number : Type 0 where
  used_blob : Number
  used_strings : Number
  used_phandles : Number
  depth : Number
  start : Number
  boot : Number

-- the flags that calls set: whether a node was ended last, and whether the record is marked finished
pub data Flag : Type 0 where
  ended : Flag
  finish : Flag

-- their places, by which two are distinguished
abbrev number_place : Number → ℕ
number_place used_blob = 0
number_place used_strings = 1
number_place used_phandles = 2
number_place depth = 3
number_place start = 4
number_place boot = 5

abbrev flag_place : Flag → ℕ
flag_place ended = 0
flag_place finish = 1

-- what is set, and to what
pub data Setting : Type 0 where
  number : Number → ℕ → Setting
  flag : Flag → Bool → Setting

-- a number afterwards: the new one if it is set, otherwise the old one
abbrev new_number : Number → Setting → ℕ → ℕ
new_number this (number set new) old = cond (eqb (number_place set) (number_place this)) new old
new_number this (flag set new) old = old

-- a flag afterwards
abbrev new_flag : Flag → Setting → Bool → Bool
new_flag this (number set new) old = old
new_flag this (flag set new) old = cond (eqb (flag_place set) (flag_place this)) new old

-- the record afterwards
abbrev pub setting : Setting → Record → Record
setting s w = record {
  blob_room = w.blob_room;
  blob_used = new_number used_blob s w.blob_used;
  strings_room = w.strings_room;
  strings_used = new_number used_strings s w.strings_used;
  phandles_room = w.phandles_room;
  phandles_used = new_number used_phandles s w.phandles_used;
  reservations = w.reservations;
  node_depth = new_number depth s w.node_depth;
  node_start = new_number start s w.node_start;
  boot_cpuid_phys = new_number boot s w.boot_cpuid_phys;
  node_ended = new_flag ended s w.node_ended;
  finished = new_flag finish s w.finished;
}

abbrev pub with_used_blob : ℕ → Record → Record
with_used_blob n = setting (number used_blob n)

abbrev pub with_used_strings : ℕ → Record → Record
with_used_strings n = setting (number used_strings n)

abbrev pub with_used_phandles : ℕ → Record → Record
with_used_phandles n = setting (number used_phandles n)

abbrev pub with_depth : ℕ → Record → Record
with_depth n = setting (number depth n)

abbrev pub with_start : ℕ → Record → Record
with_start n = setting (number start n)

abbrev pub with_boot : ℕ → Record → Record
with_boot n = setting (number boot n)

abbrev pub with_ended : Bool → Record → Record
with_ended b = setting (flag ended b)

abbrev pub with_finished : Bool → Record → Record
with_finished b = setting (flag finish b)
