-- One reservation: refusal 8, "size 0, or address + size at least 2^64" (document 01, "When the desk says no").
use Rattle.std.specs.Prelude.{ℕ, ◌+◌, ◌^◌, Bool, ◌||◌, cond, List, [], ◌∷◌, eqb, leb, Result, Ok, Err}
use Rattle.fdt_reserve.specs.declared.FdtReserveEntry.{FdtReserveEntry}
use Rattle.fdt_reserve.specs.declared.InvalidMemoryReservation.{InvalidMemoryReservation}

-- the refusal
abbrev pub invalid_reservation : InvalidMemoryReservation
invalid_reservation = record {}

-- what `FdtReserveEntry::new` returns: a reservation, or refusal 8
abbrev pub Reserved : Type 0
Reserved = Result FdtReserveEntry InvalidMemoryReservation

-- size 0, or address + size at least 2^64
unfoldable pub invalid : ℕ → ℕ → Bool
invalid address size = eqb size 0 || leb (2 ^ 64) (address + size)

-- what `FdtReserveEntry::new` returns
unfoldable pub reserved : ℕ → ℕ → Reserved
reserved address size =
    cond (invalid address size) (Err invalid_reservation) (Ok (record { address = address; size = size }))

-- document 01's number of a result
unfoldable pub number_of : Reserved → ℕ
number_of (Ok e) = 0
number_of (Err refusal) = 8

-- the values of a result
unfoldable pub values_of : Reserved → List ℕ
values_of (Ok e) = e.address ∷ e.size ∷ []
values_of (Err refusal) = []
