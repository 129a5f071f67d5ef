-- Bytes written into a buffer: the bytes before and after them stay as they were.
use Rattle.std.specs.Prelude.{ℕ, List, ◌++◌, length, take, drop}

-- bs written over the front of xs
unfoldable pub over : List ℕ → List ℕ → List ℕ
over bs xs = bs ++ drop (length bs) xs

-- bs written into xs from the place `at` on
unfoldable pub splice : ℕ → List ℕ → List ℕ → List ℕ
unfolding over
splice at bs xs = take at xs ++ over bs (drop at xs)
