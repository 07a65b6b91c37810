-- Numbers as bytes, little-endian; a byte that is missing counts as 0.
use Rattle.std.specs.Prelude.{ℕ, ◌+◌, ◌*◌, List, slice_index}

-- the number of the first bytes
abbrev pub nat16 : List ℕ → ℕ
nat16 bs = slice_index bs 0 + slice_index bs 1 * 256

abbrev pub nat32 : List ℕ → ℕ
nat32 bs = slice_index bs 0 + slice_index bs 1 * 256 + slice_index bs 2 * 65536 + slice_index bs 3 * 16777216

abbrev pub nat64 : List ℕ → ℕ
nat64 bs = nat32 bs + slice_index bs 4 * 4294967296 + slice_index bs 5 * 1099511627776 + slice_index bs 6 * 281474976710656 + slice_index bs 7 * 72057594037927936
