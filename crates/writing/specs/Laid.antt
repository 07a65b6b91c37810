-- Bytes laid into a buffer, and what a pen does that lays them.
use Rattle.std.specs.Prelude.{ℕ, ◌+◌, ◌≡◌, ◌≤◌, List, ◌++◌, length, take, drop}
use Rattle.writing.specs.declared.pen.Pen.{Pen}

-- bytes from a place on; what lies before and after them stays
abbrev pub laid : ℕ → List ℕ → List ℕ → List ℕ
laid at bytes out = take at out ++ (bytes ++ drop (at + length bytes) out)

-- the buffer has room for the bytes at the pen
abbrev pub HasRoom : Pen → List ℕ → Type 0
HasRoom pen bytes = pen.at + length bytes ≤ length pen.out.now

-- the pen laid the bytes where it was, and stands after them, over the same buffer
pub record Lays (before : Pen) (bytes : List ℕ) (after : Pen) : Type 0 where
  pub out : after.out.now ≡ laid before.at bytes before.out.now
  pub at : after.at ≡ before.at + length bytes
  pub buffer : after.out.ghost_name ≡ before.out.ghost_name
