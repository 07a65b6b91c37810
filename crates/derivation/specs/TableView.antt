-- What a stored table stands for.
use Rattle.std.specs.Prelude.{ℕ, Bool, true, false, List, [], ◌∷◌, map, take, is_some}
use Rattle.terms.specs.Rows.{Row}
use Rattle.terms.specs.Stored.{row_of}
use Rattle.law.specs.Table.{waiting}
use Rattle.derivation.specs.declared.table.Table.{Table}
use Rattle.derivation.specs.Stacked.{heights_of}

-- the rows, the heights from the newest, and the open mark
pub record Held : Type 0 where
  pub rows : List Row
  pub heights : List ℕ
  pub mark : Bool

abbrev pub held_of : Table → Held
held_of t = record { rows = map (row_of t.size) t.rows.items; heights = heights_of t.waiting; mark = is_some t.waiting }

-- what never changes: the number of variables, and the job's rows
pub record Fixed : Type 0 where
  pub size : ℕ
  pub given : List Row

abbrev pub fixed_of : Table → Fixed
fixed_of t = record { size = t.size; given = map (row_of t.size) (take t.given t.rows.items) }

-- the current subproblem shut, by the waiting heights
abbrev pub shut_by : List Row → List Row → List ℕ → Held
shut_by given rows [] = record { rows = given; heights = []; mark = false }
shut_by given rows (h ∷ hs) = record { rows = waiting rows h; heights = hs; mark = true }
