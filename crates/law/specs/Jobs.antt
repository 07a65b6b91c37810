-- Jobs, their models, and how a job is filled.
use Rattle.std.specs.Prelude.{◌≡◌, ℕ, ◌+◌, true, cond, List, [], ◌∷◌, ◌++◌, map, length, ℤ, pos, is_some, Some, None, Ok, Err, Option, Result, ◌==◌, nat_le, nat_lt}
use Rattle.std.specs.List.{AllByRecursion}
use Rattle.terms.specs.declared.fault.Cause.TheVariants.{Full, OutOfRange, UnknownRelation, WrongLength}
use Rattle.terms.specs.declared.fault.Fault.{Fault}
use Rattle.terms.specs.Faults.{changed, fault, first_fault, first_unless, unless}
use Rattle.terms.specs.Limits.{million, right_limit, within}
use Rattle.terms.specs.Rows.{Meets, Plan, Row, dot, turned}
use Rattle.theories.specs.Meaning.{Meaning}
use Rattle.law.specs.declared.relation.Relation.{Relation}
use Rattle.law.specs.declared.relation.Relation.TheVariants.{AtMost, AtLeast, Equal}

-- one cost for each variable, and rows over the variables
pub record Job : Type 0 where
  pub costs : List ℤ
  pub rows : List Row

-- the number of variables
abbrev pub size : Job → ℕ
size j = length j.costs

abbrev pub cost : Job → Plan → ℤ
cost j x = dot j.costs x

-- a plan that meets every row of the job and that the theory admits
pub record Model (j : Job) (th : Meaning (List ℕ)) (x : Plan) : Type 0 where
  pub long : length x ≡ size j
  pub meets : AllByRecursion (Meets x) j.rows
  pub admitted : th.admits x ≡ true

-- ---- filling
abbrev pub no_job : Job
no_job = record { costs = []; rows = [] }

-- an earlier row reads 0 at a new variable
abbrev pub widened : Row → Row
widened r = record { coefficients = r.coefficients ++ pos 0 ∷ []; right = r.right }

abbrev pub variable_checks : ℕ → ℤ → List (Option Fault)
variable_checks n c = unless (within million c) OutOfRange 0 ∷ unless (nat_lt n 16) Full 0 ∷ []

abbrev pub variable_added : Job → ℤ → Job × Result (Unit {0}) Fault
variable_added j c = changed (first_fault (variable_checks (size j) c)) j (record { costs = j.costs ++ c ∷ []; rows = map widened j.rows })

-- the letters L (76), G (71) and E (69)
abbrev pub relation_of : ℕ → Option Relation
relation_of letter = cond (letter == 76) (Some AtMost) (cond (letter == 71) (Some AtLeast) (cond (letter == 69) (Some Equal) None))

abbrev pub related : Option Relation → Result Relation Fault
related None = Err (fault UnknownRelation 0)
related (Some relation) = Ok relation

-- a row at most, at least or equal, as rows at most
abbrev pub rewritten : Relation → Row → List Row
rewritten AtMost r = r ∷ []
rewritten AtLeast r = turned r ∷ []
rewritten Equal r = r ∷ turned r ∷ []

abbrev pub rows_of : Option Relation → Row → List Row
rows_of None r = []
rows_of (Some relation) r = rewritten relation r

-- the checks of a row that is to join a job
abbrev pub row_checks : Job → List ℤ → ℕ → ℤ → List (Option Fault)
row_checks j coefficients letter right =
    unless (length coefficients == size j) WrongLength 0
    ∷ first_unless OutOfRange 0 (map (within million) coefficients)
    ∷ unless (within right_limit right) OutOfRange (length coefficients)
    ∷ unless (is_some (relation_of letter)) UnknownRelation 0
    ∷ unless (nat_le (length j.rows + length (rows_of (relation_of letter) (record { coefficients = coefficients; right = right }))) 64) Full 0
    ∷ []

abbrev pub row_added : Job → List ℤ → ℕ → ℤ → Job × Result (Unit {0}) Fault
row_added j coefficients letter right =
    changed (first_fault (row_checks j coefficients letter right)) j
    (record { costs = j.costs; rows = j.rows ++ rows_of (relation_of letter) (record { coefficients = coefficients; right = right }) })
