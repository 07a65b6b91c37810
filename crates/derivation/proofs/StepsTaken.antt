-- What a stored proof answers and leaves, and what the call of the pile does.
use Rattle.std.proofs.Common.{◌≡◌, ℕ, ◌+◌, ◌≤◌, true, false, ltb, leb, List, [], ◌∷◌, ◌++◌, length, take, Some, None, Ok, Err, Option, Result, sym, refl, ap, ◌∙◌, subst, ap₂, arith}
use Rattle.terms.specs.declared.fault.Cause.TheVariants.{Full, NothingOpen, WrongLength}
use Rattle.terms.specs.declared.fault.Fault.{Fault}
use Rattle.terms.specs.Faults.{answered, changed, fault, first_fault, unless}
use Rattle.theories.specs.Meaning.{Meaning}
use Rattle.law.specs.Calls.{Call, Line}
use Rattle.terms.specs.Stored.{row_of}
use Rattle.derivation.specs.declared.state.State.{State}
use Rattle.derivation.specs.declared.table.Table.{Table}
use Rattle.std.proofs.lemmas.List.{length-map, length-take-le}
use Rattle.law.specs.Jobs.{Job, size}
use Rattle.std.proofs.lemmas.Bool.{and_parts, le-leb, leb-true, ltb-true}
use Rattle.terms.proofs.Passed.{parts_passed, passed, rest_passed, unless_passed}
use Rattle.law.specs.Lines.{between, chain_checks, cut_checks, lines_checks, made_checks, number_checks, room_check}
use Rattle.law.specs.Pile.{Moment, called, moment, moved, refusal, table_checks}
use Rattle.derivation.specs.Stacked.{rights_of}
use Rattle.terms.specs.declared.row.Coefficients.{Coefficients}
use Rattle.terms.specs.Rows.{Plan, Row}
use Rattle.law.specs.Table.{Falling, Holding, Orderly, done, joined, pile_of, shut, view}
use Rattle.law.proofs.Tables.{worked_as_called}
use Rattle.derivation.specs.StateView.{holding_of, job_in, moment_of, plan_of}
use Rattle.derivation.specs.TableView.{Fixed, Held, fixed_of, held_of, shut_by}
use Rattle.derivation.proofs.Stacks.{stacked_falling}

pub rows_long : (t : Table) → length (held_of t).rows ≡ length t.rows.items
rows_long t = length-map t.rows.items (row_of t.size)

-- the job of a stored proof has as many variables
pub size_in : (s : State) → size (job_in s) ≡ s.table.size
size_in s = length-take-le s.table.size s.costs.items (omega (arith, s.table.narrow, s.costs.long))

pub orderly : (s : State) → Orderly (holding_of s)
orderly s = let t = s.table in
    subst (λ n. Falling n (held_of t).heights) (sym (rows_long t)) (stacked_falling t.given (rights_of t.rows.items) (length t.rows.items) (held_of t).heights t.stack)

-- a subproblem was open where the check passed
pub was_open : (s : State) (u : Unit {0}) → Ok u ≡ answered (unless (held_of s.table).mark NothingOpen 0) → (held_of s.table).mark ≡ true
was_open s u e = unless_passed (held_of s.table).mark NothingOpen 0 (passed (unless (held_of s.table).mark NothingOpen 0) u tt e).0

abbrev pub Answer : Type 0
Answer = Moment × Result (Unit {0}) Fault

module _ (j : Job) (th : Meaning (List ℕ)) (p : Holding) (c : Call) where
  open_refusal : p.mark ≡ true → refusal j th (view p) c ≡ first_fault (table_checks j th p.table p.taken c)
  open_refusal e = ap (λ m. refusal j th (moment (pile_of m p.table p.heights) p.taken) c) e

  -- an accepted step
  pub step-accepted : (q : Holding) → Orderly p → p.mark ≡ true → first_fault (table_checks j th p.table p.taken c) ≡ None → q ≡ done j th p.table p.heights p.taken c → ◌≡◌ {A = Answer} (view q, Ok tt) (called j th (view p) c)
  step-accepted q o e n f =
      ap (λ (h : Holding). (view h, Ok tt)) f
      ∙ sym (ap (λ (x : Option Fault). let w : Holding × Result (Unit {0}) Fault = changed x p (done j th p.table p.heights p.taken c) in (view w.0, w.1)) (open_refusal e ∙ n))
      ∙ worked_as_called j th p c o

  -- a refused one
  pub step_refused : (f : Fault) → p.mark ≡ true → first_fault (table_checks j th p.table p.taken c) ≡ Some f → ◌≡◌ {A = Answer} (view p, Err f) (called j th (view p) c)
  step_refused f e n = sym (ap (λ (x : Option Fault). changed x (view p) (moved j th (view p) c)) (open_refusal e ∙ n))

  -- a step while nothing is open
  pub step-closed : p.mark ≡ false → ◌≡◌ {A = Answer} (view p, Err (fault NothingOpen 0)) (called j th (view p) c)
  step-closed e = sym (ap (λ (x : Option Fault). changed x (view p) (moved j th (view p) c)) (ap (λ m. refusal j th (moment (pile_of m p.table p.heights) p.taken) c) e))

-- ---- a stored proof whose table has changed
module _ (s : State) (t : Table) (taken : Option Coefficients) (fixed : fixed_of t ≡ fixed_of s.table) where
  abbrev pub changed_to : State
  changed_to = record { table = t; costs = s.costs; taken = taken }

  pub job_kept : job_in changed_to ≡ job_in s
  job_kept = ap (λ (f : Fixed). record { costs = take f.size s.costs.items; rows = f.given }) fixed

  pub holding_is : (h : Held) → held_of t ≡ h → holding_of changed_to ≡ record { table = h.rows; heights = h.heights; mark = h.mark; taken = plan_of s.table.size taken }
  holding_is h e = ap₂ (λ (h : Held) (f : Fixed). record { table = h.rows; heights = h.heights; mark = h.mark; taken = plan_of f.size taken }) e fixed

-- the table's shutting is the pile's
pub shut_as : (j : Job) (rows : List Row) (hs : List ℕ) (taken : Option Plan) → let h : Held = shut_by j.rows rows hs in record { table = h.rows; heights = h.heights; mark = h.mark; taken = taken } ≡ shut j rows hs taken
shut_as j rows [] taken = refl
shut_as j rows (h ∷ hs) taken = refl

-- ---- a step that adds one row
abbrev pub Pushed : State → Table → Row → Type 0
Pushed s t r = held_of t ≡ record { rows = (held_of s.table).rows ++ r ∷ []; heights = (held_of s.table).heights; mark = (held_of s.table).mark }

module _ (s : State) (th : Meaning (List ℕ)) (c : Call) (t : Table) (fixed : fixed_of t ≡ fixed_of s.table) (r : Row) where
  pub step_pushed : Pushed s t r → (held_of s.table).mark ≡ true → first_fault (table_checks (job_in s) th (held_of s.table).rows (plan_of s.table.size s.taken) c) ≡ None →
      joined (held_of s.table).rows (held_of s.table).heights (plan_of s.table.size s.taken) r ≡ done (job_in s) th (held_of s.table).rows (held_of s.table).heights (plan_of s.table.size s.taken) c →
      ◌≡◌ {A = Answer} (moment_of (changed_to s t s.taken fixed), Ok tt) (called (job_in s) th (moment_of s) c)
  step_pushed h e n d =
      step-accepted (job_in s) th (holding_of s) c (holding_of (changed_to s t s.taken fixed)) (orderly s) e n
      (holding_is s t s.taken fixed _ h
      ∙ ap (λ m. record { table = (held_of s.table).rows ++ r ∷ []; heights = (held_of s.table).heights; mark = m; taken = plan_of s.table.size s.taken }) e
      ∙ d)

-- a row has room, by the number of rows
pub has_room : (t : List Row) (k : ℕ) → k ≡ length t → unless (ltb k 512) Full 0 ≡ None → room_check t 1 ≡ None
has_room t k e h = ap (λ b. unless b Full 0) (le-leb (length t + 1) 512 (omega (arith, e, ltb-true k 512 (unless_passed (ltb k 512) Full 0 h))))

-- ---- what passed says of the room
room_left : (t : List Row) (more : ℕ) → room_check t more ≡ None → length t + more ≤ 512
room_left t more h = leb-true (length t + more) 512 (unless_passed (leb (length t + more) 512) Full 0 h)

pub cut_room : (t : List Row) (l : Line) → first_fault (cut_checks t l) ≡ None → length t + 1 ≤ 512
cut_room t l h = room_left t 1 (parts_passed (room_check t 1) (made_checks t l) (rest_passed (number_checks l) (room_check t 1 ∷ made_checks t l) h)).0

chain_some : (ls : List Line) → unless (between 1 8 (length ls)) WrongLength 0 ≡ None → 1 ≤ length ls
chain_some ls h = leb-true 1 (length ls) (and_parts (leb 1 (length ls)) (leb (length ls) 8) (unless_passed (between 1 8 (length ls)) WrongLength 0 h)).0

pub chain_room : (t : List Row) (ls : List Line) → first_fault (chain_checks t ls) ≡ None → length t + 1 ≤ 512
chain_room t ls h =
    let a = parts_passed (unless (between 1 8 (length ls)) WrongLength 0) (room_check t (length ls) ∷ lines_checks 1 t ls) h in
    let b = room_left t (length ls) (parts_passed (room_check t (length ls)) (lines_checks 1 t ls) a.1).0 in
    let d = chain_some ls a.0 in
    omega arith
