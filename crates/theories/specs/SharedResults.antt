-- Shared results: one function with equal arguments has one result.
use Rattle.std.specs.Prelude.{ℕ, Bool, not, ◌&&◌, ◌||◌, List, [], ◌∷◌, pos, Option, Result, ◌==◌, nat_le}
use Rattle.terms.specs.declared.fault.Cause.TheVariants.{OutOfRange}
use Rattle.terms.specs.declared.fault.Fault.{Fault}
use Rattle.terms.specs.Faults.{unless}
use Rattle.terms.specs.Integers.{eq_z}
use Rattle.terms.specs.Rows.{Plan, reads}
use Rattle.theories.specs.declared.parts.Call.{Call}
use Rattle.theories.specs.declared.parts.Pair.{Pair}
use Rattle.theories.specs.Meaning.{Meaning, Rule, difference}
use Rattle.theories.specs.Pairwise.{Kind, pairwise, part_added, part_checks, parts_named, parts_picked}

-- two calls of one function with equal arguments
abbrev pub alike : Plan → Call → Call → Bool
alike x c d = c.function == d.function && (eq_z (reads x c.first) (reads x d.first) && eq_z (reads x c.second) (reads x d.second))

-- alike calls have equal results
abbrev pub agree : Plan → Call → Call → Bool
agree x c d = not (alike x c d) || eq_z (reads x c.result) (reads x d.result)

abbrev pub no_call : Call
no_call = record { function = 0; first = 0; second = 0; result = 0 }

-- if the arguments are equal, the one result is at most the other
abbrev pub shared_between : Call → Call → Rule
shared_between c d = record {
  premises =
      difference c.first d.first (pos 0)
      ∷ difference d.first c.first (pos 0)
      ∷ difference c.second d.second (pos 0)
      ∷ difference d.second c.second (pos 0)
      ∷ [];
  conclusion = difference c.result d.result (pos 0);
}

-- ---- the kind of part
abbrev pub call_limits : Call → List (Option Fault)
call_limits c =
    unless (nat_le c.first 15) OutOfRange 1
    ∷ unless (nat_le c.second 16) OutOfRange 2
    ∷ unless (nat_le c.result 15) OutOfRange 3
    ∷ []

-- two calls have a rule where they have one function
abbrev pub call_kind : Kind Call
call_kind = record {
  suited = agree;
  ruled = λ p c d. c.function == d.function;
  between = shared_between;
  limits = call_limits;
  blank = no_call;
}

-- the two calls of a clue both exist, with one function
abbrev pub shared_named : List Call → Pair → Bool
shared_named = parts_named call_kind

abbrev pub shared_picked : List Call → Pair → Option (Call × Call)
shared_picked = parts_picked call_kind

abbrev pub shared_results : List Call → Meaning Pair
shared_results = pairwise call_kind

-- ---- adding a call to n of them
abbrev pub call_checks : ℕ → Call → List (Option Fault)
call_checks = part_checks call_kind

abbrev pub call_added : List Call → Call → List Call × Result (Unit {0}) Fault
call_added = part_added call_kind
