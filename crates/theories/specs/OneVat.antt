-- One vat: batches that never overlap.
use Rattle.std.specs.Prelude.{ℕ, Bool, not, ◌&&◌, ◌||◌, List, [], ◌∷◌, pos, ◌+ℤ◌, ◌-ℤ◌, neg_ℤ, Option, Result, ◌==◌, int_le, nat_le}
use Rattle.terms.specs.declared.fault.Cause.TheVariants.{OutOfRange}
use Rattle.terms.specs.declared.fault.Fault.{Fault}
use Rattle.terms.specs.Faults.{unless}
use Rattle.terms.specs.Limits.{million}
use Rattle.terms.specs.Rows.{Plan, reads}
use Rattle.theories.specs.declared.parts.Batch.{Batch}
use Rattle.theories.specs.declared.parts.Pair.{Pair}
use Rattle.theories.specs.Meaning.{Meaning, Rule, difference}
use Rattle.theories.specs.Pairwise.{Kind, pairwise, part_added, part_checks, parts_named, parts_picked}

-- a batch ends no later than another starts
abbrev pub before : Plan → Batch → Batch → Bool
before x a b = int_le (reads x a.start +ℤ pos a.duration) (reads x b.start)

abbrev pub apart : Plan → Batch → Batch → Bool
apart x a b = before x a b || before x b a

abbrev pub no_batch : Batch
no_batch = record { start = 0; duration = 0 }

-- if b starts before a ends, then b ends no later than a starts
abbrev pub vat_between : Batch → Batch → Rule
vat_between a b = record {
  premises = difference b.start a.start (pos a.duration -ℤ pos 1) ∷ [];
  conclusion = difference b.start a.start (neg_ℤ (pos b.duration));
}

-- ---- the kind of part
abbrev pub batch_limits : Batch → List (Option Fault)
batch_limits b =
    unless (nat_le b.start 15) OutOfRange 0
    ∷ unless (nat_le 1 b.duration && nat_le b.duration million) OutOfRange 1
    ∷ []

-- two batches have a rule where they are two
abbrev pub batch_kind : Kind Batch
batch_kind = record {
  suited = apart;
  ruled = λ p a b. not (p.one == p.other);
  between = vat_between;
  limits = batch_limits;
  blank = no_batch;
}

-- the two batches of a clue both exist and differ
abbrev pub vat_named : List Batch → Pair → Bool
vat_named = parts_named batch_kind

abbrev pub vat_picked : List Batch → Pair → Option (Batch × Batch)
vat_picked = parts_picked batch_kind

abbrev pub one_vat : List Batch → Meaning Pair
one_vat = pairwise batch_kind

-- ---- adding a batch to n of them
abbrev pub batch_checks : ℕ → Batch → List (Option Fault)
batch_checks = part_checks batch_kind

abbrev pub batch_added : List Batch → Batch → List Batch × Result (Unit {0}) Fault
batch_added = part_added batch_kind
