-- Theories whose parts are told two by two: which plans they admit, and the rule of the two parts that a clue names.
use Rattle.std.specs.Prelude.{◌≡◌, ℕ, Bool, true, ◌&&◌, ◌||◌, List, [], ◌∷◌, ◌++◌, length, ◌==◌, None, Option, Result, nat_lt, slice_index_or}
use Rattle.terms.specs.declared.fault.Cause.TheVariants.{Full}
use Rattle.terms.specs.declared.fault.Fault.{Fault}
use Rattle.terms.specs.Faults.{changed, first_fault, unless}
use Rattle.terms.specs.Rows.{Plan}
use Rattle.theories.specs.declared.parts.Pair.{Pair}
use Rattle.theories.specs.Meaning.{Meaning, Rightful, Rule, picked, rule_between}
use Rattle.theories.specs.Pairs.{every_pair}

-- what a kind of part brings
pub record Kind (A : Type 0) : Type 0 where
  -- a plan suits a part together with another
  pub suited : Plan → A → A → Bool
  -- the two parts that a clue names have a rule
  pub ruled : Pair → A → A → Bool
  -- that rule
  pub between : A → A → Rule
  -- the checks of a part alone
  pub limits : A → List (Option Fault)
  -- what is read past the last part
  pub blank : A

module _ {A : Type 0} (kind : Kind A) where
  -- the two parts of a clue both exist, and have a rule
  abbrev pub parts_named : List A → Pair → Bool
  parts_named ps p = nat_lt p.one (length ps) && (nat_lt p.other (length ps) && kind.ruled p (slice_index_or ps p.one kind.blank) (slice_index_or ps p.other kind.blank))

  abbrev pub parts_picked : List A → Pair → Option (A × A)
  parts_picked ps p = picked (parts_named ps p) ps p.one p.other kind.blank

  abbrev pub pairwise : List A → Meaning Pair
  pairwise ps = record {
    admits = λ x. every_pair (kind.suited x) ps;
    rule = λ p. rule_between kind.between (parts_picked ps p);
  }

  -- a plan suits the two parts that a clue names, whichever comes first
  abbrev pub suits_two : Pair → A → A → Plan → Bool
  suits_two p a b x = p.one == p.other || (kind.suited x a b || kind.suited x b a)

  -- the rule of the two parts that a clue names, if they have one, is rightful where plans suit the two
  abbrev pub RightfulTwo : Pair → A → A → Type 0
  RightfulTwo p a b = (p.one ≡ p.other → a ≡ b) → kind.ruled p a b ≡ true → Rightful (suits_two p a b) (kind.between a b)

  -- ---- adding a part to n of them
  abbrev pub part_checks : ℕ → A → List (Option Fault)
  part_checks n a = kind.limits a ++ unless (nat_lt n 16) Full 0 ∷ []

  abbrev pub part_added : List A → A → List A × Result (Unit {0}) Fault
  part_added ps a = changed (first_fault (part_checks (length ps) a)) ps (ps ++ a ∷ [])

  -- no check of the part alone applies
  abbrev pub Passes : A → Type 0
  Passes a = first_fault (kind.limits a) ≡ None

  -- the law of a kind: the rule of each two parts that pass is rightful
  abbrev pub EachRightful : Type 0
  EachRightful = (p : Pair) (a b : A) → Passes a → Passes b → RightfulTwo p a b
