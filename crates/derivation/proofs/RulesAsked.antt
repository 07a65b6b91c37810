-- A rule put together from a theory's answers.
use Rattle.std.proofs.Common.{◌≡◌, ℕ, zero, suc, ◌<◌, ◌≤◌, Bool, List, [], ◌∷◌, length, get_or, take, Some, None, Ok, Err, Option, sym, ◌∙◌, ap₂, arith}
use Rattle.std.proofs.lemmas.List.{take_all}
use Rattle.terms.specs.declared.difference.Difference.{Difference}
use Rattle.terms.specs.declared.fault.Fault.{Fault}
use Rattle.terms.specs.Rows.{Plan}
use Rattle.terms.proofs.Passed.{clash}
use Rattle.theories.specs.Meaning.{IfAny, Rule, concluded, counted, difference_at, premise_at}

-- the premises that are asked for; none where there is no rule
abbrev pub asked : Option Rule → List Difference
asked None = []
asked (Some u) = u.premises

pub asked_few : (admits : Plan → Bool) (o : Option Rule) → IfAny admits o → length (asked o) ≤ 4
asked_few admits None w = omega arith
asked_few admits (Some u) w = w.few

pub asked_long : (o : Option Rule) (n : ℕ) → Ok n ≡ counted o → n ≡ length (asked o)
asked_long None n e = clash (cc)
asked_long (Some u) n e = cc

premise_is : (ds : List Difference) (i : ℕ) (d : Difference) → Ok d ≡ difference_at ds i → d ≡ get_or ds i d
premise_is [] i d e = clash (cc)
premise_is (a ∷ ds) zero d e = cc
premise_is (a ∷ ds) (suc i) d e = premise_is ds i d e

pub asked_at : (o : Option Rule) (i : ℕ) (d : Difference) → Ok d ≡ premise_at o i → d ≡ get_or (asked o) i d
asked_at None i d e = clash (cc)
asked_at (Some u) i d e = premise_is u.premises i d e

premise_there : (ds : List Difference) (i : ℕ) (f : Fault) → i < length ds → Err f ≡ difference_at ds i → ⊥
premise_there [] i f h e = omega arith
premise_there (a ∷ ds) zero f h e = clash (cc)
premise_there (a ∷ ds) (suc i) f h e = premise_there ds i f (omega arith) e

pub asked_there : (o : Option Rule) (i : ℕ) (f : Fault) → i < length (asked o) → Err f ≡ premise_at o i → ⊥
asked_there None i f h e = omega arith
asked_there (Some u) i f h e = premise_there u.premises i f h e

pub rule_asked : (o : Option Rule) (n i : ℕ) (d : Difference) (ps : List Difference) → Ok n ≡ counted o → Ok d ≡ concluded o → n ≤ i → ps ≡ take i (asked o) → o ≡ Some (record { premises = ps; conclusion = d })
rule_asked None n i d ps en ed h e = clash (cc)
rule_asked (Some u) n i d ps en ed h e =
    let many : n ≡ length u.premises = cc in let ends : d ≡ u.conclusion = cc in
    ap₂ (λ qs k. Some (record { premises = qs; conclusion = k })) (sym (e ∙ take_all i u.premises (omega arith))) (sym ends)
