-- The sum of premises read place by place, for code that fills a row by index.
use Rattle.std.proofs.Common.{◌≡◌, ℕ, zero, suc, ◌<◌, List, [], ◌∷◌, length, get_or, ℤ, pos, ◌+ℤ◌, ◌*ℤ◌, refl, ◌∙◌, ap₂, arith}
use Rattle.std.specs.List.{AllByRecursion}
use Rattle.std.proofs.ByRecursion.{All-get_or}
use Rattle.std.proofs.lemmas.List.{length-map}
use Rattle.std.proofs.lemmas.Int.{ints}
use Rattle.terms.specs.Rows.{Row}
use Rattle.terms.proofs.ByPlace.{at_plus, length-plus}
use Rattle.law.specs.declared.premise.Premise.{Premise}
use Rattle.law.specs.Lines.{no_row, row_at, summed, times}

at_times : (k : ℤ) (cs : List ℤ) (i : ℕ) → get_or (times k cs) i (pos 0) ≡ k *ℤ get_or cs i (pos 0)
at_times k [] i = omega (arith, ints)
at_times k (c ∷ cs) zero = refl
at_times k (c ∷ cs) (suc i) = at_times k cs i

-- the sum at place i
abbrev pub summed_at : List Row → List Premise → ℕ → ℤ
summed_at t [] i = pos 0
summed_at t (p ∷ ps) i = pos p.multiplier *ℤ get_or (row_at t p.place).coefficients i (pos 0) +ℤ summed_at t ps i

pub summed_at_lem : (t : List Row) (ps : List Premise) (i : ℕ) → get_or (summed t ps).coefficients i (pos 0) ≡ summed_at t ps i
summed_at_lem t [] i = refl
summed_at_lem t (p ∷ ps) i =
    at_plus (times (pos p.multiplier) (row_at t p.place).coefficients) (summed t ps).coefficients i
    ∙ ap₂ ◌+ℤ◌ (at_times (pos p.multiplier) (row_at t p.place).coefficients i) (summed_at_lem t ps i)

abbrev pub Wide : ℕ → Row → Type 0
Wide n r = length r.coefficients ≡ n

-- rows of n coefficients sum to a row of n
pub summed_wide : (n : ℕ) (t : List Row) (p : Premise) (ps : List Premise) → AllByRecursion (Wide n) t → AllByRecursion (λ (q : Premise). q.place < length t) (p ∷ ps) → Wide n (summed t (p ∷ ps))
summed_wide n t p [] h l =
    let e = All-get_or (Wide n) t p.place no_row l.0 h in
    length-plus (times (pos p.multiplier) (row_at t p.place).coefficients) []
    ∙ omega (arith, length-map (row_at t p.place).coefficients (λ c. pos p.multiplier *ℤ c))
summed_wide n t p (q ∷ ps) h l =
    let e = All-get_or (Wide n) t p.place no_row l.0 h in
    length-plus (times (pos p.multiplier) (row_at t p.place).coefficients) (summed t (q ∷ ps)).coefficients
    ∙ omega (arith, length-map (row_at t p.place).coefficients (λ c. pos p.multiplier *ℤ c), summed_wide n t q ps h l.1)
