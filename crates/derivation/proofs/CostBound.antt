-- The cost of a plan of small numbers is small.
use Rattle.std.proofs.Common.{suc, ◌*◌, ◌≤◌, List, [], ◌∷◌, length, ℤ, ◌*ℤ◌, nat_abs, arith}
use Rattle.std.proofs.lemmas.Int.{ints}
use Rattle.terms.specs.Rows.{dot}
use Rattle.terms.proofs.Integers.{product_near}
use Rattle.terms.proofs.SmallLists.{Small}

pub dot_near : (cs xs : List ℤ) → Small cs → Small xs → nat_abs (dot cs xs) ≤ length xs * 1000000000000
dot_near [] xs p q = omega arith
dot_near (c ∷ cs) [] p q = omega arith
dot_near (c ∷ cs) (x ∷ xs) p q =
    let here : nat_abs (c *ℤ x) ≤ 1000000000000 = product_near 1000000 1000000 c x (p 0) (q 0) in
    let rest = dot_near cs xs (λ k. p (suc k)) (λ k. q (suc k)) in
    omega (arith, ints)
