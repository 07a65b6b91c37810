-- Lists whose numbers are within 1,000,000 of zero.
use Rattle.std.proofs.Common.{◌≡◌, ℕ, zero, suc, ◌+◌, ◌-◌, ◌≤◌, Bool, true, false, List, [], ◌∷◌, ◌++◌, map, length, get_or, drop, replicate, ℤ, pos, neg_ℤ, nat_abs, None, refl, ap, ◌∙◌, arith}
use lib.Signed.{le_z}
use borrow.Rule.Slice.PartMut.{post_of}
use Rattle.std.proofs.lemmas.List.{drop-replicate, length-append, length-replicate}
use Rattle.std.proofs.lemmas.Int.{ints}
use Rattle.std.proofs.lemmas.Bool.{and_parts}
use Rattle.terms.specs.declared.fault.Cause.{Cause}
use Rattle.terms.specs.Faults.{first_unless}
use Rattle.terms.specs.Limits.{million, within}
use Rattle.terms.specs.Rows.{negated}
use Rattle.terms.specs.Stored.{padded}

abbrev pub Small : List ℤ → Type 0
Small xs = (k : ℕ) → nat_abs (get_or xs k (pos 0)) ≤ 1000000

clash : {X : Type 0} → ◌≡◌ {A = ℕ} 0 1 → X
clash e = absurd (omega arith)

pub within_near : (k : ℕ) (z : ℤ) → within k z ≡ true → nat_abs z ≤ k
within_near k z e = let p = and_parts (le_z (neg_ℤ (pos k)) z) (le_z z (pos k)) e in let l = p.0 in let h = p.1 in omega (arith, ints)

pub negated_small : (xs : List ℤ) → Small xs → Small (negated xs)
negated_small [] h k = h k
negated_small (x ∷ xs) h zero = let e = h 0 in omega (arith, ints)
negated_small (x ∷ xs) h (suc k) = negated_small xs (λ j. h (suc j)) k

zeros_small : (n : ℕ) → Small (replicate n (pos 0))
zeros_small zero k = omega arith
zeros_small (suc n) zero = omega arith
zeros_small (suc n) (suc k) = zeros_small n k

by-test : (cause : Cause) (spot : ℕ) (x : ℤ) (xs ys : List ℤ) (b : Bool) → within million x ≡ b → first_unless cause spot (b ∷ map (within million) xs) ≡ None → (first_unless cause (spot + 1) (map (within million) xs) ≡ None → Small ys) → Small (x ∷ ys)
by-test cause spot x xs ys true w f h zero = within_near million x w
by-test cause spot x xs ys true w f h (suc j) = h f j
by-test cause spot x xs ys false w f h j = clash (cc)

joined_small : (cause : Cause) (spot : ℕ) (xs ys : List ℤ) → first_unless cause spot (map (within million) xs) ≡ None → Small ys → Small (xs ++ ys)
joined_small cause spot [] ys e h = h
joined_small cause spot (x ∷ xs) ys e h = by-test cause spot x xs (xs ++ ys) (within million x) refl e (λ f. joined_small cause (spot + 1) xs ys f h)

-- a list that passes its test is small, and stays so with zeros after it
pub padded_small : (cause : Cause) (xs : List ℤ) → first_unless cause 0 (map (within million) xs) ≡ None → Small (padded xs)
padded_small cause xs e = joined_small cause 0 xs (replicate (16 - length xs) (pos 0)) e (zeros_small (16 - length xs))

pub padded_long : (xs : List ℤ) → length xs ≤ 16 → length (padded xs) ≡ 16
padded_long xs h = length-append xs (replicate (16 - length xs) (pos 0)) ∙ omega (arith, length-replicate (16 - length xs) (pos 0))

-- a list copied to the front of sixteen zeros
pub copied : (xs ys : List ℤ) → ys ≡ xs → ys ++ post_of 0 (length xs - 0) (replicate 16 (pos 0)) ≡ padded xs
copied xs ys e =
    let z : length xs - 0 ≡ length xs = omega arith in
    ap (λ zs. zs ++ post_of 0 (length xs - 0) (replicate 16 (pos 0))) e ∙ ap (λ zs. xs ++ zs) (ap (λ n. drop n (replicate 16 (pos 0))) z ∙ drop-replicate (length xs) 16 (pos 0))
