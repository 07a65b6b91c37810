-- Numbers and their bytes, there and back.
use Rattle.std.proofs.Common.{◌≡◌, ℕ, zero, suc, ◌+◌, ◌*◌, ◌/◌, ◌%◌, ◌^◌, ◌<◌, ◌≤◌, List, [], ◌∷◌, ◌++◌, length, get_or, drop, sym, refl, ap, ◌∙◌, ap₂, arith}
use native.Mathlib.Nat.{div-div-eq-div-mul}
use Rattle.terms.specs.Bytes.{nat16, nat32, nat64}
use Rattle.spelling.specs.OneSpelling.{AreBytes}
use Rattle.spelling.specs.StepsWritten.{bytes16, bytes32, bytes64}

-- ---- numbers of k bytes, the first lowest
abbrev bytes_of : ℕ → ℕ → List ℕ
bytes_of zero x = []
bytes_of (suc k) x = (x % 256) ∷ bytes_of k (x / 256)

-- from byte i on
abbrev number_of : ℕ → ℕ → List ℕ → ℕ
number_of zero i bs = 0
number_of (suc k) i bs = get_or bs i 0 + 256 * number_of k (suc i) bs

one_on : (k i b : ℕ) (bs : List ℕ) → number_of k (suc i) (b ∷ bs) ≡ number_of k i bs
one_on zero i b bs = refl
one_on (suc k) i b bs = ap (λ x. get_or bs i 0 + 256 * x) (one_on k (suc i) b bs)

number_back : (k x : ℕ) (rest : List ℕ) → x < 256 ^ k → number_of k 0 (bytes_of k x ++ rest) ≡ x
number_back zero x rest h = omega arith
number_back (suc k) x rest h =
    let more : 256 ^ suc k ≡ 256 ^ k * 256 = omega arith in
    let others : number_of k 1 ((x % 256) ∷ (bytes_of k (x / 256) ++ rest)) ≡ x / 256 = one_on k 0 _ _ ∙ number_back k (x / 256) rest (omega arith) in
    omega arith

bytes_back : (k : ℕ) (bs : List ℕ) → k ≤ length bs → AreBytes bs → bs ≡ bytes_of k (number_of k 0 bs) ++ drop k bs
bytes_back zero bs l h = refl
bytes_back (suc k) [] l h = absurd (omega arith)
bytes_back (suc k) (b ∷ bs) l h =
    let small : b < 256 = h 0 in
    let shift : number_of k 1 (b ∷ bs) ≡ number_of k 0 bs = one_on k 0 b bs in
    let x = b + 256 * number_of k 1 (b ∷ bs) in
    let first : b ≡ x % 256 = omega arith in
    let others : number_of k 0 bs ≡ x / 256 = omega arith in
    ap₂ ◌∷◌ first (bytes_back k bs (omega arith) (λ i. h (suc i)) ∙ ap (λ y. bytes_of k y ++ drop k bs) others)

-- ---- the widths in use
module _ (x : ℕ) where
  of32 : bytes_of 4 x ≡ bytes32 x
  of32 = simp div-div-eq-div-mul refl

  of64 : bytes_of 8 x ≡ bytes64 x
  of64 = simp div-div-eq-div-mul refl

module _ (bs : List ℕ) where
  as16 : number_of 2 0 bs ≡ nat16 bs
  as16 = omega arith

  as32 : number_of 4 0 bs ≡ nat32 bs
  as32 = omega arith

  as64 : number_of 8 0 bs ≡ nat64 bs
  as64 = omega arith

module _ (x : ℕ) (rest : List ℕ) where
  pub number16 : x < 65536 → nat16 (bytes16 x ++ rest) ≡ x
  number16 h = sym (as16 (bytes_of 2 x ++ rest)) ∙ number_back 2 x rest h

  pub number32 : x < 4294967296 → nat32 (bytes32 x ++ rest) ≡ x
  number32 h = ap (λ bs. nat32 (bs ++ rest)) (sym (of32 x)) ∙ sym (as32 (bytes_of 4 x ++ rest)) ∙ number_back 4 x rest h

  pub number64 : x < 18446744073709551616 → nat64 (bytes64 x ++ rest) ≡ x
  number64 h = ap (λ bs. nat64 (bs ++ rest)) (sym (of64 x)) ∙ sym (as64 (bytes_of 8 x ++ rest)) ∙ number_back 8 x rest h

module _ (bs : List ℕ) (h : AreBytes bs) where
  pub back16 : 2 ≤ length bs → bs ≡ bytes16 (nat16 bs) ++ drop 2 bs
  back16 l = bytes_back 2 bs l h ∙ ap (λ x. bytes_of 2 x ++ drop 2 bs) (as16 bs)

  pub back32 : 4 ≤ length bs → bs ≡ bytes32 (nat32 bs) ++ drop 4 bs
  back32 l = bytes_back 4 bs l h ∙ ap (λ x. bytes_of 4 x ++ drop 4 bs) (as32 bs) ∙ ap (λ cs. cs ++ drop 4 bs) (of32 (nat32 bs))

  pub back64 : 8 ≤ length bs → bs ≡ bytes64 (nat64 bs) ++ drop 8 bs
  back64 l = bytes_back 8 bs l h ∙ ap (λ x. bytes_of 8 x ++ drop 8 bs) (as64 bs) ∙ ap (λ cs. cs ++ drop 8 bs) (of64 (nat64 bs))
