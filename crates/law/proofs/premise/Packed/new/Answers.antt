use Rattle.std.proofs.Common.{◌≡◌, ℕ, ◌/◌, ◌<◌, List, [], length, sym, ap, ◌∙◌, ◌⊎◌, ⊎_elim}
use Rattle.std.proofs.Math.Nat.{div-eq_of_lt, div-zero}
use Rattle.std.specs.Simd.{first_chunks}
use Rattle.law.specs.Spelt.{packed}
use Rattle.law.proofs.premise.Packed.new.Goals as goal

none_whole : (n : ℕ) (bs : List ℕ) → (n ≡ 0) ⊎ ((n ≡ 0 → ⊥) × (length bs < n)) → [] ≡ packed n bs
none_whole n bs h = ap (λ k. first_chunks n k bs) (sym (⊎_elim (λ (z : n ≡ 0). ap (λ m. length bs / m) z ∙ div-zero (length bs)) (λ l. div-eq_of_lt l.1) h))

pub returns-then-this-eq0 : goal.returns-then-this-eq0
returns-then-this-eq0 g c = none_whole g.row.N c.args.bytes.now c.then-this-eq0.either
