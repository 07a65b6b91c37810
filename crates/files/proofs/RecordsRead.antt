-- One record more of a file, and its end.
use Rattle.std.proofs.Common.{◌≡◌, ℕ, zero, suc, ◌+◌, ◌-◌, ◌<◌, true, false, cond, leb, List, length, None, Ok, Err, Result, sym, refl, ap, ◌∙◌, arith}
use Rattle.terms.specs.declared.fault.Cause.TheVariants.{FileTooLong}
use Rattle.terms.specs.declared.fault.Fault.{Fault}
use Rattle.terms.specs.Faults.{answered, unless}
use Rattle.terms.proofs.Passed.{clash}
use Rattle.files.specs.declared.fault.File.{File}
use Rattle.files.specs.declared.fault.FileFault.{FileFault}
use Rattle.files.specs.Places.{fault_at, placed, then_file}
use Rattle.files.specs.Records.{Way, all_records, and_records, at_end, file_read, records_read}

-- each record takes a byte at least
abbrev pub Shortens : {S : Type 0} → Way S → Type 0
Shortens {S} way = (s t : S) (bs rest : List ℕ) → Ok (t, rest) ≡ way.one s bs → length rest < length bs

module _ {S : Type 0} (way : Way S) (total nth : ℕ) (s : S) (bytes : List ℕ) (target : Result S FileFault) where
  next : (fuel : ℕ) (r : Result (S × List ℕ) Fault) → way.ended s ≡ false → r ≡ way.one s bytes → records_read way total (suc fuel) nth s bytes ≡ target → and_records (records_read way total fuel (nth + 1)) (placed way.file nth (total - length bytes) r) ≡ target
  next fuel r e g w =
      ap (λ x. and_records (records_read way total fuel (nth + 1)) (placed way.file nth (total - length bytes) x)) g
      ∙ sym (ap (λ b. cond b (at_end way total nth s bytes) (and_records (records_read way total fuel (nth + 1)) (placed way.file nth (total - length bytes) (way.one s bytes)))) e)
      ∙ w

  pub goes_on : Shortens way → (fuel : ℕ) (t : S) (rest : List ℕ) → length bytes < fuel → records_read way total fuel nth s bytes ≡ target → way.ended s ≡ false → Ok (t, rest) ≡ way.one s bytes → (f : ℕ) × (length rest < f) × (records_read way total f (nth + 1) t rest ≡ target)
  goes_on shorter zero t rest h w e g = absurd (omega arith)
  goes_on shorter (suc f) t rest h w e g = let l = shorter s t bytes rest g in (f, omega arith, next f (Ok (t, rest)) e g w)

  pub stops : (fuel : ℕ) (x : Fault) → length bytes < fuel → records_read way total fuel nth s bytes ≡ target → way.ended s ≡ false → Err x ≡ way.one s bytes → Err (fault_at way.file nth (total - length bytes) x) ≡ target
  stops zero x h w e g = absurd (omega arith)
  stops (suc f) x h w e g = next f (Err x) e g w

  pub finishes : (fuel : ℕ) → length bytes < fuel → records_read way total fuel nth s bytes ≡ target → way.ended s ≡ true → at_end way total nth s bytes ≡ target
  finishes zero h w e = absurd (omega arith)
  finishes (suc f) h w e = sym (ap (λ b. cond b (at_end way total nth s bytes) (and_records (records_read way total f (nth + 1)) (placed way.file nth (total - length bytes) (way.one s bytes)))) e) ∙ w

module _ {S : Type 0} (way : Way S) (start : S) (bytes : List ℕ) where
  pub all_are : records_read way (length bytes) (suc (length bytes)) 0 start bytes ≡ all_records way start bytes
  unfolding all_records
  all_are = refl

  pub begins : (nth : ℕ) (s : S) (bs : List ℕ) → nth ≡ 0 → s ≡ start → bs ≡ bytes → (fuel : ℕ) × (length bs < fuel) × (records_read way (length bytes) fuel nth s bs ≡ all_records way start bytes)
  begins nth s bs n e f = let l = ap length f in (suc (length bytes), omega (arith, l), (λ i. records_read way (length bytes) (suc (length bytes)) (n i) (e i) (f i)) ∙ all_are)

  -- a file that is not too long
  pub fits_then : unless (leb (length bytes) 65536) FileTooLong 0 ≡ None → file_read way start bytes ≡ all_records way start bytes
  fits_then e = ap (λ o. then_file (placed way.file 0 0 (answered o)) (λ fits. all_records way start bytes)) e

-- the same, of bytes and a number that are said in other words
pub moved : {S : Type 0} (way : Way S) (total : ℕ) (s : S) (target : Result S FileFault) (nth n : ℕ) (bytes bs : List ℕ) → n ≡ nth → bs ≡ bytes → (fuel : ℕ) × (length bytes < fuel) × (records_read way total fuel nth s bytes ≡ target) → (fuel : ℕ) × (length bs < fuel) × (records_read way total fuel n s bs ≡ target)
moved way total s target nth n bytes bs e f r = let l = ap length f in (r.0, omega (arith, l, r.1), (λ i. records_read way total r.0 (e i) s (f i)) ∙ r.2)

-- ---- an answer and its fault, placed
pub placed_ok : {X : Type 0} (file : File) (nth byte : ℕ) (r : Result X Fault) (x : X) → Ok x ≡ placed file nth byte r → r ≡ Ok x
placed_ok file nth byte (Ok y) x e = cc
placed_ok file nth byte (Err f) x e = clash (cc)

pub placed_err : {X : Type 0} (file : File) (nth byte : ℕ) (r : Result X Fault) (y : FileFault) → Err y ≡ placed file nth byte r → (x : Fault) × (r ≡ Err x) × (y ≡ fault_at file nth byte x)
placed_err file nth byte (Ok x) y e = clash (cc)
placed_err file nth byte (Err f) y e = (f, refl, cc)
