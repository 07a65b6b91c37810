-- What the writer answers keeps the law of spellings.
use Rattle.std.proofs.Common.{◌≡◌, ℕ, Bool, true, false, ◌&&◌, T, leb, List, [], ◌∷◌, length, take, drop, Option, Result, sym, refl, subst, leb→le, MatchResult}
use lib.Seq.{take-append_seam}
use Rattle.std.proofs.lemmas.Bool.{and_parts}
use Rattle.terms.specs.declared.fault.Cause.TheVariants.{BufferTooShort, WrongLength}
use Rattle.terms.specs.declared.fault.Fault.{Fault}
use Rattle.terms.specs.Faults.{first_fault, unless}
use Rattle.law.specs.Calls.{Call}
use Rattle.spelling.specs.OneSpelling.{ReadsBack}
use Rattle.spelling.specs.StepsWritten.{spelling, suits, written_by, written}
use Rattle.spelling.proofs.ReadsBack.{reads_back}

module _ (n w : ℕ) (o : Option Call) (out : List ℕ) where
  abbrev Kept : List ℕ × Result ℕ Fault → Type 0
  Kept p = MatchResult p.1 (λ (k : ℕ). ReadsBack n w o (take k p.0)) (λ (f : Fault). Unit {0})

  by_tests : (a b : Bool) → (leb n 16 && suits n w o) ≡ a → Kept (written_by (first_fault (unless a WrongLength 0 ∷ unless b BufferTooShort 0 ∷ [])) (spelling o) out)
  by_tests true true e =
      let both = and_parts (leb n 16) (suits n w o) e in
      subst (ReadsBack n w o) (sym (take-append_seam (spelling o) (drop (length (spelling o)) out)))
      (reads_back n w o (leb→le n 16 (subst T (sym both.0) tt)) both.1)
  by_tests true false e = tt
  by_tests false b e = tt

  pub written-reads_back : (p : List ℕ × Result ℕ Fault) → p ≡ written n w o out → Kept p
  written-reads_back p e = subst Kept (sym e) (by_tests (leb n 16 && suits n w o) (leb (length (spelling o)) (length out)) refl)
