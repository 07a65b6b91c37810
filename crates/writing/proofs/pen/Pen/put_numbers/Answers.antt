use Rattle.std.proofs.Common.{◌≡◌, ◌+◌, ◌∷◌, ◌++◌, List, sym, ap, ◌∙◌, subst, get_or, take, drop, pos, rules, w32, SFits, ℤ, arith, take-append-drop}
use Rattle.std.proofs.lemmas.List.{drop_more, take_all, take_more}
use Rattle.std.proofs.lemmas.Int.{to_z-of_z}
use Rattle.spelling.specs.StepsWritten.{number_bytes, numbers_bytes}
use Rattle.writing.specs.Laid.{HasRoom, Lays}
use Rattle.writing.proofs.LaidBytes.{lays_none, next_laid, next_room}
use Rattle.writing.proofs.pen.Pen.put_numbers.Goals as goal

pub loop-number-init : goal.loop-number-init
loop-number-init c = lays_none c.args.self.now

pub put_number-requires : goal.put_number-requires
put_number-requires c =
    let l = c.loop-number in let vs = c.args.numbers.now in let i = l.number-index in let v = get_or vs i (pos 0) in
    let f : SFits w32 v = search rules in
    let all' : take i vs ++ v ∷ drop (i + 1) vs ≡ vs = ap (λ (ys : List ℤ). take i vs ++ ys) (sym (drop_more vs i (pos 0) (omega arith))) ∙ take-append-drop i vs in
    subst (λ (z : ℤ). HasRoom l.self (number_bytes z)) (sym (to_z-of_z w32 v f))
    (next_room number_bytes (take i vs) v (drop (i + 1) vs) (subst (λ (ys : List ℤ). HasRoom c.args.self.now (numbers_bytes ys)) (sym all') c.requires) l.invariant)

pub loop-number-preserved : goal.loop-number-preserved
loop-number-preserved c =
    let l = c.loop-number in let vs = c.args.numbers.now in let i = l.number-index in let v = get_or vs i (pos 0) in
    let f : SFits w32 v = search rules in
    let all' : take i vs ++ v ∷ drop (i + 1) vs ≡ vs = ap (λ (ys : List ℤ). take i vs ++ ys) (sym (drop_more vs i (pos 0) (omega arith))) ∙ take-append-drop i vs in
    let one = subst (λ (z : ℤ). Lays l.self (number_bytes z) c.put_number.new.self) (to_z-of_z w32 v f) c.put_number.ensures in
    subst (λ (ys : List ℤ). Lays c.args.self.now (numbers_bytes ys) c.put_number.new.self) (sym (take_more vs i (pos 0) (omega arith)))
    (next_laid number_bytes (take i vs) v (drop (i + 1) vs) (subst (λ (ys : List ℤ). HasRoom c.args.self.now (numbers_bytes ys)) (sym all') c.requires) l.invariant one)

pub returns : goal.returns
returns c = subst (λ (ys : List ℤ). Lays c.args.self.now (numbers_bytes ys) c.loop-number.self) (take_all c.loop-number.number-index c.args.numbers.now (omega arith)) c.loop-number.invariant
