use Rattle.std.proofs.Common.{◌≡◌, ℕ, ◌&&◌, T, true, leb, List, [], ◌∷◌, ◌++◌, ℤ, Option, Some, sym, ap, ◌∙◌, subst, length, arith, rules, of_z, w64, SFits, leb→le}
use Rattle.std.proofs.lemmas.Bool.{and_parts}
use Rattle.std.proofs.lemmas.Int.{to_z-of_z}
use Rattle.law.specs.declared.step.Step.{Step}
use Rattle.law.specs.declared.step.Step.TheVariants.{Branch, Chain, Cut, Drop, Infer, Pin, Take}
use Rattle.law.specs.NumbersView.{values_of}
use Rattle.law.specs.Spelt.{lines_of}
use Rattle.law.proofs.PremisesRead.{lines_long}
use Rattle.spelling.specs.StepsSeen.{call_in}
use Rattle.spelling.specs.StepsWritten.{bytes64, counted, lines_bytes, lines_counted, mapped_bytes, spelling, suits}
use Rattle.writing.specs.declared.pen.Pen.{Pen}
use Rattle.writing.specs.Laid.{HasRoom, Lays}
use Rattle.writing.proofs.LaidBytes.{lays_then, then_room}
use Rattle.writing.proofs.pen.Pen.put_step.Goals as goal

-- the room for a step, and that it is laid, by what the step is
room_for : (p : Pen) (s t : Option Step) → s ≡ t → HasRoom p (spelling (call_in s)) → HasRoom p (spelling (call_in t))
room_for p s t is room = subst (λ (x : Option Step). HasRoom p (spelling (call_in x))) is room

laid_as : (p q : Pen) (s t : Option Step) → s ≡ t → Lays p (spelling (call_in t)) q → Lays p (spelling (call_in s)) q
laid_as p q s t is laid = subst (λ (x : Option Step). Lays p (spelling (call_in x)) q) (sym is) laid

pub overflow_cast-lines : goal.overflow_cast-lines
overflow_cast-lines c =
    let ls = lines_of c.in-Some-Chain.lines in let n = c.requires.suits.0 in let w = c.requires.suits.1 in
    let is : c.args.step.now ≡ Some (Chain c.in-Some-Chain.lines) = search rules in
    let suit : (leb n 16 && (counted ls && lines_counted ls)) ≡ true = ap (λ (x : Option Step). leb n 16 && suits n w (call_in x)) (sym is) ∙ c.requires.suits.2 in
    let few : leb (length ls) 255 ≡ true = (and_parts (counted ls) (lines_counted ls) (and_parts (leb n 16) (counted ls && lines_counted ls) suit).1).0 in
    let k = leb→le (length ls) 255 (subst T (sym few) tt) in
    record { fits = omega (arith, k, lines_long c.in-Some-Chain.lines.count c.in-Some-Chain.lines.bytes.now) }

pub returns-in-Some-Branch : goal.returns-in-Some-Branch
returns-in-Some-Branch c =
    let b = c.in-Some-Branch in let vs = values_of b.coefficients in let side = bytes64 (of_z w64 b.right) in
    let is : c.args.step.now ≡ Some (Branch b.coefficients b.right) = search rules in
    let room : HasRoom c.args.self.now (66 ∷ (mapped_bytes vs ++ side)) = room_for c.args.self.now _ _ is c.requires.room in
    let f : SFits w64 b.right = search rules in
    let right = subst (λ (bs : List ℕ). Lays c.put_mapped.new.self bs c.put-in-Some-Branch.new.self) (c.to_le_bytes.ensures ∙ ap (λ (z : ℤ). bytes64 (of_z w64 z)) (to_z-of_z w64 b.right f)) c.put-in-Some-Branch.ensures in
    laid_as c.args.self.now c.put-in-Some-Branch.new.self _ _ is
    (lays_then room c.put.ensures (lays_then (then_room (mapped_bytes vs ++ side) room c.put.ensures) c.put_mapped.ensures right))

pub returns-in-Some-Cut : goal.returns-in-Some-Cut
returns-in-Some-Cut c =
    let is : c.args.step.now ≡ Some (Cut c.in-Some-Cut.line) = search rules in
    let room = room_for c.args.self.now _ _ is c.requires.room in
    laid_as c.args.self.now c.put_line.new.self _ _ is (lays_then room c.put-in-Some-Cut.ensures c.put_line.ensures)

pub returns-in-Some-Chain : goal.returns-in-Some-Chain
returns-in-Some-Chain c =
    let given = c.in-Some-Chain.lines in let ls = lines_of given in
    let is : c.args.step.now ≡ Some (Chain c.in-Some-Chain.lines) = search rules in
    let room : HasRoom c.args.self.now (76 ∷ length ls ∷ lines_bytes ls) = room_for c.args.self.now _ _ is c.requires.room in
    let count = subst (λ (k : ℕ). Lays c.put-in-Some-Chain.new.self (k ∷ []) c.put-in-Some-Chain-2.new.self) (sym (lines_long given.count given.bytes.now)) c.put-in-Some-Chain-2.ensures in
    laid_as c.args.self.now c.put_lines.new.self _ _ is
    (lays_then room c.put-in-Some-Chain.ensures (lays_then (then_room (length ls ∷ lines_bytes ls) room c.put-in-Some-Chain.ensures) count c.put_lines.ensures))

pub returns-in-Some-Infer : goal.returns-in-Some-Infer
returns-in-Some-Infer c =
    let is : c.args.step.now ≡ Some (Infer c.in-Some-Infer.clue c.in-Some-Infer.places) = search rules in
    laid_as c.args.self.now c.put_infer.new.self _ _ is c.put_infer.ensures

pub returns-in-Some-Take : goal.returns-in-Some-Take
returns-in-Some-Take c =
    let is : c.args.step.now ≡ Some (Take c.in-Some-Take.values) = search rules in
    let room = room_for c.args.self.now _ _ is c.requires.room in
    laid_as c.args.self.now c.put_mapped-in-Some-Take.new.self _ _ is (lays_then room c.put-in-Some-Take.ensures c.put_mapped-in-Some-Take.ensures)

pub returns-in-Some-Drop : goal.returns-in-Some-Drop
returns-in-Some-Drop c =
    let is : c.args.step.now ≡ Some (Drop c.in-Some-Drop.place) = search rules in
    let room = room_for c.args.self.now _ _ is c.requires.room in
    let place = subst (λ (bs : List ℕ). Lays c.put-in-Some-Drop.new.self bs c.put-in-Some-Drop-2.new.self) c.to_le_bytes-in-Some-Drop.ensures c.put-in-Some-Drop-2.ensures in
    laid_as c.args.self.now c.put-in-Some-Drop-2.new.self _ _ is (lays_then room c.put-in-Some-Drop.ensures place)

pub returns-in-Some-Pin : goal.returns-in-Some-Pin
returns-in-Some-Pin c =
    let is : c.args.step.now ≡ Some (Pin c.in-Some-Pin.places) = search rules in
    let room = room_for c.args.self.now _ _ is c.requires.room in
    laid_as c.args.self.now c.put_places.new.self _ _ is (lays_then room c.put-in-Some-Pin.ensures c.put_places.ensures)
