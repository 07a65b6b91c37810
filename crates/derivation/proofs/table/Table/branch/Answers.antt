use Rattle.std.proofs.Common.{◌≡◌, ℕ, true, List, [], ◌∷◌, ◌++◌, map, reverse, length, get_or, take, pos, Some, is_some, sym, ap, ◌∙◌, ap₂, arith}
use lib.Signed.{lt_z}
use Rattle.std.proofs.Math.Seq.{get_or-append_seam}
use Rattle.std.proofs.lemmas.List.{length-append, length-map, length-reverse, map-append, reverse-append}
use Rattle.std.proofs.lemmas.Int.{ints}
use Rattle.arrayvec.specs.ArrayVec.{ArrayVec}
use Rattle.terms.specs.declared.row.Row.{Row as Stored}
use Rattle.terms.specs.Limits.{right_limit}
use Rattle.terms.specs.Stored.{row_of}
use Rattle.derivation.specs.declared.table.Table.{Table}
use Rattle.derivation.specs.Stacked.{heights_of, rights_of, stacked}
use Rattle.derivation.proofs.Stacks.{given_joined, stacked_few, stacked_from, stacked_given, stacked_joined}
use Rattle.derivation.proofs.StepsTaken.{rows_long}
use Rattle.derivation.proofs.table.Table.branch.Goals as goal

-- the new row's right side
joined_right : (rows : List Stored) (r : Stored) → get_or (rights_of (rows ++ r ∷ [])) (length rows) (pos 0) ≡ r.right
joined_right rows r =
    let right : Stored → _ = λ (s : Stored). s.right in
    ap₂ (λ zs n. get_or zs n (pos 0)) (map-append (λ (s : Stored). s.right) rows (r ∷ [])) (sym (length-map rows (λ (s : Stored). s.right))) ∙ get_or-append_seam (rights_of rows) r.right [] (pos 0)

-- the heights, the table's length in front
heights_joined : (o : Table) (w v : ArrayVec ℕ) (h : ℕ) → o.waiting ≡ Some w → v.items ≡ w.items ++ h ∷ [] → h ≡ length o.rows.items → reverse v.items ≡ length o.rows.items ∷ heights_of o.waiting
heights_joined o w v h is e l = ap reverse e ∙ reverse-append w.items (h ∷ []) ∙ ap₂ ◌∷◌ l (sym (ap heights_of is))

pub unreachable : goal.unreachable
unreachable c = let e = sym (ap is_some c.in_default.is) ∙ c.requires.marked in cc

pub push-requires : goal.push-requires
push-requires c =
    let o = c.args.self.now in let w = c.in-Some.waiting in
    let f = stacked_few o.given (rights_of o.rows.items) (length o.rows.items) (heights_of o.waiting) o.stack in
    let l = ap length (ap heights_of c.in-Some.is) ∙ length-reverse w.items in
    (omega arith, omega (arith, f, l, rows_long o, c.requires.room))

pub push-requires-2 : goal.push-requires-2
push-requires-2 c = omega (arith, rows_long c.args.self.now, c.requires.room)

pub invariant_of-self : goal.invariant_of-self
invariant_of-self c =
    let o = c.args.self.now in let rows = o.rows.items in let hs = heights_of o.waiting in let r = c.args.row in
    let limited = c.requires.limited in
    let below = ap (λ z. lt_z z (pos right_limit)) (joined_right rows r) ∙ sym (omega (arith, ints, limited)) in
    let s = stacked_from o.given (rights_of (rows ++ r ∷ [])) (length (rows ++ r ∷ [])) (length rows) hs (omega (arith, length-append rows (r ∷ []))) below (stacked_joined o.given rows hs (length rows) r (omega arith) o.stack) in
    record {
      narrow = o.narrow;
      stack = ap₂ (λ rs ks. stacked o.given (rights_of rs) (length rs) ks) c.push-2.ensures.items (heights_joined o c.in-Some.waiting c.push.new.self _ c.in-Some.is c.push.ensures.items c.len-height.ensures.value) ∙ s;
    }

pub returns : goal.returns
returns c =
    let o = c.args.self.now in let rows = o.rows.items in let r = c.args.row in
    let ks = heights_joined o c.in-Some.waiting c.push.new.self _ c.in-Some.is c.push.ensures.items c.len-height.ensures.value ∙ ap (λ n. n ∷ heights_of o.waiting) (sym (rows_long o)) in
    record {
      held = ap₂ (λ rs ks. record { rows = rs; heights = ks; mark = true }) (ap (map (row_of o.size)) c.push-2.ensures.items ∙ map-append (row_of o.size) rows (r ∷ [])) ks;
      fixed = ap (λ rs. record { size = o.size; given = rs }) (ap (λ rs. map (row_of o.size) (take o.given rs)) c.push-2.ensures.items ∙ given_joined o.size rows o.given r (stacked_given o.given (rights_of rows) (length rows) (heights_of o.waiting) o.stack));
    }
