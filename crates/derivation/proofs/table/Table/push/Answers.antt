use Rattle.std.proofs.Common.{[], ◌∷◌, map, length, take, ap, ◌∙◌, arith}
use Rattle.std.proofs.lemmas.List.{map-append}
use Rattle.terms.specs.Stored.{row_of}
use Rattle.derivation.specs.Stacked.{heights_of, rights_of, stacked}
use Rattle.derivation.specs.TableView.{held_of}
use Rattle.derivation.proofs.Stacks.{given_joined, stack_joined, stacked_given}
use Rattle.derivation.proofs.StepsTaken.{rows_long}
use Rattle.derivation.proofs.table.Table.push.Goals as goal

pub push-requires : goal.push-requires
push-requires c = omega (arith, c.requires, rows_long c.args.self.now)

pub invariant_of-self : goal.invariant_of-self
invariant_of-self c =
    let o = c.args.self.now in let hs = heights_of o.waiting in
    record {
      narrow = o.narrow;
      stack = ap (λ rs. stacked o.given (rights_of rs) (length rs) hs) c.push.ensures.items ∙ stack_joined o.given o.rows.items hs c.args.row o.stack;
    }

pub returns : goal.returns
returns c =
    let o = c.args.self.now in let rows = o.rows.items in let r = c.args.row in let h = held_of o in
    record {
      held = ap (λ rs. record { rows = map (row_of o.size) rs; heights = h.heights; mark = h.mark }) c.push.ensures.items
          ∙ ap (λ rs. record { rows = rs; heights = h.heights; mark = h.mark }) (map-append (row_of o.size) rows (r ∷ []));
      fixed = ap (λ rs. record { size = o.size; given = map (row_of o.size) (take o.given rs) }) c.push.ensures.items
          ∙ ap (λ rs. record { size = o.size; given = rs }) (given_joined o.size rows o.given r (stacked_given o.given (rights_of rows) (length rows) h.heights o.stack));
    }
