use Rattle.std.proofs.Common.{true, [], ◌∷◌, ◌++◌, length, pos, sym, ap, ◌∙◌, arith, w64, to_z, of_z}
use lib.Signed.{lt_z}
use Rattle.std.proofs.lemmas.Int.{ints, to_z-of_z}
use Rattle.terms.specs.Faults.{first_fault}
use Rattle.terms.specs.Limits.{right_limit}
use Rattle.terms.specs.Rows.{Row}
use Rattle.law.specs.Calls.Call.{branch}
use Rattle.law.specs.Steps.{branch_checks}
use Rattle.derivation.proofs.RowsAdded.{front_padded}
use Rattle.derivation.specs.StateView.{holding_of, job_in}
use Rattle.derivation.specs.TableView.{held_of}
use Rattle.derivation.proofs.BranchChecked.{branch_fits}
use Rattle.derivation.proofs.StepsTaken.{changed_to, holding_is, job_kept, orderly, size_in, step-accepted, was_open}
use Rattle.derivation.proofs.state.State.branch.Goals as goal

pub branch-self-requires : goal.branch-self-requires
branch-self-requires c =
    let o = c.args.self.now.table in let cs = c.args.coefficients.now in let z = to_z w64 (of_z w64 c.args.right) in
    let b = c.in_ok-row.ensures in
    let f = branch_fits o.size (held_of o).rows cs z o.narrow b.passed in
    let below = ap (λ (r : Row). lt_z r.right (pos right_limit)) b.is ∙ f.1 in
    record { marked = was_open c.args.self.now _ c.in_ok-check_open.ensures; room = f.2; limited = omega (arith, ints, below) }

pub returns : goal.returns
returns c =
    let s = c.args.self.now in let o = s.table in let cs = c.args.coefficients.now in let z = to_z w64 (of_z w64 c.args.right) in
    let b = c.in_ok-row.ensures in let e = to_z-of_z w64 c.args.right c.ranges.right in
    let f = branch_fits o.size (held_of o).rows cs z o.narrow b.passed in
    let open' = was_open s _ c.in_ok-check_open.ensures in
    let t = c.branch-self.new.self in let p = holding_of s in let fixed = c.branch-self.ensures.fixed in
    let row = front_padded o.size c.in_ok-row.row cs z f.0 b.is ∙ ap (λ y. record { coefficients = cs; right = y }) e in
    let clear = sym (ap (λ y. first_fault (branch_checks o.size p.table (record { coefficients = cs; right = y }))) e) ∙ b.passed in
    λ th. record {
      step = step-accepted (job_in s) th p (branch (record { coefficients = cs; right = c.args.right })) (holding_of (changed_to s t s.taken fixed)) (orderly s) open'
          (ap (λ n. first_fault (branch_checks n p.table (record { coefficients = cs; right = c.args.right }))) (size_in s) ∙ clear)
          (holding_is s t s.taken fixed _ c.branch-self.ensures.held
          ∙ ap (λ (r : Row). record { table = p.table ++ r ∷ []; heights = length p.table ∷ p.heights; mark = true; taken = p.taken }) row);
      job = job_kept s t s.taken fixed;
    }
