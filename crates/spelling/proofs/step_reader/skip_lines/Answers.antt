use Rattle.std.proofs.Common.{◌≡◌, ℕ, suc, ◌+◌, ◌-◌, ◌<◌, List, ap, arith, rules}
use Rattle.fields.specs.Rest.{and_then}
use Rattle.spelling.specs.StepsRead.{after_lines, line_read}
use Rattle.spelling.proofs.step_reader.skip_lines.Goals as goal

-- one line, and then those that are left
next_line : (count i : ℕ) (bytes : List ℕ) → i < count → after_lines (count - i) bytes ≡ and_then (line_read bytes) (λ l. after_lines (count - (i + 1)) l.1)
next_line count i bytes h = let e : count - i ≡ suc (count - (i + 1)) = omega arith in ap (λ k. after_lines k bytes) e

pub returns-in_err-after : goal.returns-in_err-after
returns-in_err-after c = let e = next_line c.args.count c.loop.counter c.loop.rest.now c.loop-test.true in search rules

pub loop-preserved : goal.loop-preserved
loop-preserved c = let e = next_line c.args.count c.loop.counter c.loop.rest.now c.loop-test.true in search rules
