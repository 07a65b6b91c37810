use Rattle.std.proofs.Common.{◌≡◌, ◌-◌}
use Rattle.spelling.specs.StepsRead.{after_lines}
use Rattle.spelling.proofs.step_reader.skip_lines.Given as goal

-- the lines that are left lead on
abbrev pub invariant-loop : goal.invariant-loop
invariant-loop l = after_lines (l.count - l.counter) l.rest ≡ after_lines l.count l.bytes
