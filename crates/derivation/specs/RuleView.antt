-- The rule that a known rule stands for.
use Rattle.theories.specs.Meaning.{Rule}
use Rattle.derivation.specs.declared.rule.KnownRule.{KnownRule}

abbrev pub rule_held : KnownRule → Rule
rule_held k = record { premises = k.premises.items; conclusion = k.conclusion }
