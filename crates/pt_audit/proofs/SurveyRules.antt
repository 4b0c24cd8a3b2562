-- What a survey's functions are proved by.
use Rattle.pt_audit.proofs.StepRules.{steps}

pub ruleset survey_rules = (steps)
