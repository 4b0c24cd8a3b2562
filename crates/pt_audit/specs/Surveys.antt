-- What a survey is made of: a further field, which might hold content or text, would have to stand here.
use Rattle.pt_move.specs.Running.{Running}
use Rattle.pt_audit.specs.declared.survey.Survey.TheInside.{Inside}

-- the survey that is seen so: its phase and its state, and nothing else
abbrev pub survey_of : Running → Inside
survey_of r = record { phase = r.phase; state = r.state }
