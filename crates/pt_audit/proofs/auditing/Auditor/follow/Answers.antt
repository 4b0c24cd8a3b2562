use Rattle.pt_audit.proofs.Pacing.{closed_paced}
use Rattle.pt_audit.proofs.auditing.Auditor.follow.Goals as goal

pub returns-in-Lengths-clause-paced : goal.returns-in-Lengths-clause-paced
returns-in-Lengths-clause-paced g c = λ source behind. closed_paced source _ c.args.self.now.beside _ c.args.self.now.survey c.stay_closed.ensures
