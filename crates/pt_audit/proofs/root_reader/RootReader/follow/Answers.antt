use Rattle.std.proofs.Common.{refl}
use Rattle.pt_audit.proofs.Following.{other_paced}
use Rattle.pt_audit.proofs.root_reader.RootReader.follow.Goals as goal

pub returns-in_default : goal.returns-in_default
returns-in_default g c = record {
  paced = λ source behind. other_paced source _ c.args.self.now c.args.survey.now c.args.sight c.requires.saw c.in_default.not-Scan c.in_default.not-Opened
      c.in_default.not-Block behind;
  still = record { folder = c.requires.ready.folder; reads = tt };
  root = (g.met.R.Source.is_kept _, refl);
  failures = refl;
}
