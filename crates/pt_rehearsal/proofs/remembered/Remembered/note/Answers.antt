use Rattle.std.proofs.Common.{subst, sym}
use Rattle.pt_rehearsal.specs.Buckets.{HasNoNul}
use Rattle.pt_rehearsal.proofs.Named.{joined_free}
use Rattle.pt_rehearsal.proofs.remembered.Remembered.note.Goals as goal

pub put-requires : goal.put-requires
put-requires c = subst HasNoNul (sym c.requires.text) (joined_free c.args.path.now c.requires.named)
