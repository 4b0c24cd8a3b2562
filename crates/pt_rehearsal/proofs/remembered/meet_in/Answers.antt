use Rattle.std.proofs.Common.{subst, sym}
use Rattle.pt_rehearsal.specs.Buckets.{HasNoNul}
use Rattle.pt_rehearsal.proofs.Named.{name_free}
use Rattle.pt_rehearsal.proofs.remembered.meet_in.Goals as goal

pub put-requires : goal.put-requires
put-requires c = subst HasNoNul (sym c.bytes-in-len2.ensures.bytes) (name_free c.name-item.result c.bytes-in-len2.ensures.name)
