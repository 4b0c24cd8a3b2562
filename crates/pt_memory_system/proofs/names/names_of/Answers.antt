use Rattle.std.proofs.Common.{◌∙◌, ◌++◌, ap, sym}
use Rattle.pt_folder.specs.Names.{ended}
use Rattle.pt_memory_system.proofs.Ended.{ended_more}
use Rattle.pt_memory_system.proofs.names.names_of.Goals as goal

pub loop-i-preserved : goal.loop-i-preserved
loop-i-preserved c = record {
  so_far = c.in_ok-add_name.ensures ∙ ap (λ l. l ++ ended c.in-Some.name.now) c.loop-i.invariant.so_far
      ∙ sym (ended_more c.args.listing.now c.loop-i.i _ c.in-Some.ensures);
}
