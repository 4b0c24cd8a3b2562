use Rattle.std.proofs.Common.{ap, ◌∙◌}
use Rattle.pt_tree.specs.Listing.{can_follow}
use Rattle.pt_memory.specs.Entries.{forest_of}
use Rattle.pt_memory.proofs.Listed.{can_follow-first, goes_on}
use Rattle.pt_tree.proofs.Rising.{refused_late}
use Rattle.pt_memory.proofs.entries.list.Goals as goal

pub unreachable-requires : goal.unreachable-requires
unreachable-requires c =
    let follows = can_follow-first (forest_of c.args.entries.now) (forest_of c.loop-name.rest.now) (forest_of c.in-Some.after.now) c.loop-name.listing
    c.in-Some.name.now c.in-Some.kind c.requires c.loop-name.invariant c.in-Some.ensures in
    refused_late c.loop-name.listing c.in_ok-copy.field-0 _ _ (ap (can_follow c.loop-name.listing) c.in_ok-copy.ensures.bytes ∙ follows)
    c.in-Err-NotRising.field-0-is c.in-Err-NotRising.ensures.answer

pub loop-name-preserved : goal.loop-name-preserved
loop-name-preserved c =
    let follows = can_follow-first (forest_of c.args.entries.now) (forest_of c.loop-name.rest.now) (forest_of c.in-Some.after.now) c.loop-name.listing
    c.in-Some.name.now c.in-Some.kind c.requires c.loop-name.invariant c.in-Some.ensures in
    goes_on (forest_of c.args.entries.now) (forest_of c.loop-name.rest.now) (forest_of c.in-Some.after.now) c.loop-name.listing c.add.new.self
    c.in-Some.name.now c.in_ok-copy.field-0 c.in-Some.kind _ _ c.in_ok-copy.ensures.bytes follows c.loop-name.invariant c.in-Some.ensures
    c.in-Ok.ensures.answer
