use Rattle.std.proofs.Common.{◌≡◌, true, rules}
use Rattle.pt_tree.specs.Listing.{can_follow}
use Rattle.pt_tree.proofs.Rising.{names_rise-push}
use Rattle.pt_tree.proofs.listing.Listing.add.Goals as goal
use Rattle.pt_tree.proofs.listing.Listing.add.Goals.{in-Ok, in-Err}

pub invariant_of-self : goal.invariant_of-self
invariant_of-self c =
    let follows : can_follow c.self.inside.items.items c.args.name ≡ true = search rules in
    elim c.match-push.branch [
      | in-Ok w ↦ rw w.in-Ok.ensures.items (names_rise-push c.self.inside.items.items c.args.name c.args.kind c.self.invariant follows)
      | in-Err w ↦ rw w.in-Err.ensures.items c.self.invariant
    ]
