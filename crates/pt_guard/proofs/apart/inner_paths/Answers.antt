use Rattle.pt_guard.proofs.apart.inner_paths.Goals as goal

pub returns : goal.returns
returns c = record {
  tree = c.in_ok-tree.ensures;
  root = c.in_ok-root.ensures;
  staging = c.in_ok-staging.ensures;
}
