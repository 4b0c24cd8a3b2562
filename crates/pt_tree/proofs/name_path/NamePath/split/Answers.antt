use Rattle.std.proofs.Common.{◌≡◌, ◌++◌, ◌∷◌, [], ◌∙◌, ap, sym}
use Rattle.pt_tree.specs.Path.{split_path}
use Rattle.pt_tree.proofs.Paths.{split_path-push}
use Rattle.pt_tree.proofs.name_path.NamePath.split.Goals as goal

pub returns : goal.returns
returns c =
    let cases : c.names.result.now ≡ c.in_ok-last.dir.now ++ c.in_ok-last.last.now ∷ [] = c.in_ok-last.ensures.cases.0 in
    let whole : c.args.self.now ≡ c.in_ok-last.dir.now ++ c.in_ok-last.last.now ∷ [] = cc in
    sym (ap split_path whole ∙ split_path-push c.in_ok-last.dir.now c.in_ok-last.last.now)
