use Rattle.std.proofs.Common.{◌≡◌, ◌++◌, rules, subst, sym}
use Rattle.std.specs.Prelude.{All, IfOk}
use Rattle.pt_audit.proofs.Pacing.{alike_at_hand, alike_there, folder_stands}
use Rattle.pt_audit.proofs.ToldObject.{can_compare, found_at_hand, quick_at_hand}
use Rattle.pt_audit.specs.Auditing.{IsFoundAtHand}
use Rattle.pt_audit.specs.declared.compare_by.CompareBy.{CompareBy}
use Rattle.pt_audit.specs.declared.compare_by.CompareBy.TheVariants.{Bytes, Lengths}
use Rattle.pt_object.specs.Algorithm.{digest_of}
use Rattle.pt_object.specs.declared.rows.Row.{Row}
use Rattle.pt_plan.specs.TurnWalk.{in_pairtree}
use Rattle.pt_state.specs.declared.job.Job as own
use Rattle.pt_tree.specs.Path.{Path}
use Rattle.pt_tree.specs.Source.{CanOpen, tree_in}
use Rattle.pt_walk.specs.Left.{bytes_at}
use Rattle.pt_audit.proofs.auditing.Auditor.compare.Goals as goal

-- ---- by bytes

pub returns-in-Bytes-clause-found : goal.returns-in-Bytes-clause-found
returns-in-Bytes-clause-found g c =
    let source = tree_in (g.S.Source.told c.args.source.now) in
    let root = tree_in (g.R.Source.told c.args.root.now) in
    subst (λ (b : CompareBy). IfOk c.compare.result (IsFoundAtHand b c.args.self.now.survey.state.job c.args.hand.now source root)) (sym c.in-Bytes.is)
    (subst (λ (j : own.Job). IfOk c.compare.result (IsFoundAtHand Bytes j c.args.hand.now source root)) c.job.ensures
    (found_at_hand c.job.result.now c.args.hand.now _ _ _ _ _ c.compare.result (search rules) (search rules) (search rules) c.compare.ensures.found))

pub compare-requires-clause-known : goal.compare-requires-clause-known
compare-requires-clause-known g c = record {
  alike = alike_there _ _ c.args.hand.now c.alike_at.result c.in_ok-from.from c.in_ok-to.to (search rules) (search rules)
      (alike_at_hand _ _ c.args.self.now.beside c.args.self.now.survey c.args.hand.now c.alike_at.result c.requires.at_hand c.requires.hand c.requires.paced
      (search rules));
  stands = λ known. folder_stands _ c.in_ok-to.to c.args.self.now.beside.folder c.has_folder.result c.requires.paced.can.folder c.has_folder.ensures known;
}

pub compare-requires-clause-files : goal.compare-requires-clause-files
compare-requires-clause-files g c =
    let from_is : c.in_ok-from.from ≡ in_pairtree c.args.hand.now.told.at = search rules in
    subst (λ (from : Path). All (λ (row : Row). CanOpen (g.S.Source.told c.args.source.now) (from ++ row.path)) c.args.hand.now.rows.now) (sym from_is)
    (can_compare _ c.args.self.now.survey c.args.hand.now c.requires.at_hand c.requires.paced.under_way c.requires.hand).files

-- ---- by lengths

pub returns-clause-found : goal.returns-clause-found
returns-clause-found g c =
    let source = tree_in (g.S.Source.told c.args.source.now) in
    let root = tree_in (g.R.Source.told c.args.root.now) in
    subst (λ (b : CompareBy). IfOk c.look_over.result (IsFoundAtHand b c.args.self.now.survey.state.job c.args.hand.now source root)) (sym c.in-Lengths.is)
    (subst (λ (j : own.Job). IfOk c.look_over.result (IsFoundAtHand Lengths j c.args.hand.now source root)) c.job.ensures
    (quick_at_hand c.job.result.now c.args.hand.now _ _ _ _ _ c.look_over.result (search rules) (search rules) (search rules) c.look_over.ensures.found))

pub look_over-requires-clause-rows : goal.look_over-requires-clause-rows
look_over-requires-clause-rows g c =
    let rows = c.args.hand.now.rows.now in
    let from_is : c.in_ok-from.from ≡ in_pairtree c.args.hand.now.told.at = search rules in
    let can = can_compare (g.S.Source.told c.args.source.now) c.args.self.now.survey c.args.hand.now c.requires.at_hand c.requires.paced.under_way
    c.requires.hand in
    record {
      contents = can.contents;
      order = can.order;
      digests = λ s e.
          subst (λ (from : Path). All (λ (row : Row). row.digest ≡ digest_of c.job.result.now.algorithm (bytes_at s (from ++ row.path))) rows) (sym from_is)
          (subst (λ (j : own.Job). All (λ (row : Row). row.digest ≡ digest_of j.algorithm (bytes_at s (in_pairtree c.args.hand.now.told.at ++ row.path))) rows)
          (sym c.job.ensures) (can.digests s e));
    }

pub look_over-requires-clause-known : goal.look_over-requires-clause-known
look_over-requires-clause-known g c = record {
  alike = alike_there _ _ c.args.hand.now c.alike_at.result c.in_ok-from.from c.in_ok-to.to (search rules) (search rules)
      (alike_at_hand _ _ c.args.self.now.beside c.args.self.now.survey c.args.hand.now c.alike_at.result c.requires.at_hand c.requires.hand c.requires.paced
      (search rules));
  stands = λ known. folder_stands _ c.in_ok-to.to c.args.self.now.beside.folder c.has_folder.result c.requires.paced.can.folder c.has_folder.ensures known;
}

pub look_over-requires-clause-files : goal.look_over-requires-clause-files
look_over-requires-clause-files g c =
    let from_is : c.in_ok-from.from ≡ in_pairtree c.args.hand.now.told.at = search rules in
    subst (λ (from : Path). All (λ (row : Row). CanOpen (g.S.Source.told c.args.source.now) (from ++ row.path)) c.args.hand.now.rows.now) (sym from_is)
    (can_compare _ c.args.self.now.survey c.args.hand.now c.requires.at_hand c.requires.paced.under_way c.requires.hand).files
