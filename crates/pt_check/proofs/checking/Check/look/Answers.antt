use Rattle.std.proofs.Common.{ap, sym, subst, ℕ, List, true, ◌≡◌, ◌+◌, ◌∙◌}
use Rattle.std.proofs.lemmas.Result.{on_ok_weaker}
use Rattle.std.specs.Option.{ForSome}
use Rattle.std.specs.Prelude.{IsSome, Option}
use Rattle.pt_check.specs.Visits.{TellsIf, Where, missing, check_state, tree_by}
use Rattle.pt_check.specs.declared.trouble.Trouble.{Trouble}
use Rattle.pt_plan.specs.Store.{pairtree_root, version_file}
use Rattle.pt_plan.specs.TurnStart.{is_dir_kind, is_file_kind, kind_in}
use Rattle.pt_tree.specs.Forest.{dir_at}
use Rattle.pt_tree.specs.Path.{Path}
use Rattle.pt_check.proofs.Keeping.{keeps_on}
use Rattle.pt_check.proofs.Stepping.{looked}
use Rattle.pt_check.proofs.Visiting.{root_stands}
use Rattle.pt_check.proofs.checking.Check.look.Goals as goal

pub visit-requires : goal.visit-requires
visit-requires g c =
    let named : kind_in c.args.listing.now c.as_bytes-2.result.now ≡ kind_in c.args.listing.now pairtree_root =
    ap (λ (n : List ℕ). kind_in c.args.listing.now n) (c.as_bytes-2.ensures.value ∙ c.text-2.ensures) in
    let is : is_dir_kind (kind_in c.args.listing.now pairtree_root) ≡ true = sym (c.if-is_dir.ensures ∙ ap is_dir_kind (c.kind_in-2.ensures ∙ named)) in
    subst (λ (p : Path). ForSome (tree_by g.S.Source.told c.tell_own.new.self) (λ tree. IsSome (dir_at tree p))) (sym c.in_ok-root.ensures)
    (root_stands (tree_by g.S.Source.told c.args.self.now) (tree_by g.S.Source.told c.tell_own.new.self) c.args.listing.now pairtree_root c.requires is
    c.tell_own.ensures.keeps.tree)

pub returns-then-is_dir-clause-looked : goal.returns-then-is_dir-clause-looked
returns-then-is_dir-clause-looked g c =
    let named : kind_in c.args.listing.now c.as_bytes-2.result.now ≡ kind_in c.args.listing.now pairtree_root =
    ap (λ (n : List ℕ). kind_in c.args.listing.now n) (c.as_bytes-2.ensures.value ∙ c.text-2.ensures) in
    let is : is_dir_kind (kind_in c.args.listing.now pairtree_root) ≡ true = sym (c.if-is_dir.ensures ∙ ap is_dir_kind (c.kind_in-2.ensures ∙ named)) in
    let marks : kind_in c.args.listing.now c.as_bytes.result.now ≡ kind_in c.args.listing.now version_file =
    ap (λ (n : List ℕ). kind_in c.args.listing.now n) (c.as_bytes.ensures.value ∙ c.text.ensures) in
    let marked : c.is_file-marked.result ≡ is_file_kind (kind_in c.args.listing.now version_file) = c.is_file-marked.ensures
    ∙ ap is_file_kind (c.kind_in.ensures ∙ marks) in
    let lacks : c.missing.result ≡ missing (is_file_kind (kind_in c.args.listing.now version_file)) = c.missing.ensures ∙ ap missing marked in
    let left : c.depth.result + 1 ≡ 601 = ap (λ (n : ℕ). n + 1) (c.depth.ensures.value ∙ ap (λ l. l.depth) c.greatest.ensures) in
    let a = check_state g.S.Source g.L.Log c.args.self.now in
    let m = check_state g.S.Source g.L.Log c.tell_own.new.self in
    let b = check_state g.S.Source g.L.Log c.visit.new.self in
    let tells : Where c.args.own (TellsIf c.in_ok-version.version (missing (is_file_kind (kind_in c.args.listing.now version_file)))) a m =
    subst (λ (o : Option Trouble). Where c.args.own (TellsIf c.in_ok-version.version o) a m) lacks c.in_ok-tell_own.ensures.told in
    on_ok_weaker c.visit.result
    (looked g.E.Explains.says c.args.own c.args.self.now.share c.tell_own.new.self.share (tree_by g.S.Source.told c.args.self.now)
    (tree_by g.S.Source.told c.tell_own.new.self) c.args.self.now.wants
    c.tell_own.new.self.wants c.args.prefix.now c.args.listing.now c.in_ok-version.version
    c.in_ok-root.root (c.depth.result + 1) a m b c.requires c.in_ok-version.ensures c.in_ok-root.ensures left tells is c.tell_own.ensures.keeps.tree
    c.tell_own.ensures.keeps.wants c.tell_own.ensures.keeps.share) c.visit.ensures.visited

pub returns-then-is_dir-clause-keeps : goal.returns-then-is_dir-clause-keeps
returns-then-is_dir-clause-keeps g c = keeps_on g.S.Source g.L.Log g.met.S.Source.keeps_on g.met.L.Log.keeps_on _ _ _ c.tell_own.ensures.keeps
    c.visit.ensures.keeps

pub returns-clause-keeps : goal.returns-clause-keeps
returns-clause-keeps g c = keeps_on g.S.Source g.L.Log g.met.S.Source.keeps_on g.met.L.Log.keeps_on _ _ _ c.tell_own.ensures.keeps
    c.tell_own-else-is_dir.ensures.keeps
