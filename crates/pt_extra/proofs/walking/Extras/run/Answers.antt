use Rattle.std.proofs.Common.{ap, subst, sym, ℕ, ◌+◌, ◌≡◌, ◌∙◌, List, []}
use Rattle.std.specs.Prelude.{IsSome, Option}
use Rattle.pt_extra.proofs.Keeping.{at_err}
use Rattle.pt_extra.proofs.Past.{front_past_from, past_from}
use Rattle.pt_extra.proofs.Roots.{told_all, told_no_root, told_of_root}
use Rattle.pt_extra.proofs.Telling.{front_none, puts_none}
use Rattle.pt_extra.proofs.Tops.{dir_top}
use Rattle.pt_extra.specs.Lines.{texts}
use Rattle.pt_extra.specs.Unlisted.{IsToldIn}
use Rattle.pt_state.specs.declared.job.Job.{Job}
use Rattle.pt_extra.specs.Walk.{IsToldBelow, Puts, RootFails, WalkState, against, found_in, walk_state}
use Rattle.pt_object.specs.WellKnown.{known_text}
use Rattle.pt_object.specs.declared.well_known.WellKnownName.TheVariants as known
use Rattle.pt_plan.specs.TurnWalk.{in_root}
use Rattle.pt_tree.specs.Failures.{HasRisen}
use Rattle.pt_tree.specs.Forest.{dir_at}
use Rattle.pt_tree.specs.Log.{AppendsFront}
use Rattle.pt_tree.specs.Path.{Path}
use Rattle.pt_extra.proofs.walking.Extras.run.Goals as goal

pub returns-then-not-branch-clause-told : goal.returns-then-not-branch-clause-told
returns-then-not-branch-clause-told g c = λ s is r there.
    let old = c.args.self.now in
    let still : walk_state g.L.Log c.has_root.new.self ≡ walk_state g.L.Log old = ap (walk_state g.L.Log) c.has_root.ensures.rest in (
      [],
      told_no_root (RootFails g.R.Source old c.has_root.new.self) (against old s) r (sym (c.in_ok-has_root.ensures.has r there) ∙ c.if-not-branch.true),
      subst (λ (a : WalkState). Puts [] (walk_state g.L.Log old) a) (sym still) (puts_none (walk_state g.L.Log old)),
    )

pub visit-requires : goal.visit-requires
visit-requires g c = λ tree told.
    subst (λ (p : Path). IsSome (dir_at tree (in_root p))) (sym c.new-top.ensures)
    (dir_top tree (known_text known.StorageRoot) (sym (c.in_ok-has_root.ensures.has tree (sym c.has_root.ensures.keeps.root_stays.1 ∙ told))
    ∙ c.if-not-branch.false))

pub returns-clause-told : goal.returns-clause-told
returns-clause-told g c = λ s is r there.
    let old = c.args.self.now in
    let mid = c.has_root.new.self in
    let top = c.new-top.result in
    let still : walk_state g.L.Log mid ≡ walk_state g.L.Log old = ap (walk_state g.L.Log) c.has_root.ensures.rest in
    let stands = sym (c.in_ok-has_root.ensures.has r there) ∙ c.if-not-branch.false in
    let left_is : c.count.result + 1 ≡ old.job.layout.count + 1 =
    ap (λ (n : ℕ). n + 1) (c.count.ensures.count ∙ ap (λ (j : Job). j.layout.count) c.has_root.ensures.keeps.job) in
    let same : g.R.Source.failed mid.root ≡ g.R.Source.failed old.root = ap (λ f. f.dest) c.in_ok-has_root.ensures.fails in
    let of_it = past_from g.S.Source g.R.Source g.L.Log (IsToldBelow top (c.count.result + 1)) old mid c.visit.new.self c.has_root.ensures.keeps
    c.in_ok-visit.ensures.told s is r there in (
      of_it.0,
      subst (λ (n : ℕ). IsToldIn (HasRisen n (g.R.Source.failed c.visit.new.self.root)) (against old s) r of_it.0) same
          (told_of_root (RootFails g.R.Source mid c.visit.new.self) (against old s) r top (c.count.result + 1) of_it.0 stands c.new-top.ensures left_is
          of_it.1),
      subst (λ (a : WalkState). Puts of_it.0 a (walk_state g.L.Log c.visit.new.self)) still of_it.2,
    )

pub returns-in_err-has_root-clause-stops : goal.returns-in_err-has_root-clause-stops
returns-in_err-has_root-clause-stops g c =
    let old = c.args.self.now in
    let mid = c.has_root.new.self in
    at_err c.from_residual.result
    (λ s is r there. (
      found_in (against old s) r,
      told_all (RootFails g.R.Source old mid) (against old s) r,
      subst (λ (l : Option (List ℕ)). AppendsFront (g.L.Log.told old.log) l (texts (found_in (against old s) r)))
          (sym (ap (λ w. g.L.Log.told w.log) c.has_root.ensures.rest)) (front_none (g.L.Log.told old.log) (texts (found_in (against old s) r))),
    ))

pub returns-in_err-visit-clause-stops : goal.returns-in_err-visit-clause-stops
returns-in_err-visit-clause-stops g c =
    let old = c.args.self.now in
    let mid = c.has_root.new.self in
    let top = c.new-top.result in
    let left_is : c.count.result + 1 ≡ old.job.layout.count + 1 =
    ap (λ (n : ℕ). n + 1) (c.count.ensures.count ∙ ap (λ (j : Job). j.layout.count) c.has_root.ensures.keeps.job) in
    let same : g.R.Source.failed mid.root ≡ g.R.Source.failed old.root = ap (λ f. f.dest) c.in_ok-has_root.ensures.fails in
    at_err c.from_residual-in_err-visit.result
    (λ s is r there.
    let stands = sym (c.in_ok-has_root.ensures.has r there) ∙ c.if-not-branch.false in
    let of_it = front_past_from g.S.Source g.R.Source g.L.Log (IsToldBelow top (c.count.result + 1)) old mid c.visit.new.self c.has_root.ensures.keeps
    c.in_err-visit.ensures.stops s is r there in (
      of_it.0,
      subst (λ (n : ℕ). IsToldIn (HasRisen n (g.R.Source.failed c.visit.new.self.root)) (against old s) r of_it.0) same
          (told_of_root (RootFails g.R.Source mid c.visit.new.self) (against old s) r top (c.count.result + 1) of_it.0 stands c.new-top.ensures left_is
          of_it.1),
      subst (λ (l : Option (List ℕ)). AppendsFront l (g.L.Log.told c.visit.new.self.log) (texts of_it.0))
          (ap (λ w. g.L.Log.told w.log) c.has_root.ensures.rest) of_it.2,
    ))
